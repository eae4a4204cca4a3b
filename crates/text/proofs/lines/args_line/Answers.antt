-- `text::lines::args_line` meets its contract. Assumes nothing.
use mathlib.Core.Path.{sym, ap, ◌∙◌}
use native.Mathlib.Omega.{arith}
use Rattle.spelling.specs.Pairs.{count_from}
use Rattle.spelling.proofs.LineLaws.{args_none, args_some, args_unkeyed}
use Rattle.text.proofs.lines.args_line.Goals as goal

pub returns-in_err-rest : goal.returns-in_err-rest
returns-in_err-rest c = c.from_residual.ensures ∙ args_unkeyed _ c.in_err-rest.ensures.cases

pub returns-in-empty : goal.returns-in-empty
returns-in-empty c = args_none _ c.in_ok-rest.ensures.cases.0 _ c.in_ok-rest.ensures.cases.1 (omega arith)

pub returns-in_default : goal.returns-in_default
returns-in_default c = c.count_of.ensures ∙ ap (count_from 0) (sym (args_some _ c.in_ok-rest.ensures.cases.0 _ c.in_ok-rest.ensures.cases.1 (omega arith)))
