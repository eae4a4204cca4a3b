-- `text::lines::command_line` meets its contract. Assumes nothing.
use mathlib.Core.Path.{ap, ◌∙◌}
use Rattle.spelling.specs.Numbers.{spelled}
use Rattle.spelling.proofs.LineLaws.{command_keyed, command_unkeyed}
use Rattle.text.proofs.lines.command_line.Goals as goal

pub returns-in_err-strip_prefix : goal.returns-in_err-strip_prefix
returns-in_err-strip_prefix c = c.from_residual.ensures ∙ command_unkeyed _ c.in_err-strip_prefix.ensures.cases

pub returns : goal.returns
returns c = c.number.ensures ∙ ap spelled c.in_ok-strip_prefix.ensures.cases.1 ∙ command_keyed _ c.in_ok-strip_prefix.ensures.cases.0
