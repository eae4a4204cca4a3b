-- `text::numbers::number` meets its contract. Assumes nothing.
use mathlib.Core.Path.{◌∙◌}
use native.Mathlib.Omega.{arith}
use Rattle.spelling.proofs.NumberLaws.{minus_within, spelled_minus, plus_within, spelled_plus}
use Rattle.spelling.proofs.LineLaws.{rest_is}
use Rattle.text.proofs.numbers.number.Goals as goal

pub returns-in-45 : goal.returns-in-45
returns-in-45 c = c.negative.ensures ∙ (rw (c.magnitude.ensures, rest_is c.args.s.now 1, minus_within) (spelled_minus _ (omega arith) (omega arith)))

pub returns-in_default : goal.returns-in_default
returns-in_default c = c.positive.ensures ∙ (rw (c.magnitude-in_default.ensures, plus_within) (spelled_plus _ (λ h e. grind arith)))
