-- `text::numbers::digits_of` meets its contract. Assumes nothing.
use mathlib.Core.Path.{◌≡◌}
use lib.ListN.{drop}
use Rattle.spelling.specs.Numbers.{digits_from, within}
use Rattle.text.proofs.numbers.digits_of.Given as goal

abbrev pub invariant-loop-b : goal.invariant-loop-b
invariant-loop-b l = within (digits_from 0 l.s) ≡ within (digits_from l.v (drop l.b-index l.s))
