-- `joined::linked::frees` meets its contract. Assumes nothing.
use Rattle.resting.specs.Linked.{frees}
use mathlib.Core.Path.{◌≡◌}
use Rattle.joined.proofs.linked.frees.Given as goal

abbrev pub invariant-loop-x : goal.invariant-loop-x
invariant-loop-x l = frees l.links l.initial.left l.initial.at ≡ frees l.links l.left l.at

abbrev pub decreases-loop-x : goal.decreases-loop-x
decreases-loop-x l = l.left
