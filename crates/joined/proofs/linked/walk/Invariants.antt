-- `joined::linked::walk` meets its contract. Assumes nothing.
use Rattle.resting.specs.Linked.{walk}
use mathlib.Core.Path.{◌≡◌}
use Rattle.joined.proofs.linked.walk.Given as goal

abbrev pub invariant-loop-x : goal.invariant-loop-x
invariant-loop-x l = walk l.links l.side l.n l.tail l.initial.left 0 l.initial.at ≡ walk l.links l.side l.n l.tail l.left l.p l.at

abbrev pub decreases-loop-x : goal.decreases-loop-x
decreases-loop-x l = l.left
