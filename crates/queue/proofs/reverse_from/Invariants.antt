-- `queue::reverse_from` meets its contract. The loop's invariant: to reverse what is left gives the same as to reverse all of it;
-- the length stays, and hi is at most the length. The measure is hi. Assumes nothing.
use mathlib.Core.Path.{◌≡◌}
use Prim.Native.Nat.{◌≤◌}
use lib.ListN.{length}
use Rattle.queue.specs.Queue.{reversed}
use Rattle.queue.proofs.reverse_from.Given as goal

abbrev pub invariant-loop-lo : goal.invariant-loop-lo
invariant-loop-lo l = (reversed l.initial.nodes l.initial.lo l.initial.hi ≡ reversed l.nodes l.lo l.hi) × (length l.nodes ≡ length l.initial.nodes) × (l.hi ≤ length l.initial.nodes)

abbrev pub decreases-loop-lo : goal.decreases-loop-lo
decreases-loop-lo l = l.hi
