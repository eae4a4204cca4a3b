-- `joined::queued::scan` meets its contract. Assumes nothing.
use Rattle.joined.proofs.QueueTurns.{left_of}
use mathlib.Core.Path.{◌≡◌}
use Prim.Native.Nat.{◌-◌}
use lib.ListN.{length}
use Rattle.joined.proofs.queued.scan.Given as goal

abbrev pub invariant-loop-i : goal.invariant-loop-i
invariant-loop-i l = (left_of l.nodes l.initial.seen l.initial.i (l.n - l.initial.i) l.initial.left ≡ left_of l.nodes l.seen l.i (l.n - l.i) l.left) × (length l.seen ≡ length l.initial.seen)
