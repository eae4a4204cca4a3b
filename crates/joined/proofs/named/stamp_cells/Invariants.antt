-- `joined::named::stamp_cells` meets its contract. Assumes nothing.
use Rattle.resting.specs.Named.{stamp_cells}
use mathlib.Core.Path.{◌≡◌}
use Prim.Native.Nat.{◌+◌, ◌-◌}
use lib.ListN.{length}
use Rattle.joined.proofs.named.stamp_cells.Given as goal

abbrev pub invariant-loop-i : goal.invariant-loop-i
invariant-loop-i l = (stamp_cells l.cells l.fn.seen l.v l.start l.n ≡ stamp_cells l.cells l.seen l.v l.i (l.start + l.n - l.i)) × (length l.seen ≡ length l.initial.seen)
