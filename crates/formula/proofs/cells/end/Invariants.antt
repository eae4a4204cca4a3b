-- `formula::cells::end` meets its contract. Assumes nothing.
use mathlib.Core.Path.{◌≡◌}
use Rattle.trees.specs.Cells.{settled, end_of}
use Prim.Native.Nat.{◌+◌, ◌*◌, ◌-◌, ◌/◌, ◌≤◌}
use lib.ListN.{length}
use Rattle.formula.proofs.cells.end.Given as goal

abbrev pub invariant-loop-owed : goal.invariant-loop-owed
invariant-loop-owed l = (l.i ≤ l.at) × (l.owed ≤ 1 + 2 * (l.at - l.i)) × (settled l.cells (length l.cells / 2 - l.at) l.owed l.at ≡ end_of l.cells l.i)

abbrev pub decreases-loop-owed : goal.decreases-loop-owed
decreases-loop-owed l = length l.cells / 2 - l.at
