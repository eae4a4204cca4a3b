-- `operations::runs::flush` meets its contract. Assumes nothing.
use mathlib.Core.Path.{◌≡◌}
use Prim.Native.Nat.{◌*◌, ◌-◌, ◌≤◌}
use lib.ListN.{length}
use Rattle.primitive.specs.Words.{node_rows}
use Rattle.reading.specs.Tables.{state}
use Rattle.operating.specs.Log.{ran_to}
use Rattle.operating.specs.Runs.{flushed_from}
use Rattle.operations.proofs.runs.flush.Given as goal

abbrev pub invariant-loop-i : goal.invariant-loop-i
invariant-loop-i l = record {
  lens : (length l.nodes ≡ length l.initial.nodes) × (length l.links ≡ length l.initial.links) × (length l.values ≡ length l.initial.values) × (length l.log ≡ length l.initial.log);
  fit : l.rows * 2 ≤ length l.log;
  same : flushed_from l.cells (node_rows l.initial.nodes - l.i) l.i (ran_to (state l.nodes l.links l.values) l.log l.rows) ≡ flushed_from l.cells (node_rows l.initial.nodes) 0 (ran_to (state l.initial.nodes l.initial.links l.initial.values) l.initial.log 0);
}

abbrev pub decreases-loop-i : goal.decreases-loop-i
decreases-loop-i l = node_rows l.initial.nodes - l.i
