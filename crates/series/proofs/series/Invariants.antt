-- `series::series` meets its contract. Assumes nothing.
use mathlib.Core.Path.{◌≡◌}
use Prim.Native.Nat.{◌*◌, ◌-◌, ◌≤◌}
use lib.ListN.{length}
use Rattle.commanding.specs.Tables.{well_formed_in}
use Rattle.sequencing.specs.Series.{going, series_from}
use Rattle.series.proofs.series.Given as goal

abbrev pub invariant-loop-used : goal.invariant-loop-used
invariant-loop-used l = record {
  lens : (length l.nodes ≡ length l.initial.nodes) × (length l.links ≡ length l.initial.links) × (length l.values ≡ length l.initial.values) × (length l.cells ≡ length l.initial.cells) × (length l.rows ≡ length l.initial.rows) × (length l.answers ≡ length l.initial.answers);
  formed : l.formed ≡ well_formed_in l.nodes l.links l.values l.cells;
  low : l.done ≤ l.used;
  inside : l.used ≤ length l.list;
  rows_fit : l.ran * 2 ≤ length l.rows;
  answers_fit : l.done * 3 ≤ length l.answers;
  same : series_from (length l.list - l.done) l.list (going l.nodes l.links l.values l.cells l.rows l.answers l.used l.done l.ran) ≡ series_from (length l.list) l.list (going l.initial.nodes l.initial.links l.initial.values l.initial.cells l.initial.rows l.initial.answers 0 0 0);
}

abbrev pub decreases-loop-used : goal.decreases-loop-used
decreases-loop-used l = length l.list - l.used
