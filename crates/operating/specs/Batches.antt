-- Batches: the depth is a word of row 0 of the node table.
use Rattle.std.specs.Prelude.{ℕ, suc, ◌-◌, true, false, List, eqb, ltb, ℤ, get_or, set}
use Rattle.primitive.specs.Words.{DEPTH}
use Rattle.reading.specs.Tables.{State, state}
use Rattle.operating.specs.Log.{Ran, ran_to}
use Rattle.operating.specs.Runs.{flushed}

abbrev pub most_depth : ℕ
most_depth = 64

abbrev pub depth_of : List ℕ → ℕ
depth_of N = get_or N DEPTH 0

-- one batch more, up to the greatest depth
unfoldable pub started : List ℕ → List ℕ
started N = elim (ltb (depth_of N) most_depth) [ true ↦ set N DEPTH (suc (depth_of N)) | false ↦ N ]

-- only at depth 0
unfoldable pub flushed_at : List ℤ → State → List ℤ → ℕ → Ran
flushed_at ws s l d = elim (eqb d 0) [ true ↦ flushed ws s l | false ↦ ran_to s l 0 ]

-- one batch less, where there is one; the end of the outermost flushes
unfoldable pub ended_batch : List ℤ → State → List ℤ → Ran
ended_batch ws s l =
    let d = depth_of s.nodes in
    elim (eqb d 0) [
      | true ↦ ran_to s l 0
      | false ↦ flushed_at ws (state (set s.nodes DEPTH (d - 1)) s.links s.values) l (d - 1)
    ]
