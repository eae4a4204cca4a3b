-- Document 01, "Flags and tables at rest": a node's read cells name only what it may depend on, and formulas keep the limits.
use Rattle.std.specs.Prelude.{Bool, true, false, ◌&&◌, List, [], ◌∷◌, ℕ, ◌+◌, ◌*◌, ◌/◌, eqb, leb, ltb, ℤ, length, take, drop}
use Rattle.primitive.specs.Words.{START, CELLS, READS, node}
use Rattle.trees.specs.declared.cells.Cell.{Cell}
use Rattle.trees.specs.Cells.{name_of, or_else}
use Rattle.trees.specs.Legal.{legal_in}
use Rattle.trees.specs.Names.{all_named, read_cells}

-- the place of a node in the order of dependency: today its number
abbrev pub rank_of : ℕ → ℕ
rank_of n = n

unfoldable pub lower_rank : ℕ → ℕ → Bool
lower_rank m n = ltb (rank_of m) (rank_of n)

-- the cells of node n's formula, of the cells in use; none where they do not lie among these
unfoldable pub own_cells : List ℕ → List ℤ → ℕ → List ℤ
own_cells nodes used n =
    elim (leb (node nodes n START + node nodes n CELLS) (length used / 2)) [
      | true ↦ take (node nodes n CELLS * 2) (drop (node nodes n START * 2) used)
      | false ↦ []
    ]

unfoldable pub all_lower : List ℕ → ℕ → Bool
all_lower [] n = true
all_lower (m ∷ ms) n = lower_rank m n && all_lower ms n

-- every read cell names a node of lower rank than n
unfoldable pub reads_lower : List ℤ → ℕ → Bool
reads_lower ws n = all_lower (all_named ws) n

-- the words are a formula that node n may have, with the number of read cells that its row says; no cells are no formula
unfoldable pub formula_in : List ℕ → List ℤ → ℕ → Bool
formula_in nodes ws n = legal_in nodes ws && (reads_lower ws n && eqb (node nodes n READS) (read_cells ws))

-- ---- one turn of the scan
unfoldable pub cell_lower : ℕ → Cell → Bool
cell_lower n c = or_else (name_of c) true (λ (m : ℕ). lower_rank m n)
