-- The cells of a node's formula, and what they name, by what the code finds on its way. Assumes nothing.
use Rattle.std.specs.Prelude.{Option, Some, None}
use Rattle.std.specs.List.{list_all}
use mathlib.Core.Path.{◌≡◌, refl, ap, ◌∙◌}
use mathlib.Core.Bool.{Bool, true, false, ◌&&◌}
use mathlib.Core.List.{List, [], ◌∷◌}
use Prim.Native.Nat.{ℕ, ◌+◌, ◌*◌, ◌-◌, ◌/◌, ◌<◌, ◌≤◌}
use native.Mathlib.Omega.{arith}
use lib.IntN.{ℤ}
use lib.ListN.{length, take, drop}
use borrow.Author.Tests.{le-leb, lt-leb}
use Rattle.primitive.specs.Rows.{field}
use Rattle.trees.specs.declared.cells.Cell.{Cell}
use Rattle.trees.specs.Cells.{name_of, cell_at, or_else}
use Rattle.trees.specs.Names.{named, all_named}
use Rattle.trees.proofs.ScanLaws.{named_turns, named_done}
use Rattle.telling.specs.Formulas.{lower_rank, own_cells, all_lower, reads_lower, cell_lower}

module _ (nodes : List ℕ) (used : List ℤ) (n : ℕ) {start count : ℕ} (s : start ≡ field 16 nodes n 7) (k : count ≡ field 16 nodes n 8) where
  pub own_out : length used / 2 < start + count → [] ≡ own_cells nodes used n
  unfolding own_cells
  own_out h = rw (← s, ← k, lt-leb (start + count) (length used / 2) h, own_cells)

  pub own_in : start + count ≤ length used / 2 → take ((start + count) * 2 - start * 2) (drop (start * 2) used) ≡ own_cells nodes used n
  unfolding own_cells
  own_in h =
      let m : (start + count) * 2 - start * 2 ≡ count * 2 = omega arith in
      rw (m, ← s, ← k, le-leb (start + count) (length used / 2) h, own_cells, ← s, ← k)

-- the chain of the code
pub lower_all : (n : ℕ) (ms : List ℕ) → list_all (λ m. lower_rank m n) ms ≡ all_lower ms n
unfolding all_lower
lower_all n [] = refl
lower_all n (m ∷ ms) = ap (λ (b : Bool). lower_rank m n && b) (lower_all n ms)

-- one turn of the scan from cell i on: the cell at hand and the rest
module _ (ws : List ℤ) (n : ℕ) where
  pub lower_start : all_lower (named ws (length ws / 2 - 0) 0) n ≡ reads_lower ws n
  unfolding reads_lower all_named
  lower_start = let z : length ws / 2 - 0 ≡ length ws / 2 = omega arith in rw z

  lower_turns : (i : ℕ) → i < length ws / 2
      → all_lower (named ws (length ws / 2 - i) i) n ≡ (cell_lower n (cell_at ws i) && all_lower (named ws (length ws / 2 - (i + 1)) (i + 1)) n)
  unfolding cell_lower all_lower
  lower_turns i h = ap (λ (ms : List ℕ). all_lower ms n) (named_turns ws i h) ∙ go (name_of (cell_at ws i)) _
    where
      go : (x : Option ℕ) (ms : List ℕ) → all_lower (or_else x ms (λ (m : ℕ). m ∷ ms)) n ≡ (or_else x true (λ (m : ℕ). lower_rank m n) && all_lower ms n)
      go None ms = refl
      go (Some m) ms = refl

  module _ (i : ℕ) {c : Cell} {r : Bool} (h : i < length ws / 2) (e : c ≡ cell_at ws i) (f : r ≡ cell_lower n c) where
    pub lower_false : r ≡ false → false ≡ all_lower (named ws (length ws / 2 - i) i) n
    lower_false g = rw (lower_turns i h, ← e, ← f, g)

    pub lower_true : r ≡ true → all_lower (named ws (length ws / 2 - (i + 1)) (i + 1)) n ≡ all_lower (named ws (length ws / 2 - i) i) n
    lower_true g = rw (lower_turns i h, ← e, ← f, g)

  pub lower_done : (i : ℕ) → length ws / 2 ≤ i → all_lower (named ws (length ws / 2 - i) i) n ≡ true
  unfolding all_lower
  lower_done i h = ap (λ (ms : List ℕ). all_lower ms n) (named_done ws i h)
