-- The stamps, one cell and one node at a time. Assumes nothing.
use Rattle.std.specs.Prelude.{Option, Some, None}
use mathlib.Core.Path.{◌≡◌, refl, sym, ap, ◌∙◌}
use mathlib.Core.Bool.{true, false}
use mathlib.Core.List.{List, [], ◌∷◌}
use Prim.Native.Nat.{ℕ, zero, suc, ◌+◌, ◌-◌, ◌/◌, ◌<◌, ◌≤◌}
use native.Mathlib.Omega.{arith}
use native.Mathlib.Numerals.{add-one}
use lib.IntN.{ℤ}
use lib.ListN.{length, set}
use Rattle.primitive.specs.Rows.{field}
use Rattle.trees.specs.Cells.{name_of, cell_at, or_else}
use Rattle.trees.specs.Names.{named}
use Rattle.trees.proofs.CellLaws.{cell_out}
use Rattle.trees.specs.Legal.{readable_in}
use Rattle.lists.specs.Each.{tally}
use Rattle.lists.specs.Once.{stamp}
use Rattle.lists.proofs.SumLaws.{bit_le}
use Rattle.resting.specs.Depends.{reads_kind}
use Rattle.counting.specs.Counts.{counted_in, slot_room}
use Rattle.resting.specs.Named.{is_read_link, reads_from, names_of, stamp_cell, stamp_cells, stamp_node, links_stamped, named_from}

pub read_most : (t l : List ℕ) (x r : ℕ) → r ≡ is_read_link t l x → r ≤ 1
unfolding is_read_link
read_most t l x r e = omega (arith, e, bit_le (readable_in t (field 8 l x 1)))

-- the read links from a link on are that link, if it is one, and those behind it
pub read_first : (t l : List ℕ) (w x b : ℕ) → slot_room l ≡ suc b → w ≡ suc x
    → reads_from t l w ≡ is_read_link t l x + tally (λ (y : ℕ). field 8 l y 6) (λ (y : ℕ). readable_in t (field 8 l y 1)) b (field 8 l x 6)
unfolding reads_from is_read_link tally
read_first t l w x b e f = rw (e, f)

module _ (c : List ℤ) (s : List ℕ) (v i : ℕ) where
  pub cell_none : {r : Option ℕ} → r ≡ name_of (cell_at c i) → r ≡ None → s ≡ stamp_cell c s v i
  unfolding stamp_cell named stamp
  cell_none e f = rw (sym e ∙ f)

  pub cell_some : (u : List ℕ) (m : ℕ) {r : Option ℕ} → r ≡ name_of (cell_at c i) → r ≡ Some m → u ≡ set s m v → u ≡ stamp_cell c s v i
  unfolding stamp_cell named stamp
  cell_some u m e f g = rw (sym e ∙ f) g

  pub cells_turn : (u : List ℕ) (k m : ℕ) → k ≡ suc m → u ≡ stamp_cell c s v i → stamp_cells c s v i k ≡ stamp_cells c u v (i + 1) m
  unfolding stamp_cells stamp_cell named stamp
  cells_turn u k m h e = rw (h, e, add-one) (at (name_of (cell_at c i)) (named c m (suc i)))
    where
      at : (x : Option ℕ) (ns : List ℕ) → stamp s v (or_else x ns (λ (n : ℕ). n ∷ ns)) ≡ stamp (stamp s v (or_else x [] (λ (n : ℕ). n ∷ []))) v ns
      at None ns = refl
      at (Some n) ns = refl

-- past the end no cell names anything
past : (c : List ℤ) (k i : ℕ) → length c / 2 ≤ i → named c k i ≡ []
unfolding named name_of
past c zero i h = refl
past c (suc k) i h = rw (← cell_out c i h) (past c k (suc i) (omega arith))

pub cells_done : (c : List ℤ) (s : List ℕ) (v i k : ℕ) → (0 < k → length c / 2 ≤ i) → stamp_cells c s v i k ≡ s
unfolding stamp_cells named stamp
cells_done c s v i zero h = refl
cells_done c s v i (suc k) h = ap (stamp s v) (past c (suc k) i (h (omega arith)))

module _ (t : List ℕ) (c : List ℤ) (s : List ℕ) (n v : ℕ) where
  pub node_stamped : (u : List ℕ) (start k : ℕ) → start ≡ field 16 t n 7 → k ≡ field 16 t n 8 → reads_kind (field 16 t n 1) ≡ true → u ≡ stamp_cells c s v start k → u ≡ stamp_node t c s n v
  unfolding stamp_node names_of stamp_cells
  node_stamped u start k a b e g = rw (e, names_of) (rw (← a, ← b) g)

  pub node_plain : reads_kind (field 16 t n 1) ≡ false → s ≡ stamp_node t c s n v
  unfolding stamp_node names_of stamp
  node_plain e = rw (e, names_of)

module _ (t l : List ℕ) (c : List ℤ) (s : List ℕ) (n : ℕ) where
  pub named_end : (k : ℕ) → k ≤ 0 → named_from t l c s n k ≡ true
  unfolding named_from
  named_end zero h = refl
  named_end (suc k) h = absurd (omega arith)

  pub named_bad : (u : List ℕ) (w k : ℕ) → 0 < k → u ≡ stamp_node t c s n (n + 1) → w ≡ field 16 t n 3 → links_stamped t l u (n + 1) (slot_room l) w ≡ false → named_from t l c s n k ≡ false
  unfolding named_from
  named_bad u w zero h a b e = absurd (omega arith)
  named_bad u w (suc k) h a b e = rw (rw (a, b, add-one) at e, named_from)

  pub named_more : (u : List ℕ) (w k k' : ℕ) → 0 < k → u ≡ stamp_node t c s n (n + 1) → w ≡ field 16 t n 3 → links_stamped t l u (n + 1) (slot_room l) w ≡ true → k' ≡ k - 1
      → named_from t l c s n k ≡ named_from t l c u (n + 1) k'
  unfolding named_from
  named_more u w zero k' h a b e q = absurd (omega arith)
  named_more u w (suc k) k' h a b e q =
      let o : k' ≡ k = omega (arith, q) in
      rw (o, a, add-one) (rw (rw (a, b, add-one) at e, named_from))

pub named_start : (t l : List ℕ) (c : List ℤ) (s : List ℕ) (n : ℕ) → n ≡ counted_in t → named_from t l c s 0 (counted_in t) ≡ named_from t l c s 0 (n - 0)
named_start t l c s n e = let z : n - 0 ≡ counted_in t = omega (arith, e) in rw z
