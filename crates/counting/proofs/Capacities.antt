-- The lengths carry capacities exactly when they are those of tables for c nodes, k slots and m cells, within the limits. Assumes nothing.
use mathlib.Core.Path.{◌≡◌, refl, sym, ap, ap₂, ◌∙◌, subst}
use mathlib.Core.Bool.{Bool, true, false, not, ◌&&◌}
use mathlib.Core.List.{List}
use Prim.Native.Nat.{ℕ, suc, ◌*◌, ◌%◌, ◌≤◌}
use native.Mathlib.Omega.{arith}
use lib.Dec.{T, eqb, leb}
use lib.IntN.{ℤ}
use lib.ListN.{length}
use borrow.Author.Tests.{eqb-true, eq-eqb, ne_eqb, leb-true, le-leb}
use Rattle.primitive.specs.Words.{NODE, LINK}
use Rattle.counting.specs.Counts.{node_room, slot_room, cell_room, most_nodes, most_slots, most_cell_room, within_most, whole_rows, within_all, carry_in}

-- tables for c nodes, k slots and m cells
pub record Sized (nodes links : List ℕ) (values cells : List ℤ) (c k m : ℕ) : Type 0 where
  pub node_rows_lem : length nodes ≡ suc c * NODE
  pub value_words_lem : length values ≡ c * 4
  pub link_rows_lem : length links ≡ suc k * LINK
  pub cells_long : length cells ≡ m * 2
  pub some_nodes : 1 ≤ c
  pub few_nodes : c ≤ most_nodes
  pub some_slots : 1 ≤ k
  pub few_slots : k ≤ most_slots
  pub some_cells : 1 ≤ m
  pub few_cells : m ≤ most_cell_room

both : (a b : Bool) → a && b ≡ true → (a ≡ true) × (b ≡ true)
both true b e = (refl, e)
both false b e = absurd (subst T (sym e) tt)

both_true : {a b : Bool} → a ≡ true → b ≡ true → a && b ≡ true
both_true e f = ap₂ ◌&&◌ e f

within_is : (most n : ℕ) → within_most most n ≡ true → (1 ≤ n) × (n ≤ most)
unfolding within_most
within_is most n e =
    let p = both (not (eqb n 0)) (leb n most) e in
    let some : n ≡ 0 → ⊥ = λ z. absurd (subst T (sym p.0 ∙ ap not (eq-eqb n 0 z)) tt) in
    (omega arith, leb-true n most p.1)

-- document 01's numbers: so many pass, and one more does not
pub most_pass : (within_most most_nodes 1024 ≡ true) × (within_most most_slots 8192 ≡ true) × (within_most most_cell_room 8192 ≡ true)
unfolding within_most
most_pass = (refl, refl, refl)

pub one_more_fails : (within_most most_nodes 1025 ≡ false) × (within_most most_slots 8193 ≡ false) × (within_most most_cell_room 8193 ≡ false)
unfolding within_most
one_more_fails = (refl, refl, refl)

is_within : (most n : ℕ) → 1 ≤ n → n ≤ most → within_most most n ≡ true
unfolding within_most
is_within most n h l = let some : n ≡ 0 → ⊥ = λ z. omega arith in both_true (ap not (ne_eqb n 0 some)) (le-leb n most l)

module _ (nodes links : List ℕ) (values cells : List ℤ) where
  pub carried : carry_in nodes links values cells ≡ true → Sized nodes links values cells (node_room nodes) (slot_room links) (cell_room cells)
  unfolding carry_in whole_rows within_all
  carried e =
      let p = both (whole_rows nodes links cells) _ e in
      let w = both (eqb (length nodes % NODE) 0) _ p.0 in
      let u = both (eqb (length links % LINK) 0) _ w.1 in
      let q = both (within_all nodes links cells) _ p.1 in
      let r = both (within_most most_nodes (node_room nodes)) _ q.0 in
      let s = both (within_most most_slots (slot_room links)) _ r.1 in
      let n = within_is most_nodes (node_room nodes) r.0 in
      let l = within_is most_slots (slot_room links) s.0 in
      let m = within_is most_cell_room (cell_room cells) s.1 in
      record {
        node_rows_lem = omega (arith, n.0, eqb-true (length nodes % NODE) 0 w.0);
        value_words_lem = eqb-true (length values) (node_room nodes * 4) q.1;
        link_rows_lem = omega (arith, l.0, eqb-true (length links % LINK) 0 u.0);
        cells_long = omega (arith, eqb-true (length cells % 2) 0 u.1);
        some_nodes = n.0;
        few_nodes = n.1;
        some_slots = l.0;
        few_slots = l.1;
        some_cells = m.0;
        few_cells = m.1;
      }

  pub carries : (c k m : ℕ) → Sized nodes links values cells c k m → carry_in nodes links values cells ≡ true
  unfolding carry_in whole_rows within_all
  carries c k m s =
      let n = s.node_rows_lem in
      let l = s.link_rows_lem in
      let w = s.cells_long in
      let a : node_room nodes ≡ c = omega arith in
      let b : slot_room links ≡ k = omega arith in
      let d : cell_room cells ≡ m = omega arith in
      both_true (both_true (eq-eqb (length nodes % NODE) 0 (omega arith)) (both_true (eq-eqb (length links % LINK) 0 (omega arith)) (eq-eqb (length cells % 2) 0 (omega arith))))
      (both_true
      (both_true (ap (within_most most_nodes) a ∙ is_within most_nodes c s.some_nodes s.few_nodes)
      (both_true (ap (within_most most_slots) b ∙ is_within most_slots k s.some_slots s.few_slots) (ap (within_most most_cell_room) d ∙ is_within most_cell_room m s.some_cells s.few_cells)))
      (eq-eqb (length values) (node_room nodes * 4) (omega (arith, a, s.value_words_lem))))
