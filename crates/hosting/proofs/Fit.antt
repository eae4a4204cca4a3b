-- Tables of the sizes that the library names carry capacities, so emptying accepts them; and it accepts no others. Assumes nothing.
use mathlib.Core.Path.{◌≡◌}
use mathlib.Core.Bool.{true}
use mathlib.Core.List.{List}
use Prim.Native.Nat.{ℕ, ◌+◌, ◌*◌, ◌≤◌}
use native.Mathlib.Omega.{arith}
use lib.IntN.{ℤ}
use lib.ListN.{length}
use borrow.Author.Tests.{ne_eqb, le-leb}
use Rattle.counting.specs.Counts.{node_room, slot_room, cell_room, most_nodes, most_slots, most_cell_room, within_most, carry_in}
use Rattle.counting.proofs.Capacities.{carried, carries}
use Rattle.operating.specs.Emptying.{emptying}
use Rattle.hosting.specs.Sizes.{words_for, node_words_of, link_words_of, value_words_of, cell_words_of}

words_are : (most header each n : ℕ) → 1 ≤ n → n ≤ most → words_for most header each n ≡ (header + n) * each
unfolding words_for within_most
words_are most header each n h l = let some : n ≡ 0 → ⊥ = λ z. omega arith in rw (ne_eqb n 0 some, le-leb n most l)

-- the lengths are those that the library names for c nodes, k slots and m cells
pub record Fit (nodes links : List ℕ) (values cells : List ℤ) (c k m : ℕ) : Type 0 where
  pub node_words_lem : length nodes ≡ node_words_of c
  pub link_words_lem : length links ≡ link_words_of k
  pub value_words_lem : length values ≡ value_words_of c
  pub cells_long : length cells ≡ cell_words_of m
  pub some_nodes : 1 ≤ c
  pub few_nodes : c ≤ most_nodes
  pub some_slots : 1 ≤ k
  pub few_slots : k ≤ most_slots
  pub some_cells : 1 ≤ m
  pub few_cells : m ≤ most_cell_room

module _ (nodes links : List ℕ) (values cells : List ℤ) where
  pub fit_carries : (c k m : ℕ) → Fit nodes links values cells c k m → carry_in nodes links values cells ≡ true
  fit_carries c k m f =
      carries nodes links values cells c k m
      record {
        node_rows_lem = omega (arith, f.node_words_lem, words_are most_nodes 1 16 c f.some_nodes f.few_nodes);
        value_words_lem = omega (arith, f.value_words_lem, words_are most_nodes 0 4 c f.some_nodes f.few_nodes);
        link_rows_lem = omega (arith, f.link_words_lem, words_are most_slots 1 8 k f.some_slots f.few_slots);
        cells_long = omega (arith, f.cells_long, words_are most_cell_room 0 2 m f.some_cells f.few_cells);
        some_nodes = f.some_nodes;
        few_nodes = f.few_nodes;
        some_slots = f.some_slots;
        few_slots = f.few_slots;
        some_cells = f.some_cells;
        few_cells = f.few_cells;
      }

  -- so emptying accepts them
  pub fit_empties : (c k m : ℕ) → Fit nodes links values cells c k m → (emptying nodes links values cells).code ≡ 0
  unfolding emptying
  fit_empties c k m f = rw (fit_carries c k m f, emptying)

  -- lengths that carry capacities are those that the library names for them
  pub carried_fit : carry_in nodes links values cells ≡ true → Fit nodes links values cells (node_room nodes) (slot_room links) (cell_room cells)
  carried_fit e =
      let s = carried nodes links values cells e in
      record {
        node_words_lem = omega (arith, s.node_rows_lem, words_are most_nodes 1 16 (node_room nodes) s.some_nodes s.few_nodes);
        value_words_lem = omega (arith, s.value_words_lem, words_are most_nodes 0 4 (node_room nodes) s.some_nodes s.few_nodes);
        link_words_lem = omega (arith, s.link_rows_lem, words_are most_slots 1 8 (slot_room links) s.some_slots s.few_slots);
        cells_long = omega (arith, s.cells_long, words_are most_cell_room 0 2 (cell_room cells) s.some_cells s.few_cells);
        some_nodes = s.some_nodes;
        few_nodes = s.few_nodes;
        some_slots = s.some_slots;
        few_slots = s.few_slots;
        some_cells = s.some_cells;
        few_cells = s.few_cells;
      }
