-- Worked examples, computed: small tables that pass, and the same with a word changed. Assumes nothing.
use mathlib.Core.Path.{◌≡◌, refl}
use mathlib.Core.Bool.{Bool, true, false}
use mathlib.Core.List.{List, [], ◌∷◌, ◌++◌}
use Prim.Native.Nat.{ℕ, zero, suc, ◌+◌, ◌*◌}
use lib.IntN.{ℤ, pos}
use lib.ListN.{replicate, set}
use Rattle.primitive.specs.Rows.{has_field, field, set_field}
use Rattle.primitive.specs.Words.{KIND, GONE, START, CELLS, READS, OWNER, LEVEL, COUNT, USED, SIGNAL, COMPUTED, EFFECT, SCOPE, set_node}
use Rattle.trees.specs.Cells.{read_of, bare_of, codes, cell_of, arity_of, name_of, cell_at}
use Rattle.trees.specs.Legal.{read_kind, readable_in, known_in, takes_in, in_turn, one_at, legal_in}
use Rattle.trees.specs.Names.{named, all_named, read_cells, tallest, tallest_in, height_in}
use Rattle.counting.specs.Counts.{within_most, whole_rows, within_all, carry_in, counted_in, total, reserve_of, reserve_in}
use Rattle.telling.specs.Formulas.{lower_rank, own_cells, all_lower, reads_lower, formula_in}
use Rattle.counting.specs.Depths.{depth_under}
use Rattle.telling.specs.Levels.{level_kept}
use Rattle.telling.specs.Nodes.{stands_alone, signal_in, computed_in, scope_in, effect_in, node_in, nodes_in}
use Rattle.telling.specs.Whole.{described_in}

-- a row of the node table, by the words that are tested here
row_of : ℕ → ℕ → ℕ → ℕ → ℕ → ℕ → ℕ → List ℕ
row_of kind gone start cells reads owner level = 0 ∷ kind ∷ gone ∷ 0 ∷ 0 ∷ 0 ∷ 0 ∷ start ∷ cells ∷ reads ∷ owner ∷ level ∷ replicate 4 0

header : ℕ → ℕ → List ℕ
header count used = replicate 7 0 ++ count ∷ used ∷ replicate 7 0

-- the test of tables with room for as many nodes, slots and cells
tested : ℕ → ℕ → List ℕ → List ℤ → Bool
tested room slots nodes cells = described_in nodes (replicate ((slots + 1) * 8) 0) (replicate (room * 4) (pos 0)) cells

-- node 0 is a signal, 1 the computed C(0), 2 the effect E(0 + 1), 3 a scope that 2 owns, 4 a gone effect of a constant that 3 owned; there is room for one more
nodes : List ℕ
nodes =
    header 5 5
    ++ (row_of SIGNAL 0 0 0 0 0 0 ++ (row_of COMPUTED 0 0 1 1 0 1 ++ (row_of EFFECT 0 1 3 2 0 1 ++ (row_of SCOPE 0 0 0 0 3 2 ++ (row_of EFFECT 1 4 1 0 4 3 ++ replicate 16 0)))))

cells : List ℤ
cells = pos 2 ∷ pos 0 ∷ pos 3 ∷ pos 0 ∷ pos 2 ∷ pos 0 ∷ pos 2 ∷ pos 1 ∷ pos 1 ∷ pos 7 ∷ pos 0 ∷ pos 0 ∷ []

-- field f of node n is w, or word i of the table
with : ℕ → ℕ → ℕ → Bool
with n f w = tested 6 7 (set_node nodes n f w) cells

word : ℕ → ℕ → Bool
word i w = tested 6 7 (set nodes i w) cells

-- two nodes, in tables with no more room than they need
pair : List ℕ → List ℕ → Bool
pair a b = tested 2 2 (header 2 1 ++ (a ++ b)) (pos 2 ∷ pos 1 ∷ [])

-- n scopes, the first unowned, each further one owned by that before it; node k is at depth k + 1
scopes : ℕ → List ℕ
scopes zero = []
scopes (suc n) = scopes n ++ row_of SCOPE 0 0 0 0 n (suc n)

-- a signal, and n computeds, each of which reads the node before it; node k is of height k
computeds : ℕ → List ℕ
computeds zero = row_of SIGNAL 0 0 0 0 0 0
computeds (suc n) = computeds n ++ row_of COMPUTED 0 n 1 1 0 (suc n)

reads : ℕ → List ℤ
reads zero = []
reads (suc n) = reads n ++ pos 2 ∷ pos n ∷ []

record Computed : Type 0 where
  stand : tested 6 7 nodes cells ≡ true
  -- words without meaning: the formula of a signal and of a scope, a spare column, the row past the last node, a cell that is not in use
  unasked : (with 0 START 9 ≡ true) × (with 3 CELLS 0 ≡ true) × (with 3 READS 9 ≡ true) × (with 2 15 9 ≡ true) × (with 5 KIND 9 ≡ true)
      × (tested 6 7 nodes (set cells 10 (pos 9)) ≡ true)
  -- formulas may overlap
  overlap : with 1 START 2 ≡ true
  kinds : (with 0 KIND 0 ≡ false) × (with 0 KIND 5 ≡ false)
  -- the gone mark is 0 or 1, and 0 of signals and computeds
  gone : (with 3 GONE 1 ≡ true) × (with 3 GONE 2 ≡ false) × (with 0 GONE 1 ≡ false) × (with 1 GONE 1 ≡ false)
  -- signals and computeds have no owner; an owner is of lower number
  owners : (with 0 OWNER 1 ≡ false) × (with 1 OWNER 1 ≡ false)
      × (pair (row_of SCOPE 0 0 0 0 0 1) (row_of SCOPE 0 0 0 0 1 2) ≡ true) × (pair (row_of SCOPE 0 0 0 0 2 2) (row_of SCOPE 0 0 0 0 0 1) ≡ false)
  levels : (with 0 LEVEL 1 ≡ false) × (with 1 LEVEL 2 ≡ false) × (with 2 LEVEL 2 ≡ false) × (with 3 LEVEL 1 ≡ false) × (with 3 OWNER 0 ≡ false)
  gone_level : with 4 LEVEL 2 ≡ false
  -- document 01, case 13: height 64, and owner depth 16
  heights : (tested 65 128 (header 65 64 ++ computeds 64) (reads 64) ≡ true) × (tested 66 130 (header 66 65 ++ computeds 65) (reads 65) ≡ false)
  depths : (tested 16 16 (header 16 0 ++ scopes 16) (reads 1) ≡ true) × (tested 17 17 (header 17 0 ++ scopes 17) (reads 1) ≡ false)
  -- too few cells, too many, none; a start that would wrap
  formulas : (with 2 CELLS 2 ≡ false) × (with 2 CELLS 4 ≡ false) × (with 2 CELLS 0 ≡ false) × (with 1 START 18446744073709551615 ≡ false)
  -- the last formula is not among the cells in use
  in_use : word USED 4 ≡ false
  read_cells_lem : (with 1 READS 0 ≡ false) × (with 2 READS 1 ≡ false) × (with 4 READS 1 ≡ false)
  -- a computed that reads a signal of higher number, and an effect that reads a scope
  reads_lower_lem : (pair (row_of COMPUTED 0 0 1 1 0 1) (row_of SIGNAL 0 0 0 0 0 0) ≡ false) × (with 1 KIND SCOPE ≡ false)
  -- more nodes or cells than there is room for; 8 links to reserve, and 7 slots; words over
  rooms : (word COUNT 7 ≡ false) × (word USED 7 ≡ false) × (with 4 GONE 0 ≡ false) × (tested 6 6 nodes cells ≡ false) × (tested 5 7 nodes cells ≡ false)
      × (tested 6 7 nodes (pos 0 ∷ cells) ≡ false)

computed : Computed
unfolding with word pair scopes computeds reads tested nodes cells row_of header described_in carry_in whole_rows within_all within_most nodes_in node_in stands_alone signal_in computed_in scope_in effect_in level_kept depth_under formula_in own_cells reads_lower all_lower lower_rank legal_in one_at in_turn takes_in known_in readable_in read_kind arity_of name_of cell_at cell_of codes read_of bare_of named all_named read_cells tallest tallest_in height_in reserve_in reserve_of total counted_in field has_field set_field
computed = record {
  stand = refl;
  unasked = (refl, refl, refl, refl, refl, refl);
  overlap = refl;
  kinds = (refl, refl);
  gone = (refl, refl, refl, refl);
  owners = (refl, refl, refl, refl);
  levels = (refl, refl, refl, refl, refl);
  gone_level = refl;
  heights = (refl, refl);
  depths = (refl, refl);
  formulas = (refl, refl, refl, refl);
  in_use = refl;
  read_cells_lem = (refl, refl, refl);
  reads_lower_lem = (refl, refl);
  rooms = (refl, refl, refl, refl, refl, refl);
}
