-- Worked examples, computed: choose both ways, the order of reads, both ends of the range, what is legal and what is not. Assumes nothing.
use mathlib.Core.Path.{◌≡◌, refl}
use mathlib.Core.Bool.{Bool, true, false}
use mathlib.Core.List.{List, [], ◌∷◌, ◌++◌}
use Prim.Native.Nat.{ℕ, zero, suc}
use lib.IntN.{ℤ, pos, negsuc}
use lib.ListN.{replicate}
use Rattle.values.specs.declared.Value.{Value}
use Rattle.primitive.specs.Rows.{has_field, field}
use Rattle.values.specs.Values.{value, greatest, clamp, sum, difference, minimum, maximum, less, is_zero, same, same_number}
use Rattle.trees.specs.declared.cells.Op.TheVariants.{Sum, Difference, Minimum, Maximum, Less}
use Rattle.trees.specs.Cells.{read_of, bare_of, codes, cell_of, arity_of, name_of, cell_at, settled, end_of}
use Rattle.trees.specs.Legal.{read_kind, readable_in, known_in, takes_in, in_turn, one_at, legal_in}
use Rattle.trees.specs.Names.{named, all_named, read_cells, tallest, tallest_in, height_in}
use Rattle.trees.specs.Trees.{Tree, constant, read, two, choose, code_of, written, apply, chosen, worth, reads, names}

-- ---- what a tree is worth. Node n is worth n.
env : ℕ → Value
env n = value (pos n)

-- node 3 + node 4 where node n is not zero, else node 5 - node 6
branch : ℕ → Tree
branch n = choose (read n) (two Sum (read 3) (read 4)) (two Difference (read 5) (read 6))

first_nonzero : (worth (branch 2) env ≡ value (pos 7)) × (reads (branch 2) env ≡ 2 ∷ 3 ∷ 4 ∷ [])
unfolding env branch worth reads apply chosen is_zero same same_number sum difference clamp
first_nonzero = (refl, refl)

first_zero : (worth (branch 0) env ≡ value (negsuc 0)) × (reads (branch 0) env ≡ 0 ∷ 5 ∷ 6 ∷ [])
unfolding env branch worth reads apply chosen is_zero same same_number sum difference clamp
first_zero = (refl, refl)

-- it names the branch it does not take, too
both_branches : names (branch 0) ≡ 0 ∷ 3 ∷ 4 ∷ 5 ∷ 6 ∷ []
unfolding branch names
both_branches = refl

-- arguments go left to right, and a node that is read twice is read twice
left_to_right : reads (two Sum (read 1) (two Sum (read 0) (read 1))) env ≡ 1 ∷ 0 ∷ 1 ∷ []
unfolding env reads
left_to_right = refl

-- document 01, case 10
top_stays : worth (two Sum (constant (pos greatest)) (constant (pos 1))) env ≡ value (pos greatest)
unfolding env worth apply sum clamp
top_stays = refl

least_negated : worth (two Difference (constant (pos 0)) (constant (negsuc greatest))) env ≡ value (pos greatest)
unfolding env worth apply difference clamp
least_negated = refl

bottom_stays : worth (two Difference (constant (negsuc greatest)) (constant (pos 1))) env ≡ value (negsuc greatest)
unfolding env worth apply difference clamp
bottom_stays = refl

ordered : (worth (two Less (constant (negsuc 4)) (constant (pos 0))) env ≡ value (pos 1)) × (worth (two Less (read 4) (read 4)) env ≡ value (pos 0))
    × (worth (two Minimum (constant (negsuc 4)) (read 2)) env ≡ value (negsuc 4)) × (worth (two Maximum (constant (negsuc 4)) (read 2)) env ≡ value (pos 2))
unfolding env worth apply less minimum maximum
ordered = (refl, refl, refl, refl)

-- ---- the eight cells as document 01 numbers them
numbered : (worth (constant (pos 7)) env ≡ value (pos 7)) × (written (constant (pos 7)) ≡ pos 1 ∷ pos 7 ∷ []) × (written (read 4) ≡ pos 2 ∷ pos 4 ∷ [])
    × (code_of Sum ≡ 3) × (code_of Difference ≡ 4) × (code_of Minimum ≡ 5) × (code_of Maximum ≡ 6) × (code_of Less ≡ 7)
    × (written (choose (read 1) (read 2) (read 3)) ≡ pos 8 ∷ pos 0 ∷ pos 2 ∷ pos 1 ∷ pos 2 ∷ pos 2 ∷ pos 2 ∷ pos 3 ∷ [])
unfolding env worth written
numbered = (refl, refl, refl, refl, refl, refl, refl, refl, refl)

-- ---- which cells are legal. Node 0 is a signal, node 1 a computed of height 3, node 2 an effect, node 3 a scope.
nodes : List ℕ
nodes =
    (replicate 7 0 ++ 4 ∷ replicate 8 0)
    ++ ((0 ∷ 1 ∷ replicate 14 0) ++ ((0 ∷ 2 ∷ replicate 9 0) ++ 3 ∷ replicate 4 0) ++ (0 ∷ 3 ∷ replicate 14 0) ++ (0 ∷ 4 ∷ replicate 14 0))

-- a chain of n sums in the first argument: nesting n + 1, 2 n + 1 cells
chain : ℕ → Tree
chain zero = constant (pos 1)
chain (suc n) = two Sum (chain n) (constant (pos 1))

-- sums all the way down: nesting n + 1, 2 ^ (n + 1) - 1 cells
full : ℕ → Tree
full zero = constant (pos 1)
full (suc n) = two Sum (full n) (full n)

legal : List ℤ → Bool
legal ws = legal_in nodes ws

lone_cell : (legal (written (constant (pos 7))) ≡ true) × (legal (written (read 0)) ≡ true) × (legal (written (read 1)) ≡ true)
unfolding legal nodes written legal_in one_at in_turn takes_in known_in name_of arity_of cell_at cell_of codes read_of bare_of readable_in read_kind field has_field
lone_cell = (refl, refl, refl)

no_cell : legal [] ≡ false
unfolding legal nodes legal_in one_at in_turn takes_in known_in name_of arity_of cell_at
no_cell = refl

half_a_cell : legal (pos 1 ∷ []) ≡ false
unfolding legal nodes legal_in
half_a_cell = refl

two_trees : legal (written (read 0) ++ written (read 1)) ≡ false
unfolding legal nodes written legal_in one_at in_turn takes_in known_in name_of arity_of cell_at cell_of codes read_of bare_of readable_in read_kind field has_field
two_trees = refl

-- an effect, a scope, a node that is not there, a negative number
no_read : (legal (written (read 2)) ≡ false) × (legal (written (read 3)) ≡ false) × (legal (written (read 4)) ≡ false) × (legal (pos 2 ∷ negsuc 0 ∷ []) ≡ false)
unfolding legal nodes written legal_in one_at in_turn takes_in known_in name_of arity_of cell_at cell_of codes read_of bare_of readable_in read_kind field has_field
no_read = (refl, refl, refl, refl)

-- an operand where there is none to carry
odd_operand : legal (pos 3 ∷ pos 1 ∷ pos 1 ∷ pos 0 ∷ pos 1 ∷ pos 0 ∷ []) ≡ false
unfolding legal nodes legal_in one_at in_turn takes_in known_in name_of arity_of cell_at cell_of codes read_of bare_of
odd_operand = refl

-- codes 0 and 9, and a negative one
no_code : (legal (pos 0 ∷ pos 0 ∷ []) ≡ false) × (legal (pos 9 ∷ pos 0 ∷ []) ≡ false) × (legal (negsuc 0 ∷ pos 0 ∷ []) ≡ false)
unfolding legal nodes legal_in one_at in_turn takes_in known_in name_of arity_of cell_at cell_of codes read_of bare_of
no_code = (refl, refl, refl)

nesting_16 : (legal (written (chain 15)) ≡ true) × (legal (written (chain 16)) ≡ false)
unfolding legal nodes chain written legal_in one_at in_turn takes_in known_in name_of arity_of cell_at cell_of codes read_of bare_of
nesting_16 = (refl, refl)

-- 1 + 31 + 31 + 1 cells, and 1 + 31 + (1 + 31 + 1)
cells_64 : (legal (written (choose (full 4) (full 4) (constant (pos 1)))) ≡ true) × (legal (written (two Sum (full 4) (two Sum (full 4) (constant (pos 1))))) ≡ false)
unfolding legal nodes full written legal_in one_at in_turn takes_in known_in name_of arity_of cell_at cell_of codes read_of bare_of
cells_64 = (refl, refl)

-- ---- what the cells name
reads_and_height : (read_cells (written (branch 0)) ≡ 5) × (height_in nodes (written (two Sum (read 0) (read 1))) ≡ 4) × (height_in nodes (written (constant (pos 7))) ≡ 1)
unfolding branch nodes written read_cells height_in tallest_in tallest all_named named name_of cell_at cell_of codes read_of bare_of field has_field
reads_and_height = (refl, refl, refl)

-- the end of the first argument, and of the whole
ends : (end_of (written (branch 0)) 0 ≡ 8) × (end_of (written (branch 0)) 2 ≡ 5) × (end_of (written (branch 0)) 7 ≡ 8)
unfolding branch written end_of settled arity_of cell_at cell_of codes read_of bare_of
ends = (refl, refl, refl)
