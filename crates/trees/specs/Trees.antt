-- Document 01, "Commands": a formula is an expression tree; how it is written out in cells, what it is worth, and what it reads.
use Rattle.std.specs.Prelude.{true, false, List, [], ◌∷◌, ◌++◌, ℕ, suc, ◌+◌, max, ℤ, pos}
use Rattle.values.specs.declared.Value.{Value}
use Rattle.values.specs.Values.{value, sum, difference, minimum, maximum, less, is_zero}
use Rattle.trees.specs.declared.cells.Op.{Op}
use Rattle.trees.specs.declared.cells.Op.TheVariants.{Sum, Difference, Minimum, Maximum, Less}

pub data Tree : Type 0 where
  constant : ℤ → Tree
  read : ℕ → Tree
  two : Op → Tree → Tree → Tree
  choose : Tree → Tree → Tree → Tree

abbrev pub code_of : Op → ℕ
code_of Sum = 3
code_of Difference = 4
code_of Minimum = 5
code_of Maximum = 6
code_of Less = 7

-- the words of a tree: cells of a code and an operand, in prefix order
unfoldable pub written : Tree → List ℤ
written (constant k) = pos 1 ∷ k ∷ []
written (read n) = pos 2 ∷ pos n ∷ []
written (two o a b) = pos (code_of o) ∷ pos 0 ∷ written a ++ written b
written (choose c a b) = pos 8 ∷ pos 0 ∷ written c ++ (written a ++ written b)

-- how many cells it takes
unfoldable pub size : Tree → ℕ
size (constant k) = 1
size (read n) = 1
size (two o a b) = suc (size a + size b)
size (choose c a b) = suc (size c + (size a + size b))

-- how deep it nests; a lone cell is 1
unfoldable pub nesting : Tree → ℕ
nesting (constant k) = 1
nesting (read n) = 1
nesting (two o a b) = suc (max (nesting a) (nesting b))
nesting (choose c a b) = suc (max (nesting c) (max (nesting a) (nesting b)))

-- the nodes that its read cells name, in cell order, those in branches never taken among them
unfoldable pub names : Tree → List ℕ
names (constant k) = []
names (read n) = n ∷ []
names (two o a b) = names a ++ names b
names (choose c a b) = names c ++ (names a ++ names b)

unfoldable pub apply : Op → Value → Value → Value
apply Sum a b = sum a b
apply Difference a b = difference a b
apply Minimum a b = minimum a b
apply Maximum a b = maximum a b
apply Less a b = less a b

-- choose: where the first is not zero the second, else the third
unfoldable pub chosen {ℓ} : {A : Type ℓ} → Value → A → A → A
chosen v x y = elim (is_zero v) [ true ↦ y | false ↦ x ]

-- what a tree is worth where node n is worth env n
unfoldable pub worth : Tree → (ℕ → Value) → Value
worth (constant k) env = value k
worth (read n) env = env n
worth (two o a b) env = apply o (worth a env) (worth b env)
worth (choose c a b) env = chosen (worth c env) (worth a env) (worth b env)

-- the nodes that working it out reads, in order: arguments left to right, and of choose only the branch it takes
unfoldable pub reads : Tree → (ℕ → Value) → List ℕ
reads (constant k) env = []
reads (read n) env = n ∷ []
reads (two o a b) env = reads a env ++ reads b env
reads (choose c a b) env = reads c env ++ chosen (worth c env) (reads a env) (reads b env)
