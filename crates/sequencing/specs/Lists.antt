-- The list of commands: for each the number of its words, then these.
use Rattle.std.specs.Prelude.{true, false, List, [], ◌∷◌, ℕ, leb, ℤ, length, take, drop, Option, Some, None}
use Rattle.trees.specs.Cells.{natural_of}
use Rattle.sequencing.specs.declared.list.Next.{Next}
use Rattle.sequencing.specs.declared.list.Next.TheVariants.{Over, Bad, Words}

-- a number of words is not below 0, and not more than are left
unfoldable pub words_of : Option ℕ → ℕ → Next
words_of None left = Bad
words_of (Some k) left = elim (leb k left) [ true ↦ Words k | false ↦ Bad ]

unfoldable pub next_in : List ℤ → Next
next_in [] = Over
next_in (k ∷ rest) = words_of (natural_of k) (length rest)

-- the k words of the first command
abbrev pub first_of : ℕ → List ℤ → List ℤ
first_of k list = take k (drop 1 list)
