-- A table with a word for each number: marks, by which a list has nothing twice, and stamps, by which a list has a number.
use Rattle.std.specs.Prelude.{Bool, true, false, List, [], ◌∷◌, ℕ, zero, suc, eqb, get_or, set, Option, Some, None}
use Rattle.lists.specs.Walk.{and_then}
use Rattle.lists.specs.Each.{both}

-- one off the budget, where it counts
abbrev pub spend : Bool → ℕ → Option ℕ
spend true zero = None
spend true (suc b) = Some b
spend false b = Some b

-- the list is read through: each number passes ok, has no mark yet and is marked, and the live ones are taken off the budget b
unfoldable pub scan : (ℕ → Bool) → (ℕ → Bool) → List ℕ → List ℕ → ℕ → Option ℕ
scan ok live s [] b = Some b
scan ok live s (x ∷ xs) b =
    elim (both (ok x) (eqb (get_or s x 0) 0)) [ true ↦ and_then (spend (live x) b) (λ (c : ℕ). scan ok live (set s x 1) xs c) | false ↦ None ]

-- every number of the list has the stamp v
unfoldable pub stamp : List ℕ → ℕ → List ℕ → List ℕ
stamp s v [] = s
stamp s v (x ∷ xs) = stamp (set s x v) v xs
