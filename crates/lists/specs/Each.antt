-- Tests of every number below n, and of every slot of a list.
use Rattle.std.specs.Prelude.{Bool, true, false, List, [], ◌∷◌, ℕ, zero, suc, ◌+◌}
use Rattle.lists.specs.Sum.{bit}

abbrev pub both : Bool → Bool → Bool
both true b = b
both false b = false

abbrev pub either : Bool → Bool → Bool
either true b = true
either false b = b

-- the first where the test holds, else the second
abbrev pub pick : Bool → Bool → Bool → Bool
pick true x y = x
pick false x y = y

-- p of every number below n
unfoldable pub every : (ℕ → Bool) → ℕ → Bool
every p zero = true
every p (suc k) = elim (p k) [ true ↦ every p k | false ↦ false ]

-- p of every slot from the word w along next, at most b of them
unfoldable pub along : (ℕ → ℕ) → (ℕ → Bool) → ℕ → ℕ → Bool
along next p zero w = true
along next p (suc b) zero = true
along next p (suc b) (suc x) = elim (p x) [ true ↦ along next p b (next x) | false ↦ false ]

-- how many of those slots pass p
unfoldable pub tally : (ℕ → ℕ) → (ℕ → Bool) → ℕ → ℕ → ℕ
tally next p zero w = 0
tally next p (suc b) zero = 0
tally next p (suc b) (suc x) = bit (p x) + tally next p b (next x)

-- those of a list that pass p
unfoldable pub keep : (ℕ → Bool) → List ℕ → List ℕ
keep p [] = []
keep p (x ∷ xs) = elim (p x) [ true ↦ x ∷ keep p xs | false ↦ keep p xs ]
