-- Counting: sums over the numbers below n, how many of them pass a test, and how often a number stands in a list.
use Rattle.std.specs.Prelude.{Bool, true, false, List, [], ◌∷◌, ℕ, zero, suc, ◌+◌, eqb}

abbrev pub bit : Bool → ℕ
bit true = 1
bit false = 0

-- f 0 + .. + f (n - 1)
unfoldable pub sum : (ℕ → ℕ) → ℕ → ℕ
sum f zero = 0
sum f (suc n) = sum f n + f n

-- how many numbers below n pass p
abbrev pub count : (ℕ → Bool) → ℕ → ℕ
count p n = sum (λ (x : ℕ). bit (p x)) n

-- how often x stands in the list
unfoldable pub occ : ℕ → List ℕ → ℕ
occ x [] = 0
occ x (y ∷ ys) = bit (eqb x y) + occ x ys

abbrev pub All : (ℕ → Type 0) → List ℕ → Type 0
All R [] = Unit {0}
All R (x ∷ xs) = R x × All R xs
