-- Lists of slots in words: 0 is nothing, and s + 1 is slot s. `next` is a function of words, `prev` one of slots.
use Rattle.std.specs.Prelude.{◌≡◌, List, [], ◌∷◌, ℕ, suc}

-- the word of the first slot, or 0; the word of the last, or p
abbrev pub first_word : List ℕ → ℕ
first_word [] = 0
first_word (x ∷ xs) = suc x

abbrev pub last_word : ℕ → List ℕ → ℕ
last_word p [] = p
last_word p (x ∷ xs) = last_word (suc x) xs

-- along next, from the word p: the slots xs, and then nothing
abbrev pub Chain : (ℕ → ℕ) → ℕ → List ℕ → Type 0
Chain next p [] = next p ≡ 0
Chain next p (x ∷ xs) = (next p ≡ suc x) × Chain next (suc x) xs

-- each of the slots xs names the word before it, the first names p
abbrev pub Back : (ℕ → ℕ) → ℕ → List ℕ → Type 0
Back prev p [] = Unit {0}
Back prev p (x ∷ xs) = (prev x ≡ p) × Back prev (suc x) xs
