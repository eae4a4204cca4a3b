-- One turn of each loop of emptying. Assumes nothing.
use mathlib.Core.Path.{◌≡◌, refl, sym, ap, ◌∙◌}
use mathlib.Core.Bool.{true, false}
use mathlib.Core.List.{List, [], ◌∷◌}
use Prim.Native.Nat.{ℕ, zero, suc}
use lib.IntN.{ℤ, pos}
use lib.ListN.{set, length}
use Rattle.std.specs.Prelude.{replicate}
use Rattle.counting.specs.Counts.{slot_room, carry_in}
use Rattle.operating.specs.Emptying.{emptied, zeroed, blank, freed, emptying}

zero_first {ℓ} : {A : Type ℓ} (z x : A) (t : List A) (k : ℕ) → zeroed z (x ∷ t) (suc k) ≡ z ∷ zeroed z t k
unfolding zeroed
zero_first z x t zero = refl
zero_first z x t (suc k) = zero_first z x (set t k z) k

-- a table filled with z
pub filled {ℓ} : {A : Type ℓ} (z : A) (t : List A) → replicate (length t) z ≡ blank z t
unfolding zeroed
filled z [] = refl
filled z (x ∷ t) = ap (λ u. z ∷ u) (filled z t) ∙ sym (zero_first z x t (length t))

module _ (n l : List ℕ) (v c : List ℤ) where
  pub empty_done : carry_in n l v c ≡ true → emptied 0 (blank 0 n) (freed (blank 0 l) (slot_room l)) (blank (pos 0) v) (blank (pos 0) c) ≡ emptying n l v c
  unfolding emptying
  empty_done h = rw (h, emptying)

  pub empty_not : carry_in n l v c ≡ false → emptied 1 n l v c ≡ emptying n l v c
  unfolding emptying
  empty_not h = rw (h, emptying)
