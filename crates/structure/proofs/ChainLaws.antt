-- Chains: what the decoding finds, two chains of one list, and the lists that the test of the tables walks. Assumes nothing.
use mathlib.Core.Path.{◌≡◌, refl, sym, ap, ◌∙◌, subst}
use mathlib.Core.Logic.{inl, inr}
use mathlib.Core.Bool.{true, false}
use mathlib.Core.List.{List, [], ◌∷◌}
use Prim.Native.Nat.{ℕ, zero, suc, ◌≤◌, ◌<◌}
use native.Mathlib.Omega.{arith}
use lib.ListN.{length}
use Rattle.primitive.specs.Words.{NEXT-DEP, link}
use Rattle.lists.specs.Walk.{slots}
use Rattle.counting.specs.Counts.{slot_room}
use Rattle.resting.specs.Linked.{is_live_slot}
use Rattle.resting.specs.AtRest.{Listed, FreeList}
use Rattle.meaning.specs.WellFormed.{In}
use Rattle.structure.specs.Chains.{last_word, Chain, Back}

-- g is the next word of a word, and of slot x it is next x
pub chain_slots : (g next : ℕ → ℕ) → ((x : ℕ) → g (suc x) ≡ next x) → (b p : ℕ) (xs : List ℕ) → Chain g p xs → length xs ≤ b → slots next b (g p) ≡ xs
unfolding slots
chain_slots g next k zero p [] c l = refl
chain_slots g next k (suc b) p [] c l = ap (slots next (suc b)) c
chain_slots g next k zero p (x ∷ xs) c l = absurd (omega arith)
chain_slots g next k (suc b) p (x ∷ xs) c l =
    ap (slots next (suc b)) c.0
    ∙ ap (λ (ys : List ℕ). x ∷ ys) (ap (slots next b) (sym (k x)) ∙ chain_slots g next k b (suc x) xs c.1 (omega arith))

-- the same list from another word, by other words that agree with these on it
pub chain_move : (g h : ℕ → ℕ) (p q : ℕ) (xs : List ℕ) → h q ≡ g p → ((x : ℕ) → In x xs → h (suc x) ≡ g (suc x)) → Chain g p xs → Chain h q xs
chain_move g h p q [] e k c = e ∙ c
chain_move g h p q (x ∷ xs) e k c = (e ∙ c.0, chain_move g h (suc x) (suc x) xs (k x (inl refl)) (λ y i. k y (inr i)) c.1)

-- two chains of one list agree where it lies
pub chain_agree : (g h : ℕ → ℕ) (p : ℕ) (xs : List ℕ) → Chain g p xs → Chain h p xs → (g p ≡ h p) × ((x : ℕ) → In x xs → g (suc x) ≡ h (suc x))
chain_agree g h p [] c d = (c ∙ sym d, λ x i. absurd i)
chain_agree g h p (y ∷ ys) c d = (c.0 ∙ sym d.0, at (chain_agree g h (suc y) ys c.1 d.1))
  where
    at : (g (suc y) ≡ h (suc y)) × ((x : ℕ) → In x ys → g (suc x) ≡ h (suc x)) → (x : ℕ) → In x (y ∷ ys) → g (suc x) ≡ h (suc x)
    at r x (inl e) = subst (λ (z : ℕ). g (suc z) ≡ h (suc z)) (sym e) r.0
    at r x (inr i) = r.1 x i

pub back_agree : (P Q : ℕ → ℕ) (p : ℕ) (xs : List ℕ) → Back P p xs → Back Q p xs → (x : ℕ) → In x xs → P x ≡ Q x
back_agree P Q p [] b c x x5 = elim x5 [ ]
back_agree P Q p (y ∷ ys) b c x (inl e) = subst (λ (z : ℕ). P z ≡ Q z) (sym e) (b.0 ∙ sym c.0)
back_agree P Q p (y ∷ ys) b c x (inr i) = back_agree P Q (suc y) ys b.1 c.1 x i

-- ---- the lists that the test walks
module _ (L : List ℕ) (own prev next n : ℕ) where
  pub listed_next : (g : ℕ → ℕ) → ((x : ℕ) → g (suc x) ≡ link L x next) → (p w : ℕ) (xs : List ℕ) (tail : ℕ) → g p ≡ w → Listed L own prev next n p w xs tail → Chain g p xs
  listed_next g k p w [] tail e c = e ∙ c.0
  listed_next g k p w (x ∷ xs) tail e c = (e ∙ c.0, listed_next g k (suc x) (link L x next) xs tail (k x) c.4)

  pub listed_prev : (p w : ℕ) (xs : List ℕ) (tail : ℕ) → Listed L own prev next n p w xs tail → Back (λ (x : ℕ). link L x prev) p xs
  listed_prev p w [] tail c = tt
  listed_prev p w (x ∷ xs) tail c = (c.3, listed_prev (suc x) (link L x next) xs tail c.4)

  pub listed_tail : (p w : ℕ) (xs : List ℕ) (tail : ℕ) → Listed L own prev next n p w xs tail → tail ≡ last_word p xs
  listed_tail p w [] tail c = sym c.1
  listed_tail p w (x ∷ xs) tail c = listed_tail (suc x) (link L x next) xs tail c.4

  pub listed_in : (p w : ℕ) (xs : List ℕ) (tail : ℕ) → Listed L own prev next n p w xs tail → (x : ℕ) → In x xs → (is_live_slot L x ≡ true) × (link L x own ≡ n)
  listed_in p w [] tail c x x4 = elim x4 [ ]
  listed_in p w (y ∷ ys) tail c x (inl e) = subst (λ (z : ℕ). (is_live_slot L z ≡ true) × (link L z own ≡ n)) (sym e) (c.1, c.2)
  listed_in p w (y ∷ ys) tail c x (inr i) = listed_in (suc y) (link L y next) ys tail c.4 x i

  pub to_listed : (g : ℕ → ℕ) → ((x : ℕ) → g (suc x) ≡ link L x next) → (p w : ℕ) (xs : List ℕ) (tail : ℕ) → g p ≡ w → Chain g p xs → Back (λ (x : ℕ). link L x prev) p xs
      → tail ≡ last_word p xs → ((x : ℕ) → In x xs → (is_live_slot L x ≡ true) × (link L x own ≡ n)) → Listed L own prev next n p w xs tail
  to_listed g k p w [] tail e c b t h = (sym e ∙ c, sym t)
  to_listed g k p w (x ∷ xs) tail e c b t h =
      let q = h x (inl refl) in
      (sym e ∙ c.0, q.0, q.1, b.0, to_listed g k (suc x) (link L x next) xs tail (k x) c.1 b.1 t (λ y i. h y (inr i)))

module _ (L : List ℕ) (g : ℕ → ℕ) (k : (x : ℕ) → g (suc x) ≡ link L x NEXT-DEP) where
  pub free_next : (p w : ℕ) (xs : List ℕ) → g p ≡ w → FreeList L w xs → Chain g p xs
  free_next p w [] e c = e ∙ c
  free_next p w (x ∷ xs) e c = (e ∙ c.0, free_next (suc x) (link L x NEXT-DEP) xs (k x) c.3)

  pub to_free : (p w : ℕ) (xs : List ℕ) → g p ≡ w → Chain g p xs → ((x : ℕ) → In x xs → (x < slot_room L) × (is_live_slot L x ≡ false)) → FreeList L w xs
  to_free p w [] e c h = sym e ∙ c
  to_free p w (x ∷ xs) e c h =
      let q = h x (inl refl) in
      (sym e ∙ c.0, q.0, q.1, to_free (suc x) (link L x NEXT-DEP) xs (k x) c.1 (λ y i. h y (inr i)))

pub free_in : (L : List ℕ) (w : ℕ) (xs : List ℕ) → FreeList L w xs → (x : ℕ) → In x xs → (x < slot_room L) × (is_live_slot L x ≡ false)
free_in L w [] c x x4 = elim x4 [ ]
free_in L w (y ∷ ys) c x (inl e) = subst (λ (z : ℕ). (z < slot_room L) × (is_live_slot L z ≡ false)) (sym e) (c.1, c.2)
free_in L w (y ∷ ys) c x (inr i) = free_in L (link L y NEXT-DEP) ys c.3 x i
