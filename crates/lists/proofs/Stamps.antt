-- Membership by a table of stamps that is never cleared: the numbers of the list are stamped v, which nothing before was. Assumes nothing.
use mathlib.Core.Path.{◌≡◌, refl, sym, ap, ◌∙◌}
use mathlib.Core.Bool.{Bool, true, false}
use mathlib.Core.List.{List, [], ◌∷◌}
use Prim.Native.Nat.{ℕ, ◌<◌, ◌≤◌}
use native.Mathlib.Omega.{arith}
use lib.Dec.{eqb, ltb}
use lib.ListN.{length, get_or, set, length-set}
use lib.Seq.{get_or-set_same, get_or-set_other, set_out}
use borrow.Author.Tests.{eqb-true, eqb-false, ltb-true, ltb-false}
use Rattle.lists.specs.Sum.{occ}
use Rattle.lists.specs.Once.{stamp}
use Rattle.lists.proofs.SumLaws.{bit_true, bit_false, occ_nil, occ_cons}

module _ (v d : ℕ) where
  -- what has the stamp, and had it not before, is in the list
  pub stamped_sound : (s xs : List ℕ) → (get_or s d 0 ≡ v → ⊥) → get_or (stamp s v xs) d 0 ≡ v → 1 ≤ occ d xs
  unfolding stamp
  stamped_sound s [] n e = absurd (n e)
  stamped_sound s (x ∷ xs) n e = at (λ f. stamped_sound (set s x v) xs (λ q. n (sym (get_or-set_other s x d v 0 f) ∙ q)) e) (eqb d x) refl
    where
      at : ((d ≡ x → ⊥) → 1 ≤ occ d xs) → (c : Bool) → eqb d x ≡ c → 1 ≤ occ d (x ∷ xs)
      at rest true q = omega (arith, occ_cons d x xs, bit_true (eqb d x) q)
      at rest false q = omega (arith, occ_cons d x xs, rest (eqb-false d x q))

  -- a stamp stays
  stays : (s xs : List ℕ) → d < length s → get_or s d 0 ≡ v → get_or (stamp s v xs) d 0 ≡ v
  unfolding stamp
  stays s [] l e = e
  stays s (x ∷ xs) l e = stays (set s x v) xs (omega (arith, length-set s x v)) (at (eqb d x) refl)
    where
      at : (c : Bool) → eqb d x ≡ c → get_or (set s x v) d 0 ≡ v
      at true q = let i : d ≡ x = eqb-true d x q in rw (sym i) (get_or-set_same s d v 0 l)
      at false q = get_or-set_other s x d v 0 (eqb-false d x q) ∙ e

  pub stamped_complete : (s xs : List ℕ) → d < length s → 1 ≤ occ d xs → get_or (stamp s v xs) d 0 ≡ v
  unfolding stamp
  stamped_complete s [] l h = absurd (omega (arith, occ_nil d))
  stamped_complete s (x ∷ xs) l h =
      let k : d < length (set s x v) = omega (arith, length-set s x v) in
      at (stamped_complete (set s x v) xs k) (λ e. stays (set s x v) xs k e) (eqb d x) refl
    where
      at : (1 ≤ occ d xs → get_or (stamp (set s x v) v xs) d 0 ≡ v) → (get_or (set s x v) d 0 ≡ v → get_or (stamp (set s x v) v xs) d 0 ≡ v)
          → (c : Bool) → eqb d x ≡ c → get_or (stamp (set s x v) v xs) d 0 ≡ v
      at rest keep true q = let i : d ≡ x = eqb-true d x q in keep (rw (sym i) (get_or-set_same s d v 0 l))
      at rest keep false q = rest (omega (arith, occ_cons d x xs, bit_false (eqb d x) q))

  -- no stamp is above v: so the next node's stamp, v + 1, is new everywhere
  pub stamp_le : (s xs : List ℕ) → ((y : ℕ) → get_or s y 0 ≤ v) → (y : ℕ) → get_or (stamp s v xs) y 0 ≤ v
  unfolding stamp
  stamp_le s [] h y = h y
  stamp_le s (x ∷ xs) h y = stamp_le (set s x v) xs (λ z. at z (eqb z x) refl (ltb z (length s)) refl) y
    where
      at : (z : ℕ) (c : Bool) → eqb z x ≡ c → (b : Bool) → ltb z (length s) ≡ b → get_or (set s x v) z 0 ≤ v
      at z true q true o = let i : z ≡ x = eqb-true z x q in let g : get_or (set s x v) z 0 ≡ v = rw (sym i) (get_or-set_same s z v 0 (ltb-true z (length s) o)) in omega (arith, g)
      at z true q false o =
          let i : z ≡ x = eqb-true z x q in
          let g : set s x v ≡ s = set_out s x v (omega (arith, i, ltb-false z (length s) o)) in
          let k : get_or (set s x v) z 0 ≡ get_or s z 0 = ap (λ (u : List ℕ). get_or u z 0) g in
          omega (arith, k, h z)
      at z false q b o = let g : get_or (set s x v) z 0 ≡ get_or s z 0 = get_or-set_other s x z v 0 (eqb-false z x q) in omega (arith, g, h z)

pub length_stamp : (s : List ℕ) (v : ℕ) (xs : List ℕ) → length (stamp s v xs) ≡ length s
unfolding stamp
length_stamp s v [] = refl
length_stamp s v (x ∷ xs) = length_stamp (set s x v) v xs ∙ length-set s x v
