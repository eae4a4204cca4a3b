-- Lists of slots as the words of tables hold them: what a store does to them. Slot x is named by the word x + 1, and 0 names nothing. Assumes nothing.
use mathlib.Core.Path.{◌≡◌, refl, sym, ap, ap₂, ◌∙◌, subst}
use mathlib.Core.Logic.{inl, inr}
use mathlib.Core.List.{List, [], ◌∷◌, ◌++◌, append-nil}
use Prim.Native.Nat.{ℕ, suc}
use native.Mathlib.Omega.{arith}
use Rattle.meaning.specs.Links.{remove}
use Rattle.meaning.specs.WellFormed.{In, Once}
use Rattle.meaning.proofs.Laws.{in_left, in_right, in_cases}
use Rattle.meaning.proofs.Members.{remove_absent, remove_head, remove_append, once_right, once_apart}
use Rattle.structure.specs.Chains.{first_word, last_word, Chain, Back}

-- ---- lists
pub in_split : (l : ℕ) (xs : List ℕ) → In l xs → (ys : List ℕ) × (zs : List ℕ) × (xs ≡ ys ++ l ∷ zs)
in_split l [] x' = elim x' [ ]
in_split l (x ∷ xs) (inl e) = ([], xs, ap (λ (z : ℕ). z ∷ xs) (sym e))
in_split l (x ∷ xs) (inr i) = let r = in_split l xs i in (x ∷ r.0, r.1, ap (λ (z : List ℕ). x ∷ z) r.2)

pub in_mid : (l : ℕ) (ys zs : List ℕ) → In l (ys ++ l ∷ zs)
in_mid l ys zs = in_right l ys (l ∷ zs) (inl refl)

-- without the one in the middle; with it
pub in_drop : (x l : ℕ) (ys zs : List ℕ) → In x (ys ++ zs) → In x (ys ++ l ∷ zs)
in_drop x l ys zs i = in_cases x ys zs i (λ j. in_left x ys (l ∷ zs) j) (λ j. in_right x ys (l ∷ zs) (inr j))

pub mid_apart : (l : ℕ) (ys zs : List ℕ) → Once (ys ++ l ∷ zs) → In l (ys ++ zs) → ⊥
mid_apart l ys zs o i = in_cases l ys zs i (λ j. once_apart ys (l ∷ zs) o l j (inl refl)) (λ j. (once_right ys (l ∷ zs) o).0 j)

pub remove_mid : (l : ℕ) (ys zs : List ℕ) → Once (ys ++ l ∷ zs) → remove l (ys ++ l ∷ zs) ≡ ys ++ zs
remove_mid l ys zs o =
    sym (remove_append l ys (l ∷ zs))
    ∙ ap₂ (λ (a b : List ℕ). a ++ b) (remove_absent l ys (λ j. once_apart ys (l ∷ zs) o l j (inl refl))) (remove_head l zs (once_right ys (l ∷ zs) o).0)

-- ---- words: w names none of them
abbrev pub Off : ℕ → List ℕ → Type 0
Off w xs = (y : ℕ) → In y xs → w ≡ suc y → ⊥

pub off_zero : (xs : List ℕ) → Off 0 xs
off_zero xs y i e = omega arith

pub off_slot : (x : ℕ) (xs : List ℕ) → (In x xs → ⊥) → Off (suc x) xs
off_slot x xs h y i e = h (subst (λ (z : ℕ). In z xs) (same x y e) i)
  where
    same : (x y : ℕ) → suc x ≡ suc y → y ≡ x
    same x y e = omega arith

-- ---- the first and the last
pub last_off : (w p : ℕ) (ys : List ℕ) → (w ≡ p → ⊥) → Off w ys → w ≡ last_word p ys → ⊥
last_off w p [] h o e = h e
last_off w p (y ∷ ys) h o e = last_off w (suc y) ys (o y (inl refl)) (λ z i. o z (inr i)) e

pub first_off : (w : ℕ) (zs : List ℕ) → (w ≡ 0 → ⊥) → Off w zs → w ≡ first_word zs → ⊥
first_off w [] h o e = h e
first_off w (z ∷ zs) h o e = o z (inl refl) e

pub last_join : (p z : ℕ) (ys zs : List ℕ) → last_word p (ys ++ z ∷ zs) ≡ last_word (suc z) zs
last_join p z [] zs = refl
last_join p z (y ∷ ys) zs = last_join (suc y) z ys zs

-- a property of the word of the last, and of the first
pub last_all : (P : ℕ → Type 0) (p : ℕ) (ys : List ℕ) → P p → ((y : ℕ) → In y ys → P (suc y)) → P (last_word p ys)
last_all P p [] a h = a
last_all P p (y ∷ ys) a h = last_all P (suc y) ys (h y (inl refl)) (λ z i. h z (inr i))

pub first_all : (P : ℕ → Type 0) (zs : List ℕ) → P 0 → ((y : ℕ) → In y zs → P (suc y)) → P (first_word zs)
first_all P [] a h = a
first_all P (z ∷ zs) a h = h z (inl refl)

pub tail_end : (p : ℕ) (ys zs : List ℕ) → first_word zs ≡ 0 → last_word p (ys ++ zs) ≡ last_word p ys
tail_end p ys [] e = ap (last_word p) (append-nil ys)
tail_end p ys (z ∷ zs) e = absurd (omega arith)

pub tail_mid : (p l : ℕ) (ys zs : List ℕ) → (first_word zs ≡ 0 → ⊥) → last_word p (ys ++ zs) ≡ last_word p (ys ++ l ∷ zs)
tail_mid p l ys [] h = absurd (h refl)
tail_mid p l ys (z ∷ zs) h = last_join p z ys zs ∙ sym (last_join p l ys (z ∷ zs))

-- ---- chains: N is the next word before the stores, M after them
pub chain_at : (N : ℕ → ℕ) (p : ℕ) (ys zs : List ℕ) → Chain N p (ys ++ zs) → N (last_word p ys) ≡ first_word zs
chain_at N p [] [] c = c
chain_at N p [] (z ∷ zs) c = c.0
chain_at N p (y ∷ ys) zs c = chain_at N (suc y) ys zs c.1

pub back_at : (P : ℕ → ℕ) (p l : ℕ) (ys zs : List ℕ) → Back P p (ys ++ l ∷ zs) → P l ≡ last_word p ys
back_at P p l [] zs b = b.0
back_at P p l (y ∷ ys) zs b = back_at P (suc y) l ys zs b.1

pub chain_after : (N : ℕ → ℕ) (p l : ℕ) (ys zs : List ℕ) → Chain N p (ys ++ l ∷ zs) → N (suc l) ≡ first_word zs
chain_after N p l [] zs c = chain_at N (suc l) [] zs c.1
chain_after N p l (y ∷ ys) zs c = chain_after N (suc y) l ys zs c.1

-- from another word that goes on alike
pub chain_from : (N M : ℕ → ℕ) (p q : ℕ) (xs : List ℕ) → M q ≡ N p → ((y : ℕ) → In y xs → M (suc y) ≡ N (suc y)) → Chain N p xs → Chain M q xs
chain_from N M p q [] e h c = e ∙ c
chain_from N M p q (x ∷ xs) e h c = (e ∙ c.0, chain_from N M (suc x) (suc x) xs (h x (inl refl)) (λ y i. h y (inr i)) c.1)

pub chain_frame : (N M : ℕ → ℕ) (p : ℕ) (xs : List ℕ) → M p ≡ N p → ((y : ℕ) → In y xs → M (suc y) ≡ N (suc y)) → Chain N p xs → Chain M p xs
chain_frame N M p xs e h c = chain_from N M p p xs e h c

pub back_frame : (P Q : ℕ → ℕ) (p : ℕ) (xs : List ℕ) → ((y : ℕ) → In y xs → Q y ≡ P y) → Back P p xs → Back Q p xs
back_frame P Q p [] h b = tt
back_frame P Q p (x ∷ xs) h b = (h x (inl refl) ∙ b.0, back_frame P Q (suc x) xs (λ y i. h y (inr i)) b.1)

pub chain_ext : (N M : ℕ → ℕ) (p : ℕ) (xs : List ℕ) → ((w : ℕ) → M w ≡ N w) → Chain N p xs → Chain M p xs
chain_ext N M p xs h c = chain_frame N M p xs (h p) (λ y i. h (suc y)) c

pub back_ext : (P Q : ℕ → ℕ) (p : ℕ) (xs : List ℕ) → ((y : ℕ) → Q y ≡ P y) → Back P p xs → Back Q p xs
back_ext P Q p xs h b = back_frame P Q p xs (λ y i. h y) b

-- one store takes l out of the next words: at the word before it
pub chain_remove : (N M : ℕ → ℕ) (p l : ℕ) (ys zs : List ℕ) → Off p (ys ++ l ∷ zs) → Once (ys ++ l ∷ zs)
    → M (last_word p ys) ≡ first_word zs → ((w : ℕ) → (w ≡ last_word p ys → ⊥) → M w ≡ N w)
    → Chain N p (ys ++ l ∷ zs) → Chain M p (ys ++ zs)
chain_remove N M p l [] [] f o e h c = e
chain_remove N M p l [] (z ∷ zs) f o e h c = (
  e,
  chain_frame N M (suc z) zs (h (suc z) (λ q. f z (inr (inl refl)) (sym q))) (λ y i. h (suc y) (λ q. f y (inr (inr i)) (sym q))) c.1.1,
)
chain_remove N M p l (y ∷ ys) zs f o e h c = (
  h p (last_off p (suc y) ys (f y (inl refl)) (λ z i. f z (inr (in_left z ys (l ∷ zs) i)))) ∙ c.0,
  chain_remove N M (suc y) l ys zs (off_slot y (ys ++ l ∷ zs) o.0) o.1 e h c.1,
)

-- two stores put it in: at the word before it, and at its own
pub chain_insert : (N M : ℕ → ℕ) (p l : ℕ) (ys zs : List ℕ) → Off p (ys ++ zs) → Once (ys ++ zs) → (suc l ≡ p → ⊥) → (In l (ys ++ zs) → ⊥)
    → M (last_word p ys) ≡ suc l → M (suc l) ≡ first_word zs → ((w : ℕ) → (w ≡ last_word p ys → ⊥) → (w ≡ suc l → ⊥) → M w ≡ N w)
    → Chain N p (ys ++ zs) → Chain M p (ys ++ l ∷ zs)
chain_insert N M p l [] [] f o g d e i h c = (e, i)
chain_insert N M p l [] (z ∷ zs) f o g d e i h c = (
  e,
  (
    i,
    chain_frame N M (suc z) zs (h (suc z) (λ q. f z (inl refl) (sym q)) (λ q. off_slot l (z ∷ zs) d z (inl refl) (sym q))) (λ y j. h (suc y) (λ q. f y (inr j) (sym q)) (λ q. off_slot l (z ∷ zs) d y (inr j) (sym q))) c.1,
  ),
)
chain_insert N M p l (y ∷ ys) zs f o g d e i h c = (
  h p (last_off p (suc y) ys (f y (inl refl)) (λ z j. f z (inr (in_left z ys zs j)))) (λ q. g (sym q)) ∙ c.0,
  chain_insert N M (suc y) l ys zs (off_slot y (ys ++ zs) o.0) o.1 (λ q. off_slot l (y ∷ (ys ++ zs)) d y (inl refl) q) (λ j. d (inr j)) e i h c.1,
)

-- the same for the words before; only a slot that is there is stored to
pub back_remove : (P Q : ℕ → ℕ) (p l : ℕ) (ys zs : List ℕ) → Once (ys ++ l ∷ zs)
    → ((z : ℕ) → first_word zs ≡ suc z → Q z ≡ last_word p ys) → ((y : ℕ) → (suc y ≡ first_word zs → ⊥) → Q y ≡ P y)
    → Back P p (ys ++ l ∷ zs) → Back Q p (ys ++ zs)
back_remove P Q p l [] [] o e h b = tt
back_remove P Q p l [] (z ∷ zs) o e h b = (e z refl, back_frame P Q (suc z) zs (λ y i. h y (λ q. off_slot z zs o.1.0 y i (sym q))) b.1.1)
back_remove P Q p l (y ∷ ys) zs o e h b = (
  h y (first_off (suc y) zs (λ q. omega arith) (off_slot y zs (λ i. o.0 (in_right y ys (l ∷ zs) (inr i))))) ∙ b.0,
  back_remove P Q (suc y) l ys zs o.1 e h b.1,
)

pub back_insert : (P Q : ℕ → ℕ) (p l : ℕ) (ys zs : List ℕ) → Once (ys ++ zs) → (In l (ys ++ zs) → ⊥)
    → Q l ≡ last_word p ys → ((z : ℕ) → first_word zs ≡ suc z → Q z ≡ suc l) → ((y : ℕ) → (suc y ≡ first_word zs → ⊥) → (y ≡ l → ⊥) → Q y ≡ P y)
    → Back P p (ys ++ zs) → Back Q p (ys ++ l ∷ zs)
back_insert P Q p l [] [] o d i e h b = (i, tt)
back_insert P Q p l [] (z ∷ zs) o d i e h b = (
  i,
  (e z refl, back_frame P Q (suc z) zs (λ y j. h y (λ q. off_slot z zs o.0 y j (sym q)) (λ q. d (inr (subst (λ (x : ℕ). In x zs) q j)))) b.1),
)
back_insert P Q p l (y ∷ ys) zs o d i e h b = (
  h y (first_off (suc y) zs (λ q. omega arith) (off_slot y zs (λ j. o.0 (in_right y ys zs j)))) (λ q. d (inl (sym q))) ∙ b.0,
  back_insert P Q (suc y) l ys zs o.1 (λ j. d (inr j)) i e h b.1,
)
