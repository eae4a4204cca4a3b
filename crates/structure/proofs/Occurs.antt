-- Members, once or not, by how often they stand in a list. Assumes nothing.
use mathlib.Core.Path.{◌≡◌, refl, sym, subst}
use mathlib.Core.Logic.{inl, inr}
use mathlib.Core.List.{List, [], ◌∷◌}
use Prim.Native.Nat.{ℕ, ◌≤◌}
use native.Mathlib.Omega.{arith}
use lib.Dec.{eqb}
use borrow.Author.Tests.{eq-eqb, ne_eqb, eqb-true}
use Rattle.lists.specs.Sum.{occ, All}
use Rattle.lists.proofs.SumLaws.{bit_true, bit_false, bit_le, occ_nil, occ_cons}
use Rattle.meaning.specs.WellFormed.{In, Once}
use Rattle.meaning.proofs.Laws.{either}

pub in_occ : (x : ℕ) (xs : List ℕ) → In x xs → 1 ≤ occ x xs
in_occ x [] x'' = elim x'' [ ]
in_occ x (y ∷ ys) (inl e) = omega (arith, occ_cons x y ys, bit_true (eqb x y) (eq-eqb x y e))
in_occ x (y ∷ ys) (inr i) = omega (arith, occ_cons x y ys, in_occ x ys i)

pub occ_in : (x : ℕ) (xs : List ℕ) → 1 ≤ occ x xs → In x xs
occ_in x [] h = absurd (omega (arith, occ_nil x))
occ_in x (y ∷ ys) h = either (eqb x y) (λ e. inl (eqb-true x y e)) (λ e. inr (occ_in x ys (omega (arith, occ_cons x y ys, bit_false (eqb x y) e))))

not_in : (x : ℕ) (xs : List ℕ) → (In x xs → ⊥) → occ x xs ≡ 0
not_in x [] h = occ_nil x
not_in x (y ∷ ys) h = omega (arith, occ_cons x y ys, bit_false (eqb x y) (ne_eqb x y (λ e. h (inl e))), not_in x ys (λ i. h (inr i)))

pub once_occ : (xs : List ℕ) → Once xs → (x : ℕ) → occ x xs ≤ 1
once_occ [] o x = omega (arith, occ_nil x)
once_occ (y ∷ ys) o x =
    let rest = once_occ ys o.1 x in
    either (eqb x y) (λ e. omega (arith, occ_cons x y ys, bit_le (eqb x y), not_in x ys (λ i. o.0 (subst (λ (z : ℕ). In z ys) (eqb-true x y e) i))))
    (λ e. omega (arith, occ_cons x y ys, bit_false (eqb x y) e))

pub occ_once : (xs : List ℕ) → ((x : ℕ) → In x xs → occ x xs ≤ 1) → Once xs
occ_once [] h = tt
occ_once (y ∷ ys) h = (
  (λ i. omega (arith, h y (inl refl), occ_cons y y ys, bit_true (eqb y y) (eq-eqb y y refl), in_occ y ys i)),
  occ_once ys (λ x i. omega (arith, h x (inr i), occ_cons x y ys)),
)

pub in_once : (x : ℕ) (xs : List ℕ) → Once xs → In x xs → occ x xs ≡ 1
in_once x xs o i = omega (arith, once_occ xs o x, in_occ x xs i)

pub all_in : (R : ℕ → Type 0) (xs : List ℕ) → All R xs → (x : ℕ) → In x xs → R x
all_in R [] a x x4 = elim x4 [ ]
all_in R (y ∷ ys) a x (inl e) = subst R (sym e) a.0
all_in R (y ∷ ys) a x (inr i) = all_in R ys a.1 x i

pub in_all : (R : ℕ → Type 0) (xs : List ℕ) → ((x : ℕ) → In x xs → R x) → All R xs
in_all R [] h = tt
in_all R (y ∷ ys) h = (h y (inl refl), in_all R ys (λ x i. h x (inr i)))
