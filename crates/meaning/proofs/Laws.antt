-- Laws used everywhere: a test's two ways, a column with one place changed, membership. Assumes nothing.
use Rattle.std.specs.Prelude.{None, Some}
use mathlib.Core.Path.{◌≡◌, refl, sym, ◌∙◌, subst}
use mathlib.Core.Logic.{inl, inr}
use mathlib.Core.Bool.{Bool, true, false, ◌||◌}
use mathlib.Core.List.{List, [], ◌∷◌, ◌++◌}
use Prim.Native.Nat.{ℕ}
use native.Mathlib.Omega.{arith}
use lib.Dec.{T, eqb}
use borrow.Author.Tests.{eq-eqb, ne_eqb, eqb-true, eqb-false}
use Rattle.meaning.specs.State.{St, up}
use Rattle.meaning.specs.Links.{stop, provided}
use Rattle.meaning.specs.WellFormed.{In}

-- ---- Booleans
pub false≢true : {C : Type 0} → false ≡ true → C
false≢true e = absurd (subst T (sym e) tt)

pub clash : {C : Type 0} {b : Bool} → b ≡ true → b ≡ false → C
clash p q = false≢true (sym q ∙ p)

-- either way, knowing which
pub either {ℓ} : {C : Type ℓ} (b : Bool) → (b ≡ true → C) → (b ≡ false → C) → C
either true f g = f refl
either false f g = g refl

-- a property of a branch
pub branch {ℓ κ} : {A : Type ℓ} (P : A → Type κ) (b : Bool) {x y : A} → (b ≡ true → P x) → (b ≡ false → P y) → P (elim b [ true ↦ x | false ↦ y ])
branch P true f g = f refl
branch P false f g = g refl

-- and of two branches of one test
pub branches {ℓ κ ι} : {A : Type ℓ} {B : Type κ} (P : A → B → Type ι) (b : Bool) {x y : A} {v w : B} → (b ≡ true → P x v) → (b ≡ false → P y w) → P (elim b [ true ↦ x | false ↦ y ]) (elim b [ true ↦ v | false ↦ w ])
branches P true f g = f refl
branches P false f g = g refl

-- ---- `provided`: the test holds
pub provided_same : (b : Bool) (s : St) → b ≡ true → provided b s ≡ s
unfolding provided
provided_same b s h = branch (λ (x : St). x ≡ s) b (λ e. refl) (λ e. clash h e)

pub provided_so : (P : St → Type 0) (b : Bool) {s : St} → b ≡ true → P s → P (provided b s)
provided_so P b {s} h p = subst P (sym (provided_same b s h)) p

-- or it may not
pub provided_by : (P : St → Type 0) (b : Bool) {s : St} → P s → P (stop s) → P (provided b s)
unfolding provided
provided_by P b p q = branch P b (λ e. p) (λ e. q)

-- ---- or
pub or_true : (b : Bool) → b || true ≡ true
or_true true = refl
or_true false = refl

pub or_first : (a b : Bool) → a ≡ true → a || b ≡ true
or_first true b e = refl
or_first false b e = false≢true e

pub or_last : (a b : Bool) → b ≡ true → a || b ≡ true
or_last true b e = refl
or_last false b e = e

pub or_one : (a b : Bool) → a || b ≡ true → a ≡ false → b ≡ true
or_one true b e f = false≢true (sym f)
or_one false b e f = e

pub or_none : (a b : Bool) → a ≡ false → b ≡ false → a || b ≡ false
or_none true b e f = e
or_none false b e f = f

pub or_false : (b : Bool) → b || false ≡ b
or_false true = refl
or_false false = refl

pub or_left : (a b : Bool) → a || b ≡ false → a ≡ false
or_left true b e = e
or_left false b e = refl

pub or_right : (a b : Bool) → a || b ≡ false → b ≡ false
or_right true b e = false≢true (sym e)
or_right false b e = e

-- ---- options
pub none_some : {C : Type 0} {A : Type 0} {x : A} → None ≡ Some x → C
none_some e = let z : ◌≡◌ {A = ℕ} 0 1 = cc in absurd (omega arith)

pub same_some : {A : Type 0} {x y : A} → Some x ≡ Some y → x ≡ y
same_some e = cc

-- ---- columns
module _ {ℓ} {A : Type ℓ} (f : ℕ → A) (n : ℕ) (v : A) where
  pub up_same : up f n v n ≡ v
  unfolding up
  up_same = rw (eq-eqb n n refl, up)

  pub up_other : (m : ℕ) → (m ≡ n → ⊥) → up f n v m ≡ f m
  unfolding up
  up_other m h = rw (ne_eqb m n h, up)

  -- a property of a place after a change at n: of what was put there, and of what stood elsewhere
  pub up_by {κ} : (P : A → Type κ) (m : ℕ) → (m ≡ n → P v) → ((m ≡ n → ⊥) → P (f m)) → P (up f n v m)
  unfolding up
  up_by P m g h = branch P (eqb m n) (λ e. g (eqb-true m n e)) (λ e. h (eqb-false m n e))

-- ---- lists
pub in_left : (n : ℕ) (xs ys : List ℕ) → In n xs → In n (xs ++ ys)
in_left n [] ys x' = elim x' [ ]
in_left n (x ∷ xs) ys (inl e) = inl e
in_left n (x ∷ xs) ys (inr i) = inr (in_left n xs ys i)

pub in_right : (n : ℕ) (xs ys : List ℕ) → In n ys → In n (xs ++ ys)
in_right n [] ys i = i
in_right n (x ∷ xs) ys i = inr (in_right n xs ys i)

pub in_cases {ℓ} : {C : Type ℓ} (n : ℕ) (xs ys : List ℕ) → In n (xs ++ ys) → (In n xs → C) → (In n ys → C) → C
in_cases n [] ys i f g = g i
in_cases n (x ∷ xs) ys (inl e) f g = f (inl e)
in_cases n (x ∷ xs) ys (inr i) f g = in_cases n xs ys i (λ j. f (inr j)) g
