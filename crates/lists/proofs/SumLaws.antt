-- Sums, counts and occurrences, and the pigeonhole step. Assumes nothing.
use mathlib.Core.Path.{◌≡◌, refl, sym, ◌∙◌, subst}
use mathlib.Core.Bool.{Bool, true, false}
use mathlib.Core.List.{List, [], ◌∷◌}
use Prim.Native.Nat.{ℕ, zero, suc, ◌+◌, ◌<◌, ◌≤◌}
use native.Mathlib.Omega.{arith}
use lib.Dec.{eqb, ltb}
use lib.ListN.{length}
use borrow.Author.Tests.{ne_eqb, eqb-true, eqb-false, ltb-true, ltb-false}
use Rattle.lists.specs.Sum.{bit, sum, count, occ, All}

pub bit_le : (b : Bool) → bit b ≤ 1
bit_le true = omega arith
bit_le false = omega arith

pub bit_true : (b : Bool) → b ≡ true → bit b ≡ 1
bit_true b e = rw e

pub bit_false : (b : Bool) → b ≡ false → bit b ≡ 0
bit_false b e = rw e

pub clash : (b : Bool) → b ≡ true → b ≡ false → ⊥
clash b t f = let z : ◌≡◌ {A = ℕ} 1 0 = sym (bit_true b t) ∙ bit_false b f in omega arith

pub occ_nil : (x : ℕ) → occ x [] ≡ 0
unfolding occ
occ_nil x = refl

pub occ_cons : (x y : ℕ) (ys : List ℕ) → occ x (y ∷ ys) ≡ bit (eqb x y) + occ x ys
unfolding occ
occ_cons x y ys = refl

pub sum_le : (f g : ℕ → ℕ) (n : ℕ) → ((x : ℕ) → x < n → f x ≤ g x) → sum f n ≤ sum g n
unfolding sum
sum_le f g zero h = omega arith
sum_le f g (suc n) h = omega (arith, sum_le f g n (λ x l. h x (omega arith)), h n (omega arith))

-- two sums that are equal, one at most the other at each place, are equal at each place
pub sum_tight : (f g : ℕ → ℕ) (n : ℕ) → ((x : ℕ) → x < n → f x ≤ g x) → sum g n ≤ sum f n → (x : ℕ) → x < n → f x ≡ g x
unfolding sum
sum_tight f g zero h e x l = absurd (omega arith)
sum_tight f g (suc n) h e x l = at (sum_tight f g n (λ y m. h y (omega arith)) (omega (arith, h n (omega arith)))) (eqb x n) refl
  where
    below : sum f n ≤ sum g n
    below = sum_le f g n (λ y m. h y (omega arith))

    at : ((y : ℕ) → y < n → f y ≡ g y) → (b : Bool) → eqb x n ≡ b → f x ≡ g x
    at rest true q =
        let i : x ≡ n = eqb-true x n q in
        let top : f n ≡ g n = omega (arith, below, h n (omega arith)) in
        rw i top
    at rest false q =
        let i : x ≡ n → ⊥ = eqb-false x n q in
        rest x (omega arith)

pub sum_add : (f g : ℕ → ℕ) (n : ℕ) → sum (λ (x : ℕ). f x + g x) n ≡ sum f n + sum g n
unfolding sum
sum_add f g zero = refl
sum_add f g (suc n) = omega (arith, sum_add f g n)

pub sum_same : (f g : ℕ → ℕ) (n : ℕ) → ((x : ℕ) → x < n → f x ≡ g x) → sum f n ≡ sum g n
unfolding sum
sum_same f g zero h = refl
sum_same f g (suc n) h = omega (arith, sum_same f g n (λ x l. h x (omega arith)), h n (omega arith))

pub sum_zero : (f : ℕ → ℕ) (n : ℕ) → ((x : ℕ) → x < n → f x ≡ 0) → sum f n ≡ 0
unfolding sum
sum_zero f zero h = refl
sum_zero f (suc n) h = omega (arith, sum_zero f n (λ x l. h x (omega arith)), h n (omega arith))

pub sum_one : (n : ℕ) → sum (λ (x : ℕ). 1) n ≡ n
unfolding sum
sum_one zero = refl
sum_one (suc n) = omega (arith, sum_one n)

-- the sum of the indicator of y is 1 where y is below n, and 0 else
pub sum_at : (y n : ℕ) → y < n → sum (λ (x : ℕ). bit (eqb x y)) n ≡ 1
unfolding sum
sum_at y zero l = absurd (omega arith)
sum_at y (suc n) l = at (sum_at y n) (eqb n y) refl
  where
    at : (y < n → sum (λ (x : ℕ). bit (eqb x y)) n ≡ 1) → (b : Bool) → eqb n y ≡ b → sum (λ (x : ℕ). bit (eqb x y)) n + bit (eqb n y) ≡ 1
    at rest true q =
        let i : n ≡ y = eqb-true n y q in
        let z = sum_zero (λ (x : ℕ). bit (eqb x y)) n (λ x m. bit_false (eqb x y) (ne_eqb x y (omega arith))) in
        omega (arith, z, bit_true (eqb n y) q)
    at rest false q =
        let i : n ≡ y → ⊥ = eqb-false n y q in
        omega (arith, rest (omega arith), bit_false (eqb n y) q)

pub sum_past : (y n : ℕ) → n ≤ y → sum (λ (x : ℕ). bit (eqb x y)) n ≡ 0
sum_past y n l = sum_zero _ n (λ x m. bit_false (eqb x y) (ne_eqb x y (omega arith)))

pub sum_at_le : (y n : ℕ) → sum (λ (x : ℕ). bit (eqb x y)) n ≤ 1
sum_at_le y n = at (ltb y n) refl
  where
    at : (b : Bool) → ltb y n ≡ b → sum (λ (x : ℕ). bit (eqb x y)) n ≤ 1
    at true q = omega (arith, sum_at y n (ltb-true y n q))
    at false q = omega (arith, sum_past y n (ltb-false y n q))

-- the occurrences of all numbers below n, of a list of such numbers, are its length
pub sum_occ : (xs : List ℕ) (n : ℕ) → All (λ (x : ℕ). x < n) xs → sum (λ (x : ℕ). occ x xs) n ≡ length xs
unfolding occ
sum_occ [] n a = sum_zero _ n (λ x l. refl)
sum_occ (y ∷ ys) n a = sum_add (λ (x : ℕ). bit (eqb x y)) (λ (x : ℕ). occ x ys) n ∙ omega (arith, sum_at y n a.0, sum_occ ys n a.1)

pub sum_swap : (f : ℕ → ℕ → ℕ) (m n : ℕ) → sum (λ (x : ℕ). sum (f x) m) n ≡ sum (λ (k : ℕ). sum (λ (x : ℕ). f x k) n) m
unfolding sum
sum_swap f zero n = sum_zero _ n (λ x l. refl)
sum_swap f (suc m) n = sum_add (λ (x : ℕ). sum (f x) m) (λ (x : ℕ). f x m) n ∙ omega (arith, sum_swap f m n)

pub occ_none : (R : ℕ → Type 0) (x : ℕ) (xs : List ℕ) → All R xs → (R x → ⊥) → occ x xs ≡ 0
unfolding occ
occ_none R x [] a h = refl
occ_none R x (y ∷ ys) a h = omega (arith, bit_false (eqb x y) (ne_eqb x y (λ e. h (subst R (sym e) a.0))), occ_none R x ys a.1 h)

-- THE PIGEONHOLE STEP. A list without repeats of numbers below n that satisfy p, as long as there are such numbers, has each of them.
pub pigeon : (p : ℕ → Bool) (n : ℕ) (xs : List ℕ) → All (λ (x : ℕ). x < n) xs → All (λ (x : ℕ). p x ≡ true) xs → ((x : ℕ) → occ x xs ≤ 1)
    → length xs ≡ count p n → (x : ℕ) → x < n → p x ≡ true → occ x xs ≡ 1
pigeon p n xs low all once long x l e =
    sum_tight (λ (y : ℕ). occ y xs) (λ (y : ℕ). bit (p y)) n (λ y m. each y (p y) refl) (omega (arith, sum_occ xs n low)) x l ∙ bit_true (p x) e
  where
    each : (y : ℕ) (b : Bool) → p y ≡ b → occ y xs ≤ bit (p y)
    each y true q = omega (arith, once y, bit_true (p y) q)
    each y false q = omega (arith, occ_none (λ (z : ℕ). p z ≡ true) y xs all (λ t. clash (p y) t q))
      where
        clash : (b : Bool) → b ≡ true → b ≡ false → ⊥
        clash b t f = let z : ◌≡◌ {A = ℕ} 1 0 = sym (bit_true b t) ∙ bit_false b f in omega arith
