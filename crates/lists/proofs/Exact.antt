-- Counting: lists whose slots are marked and name their node hold each marked slot once exactly when they are together as long as there are marked slots. Assumes nothing.
use mathlib.Core.Path.{◌≡◌, refl, sym, ◌∙◌}
use mathlib.Core.Bool.{Bool, true, false, not}
use mathlib.Core.List.{List}
use Prim.Native.Nat.{ℕ, ◌+◌, ◌<◌, ◌≤◌}
use native.Mathlib.Omega.{arith}
use lib.Dec.{eqb, ltb}
use lib.ListN.{length}
use borrow.Author.Tests.{eq-eqb, eqb-true, eqb-false, ltb-true, ltb-false}
use Rattle.lists.specs.Sum.{bit, sum, count, occ, All}
use Rattle.lists.proofs.SumLaws.{bit_le, bit_true, bit_false, clash, sum_le, sum_tight, sum_add, sum_same, sum_zero, sum_one, sum_at, sum_past, sum_at_le, sum_occ, sum_swap, occ_none}

-- the marked and the unmarked are all
pub count_not : (p : ℕ → Bool) (n : ℕ) → count p n + count (λ (x : ℕ). not (p x)) n ≡ n
count_not p n =
    sym (sum_add (λ (x : ℕ). bit (p x)) (λ (x : ℕ). bit (not (p x))) n)
    ∙ sum_same _ (λ (x : ℕ). 1) n (λ x l. either (p x))
    ∙ sum_one n
  where
    either : (b : Bool) → bit b + bit (not b) ≡ 1
    either true = refl
    either false = refl

-- N lists ls k; a slot of ls k is marked, below n and names k; none has a repeat
module _ (mark : ℕ → Bool) (own : ℕ → ℕ) (n N : ℕ) (ls : ℕ → List ℕ)
    (low : (k : ℕ) → k < N → All (λ (x : ℕ). x < n) (ls k))
    (is : (k : ℕ) → k < N → All (λ (x : ℕ). mark x ≡ true) (ls k))
    (names : (k : ℕ) → k < N → All (λ (x : ℕ). own x ≡ k) (ls k))
    (single : (k : ℕ) → k < N → (x : ℕ) → occ x (ls k) ≤ 1) where
  -- how often x stands in all of them
  everywhere : ℕ → ℕ
  everywhere x = sum (λ (k : ℕ). occ x (ls k)) N

  here : (x k : ℕ) → k < N → occ x (ls k) ≤ bit (eqb k (own x))
  here x k h = at (eqb k (own x)) refl
    where
      at : (b : Bool) → eqb k (own x) ≡ b → occ x (ls k) ≤ bit (eqb k (own x))
      at true q = omega (arith, single k h x, bit_true (eqb k (own x)) q)
      at false q = omega (arith, occ_none (λ (y : ℕ). own y ≡ k) x (ls k) (names k h) (λ e. eqb-false k (own x) q (sym e)))

  at_most : (x : ℕ) → everywhere x ≤ bit (mark x)
  unfolding everywhere
  at_most x = at (mark x) refl
    where
      at : (b : Bool) → mark x ≡ b → sum (λ (k : ℕ). occ x (ls k)) N ≤ bit (mark x)
      at true q = omega (arith, sum_le (λ (k : ℕ). occ x (ls k)) (λ (k : ℕ). bit (eqb k (own x))) N (λ k h. here x k h), sum_at_le (own x) N, bit_true (mark x) q)
      at false q = omega (arith, sum_zero (λ (k : ℕ). occ x (ls k)) N (λ k h. occ_none (λ (y : ℕ). mark y ≡ true) x (ls k) (is k h) (λ e. clash (mark x) e q)))

  summed : sum everywhere n ≡ sum (λ (k : ℕ). length (ls k)) N
  unfolding everywhere
  summed = sum_swap (λ (x k : ℕ). occ x (ls k)) N n ∙ sum_same _ _ N (λ k h. sum_occ (ls k) n (low k h))

  pub lengths_le : sum (λ (k : ℕ). length (ls k)) N ≤ count mark n
  lengths_le = omega (arith, summed, sum_le everywhere (λ (x : ℕ). bit (mark x)) n (λ x l. at_most x))

  -- long enough: each marked slot stands once in the list of the node that it names
  pub each_once : count mark n ≤ sum (λ (k : ℕ). length (ls k)) N → (x : ℕ) → x < n → mark x ≡ true → (own x < N) × (occ x (ls (own x)) ≡ 1)
  unfolding everywhere
  each_once e x l m = at (ltb (own x) N) refl
    where
      one : sum (λ (k : ℕ). occ x (ls k)) N ≡ 1
      one = sum_tight everywhere (λ (y : ℕ). bit (mark y)) n (λ y h. at_most y) (omega (arith, summed)) x l ∙ bit_true (mark x) m

      le : sum (λ (k : ℕ). occ x (ls k)) N ≤ sum (λ (k : ℕ). bit (eqb k (own x))) N
      le = sum_le _ _ N (λ k h. here x k h)

      at : (b : Bool) → ltb (own x) N ≡ b → (own x < N) × (occ x (ls (own x)) ≡ 1)
      at true q =
          let h : own x < N = ltb-true (own x) N q in (
            h,
            sum_tight (λ (k : ℕ). occ x (ls k)) (λ (k : ℕ). bit (eqb k (own x))) N (λ k i. here x k i) (omega (arith, one, sum_at (own x) N h)) (own x) h
                ∙ bit_true (eqb (own x) (own x)) (eq-eqb (own x) (own x) refl),
          )
      at false q = absurd (omega (arith, one, le, sum_past (own x) N (ltb-false (own x) N q)))

  -- and the other way round
  pub long_enough : ((x : ℕ) → x < n → mark x ≡ true → (own x < N) × (occ x (ls (own x)) ≡ 1)) → count mark n ≤ sum (λ (k : ℕ). length (ls k)) N
  unfolding everywhere
  long_enough e = omega (arith, summed, sum_le (λ (x : ℕ). bit (mark x)) everywhere n (λ x l. at x l (mark x) refl))
    where
      member : (x : ℕ) (h : own x < N) → occ x (ls (own x)) ≡ 1 → 1 ≤ sum (λ (k : ℕ). occ x (ls k)) N
      member x h o =
          omega (arith, sum_at (own x) N h, sum_le (λ (k : ℕ). bit (eqb k (own x))) (λ (k : ℕ). occ x (ls k)) N (λ k i. below k (eqb k (own x)) refl))
        where
          below : (k : ℕ) (b : Bool) → eqb k (own x) ≡ b → bit (eqb k (own x)) ≤ occ x (ls k)
          below k true q =
              let i : occ x (ls k) ≡ 1 = rw (eqb-true k (own x) q) o in
              omega (arith, i, bit_le (eqb k (own x)))
          below k false q = omega (arith, bit_false (eqb k (own x)) q)

      at : (x : ℕ) → x < n → (b : Bool) → mark x ≡ b → bit (mark x) ≤ everywhere x
      at x l true q = let r = e x l q in omega (arith, member x r.0 r.1, bit_le (mark x))
      at x l false q = omega (arith, bit_false (mark x) q)
