-- Flags bit by bit: `|` is the or of each bit, `&` the and, `& !` leaves the bits that are not cleared, and a mask of one bit tests it.
-- Assumes nothing.
use mathlib.Core.Path.{◌≡◌, refl, sym, ap, ◌∙◌}
use mathlib.Core.Bool.{Bool, true, false, not, ◌&&◌, ◌||◌}
use Prim.Native.Nat.{ℕ, zero, suc, ◌+◌, ◌-◌, ◌*◌, ◌/◌, ◌%◌, ◌^◌, ◌<◌}
use native.Mathlib.Nat.{mod-lt, not-suc-le-zero, pow-suc, zero-mul}
use native.Mathlib.Decide.{ℕ_discrete}
use native.Mathlib.Omega.{arith}
use lib.Bits.{bit_and, bit_or, or_shr, or_mod, and_shr, and_mod, and_high}
use lib.Dec.{eqb}
use lib.Pow.{pow_pos}
use borrow.Author.Tests.{ne_eqb}
use Rattle.flags.specs.Flags.{bit, named}
use Rattle.flags.specs.declared.Named.{Named}

-- ---- each bit of a join and of a mask: an operation digit by digit is one operation at each bit
digit : (n : ℕ) → n % 2 < 2
digit n = mod-lt n (omega arith)

digits : (P : ℕ → ℕ → Type 0) → P 0 0 → P 0 1 → P 1 0 → P 1 1 → (x y : ℕ) → x < 2 → y < 2 → P x y
digits P p q r s zero zero h k = p
digits P p q r s zero (suc zero) h k = q
digits P p q r s (suc zero) zero h k = r
digits P p q r s (suc zero) (suc zero) h k = s
digits P p q r s (suc (suc x)) y h k = absurd (omega arith)
digits P p q r s zero (suc (suc y)) h k = absurd (omega arith)
digits P p q r s (suc zero) (suc (suc y)) h k = absurd (omega arith)

module _ (op : ℕ → ℕ → ℕ) (o : Bool → Bool → Bool) where
  bit_op :
      ((a b k : ℕ) → op a b / 2 ^ k ≡ op (a / 2 ^ k) (b / 2 ^ k))
      → ((a b k : ℕ) → op a b % 2 ^ k ≡ op (a % 2 ^ k) (b % 2 ^ k))
      → ((x y : ℕ) → x < 2 → y < 2 → eqb (op x y) 1 ≡ o (eqb x 1) (eqb y 1))
      → (k a b : ℕ) → bit k (op a b) ≡ o (bit k a) (bit k b)
  unfolding bit
  bit_op high low each k a b =
      ap (λ (x : ℕ). eqb (x % 2) 1) (high a b k)
      ∙ ap (λ (x : ℕ). eqb x 1) (low (a / 2 ^ k) (b / 2 ^ k) 1)
      ∙ each (a / 2 ^ k % 2) (b / 2 ^ k % 2) (digit (a / 2 ^ k)) (digit (b / 2 ^ k))

pub bit-bit_or : (k a b : ℕ) → bit k (bit_or a b) ≡ (bit k a || bit k b)
bit-bit_or = bit_op bit_or ◌||◌ or_shr or_mod (digits (λ (x y : ℕ). eqb (bit_or x y) 1 ≡ (eqb x 1 || eqb y 1)) refl refl refl refl)

pub bit-bit_and : (k a b : ℕ) → bit k (bit_and a b) ≡ (bit k a && bit k b)
bit-bit_and = bit_op bit_and ◌&&◌ and_shr and_mod (digits (λ (x y : ℕ). eqb (bit_and x y) 1 ≡ (eqb x 1 && eqb y 1)) refl refl refl refl)

-- ---- a law of every byte by one computed test
abbrev pub every : (ℕ → Bool) → ℕ → Bool
every p zero = true
every p (suc n) = elim (p n) [ true ↦ every p n | false ↦ false ]

pub every_at : (p : ℕ → Bool) (n : ℕ) → every p n ≡ true → (k : ℕ) → k < n → p k ≡ true
every_at p zero t k h = absurd (not-suc-le-zero h)
every_at p (suc n) t k h = go (p n) refl t (λ u. every_at p n u k) (ℕ_discrete k n)
  where
    go : (b : Bool) → p n ≡ b → elim b [ true ↦ every p n | false ↦ false ] ≡ true → (every p n ≡ true → k < n → p k ≡ true)
        → Dec (k ≡ n) → p k ≡ true
    go true e u more (yes s) = ap p s ∙ e
    go true e u more (no s) = more u (omega arith)
    go false e u more d = let z : ◌≡◌ {A = ℕ} 0 1 = cc in absurd (omega arith)

-- ---- a byte's complement has the other bits
opposite : Bool → Bool → Bool
opposite true b = not b
opposite false b = b

opposite_not : (a b : Bool) → opposite a b ≡ true → b ≡ not a
unfolding opposite
opposite_not true true e = sym e
opposite_not true false e = refl
opposite_not false true e = refl
opposite_not false false e = e

others : every (λ (k : ℕ). every (λ (b : ℕ). opposite (bit k b) (bit k (255 - b))) 256) 8 ≡ true
unfolding bit opposite
others = refl

pub bit_not : (k b : ℕ) → k < 8 → b < 256 → bit k (255 - b) ≡ not (bit k b)
bit_not k b h l =
    opposite_not (bit k b) (bit k (255 - b))
    (every_at (λ (b : ℕ). opposite (bit k b) (bit k (255 - b))) 256
    (every_at (λ (k : ℕ). every (λ (b : ℕ). opposite (bit k b) (bit k (255 - b))) 256) 8 others k h) b l)

pub bit_clear : (k a b : ℕ) → k < 8 → b < 256 → bit k (bit_and a (255 - b)) ≡ (bit k a && not (bit k b))
bit_clear k a b h l = bit-bit_and k a (255 - b) ∙ ap (λ (x : Bool). bit k a && x) (bit_not k b h l)

-- ---- a mask of one bit
tested : (x p : ℕ) → x < 2 → 0 < p → not (eqb (x * p) 0) ≡ eqb x 1
tested zero p h k = rw (zero-mul p)
tested (suc zero) p h k = let d : 1 * p ≡ 0 → ⊥ = λ e. omega arith in rw (ne_eqb (1 * p) 0 d)
tested (suc (suc x)) p h k = absurd (omega arith)

pub mask_bit : (k f : ℕ) → not (eqb (bit_and f (2 ^ k)) 0) ≡ bit k f
unfolding bit
mask_bit k f =
    let e : 2 ^ (1 + k) - 2 ^ k ≡ 2 ^ k = power k in
    ap (λ (x : ℕ). not (eqb x 0)) (ap (bit_and f) (sym e) ∙ and_high f 1 k)
    ∙ tested (f / 2 ^ k % 2) (2 ^ k) (digit (f / 2 ^ k)) (pow_pos k)
  where
    power : (k : ℕ) → 2 ^ (1 + k) - 2 ^ k ≡ 2 ^ k
    power k = let s : 1 + k ≡ suc k = omega arith in rw (s, pow-suc 2 k) (omega arith)

-- ---- as the code names them: a mask, and whether it is not zero
pub tells : (k f : ℕ) {m : ℕ} {r : Bool} → m ≡ bit_and f (2 ^ k) → r ≡ not (eqb m 0) → r ≡ bit k f
tells k f e u = u ∙ ap (λ (x : ℕ). not (eqb x 0)) e ∙ mask_bit k f

pub names_all : (f : ℕ) {a b c d e g : Bool}
    → a ≡ bit 0 f → b ≡ bit 1 f → c ≡ bit 2 f → d ≡ bit 3 f → e ≡ bit 4 f → g ≡ bit 5 f
    → ◌≡◌ {A = Named} (record { mutable = a; watching = b; recursed_check = c; recursed = d; dirty = e; pending = g }) (named f)
unfolding named
names_all f p q r s t u = rw (p, q, r, s, t, u)
