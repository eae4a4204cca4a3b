-- Live slots: they lie in the table, no more are live than there are slots, a store to another field keeps their number, a release lowers it by one and a take
-- raises it; last freed first.
-- Assumes nothing.
use mathlib.Core.Path.{◌≡◌, refl, sym, ap, ap₂, ◌∙◌}
use mathlib.Core.Bool.{Bool, true, false, not, false≢true}
use mathlib.Core.List.{List}
use Prim.Native.Nat.{ℕ, zero, suc, ◌+◌, ◌*◌, ◌/◌, ◌<◌, ◌≤◌}
use native.Mathlib.Decide.{ℕ_discrete, dec_lt}
use native.Mathlib.Omega.{arith}
use lib.Dec.{eqb}
use lib.ListN.{length, get_or, set, length-set, get_or-eq_default}
use lib.Seq.{get_or-set_same, get_or-set_other}
use borrow.Author.Tests.{eq-eqb}
use Rattle.primitive.specs.Rows.{has_field}
use Rattle.primitive.proofs.RowLaws.{has, field_is, same_field, other_record, other_field, length-set_field, header_kept, field_after_header}
use Rattle.linking.specs.Free.{is_live_slot, one, live_below, slots, live, taken, released}
use Rattle.primitive.specs.Words.{FREE, LIVE, NEXT-DEP, link, set_link}

has_live : has_field 8 7 ≡ true
has_live = has 8 7 (omega arith) (omega arith)

-- ---- what the mark of a slot says
module _ (l : List ℕ) (s : ℕ) where
  pub live_marked : is_live_slot l s ≡ true → link l s LIVE ≡ 0 → ⊥
  unfolding is_live_slot
  live_marked h e = false≢true (sym (rw (eq-eqb _ _ e)) ∙ h)

  cleared : link l s LIVE ≡ 0 → is_live_slot l s ≡ false
  unfolding is_live_slot
  cleared e = rw (eq-eqb _ _ e)

  pub live_in : is_live_slot l s ≡ true → suc s * 8 + 7 < length l
  live_in h = go (dec_lt (suc s * 8 + 7) (length l))
    where
      go : Dec (suc s * 8 + 7 < length l) → suc s * 8 + 7 < length l
      go (yes k) = k
      go (no k) =
          let o : length l ≤ suc s * 8 + 7 = omega arith in
          absurd (live_marked h (field_is 8 l s 7 has_live ∙ get_or-eq_default l 0 o))

  -- ---- the two ways of a release
  pub released_live : is_live_slot l s ≡ true → released l s ≡ set (set_link (set_link l s LIVE 0) s NEXT-DEP (get_or l FREE 0)) FREE (suc s)
  unfolding released
  released_live h = rw (h, released)

  pub released_dead : is_live_slot l s ≡ false → released l s ≡ l
  unfolding released
  released_dead h = rw (h, released)

  pub marked_as : (m : List ℕ) (i : ℕ) → link m i LIVE ≡ link l s LIVE → is_live_slot m i ≡ is_live_slot l s
  unfolding is_live_slot
  marked_as m i e = ap (λ (x : ℕ). not (eqb x 0)) e

-- ---- counting
pub below_le : (l : List ℕ) (n : ℕ) → live_below l n ≤ n
unfolding live_below
below_le l zero = omega arith
below_le l (suc n) = go (is_live_slot l n) (below_le l n)
  where
    go : (b : Bool) → live_below l n ≤ n → live_below l n + one b ≤ suc n
    go true h = omega arith
    go false h = omega arith

pub live_le : (l : List ℕ) → live l ≤ slots l
unfolding live
live_le l = below_le l (slots l)

module _ (l m : List ℕ) where
  below_same : (n : ℕ) → ((i : ℕ) → i < n → is_live_slot m i ≡ is_live_slot l i) → live_below m n ≡ live_below l n
  unfolding live_below
  below_same zero h = refl
  below_same (suc n) h = ap₂ (λ (x : ℕ) (b : Bool). x + one b) (below_same n (λ i k. h i (omega arith))) (h n (omega arith))

  below_less : (s : ℕ) → is_live_slot l s ≡ true → is_live_slot m s ≡ false → ((i : ℕ) → (i ≡ s → ⊥) → is_live_slot m i ≡ is_live_slot l i)
      → (n : ℕ) → s < n → live_below l n ≡ suc (live_below m n)
  unfolding live_below
  below_less s p q h zero k = absurd (omega arith)
  below_less s p q h (suc n) k = go (ℕ_discrete s n) (below_less s p q h n)
    where
      go : Dec (s ≡ n) → (s < n → live_below l n ≡ suc (live_below m n)) → live_below l n + one (is_live_slot l n) ≡ suc (live_below m n + one (is_live_slot m n))
      go (yes e) ih =
          let a : one (is_live_slot l n) ≡ 1 = ap (λ (i : ℕ). one (is_live_slot l i)) (sym e) ∙ ap one p in
          let b : one (is_live_slot m n) ≡ 0 = ap (λ (i : ℕ). one (is_live_slot m i)) (sym e) ∙ ap one q in
          omega (arith, below_same n (λ i j. h i (λ z. omega arith)))
      go (no e) ih =
          let a : one (is_live_slot m n) ≡ one (is_live_slot l n) = ap one (h n (λ z. e (sym z))) in
          omega (arith, ih (omega arith))

  pub live_same : length m ≡ length l → ((i : ℕ) → is_live_slot m i ≡ is_live_slot l i) → live m ≡ live l
  unfolding live
  live_same e h = ap (λ (n : ℕ). live_below m (n / 8)) e ∙ below_same (slots l) (λ i k. h i)

-- ---- what a store does to the number
module _ (l : List ℕ) (s f v : ℕ) (other : eqb LIVE f ≡ false) where
  pub marks_stored : (i : ℕ) → is_live_slot (set_link l s f v) i ≡ is_live_slot l i
  marks_stored i = marked_as l i (set_link l s f v) i (other_field 8 l s i f 7 v other)

  pub live_stored : live (set_link l s f v) ≡ live l
  live_stored = live_same l (set_link l s f v) (length-set_field 8 l s f v) marks_stored

head_marks : (l : List ℕ) (v i : ℕ) → is_live_slot (set l FREE v) i ≡ is_live_slot l i
head_marks l v i = marked_as l i (set l FREE v) i (field_after_header 8 l i 7 v 6 (omega arith))

pub live_head : (l : List ℕ) (v : ℕ) → live (set l FREE v) ≡ live l
live_head l v = live_same l (set l FREE v) (length-set l FREE v) (head_marks l v)

pub live_freed : (l : List ℕ) (s : ℕ) → is_live_slot l s ≡ true → live l ≡ suc (live (set_link l s LIVE 0))
unfolding live
live_freed l s h =
    let m = set_link l s LIVE 0 in
    let e : length m ≡ length l = length-set_field 8 l s LIVE 0 in
    let i = live_in l s h in
    below_less l m s h (cleared m s (same_field 8 l s 7 0 has_live i))
    (λ i d. marked_as l i m i (other_record 8 l s i 7 7 0 d)) (slots l) (omega arith)
    ∙ ap (λ (n : ℕ). suc (live_below m (n / 8))) (sym e)

one_more : (l : List ℕ) (s : ℕ) → is_live_slot l s ≡ false → suc s * 8 + 7 < length l → live (set_link l s LIVE 1) ≡ suc (live l)
unfolding live is_live_slot
one_more l s d h =
    let m = set_link l s LIVE 1 in
    let e : length m ≡ length l = length-set_field 8 l s LIVE 1 in
    ap (λ (n : ℕ). live_below m (n / 8)) e
    ∙ below_less m l s (ap (λ (x : ℕ). not (eqb x 0)) (same_field 8 l s 7 1 has_live h)) d
    (λ i k. sym (marked_as l i m i (other_record 8 l s i 7 7 1 k))) (slots l) (omega arith)

pub live_released : (l : List ℕ) (s : ℕ) → is_live_slot l s ≡ true → live l ≡ suc (live (released l s))
live_released l s h =
    let a = set_link l s LIVE 0 in
    let b = set_link a s NEXT-DEP (get_or l FREE 0) in
    live_freed l s h
    ∙ ap suc (sym (ap live (released_live l s h) ∙ live_head b (suc s) ∙ live_stored a s NEXT-DEP (get_or l FREE 0) refl))

-- a slot that is not live stays so, and the released one is not live
pub released_freed : (l : List ℕ) (s : ℕ) → is_live_slot (released l s) s ≡ false
released_freed l s = go (is_live_slot l s) refl
  where
    go : (b : Bool) → is_live_slot l s ≡ b → is_live_slot (released l s) s ≡ false
    go false h = ap (λ (m : List ℕ). is_live_slot m s) (released_dead l s h) ∙ h
    go true h =
        let a = set_link l s LIVE 0 in
        let b = set_link a s NEXT-DEP (get_or l FREE 0) in
        ap (λ (m : List ℕ). is_live_slot m s) (released_live l s h)
        ∙ head_marks b (suc s) s
        ∙ marks_stored a s NEXT-DEP (get_or l FREE 0) refl s
        ∙ cleared a s (same_field 8 l s 7 0 has_live (live_in l s h))

pub released_others : (l : List ℕ) (s i : ℕ) → (i ≡ s → ⊥) → is_live_slot (released l s) i ≡ is_live_slot l i
released_others l s i d = go (is_live_slot l s) refl
  where
    go : (b : Bool) → is_live_slot l s ≡ b → is_live_slot (released l s) i ≡ is_live_slot l i
    go false h = ap (λ (m : List ℕ). is_live_slot m i) (released_dead l s h)
    go true h =
        let a = set_link l s LIVE 0 in
        let b = set_link a s NEXT-DEP (get_or l FREE 0) in
        ap (λ (m : List ℕ). is_live_slot m i) (released_live l s h)
        ∙ head_marks b (suc s) i
        ∙ marks_stored a s NEXT-DEP (get_or l FREE 0) refl i
        ∙ marked_as l i a i (other_record 8 l s i 7 7 0 d)

-- ---- last freed first: the next slot to be taken is the one that was released, and the list is as it was
pub last_first : (l : List ℕ) (s : ℕ) → is_live_slot l s ≡ true → get_or (released l s) FREE 0 ≡ suc s
last_first l s h =
    let b = set_link (set_link l s LIVE 0) s NEXT-DEP (get_or l FREE 0) in
    let e : length b ≡ length l = length-set_field 8 (set_link l s LIVE 0) s NEXT-DEP (get_or l FREE 0) ∙ length-set_field 8 l s LIVE 0 in
    ap (λ (m : List ℕ). get_or m FREE 0) (released_live l s h) ∙ get_or-set_same b FREE (suc s) 0 (omega (arith, live_in l s h))

pub next_free : (l : List ℕ) (s : ℕ) → is_live_slot l s ≡ true → link (released l s) s NEXT-DEP ≡ get_or l FREE 0
next_free l s h =
    let a = set_link l s LIVE 0 in
    let b = set_link a s NEXT-DEP (get_or l FREE 0) in
    ap (λ (m : List ℕ). link m s NEXT-DEP) (released_live l s h)
    ∙ field_after_header 8 b s 6 (suc s) 6 (omega arith)
    ∙ same_field 8 a s 6 (get_or l FREE 0) (has 8 6 (omega arith) (omega arith)) (omega (arith, live_in l s h, length-set_field 8 l s LIVE 0))

-- ---- taking a slot that is not live makes one more
pub live_taken : (l : List ℕ) (s : ℕ) → get_or l FREE 0 ≡ suc s → is_live_slot l s ≡ false → suc s * 8 + 7 < length l
    → live (taken l).links ≡ suc (live l)
unfolding taken
live_taken l s e d h =
    rw e (live_head (set_link l s LIVE 1) (link l s NEXT-DEP) ∙ added)
  where
    added : live (set_link l s LIVE 1) ≡ suc (live l)
    added = one_more l s d h

pub length_released : (l : List ℕ) (s : ℕ) → length (released l s) ≡ length l
length_released l s = go (is_live_slot l s) refl
  where
    go : (b : Bool) → is_live_slot l s ≡ b → length (released l s) ≡ length l
    go true h =
        let a = set_link l s LIVE 0 in
        ap length (released_live l s h)
        ∙ length-set (set_link a s NEXT-DEP (get_or l FREE 0)) FREE (suc s)
        ∙ length-set_field 8 a s NEXT-DEP (get_or l FREE 0)
        ∙ length-set_field 8 l s LIVE 0
    go false h = ap length (released_dead l s h)

-- the cycle stays
pub header_released : (l : List ℕ) (s : ℕ) → get_or (released l s) 0 0 ≡ get_or l 0 0
header_released l s = go (is_live_slot l s) refl
  where
    go : (b : Bool) → is_live_slot l s ≡ b → get_or (released l s) 0 0 ≡ get_or l 0 0
    go true h =
        let a = set_link l s LIVE 0 in
        let b = set_link a s NEXT-DEP (get_or l FREE 0) in
        ap (λ (m : List ℕ). get_or m 0 0) (released_live l s h)
        ∙ get_or-set_other b FREE 0 (suc s) 0 (λ e. omega arith)
        ∙ header_kept 8 a s NEXT-DEP (get_or l FREE 0) 0 (omega arith)
        ∙ header_kept 8 l s LIVE 0 0 (omega arith)
    go false h = ap (λ (m : List ℕ). get_or m 0 0) (released_dead l s h)
