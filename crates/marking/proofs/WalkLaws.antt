-- The walk of propagate, turn by turn, as the code takes it. Assumes nothing.
use Rattle.std.specs.Prelude.{Option, Some, None}
use mathlib.Core.Path.{◌≡◌, refl, sym, ap, subst, ◌∙◌}
use mathlib.Core.Bool.{true, false}
use mathlib.Core.List.{List}
use Prim.Native.Nat.{ℕ, zero, suc, ◌-◌}
use native.Mathlib.Omega.{arith}
use lib.ListN.{get_or, set, replicate}
use lib.Seq.{set-get_or}
use Rattle.primitive.specs.Slots.{slot_of}
use Rattle.stack.specs.Stack.{pushed, pushed_len, top}
use Rattle.primitive.specs.declared.slots.Slot.{Slot}
use Rattle.primitive.specs.declared.slots.Slot.TheVariants.{At, Nothing}
use Rattle.marking.specs.Fields.{subs, sub, next_sub_of, mutable, has}
use Rattle.marking.specs.Visits.{visit, after, reached}
use Rattle.marking.specs.Walks.{Place, place, Rest, below, down, back, along, onward, turn, walked}

-- ---- where the way goes down
module _ (N : List ℕ) (n f : ℕ) where
  pub below_open : {w : ℕ} {o : Slot} → has f mutable ≡ true → w ≡ subs N n → o ≡ slot_of w → o ≡ below N n f
  unfolding below
  below_open t p u = rw (t, below, ← p, ← u)

  pub below_shut : has f mutable ≡ false → Nothing ≡ below N n f
  unfolding below
  below_shut t = rw (t, below)

module _ (L : List ℕ) (w : Place) (x : ℕ) {v : ℕ} {o : Slot} (p : v ≡ next_sub_of L x) (u : o ≡ slot_of v) where
  pub down_push : {y : ℕ} → o ≡ At y → down L w x ≡ place x v (pushed w.stack w.len w.next) (pushed_len w.stack w.len)
  unfolding down
  down_push d = rw (← p, ← u, d, down, ← p)

  pub down_flat : o ≡ Nothing → down L w x ≡ place x w.next w.stack w.len
  unfolding down
  down_flat d = rw (← p, ← u, d, down)

-- ---- a turn
pub walk_end : (L N : List ℕ) (k : ℕ) (w : Place) → k ≡ 0 → walked L k N w ≡ N
unfolding walked
walk_end L N k w h = rw h

-- n is the slot's subscriber, M what reaching it makes of the tables, f the flags that are left, o the way down
module _ (L N : List ℕ) {k j : ℕ} (w : Place) {n f : ℕ} {M : List ℕ} {o : Slot} (h : k ≡ suc j) (i : n ≡ sub L w.link)
    (g : f ≡ after (visit L N w.link n)) (e : M ≡ reached L N w.link n) (u : o ≡ below M n f) where
  turned : walked L k N w ≡ onward (walked L j) L M w o
  unfolding turn walked
  turned = rw (h, ← i, ← e, ← g, ← u)

  pub turn_down : {x : ℕ} → o ≡ At x → walked L k N w ≡ walked L j M (down L w x)
  unfolding onward
  turn_down d = turned ∙ rw d

  pub turn_flat : {v : Slot} → o ≡ Nothing → v ≡ slot_of w.next → walked L k N w ≡ along (walked L j) L M w v
  unfolding onward
  turn_flat d e = turned ∙ rw (d, ← e)

-- ---- along and back; p is the rest of the walk
module _ (p : Rest) (L N : List ℕ) where
  pub along_slot : (w : Place) {x v : ℕ} {o : Slot} → o ≡ At x → v ≡ next_sub_of L x → along p L N w o ≡ p N (place x v w.stack w.len)
  unfolding along
  along_slot w d e = rw (d, ← e)

  pub along_none : (w : Place) {o : Slot} → o ≡ Nothing → along p L N w o ≡ back p L N w.stack w.len
  unfolding along
  along_none w d = rw d

  module _ (A : List ℕ) where
    pub back_end : (len : ℕ) {t : Option ℕ} → t ≡ top A len → t ≡ None → back p L N A len ≡ N
    unfolding back
    back_end zero e d = refl
    back_end (suc n) e d = let z : ◌≡◌ {A = ℕ} 0 1 = cc in absurd (omega arith)

    pub back_slot : (len : ℕ) {t : Option ℕ} {w x v : ℕ} {o : Slot} → t ≡ top A len → t ≡ Some w → o ≡ slot_of w → o ≡ At x → v ≡ next_sub_of L x
        → back p L N A len ≡ p N (place x v A (len - 1))
    unfolding back
    back_slot zero e d u g i = let z : ◌≡◌ {A = ℕ} 0 1 = cc in absurd (omega arith)
    back_slot (suc n) {t} {w} e d u g i =
        let a : w ≡ get_or A n 0 = cc in
        let b : suc n - 1 ≡ n = omega arith in
        rw (← a, ← u, g, back, ← i, b)

    pub back_none : (len : ℕ) {t : Option ℕ} {w : ℕ} {o : Slot} → t ≡ top A len → t ≡ Some w → o ≡ slot_of w → o ≡ Nothing → back p L N A len ≡ back p L N A (len - 1)
    unfolding back
    back_none zero e d u g = let z : ◌≡◌ {A = ℕ} 0 1 = cc in absurd (omega arith)
    back_none (suc n) {t} {w} e d u g =
        let a : w ≡ get_or A n 0 = cc in
        let b : suc n - 1 ≡ n = omega arith in
        rw (← a, ← u, g, back, b)

-- ---- a stack of nothing: one more on it changes no word, and from it no way goes back
clear : (k x : ℕ) → ◌≡◌ {A = ℕ} (get_or {A = ℕ} (replicate k 0) x 0) 0
clear zero x = refl
clear (suc k) zero = refl
clear (suc k) (suc x) = clear k x

pub push_nothing : (k len : ℕ) → pushed (replicate k 0) len 0 ≡ replicate k 0
push_nothing k len = ap (λ (w : ℕ). set {A = ℕ} (replicate k 0) len w) (sym (clear k len)) ∙ set-get_or (replicate k 0) len 0

pub back_nothing : (p : Rest) (L N : List ℕ) (k len : ℕ) → back p L N (replicate k 0) len ≡ N
unfolding back
back_nothing p L N k zero = refl
back_nothing p L N k (suc n) =
    subst (λ (w : ℕ). elim (slot_of w) [ At x ↦ p N (place x (next_sub_of L x) (replicate k 0) n) | Nothing ↦ back p L N (replicate k 0) n ] ≡ N) (sym (clear k n)) (back_nothing p L N k n)
