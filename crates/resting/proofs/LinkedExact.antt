-- The word test of the lists passes exactly those of which the first bullet holds. Assumes nothing.
use Rattle.std.specs.Prelude.{Option, Some, None}
use mathlib.Core.Path.{◌≡◌, refl, sym, ap, ◌∙◌, subst}
use mathlib.Core.Bool.{Bool, true, false, not}
use mathlib.Core.List.{List, [], ◌∷◌}
use Prim.Native.Nat.{ℕ, suc, ◌+◌, ◌-◌, ◌*◌, ◌/◌, ◌<◌, ◌≤◌}
use native.Mathlib.Omega.{arith}
use lib.Dec.{eqb, ltb}
use lib.ListN.{get_or, length, get_or-eq_default}
use borrow.Author.Tests.{eq-eqb, eqb-true, ltb-true, ltb-false, lt-ltb, not-true}
use Rattle.primitive.specs.Rows.{field}
use Rattle.primitive.proofs.RowLaws.{has, field_is}
use Rattle.lists.specs.Sum.{All, occ, count, sum}
use Rattle.lists.specs.Walk.{Chain, slots, leaves, on_left}
use Rattle.lists.specs.Each.{both}
use Rattle.lists.proofs.SumLaws.{clash}
use Rattle.lists.proofs.WalkLaws.{sound, complete, decode, each, once}
use Rattle.lists.proofs.Many.{sounds, completes}
use Rattle.lists.proofs.EachLaws.{both_true, true_both}
use Rattle.lists.proofs.Exact.{count_not, lengths_le, each_once, long_enough}
use Rattle.resting.specs.declared.linked.Side.{Side}
use Rattle.counting.specs.Counts.{counted_in, slot_room}
use Rattle.resting.specs.Linked.{subscribers, dependencies, is_live_slot, fits, spare, walks, frees, linked_in}
use Rattle.resting.specs.AtRest.{list_from, subs_of, deps_of, free_of, Listed, FreeList, Linked}

-- a live slot is there: what lies past the end reads 0
pub live_low : (l : List ℕ) (x : ℕ) → is_live_slot l x ≡ true → x < slot_room l
unfolding is_live_slot
live_low l x e = at (ltb (suc x * 8 + 7) (length l)) refl
  where
    at : (b : Bool) → ltb (suc x * 8 + 7) (length l) ≡ b → x < length l / 8 - 1
    at true q = omega (arith, ltb-true (suc x * 8 + 7) (length l) q)
    at false q =
        let z : field 8 l x 7 ≡ 0 = field_is 8 l x 7 (has 8 7 (omega arith) (omega arith)) ∙ get_or-eq_default l 0 {n = suc x * 8 + 7} (ltb-false (suc x * 8 + 7) (length l) q) in
        absurd (clash (eqb (field 8 l x 7) 0) (eq-eqb (field 8 l x 7) 0 z) (not-true (eqb (field 8 l x 7) 0) e))

-- ---- one side
module _ (l : List ℕ) (s : Side) where
  abbrev step : ℕ → ℕ
  step x = field 8 l x s.next

  abbrev ok : ℕ → ℕ → ℕ → Bool
  ok n p x = fits l s n p x

  fits_parts : (n p x : ℕ) → fits l s n p x ≡ true → (is_live_slot l x ≡ true) × (field 8 l x s.own ≡ n) × (field 8 l x s.prev ≡ p)
  unfolding fits
  fits_parts n p x e =
      let r = both_true (is_live_slot l x) (both (eqb (field 8 l x s.own) n) (eqb (field 8 l x s.prev) p)) e in
      let q = both_true (eqb (field 8 l x s.own) n) (eqb (field 8 l x s.prev) p) r.1 in
      (r.0, eqb-true _ _ q.0, eqb-true _ _ q.1)

  fits_all : (n p x : ℕ) → is_live_slot l x ≡ true → field 8 l x s.own ≡ n → field 8 l x s.prev ≡ p → fits l s n p x ≡ true
  unfolding fits
  fits_all n p x a b c = true_both _ _ a (true_both _ _ (eq-eqb _ _ b) (eq-eqb _ _ c))

  to_listed : (n p w : ℕ) (xs : List ℕ) (tail : ℕ) → Chain step (ok n) (λ (q : ℕ). eqb q tail) p w xs → Listed l s.own s.prev s.next n p w xs tail
  to_listed n p w [] tail c = (c.0, eqb-true _ _ c.1)
  to_listed n p w (x ∷ xs) tail c =
      let f = fits_parts n p x c.1 in
      (c.0, f.0, f.1, f.2, to_listed n (suc x) (step x) xs tail c.2)

  from_listed : (n p w : ℕ) (xs : List ℕ) (tail : ℕ) → Listed l s.own s.prev s.next n p w xs tail → Chain step (ok n) (λ (q : ℕ). eqb q tail) p w xs
  from_listed n p w [] tail c = (c.0, eq-eqb _ _ c.1)
  from_listed n p w (x ∷ xs) tail c = (c.0, fits_all n p x c.1 c.2 c.3, from_listed n (suc x) (step x) xs tail c.4)

-- the lists of all nodes on one side
module _ (t l : List ℕ) (s : Side) where
  abbrev fin : ℕ → ℕ → Bool
  fin n q = eqb q (field 16 t n s.tail)

  abbrev head : ℕ → ℕ
  head n = field 16 t n s.head

  abbrev ls : ℕ → List ℕ
  ls n = list_from l s.next (head n)

  abbrev Chains : Type 0
  Chains = (n : ℕ) → n < counted_in t → Chain (step l s) (ok l s n) (fin n) 0 (head n) (ls n)

  abbrev lens : ℕ
  lens = sum (λ (n : ℕ). length (ls n)) (counted_in t)

  abbrev EachOnce : Type 0
  EachOnce = (x : ℕ) → x < slot_room l → is_live_slot l x ≡ true → (field 8 l x s.own < counted_in t) × (occ x (ls (field 8 l x s.own)) ≡ 1)

  module _ (c : Chains) where
    side_low : (n : ℕ) → n < counted_in t → All (λ (x : ℕ). x < slot_room l) (ls n)
    side_low n h = each (step l s) (ok l s n) (fin n) (λ (x : ℕ). x < slot_room l) (λ p x e. live_low l x (fits_parts l s n p x e).0) 0 (head n) (ls n) (c n h)

    side_is : (n : ℕ) → n < counted_in t → All (λ (x : ℕ). is_live_slot l x ≡ true) (ls n)
    side_is n h = each (step l s) (ok l s n) (fin n) (λ (x : ℕ). is_live_slot l x ≡ true) (λ p x e. (fits_parts l s n p x e).0) 0 (head n) (ls n) (c n h)

    side_names : (n : ℕ) → n < counted_in t → All (λ (x : ℕ). field 8 l x s.own ≡ n) (ls n)
    side_names n h = each (step l s) (ok l s n) (fin n) (λ (x : ℕ). field 8 l x s.own ≡ n) (λ p x e. (fits_parts l s n p x e).1) 0 (head n) (ls n) (c n h)

    side_single : (n : ℕ) → n < counted_in t → (x : ℕ) → occ x (ls n) ≤ 1
    side_single n h x = once (step l s) (ok l s n) (fin n) 0 (head n) (ls n) (c n h) x

    side_le : lens ≤ count (is_live_slot l) (slot_room l)
    side_le = lengths_le (is_live_slot l) (λ (x : ℕ). field 8 l x s.own) (slot_room l) (counted_in t) ls side_low side_is side_names side_single

    side_once : count (is_live_slot l) (slot_room l) ≤ lens → EachOnce
    side_once = each_once (is_live_slot l) (λ (x : ℕ). field 8 l x s.own) (slot_room l) (counted_in t) ls side_low side_is side_names side_single

    side_enough : EachOnce → count (is_live_slot l) (slot_room l) ≤ lens
    side_enough = long_enough (is_live_slot l) (λ (x : ℕ). field 8 l x s.own) (slot_room l) (counted_in t) ls side_low side_is side_names side_single

-- ---- the free list is one list more, of the slots that are not live
module _ (l : List ℕ) where
  abbrev free_step : ℕ → ℕ
  free_step x = field 8 l x 6

  abbrev free_ok : ℕ → ℕ → Bool
  free_ok p x = spare l x

  abbrev free_fin : ℕ → Bool
  free_fin p = true

  abbrev off : ℕ → Bool
  off x = not (is_live_slot l x)

  spare_parts : (x : ℕ) → spare l x ≡ true → (x < slot_room l) × (off x ≡ true)
  unfolding spare
  spare_parts x e = let r = both_true (ltb x (slot_room l)) (off x) e in (ltb-true _ _ r.0, r.1)

  off_is : (x : ℕ) → is_live_slot l x ≡ false → off x ≡ true
  off_is x e = rw e

  spare_all : (x : ℕ) → x < slot_room l → is_live_slot l x ≡ false → spare l x ≡ true
  unfolding spare
  spare_all x a h = true_both _ _ (lt-ltb _ _ a) (off_is x h)

  to_free : (p w : ℕ) (xs : List ℕ) → Chain free_step free_ok free_fin p w xs → FreeList l w xs
  to_free p w [] c = c.0
  to_free p w (x ∷ xs) c = let f = spare_parts x c.1 in (c.0, f.0, not-true (is_live_slot l x) f.1, to_free (suc x) (free_step x) xs c.2)

  from_free : (p w : ℕ) (xs : List ℕ) → FreeList l w xs → Chain free_step free_ok free_fin p w xs
  from_free p w [] c = (c, refl)
  from_free p w (x ∷ xs) c = (c.0, spare_all x c.1 c.2, from_free (suc x) (free_step x) xs c.3)

  module _ (w : ℕ) (xs : List ℕ) (c : Chain free_step free_ok free_fin 0 w xs) where
    free_low : (k : ℕ) → k < 1 → All (λ (x : ℕ). x < slot_room l) xs
    free_low k h = each free_step free_ok free_fin (λ (x : ℕ). x < slot_room l) (λ p x e. (spare_parts x e).0) 0 w xs c

    free_is : (k : ℕ) → k < 1 → All (λ (x : ℕ). off x ≡ true) xs
    free_is k h = each free_step free_ok free_fin (λ (x : ℕ). off x ≡ true) (λ p x e. (spare_parts x e).1) 0 w xs c

    free_names : (k : ℕ) → k < 1 → All (λ (x : ℕ). 0 ≡ k) xs
    free_names k h = each free_step free_ok free_fin (λ (x : ℕ). 0 ≡ k) (λ p x e. omega arith) 0 w xs c

    free_single : (k : ℕ) → k < 1 → (x : ℕ) → occ x xs ≤ 1
    free_single k h x = once free_step free_ok free_fin 0 w xs c x

    free_le : length xs ≤ count off (slot_room l)
    unfolding sum
    free_le = omega (arith, lengths_le off (λ (x : ℕ). 0) (slot_room l) 1 (λ (k : ℕ). xs) free_low free_is free_names free_single)

    free_once : count off (slot_room l) ≤ length xs → (x : ℕ) → x < slot_room l → off x ≡ true → occ x xs ≡ 1
    unfolding sum
    free_once h x i e = (each_once off (λ (x : ℕ). 0) (slot_room l) 1 (λ (k : ℕ). xs) free_low free_is free_names free_single (omega (arith, h)) x i e).1

    free_enough : ((x : ℕ) → x < slot_room l → off x ≡ true → occ x xs ≡ 1) → count off (slot_room l) ≤ length xs
    unfolding sum
    free_enough h = omega (arith, long_enough off (λ (x : ℕ). 0) (slot_room l) 1 (λ (k : ℕ). xs) free_low free_is free_names free_single (λ x i e. (omega arith, h x i e)))

on_left_lem : (r : Option ℕ) (f : ℕ → Bool) → on_left r f ≡ true → (m : ℕ) × (r ≡ Some m) × (f m ≡ true)
on_left_lem (Some m) f e = (m, refl, e)
on_left_lem None f e = absurd (clash false e refl)

pub leaves_left : (r : Option ℕ) (m : ℕ) → leaves r m ≡ true → r ≡ Some m
leaves_left (Some a) m e = ap Some (eqb-true a m e)
leaves_left None m e = absurd (clash false e refl)

-- ---- the test is exact
pub linked_sound : (t l : List ℕ) → linked_in t l ≡ true → Linked t l
unfolding linked_in walks frees
linked_sound t l e =
    let n = slot_room l in
    let w = get_or l 6 0 in
    let r = on_left_lem (walks t l subscribers (counted_in t) n) _ e in
    let m = r.0 in
    let b = both_true (leaves (walks t l dependencies (counted_in t) n) m) _ r.2 in
    let s = sounds (step l subscribers) (ok l subscribers) (fin t l subscribers) (head t l subscribers) n (counted_in t) n m (omega arith) r.1 in
    let d = sounds (step l dependencies) (ok l dependencies) (fin t l dependencies) (head t l dependencies) n (counted_in t) n m (omega arith) (leaves_left (walks t l dependencies (counted_in t) n) m b.0) in
    let f = sound (free_step l) (free_ok l) (free_fin l) m 0 w 0 (leaves_left (frees l m w) 0 b.1) in
    let g = decode (free_step l) (free_ok l) (free_fin l) n 0 w (slots (free_step l) m w) f.0 (omega (arith, f.1, s.1)) in
    let fc : Chain (free_step l) (free_ok l) (free_fin l) 0 w (free_of l) = subst (λ (xs : List ℕ). Chain (free_step l) (free_ok l) (free_fin l) 0 w xs) (sym g) f.0 in
    let fl = free_le l w (free_of l) fc in
    let sl = side_le t l subscribers s.0 in
    let dl = side_le t l dependencies d.0 in
    let cn = count_not (is_live_slot l) n in
    let fe : length (free_of l) ≡ m = ap length g ∙ omega (arith, f.1) in
    record {
      subs = λ k h. to_listed l subscribers k 0 (head t l subscribers k) (subs_of t l k) (field 16 t k 6) (s.0 k h);
      deps = λ k h. to_listed l dependencies k 0 (head t l dependencies k) (deps_of t l k) (field 16 t k 4) (d.0 k h);
      free = to_free l 0 w (free_of l) fc;
      in_subs = λ x i. side_once t l subscribers s.0 (omega (arith, s.1)) x (live_low l x i) i;
      in_deps = λ x i. side_once t l dependencies d.0 (omega (arith, s.1, d.1)) x (live_low l x i) i;
      in_free = λ x h i. free_once l w (free_of l) fc (omega (arith, s.1)) x h (off_is l x i);
    }

pub linked_complete : (t l : List ℕ) → Linked t l → linked_in t l ≡ true
unfolding linked_in walks frees
linked_complete t l a =
    let n = slot_room l in
    let w = get_or l 6 0 in
    let s : Chains t l subscribers = λ k h. from_listed l subscribers k 0 (head t l subscribers k) (subs_of t l k) (field 16 t k 6) (a.subs k h) in
    let d : Chains t l dependencies = λ k h. from_listed l dependencies k 0 (head t l dependencies k) (deps_of t l k) (field 16 t k 4) (a.deps k h) in
    let f = from_free l 0 w (free_of l) a.free in
    let fl = free_le l w (free_of l) f in
    let sl = side_le t l subscribers s in
    let dl = side_le t l dependencies d in
    let cn = count_not (is_live_slot l) n in
    let sg = side_enough t l subscribers s (λ x h i. a.in_subs x i) in
    let dg = side_enough t l dependencies d (λ x h i. a.in_deps x i) in
    let fg = free_enough l w (free_of l) f (λ x h i. a.in_free x h (not-true (is_live_slot l x) i)) in
    let x = completes (step l subscribers) (ok l subscribers) (fin t l subscribers) (head t l subscribers) n (counted_in t) n s (omega arith) in
    let y = completes (step l dependencies) (ok l dependencies) (fin t l dependencies) (head t l dependencies) n (counted_in t) n d (omega arith) in
    let z = complete (free_step l) (free_ok l) (free_fin l) (n - lens t l subscribers) 0 w (free_of l) f (omega arith) in
    let same : n - lens t l dependencies ≡ n - lens t l subscribers = omega arith in
    let none : n - lens t l subscribers - length (free_of l) ≡ 0 = omega arith in
    rw (x, y, z) (true_both (eqb (n - lens t l dependencies) (n - lens t l subscribers)) _ (eq-eqb _ _ same) (eq-eqb _ _ none))
