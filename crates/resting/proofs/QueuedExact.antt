-- The word test of the queue passes exactly the queues of which the fifth bullet holds, where there are at most 1,024 nodes. Assumes nothing.
use mathlib.Core.Path.{◌≡◌, refl}
use mathlib.Core.Bool.{Bool, true, false, not}
use mathlib.Core.List.{List}
use Prim.Native.Nat.{ℕ, ◌<◌, ◌≤◌}
use native.Mathlib.Omega.{arith}
use lib.Dec.{eqb, ltb, leb}
use lib.ListN.{get_or, length, replicate, length-replicate, get_or-replicate, get_or-eq_default}
use borrow.Author.Tests.{eq-eqb, ne_eqb, eqb-true, eqb-false, ltb-true, ltb-false, lt-ltb, leb-true, le-leb, not-true}
use Rattle.primitive.specs.Rows.{field}
use Rattle.queue.specs.Queue.{queue_of}
use Rattle.lists.specs.Sum.{count}
use Rattle.lists.specs.Each.{pick}
use Rattle.lists.proofs.EachLaws.{both_true, true_both, all_map}
use Rattle.lists.proofs.OnceLaws.{once_sound, once_complete}
use Rattle.counting.specs.Counts.{counted_in, most_nodes}
use Rattle.resting.specs.Blank.{blank}
use Rattle.resting.specs.Queued.{waits_on, may_wait, lives, due, scanned, idle, queued_in}
use Rattle.resting.specs.AtRest.{Waits, Queued}
use Rattle.resting.proofs.LinkedExact.{leaves_left}

-- ---- an array of zeros
pub blank_length : length blank ≡ most_nodes
unfolding blank
blank_length = length-replicate {A = ℕ} 1024 0

pub blank_clear : (x : ℕ) → get_or blank x 0 ≡ 0
unfolding blank
blank_clear x = at (ltb x 1024) refl
  where
    at : (b : Bool) → ltb x 1024 ≡ b → ◌≡◌ {A = ℕ} (get_or {A = ℕ} (replicate 1024 0) x 0) 0
    at true e = get_or-replicate {A = ℕ} 1024 x 0 0 (ltb-true x 1024 e)
    at false e = get_or-eq_default {A = ℕ} (replicate 1024 0) 0 {n = x} (omega (arith, length-replicate {A = ℕ} 1024 0, ltb-false x 1024 e))

-- ---- who may wait
module _ (gone f : ℕ) where
  on_live : waits_on gone f ≡ true → gone ≡ 0 → f ≡ 2 → ⊥
  unfolding waits_on
  on_live e g = eqb-false f 2 (not-true (eqb f 2) (rw (eq-eqb gone 0 g) at e))

  on_gone : waits_on gone f ≡ true → (gone ≡ 0 → ⊥) → f ≡ 0
  unfolding waits_on
  on_gone e g = eqb-true f 0 (rw (ne_eqb gone 0 g) at e)

  on_both : (gone ≡ 0 → f ≡ 2 → ⊥) → ((gone ≡ 0 → ⊥) → f ≡ 0) → waits_on gone f ≡ true
  unfolding waits_on
  on_both a b = at (eqb gone 0) refl
    where
      at : (c : Bool) → eqb gone 0 ≡ c → pick (eqb gone 0) (not (eqb f 2)) (eqb f 0) ≡ true
      at true e = rw (e, ne_eqb f 2 (a (eqb-true gone 0 e)))
      at false e = rw (e, eq-eqb f 0 (b (eqb-false gone 0 e)))

module _ (t : List ℕ) (e : ℕ) where
  waits_yes : may_wait t e ≡ true → Waits t e
  unfolding may_wait
  waits_yes h =
      let r = both_true (ltb e (counted_in t)) _ h in
      let s = both_true (eqb (field 16 t e 1) 3) _ r.1 in
      record { known = ltb-true _ _ r.0; effect = eqb-true _ _ s.0; unwatching = on_live _ _ s.1; gone = on_gone _ _ s.1 }

  yes_waits : Waits t e → may_wait t e ≡ true
  unfolding may_wait
  yes_waits w = true_both _ _ (lt-ltb _ _ w.known) (true_both _ _ (eq-eqb _ _ w.effect) (on_both _ _ w.unwatching w.gone))

  lives_yes : lives t e ≡ true → field 16 t e 2 ≡ 0
  unfolding lives
  lives_yes h = eqb-true _ _ h

  yes_lives : field 16 t e 2 ≡ 0 → lives t e ≡ true
  unfolding lives
  yes_lives h = eq-eqb _ _ h

idle_yes : (d k : ℕ) → idle d k ≡ true → d ≡ 0 → k ≡ 0
unfolding idle
idle_yes d k h e = eqb-true k 0 (rw (eq-eqb d 0 e) at h)

yes_idle : (d k : ℕ) → (d ≡ 0 → k ≡ 0) → idle d k ≡ true
unfolding idle
yes_idle d k f = at (eqb d 0) refl
  where
    at : (b : Bool) → eqb d 0 ≡ b → pick (eqb d 0) (eqb k 0) true ≡ true
    at true e = rw (e, eq-eqb k 0 (f (eqb-true d 0 e)))
    at false e = rw e

-- ---- the test is exact
module _ (t : List ℕ) (few : counted_in t ≤ most_nodes) where
  small : (x : ℕ) → may_wait t x ≡ true → x < counted_in t
  small x e = (waits_yes t x e).known

  low : (x : ℕ) → may_wait t x ≡ true → x < length blank
  low x e = omega (arith, small x e, blank_length)

  pub queued_sound : queued_in t ≡ true → Queued t
  unfolding queued_in scanned due
  queued_sound h =
      let a = both_true (leb (get_or t 9 0) 64) _ h in
      let b = both_true (idle (get_or t 9 0) (get_or t 12 0)) _ a.1 in
      let c = both_true (leb (get_or t 12 0) (counted_in t)) _ b.1 in
      let s = leaves_left (scanned t blank (queue_of t) (count (due t) (counted_in t))) 0 c.1 in
      let o = once_sound (may_wait t) (lives t) blank (counted_in t) blank_clear low small (queue_of t) s in
      record {
        depth = leb-true _ _ a.0;
        idle = idle_yes _ _ b.0;
        long = leb-true _ _ c.0;
        only = all_map (λ (x : ℕ). may_wait t x ≡ true) (Waits t) (queue_of t) (waits_yes t) o.0;
        once = o.1;
        each = λ e w l. o.2 e w.known (true_both _ _ (yes_waits t e w) (yes_lives t e l));
      }

  pub queued_complete : Queued t → queued_in t ≡ true
  unfolding queued_in scanned due
  queued_complete q =
      let c = once_complete (may_wait t) (lives t) blank (counted_in t) blank_clear low small (queue_of t)
      (all_map (Waits t) (λ (x : ℕ). may_wait t x ≡ true) (queue_of t) (yes_waits t) q.only) q.once
      (λ x l d. let r = both_true (may_wait t x) (lives t x) d in q.each x (waits_yes t x r.0) (lives_yes t x r.1)) in
      true_both _ _ (le-leb _ _ q.depth) (true_both _ _ (yes_idle _ _ q.idle) (true_both _ _ (le-leb _ _ q.long) (rw c)))
