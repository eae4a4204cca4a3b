-- The ring: a slot that is cut out lowers the live links by one, the ways of each member, and the turns of a purge.
-- Assumes nothing.
use mathlib.Core.Path.{◌≡◌, refl, sym, ap, ◌∙◌}
use mathlib.Core.Bool.{Bool, true, false, not}
use Prim.Native.Nat.{ℕ, zero, suc, ◌+◌, ◌≤◌}
use native.Mathlib.Omega.{arith}
use lib.Dec.{eqb}
use lib.ListN.{length}
use Rattle.primitive.specs.Slots.{slot_of}
use Rattle.primitive.specs.declared.slots.Slot.{Slot}
use Rattle.primitive.specs.declared.slots.Slot.TheVariants.{At, Nothing}
use Rattle.primitive.proofs.RowLaws.{length-set_field}
use Rattle.linking.specs.Free.{is_live_slot, live}
use Rattle.linking.specs.Neighbours.{next_dep_of, set_beside, set_beside_on}
use Rattle.primitive.specs.Words.{LIVE, DEP, NEXT-DEP, DEPS-TAIL, PREV-DEP, PREV-SUB, NEXT-SUB, node, link}
use Rattle.linking.specs.Table.{Tab}
use Rattle.linking.specs.Ring.{is_only, is_mutable, mended, cut_out, next_of, walked, purged_by, disposed_by, dropped_by, unwatched_by, unlinked_by, unlinked_n, more, Unlinks}
use Rattle.linking.proofs.FreeLaws.{live_same, live_released, marks_stored}

-- ---- a test that the code turns round
pub not_true_lem : (b : Bool) → not b ≡ true → b ≡ false
not_true_lem true e = sym e
not_true_lem false e = refl

pub not_false_lem : (b : Bool) → not b ≡ false → b ≡ true
not_false_lem true e = refl
not_false_lem false e = sym e

-- ---- mending the neighbours keeps every live mark, and the lengths
pub record Marked (t u : Tab) : Type 0 where
  pub long : length u.links ≡ length t.links
  pub marks : (i : ℕ) → is_live_slot u.links i ≡ is_live_slot t.links i

then_marked : {t u v : Tab} → Marked t u → Marked u v → Marked t v
then_marked a b = record { long = b.long ∙ a.long; marks = λ i. b.marks i ∙ a.marks i }

pub beside_marked : (t : Tab) (beside f n g w : ℕ) → eqb LIVE f ≡ false → Marked t (set_beside t beside f n g w)
unfolding set_beside
beside_marked t beside f n g w d = go (slot_of beside)
  where
    go : (o : Slot) → Marked t (set_beside_on o t f n g w)
    go Nothing = record { long = refl; marks = λ i. refl }
    go (At s) = record { long = length-set_field 8 t.links s f w; marks = λ i. marks_stored t.links s f w d i }

module _ (t : Tab) (s sub : ℕ) where
  pub mended_marked : Marked t (mended t s sub)
  unfolding mended
  mended_marked =
      then_marked (beside_marked _ _ PREV-DEP _ _ _ refl)
      (then_marked (beside_marked _ _ NEXT-DEP _ _ _ refl)
      (then_marked (beside_marked _ _ PREV-SUB _ _ _ refl) (beside_marked _ _ NEXT-SUB _ _ _ refl)))

  pub cut_fewer : is_live_slot t.links s ≡ true → live t.links ≡ suc (live (cut_out t s sub).links)
  unfolding cut_out
  cut_fewer h =
      let m = mended_marked in
      sym (live_same t.links (mended t s sub).links m.long m.marks)
      ∙ live_released (mended t s sub).links s (m.marks s ∙ h)

  -- ---- the ways of unlink
  pub unlink_dead : is_live_slot t.links s ≡ false → (k : ℕ) → t ≡ unlinked_n k t s sub
  unfolding unlinked_n unlinked_by
  unlink_dead e zero = refl
  unlink_dead e (suc k) = rw (e, unlinked_by)

  pub next_dead : is_live_slot t.links s ≡ false → Nothing ≡ next_of t.links s
  unfolding next_of
  next_dead e = rw (e, next_of)

  pub next_live : is_live_slot t.links s ≡ true → slot_of (link t.links s NEXT-DEP) ≡ next_of t.links s
  unfolding next_of
  next_live e = rw (e, next_of)

  module _ (h : is_live_slot t.links s ≡ true) (k : ℕ) (enough : live t.links ≤ k) where
    -- others subscribe still
    pub unlink_shared : is_only t.links s ≡ false → cut_out t s sub ≡ unlinked_n k t s sub
    unfolding unlinked_n unlinked_by
    unlink_shared e = go k enough
      where
        go : (k : ℕ) → live t.links ≤ k → cut_out t s sub ≡ unlinked_n k t s sub
        go zero n = absurd (omega (arith, cut_fewer h))
        go (suc j) n = rw (h, e, unlinked_by)

    -- the last subscriber: what is left to show, at one slot less
    pub unlink_only : is_only t.links s ≡ true → {u : Tab}
        → ((j : ℕ) → live (cut_out t s sub).links ≤ j → u ≡ unwatched_by (unlinked_n j) j (cut_out t s sub) (link t.links s DEP))
        → u ≡ unlinked_n k t s sub
    unfolding unlinked_n unlinked_by
    unlink_only e {u} g = go k enough
      where
        go : (k : ℕ) → live t.links ≤ k → u ≡ unlinked_n k t s sub
        go zero n = absurd (omega (arith, cut_fewer h))
        go (suc j) n = rw (h, e, unlinked_by) (g j (omega (arith, cut_fewer h)))

pub more≤1 : (d : Slot) → more d ≤ 1
more≤1 (At s) = omega arith
more≤1 Nothing = omega arith

-- ---- the ways of unwatched
module _ (u : Tab → ℕ → ℕ → Tab) (k : ℕ) (t : Tab) (n : ℕ) where
  pub unwatched_dispose : is_mutable t.nodes n ≡ false → disposed_by u k t n ≡ unwatched_by u k t n
  unfolding unwatched_by
  unwatched_dispose e = rw (e, unwatched_by)

  pub unwatched_on : is_mutable t.nodes n ≡ true → {o : Slot} → slot_of (node t.nodes n DEPS-TAIL) ≡ o → dropped_by u k t n o ≡ unwatched_by u k t n
  unfolding unwatched_by
  unwatched_on e {o} f = rw (e, unwatched_by) (ap (dropped_by u k t n) (sym f))

-- ---- a purge begins behind the tail: where nothing stands there, nothing goes
pub purged_none : (u : Tab → ℕ → ℕ → Tab) (k : ℕ) (t : Tab) (sub : ℕ) → next_dep_of t sub (node t.nodes sub DEPS-TAIL) ≡ 0 → purged_by u k t sub ≡ t
unfolding purged_by walked
purged_none u k t sub e = ap (λ (w : ℕ). walked u (suc k) t (slot_of w) sub) e

-- ---- the turns of a purge, at the bound k
pub record Walking (k : ℕ) (t₀ : Tab) (d₀ : Slot) (sub : ℕ) (t : Tab) (d : Slot) : Type 0 where
  pub turns : ℕ
  pub room : live t.links + more d ≤ turns
  pub same : walked (unlinked_n k) turns t d sub ≡ walked (unlinked_n k) (suc k) t₀ d₀ sub

pub walk_start : (k : ℕ) (t : Tab) (d : Slot) (sub : ℕ) → live t.links ≤ k → Walking k t d sub t d
walk_start k t d sub h = record { turns = suc k; room = omega (arith, more≤1 d); same = refl }

pub walk_turn : (k : ℕ) (t₀ : Tab) (d₀ : Slot) (sub : ℕ) (t : Tab) (d : Slot) (s : ℕ) (r : Slot) (u : Tab)
    → Walking k t₀ d₀ sub t d → d ≡ At s → live t.links ≤ k → Unlinks t s sub r u → Walking k t₀ d₀ sub u r
unfolding walked
walk_turn k t₀ d₀ sub t d s r u w e h v = go w.turns (rw e at w.room) (rw e at w.same)
  where
    go : (m : ℕ) → live t.links + 1 ≤ m → walked (unlinked_n k) m t (At s) sub ≡ walked (unlinked_n k) (suc k) t₀ d₀ sub → Walking k t₀ d₀ sub u r
    go zero room same = absurd (omega arith)
    go (suc m) room same = record { turns = m; room = omega (arith, v.fewer); same = rw (v.same k h, v.next) same }

pub walk_done : (k : ℕ) (t₀ : Tab) (d₀ : Slot) (sub : ℕ) (t : Tab) (d : Slot) → Walking k t₀ d₀ sub t d → d ≡ Nothing → t ≡ walked (unlinked_n k) (suc k) t₀ d₀ sub
unfolding walked
walk_done k t₀ d₀ sub t d w e = go w.turns (rw e at w.same)
  where
    go : (m : ℕ) → walked (unlinked_n k) m t Nothing sub ≡ walked (unlinked_n k) (suc k) t₀ d₀ sub → t ≡ walked (unlinked_n k) (suc k) t₀ d₀ sub
    go zero e = e
    go (suc m) e = e
