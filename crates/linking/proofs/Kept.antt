-- What each single step keeps, the whole ring keeps: one induction for every relation that holds of tables and themselves, goes on from step to step, and holds
-- over each single change. So the ring leaves alone what `Untouched` says, no link becomes live, and a slot that is unlinked is not live. Assumes nothing.
use mathlib.Core.Path.{◌≡◌, refl, ap, ◌∙◌}
use mathlib.Core.Bool.{Bool, true, false}
use Prim.Native.Nat.{ℕ, zero, suc, ◌<◌}
use native.Mathlib.Decide.{ℕ_discrete}
use native.Mathlib.Omega.{arith}
use Rattle.primitive.specs.Slots.{slot_of}
use Rattle.primitive.specs.declared.slots.Slot.{Slot}
use Rattle.primitive.specs.declared.slots.Slot.TheVariants.{At, Nothing}
use Rattle.linking.specs.Free.{is_live_slot, slots, released}
use Rattle.linking.specs.Neighbours.{next_dep_of}
use Rattle.linking.specs.Ring.{is_only, is_mutable, reset, retired, mended, cut_out, next_of, walked, purged_by, disowned, disposed_by, dropped_by, unwatched_by, unlinked_by, unlinked_n, unlinked, unwatched, disposed, purged}
use Rattle.primitive.specs.Words.{FLAGS, GONE, DEPS-TAIL, DEPS, SUBS, SUBS-TAIL, SUB, DEP, PREV-SUB, NEXT-SUB, PREV-DEP, NEXT-DEP, node, link}
use Rattle.linking.specs.Table.{Tab, tab}
use Rattle.linking.proofs.FreeLaws.{live_in, released_freed, released_others, length_released, header_released}
use Rattle.linking.proofs.RingLaws.{mended_marked}
use Rattle.linking.proofs.Untouched.{Untouched, untouched_refl, then, by_node, by_links, by_beside}

-- what each single step keeps
pub record Kept (R : Tab → Tab → Type 0) : Type 0 where
  pub id : (t : Tab) → R t t
  pub on : {a b c : Tab} → R a b → R b c → R a c
  pub drops : (t : Tab) (n : ℕ) → R t (tab (reset t.nodes n 17) t.links)
  pub goes : (t : Tab) (n : ℕ) → R t (tab (retired t.nodes n) t.links)
  pub cuts : (t : Tab) (s sub : ℕ) → is_live_slot t.links s ≡ true → R t (cut_out t s sub)

module _ (R : Tab → Tab → Type 0) (r : Kept R) where
  branch : (b : Bool) {t x y : Tab} → (b ≡ true → R t x) → (b ≡ false → R t y) → R t (elim b [ true ↦ x | false ↦ y ])
  branch true p q = p refl
  branch false p q = q refl

  module _ (u : Tab → ℕ → ℕ → Tab) (h : (t : Tab) (s sub : ℕ) → R t (u t s sub)) where
    keeps_walked : (m : ℕ) (t : Tab) (d : Slot) (sub : ℕ) → R t (walked u m t d sub)
    unfolding walked
    keeps_walked zero t d sub = r.id t
    keeps_walked (suc m) t Nothing sub = r.id t
    keeps_walked (suc m) t (At s) sub = r.on (h t s sub) (keeps_walked m (u t s sub) (next_of t.links s) sub)

    keeps_purged : (k : ℕ) (t : Tab) (sub : ℕ) → R t (purged_by u k t sub)
    unfolding purged_by
    keeps_purged k t sub = keeps_walked (suc k) t (slot_of (next_dep_of t sub (node t.nodes sub DEPS-TAIL))) sub

    keeps_disposed : (k : ℕ) (t : Tab) (n : ℕ) → R t (disposed_by u k t n)
    unfolding disposed_by
    keeps_disposed k t n =
        let g = tab (retired t.nodes n) t.links in
        let p = purged_by u k g n in
        r.on (r.on (r.goes t n) (keeps_purged k g n)) (last p (slot_of (node p.nodes n SUBS)))
      where
        last : (p : Tab) (o : Slot) → R p (disowned u p o)
        last p Nothing = r.id p
        last p (At s) = h p s (link p.links s SUB)

    keeps_unwatched : (k : ℕ) (t : Tab) (n : ℕ) → R t (unwatched_by u k t n)
    unfolding unwatched_by
    keeps_unwatched k t n =
        branch (is_mutable t.nodes n) (λ e. drop (slot_of (node t.nodes n DEPS-TAIL))) (λ e. keeps_disposed k t n)
      where
        drop : (o : Slot) → R t (dropped_by u k t n o)
        drop Nothing = r.id t
        drop (At s) = r.on (r.drops t n) (keeps_purged k (tab (reset t.nodes n 17) t.links) n)

  told : (k : ℕ) (t : Tab) (s sub : ℕ) → ((t : Tab) (s sub : ℕ) → R t (unlinked_n k t s sub))
      → R (cut_out t s sub)
      (elim (is_only t.links s) [ true ↦ unwatched_by (unlinked_n k) k (cut_out t s sub) (link t.links s DEP) | false ↦ cut_out t s sub ])
  told k t s sub h =
      branch (is_only t.links s) (λ f. keeps_unwatched (unlinked_n k) h k (cut_out t s sub) (link t.links s DEP)) (λ f. r.id (cut_out t s sub))

  pub keeps : (k : ℕ) (t : Tab) (s sub : ℕ) → R t (unlinked_n k t s sub)
  unfolding unlinked_n unlinked_by
  keeps zero t s sub = r.id t
  keeps (suc k) t s sub = branch (is_live_slot t.links s) (λ e. r.on (r.cuts t s sub e) (told k t s sub (keeps k))) (λ e. r.id t)

  -- ---- the four that callers cite
  pub kept_unlinked : (t : Tab) (s sub : ℕ) → R t (unlinked t s sub).tabs
  unfolding unlinked
  kept_unlinked t s sub = keeps (slots t.links) t s sub

  pub kept_unwatched : (t : Tab) (n : ℕ) → R t (unwatched t n)
  unfolding unwatched
  kept_unwatched t n = keeps_unwatched (unlinked_n (slots t.links)) (keeps (slots t.links)) (slots t.links) t n

  pub kept_disposed : (t : Tab) (n : ℕ) → R t (disposed t n)
  unfolding disposed
  kept_disposed t n = keeps_disposed (unlinked_n (slots t.links)) (keeps (slots t.links)) (slots t.links) t n

  pub kept_purged : (t : Tab) (sub : ℕ) → R t (purged t sub)
  unfolding purged
  kept_purged t sub = keeps_purged (unlinked_n (slots t.links)) (keeps (slots t.links)) (slots t.links) t sub

-- ---- what the ring leaves alone
reset_untouched : (t : Tab) (n f : ℕ) → Untouched t (tab (reset t.nodes n f) t.links)
unfolding reset
reset_untouched t n f = then (by_node t n DEPS-TAIL 0 (omega arith) refl) (by_node _ n FLAGS f (omega arith) refl)

retired_untouched : (t : Tab) (n : ℕ) → Untouched t (tab (retired t.nodes n) t.links)
unfolding retired
retired_untouched t n = then (reset_untouched t n 0) (by_node _ n GONE _ (omega arith) refl)

mended_untouched : (t : Tab) (s sub : ℕ) → Untouched t (mended t s sub)
unfolding mended
mended_untouched t s sub =
    then
    (then (by_beside t _ PREV-DEP sub DEPS-TAIL _ (omega arith) refl) (by_beside _ _ NEXT-DEP sub DEPS _ (omega arith) refl))
    (then (by_beside _ _ PREV-SUB _ SUBS-TAIL _ (omega arith) refl) (by_beside _ _ NEXT-SUB _ SUBS _ (omega arith) refl))

cut_untouched : (t : Tab) (s sub : ℕ) → Untouched t (cut_out t s sub)
unfolding cut_out
cut_untouched t s sub =
    let m = mended t s sub in
    then (mended_untouched t s sub) (by_links m (length_released m.links s) (header_released m.links s))

pub untouched_kept : Kept Untouched
untouched_kept =
    record {
      id = untouched_refl;
      on = then;
      drops = λ t n. reset_untouched t n 17;
      goes = retired_untouched;
      cuts = λ t s sub h. cut_untouched t s sub;
    }

-- ---- no link becomes live
abbrev pub NoneLive : Tab → Tab → Type 0
NoneLive t u = (i : ℕ) → is_live_slot t.links i ≡ false → is_live_slot u.links i ≡ false

cut_freed : (t : Tab) (s sub : ℕ) → is_live_slot (cut_out t s sub).links s ≡ false
unfolding cut_out
cut_freed t s sub = released_freed (mended t s sub).links s

cut_none : (t : Tab) (s sub : ℕ) → NoneLive t (cut_out t s sub)
unfolding cut_out
cut_none t s sub i d = go (ℕ_discrete i s)
  where
    go : Dec (i ≡ s) → is_live_slot (released (mended t s sub).links s) i ≡ false
    go (yes e) = ap (is_live_slot (released (mended t s sub).links s)) e ∙ released_freed (mended t s sub).links s
    go (no e) = released_others (mended t s sub).links s i e ∙ (mended_marked t s sub).marks i ∙ d

pub none_live_kept : Kept NoneLive
none_live_kept =
    record {
      id = λ t i d. d;
      on = λ p q i d. q i (p i d);
      drops = λ t n i d. d;
      goes = λ t n i d. d;
      cuts = λ t s sub h. cut_none t s sub;
    }

-- ---- and a slot that is unlinked is not live
freed : (t : Tab) (s sub k : ℕ) → is_live_slot t.links s ≡ true → is_live_slot (unlinked_n (suc k) t s sub).links s ≡ false
unfolding unlinked_n unlinked_by
freed t s sub k h = rw (h, unlinked_by) (told NoneLive none_live_kept k t s sub (keeps NoneLive none_live_kept k) s (cut_freed t s sub))

pub unlinked_freed : (t : Tab) (s sub : ℕ) → is_live_slot (unlinked t s sub).tabs.links s ≡ false
unfolding unlinked
unlinked_freed t s sub = go (is_live_slot t.links s) refl
  where
    more : (k : ℕ) → is_live_slot t.links s ≡ true → 0 < k → is_live_slot (unlinked_n k t s sub).links s ≡ false
    more zero h p = absurd (omega arith)
    more (suc k) h p = freed t s sub k h

    go : (b : Bool) → is_live_slot t.links s ≡ b → is_live_slot (unlinked_n (slots t.links) t s sub).links s ≡ false
    go false h = keeps NoneLive none_live_kept (slots t.links) t s sub s h
    go true h = more (slots t.links) h (omega (arith, live_in t.links s h))
