-- The ring of unlink, unwatched, dispose and purge_deps meets its contracts. The measure is the number of live links, and then the member's rank: a call falls
-- in rank, or comes after a slot was freed. Assumes nothing.
use Prim.Native.Nat.{ℕ}
use mathlib.Core.Path.{◌≡◌, refl, sym, ap, ◌∙◌}
use mathlib.Core.Bool.{true, false}
use mathlib.Core.List.{List}
use native.Mathlib.Omega.{arith}
use Rattle.primitive.specs.Slots.{slot_of}
use Rattle.linking.specs.Free.{is_live_slot, live}
use Rattle.linking.specs.Table.{Tab, tab}
use Rattle.linking.specs.Ring.{is_mutable, reset, cut_out, purged_by, disposed_by, unlinked_n, more}
use Rattle.linking.proofs.RingLaws.{cut_fewer, unlink_dead, unlink_shared, unlink_only, next_dead, next_live, more≤1, unwatched_dispose, unwatched_on, walk_start, walk_turn, walk_done}
use Rattle.links.proofs.ring.+dispose_purge_deps_unlink_unwatched.Goals as goal

pub dispose-returns-in_default : goal.dispose-returns-in_default
unfolding disposed_by
dispose-returns-in_default t c =
    record {
      same = λ k h. rw (← c.retire.ensures, ← c.purge_deps.ensures.same k h, ← c.get.ensures, ← c.open.ensures, c.in_default.is);
      fewer = c.purge_deps.ensures.fewer;
    }

pub dispose-returns : goal.dispose-returns
unfolding disposed_by
dispose-returns t c =
    let o = c.purge_deps.ensures.fewer in
    record {
      same = λ k h. rw (← c.retire.ensures, ← c.purge_deps.ensures.same k h, ← c.get.ensures, ← c.open.ensures, c.in-At.is, ← c.get-sub.ensures) (c.unlink.ensures.same k (omega arith));
      fewer = omega (arith, c.unlink.ensures.fewer);
    }

pub purge_deps-loop-dep-init : goal.purge_deps-loop-dep-init
purge_deps-loop-dep-init t c = record { lens = (refl, refl); fewer = omega arith; walk = λ k h. walk_start k _ _ _ h }

pub purge_deps-returns-in_default : goal.purge_deps-returns-in_default
unfolding purged_by
purge_deps-returns-in_default t c =
    record {
      same = λ k h. rw (← c.get-tail.ensures, ← c.next_dep.ensures, ← c.open-dep.ensures) (walk_done k _ _ _ _ _ (c.loop-dep.invariant.walk k h) c.in_default.is);
      fewer = c.loop-dep.invariant.fewer;
    }

pub purge_deps-loop-dep-smaller : goal.purge_deps-loop-dep-smaller
purge_deps-loop-dep-smaller t c =
    omega (arith, c.unlink-dep.ensures.fewer, ap more c.in-At.is)

pub purge_deps-loop-dep-preserved : goal.purge_deps-loop-dep-preserved
purge_deps-loop-dep-preserved t c =
    record {
      lens = (c.unlink-dep.auto.nodes ∙ c.loop-dep.invariant.lens.0, c.unlink-dep.auto.links ∙ c.loop-dep.invariant.lens.1);
      fewer = omega (arith, c.unlink-dep.ensures.fewer);
      walk = λ k h. walk_turn k _ _ _ _ _ _ _ _ (c.loop-dep.invariant.walk k h) c.in-At.is (omega arith) c.unlink-dep.ensures;
    }

pub unlink-returns-then-not-is_live : goal.unlink-returns-then-not-is_live
unlink-returns-then-not-is_live t c =
    let a = c.args in
    let b = tab a.nodes.now a.links.now in
    let e : is_live_slot a.links.now a.s ≡ false = sym c.is_live.ensures ∙ c.if-not-is_live.true in
    record { same = λ k h. unlink_dead b a.s a.sub e k; fewer = omega arith; next = next_dead b a.s a.sub e }

pub unlink-unwatched-requires : goal.unlink-unwatched-requires
unlink-unwatched-requires t c =
    let a = c.args in
    let b = tab a.nodes.now a.links.now in
    let f : is_live_slot a.links.now a.s ≡ true = sym c.is_live.ensures ∙ c.if-not-is_live.false in
    (omega (arith, c.decreases, ap (λ (x : Tab). live x.links) c.cut_out.ensures, cut_fewer b a.s a.sub f), tt)

pub unlink-returns-then-only : goal.unlink-returns-then-only
unlink-returns-then-only t c =
    let a = c.args in
    let b = tab a.nodes.now a.links.now in
    let f : is_live_slot a.links.now a.s ≡ true = sym c.is_live.ensures ∙ c.if-not-is_live.false in
    let n = c.open-next.ensures ∙ ap slot_of c.get.ensures ∙ next_live b a.s a.sub f in
    let o = cut_fewer b a.s a.sub f in
    let q : live c.cut_out.new.links ≡ live (cut_out b a.s a.sub).links = ap (λ (x : Tab). live x.links) c.cut_out.ensures in
    record {
      same = λ k h. unlink_only b a.s a.sub f k h (sym c.is_only-only.ensures ∙ c.if-only.true) (λ j hj. rw (← c.cut_out.ensures, ← c.get-dep.ensures) (c.unwatched.ensures.same j (omega (arith, q, hj))));
      fewer = omega (arith, c.unwatched.ensures.fewer, more≤1 c.open-next.result, o, q);
      next = n;
    }

pub unlink-returns-else-only : goal.unlink-returns-else-only
unlink-returns-else-only t c =
    let a = c.args in
    let b = tab a.nodes.now a.links.now in
    let f : is_live_slot a.links.now a.s ≡ true = sym c.is_live.ensures ∙ c.if-not-is_live.false in
    let n = c.open-next.ensures ∙ ap slot_of c.get.ensures ∙ next_live b a.s a.sub f in
    let o = cut_fewer b a.s a.sub f in
    let q : live c.cut_out.new.links ≡ live (cut_out b a.s a.sub).links = ap (λ (x : Tab). live x.links) c.cut_out.ensures in
    record {
      same = λ k h. c.cut_out.ensures ∙ unlink_shared b a.s a.sub f k h (sym c.is_only-only.ensures ∙ c.if-only.false);
      fewer = omega (arith, more≤1 c.open-next.result, o, q);
      next = n;
    }

pub unwatched-returns-then-not-is_mutable : goal.unwatched-returns-then-not-is_mutable
unwatched-returns-then-not-is_mutable t c =
    let a = c.args in
    let b = tab a.nodes.now a.links.now in
    record {
      same = λ k h. c.dispose.ensures.same k h ∙ unwatched_dispose (unlinked_n k) k b a.n (sym c.is_mutable.ensures ∙ c.if-not-is_mutable.true);
      fewer = c.dispose.ensures.fewer;
    }

pub unwatched-returns-in_default : goal.unwatched-returns-in_default
unwatched-returns-in_default t c =
    let a = c.args in
    let b = tab a.nodes.now a.links.now in
    let m : is_mutable a.nodes.now a.n ≡ true = sym c.is_mutable.ensures ∙ c.if-not-is_mutable.false in
    let o = sym (c.open.ensures ∙ ap slot_of c.get.ensures) ∙ c.in_default.is in
    record { same = λ k h. unwatched_on (unlinked_n k) k b a.n m o; fewer = omega arith }

pub unwatched-returns : goal.unwatched-returns
unwatched-returns t c =
    let a = c.args in
    let b = tab a.nodes.now a.links.now in
    let m : is_mutable a.nodes.now a.n ≡ true = sym c.is_mutable.ensures ∙ c.if-not-is_mutable.false in
    let o = sym (c.open.ensures ∙ ap slot_of c.get.ensures) ∙ c.in-At.is in
    let r = c.reset.ensures ∙ ap (reset a.nodes.now a.n) c.join.ensures in
    record {
      same = λ k h. c.purge_deps.ensures.same k h ∙ ap (λ (x : List ℕ). purged_by (unlinked_n k) k (tab x a.links.now) a.n) r ∙ unwatched_on (unlinked_n k) k b a.n m o;
      fewer = c.purge_deps.ensures.fewer;
    }
