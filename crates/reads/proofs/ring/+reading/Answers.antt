-- The cycle of calls `reads::ring::check_dependency`, `reads::ring::check_dirty`, `reads::ring::check_pending`, `reads::ring::dirty_by`, `reads::ring::evaluate`, `reads::ring::evaluate_choose`, `reads::ring::evaluate_first`, `reads::ring::evaluate_two`, `reads::ring::read_for`, `reads::ring::refresh`, `reads::ring::refresh_computed`, `reads::ring::refresh_pending`, `reads::ring::renew`, `reads::ring::settle`, `reads::ring::update`, `reads::ring::update_computed` meets its contracts. Assumes nothing.
use borrow.Author.Rules.{rules}
use mathlib.Core.Path.{◌≡◌, refl, ap, ◌∙◌}
use Prim.Native.Nat.{◌-◌, ◌+◌, ◌/◌}
use lib.ListN.{length}
use Rattle.std.proofs.lemmas.Bool.{le-ltb}
use Rattle.std.proofs.lemmas.Grind.{common_steps}
use Rattle.std.proofs.Math.Nat.{sub-zero}
use mir.Facts.{to_z-of_z}
use mir.Syntax.{w64}
use mir.Val.{to_z, of_z}
use Rattle.values.specs.Values.{value}
use native.Mathlib.Omega.{arith}
use Rattle.marking.specs.Fields.{has, has_only}
use Rattle.reading.specs.Tables.{state}
use Rattle.reading.specs.Ring.{checked_by, ring_n}
use Rattle.reading.proofs.RingLaws.{lower_refresh, lower_check, worked_none, worked_constant, worked_read, worked_two, worked_choose, worked_bad, constant_inside, read_inside, two_inside, choose_inside, read_lower, read_not, two_worked, choose_third, choose_second, first_worked, update_worked, updated_the_signal, updated_computed, updated_other, refreshed_signal_lem, refreshed_computed, refreshed_other, settle_changed, settle_same, pending_changed, pending_same, dependency_stale, dependency_unsure, dependency_clean, dirty_already, dirty_dependency, dirty_not, deps_out, deps_end, deps_changed, deps_same, renew_changed, renew_same, surely_changed, surely_same, computed_dirty, computed_pending, computed_first, computed_clean}
use Rattle.reads.proofs.ring.+reading.Goals as goal

pub check_dependency-returns-then-has_all : goal.check_dependency-returns-then-has_all
unfolding has_only
check_dependency-returns-then-has_all t c k h =
    dependency_stale _ _ _ _ c.flags-flags.ensures c.has_all.ensures c.if-has_all.true (c.settle.ensures k (omega arith))

pub check_dependency-returns-then-has_all-2 : goal.check_dependency-returns-then-has_all-2
unfolding has_only
check_dependency-returns-then-has_all-2 t c k h =
    dependency_unsure _ _ _ _ c.flags-flags.ensures c.has_all.ensures c.if-has_all.false c.has_all-else-has_all.ensures c.if-has_all-2.true (c.check_pending.ensures k h)

pub check_dependency-returns-else-has_all-2 : goal.check_dependency-returns-else-has_all-2
unfolding has_only
check_dependency-returns-else-has_all-2 t c k h =
    dependency_clean _ _ _ _ c.flags-flags.ensures c.has_all.ensures c.if-has_all.false c.has_all-else-has_all.ensures c.if-has_all-2.false

pub check_dirty-loop-init : goal.check_dirty-loop-init
check_dirty-loop-init t c =
    record { lens = (refl, refl, refl); same = λ k h. rw sub-zero }

pub check_dirty-returns-in_default : goal.check_dirty-returns-in_default
unfolding checked_by
check_dirty-returns-in_default t c k h =
    rw (← c.get-link.ensures) (deps_end _ _ _ _ _ (length c.args.links.now / 8 - c.loop.counter) c.open.ensures c.in_default.is ∙ c.loop.invariant.same k h)

pub check_dirty-returns-then-dirty_by : goal.check_dirty-returns-then-dirty_by
unfolding checked_by
check_dirty-returns-then-dirty_by t c k h =
    rw (← c.get-link.ensures) (deps_changed _ _ _ _ _ _ c.open.ensures c.in-At.is c.get-m.ensures _ (c.dirty_by.ensures k h) (length c.args.links.now / 8 - c.loop.counter) (omega arith) c.if-dirty_by.true ∙ c.loop.invariant.same k h)

pub check_dirty-loop-smaller : goal.check_dirty-loop-smaller
check_dirty-loop-smaller t c =
    omega arith

pub check_dirty-loop-preserved : goal.check_dirty-loop-preserved
check_dirty-loop-preserved t c =
    record {
      lens = (c.dirty_by.auto.nodes ∙ c.loop.invariant.lens.0, c.dirty_by.auto.links ∙ c.loop.invariant.lens.1, c.dirty_by.auto.values ∙ c.loop.invariant.lens.2);
      same = λ k h.
          let e : length c.args.links.now / 8 - (c.loop.counter + 1) ≡ length c.args.links.now / 8 - c.loop.counter - 1 = omega arith in
          rw e (deps_same _ _ _ _ _ _ c.open.ensures c.in-At.is c.get-m.ensures _ (c.dirty_by.ensures k h) (length c.args.links.now / 8 - c.loop.counter) (omega arith) c.if-dirty_by.false c.get-link-in-loop.ensures) ∙ c.loop.invariant.same k h;
    }

pub check_dirty-returns : goal.check_dirty-returns
unfolding checked_by
check_dirty-returns t c k h =
    rw (← c.get-link.ensures) (deps_out _ _ _ _ _ (length c.args.links.now / 8 - c.loop.counter) (omega arith) ∙ c.loop.invariant.same k h)

pub check_pending-returns-then-check_dirty : goal.check_pending-returns-then-check_dirty
check_pending-returns-then-check_dirty t c k h =
    pending_changed _ _ _ _ _ (lower_check _ _ _ c.check_dirty.ensures k h) c.if-check_dirty.true (c.settle.ensures k (omega arith))

pub check_pending-returns-else-check_dirty : goal.check_pending-returns-else-check_dirty
check_pending-returns-else-check_dirty t c k h =
    pending_same _ _ _ _ _ (lower_check _ _ _ c.check_dirty.ensures k h) c.if-check_dirty.false c.flags.ensures c.clear.ensures c.set_flags.ensures

pub dirty_by-returns-then-has : goal.dirty_by-returns-then-has
unfolding has
dirty_by-returns-then-has t c k h =
    rw c.if-has.true (dirty_already _ _ _ _ _ c.flags.ensures c.has.ensures c.if-has.true)

pub dirty_by-returns-then-rank : goal.dirty_by-returns-then-rank
unfolding has
dirty_by-returns-then-rank t c k h =
    dirty_dependency _ _ _ _ _ c.flags.ensures c.has.ensures c.if-has.false c.rank.ensures c.rank-else-has.ensures c.if-rank.true (c.check_dependency.ensures k (omega (arith, c.rank.ensures, c.rank-else-has.ensures, c.if-rank.true, h)))

pub dirty_by-returns-else-rank : goal.dirty_by-returns-else-rank
unfolding has
dirty_by-returns-else-rank t c k h =
    rw (le-ltb _ _ c.if-rank.false) (dirty_not _ _ _ _ _ c.flags.ensures c.has.ensures c.if-has.false c.rank.ensures c.rank-else-has.ensures c.if-rank.false)

pub evaluate-returns-then-depth-eq0 : goal.evaluate-returns-then-depth-eq0
evaluate-returns-then-depth-eq0 t c k h =
    worked_none _ _ _ _ _ c.if-depth-eq0.true c.nothing.ensures.value_value c.nothing.ensures.next_value

pub evaluate-overflow_add-result : goal.evaluate-overflow_add-result
evaluate-overflow_add-result t c =
    let i = constant_inside c.args.cells.now (ring_n c.args.cells.now 0) c.args.n (state c.args.nodes.now c.args.links.now c.args.values.now) c.args.at c.args.depth c.if-depth-eq0.false c.cell_at.ensures c.in-Constant.is in omega (arith, i)

pub evaluate-overflow_add-result-in-Read : goal.evaluate-overflow_add-result-in-Read
evaluate-overflow_add-result-in-Read t c =
    let i = read_inside c.args.cells.now (ring_n c.args.cells.now 0) c.args.n (state c.args.nodes.now c.args.links.now c.args.values.now) c.args.at c.args.depth c.if-depth-eq0.false c.cell_at.ensures c.in-Read.is in omega (arith, i)

pub evaluate-overflow_add-at : goal.evaluate-overflow_add-at
evaluate-overflow_add-at t c =
    let i = two_inside c.args.cells.now (ring_n c.args.cells.now 0) c.args.n (state c.args.nodes.now c.args.links.now c.args.values.now) c.args.at c.args.depth c.if-depth-eq0.false c.cell_at.ensures c.in-Two.is in omega (arith, i)

pub evaluate-overflow_add-at-in-Choose : goal.evaluate-overflow_add-at-in-Choose
evaluate-overflow_add-at-in-Choose t c =
    let i = choose_inside c.args.cells.now (ring_n c.args.cells.now 0) c.args.n (state c.args.nodes.now c.args.links.now c.args.values.now) c.args.at c.args.depth c.if-depth-eq0.false c.cell_at.ensures c.in-Choose.is in omega (arith, i)

pub evaluate-returns-in-Constant : goal.evaluate-returns-in-Constant
evaluate-returns-in-Constant t c k h =
    let v : to_z w64 (of_z w64 c.in-Constant.k) ≡ c.in-Constant.k = to_z-of_z {w = w64} (search rules) in
    worked_constant _ _ _ (state c.args.nodes.now c.args.links.now c.args.values.now) _ _ c.if-depth-eq0.false c.cell_at.ensures c.in-Constant.is (c.of.ensures ∙ ap value v)

pub evaluate-returns-in-Read : goal.evaluate-returns-in-Read
evaluate-returns-in-Read t c k h =
    worked_read _ _ _ _ _ _ c.if-depth-eq0.false c.cell_at.ensures _ c.in-Read.is (c.read_for.ensures k h)

pub evaluate-returns-in-Two : goal.evaluate-returns-in-Two
evaluate-returns-in-Two t c k h =
    worked_two _ _ _ _ _ _ c.if-depth-eq0.false c.cell_at.ensures c.in-Two.is (c.evaluate_two.ensures k h)

pub evaluate-returns-in-Choose : goal.evaluate-returns-in-Choose
evaluate-returns-in-Choose t c k h =
    worked_choose _ _ _ _ _ _ c.if-depth-eq0.false c.cell_at.ensures c.in-Choose.is (c.evaluate_choose.ensures k h)

pub evaluate-returns-in-Bad : goal.evaluate-returns-in-Bad
evaluate-returns-in-Bad t c k h =
    worked_bad _ _ _ _ _ _ c.if-depth-eq0.false c.cell_at.ensures c.in-Bad.is c.nothing-in-Bad.ensures.value_value c.nothing-in-Bad.ensures.next_value

pub evaluate_choose-returns-then-is_zero : goal.evaluate_choose-returns-then-is_zero
evaluate_choose-returns-then-is_zero t c k h =
    choose_third _ _ _ _ _ (c.evaluate-c.ensures k h) c.is_zero.ensures _ c.if-is_zero.true c.end.ensures (c.evaluate.ensures k h)

pub evaluate_choose-returns : goal.evaluate_choose-returns
evaluate_choose-returns t c k h =
    choose_second _ _ _ _ _ (c.evaluate-c.ensures k h) c.is_zero.ensures _ c.if-is_zero.false (c.evaluate-a.ensures k h) c.end-2.ensures

pub evaluate_first-returns : goal.evaluate_first-returns
evaluate_first-returns t c k h =
    first_worked _ _ _ _ _ c.get-at.ensures c.begin_first.ensures (c.evaluate-worked.ensures k h) (c.finish_first.ensures _)

pub evaluate_two-returns : goal.evaluate_two-returns
evaluate_two-returns t c k h =
    two_worked _ _ _ _ _ _ (c.evaluate-a.ensures k h) (c.evaluate-b.ensures k h) c.apply.ensures

pub read_for-returns-then-rank : goal.read_for-returns-then-rank
read_for-returns-then-rank t c k h =
    read_lower _ _ _ _ c.rank.ensures c.rank-2.ensures _ _ _ c.if-rank.true (lower_refresh _ _ _ c.refresh.ensures k (omega (arith, c.rank.ensures, c.rank-2.ensures, c.if-rank.true, h))) c.cycle.ensures c.link.ensures c.current.ensures

pub read_for-returns-else-rank : goal.read_for-returns-else-rank
read_for-returns-else-rank t c k h =
    read_not _ _ _ _ c.rank.ensures c.rank-2.ensures c.if-rank.false c.of.ensures

pub refresh-returns-in-Some-Signal : goal.refresh-returns-in-Some-Signal
refresh-returns-in-Some-Signal t c k h =
    refreshed_signal_lem _ _ _ _ c.get.ensures c.of_word.ensures.kind c.in-Some-Signal.is c.in-Some-Signal.field-0-is c.refresh_signal.ensures

pub refresh-returns-in-Some-Computed : goal.refresh-returns-in-Some-Computed
refresh-returns-in-Some-Computed t c k h =
    refreshed_computed _ _ _ _ c.get.ensures c.of_word.ensures.kind c.in-Some-Computed.is c.in-Some-Computed.field-0-is (c.refresh_computed.ensures k h)

pub refresh-returns : goal.refresh-returns
refresh-returns t c k h =
    refreshed_other _ _ _ _ c.get.ensures c.of_word.ensures.kind (grind (arith, common_steps)) (grind (arith, common_steps))

pub refresh-returns-2 : goal.refresh-returns-2
refresh-returns-2 t c k h =
    refreshed_other _ _ _ _ c.get.ensures c.of_word.ensures.kind (grind (arith, common_steps)) (grind (arith, common_steps))

pub refresh_computed-returns-then-has : goal.refresh_computed-returns-then-has
unfolding has
refresh_computed-returns-then-has t c k h =
    computed_dirty _ _ _ _ c.flags-flags.ensures c.has.ensures c.if-has.true (c.renew.ensures k h)

pub refresh_computed-returns-then-has-2 : goal.refresh_computed-returns-then-has-2
unfolding has
refresh_computed-returns-then-has-2 t c k h =
    computed_pending _ _ _ _ c.flags-flags.ensures c.has.ensures c.if-has.false c.has-else-has.ensures c.if-has-2.true (c.refresh_pending.ensures k h)

pub refresh_computed-returns-then-is_zero : goal.refresh_computed-returns-then-is_zero
unfolding has
refresh_computed-returns-then-is_zero t c k h =
    computed_first _ _ _ _ c.flags-flags.ensures c.has.ensures c.if-has.false c.has-else-has.ensures c.if-has-2.false c.is_zero.ensures c.if-is_zero.true (c.evaluate_first.ensures k h)

pub refresh_computed-returns-else-is_zero : goal.refresh_computed-returns-else-is_zero
unfolding has
refresh_computed-returns-else-is_zero t c k h =
    computed_clean _ _ _ _ c.flags-flags.ensures c.has.ensures c.if-has.false c.has-else-has.ensures c.if-has-2.false c.is_zero.ensures c.if-is_zero.false

pub refresh_pending-returns-then-check_dirty : goal.refresh_pending-returns-then-check_dirty
refresh_pending-returns-then-check_dirty t c k h =
    surely_changed _ _ _ _ _ _ (c.check_dirty.ensures k h) c.if-check_dirty.true (c.renew.ensures k h)

pub refresh_pending-returns-else-check_dirty : goal.refresh_pending-returns-else-check_dirty
refresh_pending-returns-else-check_dirty t c k h =
    surely_same _ _ _ _ _ _ (c.check_dirty.ensures k h) c.if-check_dirty.false c.clear.ensures c.set_flags.ensures

pub renew-returns-then-update_computed : goal.renew-returns-then-update_computed
renew-returns-then-update_computed t c k h =
    renew_changed _ _ _ _ _ (c.update_computed.ensures k h) c.if-update_computed.true c.wake.ensures

pub renew-returns-else-update_computed : goal.renew-returns-else-update_computed
renew-returns-else-update_computed t c k h =
    renew_same _ _ _ _ _ (c.update_computed.ensures k h) c.if-update_computed.false

pub settle-returns-then-changed : goal.settle-returns-then-changed
settle-returns-then-changed t c k h =
    rw c.if-changed.true (settle_changed _ _ _ _ _ (c.update-changed.ensures k h) c.if-changed.true c.wake_others.ensures)

pub settle-returns-else-changed : goal.settle-returns-else-changed
settle-returns-else-changed t c k h =
    rw c.if-changed.false (settle_same _ _ _ _ _ (c.update-changed.ensures k h) c.if-changed.false)

pub update-returns-in-Some-Signal : goal.update-returns-in-Some-Signal
update-returns-in-Some-Signal t c k h =
    updated_the_signal _ _ _ _ c.get.ensures c.of_word.ensures.kind c.in-Some-Signal.is c.in-Some-Signal.field-0-is (c.update_signal.ensures _)

pub update-returns-in-Some-Computed : goal.update-returns-in-Some-Computed
update-returns-in-Some-Computed t c k h =
    updated_computed _ _ _ _ c.get.ensures c.of_word.ensures.kind c.in-Some-Computed.is c.in-Some-Computed.field-0-is (c.update_computed.ensures k h)

pub update-returns-in-Some-Effect : goal.update-returns-in-Some-Effect
update-returns-in-Some-Effect t c k h =
    updated_other _ _ _ _ c.get.ensures c.of_word.ensures.kind (grind (arith, common_steps)) (grind (arith, common_steps))

pub update-returns-in-Some-Effect-2 : goal.update-returns-in-Some-Effect-2
update-returns-in-Some-Effect-2 t c k h =
    updated_other _ _ _ _ c.get.ensures c.of_word.ensures.kind (grind (arith, common_steps)) (grind (arith, common_steps))

pub update_computed-returns : goal.update_computed-returns
update_computed-returns t c k h =
    update_worked _ _ _ _ _ _ c.get-at.ensures (c.begin.ensures _) (c.evaluate-worked.ensures k h) c.finish.ensures
