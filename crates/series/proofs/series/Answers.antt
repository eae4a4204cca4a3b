-- `series::series` meets its contract. Assumes nothing.
use mathlib.Core.Path.{◌≡◌, refl, sym, ◌∙◌}
use Prim.Native.Nat.{◌+◌, ◌*◌, ◌-◌, ◌<◌}
use native.Mathlib.Omega.{arith}
use lib.ListN.{length}
use borrow.Rule.Slice.PartMut.{same_len_mid}
use Rattle.sequencing.specs.Series.{going, series_in}
use Rattle.sequencing.proofs.SeriesLaws.{series_start, step_of_table, is_over, stop_here, go_on, went}
use Rattle.series.proofs.series.Goals as goal

pub loop-used-init : goal.loop-used-init
loop-used-init c =
    let a = c.args in
    record { lens = (refl, refl, refl, refl, refl, refl); formed = c.well_formed-formed.ensures; low = omega arith; inside = omega arith; rows_fit = omega arith; answers_fit = omega arith; same = series_start a.list.now (going a.nodes.now a.links.now a.values.now a.cells.now a.rows.now a.answers.now 0 0 0) }

pub returns-in-Stopped : goal.returns-in-Stopped
unfolding series_in
returns-in-Stopped c =
    let a = c.args in
    let q = step_of_table a.list.now c.loop-used.nodes c.loop-used.links c.loop-used.values c.loop-used.cells c.loop-used.rows c.loop-used.answers c.loop-used.used c.loop-used.done c.loop-used.ran _ c.loop-used.invariant.formed c.one.ensures in
    let some : 0 < length a.list.now - c.loop-used.done = omega (arith, c.loop-used-test.true, c.loop-used.invariant.low) in
    stop_here a.list.now c.loop-used.nodes c.loop-used.links c.loop-used.values c.loop-used.cells c.loop-used.rows c.loop-used.answers c.loop-used.used c.loop-used.done c.loop-used.ran c.loop-used.invariant.rows_fit c.loop-used.invariant.answers_fit q _ _ some c.in-Stopped.is ∙ c.loop-used.invariant.same

pub overflow_add-used : goal.overflow_add-used
overflow_add-used c =
    let a = c.args in
    let q = step_of_table a.list.now c.loop-used.nodes c.loop-used.links c.loop-used.values c.loop-used.cells c.loop-used.rows c.loop-used.answers c.loop-used.used c.loop-used.done c.loop-used.ran _ c.loop-used.invariant.formed c.one.ensures in
    let w = went a.list.now c.loop-used.nodes c.loop-used.links c.loop-used.values c.loop-used.cells c.loop-used.rows c.loop-used.answers c.loop-used.used c.loop-used.done c.loop-used.ran c.loop-used.invariant.rows_fit c.loop-used.invariant.answers_fit q _ _ c.loop-used.invariant.inside c.in-Done.is in
    omega (arith, w.inside, c.well_formed.1.1.1.1.1.0.0)

pub overflow_add-done : goal.overflow_add-done
overflow_add-done c = omega (arith, c.loop-used-test.true, c.loop-used.invariant.low, c.well_formed.1.1.1.1.1.0.0)

pub overflow_add-ran : goal.overflow_add-ran
overflow_add-ran c =
    let a = c.args in
    let q = step_of_table a.list.now c.loop-used.nodes c.loop-used.links c.loop-used.values c.loop-used.cells c.loop-used.rows c.loop-used.answers c.loop-used.used c.loop-used.done c.loop-used.ran _ c.loop-used.invariant.formed c.one.ensures in
    let w = went a.list.now c.loop-used.nodes c.loop-used.links c.loop-used.values c.loop-used.cells c.loop-used.rows c.loop-used.answers c.loop-used.used c.loop-used.done c.loop-used.ran c.loop-used.invariant.rows_fit c.loop-used.invariant.answers_fit q _ _ c.loop-used.invariant.inside c.in-Done.is in
    omega (arith, w.rows_inside, c.loop-used.invariant.lens.4, c.well_formed.1.1.1.1.0.0)

pub loop-used-smaller : goal.loop-used-smaller
loop-used-smaller c =
    let a = c.args in
    let q = step_of_table a.list.now c.loop-used.nodes c.loop-used.links c.loop-used.values c.loop-used.cells c.loop-used.rows c.loop-used.answers c.loop-used.used c.loop-used.done c.loop-used.ran _ c.loop-used.invariant.formed c.one.ensures in
    let w = went a.list.now c.loop-used.nodes c.loop-used.links c.loop-used.values c.loop-used.cells c.loop-used.rows c.loop-used.answers c.loop-used.used c.loop-used.done c.loop-used.ran c.loop-used.invariant.rows_fit c.loop-used.invariant.answers_fit q _ _ c.loop-used.invariant.inside c.in-Done.is in
    omega (arith, w.some, w.inside, c.loop-used-test.true)

pub loop-used-preserved : goal.loop-used-preserved
loop-used-preserved c =
    let a = c.args in
    let q = step_of_table a.list.now c.loop-used.nodes c.loop-used.links c.loop-used.values c.loop-used.cells c.loop-used.rows c.loop-used.answers c.loop-used.used c.loop-used.done c.loop-used.ran _ c.loop-used.invariant.formed c.one.ensures in
    let w = went a.list.now c.loop-used.nodes c.loop-used.links c.loop-used.values c.loop-used.cells c.loop-used.rows c.loop-used.answers c.loop-used.used c.loop-used.done c.loop-used.ran c.loop-used.invariant.rows_fit c.loop-used.invariant.answers_fit q _ _ c.loop-used.invariant.inside c.in-Done.is in
    let some : 0 < length a.list.now - c.loop-used.done = omega (arith, c.loop-used-test.true, c.loop-used.invariant.low) in
    let less : length a.list.now - c.loop-used.done - 1 ≡ length a.list.now - (c.loop-used.done + 1) = omega arith in
    let r = same_len_mid (c.loop-used.ran * 2) (length c.loop-used.rows - c.loop-used.ran * 2) c.loop-used.rows c.one.new.log c.one.auto.log in
    let y = same_len_mid (c.loop-used.done * 3) (length c.loop-used.answers - c.loop-used.done * 3) c.loop-used.answers c.one.new.answers c.one.auto.answers in
    record {
      lens = (c.one.auto.nodes ∙ c.loop-used.invariant.lens.0, c.one.auto.links ∙ c.loop-used.invariant.lens.1, c.one.auto.values ∙ c.loop-used.invariant.lens.2, c.one.auto.cells ∙ c.loop-used.invariant.lens.3, r ∙ c.loop-used.invariant.lens.4, y ∙ c.loop-used.invariant.lens.5);
      formed = c.loop-used.invariant.formed ∙ sym w.formed;
      low = omega (arith, c.loop-used.invariant.low, w.some);
      inside = w.inside;
      rows_fit = omega (arith, w.rows_inside, r);
      answers_fit = omega (arith, w.answers_inside, y);
      same = rw (← less) (go_on a.list.now c.loop-used.nodes c.loop-used.links c.loop-used.values c.loop-used.cells c.loop-used.rows c.loop-used.answers c.loop-used.used c.loop-used.done c.loop-used.ran c.loop-used.invariant.rows_fit c.loop-used.invariant.answers_fit q _ _ _ some c.in-Done.is ∙ c.loop-used.invariant.same);
    }

pub returns : goal.returns
unfolding series_in
returns c =
    let a = c.args in
    is_over a.list.now c.loop-used.nodes c.loop-used.links c.loop-used.values c.loop-used.cells c.loop-used.rows c.loop-used.answers c.loop-used.used c.loop-used.done c.loop-used.ran _ c.loop-used-test.false ∙ c.loop-used.invariant.same
