-- `operations::runs::flush` meets its contract. Assumes nothing.
use mathlib.Core.Path.{refl, sym, ap, ◌∙◌}
use Prim.Native.Nat.{◌*◌, ◌-◌, ◌<◌}
use native.Mathlib.Omega.{arith}
use lib.ListN.{length, drop, length-drop}
use borrow.Rule.Slice.PartMut.{same_len_mid}
use Rattle.primitive.specs.Words.{node_rows}
use Rattle.queue.specs.Queue.{count}
use Rattle.reading.specs.Tables.{state}
use Rattle.operating.specs.Log.{Ran, ran_to}
use Rattle.operating.specs.Runs.{cleared, flushed}
use Rattle.operating.proofs.RunLaws.{rest_of, put_rest, next_ran, count_low, ran_fits, flush_start, flush_step, flush_done}
use Rattle.operations.proofs.runs.flush.Goals as goal

pub loop-i-init : goal.loop-i-init
loop-i-init c = record { lens = (refl, refl, refl, refl); fit = omega arith; same = flush_start _ _ _ }

pub overflow_add-rows : goal.overflow_add-rows
overflow_add-rows c =
    let a = c.args in
    let s = state c.loop-i.nodes c.loop-i.links c.loop-i.values in
    let r = rw (rest_of (c.loop-i.rows * 2) c.loop-i.log) at c.run-rows.ensures in
    omega (arith, ap (λ (q : Ran). q.rows) r, ran_fits a.cells.now s (drop (c.loop-i.rows * 2) c.loop-i.log) c.entry-e.result, length-drop (c.loop-i.rows * 2) c.loop-i.log, c.loop-i.invariant.fit)

pub loop-i-smaller : goal.loop-i-smaller
loop-i-smaller c =
    omega (arith, c.loop-i-test.true, c.length.ensures, count_low c.loop-i.nodes, c.loop-i.invariant.lens.0)

pub loop-i-preserved : goal.loop-i-preserved
loop-i-preserved c =
    let a = c.args in
    let s = state c.loop-i.nodes c.loop-i.links c.loop-i.values in
    let at = c.loop-i.rows * 2 in
    let r = rw (rest_of at c.loop-i.log) at c.run-rows.ensures in
    let l = same_len_mid at (length c.loop-i.log - at) c.loop-i.log c.run-rows.new.log c.run-rows.auto.log in
    let i : c.loop-i.i < count c.loop-i.nodes = omega (arith, c.loop-i-test.true, c.length.ensures) in
    record {
      lens = (c.run-rows.auto.nodes ∙ c.loop-i.invariant.lens.0, c.run-rows.auto.links ∙ c.loop-i.invariant.lens.1, c.run-rows.auto.values ∙ c.loop-i.invariant.lens.2, l ∙ c.loop-i.invariant.lens.3);
      fit = omega (arith, l, ap (λ (q : Ran). q.rows) r, ran_fits a.cells.now s (drop at c.loop-i.log) c.entry-e.result, length-drop at c.loop-i.log, c.loop-i.invariant.fit);
      same = rw (put_rest at c.loop-i.log c.run-rows.new.log c.loop-i.invariant.fit, next_ran a.cells.now s _ c.loop-i.log _ c.loop-i.rows _ c.entry-e.result r, c.entry-e.ensures)
          (sym (flush_step a.cells.now (node_rows a.nodes.now) c.loop-i.i (ran_to s c.loop-i.log c.loop-i.rows) i (omega (arith, i, count_low c.loop-i.nodes, c.loop-i.invariant.lens.0))) ∙ c.loop-i.invariant.same);
    }

pub returns : goal.returns
unfolding flushed cleared
returns c =
    let e = sym (flush_done c.args.cells.now _ _ (ran_to (state c.loop-i.nodes c.loop-i.links c.loop-i.values) c.loop-i.log c.loop-i.rows) (omega (arith, c.loop-i-test.false, c.length.ensures))) ∙ c.loop-i.invariant.same in
    rw c.clear.ensures (ap cleared e)
