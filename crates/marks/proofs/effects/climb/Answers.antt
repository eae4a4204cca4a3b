-- `marks::effects::climb` meets its contract. Assumes nothing.
use Rattle.std.proofs.Common.{◌≡◌, suc, ◌+◌, ◌-◌, sym, ◌∙◌, arith}
use Rattle.primitive.specs.Words.{node_rows}
use Rattle.marking.proofs.NotifyLaws.{climb_end, climb_none, climb_stop, climb_more}
use Rattle.marking.proofs.Tests.{masked_zero}
use Rattle.marks.proofs.effects.climb.Goals as goal

pub returns-in_default : goal.returns-in_default
returns-in_default c =
    let h : node_rows c.args.nodes.now - c.loop.counter ≡ suc (node_rows c.args.nodes.now - (c.loop.counter + 1)) = omega arith in
    sym (climb_none _ _ _ h c.enqueue.ensures c.get.ensures c.open.ensures c.in_default.is) ∙ c.loop.invariant

pub returns-then-is_zero : goal.returns-then-is_zero
returns-then-is_zero c =
    let h : node_rows c.args.nodes.now - c.loop.counter ≡ suc (node_rows c.args.nodes.now - (c.loop.counter + 1)) = omega arith in
    sym (climb_stop _ _ _ h c.enqueue.ensures c.get.ensures c.open.ensures c.in-At.is c.get-e.ensures c.flags.ensures (masked_zero _ _ c.mask.ensures c.is_zero.ensures c.if-is_zero.true))
    ∙ c.loop.invariant

pub loop-preserved : goal.loop-preserved
loop-preserved c =
    let h : node_rows c.args.nodes.now - c.loop.counter ≡ suc (node_rows c.args.nodes.now - (c.loop.counter + 1)) = omega arith in
    sym (climb_more _ _ _ h c.enqueue.ensures c.get.ensures c.open.ensures c.in-At.is c.get-e.ensures c.flags.ensures (masked_zero _ _ c.mask.ensures c.is_zero.ensures c.if-is_zero.false))
    ∙ c.loop.invariant

pub returns : goal.returns
returns c =
    let h : node_rows c.args.nodes.now - c.loop.counter ≡ 0 = omega arith in
    sym (climb_end _ _ _ _ h) ∙ c.loop.invariant
