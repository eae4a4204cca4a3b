-- `marks::walks::propagate` meets its contract. Assumes nothing.
use Rattle.std.proofs.Common.{◌≡◌, ℕ, suc, List, ◌+◌, ◌-◌, sym, ap, ◌∙◌, arith}
use Rattle.primitive.specs.Words.{link_rows}
use Rattle.stack.specs.Stack.{pushed, pushed_len}
use Rattle.marking.specs.Walks.{place, walked, blank, propagated}
use Rattle.marking.proofs.WalkLaws.{down_push, down_flat, walk_end, turn_down, turn_flat, along_slot, along_none, push_nothing, back_nothing}
use Rattle.marks.proofs.walks.propagate.Goals as goal

pub loop-turn-init : goal.loop-turn-init
unfolding propagated
loop-turn-init c =
    let z : link_rows c.args.links.now - 0 ≡ link_rows c.args.links.now = omega arith in
    rw (z, c.get-next.ensures)

pub returns-in_default-open : goal.returns-in_default-open
returns-in_default-open c =
    let h : link_rows c.args.links.now - c.loop-turn.turn ≡ suc (link_rows c.args.links.now - (c.loop-turn.turn + 1)) = omega arith in
    let e = turn_flat _ _ _ h c.get-sub.ensures c.reach-flags.ensures.bits_value c.reach-flags.ensures.nodes_after c.below.ensures c.in_default.is c.open.ensures ∙ along_none _ _ _ _ c.in_default-open.is ∙ back_nothing _ _ _ 1024 _ in
    sym e ∙ c.loop-turn.invariant

pub loop-turn-preserved-in_default : goal.loop-turn-preserved-in_default
loop-turn-preserved-in_default c =
    let h : link_rows c.args.links.now - c.loop-turn.turn ≡ suc (link_rows c.args.links.now - (c.loop-turn.turn + 1)) = omega arith in
    sym (turn_flat _ _ _ h c.get-sub.ensures c.reach-flags.ensures.bits_value c.reach-flags.ensures.nodes_after c.below.ensures c.in_default.is c.open.ensures ∙ along_slot _ _ _ _ c.in-At-open.is c.get-next-in_default.ensures) ∙ c.loop-turn.invariant

pub loop-turn-preserved-in_default-open-2 : goal.loop-turn-preserved-in_default-open-2
loop-turn-preserved-in_default-open-2 c =
    let h : link_rows c.args.links.now - c.loop-turn.turn ≡ suc (link_rows c.args.links.now - (c.loop-turn.turn + 1)) = omega arith in
    let w = place c.loop-turn.link c.loop-turn.next blank c.loop-turn.len in
    let e = turn_down c.args.links.now c.loop-turn.nodes w h c.get-sub.ensures c.reach-flags.ensures.bits_value c.reach-flags.ensures.nodes_after c.below.ensures c.in-At.is in
    let d = down_flat c.args.links.now w _ c.get-over.ensures c.open-in-loop-turn.ensures c.in_default-open-2.is in
    sym (e ∙ ap (walked _ _ _) d) ∙ c.loop-turn.invariant

pub returns-then-next-ne0 : goal.returns-then-next-ne0
returns-then-next-ne0 c =
    let h : link_rows c.args.links.now - c.loop-turn.turn ≡ suc (link_rows c.args.links.now - c.loop-turn.turn - 1) = omega arith in
    let w = place c.loop-turn.link c.loop-turn.next blank c.loop-turn.len in
    let e = turn_down c.args.links.now c.loop-turn.nodes w h c.get-sub.ensures c.reach-flags.ensures.bits_value c.reach-flags.ensures.nodes_after c.below.ensures c.in-At.is in
    let d = down_push c.args.links.now w _ c.get-over.ensures c.open-in-loop-turn.ensures c.in-At-open-2.is in
    c.propagate_on.ensures ∙ sym (e ∙ ap (walked _ _ _) d) ∙ c.loop-turn.invariant

-- to leave nothing aside changes no word of the stack
pub loop-turn-preserved : goal.loop-turn-preserved
loop-turn-preserved c =
    let h : link_rows c.args.links.now - c.loop-turn.turn ≡ suc (link_rows c.args.links.now - (c.loop-turn.turn + 1)) = omega arith in
    let v = c.loop-turn in
    let w = place v.link v.next blank v.len in
    let e = turn_down c.args.links.now v.nodes w h c.get-sub.ensures c.reach-flags.ensures.bits_value c.reach-flags.ensures.nodes_after c.below.ensures c.in-At.is in
    let d = down_push c.args.links.now w _ c.get-over.ensures c.open-in-loop-turn.ensures c.in-At-open-2.is in
    let z : pushed blank v.len v.next ≡ blank = ap (λ (n : ℕ). pushed blank v.len n) c.if-next-ne0.false ∙ push_nothing 1024 v.len in
    let q = d ∙ ap (λ (A : List ℕ). place c.in-At.down c.get-over.result A (pushed_len blank v.len)) z in
    rw c.one_higher-len.ensures (sym (e ∙ ap (walked _ _ _) q) ∙ v.invariant)

pub returns : goal.returns
returns c =
    let h : link_rows c.args.links.now - c.loop-turn.turn ≡ 0 = omega arith in
    sym (walk_end _ _ _ _ h) ∙ c.loop-turn.invariant
