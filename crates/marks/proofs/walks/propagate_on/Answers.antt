-- `marks::walks::propagate_on` meets its contract. Assumes nothing.
use Rattle.std.proofs.Common.{◌≡◌, suc, ◌+◌, ◌-◌, sym, ap, ◌∙◌, arith}
use Rattle.marking.specs.Walks.{place, walked}
use Rattle.marking.proofs.WalkLaws.{down_push, down_flat, walk_end, turn_down, turn_flat, along_slot, along_none, back_end, back_slot, back_none}
use Rattle.marks.proofs.walks.propagate_on.Goals as goal

pub top-init : goal.top-init
top-init c =
    let z : c.args.turns - 0 ≡ c.args.turns = omega arith in
    rw (z, c.push.ensures, c.blank-stack.ensures)

pub loop-w-preserved : goal.loop-w-preserved
loop-w-preserved c =
    rw c.pop.ensures.1 (sym (back_none _ _ _ _ _ c.pop.ensures.0 c.in-Some.is c.open-in-Some.ensures c.in_default-open-2.is) ∙ c.loop-w.invariant)

pub top-preserved-in-Some : goal.top-preserved-in-Some
top-preserved-in-Some c =
    let h : c.args.turns - c.top.counter ≡ suc (c.args.turns - (c.top.counter + 1)) = omega arith in
    let e = turn_flat _ _ _ h c.get-sub.ensures c.reach-flags.ensures.bits_value c.reach-flags.ensures.nodes_after c.below.ensures c.in_default.is c.open.ensures ∙ along_none _ _ _ _ c.in_default-open.is ∙ sym c.loop-w.invariant in
    let d = back_slot _ _ _ _ _ c.pop.ensures.0 c.in-Some.is c.open-in-Some.ensures c.in-At-open-2.is c.get-next.ensures in
    rw c.pop.ensures.1 (sym (e ∙ d) ∙ c.top.invariant)

pub returns-in_default-open : goal.returns-in_default-open
returns-in_default-open c =
    let h : c.args.turns - c.top.counter ≡ suc (c.args.turns - (c.top.counter + 1)) = omega arith in
    let e = turn_flat _ _ _ h c.get-sub.ensures c.reach-flags.ensures.bits_value c.reach-flags.ensures.nodes_after c.below.ensures c.in_default.is c.open.ensures ∙ along_none _ _ _ _ c.in_default-open.is ∙ sym c.loop-w.invariant in
    let d = back_end _ _ _ _ _ c.pop.ensures.0 c.in_default-pop.is in
    sym (e ∙ d) ∙ c.top.invariant

pub top-preserved-in_default : goal.top-preserved-in_default
top-preserved-in_default c =
    let h : c.args.turns - c.top.counter ≡ suc (c.args.turns - (c.top.counter + 1)) = omega arith in
    sym (turn_flat _ _ _ h c.get-sub.ensures c.reach-flags.ensures.bits_value c.reach-flags.ensures.nodes_after c.below.ensures c.in_default.is c.open.ensures ∙ along_slot _ _ _ _ c.in-At-open.is c.get-next-in_default.ensures) ∙ c.top.invariant

pub top-preserved-in_default-open-3 : goal.top-preserved-in_default-open-3
top-preserved-in_default-open-3 c =
    let h : c.args.turns - c.top.counter ≡ suc (c.args.turns - (c.top.counter + 1)) = omega arith in
    let w = place c.top.link c.top.next c.top.stack.words c.top.stack.len in
    let e = turn_down c.args.links.now c.top.nodes w h c.get-sub.ensures c.reach-flags.ensures.bits_value c.reach-flags.ensures.nodes_after c.below.ensures c.in-At.is in
    let d = down_flat c.args.links.now w _ c.get-over.ensures c.open-in-top.ensures c.in_default-open-3.is in
    sym (e ∙ ap (walked _ _ _) d) ∙ c.top.invariant

pub top-preserved : goal.top-preserved
top-preserved c =
    let h : c.args.turns - c.top.counter ≡ suc (c.args.turns - (c.top.counter + 1)) = omega arith in
    let w = place c.top.link c.top.next c.top.stack.words c.top.stack.len in
    let e = turn_down c.args.links.now c.top.nodes w h c.get-sub.ensures c.reach-flags.ensures.bits_value c.reach-flags.ensures.nodes_after c.below.ensures c.in-At.is in
    let d = down_push c.args.links.now w _ c.get-over.ensures c.open-in-top.ensures c.in-At-open-3.is in
    rw c.push-in-top.ensures (sym (e ∙ ap (walked _ _ _) d) ∙ c.top.invariant)

pub returns : goal.returns
returns c =
    let h : c.args.turns - c.top.counter ≡ 0 = omega arith in
    sym (walk_end _ _ _ _ h) ∙ c.top.invariant
