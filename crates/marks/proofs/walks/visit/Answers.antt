-- `marks::walks::visit` meets its contract: a law for each of the five branches. Assumes nothing.
use mathlib.Core.Path.{◌≡◌, refl, sym, ap, ◌∙◌}
use Prim.Native.Nat.{ℕ}
use lib.Bits.{bit_or}
use Rattle.marking.specs.Fields.{set_flags}
use Rattle.marking.proofs.Tests.{masked_zero}
use Rattle.marking.proofs.VisitLaws.{visit_clean, visit_marked, visit_recursed, visit_changed, visit_stray, visit_valid, skips, marks}
use Rattle.marking.specs.Visits.{visit}
use Rattle.marking.specs.Visits.Visit.{Skip}
use Rattle.marks.proofs.walks.visit.Goals as goal
use Rattle.marks.proofs.walks.visit.Goals.{else-is_zero-4-via-then-is_zero-4+else-is_valid_link, else-is_zero-4-via-else-is_zero-4}

pub returns-then-is_zero : goal.returns-then-is_zero
returns-then-is_zero c =
    let p = marks c.args.nodes.now c.args.sub
    (visit_clean c.args.links.now c.args.nodes.now c.args.s c.args.sub c.flags-flags.ensures (masked_zero _ _ c.mask.ensures c.is_zero.ensures c.if-is_zero.true))
    refl
    (c.set_flags.ensures ∙ ap (set_flags _ _) c.join.ensures) in
    record { bits_value = p.0; nodes_after = p.1 }

pub returns-then-is_zero-2 : goal.returns-then-is_zero-2
returns-then-is_zero-2 c =
    let p = skips c.args.nodes.now c.args.sub
    (visit_marked c.args.links.now c.args.nodes.now c.args.s c.args.sub c.flags-flags.ensures (masked_zero _ _ c.mask.ensures c.is_zero.ensures c.if-is_zero.false) (masked_zero _ _ c.mask-else-is_zero.ensures c.is_zero-else-is_zero.ensures c.if-is_zero-2.true))
    refl refl in
    record { bits_value = p.0; nodes_after = p.1 }

pub returns-then-is_zero-3 : goal.returns-then-is_zero-3
returns-then-is_zero-3 c =
    let p = marks c.args.nodes.now c.args.sub
    (visit_recursed c.args.links.now c.args.nodes.now c.args.s c.args.sub c.flags-flags.ensures (masked_zero _ _ c.mask.ensures c.is_zero.ensures c.if-is_zero.false) (masked_zero _ _ c.mask-else-is_zero.ensures c.is_zero-else-is_zero.ensures c.if-is_zero-2.false) (masked_zero _ _ c.mask-else-is_zero-2.ensures c.is_zero-else-is_zero-2.ensures c.if-is_zero-3.true))
    refl
    (c.set_flags-then-is_zero-3.ensures ∙ ap (set_flags _ _) (c.join-then-is_zero-3.ensures ∙ ap (λ (x : ℕ). bit_or x 32) c.clear.ensures)) in
    record { bits_value = p.0; nodes_after = p.1 }

pub returns-then-is_valid_link : goal.returns-then-is_valid_link
returns-then-is_valid_link c =
    let p = marks c.args.nodes.now c.args.sub
    (visit_valid c.args.links.now c.args.nodes.now c.args.s c.args.sub c.flags-flags.ensures (masked_zero _ _ c.mask.ensures c.is_zero.ensures c.if-is_zero.false) (masked_zero _ _ c.mask-else-is_zero.ensures c.is_zero-else-is_zero.ensures c.if-is_zero-2.false) (masked_zero _ _ c.mask-else-is_zero-2.ensures c.is_zero-else-is_zero-2.ensures c.if-is_zero-3.false) (masked_zero _ _ c.mask-else-is_zero-3.ensures c.is_zero-else-is_zero-3.ensures c.if-is_zero-4.true)
    (sym c.is_valid_link.ensures ∙ c.if-is_valid_link.true))
    c.mask-then-is_valid_link.ensures
    (c.set_flags-then-is_valid_link.ensures ∙ ap (set_flags _ _) (c.join-then-is_valid_link-2.ensures ∙ ap (bit_or c.flags-flags.result.bits) c.join-then-is_valid_link.ensures)) in
    record { bits_value = p.0; nodes_after = p.1 }

pub returns-else-is_zero-4 : goal.returns-else-is_zero-4
returns-else-is_zero-4 c =
    let e : visit c.args.links.now c.args.nodes.now c.args.s c.args.sub ≡ Skip = elim c.else-is_zero-4.branch [
      | else-is_zero-4-via-then-is_zero-4+else-is_valid_link w ↦ visit_stray c.args.links.now c.args.nodes.now c.args.s c.args.sub c.flags-flags.ensures (masked_zero _ _ c.mask.ensures c.is_zero.ensures c.if-is_zero.false) (masked_zero _ _ c.mask-else-is_zero.ensures c.is_zero-else-is_zero.ensures c.if-is_zero-2.false) (masked_zero _ _ c.mask-else-is_zero-2.ensures c.is_zero-else-is_zero-2.ensures c.if-is_zero-3.false) (masked_zero _ _ c.mask-else-is_zero-3.ensures c.is_zero-else-is_zero-3.ensures w.if-is_zero-4.true) (sym w.is_valid_link.ensures ∙ w.if-is_valid_link.false)
      | else-is_zero-4-via-else-is_zero-4 w ↦ visit_changed c.args.links.now c.args.nodes.now c.args.s c.args.sub c.flags-flags.ensures (masked_zero _ _ c.mask.ensures c.is_zero.ensures c.if-is_zero.false) (masked_zero _ _ c.mask-else-is_zero.ensures c.is_zero-else-is_zero.ensures c.if-is_zero-2.false) (masked_zero _ _ c.mask-else-is_zero-2.ensures c.is_zero-else-is_zero-2.ensures c.if-is_zero-3.false) (masked_zero _ _ c.mask-else-is_zero-3.ensures c.is_zero-else-is_zero-3.ensures w.if-is_zero-4.false)
    ] in
    let p = skips c.args.nodes.now c.args.sub e refl refl in
    record { bits_value = p.0; nodes_after = p.1 }
