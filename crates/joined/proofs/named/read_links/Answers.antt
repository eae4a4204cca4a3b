-- `joined::named::read_links` meets its contract. Assumes nothing.
use Rattle.joined.proofs.TurnLaws.{at_slot, at_nothing}
use Rattle.lists.proofs.EachLaws.{tally_out, tally_end, tally_yes, tally_no}
use Rattle.trees.specs.Legal.{readable_in}
use Rattle.resting.specs.Named.{reads_from}
use mathlib.Core.Bool.{Bool}
use Rattle.primitive.specs.Rows.{field}
use mathlib.Core.Path.{◌≡◌, sym, ap, ◌∙◌}
use Prim.Native.Nat.{ℕ, suc, ◌+◌, ◌-◌}
use native.Mathlib.Omega.{arith}
use Rattle.joined.proofs.named.read_links.Goals as goal
use Rattle.joined.proofs.named.read_links.Goals.{then-readable, else-readable}

pub returns-in_default : goal.returns-in_default
unfolding reads_from
returns-in_default c =
    rw (← c.slot_room-slots.ensures) (tally_end _ _ (c.slot_room-slots.result - c.loop-link._link) c.loop-link.at _ _ (at_nothing _ c.open.ensures c.in_default.is) c.loop-link.invariant.0)

pub loop-link-preserved : goal.loop-link-preserved
loop-link-preserved c =
    let P : ℕ → Bool = λ (x : ℕ). readable_in c.args.nodes.now (field 8 c.args.links.now x 1) in
    let step : c.slot_room-slots.result - c.loop-link._link ≡ suc (c.slot_room-slots.result - (c.loop-link._link + 1)) = omega arith in
    let is : readable_in c.args.nodes.now (field 8 c.args.links.now c.in-At.x 1) ≡ c.readable.result = sym (ap (readable_in c.args.nodes.now) c.get.ensures) ∙ sym c.readable.ensures in
    elim c.if-readable.branch [
      | then-readable w ↦ rw w.count-is (tally_yes _ P _ _ _ _ _ _ _ step (at_slot _ _ c.open.ensures c.in-At.is) c.get-at.ensures (is ∙ w.if-readable.true) c.loop-link.invariant.0, omega arith)
      | else-readable w ↦ rw w.count-is (tally_no _ P _ _ _ _ _ _ _ step (at_slot _ _ c.open.ensures c.in-At.is) c.get-at.ensures (is ∙ w.if-readable.false) c.loop-link.invariant.0, omega arith)
    ]

pub returns : goal.returns
unfolding reads_from
returns c =
    rw (← c.slot_room-slots.ensures) (tally_out _ _ (c.slot_room-slots.result - c.loop-link._link) c.loop-link.at _ _ (omega arith) c.loop-link.invariant.0)
