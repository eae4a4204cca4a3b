-- `operations::writes::set` meets its contract. Assumes nothing.
use mathlib.Core.Path.{◌≡◌, sym, ap, ◌∙◌}
use Rattle.values.proofs.ValueLaws.{eq_same}
use Rattle.primitive.specs.Slots.{slot_of}
use Rattle.primitive.specs.declared.slots.Slot.TheVariants.{At, Nothing}
use Rattle.marking.specs.Fields.{set_flags, subs}
use Rattle.marking.specs.Walks.{propagated}
use Rattle.operating.specs.Writes.{stored, stale}
use Rattle.operating.proofs.RunLaws.{write_same, write_alone, write_flushed, write_batched}
use Rattle.operations.proofs.writes.set.Goals as goal

pub returns-then-eq : goal.returns-then-eq
returns-then-eq c = write_same _ _ _ _ _ c.pending.ensures (c.eq.ensures ∙ eq_same _ _) c.if-eq.true

pub returns-in_default : goal.returns-in_default
unfolding stored
returns-in_default c =
    let a = c.args in
    let z : c.set_flags.new.nodes ≡ set_flags a.nodes.now a.n stale = c.set_flags.ensures in
    let g : slot_of (subs (set_flags a.nodes.now a.n stale) a.n) ≡ Nothing = rw (← z) (sym (c.open.ensures ∙ ap slot_of c.get.ensures) ∙ c.in_default.is) in
    rw (z, c.keep_pending.ensures) (write_alone _ _ _ _ _ c.pending.ensures (c.eq.ensures ∙ eq_same _ _) c.if-eq.false g)

pub returns-then-depth-eq0 : goal.returns-then-depth-eq0
unfolding stored
returns-then-depth-eq0 c =
    let a = c.args in
    let z : c.set_flags.new.nodes ≡ set_flags a.nodes.now a.n stale = c.set_flags.ensures in
    let g : slot_of (subs (set_flags a.nodes.now a.n stale) a.n) ≡ At c.in-At.s = rw (← z) (sym (c.open.ensures ∙ ap slot_of c.get.ensures) ∙ c.in-At.is) in
    let q : c.propagate.new.nodes ≡ propagated a.links.now (set_flags a.nodes.now a.n stale) c.in-At.s = rw (← z) c.propagate.ensures in
    write_flushed _ _ _ _ _ c.pending.ensures (c.eq.ensures ∙ eq_same _ _) c.if-eq.false _ g _ q (sym c.depth.ensures ∙ c.if-depth-eq0.true) (rw (← c.keep_pending.ensures) c.flush.ensures)

pub returns-else-depth-eq0 : goal.returns-else-depth-eq0
unfolding stored
returns-else-depth-eq0 c =
    let a = c.args in
    let z : c.set_flags.new.nodes ≡ set_flags a.nodes.now a.n stale = c.set_flags.ensures in
    let g : slot_of (subs (set_flags a.nodes.now a.n stale) a.n) ≡ At c.in-At.s = rw (← z) (sym (c.open.ensures ∙ ap slot_of c.get.ensures) ∙ c.in-At.is) in
    let q : c.propagate.new.nodes ≡ propagated a.links.now (set_flags a.nodes.now a.n stale) c.in-At.s = rw (← z) c.propagate.ensures in
    rw c.keep_pending.ensures (write_batched _ _ _ _ _ c.pending.ensures (c.eq.ensures ∙ eq_same _ _) c.if-eq.false _ g _ q (λ e. c.if-depth-eq0.false (c.depth.ensures ∙ e)))
