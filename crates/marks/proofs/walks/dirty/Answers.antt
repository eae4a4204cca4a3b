-- `marks::walks::dirty` meets its contract. Assumes nothing.
use Rattle.marking.proofs.Tests.{masked_same}
use Rattle.marking.proofs.ShallowLaws.{dirty_not, dirty_wakes, dirty_rests}
use Rattle.marks.proofs.walks.dirty.Goals as goal

pub returns-then-eq-2 : goal.returns-then-eq-2
returns-then-eq-2 c =
    dirty_wakes _ _ _ c.flags-flags.ensures
    (masked_same _ _ c.mask.ensures _ c.eq.ensures c.if-eq.true)
    c.join.ensures
    c.set_flags.ensures
    (masked_same _ _ (rw c.join-then-eq.ensures at c.mask-then-eq.ensures) _ c.eq-then-eq.ensures c.if-eq-2.true)
    c.notify.ensures

pub returns-else-eq-2 : goal.returns-else-eq-2
returns-else-eq-2 c =
    dirty_rests _ _ _ c.flags-flags.ensures
    (masked_same _ _ c.mask.ensures _ c.eq.ensures c.if-eq.true)
    c.join.ensures
    c.set_flags.ensures
    (masked_same _ _ (rw c.join-then-eq.ensures at c.mask-then-eq.ensures) _ c.eq-then-eq.ensures c.if-eq-2.false)

pub returns-else-eq : goal.returns-else-eq
returns-else-eq c =
    dirty_not _ _ _ c.flags-flags.ensures (masked_same _ _ c.mask.ensures _ c.eq.ensures c.if-eq.false)
