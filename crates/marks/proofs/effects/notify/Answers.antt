-- `marks::effects::notify` meets its contract. Assumes nothing.
use Rattle.marking.specs.Notify.{notified}
use Rattle.marks.proofs.effects.notify.Goals as goal

pub returns : goal.returns
unfolding notified
returns c =
    rw (← c.length-chain_head.ensures, ← c.climb.ensures) c.reverse_from.ensures
