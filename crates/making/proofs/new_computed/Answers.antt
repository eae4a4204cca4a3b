-- `making::new_computed` meets its contract. Assumes nothing.
use Rattle.operating.specs.Making.{new_computed}
use Rattle.making.proofs.new_computed.Goals as goal

pub returns : goal.returns
unfolding new_computed
returns c l = rw (← c.height.ensures, ← c.of.ensures) (c.make.ensures l)
