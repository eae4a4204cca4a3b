-- `making::new_signal` meets its contract. Assumes nothing.
use Rattle.operating.specs.Making.{new_signal}
use Rattle.making.proofs.new_signal.Goals as goal

pub returns : goal.returns
unfolding new_signal
returns c l = c.make.ensures l
