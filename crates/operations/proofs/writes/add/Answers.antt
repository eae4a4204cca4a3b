-- `operations::writes::add` meets its contract. Assumes nothing.
use Rattle.operating.proofs.RunLaws.{add_written}
use Rattle.operations.proofs.writes.add.Goals as goal

pub returns : goal.returns
returns c = add_written _ _ _ _ _ c.current.ensures c.sum-sum.ensures c.set.ensures
