-- `operations::batches::end_batch` meets its contract. Assumes nothing.
use Rattle.operating.proofs.RunLaws.{end_none, end_last, end_inner}
use Rattle.operations.proofs.batches.end_batch.Goals as goal

pub returns-then-d-eq0 : goal.returns-then-d-eq0
returns-then-d-eq0 c = end_none _ _ _ _ c.depth-d.ensures c.if-d-eq0.true

pub returns-then-d-eq1 : goal.returns-then-d-eq1
returns-then-d-eq1 c = end_last _ _ _ _ c.depth-d.ensures c.if-d-eq0.false c.if-d-eq1.true (rw (← c.put.ensures) c.flush.ensures)

pub returns-else-d-eq1 : goal.returns-else-d-eq1
returns-else-d-eq1 c = rw c.put.ensures (end_inner _ _ _ _ c.depth-d.ensures c.if-d-eq0.false c.if-d-eq1.false)
