-- `operations::runs::run` meets its contract. Assumes nothing.
use Rattle.operating.proofs.RunLaws.{ran_once, ran_not}
use Rattle.operations.proofs.runs.run.Goals as goal

pub returns-then-must_run : goal.returns-then-must_run
returns-then-must_run c = ran_once _ _ _ _ _ c.must_run.ensures c.if-must_run.true c.rerun-value.ensures c.write_row.ensures.value c.write_row.ensures.log_after

pub returns-else-must_run : goal.returns-else-must_run
returns-else-must_run c = rw c.set_flags.ensures (ran_not _ _ _ _ _ c.must_run.ensures c.if-must_run.false)
