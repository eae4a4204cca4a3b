-- `operations::runs::must_run` meets its contract. Assumes nothing.
use Rattle.marking.specs.Fields.{has}
use Rattle.operating.proofs.RunLaws.{must_dirty, must_check, must_not}
use Rattle.operations.proofs.runs.must_run.Goals as goal

pub returns-then-has : goal.returns-then-has
unfolding has
returns-then-has c = rw c.if-has.true (must_dirty _ _ _ c.flags-flags.ensures c.has.ensures c.if-has.true)

pub returns-then-has-2 : goal.returns-then-has-2
unfolding has
returns-then-has-2 c = must_check _ _ _ c.flags-flags.ensures c.has.ensures c.if-has.false c.has-else-has.ensures c.if-has-2.true c.check_dirty.ensures

pub returns-else-has-2 : goal.returns-else-has-2
unfolding has
returns-else-has-2 c = rw c.if-has-2.false (must_not _ _ _ c.flags-flags.ensures c.has.ensures c.if-has.false c.has-else-has.ensures c.if-has-2.false)
