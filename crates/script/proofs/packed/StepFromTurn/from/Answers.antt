-- `script::packed::StepFromTurn::from` meets its contract. Assumes nothing.
use borrow.Author.Rules.{rules}
use Rattle.script.specs.Packed.{step_of}
use Rattle.script.proofs.packed.StepFromTurn.from.Goals as goal

pub returns-in-More : goal.returns-in-More
unfolding step_of
returns-in-More c = search rules

pub returns-in-Answered : goal.returns-in-Answered
unfolding step_of
returns-in-Answered c = rw c.in-Answered.is

pub returns-in-Ended : goal.returns-in-Ended
unfolding step_of
returns-in-Ended c = rw c.in-Ended.is
