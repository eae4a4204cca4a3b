-- `host::calls::why_number` meets its contract. Assumes nothing.
use mathlib.Core.Path.{sym, ap}
use Rattle.hosting.specs.Many.{why_number}
use Rattle.host.proofs.calls.why_number.Goals as goal

pub returns-in-Over : goal.returns-in-Over
unfolding why_number
returns-in-Over c = sym (ap why_number c.in-Over.is)

pub returns-in-List : goal.returns-in-List
unfolding why_number
returns-in-List c = sym (ap why_number c.in-List.is)

pub returns-in-Answers : goal.returns-in-Answers
unfolding why_number
returns-in-Answers c = sym (ap why_number c.in-Answers.is)

pub returns-in-Rows : goal.returns-in-Rows
unfolding why_number
returns-in-Rows c = sym (ap why_number c.in-Rows.is)
