-- `engine::command::refusal_on` meets its contract. Assumes nothing.
use Rattle.commanding.proofs.EngineLaws.{decided, not_tables}
use Rattle.engine.proofs.command.refusal_on.Goals as goal

pub returns-then-formed : goal.returns-then-formed
returns-then-formed c = let a = c.args in decided a.nodes.now a.links.now a.cells.now a.log.now a.words.now a.formed c.if-formed.true c.refusal.ensures

pub returns-else-formed : goal.returns-else-formed
returns-else-formed c = let a = c.args in not_tables a.nodes.now a.links.now a.cells.now a.log.now a.words.now a.formed c.if-formed.false
