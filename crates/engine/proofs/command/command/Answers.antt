-- `engine::command::command` meets its contract. Assumes nothing.
use Rattle.commanding.proofs.EngineLaws.{command_tested}
use Rattle.engine.proofs.command.command.Goals as goal

pub returns : goal.returns
returns c = command_tested _ _ _ _ _ _ c.well_formed-formed.result c.well_formed-formed.ensures c.command_on.ensures
