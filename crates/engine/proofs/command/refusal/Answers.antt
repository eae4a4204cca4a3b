-- `engine::command::refusal` meets its contract. Assumes nothing.
use Rattle.commanding.proofs.EngineLaws.{refusal_tested}
use Rattle.engine.proofs.command.refusal.Goals as goal

pub returns : goal.returns
returns c = refusal_tested _ _ _ _ _ _ c.well_formed-formed.result c.well_formed-formed.ensures c.refusal_on.ensures
