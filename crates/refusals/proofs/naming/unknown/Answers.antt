-- `refusals::naming::unknown` meets its contract. Assumes nothing.
use Rattle.refusing.proofs.NamingLaws.{unknown_so, known_so}
use Rattle.refusals.proofs.naming.unknown.Goals as goal

pub returns-in-Unknown : goal.returns-in-Unknown
returns-in-Unknown c = unknown_so _ c.command_of.ensures c.in-Unknown.is

pub returns-in_default : goal.returns-in_default
returns-in_default c = known_so _ c.command_of.ensures c.in_default.not-Unknown
