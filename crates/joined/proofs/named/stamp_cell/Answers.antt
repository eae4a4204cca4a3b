-- `joined::named::stamp_cell` meets its contract. Assumes nothing.
use Rattle.joined.proofs.StampTurns.{cell_none, cell_some}
use Rattle.joined.proofs.named.stamp_cell.Goals as goal

pub returns-in-Some : goal.returns-in-Some
returns-in-Some c = cell_some _ _ _ _ _ _ c.name_at.ensures c.in-Some.is c.put.ensures

pub returns-in_default : goal.returns-in_default
returns-in_default c = cell_none _ _ _ _ c.name_at.ensures c.in_default.is
