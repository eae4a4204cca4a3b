-- `described::formulas::own_cells` meets its contract. Assumes nothing.
use Rattle.described.proofs.FormulaLaws.{own_out, own_in}
use native.Mathlib.Omega.{arith}
use Rattle.described.proofs.formulas.own_cells.Goals as goal
use Rattle.described.proofs.formulas.own_cells.Goals.{then-count-room-via-then-count-room, then-count-room-via-else-count-room+then-start-room}

pub returns-then-count-room : goal.returns-then-count-room
returns-then-count-room c =
    own_out _ _ _ c.get-start.ensures c.get-count.ensures (elim c.then-count-room.branch [
      | then-count-room-via-then-count-room w ↦ omega (arith, c.cell_count-room.ensures)
      | then-count-room-via-else-count-room+then-start-room w ↦ omega (arith, c.cell_count-room.ensures)
    ])

pub returns : goal.returns
returns c = own_in _ _ _ c.get-start.ensures c.get-count.ensures (omega (arith, c.cell_count-room.ensures))
