-- `verdicts::making::no_room` meets its contract. Assumes nothing.
use native.Mathlib.Omega.{arith}
use mathlib.Core.Path.{◌≡◌, sym, ◌∙◌}
use mathlib.Core.Bool.{true}
use Prim.Native.Nat.{◌<◌}
use borrow.Author.Tests.{ltb-true, ltb-false, le-leb}
use lib.Dec.{leb}
use Rattle.counting.specs.Counts.{top}
use Rattle.refusing.proofs.MakingLaws.{room_none, lacks_nodes, lacks_cells, lacks_slots}
use Rattle.verdicts.proofs.making.no_room.Goals as goal
use Rattle.verdicts.proofs.making.no_room.Goals.{then-node_room-at, else-node_room-at}

pub returns-in_default : goal.returns-in_default
returns-in_default c =
    let a = c.args in
    λ bad. room_none a.nodes.now a.links.now a.cells.now a.words.now _ c.asks_of.ensures c.in_default.not-Makes

pub returns-then-cell_room-plus : goal.returns-then-cell_room-plus
returns-then-cell_room-plus c =
    let a = c.args in
    λ bad. c.if-cell_room-plus.true ∙ elim c.if-node_room-at.branch [
      | then-node_room-at w ↦ lacks_nodes a.nodes.now a.links.now a.cells.now a.words.now _ c.asks_of.ensures c.in-Makes.is bad c.node_room.ensures c.at.ensures w.if-node_room-at.true
      | else-node_room-at w ↦ lacks_cells a.nodes.now a.links.now a.cells.now a.words.now _ c.asks_of.ensures c.in-Makes.is bad c.node_room.ensures c.at.ensures w.if-node_room-at.false w.cell_room.ensures w.at-else-node_room-at.ensures (rw c.formula_of-formula.ensures at w.plus.ensures) (ltb-true _ _ (sym w.value-is ∙ c.if-cell_room-plus.true))
    ]

pub returns-else-cell_room-plus : goal.returns-else-cell_room-plus
returns-else-cell_room-plus c =
    let a = c.args in
    let far : c.slot_room.result < top = omega (arith, c.slot_room.ensures, c.well_formed.1.0.0) in
    let new = rw c.formula_of-formula.ensures at c.wanted_slots.ensures in
    λ bad. elim c.if-node_room-at.branch [
      | then-node_room-at w ↦ let e : leb c.node_room.result c.at.result ≡ true = le-leb _ _ w.if-node_room-at.true in cc
      | else-node_room-at w ↦
          let low : w.cell_room.result < top = omega (arith, w.cell_room.ensures, c.well_formed.1.1.0.0) in
          lacks_slots a.nodes.now a.links.now a.cells.now a.words.now _ c.asks_of.ensures c.in-Makes.is bad c.node_room.ensures c.at.ensures w.if-node_room-at.false w.cell_room.ensures w.at-else-node_room-at.ensures (rw c.formula_of-formula.ensures at w.plus.ensures)
          (ltb-false _ _ (sym w.value-is ∙ c.if-cell_room-plus.false)) low c.slot_room.ensures far c.reserve.ensures new c.plus-else-cell_room-plus.ensures
    ]
