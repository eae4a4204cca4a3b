-- `making::make` meets its contract. Assumes nothing.
use mathlib.Core.Path.{sym, ◌∙◌}
use Prim.Native.Nat.{◌/◌}
use native.Mathlib.Omega.{arith}
use lib.ListN.{length}
use Rattle.operating.proofs.MakingLaws.{room_node, room_cells, make_room, make_full}
use Rattle.making.proofs.make.Goals as goal

pub overflow_add-after : goal.overflow_add-after
overflow_add-after c =
    let a = c.args in
    let h = sym c.has_room.ensures ∙ c.if-has_room.true in
    omega (arith, c.at-used.ensures, room_cells a.nodes.now a.cells.now (length a.formula.now / 2) h)

pub overflow_mul-used : goal.overflow_mul-used
overflow_mul-used c =
    let a = c.args in
    let h = sym c.has_room.ensures ∙ c.if-has_room.true in
    omega (arith, c.at-used.ensures, room_cells a.nodes.now a.cells.now (length a.formula.now / 2) h)

pub overflow_add-n : goal.overflow_add-n
overflow_add-n c =
    let a = c.args in
    let h = sym c.has_room.ensures ∙ c.if-has_room.true in
    omega (arith, c.at-n.ensures, room_node a.nodes.now a.cells.now (length a.formula.now / 2) h)

pub returns-then-has_room : goal.returns-then-has_room
returns-then-has_room c l =
    let a = c.args in
    let h = sym c.has_room.ensures ∙ c.if-has_room.true in
    rw (c.put-then-has_room.ensures, c.put.ensures, c.lay.ensures, c.give.ensures, c.describe.ensures, c.at-used.ensures, c.at-n.ensures) (make_room _ l _ _ a.sort _ a.v h)

pub returns-else-has_room : goal.returns-else-has_room
returns-else-has_room c l =
    rw c.at-n.ensures (make_full _ l _ _ _ _ _ (sym c.has_room.ensures ∙ c.if-has_room.false))
