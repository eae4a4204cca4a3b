-- The promise of each public function of `counts` has one answer. Assumes nothing.
use mathlib.Core.Path.{refl, sym, ◌∙◌}
use Rattle.tight.specs.OneAnswer.{OneAnswer}
use Rattle.counts.proofs.depths.depth_under.Kinds as depths-depth-under-kinds
use Rattle.counts.proofs.depths.depth_under.Reads as depths-depth-under
use Rattle.counts.proofs.reserve.plus.Kinds as reserve-plus-kinds
use Rattle.counts.proofs.reserve.plus.Reads as reserve-plus
use Rattle.counts.proofs.reserve.reserve_of.Kinds as reserve-reserve-of-kinds
use Rattle.counts.proofs.reserve.reserve_of.Reads as reserve-reserve-of
use Rattle.counts.proofs.reserve.reserve.Kinds as reserve-reserve-kinds
use Rattle.counts.proofs.reserve.reserve.Reads as reserve-reserve
use Rattle.counts.proofs.reserve.live_effects.Kinds as reserve-live-effects-kinds
use Rattle.counts.proofs.reserve.live_effects.Reads as reserve-live-effects
use Rattle.counts.proofs.room.node_room.Kinds as room-node-room-kinds
use Rattle.counts.proofs.room.node_room.Reads as room-node-room
use Rattle.counts.proofs.room.slot_room.Kinds as room-slot-room-kinds
use Rattle.counts.proofs.room.slot_room.Reads as room-slot-room
use Rattle.counts.proofs.room.cell_room.Kinds as room-cell-room-kinds
use Rattle.counts.proofs.room.cell_room.Reads as room-cell-room
use Rattle.counts.proofs.room.counted.Kinds as room-counted-kinds
use Rattle.counts.proofs.room.counted.Reads as room-counted
use Rattle.counts.proofs.room.carry.Kinds as room-carry-kinds
use Rattle.counts.proofs.room.carry.Reads as room-carry

pub one_depths_depth_under : OneAnswer depths-depth-under-kinds.ps depths-depth-under-kinds.r depths-depth-under.Learnt
one_depths_depth_under κs a x y v w p q = (p ∙ sym q, refl)

pub one_reserve_plus : OneAnswer reserve-plus-kinds.ps reserve-plus-kinds.r reserve-plus.Learnt
one_reserve_plus κs a x y v w p q = (p ∙ sym q, refl)

pub one_reserve_reserve_of : OneAnswer reserve-reserve-of-kinds.ps reserve-reserve-of-kinds.r reserve-reserve-of.Learnt
one_reserve_reserve_of κs a x y v w p q = (p ∙ sym q, refl)

pub one_reserve_reserve : OneAnswer reserve-reserve-kinds.ps reserve-reserve-kinds.r reserve-reserve.Learnt
one_reserve_reserve κs a x y v w p q = (p ∙ sym q, refl)

pub one_reserve_live_effects : OneAnswer reserve-live-effects-kinds.ps reserve-live-effects-kinds.r reserve-live-effects.Learnt
one_reserve_live_effects κs a x y v w p q = (p ∙ sym q, refl)

pub one_room_node_room : OneAnswer room-node-room-kinds.ps room-node-room-kinds.r room-node-room.Learnt
one_room_node_room κs a x y v w p q = (p ∙ sym q, refl)

pub one_room_slot_room : OneAnswer room-slot-room-kinds.ps room-slot-room-kinds.r room-slot-room.Learnt
one_room_slot_room κs a x y v w p q = (p ∙ sym q, refl)

pub one_room_cell_room : OneAnswer room-cell-room-kinds.ps room-cell-room-kinds.r room-cell-room.Learnt
one_room_cell_room κs a x y v w p q = (p ∙ sym q, refl)

pub one_room_counted : OneAnswer room-counted-kinds.ps room-counted-kinds.r room-counted.Learnt
one_room_counted κs a x y v w p q = (p ∙ sym q, refl)

pub one_room_carry : OneAnswer room-carry-kinds.ps room-carry-kinds.r room-carry.Learnt
one_room_carry κs a x y v w p q = (p ∙ sym q, refl)
