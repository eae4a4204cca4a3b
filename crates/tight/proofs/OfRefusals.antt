-- The promise of each public function of `refusals` has one answer. Assumes nothing.
use mathlib.Core.Path.{refl, sym, ◌∙◌}
use Rattle.tight.specs.OneAnswer.{OneAnswer}
use Rattle.refusals.proofs.asks.asks_of.Kinds as asks-asks-of-kinds
use Rattle.refusals.proofs.asks.asks_of.Reads as asks-asks-of
use Rattle.refusals.proofs.asks.cells_from.Kinds as asks-cells-from-kinds
use Rattle.refusals.proofs.asks.cells_from.Reads as asks-cells-from
use Rattle.refusals.proofs.commands.command_of.Kinds as commands-command-of-kinds
use Rattle.refusals.proofs.commands.command_of.Reads as commands-command-of
use Rattle.refusals.proofs.naming.unknown.Kinds as naming-unknown-kinds
use Rattle.refusals.proofs.naming.unknown.Reads as naming-unknown
use Rattle.refusals.proofs.naming.wrong_node.Kinds as naming-wrong-node-kinds
use Rattle.refusals.proofs.naming.wrong_node.Reads as naming-wrong-node
use Rattle.refusals.proofs.naming.gone_node.Kinds as naming-gone-node-kinds
use Rattle.refusals.proofs.naming.gone_node.Reads as naming-gone-node

pub one_asks_asks_of : OneAnswer asks-asks-of-kinds.ps asks-asks-of-kinds.r asks-asks-of.Learnt
one_asks_asks_of κs a x y v w p q = (p ∙ sym q, refl)

pub one_asks_cells_from : OneAnswer asks-cells-from-kinds.ps asks-cells-from-kinds.r asks-cells-from.Learnt
one_asks_cells_from κs a x y v w p q = (p ∙ sym q, refl)

pub one_commands_command_of : OneAnswer commands-command-of-kinds.ps commands-command-of-kinds.r commands-command-of.Learnt
one_commands_command_of κs a x y v w p q = (p ∙ sym q, refl)

pub one_naming_unknown : OneAnswer naming-unknown-kinds.ps naming-unknown-kinds.r naming-unknown.Learnt
one_naming_unknown κs a x y v w p q = (p ∙ sym q, refl)

pub one_naming_wrong_node : OneAnswer naming-wrong-node-kinds.ps naming-wrong-node-kinds.r naming-wrong-node.Learnt
one_naming_wrong_node κs a x y v w p q = (p ∙ sym q, refl)

pub one_naming_gone_node : OneAnswer naming-gone-node-kinds.ps naming-gone-node-kinds.r naming-gone-node.Learnt
one_naming_gone_node κs a x y v w p q = (p ∙ sym q, refl)
