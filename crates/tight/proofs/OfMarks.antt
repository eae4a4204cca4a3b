-- The promise of each public function of `marks` has one answer. Assumes nothing.
use mathlib.Core.Path.{refl, sym, ◌∙◌}
use Rattle.tight.specs.OneAnswer.{OneAnswer}
use Rattle.marks.proofs.effects.notify.Kinds as effects-notify-kinds
use Rattle.marks.proofs.effects.notify.Reads as effects-notify
use Rattle.marks.proofs.nodes.flags.Kinds as nodes-flags-kinds
use Rattle.marks.proofs.nodes.flags.Reads as nodes-flags
use Rattle.marks.proofs.nodes.set_flags.Kinds as nodes-set-flags-kinds
use Rattle.marks.proofs.nodes.set_flags.Reads as nodes-set-flags
use Rattle.marks.proofs.walks.is_valid_link.Kinds as walks-is-valid-link-kinds
use Rattle.marks.proofs.walks.is_valid_link.Reads as walks-is-valid-link
use Rattle.marks.proofs.walks.propagate.Kinds as walks-propagate-kinds
use Rattle.marks.proofs.walks.propagate.Reads as walks-propagate
use Rattle.marks.proofs.walks.shallow_propagate.Kinds as walks-shallow-propagate-kinds
use Rattle.marks.proofs.walks.shallow_propagate.Reads as walks-shallow-propagate

pub one_effects_notify : OneAnswer effects-notify-kinds.ps effects-notify-kinds.r effects-notify.Learnt
one_effects_notify κs a x y v w p q = (refl, λ i. ((p ∙ sym q) i, (tt, (tt, tt))))

pub one_nodes_flags : OneAnswer nodes-flags-kinds.ps nodes-flags-kinds.r nodes-flags.Learnt
one_nodes_flags κs a x y v w p q = (λ i. record { bits = (p ∙ sym q) i }, refl)

pub one_nodes_set_flags : OneAnswer nodes-set-flags-kinds.ps nodes-set-flags-kinds.r nodes-set-flags.Learnt
one_nodes_set_flags κs a x y v w p q = (refl, λ i. ((p ∙ sym q) i, (tt, (tt, tt))))

pub one_walks_is_valid_link : OneAnswer walks-is-valid-link-kinds.ps walks-is-valid-link-kinds.r walks-is-valid-link.Learnt
one_walks_is_valid_link κs a x y v w p q = (p ∙ sym q, refl)

pub one_walks_propagate : OneAnswer walks-propagate-kinds.ps walks-propagate-kinds.r walks-propagate.Learnt
one_walks_propagate κs a x y v w p q = (refl, λ i. ((p ∙ sym q) i, (tt, (tt, tt))))

pub one_walks_shallow_propagate : OneAnswer walks-shallow-propagate-kinds.ps walks-shallow-propagate-kinds.r walks-shallow-propagate.Learnt
one_walks_shallow_propagate κs a x y v w p q = (refl, λ i. ((p ∙ sym q) i, (tt, (tt, tt))))
