-- The promise of each public function of `queue` has one answer. Assumes nothing.
use mathlib.Core.Path.{refl, sym, ◌∙◌}
use Rattle.tight.specs.OneAnswer.{OneAnswer}
use Rattle.queue.proofs.length.Kinds as length-kinds
use Rattle.queue.proofs.length.Reads as length
use Rattle.queue.proofs.entry.Kinds as entry-kinds
use Rattle.queue.proofs.entry.Reads as entry
use Rattle.queue.proofs.push.Kinds as push-kinds
use Rattle.queue.proofs.push.Reads as push
use Rattle.queue.proofs.clear.Kinds as clear-kinds
use Rattle.queue.proofs.clear.Reads as clear
use Rattle.queue.proofs.reverse_from.Kinds as reverse-from-kinds
use Rattle.queue.proofs.reverse_from.Reads as reverse-from

pub one_length : OneAnswer length-kinds.ps length-kinds.r length.Learnt
one_length κs a x y v w p q = (p ∙ sym q, refl)

pub one_entry : OneAnswer entry-kinds.ps entry-kinds.r entry.Learnt
one_entry κs a x y v w p q = (p ∙ sym q, refl)

pub one_push : OneAnswer push-kinds.ps push-kinds.r push.Learnt
one_push κs a x y v w p q = (refl, λ i. ((p ∙ sym q) i, (tt, tt)))

pub one_clear : OneAnswer clear-kinds.ps clear-kinds.r clear.Learnt
one_clear κs a x y v w p q = (refl, λ i. ((p ∙ sym q) i, tt))

pub one_reverse_from : OneAnswer reverse-from-kinds.ps reverse-from-kinds.r reverse-from.Learnt
one_reverse_from κs a x y v w p q = (refl, λ i. ((p ∙ sym q) i, (tt, tt)))
