-- The promise of each public function of `refusing` has one answer. Assumes nothing.
use mathlib.Core.Path.{refl, sym, ◌∙◌}
use Rattle.tight.specs.OneAnswer.{OneAnswer}
use Rattle.refusing.proofs.refusal.U64FromRefusal.from.Kinds as refusal_u64_from_kinds
use Rattle.refusing.proofs.refusal.U64FromRefusal.from.Reads as refusal_u64_from

pub one_refusal_u64_from : OneAnswer refusal_u64_from_kinds.ps refusal_u64_from_kinds.r refusal_u64_from.Learnt
one_refusal_u64_from κs a x y v w p q = (p ∙ sym q, refl)
