-- The promise of each public function of `joined` has one answer. Assumes nothing.
use mathlib.Core.Path.{refl, sym, ◌∙◌}
use Rattle.tight.specs.OneAnswer.{OneAnswer}
use Rattle.joined.proofs.joined.Kinds as joined-kinds
use Rattle.joined.proofs.joined.Reads as joined

pub one_joined : OneAnswer joined-kinds.ps joined-kinds.r joined.Learnt
one_joined κs a x y v w p q = (p ∙ sym q, refl)
