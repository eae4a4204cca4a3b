-- The promise of each public function of `described` has one answer. Assumes nothing.
use mathlib.Core.Path.{refl, sym, ◌∙◌}
use Rattle.tight.specs.OneAnswer.{OneAnswer}
use Rattle.described.proofs.whole.described.Kinds as whole-described-kinds
use Rattle.described.proofs.whole.described.Reads as whole-described

pub one_whole_described : OneAnswer whole-described-kinds.ps whole-described-kinds.r whole-described.Learnt
one_whole_described κs a x y v w p q = (p ∙ sym q, refl)
