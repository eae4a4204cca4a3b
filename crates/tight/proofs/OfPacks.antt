-- The promise of each public function of `packs` has one answer. Assumes nothing.
use mathlib.Core.Path.{refl, sym, ◌∙◌}
use Rattle.tight.specs.OneAnswer.{OneAnswer}
use Rattle.packs.proofs.decide.Kinds as decide-kinds
use Rattle.packs.proofs.decide.Reads as decide

pub one_decide : OneAnswer decide-kinds.ps decide-kinds.r decide.Learnt
one_decide κs a x y v w p q = (p ∙ sym q, refl)
