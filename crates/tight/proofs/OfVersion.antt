-- The promise of each public function of `version` has one answer. Assumes nothing.
use mathlib.Core.Path.{refl, sym, ◌∙◌}
use Rattle.tight.specs.OneAnswer.{OneAnswer}
use Rattle.version.proofs.Version.increment.Kinds as increment-kinds
use Rattle.version.proofs.Version.increment.Reads as increment
use Rattle.version.proofs.VersionDefault.default.Kinds as new-kinds
use Rattle.version.proofs.VersionDefault.default.Reads as new
use Rattle.version.proofs.VersionPartialEq.eq.Kinds as same_kinds
use Rattle.version.proofs.VersionPartialEq.eq.Reads as same

pub one_increment : OneAnswer increment-kinds.ps increment-kinds.r increment.Learnt
one_increment κs a x y v w p q = (λ i. record { cycle = (p ∙ sym q) i }, refl)

-- the derived default
pub one_new : OneAnswer new-kinds.ps new-kinds.r new.Learnt
one_new κs a x y v w p q = (λ i. record { cycle = (p ∙ sym q) i }, refl)

-- the derived ==
pub one_same : OneAnswer same_kinds.ps same_kinds.r same.Learnt
one_same κs a x y v w p q = (p ∙ sym q, refl)
