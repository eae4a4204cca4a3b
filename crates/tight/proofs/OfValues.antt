-- The promise of each public function of `values` has one answer. Assumes nothing.
use mathlib.Core.Path.{refl, sym, ◌∙◌}
use Rattle.tight.specs.OneAnswer.{OneAnswer}
use Rattle.values.proofs.Value.of.Kinds as of-kinds
use Rattle.values.proofs.Value.of.Reads as of
use Rattle.values.proofs.Value.sum.Kinds as sum-kinds
use Rattle.values.proofs.Value.sum.Reads as sum
use Rattle.values.proofs.Value.difference.Kinds as difference-kinds
use Rattle.values.proofs.Value.difference.Reads as difference
use Rattle.values.proofs.Value.minimum.Kinds as minimum-kinds
use Rattle.values.proofs.Value.minimum.Reads as minimum
use Rattle.values.proofs.Value.maximum.Kinds as maximum-kinds
use Rattle.values.proofs.Value.maximum.Reads as maximum
use Rattle.values.proofs.Value.less.Kinds as less-kinds
use Rattle.values.proofs.Value.less.Reads as less
use Rattle.values.proofs.Value.is_zero.Kinds as is-zero-kinds
use Rattle.values.proofs.Value.is_zero.Reads as is_zero
use Rattle.values.proofs.load.Kinds as load-kinds
use Rattle.values.proofs.load.Reads as load
use Rattle.values.proofs.keep.Kinds as keep_kinds
use Rattle.values.proofs.keep.Reads as keep
use Rattle.values.proofs.ValuePartialEq.eq.Kinds as same_kinds
use Rattle.values.proofs.ValuePartialEq.eq.Reads as same

pub one_of : OneAnswer of-kinds.ps of-kinds.r of.Learnt
one_of κs a x y v w p q = (p ∙ sym q, refl)

pub one_sum : OneAnswer sum-kinds.ps sum-kinds.r sum.Learnt
one_sum κs a x y v w p q = (p ∙ sym q, refl)

pub one_difference : OneAnswer difference-kinds.ps difference-kinds.r difference.Learnt
one_difference κs a x y v w p q = (p ∙ sym q, refl)

pub one_minimum : OneAnswer minimum-kinds.ps minimum-kinds.r minimum.Learnt
one_minimum κs a x y v w p q = (p ∙ sym q, refl)

pub one_maximum : OneAnswer maximum-kinds.ps maximum-kinds.r maximum.Learnt
one_maximum κs a x y v w p q = (p ∙ sym q, refl)

pub one_less : OneAnswer less-kinds.ps less-kinds.r less.Learnt
one_less κs a x y v w p q = (p ∙ sym q, refl)

pub one_is_zero : OneAnswer is-zero-kinds.ps is-zero-kinds.r is_zero.Learnt
one_is_zero κs a x y v w p q = (p ∙ sym q, refl)

pub one_load : OneAnswer load-kinds.ps load-kinds.r load.Learnt
one_load κs a x y v w p q = (p ∙ sym q, refl)

pub one_keep : OneAnswer keep_kinds.ps keep_kinds.r keep.Learnt
one_keep κs a x y v w p q = (refl, λ i. ((p ∙ sym q) i, (tt, (tt, tt))))

-- the derived ==
pub one_same : OneAnswer same_kinds.ps same_kinds.r same.Learnt
one_same κs a x y v w p q = (p ∙ sym q, refl)
