-- The promise of each public function of `verdicts` has one answer. Assumes nothing.
use mathlib.Core.Path.{refl, sym, ◌∙◌}
use Rattle.tight.specs.OneAnswer.{OneAnswer}
use Rattle.refusing.proofs.TableLaws.{same_refusal}
use Rattle.verdicts.proofs.batching.wrong_depth.Kinds as batching-wrong-depth-kinds
use Rattle.verdicts.proofs.batching.wrong_depth.Reads as batching-wrong-depth
use Rattle.verdicts.proofs.batching.few_rows.Kinds as batching-few-rows-kinds
use Rattle.verdicts.proofs.batching.few_rows.Reads as batching-few-rows
use Rattle.verdicts.proofs.making.bad_formula.Kinds as making-bad-formula-kinds
use Rattle.verdicts.proofs.making.bad_formula.Reads as making-bad-formula
use Rattle.verdicts.proofs.making.making.Kinds as making-making-kinds
use Rattle.verdicts.proofs.making.making.Reads as making-making
use Rattle.verdicts.proofs.table.refusal.Kinds as table-refusal-kinds
use Rattle.verdicts.proofs.table.refusal.Reads as table-refusal

pub one_batching_wrong_depth : OneAnswer batching-wrong-depth-kinds.ps batching-wrong-depth-kinds.r batching-wrong-depth.Learnt
one_batching_wrong_depth κs a x y v w p q = (p ∙ sym q, refl)

pub one_batching_few_rows : OneAnswer batching-few-rows-kinds.ps batching-few-rows-kinds.r batching-few-rows.Learnt
one_batching_few_rows κs a x y v w p q = (p ∙ sym q, refl)

pub one_making_bad_formula : OneAnswer making-bad-formula-kinds.ps making-bad-formula-kinds.r making-bad-formula.Learnt
one_making_bad_formula κs a x y v w p q = (p ∙ sym q, refl)

pub one_making_making : OneAnswer making-making-kinds.ps making-making-kinds.r making-making.Learnt
one_making_making κs a x y v w p q = (same_refusal x y (p ∙ sym q), refl)

pub one_table_refusal : OneAnswer table-refusal-kinds.ps table-refusal-kinds.r table-refusal.Learnt
one_table_refusal κs a x y v w p q = (same_refusal x y (p ∙ sym q), refl)
