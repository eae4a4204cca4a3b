-- The promise of each public function of `series` has one answer. Assumes nothing.
use mathlib.Core.Path.{refl, sym, ◌∙◌}
use Rattle.tight.specs.OneAnswer.{OneAnswer}
use Rattle.series.proofs.series.Kinds as series-kinds
use Rattle.series.proofs.series.Reads as series
use Rattle.series.proofs.list.head.Kinds as list-head-kinds
use Rattle.series.proofs.list.head.Reads as list-head
use Rattle.series.proofs.steps.one.Kinds as steps-one-kinds
use Rattle.series.proofs.steps.one.Reads as steps-one

pub one_series : OneAnswer series-kinds.ps series-kinds.r series.Learnt
one_series κs a x y v w p q =
    let e = p ∙ sym q in
    (λ i. record { why = (e i).why; used = (e i).after.used; done = (e i).after.done; rows = (e i).after.ran }, λ i. ((e i).after.nodes, ((e i).after.links, ((e i).after.values, ((e i).after.cells, ((e i).after.rows, (tt, ((e i).after.answers, tt))))))))

pub one_list_head : OneAnswer list-head-kinds.ps list-head-kinds.r list-head.Learnt
one_list_head κs a x y v w p q = (p ∙ sym q, refl)

pub one_steps_one : OneAnswer steps-one-kinds.ps steps-one-kinds.r steps-one.Learnt
one_steps_one κs a x y v w p q =
    let e = p ∙ sym q in
    (λ i. (e i).step, λ i. ((e i).nodes, ((e i).links, ((e i).values, ((e i).cells, ((e i).log, (tt, ((e i).answers, (tt, tt)))))))))
