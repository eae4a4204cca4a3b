-- The promise of each public function of `making` has one answer. Assumes nothing.
use mathlib.Core.Path.{refl, sym, ◌∙◌}
use mathlib.Core.List.{[]}
use Rattle.tight.specs.OneAnswer.{OneAnswer}
use Rattle.making.proofs.new_signal.Kinds as new-signal-kinds
use Rattle.making.proofs.new_signal.Reads as new-signal
use Rattle.making.proofs.new_computed.Kinds as new-computed-kinds
use Rattle.making.proofs.new_computed.Reads as new-computed
use Rattle.making.proofs.new_scope.Kinds as new-scope-kinds
use Rattle.making.proofs.new_scope.Reads as new-scope
use Rattle.making.proofs.new_effect.Kinds as new-effect-kinds
use Rattle.making.proofs.new_effect.Reads as new-effect

pub one_new_signal : OneAnswer new-signal-kinds.ps new-signal-kinds.r new-signal.Learnt
one_new_signal κs a x y v w p q =
    let e = (p []) ∙ sym (q []) in
    (λ i. (e i).number, λ i. ((e i).after.nodes, ((e i).after.values, ((e i).cells, (tt, tt)))))

pub one_new_computed : OneAnswer new-computed-kinds.ps new-computed-kinds.r new-computed.Learnt
one_new_computed κs a x y v w p q =
    let e = (p []) ∙ sym (q []) in
    (λ i. (e i).number, λ i. ((e i).after.nodes, ((e i).after.values, ((e i).cells, (tt, tt)))))

pub one_new_scope : OneAnswer new-scope-kinds.ps new-scope-kinds.r new-scope.Learnt
one_new_scope κs a x y v w p q =
    let e = p ∙ sym q in
    (λ i. (e i).number, λ i. ((e i).after.nodes, ((e i).after.links, ((e i).after.values, ((e i).cells, (tt, tt))))))

pub one_new_effect : OneAnswer new-effect-kinds.ps new-effect-kinds.r new-effect.Learnt
one_new_effect κs a x y v w p q =
    let e = p ∙ sym q in
    (λ i. record { number = (e i).number; rows = (e i).ran.rows }, λ i. ((e i).ran.after.nodes, ((e i).ran.after.links, ((e i).ran.after.values, ((e i).cells, ((e i).ran.log, (tt, (tt, tt))))))))
