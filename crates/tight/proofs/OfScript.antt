-- The promise of each public function of `script` has one answer. Assumes nothing.
use mathlib.Core.Path.{refl, sym, ◌∙◌}
use Rattle.tight.specs.OneAnswer.{OneAnswer}
use Rattle.script.proofs.turn.Kinds as turn-kinds
use Rattle.script.proofs.turn.Reads as turn
use Rattle.script.proofs.packed.play.Kinds as packed-play-kinds
use Rattle.script.proofs.packed.play.Reads as packed-play
use Rattle.script.proofs.packed.StepFromTurn.from.Kinds as packed_step_from_kinds
use Rattle.script.proofs.packed.StepFromTurn.from.Reads as packed_step_from

pub one_turn : OneAnswer turn-kinds.ps turn-kinds.r turn.Learnt
one_turn κs a x y v w p q =
    let e = p ∙ sym q in
    (λ i. (e i).turn, λ i. ((e i).after.nodes, ((e i).after.links, ((e i).after.values, ((e i).after.cells, ((e i).after.log, ((e i).words, ((e i).out, (tt, (tt, tt))))))))))

pub one_packed_play : OneAnswer packed-play-kinds.ps packed-play-kinds.r packed-play.Learnt
one_packed_play κs a x y v w p q =
    let e = p ∙ sym q in
    (λ i. (e i).step, λ i. ((e i).after.nodes, ((e i).after.links, ((e i).after.values, ((e i).after.cells, ((e i).after.log, ((e i).words, ((e i).out, (tt, (tt, (tt, tt)))))))))))

pub one_packed_step_from : OneAnswer packed_step_from_kinds.ps packed_step_from_kinds.r packed_step_from.Learnt
one_packed_step_from κs a x y v w p q = (p ∙ sym q, refl)
