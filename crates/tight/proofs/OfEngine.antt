-- The promise of each public function of `engine` has one answer. Assumes nothing.
use mathlib.Core.Path.{refl, sym, ◌∙◌}
use Rattle.tight.specs.OneAnswer.{OneAnswer}
use Rattle.refusing.proofs.TableLaws.{same_refusal}
use Rattle.commanding.proofs.AnswerLaws.{same_answer}
use Rattle.engine.proofs.command.refusal_on.Kinds as command-refusal-on-kinds
use Rattle.engine.proofs.command.refusal_on.Reads as command-refusal-on
use Rattle.engine.proofs.command.refusal.Kinds as command-refusal-kinds
use Rattle.engine.proofs.command.refusal.Reads as command-refusal
use Rattle.engine.proofs.command.command_on.Kinds as command-command-on-kinds
use Rattle.engine.proofs.command.command_on.Reads as command-command-on
use Rattle.engine.proofs.command.command.Kinds as command-command-kinds
use Rattle.engine.proofs.command.command.Reads as command-command
use Rattle.engine.proofs.perform.perform.Kinds as perform-perform-kinds
use Rattle.engine.proofs.perform.perform.Reads as perform-perform
use Rattle.engine.proofs.tables.well_formed.Kinds as tables-well-formed-kinds
use Rattle.engine.proofs.tables.well_formed.Reads as tables-well-formed
use Rattle.engine.proofs.command.AnswerFromResultDoneRefusal.from.Kinds as command_answer_from_kinds
use Rattle.engine.proofs.command.AnswerFromResultDoneRefusal.from.Reads as command_answer_from

pub one_command_refusal_on : OneAnswer command-refusal-on-kinds.ps command-refusal-on-kinds.r command-refusal-on.Learnt
one_command_refusal_on κs a x y v w p q = (same_refusal x y (p ∙ sym q), refl)

pub one_command_refusal : OneAnswer command-refusal-kinds.ps command-refusal-kinds.r command-refusal.Learnt
one_command_refusal κs a x y v w p q = (same_refusal x y (p ∙ sym q), refl)

pub one_command_command_on : OneAnswer command-command-on-kinds.ps command-command-on-kinds.r command-command-on.Learnt
one_command_command_on κs a x y v w p q =
    let e = p ∙ sym q in
    (same_answer x y (λ i. (e i).code) (λ i. (e i).value) (λ i. (e i).runs), λ i. ((e i).nodes, ((e i).links, ((e i).values, ((e i).cells, ((e i).log, (tt, (tt, tt))))))))

pub one_command_command : OneAnswer command-command-kinds.ps command-command-kinds.r command-command.Learnt
one_command_command κs a x y v w p q =
    let e = p ∙ sym q in
    (same_answer x y (λ i. (e i).code) (λ i. (e i).value) (λ i. (e i).runs), λ i. ((e i).nodes, ((e i).links, ((e i).values, ((e i).cells, ((e i).log, (tt, tt)))))))

pub one_perform_perform : OneAnswer perform-perform-kinds.ps perform-perform-kinds.r perform-perform.Learnt
one_perform_perform κs a x y v w p q =
    let e = p ∙ sym q in
    (λ i. record { value = (e i).value; runs = (e i).ran.rows }, λ i. ((e i).ran.after.nodes, ((e i).ran.after.links, ((e i).ran.after.values, ((e i).cells, ((e i).ran.log, (tt, (tt, tt))))))))

pub one_tables_well_formed : OneAnswer tables-well-formed-kinds.ps tables-well-formed-kinds.r tables-well-formed.Learnt
one_tables_well_formed κs a x y v w p q = (p ∙ sym q, refl)

pub one_command_answer_from : OneAnswer command_answer_from_kinds.ps command_answer_from_kinds.r command_answer_from.Learnt
one_command_answer_from κs a x y v w p q = (λ i. record { code = (p.0 ∙ sym q.0) i; value = (p.1 ∙ sym q.1) i; runs = (p.2 ∙ sym q.2) i }, refl)
