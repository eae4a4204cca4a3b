-- `series::steps::one` meets its contract. Assumes nothing.
use borrow.Author.Rules.{rules}
use mathlib.Core.Path.{◌≡◌, sym, ◌∙◌}
use mir.Syntax.{w64}
use mir.Val.{to_z, of_z}
use mir.Facts.{to_z-of_z}
use Rattle.commanding.proofs.AnswerLaws.{spelt}
use Rattle.sequencing.proofs.ListLaws.{words_inside}
use Rattle.sequencing.proofs.StepLaws.{at_end, at_bad, no_room_left, step_rows, step_done}
use Rattle.series.proofs.steps.one.Goals as goal

pub returns-then-answers-lt-ANSWER : goal.returns-then-answers-lt-ANSWER
returns-then-answers-lt-ANSWER c = no_room_left _ _ _ _ _ _ _ _ c.head.ensures _ c.in-Words.is c.if-answers-lt-ANSWER.true

pub overflow_add-end : goal.overflow_add-end
overflow_add-end c = let h = words_inside c.args.list.now _ (sym c.head.ensures ∙ c.in-Words.is) in search rules

pub slice_bounds-command_on-end : goal.slice_bounds-command_on-end
slice_bounds-command_on-end c = let h = words_inside c.args.list.now _ (sym c.head.ensures ∙ c.in-Words.is) in search rules

pub returns-then-a-few : goal.returns-then-a-few
returns-then-a-few c = let a = c.args in step_rows a.formed a.nodes.now a.links.now a.values.now a.cells.now a.log.now a.list.now a.answers.now c.head.ensures _ c.in-Words.is c.if-answers-lt-ANSWER.false (spelt _ c.from-a.ensures c.command_on-done.ensures) (c.if-a-few.true ∙ c.from-few.ensures)

pub returns-in-Over : goal.returns-in-Over
returns-in-Over c = at_end _ _ _ _ _ _ _ _ c.head.ensures c.in-Over.is

pub returns-in-Bad : goal.returns-in-Bad
returns-in-Bad c = at_bad _ _ _ _ _ _ _ _ c.head.ensures c.in-Bad.is

pub returns-else-a-few : goal.returns-else-a-few
returns-else-a-few c =
    let a = c.args in
    let p : to_z w64 (of_z w64 c.from-a.result.value) ≡ c.from-a.result.value = to_z-of_z {w = w64} (search rules) in
    step_done a.formed a.nodes.now a.links.now a.values.now a.cells.now a.log.now a.list.now a.answers.now c.head.ensures _ c.in-Words.is c.if-answers-lt-ANSWER.false (spelt _ c.from-a.ensures c.command_on-done.ensures) (λ e. c.if-a-few.false (e ∙ sym c.from-few.ensures)) (rw p at c.put_answer.ensures)
