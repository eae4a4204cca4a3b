-- `series::steps::put_answer` meets its contract. Assumes nothing.
use borrow.Author.Rules.{rules}
use mathlib.Core.Path.{◌≡◌}
use mir.Syntax.{w64}
use mir.Val.{to_z, of_z}
use mir.Facts.{to_z-of_z}
use Rattle.sequencing.proofs.StepLaws.{no_answer, whole_answer}
use Rattle.series.proofs.steps.put_answer.Goals as goal

pub returns-then-answers-lt-ANSWER : goal.returns-then-answers-lt-ANSWER
returns-then-answers-lt-ANSWER c = no_answer _ _ _ _ c.if-answers-lt-ANSWER.true

pub returns : goal.returns
returns c =
    let first : to_z w64 (of_z w64 c.number_word.result) ≡ c.number_word.result = to_z-of_z {w = w64} (search rules) in
    let second : to_z w64 (of_z w64 c.args.value) ≡ c.args.value = to_z-of_z {w = w64} (search rules) in
    let third : to_z w64 (of_z w64 c.number_word-2.result) ≡ c.number_word-2.result = to_z-of_z {w = w64} (search rules) in
    rw (c.copy_from_slice.ensures.after, first, second, third, c.number_word.ensures, c.number_word-2.ensures) (whole_answer c.args.answers.now c.args.code c.args.value c.args.runs c.if-answers-lt-ANSWER.false)
