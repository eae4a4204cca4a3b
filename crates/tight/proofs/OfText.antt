-- The promise of each public function of `text` has one answer. Assumes nothing.
use mathlib.Core.Path.{refl, sym, ◌∙◌}
use denote.RattleType.{RattleType}
use denote.Param.Laws.{Laws, IsCopy}
use mir.Syntax.{Dict}
use Rattle.std.specs.declared.clone.Clone.{Ghosts as CloneGhosts}
use Rattle.text.specs.declared.answers.Decimal.{Ghosts as DecimalGhosts}
use Rattle.tight.specs.OneAnswer.{OneAnswer}
use Rattle.text.proofs.answers.push.Kinds as answers-push-kinds
use Rattle.text.proofs.answers.push.Reads as answers_push
use Rattle.text.proofs.answers.put_all.Kinds as answers-put-all-kinds
use Rattle.text.proofs.answers.put_all.Reads as answers-put-all
use Rattle.text.proofs.answers.put_natural.Kinds as answers-put-natural-kinds
use Rattle.text.proofs.answers.put_natural.Reads as answers-put-natural
use Rattle.text.proofs.answers.put_integer.Kinds as answers-put-integer-kinds
use Rattle.text.proofs.answers.put_integer.Reads as answers-put-integer
use Rattle.text.proofs.answers.U64Decimal.put_decimal.Kinds as answers-u64-put-decimal-kinds
use Rattle.text.proofs.answers.U64Decimal.put_decimal.Reads as answers-u64-put-decimal
use Rattle.text.proofs.answers.I64Decimal.put_decimal.Kinds as answers-i64-put-decimal-kinds
use Rattle.text.proofs.answers.I64Decimal.put_decimal.Reads as answers-i64-put-decimal
use Rattle.text.proofs.answers.put_line.Kinds as answers-put-line-kinds
use Rattle.text.proofs.answers.put_line.Reads as answers-put-line
use Rattle.text.proofs.answers.put_answer.Kinds as answers-put-answer-kinds
use Rattle.text.proofs.answers.put_answer.Reads as answers-put-answer
use Rattle.text.proofs.answers.put_unreadable.Kinds as answers-put-unreadable-kinds
use Rattle.text.proofs.answers.put_unreadable.Reads as answers-put-unreadable
use Rattle.text.proofs.lines.line_end.Kinds as lines-line-end-kinds
use Rattle.text.proofs.lines.line_end.Reads as lines-line-end
use Rattle.text.proofs.lines.command_line.Kinds as lines-command-line-kinds
use Rattle.text.proofs.lines.command_line.Reads as lines-command-line
use Rattle.text.proofs.lines.args_line.Kinds as lines-args-line-kinds
use Rattle.text.proofs.lines.args_line.Reads as lines-args-line
use Rattle.text.proofs.lines.pair.Kinds as lines-pair-kinds
use Rattle.text.proofs.lines.pair.Reads as lines-pair
use Rattle.text.proofs.numbers.magnitude.Kinds as numbers-magnitude-kinds
use Rattle.text.proofs.numbers.magnitude.Reads as numbers-magnitude
use Rattle.text.proofs.numbers.number.Kinds as numbers-number-kinds
use Rattle.text.proofs.numbers.number.Reads as numbers-number

-- at each type
pub one_answers_push : (T : RattleType) (laws : Laws T) (copied : IsCopy T) (ghosts : CloneGhosts T.Denot) (dict : Dict) → OneAnswer (answers-push-kinds.ps T laws copied) (answers-push-kinds.r T laws copied) (answers_push.Learnt T laws copied ghosts dict)
one_answers_push T laws copied ghosts dict κs a x y v w p q =
    let e = p ∙ sym q in
    (λ i. (e i).next, λ i. ((e i).held, (tt, (tt, tt))))

pub one_answers_put_all : OneAnswer answers-put-all-kinds.ps answers-put-all-kinds.r answers-put-all.Learnt
one_answers_put_all κs a x y v w p q =
    let e = p ∙ sym q in
    (λ i. (e i).next, λ i. ((e i).held, (tt, (tt, tt))))

pub one_answers_put_natural : OneAnswer answers-put-natural-kinds.ps answers-put-natural-kinds.r answers-put-natural.Learnt
one_answers_put_natural κs a x y v w p q =
    let e = p ∙ sym q in
    (λ i. (e i).next, λ i. ((e i).held, (tt, (tt, tt))))

pub one_answers_put_integer : OneAnswer answers-put-integer-kinds.ps answers-put-integer-kinds.r answers-put-integer.Learnt
one_answers_put_integer κs a x y v w p q =
    let e = p ∙ sym q in
    (λ i. (e i).next, λ i. ((e i).held, (tt, (tt, tt))))

pub one_answers_u64_put_decimal : OneAnswer answers-u64-put-decimal-kinds.ps answers-u64-put-decimal-kinds.r answers-u64-put-decimal.Learnt
one_answers_u64_put_decimal κs a x y v w p q =
    let e = p ∙ sym q in
    (λ i. (e i).next, λ i. (tt, ((e i).held, (tt, tt))))

pub one_answers_i64_put_decimal : OneAnswer answers-i64-put-decimal-kinds.ps answers-i64-put-decimal-kinds.r answers-i64-put-decimal.Learnt
one_answers_i64_put_decimal κs a x y v w p q =
    let e = p ∙ sym q in
    (λ i. (e i).next, λ i. (tt, ((e i).held, (tt, tt))))

pub one_answers_put_line : (N : RattleType) (laws : Laws N) (ghosts : DecimalGhosts N.Denot) (dict : Dict) → OneAnswer (answers-put-line-kinds.ps N laws) (answers-put-line-kinds.r N laws) (answers-put-line.Learnt N laws ghosts dict)
one_answers_put_line N laws ghosts dict κs a x y v w p q =
    let e = p ∙ sym q in
    (λ i. (e i).next, λ i. ((e i).held, (tt, (tt, (tt, tt)))))

pub one_answers_put_answer : OneAnswer answers-put-answer-kinds.ps answers-put-answer-kinds.r answers-put-answer.Learnt
one_answers_put_answer κs a x y v w p q =
    let e = p ∙ sym q in
    (λ i. (e i).next, λ i. ((e i).held, (tt, (tt, (tt, (tt, tt))))))

pub one_answers_put_unreadable : OneAnswer answers-put-unreadable-kinds.ps answers-put-unreadable-kinds.r answers-put-unreadable.Learnt
one_answers_put_unreadable κs a x y v w p q =
    let e = p ∙ sym q in
    (λ i. (e i).next, λ i. ((e i).held, tt))

pub one_lines_line_end : OneAnswer lines-line-end-kinds.ps lines-line-end-kinds.r lines-line-end.Learnt
one_lines_line_end κs a x y v w p q = (p ∙ sym q, refl)

pub one_lines_command_line : OneAnswer lines-command-line-kinds.ps lines-command-line-kinds.r lines-command-line.Learnt
one_lines_command_line κs a x y v w p q = (p ∙ sym q, refl)

pub one_lines_args_line : OneAnswer lines-args-line-kinds.ps lines-args-line-kinds.r lines-args-line.Learnt
one_lines_args_line κs a x y v w p q = (p ∙ sym q, refl)

pub one_lines_pair : OneAnswer lines-pair-kinds.ps lines-pair-kinds.r lines-pair.Learnt
one_lines_pair κs a x y v w p q =
    let e = p ∙ sym q in
    (λ i. (e i).found, λ i. (tt, ((e i).words, tt)))

pub one_numbers_magnitude : OneAnswer numbers-magnitude-kinds.ps numbers-magnitude-kinds.r numbers-magnitude.Learnt
one_numbers_magnitude κs a x y v w p q = (p ∙ sym q, refl)

pub one_numbers_number : OneAnswer numbers-number-kinds.ps numbers-number-kinds.r numbers-number.Learnt
one_numbers_number κs a x y v w p q = (p ∙ sym q, refl)
