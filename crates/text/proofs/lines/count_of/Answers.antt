-- `text::lines::count_of` meets its contract. Assumes nothing.
use borrow.Author.Rules.{rules}
use mathlib.Core.Path.{refl, sym, ◌∙◌}
use native.Mathlib.Omega.{arith}
use Rattle.std.proofs.Common.{tests}
use Rattle.std.proofs.lemmas.List.{length_push}
use Rattle.std.proofs.lemmas.Iterator.Consumers.{YieldsList-turn, YieldsList-end}
use Rattle.spelling.proofs.LineLaws.{at_spaces, pieces_few, count_fault, count_next, count_end}
use Rattle.text.proofs.lines.count_of.Goals as goal

pub loop-piece-init : goal.loop-piece-init
loop-piece-init c = (refl, refl)

pub returns-in_err-number : goal.returns-in_err-number
returns-in_err-number c =
    let t = YieldsList-turn (at_spaces _ c.args.s.now (cc) (cc) (cc) (λ x b q h. search (rules, tests))) c.loop-piece.yielded _ c.loop-piece.yielded_by _ _ c.in-Some.piece c.in-Some.is c.next.ensures.steps in
    c.from_residual.ensures ∙ count_fault _ _ _ t _ c.number.ensures c.in_err-number.was ∙ sym c.loop-piece.invariant.0

pub overflow_add-n : goal.overflow_add-n
overflow_add-n c =
    let t = YieldsList-turn (at_spaces _ c.args.s.now (cc) (cc) (cc) (λ x b q h. search (rules, tests))) c.loop-piece.yielded _ c.loop-piece.yielded_by _ _ c.in-Some.piece c.in-Some.is c.next.ensures.steps in
    let k = pieces_few c.args.s.now in
    search rules

pub loop-piece-preserved : goal.loop-piece-preserved
loop-piece-preserved c =
    let t = YieldsList-turn (at_spaces _ c.args.s.now (cc) (cc) (cc) (λ x b q h. search (rules, tests))) c.loop-piece.yielded _ c.loop-piece.yielded_by _ _ c.in-Some.piece c.in-Some.is c.next.ensures.steps in
    rw length_push (c.loop-piece.invariant.0 ∙ count_next _ _ _ t _ c.number.ensures _ c.in_ok-number.was, omega arith)

pub returns : goal.returns
returns c =
    let t = YieldsList-end (at_spaces _ c.args.s.now (cc) (cc) (cc) (λ x b q h. search (rules, tests))) c.loop-piece.yielded _ c.loop-piece.yielded_by _ _ c.in-None.is c.next.ensures.steps in
    count_end _ _ t.1 _ ∙ sym c.loop-piece.invariant.0
