-- `script::turn` meets its contract. Assumes nothing.
use borrow.Author.Rules.{rules}
use mathlib.Core.Path.{◌≡◌, sym, ◌∙◌}
use borrow.Author.Tests.{eqb-true, eqb-false}
use mir.Syntax.{w64}
use mir.Val.{to_z, of_z}
use mir.Facts.{to_z-of_z}
use Rattle.commanding.proofs.AnswerLaws.{spelt}
use Rattle.script.proofs.TurnLaws.{none_found, cut_found, more_found, unreadable_found, words_inside, left_inside, turn_found}
use Rattle.script.proofs.turn.Goals as goal
use Rattle.script.proofs.turn.Goals.{in-Short-2+else-is_empty, in-Unreadable-1}

pub returns-in-Short : goal.returns-in-Short
returns-in-Short c = more_found _ _ _ _ _ c.pair.ensures c.in-Short.is c.if-not-over.true

pub returns-in-Short-2 : goal.returns-in-Short-2
returns-in-Short-2 c = none_found _ _ _ _ _ c.pair.ensures c.in-Short-2.is c.if-not-over.false (eqb-true _ _ (sym c.is_empty.ensures ∙ c.if-is_empty.true))

pub returns-in-Short-3 : goal.returns-in-Short-3
returns-in-Short-3 c = elim c.in-Short-3-1.branch [ in-Short-2+else-is_empty w ↦ cut_found _ _ _ _ _ c.pair.ensures w.in-Short-2.is w.if-not-over.false (eqb-false _ _ (sym w.is_empty.ensures ∙ w.if-is_empty.false)) c.put_unreadable.ensures | in-Unreadable-1 w ↦ unreadable_found _ _ _ _ _ c.pair.ensures (cc) c.put_unreadable.ensures ]

pub slice_bounds-command-end : goal.slice_bounds-command-end
slice_bounds-command-end c = let h = words_inside c.args.window.now c.args.words.now c.pair.ensures _ _ c.in-Pair.is in search rules

pub slice_bounds-command-end-in-Pair : goal.slice_bounds-command-end-in-Pair
slice_bounds-command-end-in-Pair c = let h = words_inside c.args.window.now c.args.words.now c.pair.ensures _ _ c.in-Pair.is in search rules

pub overflow_sub-result : goal.overflow_sub-result
overflow_sub-result c = let h = left_inside c.args.window.now c.args.words.now c.pair.ensures _ _ c.in-Pair.is in search rules

-- The command keeps the length of each table, and nothing after it changes one; the search for that is dear.

pub returns-in-Pair : goal.returns-in-Pair
returns-in-Pair c = let p : to_z w64 (of_z w64 c.from-a.result.value) ≡ c.from-a.result.value = to_z-of_z {w = w64} (search rules) in turn_found c.args.window.now c.args.words.now c.pair.ensures _ _ c.in-Pair.is _ _ _ (spelt _ c.from-a.ensures c.command.ensures) (rw p at c.put_answer.ensures)
