-- `text::lines::second` meets its contract. Assumes nothing.
use borrow.Author.Rules.{rules}
use mathlib.Core.Path.{sym, ◌∙◌}
use Prim.Native.Nat.{◌<◌}
use lib.ListN.{length}
use mir.Facts.{to_z-of_z}
use Rattle.spelling.proofs.Streams.{ends, at_inside}
use Rattle.spelling.proofs.PairLaws.{second_long, second_open, second_fault, second_full, second_pair}
use Rattle.text.proofs.lines.second.Goals as goal

pub slice_bounds-args_line-end : goal.slice_bounds-args_line-end
slice_bounds-args_line-end c = let h : c.in-At.j < length c.args.s.now = at_inside c.args.s.now (ends c.args.s.now) _ (sym c.line_end.ensures ∙ c.in-At.is) in search rules

pub returns-in_default-2 : goal.returns-in_default-2
returns-in_default-2 c = second_fault c.args.code c.args.s.now c.args.words.now c.line_end.ensures _ c.in-At.is c.args_line.ensures c.in_default.is

pub returns-in_default : goal.returns-in_default
returns-in_default c = second_full c.args.code c.args.s.now c.args.words.now c.line_end.ensures _ c.in-At.is c.args_line.ensures _ c.in-Some.is c.if-n-words.false

pub slice_bounds-store_pair-end : goal.slice_bounds-store_pair-end
slice_bounds-store_pair-end c = let h : c.in-At.j < length c.args.s.now = at_inside c.args.s.now (ends c.args.s.now) _ (sym c.line_end.ensures ∙ c.in-At.is) in search rules

pub overflow_sub-result : goal.overflow_sub-result
overflow_sub-result c = let h : c.in-At.j < length c.args.s.now = at_inside c.args.s.now (ends c.args.s.now) _ (sym c.line_end.ensures ∙ c.in-At.is) in search rules

pub overflow_sub-result-in-Some : goal.overflow_sub-result-in-Some
overflow_sub-result-in-Some c = let h : c.in-At.j < length c.args.s.now = at_inside c.args.s.now (ends c.args.s.now) _ (sym c.line_end.ensures ∙ c.in-At.is) in search rules

pub returns-in-Long : goal.returns-in-Long
returns-in-Long c = second_long c.args.code c.args.s.now c.args.words.now c.line_end.ensures c.in-Long.is

pub returns-in-Unended : goal.returns-in-Unended
returns-in-Unended c = second_open c.args.code c.args.s.now c.args.words.now c.line_end.ensures c.in-Unended.is

pub returns-in-Some : goal.returns-in-Some
returns-in-Some c = let h : c.in-At.j < length c.args.s.now = at_inside c.args.s.now (ends c.args.s.now) _ (sym c.line_end.ensures ∙ c.in-At.is) in second_pair c.args.code c.args.s.now c.args.words.now c.line_end.ensures _ c.in-At.is c.args_line.ensures _ c.in-Some.is c.if-n-words.true (rw (to_z-of_z c.ranges.code) at c.store_pair.ensures) h
