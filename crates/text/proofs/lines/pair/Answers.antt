-- `text::lines::pair` meets its contract. Assumes nothing.
use borrow.Author.Rules.{rules}
use mathlib.Core.Path.{◌≡◌, sym, ◌∙◌}
use Prim.Native.Nat.{◌+◌, ◌<◌}
use lib.ListN.{length}
use mir.Syntax.{w64}
use mir.Val.{to_z, of_z}
use mir.Facts.{to_z-of_z}
use native.Mathlib.Numerals.{add-one}
use Rattle.spelling.proofs.LineLaws.{rest_is}
use Rattle.spelling.proofs.Streams.{ends, at_inside}
use Rattle.spelling.proofs.PairLaws.{pair_long, pair_open, pair_no_command, pair_second}
use Rattle.std.proofs.Common.{w64}
use Rattle.text.proofs.lines.pair.Goals as goal

pub slice_bounds-command_line-end : goal.slice_bounds-command_line-end
slice_bounds-command_line-end c = let h : c.in-At.i < length c.args.window.now = at_inside c.args.window.now (ends c.args.window.now) _ (sym c.line_end.ensures ∙ c.in-At.is) in search rules

pub returns-in-None : goal.returns-in-None
returns-in-None c = pair_no_command c.args.window.now c.args.words.now c.line_end.ensures _ c.in-At.is c.command_line.ensures c.in-None.is

pub overflow_add-i : goal.overflow_add-i
overflow_add-i c = let h : c.in-At.i < length c.args.window.now = at_inside c.args.window.now (ends c.args.window.now) _ (sym c.line_end.ensures ∙ c.in-At.is) in search rules

pub slice_bounds-second-count : goal.slice_bounds-second-count
slice_bounds-second-count c = let h : c.in-At.i < length c.args.window.now = at_inside c.args.window.now (ends c.args.window.now) _ (sym c.line_end.ensures ∙ c.in-At.is) in search rules

pub slice_bounds-second-start : goal.slice_bounds-second-start
slice_bounds-second-start c = let h : c.in-At.i < length c.args.window.now = at_inside c.args.window.now (ends c.args.window.now) _ (sym c.line_end.ensures ∙ c.in-At.is) in search rules

pub returns-in-Long : goal.returns-in-Long
returns-in-Long c = pair_long c.args.window.now c.args.words.now c.line_end.ensures c.in-Long.is

pub returns-in-Unended : goal.returns-in-Unended
returns-in-Unended c = pair_open c.args.window.now c.args.words.now c.line_end.ensures c.in-Unended.is

pub returns-in-Some : goal.returns-in-Some
returns-in-Some c = let p : to_z w64 (of_z w64 c.in-Some.code) ≡ c.in-Some.code = to_z-of_z {w = w64} (search rules) in pair_second c.args.window.now c.args.words.now c.line_end.ensures _ c.in-At.is c.command_line.ensures _ c.in-Some.is (rw (p, rest_is c.args.window.now (c.in-At.i + 1), add-one c.in-At.i) at c.second.ensures)
