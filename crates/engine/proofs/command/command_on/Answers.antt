-- `engine::command::command_on` meets its contract. Assumes nothing.
use borrow.Author.Rules.{rules}
use mir.Syntax.{w64}
use mir.Val.{to_z, of_z}
use mir.Facts.{to_z-of_z}
use mathlib.Core.Path.{◌≡◌, sym, ap, ◌∙◌}
use Rattle.refusing.specs.Numbers.{refused_as}
use Prim.Native.Nat.{◌≤◌}
use lib.ListN.{length}
use Rattle.refusing.proofs.CommandLaws.{from_inside}
use Rattle.refusing.proofs.MakingLaws.{part_is}
use Rattle.refusing.proofs.TableLaws.{number_some}
use Rattle.commanding.proofs.EngineLaws.{command_refused, command_done}
use Rattle.engine.proofs.command.command_on.Goals as goal

pub returns-in-Some : goal.returns-in-Some
returns-in-Some c =
    let a = c.args in
    command_refused a.nodes.now a.links.now a.values.now a.cells.now a.log.now a.words.now a.formed (ap refused_as (sym c.in-Some.is) ∙ c.refusal_on.ensures) (number_some c.in-Some.r)

pub offset_bounds-words-from : goal.offset_bounds-words-from
offset_bounds-words-from c =
    let inside : c.cells_from-from.result ≤ length c.args.words.now = rw c.cells_from-from.ensures (from_inside c.args.words.now) in
    search rules

pub slice_bounds-perform-count : goal.slice_bounds-perform-count
slice_bounds-perform-count c = rw c.cells_from-from.ensures (from_inside c.args.words.now)

pub slice_bounds-perform-start : goal.slice_bounds-perform-start
slice_bounds-perform-start c =
    let inside : c.cells_from-from.result ≤ length c.args.words.now = rw c.cells_from-from.ensures (from_inside c.args.words.now) in
    search rules

pub returns-in-None : goal.returns-in-None
returns-in-None c =
    let a = c.args in
    command_done a.nodes.now a.links.now a.values.now a.cells.now a.log.now a.words.now a.formed c.refusal_on.ensures (ap refused_as c.in-None.is) (rw (← c.command_of.ensures, ← part_is c.args.words.now c.cells_from-from.ensures) c.perform.ensures)
