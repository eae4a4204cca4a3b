-- `refusals::commands::command_of` meets its contract. Assumes nothing.
use borrow.Author.Rules.{rules}
use mathlib.Core.Path.{◌≡◌, refl, ◌∙◌}
use mir.Syntax.{w64}
use mir.Val.{to_z, of_z}
use mir.Facts.{to_z-of_z}
use lib.IntN.{pos}
use lib.ListN.{get_or}
use Rattle.trees.specs.Cells.{natural_of}
use Rattle.refusing.proofs.CommandLaws.{code_none, code_right, code_wrong, by_number, none_by}
use Rattle.std.proofs.Common.{w64}
use Rattle.refusals.proofs.commands.command_of.Goals as goal

pub returns-in-Some : goal.returns-in-Some
returns-in-Some c =
    let a = c.args in
    let v : to_z w64 (of_z w64 c.at.result) ≡ c.at.result = to_z-of_z {w = w64} (search rules) in
    let f : c.natural.result ≡ natural_of (get_or a.words.now 0 (pos 0)) = rw (v, c.at.ensures) at c.natural.ensures in
    let p : to_z w64 (of_z w64 c.at-in-Some.result) ≡ get_or a.words.now 1 (pos 0) = to_z-of_z {w = w64} (search rules) ∙ c.at-in-Some.ensures in
    let q : to_z w64 (of_z w64 c.at-in-Some-2.result) ≡ get_or a.words.now 2 (pos 0) = to_z-of_z {w = w64} (search rules) ∙ c.at-in-Some-2.ensures in
    (rw (p, q) at c.command_by.ensures) ∙ by_number a.words.now (code_right _ f _ c.in-Some.is c.takes_words.ensures c.if-takes_words.true)

pub returns-in_default : goal.returns-in_default
returns-in_default c =
    let a = c.args in
    let v : to_z w64 (of_z w64 c.at.result) ≡ c.at.result = to_z-of_z {w = w64} (search rules) in
    let f : c.natural.result ≡ natural_of (get_or a.words.now 0 (pos 0)) = rw (v, c.at.ensures) at c.natural.ensures in
    none_by a.words.now (code_wrong _ f _ c.in-Some.is c.takes_words.ensures c.if-takes_words.false) refl

pub returns-in_default-2 : goal.returns-in_default-2
returns-in_default-2 c =
    let a = c.args in
    let v : to_z w64 (of_z w64 c.at.result) ≡ c.at.result = to_z-of_z {w = w64} (search rules) in
    let f : c.natural.result ≡ natural_of (get_or a.words.now 0 (pos 0)) = rw (v, c.at.ensures) at c.natural.ensures in
    none_by a.words.now (code_none _ f c.in_default.is) refl
