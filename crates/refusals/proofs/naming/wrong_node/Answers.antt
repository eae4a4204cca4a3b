-- `refusals::naming::wrong_node` meets its contract. Assumes nothing.
use borrow.Author.Rules.{rules}
use mathlib.Core.Path.{◌≡◌, ap, ◌∙◌}
use mir.Syntax.{w64}
use mir.Val.{to_z, of_z}
use mir.Facts.{to_z-of_z}
use Rattle.std.proofs.Common.{w64, None}
use Rattle.refusing.specs.declared.asks.Asks.TheVariants.{Makes}
use Rattle.refusing.specs.Sight.{nodes_alone}
use Rattle.refusing.proofs.AskLaws.{wrong_names, wrong_makes, wrong_none, wrong_nothing}
use Rattle.refusals.proofs.naming.wrong_node.Goals as goal

pub returns-in-Names : goal.returns-in-Names
returns-in-Names c =
    let a = c.args in
    let n : to_z w64 (of_z w64 c.in-Names.node) ≡ c.in-Names.node = to_z-of_z {w = w64} (search rules) in
    wrong_names (nodes_alone a.nodes.now) a.words.now _ c.asks_of.ensures c.in-Names.is (rw n at c.is_a.ensures)

pub returns-in-Makes-default-Some-default : goal.returns-in-Makes-default-Some-default
returns-in-Makes-default-Some-default c =
    let a = c.args in
    let m = c.in-Makes-default-Some-default in
    let o : to_z w64 (of_z w64 m.owner) ≡ m.owner = to_z-of_z {w = w64} (search rules) in
    wrong_makes (nodes_alone a.nodes.now) a.words.now _ c.asks_of.ensures (m.is ∙ ap (λ o. Makes m.kind o m.from) m.owner-is) (rw o at c.wrong_owner.ensures)

pub returns-in_default : goal.returns-in_default
returns-in_default c =
    let a = c.args in
    let m = c.in_default in
    let n : m.field-1 ≡ None = cc in
    wrong_none (nodes_alone a.nodes.now) a.words.now _ c.asks_of.ensures (m.is ∙ ap (λ o. Makes m.field-0 o m.field-2) n)

pub returns-in_default-2 : goal.returns-in_default-2
returns-in_default-2 c = wrong_nothing (nodes_alone c.args.nodes.now) c.args.words.now _ c.asks_of.ensures c.in_default.is
