-- `refusals::naming::gone_node` meets its contract. Assumes nothing.
use borrow.Author.Rules.{rules}
use mathlib.Core.Path.{◌≡◌, ap, ◌∙◌}
use mir.Syntax.{w64}
use mir.Val.{to_z, of_z}
use mir.Facts.{to_z-of_z}
use Rattle.std.proofs.Common.{w64, None}
use Rattle.refusing.specs.declared.asks.Asks.TheVariants.{Makes}
use Rattle.meaning.specs.Refusals.{is_gone}
use Rattle.refusing.specs.Sight.{nodes_alone}
use Rattle.refusing.proofs.AskLaws.{gone_names, gone_spared, gone_makes, gone_none, gone_nothing}
use Rattle.refusals.proofs.naming.gone_node.Goals as goal

pub returns-then-ends : goal.returns-then-ends
returns-then-ends c =
    let a = c.args in
    let n : to_z w64 (of_z w64 c.in-Names.node) ≡ c.in-Names.node = to_z-of_z {w = w64} (search rules) in
    gone_names (nodes_alone a.nodes.now) a.words.now _ c.asks_of.ensures c.in-Names.is c.if-ends.true (rw n at c.is_gone.ensures)

pub returns-else-ends : goal.returns-else-ends
returns-else-ends c = gone_spared (nodes_alone c.args.nodes.now) c.args.words.now _ c.asks_of.ensures c.in-Names.is c.if-ends.false

pub returns-in-Makes-default-Some-default : goal.returns-in-Makes-default-Some-default
returns-in-Makes-default-Some-default c =
    let a = c.args in
    let m = c.in-Makes-default-Some-default in
    let g = c.is_gone-in-Makes-default-Some-default in
    let o : to_z w64 (of_z w64 m.owner) ≡ m.owner = to_z-of_z {w = w64} (search rules) in
    gone_makes (nodes_alone a.nodes.now) a.words.now _ c.asks_of.ensures (m.is ∙ ap (λ o. Makes m.kind o m.from) m.owner-is) (g.ensures ∙ ap (is_gone (nodes_alone a.nodes.now)) o)

pub returns-in_default : goal.returns-in_default
returns-in_default c =
    let a = c.args in
    let m = c.in_default in
    let n : m.field-1 ≡ None = cc in
    gone_none (nodes_alone a.nodes.now) a.words.now _ c.asks_of.ensures (m.is ∙ ap (λ o. Makes m.field-0 o m.field-2) n)

pub returns-in_default-2 : goal.returns-in_default-2
returns-in_default-2 c = gone_nothing (nodes_alone c.args.nodes.now) c.args.words.now _ c.asks_of.ensures c.in_default.is
