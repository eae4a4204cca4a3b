-- `verdicts::table::refusal` meets its contract. Assumes nothing.
use mathlib.Core.Path.{sym, ap, ◌∙◌}
use Rattle.refusing.proofs.TableLaws.{number_some, rows_are, given_2, given_3, given_4, given_made, given_8, given_9, given_0}
use Rattle.refusing.specs.Numbers.{refused_as}
use Rattle.verdicts.proofs.table.refusal.Goals as goal

pub returns-then-unknown : goal.returns-then-unknown
returns-then-unknown c =
    let a = c.args in
    given_2 _ _ _ _ _ _ _ _ (sym c.unknown.ensures ∙ c.if-unknown.true) ∙ sym (rows_are a.nodes.now a.links.now a.cells.now a.rows a.words.now)

pub returns-then-wrong_node : goal.returns-then-wrong_node
returns-then-wrong_node c =
    let a = c.args in
    let known = sym c.unknown.ensures ∙ c.if-unknown.false in
    given_3 _ _ _ _ _ _ _ _ known (sym c.wrong_node.ensures ∙ c.if-wrong_node.true) ∙ sym (rows_are a.nodes.now a.links.now a.cells.now a.rows a.words.now)

pub returns-then-gone_node : goal.returns-then-gone_node
returns-then-gone_node c =
    let a = c.args in
    let known = sym c.unknown.ensures ∙ c.if-unknown.false in
    let right = sym c.wrong_node.ensures ∙ c.if-wrong_node.false in
    given_4 _ _ _ _ _ _ _ _ known right (sym c.gone_node.ensures ∙ c.if-gone_node.true) ∙ sym (rows_are a.nodes.now a.links.now a.cells.now a.rows a.words.now)

pub returns-in-Some : goal.returns-in-Some
returns-in-Some c =
    let a = c.args in
    let known = sym c.unknown.ensures ∙ c.if-unknown.false in
    let right = sym c.wrong_node.ensures ∙ c.if-wrong_node.false in
    let live = sym c.gone_node.ensures ∙ c.if-gone_node.false in
    given_made _ _ _ _ _ _ _ _ known right live (ap refused_as (sym c.in-Some.is) ∙ c.making.ensures) (number_some _) ∙ sym (rows_are a.nodes.now a.links.now a.cells.now a.rows a.words.now)

pub returns-then-wrong_depth : goal.returns-then-wrong_depth
returns-then-wrong_depth c =
    let a = c.args in
    let known = sym c.unknown.ensures ∙ c.if-unknown.false in
    let right = sym c.wrong_node.ensures ∙ c.if-wrong_node.false in
    let live = sym c.gone_node.ensures ∙ c.if-gone_node.false in
    given_8 _ _ _ _ _ _ _ _ known right live c.making.ensures (ap refused_as c.in_default.is) (sym c.wrong_depth.ensures ∙ c.if-wrong_depth.true) ∙ sym (rows_are a.nodes.now a.links.now a.cells.now a.rows a.words.now)

pub returns-then-few_rows : goal.returns-then-few_rows
returns-then-few_rows c =
    let a = c.args in
    let known = sym c.unknown.ensures ∙ c.if-unknown.false in
    let right = sym c.wrong_node.ensures ∙ c.if-wrong_node.false in
    let live = sym c.gone_node.ensures ∙ c.if-gone_node.false in
    let deep = sym c.wrong_depth.ensures ∙ c.if-wrong_depth.false in
    given_9 _ _ _ _ _ _ _ _ known right live c.making.ensures (ap refused_as c.in_default.is) deep (sym c.few_rows.ensures ∙ c.if-few_rows.true) ∙ sym (rows_are a.nodes.now a.links.now a.cells.now a.rows a.words.now)

pub returns : goal.returns
returns c =
    let a = c.args in
    let known = sym c.unknown.ensures ∙ c.if-unknown.false in
    let right = sym c.wrong_node.ensures ∙ c.if-wrong_node.false in
    let live = sym c.gone_node.ensures ∙ c.if-gone_node.false in
    let deep = sym c.wrong_depth.ensures ∙ c.if-wrong_depth.false in
    given_0 _ _ _ _ _ _ _ _ known right live c.making.ensures (ap refused_as c.in_default.is) deep (sym c.few_rows.ensures ∙ c.if-few_rows.false) ∙ sym (rows_are a.nodes.now a.links.now a.cells.now a.rows a.words.now)
