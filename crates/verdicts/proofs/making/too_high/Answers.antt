-- `verdicts::making::too_high` meets its contract. Assumes nothing.
use mathlib.Core.Path.{ap, ◌∙◌}
use Prim.Native.Nat.{min}
use Rattle.trees.specs.Names.{height_in}
use Rattle.refusing.proofs.MakingLaws.{high_none, high_computed, high_other}
use Rattle.verdicts.proofs.making.too_high.Goals as goal

pub returns-in_default : goal.returns-in_default
returns-in_default c = λ bad. high_none c.args.nodes.now c.args.words.now _ c.asks_of.ensures c.in_default.not-Makes

pub returns-in-Computed : goal.returns-in-Computed
returns-in-Computed c =
    let a = c.args in
    λ bad. high_computed a.nodes.now a.words.now _ c.asks_of.ensures c.in-Makes.is c.in-Computed.is bad (c.height.ensures ∙ ap (λ cs. min 65 (height_in a.nodes.now cs)) c.formula_of.ensures)

pub returns-in_default-kind : goal.returns-in_default-kind
returns-in_default-kind c =
    let a = c.args in
    λ bad. high_other a.nodes.now a.words.now _ c.asks_of.ensures c.in-Makes.is c.in_default-kind.not-Computed c.too_deep.ensures
