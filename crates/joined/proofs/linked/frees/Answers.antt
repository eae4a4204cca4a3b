-- `joined::linked::frees` meets its contract. Assumes nothing.
use Rattle.joined.proofs.TurnLaws.{at_slot, at_nothing}
use Rattle.joined.proofs.WalkTurns.{frees_done, frees_out, frees_bad, frees_more}
use mathlib.Core.Path.{sym, ◌∙◌}
use Rattle.joined.proofs.linked.frees.Goals as goal

pub returns-in_err-left : goal.returns-in_err-left
returns-in_err-left c = c.from_residual.ensures ∙ sym (c.loop-x.invariant ∙ frees_out _ _ _ _ (at_slot _ _ c.open.ensures c.in-At.is) c.in_err-left.ensures)

pub returns-then-not-spare : goal.returns-then-not-spare
returns-then-not-spare c = sym (c.loop-x.invariant ∙ frees_bad _ _ _ _ (at_slot _ _ c.open.ensures c.in-At.is) c.in_ok-left.ensures.0 (sym c.if-not-spare.ensures))

pub loop-x-preserved : goal.loop-x-preserved
loop-x-preserved c = c.loop-x.invariant ∙ frees_more _ _ _ _ (at_slot _ _ c.open.ensures c.in-At.is) _ _ c.in_ok-left.ensures.0 c.in_ok-left.ensures.1 (sym c.if-not-spare.ensures) c.get-at.ensures

pub returns : goal.returns
returns c = sym (c.loop-x.invariant ∙ frees_done _ _ _ (at_nothing _ c.open.ensures c.in_default.is))
