-- `joined::linked::walk` meets its contract. Assumes nothing.
use Rattle.joined.proofs.TurnLaws.{at_slot, at_nothing}
use Rattle.joined.proofs.WalkTurns.{walk_done, walk_out, walk_bad, walk_more}
use mathlib.Core.Path.{sym, ◌∙◌}
use Rattle.joined.proofs.linked.walk.Goals as goal

pub returns-in_err-left : goal.returns-in_err-left
returns-in_err-left c = c.from_residual.ensures ∙ sym (c.loop-x.invariant ∙ walk_out _ _ _ _ _ _ _ _ (at_slot _ _ c.open.ensures c.in-At.is) c.in_err-left.ensures)

pub returns-then-not-fits : goal.returns-then-not-fits
returns-then-not-fits c = sym (c.loop-x.invariant ∙ walk_bad _ _ _ _ _ _ _ _ (at_slot _ _ c.open.ensures c.in-At.is) c.in_ok-left.ensures.0 (sym c.if-not-fits.ensures))

pub loop-x-preserved : goal.loop-x-preserved
loop-x-preserved c = c.loop-x.invariant ∙ walk_more _ _ _ _ _ _ _ _ (at_slot _ _ c.open.ensures c.in-At.is) _ _ c.in_ok-left.ensures.0 c.in_ok-left.ensures.1 (sym c.if-not-fits.ensures) c.get-at.ensures

pub returns : goal.returns
returns c = c.then_some.ensures ∙ walk_done _ _ _ _ _ _ _ (at_nothing _ c.open.ensures c.in_default.is) ∙ sym c.loop-x.invariant
