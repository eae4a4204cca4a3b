-- `joined::rest` meets its contract. Assumes nothing.
use Rattle.lists.proofs.EachLaws.{every_end, every_bad, every_more}
use Rattle.resting.specs.Joined.{rest_in}
use mathlib.Core.Path.{sym, ◌∙◌}
use native.Mathlib.Omega.{arith}
use Rattle.joined.proofs.rest.Goals as goal

pub returns-then-not-rests_at : goal.returns-then-not-rests_at
unfolding rest_in
returns-then-not-rests_at c = sym (c.loop-n.invariant ∙ every_bad _ c.loop-n.n (omega arith) (sym c.rests_at.ensures ∙ c.if-not-rests_at.true))

pub loop-n-preserved : goal.loop-n-preserved
loop-n-preserved c = c.loop-n.invariant ∙ every_more _ c.loop-n.n (omega arith) (sym c.rests_at.ensures ∙ c.if-not-rests_at.false)

pub returns : goal.returns
unfolding rest_in
returns c = sym (c.loop-n.invariant ∙ every_end _ c.loop-n.n c.loop-n-test.false)
