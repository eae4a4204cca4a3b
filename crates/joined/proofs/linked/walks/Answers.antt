-- `joined::linked::walks` meets its contract. Assumes nothing.
use Rattle.joined.proofs.WalkTurns.{walks_end, walks_bad, walks_more}
use mathlib.Core.Path.{sym, ◌∙◌}
use Prim.Native.Nat.{◌-◌}
use native.Mathlib.Omega.{arith}
use Rattle.joined.proofs.linked.walks.Goals as goal

pub returns-in_err-left : goal.returns-in_err-left
returns-in_err-left c =
    c.from_residual.ensures ∙ sym (c.loop-n.invariant ∙ walks_bad _ _ _ c.loop-n.n (c.loop-n.n - 1) _ _ _ (omega arith) c.get-head.ensures c.get-tail.ensures (sym c.walk.ensures ∙ c.in_err-left.was))

pub loop-n-preserved : goal.loop-n-preserved
loop-n-preserved c =
    c.loop-n.invariant ∙ walks_more _ _ _ c.loop-n.n (c.loop-n.n - 1) _ _ _ (omega arith) c.get-head.ensures c.get-tail.ensures _ (sym c.walk.ensures ∙ c.in_ok-left.was)

pub returns : goal.returns
returns c = sym (c.loop-n.invariant ∙ walks_end _ _ _ c.loop-n.n _ c.loop-n-test.false)
