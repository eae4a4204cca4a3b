-- `joined::named::all_named` meets its contract. Assumes nothing.
use Rattle.joined.proofs.StampTurns.{named_start, named_end, named_bad, named_more}
use mathlib.Core.Path.{refl, sym, ◌∙◌}
use Prim.Native.Nat.{◌+◌, ◌-◌}
use native.Mathlib.Omega.{arith}
use Rattle.joined.proofs.named.all_named.Goals as goal

pub loop-n-init : goal.loop-n-init
loop-n-init c = (refl, refl)

pub returns-then-not-links_stamped : goal.returns-then-not-links_stamped
returns-then-not-links_stamped c =
    sym (named_start _ _ _ _ _ c.counted-count.ensures ∙ c.loop-n.invariant.0 ∙ named_bad _ _ _ _ _ _ _ (c.counted-count.result - c.loop-n.n) (omega (arith, c.loop-n-test.true)) c.stamp_node.ensures c.get-w.ensures (sym c.links_stamped.ensures ∙ c.if-not-links_stamped.true))

pub loop-n-preserved : goal.loop-n-preserved
loop-n-preserved c =
    (c.loop-n.invariant.0 ∙ named_more _ _ _ _ _ _ _ (c.counted-count.result - c.loop-n.n) (c.counted-count.result - (c.loop-n.n + 1)) (omega (arith, c.loop-n-test.true)) c.stamp_node.ensures c.get-w.ensures (sym c.links_stamped.ensures ∙ c.if-not-links_stamped.false) (omega arith), c.stamp_node.auto.seen ∙ c.loop-n.invariant.1)

pub returns : goal.returns
returns c =
    sym (named_start _ _ _ _ _ c.counted-count.ensures ∙ c.loop-n.invariant.0 ∙ named_end _ _ _ _ _ (c.counted-count.result - c.loop-n.n) (omega (arith, c.loop-n-test.false)))
