-- `counts::reserve::reserve` meets its contract. Assumes nothing.
use mathlib.Core.Path.{◌≡◌, ap, ◌∙◌}
use Prim.Native.Nat.{ℕ, min}
use native.Mathlib.Omega.{arith}
use Rattle.counting.specs.Counts.{total, top, reserve_of, reserve_in, counted_in}
use Rattle.counting.proofs.Sums.{total_none, stopped_more}
use Rattle.counts.proofs.reserve.reserve.Goals as goal

pub loop-n-init : goal.loop-n-init
loop-n-init c = omega (arith, total_none (reserve_of c.args.nodes.now))

pub loop-n-preserved : goal.loop-n-preserved
loop-n-preserved c = stopped_more _ _ c.loop-n.invariant c.reserve_of.ensures c.plus-sum.ensures

pub returns : goal.returns
unfolding reserve_in
returns c =
    let last : c.loop-n.n ≡ counted_in c.args.nodes.now = omega (arith, c.counted-n-end.ensures) in
    c.loop-n.invariant ∙ ap (λ (n : ℕ). min top (total (reserve_of c.args.nodes.now) n)) last
