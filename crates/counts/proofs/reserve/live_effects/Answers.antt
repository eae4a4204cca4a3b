-- `counts::reserve::live_effects` meets its contract. Assumes nothing.
use mathlib.Core.Path.{◌≡◌, sym, ap, ◌∙◌}
use native.Mathlib.Omega.{arith}
use Rattle.counting.specs.Counts.{total, effect_of, live_effects_in, counted_in}
use Rattle.counting.proofs.Sums.{total_none, total_more, effect_most}
use Rattle.counts.proofs.reserve.live_effects.Goals as goal

pub loop-n-init : goal.loop-n-init
loop-n-init c = (omega arith, sym (total_none (effect_of c.args.nodes.now)))

pub overflow_add-sum : goal.overflow_add-sum
overflow_add-sum c = omega (arith, c.effect_of-sum.ensures, effect_most c.args.nodes.now c.loop-n.n)

pub loop-n-preserved : goal.loop-n-preserved
loop-n-preserved c = (omega (arith, c.effect_of-sum.ensures, effect_most c.args.nodes.now c.loop-n.n), omega (arith, c.effect_of-sum.ensures, c.loop-n.invariant.1, total_more (effect_of c.args.nodes.now) c.loop-n.n))

pub returns : goal.returns
unfolding live_effects_in
returns c =
    let last : c.loop-n.n ≡ counted_in c.args.nodes.now = omega (arith, c.counted-n-end.ensures) in
    c.loop-n.invariant.1 ∙ ap (total (effect_of c.args.nodes.now)) last
