-- `queue::reverse_from` meets its contract. The loop's invariant: to reverse what is left gives the same as to reverse all of it;
-- the length stays, and hi is at most the length. The measure is hi. Assumes nothing.
use mathlib.Core.Path.{refl, sym, ap, ◌∙◌}
use mathlib.Core.List.{List}
use Prim.Native.Nat.{ℕ, ◌+◌, ◌-◌}
use native.Mathlib.Omega.{arith}
use lib.ListN.{length}
use Rattle.queue.specs.Queue.{reversed, reversed_from}
use Rattle.queue.proofs.QueueLaws.{count_le, reversed_more, reversed_done, length_swapped}
use Rattle.queue.proofs.reverse_from.Goals as goal

pub loop-lo-init : goal.loop-lo-init
loop-lo-init c = (refl, refl, omega (arith, c.length-hi.ensures, count_le c.args.nodes.now))

pub overflow_sub-hi : goal.overflow_sub-hi
overflow_sub-hi c = omega arith

pub overflow_add-lo : goal.overflow_add-lo
overflow_add-lo c = omega arith

pub loop-lo-smaller : goal.loop-lo-smaller
loop-lo-smaller c = omega arith

pub loop-lo-preserved : goal.loop-lo-preserved
loop-lo-preserved c =
    let swap = c.swap.ensures in
    let loop = c.loop-lo in (
      loop.invariant.0 ∙ reversed_more _ _ _ c.loop-lo-test.true ∙ ap (λ (x : List ℕ). reversed x (loop.lo + 1) (loop.hi - 1)) (sym swap),
      ap length swap ∙ length_swapped _ _ _ ∙ loop.invariant.1,
      omega arith,
    )

pub shape_of-nodes : goal.shape_of-nodes
shape_of-nodes c = c.loop-lo.invariant.1

pub returns : goal.returns
unfolding reversed_from
returns c =
    sym (ap (reversed _ _) (sym c.length-hi.ensures) ∙ c.loop-lo.invariant.0 ∙ reversed_done _ _ _ c.loop-lo-test.false)
