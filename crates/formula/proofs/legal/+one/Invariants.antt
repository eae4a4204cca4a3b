-- The cycle of calls `formula::legal::one` meets its contracts. Assumes nothing.
use Rattle.trees.proofs.LegalLaws.{rest}
use mathlib.Core.Path.{◌≡◌}
use Prim.Native.Nat.{◌-◌}
use Rattle.formula.proofs.legal.+one.Given as goal

abbrev pub decreases-one : goal.decreases-one
decreases-one l = l.depth

abbrev pub invariant-loop-argument : goal.invariant-loop-argument
invariant-loop-argument l = rest l.nodes l.cells (l.depth - 1) l.arguments l.initial.at ≡ rest l.nodes l.cells (l.depth - 1) (l.arguments - l._argument) l.at
