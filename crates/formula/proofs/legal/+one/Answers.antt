-- The cycle of calls `formula::legal::one` meets its contracts. Assumes nothing.
use Rattle.trees.proofs.LegalLaws.{takes_inside, one_none, one_bad, one_rest, rest_end, rest_bad, rest_more}
use mathlib.Core.Path.{sym, ap, ◌∙◌}
use native.Mathlib.Omega.{arith}
use Prim.Native.Nat.{◌+◌, ◌-◌}
use Rattle.trees.specs.Legal.{takes_in}
use Rattle.formula.proofs.legal.+one.Goals as goal

pub returns-then-depth-eq0 : goal.returns-then-depth-eq0
returns-then-depth-eq0 t c = one_none _ _ _ _ c.if-depth-eq0.true

pub returns-in_err-arguments : goal.returns-in_err-arguments
returns-in_err-arguments t c = c.from_residual.ensures ∙ one_bad _ _ _ _ c.if-depth-eq0.false c.cell_at.ensures c.takes.ensures c.in_err-arguments.was

pub overflow_add-at : goal.overflow_add-at
overflow_add-at t c = omega (arith, takes_inside c.args.nodes.now c.args.cells.now c.args.i _ (sym (c.takes.ensures ∙ ap (takes_in c.args.nodes.now) c.cell_at.ensures) ∙ c.in_ok-arguments.was))

pub returns-in_err-at : goal.returns-in_err-at
returns-in_err-at t c = c.from_residual-in_err-at.ensures ∙ sym (one_rest _ _ _ _ _ c.if-depth-eq0.false c.cell_at.ensures c.takes.ensures c.in_ok-arguments.was ∙ c.loop-argument.invariant ∙ rest_bad _ _ _ (c.in_ok-arguments.arguments - c.loop-argument._argument) _ (omega arith) c.one.ensures c.in_err-at.was)

pub loop-argument-preserved : goal.loop-argument-preserved
loop-argument-preserved t c = c.loop-argument.invariant ∙ rest_more _ _ _ (c.in_ok-arguments.arguments - c.loop-argument._argument) (c.in_ok-arguments.arguments - (c.loop-argument._argument + 1)) _ _ (omega arith) c.one.ensures c.in_ok-at.was

pub returns : goal.returns
returns t c = sym (one_rest _ _ _ _ _ c.if-depth-eq0.false c.cell_at.ensures c.takes.ensures c.in_ok-arguments.was ∙ c.loop-argument.invariant ∙ rest_end _ _ _ (c.in_ok-arguments.arguments - c.loop-argument._argument) _ (omega arith))
