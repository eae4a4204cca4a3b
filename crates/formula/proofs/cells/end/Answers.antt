-- `formula::cells::end` meets its contract. Assumes nothing.
use native.Mathlib.Omega.{arith}
use mathlib.Core.Path.{refl, sym, ap, ◌∙◌}
use Rattle.trees.proofs.ScanLaws.{arity_inside, count_done, count_stops, count_turns}
use Rattle.trees.specs.Cells.{arity_of, end_of}
use Rattle.formula.proofs.cells.end.Goals as goal

pub loop-owed-init : goal.loop-owed-init
unfolding end_of
loop-owed-init c = (omega arith, omega arith, refl)

pub returns-in_default : goal.returns-in_default
returns-in_default c = sym (count_stops _ _ _ _ c.loop-owed-test.true (sym (c.arity.ensures ∙ ap arity_of c.cell_at.ensures) ∙ c.in_default.is)) ∙ c.loop-owed.invariant.2

pub overflow_add-owed : goal.overflow_add-owed
overflow_add-owed c = omega (arith, arity_inside _ _ _ (sym (c.arity.ensures ∙ ap arity_of c.cell_at.ensures) ∙ c.in-Some.is))

pub overflow_add-at : goal.overflow_add-at
overflow_add-at c = omega (arith, arity_inside _ _ _ (sym (c.arity.ensures ∙ ap arity_of c.cell_at.ensures) ∙ c.in-Some.is))

pub loop-owed-smaller : goal.loop-owed-smaller
loop-owed-smaller c = omega (arith, arity_inside _ _ _ (sym (c.arity.ensures ∙ ap arity_of c.cell_at.ensures) ∙ c.in-Some.is))

pub loop-owed-preserved : goal.loop-owed-preserved
loop-owed-preserved c = (omega arith, omega (arith, arity_inside _ _ _ (sym (c.arity.ensures ∙ ap arity_of c.cell_at.ensures) ∙ c.in-Some.is)), sym (count_turns _ _ _ _ c.loop-owed-test.true (sym (c.arity.ensures ∙ ap arity_of c.cell_at.ensures) ∙ c.in-Some.is)) ∙ c.loop-owed.invariant.2)

pub returns : goal.returns
returns c = sym (count_done _ _ _ _ c.loop-owed-test.false) ∙ c.loop-owed.invariant.2
