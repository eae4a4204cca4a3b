-- `making::lay` meets its contract. Assumes nothing.
use mathlib.Core.Path.{◌≡◌}
use Prim.Native.Nat.{◌+◌}
use lib.ListN.{drop}
use Rattle.operating.specs.Making.{laid}
use Rattle.making.proofs.lay.Given as goal

abbrev pub invariant-loop-i : goal.invariant-loop-i
invariant-loop-i l = laid l.cells (l.at + l.i) (drop l.i l.formula) ≡ laid l.initial.cells l.at l.formula
