-- `operations::emptying::free_all` meets its contract. Assumes nothing.
use mathlib.Core.Path.{◌≡◌}
use Rattle.operating.specs.Emptying.{freed}
use Rattle.operations.proofs.emptying.free_all.Given as goal

abbrev pub invariant-loop-s : goal.invariant-loop-s
invariant-loop-s l = freed l.links l.s ≡ freed l.fn.links l.k
