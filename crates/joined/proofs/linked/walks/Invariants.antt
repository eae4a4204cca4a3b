-- `joined::linked::walks` meets its contract. Assumes nothing.
use Rattle.resting.specs.Linked.{walks}
use mathlib.Core.Path.{◌≡◌}
use Rattle.joined.proofs.linked.walks.Given as goal

abbrev pub invariant-loop-n : goal.invariant-loop-n
invariant-loop-n l = walks l.nodes l.links l.side l.count l.budget ≡ walks l.nodes l.links l.side l.n l.left
