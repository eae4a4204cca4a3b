-- `joined::rest` meets its contract. Assumes nothing.
use Rattle.lists.specs.Each.{every}
use Rattle.resting.specs.Joined.{rests_at}
use Rattle.counting.specs.Counts.{counted_in}
use mathlib.Core.Path.{◌≡◌}
use Rattle.joined.proofs.rest.Given as goal

abbrev pub invariant-loop-n : goal.invariant-loop-n
invariant-loop-n l = every (rests_at l.nodes l.links) (counted_in l.nodes) ≡ every (rests_at l.nodes l.links) l.n
