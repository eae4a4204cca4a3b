-- `marks::walks::propagate` meets its contract. The loop's invariant: what is left of the walk gives the same tables as the whole, and the stack has nothing on it.
-- Assumes nothing.
use Rattle.std.proofs.Common.{◌≡◌, ◌-◌}
use Rattle.marking.specs.Walks.{place, walked, blank, propagated}
use Rattle.marks.proofs.walks.propagate.Given as goal

abbrev pub invariant-loop-turn : goal.invariant-loop-turn
invariant-loop-turn l =
    walked l.links (l.turns - l.turn) l.nodes (place l.link l.next blank l.len) ≡ propagated l.links l.initial.nodes l.s
