-- `marks::effects::climb` meets its contract. The loop's invariant: what is left of the climb gives the same tables as the whole. Assumes nothing.
use Rattle.std.proofs.Common.{◌≡◌, ◌-◌}
use Rattle.primitive.specs.Words.{node_rows}
use Rattle.marking.specs.Notify.{climbed}
use Rattle.marks.proofs.effects.climb.Given as goal

abbrev pub invariant-loop : goal.invariant-loop
invariant-loop l =
    climbed l.links (node_rows l.initial.nodes - l.counter) l.nodes l.e ≡ climbed l.links (node_rows l.initial.nodes) l.initial.nodes l.initial.e
