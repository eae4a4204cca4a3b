-- `marks::walks::propagate_on` meets its contract. The outer loop's invariant: what is left of the walk gives the same tables as the whole.
-- The inner loop's: to go back from here is to go back from its start. Its measure is the height of the stack. Assumes nothing.
use Rattle.std.proofs.Common.{◌≡◌, ◌+◌, ◌-◌}
use Rattle.stack.specs.Stack.{pushed, pushed_len}
use Rattle.marking.specs.Walks.{place, back, walked, blank}
use Rattle.marks.proofs.walks.propagate_on.Given as goal

abbrev pub invariant-loop-w : goal.invariant-loop-w
invariant-loop-w l =
    back (walked l.links (l.turns - (l.counter + 1))) l.links l.nodes l.stack.words l.stack.len ≡ back (walked l.links (l.turns - (l.counter + 1))) l.links l.nodes l.initial.stack.words l.initial.stack.len

abbrev pub decreases-loop-w : goal.decreases-loop-w
decreases-loop-w l = l.stack.len

abbrev pub invariant-top : goal.invariant-top
invariant-top l =
    walked l.links (l.turns - l.counter) l.nodes (place l.link l.next l.stack.words l.stack.len) ≡ walked l.links l.turns l.initial.nodes (place l.initial.link l.initial.next (pushed blank l.deep l.aside) (pushed_len blank l.deep))
