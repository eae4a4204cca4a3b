-- `marks::walks::shallow_propagate` meets its contract. The loop's invariant: the slots to come make of the tables what the whole walk makes. Assumes nothing.
use Rattle.std.proofs.Common.{◌≡◌}
use Rattle.std.specs.List.{fold}
use Rattle.marking.specs.Fields.{sub}
use Rattle.marking.specs.Shallow.{dirtied, shallow}
use Rattle.marks.proofs.walks.shallow_propagate.Given as goal

abbrev pub invariant-loop-link : goal.invariant-loop-link
invariant-loop-link l =
    fold (λ N x. dirtied l.links N (sub l.links x)) l.nodes l.link-iterator ≡ shallow l.links l.initial.nodes l.s
