-- `described::nodes::every_node` meets its contract. Assumes nothing.
use Rattle.telling.specs.Nodes.{nodes_in}
use mathlib.Core.Path.{◌≡◌}
use Rattle.described.proofs.nodes.every_node.Given as goal

abbrev pub invariant-loop-n : goal.invariant-loop-n
invariant-loop-n l = nodes_in l.nodes l.cells l.n ≡ nodes_in l.nodes l.cells l.count
