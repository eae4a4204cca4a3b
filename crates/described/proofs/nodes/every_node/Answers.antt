-- `described::nodes::every_node` meets its contract. Assumes nothing.
use Rattle.described.proofs.NodeLaws.{every_done, every_false, every_true}
use mathlib.Core.Path.{refl, sym, ◌∙◌}
use native.Mathlib.Omega.{arith}
use Rattle.described.proofs.nodes.every_node.Goals as goal

pub returns-then-not-node : goal.returns-then-not-node
returns-then-not-node c = sym (every_false _ _ c.loop-n.n (omega arith) c.node.ensures c.if-not-node.true) ∙ c.loop-n.invariant

pub loop-n-preserved : goal.loop-n-preserved
loop-n-preserved c = sym (every_true _ _ c.loop-n.n (omega arith) c.node.ensures c.if-not-node.false) ∙ c.loop-n.invariant

pub returns : goal.returns
returns c = sym (every_done _ _ c.loop-n.n c.loop-n-test.false) ∙ c.loop-n.invariant
