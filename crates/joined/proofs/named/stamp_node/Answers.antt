-- `joined::named::stamp_node` meets its contract. Assumes nothing.
use Rattle.joined.proofs.StampTurns.{node_stamped, node_plain}
use mathlib.Core.Path.{sym, ◌∙◌}
use Rattle.joined.proofs.named.stamp_node.Goals as goal

pub returns-then-reads : goal.returns-then-reads
returns-then-reads c =
    node_stamped _ _ _ _ _ _ _ _ c.get-start.ensures c.get-count.ensures (sym c.reads.ensures ∙ c.if-reads.true) c.stamp_cells.ensures

pub returns-else-reads : goal.returns-else-reads
returns-else-reads c =
    node_plain _ _ _ _ _ (sym c.reads.ensures ∙ c.if-reads.false)
