-- `marks::walks::shallow_propagate` meets its contract. Assumes nothing.
use Rattle.primitive.specs.Words.{link_rows}
use Rattle.marking.specs.Shallow.{shallow}
use Rattle.marking.proofs.ShallowLaws.{shallow_walk}
use Rattle.marks.proofs.walks.shallow_propagate.Goals as goal

pub loop-link-init : goal.loop-link-init
unfolding shallow
loop-link-init c = rw (c.into_iter-link-iterator.ensures.into_iter_gives, c.new-link-items.ensures) (shallow_walk c.args.links.now (link_rows c.args.links.now) c.args.nodes.now c.args.s)
