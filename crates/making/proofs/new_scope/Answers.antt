-- `making::new_scope` meets its contract. Assumes nothing.
use Rattle.operating.specs.Making.{new_scope}
use Rattle.making.proofs.new_scope.Goals as goal

pub returns : goal.returns
unfolding new_scope
returns c = rw (← c.depth_under.ensures, ← c.of.ensures, ← c.make-n.ensures c.args.links.now, ← c.own.ensures c.make-n.new.values)
