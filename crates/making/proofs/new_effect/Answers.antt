-- `making::new_effect` meets its contract. Assumes nothing.
use Rattle.operating.specs.Making.{new_effect}
use Rattle.making.proofs.new_effect.Goals as goal

pub returns : goal.returns
unfolding new_effect
returns c = rw (← c.depth_under.ensures, ← c.of.ensures, ← c.make-n.ensures c.args.links.now, ← c.own.ensures c.make-n.new.values, ← c.evaluate-value.ensures, ← c.end_run.ensures, ← c.write_row-rows.ensures.value, ← c.write_row-rows.ensures.log_after)
