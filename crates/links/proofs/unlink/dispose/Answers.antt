-- `links::unlink::dispose` meets its contract. Assumes nothing.
use Rattle.linking.specs.Ring.{disposed}
use Rattle.linking.proofs.FreeLaws.{live_le}
use Rattle.links.proofs.unlink.dispose.Goals as goal

pub returns : goal.returns
unfolding disposed
returns c = c.dispose.ensures.same _ (live_le c.args.links.now)
