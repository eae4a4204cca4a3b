-- `links::unlink::purge_deps` meets its contract. Assumes nothing.
use Rattle.linking.specs.Ring.{purged}
use Rattle.linking.proofs.FreeLaws.{live_le}
use Rattle.links.proofs.unlink.purge_deps.Goals as goal

pub returns : goal.returns
unfolding purged
returns c = c.purge_deps.ensures.same _ (live_le c.args.links.now)
