-- `links::unlink::unwatched` meets its contract. Assumes nothing.
use Rattle.linking.specs.Ring.{unwatched}
use Rattle.linking.proofs.FreeLaws.{live_le}
use Rattle.links.proofs.unlink.unwatched.Goals as goal

pub returns : goal.returns
unfolding unwatched
returns c = c.unwatched.ensures.same _ (live_le c.args.links.now)
