-- `links::unlink::unlink` meets its contract. Assumes nothing.
use mathlib.Core.Path.{ap₂}
use Rattle.linking.specs.Ring.{unlinked, out}
use Rattle.linking.proofs.FreeLaws.{live_le}
use Rattle.links.proofs.unlink.unlink.Goals as goal

pub returns : goal.returns
unfolding unlinked
returns c = ap₂ out c.unlink.ensures.next (c.unlink.ensures.same _ (live_le c.args.links.now))
