-- `joined::named::links_stamped` meets its contract. Assumes nothing.
use Rattle.std.proofs.Common.{rules}
use Rattle.resting.specs.Named.{stamped, links_stamped}
use Rattle.joined.proofs.named.links_stamped.Goals as goal

pub returns : goal.returns
unfolding links_stamped
returns c = c.every_link.ensures (stamped c.args.nodes.now c.args.seen.now c.args.v) (λ d r e. search rules)
