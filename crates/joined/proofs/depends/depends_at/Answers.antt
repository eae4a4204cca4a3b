-- `joined::depends::depends_at` meets its contract. Assumes nothing.
use Rattle.std.proofs.Common.{rules}
use Rattle.resting.specs.Depends.{may_depend, depends_at, depends_on}
use Rattle.joined.proofs.depends.depends_at.Goals as goal

pub returns : goal.returns
unfolding depends_at depends_on
returns c = rw (← c.get-w.ensures) (c.every_link.ensures (may_depend c.args.nodes.now c.args.n) (λ d r e. search rules))
