-- `links::link::new_link` meets its contract. Assumes nothing.
use Rattle.linking.specs.Link.{made, written}
use Rattle.links.proofs.link.new_link.Goals as goal

pub returns-in_default : goal.returns-in_default
unfolding made written
returns-in_default c = rw (
  ← c.take-w.ensures,
  ← c.open.ensures,
  c.in_default.is,
)

pub returns : goal.returns
unfolding made written
returns c = rw (
  ← c.take-w.ensures,
  ← c.open.ensures,
  c.in-At.is,
  ← c.store.ensures,
  ← c.store-2.ensures,
  ← c.store-3.ensures,
  ← c.store-4.ensures,
  ← c.store-5.ensures,
  ← c.store-6.ensures,
  ← c.store-7.ensures,
)
