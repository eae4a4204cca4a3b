-- `links::link::insert` meets its contract. Assumes nothing.
use Rattle.linking.specs.Link.{inserted, joined}
use Rattle.links.proofs.link.insert.Goals as goal

pub returns-in_default : goal.returns-in_default
unfolding inserted joined
returns-in_default c = rw (
  ← c.new_link-w.ensures,
  ← c.open.ensures,
  c.in_default.is,
)

pub returns : goal.returns
unfolding inserted joined
returns c = rw (
  ← c.new_link-w.ensures,
  ← c.open.ensures,
  c.in-At.is,
  ← c.store.ensures,
  ← c.store-2.ensures,
  ← c.set_back.ensures,
  ← c.set_beside.ensures,
  ← c.set_beside-2.ensures,
)
