-- `making::describe` meets its contract. Assumes nothing.
use Rattle.operating.specs.Making.{described, set_all}
use Rattle.making.proofs.describe.Goals as goal

pub returns : goal.returns
unfolding described set_all
returns c = rw (
  ← c.at-start.ensures,
  ← c.from.ensures,
  ← c.word.ensures,
  ← c.store.ensures,
  ← c.store-2.ensures,
  ← c.store-3.ensures,
  ← c.store-4.ensures,
  ← c.store-5.ensures,
  ← c.store-6.ensures,
  ← c.store-7.ensures,
  ← c.store-8.ensures,
  ← c.store-9.ensures,
  ← c.read_cells.ensures,
  ← c.store-10.ensures,
  ← c.store-11.ensures,
  ← c.store-12.ensures,
)
