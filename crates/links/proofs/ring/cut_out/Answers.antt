-- `links::ring::cut_out` meets its contract. Assumes nothing.
use Rattle.linking.specs.Ring.{cut_out, mended}
use Rattle.links.proofs.ring.cut_out.Goals as goal

pub returns : goal.returns
unfolding cut_out mended
returns c = rw (
  ← c.get-dep.ensures,
  ← c.get-prev_dep.ensures,
  ← c.get-next_dep.ensures,
  ← c.get-prev_sub.ensures,
  ← c.get-next_sub.ensures,
  ← c.set_beside.ensures,
  ← c.set_beside-2.ensures,
  ← c.set_beside-3.ensures,
  ← c.set_beside-4.ensures,
  ← c.release.ensures,
)
