-- `reads::read::check_dirty` meets its contract. Assumes nothing.
use native.Mathlib.Omega.{arith}
use Rattle.reading.specs.Tables.{rank_of}
use Rattle.reading.specs.Read.{checked}
use Rattle.reads.proofs.read.check_dirty.Goals as goal

pub returns : goal.returns
unfolding checked
returns c = c.check_dirty.ensures (rank_of c.args.n) (omega arith)
