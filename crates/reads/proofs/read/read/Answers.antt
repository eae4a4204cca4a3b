-- `reads::read::read` meets its contract. Assumes nothing.
use native.Mathlib.Omega.{arith}
use Rattle.reading.specs.Tables.{rank_of}
use Rattle.reading.specs.Read.{read_of, refreshed}
use Rattle.reads.proofs.read.read.Goals as goal

pub returns : goal.returns
unfolding read_of refreshed
returns c = rw (← c.refresh.ensures (rank_of c.args.n) (omega arith), ← c.current.ensures)
