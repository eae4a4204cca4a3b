-- `reads::read::evaluate` meets its contract. Assumes nothing.
use native.Mathlib.Omega.{arith}
use Rattle.reading.specs.Tables.{rank_of}
use Rattle.reading.specs.Read.{evaluated_for}
use Rattle.reads.proofs.read.evaluate.Goals as goal

pub returns : goal.returns
unfolding evaluated_for
returns c = rw (← c.get-at.ensures, ← c.evaluate.ensures (rank_of c.args.n) (omega arith))
