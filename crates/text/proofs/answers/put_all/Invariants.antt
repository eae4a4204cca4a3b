-- `text::answers::put_all` meets its contract. Assumes nothing.
use mathlib.Core.Path.{◌≡◌}
use lib.ListN.{drop}
use Rattle.spelling.specs.Buffers.{buffer, put}
use Rattle.text.proofs.answers.put_all.Given as goal

abbrev pub invariant-loop-b : goal.invariant-loop-b
invariant-loop-b l = put (buffer l.initial.out l.at) l.s ≡ put (buffer l.out l.to) (drop l.b-index l.s)
