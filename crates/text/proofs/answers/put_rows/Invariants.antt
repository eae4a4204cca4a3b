-- `text::answers::put_rows` meets its contract. Assumes nothing.
use mathlib.Core.Path.{◌≡◌}
use Prim.Native.Nat.{◌-◌}
use Rattle.spelling.specs.Buffers.{buffer, put}
use Rattle.spelling.specs.Answers.{rows}
use Rattle.text.proofs.answers.put_rows.Given as goal

abbrev pub invariant-loop : goal.invariant-loop
invariant-loop l = put (buffer l.initial.out l.at) (rows l.runs l.log) ≡ put (buffer l.out l.to) (rows (l.runs - l.counter) l.rest)
