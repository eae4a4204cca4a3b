-- `text::lines::store` meets its contract. Assumes nothing.
use mathlib.Core.Path.{◌≡◌}
use lib.ListN.{length, drop}
use Rattle.spelling.specs.Buffers.{buffer, put}
use Rattle.spelling.specs.Lines.{pieces}
use Rattle.spelling.specs.Pairs.{worths}
use Rattle.text.proofs.lines.store.Given as goal

abbrev pub invariant-loop-piece : goal.invariant-loop-piece
invariant-loop-piece l = put (buffer l.initial.words l.from) (worths (pieces 32 l.s)) ≡ put (buffer l.words l.to) (worths (drop (length l.yielded) (pieces 32 l.s)))
