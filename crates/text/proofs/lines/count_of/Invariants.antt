-- `text::lines::count_of` meets its contract. Assumes nothing.
use mathlib.Core.Path.{◌≡◌}
use lib.ListN.{length, drop}
use Rattle.spelling.specs.Lines.{pieces, each_spelled}
use Rattle.spelling.specs.Pairs.{count_from}
use Rattle.text.proofs.lines.count_of.Given as goal

abbrev pub invariant-loop-piece : goal.invariant-loop-piece
invariant-loop-piece l = (count_from 0 (each_spelled (pieces 32 l.s)) ≡ count_from l.n (each_spelled (drop (length l.yielded) (pieces 32 l.s)))) × (l.n ≡ length l.yielded)
