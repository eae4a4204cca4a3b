-- `counts::reserve::reserve` meets its contract. Assumes nothing.
use mathlib.Core.Path.{◌≡◌}
use Prim.Native.Nat.{min}
use Rattle.counting.specs.Counts.{total, top, reserve_of}
use Rattle.counts.proofs.reserve.reserve.Given as goal

abbrev pub invariant-loop-n : goal.invariant-loop-n
invariant-loop-n l = l.sum ≡ min top (total (reserve_of l.nodes) l.n)
