-- `counts::reserve::live_effects` meets its contract. Assumes nothing.
use mathlib.Core.Path.{◌≡◌}
use Prim.Native.Nat.{◌≤◌}
use Rattle.counting.specs.Counts.{total, effect_of}
use Rattle.counts.proofs.reserve.live_effects.Given as goal

abbrev pub invariant-loop-n : goal.invariant-loop-n
invariant-loop-n l = (l.sum ≤ l.n) × (l.sum ≡ total (effect_of l.nodes) l.n)
