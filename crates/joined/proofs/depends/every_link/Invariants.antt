-- `joined::depends::every_link` meets its contract. Assumes nothing.
use Rattle.joined.proofs.WalkTurns.{deps}
use mathlib.Core.Bool.{Bool}
use mathlib.Core.Path.{◌≡◌}
use Prim.Native.Nat.{ℕ, ◌-◌}
use Rattle.joined.proofs.depends.every_link.Given as goal

abbrev pub invariant-loop-link : goal.invariant-loop-link
invariant-loop-link g l =
    (p : ℕ → Bool) → ((d : ℕ) (r : Bool) → goal.F-post g l.test d r → r ≡ p d)
    → deps l.links p l.slots l.w ≡ deps l.links p (l.slots - l._link) l.at
