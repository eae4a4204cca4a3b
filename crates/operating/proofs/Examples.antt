-- A worked example, computed: what a write of 7 to node 0 stores. Assumes nothing.
use mathlib.Core.Path.{◌≡◌, refl}
use mathlib.Core.List.{List, [], ◌∷◌}
use lib.IntN.{ℤ, pos}
use Rattle.values.specs.Values.{value, value_at, set_value}
use Rattle.reading.specs.Tables.{state, current_of, pending_of, set_pending}
use Rattle.operating.specs.Writes.{stored}

-- two values of two words each: current and pending
abbrev five : List ℤ
five = pos 5 ∷ pos 0 ∷ pos 5 ∷ pos 0 ∷ []

-- 7 waits as the pending value, and the current one stays
pub record Stores : Type 0 where
  pub pending : pending_of (stored (state [] [] five) 0 (value (pos 7))).values 0 ≡ value (pos 7)
  pub current : current_of (stored (state [] [] five) 0 (value (pos 7))).values 0 ≡ value (pos 5)

pub stores : Stores
unfolding stored set_pending pending_of current_of value_at set_value
stores = record { pending = refl; current = refl }
