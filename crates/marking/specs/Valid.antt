-- is_valid_link: whether slot s is among a node's dependency links, from the tail back.
use Rattle.std.specs.Prelude.{ℕ, zero, suc, Bool, true, false, List, eqb}
use Rattle.primitive.specs.Slots.{slot_of}
use Rattle.primitive.specs.declared.slots.Slot.{Slot}
use Rattle.primitive.specs.declared.slots.Slot.TheVariants.{At, Nothing}
use Rattle.primitive.specs.Words.{link_rows}
use Rattle.marking.specs.Fields.{deps_tail, prev_dep_of}

-- p is the rest of the walk
unfoldable pub valid_at : (ℕ → Bool) → List ℕ → ℕ → Slot → Bool
valid_at p L s Nothing = false
valid_at p L s (At x) = elim (eqb x s) [ true ↦ true | false ↦ p (prev_dep_of L x) ]

-- from the word w, at most k links
unfoldable pub valid_from : List ℕ → ℕ → ℕ → ℕ → Bool
valid_from L s zero w = false
valid_from L s (suc k) w = valid_at (valid_from L s k) L s (slot_of w)

unfoldable pub valid_link : List ℕ → List ℕ → ℕ → ℕ → Bool
valid_link L N s n = valid_from L s (link_rows L) (deps_tail N n)
