-- shallow_propagate: pending subscribers of one node become dirty.
use Rattle.std.specs.Prelude.{ℕ, zero, suc, true, false, List}
use Rattle.std.specs.Int.Bits.{bit_or}
use Rattle.primitive.specs.Slots.{slot_of}
use Rattle.primitive.specs.declared.slots.Slot.{Slot}
use Rattle.primitive.specs.declared.slots.Slot.TheVariants.{At, Nothing}
use Rattle.primitive.specs.Words.{link_rows}
use Rattle.marking.specs.Fields.{flags_of, set_flags, sub, next_sub_of, watching, recursed_checking, dirty, pending, changed, has_only}
use Rattle.marking.specs.Notify.{notified}

-- node n of flags f becomes dirty; it is notified where it watches and is not being checked
unfoldable pub raised : List ℕ → List ℕ → ℕ → ℕ → List ℕ
raised L N n f =
    let M : List ℕ = set_flags N n (bit_or f dirty) in
    elim (has_only f (bit_or watching recursed_checking) watching) [ true ↦ notified L M n | false ↦ M ]

-- where it is pending and not dirty
unfoldable pub dirtied : List ℕ → List ℕ → ℕ → List ℕ
dirtied L N n = let f : ℕ = flags_of N n in elim (has_only f changed pending) [ true ↦ raised L N n f | false ↦ N ]

-- along to the next subscriber; p is the rest of the walk
unfoldable pub further : (List ℕ → ℕ → List ℕ) → List ℕ → Slot → List ℕ
further p N Nothing = N
further p N (At x) = p N x

-- from slot s, at most k subscribers
unfoldable pub shallow_from : List ℕ → ℕ → List ℕ → ℕ → List ℕ
shallow_from L zero N s = N
shallow_from L (suc k) N s = further (shallow_from L k) (dirtied L N (sub L s)) (slot_of (next_sub_of L s))

unfoldable pub shallow : List ℕ → List ℕ → ℕ → List ℕ
shallow L N s = shallow_from L (link_rows L) N s
