-- A walk along one field of the link table: the slots from one on, at most k of them.
use Rattle.std.specs.Prelude.{ℕ, zero, suc, List, [], ◌∷◌}
use Rattle.primitive.specs.Slots.{slot_of}
use Rattle.primitive.specs.declared.slots.Slot.{Slot}
use Rattle.primitive.specs.declared.slots.Slot.TheVariants.{At, Nothing}
use Rattle.primitive.specs.Words.{link}

abbrev pub along : List ℕ → ℕ → ℕ → Slot → List ℕ
along l f zero o = []
along l f (suc k) Nothing = []
along l f (suc k) (At s) = s ∷ along l f k (slot_of (link l s f))
