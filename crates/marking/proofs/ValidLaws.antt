-- The walk of is_valid_link is a test of the slots of a walk along PREV_DEP. Assumes nothing.
use Rattle.std.proofs.Common.{◌≡◌, ℕ, zero, suc, List, Bool, true, false, ◌||◌, refl}
use Rattle.std.specs.List.{list_any}
use lib.Dec.{eqb}
use Rattle.primitive.specs.Slots.{slot_of}
use Rattle.primitive.specs.declared.slots.Slot.{Slot}
use Rattle.primitive.specs.declared.slots.Slot.TheVariants.{At, Nothing}
use Rattle.primitive.specs.Walk.{along}
use Rattle.primitive.specs.Words.{PREV-DEP}
use Rattle.marking.specs.Fields.{prev_dep_of}
use Rattle.marking.specs.Valid.{valid_at, valid_from}

pub valid_walk : (L : List ℕ) (s k w : ℕ) → list_any (λ x. eqb x s) (along L PREV-DEP k (slot_of w)) ≡ valid_from L s k w
unfolding valid_from valid_at
valid_walk L s zero w = refl
valid_walk L s (suc k) w = go (slot_of w) (valid_walk L s k)
  where
    here : (b : Bool) (x : ℕ) → list_any (λ y. eqb y s) (along L PREV-DEP k (slot_of (prev_dep_of L x))) ≡ valid_from L s k (prev_dep_of L x)
        → (b || list_any (λ y. eqb y s) (along L PREV-DEP k (slot_of (prev_dep_of L x)))) ≡ elim b [ true ↦ true | false ↦ valid_from L s k (prev_dep_of L x) ]
    here true x h = refl
    here false x h = h

    go : (o : Slot) → ((v : ℕ) → list_any (λ x. eqb x s) (along L PREV-DEP k (slot_of v)) ≡ valid_from L s k v) → list_any (λ x. eqb x s) (along L PREV-DEP (suc k) o) ≡ valid_at (valid_from L s k) L s o
    go Nothing h = refl
    go (At x) h = here (eqb x s) x (h (prev_dep_of L x))
