-- The slots of the link table: live or not, and the list of the free ones, last freed first.
use Rattle.std.specs.Prelude.{ℕ, zero, suc, ◌+◌, Bool, true, false, not, List, eqb, get_or, set}
use Rattle.primitive.specs.Slots.{slot_of}
use Rattle.primitive.specs.declared.slots.Slot.{Slot}
use Rattle.primitive.specs.declared.slots.Slot.TheVariants.{At, Nothing}
use Rattle.primitive.specs.Words.{FREE, LIVE, NEXT-DEP, link, set_link, link_rows}

unfoldable pub is_live_slot : List ℕ → ℕ → Bool
is_live_slot l s = not (eqb (link l s LIVE) 0)

abbrev pub one : Bool → ℕ
one true = 1
one false = 0

-- how many of the first n slots are live
unfoldable pub live_below : List ℕ → ℕ → ℕ
live_below l zero = 0
live_below l (suc n) = live_below l n + one (is_live_slot l n)

-- how many rows the table has; no slot lies past them
abbrev pub slots : List ℕ → ℕ
slots l = link_rows l

unfoldable pub live : List ℕ → ℕ
live l = live_below l (slots l)

-- the word of a slot, or 0, and the links
pub record Fresh : Type 0 where
  pub word : ℕ
  pub links : List ℕ

abbrev pub fresh : ℕ → List ℕ → Fresh
fresh w l = record { word = w; links = l }

-- the first free slot is live and off the list
abbrev pub taken_on : Slot → List ℕ → Fresh
taken_on Nothing l = fresh 0 l
taken_on (At s) l = fresh (get_or l FREE 0) (set (set_link l s LIVE 1) FREE (link l s NEXT-DEP))

unfoldable pub taken : List ℕ → Fresh
taken l = taken_on (slot_of (get_or l FREE 0)) l

-- a live slot is free, and first on the list
unfoldable pub released : List ℕ → ℕ → List ℕ
released l s =
    elim (is_live_slot l s) [
      | true ↦ set (set_link (set_link l s LIVE 0) s NEXT-DEP (get_or l FREE 0)) FREE (suc s)
      | false ↦ l
    ]
