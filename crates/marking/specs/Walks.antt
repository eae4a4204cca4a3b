-- propagate: the walk down, along and back over subscriber links, on a budget of turns. N is the node table, L the link table.
use Rattle.std.specs.Prelude.{ℕ, zero, suc, true, false, List, get_or, replicate}
use Rattle.primitive.specs.Slots.{slot_of}
use Rattle.stack.specs.Stack.{pushed, pushed_len}
use Rattle.primitive.specs.declared.slots.Slot.{Slot}
use Rattle.primitive.specs.declared.slots.Slot.TheVariants.{At, Nothing}
use Rattle.primitive.specs.Words.{link_rows}
use Rattle.marking.specs.Fields.{subs, sub, next_sub_of, mutable, has}
use Rattle.marking.specs.Visits.{visit, after, reached}

-- where the walk is: the slot, the word that comes next, and the words left aside on the way down
pub record Place : Type 0 where
  pub link : ℕ
  pub next : ℕ
  pub stack : List ℕ
  pub len : ℕ

abbrev pub place : ℕ → ℕ → List ℕ → ℕ → Place
place s w A len = record { link = s; next = w; stack = A; len = len }

-- the rest of a walk: from tables and a place to tables
abbrev pub Rest : Type 0
Rest = List ℕ → Place → List ℕ

-- the way down: the first subscriber link, where the flags that are left have MUTABLE
unfoldable pub below : List ℕ → ℕ → ℕ → Slot
below N n f = elim (has f mutable) [ true ↦ slot_of (subs N n) | false ↦ Nothing ]

-- down to slot x: what came next is left aside only where x has a neighbour to come next
unfoldable pub down : List ℕ → Place → ℕ → Place
down L w x =
    elim (slot_of (next_sub_of L x)) [
      | At y ↦ place x (next_sub_of L x) (pushed w.stack w.len w.next) (pushed_len w.stack w.len)
      | Nothing ↦ place x w.next w.stack w.len
    ]

-- back: the words left aside, the last first, until one is a slot
unfoldable pub back : Rest → List ℕ → List ℕ → List ℕ → ℕ → List ℕ
back p L N A zero = N
back p L N A (suc n) = elim (slot_of (get_or A n 0)) [ At x ↦ p N (place x (next_sub_of L x) A n) | Nothing ↦ back p L N A n ]

-- along to what comes next, or back
unfoldable pub along : Rest → List ℕ → List ℕ → Place → Slot → List ℕ
along p L N w (At x) = p N (place x (next_sub_of L x) w.stack w.len)
along p L N w Nothing = back p L N w.stack w.len

-- down where there is a way, else along
unfoldable pub onward : Rest → List ℕ → List ℕ → Place → Slot → List ℕ
onward p L N w (At x) = p N (down L w x)
onward p L N w Nothing = along p L N w (slot_of w.next)

-- one turn, at the subscriber n of the place's slot
unfoldable pub turn : Rest → List ℕ → List ℕ → Place → ℕ → List ℕ
turn p L N w n =
    let M : List ℕ = reached L N w.link n in
    onward p L M w (below M n (after (visit L N w.link n)))

-- at most k turns
unfoldable pub walked : List ℕ → ℕ → List ℕ → Place → List ℕ
walked L zero N w = N
walked L (suc k) N w = turn (walked L k) L N w (sub L w.link)

-- a stack with nothing on it
abbrev pub blank : List ℕ
blank = replicate 1024 0

unfoldable pub propagated : List ℕ → List ℕ → ℕ → List ℕ
propagated L N s = walked L (link_rows L) N (place s (next_sub_of L s) blank 0)
