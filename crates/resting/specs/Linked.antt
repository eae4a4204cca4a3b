-- Document 01, "Flags and tables at rest", first bullet: every slot is free, once on the free list, or live, and then once in each of its two lists.
use Rattle.std.specs.Prelude.{ℕ, Bool, true, not, List, eqb, ltb, get_or, Option}
use Rattle.primitive.specs.Words.{DEP, SUB, PREV-SUB, NEXT-SUB, PREV-DEP, NEXT-DEP, LIVE, FREE, DEPS, DEPS-TAIL, SUBS, SUBS-TAIL, node, link}
use Rattle.lists.specs.Each.{both}
use Rattle.lists.specs.Walk.{run, runs, leaves, on_left}
use Rattle.resting.specs.declared.linked.Side.{Side}
use Rattle.counting.specs.Counts.{counted_in, slot_room}

-- a node's two lists, by their fields
abbrev pub subscribers : Side
subscribers = record { own = DEP; prev = PREV-SUB; next = NEXT-SUB; head = SUBS; tail = SUBS-TAIL }

abbrev pub dependencies : Side
dependencies = record { own = SUB; prev = PREV-DEP; next = NEXT-DEP; head = DEPS; tail = DEPS-TAIL }

unfoldable pub is_live_slot : List ℕ → ℕ → Bool
is_live_slot l x = not (eqb (link l x LIVE) 0)

-- slot x is live, names node n, and points back at the word p
unfoldable pub fits : List ℕ → Side → ℕ → ℕ → ℕ → Bool
fits l s n p x = both (is_live_slot l x) (both (eqb (link l x s.own) n) (eqb (link l x s.prev) p))

-- slot x is there and is not live
unfoldable pub spare : List ℕ → ℕ → Bool
spare l x = both (ltb x (slot_room l)) (not (is_live_slot l x))

-- the walks on a budget: of one node's list from the word w, p being the word before it; of all nodes' lists; of the free list
unfoldable pub walk : List ℕ → Side → ℕ → ℕ → ℕ → ℕ → ℕ → Option ℕ
walk l s n tail b p w = run (λ (x : ℕ). link l x s.next) (λ (p x : ℕ). fits l s n p x) (λ (p : ℕ). eqb p tail) b p w

unfoldable pub walks : List ℕ → List ℕ → Side → ℕ → ℕ → Option ℕ
walks t l s count b =
    runs (λ (x : ℕ). link l x s.next) (λ (n p x : ℕ). fits l s n p x) (λ (n p : ℕ). eqb p (node t n s.tail)) (λ (n : ℕ). node t n s.head) count b

unfoldable pub frees : List ℕ → ℕ → ℕ → Option ℕ
frees l b w = run (λ (x : ℕ). link l x NEXT-DEP) (λ (p x : ℕ). spare l x) (λ (p : ℕ). true) b 0 w

-- the subscriber lists leave m of the slots, the dependency lists as many, and the free list has just those m
unfoldable pub linked_in : List ℕ → List ℕ → Bool
linked_in t l =
    on_left (walks t l subscribers (counted_in t) (slot_room l))
    (λ (m : ℕ). both (leaves (walks t l dependencies (counted_in t) (slot_room l)) m) (leaves (frees l m (get_or l FREE 0)) 0))
