-- The steps of a read that evaluate nothing. N is the node table, L the link table.
use Rattle.std.specs.Prelude.{ℕ, true, false, not, List}
use Rattle.primitive.specs.declared.slots.Slot.{Slot}
use Rattle.primitive.specs.declared.slots.Slot.TheVariants.{At, Nothing}
use Rattle.values.specs.declared.Value.{Value}
use Rattle.primitive.specs.Slots.{slot_of}
use Rattle.values.specs.Values.{same}
use Rattle.linking.specs.Link.{linked}
use Rattle.linking.specs.Ring.{purged}
use Rattle.primitive.specs.Words.{DEPS-TAIL, set_node}
use Rattle.linking.specs.Table.{tab}
use Rattle.marking.specs.Fields.{flags_of, set_flags, subs, next_sub_of, mutable, recursed_checking, dirty, has, without}
use Rattle.marking.specs.Shallow.{shallow}
use Rattle.reading.specs.Tables.{State, state, Told, told, current_of, pending_of, set_current, cycle_of, raised}

-- ---- a value has changed
abbrev pub woken_on : Slot → List ℕ → List ℕ → List ℕ
woken_on Nothing L N = N
woken_on (At s) L N = shallow L N s

-- the subscribers of n that are pending become dirty
unfoldable pub woken : List ℕ → List ℕ → ℕ → List ℕ
woken L N n = woken_on (slot_of (subs N n)) L N

abbrev pub others_on : Slot → List ℕ → List ℕ → ℕ → List ℕ
others_on Nothing L N s = N
others_on (At o) L N s = shallow L N s

abbrev pub woken_others_on : Slot → List ℕ → List ℕ → List ℕ
woken_others_on Nothing L N = N
woken_others_on (At s) L N = others_on (slot_of (next_sub_of L s)) L N s

-- and where n has only one subscriber, nothing
unfoldable pub woken_others : List ℕ → List ℕ → ℕ → List ℕ
woken_others L N n = woken_others_on (slot_of (subs N n)) L N

-- ---- signals
-- the pending value becomes the current one
unfoldable pub updated_signal : State → ℕ → Told
updated_signal s n =
    told (not (same (current_of s.values n) (pending_of s.values n)))
    (state (set_flags s.nodes n mutable) s.links (set_current s.values n (pending_of s.values n)))

-- a change wakes the subscribers
unfoldable pub waken_if : Told → ℕ → State
waken_if t n =
    elim t.changed [
      | true ↦ state (woken t.after.links t.after.nodes n) t.after.links t.after.values
      | false ↦ t.after
    ]

-- where it is DIRTY
unfoldable pub refreshed_signal : State → ℕ → State
refreshed_signal s n = elim (has (flags_of s.nodes n) dirty) [ true ↦ waken_if (updated_signal s n) n | false ↦ s ]

-- ---- what goes before and after the evaluation of a computed
-- MUTABLE and RECURSED_CHECK
abbrev pub evaluating : ℕ
evaluating = 5

-- a first evaluation
unfoldable pub begun_first : List ℕ → ℕ → List ℕ
begun_first N n = set_flags N n evaluating

-- a re-evaluation: a new cycle, and no dependency is reached yet
unfoldable pub begun : State → ℕ → State
begun s n = state (begun_first (set_node s.nodes n DEPS-TAIL 0) n) (raised s.links) s.values

-- evaluated, with this value
unfoldable pub finished_first : State → ℕ → Value → State
finished_first s n v = state (set_flags s.nodes n (without (flags_of s.nodes n) recursed_checking)) s.links (set_current s.values n v)

-- and the dependencies that were not reached go
unfoldable pub finished : State → ℕ → Value → Told
finished s n v =
    let t = finished_first s n v in
    let p = purged (tab t.nodes t.links) n in
    told (not (same (current_of s.values n) v)) (state p.nodes p.links t.values)

-- sub reads dep in the cycle at hand
unfoldable pub linked_to : State → ℕ → ℕ → State
linked_to s dep sub =
    let t = linked (tab s.nodes s.links) dep sub (cycle_of s.links) in
    state t.nodes t.links s.values
