-- Document 01, "Values, writes, flush": set and add.
use Rattle.std.specs.Prelude.{ℕ, true, false, List, ℤ}
use Rattle.primitive.specs.declared.slots.Slot.{Slot}
use Rattle.primitive.specs.declared.slots.Slot.TheVariants.{At, Nothing}
use Rattle.values.specs.declared.Value.{Value}
use Rattle.primitive.specs.Slots.{slot_of}
use Rattle.values.specs.Values.{same, sum}
use Rattle.marking.specs.Fields.{set_flags, subs}
use Rattle.marking.specs.Walks.{propagated}
use Rattle.reading.specs.Tables.{State, state, current_of, pending_of, set_pending}
use Rattle.operating.specs.Log.{Ran, ran_to}
use Rattle.operating.specs.Batches.{depth_of, flushed_at}

-- MUTABLE and DIRTY
abbrev pub stale : ℕ
stale = 17

-- the value waits as the pending one, and the signal is stale
unfoldable pub stored : State → ℕ → Value → State
stored s n v = state (set_flags s.nodes n stale) s.links (set_pending s.values n v)

-- what depends on the signal is told, if anything does, and outside of batches a flush follows
unfoldable pub announced : List ℤ → State → List ℤ → Slot → Ran
announced ws s l Nothing = ran_to s l 0
announced ws s l (At x) = let N = propagated s.links s.nodes x in flushed_at ws (state N s.links s.values) l (depth_of N)

-- only if v differs from the old pending value
unfoldable pub written : List ℤ → State → List ℤ → ℕ → Value → Ran
written ws s l n v =
    elim (same (pending_of s.values n) v) [
      | true ↦ ran_to s l 0
      | false ↦ (let t = stored s n v in announced ws t l (slot_of (subs t.nodes n)))
    ]

-- the current value + d
unfoldable pub added : List ℤ → State → List ℤ → ℕ → Value → Ran
added ws s l n d = written ws s l n (sum (current_of s.values n) d)
