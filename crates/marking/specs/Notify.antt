-- Document 01, "Values, writes, flush": notify pushes an effect and its watching owners, then reverses the new part only: owners first.
use Rattle.std.specs.Prelude.{ℕ, zero, suc, true, false, List}
use Rattle.queue.specs.Queue.{count, pushed, reversed_from}
use Rattle.primitive.specs.Slots.{slot_of}
use Rattle.primitive.specs.declared.slots.Slot.{Slot}
use Rattle.primitive.specs.declared.slots.Slot.TheVariants.{At, Nothing}
use Rattle.primitive.specs.Words.{node_rows}
use Rattle.marking.specs.Fields.{flags_of, set_flags, subs, sub, watching, lacks, without}

-- not watching any more, and behind the last of the queue
unfoldable pub queued : List ℕ → ℕ → List ℕ
queued N e = pushed (set_flags N e (without (flags_of N e) watching)) e

-- on to the owner, the subscriber of the first subscriber link, where it watches; p is the rest of the climb
unfoldable pub owner_of : (List ℕ → ℕ → List ℕ) → List ℕ → List ℕ → Slot → List ℕ
owner_of p L N Nothing = N
owner_of p L N (At s) = elim (lacks (flags_of N (sub L s)) watching) [ true ↦ N | false ↦ p N (sub L s) ]

-- e and the watching owners above it, at most k of them
unfoldable pub climbed : List ℕ → ℕ → List ℕ → ℕ → List ℕ
climbed L zero N e = N
climbed L (suc k) N e = let M : List ℕ = queued N e in owner_of (climbed L k) L M (slot_of (subs M e))

unfoldable pub notified : List ℕ → List ℕ → ℕ → List ℕ
notified L N e = reversed_from (climbed L (node_rows N) N e) (count N)
