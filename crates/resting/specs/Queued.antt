-- Document 01, "Flags and tables at rest", fifth bullet: the queue and the batch depth.
use Rattle.std.specs.Prelude.{ℕ, Bool, true, not, List, eqb, ltb, leb, get_or, Option}
use Rattle.primitive.specs.Words.{EFFECT, KIND, FLAGS, GONE, DEPTH, QUEUE, node}
use Rattle.queue.specs.Queue.{queue_of}
use Rattle.lists.specs.Sum.{count}
use Rattle.lists.specs.Walk.{leaves}
use Rattle.lists.specs.Each.{both, pick}
use Rattle.lists.specs.Once.{scan}
use Rattle.counting.specs.Counts.{counted_in}
use Rattle.resting.specs.Blank.{blank}

-- a batch may nest this deep
abbrev pub most_depth : ℕ
most_depth = 64

-- a live effect without WATCHING, whose flags are then not 2, or a gone one with flags 0
unfoldable pub waits_on : ℕ → ℕ → Bool
waits_on gone f = pick (eqb gone 0) (not (eqb f 2)) (eqb f 0)

-- e may stand in the queue
unfoldable pub may_wait : List ℕ → ℕ → Bool
may_wait t e = both (ltb e (counted_in t)) (both (eqb (node t e KIND) EFFECT) (waits_on (node t e GONE) (node t e FLAGS)))

unfoldable pub lives : List ℕ → ℕ → Bool
lives t e = eqb (node t e GONE) 0

-- e must stand there
unfoldable pub due : List ℕ → ℕ → Bool
due t e = both (may_wait t e) (lives t e)

-- entries xs with the marks s and a budget b
unfoldable pub scanned : List ℕ → List ℕ → List ℕ → ℕ → Option ℕ
scanned t s xs b = scan (may_wait t) (lives t) s xs b

-- at depth 0 the queue is empty
unfoldable pub idle : ℕ → ℕ → Bool
idle depth len = pick (eqb depth 0) (eqb len 0) true

-- depth at most 64; empty at depth 0; no more entries than nodes, each one that may wait and none twice, and as many live ones as must
unfoldable pub queued_in : List ℕ → Bool
queued_in t =
    both (leb (get_or t DEPTH 0) most_depth)
    (both (idle (get_or t DEPTH 0) (get_or t QUEUE 0))
    (both (leb (get_or t QUEUE 0) (counted_in t))
    (leaves (scanned t blank (queue_of t) (count (due t) (counted_in t))) 0)))
