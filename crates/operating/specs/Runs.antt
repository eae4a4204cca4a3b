-- Document 01, "Values, writes, flush": runs of effects and the flush. ws are the cells.
use Rattle.std.specs.Prelude.{ℕ, zero, suc, ◌+◌, ◌*◌, true, false, List, ◌++◌, ltb, ℤ, take, drop}
use Rattle.primitive.specs.Words.{DEPS-TAIL, set_node, node_rows}
use Rattle.queue.specs.Queue.{count, entry_at, emptied}
use Rattle.linking.specs.Table.{tab}
use Rattle.linking.specs.Ring.{purged}
use Rattle.marking.specs.Fields.{flags_of, set_flags, watching, recursed_checking, dirty, pending, has, without}
use Rattle.reading.specs.Tables.{State, state, Told, told, Got, got, raised}
use Rattle.reading.specs.Read.{checked, evaluated_for}
use Rattle.operating.specs.Log.{Ran, ran_to, rowed, rows_in, row_words}

-- WATCHING and RECURSED_CHECK
abbrev pub running : ℕ
running = 6

-- a rerun: a new cycle, and no dependency is reached yet
unfoldable pub begun_run : State → ℕ → State
begun_run s e = state (set_flags (set_node s.nodes e DEPS-TAIL 0) e running) (raised s.links) s.values

-- the run is over; e watches
unfoldable pub ended_run : List ℕ → ℕ → List ℕ
ended_run N e = set_flags N e (without (flags_of N e) recursed_checking)

-- and what it did not reach goes, all that it owned among it
unfoldable pub finished_run : State → ℕ → State
finished_run s e = let p = purged (tab (ended_run s.nodes e) s.links) e in state p.nodes p.links s.values

unfoldable pub reran : List ℤ → State → ℕ → Got
reran ws s e = let g = evaluated_for ws (begun_run s e) e in got g.value (finished_run g.after e)

-- its reads decide; a gone effect has flags 0 and does not run
unfoldable pub must_run : List ℤ → State → ℕ → Told
must_run ws s e =
    elim (has (flags_of s.nodes e) dirty) [
      | true ↦ told true s
      | false ↦ elim (has (flags_of s.nodes e) pending) [ true ↦ checked ws s e | false ↦ told false s ]
    ]

-- one effect from the queue, lent a log
unfoldable pub ran : List ℤ → State → List ℤ → ℕ → Ran
ran ws s l e =
    let t = must_run ws s e in
    elim t.changed [
      | true ↦ (let g = reran ws t.after e in ran_to g.after (rowed l e g.value) (rows_in l))
      | false ↦ ran_to (state (set_flags t.after.nodes e watching) t.after.links t.after.values) l 0
    ]

-- ---- the flush
-- the next effect is lent the unwritten rest of the log
unfoldable pub ran_next : List ℤ → Ran → ℕ → Ran
ran_next ws r e =
    let at = r.rows * row_words in
    let q = ran ws r.after (drop at r.log) e in
    ran_to q.after (take at r.log ++ q.log) (r.rows + q.rows)

-- entries from i on, as long as there are any; at most k of them
unfoldable pub flushed_from : List ℤ → ℕ → ℕ → Ran → Ran
flushed_from ws zero i r = r
flushed_from ws (suc k) i r =
    elim (ltb i (count r.after.nodes)) [ true ↦ flushed_from ws k (suc i) (ran_next ws r (entry_at r.after.nodes i)) | false ↦ r ]

-- the queue is empty then
unfoldable pub cleared : Ran → Ran
cleared r = ran_to (state (emptied r.after.nodes) r.after.links r.after.values) r.log r.rows

unfoldable pub flushed : List ℤ → State → List ℤ → Ran
flushed ws s l = cleared (flushed_from ws (node_rows s.nodes) 0 (ran_to s l 0))
