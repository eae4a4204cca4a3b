-- What callers cite: the ring's bound is the rank of the node.
use Rattle.std.specs.Prelude.{ℕ, List, ℤ}
use Rattle.trees.specs.Legal.{most_nesting}
use Rattle.reading.specs.Tables.{State, Told, Got, got, rank_of, current_of}
use Rattle.reading.specs.Ring.{start_of, ring_n, evaluated_by, checked_by, refreshed_by}

-- node n has its value up to date
unfoldable pub refreshed : List ℤ → State → ℕ → State
refreshed ws s n = refreshed_by ws (ring_n ws (rank_of n)) s n

-- the value that a read of node n returns, and the state after it
unfoldable pub read_of : List ℤ → State → ℕ → Got
read_of ws s n = let t = refreshed ws s n in got (current_of t.values n) t

-- a dependency of node n has changed
unfoldable pub checked : List ℤ → State → ℕ → Told
checked ws s n = checked_by ws (ring_n ws (rank_of n)) s n

-- the formula of node n worked out for it: its value, and the state after it
unfoldable pub evaluated_for : List ℤ → State → ℕ → Got
evaluated_for ws s n = let e = evaluated_by ws (ring_n ws (rank_of n)) n most_nesting s (start_of s n) in got e.value e.after
