-- The queue is column QUEUE of the node table: row 0 holds its length, row i + 1 its entry i.
use Rattle.std.specs.Prelude.{ℕ, zero, suc, ◌-◌, min, true, false, List, [], ◌∷◌, ltb, get_or, set}
use Rattle.primitive.specs.Words.{QUEUE, node, set_node, node_rows}

-- how many entries: what the length word says, but no more than there are rows for
unfoldable pub count : List ℕ → ℕ
count t = min (get_or t QUEUE 0) (node_rows t - 1)

unfoldable pub entry_at : List ℕ → ℕ → ℕ
entry_at t i = node t i QUEUE

-- one entry more, behind the last; a full queue stays as it is
unfoldable pub pushed : List ℕ → ℕ → List ℕ
pushed t e =
    elim (ltb (suc (count t)) (node_rows t)) [
      | true ↦ set (set_node t (count t) QUEUE e) QUEUE (suc (count t))
      | false ↦ t
    ]

unfoldable pub emptied : List ℕ → List ℕ
emptied t = set t QUEUE 0

unfoldable pub swapped : List ℕ → ℕ → ℕ → List ℕ
swapped t i j = set_node (set_node t i QUEUE (entry_at t j)) j QUEUE (entry_at t i)

-- the entries from lo up to hi, last first: the outer two change places, then those between them
unfoldable pub reversed : List ℕ → ℕ → ℕ → List ℕ
reversed t lo zero = t
reversed t lo (suc hi) = elim (ltb lo (suc hi)) [ true ↦ reversed (swapped t lo hi) (suc lo) hi | false ↦ t ]

unfoldable pub reversed_from : List ℕ → ℕ → List ℕ
reversed_from t from = reversed t from (count t)

-- n entries from i on
unfoldable pub entries : List ℕ → ℕ → ℕ → List ℕ
entries t i zero = []
entries t i (suc n) = entry_at t i ∷ entries t (suc i) n

-- the queue as a list, first to run first
unfoldable pub queue_of : List ℕ → List ℕ
queue_of t = entries t 0 (count t)
