-- Document 01, "Flags and tables at rest": how the tables are linked, flagged and queued. A test a line, of tables whose nodes are described as they should be.
use Rattle.std.specs.Prelude.{ℕ, Bool, List, leb, ℤ}
use Rattle.primitive.specs.Words.{FLAGS, KIND, GONE, DEPS, SUBS, READS, node}
use Rattle.lists.specs.Each.{both, every}
use Rattle.counting.specs.Counts.{counted_in}
use Rattle.resting.specs.Linked.{linked_in}
use Rattle.resting.specs.Depends.{depends_at, owned_at}
use Rattle.resting.specs.Named.{reads_from, named_in}
use Rattle.resting.specs.Flagged.{flags_on}
use Rattle.resting.specs.Queued.{queued_in}

-- node n has no more read links than read cells, and flags that its kind may have
unfoldable pub flagged_at : List ℕ → List ℕ → ℕ → Bool
flagged_at t l n =
    both (leb (reads_from t l (node t n DEPS)) (node t n READS))
    (flags_on (node t n KIND) (node t n GONE) (node t n FLAGS) (node t n DEPS) (node t n SUBS) (reads_from t l (node t n DEPS)))

-- what is asked of node n alone
unfoldable pub rests_at : List ℕ → List ℕ → ℕ → Bool
rests_at t l n = both (depends_at t l n) (both (owned_at t l n) (flagged_at t l n))

unfoldable pub rest_in : List ℕ → List ℕ → Bool
rest_in t l = every (rests_at t l) (counted_in t)

unfoldable pub joined_in : List ℕ → List ℕ → List ℤ → Bool
joined_in t l c = both (linked_in t l) (both (rest_in t l) (both (named_in t l c) (queued_in t)))
