-- Document 01, "Flags and tables at rest", third bullet: a node's read links are at most as many as its read cells, and go only to nodes that these name.
use Rattle.std.specs.Prelude.{ℕ, zero, suc, Bool, true, false, List, [], eqb, ℤ, get_or}
use Rattle.primitive.specs.Words.{KIND, START, CELLS, DEPS, DEP, NEXT-DEP, node, link}
use Rattle.trees.specs.Legal.{readable_in}
use Rattle.trees.specs.Names.{named}
use Rattle.lists.specs.Sum.{bit}
use Rattle.lists.specs.Each.{pick, along, tally}
use Rattle.lists.specs.Once.{stamp}
use Rattle.counting.specs.Counts.{counted_in, slot_room}
use Rattle.resting.specs.Blank.{blank}
use Rattle.resting.specs.Depends.{reads_kind}

-- a read link goes to a signal or computed
unfoldable pub is_read_link : List ℕ → List ℕ → ℕ → ℕ
is_read_link t l x = bit (readable_in t (link l x DEP))

-- how many read links a dependency list has, from the word w
unfoldable pub reads_from : List ℕ → List ℕ → ℕ → ℕ
reads_from t l w = tally (λ (x : ℕ). link l x NEXT-DEP) (λ (x : ℕ). readable_in t (link l x DEP)) (slot_room l) w

-- what the read cells of node n name; signals and scopes have no formula
unfoldable pub names_of : List ℕ → List ℤ → ℕ → List ℕ
names_of t c n = elim (reads_kind (node t n KIND)) [ true ↦ named c (node t n CELLS) (node t n START) | false ↦ [] ]

-- the stamp v on what cell i names, on what k cells from cell i on name, and on what the formula of node n names
unfoldable pub stamp_cell : List ℤ → List ℕ → ℕ → ℕ → List ℕ
stamp_cell c s v i = stamp s v (named c 1 i)

unfoldable pub stamp_cells : List ℤ → List ℕ → ℕ → ℕ → ℕ → List ℕ
stamp_cells c s v i k = stamp s v (named c k i)

unfoldable pub stamp_node : List ℕ → List ℤ → List ℕ → ℕ → ℕ → List ℕ
stamp_node t c s n v = stamp s v (names_of t c n)

-- a link to node d is no read link, or d has the stamp
unfoldable pub stamped : List ℕ → List ℕ → ℕ → ℕ → Bool
stamped t s v d = pick (readable_in t d) (eqb (get_or s d 0) v) true

unfoldable pub links_stamped : List ℕ → List ℕ → List ℕ → ℕ → ℕ → ℕ → Bool
links_stamped t l s v b w = along (λ (x : ℕ). link l x NEXT-DEP) (λ (x : ℕ). stamped t s v (link l x DEP)) b w

-- k nodes from n on: node n stamps n + 1 on what its cells name, which is new, and then each of its read links finds it
unfoldable pub named_from : List ℕ → List ℕ → List ℤ → List ℕ → ℕ → ℕ → Bool
named_from t l c s n zero = true
named_from t l c s n (suc k) =
    elim (links_stamped t l (stamp_node t c s n (suc n)) (suc n) (slot_room l) (node t n DEPS)) [
      | true ↦ named_from t l c (stamp_node t c s n (suc n)) (suc n) k
      | false ↦ false
    ]

unfoldable pub named_in : List ℕ → List ℕ → List ℤ → Bool
named_in t l c = named_from t l c blank 0 (counted_in t)
