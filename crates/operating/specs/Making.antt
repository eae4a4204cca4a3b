-- The making of nodes: a new node has the next number, and its formula the next cells.
use Rattle.std.specs.Prelude.{ℕ, suc, ◌+◌, ◌*◌, ◌/◌, min, Bool, true, false, ◌&&◌, List, [], ◌∷◌, leb, ltb, ℤ, pos, length, get_or, set}
use Rattle.flags.specs.declared.Flags.{Flags}
use Rattle.primitive.specs.declared.slots.Slot.{Slot}
use Rattle.primitive.specs.declared.slots.Slot.TheVariants.{At, Nothing}
use Rattle.values.specs.declared.Value.{Value}
use Rattle.primitive.specs.Slots.{slot_of}
use Rattle.primitive.specs.declared.kinds.Kind.{Kind}
use Rattle.primitive.specs.declared.kinds.Kind.TheVariants.{Signal, Computed, Effect, Scope}
use Rattle.primitive.specs.Kinds.{kind_word}
use Rattle.values.specs.Values.{value}
use Rattle.primitive.specs.Words.{COUNT, USED, FLAGS, KIND, GONE, DEPS, DEPS-TAIL, SUBS, SUBS-TAIL, START, CELLS, READS, OWNER, LEVEL, set_node, node_rows}
use Rattle.trees.specs.Names.{read_cells, height_in, most_height}
use Rattle.counting.specs.Depths.{most_owner_depth, depth_under}
use Rattle.linking.specs.Table.{tab}
use Rattle.linking.specs.Link.{linked}
use Rattle.marking.specs.Fields.{none, mutable}
use Rattle.reading.specs.Tables.{State, state, set_current, set_pending}
use Rattle.reading.specs.Read.{evaluated_for}
use Rattle.operating.specs.declared.making.Sort.{Sort}
use Rattle.operating.specs.Log.{Ran, ran_to, rowed, rows_in}
use Rattle.operating.specs.Runs.{running, ended_run}

-- ---- the words of a new node
-- these fields of node n, each with its word
unfoldable pub set_all : List ℕ → ℕ → List (ℕ × ℕ) → List ℕ
set_all N n [] = N
set_all N n ((f, w) ∷ fs) = set_all (set_node N n f w) n fs

-- live, with no links; its formula is at the next cells
unfoldable pub described : List ℕ → ℕ → Sort → List ℤ → List ℕ
described N n k ws =
    set_all N n
    ((FLAGS, k.flags.bits) ∷ (KIND, kind_word k.kind) ∷ (GONE, 0) ∷ (DEPS, 0) ∷ (DEPS-TAIL, 0) ∷ (SUBS, 0) ∷ (SUBS-TAIL, 0)
    ∷ (START, get_or N USED 0) ∷ (CELLS, length ws / 2) ∷ (READS, read_cells ws) ∷ (OWNER, k.owner) ∷ (LEVEL, k.level) ∷ [])

-- the words of a formula from word i on
unfoldable pub laid : List ℤ → ℕ → List ℤ → List ℤ
laid c i [] = c
laid c i (w ∷ ws) = laid (set c i w) (suc i) ws

unfoldable pub valued : List ℤ → ℕ → Value → List ℤ
valued t n v = set_pending (set_current t n v) n v

-- ---- one node more
-- its number, and the tables after it
pub record Made : Type 0 where
  pub number : ℕ
  pub after : State
  pub cells : List ℤ

abbrev pub made : ℕ → State → List ℤ → Made
made n s c = record { number = n; after = s; cells = c }

-- there is a row for one more node, and room for this many cells
unfoldable pub has_room : List ℕ → List ℤ → ℕ → Bool
has_room N c size = ltb (suc (get_or N COUNT 0)) (node_rows N) && leb (get_or N USED 0 + size) (length c / 2)

-- one definition makes every node; tables without room for it stay as they are
unfoldable pub make : State → List ℤ → Sort → List ℤ → Value → Made
make s c k ws v =
    let n = get_or s.nodes COUNT 0 in
    let used = get_or s.nodes USED 0 in
    let size = length ws / 2 in
    elim (has_room s.nodes c size) [
      | true ↦ made n (state (set (set (described s.nodes n k ws) COUNT (suc n)) USED (used + size)) s.links (valued s.values n v)) (laid c (used * 2) ws)
      | false ↦ made n s c
    ]

-- ---- owners: a word, 0 for none, else the owner's number + 1
abbrev pub owned_by : State → ℕ → Slot → State
owned_by s n Nothing = s
owned_by s n (At o) = let t = linked (tab s.nodes s.links) n o 0 in state t.nodes t.links s.values

-- the owner depends on node n
unfoldable pub owned : State → ℕ → ℕ → State
owned s n w = owned_by s n (slot_of w)

-- ---- the four kinds
abbrev pub sort : Kind → Flags → ℕ → ℕ → Sort
sort k f o l = record { kind = k; flags = f; owner = o; level = l }

abbrev pub bits : ℕ → Flags
bits f = record { bits = f }

unfoldable pub new_signal : State → List ℤ → Value → Made
new_signal s c v = make s c (sort Signal (bits mutable) 0 0) [] v

-- not evaluated before something reads it
unfoldable pub new_computed : State → List ℤ → List ℤ → Made
new_computed s c ws = make s c (sort Computed (bits none) 0 (min (suc most_height) (height_in s.nodes ws))) ws (value (pos 0))

abbrev pub owned_sort : State → Kind → ℕ → ℕ → Sort
owned_sort s k f w = sort k (bits f) w (min (suc most_owner_depth) (depth_under s.nodes w))

unfoldable pub new_scope : State → List ℤ → ℕ → Made
new_scope s c w = let m = make s c (owned_sort s Scope none w) [] (value (pos 0)) in made m.number (owned m.after m.number w) m.cells

-- a new effect, with its run
pub record Started : Type 0 where
  pub number : ℕ
  pub ran : Ran
  pub cells : List ℤ

abbrev pub started : ℕ → Ran → List ℤ → Started
started n r c = record { number = n; ran = r; cells = c }

-- it runs at once, in the cycle at hand
unfoldable pub new_effect : State → List ℤ → List ℤ → ℕ → List ℤ → Started
new_effect s c l w ws =
    let m = make s c (owned_sort s Effect running w) ws (value (pos 0)) in
    let g = evaluated_for m.cells (owned m.after m.number w) m.number in
    started m.number (ran_to (state (ended_run g.after.nodes m.number) g.after.links g.after.values) (rowed l m.number g.value) (rows_in l)) m.cells
