-- What the refusals see, read off the words of the lent tables: a record of `meaning`, so that its table of refusals is the code's.
use Rattle.std.specs.Prelude.{Bool, true, false, not, List, [], ◌∷◌, ℕ, eqb, ℤ, get_or, Option}
use Rattle.primitive.specs.Words.{COUNT, USED, DEPTH, KIND, GONE, LEVEL, SIGNAL, COMPUTED, EFFECT, node}
use Rattle.counting.specs.Counts.{node_room, slot_room, cell_room, reserve_in, live_effects_in}
use Rattle.meaning.specs.State.{Kind, signal, computed, effect, scope, Room}
use Rattle.meaning.specs.Words.{Command}
use Rattle.meaning.specs.Refusals.{Sight, on, unknown, wrong_node, gone_node, bad_formula, too_high, no_room, wrong_depth, few_rows}

-- the first where it is so, else the second
abbrev pub either : Bool → Kind → Kind → Kind
either true x y = x
either false x y = y

-- the kind that a kind word says: 1 signal, 2 computed, 3 effect; any other is a scope
unfoldable pub kind_of : ℕ → Kind
kind_of w = either (eqb w SIGNAL) signal (either (eqb w COMPUTED) computed (either (eqb w EFFECT) effect scope))

abbrev pub room_in : List ℕ → List ℕ → List ℤ → Room
room_in nodes links cells = record { nodes = node_room nodes; slots = slot_room links; cells = cell_room cells }

abbrev pub sight_in : List ℕ → List ℕ → List ℤ → ℕ → Sight
sight_in nodes links cells rows = record {
  room = room_in nodes links cells;
  rows = rows;
  count = get_or nodes COUNT 0;
  kind = λ n. kind_of (node nodes n KIND);
  gone = λ n. not (eqb (node nodes n GONE) 0);
  level = λ n. node nodes n LEVEL;
  used = get_or nodes USED 0;
  reserved = reserve_in nodes;
  effects = live_effects_in nodes;
  depth = get_or nodes DEPTH 0;
}

-- what the node table alone shows: rows 2 to 6 and 8 ask no more
abbrev pub nodes_alone : List ℕ → Sight
nodes_alone nodes = sight_in nodes [] [] 0

-- rows 2 to 9 in number order, each of no more than its function is lent
abbrev pub rows_in : List ℕ → List ℕ → List ℤ → ℕ → Option Command → List Bool
rows_in nodes links cells rows c =
    unknown c
    ∷ on c (wrong_node (nodes_alone nodes))
    ∷ on c (gone_node (nodes_alone nodes))
    ∷ on c (bad_formula (nodes_alone nodes))
    ∷ on c (too_high (nodes_alone nodes))
    ∷ on c (no_room (sight_in nodes links cells 0))
    ∷ on c (wrong_depth (nodes_alone nodes))
    ∷ on c (few_rows (sight_in nodes [] [] rows))
    ∷ []
