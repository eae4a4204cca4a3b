-- Lent tables read as a state of `meaning`, as they are between commands: each list from its head, at most as many slots as there are.
use Rattle.std.specs.Prelude.{Bool, true, false, not, List, [], ℕ, zero, suc, eqb, ltb, ℤ, pos, get_or, Option, None, Some}
use Rattle.flags.specs.Flags.{named}
use Rattle.queue.specs.Queue.{queue_of}
use Rattle.primitive.specs.Words.{COUNT, USED, DEPTH, KIND, GONE, OWNER, LEVEL, VERSION, DEP, SUB, node, link}
use Rattle.trees.specs.Trees.{Tree, constant}
use Rattle.linking.specs.Free.{is_live_slot}
use Rattle.marking.specs.Fields.{flags_of}
use Rattle.reading.specs.Tables.{current_of, pending_of, cycle_of}
use Rattle.telling.specs.Formulas.{own_cells}
use Rattle.telling.specs.Whole.{used_cells}
use Rattle.resting.specs.AtRest.{subs_of, deps_of, free_of}
use Rattle.meaning.specs.State.{St}
use Rattle.meaning.specs.Setters.{with_log, with_stuck}
use Rattle.meaning.specs.Words.{formula_of}
use Rattle.refusing.specs.Sight.{kind_of, room_in}
use Rattle.structure.specs.Rep.{has_form}

-- past the last node there are no lists
unfoldable pub of_node : List ℕ → ℕ → List ℕ → List ℕ
of_node N n xs = elim (ltb n (get_or N COUNT 0)) [ true ↦ xs | false ↦ [] ]

-- an owner word: 0 for none, o + 1 for node o
abbrev pub owner_in : ℕ → Option ℕ
owner_in zero = None
owner_in (suc o) = Some o

abbrev pub or_constant : Bool → Tree → Tree
or_constant true t = t
or_constant false t = constant (pos 0)

-- the formula of node n
unfoldable pub form_in : List ℕ → List ℤ → ℕ → Tree
form_in N C n =
    elim (ltb n (get_or N COUNT 0)) [
      | true ↦ or_constant (has_form (kind_of (node N n KIND))) (formula_of (own_cells N (used_cells N C) n))
      | false ↦ constant (pos 0)
    ]

abbrev pub state_in : List ℕ → List ℕ → List ℤ → List ℤ → St
state_in N L W C = record {
  room = room_in N L C;
  size = get_or N COUNT 0;
  used = get_or N USED 0;
  kind = λ n. kind_of (node N n KIND);
  form = λ n. form_in N C n;
  owner = λ n. owner_in (node N n OWNER);
  gone = λ n. not (eqb (node N n GONE) 0);
  level = λ n. node N n LEVEL;
  fl = λ n. named (flags_of N n);
  sto = λ n. current_of W n;
  pend = λ n. pending_of W n;
  done = λ n. of_node N n (deps_of N L n);
  rest = λ n. [];
  subs = λ n. of_node N n (subs_of N L n);
  live = λ x. is_live_slot L x;
  dep = λ x. link L x DEP;
  sub = λ x. link L x SUB;
  ver = λ x. link L x VERSION;
  free = free_of L;
  queue = queue_of N;
  depth = get_or N DEPTH 0;
  cycle = cycle_of L;
  log = [];
  stuck = false;
}

-- the runs of the last command, and whether it got stuck, are in no table
abbrev pub plain : St → St
plain s = with_stuck (with_log s []) false
