-- The three tables that a read changes, and what is found in them: the values of a node, the evaluation cycle; and the rank of a node.
use Rattle.std.specs.Prelude.{ℕ, ◌+◌, ◌*◌, ◌%◌, ◌^◌, Bool, List, ℤ, get_or, set}
use Rattle.values.specs.declared.Value.{Value}
use Rattle.values.specs.Values.{value_at, set_value}
use Rattle.primitive.specs.Words.{CYCLE}

pub record State : Type 0 where
  pub nodes : List ℕ
  pub links : List ℕ
  pub values : List ℤ

abbrev pub state : List ℕ → List ℕ → List ℤ → State
state n l v = record { nodes = n; links = l; values = v }

-- a state, with whether a value changed
pub record Told : Type 0 where
  pub changed : Bool
  pub after : State

abbrev pub told : Bool → State → Told
told b s = record { changed = b; after = s }

-- a state, with a value that was read
pub record Got : Type 0 where
  pub value : Value
  pub after : State

abbrev pub got : Value → State → Got
got v s = record { value = v; after = s }

-- a state, with what an expression is worth and the cell after it
pub record Evaluated : Type 0 where
  pub value : Value
  pub next : ℕ
  pub after : State

abbrev pub evaluated : Value → ℕ → State → Evaluated
evaluated v i s = record { value = v; next = i; after = s }

-- a formula reads only nodes of lower rank; today a node's rank is its number
unfoldable pub rank_of : ℕ → ℕ
rank_of n = n

-- node n has the value places 2n, its current value, and 2n + 1, of a signal the pending one
unfoldable pub current_of : List ℤ → ℕ → Value
current_of v n = value_at v (n * 2)

unfoldable pub pending_of : List ℤ → ℕ → Value
pending_of v n = value_at v (n * 2 + 1)

unfoldable pub set_current : List ℤ → ℕ → Value → List ℤ
set_current v n x = set_value v (n * 2) x

unfoldable pub set_pending : List ℤ → ℕ → Value → List ℤ
set_pending v n x = set_value v (n * 2 + 1) x

unfoldable pub cycle_of : List ℕ → ℕ
cycle_of l = get_or l CYCLE 0

-- the next cycle, which wraps
unfoldable pub raised : List ℕ → List ℕ
raised l = set l CYCLE ((cycle_of l + 1) % 2 ^ 64)
