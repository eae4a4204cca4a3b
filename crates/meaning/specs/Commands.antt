-- Document 01, "Commands": deciding stands in Refusals; this is doing, the answer, and emptying.
use Rattle.std.specs.Prelude.{Bool, true, false, List, [], ℕ, zero, suc, ℤ, pos, length, Option, None, Some}
use Rattle.values.specs.declared.Value.{Value}
use Rattle.values.specs.Values.{value, sum}
use Rattle.meaning.specs.State.{St, Room, capacities, Row, nothing, empty}
use Rattle.meaning.specs.Setters.{with_log}
use Rattle.meaning.specs.Links.{stop, dispose}
use Rattle.meaning.specs.Reads.{settle}
use Rattle.meaning.specs.Engine.{store, new_signal, new_computed, new_effect, new_scope, start, end_at}
use Rattle.meaning.specs.Words.{Command, make_signal, make_computed, make_effect, make_scope, set_to, add_to, read_of, dispose_of, batch_start, batch_end, command_of, node_of, owner_of, formula_of}
use Rattle.meaning.specs.Refusals.{sight_of, refusal}

-- a state and the value returned
pub record Done : Type 0 where
  pub st : St
  pub val : Value

abbrev pub back : St → Value → Done
back s v = record { st = s; val = v }

-- the number of a new node
abbrev pub number : St → Value
number s = value (pos s.size)

-- ---- doing
unfoldable pub perform : St → Command → Done
perform s (make_signal v) = back (new_signal s (value v)) (number s)
perform s (make_computed cs) = back (new_computed s (formula_of cs)) (number s)
perform s (make_effect o cs) = back (new_effect s (owner_of o) (formula_of cs)) (number s)
perform s (make_scope o) = back (new_scope s (owner_of o)) (number s)
perform s (set_to n v) = back (store s (node_of n) (value v)) nothing
perform s (add_to n d) = back (store s (node_of n) (sum (s.sto (node_of n)) (value d))) nothing
perform s (read_of n) = let t = settle s (node_of n) in back t (t.sto (node_of n))
perform s (dispose_of n) = back (dispose s (node_of n)) nothing
perform s batch_start = back (start s) nothing
perform s batch_end = back (end_at s s.depth) nothing

unfoldable pub perform_any : St → Option Command → Done
perform_any s None = back (stop s) nothing
perform_any s (Some c) = perform s c

-- ---- the answer: refusal number, value, and the log rows, which are the runs
pub record Answer : Type 0 where
  pub st : St
  pub code : ℕ
  pub val : Value
  pub rows : List Row

abbrev pub runs : Answer → ℕ
runs a = length a.rows

abbrev pub accepted : Done → Answer
accepted d = record { st = d.st; code = 0; val = d.val; rows = d.st.log }

-- value 0, runs 0, everything unchanged
abbrev pub refused : St → ℕ → Answer
refused s r = record { st = s; code = r; val = nothing; rows = [] }

unfoldable pub answer : ℕ → St → List ℤ → Answer
answer zero s ws = accepted (perform_any (with_log s []) (command_of ws))
answer (suc r) s ws = refused s (suc r)

-- well: whether the lent tables are well formed; rows: of the lent log
unfoldable pub command : Bool → St → ℕ → List ℤ → Answer
command well s rows ws = answer (refusal well (sight_of s rows) ws) s ws

-- ---- emptying: the answer, and the tables after it
unfoldable pub emptying : Room → St → ℕ × St
emptying r s = elim (capacities r) [ true ↦ (0, empty r) | false ↦ (1, s) ]
