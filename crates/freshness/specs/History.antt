-- Histories: any commands from empty tables, each with a lent log of its own, and what an engine's answers to them tell. The engine is an argument, so that another can be held to the same.
use Rattle.std.specs.Prelude.{Bool, true, false, ◌&&◌, ◌||◌, List, [], ◌∷◌, ℕ, zero, suc, ◌+◌, pred, ℤ, Option, None, Some}
use Rattle.values.specs.declared.Value.{Value}
use Rattle.values.specs.Values.{value, sum}
use Rattle.meaning.specs.State.{St, Room, Row, nothing, up, empty}
use Rattle.meaning.specs.Words.{Command, make_signal, make_computed, make_effect, make_scope, set_to, add_to, read_of, dispose_of, batch_start, batch_end, command_of, node_of}
use Rattle.meaning.specs.Refusals.{sight_of, refusal}
use Rattle.meaning.specs.Commands.{Answer, command}
use Rattle.freshness.specs.Evaluations.{in_answer}
use Rattle.freshness.specs.Afresh.{recorded, moved, rested}
use Rattle.freshness.specs.Nodes.{Nodes, no_nodes, changed, ran}

-- a command and the rows of its lent log
pub record Call : Type 0 where
  pub rows : ℕ
  pub words : List ℤ

-- what is seen of an answer
pub record Reply : Type 0 where
  pub code : ℕ
  pub val : Value
  pub rows : List Row

abbrev pub seen : Answer → Reply
seen a = record { code = a.code; val = a.val; rows = a.rows }

-- what a call answers in a state
abbrev pub Engine : Type 0
Engine = St → Call → Answer

-- document 01's
abbrev pub meant : Engine
meant s c = command true s c.rows c.words

-- the evaluations that it makes in a call
abbrev pub in_call : St → Call → ℕ
in_call s c = in_answer (refusal true (sight_of s c.rows) c.words) s c.words

-- ---- of a history, from a state on
-- what an engine replies to each of these calls
unfoldable pub replies : Engine → St → List Call → List Reply
replies E s [] = []
replies E s (c ∷ cs) = seen (E s c) ∷ replies E (E s c).st cs

-- the evaluations that document 01's makes in them
unfoldable pub in_calls : St → List Call → ℕ
in_calls s [] = 0
in_calls s (c ∷ cs) = in_call s c + in_calls (meant s c).st cs

-- ---- what has happened so far: the calls, and what was answered
pub record Past : Type 0 where
  pub ours : St  -- where document 01's engine stands after these calls: of replies only stored values, evaluations, the refusal that is due and the order of the runs are read off it; of states it is asked whole
  pub many : ℕ  -- evaluations
  pub nodes : Nodes
  pub depth : ℕ
  pub last : ℕ → Value  -- the last written value of each signal
  pub reads : ℕ → List (ℕ × Value)  -- what each effect's last run read
  pub writes : Bool  -- since the depth was last 0 there were only sets, adds, starts and ends
  pub found : ℕ → Bool  -- since then, and since the effect's last run, something that it read took another stored value

-- the value given at making, the value set, or current + d at an add
unfoldable pub written : ℕ → (ℕ → Value) → Command → (ℕ → Value) → ℕ → Value
written size current (make_signal v) p = up p size (value v)
written size current (make_computed cs) p = p
written size current (make_effect o cs) p = p
written size current (make_scope o) p = p
written size current (set_to n v) p = up p (node_of n) (value v)
written size current (add_to n d) p = up p (node_of n) (sum (current (node_of n)) (value d))
written size current (read_of n) p = p
written size current (dispose_of n) p = p
written size current batch_start p = p
written size current batch_end p = p

abbrev pub depth_after : Command → ℕ → ℕ
depth_after (make_signal v) d = d
depth_after (make_computed cs) d = d
depth_after (make_effect o cs) d = d
depth_after (make_scope o) d = d
depth_after (set_to n v) d = d
depth_after (add_to n k) d = d
depth_after (read_of n) d = d
depth_after (dispose_of n) d = d
depth_after batch_start d = suc d
depth_after batch_end d = pred d

abbrev pub is_write : Command → Bool
is_write (make_signal v) = false
is_write (make_computed cs) = false
is_write (make_effect o cs) = false
is_write (make_scope o) = false
is_write (set_to n v) = true
is_write (add_to n d) = true
is_write (read_of n) = false
is_write (dispose_of n) = false
is_write batch_start = true
is_write batch_end = true

-- at depth 0 a new batch may begin
abbrev pub writes_on : ℕ → Bool → Bool
writes_on zero b = true
writes_on (suc d) b = b

abbrev pub found_on : ℕ → (ℕ → Bool) → ℕ → Bool
found_on zero f = λ e. false
found_on (suc d) f = f

-- after an answer of this code with these rows; a refused command leaves all as it was, and so do words that are no command
unfoldable pub next : Past → St → ℕ → ℕ → List Row → Option Command → Past
next p s m (suc r) rows o = record { ours = s; many = p.many + m; nodes = p.nodes; depth = p.depth; last = p.last; reads = p.reads; writes = p.writes; found = p.found }
next p s m zero rows None = record { ours = s; many = p.many + m; nodes = p.nodes; depth = p.depth; last = p.last; reads = p.reads; writes = p.writes; found = p.found }
next p s m zero rows (Some k) = record {
  ours = s;
  many = p.many + m;
  nodes = ran (changed k p.nodes) rows;
  depth = depth_after k p.depth;
  last = written p.nodes.size p.ours.sto k p.last;
  reads = recorded p.reads rows;
  writes = writes_on (depth_after k p.depth) (p.writes && is_write k);
  found = found_on (depth_after k p.depth) (rested (λ e. p.found e || moved p.ours.sto s.sto (p.reads e)) rows);
}

abbrev pub told : Past → Call → Reply → Past
told p c a = next p (meant p.ours c).st (in_call p.ours c) a.code a.rows (command_of c.words)

abbrev pub begun : Room → Past
begun r = record { ours = empty r; many = 0; nodes = no_nodes; depth = 0; last = λ n. nothing; reads = λ e. []; writes = true; found = λ e. false }

-- an engine on its way: its state, and what it has told
pub record Course : Type 0 where
  pub st : St
  pub past : Past

abbrev pub now : Engine → Course → Call → Course
now E p c = record { st = (E p.st c).st; past = told p.past c (seen (E p.st c)) }

unfoldable pub after : Engine → Course → List Call → Course
after E p [] = p
after E p (c ∷ cs) = after E (now E p c) cs

abbrev pub begin : Room → Course
begin r = record { st = empty r; past = begun r }
