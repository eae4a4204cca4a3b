-- What an accepted command comes to: whose runs it logs, and who goes.
use Rattle.std.specs.Prelude.{◌≡◌, Bool, true, false, List, ℕ, ◌<◌, eqb, ℤ, pos, Option}
use Rattle.values.specs.declared.Value.{Value}
use Rattle.values.specs.Values.{value, sum}
use Rattle.trees.specs.Trees.{Tree}
use Rattle.meaning.specs.State.{St, effect, Row, nothing}
use Rattle.meaning.specs.Reads.{evaluate}
use Rattle.meaning.specs.Engine.{entered}
use Rattle.meaning.specs.Words.{Command, make_signal, make_computed, make_effect, make_scope, set_to, add_to, read_of, dispose_of, batch_start, batch_end, node_of}
use Rattle.meaning.specs.Commands.{number}
use Rattle.meaning.specs.WellFormed.{In}
use Rattle.meaning.specs.Owners.{Below, Owned}

-- the row of a new effect: its number, and the value and the reads of its formula
abbrev pub first_row : St → Option ℕ → Tree → Row
first_row s o t = let r = evaluate (entered s o t) s.size in record { who = s.size; worth = r.val; reads = r.reads }

-- at this depth it flushes: a set or add at depth 0, an end at depth 1
abbrev pub flushes : Command → ℕ → Bool
flushes (make_signal v) d = false
flushes (make_computed cs) d = false
flushes (make_effect o cs) d = false
flushes (make_scope o) d = false
flushes (set_to n v) d = eqb d 0
flushes (add_to n v) d = eqb d 0
flushes (read_of n) d = false
flushes (dispose_of n) d = false
flushes batch_start d = false
flushes batch_end d = eqb d 1

-- e may run in the command c on s: it is the new effect, or c flushes and it is an effect live at entry
pub data MayRun (s : St) (c : Command) (e : ℕ) : Type 0 where
  made : (o : ℤ) (cs : List ℤ) → c ≡ make_effect o cs → e ≡ s.size → MayRun s c e
  flushed : flushes c s.depth ≡ true → e < s.size → s.kind e ≡ effect → s.gone e ≡ false → MayRun s c e

-- n goes in the command c on s, in which these effects have run: it is disposed or below what is, or one of them owned it or what it is below
pub data MustGo (s : St) (c : Command) (ran : List ℕ) (n : ℕ) : Type 0 where
  disposed : (x : ℕ) → c ≡ dispose_of (pos x) → Below s.owner x n → MustGo s c ran n
  owned : (e : ℕ) → In e ran → Owned s.owner e n → MustGo s c ran n

-- c writes x to the signal n: a set its value, an add the current value and its value
pub data Writes (s : St) : Command → ℕ → Value → Type 0 where
  sets : (n v : ℤ) → Writes s (set_to n v) (node_of n) (value v)
  adds : (n v : ℤ) → Writes s (add_to n v) (node_of n) (sum (s.sto (node_of n)) (value v))

-- how many nodes it makes
abbrev pub made_by : Command → ℕ
made_by (make_signal v) = 1
made_by (make_computed cs) = 1
made_by (make_effect o cs) = 1
made_by (make_scope o) = 1
made_by (set_to n v) = 0
made_by (add_to n v) = 0
made_by (read_of n) = 0
made_by (dispose_of n) = 0
made_by batch_start = 0
made_by batch_end = 0

-- its value, from s to t: the number of the new node, what is read, else 0
abbrev pub value_of : St → St → Command → Value
value_of s t (make_signal v) = number s
value_of s t (make_computed cs) = number s
value_of s t (make_effect o cs) = number s
value_of s t (make_scope o) = number s
value_of s t (set_to n v) = nothing
value_of s t (add_to n v) = nothing
value_of s t (read_of n) = t.sto (node_of n)
value_of s t (dispose_of n) = nothing
value_of s t batch_start = nothing
value_of s t batch_end = nothing
