-- A script's step is one command, and a turn is one step of the whole output.
use Rattle.std.specs.Prelude.{ℕ, zero, suc, ◌-◌, Bool, true, false, List, [], ◌++◌, ℤ, length, drop}
use Rattle.commanding.specs.Command.{Answered, command_in}
use Rattle.spelling.specs.Buffers.{buffer, put}
use Rattle.spelling.specs.Lines.{Reading, short, unreadable, pair, reading}
use Rattle.spelling.specs.Pairs.{held}
use Rattle.spelling.specs.Answers.{answer, unreadable_answer}
use Rattle.spelling.specs.Output.{Stepped}
use Rattle.script.specs.declared.turns.Turn.{Turn}
use Rattle.script.specs.declared.turns.Turn.TheVariants as turn

-- the lent tables and the log
pub record Tables : Type 0 where
  pub nodes : List ℕ
  pub links : List ℕ
  pub values : List ℤ
  pub cells : List ℤ
  pub log : List ℤ

abbrev pub tables : List ℕ → List ℕ → List ℤ → List ℤ → List ℤ → Tables
tables n l v c g = record { nodes = n; links = l; values = v; cells = c; log = g }

abbrev pub answered_by : Answered → Stepped Tables
answered_by a =
    record { answer = answer a.code a.value a.runs a.log; after = tables a.nodes a.links a.values a.cells a.log }

-- the bytes of a command's answer, and the tables after it
unfoldable pub stepped : Tables → List ℤ → Stepped Tables
stepped t ws = answered_by (command_in t.nodes t.links t.values t.cells t.log ws)

-- what it came to; and every lent word and byte after it
pub record Turned : Type 0 where
  pub turn : Turn
  pub after : Tables
  pub words : List ℤ
  pub out : List ℕ

abbrev pub turned : Turn → Tables → List ℤ → List ℕ → Turned
turned r t ws out = record { turn = r; after = t; words = ws; out = out }

-- the run ends with these bytes
abbrev pub ended_by : Tables → List ℤ → List ℕ → List ℕ → Turned
ended_by t ws out b = turned (turn.Ended (put (buffer out 0) b).next) t ws (put (buffer out 0) b).held

-- n bytes that hold no whole pair: wait, unless nothing more comes
abbrev pub waiting : Tables → List ℤ → List ℕ → Bool → ℕ → Turned
waiting t ws out false n = turned turn.More t ws out
waiting t ws out true zero = ended_by t ws out []
waiting t ws out true (suc n) = ended_by t ws out unreadable_answer

unfoldable pub turn_on : Tables → List ℤ → List ℕ → Bool → ℕ → Reading → Turned
turn_on t ws out over n short = waiting t ws out over n
turn_on t ws out over n unreadable = ended_by t ws out unreadable_answer
turn_on t ws out over n (pair zs rest) =
    turned
    (turn.Answered (n - length rest) (put (buffer out 0) (stepped t zs).answer).next)
    (stepped t zs).after
    (zs ++ drop (length zs) ws)
    (put (buffer out 0) (stepped t zs).answer).held

-- over: nothing comes behind the window
unfoldable pub turn_in : Tables → List ℤ → List ℕ → List ℕ → Bool → Turned
turn_in t ws out window over = turn_on t ws out over (length window) (held (length ws) (reading window))
