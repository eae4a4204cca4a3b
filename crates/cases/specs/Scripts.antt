-- Scripts of commands on lent tables, answered by the definition that `command` cites.
use Rattle.std.specs.Prelude.{List, [], ◌∷◌, ℕ, zero, suc, ◌*◌, ℤ, pos, replicate}
use Rattle.values.specs.declared.Value.{Value}
use Rattle.values.specs.Values.{value}
use Rattle.primitive.specs.Words.{NODE, LINK}
use Rattle.meaning.specs.State.{Room}
use Rattle.meaning.specs.Words.{node_of}
use Rattle.meaning.specs.Cases.{Told}
use Rattle.operating.specs.Log.{row_words}
use Rattle.operating.specs.Emptying.{Emptied, emptying}
use Rattle.commanding.specs.Command.{Answered, command_in}

pub record Lent : Type 0 where
  pub nodes : List ℕ
  pub links : List ℕ
  pub values : List ℤ
  pub cells : List ℤ

-- the tables that an emptying leaves, and those that a command leaves
abbrev pub cleared : Emptied → Lent
cleared e = record { nodes = e.nodes; links = e.links; values = e.values; cells = e.cells }

abbrev pub left : Answered → Lent
left a = record { nodes = a.nodes; links = a.links; values = a.values; cells = a.cells }

-- tables of these capacities, full of ones, and then emptied
unfoldable pub empty_tables : Room → Lent
empty_tables r =
    cleared (emptying (replicate (suc r.nodes * NODE) 1) (replicate (suc r.slots * LINK) 1) (replicate (r.nodes * 4) (pos 1)) (replicate (r.cells * 2) (pos 1)))

-- a log of so many rows is lent to each command
unfoldable pub answered : ℕ → Lent → List ℤ → Answered
answered rows t ws = command_in t.nodes t.links t.values t.cells (replicate (rows * row_words) (pos 0)) ws

-- the first k rows of a log: effect and value of each run
unfoldable pub rows_of : ℕ → List ℤ → List (ℕ × Value)
rows_of zero g = []
rows_of (suc k) [] = []
rows_of (suc k) (e ∷ []) = []
rows_of (suc k) (e ∷ v ∷ g) = (node_of e, value v) ∷ rows_of k g

-- refusal number, value, and the runs
abbrev pub told : Answered → Told
told a = (a.code, value a.value, rows_of a.runs a.log)

unfoldable pub answers : ℕ → Lent → List (List ℤ) → List Told
answers rows t [] = []
answers rows t (ws ∷ wss) = let a = answered rows t ws in told a ∷ answers rows (left a) wss

unfoldable pub after_all : ℕ → Lent → List (List ℤ) → Lent
after_all rows t [] = t
after_all rows t (ws ∷ wss) = after_all rows (left (answered rows t ws)) wss
