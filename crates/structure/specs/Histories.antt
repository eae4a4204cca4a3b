-- Any commands, one after another: on lent tables, each with the log that is lent to it, and over lists.
use Rattle.std.specs.Prelude.{◌≡◌, true, false, List, [], ◌∷◌, ℕ, ◌/◌, ℤ, length}
use Rattle.operating.specs.Emptying.{Emptied}
use Rattle.operating.specs.Log.{row_words}
use Rattle.commanding.specs.Tables.{well_formed_in}
use Rattle.commanding.specs.Command.{Answered, command_in}
use Rattle.meaning.specs.State.{St}
use Rattle.meaning.specs.Commands.{Answer, command}
use Rattle.meaning.specs.WellFormed.{WellFormed}
use Rattle.structure.specs.Rep.{Rep}

pub record Tables : Type 0 where
  pub nodes : List ℕ
  pub links : List ℕ
  pub values : List ℤ
  pub cells : List ℤ

-- those that an emptying leaves, and those that a command leaves
abbrev pub cleared : Emptied → Tables
cleared e = record { nodes = e.nodes; links = e.links; values = e.values; cells = e.cells }

abbrev pub left : Answered → Tables
left a = record { nodes = a.nodes; links = a.links; values = a.values; cells = a.cells }

-- a log and the words of a command
abbrev pub Lent : Type 0
Lent = List ℤ × List ℤ

-- over words, and over lists
abbrev pub answered_on : Tables → Lent → Answered
answered_on t c = command_in t.nodes t.links t.values t.cells c.0 c.1

abbrev pub meant_on : St → Lent → Answer
meant_on s c = command true s (length c.0 / row_words) c.1

unfoldable pub tables_after : Tables → List Lent → Tables
tables_after t [] = t
tables_after t (c ∷ cs) = tables_after (left (answered_on t c)) cs

unfoldable pub state_after : St → List Lent → St
state_after s [] = s
state_after s (c ∷ cs) = state_after (meant_on s c).st cs

-- the test accepts them
abbrev pub Accepted : Tables → Type 0
Accepted t = well_formed_in t.nodes t.links t.values t.cells ≡ true

-- they represent a well-formed state, in which no operation was stuck: none missed a link, none spent more than the reserve
pub record Holds (t : Tables) (s : St) : Type 0 where
  pub represents : Rep t.nodes t.links t.values t.cells s
  pub formed : WellFormed s
  pub free : s.stuck ≡ false
