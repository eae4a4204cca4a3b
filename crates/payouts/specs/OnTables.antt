-- Demand 3 of an engine over lent tables: what is asked of each call of a history, in the words of its answer, its log and the tables after it.
-- The engine is an argument, so that another can be held to the same; `command` is `answered_on`, that is `command_in`, which its contract cites.
use Rattle.std.specs.Prelude.{◌≡◌, true, List, [], ◌∷◌, ℕ, ◌<◌, ◌/◌, ◌^◌, ℤ, length}
use Rattle.counting.specs.Counts.{carry_in}
use Rattle.refusing.specs.Sight.{room_in}
use Rattle.operating.specs.Log.{row_words}
use Rattle.operating.specs.Emptying.{emptying}
use Rattle.commanding.specs.Command.{Answered}
use Rattle.meaning.specs.State.{St}
use Rattle.freshness.specs.History.{Call, Reply, Past, told, begun}
use Rattle.freshness.specs.Right.{Right, Held}
use Rattle.structure.specs.Rep.{Rep}
use Rattle.structure.specs.Logged.{Logged}
use Rattle.structure.specs.Histories.{Tables, cleared, left, Lent}

-- what a call answers on lent tables, with every word after it
abbrev pub TableEngine : Type 0
TableEngine = Tables → Lent → Answered

-- a call: its words, and as many rows as its lent log has
abbrev pub call : Lent → Call
call c = record { rows = length c.0 / row_words; words = c.1 }

abbrev pub calls : List Lent → List Call
calls [] = []
calls (c ∷ cs) = call c ∷ calls cs

-- what is seen of an answer: its three numbers, and every word of the log
pub record Seen : Type 0 where
  pub code : ℕ
  pub value : ℤ
  pub runs : ℕ
  pub log : List ℤ

abbrev pub seen_of : Answered → Seen
seen_of a = record { code = a.code; value = a.value; runs = a.runs; log = a.log }

-- of each of these calls, on the tables that the one before it left
unfoldable pub seen_on : TableEngine → Tables → List Lent → List Seen
seen_on E t [] = []
seen_on E t (c ∷ cs) = seen_of (E t c) ∷ seen_on E (left (E t c)) cs

-- the tables after them
unfoldable pub left_on : TableEngine → Tables → List Lent → Tables
left_on E t [] = t
left_on E t (c ∷ cs) = left_on E (left (E t c)) cs

-- tables that represent the state s, as long as those that were lent
pub record Stand (t : Tables) (N L : List ℕ) (W C : List ℤ) (s : St) : Type 0 where
  pub represent : Rep t.nodes t.links t.values t.cells s
  pub of_nodes : length t.nodes ≡ length N
  pub of_links : length t.links ≡ length L
  pub of_values : length t.values ≡ length W
  pub of_cells : length t.cells ≡ length C

-- the words of an answer show a reply: its code, its value, and its rows in the log l, two words each, effect and value. What a run read is in no word; `Right` says what it is
pub record Shows (l : List ℤ) (a : Answered) (r : Reply) : Type 0 where
  pub code : a.code ≡ r.code
  pub value : a.value ≡ r.val.word
  pub runs : Logged l r.rows a.log a.runs

-- the tables represent a state that holds what was told; it is document 01's, so their lengths stay too
pub record HeldIn (t : Tables) (p : Past) : Type 0 where
  pub state : St
  pub represents : Rep t.nodes t.links t.values t.cells state
  pub held : Held state p

-- document 01, of a refused call: every lent word unchanged, those that say nothing too; t: the tables before it
abbrev pub Unchanged : Tables → Lent → Answered → Type 0
Unchanged t c a = (left a ≡ t) × (a.log ≡ c.0)

-- the answer a to the call c on the tables t shows the reply r, which is right, and leaves tables that hold what was told; p: before it, q: after it
pub record RightOn (p : Past) (t : Tables) (c : Lent) (a : Answered) (r : Reply) (q : Past) : Type 0 where
  pub shows : Shows c.0 a r
  pub right : q.many < 2 ^ 64 → Right p (call c) r q
  pub held : q.many < 2 ^ 64 → HeldIn (left a) q
  pub refused : (a.code ≡ 0 → ⊥) → Unchanged t c a

-- each call of a history, on the tables that the one before it left
unfoldable pub AllRight : TableEngine → Past → Tables → List Lent → Type 0
AllRight E p t [] = Unit {0}
AllRight E p t (c ∷ cs) = (r : Reply) × RightOn p t c (E t c) r (told p (call c) r) × AllRight E (told p (call c) r) (left (E t c)) cs

-- tables of any words, of lengths that carry capacities, once they are emptied; any calls, each with a lent log of its own
unfoldable pub Demand3On : TableEngine → Type 0
Demand3On E = (N L : List ℕ) (W C : List ℤ) → carry_in N L W C ≡ true → (h : List Lent) → AllRight E (begun (room_in N L C)) (cleared (emptying N L W C)) h
