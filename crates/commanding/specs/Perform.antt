-- Document 01, "Commands": doing, one line a command. Deciding stands in the crate `refusing`.
use Rattle.std.specs.Prelude.{List, ℕ, suc, ℤ, pos, negsuc}
use Rattle.values.specs.Values.{value}
use Rattle.linking.specs.Table.{tab}
use Rattle.linking.specs.Ring.{disposed}
use Rattle.reading.specs.Tables.{State, state}
use Rattle.reading.specs.Read.{read_of}
use Rattle.meaning.specs.Words.{node_of}
use Rattle.refusing.specs.declared.commands.Command.{Command}
use Rattle.refusing.specs.declared.commands.Command.TheVariants.{Signal, Computed, Effect, Scope, Set, Add, Read, Dispose, Start, End, Unknown}
use Rattle.operating.specs.Log.{Ran, ran_to, number_word}
use Rattle.operating.specs.Batches.{started, ended_batch}
use Rattle.operating.specs.Writes.{written, added}
use Rattle.operating.specs.Making.{Made, new_signal, new_computed, new_scope, new_effect}

-- the value returned, the tables and the log after it
pub record Done : Type 0 where
  pub value : ℤ
  pub ran : Ran
  pub cells : List ℤ

abbrev pub done : ℤ → Ran → List ℤ → Done
done v r c = record { value = v; ran = r; cells = c }

-- -1 as owner means none; as a word of the tables 0 does, and o + 1 is node o
abbrev pub owner_word : ℤ → ℕ
owner_word (pos n) = suc n
owner_word (negsuc n) = 0

-- a new node's number is the value, and nothing ran
unfoldable pub numbered : List ℤ → Made → Done
numbered l m = done (number_word m.number) (ran_to m.after l 0) m.cells

-- a state, and nothing else
abbrev pub quiet : State → List ℤ → List ℤ → Done
quiet s l c = done (pos 0) (ran_to s l 0) c

-- ws: the cells of the command's formula
unfoldable pub performed : State → List ℤ → List ℤ → Command → List ℤ → Done
performed s c l (Signal k) ws = numbered l (new_signal s c (value k))
performed s c l Computed ws = numbered l (new_computed s c ws)
performed s c l (Effect o) ws = let e = new_effect s c l (owner_word o) ws in done (number_word e.number) e.ran e.cells
performed s c l (Scope o) ws = numbered l (new_scope s c (owner_word o))
performed s c l (Set n k) ws = done (pos 0) (written c s l (node_of n) (value k)) c
performed s c l (Add n k) ws = done (pos 0) (added c s l (node_of n) (value k)) c
performed s c l (Read n) ws = let g = read_of c s (node_of n) in done g.value.word (ran_to g.after l 0) c
performed s c l (Dispose n) ws = let t = disposed (tab s.nodes s.links) (node_of n) in quiet (state t.nodes t.links s.values) l c
performed s c l Start ws = quiet (state (started s.nodes) s.links s.values) l c
performed s c l End ws = done (pos 0) (ended_batch c s l) c
performed s c l Unknown ws = quiet s l c
