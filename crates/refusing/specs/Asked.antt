-- What a command asks, as the code's enum tells it, beside `asks_of` of `meaning`.
use Rattle.std.specs.Prelude.{Bool, true, false, not, cond, List, ℕ, eqb, leb, ltb, ℤ, negsuc, length, drop, Option, None, Some}
use Rattle.primitive.specs.Kinds.{kind_word}
use Rattle.primitive.specs.declared.kinds.Kind.TheVariants as kind
use Rattle.trees.specs.Trees.{Tree}
use Rattle.meaning.specs.State.{Kind, readable}
use Rattle.meaning.specs.Words.{Command as Meant, command_of}
use Rattle.meaning.specs.Refusals.{Sight, Asks as Meanings, a_signal, an_owner, batches, asks_of, flush_rows, on, most_level, is_a, legal_cells}
use Rattle.meaning.specs.Engine.{level_of}
use Rattle.refusing.specs.declared.commands.Command.{Command}
use Rattle.refusing.specs.declared.commands.Command.TheVariants.{Signal, Computed, Effect, Scope, Set, Add, Read, Dispose, Start, End, Unknown}
use Rattle.refusing.specs.declared.asks.Takes.{Takes}
use Rattle.refusing.specs.declared.asks.Takes.TheVariants.{Signals, Readable, Owners}
use Rattle.refusing.specs.declared.asks.Asks.{Asks}
use Rattle.refusing.specs.declared.asks.Asks.TheVariants.{Names, Makes, Nothing}
use Rattle.refusing.specs.Sight.{kind_of}
use Rattle.refusing.specs.Commands.{brief}

-- the kinds that are taken
abbrev pub taken : Takes → Kind → Bool
taken Signals k = a_signal k
taken Readable k = readable k
taken Owners k = an_owner k

-- set and add: signals; read: signals and computeds; dispose: effects and scopes
unfoldable pub asked : Command → Asks
asked (Signal k) = Makes kind.Signal None None
asked Computed = Makes kind.Computed None (Some 1)
asked (Effect o) = Makes kind.Effect (Some o) (Some 2)
asked (Scope o) = Makes kind.Scope (Some o) None
asked (Set n k) = Names n Signals false
asked (Add n k) = Names n Signals false
asked (Read n) = Names n Readable false
asked (Dispose n) = Names n Owners true
asked Start = Nothing
asked End = Nothing
asked Unknown = Nothing

-- ---- beside the record of `meaning`
abbrev pub node_asked : Asks → Option ℤ
node_asked (Names n t e) = Some n
node_asked (Makes k o f) = None
node_asked Nothing = None

abbrev pub takes_asked : Asks → Kind → Bool
takes_asked (Names n t e) = taken t
takes_asked (Makes k o f) = readable
takes_asked Nothing = readable

abbrev pub ends_asked : Asks → Bool
ends_asked (Names n t e) = e
ends_asked (Makes k o f) = false
ends_asked Nothing = false

abbrev pub kind_asked : Asks → Option Kind
kind_asked (Names n t e) = None
kind_asked (Makes k o f) = Some (kind_of (kind_word k))
kind_asked Nothing = None

-- the owner, -1 if there is none
abbrev pub owner_or : Option ℤ → ℤ
owner_or None = negsuc 0
owner_or (Some o) = o

abbrev pub owner_asked : Asks → ℤ
owner_asked (Names n t e) = negsuc 0
owner_asked (Makes k o f) = owner_or o
owner_asked Nothing = negsuc 0

abbrev pub from_asked : Asks → Option ℕ
from_asked (Names n t e) = None
from_asked (Makes k o f) = f
from_asked Nothing = None

abbrev pub cells_asked : Option ℕ → List ℤ → Option (List ℤ)
cells_asked None ws = None
cells_asked (Some n) ws = Some (drop n ws)

-- an unknown command asks nothing
abbrev pub asks_about : Option Meant → Meanings
asks_about None = batches (λ d. false) (λ v. 0)
asks_about (Some c) = asks_of c

-- depths and rows are told by the command itself
abbrev pub seen : Asks → Option Meant → List ℤ → Meanings
seen a c ws = record {
  node = node_asked a;
  takes = takes_asked a;
  ends = ends_asked a;
  makes = kind_asked a;
  owner = owner_asked a;
  cells = cells_asked (from_asked a) ws;
  barred = (asks_about c).barred;
  rows = (asks_about c).rows;
}

-- what is named is unknown, or of a kind that is not taken
abbrev pub wrong_named : Sight → (Kind → Bool) → Option ℤ → Bool
wrong_named v p o = on o (λ n. not (is_a v p n))

abbrev pub over : Sight → Option Kind → Tree → Option ℕ → Bool
over v m t o = on m (λ k. ltb (most_level k) (level_of v.level k t o))

abbrev pub illegal : Sight → Option (List ℤ) → Bool
illegal v o = on o (λ cs. not (legal_cells v cs))

-- where the cells of the formula begin; at the end of the words if there is none
abbrev pub from_or : Option ℕ → ℕ → ℕ
from_or None n = n
from_or (Some k) n = k

unfoldable pub cells_from : List ℤ → ℕ
cells_from ws = from_or (from_asked (asked (brief (command_of ws)))) (length ws)

-- the cells themselves
unfoldable pub formula_in : List ℤ → List ℤ
formula_in ws = drop (cells_from ws) ws

-- ---- by the command's number
-- the depths that bar it: 64 a start, 0 an end
unfoldable pub barred_at : ℕ → ℕ → Bool
barred_at k d = cond (eqb k 9) (leb 64 d) (cond (eqb k 10) (eqb d 0) false)

-- the rows of the log that it wants: a new effect, a set, an add, an end
unfoldable pub wanted : Sight → ℕ → ℕ
wanted v k =
    cond (eqb k 3) 1
    (cond (eqb k 5) (flush_rows v 0)
    (cond (eqb k 6) (flush_rows v 0)
    (cond (eqb k 10) (flush_rows v 1) 0)))
