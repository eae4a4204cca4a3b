-- A script with the answers and the tables that an engine left: what the differential check compares.
use Rattle.std.specs.Prelude.{◌≡◌, Bool, true, false, List, [], ◌∷◌, ℕ, zero, suc, ◌+◌, ℤ, Option, None, Some}
use Rattle.flags.specs.declared.Named.{Named}
use Rattle.values.specs.declared.Value.{Value}
use Rattle.meaning.specs.State.{St, Kind, signal, computed, effect, scope, Room, deps, has_value, empty}
use Rattle.meaning.specs.Cases.{Told, answers, after_all}

abbrev pub bit : Bool → ℕ → ℕ
bit true k = k
bit false k = 0

abbrev pub byte : Named → ℕ
byte f = bit f.mutable 1 + bit f.watching 2 + bit f.recursed_check 4 + bit f.recursed 8 + bit f.dirty 16 + bit f.pending 32

unfoldable pub dep_ends : St → List ℕ → List (ℕ × ℕ)
dep_ends s [] = []
dep_ends s (l ∷ ls) = (s.dep l, s.ver l) ∷ dep_ends s ls

unfoldable pub sub_ends : St → List ℕ → List (ℕ × ℕ)
sub_ends s [] = []
sub_ends s (l ∷ ls) = (s.sub l, s.ver l) ∷ sub_ends s ls

-- the value of a signal or of an evaluated computed
abbrev pub shown_value : Kind → Named → Value → Option Value
shown_value k f v = elim (has_value k f) [ true ↦ Some v | false ↦ None ]

abbrev pub shown_pending : Kind → Value → Option Value
shown_pending signal v = Some v
shown_pending computed v = None
shown_pending effect v = None
shown_pending scope v = None

-- flags, value, pending value, dependencies and subscribers with the versions of their links
abbrev pub Line : Type 0
Line = ℕ × Option Value × Option Value × List (ℕ × ℕ) × List (ℕ × ℕ)

abbrev pub line : St → ℕ → Line
line s n = (byte (s.fl n), shown_value (s.kind n) (s.fl n) (s.sto n), shown_pending (s.kind n) (s.pend n), dep_ends s (deps s n), sub_ends s (s.subs n))

unfoldable pub lines : ℕ → St → List Line → List Line
lines zero s rest = rest
lines (suc n) s rest = lines n s (line s n ∷ rest)

-- depth, cycle, queue, stuck, and a line for each node
abbrev pub Left : Type 0
Left = ℕ × ℕ × List ℕ × Bool × List Line

abbrev pub left : St → Left
left s = (s.depth, s.cycle, s.queue, s.stuck, lines s.size s [])

pub record Script : Type 0 where
  pub room : Room
  pub rows : ℕ
  pub words : List (List ℤ)
  pub told : List Told
  pub leaves : Left

abbrev pub script : ℕ → ℕ → ℕ → ℕ → List (List ℤ) → List Told → Left → Script
script n l c r ws t a = record { room = record { nodes = n; slots = l; cells = c }; rows = r; words = ws; told = t; leaves = a }

unfoldable pub Played : List Script → Type 0
Played [] = Unit {0}
Played (p ∷ ps) =
    (answers (empty p.room) p.rows p.words ≡ p.told) × (left (after_all (empty p.room) p.rows p.words) ≡ p.leaves) × Played ps
