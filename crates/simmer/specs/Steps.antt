-- A step of the program: one turn on the window, and what the system then read or took. Assumes nothing.
use Rattle.std.specs.Prelude.{ℕ, ◌+◌, ◌<◌, ◌≤◌, min, max, ◌≡◌, ◌⊎◌, Bool, true, false, List, ℤ, length}
use Rattle.stream.specs.Windows.{Filled, unread}
use Rattle.script.specs.declared.turns.Turn.{Turn}
use Rattle.script.specs.declared.turns.Turn.TheVariants.{More, Answered, Ended}
use Rattle.script.specs.Turns.{Turned, Tables, turned, turn_in}

-- what is lent to a step, and the window on the input
pub record Lent : Type 0 where
  pub tables : Tables
  pub words : List ℤ
  pub out : List ℕ
  pub buf : List ℕ
  pub at : ℕ
  pub end : ℕ
  pub over : Bool

abbrev pub lent : Tables → List ℤ → List ℕ → List ℕ → ℕ → ℕ → Bool → Lent
lent t ws out buf at end over = record { tables = t; words = ws; out = out; buf = buf; at = at; end = end; over = over }

-- more was read behind the unread bytes; or the window is behind the pair, if its answer went out; or the run is over
abbrev pub Goes : Turn → Lent → Lent → Bool → Type 0
Goes More x y on = Filled x.buf x.at x.end y.at y.end y.over y.buf × (on ≡ true)
Goes (Answered used bytes) x y on = (y.at ≡ min (x.at + used) (max x.at x.end)) × (y.end ≡ x.end) × (y.over ≡ x.over) × (y.buf ≡ x.buf)
Goes (Ended bytes) x y on = (y.at ≡ x.at) × (y.end ≡ x.end) × (y.over ≡ x.over) × (y.buf ≡ x.buf) × (on ≡ false)

abbrev pub turn_of : Lent → Turned
turn_of x = turn_in x.tables x.words x.out (unread x.buf x.at x.end) x.over

-- x before and y after it; on: the run goes on
pub record Stepped (x y : Lent) (on : Bool) : Type 0 where
  pub inside : x.at ≤ x.end → x.end ≤ length x.buf → (turned (turn_of x).turn y.tables y.words y.out ≡ turn_of x) × Goes (turn_of x).turn x y on
  pub outside : (x.end < x.at) ⊎ (length x.buf < x.end) → (y ≡ x) × (on ≡ false)
