-- The lent log: rows of two words, the effect's number and the value of its formula. An odd last word is never written.
use Rattle.std.specs.Prelude.{ℕ, ◌%◌, ◌^◌, Bool, true, false, List, leb, ℤ, pos, length, set}
use Rattle.values.specs.declared.Value.{Value}
use Rattle.reading.specs.Tables.{State}

-- a state, with the log and how many of its rows were written
pub record Ran : Type 0 where
  pub after : State
  pub log : List ℤ
  pub rows : ℕ

abbrev pub ran_to : State → List ℤ → ℕ → Ran
ran_to s l n = record { after = s; log = l; rows = n }

abbrev pub row_words : ℕ
row_words = 2

-- there is room for a row
abbrev pub fits_row : List ℤ → Bool
fits_row l = leb row_words (length l)

-- a node's number as a word of the log; it is far below 2 ^ 63
unfoldable pub number_word : ℕ → ℤ
number_word e = pos (e % 2 ^ 63)

-- the row of effect e at the front
unfoldable pub rowed : List ℤ → ℕ → Value → List ℤ
rowed l e v = elim (fits_row l) [ true ↦ set (set l 0 (number_word e)) 1 v.word | false ↦ l ]

unfoldable pub rows_in : List ℤ → ℕ
rows_in l = elim (fits_row l) [ true ↦ 1 | false ↦ 0 ]
