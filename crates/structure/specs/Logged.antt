-- The rows of a command over lists, written in the lent log: two words a row, the effect's number and the value of its formula; every word past them is as it was.
use Rattle.std.specs.Prelude.{◌≡◌, List, [], ◌∷◌, ◌++◌, ℕ, ◌*◌, ◌≤◌, ℤ, pos, length, drop}
use Rattle.operating.specs.Log.{row_words}
use Rattle.meaning.specs.State.{Row}

-- the words of these rows, in order
abbrev pub words_of : List Row → List ℤ
words_of [] = []
words_of (r ∷ rs) = pos r.who ∷ r.worth.word ∷ words_of rs

-- the log l, as it was lent, became m, and the number of rows written is k
pub record Logged (l : List ℤ) (rs : List Row) (m : List ℤ) (k : ℕ) : Type 0 where
  pub fits : length rs * row_words ≤ length l
  pub rows : k ≡ length rs
  pub words : m ≡ words_of rs ++ drop (length rs * row_words) l
