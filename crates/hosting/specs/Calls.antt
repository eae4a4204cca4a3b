-- A command through the library: the answer goes into a lent reply of at least eight words.
use Rattle.std.specs.Prelude.{ℕ, Bool, true, false, List, leb, ℤ, length, set}
use Rattle.operating.specs.Log.{number_word}
use Rattle.commanding.specs.Command.{Answered, command_in}

-- what the call answers, and every lent word after it
pub record Called : Type 0 where
  pub answer : ℕ
  pub nodes : List ℕ
  pub links : List ℕ
  pub values : List ℤ
  pub cells : List ℤ
  pub log : List ℤ
  pub reply : List ℤ

abbrev pub called : ℕ → List ℕ → List ℕ → List ℤ → List ℤ → List ℤ → List ℤ → Called
called r n l v c g y = record { answer = r; nodes = n; links = l; values = v; cells = c; log = g; reply = y }

abbrev pub reply_words : ℕ
reply_words = 8

abbrev pub no_reply : ℕ
no_reply = 255

abbrev pub fits_reply : List ℤ → Bool
fits_reply y = leb reply_words (length y)

-- code, value, number of runs; the spare words stay
unfoldable pub replied : List ℤ → ℕ → ℤ → ℕ → List ℤ
replied y code value runs =
    elim (fits_reply y) [
      | true ↦ set (set (set y 0 (number_word code)) 1 value) 2 (number_word runs)
      | false ↦ y
    ]

-- the command's code, and its answer in the reply
abbrev pub answered_in : List ℤ → Answered → Called
answered_in y a =
    called a.code a.nodes a.links a.values a.cells a.log (replied y a.code a.value a.runs)

-- too short a reply: nothing is done
unfoldable pub call_in : List ℕ → List ℕ → List ℤ → List ℤ → List ℤ → List ℤ → List ℤ → Called
call_in n l v c g ws y =
    elim (fits_reply y) [
      | true ↦ answered_in y (command_in n l v c g ws)
      | false ↦ called no_reply n l v c g y
    ]
