-- Many commands through the library: why the series stopped, and how far it is, go into a lent reply.
use Rattle.std.specs.Prelude.{ℕ, true, false, List, ℤ, set}
use Rattle.operating.specs.Log.{number_word}
use Rattle.sequencing.specs.declared.steps.Why.{Why}
use Rattle.sequencing.specs.declared.steps.Why.TheVariants as why
use Rattle.sequencing.specs.Series.{Ended, series_in}
use Rattle.hosting.specs.Calls.{no_reply, fits_reply}

-- what the call answers, and every lent word after it
pub record CalledMany : Type 0 where
  pub answer : ℕ
  pub nodes : List ℕ
  pub links : List ℕ
  pub values : List ℤ
  pub cells : List ℤ
  pub rows : List ℤ
  pub answers : List ℤ
  pub reply : List ℤ

abbrev pub called_many : ℕ → List ℕ → List ℕ → List ℤ → List ℤ → List ℤ → List ℤ → List ℤ → CalledMany
called_many r n l v c g z y = record { answer = r; nodes = n; links = l; values = v; cells = c; rows = g; answers = z; reply = y }

-- the list is over, a word of it is no number of words, no room for an answer, too few rows
unfoldable pub why_number : Why → ℕ
why_number why.Over = 0
why_number why.List = 1
why_number why.Answers = 2
why_number why.Rows = 3

-- why it stopped, words used, commands done, rows written; the spare words stay
unfoldable pub many_replied : List ℤ → ℕ → ℕ → ℕ → ℕ → List ℤ
many_replied y why used done rows =
    elim (fits_reply y) [
      | true ↦ set (set (set (set y 0 (number_word why)) 1 (number_word used)) 2 (number_word done)) 3 (number_word rows)
      | false ↦ y
    ]

abbrev pub ended_in : List ℤ → Ended → CalledMany
ended_in y e =
    let s = e.after in
    called_many (why_number e.why) s.nodes s.links s.values s.cells s.rows s.answers (many_replied y (why_number e.why) s.used s.done s.ran)

-- too short a reply: nothing is done
unfoldable pub calls_in : List ℕ → List ℕ → List ℤ → List ℤ → List ℤ → List ℤ → List ℤ → List ℤ → CalledMany
calls_in n l v c rows list answers y =
    elim (fits_reply y) [
      | true ↦ ended_in y (series_in n l v c rows list answers)
      | false ↦ called_many no_reply n l v c rows answers y
    ]
