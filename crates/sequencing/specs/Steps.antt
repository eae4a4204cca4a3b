-- One step of a series: the first command of a list.
use Rattle.std.specs.Prelude.{true, false, List, ℕ, ◌+◌, eqb, leb, ℤ, length, set}
use Rattle.operating.specs.Log.{number_word}
use Rattle.commanding.specs.Command.{Answered}
use Rattle.sequencing.specs.declared.list.Next.TheVariants as next
use Rattle.sequencing.specs.declared.steps.Why.TheVariants as why
use Rattle.sequencing.specs.declared.steps.Step.{Step}
use Rattle.sequencing.specs.declared.steps.Step.TheVariants.{Stopped, Done}
use Rattle.sequencing.specs.Lists.{next_in, first_of}

-- ---- answers
abbrev pub answer_words : ℕ
answer_words = 3

-- code, value, number of runs, at the front of answers that have room for them
unfoldable pub written : List ℤ → ℕ → ℤ → ℕ → List ℤ
written y code value runs =
    elim (leb answer_words (length y)) [
      | true ↦ set (set (set y 0 (number_word code)) 1 value) 2 (number_word runs)
      | false ↦ y
    ]

-- ---- a step
-- what it comes to; and every word of the tables, the log and the answers after it
pub record Stepped : Type 0 where
  pub step : Step
  pub nodes : List ℕ
  pub links : List ℕ
  pub values : List ℤ
  pub cells : List ℤ
  pub log : List ℤ
  pub answers : List ℤ

abbrev pub stepped : Step → List ℕ → List ℕ → List ℤ → List ℤ → List ℤ → List ℤ → Stepped
stepped s n l v c g y = record { step = s; nodes = n; links = l; values = v; cells = c; log = g; answers = y }

-- the refusal of a command against which nothing else stands than the rows of the log
abbrev pub short_log : ℕ
short_log = 9

-- a command of k words was answered so
abbrev pub done_by : ℕ → Answered → List ℤ → Stepped
done_by k a y =
    stepped (Done (k + 1) a.runs) a.nodes a.links a.values a.cells a.log (written y a.code a.value a.runs)

-- answering: what the command of these words is answered on the tables n, l, v, c with the log g.
-- Where only rows are missing it is not answered, so that it can come again with more of them
unfoldable pub step_by : (List ℤ → Answered) → List ℕ → List ℕ → List ℤ → List ℤ → List ℤ → List ℤ → List ℤ → Stepped
step_by answering n l v c g list y =
    elim (next_in list) [
      | next.Over ↦ stepped (Stopped why.Over) n l v c g y
      | next.Bad ↦ stepped (Stopped why.List) n l v c g y
      | next.Words k ↦ elim (leb answer_words (length y)) [
        | true ↦ elim (eqb (answering (first_of k list)).code short_log) [
          | true ↦ stepped (Stopped why.Rows) n l v c g y
          | false ↦ done_by k (answering (first_of k list)) y
        ]
        | false ↦ stepped (Stopped why.Answers) n l v c g y
      ]
    ]
