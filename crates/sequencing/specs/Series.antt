-- Many commands, one by one: each as `command_in` answers it on what the one before it left.
use Rattle.std.specs.Prelude.{List, ◌++◌, ℕ, zero, suc, ◌+◌, ◌*◌, ℤ, length, take, drop}
use Rattle.operating.specs.Log.{row_words}
use Rattle.commanding.specs.Command.{command_in}
use Rattle.sequencing.specs.declared.steps.Why.{Why}
use Rattle.sequencing.specs.declared.steps.Why.TheVariants.{Over}
use Rattle.sequencing.specs.declared.steps.Step.TheVariants.{Stopped, Done}
use Rattle.sequencing.specs.Steps.{answer_words, Stepped, step_by}

-- every lent word, and how far it is: words of the list used, commands done, rows written
pub record Going : Type 0 where
  pub nodes : List ℕ
  pub links : List ℕ
  pub values : List ℤ
  pub cells : List ℤ
  pub rows : List ℤ
  pub answers : List ℤ
  pub used : ℕ
  pub done : ℕ
  pub ran : ℕ

abbrev pub going : List ℕ → List ℕ → List ℤ → List ℤ → List ℤ → List ℤ → ℕ → ℕ → ℕ → Going
going n l v c g y u d r = record { nodes = n; links = l; values = v; cells = c; rows = g; answers = y; used = u; done = d; ran = r }

pub record Ended : Type 0 where
  pub why : Why
  pub after : Going

abbrev pub ended : Why → Going → Ended
ended w s = record { why = w; after = s }

-- the next command is lent what is left of the rows and of the answers
unfoldable pub step_of : List ℤ → Going → Stepped
step_of list s =
    let g = drop (s.ran * row_words) s.rows in
    let y = drop (s.done * answer_words) s.answers in
    step_by (command_in s.nodes s.links s.values s.cells g) s.nodes s.links s.values s.cells g (drop s.used list) y

-- after it: k words more are used, r rows more are written
unfoldable pub further : Going → ℕ → ℕ → Stepped → Going
further s k r t =
    going t.nodes t.links t.values t.cells (take (s.ran * row_words) s.rows ++ t.log) (take (s.done * answer_words) s.answers ++ t.answers) (s.used + k) (s.done + 1) (s.ran + r)

-- at most k commands
unfoldable pub series_from : ℕ → List ℤ → Going → Ended
series_from zero list s = ended Over s
series_from (suc k) list s = elim (step_of list s).step [ Stopped why ↦ ended why s | Done words runs ↦ series_from k list (further s words runs (step_of list s)) ]

-- a list has no more commands than words
unfoldable pub series_in : List ℕ → List ℕ → List ℤ → List ℤ → List ℤ → List ℤ → List ℤ → Ended
series_in n l v c rows list answers = series_from (length list) list (going n l v c rows answers 0 0 0)
