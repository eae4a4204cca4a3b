-- INSIDE: what a series says it has used and written lies inside what it was lent, and the lent rows and answers keep their lengths: whoever
-- reads as many answers and rows as it says stays inside. Assumes nothing.
use mathlib.Core.Path.{◌≡◌, refl, ap, ◌∙◌}
use mathlib.Core.Bool.{Bool, true, false}
use mathlib.Core.List.{List, ◌++◌}
use Prim.Native.Nat.{ℕ, zero, suc, ◌*◌, ◌≤◌}
use native.Mathlib.Omega.{arith}
use lib.Dec.{leb}
use lib.IntN.{ℤ}
use lib.ListN.{length, take, drop, length-set, length-take, length-drop, length-append}
use Rattle.operating.specs.Log.{row_words}
use Rattle.commanding.specs.Command.{command_in}
use Rattle.commanding.proofs.LentLog.{log_long, runs_fit}
use Rattle.sequencing.specs.declared.steps.Step.{Step}
use Rattle.sequencing.specs.declared.steps.Step.TheVariants.{Stopped, Done}
use Rattle.sequencing.specs.Lists.{first_of}
use Rattle.sequencing.specs.Steps.{answer_words, written, Stepped}
use Rattle.sequencing.specs.Series.{Going, Ended, ended, step_of, further, series_from, series_in}
use Rattle.sequencing.proofs.ListLaws.{words_inside}
use Rattle.sequencing.proofs.StepLaws.{done_is}

-- of lent words: list, rows and answers
pub record Inside (list rows answers : List ℤ) (s : Going) : Type 0 where
  pub used_inside : s.used ≤ length list
  pub rows_inside : s.ran * row_words ≤ length rows
  pub answers_inside : s.done * answer_words ≤ length answers
  pub rows_long : length s.rows ≡ length rows
  pub answers_long : length s.answers ≡ length answers

written_long : (y : List ℤ) (code : ℕ) (value : ℤ) (runs : ℕ) → length (written y code value runs) ≡ length y
unfolding written
written_long y code value runs = go (leb answer_words (length y)) refl
  where
    go : (b : Bool) → leb answer_words (length y) ≡ b → length (written y code value runs) ≡ length y
    go true e = rw (e, written) (simp length-set)
    go false e = rw (e, written)

-- a part from a on, in the place of one as long
part_long : (a : ℕ) (xs ys : List ℤ) → a ≤ length xs → length ys ≡ length (drop a xs) → length (take a xs ++ ys) ≡ length xs
part_long a xs ys h e = omega (arith, length-append (take a xs) ys, length-take a xs, length-drop a xs, e, h)

module _ (list rows answers : List ℤ) where
  further_inside : (s : Going) (words runs : ℕ) → Inside list rows answers s → (step_of list s).step ≡ Done words runs → Inside list rows answers (further s words runs (step_of list s))
  unfolding step_of further
  further_inside s words runs i e =
      let g = drop (s.ran * row_words) s.rows in
      let y = drop (s.done * answer_words) s.answers in
      let answering = command_in s.nodes s.links s.values s.cells g in
      let w = done_is answering s.nodes s.links s.values s.cells g (drop s.used list) y words runs e in
      let ws = first_of w.k (drop s.used list) in
      let in_List = words_inside (drop s.used list) w.k w.here in
      let fit = runs_fit s.nodes s.links s.values s.cells g ws in
      let log = ap (λ (t : Stepped). length t.log) w.came ∙ log_long s.nodes s.links s.values s.cells g ws in
      let said = ap (λ (t : Stepped). length t.answers) w.came ∙ written_long y (answering ws).code (answering ws).value (answering ws).runs in
      record {
        used_inside = omega (arith, in_List, w.words_are, length-drop s.used list, i.used_inside);
        rows_inside = omega (arith, fit, w.runs_are, length-drop (s.ran * row_words) s.rows, i.rows_inside, i.rows_long);
        answers_inside = omega (arith, w.room, length-drop (s.done * answer_words) s.answers, i.answers_inside, i.answers_long);
        rows_long = part_long (s.ran * row_words) s.rows _ (omega (arith, i.rows_inside, i.rows_long)) log ∙ i.rows_long;
        answers_long = part_long (s.done * answer_words) s.answers _ (omega (arith, i.answers_inside, i.answers_long)) said ∙ i.answers_long;
      }

  from_inside : (k : ℕ) (s : Going) → Inside list rows answers s → Inside list rows answers (series_from k list s).after
  unfolding series_from
  from_inside zero s i = i
  from_inside (suc k) s i = go (step_of list s).step refl (λ words runs h. from_inside k (further s words runs (step_of list s)) h)
    where
      next : Step → Ended
      next x = elim x [ Stopped why ↦ ended why s | Done words runs ↦ series_from k list (further s words runs (step_of list s)) ]

      Rest : Type 0
      Rest = (words runs : ℕ) → Inside list rows answers (further s words runs (step_of list s)) → Inside list rows answers (next (Done words runs)).after

      go : (x : Step) → (step_of list s).step ≡ x → Rest → Inside list rows answers (next x).after
      go (Stopped w) q rest = i
      go (Done words runs) q rest = rest words runs (further_inside s words runs i q)

pub inside : (n l : List ℕ) (v c rows list answers : List ℤ) → Inside list rows answers (series_in n l v c rows list answers).after
unfolding series_in
inside n l v c rows list answers = from_inside list rows answers (length list) _ (record { used_inside = omega arith; rows_inside = omega arith; answers_inside = omega arith; rows_long = refl; answers_long = refl })
