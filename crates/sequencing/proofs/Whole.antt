-- WHOLE: a series that says its list is over has used every word of it, so the number of commands that its definition counts down never cuts
-- a list short. Assumes nothing.
use mathlib.Core.Path.{◌≡◌, refl, ap, ◌∙◌}
use mathlib.Core.List.{List}
use Prim.Native.Nat.{ℕ, zero, suc, ◌+◌, ◌*◌, ◌≤◌}
use native.Mathlib.Omega.{arith}
use lib.IntN.{ℤ}
use lib.ListN.{length, drop, length-drop}
use Rattle.operating.specs.Log.{row_words}
use Rattle.commanding.specs.Command.{command_in}
use Rattle.sequencing.specs.declared.steps.Why.TheVariants.{Over}
use Rattle.sequencing.specs.declared.steps.Step.{Step}
use Rattle.sequencing.specs.declared.steps.Step.TheVariants.{Stopped, Done}
use Rattle.sequencing.specs.Steps.{answer_words}
use Rattle.sequencing.specs.Series.{Going, Ended, ended, step_of, further, series_from, series_in}
use Rattle.sequencing.proofs.ListLaws.{words_inside, over_empty}
use Rattle.sequencing.proofs.StepLaws.{over_is, done_is}

module _ (list : List ℤ) where
  all_used : (s : Going) → s.used ≤ length list → (step_of list s).step ≡ Stopped Over → s.used ≡ length list
  unfolding step_of
  all_used s h e =
      let g = drop (s.ran * row_words) s.rows in
      let none = over_empty (drop s.used list) (over_is (command_in s.nodes s.links s.values s.cells g) _ _ _ _ _ _ (drop (s.done * answer_words) s.answers) e) in
      omega (arith, none, length-drop s.used list, h)

  -- a command that is done takes a word at least, and no word that is not there
  some_used : (s : Going) (words runs : ℕ) → s.used ≤ length list → (step_of list s).step ≡ Done words runs → (1 ≤ words) × (s.used + words ≤ length list)
  unfolding step_of
  some_used s words runs h e =
      let g = drop (s.ran * row_words) s.rows in
      let w = done_is (command_in s.nodes s.links s.values s.cells g) _ _ _ _ _ (drop s.used list) (drop (s.done * answer_words) s.answers) words runs e in
      let i = words_inside (drop s.used list) w.k w.here in
      (omega (arith, w.words_are), omega (arith, i, w.words_are, length-drop s.used list, h))

  from_whole : (k : ℕ) (s : Going) → length list ≤ s.used + k → s.used ≤ length list → (series_from k list s).why ≡ Over → (series_from k list s).after.used ≡ length list
  unfolding series_from further
  from_whole zero s m h = λ e. omega arith
  from_whole (suc k) s m h = go (step_of list s).step refl (λ words runs a b e. from_whole k (further s words runs (step_of list s)) a b e)
    where
      next : Step → Ended
      next x = elim x [ Stopped why ↦ ended why s | Done words runs ↦ series_from k list (further s words runs (step_of list s)) ]

      -- the commands that come
      Rest : Type 0
      Rest = (words runs : ℕ) → length list ≤ s.used + words + k → s.used + words ≤ length list → (next (Done words runs)).why ≡ Over → (next (Done words runs)).after.used ≡ length list

      go : (x : Step) → (step_of list s).step ≡ x → Rest → (next x).why ≡ Over → (next x).after.used ≡ length list
      go (Stopped w) q rest e = all_used s h (q ∙ ap Stopped e)
      go (Done words runs) q rest e = let u = some_used s words runs h q in rest words runs (omega (arith, m, u.0)) u.1 e

pub whole : (n l : List ℕ) (v c rows list answers : List ℤ) → let e = series_in n l v c rows list answers in e.why ≡ Over → e.after.used ≡ length list
unfolding series_in
whole n l v c rows list answers e = from_whole list (length list) _ (omega arith) (omega arith) e
