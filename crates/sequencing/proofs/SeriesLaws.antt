-- A series, step by step: on tables that are tested once, each step is the one that tests them. Assumes nothing.
use mathlib.Core.Path.{◌≡◌, refl, sym, ap, ◌∙◌}
use mathlib.Core.Bool.{Bool, true, false}
use mathlib.Core.List.{List, [], ◌∷◌, ◌++◌}
use Prim.Native.Nat.{ℕ, zero, suc, ◌+◌, ◌*◌, ◌-◌, ◌≤◌, ◌<◌}
use native.Mathlib.Omega.{arith}
use lib.IntN.{ℤ}
use lib.ListN.{length, take, drop, length-drop, take-append-drop}
use borrow.Rule.Slice.PartMut.{mid_of, put_mid}
use Rattle.meaning.specs.Refusals.{table, first, refusal}
use Rattle.operating.specs.Log.{row_words}
use Rattle.operating.proofs.RunLaws.{rest_of, put_rest}
use Rattle.commanding.specs.Tables.{well_formed_in}
use Rattle.commanding.specs.Command.{Answered, refused, refusal_in, answer, command_on, command_in}
use Rattle.commanding.proofs.LentLog.{runs_fit}
use Rattle.structure.specs.Histories.{tables_after}
use Rattle.structure.proofs.Histories.{accepted_stays}
use Rattle.sequencing.specs.declared.steps.Why.{Why}
use Rattle.sequencing.specs.declared.steps.Why.TheVariants.{Over}
use Rattle.sequencing.specs.declared.steps.Step.{Step}
use Rattle.sequencing.specs.declared.steps.Step.TheVariants.{Stopped, Done}
use Rattle.sequencing.specs.Lists.{first_of}
use Rattle.sequencing.specs.Steps.{answer_words, Stepped, stepped, step_by}
use Rattle.sequencing.specs.Series.{Going, going, ended, step_of, further, series_from}
use Rattle.sequencing.proofs.ListLaws.{none_left, words_inside}
use Rattle.sequencing.proofs.StepLaws.{at_end, stopped_is, done_is}

-- ---- the test stays true, and stays false: what is not well formed is refused, and so unchanged
module _ (n l : List ℕ) (v c g ws : List ℤ) where
  not_formed : well_formed_in n l v c ≡ false → command_in n l v c g ws ≡ refused 1 n l v c g
  unfolding command_in refusal_in refusal table first answer
  not_formed e = ap (λ (b : Bool). command_on b n l v c g ws) e

  abbrev tested : Answered → Bool
  tested a = well_formed_in a.nodes a.links a.values a.cells

  pub formed_stays : tested (command_in n l v c g ws) ≡ well_formed_in n l v c
  unfolding tables_after
  formed_stays = go (well_formed_in n l v c) refl
    where
      go : (b : Bool) → well_formed_in n l v c ≡ b → tested (command_in n l v c g ws) ≡ well_formed_in n l v c
      go true e = accepted_stays ((g, ws) ∷ []) (record { nodes = n; links = l; values = v; cells = c }) e ∙ sym e
      go false e = ap tested (not_formed e)

pub series_start : (list : List ℤ) (s : Going) → series_from (length list - 0) list s ≡ series_from (length list) list s
series_start list s = let e : length list - 0 ≡ length list = omega arith in ap (λ (k : ℕ). series_from k list s) e

-- a part from a on, put back as it was
back : (a : ℕ) (xs : List ℤ) → a ≤ length xs → put_mid a (length xs - a) xs (drop a xs) ≡ xs
back a xs h = put_rest a xs (drop a xs) h ∙ take-append-drop a xs

module _ (list : List ℤ) (n l : List ℕ) (v c rows answers : List ℤ) (used done ran : ℕ) where
  abbrev at : ℕ
  at = ran * row_words

  abbrev to : ℕ
  to = done * answer_words

  abbrev here : Going
  here = going n l v c rows answers used done ran

  -- the untested step of the code is the step
  pub step_of_table : (b : Bool) → b ≡ well_formed_in n l v c → {t : Stepped} → t ≡ step_by (command_on b n l v c (mid_of at (length rows - at) rows)) n l v c (mid_of at (length rows - at) rows) (mid_of used (length list - used) list) (mid_of to (length answers - to) answers) → t ≡ step_of list here
  unfolding step_of command_in refusal_in
  step_of_table b e q =
      q
      ∙ ap (λ (g : List ℤ). step_by (command_on b n l v c g) n l v c g (mid_of used (length list - used) list) (mid_of to (length answers - to) answers)) (rest_of at rows)
      ∙ ap (λ (z : List ℤ). step_by (command_on b n l v c (drop at rows)) n l v c (drop at rows) z (mid_of to (length answers - to) answers)) (rest_of used list)
      ∙ ap (λ (y : List ℤ). step_by (command_on b n l v c (drop at rows)) n l v c (drop at rows) (drop used list) y) (rest_of to answers)
      ∙ ap (λ (b : Bool). step_by (command_on b n l v c (drop at rows)) n l v c (drop at rows) (drop used list) (drop to answers)) e

  stops : (k : ℕ) (w : Why) → 0 < k → (step_of list here).step ≡ Stopped w → series_from k list here ≡ ended w here
  unfolding series_from
  stops zero w h e = absurd (omega arith)
  stops (suc k) w h e = rw (e, series_from)

  goes : (k : ℕ) (words runs : ℕ) → 0 < k → (step_of list here).step ≡ Done words runs → series_from k list here ≡ series_from (k - 1) list (further here words runs (step_of list here))
  unfolding series_from
  goes zero words runs h e = absurd (omega arith)
  goes (suc k) words runs h e =
      let m : k ≡ suc k - 1 = omega arith in
      ap (λ (x : Step). elim x [ Stopped w ↦ ended w here | Done i j ↦ series_from k list (further here i j (step_of list here)) ]) e
      ∙ ap (λ (j : ℕ). series_from j list (further here words runs (step_of list here))) m

  -- the list is over
  pub is_over : (k : ℕ) → length list ≤ used → ended Over here ≡ series_from k list here
  unfolding series_from step_of
  is_over zero h = refl
  is_over (suc k) h =
      let g = drop at rows in
      let none : length (drop used list) ≡ 0 = omega (arith, length-drop used list) in
      let e = at_end (command_in n l v c g) n l v c g (drop used list) (drop to answers) (none_left (drop used list) none) refl in
      sym (stops (suc k) Over (omega arith) (ap (λ (t : Stepped). t.step) (sym e)))

  -- the words of a series that goes on after a step
  abbrev after : Stepped → ℕ → ℕ → ℕ → Going
  after t u d r = going t.nodes t.links t.values t.cells (put_mid at (length rows - at) rows t.log) (put_mid to (length answers - to) answers t.answers) u d r

  module _ (rows_fit : ran * 2 ≤ length rows) (answers-fit : done * 3 ≤ length answers) {t : Stepped} (q : t ≡ step_of list here) where
    pub stop_here : (k : ℕ) (w : Why) → 0 < k → t.step ≡ Stopped w → ended w (after t used done ran) ≡ series_from k list here
    unfolding step_of
    stop_here k w h e =
        let g = drop at rows in
        let y = drop to answers in
        let s : (step_of list here).step ≡ Stopped w = ap (λ (i : Stepped). i.step) (sym q) ∙ e in
        let z : t ≡ stepped (Stopped w) n l v c g y = q ∙ stopped_is (command_in n l v c g) n l v c g (drop used list) y w s in
        ap (λ (i : Stepped). ended w (after i used done ran)) z
        ∙ ap (λ (x : List ℤ). ended w (going n l v c x (put_mid to (length answers - to) answers y) used done ran)) (back at rows rows_fit)
        ∙ ap (λ (x : List ℤ). ended w (going n l v c rows x used done ran)) (back to answers answers-fit)
        ∙ sym (stops k w h s)

    pub go_on : (k words runs : ℕ) → 0 < k → t.step ≡ Done words runs → series_from (k - 1) list (after t (used + words) (done + 1) (ran + runs)) ≡ series_from k list here
    unfolding further
    go_on k words runs h e =
        let s : (step_of list here).step ≡ Done words runs = ap (λ (i : Stepped). i.step) (sym q) ∙ e in
        ap (λ (x : List ℤ). series_from (k - 1) list (going t.nodes t.links t.values t.cells x (put_mid to (length answers - to) answers t.answers) (used + words) (done + 1) (ran + runs))) (put_rest at rows t.log rows_fit)
        ∙ ap (λ (x : List ℤ). series_from (k - 1) list (going t.nodes t.links t.values t.cells (take at rows ++ t.log) x (used + words) (done + 1) (ran + runs))) (put_rest to answers t.answers answers-fit)
        ∙ ap (λ (i : Stepped). series_from (k - 1) list (further here words runs i)) q
        ∙ sym (goes k words runs h s)

    -- a command that was done lay in the list, its rows in the rows, its answer in the answers; and the tables are as formed as before
    pub record Went (words runs : ℕ) : Type 0 where
      pub some : 0 < words
      pub inside : used + words ≤ length list
      pub rows_inside : (ran + runs) * 2 ≤ length rows
      pub answers_inside : (done + 1) * 3 ≤ length answers
      pub formed : well_formed_in t.nodes t.links t.values t.cells ≡ well_formed_in n l v c

    pub went : (words runs : ℕ) → used ≤ length list → t.step ≡ Done words runs → Went words runs
    unfolding step_of
    went words runs h e =
        let g = drop at rows in
        let y = drop to answers in
        let s : (step_of list here).step ≡ Done words runs = ap (λ (i : Stepped). i.step) (sym q) ∙ e in
        let w = done_is (command_in n l v c g) n l v c g (drop used list) y words runs s in
        let in_List = words_inside (drop used list) w.k w.here in
        let fit = runs_fit n l v c g (first_of w.k (drop used list)) in
        record {
          some = omega (arith, w.words_are);
          inside = omega (arith, in_List, w.words_are, length-drop used list, h);
          rows_inside = omega (arith, fit, w.runs_are, length-drop at rows, rows_fit);
          answers_inside = omega (arith, w.room, length-drop to answers, answers-fit);
          formed = ap (λ (i : Stepped). well_formed_in i.nodes i.links i.values i.cells) (q ∙ w.came) ∙ formed_stays n l v c g (first_of w.k (drop used list));
        }
