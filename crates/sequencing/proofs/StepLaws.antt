-- The ways through a step, one law each; what a step that stopped and one that was done have come to. Assumes nothing.
use mathlib.Core.Path.{◌≡◌, refl, sym, ap, ◌∙◌, subst}
use mathlib.Core.Bool.{Bool, true, false}
use mathlib.Core.List.{List, [], ◌∷◌, ◌++◌}
use Prim.Native.Nat.{ℕ, zero, suc, ◌+◌, ◌-◌, ◌≤◌, ◌<◌}
use native.Mathlib.Omega.{arith}
use lib.Dec.{eqb, leb}
use lib.IntN.{ℤ}
use lib.ListN.{length, take, drop}
use borrow.Author.Tests.{eq-eqb, ne_eqb, eqb-true, eqb-false, le-leb, lt-leb, leb-true, leb-false}
use Rattle.operating.specs.Log.{number_word}
use Rattle.commanding.specs.Command.{Answered, refused, refusal_on, answer, command_on}
use Rattle.sequencing.specs.declared.list.Next.{Next}
use Rattle.sequencing.specs.declared.list.Next.TheVariants as next
use Rattle.sequencing.specs.declared.steps.Why.{Why}
use Rattle.sequencing.specs.declared.steps.Why.TheVariants as why
use Rattle.sequencing.specs.declared.steps.Step.{Step}
use Rattle.sequencing.specs.declared.steps.Step.TheVariants.{Stopped, Done}
use Rattle.sequencing.specs.Lists.{next_in, first_of}
use Rattle.sequencing.specs.Steps.{answer_words, written, Stepped, stepped, short_log, done_by, step_by}

-- ---- an answer
pub no_answer : (y : List ℤ) (code : ℕ) (value : ℤ) (runs : ℕ) → length y < answer_words → y ≡ written y code value runs
unfolding written
no_answer y code value runs h = rw (lt-leb _ _ h, written)

pub whole_answer : (y : List ℤ) (code : ℕ) (value : ℤ) (runs : ℕ) → answer_words ≤ length y → (number_word code ∷ value ∷ number_word runs ∷ []) ++ drop answer_words y ≡ written y code value runs
unfolding written
whole_answer [] code value runs h = absurd (omega (arith, h))
whole_answer (x ∷ []) code value runs h = absurd (omega (arith, h))
whole_answer (x ∷ z ∷ []) code value runs h = absurd (omega (arith, h))
whole_answer (x ∷ z ∷ w ∷ rest) code value runs h = rw (le-leb _ _ h, written) refl

-- ---- a step
module _ (f : List ℤ → Answered) (n l : List ℕ) (v c g list y : List ℤ) where
  module _ {x : Next} (found : x ≡ next_in list) where
    pub at_end : x ≡ next.Over → stepped (Stopped why.Over) n l v c g y ≡ step_by f n l v c g list y
    unfolding step_by
    at_end e = let q : next_in list ≡ next.Over = sym found ∙ e in rw (q, step_by)

    pub at_bad : x ≡ next.Bad → stepped (Stopped why.List) n l v c g y ≡ step_by f n l v c g list y
    unfolding step_by
    at_bad e = let q : next_in list ≡ next.Bad = sym found ∙ e in rw (q, step_by)

    module _ (k : ℕ) (e : x ≡ next.Words k) where
      pub no_room_left : length y < answer_words → stepped (Stopped why.Answers) n l v c g y ≡ step_by f n l v c g list y
      unfolding step_by
      no_room_left h = let q : next_in list ≡ next.Words k = sym found ∙ e in rw (q, step_by, lt-leb _ _ h)

      pub few_rows_lem : answer_words ≤ length y → (f (first_of k list)).code ≡ short_log → stepped (Stopped why.Rows) n l v c g y ≡ step_by f n l v c g list y
      unfolding step_by
      few_rows_lem h r = let q : next_in list ≡ next.Words k = sym found ∙ e in rw (q, step_by, le-leb _ _ h, eq-eqb _ _ r)

      pub answered_so : answer_words ≤ length y → ((f (first_of k list)).code ≡ short_log → ⊥) → done_by k (f (first_of k list)) y ≡ step_by f n l v c g list y
      unfolding step_by
      answered_so h r = let q : next_in list ≡ next.Words k = sym found ∙ e in rw (q, step_by, le-leb _ _ h, ne_eqb _ _ r)

  -- nothing was done, or one command; and the list is over only where nothing is left
  pub step_cases : (P : Stepped → Type 0) → ((w : Why) → (w ≡ why.Over → next_in list ≡ next.Over) → P (stepped (Stopped w) n l v c g y)) → ((k : ℕ) → next_in list ≡ next.Words k → answer_words ≤ length y → P (done_by k (f (first_of k list)) y)) → P (step_by f n l v c g list y)
  step_cases P stop go = on (next_in list) refl
    where
      other : {A : Type 0} → ◌≡◌ {A = ℕ} 0 1 → A
      other z = absurd (omega arith)

      coded : (k : ℕ) → next_in list ≡ next.Words k → answer_words ≤ length y → (b : Bool) → eqb (f (first_of k list)).code short_log ≡ b → P (step_by f n l v c g list y)
      coded k e h true r = subst P (few_rows_lem refl k e h (eqb-true _ _ r)) (stop why.Rows (λ z. other cc))
      coded k e h false r = subst P (answered_so refl k e h (eqb-false _ _ r)) (go k e h)

      room : (k : ℕ) → next_in list ≡ next.Words k → (b : Bool) → leb answer_words (length y) ≡ b → P (step_by f n l v c g list y)
      room k e true r = coded k e (leb-true _ _ r) (eqb (f (first_of k list)).code short_log) refl
      room k e false r = subst P (no_room_left refl k e (leb-false _ _ r)) (stop why.Answers (λ z. other cc))

      on : (x : Next) → next_in list ≡ x → P (step_by f n l v c g list y)
      on next.Over e = subst P (at_end refl e) (stop why.Over (λ z. e))
      on next.Bad e = subst P (at_bad refl e) (stop why.List (λ z. other cc))
      on (next.Words k) e = room k e (leb answer_words (length y)) refl

  pub stopped_is : (w : Why) → (step_by f n l v c g list y).step ≡ Stopped w → step_by f n l v c g list y ≡ stepped (Stopped w) n l v c g y
  stopped_is w =
      step_cases (λ (t : Stepped). t.step ≡ Stopped w → t ≡ stepped (Stopped w) n l v c g y)
      (λ u h e. ap (λ (s : Step). stepped s n l v c g y) e)
      (λ k e h z. let q : ◌≡◌ {A = ℕ} 0 1 = cc in absurd (omega arith))

  pub over_is : (step_by f n l v c g list y).step ≡ Stopped why.Over → next_in list ≡ next.Over
  over_is =
      step_cases (λ (t : Stepped). t.step ≡ Stopped why.Over → next_in list ≡ next.Over)
      (λ u h e. let q : u ≡ why.Over = cc in h q)
      (λ k e h z. let q : ◌≡◌ {A = ℕ} 0 1 = cc in absurd (omega arith))

  -- of a step that was done
  pub record Was (words runs : ℕ) : Type 0 where
    pub k : ℕ
    pub here : next_in list ≡ next.Words k
    pub room : answer_words ≤ length y
    pub words_are : words ≡ k + 1
    pub runs_are : runs ≡ (f (first_of k list)).runs
    pub came : step_by f n l v c g list y ≡ done_by k (f (first_of k list)) y

  pub done_is : (words runs : ℕ) → (step_by f n l v c g list y).step ≡ Done words runs → Was words runs
  done_is words runs = step_cases (λ (t : Stepped). t ≡ step_by f n l v c g list y → t.step ≡ Done words runs → Was words runs)
      (λ u i q e. let q : ◌≡◌ {A = ℕ} 0 1 = cc in absurd (omega arith))
      (λ k e h q z. let a : words ≡ k + 1 = cc in let b : runs ≡ (f (first_of k list)).runs = cc in record { k = k; here = e; room = h; words_are = a; runs_are = b; came = sym q })
      refl

-- ---- as the code does it: the command is answered first
pub unchanged : (n l : List ℕ) (v c g ws : List ℤ) (r : ℕ) → (answer r n l v c g ws).code ≡ short_log → answer r n l v c g ws ≡ refused short_log n l v c g
unfolding answer
unchanged n l v c g ws zero e = absurd (omega arith)
unchanged n l v c g ws (suc r) e = ap (λ (k : ℕ). refused k n l v c g) e

-- its words, cut out of the list
pub cut_is : (k : ℕ) (list : List ℤ) → take (k + 1 - 1) (drop 1 list) ≡ first_of k list
cut_is k list = let e : k + 1 - 1 ≡ k = omega arith in ap (λ (j : ℕ). take j (drop 1 list)) e

module _ (b : Bool) (n l : List ℕ) (v c g list y : List ℤ) {x : Next} (found : x ≡ next_in list) (k : ℕ) (e : x ≡ next.Words k) (room : answer_words ≤ length y) {a : Answered} (q : a ≡ command_on b n l v c g (take (k + 1 - 1) (drop 1 list))) where
  told : a ≡ command_on b n l v c g (first_of k list)
  told = q ∙ ap (command_on b n l v c g) (cut_is k list)

  pub step_rows : a.code ≡ short_log → stepped (Stopped why.Rows) a.nodes a.links a.values a.cells a.log y ≡ step_by (command_on b n l v c g) n l v c g list y
  step_rows z =
      let w : (command_on b n l v c g (first_of k list)).code ≡ short_log = ap (λ (i : Answered). i.code) (sym told) ∙ z in
      ap (λ (i : Answered). stepped (Stopped why.Rows) i.nodes i.links i.values i.cells i.log y) (told ∙ unchanged n l v c g (first_of k list) (refusal_on b n l c g (first_of k list)) w)
      ∙ few_rows_lem (command_on b n l v c g) n l v c g list y found k e room w

  pub step_done : {z : List ℤ} → (a.code ≡ short_log → ⊥) → z ≡ written y a.code a.value a.runs → stepped (Done (k + 1) a.runs) a.nodes a.links a.values a.cells a.log z ≡ step_by (command_on b n l v c g) n l v c g list y
  step_done {z} h w =
      ap (λ (i : List ℤ). stepped (Done (k + 1) a.runs) a.nodes a.links a.values a.cells a.log i) w
      ∙ ap (λ (i : Answered). done_by k i y) told
      ∙ answered_so (command_on b n l v c g) n l v c g list y found k e room (λ p. h (ap (λ (i : Answered). i.code) told ∙ p))
