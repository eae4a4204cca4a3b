-- No engine that keeps the promise of `command` is one of document 01's five wrong ones: each breaks it on one script. Assumes nothing.
use mathlib.Core.Path.{◌≡◌, refl, sym, ap, ◌∙◌}
use mathlib.Core.List.{List}
use Prim.Native.Nat.{ℕ, ◌*◌}
use native.Mathlib.Omega.{arith}
use lib.IntN.{ℤ, pos}
use lib.ListN.{replicate, get_or}
use Rattle.meaning.specs.Words.{node_of}
use Rattle.meaning.specs.Cases.{small, rows, signal_w, effect_w, set_w, read_w, unowned}
use Rattle.trees.specs.Trees.{read}
use Rattle.operating.specs.Log.{row_words}
use Rattle.commanding.specs.Command.{Answered}
use Rattle.cases.specs.Scripts.{Lent, left, empty_tables, answered}
use Rattle.cases.specs.Wrong.{Engine, Keeps, RefusesEverything, ReadsBackZero, StoresNothing, SettlesFirstFlush, InventsRuns, idle, numbers}
use Rattle.cases.proofs.AllCases.{tried_numbers_lem}

-- the answers one by one, and the tables between them
abbrev t0 : Lent
t0 = empty_tables small

abbrev t1 : Lent
t1 = left (answered rows t0 (signal_w (pos 5)))

abbrev t2 : Lent
t2 = left (answered rows t1 (effect_w unowned (read 0)))

abbrev t3 : Lent
t3 = left (answered rows t2 (read_w 0))

abbrev t4 : Lent
t4 = left (answered rows t3 (set_w 0 (pos 6)))

abbrev t5 : Lent
t5 = left (answered rows t4 (set_w 0 (pos 7)))

abbrev t6 : Lent
t6 = left (answered rows t5 (set_w 0 (pos 7)))

abbrev three : Answered → ℕ × ℤ × ℕ
three a = (a.code, a.value, a.runs)

abbrev at : ℕ → List (ℕ × ℤ × ℕ) → ℕ × ℤ × ℕ
at k xs = get_or xs k (0, pos 0, 0)

made : three (answered rows t0 (signal_w (pos 5))) ≡ (0, pos 0, 0)
unfolding numbers
made = ap (at 0) tried_numbers_lem

first_read : three (answered rows t2 (read_w 0)) ≡ (0, pos 5, 0)
unfolding numbers
first_read = ap (at 2) tried_numbers_lem

first_flush : three (answered rows t3 (set_w 0 (pos 6))) ≡ (0, pos 0, 1)
unfolding numbers
first_flush = ap (at 3) tried_numbers_lem

second_flush : three (answered rows t4 (set_w 0 (pos 7))) ≡ (0, pos 0, 1)
unfolding numbers
second_flush = ap (at 4) tried_numbers_lem

same_again : three (answered rows t5 (set_w 0 (pos 7))) ≡ (0, pos 0, 0)
unfolding numbers
same_again = ap (at 5) tried_numbers_lem

last_read : three (answered rows t6 (read_w 0)) ≡ (0, pos 7, 0)
unfolding numbers
last_read = ap (at 6) tried_numbers_lem

-- no engine of the five keeps the promise
abbrev lent : List ℤ
lent = replicate (rows * row_words) (pos 0)

module _ (e : Engine) (keeps : Keeps e) where
  same : (t : Lent) (ws : List ℤ) → e t.nodes t.links t.values t.cells lent ws ≡ answered rows t ws
  unfolding answered
  same t ws = keeps t.nodes t.links t.values t.cells lent ws

  answers : (t : Lent) (ws : List ℤ) {k : ℕ × ℤ × ℕ} → three (answered rows t ws) ≡ k → three (e t.nodes t.links t.values t.cells lent ws) ≡ k
  answers t ws p = ap three (same t ws) ∙ p

  pub not_everything_refused : RefusesEverything e → ⊥
  not_everything_refused h = h t0.nodes t0.links t0.values t0.cells lent (signal_w (pos 5)) (λ i. (answers t0 (signal_w (pos 5)) made i).0)

  pub not_zero_read : ReadsBackZero e → ⊥
  not_zero_read h =
      let p : (e t6.nodes t6.links t6.values t6.cells lent (read_w 0)).value ≡ pos 7 = λ i. (answers t6 (read_w 0) last_read i).1 in
      let z : ◌≡◌ {A = ℕ} 7 0 = ap node_of (sym p ∙ h t6.nodes t6.links t6.values t6.cells lent 0) in
      absurd (omega arith)

  -- the second read would be the first
  pub something_stored : StoresNothing e → ⊥
  something_stored h =
      let stays : (t : Lent) (ws : List ℤ) → left (answered rows t ws) ≡ t = λ t ws. ap left (sym (same t ws)) ∙ h t.nodes t.links t.values t.cells lent ws in
      let k : t6 ≡ t2 = stays t5 (set_w 0 (pos 7)) ∙ stays t4 (set_w 0 (pos 7)) ∙ stays t3 (set_w 0 (pos 6)) ∙ stays t2 (read_w 0) in
      let p : three (answered rows t6 (read_w 0)) ≡ (0, pos 5, 0) = ap (λ (t : Lent). three (answered rows t (read_w 0))) k ∙ first_read in
      let z : ◌≡◌ {A = ℕ} 7 5 = ap (λ (a : ℕ × ℤ × ℕ). node_of a.1) (sym last_read ∙ p) in
      absurd (omega arith)

  pub second_flush_settled : SettlesFirstFlush e → ⊥
  second_flush_settled h =
      let a : Answered = e t3.nodes t3.links t3.values t3.cells lent (set_w 0 (pos 6)) in
      let ran : a.runs ≡ 1 = λ i. (answers t3 (set_w 0 (pos 6)) first_flush i).2 in
      let p : three (answered rows (left a) (set_w 0 (pos 7))) ≡ (0, pos 0, 1) =
      ap (λ (b : Answered). three (answered rows (left b) (set_w 0 (pos 7)))) (same t3 (set_w 0 (pos 6))) ∙ second_flush
      in
      let q = h t3.nodes t3.links t3.values t3.cells lent 0 0 (pos 6) (pos 7) (λ z. absurd (omega arith)) in
      let z : ◌≡◌ {A = ℕ} 1 0 = sym (λ i. (answers (left a) (set_w 0 (pos 7)) p i).2) ∙ q in
      absurd (omega arith)

  -- one command, which runs something the first time and nothing the second
  pub runs_not_invented : InventsRuns e → ⊥
  runs_not_invented (f, h) =
      let counted : (t : Lent) (k : ℕ × ℤ × ℕ) → three (answered rows t (set_w 0 (pos 7))) ≡ k → f lent (set_w 0 (pos 7)) ≡ k.2 =
      λ t k p. sym (h t.nodes t.links t.values t.cells lent (set_w 0 (pos 7))) ∙ (λ i. (answers t (set_w 0 (pos 7)) p i).2)
      in
      let z : ◌≡◌ {A = ℕ} 1 0 = sym (counted t4 _ second_flush) ∙ counted t5 _ same_again in
      absurd (omega arith)

-- and none of the five is said of nothing
pub idle_is_wrong : RefusesEverything idle × ReadsBackZero idle × StoresNothing idle × SettlesFirstFlush idle × InventsRuns idle
idle_is_wrong = (
  λ n l v c g ws h. absurd (omega arith),
  λ n l v c g k. refl,
  λ n l v c g ws. refl,
  λ n l v c g i j x y h. refl,
  (λ g ws. 0, λ n l v c g ws. refl),
)
