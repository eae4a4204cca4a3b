-- The lent log, row by row: a run writes the next row, or none. Assumes nothing.
use mathlib.Core.Path.{◌≡◌, refl, sym, ap, ap₂, ◌∙◌, subst}
use mathlib.Core.Bool.{Bool, true, false}
use mathlib.Core.List.{List, [], ◌∷◌, ◌++◌, append_assoc}
use Prim.Native.Nat.{ℕ, ◌+◌, ◌*◌, ◌^◌, ◌<◌, ◌≤◌}
use native.Mathlib.Omega.{arith}
use lib.IntN.{ℤ, pos}
use lib.ListN.{length, take, drop, length-append, length-drop, take-append-drop}
use lib.Seq.{take_at, drop_at, drop-drop}
use borrow.Author.Tests.{le-leb}
use Rattle.values.specs.declared.Value.{Value}
use Rattle.reading.specs.Tables.{State}
use Rattle.operating.specs.Log.{Ran, ran_to, number_word, rowed, rows_in}
use Rattle.meaning.specs.State.{St, Row}
use Rattle.structure.specs.Logged.{words_of, Logged}
use Rattle.structure.proofs.Steps.{Sees}

-- what an operation left, over words and over lists: tables that represent the state, and its rows in the log l that was lent
pub record Leaves (l C : List ℤ) (a : Ran) (t : St) : Type 0 where
  pub sees : Sees [] a.after C t
  pub logs : Logged l t.log a.log a.rows

words_long : (rs : List Row) → length (words_of rs) ≡ length rs * 2
words_long [] = refl
words_long (r ∷ rs) = let e = words_long rs in omega arith

words_join : (rs qs : List Row) → words_of (rs ++ qs) ≡ words_of rs ++ words_of qs
words_join [] qs = refl
words_join (r ∷ rs) qs = ap (λ (z : List ℤ). words_of (r ∷ []) ++ z) (words_join rs qs)

-- a number of a node is written as it is
pub number_is : (e : ℕ) → e < 2 ^ 63 → number_word e ≡ pos e
unfolding number_word
number_is e h = ap pos (omega arith)

row_front : (m : List ℤ) (e : ℕ) (v : Value) → 2 ≤ length m → e < 2 ^ 63 → rowed m e v ≡ pos e ∷ v.word ∷ drop 2 m
unfolding rowed
row_front [] e v h k = absurd (omega arith)
row_front (a ∷ []) e v h k = absurd (omega arith)
row_front (a ∷ b ∷ m) e v h k = ap (λ (z : Bool). pick z) (le-leb 2 (length (a ∷ b ∷ m)) h) ∙ ap (λ (z : ℤ). z ∷ v.word ∷ m) (number_is e k)
  where
    pick : Bool → List ℤ
    pick z = elim z [ true ↦ number_word e ∷ v.word ∷ m | false ↦ a ∷ b ∷ m ]

one_row : (m : List ℤ) → 2 ≤ length m → rows_in m ≡ 1
unfolding rows_in
one_row m h = ap (λ (z : Bool). pick z) (le-leb 2 (length m) h)
  where
    pick : Bool → ℕ
    pick z = elim z [ true ↦ 1 | false ↦ 0 ]

module _ (l : List ℤ) where
  pub log_none : Logged l [] l 0
  log_none = record { fits = omega arith; rows = refl; words = refl }

  module _ (rs : List Row) (m : List ℤ) (k : ℕ) (w : Logged l rs m k) where
    ends : length (words_of rs) ≡ k * 2
    ends = let e = w.rows in words_long rs ∙ omega arith

    written : take (k * 2) m ≡ words_of rs
    written = ap (take (k * 2)) w.words ∙ take_at (words_of rs) (drop (length rs * 2) l) (k * 2) ends

    unwritten : drop (k * 2) m ≡ drop (length rs * 2) l
    unwritten = ap (drop (k * 2)) w.words ∙ drop_at (words_of rs) (drop (length rs * 2) l) (k * 2) ends

    pub log_same : Logged l rs (take (k * 2) m ++ drop (k * 2) m) (k + 0)
    log_same = record { fits = w.fits; rows = let e = w.rows in omega arith; words = take-append-drop (k * 2) m ∙ w.words }

    pub log_more : (r : Row) → length (rs ++ r ∷ []) * 2 ≤ length l → r.who < 2 ^ 63
        → Logged l (rs ++ r ∷ []) (take (k * 2) m ++ rowed (drop (k * 2) m) r.who r.worth) (k + rows_in (drop (k * 2) m))
    log_more r h low =
        let d = drop (length rs * 2) l in
        let n = length-append rs (r ∷ []) in
        let room : 2 ≤ length d = let e = length-drop (length rs * 2) l in omega arith in
        let room' : 2 ≤ length (drop (k * 2) m) = subst (λ (z : List ℤ). 2 ≤ length z) (sym unwritten) room in
        let one = one_row (drop (k * 2) m) room' in
        let past : length rs * 2 + 2 ≡ length (rs ++ r ∷ []) * 2 = omega arith in
        record {
          fits = h;
          rows = let e = w.rows in omega arith;
          words = ap₂ (λ (y z : List ℤ). y ++ rowed z r.who r.worth) written unwritten
              ∙ ap (λ (z : List ℤ). words_of rs ++ z) (row_front d r.who r.worth room low)
              ∙ sym (append_assoc (words_of rs) (words_of (r ∷ [])) (drop 2 d))
              ∙ ap₂ (λ (y z : List ℤ). y ++ z) (sym (words_join rs (r ∷ []))) (drop-drop 2 (length rs * 2) l ∙ ap (λ (z : ℕ). drop z l) past);
        }

-- nothing ran
pub quiet_leaves : (l C : List ℤ) (x : State) (s : St) → s.log ≡ [] → Sees [] x C s → Leaves l C (ran_to x l 0) s
quiet_leaves l C x s e r = record { sees = r; logs = subst (λ (rs : List Row). Logged l rs l 0) (sym e) (log_none l) }
