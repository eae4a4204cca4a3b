-- The words of a command, by what the code finds on its way; and the command in full from the code's enum and the words. Assumes nothing.
use Rattle.std.specs.Prelude.{Option, Some, None}
use mathlib.Core.Path.{◌≡◌, refl, sym, ap, ◌∙◌, subst}
use mathlib.Core.Bool.{Bool, true, false, cond}
use mathlib.Core.List.{List, [], ◌∷◌}
use Prim.Native.Nat.{ℕ, suc, ◌%◌, ◌≤◌}
use native.Mathlib.Omega.{arith}
use lib.Dec.{eqb}
use lib.IntN.{ℤ, pos, negsuc}
use lib.ListN.{length, get_or}
use borrow.Author.Tests.{eqb-true, eqb-false, eq-eqb, ne_eqb}
use Rattle.trees.specs.Cells.{natural_of}
use Rattle.trees.proofs.CellLaws.{natural_pos, natural_neg}
use Rattle.meaning.specs.Words.{Command as Meant, make_signal, make_computed, make_effect, make_scope, set_to, add_to, read_of, dispose_of, batch_start, batch_end, word, no_word, whole_cells, codes, command_of}
use Rattle.refusing.specs.declared.commands.Command.{Command}
use Rattle.refusing.specs.declared.commands.Command.TheVariants.{Signal, Computed, Effect, Scope, Set, Add, Read, Dispose, Start, End, Unknown}
use Rattle.refusing.specs.Commands.{number_of, takes_words, only_if, command_by, brief, told}
use Rattle.refusing.specs.Asked.{asked, from_asked, from_or, cells_from}

-- what holds of each of the eleven holds of all
pub each : (P : Command → Type 0) → ((k : ℤ) → P (Signal k)) → P Computed → ((o : ℤ) → P (Effect o)) → ((o : ℤ) → P (Scope o))
    → ((n k : ℤ) → P (Set n k)) → ((n k : ℤ) → P (Add n k)) → ((n : ℤ) → P (Read n)) → ((n : ℤ) → P (Dispose n)) → P Start → P End → P Unknown
    → (b : Command) → P b
each P p₁ p₂ p₃ p₄ p₅ p₆ p₇ p₈ p₉ p₁₀ p₀ (Signal k) = p₁ k
each P p₁ p₂ p₃ p₄ p₅ p₆ p₇ p₈ p₉ p₁₀ p₀ Computed = p₂
each P p₁ p₂ p₃ p₄ p₅ p₆ p₇ p₈ p₉ p₁₀ p₀ (Effect o) = p₃ o
each P p₁ p₂ p₃ p₄ p₅ p₆ p₇ p₈ p₉ p₁₀ p₀ (Scope o) = p₄ o
each P p₁ p₂ p₃ p₄ p₅ p₆ p₇ p₈ p₉ p₁₀ p₀ (Set n k) = p₅ n k
each P p₁ p₂ p₃ p₄ p₅ p₆ p₇ p₈ p₉ p₁₀ p₀ (Add n k) = p₆ n k
each P p₁ p₂ p₃ p₄ p₅ p₆ p₇ p₈ p₉ p₁₀ p₀ (Read n) = p₇ n
each P p₁ p₂ p₃ p₄ p₅ p₆ p₇ p₈ p₉ p₁₀ p₀ (Dispose n) = p₈ n
each P p₁ p₂ p₃ p₄ p₅ p₆ p₇ p₈ p₉ p₁₀ p₀ Start = p₉
each P p₁ p₂ p₃ p₄ p₅ p₆ p₇ p₈ p₉ p₁₀ p₀ End = p₁₀
each P p₁ p₂ p₃ p₄ p₅ p₆ p₇ p₈ p₉ p₁₀ p₀ Unknown = p₀

-- ---- how many words follow the code
abbrev one_word : (ℤ → Meant) → List ℤ → Option Meant
one_word f rest = word (λ x. no_word (f x)) rest

abbrev two_words : (ℤ → ℤ → Meant) → List ℤ → Option Meant
two_words f rest = word (λ x. one_word (f x)) rest

abbrev word_and_cells : (ℤ → List ℤ → Meant) → List ℤ → Option Meant
word_and_cells f rest = word (λ x. whole_cells (f x)) rest

-- ---- the number of a command
no_word_brief : (f : Meant) (k : ℕ) → number_of (brief (Some f)) ≡ k → (rest : List ℤ) → only_if (eqb (suc (length rest)) 1) k ≡ number_of (brief (no_word f rest))
unfolding number_of brief no_word
no_word_brief f k h [] = sym h
no_word_brief f k h (x ∷ zs) = let d : suc (suc (length zs)) ≡ 1 → ⊥ = λ e. omega arith in rw (ne_eqb (suc (suc (length zs))) 1 d)

one_word_lem : (f : ℤ → Meant) (k : ℕ) → ((x : ℤ) → number_of (brief (Some (f x))) ≡ k) → (rest : List ℤ)
    → only_if (eqb (suc (length rest)) 2) k ≡ number_of (brief (one_word f rest))
unfolding number_of brief word no_word
one_word_lem f k h [] = refl
one_word_lem f k h (x ∷ []) = sym (h x)
one_word_lem f k h (x ∷ y ∷ zs) = let d : suc (suc (suc (length zs))) ≡ 2 → ⊥ = λ e. omega arith in rw (ne_eqb (suc (suc (suc (length zs)))) 2 d)

two_words_lem : (f : ℤ → ℤ → Meant) (k : ℕ) → ((x y : ℤ) → number_of (brief (Some (f x y))) ≡ k) → (rest : List ℤ)
    → only_if (eqb (suc (length rest)) 3) k ≡ number_of (brief (two_words f rest))
unfolding number_of brief word no_word
two_words_lem f k h [] = refl
two_words_lem f k h (x ∷ []) = refl
two_words_lem f k h (x ∷ y ∷ []) = sym (h x y)
two_words_lem f k h (x ∷ y ∷ z ∷ zs) =
    let d : suc (suc (suc (suc (length zs)))) ≡ 3 → ⊥ = λ e. omega arith in rw (ne_eqb (suc (suc (suc (suc (length zs))))) 3 d)

whole : (rest : List ℤ) → only_if (eqb (suc (length rest) % 2) 1) 2 ≡ number_of (brief (whole_cells make_computed rest))
unfolding number_of brief whole_cells
whole rest = go (eqb (length rest % 2) 0) refl
  where
    go : (b : Bool) → eqb (length rest % 2) 0 ≡ b
        → only_if (eqb (suc (length rest) % 2) 1) 2 ≡ number_of (brief (elim b [ true ↦ Some (make_computed rest) | false ↦ None ]))
    go true e = let q = eqb-true (length rest % 2) 0 e in rw (eq-eqb (suc (length rest) % 2) 1 (omega arith))
    go false e = let q = eqb-false (length rest % 2) 0 e in rw (ne_eqb (suc (length rest) % 2) 1 (λ p. q (omega arith)))

word_and_whole : (rest : List ℤ) → only_if (eqb (suc (length rest) % 2) 0) 3 ≡ number_of (brief (word_and_cells make_effect rest))
unfolding number_of brief word whole_cells
word_and_whole [] = refl
word_and_whole (x ∷ rest) = go (eqb (length rest % 2) 0) refl
  where
    go : (b : Bool) → eqb (length rest % 2) 0 ≡ b
        → only_if (eqb (suc (suc (length rest)) % 2) 0) 3 ≡ number_of (brief (elim b [ true ↦ Some (make_effect x rest) | false ↦ None ]))
    go true e = let q = eqb-true (length rest % 2) 0 e in rw (eq-eqb (suc (suc (length rest)) % 2) 0 (omega arith))
    go false e = let q = eqb-false (length rest % 2) 0 e in rw (ne_eqb (suc (suc (length rest)) % 2) 0 (λ p. q (omega arith)))

-- it is the code, where the words are as many as that takes
number_row : (c k : ℕ) (x y : Bool) (s t : Option Meant) → only_if x k ≡ number_of (brief s) → only_if y c ≡ number_of (brief t)
    → only_if (cond (eqb c k) x y) c ≡ number_of (brief (cond (eqb c k) s t))
number_row c k x y s t p q = go (eqb c k) refl
  where
    go : (b : Bool) → eqb c k ≡ b → only_if (cond b x y) c ≡ number_of (brief (cond b s t))
    go true e = ap (only_if x) (eqb-true c k e) ∙ p
    go false e = q

number_codes : (c : ℕ) (rest : List ℤ) → only_if (takes_words c (suc (length rest))) c ≡ number_of (brief (codes c rest))
unfolding takes_words codes number_of brief
number_codes c rest =
    number_row c 1 _ _ _ _ (one_word_lem make_signal 1 (λ x. refl) rest)
    (number_row c 2 _ _ _ _ (whole rest)
    (number_row c 3 _ _ _ _ (word_and_whole rest)
    (number_row c 4 _ _ _ _ (one_word_lem make_scope 4 (λ x. refl) rest)
    (number_row c 5 _ _ _ _ (two_words_lem set_to 5 (λ x y. refl) rest)
    (number_row c 6 _ _ _ _ (two_words_lem add_to 6 (λ x y. refl) rest)
    (number_row c 7 _ _ _ _ (one_word_lem read_of 7 (λ x. refl) rest)
    (number_row c 8 _ _ _ _ (one_word_lem dispose_of 8 (λ x. refl) rest)
    (number_row c 9 _ _ _ _ (no_word_brief batch_start 9 refl rest)
    (number_row c 10 _ _ _ _ (no_word_brief batch_end 10 refl rest) refl)))))))))

module _ (ws : List ℤ) {r : Option ℕ} (found : r ≡ natural_of (get_or ws 0 (pos 0))) where
  pub code_none : r ≡ None → 0 ≡ number_of (brief (command_of ws))
  unfolding number_of brief command_of
  code_none e = go ws found
    where
      go : (ws : List ℤ) → r ≡ natural_of (get_or ws 0 (pos 0)) → 0 ≡ number_of (brief (command_of ws))
      go [] f = refl
      go (w ∷ rest) f = natural_neg w f (λ (z : ℤ). 0 ≡ number_of (brief (command_of (z ∷ rest)))) e (λ n. refl)

  module _ (c : ℕ) (is : r ≡ Some c) {b : Bool} (right : b ≡ takes_words c (length ws)) where
    by_code : only_if b c ≡ number_of (brief (command_of ws))
    unfolding command_of number_of brief
    by_code = go ws right (natural_pos (get_or ws 0 (pos 0)) found c is)
      where
        none_of : (b : Bool) → only_if b 0 ≡ 0
        none_of true = refl
        none_of false = refl

        go : (ws : List ℤ) → b ≡ takes_words c (length ws) → get_or ws 0 (pos 0) ≡ pos c → only_if b c ≡ number_of (brief (command_of ws))
        go [] f e = let z : 0 ≡ c = cc in subst (λ (x : ℕ). only_if b x ≡ 0) z (none_of b)
        go (w ∷ rest) f e = subst (λ (x : ℤ). only_if b c ≡ number_of (brief (command_of (x ∷ rest)))) (sym e) (ap (λ (x : Bool). only_if x c) f ∙ number_codes c rest)

    pub code_right : b ≡ true → c ≡ number_of (brief (command_of ws))
    code_right e = ap (λ (x : Bool). only_if x c) (sym e) ∙ by_code

    pub code_wrong : b ≡ false → 0 ≡ number_of (brief (command_of ws))
    code_wrong e = ap (λ (x : Bool). only_if x c) (sym e) ∙ by_code

-- ---- the command in full
-- the words give back what the enum leaves out, its number and two words give the enum, and its cells begin inside them
record Kept (ws : List ℤ) (x : Option Meant) : Type 0 where
  same : x ≡ told (brief x) ws
  numbered : command_by (number_of (brief x)) (get_or ws 1 (pos 0)) (get_or ws 2 (pos 0)) ≡ brief x
  inside : from_or (from_asked (asked (brief x))) (length ws) ≤ length ws

module _ (w : ℤ) where
  kept_none : (ws : List ℤ) → Kept ws None
  unfolding brief told asked number_of command_by
  kept_none ws = record { same = refl; numbered = refl; inside = omega arith }

  kept_no : (f : Meant) (ws : List ℤ) → Kept ws (Some f) → (rest : List ℤ) → Kept ws (no_word f rest)
  unfolding no_word
  kept_no f ws h [] = h
  kept_no f ws h (x ∷ zs) = kept_none ws

  kept_one : (f : ℤ → Meant) → ((x : ℤ) (zs : List ℤ) → Kept (w ∷ x ∷ zs) (Some (f x))) → (rest : List ℤ) → Kept (w ∷ rest) (one_word f rest)
  unfolding word
  kept_one f h [] = kept_none (w ∷ [])
  kept_one f h (x ∷ zs) = kept_no (f x) (w ∷ x ∷ zs) (h x zs) zs

  kept_two : (f : ℤ → ℤ → Meant) → ((x y : ℤ) (zs : List ℤ) → Kept (w ∷ x ∷ y ∷ zs) (Some (f x y))) → (rest : List ℤ) → Kept (w ∷ rest) (two_words f rest)
  unfolding word
  kept_two f h [] = kept_none (w ∷ [])
  kept_two f h (x ∷ []) = kept_none (w ∷ x ∷ [])
  kept_two f h (x ∷ y ∷ zs) = kept_no (f x y) (w ∷ x ∷ y ∷ zs) (h x y zs) zs

  kept_whole : (f : List ℤ → Meant) (ws rest : List ℤ) → Kept ws (Some (f rest)) → Kept ws (whole_cells f rest)
  unfolding whole_cells
  kept_whole f ws rest h = go (eqb (length rest % 2) 0)
    where
      go : (b : Bool) → Kept ws (elim b [ true ↦ Some (f rest) | false ↦ None ])
      go true = h
      go false = kept_none ws

  kept_effect : (rest : List ℤ) → Kept (w ∷ rest) (word_and_cells make_effect rest)
  unfolding word brief told asked number_of command_by
  kept_effect [] = kept_none (w ∷ [])
  kept_effect (x ∷ rest) = kept_whole (make_effect x) (w ∷ x ∷ rest) rest record { same = refl; numbered = refl; inside = omega arith }

  kept_row : (ws : List ℤ) (b : Bool) (x y : Option Meant) → Kept ws x → Kept ws y → Kept ws (cond b x y)
  kept_row ws true x y p q = p
  kept_row ws false x y p q = q

  kept_codes : (c : ℕ) (rest : List ℤ) → Kept (w ∷ rest) (codes c rest)
  unfolding codes brief told asked number_of command_by
  kept_codes c rest =
      kept_row (w ∷ rest) (eqb c 1) _ _ (kept_one make_signal (λ x zs. record { same = refl; numbered = refl; inside = omega arith }) rest)
      (kept_row (w ∷ rest) (eqb c 2) _ _ (kept_whole make_computed (w ∷ rest) rest record { same = refl; numbered = refl; inside = omega arith })
      (kept_row (w ∷ rest) (eqb c 3) _ _ (kept_effect rest)
      (kept_row (w ∷ rest) (eqb c 4) _ _ (kept_one make_scope (λ x zs. record { same = refl; numbered = refl; inside = omega arith }) rest)
      (kept_row (w ∷ rest) (eqb c 5) _ _ (kept_two set_to (λ x y zs. record { same = refl; numbered = refl; inside = omega arith }) rest)
      (kept_row (w ∷ rest) (eqb c 6) _ _ (kept_two add_to (λ x y zs. record { same = refl; numbered = refl; inside = omega arith }) rest)
      (kept_row (w ∷ rest) (eqb c 7) _ _ (kept_one read_of (λ x zs. record { same = refl; numbered = refl; inside = omega arith }) rest)
      (kept_row (w ∷ rest) (eqb c 8) _ _ (kept_one dispose_of (λ x zs. record { same = refl; numbered = refl; inside = omega arith }) rest)
      (kept_row (w ∷ rest) (eqb c 9) _ _ (kept_no batch_start (w ∷ rest) record { same = refl; numbered = refl; inside = omega arith } rest)
      (kept_row (w ∷ rest) (eqb c 10) _ _ (kept_no batch_end (w ∷ rest) record { same = refl; numbered = refl; inside = omega arith } rest)
      (kept_none (w ∷ rest)))))))))))

kept : (ws : List ℤ) → Kept ws (command_of ws)
unfolding command_of
kept [] = kept_none (pos 0) []
kept (pos c ∷ rest) = kept_codes (pos c) c rest
kept (negsuc c ∷ rest) = kept_none (pos 0) (negsuc c ∷ rest)

-- the enum and the words are the command
pub told_is : (ws : List ℤ) → command_of ws ≡ told (brief (command_of ws)) ws
told_is ws = (kept ws).same

-- and the number and two words are the enum
pub numbered_is : (ws : List ℤ) → command_by (number_of (brief (command_of ws))) (get_or ws 1 (pos 0)) (get_or ws 2 (pos 0)) ≡ brief (command_of ws)
numbered_is ws = (kept ws).numbered

-- by the number, where there is one
module _ (ws : List ℤ) {k : ℕ} (number : k ≡ number_of (brief (command_of ws))) where
  pub by_number : command_by k (get_or ws 1 (pos 0)) (get_or ws 2 (pos 0)) ≡ brief (command_of ws)
  by_number = ap (λ (k : ℕ). command_by k (get_or ws 1 (pos 0)) (get_or ws 2 (pos 0))) number ∙ numbered_is ws

  pub none_by : k ≡ 0 → Unknown ≡ brief (command_of ws)
  unfolding command_by
  none_by z = rw z at by_number

pub from_inside : (ws : List ℤ) → cells_from ws ≤ length ws
unfolding cells_from
from_inside ws = (kept ws).inside
