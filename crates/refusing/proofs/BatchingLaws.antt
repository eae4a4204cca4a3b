-- Rows 8 and 9, by what the code finds on its way. Assumes nothing.
use mathlib.Core.Path.{◌≡◌, refl, sym, ap, ap₂, ◌∙◌}
use mathlib.Core.Bool.{Bool, true, false, cond}
use mathlib.Core.List.{List, []}
use Prim.Native.Nat.{ℕ, zero, suc, max, ◌≤◌}
use native.Mathlib.Omega.{arith}
use lib.Dec.{eqb, ltb, leb}
use lib.IntN.{ℤ}
use lib.ListN.{get_or}
use borrow.Author.Tests.{eq-eqb, le-ltb, leb-true}
use Rattle.primitive.specs.Words.{KIND, GONE, EFFECT, node}
use Rattle.counting.specs.Counts.{counted_in, total, effect_of, live_effects_in}
use Rattle.meaning.specs.Words.{command_of}
use Rattle.meaning.specs.Refusals.{on, flush_rows, asks_of, wrong_depth, few_rows}
use Rattle.refusing.specs.declared.commands.Command.{Command}
use Rattle.refusing.specs.Sight.{nodes_alone, sight_in}
use Rattle.refusing.specs.Commands.{number_of, brief, told}
use Rattle.refusing.specs.Asked.{barred_at, wanted}
use Rattle.refusing.proofs.CommandLaws.{each, told_is}

-- ---- 8
module _ (nodes : List ℕ) where
  depth_told : (b : Command) (ws : List ℤ) → barred_at (number_of b) (get_or nodes 9 0) ≡ on (told b ws) (wrong_depth (nodes_alone nodes))
  unfolding told wrong_depth asks_of barred_at number_of
  depth_told b ws =
      each (λ (b : Command). barred_at (number_of b) (get_or nodes 9 0) ≡ on (told b ws) (wrong_depth (nodes_alone nodes)))
      (λ k. refl) refl (λ o. refl) (λ o. refl) (λ n k. refl) (λ n k. refl) (λ n. refl) (λ n. refl) refl refl refl b

  pub depth_by : (ws : List ℤ) {k d : ℕ} {r : Bool} → k ≡ number_of (brief (command_of ws)) → d ≡ get_or nodes 9 0 → r ≡ barred_at k d → r ≡ on (command_of ws) (wrong_depth (nodes_alone nodes))
  depth_by ws e f g =
      g ∙ ap₂ barred_at e f ∙ depth_told (brief (command_of ws)) ws ∙ ap (λ m. on m (wrong_depth (nodes_alone nodes))) (sym (told_is ws))

  pub depth_so : (ws : List ℤ) {b : Command} {d : ℕ} → b ≡ brief (command_of ws) → d ≡ get_or nodes 9 0
      → on (command_of ws) (wrong_depth (nodes_alone nodes)) ≡ barred_at (number_of b) d
  depth_so ws e f = sym (depth_by ws (ap number_of e) f refl)

-- ---- 9
module _ (nodes : List ℕ) (d : ℕ) {e : ℕ} (depth : e ≡ get_or nodes 9 0) where
  pub flush_now : {r : ℕ} → e ≡ d → r ≡ live_effects_in nodes → r ≡ flush_rows (nodes_alone nodes) d
  flush_now f g = rw (eq-eqb (get_or nodes 9 0) d (sym depth ∙ f), flush_rows) g

module _ (nodes : List ℕ) (rows : ℕ) where
  few_told : (b : Command) (ws : List ℤ) → ltb rows (wanted (nodes_alone nodes) (number_of b)) ≡ on (told b ws) (few_rows (sight_in nodes [] [] rows))
  unfolding told few_rows asks_of wanted number_of
  few_told b ws =
      let z : 0 ≤ rows = omega arith in
      each (λ (b : Command). ltb rows (wanted (nodes_alone nodes) (number_of b)) ≡ on (told b ws) (few_rows (sight_in nodes [] [] rows)))
      (λ k. refl) refl (λ o. refl) (λ o. refl) (λ n k. refl) (λ n k. refl) (λ n. refl) (λ n. refl) refl refl (le-ltb rows 0 z) b

  pub few_by : (ws : List ℤ) {b k : ℕ} → b ≡ number_of (brief (command_of ws)) → k ≡ wanted (nodes_alone nodes) b
      → ltb rows k ≡ on (command_of ws) (few_rows (sight_in nodes [] [] rows))
  few_by ws e f =
      ap (ltb rows) (f ∙ ap (wanted (nodes_alone nodes)) e) ∙ few_told (brief (command_of ws)) ws
      ∙ ap (λ m. on m (few_rows (sight_in nodes [] [] rows))) (sym (told_is ws))

-- ---- a long log
module _ (nodes : List ℕ) where
  at_most_one : (n : ℕ) → effect_of nodes n ≤ 1
  unfolding effect_of
  at_most_one n = go (eqb (node nodes n KIND) EFFECT) refl (eqb (node nodes n GONE) 0) refl
    where
      go : (a : Bool) → eqb (node nodes n KIND) EFFECT ≡ a → (b : Bool) → eqb (node nodes n GONE) 0 ≡ b → effect_of nodes n ≤ 1
      go true e true f = rw (e, f, effect_of) (omega arith)
      go true e false f = rw (e, f, effect_of) (omega arith)
      go false e b f = rw (e, effect_of) (omega arith)

  effects_most : (n : ℕ) → total (effect_of nodes) n ≤ n
  unfolding total
  effects_most zero = omega arith
  effects_most (suc n) = omega (arith, effects_most n, at_most_one n)

  flush_most : (d : ℕ) → flush_rows (nodes_alone nodes) d ≤ max 1 (counted_in nodes)
  unfolding live_effects_in
  flush_most d = go (eqb (get_or nodes 9 0) d) refl
    where
      go : (b : Bool) → eqb (get_or nodes 9 0) d ≡ b → flush_rows (nodes_alone nodes) d ≤ max 1 (counted_in nodes)
      go true e = rw (e, flush_rows) (omega (arith, effects_most (counted_in nodes)))
      go false e = rw (e, flush_rows) (omega arith)

  either_most : (b : Bool) {x y : ℕ} → x ≤ max 1 (counted_in nodes) → y ≤ max 1 (counted_in nodes) → cond b x y ≤ max 1 (counted_in nodes)
  either_most true p q = p
  either_most false p q = q

  -- no command wants more rows than one, or than there are nodes
  wanted_most : (k : ℕ) → wanted (nodes_alone nodes) k ≤ max 1 (counted_in nodes)
  unfolding wanted
  wanted_most k =
      either_most (eqb k 3) (omega arith) (either_most (eqb k 5) (flush_most 0) (either_most (eqb k 6) (flush_most 0) (either_most (eqb k 10) (flush_most 1) (omega arith))))

  pub not_few : (rows : ℕ) (ws : List ℤ) {b : Bool} → b ≡ leb (max 1 (counted_in nodes)) rows → b ≡ true → false ≡ on (command_of ws) (few_rows (sight_in nodes [] [] rows))
  not_few rows ws e t =
      let m = leb-true (max 1 (counted_in nodes)) rows (sym e ∙ t) in
      let k = number_of (brief (command_of ws)) in
      let h : wanted (nodes_alone nodes) k ≤ rows = omega (arith, m, wanted_most k) in
      sym (le-ltb rows (wanted (nodes_alone nodes) k) h) ∙ few_by nodes rows ws refl refl
