-- Rows 2 to 4, by what the code finds on its way. Assumes nothing.
use Rattle.std.specs.Prelude.{Option, Some, None}
use mathlib.Core.Path.{◌≡◌, refl, sym, ap, ◌∙◌}
use mathlib.Core.Bool.{Bool, true, false, not, ◌||◌}
use mathlib.Core.List.{List}
use Prim.Native.Nat.{ℕ, zero, suc, ◌<◌, ◌≤◌}
use native.Mathlib.Omega.{arith}
use lib.Dec.{eqb}
use lib.IntN.{ℤ, pos, negsuc}
use lib.ListN.{get_or}
use borrow.Author.Tests.{lt-ltb, le-ltb}
use mir.Syntax.{w64}
use mir.Val.{SFits, of_z}
use Rattle.primitive.specs.Rows.{field}
use Rattle.primitive.specs.Words.{SIGNAL, COMPUTED, EFFECT}
use Rattle.trees.specs.Cells.{natural_of}
use Rattle.trees.proofs.CellLaws.{natural_pos, natural_neg}
use Rattle.meaning.specs.State.{Kind, signal, computed, effect, scope}
use Rattle.meaning.specs.Words.{command_of}
use Rattle.meaning.specs.Refusals.{unknown, a_signal, an_owner, is_a, wrong_owner, is_gone}
use Rattle.refusing.specs.declared.commands.Command.{Command}
use Rattle.refusing.specs.declared.commands.Command.TheVariants.{Unknown}
use Rattle.refusing.specs.Sight.{either, kind_of, nodes_alone}
use Rattle.refusing.specs.Commands.{number_of, brief, told}
use Rattle.refusing.proofs.CommandLaws.{each, told_is}

-- ---- 2
told_number : (b : Command) (ws : List ℤ) → eqb (number_of b) 0 ≡ unknown (told b ws)
unfolding unknown told number_of
told_number b ws = each (λ (b : Command). eqb (number_of b) 0 ≡ unknown (told b ws)) (λ k. refl) refl (λ o. refl) (λ o. refl) (λ n k. refl) (λ n k. refl) (λ n. refl) (λ n. refl) refl refl refl b

module _ (ws : List ℤ) {b : Command} (is : b ≡ brief (command_of ws)) where
  unknown_by : eqb (number_of b) 0 ≡ unknown (command_of ws)
  unknown_by = ap (λ (b : Command). eqb (number_of b) 0) is ∙ told_number (brief (command_of ws)) ws ∙ ap unknown (sym (told_is ws))

  pub unknown_so : b ≡ Unknown → true ≡ unknown (command_of ws)
  unfolding number_of
  unknown_so e = rw e at unknown_by

  pub known_so : (b ≡ Unknown → ⊥) → false ≡ unknown (command_of ws)
  unfolding number_of
  known_so f = sym (go b f) ∙ unknown_by
    where
      go : (b : Command) → (b ≡ Unknown → ⊥) → eqb (number_of b) 0 ≡ false
      go = each (λ (b : Command). (b ≡ Unknown → ⊥) → eqb (number_of b) 0 ≡ false)
          (λ k f. refl) (λ f. refl) (λ o f. refl) (λ o f. refl) (λ n k f. refl) (λ n k f. refl) (λ n f. refl) (λ n f. refl) (λ f. refl) (λ f. refl) (λ f. absurd (f refl))

-- ---- kinds
pub kind_signal : (w : ℕ) → eqb w SIGNAL ≡ a_signal (kind_of w)
unfolding kind_of
kind_signal w = go (eqb w SIGNAL) (eqb w COMPUTED) (eqb w EFFECT)
  where
    go : (a b c : Bool) → a ≡ a_signal (either a signal (either b computed (either c effect scope)))
    go true b c = refl
    go false true c = refl
    go false false true = refl
    go false false false = refl

module _ (nodes : List ℕ) (z : ℤ) {r : Option ℕ} (found : r ≡ natural_of z) where
  -- ---- 3
  module _ (p : Kind → Bool) where
    pub a_none : r ≡ None → false ≡ is_a (nodes_alone nodes) p z
    unfolding is_a
    a_none e = natural_neg z found (λ (x : ℤ). false ≡ is_a (nodes_alone nodes) p x) e (λ n. refl)

    pub a_past : (k : ℕ) {n : ℕ} → r ≡ Some k → n ≡ get_or nodes 7 0 → n ≤ k → false ≡ is_a (nodes_alone nodes) p z
    unfolding is_a
    a_past k e f h =
        let l : get_or nodes 7 0 ≤ k = omega arith in
        rw (natural_pos z found k e) (rw (le-ltb k (get_or nodes 7 0) l, is_a))

    pub a_kind : (k : ℕ) {n w : ℕ} {t : Bool} → r ≡ Some k → n ≡ get_or nodes 7 0 → k < n → w ≡ field 16 nodes k 1 → t ≡ p (kind_of w) → t ≡ is_a (nodes_alone nodes) p z
    unfolding is_a
    a_kind k e f h g q =
        let l : k < get_or nodes 7 0 = omega arith in
        rw (natural_pos z found k e) (rw (lt-ltb k (get_or nodes 7 0) l, is_a, ← g) q)

  -- ---- 4
  pub gone_none : r ≡ None → false ≡ is_gone (nodes_alone nodes) z
  gone_none e = natural_neg z found (λ (x : ℤ). false ≡ is_gone (nodes_alone nodes) x) e (λ n. refl)

  pub gone_is : (k : ℕ) {w : ℕ} → r ≡ Some k → w ≡ field 16 nodes k 2 → not (eqb w 0) ≡ is_gone (nodes_alone nodes) z
  gone_is k e g = rw (natural_pos z found k e, ← g)

-- the bits of -1
module _ (nodes : List ℕ) where
  pub owner_nobody : (z : ℤ) → SFits w64 z → of_z w64 z ≡ 18446744073709551615 → false ≡ wrong_owner (nodes_alone nodes) z
  owner_nobody (pos n) f e = absurd (omega (arith, f.sfits))
  owner_nobody (negsuc zero) f e = refl
  owner_nobody (negsuc (suc n)) f e = absurd (omega (arith, f.sfits))

  pub owner_somebody : (z : ℤ) {r : Bool} → (of_z w64 z ≡ 18446744073709551615 → ⊥) → r ≡ is_a (nodes_alone nodes) an_owner z → not r ≡ wrong_owner (nodes_alone nodes) z
  unfolding is_a
  owner_somebody (pos n) h e = ap not e
  owner_somebody (negsuc zero) h e = absurd (h refl)
  owner_somebody (negsuc (suc n)) h e = ap not e

-- ---- either of two
pub or_first : (x y : Bool) {r : Bool} → r ≡ x → r ≡ true → true ≡ (x || y)
or_first x y e f = rw (sym e ∙ f)
