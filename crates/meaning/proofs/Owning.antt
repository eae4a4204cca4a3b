-- Owners are lower, so who is owned by whom can be told. Assumes nothing.
use Rattle.std.specs.Prelude.{Option, None, Some}
use mathlib.Core.Path.{◌≡◌, refl, sym, ◌∙◌, subst}
use mathlib.Core.Logic.{◌⊎◌, inl, inr}
use Prim.Native.Nat.{ℕ, zero, suc, ◌≤◌, ◌<◌}
use native.Mathlib.Omega.{arith}
use lib.Dec.{eqb}
use borrow.Author.Tests.{eqb-true, eqb-false}
use Rattle.meaning.specs.Owners.{Below, itself, through, Owned}
use Rattle.meaning.proofs.Laws.{either, none_some, same_some}

-- what is below something below d is below d
pub below_then : (owner : ℕ → Option ℕ) (d m k : ℕ) → Below owner d m → Below owner m k → Below owner d k
below_then owner d m k p (itself e) = subst (Below owner d) (sym e) p
below_then owner d m k p (through o q e) = through o (below_then owner d m o p q) e

pub owned_below : (owner : ℕ → Option ℕ) (e n : ℕ) → Owned owner e n → Below owner e n
owned_below owner e n p = below_then owner e p.0 n (through e (itself refl) p.1) p.2

module _ (owner : ℕ → Option ℕ) (size : ℕ) (lower : (n o : ℕ) → n < size → owner n ≡ Some o → o < n) where
  pub below_high : (x y : ℕ) → y < size → Below owner x y → x ≤ y
  below_high x y h (itself e) = omega arith
  below_high x y h (through o b q) =
      let l = lower y o h q in
      let r = below_high x o (omega arith) b in
      omega arith

  -- n is owned by e, through others or not, or is not below e but for e itself
  abbrev Told : ℕ → ℕ → Type 0
  Told e n = Owned owner e n ⊎ (Below owner e n × (n ≡ e → ⊥) → ⊥)

  tell : (k e n : ℕ) → n < k → n < size → Told e n
  tell zero e n b h = absurd (omega arith)
  tell (suc k) e n b h = go (λ o l. tell k e o (omega arith) (omega arith)) (owner n) refl
    where
      up : (o : ℕ) → owner n ≡ Some o → (o ≡ e → ⊥) → (Below owner e o × (o ≡ e → ⊥) → ⊥) → Below owner e n × (n ≡ e → ⊥) → ⊥
      up o q ne f z = at z.0
        where
          at : Below owner e n → ⊥
          at (itself p) = z.1 p
          at (through m r p) = f (subst (Below owner e) (same_some (sym p ∙ q)) r, ne)

      root : owner n ≡ None → Below owner e n × (n ≡ e → ⊥) → ⊥
      root q z = at z.0
        where
          at : Below owner e n → ⊥
          at (itself p) = z.1 p
          at (through m r p) = none_some (sym q ∙ p)

      next : (o : ℕ) → owner n ≡ Some o → (o ≡ e → ⊥) → Told e o → Told e n
      next o q ne (inl p) = inl (p.0, p.1, through o p.2 q)
      next o q ne (inr f) = inr (up o q ne f)

      go : ((o : ℕ) → o < n → Told e o) → (o : Option ℕ) → owner n ≡ o → Told e n
      go rec None q = inr (root q)
      go rec (Some o) q = either (eqb o e)
          (λ z. inl (n, subst (λ (x : ℕ). owner n ≡ Some x) (eqb-true o e z) q, itself refl))
          (λ z. next o q (eqb-false o e z) (rec o (lower n o h q)))

  pub owned_known : (e n : ℕ) → n < size → Owned owner e n ⊎ (Below owner e n × (n ≡ e → ⊥) → ⊥)
  owned_known e n h = tell (suc n) e n (omega arith) h

  -- the same of "below"
  pub below_known : (x n : ℕ) → n < size → Below owner x n ⊎ (Below owner x n → ⊥)
  below_known x n h = either (eqb n x) (λ q. inl (itself (eqb-true n x q))) (λ q. go (eqb-false n x q) (owned_known x n h))
    where
      go : (n ≡ x → ⊥) → Told x n → Below owner x n ⊎ (Below owner x n → ⊥)
      go ne (inl p) = inl (owned_below owner x n p)
      go ne (inr f) = inr (λ b. f (b, ne))
