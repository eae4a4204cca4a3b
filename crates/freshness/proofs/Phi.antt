-- The fresh value: any bound above the number gives the same, and a formula's is worked out over the fresh values. Assumes nothing.
use mathlib.Core.Path.{◌≡◌, refl, sym, subst}
use Prim.Native.Nat.{ℕ, zero, suc, ◌<◌}
use native.Mathlib.Omega.{arith}
use Rattle.values.specs.declared.Value.{Value}
use Rattle.trees.specs.Trees.{Tree, worth, names}
use Rattle.meaning.specs.State.{Kind, signal, computed, effect, scope}
use Rattle.meaning.specs.WellFormed.{In}
use Rattle.freshness.specs.Afresh.{afresh_n, afresh_of}
use Rattle.freshness.proofs.Forms.{locally, named}

kind_same : (x : Kind) (a b c : Value) → b ≡ c → ◌≡◌ {A = Value} (elim x [ signal ↦ a | computed ↦ b | effect ↦ b | scope ↦ a ]) (elim x [ signal ↦ a | computed ↦ c | effect ↦ c | scope ↦ a ])
kind_same signal a b c h = refl
kind_same computed a b c h = h
kind_same effect a b c h = h
kind_same scope a b c h = refl

module _ (kind : ℕ → Kind) (form : ℕ → Tree) (last : ℕ → Value) (size : ℕ) (lower : (n m : ℕ) → n < size → In m (names (form n)) → m < n) where
  pub any_bound : (k j n : ℕ) → n < size → n < k → n < j → afresh_n kind form last k n ≡ afresh_n kind form last j n
  unfolding afresh_n
  any_bound zero j n h p q = absurd (omega arith)
  any_bound (suc k) zero n h p q = absurd (omega arith)
  any_bound (suc k) (suc j) n h p q =
      kind_same (kind n) (last n) (worth (form n) (afresh_n kind form last k)) (worth (form n) (afresh_n kind form last j))
      (locally (form n) (afresh_n kind form last k) (afresh_n kind form last j)
      (λ m i. let r = lower n m h (named (form n) (afresh_n kind form last k) m i) in any_bound k j m (omega arith) (omega arith) (omega arith))).0

  over_fresh : (n : ℕ) → n < size → worth (form n) (afresh_n kind form last n) ≡ worth (form n) (afresh_of kind form last)
  unfolding afresh_of
  over_fresh n h =
      (locally (form n) (afresh_n kind form last n) (afresh_of kind form last)
      (λ m i. let r = lower n m h (named (form n) (afresh_n kind form last n) m i) in any_bound n (suc m) m (omega arith) (omega arith) (omega arith))).0

  pub at_computed : (n : ℕ) → n < size → kind n ≡ computed → afresh_of kind form last n ≡ worth (form n) (afresh_of kind form last)
  unfolding afresh_n afresh_of
  at_computed n h c =
      subst (λ (x : Kind). ◌≡◌ {A = Value} (elim x [ signal ↦ last n | computed ↦ worth (form n) (afresh_n kind form last n) | effect ↦ worth (form n) (afresh_n kind form last n) | scope ↦ last n ]) (worth (form n) (afresh_of kind form last)))
      (sym c) (over_fresh n h)

  pub at_effect : (n : ℕ) → n < size → kind n ≡ effect → afresh_of kind form last n ≡ worth (form n) (afresh_of kind form last)
  unfolding afresh_n afresh_of
  at_effect n h c =
      subst (λ (x : Kind). ◌≡◌ {A = Value} (elim x [ signal ↦ last n | computed ↦ worth (form n) (afresh_n kind form last n) | effect ↦ worth (form n) (afresh_n kind form last n) | scope ↦ last n ]) (worth (form n) (afresh_of kind form last)))
      (sym c) (over_fresh n h)

  pub at_signal : (n : ℕ) → kind n ≡ signal → afresh_of kind form last n ≡ last n
  unfolding afresh_n afresh_of
  at_signal n c =
      subst (λ (x : Kind). ◌≡◌ {A = Value} (elim x [ signal ↦ last n | computed ↦ worth (form n) (afresh_n kind form last n) | effect ↦ worth (form n) (afresh_n kind form last n) | scope ↦ last n ]) (last n)) (sym c) refl
