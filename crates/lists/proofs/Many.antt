-- The lists of all nodes, one after the other on one budget: the walk agrees with a chain for each node. Assumes nothing.
use Rattle.std.specs.Prelude.{Option, Some, None}
use mathlib.Core.Path.{◌≡◌, refl, sym, ap, ◌∙◌, subst}
use mathlib.Core.Bool.{Bool, true, false}
use mathlib.Core.List.{List}
use Prim.Native.Nat.{ℕ, zero, suc, ◌+◌, ◌-◌, ◌<◌, ◌≤◌}
use native.Mathlib.Omega.{arith}
use lib.Dec.{eqb}
use lib.ListN.{length}
use borrow.Author.Tests.{eqb-true, eqb-false}
use Rattle.lists.specs.Sum.{sum}
use Rattle.lists.specs.Walk.{Chain, slots, run, and_then, runs}
use Rattle.lists.proofs.WalkLaws.{left_same, not_left, sound, complete, decode}

pub then_left : (r : Option ℕ) (f : ℕ → Option ℕ) {m : ℕ} → and_then r f ≡ Some m → (a : ℕ) × (r ≡ Some a) × (f a ≡ Some m)
then_left (Some a) f e = (a, refl, e)
then_left None f e = absurd (not_left e)

-- the slots that the lists of the nodes below m have together
abbrev pub total : (ℕ → ℕ) → (ℕ → ℕ) → ℕ → ℕ → ℕ
total next head n m = sum (λ (k : ℕ). length (slots next n (head k))) m

module _ (next : ℕ → ℕ) (ok : ℕ → ℕ → ℕ → Bool) (fin : ℕ → ℕ → Bool) (head : ℕ → ℕ) (n : ℕ) where
  abbrev pub ChainOf : ℕ → Type 0
  ChainOf k = Chain next (ok k) (fin k) 0 (head k) (slots next n (head k))

  pub sounds : (N b m : ℕ) → b ≤ n → runs next ok fin head N b ≡ Some m → ((k : ℕ) → k < N → ChainOf k) × (total next head n N + m ≡ b)
  unfolding runs sum
  sounds zero b m l e = (λ k h. absurd (omega arith), omega (arith, left_same e))
  sounds (suc j) b m l e =
      let t = then_left (run next (ok j) (fin j) b 0 (head j)) (λ (a : ℕ). runs next ok fin head j a) e in
      let s = sound next (ok j) (fin j) b 0 (head j) t.0 t.1 in
      let d = decode next (ok j) (fin j) n 0 (head j) (slots next b (head j)) s.0 (omega (arith, s.1)) in
      let r = sounds j t.0 m (omega (arith, s.1)) t.2 in
      let top : ChainOf j = subst (λ (xs : List ℕ). Chain next (ok j) (fin j) 0 (head j) xs) (sym d) s.0 in
      (λ k h. at r.0 top k h (eqb k j) refl, omega (arith, s.1, r.1, ap length d))
    where
      at : ((k : ℕ) → k < j → ChainOf k) → ChainOf j → (k : ℕ) → k < suc j → (c : Bool) → eqb k j ≡ c → ChainOf k
      at rest top k h true q = subst (λ (i : ℕ). ChainOf i) (sym (eqb-true k j q)) top
      at rest top k h false q = let f : k ≡ j → ⊥ = eqb-false k j q in rest k (omega arith)

  pub completes : (N b : ℕ) → ((k : ℕ) → k < N → ChainOf k) → total next head n N ≤ b → runs next ok fin head N b ≡ Some (b - total next head n N)
  unfolding runs sum
  completes zero b c l = ap Some (omega arith)
  completes (suc j) b c l =
      let x = complete next (ok j) (fin j) b 0 (head j) (slots next n (head j)) (c j (omega arith)) (omega arith) in
      let r = completes j (b - length (slots next n (head j))) (λ k h. c k (omega arith)) (omega arith) in
      rw x (r ∙ ap Some (omega arith))
