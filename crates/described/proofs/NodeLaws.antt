-- The nodes one after the other, by the chain of the code. Assumes nothing.
use Rattle.std.specs.Prelude.{map, ◌++◌}
use Rattle.std.specs.List.{list_all, range_with_len}
use Rattle.std.proofs.lemmas.List.FromFn.{map-range_with_len_more}
use Rattle.std.proofs.lemmas.List.Folds.{list_all-append, list_all-map}
use mathlib.Core.Path.{◌≡◌, refl, sym, ap, ◌∙◌}
use mathlib.Core.Bool.{Bool, true, false, ◌&&◌}
use mathlib.Core.List.{List, [], ◌∷◌}
use Prim.Native.Nat.{ℕ, zero, suc, ◌+◌, ◌-◌, ◌<◌, ◌≤◌}
use native.Mathlib.Omega.{arith}
use lib.IntN.{ℤ}
use Rattle.telling.specs.Nodes.{node_in, nodes_in}

module _ (nodes : List ℕ) (used : List ℤ) where
  pub every_node_range : (n : ℕ) → list_all (node_in nodes used) (range_with_len 0 n) ≡ nodes_in nodes used n
  unfolding nodes_in
  every_node_range zero = refl
  every_node_range (suc n) =
      let p : ℕ → Bool = node_in nodes used in
      let e : n + 1 ≡ suc n = omega arith in
      let more : map p (range_with_len 0 (suc n)) ≡ map p (range_with_len 0 n) ++ (p n ∷ []) = ap (λ (m : ℕ). map p (range_with_len 0 m)) (sym e) ∙ map-range_with_len_more p 0 n n (omega arith) in
      let here : list_all (λ b. b) (map p (range_with_len 0 n)) ≡ nodes_in nodes used n = list_all-map (λ b. b) p (range_with_len 0 n) ∙ every_node_range n in
      sym (list_all-map (λ b. b) p (range_with_len 0 (suc n))) ∙ ap (list_all (λ b. b)) more ∙ list_all-append (λ b. b) (map p (range_with_len 0 n)) (p n ∷ []) ∙ rw here (swap (nodes_in nodes used n) (p n))
    where
      swap : (a b : Bool) → (a && (b && true)) ≡ (b && a)
      swap true true = refl
      swap true false = refl
      swap false true = refl
      swap false false = refl

  -- by what the code finds on its way
  pub every_done : (n : ℕ) → n ≤ 0 → nodes_in nodes used n ≡ true
  unfolding nodes_in
  every_done n h = let z : n ≡ 0 = omega arith in rw z

  pub every_false : (n : ℕ) {r : Bool} → 0 < n → r ≡ node_in nodes used (n - 1) → r ≡ false → nodes_in nodes used n ≡ false
  unfolding nodes_in
  every_false zero h e f = absurd (omega arith)
  every_false (suc n) h e f = let m : suc n - 1 ≡ n = omega arith in rw (← rw m at e, f)

  pub every_true : (n : ℕ) {r : Bool} → 0 < n → r ≡ node_in nodes used (n - 1) → r ≡ true → nodes_in nodes used n ≡ nodes_in nodes used (n - 1)
  unfolding nodes_in
  every_true zero h e f = absurd (omega arith)
  every_true (suc n) h e f = let m : suc n - 1 ≡ n = omega arith in rw (m, ← rw m at e, f)
