-- Evaluation over cells is evaluation over trees and lists, given that a read is: the same value, and tables that represent the state after it. Assumes nothing.
use mathlib.Core.Path.{◌≡◌, refl, sym, ap, ap₂, ◌∙◌, subst}
use mathlib.Core.Logic.{inl}
use mathlib.Core.List.{List, ◌++◌}
use Prim.Native.Nat.{ℕ, suc, ◌+◌, ◌≤◌}
use native.Mathlib.Omega.{arith}
use lib.IntN.{ℤ}
use lib.ListN.{length, length-append}
use Rattle.values.specs.Values.{is_zero}
use Rattle.trees.specs.Trees.{Tree, constant, read, two, choose, apply, names, nesting}
use Rattle.trees.specs.Legal.{most_nesting}
use Rattle.trees.proofs.Laid.{Laid}
use Rattle.reading.specs.Tables.{State, Got, Evaluated}
use Rattle.reading.specs.Ring.{Ring, read_by, evaluated_by}
use Rattle.reading.specs.Works.{worked_by}
use Rattle.reading.proofs.TreeLaws.{evaluated_tree}
use Rattle.meaning.specs.State.{St}
use Rattle.meaning.specs.Reads.{Out, eval_by}
use Rattle.meaning.specs.WellFormed.{In}
use Rattle.meaning.proofs.Laws.{in_left, in_right}
use Rattle.structure.proofs.Link.{both_ways}
use Rattle.structure.proofs.Steps.{Sees}

-- node n reads by the ring r over words, by rd over lists. P i holds after i reads, of which there are k at most; what is read is Ok
module _ (r : Ring) (n : ℕ) (rd : St → ℕ → St) (ran : List ℕ) (C : List ℤ) (P : ℕ → St → Type 0) (Ok : ℕ → Type 0) (k : ℕ) (later : (i j : ℕ) (s : St) → i ≤ j → P i s → P j s)
    (reads : (x : State) (s : St) (m i : ℕ) → Ok m → suc i ≤ k → P i s → Sees ran x C s → Sees ran (read_by r n x m).after C (rd s m) × P (suc i) (rd s m) × ((read_by r n x m).value ≡ (rd s m).sto m)) where
  abbrev Alike : ℕ → Got → Out → Type 0
  Alike i a b = Sees ran a.after C b.st × P i b.st × (a.value ≡ b.val)

  more : (i j : ℕ) (a : Got) (b : Out) → i ≤ j → Alike i a b → Alike j a b
  more i j a b h w = (w.0, later i j b.st h w.1, w.2)

  pub worked_sim : (t : Tree) (x : State) (s : St) (i : ℕ) → ((m : ℕ) → In m (names t) → Ok m) → i + length (names t) ≤ k → P i s → Sees ran x C s → Alike (i + length (names t)) (worked_by r n t x) (eval_by rd t s)
  unfolding worked_by eval_by names
  worked_sim (constant c) x s i ok few p q = (q, later i (i + 0) s (omega arith) p, refl)
  worked_sim (read m) x s i ok few p q =
      let w = reads x s m i (ok m (inl refl)) (omega arith) p q in
      (w.0, later (suc i) (i + 1) (rd s m) (omega arith) w.1, w.2)
  worked_sim (two o a b) x s i ok few p q =
      let e = length-append (names a) (names b) in
      let y = worked_sim a x s i (λ m j. ok m (in_left m (names a) (names b) j)) (omega arith) p q in
      let z = worked_sim b (worked_by r n a x).after (eval_by rd a s).st (i + length (names a)) (λ m j. ok m (in_right m (names a) (names b) j)) (omega arith) y.1 y.0 in
      (z.0, later (i + length (names a) + length (names b)) (i + length (names a ++ names b)) (eval_by rd b (eval_by rd a s).st).st (omega arith) z.1, ap₂ (apply o) y.2 z.2)
  worked_sim (choose c a b) x s i ok few p q =
      let e = length-append (names c) (names a ++ names b) in
      let f = length-append (names a) (names b) in
      let y = worked_sim c x s i (λ m j. ok m (in_left m (names c) (names a ++ names b) j)) (omega arith) p q in
      let taken = worked_sim a (worked_by r n c x).after (eval_by rd c s).st (i + length (names c)) (λ m j. ok m (in_right m (names c) (names a ++ names b) (in_left m (names a) (names b) j))) (omega arith) y.1 y.0 in
      let other = worked_sim b (worked_by r n c x).after (eval_by rd c s).st (i + length (names c)) (λ m j. ok m (in_right m (names c) (names a ++ names b) (in_right m (names a) (names b) j))) (omega arith) y.1 y.0 in
      both_ways (Alike (i + length (names c ++ (names a ++ names b)))) (is_zero (worked_by r n c x).value) (is_zero (eval_by rd c s).val) (ap is_zero y.2)
      {x = worked_by r n b (worked_by r n c x).after} {y = worked_by r n a (worked_by r n c x).after} {p = eval_by rd b (eval_by rd c s).st} {q = eval_by rd a (eval_by rd c s).st}
      (λ z. more (i + length (names c) + length (names b)) (i + length (names c ++ (names a ++ names b))) (worked_by r n b (worked_by r n c x).after) (eval_by rd b (eval_by rd c s).st) (omega arith) other)
      (λ z. more (i + length (names c) + length (names a)) (i + length (names c ++ (names a ++ names b))) (worked_by r n a (worked_by r n c x).after) (eval_by rd a (eval_by rd c s).st) (omega arith) taken)

  -- the cells at j write the tree out
  pub cells_sim : (ws : List ℤ) (t : Tree) (j : ℕ) (x : State) (s : St) → Laid ws t j → nesting t ≤ most_nesting → ((m : ℕ) → In m (names t) → Ok m) → length (names t) ≤ k → P 0 s → Sees ran x C s
      → Sees ran (evaluated_by ws r n most_nesting x j).after C (eval_by rd t s).st × P (length (names t)) (eval_by rd t s).st × ((evaluated_by ws r n most_nesting x j).value ≡ (eval_by rd t s).val)
  cells_sim ws t j x s l h ok few p q =
      let e = evaluated_tree ws r n t most_nesting j x l h in
      let w = worked_sim t x s 0 ok (omega arith) p q in (
        subst (λ (z : State). Sees ran z C (eval_by rd t s).st) (sym (ap (λ (z : Evaluated). z.after) e)) w.0,
        later (0 + length (names t)) (length (names t)) (eval_by rd t s).st (omega arith) w.1,
        ap (λ (z : Evaluated). z.value) e ∙ w.2,
      )
