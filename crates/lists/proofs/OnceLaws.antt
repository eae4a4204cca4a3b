-- "Once" by a table of marks: what the scan of a list means. Assumes nothing.
use Rattle.std.specs.Prelude.{Some}
use mathlib.Core.Path.{◌≡◌, refl, sym, ap, ◌∙◌}
use mathlib.Core.Bool.{Bool, true, false}
use mathlib.Core.List.{List, [], ◌∷◌}
use Prim.Native.Nat.{ℕ, zero, suc, ◌+◌, ◌-◌, ◌<◌, ◌≤◌}
use native.Mathlib.Omega.{arith}
use lib.Dec.{eqb}
use lib.ListN.{length, get_or, set, length-set}
use lib.Seq.{get_or-set_same, get_or-set_other}
use borrow.Author.Tests.{eq-eqb, ne_eqb, eqb-true, eqb-false}
use Rattle.lists.specs.Sum.{bit, count, occ, All}
use Rattle.lists.specs.Walk.{and_then}
use Rattle.lists.specs.Each.{both, keep}
use Rattle.lists.specs.Once.{spend, scan}
use Rattle.lists.proofs.SumLaws.{bit_le, bit_true, bit_false, clash, occ_nil, occ_cons, occ_none, pigeon}
use Rattle.lists.proofs.WalkLaws.{left_same, not_left, if_left}
use Rattle.lists.proofs.Many.{then_left}
use Rattle.lists.proofs.EachLaws.{both_true, true_both, keep_yes, keep_no, keep_nil, keep_all, keep_is, keep_occ, keep_count}

spent : (l : Bool) (b c : ℕ) → spend l b ≡ Some c → b ≡ bit l + c
spent true zero c e = absurd (not_left e)
spent true (suc b) c e = omega (arith, left_same e)
spent false b c e = omega (arith, left_same e)

spending : (l : Bool) (b : ℕ) → bit l ≤ b → spend l b ≡ Some (b - bit l)
spending true zero h = absurd (omega arith)
spending true (suc b) h = ap Some (omega arith)
spending false b h = ap Some (omega arith)

module _ (ok live : ℕ → Bool) where
  keep_length : (x : ℕ) (xs : List ℕ) → length (keep live (x ∷ xs)) ≡ bit (live x) + length (keep live xs)
  keep_length x xs = at (live x) refl
    where
      at : (b : Bool) → live x ≡ b → length (keep live (x ∷ xs)) ≡ bit (live x) + length (keep live xs)
      at true e = rw (keep_yes live x xs e) (omega (arith, bit_true (live x) e))
      at false e = rw (keep_no live x xs e) (omega (arith, bit_false (live x) e))

  pub record Scanned (s xs : List ℕ) : Type 0 where
    pub all : All (λ (x : ℕ). ok x ≡ true) xs
    pub single : (x : ℕ) → occ x xs ≤ 1
    pub fresh : (x : ℕ) → (get_or s x 0 ≡ 0 → ⊥) → occ x xs ≡ 0

  pub scan_sound : (s xs : List ℕ) (b m : ℕ) → ((x : ℕ) → ok x ≡ true → x < length s) → scan ok live s xs b ≡ Some m
      → Scanned s xs × (length (keep live xs) + m ≡ b)
  unfolding scan
  scan_sound s [] b m low e = (
    record { all = tt; single = λ x. omega (arith, occ_nil x); fresh = λ x h. occ_nil x },
    omega (arith, left_same e, ap length (keep_nil live)),
  )
  scan_sound s (x ∷ xs) b m low e =
      let r = if_left (both (ok x) (eqb (get_or s x 0) 0)) (and_then (spend (live x) b) (λ (c : ℕ). scan ok live (set s x 1) xs c)) e in
      let o = both_true (ok x) (eqb (get_or s x 0) 0) r.0 in
      let t = then_left (spend (live x) b) (λ (c : ℕ). scan ok live (set s x 1) xs c) r.1 in
      let i = scan_sound (set s x 1) xs t.0 m (λ y h. omega (arith, length-set s x 1, low y h)) t.2 in
      (step o.0 (eqb-true _ _ o.1) i.0, omega (arith, i.1, keep_length x xs, spent (live x) b t.0 t.1))
    where
      step : ok x ≡ true → get_or s x 0 ≡ 0 → Scanned (set s x 1) xs → Scanned s (x ∷ xs)
      step o z i =
          record {
            all = (o, i.all);
            single = λ y. one y (eqb y x) refl;
            fresh = λ y h. new y h;
          }
        where
          marked : occ x xs ≡ 0
          marked = i.fresh x (λ q. let w : get_or (set s x 1) x 0 ≡ 1 = get_or-set_same s x 1 0 (low x o) in omega (arith, w, q))

          one : (y : ℕ) (c : Bool) → eqb y x ≡ c → occ y (x ∷ xs) ≤ 1
          one y true e = let f : occ y xs ≡ 0 = rw (eqb-true y x e) marked in omega (arith, occ_cons y x xs, bit_le (eqb y x), f)
          one y false e = omega (arith, occ_cons y x xs, bit_false (eqb y x) e, i.single y)

          new : (y : ℕ) → (get_or s y 0 ≡ 0 → ⊥) → occ y (x ∷ xs) ≡ 0
          new y h =
              let n : y ≡ x → ⊥ = λ q. h (ap (λ (u : ℕ). get_or s u 0) q ∙ z) in
              let g : get_or (set s x 1) y 0 ≡ get_or s y 0 = get_or-set_other s x y 1 0 n in
              omega (arith, occ_cons y x xs, bit_false (eqb y x) (ne_eqb y x n), i.fresh y (λ q. h (sym g ∙ q)))

  pub scan_complete : (s xs : List ℕ) (b : ℕ) → ((x : ℕ) → ok x ≡ true → x < length s) → Scanned s xs → length (keep live xs) ≤ b
      → scan ok live s xs b ≡ Some (b - length (keep live xs))
  unfolding scan
  scan_complete s [] b low c h = ap Some (omega (arith, ap length (keep_nil live)))
  scan_complete s (x ∷ xs) b low c h =
      let k = keep_length x xs in
      let z = zero_at (eqb (get_or s x 0) 0) refl in
      let r = scan_complete (set s x 1) xs (b - bit (live x)) (λ y g. omega (arith, length-set s x 1, low y g)) rest (omega (arith, k)) in
      let t : both (ok x) (eqb (get_or s x 0) 0) ≡ true = true_both _ _ c.all.0 z in
      rw (t, spending (live x) b (omega (arith, k)), scan) (r ∙ ap Some (omega (arith, k)))
    where
      here : 1 ≤ occ x (x ∷ xs)
      here = omega (arith, occ_cons x x xs, bit_true (eqb x x) (eq-eqb x x refl))

      zero_at : (d : Bool) → eqb (get_or s x 0) 0 ≡ d → eqb (get_or s x 0) 0 ≡ true
      zero_at true e = e
      zero_at false e = absurd (omega (arith, here, c.fresh x (eqb-false _ _ e)))

      rest : Scanned (set s x 1) xs
      rest =
          record {
            all = c.all.1;
            single = λ y. omega (arith, occ_cons y x xs, c.single y);
            fresh = λ y g. at y g (eqb y x) refl;
          }
        where
          at : (y : ℕ) → (get_or (set s x 1) y 0 ≡ 0 → ⊥) → (d : Bool) → eqb y x ≡ d → occ y xs ≡ 0
          at y g true e = let i : y ≡ x = eqb-true y x e in omega (arith, occ_cons y x xs, bit_true (eqb y x) e, c.single y)
          at y g false e =
              let n : y ≡ x → ⊥ = eqb-false y x e in
              let q : get_or (set s x 1) y 0 ≡ get_or s y 0 = get_or-set_other s x y 1 0 n in
              omega (arith, occ_cons y x xs, c.fresh y (λ o. g (q ∙ o)))

  -- ONCE: the scan of fresh marks spends the whole of a budget that counts the live ones below n exactly when the list holds each of them once,
  -- nothing that is not ok, and nothing twice
  module _ (s : List ℕ) (n : ℕ) (clear : (x : ℕ) → get_or s x 0 ≡ 0) (low : (x : ℕ) → ok x ≡ true → x < length s) (small : (x : ℕ) → ok x ≡ true → x < n) where
    abbrev pub due : ℕ → Bool
    due x = both (ok x) (live x)

    weaken : (xs : List ℕ) → All (λ (x : ℕ). ok x ≡ true) xs → All (λ (x : ℕ). x < n) xs
    weaken [] a = tt
    weaken (x ∷ xs) a = (small x a.0, weaken xs a.1)

    joined : (xs : List ℕ) → All (λ (x : ℕ). ok x ≡ true) xs → All (λ (x : ℕ). live x ≡ true) xs → All (λ (x : ℕ). due x ≡ true) xs
    joined [] a b = tt
    joined (x ∷ xs) a b = (true_both _ _ a.0 b.0, joined xs a.1 b.1)

    pub once_sound : (xs : List ℕ) → scan ok live s xs (count due n) ≡ Some 0
        → All (λ (x : ℕ). ok x ≡ true) xs × ((x : ℕ) → occ x xs ≤ 1) × ((x : ℕ) → x < n → due x ≡ true → occ x xs ≡ 1)
    once_sound xs e =
        let r = scan_sound s xs (count due n) 0 low e in
        let c = r.0 in
        let k = keep live xs in
        let kl = keep_all live (λ (x : ℕ). x < n) xs (weaken xs c.all) in
        let kd = joined k (keep_all live (λ (x : ℕ). ok x ≡ true) xs c.all) (keep_is live xs) in (
          c.all,
          c.single,
          λ x h d. sym (keep_occ live x xs (both_true (ok x) (live x) d).1)
              ∙ pigeon due n k kl kd (λ y. single_kept y (live y) refl xs (c.single y)) (omega (arith, r.1)) x h d,
        )
      where
        single_kept : (y : ℕ) (b : Bool) → live y ≡ b → (xs : List ℕ) → occ y xs ≤ 1 → occ y (keep live xs) ≤ 1
        single_kept y true e xs h = omega (arith, keep_occ live y xs e)
        single_kept y false e xs h = omega (arith, occ_none (λ (z : ℕ). live z ≡ true) y (keep live xs) (keep_is live xs) (λ t. clash (live y) t e))

    pub once_complete : (xs : List ℕ) → All (λ (x : ℕ). ok x ≡ true) xs → ((x : ℕ) → occ x xs ≤ 1) → ((x : ℕ) → x < n → due x ≡ true → occ x xs ≡ 1)
        → scan ok live s xs (count due n) ≡ Some 0
    once_complete xs a o d =
        let kd = joined (keep live xs) (keep_all live (λ (x : ℕ). ok x ≡ true) xs a) (keep_is live xs) in
        let l = keep_count live due n xs (λ x e. (both_true (ok x) (live x) e).1) (weaken xs a) kd o d in
        scan_complete s xs (count due n) low (record { all = a; single = o; fresh = λ x h. absurd (h (clear x)) }) (omega (arith, l)) ∙ ap Some (omega (arith, l))
