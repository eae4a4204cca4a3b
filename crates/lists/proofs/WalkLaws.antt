-- One list: the walk with a budget passes exactly the chains, a chain is what the decoding finds, and it has nothing twice. Assumes nothing.
use Rattle.std.specs.Prelude.{Option, Some, None}
use mathlib.Core.Path.{◌≡◌, refl, ap, ◌∙◌, subst}
use mathlib.Core.Bool.{Bool, true, false}
use mathlib.Core.List.{List, [], ◌∷◌}
use Prim.Native.Nat.{ℕ, zero, suc, ◌+◌, ◌-◌, ◌<◌, ◌≤◌}
use native.Mathlib.Omega.{arith}
use lib.Dec.{eqb}
use lib.ListN.{length}
use borrow.Author.Tests.{eqb-true}
use Rattle.lists.specs.Sum.{occ, All}
use Rattle.lists.specs.Walk.{Chain, slots, run}
use Rattle.lists.proofs.SumLaws.{bit_le, bit_false, occ_nil, occ_cons}

pub left_same : {a b : ℕ} → Some a ≡ Some b → a ≡ b
left_same e = cc

pub not_left : {a : ℕ} → None ≡ Some a → ⊥
not_left e = let z : ◌≡◌ {A = ℕ} 0 1 = cc in omega arith

pub if_left : (c : Bool) (r : Option ℕ) {m : ℕ} → elim c [ true ↦ r | false ↦ None ] ≡ Some m → (c ≡ true) × (r ≡ Some m)
if_left true r e = (refl, e)
if_left false r e = absurd (not_left e)

module _ (next : ℕ → ℕ) (ok : ℕ → ℕ → Bool) (fin : ℕ → Bool) where
  pub run_end : (b p : ℕ) → fin p ≡ true → run next ok fin b p 0 ≡ Some b
  unfolding run
  run_end zero p e = rw (e, run)
  run_end (suc b) p e = rw (e, run)

  pub run_step : (b p x : ℕ) → ok p x ≡ true → run next ok fin (suc b) p (suc x) ≡ run next ok fin b (suc x) (next x)
  unfolding run
  run_step b p x e = rw (e, run)

  -- the walk passes only chains, and takes the chain's length off its budget
  pub sound : (b p w m : ℕ) → run next ok fin b p w ≡ Some m → Chain next ok fin p w (slots next b w) × (length (slots next b w) + m ≡ b)
  unfolding run slots
  sound zero p zero m e = let r = if_left (fin p) (Some zero) e in ((refl, r.0), omega (arith, left_same r.1))
  sound zero p (suc x) m e = absurd (not_left e)
  sound (suc b) p zero m e =
      let r = if_left (fin p) (Some (suc b)) e in
      let q : suc b ≡ m = left_same r.1 in
      ((refl, r.0), omega arith)
  sound (suc b) p (suc x) m e =
      let r = if_left (ok p x) (run next ok fin b (suc x) (next x)) e in
      let s = sound b (suc x) (next x) m r.1 in
      ((refl, r.0, s.0), omega (arith, s.1))

  -- and it passes every chain that its budget reaches
  pub complete : (b p w : ℕ) (xs : List ℕ) → Chain next ok fin p w xs → length xs ≤ b → run next ok fin b p w ≡ Some (b - length xs)
  complete b p w [] c l = rw c.0 (run_end b p c.1 ∙ ap Some (omega arith))
  complete zero p w (x ∷ xs) c l = absurd (omega arith)
  complete (suc b) p w (x ∷ xs) c l =
      rw c.0
      (run_step b p x c.1 ∙ complete b (suc x) (next x) xs c.2 (omega arith) ∙ ap Some (omega arith))

  -- a chain is what the decoding finds, whatever the bound
  pub decode : (b p w : ℕ) (xs : List ℕ) → Chain next ok fin p w xs → length xs ≤ b → slots next b w ≡ xs
  unfolding slots
  decode zero p w [] c l = refl
  decode (suc b) p w [] c l = rw c.0
  decode zero p w (x ∷ xs) c l = absurd (omega arith)
  decode (suc b) p w (x ∷ xs) c l = rw c.0 (ap (λ (ys : List ℕ). x ∷ ys) (decode b (suc x) (next x) xs c.2 (omega arith)))

  -- what ok ensures holds of each slot
  pub each : (R : ℕ → Type 0) → ((p x : ℕ) → ok p x ≡ true → R x) → (p w : ℕ) (xs : List ℕ) → Chain next ok fin p w xs → All R xs
  each R h p w [] c = tt
  each R h p w (x ∷ xs) c = (h p x c.1, each R h (suc x) (next x) xs c.2)

  -- two chains from one word are equally long
  same_length : (p q w : ℕ) (xs ys : List ℕ) → Chain next ok fin p w xs → Chain next ok fin q w ys → length xs ≡ length ys
  same_length p q w [] [] c d = refl
  same_length p q w [] (y ∷ ys) c d = absurd (omega (arith, c.0, d.0))
  same_length p q w (x ∷ xs) [] c d = absurd (omega (arith, c.0, d.0))
  same_length p q w (x ∷ xs) (y ∷ ys) c d =
      let e : x ≡ y = omega (arith, c.0, d.0) in
      let c' : Chain next ok fin (suc y) (next y) xs = subst (λ (z : ℕ). Chain next ok fin (suc z) (next z) xs) e c.2 in
      ap suc (same_length (suc y) (suc y) (next y) xs ys c' d.2)

  -- from a slot of a chain a chain goes on that is no longer
  onward : (p w x : ℕ) (xs : List ℕ) → Chain next ok fin p w xs → 0 < occ x xs → (q : ℕ) × (ys : List ℕ) × Chain next ok fin q (suc x) ys × (length ys ≤ length xs)
  onward p w x [] c h = absurd (omega (arith, occ_nil x))
  onward p w x (y ∷ ys) c h = at (onward (suc y) (next y) x ys c.2) (eqb x y) refl
    where
      at : (0 < occ x ys → (q : ℕ) × (zs : List ℕ) × Chain next ok fin q (suc x) zs × (length zs ≤ length ys)) → (b : Bool) → eqb x y ≡ b
          → (q : ℕ) × (zs : List ℕ) × Chain next ok fin q (suc x) zs × (length zs ≤ suc (length ys))
      at rest true q =
          let e : x ≡ y = eqb-true x y q in
          let i : w ≡ suc x = omega (arith, c.0) in
          (p, y ∷ ys, subst (λ (z : ℕ). Chain next ok fin p z (y ∷ ys)) i c, omega arith)
      at rest false q =
          let r = rest (omega (arith, occ_cons x y ys, bit_false (eqb x y) q)) in
          (r.0, r.1, r.2, omega (arith, r.3))

  -- NO REPEATS: a walk that comes to nothing met no slot twice, since what follows a slot is determined by it
  pub once : (p w : ℕ) (xs : List ℕ) → Chain next ok fin p w xs → (x : ℕ) → occ x xs ≤ 1
  once p w [] c x = omega (arith, occ_nil x)
  once p w (y ∷ ys) c x = at (once (suc y) (next y) ys c.2 x) (eqb x y) refl
    where
      twice : x ≡ y → (k : ℕ) → occ x ys ≡ k → k ≤ 0
      twice e zero o = omega arith
      twice e (suc k) o =
          let r = onward (suc y) (next y) x ys c.2 (omega (arith, o)) in
          let i : w ≡ suc x = omega (arith, c.0) in
          let d : Chain next ok fin p (suc x) (y ∷ ys) = subst (λ (z : ℕ). Chain next ok fin p z (y ∷ ys)) i c in
          absurd (omega (arith, same_length r.0 p (suc x) r.1 (y ∷ ys) r.2 d, r.3))

      at : occ x ys ≤ 1 → (b : Bool) → eqb x y ≡ b → occ x (y ∷ ys) ≤ 1
      at rest true q = omega (arith, occ_cons x y ys, bit_le (eqb x y), twice (eqb-true x y q) (occ x ys) refl)
      at rest false q = omega (arith, occ_cons x y ys, bit_false (eqb x y) q)

  -- the ways through one turn of the code, over words
  pub run_done : (b p w : ℕ) → w ≡ 0 → fin p ≡ true → run next ok fin b p w ≡ Some b
  run_done b p w e f = rw e (run_end b p f)

  pub run_wrong : (b p w : ℕ) → w ≡ 0 → fin p ≡ false → run next ok fin b p w ≡ None
  unfolding run
  run_wrong zero p w e f = rw e (rw (f, run))
  run_wrong (suc b) p w e f = rw e (rw (f, run))

  pub run_out : (b p w : ℕ) → (w ≡ 0 → ⊥) → b ≡ 0 → run next ok fin b p w ≡ None
  unfolding run
  run_out b p zero h e = absurd (h refl)
  run_out b p (suc x) h e = rw e

  pub run_bad : (b p w : ℕ) → (w ≡ 0 → ⊥) → (b ≡ 0 → ⊥) → ok p (w - 1) ≡ false → run next ok fin b p w ≡ None
  unfolding run
  run_bad b p zero h g e = absurd (h refl)
  run_bad zero p (suc x) h g e = absurd (g refl)
  run_bad (suc b) p (suc x) h g e =
      let m : suc x - 1 ≡ x = omega arith in
      let f : ok p x ≡ false = rw m at e in
      rw (f, run)

  pub run_more : (b p w : ℕ) → (w ≡ 0 → ⊥) → (b ≡ 0 → ⊥) → ok p (w - 1) ≡ true → run next ok fin b p w ≡ run next ok fin (b - 1) w (next (w - 1))
  run_more b p zero h g e = absurd (h refl)
  run_more zero p (suc x) h g e = absurd (g refl)
  run_more (suc b) p (suc x) h g e =
      let m : suc x - 1 ≡ x = omega arith in
      let n : suc b - 1 ≡ b = omega arith in
      let f : ok p x ≡ true = rw m at e in
      rw (m, n) (run_step b p x f)

-- where the tests do not look at the word before, it does not matter
pub run_blind : (next : ℕ → ℕ) (ok : ℕ → Bool) (b p q w : ℕ) → run next (λ (p x : ℕ). ok x) (λ (p : ℕ). true) b p w ≡ run next (λ (p x : ℕ). ok x) (λ (p : ℕ). true) b q w
unfolding run
run_blind next ok zero p q zero = refl
run_blind next ok zero p q (suc x) = refl
run_blind next ok (suc b) p q zero = refl
run_blind next ok (suc b) p q (suc x) = refl
