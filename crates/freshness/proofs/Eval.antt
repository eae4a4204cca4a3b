-- (b): evaluation is a fold over what is read. With a reader that keeps P and hands back φ, the value and the record are those over φ. Assumes nothing.
use mathlib.Core.Path.{◌≡◌, refl, sym, ap, ap₂, ◌∙◌, subst}
use mathlib.Core.Logic.{inl}
use mathlib.Core.Bool.{Bool, true, false}
use mathlib.Core.List.{List, [], ◌∷◌, ◌++◌, append_assoc, append-nil}
use Prim.Native.Nat.{ℕ, ◌+◌, ◌≤◌, ◌<◌}
use native.Mathlib.Omega.{arith}
use lib.ListN.{length, length-append}
use Rattle.values.specs.declared.Value.{Value}
use Rattle.values.specs.Values.{is_zero}
use Rattle.trees.specs.Trees.{Tree, constant, read, two, choose, apply, chosen, worth, reads, names}
use Rattle.meaning.specs.State.{St}
use Rattle.meaning.specs.Reads.{Out, eval_by}
use Rattle.meaning.specs.WellFormed.{In}
use Rattle.freshness.specs.Afresh.{paired, readings}
use Rattle.freshness.specs.Evaluations.{in_formula}
use Rattle.meaning.proofs.Laws.{false≢true, in_left, in_right}
use Rattle.freshness.proofs.Forms.{as_many, paired_join}

-- P s ns: what holds after the nodes ns have been read; k evaluations at most are made from s on
pub record Went (P : St → List ℕ → Type 0) (f : Tree) (φ : ℕ → Value) (ns : List ℕ) (s : St) (k : ℕ) (o : Out) : Type 0 where
  pub keeps : P o.st (ns ++ reads f φ)
  pub value : o.val ≡ worth f φ
  pub record_is : o.reads ≡ readings f φ
  pub spent : o.st.cycle ≤ s.cycle + k

-- at most `most` reads are made, and the cycle stays below `end`
module _ (P : St → List ℕ → Type 0) (φ : ℕ → Value) (rd : St → ℕ → St) (c : St → ℕ → ℕ) (most end : ℕ) where
  -- the branch that was taken
  picked : (a b : Tree) (ms : List ℕ) (t : St) (oa ob : Out) (ka kb : ℕ) (y z : Bool) → y ≡ z
      → t.cycle + (elim y as (λ (x : Bool). ℕ) [ true ↦ kb | false ↦ ka ]) < end
      → (z ≡ true → t.cycle + kb < end → Went P b φ ms t kb ob) → (z ≡ false → t.cycle + ka < end → Went P a φ ms t ka oa)
      → P (elim y as (λ (x : Bool). Out) [ true ↦ ob | false ↦ oa ]).st (ms ++ (elim z as (λ (x : Bool). List ℕ) [ true ↦ reads b φ | false ↦ reads a φ ]))
      × ((elim y as (λ (x : Bool). Out) [ true ↦ ob | false ↦ oa ]).val ≡ (elim z as (λ (x : Bool). Value) [ true ↦ worth b φ | false ↦ worth a φ ]))
      × ((elim y as (λ (x : Bool). Out) [ true ↦ ob | false ↦ oa ]).reads ≡ paired φ (elim z as (λ (x : Bool). List ℕ) [ true ↦ reads b φ | false ↦ reads a φ ]))
      × ((elim y as (λ (x : Bool). Out) [ true ↦ ob | false ↦ oa ]).st.cycle ≤ t.cycle + (elim y as (λ (x : Bool). ℕ) [ true ↦ kb | false ↦ ka ]))
  unfolding readings
  picked a b ms t oa ob ka kb true true e q f g = let w = f refl q in (w.keeps, w.value, w.record_is, w.spent)
  picked a b ms t oa ob ka kb false false e q f g = let w = g refl q in (w.keeps, w.value, w.record_is, w.spent)
  picked a b ms t oa ob ka kb true false e q f g = false≢true (sym e)
  picked a b ms t oa ob ka kb false true e q f g = false≢true e

  pub evaluates : (f : Tree) (s : St) (ns : List ℕ)
      → ((n : ℕ) → In n (names f) → (t : St) (ms : List ℕ) → length ms < most → t.cycle + c t n < end → P t ms → P (rd t n) (ms ++ n ∷ []) × ((rd t n).sto n ≡ φ n) × ((rd t n).cycle ≤ t.cycle + c t n))
      → length ns + length (names f) ≤ most → s.cycle + in_formula rd c f s < end → P s ns → Went P f φ ns s (in_formula rd c f s) (eval_by rd f s)
  unfolding eval_by worth reads names readings paired chosen in_formula
  evaluates (constant k) s ns h b q p = record { keeps = subst (P s) (sym (append-nil ns)) p; value = refl; record_is = refl; spent = omega arith }
  evaluates (read n) s ns h b q p =
      let g = h n (inl refl) s ns (omega arith) q p in
      record { keeps = g.0; value = g.1; record_is = ap (λ (v : Value). (n, v) ∷ []) g.1; spent = g.2 }
  evaluates (two o a b) s ns h r q p =
      let na = length-append (names a) (names b) in
      let ta = length-append ns (reads a φ) in
      let many = as_many a φ in
      let x = evaluates a s ns (λ n i. h n (in_left n (names a) (names b) i)) (omega arith) (omega arith) p in
      let xs = x.spent in
      let y = evaluates b (eval_by rd a s).st (ns ++ reads a φ) (λ n i. h n (in_right n (names a) (names b) i)) (omega arith) (omega arith) x.keeps in
      let ys = y.spent in
      record {
        keeps = subst (P (eval_by rd b (eval_by rd a s).st).st) (append_assoc ns (reads a φ) (reads b φ)) y.keeps;
        value = ap₂ (apply o) x.value y.value;
        record_is = ap₂ ◌++◌ x.record_is y.record_is ∙ paired_join φ (reads a φ) (reads b φ);
        spent = omega arith;
      }
  evaluates (choose x a b) s ns h r q p =
      let na = length-append (names x) (names a ++ names b) in
      let nb = length-append (names a) (names b) in
      let tc = length-append ns (reads x φ) in
      let many = as_many x φ in
      let t = (eval_by rd x s).st in
      let ka = in_formula rd c a t in
      let kb = in_formula rd c b t in
      let kt : ℕ = elim (is_zero (eval_by rd x s).val) [ true ↦ kb | false ↦ ka ] in
      let q' : s.cycle + (in_formula rd c x s + kt) < end = q in
      let w = evaluates x s ns (λ n i. h n (in_left n (names x) (names a ++ names b) i)) (omega arith) (omega arith) p in
      let ws = w.spent in
      let ms = ns ++ reads x φ in
      let room : t.cycle + kt < end = omega arith in
      let y = picked a b ms t (eval_by rd a t) (eval_by rd b t) ka kb (is_zero (eval_by rd x s).val) (is_zero (worth x φ)) (ap is_zero w.value) room
      (λ e m. evaluates b t ms (λ n i. h n (in_right n (names x) (names a ++ names b) (in_right n (names a) (names b) i))) (omega arith) m w.keeps)
      (λ e m. evaluates a t ms (λ n i. h n (in_right n (names x) (names a ++ names b) (in_left n (names a) (names b) i))) (omega arith) m w.keeps) in
      let ys : (eval_by rd (choose x a b) s).st.cycle ≤ t.cycle + kt = y.3 in
      let z : (eval_by rd (choose x a b) s).st.cycle ≤ s.cycle + (in_formula rd c x s + kt) = omega arith in
      record {
        keeps = subst (P (eval_by rd (choose x a b) s).st) (append_assoc ns (reads x φ) (elim (is_zero (worth x φ)) [ true ↦ reads b φ | false ↦ reads a φ ])) y.0;
        value = y.1;
        record_is = ap₂ ◌++◌ w.record_is y.2 ∙ paired_join φ (reads x φ) (elim (is_zero (worth x φ)) [ true ↦ reads b φ | false ↦ reads a φ ]);
        spent = z;
      }
