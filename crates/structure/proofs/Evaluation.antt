-- A read and the evaluation of a formula over words are those over lists, given that bringing a node of lower rank up to date is. No slot is missing, for no list operation is stuck. Assumes nothing.
use mathlib.Core.Path.{◌≡◌, sym, ap, ◌∙◌, subst}
use mathlib.Core.Bool.{Bool, true, false}
use mathlib.Core.List.{List, []}
use Prim.Native.Nat.{ℕ, suc, ◌<◌, ◌≤◌}
use native.Mathlib.Omega.{arith}
use lib.IntN.{ℤ, pos}
use borrow.Author.Tests.{lt-ltb}
use Rattle.values.specs.Values.{value}
use Rattle.trees.specs.Trees.{Tree, names}
use Rattle.trees.specs.Legal.{most_nesting}
use Rattle.trees.proofs.Laid.{Laid}
use Rattle.reading.specs.Tables.{State, Got, got, rank_of, current_of}
use Rattle.reading.specs.Steps.{linked_to}
use Rattle.reading.specs.Ring.{Ring, read_by, evaluated_by}
use Rattle.meaning.specs.State.{St, readable}
use Rattle.meaning.specs.Links.{last_of, head_of, goes_to, is_from, renew, insert, link as link_of}
use Rattle.meaning.specs.Reads.{Ans, eval_by, settle_w, read_w, evaluate_w}
use Rattle.meaning.specs.WellFormed.{In}
use Rattle.meaning.proofs.Laws.{false≢true}
use Rattle.meaning.proofs.Still.{Given}
use Rattle.meaning.proofs.Inside.{Set, Static, Inside}
use Rattle.meaning.proofs.Frames.{Open}
use Rattle.meaning.proofs.Reading.{Above, Freshens, settle_inside, reads_of, During, during_open, later, read_during}
use Rattle.structure.proofs.Held.{inside_held}
use Rattle.structure.proofs.Steps.{Sees, linked_sees}
use Rattle.structure.proofs.Evaluate.{cells_sim}

-- a link that is not stuck found a slot
pub slot_found : (s : St) (d u v : ℕ) → (link_of s d u v).stuck ≡ false
    → goes_to s (last_of (s.done u)) d ≡ false → goes_to s (head_of (s.rest u)) d ≡ false → is_from s (last_of (s.subs d)) u v ≡ false → s.free ≡ [] → ⊥
unfolding link_of insert
slot_found s d u v q a b c e =
    let pick : Bool → St → St → St = λ z x y. elim z [ true ↦ x | false ↦ y ] in
    let one : link_of s d u v ≡ insert s d u v [] =
    ap (λ (z : Bool). pick z s (pick (goes_to s (head_of (s.rest u)) d) (renew s u v (s.rest u)) (pick (is_from s (last_of (s.subs d)) u v) s (insert s d u v s.free)))) a
    ∙ ap (λ (z : Bool). pick z (renew s u v (s.rest u)) (pick (is_from s (last_of (s.subs d)) u v) s (insert s d u v s.free))) b
    ∙ ap (λ (z : Bool). pick z s (insert s d u v s.free)) c ∙ ap (insert s d u v) e in
    false≢true (sym q ∙ ap (λ (z : St). z.stuck) one)

module _ (g : Given) (st : Static g) (k : ℕ) (fr : St → ℕ → Ans) (frs : Freshens g st k fr) (r : Ring) (ran : List ℕ) (C : List ℤ)
    (refreshes : (X : Set) (x : State) (s : St) (m : ℕ) → Inside g X s → Open g st X s → m < g.size → readable (g.kind m) ≡ true → Above g st X m → m < k → s.stuck ≡ false → Sees ran x C s → Sees ran (r.refresh x m) C (settle_w fr s m))
    (X : Set) (u : ℕ) (xu : X u) (hu : u < g.size) (above : (m : ℕ) → X m → readable (g.kind m) ≡ true → u ≤ m) (s₀ : St) (i₀ : Inside g X s₀) (le : u ≤ k) (free : s₀.stuck ≡ false) where
  abbrev Mid : ℕ → St → Type 0
  Mid i s = During g st X u s₀ i s

  -- what u reads
  abbrev Ok : ℕ → Type 0
  Ok m = In m (names (g.form u))

  pub read_sim : (x : State) (s : St) (m i : ℕ) → Ok m → suc i ≤ reads_of g st u → Mid i s → Sees ran x C s
      → Sees ran (read_by r u x m).after C (read_w fr u s m) × Mid (suc i) (read_w fr u s m) × ((read_by r u x m).value ≡ (read_w fr u s m).sto m)
  unfolding read_by rank_of
  read_sim x s m i named few d q =
      let low = st.names_lower u m hu named in
      let mu : m < u = low.1 in
      let hm : m < g.size = omega arith in
      let o : Open g st X s = during_open g st X u xu hu above s₀ i₀ i s d (omega arith) in
      let ab : Above g st X m = λ n xn rd. let a = above n xn rd in omega arith in
      let seen : Sees ran (r.refresh x m) C (settle_w fr s m) = refreshes X x s m d.inside o hm low.0 ab (omega arith) (d.frame.stuck ∙ free) q in
      let t = settle_w fr s m in
      let it : Inside g X t = (settle_inside g st k fr frs X s m d.inside o hm low.0 ab (omega arith)).inside in
      let next : Mid (suc i) (read_w fr u s m) = read_during g st X u xu hu above s₀ i₀ m named k fr frs le i s d (omega arith) in
      let at : (n : ℕ) → n < g.size → n < t.size = λ n h. subst (λ (z : Given). n < z.size) (sym it.same) h in
      let linked : Sees ran (linked_to (r.refresh x m) m u) C (read_w fr u s m) =
      linked_sees ran (r.refresh x m) C t m u (inside_held g X t st it) seen (at m hm) (at u hu) (slot_found t m u t.cycle (next.frame.stuck ∙ free)) in
      subst (λ (b : Bool). Reads b x s m i) (sym (lt-ltb m u mu)) (linked, next, linked.values.current m)
    where
      by : Bool → State → ℕ → Got
      by b x m = elim b [ true ↦ got (current_of (linked_to (r.refresh x m) m u).values m) (linked_to (r.refresh x m) m u) | false ↦ got (value (pos 0)) x ]

      Reads : Bool → State → St → ℕ → ℕ → Type 0
      Reads b x s m i = Sees ran (by b x m).after C (read_w fr u s m) × Mid (suc i) (read_w fr u s m) × ((by b x m).value ≡ (read_w fr u s m).sto m)

  -- the formula of u stands at cell j
  pub evaluation_sim : (ws : List ℤ) (j : ℕ) (x : State) (s : St) → Laid ws (g.form u) j → Mid 0 s → Sees ran x C s
      → Sees ran (evaluated_by ws r u most_nesting x j).after C (evaluate_w fr s u).st × Mid (reads_of g st u) (evaluate_w fr s u).st × ((evaluated_by ws r u most_nesting x j).value ≡ (evaluate_w fr s u).val)
  evaluation_sim ws j x s l d q =
      let e : s.form u ≡ g.form u = ap (λ (z : Given). z.form u) d.inside.same in
      subst (λ (f : Tree). Sees ran (evaluated_by ws r u most_nesting x j).after C (eval_by (read_w fr u) f s).st × Mid (reads_of g st u) (eval_by (read_w fr u) f s).st × ((evaluated_by ws r u most_nesting x j).value ≡ (eval_by (read_w fr u) f s).val)) (sym e)
      (cells_sim r u (read_w fr u) ran C Mid Ok (reads_of g st u) (λ i n z h p. later g st X u xu hu above s₀ i₀ i n z h p) read_sim ws (g.form u) j x s l (st.nesting_low u hu) (λ m i. i) (omega arith) d q)
