-- A budget that is enough: where a read, a check or an update is not stuck, any greater budget gives the same. So an update comes to one end, and specs/Checks and specs/Turns tell one check and one order of rows. Assumes nothing.
use mathlib.Core.Path.{◌≡◌, refl, sym, ap, ◌∙◌}
use mathlib.Core.Bool.{Bool, true, false, not, ◌&&◌}
use mathlib.Core.List.{List, [], ◌∷◌, ◌++◌}
use Prim.Native.Nat.{ℕ, zero, suc, ◌+◌, ◌≤◌}
use native.Mathlib.Omega.{arith}
use Rattle.values.specs.Values.{same, is_zero}
use Rattle.trees.specs.Trees.{Tree, constant, read, two, choose, apply}
use Rattle.meaning.specs.State.{St, Kind, signal, computed, effect, scope, deps, bare, has_value, f1, f5, with_pending, raised}
use Rattle.meaning.specs.Setters.{set_fl, set_sto, with_cycle}
use Rattle.meaning.specs.Links.{provided, is_nil, link, purge, rewind}
use Rattle.meaning.specs.Reads.{Ans, ans, Out, out, eval_by, spread, settle_w, read_w, first_w, upd_computed, upd_w, same_slots, steady, check_on, check_w, pending_w, fresh_w, fresh}
use Rattle.meaning.specs.Moments.{Steps, here}
use Rattle.meaning.specs.Checks.{tells, Updated, Checks}
use Rattle.meaning.proofs.Laws.{clash, branch, branches, provided_by, or_left}
use Rattle.meaning.proofs.Rings.{purge_ring, eval_ring, upd_ring, check_on-ring}
use Rattle.meaning.proofs.Throughout.{unstuck}
use Rattle.meaning.proofs.Stepped.{drops, runs}
use Rattle.meaning.proofs.Checking.{tells_free, OneEnd, looked_one}

-- b is a, unless a is stuck
record Agrees {A : Type 0} (state : A → St) (a b : A) : Type 0 where
  pub same : (state a).stuck ≡ false → b ≡ a

abbrev AgreeS : St → St → Type 0
AgreeS = Agrees (λ (s : St). s)

abbrev AgreeA : Ans → Ans → Type 0
AgreeA = Agrees (λ (a : Ans). a.st)

abbrev AgreeO : Out → Out → Type 0
AgreeO = Agrees (λ (o : Out). o.st)

-- ---- the first dependency that is asked: r is what it comes to, more what the links after it come to
abbrev asks : ℕ → List ℕ → (St → Ans) → Ans → Ans
asks d was more r = let t = steady was r.st d in elim r.yes [ true ↦ ans (tells t d) true | false ↦ more t ]

steady_steps : (was : List ℕ) (t : St) (d : ℕ) → Steps t (steady was t d)
unfolding steady
steady_steps was t d = provided_by (Steps t) (same_slots was (t.subs d) && not (is_nil was)) here (drops.stops t)

asked_agrees : (d : ℕ) (was : List ℕ) (r q : Ans) (more other : St → Ans) → AgreeA r q → ((t : St) → Steps t (more t).st) → ((t : St) → AgreeA (more t) (other t)) → AgreeA (asks d was more r) (asks d was other q)
asked_agrees d was r q more other ag steps ags =
    let t = steady was r.st d in
    let free : (asks d was more r).st.stuck ≡ false → t.stuck ≡ false = branch (λ (a : Ans). a.st.stuck ≡ false → t.stuck ≡ false) r.yes (λ y z. tells_free t d z) (λ y z. unstuck t (more t).st (steps t) z) in
    let same_way : AgreeA (asks d was more r) (asks d was other r) = branches AgreeA r.yes (λ y. record { same = λ z. refl }) (λ y. ags t) in
    record { same = λ z. ap (asks d was other) (ag.same (unstuck r.st t (steady_steps was r.st d) (free z))) ∙ same_way.same z }

-- n is read, and r is what it comes to
abbrev settled : Ans → ℕ → St
settled r n = let t = spread r n in provided (has_value (t.kind n) (t.fl n)) t

pub settled_free : (r : Ans) (n : ℕ) → (settled r n).stuck ≡ false → r.st.stuck ≡ false
settled_free r n =
    let t = spread r n in
    provided_by (λ (x : St). x.stuck ≡ false → r.st.stuck ≡ false) (has_value (t.kind n) (t.fl n))
    (branch (λ (x : St). x.stuck ≡ false → r.st.stuck ≡ false) r.yes (λ y z. or_left r.st.stuck _ z) (λ y z. z)) (λ z. clash refl z)

-- ---- two budgets that agree below
module _ (k j : ℕ) (agree : (s : St) (n : ℕ) → AgreeA (fresh k s n) (fresh j s n)) where
  settles : (s : St) (n : ℕ) → AgreeS (settle_w (fresh k) s n) (settle_w (fresh j) s n)
  unfolding settle_w
  settles s n = record { same = λ z. ap (λ (r : Ans). settled r n) ((agree s n).same (settled_free (fresh k s n) n z)) }

  reads : (u : ℕ) (s : St) (m : ℕ) → AgreeS (read_w (fresh k) u s m) (read_w (fresh j) u s m)
  reads u s m =
      let t = settle_w (fresh k) s m in
      record { same = λ z. ap (λ (x : St). link x m u x.cycle) ((settles s m).same (unstuck t (link t m u t.cycle) (runs.renews.links t m u t.cycle) z)) }

  evals : (u : ℕ) (f : Tree) (s : St) → AgreeO (eval_by (read_w (fresh k) u) f s) (eval_by (read_w (fresh j) u) f s)
  unfolding eval_by
  evals u (constant c) s = record { same = λ z. refl }
  evals u (read n) s = record { same = λ z. ap (λ (t : St). out t (t.sto n) ((n, t.sto n) ∷ [])) ((reads u s n).same z) }
  evals u (two o a b) s =
      let rd = read_w (fresh k) u in
      let x = eval_by rd a s in
      let y = eval_by rd b x.st in
      record {
        same = λ z.
            ap (λ (v : Out). let w = eval_by (read_w (fresh j) u) b v.st in out w.st (apply o v.val w.val) (v.reads ++ w.reads))
            ((evals u a s).same (unstuck x.st y.st (eval_ring Steps runs.renews k u b x.st) z))
            ∙ ap (λ (w : Out). out w.st (apply o x.val w.val) (x.reads ++ w.reads)) ((evals u b x.st).same z);
      }
  evals u (choose c a b) s =
      let rd = read_w (fresh k) u in
      let rj = read_w (fresh j) u in
      let x = eval_by rd c s in
      let taken : (St → ℕ → St) → Out → Out = λ r v. elim (is_zero v.val) as (λ (i : Bool). Out) [ true ↦ eval_by r b v.st | false ↦ eval_by r a v.st ] in
      let one_way : AgreeO (taken rd x) (taken rj x) = branches AgreeO (is_zero x.val) (λ e. evals u b x.st) (λ e. evals u a x.st) in
      let steps : Steps x.st (taken rd x).st = branch (λ (y : Out). Steps x.st y.st) (is_zero x.val) (λ e. eval_ring Steps runs.renews k u b x.st) (λ e. eval_ring Steps runs.renews k u a x.st) in
      record {
        same = λ z.
            ap (λ (v : Out). let w = taken rj v in out w.st w.val (v.reads ++ w.reads)) ((evals u c s).same (unstuck x.st (taken rd x).st steps z))
            ∙ ap (λ (w : Out). out w.st w.val (x.reads ++ w.reads)) (one_way.same z);
      }

  firsts : (s : St) (n : ℕ) → AgreeS (first_w (fresh k) s n) (first_w (fresh j) s n)
  unfolding first_w
  firsts s n = record { same = λ z. ap (λ (o : Out). set_fl (set_sto o.st n o.val) n f1) ((evals n (s.form n) (set_fl s n f5)).same z) }

  computeds : (s : St) (n : ℕ) → AgreeA (upd_computed (fresh k) s n) (upd_computed (fresh j) s n)
  unfolding upd_computed
  computeds s n =
      let t = set_fl (rewind (with_cycle s (raised s.cycle)) n) n f5 in
      let o = eval_by (read_w (fresh k) n) (s.form n) t in
      let y = set_fl (set_sto o.st n o.val) n f1 in
      record { same = λ z. ap (λ (o : Out). ans (purge (set_fl (set_sto o.st n o.val) n f1) n) (not (same (s.sto n) o.val))) ((evals n (s.form n) t).same (unstuck y (purge y n) (purge_ring Steps drops y n) z)) }

  upds : (c : Kind) (s : St) (n : ℕ) → AgreeA (upd_w (fresh k) c s n) (upd_w (fresh j) c s n)
  unfolding upd_w
  upds signal s n = record { same = λ z. refl }
  upds computed s n = computeds s n
  upds effect s n = record { same = λ z. refl }
  upds scope s n = record { same = λ z. refl }

  checks : (u : ℕ) (ls : List ℕ) (s : St) → AgreeA (check_on (fresh k) u s ls) (check_on (fresh j) u s ls)
  unfolding check_on
  checks u [] s = record { same = λ z. refl }
  checks u (l ∷ ls) s =
      let d = s.dep l in
      branches AgreeA (s.fl u).dirty (λ e. record { same = λ z. refl })
      (λ e. branches AgreeA (s.fl d).mutable
      (λ m. asked_agrees d (s.subs d) (fresh k s d) (fresh j s d) (λ t. check_on (fresh k) u t ls) (λ t. check_on (fresh j) u t ls) (agree s d) (check_on-ring Steps runs.renews k u ls) (checks u ls))
      (λ m. checks u ls s))

  wholly : (s : St) (u : ℕ) → AgreeA (check_w (fresh k) s u) (check_w (fresh j) s u)
  unfolding check_w
  wholly s u = branches AgreeA (is_nil (deps s u)) (λ e. record { same = λ z. refl }) (λ e. checks u (deps s u) s)

  -- after the check c
  abbrev then : ℕ → St → ℕ → Ans → Ans
  then b s n c = elim c.yes [ true ↦ upd_w (fresh b) (s.kind n) c.st n | false ↦ ans (set_fl c.st n (with_pending (c.st.fl n) false)) false ]

  pendings : (s : St) (n : ℕ) → AgreeA (pending_w (fresh k) s n) (pending_w (fresh j) s n)
  unfolding pending_w
  pendings s n =
      let c = check_w (fresh k) s n in
      let free : (then k s n c).st.stuck ≡ false → c.st.stuck ≡ false = branch (λ (a : Ans). a.st.stuck ≡ false → c.st.stuck ≡ false) c.yes (λ y z. unstuck c.st (upd_w (fresh k) (s.kind n) c.st n).st (upd_ring Steps runs.renews k (s.kind n) c.st n) z) (λ y z. z) in
      let one_way : AgreeA (then k s n c) (then j s n c) = branches AgreeA c.yes (λ y. upds (s.kind n) c.st n) (λ y. record { same = λ z. refl }) in
      record { same = λ z. ap (then j s n) ((wholly s n).same (free z)) ∙ one_way.same z }

  all_agree : (s : St) (n : ℕ) → AgreeA (fresh_w (fresh k) s n) (fresh_w (fresh j) s n)
  unfolding fresh_w
  all_agree s n =
      branches AgreeA (bare (s.fl n)) (λ e. record { same = λ z. ap (λ (x : St). ans x false) ((firsts s n).same z) })
      (λ e. branches AgreeA (s.fl n).dirty (λ f. upds (s.kind n) s n)
      (λ f. branches AgreeA (s.fl n).pending (λ p. pendings s n) (λ p. record { same = λ z. refl })))

enough : (k j : ℕ) → k ≤ j → (s : St) (n : ℕ) → AgreeA (fresh k s n) (fresh j s n)
unfolding fresh
enough zero j h s n = record { same = λ z. clash refl z }
enough (suc k) zero h s n = absurd (omega arith)
enough (suc k) (suc j) h s n = all_agree k j (enough k j (omega arith)) s n

-- a budget with which a node is brought up to date is enough
pub budget_enough : (k j : ℕ) → k ≤ j → (s : St) (n : ℕ) → (fresh k s n).st.stuck ≡ false → fresh j s n ≡ fresh k s n
budget_enough k j h s n = (enough k j h s n).same

-- ---- so an update comes to one end, and there is one check
pub updated_one : OneEnd Updated
updated_one s d t x b c u v =
    let m = u.0 + v.0 in
    let p = (upds u.0 m (enough u.0 m (omega arith)) (s.kind d) s d).same (ap (λ (a : Ans). a.st.stuck) u.1 ∙ u.2) in
    let q = (upds v.0 m (enough v.0 m (omega arith)) (s.kind d) s d).same (ap (λ (a : Ans). a.st.stuck) v.1 ∙ v.2) in
    let e : ans t b ≡ ans x c = sym u.1 ∙ sym p ∙ q ∙ v.1 in
    (ap (λ (a : Ans). a.st) e, ap (λ (a : Ans). a.yes) e)

pub checks_one : (s : St) (u : ℕ) (t x : St) (b c : Bool) → Checks s u t b → Checks s u x c → (t ≡ x) × (b ≡ c)
checks_one s u t x b c = looked_one updated_one
