-- A relation between the state before and after that holds of an operation's own steps, and from step to step, holds of the operation.
-- The first ring (unlink, unwatched, dispose, purge), the second (read, check, update, evaluation), runs and the flush. Assumes nothing.
use Rattle.std.specs.Prelude.{Option, None, Some}
use mathlib.Core.Path.{◌≡◌, refl, subst}
use mathlib.Core.Bool.{Bool, true, false, not, ◌&&◌}
use mathlib.Core.List.{List, [], ◌∷◌}
use Prim.Native.Nat.{ℕ, zero, suc, ◌+◌}
use native.Mathlib.Omega.{arith}
use Rattle.flags.specs.declared.Named.{Named}
use Rattle.values.specs.declared.Value.{Value}
use Rattle.values.specs.Values.{is_zero}
use Rattle.trees.specs.Trees.{Tree, constant, read, two, choose}
use Rattle.meaning.specs.State.{St, Kind, signal, computed, effect, scope, Row, bare, has_value, f0, f1, f2, f5, f6, f17, with_pending, raised, deps}
use Rattle.meaning.specs.Setters.{with_cycle, with_log, with_queue, set_fl, set_sto, set_gone}
use Rattle.meaning.specs.Links.{stop, provided, is_nil, head_of, last_of, goes_to, is_from, several, each, renew, insert, link, cut, rewind, purge_w, last_link, dispose_w, unwatched_w, unlink_n, budget, purge, dispose}
use Rattle.meaning.specs.Marks.{is_effect, shallow}
use Rattle.meaning.specs.Reads.{Ans, Out, ans, eval_by, spread, settle_w, read_w, first_w, upd_computed, upd_signal, upd_w, same_slots, steady, check_on, check_w, pending_w, fresh_w, fresh, settle, check, evaluate}
use Rattle.meaning.specs.Engine.{logged, rerun, run, flush_on}
use Rattle.meaning.specs.Evaluations.{in_formula, in_check_on, in_check, in_update, in_pending, with_first, count_first, count_fresh_w, count_fresh, count_read, count_evaluation, count_rerun, count_run, count_flush_on}
use Rattle.meaning.proofs.Laws.{branch, branches, provided_by}

-- ---- a link, by its four ways
four {κ} : (P : St → Type κ) (a b c : Bool) (w x y z : St) → (a ≡ true → P w) → (b ≡ true → P x) → (c ≡ true → P y) → P z → P (elim a [ true ↦ w | false ↦ elim b [ true ↦ x | false ↦ elim c [ true ↦ y | false ↦ z ] ] ])
four P true b c w x y z f g h i = f refl
four P false true c w x y z f g h i = g refl
four P false false true w x y z f g h i = h refl
four P false false false w x y z f g h i = i

pub link_ways {κ} : (P : St → Type κ) (s : St) (d u v : ℕ) → (goes_to s (last_of (s.done u)) d ≡ true → P s) → (goes_to s (head_of (s.rest u)) d ≡ true → P (renew s u v (s.rest u)))
    → (is_from s (last_of (s.subs d)) u v ≡ true → P s) → P (insert s d u v s.free) → P (link s d u v)
unfolding link
link_ways P s d u v = four P (goes_to s (last_of (s.done u)) d) (goes_to s (head_of (s.rest u)) d) (is_from s (last_of (s.subs d)) u v) s (renew s u v (s.rest u)) s (insert s d u v s.free)

-- ---- the first ring
pub record Drops (R : St → St → Type 0) : Type 0 where
  pub same : (s : St) → R s s
  pub then : (s t x : St) → R s t → R t x → R s x
  pub stops : (s : St) → R s (stop s)
  pub cuts : (s : St) (l : ℕ) → s.live l ≡ true → R s (cut s l)
  pub bares : (s : St) (x : ℕ) → R s (set_gone (set_fl (rewind s x) x f0) x true)
  pub stales : (s : St) (d : ℕ) → R s (set_fl (rewind s d) d f17)

module _ (R : St → St → Type 0) (r : Drops R) where
  each_ring : (ul : St → ℕ → St) → ((s : St) (l : ℕ) → R s (ul s l)) → (ls : List ℕ) (s : St) → R s (each ul s ls)
  unfolding each
  each_ring ul h [] s = r.same s
  each_ring ul h (l ∷ ls) s = r.then s (ul s l) (each ul (ul s l) ls) (h s l) (each_ring ul h ls (ul s l))

  last_ring : (ul : St → ℕ → St) → ((s : St) (l : ℕ) → R s (ul s l)) → (o : Option ℕ) (s : St) → R s (last_link ul s o)
  unfolding last_link
  last_ring ul h None s = r.same s
  last_ring ul h (Some l) s = h s l

  -- a disposal from the gone mark on
  marked_ring : (ul : St → ℕ → St) → ((s : St) (l : ℕ) → R s (ul s l)) → (s : St) (x : ℕ) → R (set_gone (set_fl (rewind s x) x f0) x true) (dispose_w ul s x)
  unfolding dispose_w
  marked_ring ul h s x =
      let a = set_gone (set_fl (rewind s x) x f0) x true in
      let t = purge_w ul a x in
      r.then a t _ (each_ring ul h (a.rest x) a) (last_ring ul h (head_of (t.subs x)) t)

  dispose_w-ring : (ul : St → ℕ → St) → ((s : St) (l : ℕ) → R s (ul s l)) → (s : St) (x : ℕ) → R s (dispose_w ul s x)
  dispose_w-ring ul h s x = r.then s _ _ (r.bares s x) (marked_ring ul h s x)

  unwatched_ring : (ul : St → ℕ → St) → ((s : St) (l : ℕ) → R s (ul s l)) → (s : St) (d : ℕ) → R s (unwatched_w ul s d)
  unfolding unwatched_w
  unwatched_ring ul h s d =
      branch (R s) (s.fl d).mutable
      (λ e. branch (R s) (is_nil (s.done d)) (λ f. r.same s) (λ f. let a = set_fl (rewind s d) d f17 in r.then s a _ (r.stales s d) (each_ring ul h (a.rest d) a)))
      (λ e. dispose_w-ring ul h s d)

  pub unlink_ring : (k : ℕ) (s : St) (l : ℕ) → R s (unlink_n k s l)
  unfolding unlink_n
  unlink_ring zero s l = r.stops s
  unlink_ring (suc k) s l =
      branch (R s) (s.live l)
      (λ v. branch (R s) (is_nil ((cut s l).subs (s.dep l)))
      (λ e. r.then s (cut s l) _ (r.cuts s l v) (unwatched_ring (unlink_n k) (unlink_ring k) (cut s l) (s.dep l)))
      (λ e. r.cuts s l v))
      (λ v. r.stops s)

  pub purge_ring : (s : St) (u : ℕ) → R s (purge s u)
  purge_ring s u = each_ring (unlink_n (budget s)) (unlink_ring (budget s)) (s.rest u) s

  pub purging_ring : (s : St) (x : ℕ) → R (set_gone (set_fl (rewind s x) x f0) x true) (dispose s x)
  purging_ring s x = marked_ring (unlink_n (budget s)) (unlink_ring (budget s)) s x

  pub dispose_ring : (s : St) (x : ℕ) → R s (dispose s x)
  dispose_ring s x = dispose_w-ring (unlink_n (budget s)) (unlink_ring (budget s)) s x

-- ---- the second ring
pub record Renews (R : St → St → Type 0) : Type 0 where
  pub drops : Drops R
  pub begins : (s : St) (n : ℕ) (f : Named) → R s (set_fl (rewind (with_cycle s (raised s.cycle)) n) n f)
  pub flags : (s : St) (n : ℕ) (f : Named) → R s (set_fl s n f)
  pub stores : (s : St) (n : ℕ) (v : Value) (f : Named) → R s (set_fl (set_sto s n v) n f)
  pub moves : (s : St) (n : ℕ) → R s (set_sto (set_fl s n f1) n (s.pend n))
  pub links : (s : St) (n u v : ℕ) → R s (link s n u v)
  pub shallows : (s : St) (n : ℕ) → R s (shallow s n)

-- the same with a number: 1 where an evaluation begins that counts, 0 at any other step; `all`: first ones count too
pub record Counts (all : Bool) (R : ℕ → St → St → Type 0) : Type 0 where
  pub drops : Drops (R 0)
  pub then : (a b : ℕ) (s t x : St) → R a s t → R b t x → R (a + b) s x
  pub firsts : (s : St) (n : ℕ) → R (with_first all 0) s (set_fl s n f5)
  pub begins : (s : St) (n : ℕ) (f : Named) → R 1 s (set_fl (rewind (with_cycle s (raised s.cycle)) n) n f)
  pub flags : (s : St) (n : ℕ) (f : Named) → R 0 s (set_fl s n f)
  pub stores : (s : St) (n : ℕ) (v : Value) (f : Named) → R 0 s (set_fl (set_sto s n v) n f)
  pub moves : (s : St) (n : ℕ) → R 0 s (set_sto (set_fl s n f1) n (s.pend n))
  pub links : (s : St) (n u v : ℕ) → R 0 s (link s n u v)
  pub shallows : (s : St) (n : ℕ) → R 0 s (shallow s n)

one_first : (all : Bool) (m : ℕ) → with_first all 0 + m ≡ with_first all m
one_first true m = omega arith
one_first false m = omega arith

module _ (all : Bool) (R : ℕ → St → St → Type 0) (r : Counts all R) where
  equal : (a b : ℕ) (s t : St) → a ≡ b → R a s t → R b s t
  equal a b s t e p = subst (λ (m : ℕ). R m s t) e p

  after : (m : ℕ) (s t x : St) → R m s t → R 0 t x → R m s x
  after m s t x p q = equal (m + 0) m s x (omega arith) (r.then m 0 s t x p q)

  tested : (m : ℕ) (b : Bool) (s t : St) → R m s t → R m s (provided b t)
  tested m b s t p = provided_by (R m s) b p (after m s t (stop t) p (r.drops.stops t))

  -- a record, so that the two ways of a test are compared by name
  record Told (s : St) (y : Out) (m : ℕ) : Type 0 where
    told : R m s y.st

  eval_count : (rd : St → ℕ → St) (k : St → ℕ → ℕ) → ((s : St) (n : ℕ) → R (k s n) s (rd s n)) → (f : Tree) (s : St) → R (in_formula rd k f s) s (eval_by rd f s).st
  unfolding eval_by in_formula
  eval_count rd k h (constant c) s = r.drops.same s
  eval_count rd k h (read n) s = h s n
  eval_count rd k h (two o a b) s =
      let t = (eval_by rd a s).st in
      r.then (in_formula rd k a s) (in_formula rd k b t) s t (eval_by rd b t).st (eval_count rd k h a s) (eval_count rd k h b t)
  eval_count rd k h (choose c a b) s =
      let x = eval_by rd c s in
      let t = x.st in
      let y : Out = elim (is_zero x.val) [ true ↦ eval_by rd b t | false ↦ eval_by rd a t ] in
      let m : ℕ = elim (is_zero x.val) [ true ↦ in_formula rd k b t | false ↦ in_formula rd k a t ] in
      let p : Told t y m = branches (Told t) (is_zero x.val) (λ e. record { told = eval_count rd k h b t }) (λ e. record { told = eval_count rd k h a t }) in
      r.then (in_formula rd k c s) m s t y.st (eval_count rd k h c s) p.told

  module _ (fr : St → ℕ → Ans) (c : St → ℕ → ℕ) (frs : (s : St) (n : ℕ) → R (c s n) s (fr s n).st) where
    settle_w-count : (s : St) (n : ℕ) → R (c s n) s (settle_w fr s n)
    unfolding settle_w
    settle_w-count s n =
        let a = fr s n in
        let t = spread a n in
        tested (c s n) (has_value (t.kind n) (t.fl n)) s t (branch (R (c s n) s) a.yes (λ e. after (c s n) s a.st _ (frs s n) (r.shallows a.st n)) (λ e. frs s n))

    read_count : (u : ℕ) (s : St) (n : ℕ) → R (c s n) s (read_w fr u s n)
    read_count u s n = let t = settle_w fr s n in after (c s n) s t _ (settle_w-count s n) (r.links t n u t.cycle)

    eval_w-count : (u : ℕ) (f : Tree) (s : St) → R (in_formula (read_w fr u) c f s) s (eval_by (read_w fr u) f s).st
    eval_w-count u = eval_count (read_w fr u) c (read_count u)

    pub first_count : (s : St) (n : ℕ) → R (count_first all fr c s n) s (first_w fr s n)
    unfolding first_w count_first
    first_count s n =
        let t = set_fl s n f5 in
        let o = eval_by (read_w fr n) (s.form n) t in
        let m = in_formula (read_w fr n) c (s.form n) t in
        after (with_first all m) s o.st _ (equal (with_first all 0 + m) (with_first all m) s o.st (one_first all m) (r.then (with_first all 0) m s t o.st (r.firsts s n) (eval_w-count n (s.form n) t)))
        (r.stores o.st n o.val f1)

    pub computed_count : (s : St) (n : ℕ) → R (in_update fr c computed s n) s (upd_computed fr s n).st
    unfolding upd_computed in_update
    computed_count s n =
        let t = set_fl (rewind (with_cycle s (raised s.cycle)) n) n f5 in
        let o = eval_by (read_w fr n) (s.form n) t in
        let m = in_formula (read_w fr n) c (s.form n) t in
        let y = set_fl (set_sto o.st n o.val) n f1 in
        after (suc m) s y _ (after (suc m) s o.st y (equal (1 + m) (suc m) s o.st (omega arith) (r.then 1 m s t o.st (r.begins s n f5) (eval_w-count n (s.form n) t))) (r.stores o.st n o.val f1))
        (purge_ring (R 0) r.drops y n)

    pub upd_count : (k : Kind) (s : St) (n : ℕ) → R (in_update fr c k s n) s (upd_w fr k s n).st
    unfolding upd_w upd_signal in_update
    upd_count signal s n = r.moves s n
    upd_count computed s n = computed_count s n
    upd_count effect s n = r.drops.stops s
    upd_count scope s n = r.drops.stops s

    steady_count : (m : ℕ) (was : List ℕ) (s t : St) (d : ℕ) → R m s t → R m s (steady was t d)
    unfolding steady
    steady_count m was s t d p = tested m (same_slots was (t.subs d) && not (is_nil was)) s t p

    -- the answer yes of the dependency d, from t where it is up to date; else the links after it
    asked_count : (m : ℕ) (yes : Bool) (u : ℕ) (ls : List ℕ) (s t : St) (d : ℕ) → R m s t → R (in_check_on fr c u t ls) t (check_on fr u t ls).st
        → R (m + (elim yes [ true ↦ 0 | false ↦ in_check_on fr c u t ls ])) s (elim yes as (λ (b : Bool). Ans) [ true ↦ ans (elim (several (t.subs d)) [ true ↦ shallow t d | false ↦ t ]) true | false ↦ check_on fr u t ls ]).st
    asked_count m true u ls s t d p n = r.then m 0 s t _ p (branch (R 0 t) (several (t.subs d)) (λ h. r.shallows t d) (λ h. r.drops.same t))
    asked_count m false u ls s t d p n = r.then m _ s t _ p n

    -- nothing is asked of what is dirty, nor of a dependency that is not mutable
    unless_count : (s : St) (dirty mutable : Bool) (m n : ℕ) (x y : Ans) → R m s x.st → R n s y.st
        → R (elim dirty [ true ↦ 0 | false ↦ elim mutable [ true ↦ m | false ↦ n ] ]) s (elim dirty as (λ (b : Bool). Ans) [ true ↦ ans s true | false ↦ elim mutable [ true ↦ x | false ↦ y ] ]).st
    unless_count s true mutable m n x y p q = r.drops.same s
    unless_count s false true m n x y p q = p
    unless_count s false false m n x y p q = q

    pub check_on-count : (u : ℕ) (ls : List ℕ) (s : St) → R (in_check_on fr c u s ls) s (check_on fr u s ls).st
    unfolding check_on in_check_on
    check_on-count u [] s = r.drops.same s
    check_on-count u (l ∷ ls) s =
        let d = s.dep l in
        let yes = (fr s d).yes in
        let t = steady (s.subs d) (fr s d).st d in
        let x : Ans = elim yes [ true ↦ ans (elim (several (t.subs d)) [ true ↦ shallow t d | false ↦ t ]) true | false ↦ check_on fr u t ls ] in
        let m : ℕ = c s d + (elim yes [ true ↦ 0 | false ↦ in_check_on fr c u t ls ]) in
        let p : R m s x.st = asked_count (c s d) yes u ls s t d (steady_count (c s d) (s.subs d) s (fr s d).st d (frs s d)) (check_on-count u ls t) in
        unless_count s (s.fl u).dirty (s.fl d).mutable m (in_check_on fr c u s ls) x (check_on fr u s ls) p (check_on-count u ls s)

    pub check_w-count : (s : St) (u : ℕ) → R (in_check fr c s u) s (check_w fr s u).st
    unfolding check_w in_check in_check_on
    check_w-count s u = go (deps s u) refl
      where
        go : (ls : List ℕ) → deps s u ≡ ls → R (in_check_on fr c u s ls) s (elim (is_nil ls) as (λ (b : Bool). Ans) [ true ↦ ans (stop s) false | false ↦ check_on fr u s ls ]).st
        go [] e = r.drops.stops s
        go (l ∷ ls) e = check_on-count u (l ∷ ls) s

    pending_count : (s : St) (n : ℕ) → R (in_pending fr c s n) s (pending_w fr s n).st
    unfolding pending_w in_pending
    pending_count s n =
        let a = check_w fr s n in
        let m = in_check fr c s n in
        let p : R m s a.st = check_w-count s n in
        branches (λ (x : Ans) (j : ℕ). R (m + j) s x.st) a.yes (λ e. r.then m _ s a.st _ p (upd_count (s.kind n) a.st n))
        (λ e. r.then m 0 s a.st _ p (r.flags a.st n (with_pending (a.st.fl n) false)))

    whole_count : (s : St) (n : ℕ) → R (count_fresh_w all fr c s n) s (fresh_w fr s n).st
    unfolding fresh_w count_fresh_w
    whole_count s n =
        branches (λ (x : Ans) (m : ℕ). R m s x.st) (bare (s.fl n)) (λ e. first_count s n)
        (λ e. branches (λ (x : Ans) (m : ℕ). R m s x.st) (s.fl n).dirty (λ f. upd_count (s.kind n) s n)
        (λ f. branches (λ (x : Ans) (m : ℕ). R m s x.st) (s.fl n).pending (λ g. pending_count s n) (λ g. r.drops.same s)))

  pub fresh_count : (k : ℕ) (s : St) (n : ℕ) → R (count_fresh all k s n) s (fresh k s n).st
  unfolding fresh count_fresh
  fresh_count zero s n = r.drops.stops s
  fresh_count (suc k) s n = whole_count (fresh k) (count_fresh all k) (fresh_count k) s n

  pub settle_count : (s : St) (n : ℕ) → R (count_read all s n) s (settle s n)
  settle_count s n = settle_w-count (fresh s.size) (count_fresh all s.size) (fresh_count s.size) s n

  pub check_count : (s : St) (u : ℕ) → R (in_check (fresh s.size) (count_fresh all s.size) s u) s (check s u).st
  check_count s u = check_w-count (fresh s.size) (count_fresh all s.size) (fresh_count s.size) s u

  pub evaluate_count : (s : St) (u : ℕ) → R (count_evaluation all s u) s (evaluate s u).st
  evaluate_count s u = eval_w-count (fresh s.size) (count_fresh all s.size) (fresh_count s.size) u (s.form u) s

  -- ---- runs
  module _ (logs : (s : St) (l : List Row) → R 0 s (with_log s l)) where
    pub logged_count : (o : Out) (e : ℕ) → R 0 o.st (logged o e)
    unfolding logged
    logged_count o e = logs o.st _

    pub rerun_count : (s : St) (e : ℕ) → R (count_rerun all s e) s (rerun s e)
    unfolding rerun count_rerun
    rerun_count s e =
        let t = set_fl (rewind (with_cycle s (raised s.cycle)) e) e f6 in
        let o = evaluate t e in
        let m = count_evaluation all t e in
        let l = logged o e in
        let y = set_fl l e f2 in
        tested (suc m) (is_effect (s.kind e)) s (purge y e)
        (after (suc m) s y _ (after (suc m) s l y (after (suc m) s o.st l (equal (1 + m) (suc m) s o.st (omega arith) (r.then 1 m s t o.st (r.begins s e f6) (evaluate_count t e))) (logged_count o e)) (r.flags l e f2))
        (purge_ring (R 0) r.drops y e))

    pub run_count : (s : St) (e : ℕ) → R (count_run all s e) s (run s e)
    unfolding run count_run
    run_count s e =
        let c = check s e in
        let m = in_check (fresh s.size) (count_fresh all s.size) s e in
        let p : R m s c.st = check_count s e in
        branches (λ (x : St) (j : ℕ). R j s x) (s.fl e).dirty (λ a. rerun_count s e)
        (λ a. branches (λ (x : St) (j : ℕ). R j s x) (s.fl e).pending
        (λ b. branches (λ (x : St) (j : ℕ). R (m + j) s x) c.yes (λ g. r.then m _ s c.st _ p (rerun_count c.st e)) (λ g. r.then m 0 s c.st _ p (r.flags c.st e f2)))
        (λ b. r.flags s e f2))

    -- the flush takes effects off the queue besides
    pub flush_count : ((s : St) (q : List ℕ) → R 0 s (with_queue s q)) → (q : List ℕ) (s : St) → R (count_flush_on all s q) s (flush_on s q)
    unfolding flush_on count_flush_on
    flush_count h [] s = r.drops.same s
    flush_count h (e ∷ q) s =
        let t = with_queue s q in
        let m = count_run all t e in
        r.then m _ s (run t e) _ (equal (0 + m) m s (run t e) (omega arith) (r.then 0 m s t (run t e) (h s q) (run_count t e))) (flush_count h q (run t e))

-- ---- without numbers
module _ (R : St → St → Type 0) (r : Renews R) where
  uncounted : Counts true (λ (m : ℕ). R)
  uncounted = record {
    drops = r.drops;
    then = λ a b. r.drops.then;
    firsts = λ s n. r.flags s n f5;
    begins = r.begins;
    flags = r.flags;
    stores = r.stores;
    moves = r.moves;
    links = r.links;
    shallows = r.shallows;
  }

  pub fresh_ring : (k : ℕ) (s : St) (n : ℕ) → R s (fresh k s n).st
  fresh_ring = fresh_count true (λ (m : ℕ). R) uncounted

  pub eval_ring : (k u : ℕ) (f : Tree) (s : St) → R s (eval_by (read_w (fresh k) u) f s).st
  eval_ring k = eval_w-count true (λ (m : ℕ). R) uncounted (fresh k) (count_fresh true k) (fresh_ring k)

  pub upd_ring : (k : ℕ) (c : Kind) (s : St) (n : ℕ) → R s (upd_w (fresh k) c s n).st
  upd_ring k = upd_count true (λ (m : ℕ). R) uncounted (fresh k) (count_fresh true k) (fresh_ring k)

  pub check_on-ring : (k u : ℕ) (ls : List ℕ) (s : St) → R s (check_on (fresh k) u s ls).st
  check_on-ring k = check_on-count true (λ (m : ℕ). R) uncounted (fresh k) (count_fresh true k) (fresh_ring k)

  pub check_w-ring : (k : ℕ) (s : St) (u : ℕ) → R s (check_w (fresh k) s u).st
  check_w-ring k = check_w-count true (λ (m : ℕ). R) uncounted (fresh k) (count_fresh true k) (fresh_ring k)

  pub settle_ring : (s : St) (n : ℕ) → R s (settle s n)
  settle_ring = settle_count true (λ (m : ℕ). R) uncounted

  pub check_ring : (s : St) (u : ℕ) → R s (check s u).st
  check_ring = check_count true (λ (m : ℕ). R) uncounted

  pub evaluate_ring : (s : St) (u : ℕ) → R s (evaluate s u).st
  evaluate_ring = evaluate_count true (λ (m : ℕ). R) uncounted

-- ---- a weaker relation
module _ (R S : St → St → Type 0) (weaker : (s t : St) → R s t → S s t) (all : (s t x : St) → S s t → S t x → S s x) where
  pub weaker_drops : Drops R → Drops S
  weaker_drops r = record {
    same = λ s. weaker s s (r.same s);
    then = all;
    stops = λ s. weaker s _ (r.stops s);
    cuts = λ s l v. weaker s _ (r.cuts s l v);
    bares = λ s x. weaker s _ (r.bares s x);
    stales = λ s d. weaker s _ (r.stales s d);
  }

  pub weaker_renews : Renews R → Renews S
  weaker_renews r = record {
    drops = weaker_drops r.drops;
    begins = λ s n f. weaker s _ (r.begins s n f);
    flags = λ s n f. weaker s _ (r.flags s n f);
    stores = λ s n v f. weaker s _ (r.stores s n v f);
    moves = λ s n. weaker s _ (r.moves s n);
    links = λ s n u v. weaker s _ (r.links s n u v);
    shallows = λ s n. weaker s _ (r.shallows s n);
  }

-- ---- runs
pub record Runs (R : St → St → Type 0) : Type 0 where
  pub renews : Renews R
  pub logs : (s : St) (l : List Row) → R s (with_log s l)

module _ (R : St → St → Type 0) (r : Runs R) where
  pub logged_ring : (o : Out) (e : ℕ) → R o.st (logged o e)
  logged_ring = logged_count true (λ (m : ℕ). R) (uncounted R r.renews) r.logs

  pub rerun_ring : (s : St) (e : ℕ) → R s (rerun s e)
  rerun_ring = rerun_count true (λ (m : ℕ). R) (uncounted R r.renews) r.logs

  pub run_ring : (s : St) (e : ℕ) → R s (run s e)
  run_ring = run_count true (λ (m : ℕ). R) (uncounted R r.renews) r.logs

  pub flush_ring : ((s : St) (q : List ℕ) → R s (with_queue s q)) → (q : List ℕ) (s : St) → R s (flush_on s q)
  flush_ring = flush_count true (λ (m : ℕ). R) (uncounted R r.renews) r.logs
