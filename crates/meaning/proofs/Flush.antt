-- Runs and the flush: nothing is queued while it goes on, the queue is empty after it, and its rows are of queued effects, in their order. Assumes nothing.
use mathlib.Core.Path.{◌≡◌, refl, sym, ap, ◌∙◌, subst}
use mathlib.Core.Logic.{◌⊎◌, inl, inr}
use mathlib.Core.List.{List, [], ◌∷◌, ◌++◌, append_assoc, append-nil}
use Prim.Native.Nat.{ℕ, ◌≤◌}
use native.Mathlib.Omega.{arith}
use lib.ListN.{length}
use Rattle.values.specs.declared.Value.{Value}
use Rattle.meaning.specs.State.{St, Row, f2, f6, raised}
use Rattle.meaning.specs.Setters.{with_cycle, with_queue, set_fl}
use Rattle.meaning.specs.Links.{rewind, purge}
use Rattle.meaning.specs.Marks.{is_effect}
use Rattle.meaning.specs.Reads.{check, evaluate}
use Rattle.meaning.specs.Engine.{logged, rerun, run, flush_on, flush}
use Rattle.meaning.specs.WellFormed.{In, Once}
use Rattle.meaning.proofs.Laws.{provided_by}
use Rattle.meaning.proofs.Steps.{run_by}
use Rattle.meaning.proofs.Rings.{Runs, weaker_renews, purge_ring, check_ring, evaluate_ring, run_ring}
use Rattle.meaning.proofs.Still.{Given, given, Fixed, Still, drops_still, renews_still}

-- ---- what a run leaves as it is
pub record Lasting : Type 0 where
  pub nodes : Given
  pub pend : ℕ → Value
  pub depth : ℕ
  pub queue : List ℕ

abbrev pub lasting : St → Lasting
lasting s = record { nodes = given s; pend = s.pend; depth = s.depth; queue = s.queue }

abbrev Lasts : St → St → Type 0
Lasts s t = lasting t ≡ lasting s

still_lasts : (s t : St) → Still s t → Lasts s t
still_lasts s t p = ap (λ (f : Fixed). let l : Lasting = record { nodes = f.nodes; pend = f.pend; depth = f.depth; queue = f.queue } in l) p.same

runs_last : Runs Lasts
runs_last = record { renews = weaker_renews Still Lasts still_lasts (λ s t x p q. q ∙ p) renews_still; logs = λ s l. refl }

pub run_lasts : (s : St) (e : ℕ) → lasting (run s e) ≡ lasting s
run_lasts = run_ring Lasts runs_last

-- nothing is queued by a run
pub run_queues_nothing : (s : St) (e : ℕ) → (run s e).queue ≡ s.queue
run_queues_nothing s e = ap (λ (l : Lasting). l.queue) (run_lasts s e)

pub flush_pend : (q : List ℕ) (s : St) → (flush_on s q).pend ≡ s.pend
unfolding flush_on
flush_pend [] s = refl
flush_pend (e ∷ q) s = flush_pend q (run (with_queue s q) e) ∙ ap (λ (l : Lasting). l.pend) (run_lasts (with_queue s q) e)

flush_on-empties : (q : List ℕ) (s : St) → s.queue ≡ q → (flush_on s q).queue ≡ []
unfolding flush_on
flush_on-empties [] s h = h
flush_on-empties (e ∷ q) s h = flush_on-empties q (run (with_queue s q) e) (run_queues_nothing (with_queue s q) e)

pub flush_empties : (s : St) → (flush s).queue ≡ []
flush_empties s = flush_on-empties s.queue s refl

-- ---- what a run logs: nothing, or one row of its own
abbrev pub Logs : St → ℕ → St → Type 0
Logs s e t = (t.log ≡ s.log) ⊎ ((r : Row) × (r.who ≡ e) × (t.log ≡ s.log ++ r ∷ []))

log_still : (s t : St) → Still s t → t.log ≡ s.log
log_still s t p = ap (λ (f : Fixed). f.log) p.same

pub rerun_row : (s : St) (e : ℕ) → (r : Row) × (r.who ≡ e) × ((rerun s e).log ≡ s.log ++ r ∷ [])
unfolding rerun logged
rerun_row s e =
    let t = set_fl (rewind (with_cycle s (raised s.cycle)) e) e f6 in
    let o = evaluate t e in
    let y = set_fl (logged o e) e f2 in
    let r : Row = record { who = e; worth = o.val; reads = o.reads } in
    let p : o.st.log ≡ s.log = log_still t o.st (evaluate_ring Still renews_still t e) in
    let z : (purge y e).log ≡ s.log ++ r ∷ [] = log_still y (purge y e) (purge_ring Still drops_still y e) ∙ ap (λ (l : List Row). l ++ r ∷ []) p in
    (r, refl, provided_by (λ (x : St). x.log ≡ s.log ++ r ∷ []) (is_effect (s.kind e)) z z)

rerun_logs : (s : St) (e : ℕ) → Logs s e (rerun s e)
rerun_logs s e = inr (rerun_row s e)

after_check : (s t x : St) (e : ℕ) → t.log ≡ s.log → Logs t e x → Logs s e x
after_check s t x e p (inl q) = inl (q ∙ p)
after_check s t x e p (inr q) = inr (q.0, q.1, q.2 ∙ ap (λ (l : List Row). l ++ q.0 ∷ []) p)

pub run_logs : (s : St) (e : ℕ) → Logs s e (run s e)
run_logs s e =
    let c = check s e in
    let p : c.st.log ≡ s.log = log_still s c.st (check_ring Still renews_still s e) in
    run_by (Logs s e) s e (λ a. rerun_logs s e) (λ b g. after_check s c.st (rerun c.st e) e p (rerun_logs c.st e)) (λ b g. inl p) (λ b. inl refl)

-- the rows are of these effects, in this order, none twice where the list has none twice
pub data Ran : List Row → List ℕ → Type 0 where
  end : Ran [] []
  quiet : {rs : List Row} {e : ℕ} {q : List ℕ} → Ran rs q → Ran rs (e ∷ q)
  ran : {r : Row} {rs : List Row} {e : ℕ} {q : List ℕ} → r.who ≡ e → Ran rs q → Ran (r ∷ rs) (e ∷ q)

abbrev pub RanIn : St → St → List ℕ → Type 0
RanIn s t q = (rs : List Row) × (t.log ≡ s.log ++ rs) × Ran rs q

pub flush_runs : (q : List ℕ) (s : St) → RanIn s (flush_on s q) q
unfolding flush_on
flush_runs [] s = ([], sym (append-nil s.log), end)
flush_runs (e ∷ q) s = go (run_logs (with_queue s q) e) (flush_runs q (run (with_queue s q) e))
  where
    go : Logs (with_queue s q) e (run (with_queue s q) e) → RanIn (run (with_queue s q) e) (flush_on (run (with_queue s q) e) q) q
        → RanIn s (flush_on (run (with_queue s q) e) q) (e ∷ q)
    go (inl p) f = (f.0, f.1 ∙ ap (λ (l : List Row). l ++ f.0) p, quiet f.2)
    go (inr p) f = (p.0 ∷ f.0, f.1 ∙ ap (λ (l : List Row). l ++ f.0) p.2 ∙ append_assoc s.log (p.0 ∷ []) f.0, ran p.1 f.2)

-- no more rows than effects were queued
pub ran_most : {rs : List Row} {q : List ℕ} → Ran rs q → length rs ≤ length q
ran_most end = omega arith
ran_most (quiet r) = let h = ran_most r in omega arith
ran_most (ran e r) = let h = ran_most r in omega arith

-- ---- no effect runs twice in one flush
unfoldable pub whos : List Row → List ℕ
whos [] = []
whos (r ∷ rs) = r.who ∷ whos rs

pub ran_in : {rs : List Row} {q : List ℕ} (e : ℕ) → Ran rs q → In e (whos rs) → In e q
unfolding whos
ran_in e end i = i
ran_in e (quiet r) i = inr (ran_in e r i)
ran_in e (ran p r) (inl z) = inl (z ∙ p)
ran_in e (ran p r) (inr i) = inr (ran_in e r i)

pub ran_once : {rs : List Row} {q : List ℕ} → Ran rs q → Once q → Once (whos rs)
unfolding whos
ran_once end o = tt
ran_once (quiet r) o = ran_once r o.1
ran_once (ran {r = x} {e = e} {q = q} p r) o = (λ i. o.0 (subst (λ (y : ℕ). In y q) p (ran_in x.who r i)), ran_once r o.1)

pub flush_runs_once : (s : St) → Once s.queue → (rs : List Row) × ((flush s).log ≡ s.log ++ rs) × Once (whos rs) × (length rs ≤ length s.queue)
flush_runs_once s o = let f = flush_runs s.queue s in (f.0, f.1, ran_once f.2 o, ran_most f.2)
