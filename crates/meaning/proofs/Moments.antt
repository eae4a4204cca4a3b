-- A flush on the way: after k of its runs the tables are well formed, nothing was queued, and the next effect does not run if it is gone. Assumes nothing.
use mathlib.Core.Path.{◌≡◌, refl, sym, ap, ◌∙◌, subst}
use mathlib.Core.Logic.{inl}
use mathlib.Core.Bool.{true}
use mathlib.Core.List.{List, [], ◌∷◌}
use Prim.Native.Nat.{ℕ, zero, suc}
use lib.ListN.{length, drop}
use Rattle.meaning.specs.State.{St, f2}
use Rattle.meaning.specs.Setters.{with_queue, set_fl}
use Rattle.meaning.specs.Engine.{run, flush_on}
use Rattle.meaning.specs.WellFormed.{In, Once}
use Rattle.meaning.specs.Moments.{flushing}
use Rattle.meaning.proofs.Still.{Given}
use Rattle.meaning.proofs.Steps.{no_flag_no_run}
use Rattle.meaning.proofs.Flush.{run_queues_nothing}
use Rattle.meaning.proofs.Inside.{nobody, Static, Inside}
use Rattle.meaning.proofs.Running.{run_inside}

-- as many runs as effects are queued make the flush
pub flushing_whole : (q : List ℕ) (s : St) → flushing (length q) s q ≡ flush_on s q
unfolding flushing flush_on
flushing_whole [] s = refl
flushing_whole (e ∷ q) s = flushing_whole q (run (with_queue s q) e)

-- the queue is what is left of it
pub flushing_queue : (k : ℕ) (q : List ℕ) (s : St) → s.queue ≡ q → (flushing k s q).queue ≡ drop k q
unfolding flushing
flushing_queue zero q s h = h
flushing_queue (suc k) [] s h = h
flushing_queue (suc k) (e ∷ q) s h = flushing_queue k q (run (with_queue s q) e) (run_queues_nothing (with_queue s q) e)

pub drop_once : (k : ℕ) (q : List ℕ) → Once q → Once (drop k q)
drop_once zero q o = o
drop_once (suc k) [] o = tt
drop_once (suc k) (e ∷ q) o = drop_once k q o.1

-- the next run
flushing_next : (k : ℕ) (q : List ℕ) (s : St) (e : ℕ) (p : List ℕ) → s.queue ≡ q → (flushing k s q).queue ≡ e ∷ p → flushing (suc k) s q ≡ run (with_queue (flushing k s q) p) e
unfolding flushing
flushing_next zero q s e p h j = ap (flushing 1 s) (sym h ∙ j)
flushing_next (suc k) [] s e p h j = ap (flushing 1 s) (sym h ∙ j)
flushing_next (suc k) (x ∷ q) s e p h j = flushing_next k q (run (with_queue s q) x) e p (run_queues_nothing (with_queue s q) x) j

module _ (g : Given) (st : Static g) where
  pub flushing_inside : (k : ℕ) (q : List ℕ) (s : St) → Inside g nobody s → s.queue ≡ q → Inside g nobody (flushing k s q)
  unfolding flushing
  flushing_inside zero q s i is = i
  flushing_inside (suc k) [] s i is = i
  flushing_inside (suc k) (e ∷ q) s i is =
      let x = i.effects e (subst (In e) (sym is) (inl refl)) in
      let r = run_inside g st e x.0 x.1 s q i is in
      flushing_inside k q (run (with_queue s q) e) r.inside (run_queues_nothing (with_queue s q) e)

  -- a gone effect is passed over, and its flags become 2
  pub gone_passed : (k : ℕ) (q : List ℕ) (s : St) → Inside g nobody s → s.queue ≡ q → (e : ℕ) (p : List ℕ) → (flushing k s q).queue ≡ e ∷ p → (flushing k s q).gone e ≡ true
      → flushing (suc k) s q ≡ set_fl (with_queue (flushing k s q) p) e f2
  gone_passed k q s i is e p j a =
      let x = flushing k s q in
      let ix = flushing_inside k q s i is in
      let here : In e x.queue = subst (In e) (sym j) (inl refl) in
      flushing_next k q s e p is j ∙ no_flag_no_run (with_queue x p) e ((ix.rests e (ix.effects e here).0 (λ z. z)).queued here a)
