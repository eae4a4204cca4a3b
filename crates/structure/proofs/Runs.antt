-- One run of an effect over words is one run over lists: the tables after it represent the state after it, and it writes the row that the lists have. Assumes nothing.
use mathlib.Core.Path.{◌≡◌, refl, sym, ap, ◌∙◌, subst}
use mathlib.Core.Logic.{◌⊎◌, inl, inr}
use mathlib.Core.Bool.{Bool, true, false}
use mathlib.Core.List.{List, [], ◌∷◌, ◌++◌}
use Prim.Native.Nat.{ℕ, ◌%◌, ◌<◌}
use native.Mathlib.Omega.{arith}
use lib.IntN.{ℤ}
use Rattle.flags.specs.declared.Named.{Named}
use Rattle.flags.specs.Flags.{bit, named}
use Rattle.linking.specs.Table.{tab}
use Rattle.marking.specs.Fields.{flags_of, set_flags, watching, recursed_checking, dirty, pending, has, without}
use Rattle.reading.specs.Tables.{State, state, Told, told}
use Rattle.reading.specs.Read.{checked, evaluated_for}
use Rattle.operating.specs.Log.{Ran, ran_to, rowed, rows_in}
use Rattle.operating.specs.Runs.{begun_run, ended_run, finished_run, reran, must_run, ran}
use Rattle.meaning.specs.State.{St, effect, Row, readable, f2, f6}
use Rattle.meaning.specs.Setters.{with_queue, set_fl}
use Rattle.meaning.specs.Links.{purge}
use Rattle.meaning.specs.Reads.{check, evaluate}
use Rattle.meaning.specs.Engine.{logged, rerun, run}
use Rattle.meaning.specs.Played.{byte}
use Rattle.meaning.specs.WellFormed.{In, read_links, EffectFlags, watching as watches, pushed, pending as waits, dirty as soiled}
use Rattle.meaning.proofs.Laws.{clash, either, up_same}
use Rattle.meaning.proofs.Steps.{rerun_is}
use Rattle.meaning.proofs.Rings.{purge_ring, evaluate_ring, check_ring}
use Rattle.meaning.proofs.Still.{Given, Fixed, Still, drops_still, renews_still}
use Rattle.meaning.proofs.Inside.{nobody, Static, Inside, Under}
use Rattle.meaning.proofs.Running.{Run, Lies, begun, rerun_begins, rerun_ends, popped, was, lies, popped_open, has_deps, checked as checkedL, lies_checked}
use Rattle.structure.proofs.Stated.{relogged}
use Rattle.structure.proofs.Held.{Held, inside_held}
use Rattle.structure.proofs.Link.{both_ways}
use Rattle.structure.proofs.Stored.{flag_shows}
use Rattle.structure.proofs.Dispose.{purge_shows}
use Rattle.structure.proofs.FlagBytes.{has_dirty, has_pending}
use Rattle.structure.proofs.Marked.{flag_is, shows_marked}
use Rattle.structure.proofs.Steps.{Sees, begun_by}
use Rattle.structure.proofs.ReadSame.{ringed}

-- the run e is over, and e watches
pub ended_sees : (before : List ℕ) (x : State) (C : List ℤ) (s : St) (e : ℕ) → Held s → Sees before x C s → e < s.size → s.fl e ≡ f6 → Sees before (state (ended_run x.nodes e) x.links x.values) C (set_fl s e f2)
unfolding ended_run named bit
ended_sees before x C s e w r low six =
    let own : flags_of x.nodes e ≡ 6 = ap (λ (z : ℕ). z % 256) (r.flags.flag_word e low ∙ ap byte six) in
    subst (λ (z : ℕ). Sees before (state (set_flags x.nodes e (without z recursed_checking)) x.links x.values) C (set_fl s e f2)) (sym own) (flag_shows before (tab x.nodes x.links) x.values C s e w r low 2 f2 refl refl)

-- what a run did to the log l that it was lent: nothing, or one row, which the lists have too
abbrev pub Wrote : List ℤ → ℕ → St → Ran → St → Type 0
Wrote l e s a t = ((a.log ≡ l) × (a.rows ≡ 0) × (t.log ≡ s.log)) ⊎ ((r : Row) × (r.who ≡ e) × (a.log ≡ rowed l e r.worth) × (a.rows ≡ rows_in l) × (t.log ≡ s.log ++ r ∷ []))

module _ (g : Given) (st : Static g) (C : List ℤ) (before : List ℕ) (e : ℕ) (he : e < g.size) (ke : g.kind e ≡ effect) where
  low_in : (t : St) → Inside g (Run g st e) t → e < t.size
  low_in t i = subst (λ (z : Given). e < z.size) (sym i.same) he

  apart : (m : ℕ) → Under g e m × (m ≡ e → ⊥) → Run g st e m → ⊥
  apart m p (inl x') = elim x' [ ]
  apart m p (inr q) = p.1 q

  log_still : (s t : St) → Still s t → t.log ≡ s.log
  log_still s t p = ap (λ (f : Fixed). f.log) p.same

  -- ---- a rerun
  module _ (x : State) (t : St) (i : Inside g (Run g st e) t) (l : Lies g st t e) (pd : (t.fl e).pending ≡ true) (free : t.stuck ≡ false) (r : Sees before x C t) where
    abbrev t₁ : St
    t₁ = begun g st e he ke t

    begins : Sees before (begun_run x e) C t₁
    unfolding begun_run named bit
    begins = begun_by before x C t e (inside_held g (Run g st e) t st i) r (low_in t i) 6 f6 refl refl

    worked : Sees before (evaluated_for C (begun_run x e) e).after C (evaluate t₁ e).st × ((evaluated_for C (begun_run x e) e).value ≡ (evaluate t₁ e).val) × ((evaluate t₁ e).st.fl e ≡ f6)
    worked = (ringed g st C).evaluates before (begun_run x e) t₁ e he ke (rerun_begins g st e he ke t i l pd) free (up_same t.fl e f6) begins

    abbrev o : St
    o = logged (evaluate t₁ e) e

    row : Row
    row = record { who = e; worth = (evaluate t₁ e).val; reads = (evaluate t₁ e).reads }

    rerun_here : rerun t e ≡ purge (set_fl o e f2) e
    rerun_here = rerun_is t e (ap (λ (z : Given). z.kind e) i.same ∙ ke)

    rerun_sees : Sees before (reran C x e).after C (rerun t e)
    unfolding reran finished_run logged
    rerun_sees =
        let y = (evaluated_for C (begun_run x e) e).after in
        let i' : Inside g (Run g st e) (set_fl o e f2) = rerun_ends g st e he ke t i l pd in
        let low : e < o.size = low_in (set_fl o e f2) i' in
        let q : Sees before y C o = relogged before y.nodes y.links y.values C (evaluate t₁ e).st o.log (evaluate t₁ e).st.stuck worked.0 in
        let h = inside_held g (Run g st e) (set_fl o e f2) st i' in
        let w : Held o = record { lists = h.lists; fit = h.fit } in
        subst (Sees before (reran C x e).after C) (sym rerun_here)
        (purge_shows g st before y.values C (Run g st e) e he (inr refl) apart (tab (ended_run y.nodes e) y.links) (set_fl o e f2) i' (ended_sees before y C o e w q low worked.2))

    rerun_log : (rerun t e).log ≡ t.log ++ row ∷ []
    unfolding logged row
    rerun_log = ap (λ (z : St). z.log) rerun_here ∙ log_still (set_fl o e f2) (purge (set_fl o e f2) e) (purge_ring Still drops_still (set_fl o e f2) e) ∙ ap (λ (z : List Row). z ++ row ∷ []) (log_still t₁ (evaluate t₁ e).st (evaluate_ring Still renews_still t₁ e))

    rerun_value : (reran C x e).value ≡ row.worth
    unfolding reran row
    rerun_value = worked.1

  -- ---- e is taken off the queue
  module _ (s : St) (q : List ℕ) (i : Inside g nobody s) (is : s.queue ≡ e ∷ q) (free : s.stuck ≡ false) (x : State) (r : Sees before x C (with_queue s q)) (l : List ℤ) where
    abbrev s' : St
    s' = with_queue s q

    i' : Inside g (Run g st e) s'
    i' = popped g st e he ke s q i is

    low : e < s.size
    low = low_in s' i'

    flags_are : flags_of x.nodes e ≡ byte (s.fl e)
    flags_are = flag_is before x.nodes s' s.fl q (shows_marked before (tab x.nodes x.links) x.values C s' r) e low

    is_dirty : has (flags_of x.nodes e) dirty ≡ (s.fl e).dirty
    is_dirty = ap (λ (z : ℕ). has z dirty) flags_are ∙ has_dirty (s.fl e)

    is_pending : has (flags_of x.nodes e) pending ≡ (s.fl e).pending
    is_pending = ap (λ (z : ℕ). has z pending) flags_are ∙ has_pending (s.fl e)

    -- ---- who is pending is live and reads something; who is dirty is pending
    queued : s.gone e ≡ true → (s.fl e).pending ≡ false
    queued a = ap (λ (z : Named). z.pending) ((was g st e he ke s q i is).queued (subst (In e) (sym is) (inl refl)) a)

    waiting : (s.fl e).pending ≡ true → (s.gone e ≡ false) × (read_links g.kind s.dep (s.done e) ≡ [] → ⊥)
    waiting p = either (s.gone e) (λ a. clash p (queued a)) (λ a. (a, go ((was g st e he ke s q i is).of_effect ke a)))
      where
        go : EffectFlags e (s.fl e) s.queue (read_links g.kind s.dep (s.done e)) → read_links g.kind s.dep (s.done e) ≡ [] → ⊥
        go (watches a b) = clash p (ap (λ (z : Named). z.pending) a)
        go (pushed a b) = clash p (ap (λ (z : Named). z.pending) a)
        go (waits a b c) = c
        go (soiled a b c) = c

    also_pending : (s.fl e).dirty ≡ true → (s.fl e).pending ≡ true
    also_pending d = either (s.gone e) (λ a. clash d (ap (λ (z : Named). z.dirty) ((was g st e he ke s q i is).queued (subst (In e) (sym is) (inl refl)) a))) (λ a. go ((was g st e he ke s q i is).of_effect ke a))
      where
        go : EffectFlags e (s.fl e) s.queue (read_links g.kind s.dep (s.done e)) → (s.fl e).pending ≡ true
        go (watches a b) = clash d (ap (λ (z : Named). z.dirty) a)
        go (pushed a b) = clash d (ap (λ (z : Named). z.dirty) a)
        go (waits a b c) = ap (λ (z : Named). z.pending) a
        go (soiled a b c) = ap (λ (z : Named). z.pending) a

    -- ---- the run, by what must be done
    abbrev Alike : Ran → St → Type 0
    Alike a t = Sees before a.after C t × Wrote l e s a t

    abbrev done : Told → Ran
    done t = elim t.changed [
      | true ↦ ran_to (reran C t.after e).after (rowed l e (reran C t.after e).value) (rows_in l)
      | false ↦ ran_to (state (set_flags t.after.nodes e watching) t.after.links t.after.values) l 0
    ]

    again : (y : State) (t : St) → t.log ≡ s.log → Inside g (Run g st e) t → Lies g st t e → (t.fl e).pending ≡ true → t.stuck ≡ false → Sees before y C t → Alike (done (told true y)) (rerun t e)
    unfolding row
    again y t k j z pd fr v = (
      rerun_sees y t j z pd fr v,
      inr (row y t j z pd fr v, refl, ap (rowed l e) (rerun_value y t j z pd fr v), refl, rerun_log y t j z pd fr v ∙ ap (λ (a : List Row). a ++ row y t j z pd fr v ∷ []) k),
    )

    calmed : (y : State) (t : St) → t.log ≡ s.log → Inside g (Run g st e) t → Sees before y C t → Alike (done (told false y)) (set_fl t e f2)
    unfolding named bit
    calmed y t k j v = (flag_shows before (tab y.nodes y.links) y.values C t e (inside_held g (Run g st e) t st j) v (low_in t j) 2 f2 refl refl, inl (refl, refl, k))

    -- its reads decide
    asked : (p : (s.fl e).pending ≡ true) → Alike (done (checked C x e)) (elim (check s' e).yes [ true ↦ rerun (check s' e).st e | false ↦ set_fl (check s' e).st e f2 ])
    asked p =
        let z = waiting p in
        let t = (check s' e).st in
        let c = (ringed g st C).checks before x s' e he ke i' (popped_open g st e he ke s q i is) (has_deps g st e he ke s q i is z.0 z.1 p) free r in
        let m = checkedL g st e he ke s q i is z.0 z.1 p in
        let k : t.log ≡ s.log = log_still s' t (check_ring Still renews_still s' e) in
        let pd : (t.fl e).pending ≡ true = m.frame.pending e (λ a. let b = a.1 in omega arith) (λ a. clash (ap readable a) (ap readable ke)) ∙ p in
        subst (λ (w : Told). Alike (done w) (elim (check s' e).yes [ true ↦ rerun t e | false ↦ set_fl t e f2 ])) (sym (told_is (checked C x e) (check s' e).yes c.1))
        (go (check s' e).yes t (checked C x e).after
        (again (checked C x e).after t k m.inside (lies_checked g st e he ke s q i is z.0 z.1 p) pd (m.frame.stuck ∙ free) c.0)
        (calmed (checked C x e).after t k m.inside c.0))
      where
        told_is : (w : Told) (b : Bool) → w.changed ≡ b → w ≡ told b w.after
        told_is w b a = ap (λ (z : Bool). told z w.after) a

        go : (b : Bool) (t : St) (y : State) → Alike (done (told true y)) (rerun t e) → Alike (done (told false y)) (set_fl t e f2) → Alike (done (told b y)) (elim b [ true ↦ rerun t e | false ↦ set_fl t e f2 ])
        go true t y a b = a
        go false t y a b = b

    pub run_sees : Sees before (ran C x l e).after C (run s' e) × Wrote l e s (ran C x l e) (run s' e)
    unfolding ran run must_run
    run_sees =
        both_ways (λ (w : Told) (t : St). Alike (done w) t) (has (flags_of x.nodes e) dirty) (s.fl e).dirty is_dirty
        (λ d. let p = also_pending d in again x s' refl i' (lies g st e he ke s q i is (waiting p).0) p free r)
        (λ d. both_ways (λ (w : Told) (t : St). Alike (done w) t) (has (flags_of x.nodes e) pending) (s.fl e).pending is_pending
        (λ p. asked p)
        (λ p. calmed x s' refl i' r))
