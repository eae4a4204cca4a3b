-- A write with the flush that follows it, and the end of a batch: the clauses are kept, each row is that of the fresh values,
-- and where no effect was dirty, exactly the effects have a row that read something that now has another value. Assumes nothing.
use mathlib.Core.Path.{◌≡◌, refl, sym, ap, ◌∙◌, subst, fun_ext}
use mathlib.Core.Logic.{◌⊎◌, inl, inr}
use mathlib.Core.Bool.{Bool, true, false}
use mathlib.Core.List.{List, [], ◌++◌, append-nil}
use Prim.Native.Nat.{ℕ, zero, suc, ◌+◌, ◌≤◌, ◌<◌}
use native.Mathlib.Omega.{arith}
use Rattle.flags.specs.declared.Named.{Named}
use Rattle.values.specs.declared.Value.{Value}
use Rattle.values.specs.Values.{same}
use Rattle.values.proofs.ValueLaws.{same_yes}
use Rattle.meaning.specs.State.{St, signal, effect, Row, readable, a_signal, unclean, f2, f17, up}
use Rattle.meaning.specs.Setters.{set_fl, set_pend}
use Rattle.meaning.specs.Links.{is_nil}
use Rattle.meaning.specs.Marks.{propagate}
use Rattle.meaning.specs.Engine.{flush_on, flush_at, store}
use Rattle.meaning.specs.WellFormed.{In, Once, EffectFlags, watching, pushed, pending, dirty}
use Rattle.freshness.specs.Afresh.{recorded, Differs}
use Rattle.meaning.specs.Evaluations.{count_store}
use Rattle.freshness.specs.Evaluations.{in_flush_at, in_store}
use Rattle.meaning.proofs.Laws.{clash, either, provided_so, up_other, up_by}
use Rattle.meaning.proofs.Members.{nil_none, is_nil-true}
use Rattle.meaning.proofs.Still.{Given}
use Rattle.meaning.proofs.Flush.{whos}
use Rattle.meaning.proofs.Inside.{nobody, Static, Inside}
use Rattle.meaning.proofs.Walking.{i_written, i_propagated}
use Rattle.freshness.proofs.Inv.{Records, Inv}
use Rattle.freshness.proofs.Clean.{φ, quiet}
use Rattle.freshness.proofs.Check.{branches}
use Rattle.freshness.proofs.Whole.{limit}
use Rattle.freshness.proofs.Write.{write_keeps, propagate_keeps, effect_dirty}
use Rattle.freshness.proofs.Gone.{Passes, row_alive, passes_alive}
use Rattle.freshness.proofs.Run.{Due}
use Rattle.freshness.proofs.Flush.{Rowed, Flushed, flush_fresh}
use Rattle.freshness.proofs.Exact.{nothing_differs, due_differs, differs_due}

-- no live effect is dirty
abbrev pub Undirtied : Given → St → Type 0
Undirtied g s = (e : ℕ) → e < g.size → g.kind e ≡ effect → s.gone e ≡ false → (s.fl e).dirty ≡ false

-- p: the last written values after it
pub record Settled (g : Given) (p : ℕ → Value) (ρ : Records) (k : ℕ) (s t : St) : Type 0 where
  pub rows : List Row
  pub logged : t.log ≡ s.log ++ rows
  pub fresh : Rowed g p rows
  pub once : Once (whos rows)
  pub keeps : Inv g p (recorded ρ rows) nobody nobody t
  pub passes : Passes g s.gone rows t.gone
  pub later : s.cycle ≤ t.cycle
  pub spent : t.cycle ≤ s.cycle + k

-- the rows are of effects with cause, and of each that has cause and is live after it
abbrev pub Runs : (ℕ → Type 0) → Given → List Row → St → Type 0
Runs Cause g rows t = ((e : ℕ) → In e (whos rows) → Cause e) × ((e : ℕ) → e < g.size → g.kind e ≡ effect → t.gone e ≡ false → Cause e → In e (whos rows))

-- something that its last run read has another value
abbrev pub Exactly : Given → (ℕ → Value) → Records → List Row → St → Type 0
Exactly g p ρ rows t = Runs (λ e. Differs (ρ e) (φ g p)) g rows t

-- or f holds of it
abbrev pub Exactly-or : Given → (ℕ → Value) → Records → List Row → (ℕ → Bool) → St → Type 0
Exactly-or g p ρ rows f t = Runs (λ e. (f e ≡ true) ⊎ Differs (ρ e) (φ g p)) g rows t

module _ (g : Given) (p : ℕ → Value) (ρ : Records) (rows : List Row) (s t : St) (ps : Passes g s.gone rows t.gone) where
  -- another cause, as far as effects are concerned that are live before it
  runs_by : (A B : ℕ → Type 0) → ((e : ℕ) → e < g.size → g.kind e ≡ effect → s.gone e ≡ false → (A e → B e) × (B e → A e)) → Runs A g rows t → Runs B g rows t
  runs_by A B f x = (
    λ e j. let a = row_alive g rows s.gone t.gone ps e j in (f e a.0 a.1 a.2).0 (x.0 e j),
    λ e h ke a d. x.1 e h ke a ((f e h ke (passes_alive g rows s.gone t.gone ps e h a)).1 d),
  )

  pub exactly_as : (f h : ℕ → Bool) → ((e : ℕ) → e < g.size → g.kind e ≡ effect → s.gone e ≡ false → f e ≡ h e) → Exactly-or g p ρ rows f t → Exactly-or g p ρ rows h t
  exactly_as f h same = runs_by (λ e. (f e ≡ true) ⊎ Differs (ρ e) (φ g p)) (λ e. (h e ≡ true) ⊎ Differs (ρ e) (φ g p))
      (λ e l ke a. let q = same e l ke a in (
        subst (λ (b : Bool). (f e ≡ true) ⊎ Differs (ρ e) (φ g p) → (b ≡ true) ⊎ Differs (ρ e) (φ g p)) q (λ z. z),
        subst (λ (b : Bool). (b ≡ true) ⊎ Differs (ρ e) (φ g p) → (f e ≡ true) ⊎ Differs (ρ e) (φ g p)) q (λ z. z),
      ))

  -- where f holds of none, the two say the same
  module _ (f : ℕ → Bool) (nd : (e : ℕ) → e < g.size → g.kind e ≡ effect → s.gone e ≡ false → f e ≡ false) where
    differs_alone : (e : ℕ) → f e ≡ false → (f e ≡ true) ⊎ Differs (ρ e) (φ g p) → Differs (ρ e) (φ g p)
    differs_alone e z (inl d) = clash d z
    differs_alone e z (inr d) = d

    pub exactly_clean : Exactly-or g p ρ rows f t → Exactly g p ρ rows t
    exactly_clean = runs_by (λ e. (f e ≡ true) ⊎ Differs (ρ e) (φ g p)) (λ e. Differs (ρ e) (φ g p)) (λ e h ke a. (differs_alone e (nd e h ke a), λ d. inr d))

    pub clean_exactly : Exactly g p ρ rows t → Exactly-or g p ρ rows f t
    clean_exactly = runs_by (λ e. Differs (ρ e) (φ g p)) (λ e. (f e ≡ true) ⊎ Differs (ρ e) (φ g p)) (λ e h ke a. (λ d. inr d, differs_alone e (nd e h ke a)))

module _ (g : Given) (st : Static g) (p : ℕ → Value) (ρ : Records) where
  -- a flush
  pub flush_exact : (q : List ℕ) (s : St) (k : ℕ) → Inside g nobody s → Inv g p ρ nobody nobody s → (f : Flushed g p ρ k q s (flush_on s q)) → Exactly-or g p ρ f.rows (λ e. (s.fl e).dirty) (flush_on s q)
  flush_exact q s k i v f =
      runs_by g p ρ f.rows s (flush_on s q) f.passes (Due g p s) (λ e. ((s.fl e).dirty ≡ true) ⊎ Differs (ρ e) (φ g p))
      (λ e h ke b. either (s.fl e).dirty (λ d. (λ z. inl d, λ z. inl d)) (λ d. (λ z. inr (due_differs g st p ρ s i v e h ke b d z), go e d (differs_due g st p ρ s i v e h ke b d)))) (f.causes, f.runs)
    where
      go : (e : ℕ) → (s.fl e).dirty ≡ false → (Differs (ρ e) (φ g p) → Due g p s e) → ((s.fl e).dirty ≡ true) ⊎ Differs (ρ e) (φ g p) → Due g p s e
      go e d f (inl z) = clash z d
      go e d f (inr z) = f z

  -- nothing queued: every live effect has read the fresh values, and none is dirty
  at_quiet : (s : St) → Inside g nobody s → s.queue ≡ [] → (e : ℕ) → e < g.size → g.kind e ≡ effect → s.gone e ≡ false → s.fl e ≡ f2
  at_quiet s i is e h k a = go ((i.rests e h (λ z. z)).of_effect k a)
    where
      go : {rs : List ℕ} → EffectFlags e (s.fl e) s.queue rs → s.fl e ≡ f2
      go (watching x y) = x
      go (pushed x y) = absurd (nil_none s.queue e is y)
      go (pending x y z) = absurd (nil_none s.queue e is y)
      go (dirty x y z) = absurd (nil_none s.queue e is y)

  pub undirtied : (s : St) → Inside g nobody s → s.queue ≡ [] → Undirtied g s
  undirtied s i is e h k a = ap (λ (f : Named). f.dirty) (at_quiet s i is e h k a)

  pub quiet_exact : (s : St) → Inside g nobody s → Inv g p ρ nobody nobody s → s.queue ≡ [] → Exactly g p ρ [] s
  unfolding whos
  quiet_exact s i v is = (
    λ e j. absurd j,
    λ e h k a d. absurd (nothing_differs (g.form e) (φ g p)
        (subst (λ (x : List (ℕ × Value)). Differs x (φ g p)) (quiet g st p ρ nobody s i v e h k a (λ z. z) (λ m z y. z) (ap unclean (at_quiet s i is e h k a))) d)),
  )

-- a write at depth 0 closes with exactly the runs that it calls for
pub record Written (g : Given) (p : ℕ → Value) (ρ : Records) (k : ℕ) (s t : St) : Type 0 where
  pub settled : Settled g p ρ k s t
  pub exact : s.depth ≡ 0 → Exactly g p ρ settled.rows t
  -- inside a batch it runs nothing, and changes neither what is stored nor what is dirty
  pub silent : (s.depth ≡ 0 → ⊥) → settled.rows ≡ []
  pub stored : (s.depth ≡ 0 → ⊥) → t.sto ≡ s.sto
  pub dirty : (s.depth ≡ 0 → ⊥) → (e : ℕ) → g.kind e ≡ effect → (t.fl e).dirty ≡ (s.fl e).dirty

module _ (g : Given) (st : Static g) (p : ℕ → Value) (ρ : Records) (s : St) (n : ℕ) (v : Value) (i : Inside g nobody s) (h : n < g.size) (kn : g.kind n ≡ signal) (w : Inv g p ρ nobody nobody s) (goes : s.stuck ≡ false) (calm : s.depth ≡ 0 → s.queue ≡ []) where
  abbrev p' : ℕ → Value
  p' = up p n v

  abbrev t : St
  t = set_fl (set_pend s n v) n f17

  -- nothing but marks
  resting : (x : St) → Inv g p' ρ nobody nobody x → x.log ≡ s.log → x.cycle ≡ s.cycle → x.gone ≡ s.gone → Settled g p' ρ 0 s x
  unfolding recorded whos
  resting x y e c d = record { rows = []; logged = e ∙ sym (append-nil s.log); fresh = tt; once = tt; keeps = y; passes = λ m h. ap (λ (f : ℕ → Bool). f m) d; later = omega arith; spent = omega arith }

  flushed : (d : ℕ) → s.depth ≡ d → s.cycle + in_flush_at (propagate t n) d < limit → Written g p' ρ (in_flush_at (propagate t n) d) s (flush_at (propagate t n) d)
  unfolding resting
  flushed zero e fits =
      let x = propagate t n in
      let xi = (i_propagated g st s n v i h kn).inside in
      let xv = propagate_keeps g st p ρ s n v i h kn w goes in
      let f = flush_fresh g st p' x.queue x ρ xi refl xv fits in
      record {
        settled = record { rows = f.rows; logged = f.logged; fresh = f.fresh; once = f.once; keeps = f.keeps; passes = f.passes; later = f.later; spent = f.spent };
        exact = λ z. exactly_clean g p' ρ f.rows x (flush_on x x.queue) f.passes (λ m. (x.fl m).dirty)
            (λ m a b c. effect_dirty g st p ρ s n v i h kn w goes m b ∙ undirtied g st p ρ s i (calm e) m a b c) (flush_exact g st p' ρ x.queue x _ xi xv f);
        silent = λ z. absurd (z e);
        stored = λ z. absurd (z e);
        dirty = λ z. absurd (z e);
      }
  flushed (suc d) e fits = record {
    settled = resting (propagate t n) (propagate_keeps g st p ρ s n v i h kn w goes) refl refl refl;
    exact = λ z. absurd (omega arith);
    silent = λ z. refl;
    stored = λ z. refl;
    dirty = λ z m b. effect_dirty g st p ρ s n v i h kn w goes m b;
  }

  pub store_fresh : s.cycle + in_store s n v < limit → Written g p' ρ (in_store s n v) s (store s n v)
  unfolding store count_store resting
  store_fresh =
      let P : St → ℕ → Type 0 = λ x k. s.cycle + k < limit → Written g p' ρ k s x in
      provided_so (λ (x : St). P x (in_store s n v)) (a_signal (s.kind n)) (ap (λ (z : Given). a_signal (z.kind n)) i.same ∙ ap a_signal kn)
      (branches P (same (s.pend n) v) (λ e fits. unchanged (same_yes (s.pend n) v e))
      (λ e. branches P (is_nil (s.subs n)) (λ f fits. unheard (is_nil-true (s.subs n) f)) (λ f. flushed s.depth refl)))
    where
      -- the value is the last written one
      unchanged : s.pend n ≡ v → Written g p' ρ 0 s s
      unchanged e =
          let same_p : p ≡ p' = fun_ext (λ m. up_by p n v (λ (x : Value). p m ≡ x) m (λ q. ap p q ∙ sym (ap (λ (f : ℕ → Value). f n) w.last) ∙ e) (λ q. refl)) in
          let y : Inv g p' ρ nobody nobody s = subst (λ (f : ℕ → Value). Inv g f ρ nobody nobody s) same_p w in
          record { settled = resting s y refl refl refl; exact = λ z. quiet_exact g st p' ρ s i y (calm z); silent = λ z. refl; stored = λ z. refl; dirty = λ z m b. refl }

      -- nobody reads it
      unheard : s.subs n ≡ [] → Written g p' ρ 0 s t
      unheard e =
          let y = write_keeps g st p ρ s n v i h kn w e in
          record {
            settled = resting t y refl refl refl;
            exact = λ z. quiet_exact g st p' ρ t (i_written g st s n v i h kn) y (calm z);
            silent = λ z. refl;
            stored = λ z. refl;
            dirty = λ z m b. ap (λ (x : Named). x.dirty) (up_other s.fl n f17 m (λ q. clash (ap readable kn) (ap readable (sym (ap g.kind q) ∙ b))));
          }
