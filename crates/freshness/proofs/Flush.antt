-- T3: the flush. An effect that is live after it has a row in it exactly if, before it, it was dirty or a stored value that it read was not the fresh one; each row is that of the fresh values. Assumes nothing.
use mathlib.Core.Path.{◌≡◌, refl, sym, ap, ◌∙◌, subst}
use mathlib.Core.Logic.{◌⊎◌, inl, inr}
use mathlib.Core.Bool.{Bool, true, false, ◌||◌}
use mathlib.Core.List.{List, [], ◌∷◌, ◌++◌, append_assoc, append-nil}
use Prim.Native.Nat.{ℕ, ◌+◌, ◌≤◌, ◌<◌}
use native.Mathlib.Omega.{arith}
use lib.Dec.{eqb}
use lib.ListN.{length, length-append}
use borrow.Author.Tests.{eqb-true, eqb-false}
use Rattle.flags.specs.declared.Named.{Named}
use Rattle.values.specs.declared.Value.{Value}
use Rattle.meaning.specs.State.{St, signal, effect, Row, readable, unclean, deps}
use Rattle.meaning.specs.Setters.{with_queue}
use Rattle.meaning.specs.Engine.{run, flush_on}
use Rattle.meaning.specs.WellFormed.{In, Once, EffectFlags, watching, pushed, pending, dirty}
use Rattle.freshness.specs.Afresh.{recorded}
use Rattle.meaning.specs.Evaluations.{count_flush_on}
use Rattle.freshness.specs.Evaluations.{in_run, in_flush_on}
use Rattle.freshness.specs.Nodes.{owns}
use Rattle.meaning.proofs.Laws.{clash, either, or_last, or_false}
use Rattle.meaning.proofs.Members.{nil_none, reads_in, reads_sub}
use Rattle.meaning.proofs.Still.{Given}
use Rattle.meaning.proofs.Kept.{run_keeps, flush_on-keeps}
use Rattle.meaning.proofs.Flush.{run_queues_nothing, whos}
use Rattle.meaning.proofs.Binding.{SameReads}
use Rattle.meaning.proofs.Inside.{nobody, Static, Inside}
use Rattle.meaning.proofs.Running.{run_inside}
use Rattle.freshness.proofs.Inv.{Records, Linked, Inv}
use Rattle.freshness.proofs.Clean.{φ, dep_moves, clean}
use Rattle.freshness.proofs.Moves.{Changed, Moves}
use Rattle.freshness.proofs.Whole.{limit}
use Rattle.freshness.proofs.Gone.{owns_gone, Passes, passes_same, row_alive}
use Rattle.freshness.proofs.Effect.{Aside, row_of, told}
use Rattle.freshness.proofs.Run.{Stale, Due, Ran, quiet, ran, RunFresh, nothing_due, run_fresh}

-- every row is that of the fresh values
abbrev pub Rowed : Given → (ℕ → Value) → List Row → Type 0
Rowed g p [] = Unit {0}
Rowed g p (r ∷ rs) = (r ≡ row_of g p r.who) × Rowed g p rs

pub record Flushed (g : Given) (p : ℕ → Value) (ρ : Records) (k : ℕ) (q : List ℕ) (s t : St) : Type 0 where
  pub rows : List Row
  pub logged : t.log ≡ s.log ++ rows
  pub fresh : Rowed g p rows
  pub once : Once (whos rows)
  pub queued : (e : ℕ) → In e (whos rows) → In e q
  pub passes : Passes g s.gone rows t.gone
  pub keeps : Inv g p (recorded ρ rows) nobody nobody t
  pub causes : (e : ℕ) → In e (whos rows) → Due g p s e
  pub runs : (e : ℕ) → e < g.size → g.kind e ≡ effect → t.gone e ≡ false → Due g p s e → In e (whos rows)
  pub later : s.cycle ≤ t.cycle
  pub spent : t.cycle ≤ s.cycle + k

-- ---- another effect's run from s to x changes nothing about whether m is due
module _ (g : Given) (st : Static g) (p : ℕ → Value) (ρ : Records) (s : St) (q : List ℕ) (x : St) (e k m : ℕ) (i : Inside g nobody s) (j : Inside g nobody x) (v : Inv g p ρ nobody nobody s)
    (mv : Moves g p (Aside g e x) nobody e k (with_queue s q) x) (same : SameReads g.kind s x m) (out : Aside g e x m → ⊥) (km : g.kind m ≡ effect) where
  ns : g.kind m ≡ signal → ⊥
  ns z = clash (ap readable z) (ap readable km)

  -- a read link of m, before and after
  fore : (l : ℕ) → s.live l ≡ true → s.sub l ≡ m → readable (g.kind (s.dep l)) ≡ true → (x.live l ≡ true) × (x.sub l ≡ m) × (x.dep l ≡ s.dep l)
  fore l lv z r =
      let a = reads_in g.kind s.dep l (deps s m) (subst (λ (n : ℕ). In l (deps s n)) z (i.lists.live_in_deps l lv)) r in
      let b = j.lists.deps_live l m (reads_sub g.kind x.dep l (deps x m) (subst (In l) (sym same.links) a)) in
      (b.0, b.1, (same.ends l a).0)

  back : (l : ℕ) → x.live l ≡ true → x.sub l ≡ m → readable (g.kind (x.dep l)) ≡ true → (s.live l ≡ true) × (s.sub l ≡ m) × (x.dep l ≡ s.dep l)
  back l lv z r =
      let a = reads_in g.kind x.dep l (deps x m) (subst (λ (n : ℕ). In l (deps x n)) z (j.lists.live_in_deps l lv)) r in
      let c = subst (In l) same.links a in
      let b = i.lists.deps_live l m (reads_sub g.kind s.dep l (deps s m) c) in
      (b.0, b.1, (same.ends l c).0)

  pub due_after : Due g p s m → Due g p x m
  due_after (inl d) = inl (mv.dirty m out ns d)
  due_after (inr w) = go (mv.moved (s.dep w.link))
    where
      -- what is not stored fresh is not clean, so m is pending
      pends : (s.fl m).pending ≡ true
      pends = let d = s.dep w.link in either (unclean (s.fl d))
          (λ z. subst (λ (n : ℕ). (s.fl n).pending ≡ true) w.to (v.mark w.link w.live w.reads (λ y. y) z))
          (λ z. let l : Linked s d m = record { slot = w.link; is_live = w.live; to = refl; from = w.to } in
          absurd (w.old (clean g st p ρ nobody s i v d (i.lists.inside w.link w.live).0 (λ a y u. absurd y) w.reads (dep_moves g st p ρ nobody s i v d m l w.reads (λ y. y)) z)))

      marked : (x.sto (s.dep w.link) ≡ s.sto (s.dep w.link)) ⊎ ((x.fl (s.sub w.link)).dirty ≡ true)
      marked = mv.touch w.link w.live (λ z. out (subst (Aside g e x) w.to z)) (λ z. ns (ap g.kind (sym w.to) ∙ z)) (λ z. z) (subst (λ (n : ℕ). (s.fl n).pending ≡ true) (sym w.to) pends)

      go : (x.sto (s.dep w.link) ≡ s.sto (s.dep w.link)) ⊎ ((x.sto (s.dep w.link) ≡ φ g p (s.dep w.link)) × (s.dep w.link < e)) → Due g p x m
      go (inl z) =
          let f = fore w.link w.live w.to w.reads in
          inr (record {
            link = w.link;
            live = f.0;
            to = f.1;
            reads = subst (λ (n : ℕ). readable (g.kind n) ≡ true) (sym f.2) w.reads;
            old = λ y. w.old (sym z ∙ subst (λ (n : ℕ). x.sto n ≡ φ g p n) f.2 y);
          })
      go (inr z) = touched marked
        where
          touched : (x.sto (s.dep w.link) ≡ s.sto (s.dep w.link)) ⊎ ((x.fl (s.sub w.link)).dirty ≡ true) → Due g p x m
          touched (inl y) = absurd (w.old (sym y ∙ z.0))
          touched (inr y) = inl (subst (λ (n : ℕ). (x.fl n).dirty ≡ true) w.to y)

  pub due_before : Due g p x m → Due g p s m
  due_before (inl d) = either (s.fl m).dirty (λ z. inl z) (λ z. inr (came (mv.soiled m out ns z d)))
    where
      came : Changed g (with_queue s q) x m → Stale g p s m
      came c = record { link = c.link; live = c.live; to = c.to; reads = c.reads; old = λ y. c.new (go y (mv.moved (s.dep c.link))) }
        where
          go : s.sto (s.dep c.link) ≡ φ g p (s.dep c.link) → (x.sto (s.dep c.link) ≡ s.sto (s.dep c.link)) ⊎ ((x.sto (s.dep c.link) ≡ φ g p (s.dep c.link)) × (s.dep c.link < e)) → x.sto (s.dep c.link) ≡ s.sto (s.dep c.link)
          go y (inl z) = z
          go y (inr z) = z.0 ∙ sym y
  due_before (inr w) =
      let b = back w.link w.live w.to w.reads in
      inr (record {
        link = w.link;
        live = b.0;
        to = b.1;
        reads = subst (λ (n : ℕ). readable (g.kind n) ≡ true) b.2 w.reads;
        old = λ y. w.old (subst (λ (n : ℕ). x.sto n ≡ φ g p n) (sym b.2) (go (s.dep w.link) y (mv.moved (s.dep w.link))));
      })
    where
      go : (d : ℕ) → s.sto d ≡ φ g p d → (x.sto d ≡ s.sto d) ⊎ ((x.sto d ≡ φ g p d) × (d < e)) → x.sto d ≡ φ g p d
      go d y (inl z) = z ∙ y
      go d y (inr z) = z.0

module _ (g : Given) (st : Static g) (p : ℕ → Value) where
  -- an effect that is not queued has nothing to do
  idle : (ρ : Records) (s : St) → Inside g nobody s → Inv g p ρ nobody nobody s → s.queue ≡ [] → (e : ℕ) → e < g.size → g.kind e ≡ effect → s.gone e ≡ false → Due g p s e → ⊥
  idle ρ s i v is e h k a = go ((i.rests e h (λ z. z)).of_effect k a)
    where
      go : {rs : List ℕ} → EffectFlags e (s.fl e) s.queue rs → Due g p s e → ⊥
      go (watching x y) = nothing_due g st p ρ s i v e (ap (λ (z : Named). z.dirty) x) (ap (λ (z : Named). z.pending) x)
      go (pushed x y) = absurd (nil_none s.queue e is y)
      go (pending x y z) = absurd (nil_none s.queue e is y)
      go (dirty x y z) = absurd (nil_none s.queue e is y)

  -- the run of e, and the rest
  module _ (e : ℕ) (he : e < g.size) (ke : g.kind e ≡ effect) (q : List ℕ) (s : St) (ρ : Records) (i : Inside g nobody s) (is : s.queue ≡ e ∷ q) (v : Inv g p ρ nobody nobody s) (k : ℕ)
      (rf : RunFresh g p ρ e k (with_queue s q) (run (with_queue s q) e)) where
    abbrev x : St
    x = run (with_queue s q) e

    abbrev t : St
    t = flush_on x q

    ones : (In e q → ⊥) × Once q
    ones = subst Once is i.once

    -- who is live after it was so before
    alive_x : (m : ℕ) → t.gone m ≡ false → x.gone m ≡ false
    alive_x m a = either (x.gone m) (λ b. clash ((flush_on-keeps q x).gone m b) a) (λ b. b)

    alive_s : (m : ℕ) → t.gone m ≡ false → s.gone m ≡ false
    alive_s m a = either (s.gone m) (λ b. clash ((run_keeps (with_queue s q) e).gone m b) (alive_x m a)) (λ b. b)

    -- another effect is due before exactly if it is after
    both : (m : ℕ) → m < g.size → g.kind m ≡ effect → x.gone m ≡ false → (m ≡ e → ⊥) → (Due g p s m → Due g p x m) × (Due g p x m → Due g p s m)
    both m h km a ne =
        let on = run_inside g st e he ke s q i is in
        let same = only_same (on.reads m h km a) in
        (due_after g st p ρ s q x e k m i on.inside v rf.moves same out km, due_before g st p ρ s q x e k m i on.inside v rf.moves same out km)
      where
        only_same : SameReads g.kind s x m ⊎ ((m ≡ e) × (x.log ≡ s.log → ⊥)) → SameReads g.kind s x m
        only_same (inl r) = r
        only_same (inr z) = absurd (ne z.0)

        out : Aside g e x m → ⊥
        out (inl z) = z (h, km)
        out (inr (inl z)) = ne z
        out (inr (inr z)) = clash z a

    to_s : Due g p (with_queue s q) e → Due g p s e
    to_s (inl d) = inl d
    to_s (inr w) = inr (record { link = w.link; live = w.live; to = w.to; reads = w.reads; old = w.old })

    from_s : Due g p s e → Due g p (with_queue s q) e
    from_s (inl d) = inl d
    from_s (inr w) = inr (record { link = w.link; live = w.live; to = w.to; reads = w.reads; old = w.old })

    -- who has a row later was due before e ran
    before : (j : ℕ) (ρ' : Records) (n : Flushed g p ρ' j q x t) (m : ℕ) → In m (whos n.rows) → Due g p s m
    before j ρ' n m z =
        let a = row_alive g n.rows x.gone t.gone n.passes m z in
        (both m a.0 a.1 a.2 (λ y. ones.0 (subst (λ (b : ℕ). In b q) y (n.queued m z)))).1 (n.causes m z)

    one : (j : ℕ) → Ran g p ρ e (with_queue s q) x → ((ρ' : Records) → Inv g p ρ' nobody nobody x → Flushed g p ρ' j q x t) → Flushed g p ρ (k + j) (e ∷ q) s t
    unfolding whos recorded
    one j (quiet lg vx nd same) f =
        let n = f ρ vx in
        let a₁ = rf.moves.later in
        let a₂ = rf.moves.spent in
        let a₃ = n.later in
        let a₄ = n.spent in
        record {
          rows = n.rows;
          logged = n.logged ∙ ap (λ (l : List Row). l ++ n.rows) lg;
          fresh = n.fresh;
          once = n.once;
          queued = λ m z. inr (n.queued m z);
          passes = passes_same g n.rows x.gone s.gone t.gone same n.passes;
          keeps = n.keeps;
          causes = before j ρ n;
          runs = λ m h km a d. either (eqb m e)
              (λ z. let y = eqb-true m e z in absurd (nd (alive_s e (subst (λ (b : ℕ). t.gone b ≡ false) y a)) (from_s (subst (λ (b : ℕ). Due g p s b) y d))))
              (λ z. n.runs m h km a ((both m h km (alive_x m a) (eqb-false m e z)).0 d));
          later = omega arith;
          spent = omega arith;
        }
    one j (ran lg vx du live spares) f =
        let n = f (told g p ρ e) vx in
        let a₁ = rf.moves.later in
        let a₂ = rf.moves.spent in
        let a₃ = n.later in
        let a₄ = n.spent in
        record {
          rows = row_of g p e ∷ n.rows;
          logged = n.logged ∙ ap (λ (l : List Row). l ++ n.rows) lg ∙ append_assoc s.log (row_of g p e ∷ []) n.rows;
          fresh = (refl, n.fresh);
          once = (λ z. ones.0 (n.queued e z), n.once);
          queued = λ m z. in_queue n m z;
          passes = (he, ke, live, passes_same g n.rows x.gone (λ m. s.gone m || owns g.owner e m) t.gone (taken spares) n.passes);
          keeps = n.keeps;
          causes = λ m z. caused n m z;
          runs = λ m h km a d. either (eqb m e) (λ z. inl (eqb-true m e z)) (λ z. inr (n.runs m h km a ((both m h km (alive_x m a) (eqb-false m e z)).0 d)));
          later = omega arith;
          spent = omega arith;
        }
      where
        taken : ((m : ℕ) → m < g.size → owns g.owner e m ≡ false → x.gone m ≡ s.gone m) → (m : ℕ) → m < g.size → x.gone m ≡ s.gone m || owns g.owner e m
        taken sp m h = either (owns g.owner e m)
            (λ o. let on = run_inside g st e he ke s q i is in owns_gone g st x on.inside e (on.disposed logs) m h o ∙ sym (or_last (s.gone m) (owns g.owner e m) o))
            (λ o. sp m h o ∙ sym (ap (λ (b : Bool). s.gone m || b) o ∙ or_false (s.gone m)))
          where
            logs : x.log ≡ s.log → ⊥
            logs z = let a = ap (λ (b : List Row). length b) (sym z ∙ lg) in let b = length-append s.log (row_of g p e ∷ []) in omega arith

        in_queue : (n : Flushed g p (told g p ρ e) j q x t) (m : ℕ) → In m (e ∷ whos n.rows) → In m (e ∷ q)
        in_queue n m (inl z) = inl z
        in_queue n m (inr z) = inr (n.queued m z)

        caused : (n : Flushed g p (told g p ρ e) j q x t) (m : ℕ) → In m (e ∷ whos n.rows) → Due g p s m
        caused n m (inl z) = subst (λ (b : ℕ). Due g p s b) (sym z) (to_s du)
        caused n m (inr z) = before j (told g p ρ e) n m z

  pub flush_fresh : (q : List ℕ) (s : St) (ρ : Records) → Inside g nobody s → s.queue ≡ q → Inv g p ρ nobody nobody s → s.cycle + in_flush_on s q < limit → Flushed g p ρ (in_flush_on s q) q s (flush_on s q)
  unfolding flush_on count_flush_on whos recorded
  flush_fresh [] s ρ i is v fits = record {
    rows = [];
    logged = sym (append-nil s.log);
    fresh = tt;
    once = tt;
    queued = λ e j. j;
    passes = λ m h. refl;
    keeps = v;
    causes = λ e j. absurd j;
    runs = λ e h k a d. absurd (idle ρ s i v is e h k a d);
    later = omega arith;
    spent = omega arith;
  }
  flush_fresh (e ∷ q) s ρ i is v fits =
      let w = i.effects e (subst (In e) (sym is) (inl refl)) in
      let rf = run_fresh g st p ρ e w.0 w.1 s q i is v (omega arith) in
      let sp = rf.moves.spent in
      let lt = rf.moves.later in
      let on = run_inside g st e w.0 w.1 s q i is in
      one e w.0 w.1 q s ρ i is v (in_run (with_queue s q) e) rf (in_flush_on (run (with_queue s q) e) q) rf.outcome
      (λ ρ' v'. flush_fresh q (run (with_queue s q) e) ρ' on.inside (run_queues_nothing (with_queue s q) e) v' (omega arith))
