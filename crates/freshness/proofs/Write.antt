-- V4: a write and its propagation keep the clauses, with the new last written value. Assumes nothing.
use mathlib.Core.Path.{◌≡◌, refl, sym, ap, ◌∙◌, subst}
use mathlib.Core.Logic.{◌⊎◌, inl, inr}
use mathlib.Core.Bool.{Bool, true, false, ◌||◌}
use mathlib.Core.List.{List, [], ◌++◌, append-nil}
use Prim.Native.Nat.{ℕ, ◌<◌}
use lib.Dec.{eqb}
use borrow.Author.Tests.{eqb-true, eqb-false}
use Rattle.flags.specs.declared.Named.{Named}
use Rattle.values.specs.declared.Value.{Value}
use Rattle.meaning.specs.State.{St, Kind, signal, computed, effect, scope, readable, unclean, deps, f17, up}
use Rattle.meaning.specs.Setters.{set_fl, set_pend}
use Rattle.meaning.specs.Marks.{propagate}
use Rattle.meaning.specs.Reach.{Reached, near, far}
use Rattle.meaning.specs.WellFormed.{In, ComputedFlags, never, clean, stale, maybe, dirty, EffectFlags, watching, pushed, pending, dirty as soiled}
use Rattle.meaning.proofs.Laws.{clash, either, or_one, up_same, up_other}
use Rattle.meaning.proofs.Members.{nil_none}
use Rattle.meaning.proofs.Still.{Given}
use Rattle.meaning.proofs.Inside.{Set, nobody, Static, Rests, Inside, read_moves}
use Rattle.meaning.proofs.Dropping.{a_computed}
use Rattle.meaning.proofs.Reached.{marks_reached, marks_no_other}
use Rattle.meaning.proofs.Walking.{i_written, i_propagated}
use Rattle.freshness.proofs.Inv.{Records, Inv}

-- who has a link and is unclean is pending
pub unclean_pending : (g : Given) (X : Set) (s : St) (i : Inside g X s) (l u : ℕ) → s.live l ≡ true → s.sub l ≡ u → (X u → ⊥) → unclean (s.fl u) ≡ true → (s.fl u).pending ≡ true
unclean_pending g X s i l u lv e nx un =
    let h : u < g.size = subst (λ (x : ℕ). x < g.size) e (i.lists.inside l lv).1 in
    let r = i.rests u h nx in
    let j : In l (deps s u) = subst (λ (x : ℕ). In l (deps s x)) e (i.lists.live_in_deps l lv) in
    let k : In l (s.done u) = subst (In l) (ap (λ (x : List ℕ). s.done u ++ x) r.tail ∙ append-nil (s.done u)) j in
    go r k (g.kind u) refl
  where
    off : {f : Named} → s.fl u ≡ f → unclean f ≡ false → (s.fl u).pending ≡ true
    off q z = clash un (ap unclean q ∙ z)

    at : In l (s.done u) → ComputedFlags (s.fl u) (s.done u) (s.subs u) → (s.fl u).pending ≡ true
    at k (never x y z) = off x refl
    at k (clean x) = off x refl
    at k (stale x y) = absurd (nil_none (s.done u) l y k)
    at k (maybe x y) = ap (λ (f : Named). f.pending) x
    at k (dirty x y) = ap (λ (f : Named). f.pending) x

    run : (reads : List ℕ) → EffectFlags u (s.fl u) s.queue reads → (s.fl u).pending ≡ true
    run reads (watching x q) = off x refl
    run reads (pushed x q) = off x refl
    run reads (pending x q z) = ap (λ (f : Named). f.pending) x
    run reads (soiled x q z) = ap (λ (f : Named). f.pending) x

    go : Rests g s u → In l (s.done u) → (x : Kind) → g.kind u ≡ x → (s.fl u).pending ≡ true
    go r k signal q = absurd ((i.goes l lv).of_signal (ap g.kind e ∙ q))
    go r k computed q = at k (r.of_computed q)
    go r k effect q = either (s.gone u) (λ a. absurd (nil_none (s.done u) l (r.bare a).0 k)) (λ a. run _ (r.of_effect q a))
    go r k scope q = off (r.of_scope q) refl

module _ (g : Given) (st : Static g) (p : ℕ → Value) (ρ : Records) (s : St) (n : ℕ) (v : Value) (i : Inside g nobody s) (h : n < g.size) (kn : g.kind n ≡ signal) (w : Inv g p ρ nobody nobody s) where
  abbrev written : St
  written = set_fl (set_pend s n v) n f17

  -- the last written values after it
  abbrev p' : ℕ → Value
  p' = up p n v

  iw : Inside g nobody written
  iw = i_written g st s n v i h kn

  flags : (m : ℕ) → (m ≡ n → ⊥) → written.fl m ≡ s.fl m
  flags m f = up_other s.fl n f17 m f

  not_computed : (c : ℕ) → g.kind c ≡ computed → c ≡ n → ⊥
  not_computed c k q = clash (ap a_computed (sym (ap g.kind q) ∙ k)) (ap a_computed kn)

  not_effect : (c : ℕ) → g.kind c ≡ effect → c ≡ n → ⊥
  not_effect c k q = clash (ap readable kn) (ap readable (sym (ap g.kind q) ∙ k))

  not_sub : (l : ℕ) → s.live l ≡ true → s.sub l ≡ n → ⊥
  not_sub l lv q = (i.goes l lv).of_signal (ap g.kind q ∙ kn)

  new_values : (f : ℕ → Named) → ((m : ℕ) → (f m).dirty ≡ (written.fl m).dirty) → (m : ℕ) → m < g.size → g.kind m ≡ signal → (f m).dirty ≡ false → s.sto m ≡ p' m
  new_values f d m lt k z = either (eqb m n)
      (λ e. clash (ap (λ (x : Named). x.dirty) (ap written.fl (eqb-true m n e) ∙ up_same s.fl n f17)) (sym (d m) ∙ z))
      (λ e. let q = eqb-false m n e in w.sig m lt k (ap (λ (x : Named). x.dirty) (sym (flags m q)) ∙ sym (d m) ∙ z) ∙ sym (up_other p n v m q))

  -- without subscribers nothing has to be marked
  pub write_keeps : s.subs n ≡ [] → Inv g p' ρ nobody nobody written
  write_keeps none = record {
    last = ap (λ (f : ℕ → Value). up f n v) w.last;
    ver = w.ver;
    sig = new_values written.fl (λ m. refl);
    mark = λ l lv r na un. either (eqb (s.dep l) n)
        (λ e. absurd (nil_none (s.subs n) l none (subst (λ (x : ℕ). In l (s.subs x)) (eqb-true (s.dep l) n e) (i.lists.live_in_subs l lv))))
        (λ e. ap (λ (x : Named). x.pending) (flags (s.sub l) (not_sub l lv)) ∙ w.mark l lv r na (ap unclean (sym (flags (s.dep l) (eqb-false (s.dep l) n e))) ∙ un));
    val = λ c lt k na mu d. let f = not_computed c k in w.val c lt k na (ap (λ (x : Named). x.mutable) (sym (flags c f)) ∙ mu) (ap (λ (x : Named). x.dirty) (sym (flags c f)) ∙ d);
    seen = λ e lt k gn na d. let f = not_effect e k in w.seen e lt k gn na (ap (λ (x : Named). x.dirty) (sym (flags e f)) ∙ d);
    rec = w.rec;
  }

  module _ (runs : s.stuck ≡ false) where
    goes : (propagate written n).stuck ≡ false
    goes = (i_propagated g st s n v i h kn).stuck ∙ runs

    abbrev t : St
    t = propagate written n

    dirty_is : (m : ℕ) → (t.fl m).dirty ≡ (written.fl m).dirty
    dirty_is m = (marks_no_other written n goes m).0

    mutable_is : (m : ℕ) → (t.fl m).mutable ≡ (written.fl m).mutable
    mutable_is m = (marks_no_other written n goes m).1

    -- marked before, or reached: marked
    pends : (u : ℕ) → ((written.fl u).pending ≡ true) ⊎ Reached written n u → (t.fl u).pending ≡ true
    pends u = (marks_reached written n goes u).1

    by_sub : (l : ℕ) → s.live l ≡ true → (unclean (written.fl (s.sub l)) ≡ false → Reached written n (s.sub l)) → (t.fl (s.sub l)).pending ≡ true
    by_sub l lv f = either (unclean (written.fl (s.sub l)))
        (λ e. pends (s.sub l) (inl (unclean_pending g nobody written iw l (s.sub l) lv refl (λ z. z) e)))
        (λ e. pends (s.sub l) (inr (f e)))

    marked : (l : ℕ) → s.live l ≡ true → readable (g.kind (s.dep l)) ≡ true → unclean (t.fl (s.dep l)) ≡ true → (t.fl (s.sub l)).pending ≡ true
    marked l lv r un =
        let d = s.dep l in
        either (eqb d n)
        (λ e. by_sub l lv (λ c. near l (subst (λ (x : ℕ). In l (s.subs x)) (eqb-true d n e) (i.lists.live_in_subs l lv)) refl c))
        (λ e. let q = eqb-false d n e in
        let old : unclean (s.fl d) ≡ true → (t.fl (s.sub l)).pending ≡ true =
        λ z. pends (s.sub l) (inl (ap (λ (x : Named). x.pending) (flags (s.sub l) (not_sub l lv)) ∙ w.mark l lv r (λ y. y) z)) in
        either (t.fl d).dirty
        (λ z. old (ap (λ (b : Bool). b || (s.fl d).pending) (ap (λ (x : Named). x.dirty) (sym (flags d q)) ∙ sym (dirty_is d) ∙ z)))
        (λ z. by_mark l lv r q old ((marks_reached written n goes d).0 (or_one (t.fl d).dirty (t.fl d).pending un z))))
      where
        or_pending : (b : Bool) → (b || true) ≡ true
        or_pending true = refl
        or_pending false = refl

        by_mark : (l : ℕ) → s.live l ≡ true → readable (g.kind (s.dep l)) ≡ true → (s.dep l ≡ n → ⊥) → (unclean (s.fl (s.dep l)) ≡ true → (t.fl (s.sub l)).pending ≡ true) → ((written.fl (s.dep l)).pending ≡ true) ⊎ Reached written n (s.dep l) → (t.fl (s.sub l)).pending ≡ true
        by_mark l lv r q old (inl a) = old (ap (λ (b : Bool). (s.fl (s.dep l)).dirty || b) (ap (λ (x : Named). x.pending) (sym (flags (s.dep l) q)) ∙ a) ∙ or_pending (s.fl (s.dep l)).dirty)
        by_mark l lv r q old (inr a) =
            let d = s.dep l in
            let has = i.lists.live_in_subs l lv in
            let mu : (written.fl d).mutable ≡ true = read_moves g written.queue s.dep s.sub d _ _ _ _ _ (iw.rests d (i.lists.inside l lv).0 (λ z. z)) l has r in
            by_sub l lv (λ c. far l d a mu has refl c)

    pub propagate_keeps : Inv g p' ρ nobody nobody (propagate written n)
    propagate_keeps = record {
      last = ap (λ (f : ℕ → Value). up f n v) w.last;
      ver = w.ver;
      sig = new_values t.fl dirty_is;
      mark = λ l lv r na un. marked l lv r un;
      val = λ c lt k na mu d. let f = not_computed c k in w.val c lt k na (ap (λ (x : Named). x.mutable) (sym (flags c f)) ∙ sym (mutable_is c) ∙ mu) (ap (λ (x : Named). x.dirty) (sym (flags c f)) ∙ sym (dirty_is c) ∙ d);
      seen = λ e lt k gn na d. let f = not_effect e k in w.seen e lt k gn na (ap (λ (x : Named). x.dirty) (sym (flags e f)) ∙ sym (dirty_is e) ∙ d);
      rec = w.rec;
    }

    -- no effect becomes dirty by it
    pub effect_dirty : (e : ℕ) → g.kind e ≡ effect → ((propagate written n).fl e).dirty ≡ (s.fl e).dirty
    effect_dirty e k = dirty_is e ∙ ap (λ (x : Named). x.dirty) (flags e (not_effect e k))
