-- V5, the run itself: from where e has its cursor before its first link, to where it watches again. Its record is that of the fresh values. Assumes nothing.
use mathlib.Core.Path.{◌≡◌, refl, sym, ap, ap₂, ◌∙◌, subst}
use mathlib.Core.Logic.{◌⊎◌, inl, inr}
use mathlib.Core.Bool.{true, false}
use mathlib.Core.List.{List, [], ◌∷◌, ◌++◌, append-nil}
use Prim.Native.Nat.{ℕ, suc, ◌+◌, ◌≤◌, ◌<◌}
use native.Mathlib.Omega.{arith}
use lib.Dec.{eqb}
use lib.ListN.{length}
use borrow.Author.Tests.{eqb-true, eqb-false}
use Rattle.flags.specs.declared.Named.{Named}
use Rattle.values.specs.declared.Value.{Value}
use Rattle.trees.specs.Trees.{Tree, worth, reads}
use Rattle.meaning.specs.State.{St, signal, effect, Row, readable, unclean, deps, f1, f2, f6, raised, up}
use Rattle.meaning.specs.Setters.{set_fl, with_log, with_cycle, with_done, with_rest}
use Rattle.meaning.specs.Links.{rewind, purge}
use Rattle.meaning.specs.Reads.{Out, eval_by, settle_w, read_w, fresh}
use Rattle.meaning.specs.Engine.{logged, rerun}
use Rattle.meaning.specs.WellFormed.{In, read_links}
use Rattle.freshness.specs.Afresh.{readings}
use Rattle.meaning.specs.Evaluations.{count_rerun}
use Rattle.freshness.specs.Evaluations.{in_formula, in_fresh, in_rerun}
use Rattle.freshness.specs.Nodes.{owns}
use Rattle.meaning.proofs.Steps.{rerun_is}
use Rattle.meaning.proofs.Laws.{clash, false≢true, either, up_same, up_other, in_left}
use Rattle.meaning.proofs.Members.{nil_none}
use Rattle.meaning.proofs.Rings.{purge_ring, evaluate_ring}
use Rattle.meaning.proofs.Still.{Given, Fixed, Still, drops_still, renews_still}
use Rattle.meaning.proofs.Binding.{SameLists}
use Rattle.meaning.proofs.Inside.{Set, nobody, only, Static, Inside, Under, own_still}
use Rattle.meaning.proofs.Dropping.{Fallen, flags_inside, rewind_inside, purge_inside}
use Rattle.meaning.proofs.Frames.{others, Frame, frame_flags, frame_wider, Open}
use Rattle.meaning.proofs.Reading.{Near, reads_of}
use Rattle.meaning.proofs.Updating.{fresh_inside}
use Rattle.meaning.proofs.Running.{size_is, Owns, Lies, Run, run_above, begin, f_went, i_ended}
use Rattle.freshness.proofs.Forms.{named, readings_same, firsts, firsts_readings}
use Rattle.freshness.proofs.Inv.{Records, ReadsBy, Inv, Evaluated, Evaluating}
use Rattle.freshness.proofs.Clean.{φ, lower}
use Rattle.freshness.proofs.Moves.{Moves, moves_flags, moves_same, moves_then, moves_wider, moves_bound}
use Rattle.freshness.proofs.Eval.{Went}
use Rattle.freshness.proofs.Step.{Settles, Midway, evaluated}
use Rattle.freshness.proofs.Purge.{Spent, purge_spends, drops_keep}
use Rattle.freshness.proofs.Check.{settles_of}
use Rattle.freshness.proofs.Whole.{limit, raises, sound}
use Rattle.freshness.proofs.Gone.{strictly_owned}

-- all but the effects other than e that are live in t
abbrev pub Aside : Given → ℕ → St → Set
Aside g e t m = ((m < g.size) × (g.kind m ≡ effect) → ⊥) ⊎ ((m ≡ e) ⊎ (t.gone m ≡ true))

-- the row that a run writes
abbrev pub row_of : Given → (ℕ → Value) → ℕ → Row
row_of g p e = record { who = e; worth = worth (g.form e) (φ g p); reads = readings (g.form e) (φ g p) }

abbrev pub told : Given → (ℕ → Value) → Records → ℕ → Records
told g p ρ e = up ρ e (readings (g.form e) (φ g p))

-- k evaluations at most
pub record Reran (g : Given) (p : ℕ → Value) (ρ : Records) (e k : ℕ) (s t : St) : Type 0 where
  pub keeps : Inv g p (told g p ρ e) nobody nobody t
  pub row : t.log ≡ s.log ++ row_of g p e ∷ []
  pub spares : (m : ℕ) → m < g.size → owns g.owner e m ≡ false → t.gone m ≡ s.gone m
  pub moves : Moves g p (Aside g e t) nobody e k s t

pub reran_as : {g : Given} {p : ℕ → Value} {ρ : Records} {e : ℕ} (j k : ℕ) {s t : St} → j ≡ k → Reran g p ρ e j s t → Reran g p ρ e k s t
reran_as {g} {p} {ρ} {e} j k {s} {t} q f = subst (λ (z : ℕ). Reran g p ρ e z s t) q f

module _ (g : Given) (st : Static g) (p : ℕ → Value) (ρ : Records) (e : ℕ) (he : e < g.size) (ke : g.kind e ≡ effect) where
  re : readable (g.kind e) ≡ false
  re = ap readable ke

  near_aside : (t : St) (m : ℕ) → Near g st e m → Aside g e t m
  near_aside t m (inl z) = inl (λ k. clash (ap readable z.0) (ap readable k.1))
  near_aside t m (inr q) = inr (inl q)

  -- e has other flags, and is exempt
  module _ (s : St) (v : Inv g p ρ (Run g st e) (Run g st e) s) where
    flags : (f : Named) (m : ℕ) → (m ≡ e → ⊥) → up s.fl e f m ≡ s.fl m
    flags f m q = up_other s.fl e f m q

    not_signal : (m : ℕ) → g.kind m ≡ signal → m ≡ e → ⊥
    not_signal m q z = clash (ap readable (sym (ap g.kind z) ∙ q)) re

    pub renamed : (ρ' : Records) → ((m : ℕ) → (m ≡ e → ⊥) → ρ' m ≡ ρ m) → (f : Named) (cyc : ℕ) (dn rs : ℕ → List ℕ) (lg : List Row) → s.cycle ≤ cyc
        → Inv g p ρ' (Run g st e) (Run g st e) (set_fl (with_log (with_cycle (with_rest (with_done s dn) rs) cyc) lg) e f)
    renamed ρ' same f cyc dn rs lg lt = record {
      last = v.last;
      ver = λ l lv. let a = v.ver l lv in omega arith;
      sig = λ m w q d. v.sig m w q (ap (λ (x : Named). x.dirty) (sym (flags f m (not_signal m q))) ∙ d);
      mark = λ l lv rd na u. ap (λ (x : Named). x.pending) (flags f (s.sub l) (λ q. na (inr q)))
          ∙ v.mark l lv rd na (ap unclean (sym (flags f (s.dep l) (λ q. clash rd (ap (λ (x : ℕ). readable (g.kind x)) q ∙ re)))) ∙ u);
      val = λ m w q na mu d. v.val m w q na (ap (λ (x : Named). x.mutable) (sym (flags f m (λ z. na (inr z)))) ∙ mu) (ap (λ (x : Named). x.dirty) (sym (flags f m (λ z. na (inr z)))) ∙ d);
      seen = λ m w q gn na d. same m (λ z. na (inr z)) ∙ v.seen m w q gn na (ap (λ (x : Named). x.dirty) (sym (flags f m (λ z. na (inr z)))) ∙ d);
      rec = λ m w q gn nx. subst (λ (xs : List (ℕ × Value)). ReadsBy g.kind s.live s.dep s.sub m (firsts xs)) (sym (same m (λ z. nx (inr z)))) (v.rec m w q gn nx);
    }

  -- ---- from the end of the evaluation in x on
  module _ (x : St) (start : ℕ) (ev : Evaluating x e start (reads (g.form e) (φ g p)))
      (read : (d : ℕ) → In d (reads (g.form e) (φ g p)) → (x.fl d ≡ f1) × (x.sto d ≡ φ g p d) × (d ≡ e → ⊥)) (v : Inv g p ρ (Run g st e) (Run g st e) x) (lg : List Row) where
    abbrev y : St
    y = set_fl (with_log x lg) e f2

    abbrev ρ' : Records
    ρ' = told g p ρ e

    watches : Inv g p ρ' (Run g st e) (Run g st e) y
    watches = renamed x v ρ' (λ m q. up_other ρ e (readings (g.form e) (φ g p)) m q) f2 x.cycle x.done x.rest lg (omega arith)

    module _ (t : St) (yi : Inside g (Run g st e) y) (ti : Inside g (Run g st e) t) (z : Spent y t) (ends : (t.dep ≡ x.dep) × (t.sub ≡ x.sub))
        (fate : (m : ℕ) → (t.fl m ≡ y.fl m) ⊎ (t.subs m ≡ [])) (sp : (m : ℕ) → (m ≡ e → ⊥) → SameLists y t m ⊎ Fallen t m) (done : t.done e ≡ x.done e) (rest : t.rest e ≡ []) where
      dep_at : (l : ℕ) → t.dep l ≡ x.dep l
      dep_at l = ap (λ (f : ℕ → ℕ). f l) ends.0

      purged : Inv g p ρ' (Run g st e) (Run g st e) t
      purged = drops_keep g p ρ' (Run g st e) (Run g st e) (Run g st e) (only e) y t (λ m a. a) (λ m. inr) yi ti z ends fate sp (λ m nb keep a. nb a) watches

      own : (l : ℕ) → t.live l ≡ true → t.sub l ≡ e → In l (x.done e)
      own l lv q =
          let a : In l (deps t e) = subst (λ (m : ℕ). In l (deps t m)) q (ti.lists.live_in_deps l lv) in
          let b : deps t e ≡ x.done e = ap (λ (w : List ℕ). t.done e ++ w) rest ∙ append-nil (t.done e) ∙ done in
          subst (In l) b a

      kept : (l : ℕ) → In l (x.done e) → (t.live l ≡ true) × (t.sub l ≡ e)
      kept l j = ti.lists.deps_live l e (in_left l (t.done e) (t.rest e) (subst (In l) (sym done) j))

      reads_all : ReadsBy g.kind t.live t.dep t.sub e (reads (g.form e) (φ g p))
      reads_all = record {
        all = λ d j. let k = ev.covers d j in let w = kept k.slot k.within in record { slot = k.slot; is_live = w.0; to = dep_at k.slot ∙ k.to; from = w.1 };
        only = λ d l rd. subst (λ (m : ℕ). In m (reads (g.form e) (φ g p))) (sym (dep_at l.slot) ∙ l.to) (ev.only l.slot (own l.slot l.is_live l.from));
        can = λ d j. (st.names_lower e d he (named (g.form e) (φ g p) d j)).0;
      }

      clean_dep : (l : ℕ) → t.live l ≡ true → t.sub l ≡ e → unclean (t.fl (t.dep l)) ≡ false
      clean_dep l lv q = go (fate (t.dep l))
        where
          go : (t.fl (t.dep l) ≡ y.fl (t.dep l)) ⊎ (t.subs (t.dep l) ≡ []) → unclean (t.fl (t.dep l)) ≡ false
          go (inl w) = let r = read (x.dep l) (ev.only l (own l lv q)) in ap unclean (w ∙ ap y.fl (dep_at l) ∙ up_other x.fl e f2 (x.dep l) r.2 ∙ r.0)
          go (inr w) = absurd (nil_none (t.subs (t.dep l)) l w (ti.lists.live_in_subs l lv))

      seen_now : ρ' e ≡ readings (g.form e) t.sto
      seen_now =
          up_same ρ e (readings (g.form e) (φ g p))
          ∙ readings_same (g.form e) (φ g p) x.sto (λ d j. sym (read d j).1) ∙ ap (readings (g.form e)) (sym z.sto)

      pub effect_ends : Inv g p ρ' nobody nobody t
      effect_ends =
          let j = purged in
          record {
            last = j.last;
            ver = j.ver;
            sig = j.sig;
            mark = λ l lv rd na un. either (eqb (t.sub l) e)
                (λ q. clash un (clean_dep l lv (eqb-true (t.sub l) e q)))
                (λ q. j.mark l lv rd (off (t.sub l) (eqb-false (t.sub l) e q)) un);
            val = λ m h k na mu d. j.val m h k (off m (λ q. clash (ap readable (sym (ap g.kind q) ∙ k)) re)) mu d;
            seen = λ m h k gn na d. either (eqb m e)
                (λ q. subst (λ (b : ℕ). ρ' b ≡ readings (g.form b) t.sto) (sym (eqb-true m e q)) seen_now)
                (λ q. j.seen m h k gn (off m (eqb-false m e q)) d);
            rec = λ m h k gn nx. either (eqb m e)
                (λ q. subst (λ (b : ℕ). ReadsBy g.kind t.live t.dep t.sub b (firsts (ρ' b))) (sym (eqb-true m e q))
                (subst (λ (ns : List ℕ). ReadsBy g.kind t.live t.dep t.sub e ns) (sym (ap firsts (up_same ρ e (readings (g.form e) (φ g p))) ∙ firsts_readings (g.form e) (φ g p))) reads_all))
                (λ q. j.rec m h k gn (off m (eqb-false m e q)));
          }
        where
          off : (m : ℕ) → (m ≡ e → ⊥) → Run g st e m → ⊥
          off m f (inl x'') = elim x'' [ ]
          off m f (inr q) = f q

  -- ---- the evaluation, from s₁ on
  module _ (s s₁ : St) (i : Inside g (Run g st e) s) (l : Owns g st s e) (i₁ : Inside g (Run g st e) s₁) (f₁ : Frame g (Near g st e) e s s₁) (empty : s₁.done e ≡ []) (left : length (read_links g.kind s₁.dep (s₁.rest e)) ≤ reads_of g st e)
      (v₁ : Inv g p ρ (Run g st e) (Run g st e) s₁) (start j : ℕ) (ev₁ : Evaluating s₁ e start []) (late₁ : start ≤ s₁.cycle) (m₁ : Moves g p (Near g st e) nobody e j s s₁) (log₁ : s₁.log ≡ s.log)
      (fits : s₁.cycle + in_formula (read_w (fresh s₁.size) e) (in_fresh s₁.size) (g.form e) s₁ < limit) where
    abbrev K : ℕ
    K = s₁.size

    abbrev o : Out
    o = eval_by (read_w (fresh K) e) (g.form e) s₁

    abbrev much : ℕ
    much = in_formula (read_w (fresh K) e) (in_fresh K) (g.form e) s₁

    in_time : e ≤ K
    in_time = let k = size_is g st (Run g st e) s₁ i₁ in omega arith

    lowers : (n : ℕ) → n < e → (t : St) → Inside g (Run g st e) t → Open g st (Run g st e) t → Inv g p ρ (Run g st e) (Run g st e) t → readable (g.kind n) ≡ true → t.cycle + in_fresh K t n < limit → Settles g p ρ (Run g st e) (in_fresh K t n) t n (settle_w (fresh K) t n)
    lowers n lt t ti to tv rn q =
        let k = in_time in
        settles_of g st p ρ (Run g st e) K (in_fresh K t n) (fresh K) (fresh_inside g st K) t n ti to (omega arith) rn above (omega arith) (sound g st p ρ K (Run g st e) t n ti to (omega arith) rn above (omega arith) tv q)
      where
        above : (m : ℕ) → Run g st e m → readable (g.kind m) ≡ true → n < m
        above m (inl x'') r = elim x'' [ ]
        above m (inr z) r = clash r (ap (λ (b : ℕ). readable (g.kind b)) z ∙ re)

    abbrev Mid : St → List ℕ → Type 0
    Mid = Midway g st p ρ K (fresh K) (fresh_inside g st K) (in_fresh K) limit (Run g st e) e (inr refl) he (run_above g st e he ke) in_time s₁ i₁ start lowers

    goes : Went Mid (g.form e) (φ g p) [] s₁ much o
    goes = evaluated g st p ρ K (fresh K) (fresh_inside g st K) (in_fresh K) limit (Run g st e) e (inr refl) he (run_above g st e he ke) in_time s₁ i₁ start lowers fits (record {
      base = begin g st e he ke s s₁ i l i₁ f₁ empty left;
      inv = v₁;
      ev = ev₁;
      late = late₁;
      read = λ d x. absurd x;
      much = 0;
      moves = moves_same g p (Near g st e) nobody e s₁;
    })

    mid : Mid o.st (reads (g.form e) (φ g p))
    mid = goes.keeps

    reading : (d : ℕ) → In d (reads (g.form e) (φ g p)) → (o.st.fl d ≡ f1) × (o.st.sto d ≡ φ g p d) × (d ≡ e → ⊥)
    reading d w = let r = mid.read d w in let lt = lower g st e d he (named (g.form e) (φ g p) d w) in (r.0, r.1, λ q. omega arith)

    to_out : Moves g p (Near g st e) nobody e (j + much) s o.st
    to_out = moves_then g p (Near g st e) nobody e e j much s s₁ o.st i.lists i₁.lists f₁ m₁ (moves_bound g p (Near g st e) nobody e much mid.much s₁ o.st goes.spent mid.moves)

    to_end : (t : St) → t.sto ≡ o.st.sto → t.cycle ≡ o.st.cycle → ((m : ℕ) → (Aside g e t m → ⊥) → t.fl m ≡ o.st.fl m) → Moves g p (Aside g e t) nobody e (j + much) s t
    to_end t e₁ e₂ fs =
        moves_wider g p (Aside g e t) (Aside g e t) nobody nobody e e (j + much + 0) (j + much) s t (λ m z. z) (λ m z. z) (omega arith) (omega arith)
        (moves_then g p (Aside g e t) nobody e e (j + much) 0 s o.st t i.lists mid.base.inside.lists
        (frame_wider g (Near g st e) (Aside g e t) e e s o.st (near_aside t) (omega arith) (f_went g st e he ke s s₁ i l i₁ f₁ empty left))
        (moves_wider g p (Near g st e) (Aside g e t) nobody nobody e e (j + much) (j + much) s o.st (near_aside t) (λ m z. z) (omega arith) (omega arith) to_out)
        (moves_flags g p (Aside g e t) nobody e 0 o.st t (λ m. inl (ap (λ (f : ℕ → Value). f m) e₁)) (λ m q. ap (λ (f : ℕ → Value). f m) e₁) (omega arith) (omega arith) (λ m a q. fs m a)))

    -- what is logged
    row_is : (logged o e).log ≡ s.log ++ row_of g p e ∷ []
    unfolding logged
    row_is = ap₂ (λ (x : List Row) (y : Row). x ++ y ∷ []) (log_went ∙ log₁) (ap₂ (λ (a : Value) (b : List (ℕ × Value)). row a b) goes.value goes.record_is)
      where
        row : Value → List (ℕ × Value) → Row
        row a b = record { who = e; worth = a; reads = b }

        log_went : o.st.log ≡ s₁.log
        log_went = subst (λ (t : Tree). (eval_by (read_w (fresh K) e) t s₁).st.log ≡ s₁.log) (ap (λ (z : Given). z.form e) i₁.same) (ap (λ (f : Fixed). f.log) (evaluate_ring Still renews_still s₁ e).same)

    pub later_fresh : Reran g p ρ e (j + much) s (purge (set_fl (logged o e) e f2) e)
    unfolding logged
    later_fresh =
        let ie = i_ended g st e he ke s s₁ i l i₁ f₁ empty left in
        let ended = set_fl (logged o e) e f2 in
        let pu = purge_inside g st (Run g st e) ended e ie (inr refl) apart in
        let t = purge ended e in
        let z = purge_spends ended e in
        record {
          keeps = effect_ends o.st start mid.ev reading mid.inv (logged o e).log t ie pu.inside z (pu.dropped.dep, pu.dropped.sub) pu.dropped.fate pu.spares.safe pu.done pu.rest;
          row = ap (λ (f : Fixed). f.log) (purge_ring Still drops_still ended e).same ∙ row_is;
          spares = λ m h no. either (readable (g.kind m)) (λ r. pu.inside.gone_kind m h r ∙ sym (i.gone_kind m h r))
              (λ r. (pu.dropped.flags m (strictly_owned g st e m h r no)).1 ∙ (f_went g st e he ke s s₁ i l i₁ f₁ empty left).gone m r);
          moves = to_end t z.sto z.cycle (λ m a. stays t pu.inside m a (z.flags m) ∙ up_other o.st.fl e f2 m (λ q. a (inr (inl q))));
        }
      where
        apart : (m : ℕ) → Under g e m × (m ≡ e → ⊥) → Run g st e m → ⊥
        apart m q (inl x') = elim x' [ ]
        apart m q (inr w) = q.1 w

        stays : (t : St) → Inside g (Run g st e) t → (m : ℕ) → (Aside g e t m → ⊥) → (t.fl m ≡ up o.st.fl e f2 m) ⊎ Fallen t m → t.fl m ≡ up o.st.fl e f2 m
        stays t ti m a (inl q) = q
        stays t ti m a (inr (inl q)) = absurd (a (inr (inr q)))
        stays t ti m a (inr (inr q)) = absurd (a (inl (λ k. clash (ap (λ (f : Named). f.mutable) q) (own_still g t.queue t.dep t.sub m _ _ _ _ _ (ti.rests m k.0 (λ w. off w)) (ap readable k.1)))))
          where
            off : Run g st e m → ⊥
            off (inl x3) = elim x3 [ ]
            off (inr w) = a (inr (inl w))

    pub first_fresh : s₁.rest e ≡ [] → Reran g p ρ e (j + much) s (set_fl (logged o e) e f2)
    unfolding logged
    first_fresh tail =
        let ie = i_ended g st e he ke s s₁ i l i₁ f₁ empty left in
        let ended = set_fl (logged o e) e f2 in
        record {
          keeps = effect_ends o.st start mid.ev reading mid.inv (logged o e).log ended ie ie
              (record { sto = refl; pend = refl; ver = refl; dep = refl; sub = refl; cycle = refl; fewer = λ k a. a; gone = λ m a. a; flags = λ m. inl refl }) (refl, refl) (λ m. inl refl) (λ m q. inl (refl, refl)) refl (mid.base.tail tail);
          row = row_is;
          spares = λ m h no. either (readable (g.kind m)) (λ r. ie.gone_kind m h r ∙ sym (i.gone_kind m h r)) (λ r. (f_went g st e he ke s s₁ i l i₁ f₁ empty left).gone m r);
          moves = to_end ended refl refl (λ m a. up_other o.st.fl e f2 m (λ q. a (inr (inl q))));
        }

  -- ---- a rerun: e is off the queue, and exempt
  pub rerun_fresh : (s : St) → Inside g (Run g st e) s → Lies g st s e → (s.fl e).pending ≡ true → Inv g p ρ (Run g st e) (Run g st e) s → s.cycle + in_rerun s e < limit → Reran g p ρ e (in_rerun s e) s (rerun s e)
  unfolding count_rerun
  rerun_fresh s i l pd v =
      let b = with_cycle s (raised s.cycle) in
      let s₁ = set_fl (rewind b e) e f6 in
      let ib : Inside g (Run g st e) b = others g (Run g st e) s i (raised s.cycle) s.sto s.pend s.depth s.log s.stuck in
      let i₁ : Inside g (Run g st e) s₁ = flags_inside g (Run g st e) (rewind b e) e (rewind_inside g (Run g st e) b e ib (inr refl)) (inr refl) f6 (λ q. false≢true q) in
      let f₁ : Frame g (Near g st e) e s s₁ = frame_flags g (Near g st e) e s s₁ refl refl refl refl refl refl (λ l a h. refl)
      (λ m z. (up_other s.done e [] m (λ q. z (inr q)), up_other s.rest e (s.done e ++ s.rest e) m (λ q. z (inr q))))
      (λ m z q. up_other s.fl e f6 m (λ x. z (inr x)))
      (λ m q. up_other s.fl e f6 m (λ x. clash pd (ap (λ (z : Named). z.pending) (sym (ap s.fl x) ∙ q))) ∙ q) (λ m z q. refl) in
      let all : s₁.rest e ≡ s.done e = up_same s.rest e (s.done e ++ s.rest e) ∙ ap (λ (x : List ℕ). s.done e ++ x) l.tail ∙ append-nil (s.done e) in
      let few : length (read_links g.kind s.dep (s₁.rest e)) ≤ reads_of g st e = subst (λ (x : List ℕ). length (read_links g.kind s.dep x) ≤ reads_of g st e) (sym all) l.few in
      let ev : Evaluating s₁ e (s.cycle + 1) [] =
      subst (λ (d : List ℕ). Evaluated d (s₁.rest e) s.dep s.ver (s.cycle + 1) []) (sym (up_same s.done e []))
      (record {
        covers = λ d x. absurd x;
        only = λ k x. absurd x;
        since = λ k x. absurd x;
        older = λ k x. let y = v.ver k (i.lists.deps_live k e (subst (In k) (up_same s.rest e (s.done e ++ s.rest e)) x)).0 in omega arith;
      }) in
      subst (λ (x : St). s.cycle + in_rerun s e < limit → Reran g p ρ e (in_rerun s e) s x) (sym (rerun_is s e (ap (λ (z : Given). z.kind e) i.same ∙ ke)))
      (subst (λ (t : Tree). s.cycle + suc (in_formula (read_w (fresh s.size) e) (in_fresh s.size) t s₁) < limit
      → Reran g p ρ e (suc (in_formula (read_w (fresh s.size) e) (in_fresh s.size) t s₁)) s (purge (set_fl (logged (eval_by (read_w (fresh s.size) e) t s₁) e) e f2) e))
      (sym (ap (λ (z : Given). z.form e) i.same))
      (λ fits. let one : raised s.cycle ≡ s.cycle + 1 = raises s.cycle (omega arith) in
      reran_as (1 + in_formula (read_w (fresh s.size) e) (in_fresh s.size) (g.form e) s₁) (suc (in_formula (read_w (fresh s.size) e) (in_fresh s.size) (g.form e) s₁)) (omega arith)
      (later_fresh s s₁ i l.owns i₁ f₁ (up_same s.done e []) few (renamed s v ρ (λ m q. refl) f6 (raised s.cycle) s₁.done s₁.rest s.log (omega arith)) (s.cycle + 1) 1 ev (omega arith)
      (moves_flags g p (Near g st e) nobody e 1 s s₁ (λ m. inl refl) (λ m q. refl) (omega arith) (omega arith) (λ m z q. up_other s.fl e f6 m (λ x. z (inr x)))) refl (omega arith))))
