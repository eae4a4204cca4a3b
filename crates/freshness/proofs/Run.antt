-- V5: the run of an effect that is taken off the queue. It runs exactly if it is dirty, or a stored value that it read is not the fresh one. Assumes nothing.
use mathlib.Core.Path.{◌≡◌, refl, sym, ap, ap₂, ◌∙◌, subst}
use mathlib.Core.Logic.{◌⊎◌, inl, inr}
use mathlib.Core.Bool.{true, false}
use mathlib.Core.List.{List, [], ◌∷◌, ◌++◌}
use Prim.Native.Nat.{ℕ, ◌+◌, ◌<◌}
use native.Mathlib.Omega.{arith}
use lib.Dec.{eqb}
use borrow.Author.Tests.{eqb-true, eqb-false}
use Rattle.flags.specs.declared.Named.{Named}
use Rattle.values.specs.declared.Value.{Value}
use Rattle.meaning.specs.State.{St, signal, effect, Row, readable, unclean, deps, f1, f2}
use Rattle.meaning.specs.Setters.{set_fl, with_queue}
use Rattle.meaning.specs.Reads.{Ans, fresh, check}
use Rattle.meaning.specs.Engine.{rerun, run}
use Rattle.meaning.specs.WellFormed.{In, read_links, EffectFlags, watching, pushed, pending, dirty}
use Rattle.freshness.specs.Afresh.{readings}
use Rattle.meaning.specs.Evaluations.{count_run}
use Rattle.freshness.specs.Evaluations.{in_fresh, in_check, in_rerun, in_run}
use Rattle.freshness.specs.Nodes.{owns}
use Rattle.meaning.proofs.Laws.{clash, either, up_other}
use Rattle.meaning.proofs.Rings.{check_ring}
use Rattle.meaning.proofs.Still.{Given, Fixed, Still, renews_still}
use Rattle.meaning.proofs.Inside.{nobody, also, Static, Inside}
use Rattle.meaning.proofs.Frames.{Low, Frame, frame_wider}
use Rattle.meaning.proofs.Reading.{Near}
use Rattle.meaning.proofs.Updating.{Checked, fresh_inside}
use Rattle.meaning.proofs.Running.{size_is, Run, run_above, popped, popped_open, was, lies, has_deps, run_apart, checked, lies_checked}
use Rattle.freshness.proofs.Forms.{firsts}
use Rattle.freshness.proofs.Inv.{Records, Linked, ReadsBy, Inv, exempt, beside, seen_moves, reads_relink}
use Rattle.freshness.proofs.Clean.{φ, dep_clean, dep_moves, clean}
use Rattle.freshness.proofs.Moves.{Changed, Moves, moves_flags, moves_then, moves_wider}
use Rattle.freshness.proofs.Check.{branches, Checks, check_fine}
use Rattle.freshness.proofs.Whole.{limit, sound}
use Rattle.freshness.proofs.Gone.{frame_gone}
use Rattle.freshness.proofs.Effect.{Aside, row_of, told, rerun_fresh}

-- something that e reads is not stored fresh
pub record Stale (g : Given) (p : ℕ → Value) (s : St) (e : ℕ) : Type 0 where
  pub link : ℕ
  pub live : s.live link ≡ true
  pub to : s.sub link ≡ e
  pub reads : readable (g.kind (s.dep link)) ≡ true
  pub old : s.sto (s.dep link) ≡ φ g p (s.dep link) → ⊥

abbrev pub Due : Given → (ℕ → Value) → St → ℕ → Type 0
Due g p s e = ((s.fl e).dirty ≡ true) ⊎ Stale g p s e

-- it ran, or it did not and there was no need
pub data Ran (g : Given) (p : ℕ → Value) (ρ : Records) (e : ℕ) (s t : St) : Type 0 where
  quiet : t.log ≡ s.log → Inv g p ρ nobody nobody t → (s.gone e ≡ false → Due g p s e → ⊥) → ((m : ℕ) → m < g.size → t.gone m ≡ s.gone m) → Ran g p ρ e s t
  ran : t.log ≡ s.log ++ row_of g p e ∷ [] → Inv g p (told g p ρ e) nobody nobody t → Due g p s e → s.gone e ≡ false → ((m : ℕ) → m < g.size → owns g.owner e m ≡ false → t.gone m ≡ s.gone m) → Ran g p ρ e s t

pub record RunFresh (g : Given) (p : ℕ → Value) (ρ : Records) (e k : ℕ) (s t : St) : Type 0 where
  pub outcome : Ran g p ρ e s t
  pub moves : Moves g p (Aside g e t) nobody e k s t

-- below an effect that is neither pending nor dirty all is fresh
pub nothing_due : (g : Given) (st : Static g) (p : ℕ → Value) (ρ : Records) (s : St) → Inside g nobody s → Inv g p ρ nobody nobody s → (e : ℕ) → (s.fl e).dirty ≡ false → (s.fl e).pending ≡ false → Due g p s e → ⊥
nothing_due g st p ρ s i v e nd np (inl d) = clash d nd
nothing_due g st p ρ s i v e nd np (inr w) =
    let d = s.dep w.link in
    let l : Linked s d e = record { slot = w.link; is_live = w.live; to = refl; from = w.to } in
    w.old (clean g st p ρ nobody s i v d (i.lists.inside w.link w.live).0 (λ a x y. absurd x) w.reads
    (dep_moves g st p ρ nobody s i v d e l w.reads (λ z. z)) (dep_clean g st p ρ nobody s i v d e l w.reads (λ z. z) np))

module _ (g : Given) (st : Static g) (p : ℕ → Value) (ρ : Records) (e : ℕ) (he : e < g.size) (ke : g.kind e ≡ effect) (s : St) (q : List ℕ) (i : Inside g nobody s) (is : s.queue ≡ e ∷ q) (v : Inv g p ρ nobody nobody s) where
  abbrev s' : St
  s' = with_queue s q

  re : readable (g.kind e) ≡ false
  re = ap readable ke

  v' : Inv g p ρ (Run g st e) (Run g st e) s'
  v' = exempt g p ρ nobody (Run g st e) nobody (Run g st e) s' (λ m z. absurd z) (λ m z. absurd z) (beside g p ρ nobody nobody s v q s.depth s.log s.stuck)

  pop : Inside g (Run g st e) s'
  pop = popped g st e he ke s q i is

  other : (m : ℕ) → readable (g.kind m) ≡ true → m ≡ e → ⊥
  other m r z = clash r (ap (λ (b : ℕ). readable (g.kind b)) z ∙ re)

  -- ---- it does not run
  calmed : (s.fl e).dirty ≡ false → (s.fl e).pending ≡ false → RunFresh g p ρ e 0 s' (set_fl s' e f2)
  calmed nd np =
      let t = set_fl s' e f2 in
      let flags : (m : ℕ) → (m ≡ e → ⊥) → t.fl m ≡ s.fl m = λ m z. up_other s.fl e f2 m z in
      record {
        outcome = quiet refl (record {
          last = v.last;
          ver = v.ver;
          sig = λ m h k d. v.sig m h k (ap (λ (x : Named). x.dirty) (sym (flags m (λ z. other m (ap readable k) z))) ∙ d);
          mark = λ l lv r na un. let un' = ap unclean (sym (flags (s.dep l) (other (s.dep l) r))) ∙ un in
              either (eqb (s.sub l) e)
              (λ z. clash (subst (λ (m : ℕ). (s.fl m).pending ≡ true) (eqb-true (s.sub l) e z) (v.mark l lv r na un')) np)
              (λ z. ap (λ (x : Named). x.pending) (flags (s.sub l) (eqb-false (s.sub l) e z)) ∙ v.mark l lv r na un');
          val = λ m h k na mu d. let f = other m (ap readable k) in v.val m h k na (ap (λ (x : Named). x.mutable) (sym (flags m f)) ∙ mu) (ap (λ (x : Named). x.dirty) (sym (flags m f)) ∙ d);
          seen = λ m h k gn na d. either (eqb m e) (λ z. v.seen m h k gn na (ap (λ (b : ℕ). (s.fl b).dirty) (eqb-true m e z) ∙ nd)) (λ z. v.seen m h k gn na (ap (λ (x : Named). x.dirty) (sym (flags m (eqb-false m e z))) ∙ d));
          rec = v.rec;
        }) (λ a w. nothing_due g st p ρ s i v e nd np (again w)) (λ m h. refl);
        moves = moves_flags g p (Aside g e t) nobody e 0 s' t (λ m. inl refl) (λ m z. refl) (omega arith) (omega arith) (λ m z w. flags m (λ y. z (inr (inl y))));
      }
    where
      again : Due g p s' e → Due g p s e
      again (inl d) = inl d
      again (inr w) = inr (record { link = w.link; live = w.live; to = w.to; reads = w.reads; old = w.old })

  -- ---- its reads are checked
  module _ (a : s.gone e ≡ false) (reads : read_links g.kind s.dep (s.done e) ≡ [] → ⊥) (pd : (s.fl e).pending ≡ true) (nd : (s.fl e).dirty ≡ false) where
    abbrev K : ℕ
    K = s.size

    abbrev c : Ans
    c = check s' e

    abbrev t : St
    t = c.st

    abbrev much : ℕ
    much = in_check (fresh K) (in_fresh K) s' e

    w : Checked g st K (fresh K) (fresh_inside g st K) (Run g st e) s' e c
    w = checked g st e he ke s q i is a reads pd

    far : Low g e e → ⊥
    far z = let y = z.1 in omega arith

    not_signal : g.kind e ≡ signal → ⊥
    not_signal k = clash (ap readable k) re

    log_same : t.log ≡ s.log
    log_same = ap (λ (f : Fixed). f.log) (check_ring Still renews_still s' e).same

    module _ (ck : Checks g st p ρ (Run g st e) much s' e c) where
      to_t : (x : St) → Moves g p (Aside g e x) nobody e much s' t
      to_t x = moves_wider g p (Near g st e) (Aside g e x) nobody nobody e e much much s' t (aside x) (λ m z. z) (omega arith) (omega arith) ck.round
        where
          aside : (x : St) (m : ℕ) → Near g st e m → Aside g e x m
          aside x m (inl z) = inl (λ k. clash (ap readable z.0) (ap readable k.1))
          aside x m (inr z) = inr (inl z)

      wide : (x : St) → Frame g (Aside g e x) e s' t
      wide x = frame_wider g (Low g e) (Aside g e x) e e s' t (λ m z. inl (λ k. clash (ap readable z.0) (ap readable k.1))) (omega arith) w.frame

      reruns : c.yes ≡ true → t.cycle + in_rerun t e < limit → RunFresh g p ρ e (much + in_rerun t e) s' (rerun t e)
      reruns y fits =
          let r = rerun_fresh g st p ρ e he ke t w.inside (lies_checked g st e he ke s q i is a reads pd) (w.frame.pending e far not_signal ∙ pd)
          (exempt g p ρ (Run g st e) (Run g st e) (also (Run g st e) e) (Run g st e) t (λ m z. z) (λ m z. less m z) (ck.stale y)) fits in
          record {
            outcome = ran (r.row ∙ ap (λ (x : List Row). x ++ row_of g p e ∷ []) log_same) r.keeps (due (ck.changed y)) a
                (λ m h no. r.spares m h no ∙ frame_gone g st (Run g st e) (Run g st e) (Low g e) e s' t pop w.inside w.frame m h);
            moves = moves_then g p (Aside g e (rerun t e)) nobody e e much (in_rerun t e) s' t (rerun t e) i.lists w.inside.lists (wide (rerun t e)) (to_t (rerun t e)) r.moves;
          }
        where
          less : (m : ℕ) → also (Run g st e) e m → Run g st e m
          less m (inl z) = z
          less m (inr z) = inr z

          due : ((s.fl e).dirty ≡ true) ⊎ Changed g s' t e → Due g p s' e
          due (inl d) = clash d nd
          due (inr z) = inr (record { link = z.link; live = z.live; to = z.to; reads = z.reads; old = λ y. z.new (go y (ck.moves.moved (s.dep z.link))) })
            where
              go : s.sto (s.dep z.link) ≡ φ g p (s.dep z.link) → (t.sto (s.dep z.link) ≡ s.sto (s.dep z.link)) ⊎ ((t.sto (s.dep z.link) ≡ φ g p (s.dep z.link)) × (s.dep z.link < e)) → t.sto (s.dep z.link) ≡ s.sto (s.dep z.link)
              go y (inl x) = x
              go y (inr x) = x.0 ∙ sym y

      module _ (no : c.yes ≡ false) where
        tv : Inv g p ρ (Run g st e) (Run g st e) t
        tv = ck.same no

        -- what it reads is clean, fresh, and as it was
        dep_at : (l : ℕ) → s.live l ≡ true → s.sub l ≡ e → (t.live l ≡ true) × (t.dep l ≡ s.dep l) × (t.sub l ≡ s.sub l)
        dep_at l lv z = w.frame.links l lv (λ y. far (subst (Low g e) z y))

        in_deps : (l : ℕ) → s.live l ≡ true → s.sub l ≡ e → In l (deps s e)
        in_deps l lv z = subst (λ (m : ℕ). In l (deps s m)) z (i.lists.live_in_deps l lv)

        clean_at : (l : ℕ) → s.live l ≡ true → s.sub l ≡ e → readable (g.kind (s.dep l)) ≡ true → t.fl (s.dep l) ≡ f1
        clean_at l lv z r = ck.clean no l (in_deps l lv z) r

        same_at : (l : ℕ) → s.live l ≡ true → s.sub l ≡ e → t.sto (s.dep l) ≡ s.sto (s.dep l)
        same_at l lv z = go ((ck.calm no).touch l lv (λ y. far (subst (Low g e) z y)) (λ k. not_signal (ap g.kind (sym z) ∙ k)) (λ y. y) (subst (λ (m : ℕ). (s.fl m).pending ≡ true) (sym z) pd))
          where
            go : (t.sto (s.dep l) ≡ s.sto (s.dep l)) ⊎ ((t.fl (s.sub l)).dirty ≡ true) → t.sto (s.dep l) ≡ s.sto (s.dep l)
            go (inl y) = y
            go (inr y) = clash (subst (λ (m : ℕ). (t.fl m).dirty ≡ true) z y) (w.answer no)

        -- a link of e now was one before
        back : (l : ℕ) → t.live l ≡ true → t.sub l ≡ e → (s.live l ≡ true) × (s.sub l ≡ e) × (t.dep l ≡ s.dep l)
        back l lv z =
            let lists = w.frame.lists e far in
            let same : deps t e ≡ deps s e = ap₂ (λ (x y : List ℕ). x ++ y) lists.0 lists.1 in
            let b = i.lists.deps_live l e (subst (In l) same (subst (λ (m : ℕ). In l (deps t m)) z (w.inside.lists.live_in_deps l lv))) in
            (b.0, b.1, (dep_at l b.0 b.1).1)

        fresh_at : (l : ℕ) → s.live l ≡ true → s.sub l ≡ e → readable (g.kind (s.dep l)) ≡ true → t.sto (s.dep l) ≡ φ g p (s.dep l)
        fresh_at l lv z r =
            let f = clean_at l lv z r in
            clean g st p ρ (Run g st e) t w.inside tv (s.dep l) (i.lists.inside l lv).0 (λ m y x. above m y x) r (ap (λ (y : Named). y.mutable) f) (ap unclean f)
          where
            above : (m : ℕ) → Run g st e m → readable (g.kind m) ≡ true → s.dep l < m
            above m (inl x3) x = elim x3 [ ]
            above m (inr y) x = absurd (other m x y)

        passes : RunFresh g p ρ e (much + 0) s' (set_fl t e f2)
        passes =
            let x = set_fl t e f2 in
            let flags : (m : ℕ) → (m ≡ e → ⊥) → x.fl m ≡ t.fl m = λ m z. up_other t.fl e f2 m z in
            record {
              outcome = quiet log_same (record {
                last = tv.last;
                ver = tv.ver;
                sig = λ m h k d. tv.sig m h k (ap (λ (y : Named). y.dirty) (sym (flags m (λ z. other m (ap readable k) z))) ∙ d);
                mark = λ l lv r na un. let un' = ap unclean (sym (flags (t.dep l) (other (t.dep l) r))) ∙ un in
                    either (eqb (t.sub l) e)
                    (λ z. let b = back l lv (eqb-true (t.sub l) e z) in
                    clash un' (ap unclean (ap t.fl b.2 ∙ clean_at l b.0 b.1 (subst (λ (m : ℕ). readable (g.kind m) ≡ true) b.2 r))))
                    (λ z. let f = eqb-false (t.sub l) e z in ap (λ (y : Named). y.pending) (flags (t.sub l) f) ∙ tv.mark l lv r (off (t.sub l) f) un');
                val = λ m h k na mu d. let f = other m (ap readable k) in tv.val m h k (off m f) (ap (λ (y : Named). y.mutable) (sym (flags m f)) ∙ mu) (ap (λ (y : Named). y.dirty) (sym (flags m f)) ∙ d);
                seen = λ m h k gn na d. either (eqb m e)
                    (λ z. subst (λ (b : ℕ). ρ b ≡ readings (g.form b) t.sto) (sym (eqb-true m e z)) seen_now)
                    (λ z. let f = eqb-false m e z in tv.seen m h k gn (off m f) (ap (λ (y : Named). y.dirty) (sym (flags m f)) ∙ d));
                rec = λ m h k gn nx. either (eqb m e)
                    (λ z. subst (λ (b : ℕ). ReadsBy g.kind t.live t.dep t.sub b (firsts (ρ b))) (sym (eqb-true m e z)) rec_now)
                    (λ z. tv.rec m h k gn (off m (eqb-false m e z)));
              }) (λ z y. not_due y) (frame_gone g st (Run g st e) (Run g st e) (Low g e) e s' t pop w.inside w.frame);
              moves = moves_then g p (Aside g e x) nobody e e much 0 s' t x i.lists w.inside.lists (wide x) (to_t x)
                  (moves_flags g p (Aside g e x) nobody e 0 t x (λ m. inl refl) (λ m z. refl) (omega arith) (omega arith) (λ m z y. flags m (λ u. z (inr (inl u)))));
            }
          where
            off : (m : ℕ) → (m ≡ e → ⊥) → Run g st e m → ⊥
            off m f (inl x') = elim x' [ ]
            off m f (inr z) = f z

            not_due : Due g p s' e → ⊥
            not_due (inl d) = clash d nd
            not_due (inr z) = z.old (sym (same_at z.link z.live z.to) ∙ fresh_at z.link z.live z.to z.reads)

            seen_now : ρ e ≡ readings (g.form e) t.sto
            seen_now =
                seen_moves (g.form e) s.sto t.sto (ρ e)
                (λ m j. let l = (v.rec e he ke a (λ z. z)).all m j in subst (λ (b : ℕ). t.sto b ≡ s.sto b) l.to (same_at l.slot l.is_live l.from))
                (v.seen e he ke a (λ z. z) nd)

            rec_now : ReadsBy g.kind t.live t.dep t.sub e (firsts (ρ e))
            rec_now =
                reads_relink g.kind s.live t.live s.dep t.dep s.sub t.sub e
                (λ d l. let b = dep_at l.slot l.is_live l.from in record { slot = l.slot; is_live = b.0; to = b.1 ∙ l.to; from = b.2 ∙ l.from })
                (λ d l. let b = back l.slot l.is_live l.from in record { slot = l.slot; is_live = b.0; to = sym b.2 ∙ l.to; from = b.1 })
                (firsts (ρ e)) (v.rec e he ke a (λ z. z))

    checks : s.cycle + much < limit → Checks g st p ρ (Run g st e) much s' e c
    checks fits =
        let k = size_is g st (Run g st e) s' pop in
        check_fine g st p ρ (Run g st e) K (fresh K) (fresh_inside g st K) (in_fresh K) limit e he (omega arith) (run_above g st e he ke) (run_apart g st e he ke)
        (λ x n lt xi xo r xv f. sound g st p ρ K (Run g st e) x n xi xo (omega arith) r (λ m z y. above m z y) (omega arith) xv f) s' pop (popped_open g st e he ke s q i is) (has_deps g st e he ke s q i is a reads pd) v' fits
      where
        above : {n : ℕ} (m : ℕ) → Run g st e m → readable (g.kind m) ≡ true → n < m
        above {n = n} m (inl x'') y = elim x'' [ ]
        above m (inr z) y = absurd (other m y z)

  -- what a check leads to
  abbrev after : St
  after = elim (check s' e).yes [ true ↦ rerun (check s' e).st e | false ↦ set_fl (check s' e).st e f2 ]

  abbrev many : ℕ
  many = in_check (fresh s.size) (in_fresh s.size) s' e + (elim (check s' e).yes [ true ↦ in_rerun (check s' e).st e | false ↦ 0 ])

  pub run_fresh : s.cycle + in_run s' e < limit → RunFresh g p ρ e (in_run s' e) s' (run s' e)
  unfolding run count_run
  run_fresh =
      let P : St → ℕ → Type 0 = λ x b. s.cycle + b < limit → RunFresh g p ρ e b s' x in
      branches P (s.fl e).dirty (λ d. at_dirty d)
      (λ d. branches P (s.fl e).pending (λ y. at_pending d y) (λ y fits. calmed d y))
    where
      at_dirty : (s.fl e).dirty ≡ true → s.cycle + in_rerun s' e < limit → RunFresh g p ρ e (in_rerun s' e) s' (rerun s' e)
      at_dirty d = either (s.gone e) (λ a. clash d (ap (λ (z : Named). z.dirty) ((was g st e he ke s q i is).queued (subst (In e) (sym is) (inl refl)) a))) (λ a. go a ((was g st e he ke s q i is).of_effect ke a))
        where
          go : s.gone e ≡ false → EffectFlags e (s.fl e) s.queue (read_links g.kind s.dep (s.done e)) → s.cycle + in_rerun s' e < limit → RunFresh g p ρ e (in_rerun s' e) s' (rerun s' e)
          go a (watching x y) = clash d (ap (λ (z : Named). z.dirty) x)
          go a (pushed x y) = clash d (ap (λ (z : Named). z.dirty) x)
          go a (pending x y z) = clash d (ap (λ (z : Named). z.dirty) x)
          go a (dirty x y z) = λ fits. let r = rerun_fresh g st p ρ e he ke s' pop (lies g st e he ke s q i is a) (ap (λ (z : Named). z.pending) x) v' fits in record { outcome = ran r.row r.keeps (inl d) a r.spares; moves = r.moves }

      at_pending : (s.fl e).dirty ≡ false → (s.fl e).pending ≡ true → s.cycle + many < limit → RunFresh g p ρ e many s' after
      at_pending d y = either (s.gone e) (λ a. clash y (ap (λ (z : Named). z.pending) ((was g st e he ke s q i is).queued (subst (In e) (sym is) (inl refl)) a))) (λ a. go a ((was g st e he ke s q i is).of_effect ke a))
        where
          go : s.gone e ≡ false → EffectFlags e (s.fl e) s.queue (read_links g.kind s.dep (s.done e)) → s.cycle + many < limit → RunFresh g p ρ e many s' after
          go a (watching x z) = clash y (ap (λ (z : Named). z.pending) x)
          go a (pushed x z) = clash y (ap (λ (z : Named). z.pending) x)
          go a (pending x z u) = λ fits.
              let ck = checks a u y d (omega arith) in
              let sp = ck.moves.spent in
              branches (λ (b : St) (j : ℕ). s.cycle + (in_check (fresh s.size) (in_fresh s.size) s' e + j) < limit → RunFresh g p ρ e (in_check (fresh s.size) (in_fresh s.size) s' e + j) s' b) (check s' e).yes
              (λ o f. reruns a u y d ck o (omega arith)) (λ o f. passes a u y d ck o) fits
          go a (dirty x z u) = clash (ap (λ (z : Named). z.dirty) x) d
