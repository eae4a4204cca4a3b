-- V3: the induction. Bringing any node up to date keeps the clauses and leaves the fresh value; T1: so does a read. Assumes nothing.
use mathlib.Core.Path.{◌≡◌, refl, sym, ap, ap₂, ◌∙◌, subst}
use mathlib.Core.Logic.{◌⊎◌, inl, inr}
use mathlib.Core.Bool.{Bool, true, false, not, ◌||◌}
use mathlib.Core.List.{List, [], ◌++◌}
use Prim.Native.Nat.{ℕ, zero, suc, ◌+◌, ◌≤◌, ◌<◌, ◌^◌}
use native.Mathlib.Omega.{arith}
use lib.Dec.{eqb}
use borrow.Author.Tests.{eqb-true, eqb-false}
use Rattle.flags.specs.declared.Named.{Named}
use Rattle.values.specs.declared.Value.{Value}
use Rattle.meaning.specs.State.{St, Kind, signal, computed, effect, scope, readable, unclean, bare, deps, f1, f17, with_pending, raised, up}
use Rattle.meaning.specs.Setters.{set_fl}
use Rattle.meaning.specs.Reads.{Ans, ans, first_w, check_w, upd_w, pending_w, fresh_w, fresh, settle}
use Rattle.meaning.specs.WellFormed.{In, ComputedFlags, never, clean, stale, maybe, dirty}
use Rattle.meaning.specs.Evaluations.{count_fresh, count_fresh_w}
use Rattle.freshness.specs.Evaluations.{in_first, in_update, in_check, in_pending, in_fresh_w, in_fresh, in_read}
use Rattle.meaning.proofs.Laws.{clash, false≢true, either, or_last, up_same, up_other, up_by}
use Rattle.meaning.proofs.Members.{append_is_nil}
use Rattle.meaning.proofs.Still.{Given}
use Rattle.meaning.proofs.Inside.{Set, nobody, also, only, Static, Goes, Rests, Inside}
use Rattle.meaning.proofs.Dropping.{a_computed}
use Rattle.meaning.proofs.Frames.{Low, Frame, frame_wider, Open, open_frame}
use Rattle.meaning.proofs.Reading.{Above, Freshens, Near}
use Rattle.meaning.proofs.Updating.{cleared, Checked, check_inside, fresh_inside}
use Rattle.meaning.proofs.Running.{size_is, nobody_open}
use Rattle.freshness.proofs.Forms.{locally, named}
use Rattle.freshness.proofs.Phi.{at_computed}
use Rattle.freshness.proofs.Inv.{Records, union, Inv, exempt, dirty_unclean}
use Rattle.freshness.proofs.Clean.{φ, lower, clean as clean-cone}
use Rattle.freshness.proofs.Moves.{Moves, moves_flags, moves_same, moves_then, moves_wider}
use Rattle.freshness.proofs.Signal.{Touched, Fine, signal_updates}
use Rattle.freshness.proofs.Step.{Settles}
use Rattle.freshness.proofs.Update.{Lower, updates, begins_fine}
use Rattle.freshness.proofs.Check.{branches, settles_of, Checks, check_fine}

-- fewer evaluations than this, and the cycle does not wrap
abbrev pub limit : ℕ
limit = 2 ^ 64

pub raises : (b : ℕ) → b + 1 < limit → raised b ≡ b + 1
raises b h = omega arith

pending_unclean : (f : Named) → f.pending ≡ true → unclean f ≡ true
pending_unclean f e = or_last f.dirty f.pending e

-- no mark, and not bare: clean
calm : (f : Named) (links subs : List ℕ) → bare f ≡ false → f.dirty ≡ false → f.pending ≡ false → ComputedFlags f links subs → f ≡ f1
calm f links subs b d p (never x y z) = clash (ap bare x) b
calm f links subs b d p (clean x) = x
calm f links subs b d p (stale x y) = clash (ap (λ (z : Named). z.dirty) x) d
calm f links subs b d p (maybe x y) = clash (ap (λ (z : Named). z.pending) x) p
calm f links subs b d p (dirty x y) = clash (ap (λ (z : Named). z.dirty) x) d

module _ (g : Given) (st : Static g) (p : ℕ → Value) (ρ : Records) where
  abbrev pub Sounds : ℕ → Type 1
  Sounds k = (X : Set) (s : St) (n : ℕ) → Inside g X s → Open g st X s → n < g.size → readable (g.kind n) ≡ true → Above g st X n → n < k → Inv g p ρ X X s → s.cycle + in_fresh k s n < limit → Fine g p ρ X (in_fresh k s n) s n (fresh k s n)

  module _ (k : ℕ) (ih : Sounds k) (X : Set) (s : St) (n : ℕ) (i : Inside g X s) (o : Open g st X s) (h : n < g.size) (r : readable (g.kind n) ≡ true) (ab : Above g st X n) (le : n ≤ k) (v : Inv g p ρ X X s) where
    abbrev fr : St → ℕ → Ans
    fr = fresh k

    abbrev c : St → ℕ → ℕ
    c = in_fresh k

    frs : Freshens g st k fr
    frs = fresh_inside g st k

    nx : X n → ⊥
    nx x = let a = ab n x r in omega arith

    kind_is : s.kind n ≡ g.kind n
    kind_is = ap (λ (z : Given). z.kind n) i.same

    -- (a) for lower nodes
    lowers : Lower g st p ρ k fr frs c limit (also X n) n
    lowers m lt t ti to tv rm fits =
        let hm : m < g.size = omega arith in
        let abm : Above g st (also X n) m = below m lt in
        settles_of g st p ρ (also X n) k (c t m) fr frs t m ti to hm rm abm (omega arith) (ih (also X n) t m ti to hm rm abm (omega arith) tv fits)
      where
        below : (m : ℕ) → m < n → Above g st (also X n) m
        below m lt a (inl x) q = let z = ab a x q in omega arith
        below m lt a (inr e) q = omega arith

    updated : (t : St) → Inside g X t → Open g st X t → unclean (t.fl n) ≡ true → Inv g p ρ X (also X n) t → g.kind n ≡ computed → t.cycle + in_update fr c computed t n < limit → Fine g p ρ X (in_update fr c computed t n) t n (upd_w fr computed t n)
    unfolding upd_w
    updated t ti to un tv kn fits = updates g st p ρ k fr frs c limit X t n ti to h kn ab le tv lowers raises un fits

    when_dirty : (s.fl n).dirty ≡ true → (x : Kind) → g.kind n ≡ x → s.cycle + in_update fr c x s n < limit → Fine g p ρ X (in_update fr c x s n) s n (upd_w fr x s n)
    unfolding upd_w in_update
    when_dirty d signal e fits = signal_updates g st p ρ X s n i v h e d
    when_dirty d computed e fits = updated s i o (dirty_unclean (s.fl n) d) (exempt g p ρ X X X (also X n) s (λ m z. z) (λ m z. inl z) v) e fits
    when_dirty d effect e fits = clash r (ap readable e)
    when_dirty d scope e fits = clash r (ap readable e)

    when_clean : s.fl n ≡ f1 → Fine g p ρ X 0 s n (ans s false)
    when_clean e =
        let fresh_now = clean-cone g st p ρ X s i v n h ab r (ap (λ (f : Named). f.mutable) e) (ap unclean e) in
        record {
          keeps = exempt g p ρ X X X (union X (Touched s n false)) s (λ m z. z) (λ m z. inl z) v;
          value = fresh_now;
          changed = λ q. false≢true q;
          stays = λ q b. fresh_now;
          marked = λ u w. false≢true w.0;
          moves = moves_same g p (Low g (suc n)) (only n) (suc n) s;
        }

    module _ (kn : g.kind n ≡ computed) (pd : (s.fl n).pending ≡ true) (ne : deps s n ≡ [] → ⊥) where
      above : (m : ℕ) → X m → readable (g.kind m) ≡ true → n ≤ m
      above m x q = let a = ab m x q in omega arith

      apart : (d : ℕ) → d < g.size → Goes g d n → X d → ⊥
      apart d hd gd x = let q = gd.of_computed kn in let a = gd.lower q in let b = ab d x q in omega arith

      abbrev a : Ans
      a = check_w fr s n

      abbrev t : St
      t = a.st

      w : Checked g st k fr frs X s n a
      w = check_inside g st k fr frs X n h le above apart s i o ne

      n_far : Low g n n → ⊥
      n_far z = let y = z.1 in omega arith

      not_signal : g.kind n ≡ signal → ⊥
      not_signal q = clash (ap a_computed kn) (ap a_computed q)

      module _ (ck : Checks g st p ρ X (in_check fr c s n) s n a) where
        still : (t.fl n).pending ≡ true
        still = w.frame.pending n n_far not_signal ∙ pd

        opened : Open g st X t
        opened = open_frame g st X (Low g n) n s t i w.inside w.frame (λ m x z. let b = ab m x (ap readable z.0) in let d = z.1 in omega arith) o

        -- the check leaves the value of n alone
        same_value : t.sto n ≡ s.sto n
        same_value = go (ck.moves.moved n)
          where
            go : (t.sto n ≡ s.sto n) ⊎ ((t.sto n ≡ φ g p n) × (n < n)) → t.sto n ≡ s.sto n
            go (inl e) = e
            go (inr e) = let x = e.1 in absurd (omega arith)

        low : (m : ℕ) → Near g st n m → Low g (suc n) m
        low m (inl z) = let y = z.1 in (z.0, omega arith)
        low m (inr q) = (ap g.kind q ∙ kn, omega arith)

        wide : Frame g (Low g (suc n)) n s t
        wide = frame_wider g (Low g n) (Low g (suc n)) n n s t (λ m z. low m (inl z)) (omega arith) w.frame

        checked : Moves g p (Low g (suc n)) (only n) (suc n) (in_check fr c s n) s t
        checked = moves_wider g p (Near g st n) (Low g (suc n)) nobody (only n) n (suc n) (in_check fr c s n) (in_check fr c s n) s t low (λ m z. absurd z) (omega arith) (omega arith) ck.round

        not_bare : (f : Named) → f.pending ≡ true → bare f ≡ false
        not_bare f e = ap (λ (b : Bool). bare (record { mutable = f.mutable; watching = f.watching; recursed_check = f.recursed_check; recursed = f.recursed; dirty = f.dirty; pending = b })) e ∙ last f.mutable f.watching f.recursed_check f.recursed f.dirty
          where
            last : (a b c d e : Bool) → not (a || (b || (c || (d || (e || true))))) ≡ false
            last true b c d e = refl
            last false true c d e = refl
            last false false true d e = refl
            last false false false true e = refl
            last false false false false true = refl
            last false false false false false = refl

        -- the update that follows, seen from before the check
        from_before : (j : ℕ) (x : Ans) → Fine g p ρ X j t n x → Fine g p ρ X (in_check fr c s n + j) s n x
        from_before j x f = record {
          keeps = f.keeps;
          value = f.value;
          changed = λ y q. f.changed y (same_value ∙ q);
          stays = λ y b. sym same_value ∙ f.stays y (not_bare (t.fl n) still);
          marked = f.marked;
          moves = moves_then g p (Low g (suc n)) (only n) (suc n) n (in_check fr c s n) j s t x.st i.lists w.inside.lists wide checked f.moves;
        }

        module _ (no : a.yes ≡ false) where
          tv : Inv g p ρ X X t
          tv = ck.same no

          gone_flag : with_pending (t.fl n) false ≡ f1
          gone_flag = cleared (t.fl n) (t.done n) (t.subs n) still (w.answer no) ((w.inside.rests n h nx).of_computed kn)

          -- what n reads is clean
          clean_dep : (l : ℕ) → t.live l ≡ true → t.sub l ≡ n → readable (g.kind (t.dep l)) ≡ true → t.fl (t.dep l) ≡ f1
          clean_dep l lv e q =
              let lists = w.frame.lists n n_far in
              let same : deps t n ≡ deps s n = ap₂ (λ (x y : List ℕ). x ++ y) lists.0 lists.1 in
              let j : In l (deps s n) = subst (In l) same (subst (λ (m : ℕ). In l (deps t m)) e (w.inside.lists.live_in_deps l lv)) in
              let was = i.lists.deps_live l n j in
              let at : t.dep l ≡ s.dep l = (w.frame.links l was.0 (λ z. n_far (subst (Low g n) was.1 z))).1 in
              subst (λ (m : ℕ). t.fl m ≡ f1) (sym at) (ck.clean no l j (subst (λ (m : ℕ). readable (g.kind m) ≡ true) at q))

          fresh_now : t.sto n ≡ φ g p n
          fresh_now =
              let right = tv.val n h kn nx (ap (λ (f : Named). f.mutable) gone_flag) (w.answer no) in
              right.value ∙ (locally (g.form n) t.sto (φ g p)
              (λ m q.
              let l = right.reads.all m q in
              let lo = st.names_lower n m h (named (g.form n) t.sto m q) in
              let lt = lo.1 in
              let fl : t.fl m ≡ f1 = subst (λ (x : ℕ). t.fl x ≡ f1) l.to (clean_dep l.slot l.is_live l.from (subst (λ (x : ℕ). readable (g.kind x) ≡ true) (sym l.to) lo.0)) in
              clean-cone g st p ρ X t w.inside tv m (omega arith) (λ b x y. let z = ab b x y in omega arith) lo.0 (ap (λ (f : Named). f.mutable) fl) (ap unclean fl))).0
              ∙ sym (at_computed g.kind g.form p g.size (lower g st) n h kn)

          abbrev f' : Named
          f' = with_pending (t.fl n) false

          flags : (m : ℕ) → (m ≡ n → ⊥) → up t.fl n f' m ≡ t.fl m
          flags m f = up_other t.fl n f' m f

          -- any bit but PENDING is as it was
          bit : (π : Named → Bool) → π f' ≡ π (t.fl n) → (m : ℕ) → π (up t.fl n f' m) ≡ π (t.fl m)
          bit π e m = up_by t.fl n f' (λ (x : Named). π x ≡ π (t.fl m)) m (λ q. e ∙ ap (λ (x : ℕ). π (t.fl x)) (sym q)) (λ q. refl)

          passed_keeps : Inv g p ρ X X (set_fl t n f')
          passed_keeps = record {
            last = tv.last;
            ver = tv.ver;
            sig = λ m l q d. tv.sig m l q (sym (bit (λ (f : Named). f.dirty) refl m) ∙ d);
            mark = λ l lv q na u. either (eqb (t.dep l) n)
                (λ e. clash u (ap unclean (ap (up t.fl n f') (eqb-true (t.dep l) n e) ∙ up_same t.fl n f' ∙ gone_flag)))
                (λ e. let un = ap unclean (sym (flags (t.dep l) (eqb-false (t.dep l) n e))) ∙ u in
                either (eqb (t.sub l) n)
                (λ f. clash un (ap unclean (clean_dep l lv (eqb-true (t.sub l) n f) q)))
                (λ f. ap (λ (x : Named). x.pending) (flags (t.sub l) (eqb-false (t.sub l) n f)) ∙ tv.mark l lv q na un));
            val = λ m l q na mu d. tv.val m l q na (sym (bit (λ (f : Named). f.mutable) refl m) ∙ mu) (sym (bit (λ (f : Named). f.dirty) refl m) ∙ d);
            seen = λ e l q gn na d. tv.seen e l q gn na (sym (bit (λ (f : Named). f.dirty) refl e) ∙ d);
            rec = tv.rec;
          }

          passed_fine : Fine g p ρ X (in_check fr c s n + 0) s n (ans (set_fl t n f') false)
          passed_fine = record {
            keeps = exempt g p ρ X X X (union X (Touched (set_fl t n f') n false)) (set_fl t n f') (λ m z. z) (λ m z. inl z) passed_keeps;
            value = fresh_now;
            changed = λ q. false≢true q;
            stays = λ q b. sym same_value ∙ fresh_now;
            marked = λ u y. false≢true y.0;
            moves = moves_then g p (Low g (suc n)) (only n) (suc n) n (in_check fr c s n) 0 s t (set_fl t n f') i.lists w.inside.lists wide checked
                (moves_flags g p (Low g (suc n)) (only n) (suc n) 0 t (set_fl t n f') (λ m. inl refl) (λ m q. refl) (omega arith) (omega arith)
                (λ m y q. flags m (λ e. y (ap g.kind e ∙ kn, omega arith))));
          }

      when_pending : s.cycle + in_pending fr c s n < limit → Fine g p ρ X (in_pending fr c s n) s n (pending_w fr s n)
      unfolding pending_w in_pending
      when_pending =
          let b : ℕ = elim a.yes [ true ↦ in_update fr c (s.kind n) a.st n | false ↦ 0 ] in
          λ fits.
          let ck = check_fine g st p ρ X k fr frs c limit n h le above apart (λ t' m lt ti to rm tv q. ih X t' m ti to (omega arith) rm (λ x y z. let u = ab x y z in omega arith) (omega arith) tv q) s i o ne v (omega arith) in
          let sp = ck.moves.spent in
          branches (λ (x : Ans) (j : ℕ). s.cycle + (in_check fr c s n + j) < limit → Fine g p ρ X (in_check fr c s n + j) s n x) a.yes
          (λ y q. from_before ck _ _ (at_kind (s.kind n) (kind_is ∙ kn)
          (updated t w.inside (opened ck) (pending_unclean (t.fl n) (still ck)) (ck.stale y) kn) (omega arith)))
          (λ y q. passed_fine ck y) fits
        where
          at_kind : (x : Kind) → x ≡ computed → (t.cycle + in_update fr c computed t n < limit → Fine g p ρ X (in_update fr c computed t n) t n (upd_w fr computed t n)) → t.cycle + in_update fr c x t n < limit → Fine g p ρ X (in_update fr c x t n) t n (upd_w fr x t n)
          at_kind x q f = subst (λ (z : Kind). t.cycle + in_update fr c z t n < limit → Fine g p ρ X (in_update fr c z t n) t n (upd_w fr z t n)) (sym q) f

    resting : Rests g s n
    resting = i.rests n h nx

    signal_flags_lem : (s.fl n ≡ f1) ⊎ (s.fl n ≡ f17) → (bare (s.fl n) ≡ false) × ((s.fl n).pending ≡ false) × ((s.fl n).dirty ≡ false → s.fl n ≡ f1)
    signal_flags_lem (inl e) = (ap bare e, ap (λ (z : Named). z.pending) e, λ q. e)
    signal_flags_lem (inr e) = (ap bare e, ap (λ (z : Named). z.pending) e, λ q. clash (ap (λ (z : Named). z.dirty) e) q)

    one : s.cycle + in_fresh_w fr c s n < limit → Fine g p ρ X (in_fresh_w fr c s n) s n (fresh_w fr s n)
    unfolding fresh_w count_fresh_w
    one =
        let P : Ans → ℕ → Type 0 = λ x j. s.cycle + j < limit → Fine g p ρ X j s n x in
        branches P (bare (s.fl n)) (λ b. by_bare b (g.kind n) refl)
        (λ b. branches P (s.fl n).dirty (λ d. when_dirty d (s.kind n) (sym kind_is))
        (λ d. branches P (s.fl n).pending (λ q. by_pending q (g.kind n) refl) (λ q fits. when_clean (by_clean b d q (g.kind n) refl))))
      where
        by_bare : bare (s.fl n) ≡ true → (x : Kind) → g.kind n ≡ x → s.cycle + in_first fr c s n < limit → Fine g p ρ X (in_first fr c s n) s n (ans (first_w fr s n) false)
        by_bare b signal e = clash b (signal_flags_lem (resting.of_signal e)).0
        by_bare b computed e = go (resting.of_computed e)
          where
            go : ComputedFlags (s.fl n) (s.done n) (s.subs n) → s.cycle + in_first fr c s n < limit → Fine g p ρ X (in_first fr c s n) s n (ans (first_w fr s n) false)
            go (never x y z) = begins_fine g st p ρ k fr frs c limit X s n i o h e ab le (exempt g p ρ X X X (also X n) s (λ m q. q) (λ m q. inl q) v) lowers b x y resting.tail z
            go (clean x) = clash b (ap bare x)
            go (stale x y) = clash b (ap bare x)
            go (maybe x y) = clash b (ap bare x)
            go (dirty x y) = clash b (ap bare x)
        by_bare b effect e = clash r (ap readable e)
        by_bare b scope e = clash r (ap readable e)

        by_pending : (s.fl n).pending ≡ true → (x : Kind) → g.kind n ≡ x → s.cycle + in_pending fr c s n < limit → Fine g p ρ X (in_pending fr c s n) s n (pending_w fr s n)
        by_pending q signal e = clash q (signal_flags_lem (resting.of_signal e)).1
        by_pending q computed e = when_pending e q (λ z. go (append_is_nil (s.done n) (s.rest n) z).0 (resting.of_computed e))
          where
            go : s.done n ≡ [] → ComputedFlags (s.fl n) (s.done n) (s.subs n) → ⊥
            go z (never x y u) = clash q (ap (λ (f : Named). f.pending) x)
            go z (clean x) = clash q (ap (λ (f : Named). f.pending) x)
            go z (stale x y) = clash q (ap (λ (f : Named). f.pending) x)
            go z (maybe x y) = y z
            go z (dirty x y) = y z
        by_pending q effect e = clash r (ap readable e)
        by_pending q scope e = clash r (ap readable e)

        by_clean : bare (s.fl n) ≡ false → (s.fl n).dirty ≡ false → (s.fl n).pending ≡ false → (x : Kind) → g.kind n ≡ x → s.fl n ≡ f1
        by_clean b d q signal e = (signal_flags_lem (resting.of_signal e)).2 d
        by_clean b d q computed e = calm (s.fl n) (s.done n) (s.subs n) b d q (resting.of_computed e)
        by_clean b d q effect e = clash r (ap readable e)
        by_clean b d q scope e = clash r (ap readable e)

  -- (c'), for every node and any bound above its number
  pub sound : (k : ℕ) → Sounds k
  unfolding fresh count_fresh
  sound zero X s n i o h r ab lt v fits = absurd (omega arith)
  sound (suc k) X s n i o h r ab lt v fits = one k (sound k) X s n i o h r ab (omega arith) v fits

  -- T1: a read at rest gives the fresh value, and keeps the clauses
  pub read_fresh : (s : St) (n : ℕ) → Inside g nobody s → n < g.size → readable (g.kind n) ≡ true → Inv g p ρ nobody nobody s → s.cycle + in_read s n < limit → Settles g p ρ nobody (in_read s n) s n (settle s n)
  read_fresh s n i h r v fits =
      let e = size_is g st nobody s i in
      let k = s.size in
      settles_of g st p ρ nobody k (in_read s n) (fresh k) (fresh_inside g st k) s n i (nobody_open g st s) h r (λ m x q. absurd x) (omega arith)
      (sound k nobody s n i (nobody_open g st s) h r (λ m x q. absurd x) (omega arith) v fits)
