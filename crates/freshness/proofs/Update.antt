-- (c) for a computed, whole: begin, evaluate, store, purge; and its first evaluation. Assumes nothing.
use mathlib.Core.Path.{◌≡◌, refl, sym, ap, ◌∙◌, subst}
use mathlib.Core.Logic.{◌⊎◌, inl, inr}
use mathlib.Core.Bool.{true, false, not}
use mathlib.Core.List.{List, [], ◌++◌, append-nil}
use Prim.Native.Nat.{ℕ, suc, ◌+◌, ◌≤◌, ◌<◌}
use native.Mathlib.Omega.{arith}
use lib.Dec.{eqb}
use lib.ListN.{length}
use borrow.Author.Tests.{eqb-true, eqb-false}
use Rattle.flags.specs.declared.Named.{Named}
use Rattle.values.specs.declared.Value.{Value}
use Rattle.values.specs.Values.{same}
use Rattle.trees.specs.Trees.{Tree, reads}
use Rattle.meaning.specs.State.{St, Kind, signal, computed, effect, scope, readable, unclean, bare, f0, f1, f5, raised, up}
use Rattle.meaning.specs.Setters.{set_fl, set_sto, with_cycle, with_done, with_rest}
use Rattle.meaning.specs.Links.{rewind, purge}
use Rattle.meaning.specs.Reads.{Ans, ans, Out, eval_by, settle_w, read_w, first_w, upd_computed}
use Rattle.meaning.specs.WellFormed.{In, read_links}
use Rattle.meaning.specs.Evaluations.{count_first}
use Rattle.freshness.specs.Evaluations.{in_formula, in_first, in_update}
use Rattle.meaning.proofs.Laws.{clash, false≢true, either, up_same, up_other, up_by}
use Rattle.meaning.proofs.Members.{nil_none}
use Rattle.meaning.proofs.Still.{Given}
use Rattle.meaning.proofs.Inside.{Set, nobody, also, only, Static, Inside, Under}
use Rattle.meaning.proofs.Dropping.{a_computed, flags_inside, rewind_inside, purge_inside}
use Rattle.meaning.proofs.Frames.{others, Low, Frame, frame_flags, was_link, Open}
use Rattle.meaning.proofs.Reading.{Above, Freshens, Near, reads_of}
use Rattle.meaning.proofs.Updating.{begin, i_stored, f_evaluated, first_ends, update_ends, form_is, wide, n_off}
use Rattle.freshness.proofs.Forms.{named}
use Rattle.freshness.proofs.Phi.{at_computed}
use Rattle.freshness.proofs.Inv.{Records, union, Linked, Inv, exempt, Evaluated, Evaluating}
use Rattle.freshness.proofs.Clean.{φ, lower}
use Rattle.freshness.proofs.Moves.{Moves, moves_flags, moves_same, moves_then, moves_wider, moves_bound}
use Rattle.freshness.proofs.Signal.{Touched, Fine, fine_as, told_changed, told_same}
use Rattle.freshness.proofs.Eval.{Went}
use Rattle.freshness.proofs.Step.{Settles, Midway, evaluated}
use Rattle.freshness.proofs.Purge.{purge_spends}
use Rattle.freshness.proofs.Computed.{computed_ends}

module _ (g : Given) (st : Static g) (p : ℕ → Value) (ρ : Records) (k : ℕ) (fr : St → ℕ → Ans) (frs : Freshens g st k fr) (c : St → ℕ → ℕ) (end : ℕ) where
  -- (a) for lower nodes
  abbrev pub Lower : Set → ℕ → Type 0
  Lower Y u = (n : ℕ) → n < u → (t : St) → Inside g Y t → Open g st Y t → Inv g p ρ Y Y t → readable (g.kind n) ≡ true → t.cycle + c t n < end → Settles g p ρ Y (c t n) t n (settle_w fr t n)

  -- ---- from s₁, where n has flags 5, on
  module _ (X : Set) (s s₁ : St) (n : ℕ) (i : Inside g X s) (o : Open g st X s) (h : n < g.size) (kn : g.kind n ≡ computed) (ab : Above g st X n) (le : n ≤ k)
      (i₁ : Inside g (also X n) s₁) (f₁ : Frame g (Low g (suc n)) n s s₁) (empty : s₁.done n ≡ []) (left : length (read_links g.kind s₁.dep (s₁.rest n)) ≤ reads_of g st n)
      (v : Inv g p ρ X (also X n) s) (v₁ : Inv g p ρ (also X n) (also X n) s₁) (start j : ℕ) (ev₁ : Evaluating s₁ n start []) (late₁ : start ≤ s₁.cycle)
      (m₁ : Moves g p (Low g (suc n)) nobody (suc n) j s s₁) (sto₁ : s₁.sto n ≡ s.sto n) (lowers : Lower (also X n) n)
      (fits : s₁.cycle + in_formula (read_w fr n) c (g.form n) s₁ < end) where
    abbrev much : ℕ
    much = in_formula (read_w fr n) c (g.form n) s₁

    abbrev out : Out
    out = eval_by (read_w fr n) (g.form n) s₁

    above : (m : ℕ) → also X n m → readable (g.kind m) ≡ true → n ≤ m
    above m (inl x) r = let a = ab m x r in omega arith
    above m (inr q) r = omega arith

    abbrev Mid : St → List ℕ → Type 0
    Mid = Midway g st p ρ k fr frs c end (also X n) n (inr refl) h above le s₁ i₁ start lowers

    goes : Went Mid (g.form n) (φ g p) [] s₁ much out
    goes = evaluated g st p ρ k fr frs c end (also X n) n (inr refl) h above le s₁ i₁ start lowers fits (record {
      base = begin g st k fr frs X s s₁ n i o h kn ab le i₁ f₁ empty left;
      inv = v₁;
      ev = ev₁;
      late = late₁;
      read = λ d x. absurd x;
      much = 0;
      moves = moves_same g p (Near g st n) nobody n s₁;
    })

    mid : Mid out.st (reads (g.form n) (φ g p))
    mid = goes.keeps

    fresh_value : out.val ≡ φ g p n
    fresh_value = goes.value ∙ sym (at_computed g.kind g.form p g.size (lower g st) n h kn)

    -- n itself keeps its stored value meanwhile
    old_value : out.st.sto n ≡ s.sto n
    old_value = go (mid.moves.moved n)
      where
        go : (out.st.sto n ≡ s₁.sto n) ⊎ ((out.st.sto n ≡ φ g p n) × (n < n)) → out.st.sto n ≡ s.sto n
        go (inl e) = e ∙ sto₁
        go (inr e) = let x = e.1 in absurd (omega arith)

    abbrev stored : St
    stored = set_fl (set_sto out.st n out.val) n f1

    to_out : Moves g p (Low g (suc n)) nobody (suc n) (j + much) s out.st
    to_out =
        moves_then g p (Low g (suc n)) nobody (suc n) n j much s s₁ out.st i.lists i₁.lists f₁ m₁
        (moves_wider g p (Near g st n) (Low g (suc n)) nobody nobody n (suc n) much much s₁ out.st near (λ m z. z) (omega arith) (omega arith) (moves_bound g p (Near g st n) nobody n much mid.much s₁ out.st goes.spent mid.moves))
      where
        near : (m : ℕ) → Near g st n m → Low g (suc n) m
        near m (inl q) = let a = q.1 in (q.0, omega arith)
        near m (inr q) = (ap g.kind q ∙ kn, omega arith)

    -- a step from the state after the evaluation that stores and leaves all else outside
    to_end : (t : St) → t.sto ≡ stored.sto → t.cycle ≡ stored.cycle → ((m : ℕ) → (Low g (suc n) m → ⊥) → (g.kind m ≡ signal → ⊥) → t.fl m ≡ stored.fl m) → Frame g (Low g (suc n)) n s out.st → Moves g p (Low g (suc n)) (only n) (suc n) (j + much) s t
    to_end t e₁ e₂ fs f =
        moves_wider g p (Low g (suc n)) (Low g (suc n)) (only n) (only n) (suc n) (suc n) (j + much + 0) (j + much) s t (λ m z. z) (λ m z. z) (omega arith) (omega arith)
        (moves_then g p (Low g (suc n)) (only n) (suc n) n (j + much) 0 s out.st t i.lists mid.base.inside.lists f
        (moves_wider g p (Low g (suc n)) (Low g (suc n)) nobody (only n) (suc n) (suc n) (j + much) (j + much) s out.st (λ m z. z) (λ m z. absurd z) (omega arith) (omega arith) to_out)
        (moves_flags g p (Low g (suc n)) (only n) (suc n) 0 out.st t
        (λ m. subst (λ (x : ℕ → Value). (x m ≡ out.st.sto m) ⊎ ((x m ≡ φ g p m) × (m < suc n))) (sym e₁)
        (up_by out.st.sto n out.val (λ (x : Value). (x ≡ out.st.sto m) ⊎ ((x ≡ φ g p m) × (m < suc n))) m (λ q. inr (fresh_value ∙ ap (φ g p) (sym q), omega arith)) (λ q. inl refl)))
        (λ m q. ap (λ (x : ℕ → Value). x m) e₁ ∙ up_other out.st.sto n out.val m q) (omega arith) (omega arith)
        (λ m a q. fs m a q ∙ up_other out.st.fl n f1 m (λ e. a (ap g.kind e ∙ kn, omega arith)))))

    f_out : Frame g (Low g (suc n)) n s out.st
    f_out = f_evaluated g st k fr frs X s s₁ n i o h kn ab le i₁ f₁ empty left

    reading : (d : ℕ) → In d (reads (g.form n) (φ g p)) → (out.st.fl d ≡ f1) × (out.st.sto d ≡ φ g p d) × (d ≡ n → ⊥)
    reading d w = let r = mid.read d w in let lt = lower g st n d h (named (g.form n) (φ g p) d w) in (r.0, r.1, λ q. omega arith)

    -- subscribers of n were pending before, and are
    pending_subs : unclean (s.fl n) ≡ true → (t : St) → Frame g (Low g (suc n)) n s t → Inside g X t → (u : ℕ) → Linked t n u → (X u → ⊥) → (t.fl u).pending ≡ true
    pending_subs un t f ti u l nx =
        let gl = ti.goes l.slot l.is_live in
        let lt : n < u = subst (λ (m : ℕ). n < m) l.from (subst (λ (m : ℕ). m < t.sub l.slot) l.to (gl.lower (subst (λ (m : ℕ). readable (g.kind m) ≡ true) (sym l.to) (ap readable kn)))) in
        let off : Low g (suc n) u → ⊥ = λ z. let a = z.1 in omega arith in
        let w = was_link g (Low g (suc n)) n s t i.lists ti.lists f l.slot u l.is_live l.from off in
        let at : s.dep l.slot ≡ n = sym w.2 ∙ l.to in
        let ns : g.kind u ≡ signal → ⊥ = λ q. gl.of_signal (ap g.kind l.from ∙ q) in
        f.pending u off ns
        ∙ subst (λ (m : ℕ). (s.fl m).pending ≡ true) w.1
        (v.mark l.slot w.0 (subst (λ (m : ℕ). readable (g.kind m) ≡ true) (sym at) (ap readable kn)) (λ z. outside (subst (also X n) w.1 z) (λ q. omega arith) nx)
        (subst (λ (m : ℕ). unclean (s.fl m) ≡ true) (sym at) un))
      where
        outside : also X n u → (u ≡ n → ⊥) → (X u → ⊥) → ⊥
        outside (inl a) f q = q a
        outside (inr a) f q = f a

    pub update_fine : unclean (s.fl n) ≡ true → Fine g p ρ X (j + much) s n (ans (purge stored n) (not (same (s.sto n) out.val)))
    update_fine un =
        let is = i_stored g st k fr frs X s s₁ n i o h kn ab le i₁ f₁ empty left in
        let pu = purge_inside g st (also X n) stored n is (inr refl) apart in
        let t = purge stored n in
        let z = purge_spends stored n in
        let fd = update_ends g st k fr frs X s s₁ n i o h kn ab le i₁ f₁ empty left (not (same (s.sto n) out.val)) (λ b e. clash un (ap unclean e)) in
        let ends = computed_ends g p ρ X out.st n h kn out.val start goes.value mid.ev reading mid.inv t is pu.inside z (pu.dropped.dep, pu.dropped.sub) pu.dropped.fate pu.spares.safe pu.done pu.rest in
        record {
          keeps = subst (λ (w : Value). Inv g p ρ X (union X (Touched t n (not (same w out.val)))) t) old_value ends;
          value = ap (λ (f : ℕ → Value). f n) z.sto ∙ up_same out.st.sto n out.val ∙ fresh_value;
          changed = told_changed (s.sto n) out.val (φ g p n) fresh_value;
          stays = λ a b. told_same (s.sto n) out.val (φ g p n) fresh_value a;
          marked = λ u w nx. pending_subs un t fd.frame fd.inside u w.1 nx;
          moves = to_end t z.sto z.cycle (λ m a q. (pu.dropped.flags m (λ y. not_low m a q y)).0) f_out;
        }
      where
        rn : readable (g.kind n) ≡ true
        rn = ap readable kn

        apart : (m : ℕ) → Under g n m × (m ≡ n → ⊥) → also X n m → ⊥
        apart m q (inl x) = either (readable (g.kind m)) (λ r. let a = ab m x r in let b = q.0.low r rn in omega arith) (λ r. clash rn (q.0.high r).0)
        apart m q (inr e) = q.1 e

        not_low : (m : ℕ) → (Low g (suc n) m → ⊥) → (g.kind m ≡ signal → ⊥) → Under g n m × (m ≡ n → ⊥) → ⊥
        not_low m a q y = by (g.kind m) refl
          where
            by : (x : Kind) → g.kind m ≡ x → ⊥
            by signal e = q e
            by computed e = let w = y.0.low (ap readable e) rn in a (e, omega arith)
            by effect e = clash rn (y.0.high (ap readable e)).0
            by scope e = clash rn (y.0.high (ap readable e)).0

    pub first_fine : s₁.rest n ≡ [] → bare (s.fl n) ≡ true → s.subs n ≡ [] → Fine g p ρ X (j + much) s n (ans stored false)
    first_fine e br none =
        let is = i_stored g st k fr frs X s s₁ n i o h kn ab le i₁ f₁ empty left in
        let fd = first_ends g st k fr frs X s s₁ n i o h kn ab le i₁ f₁ empty left e in
        let rest : out.st.rest n ≡ [] = mid.base.tail e in
        let ends = computed_ends g p ρ X out.st n h kn out.val start goes.value mid.ev reading mid.inv stored is is
        (record { sto = refl; pend = refl; ver = refl; dep = refl; sub = refl; cycle = refl; fewer = λ l a. a; gone = λ m a. a; flags = λ m. inl refl }) (refl, refl) (λ m. inl refl) (λ m q. inl (refl, refl)) refl rest in
        record {
          keeps = exempt g p ρ X X (union X (Touched stored n (not (same (out.st.sto n) out.val)))) (union X (Touched stored n false)) stored (λ m z. z) (λ m z. no_subs fd.frame m z) ends;
          value = up_same out.st.sto n out.val ∙ fresh_value;
          changed = λ a. false≢true a;
          stays = λ a b. clash br b;
          marked = λ u w. false≢true w.0;
          moves = to_end stored refl refl (λ m a q. refl) f_out;
        }
      where
        no_subs : Frame g (Low g (suc n)) n s stored → (m : ℕ) → union X (Touched stored n (not (same (out.st.sto n) out.val))) m → union X (Touched stored n false) m
        no_subs f m (inl a) = inl a
        no_subs f m (inr w) =
            let l = w.1 in
            let is = i_stored g st k fr frs X s s₁ n i o h kn ab le i₁ f₁ empty left in
            absurd (nil_none (stored.subs n) l.slot (f.subs n (λ r. omega arith) ∙ none) (subst (λ (x : ℕ). In l.slot (stored.subs x)) l.to (is.lists.live_in_subs l.slot l.is_live)))

  -- ---- at rest before
  module _ (X : Set) (s : St) (n : ℕ) (i : Inside g X s) (o : Open g st X s) (h : n < g.size) (kn : g.kind n ≡ computed) (ab : Above g st X n) (le : n ≤ k) (v : Inv g p ρ X (also X n) s) (lowers : Lower (also X n) n) where
    flags : (m : ℕ) → (m ≡ n → ⊥) → up s.fl n f5 m ≡ s.fl m
    flags m f = up_other s.fl n f5 m f

    off : (m : ℕ) → (Low g (suc n) m → ⊥) → m ≡ n → ⊥
    off m z q = z (ap g.kind q ∙ kn, omega arith)

    not_signal : (m : ℕ) → g.kind m ≡ signal → m ≡ n → ⊥
    not_signal m q e = clash (ap a_computed kn) (ap a_computed (sym (ap g.kind e) ∙ q))

    -- flags 5; the cursor may move, and the cycle be raised
    abbrev begun : ℕ → (ℕ → List ℕ) → (ℕ → List ℕ) → St
    begun cyc dn rs = set_fl (with_cycle (with_rest (with_done s dn) rs) cyc) n f5

    begun_keeps : (cyc : ℕ) (dn rs : ℕ → List ℕ) → s.cycle ≤ cyc → Inv g p ρ (also X n) (also X n) (begun cyc dn rs)
    begun_keeps cyc dn rs lt = record {
      last = v.last;
      ver = λ l lv. let a = v.ver l lv in omega arith;
      sig = λ m w q d. v.sig m w q (ap (λ (x : Named). x.dirty) (sym (flags m (not_signal m q))) ∙ d);
      mark = λ l lv rd na u. either (eqb (s.dep l) n)
          (λ e. clash u (ap unclean (ap (up s.fl n f5) (eqb-true (s.dep l) n e) ∙ up_same s.fl n f5)))
          (λ e. ap (λ (x : Named). x.pending) (flags (s.sub l) (λ q. na (inr q))) ∙ v.mark l lv rd na (ap unclean (sym (flags (s.dep l) (eqb-false (s.dep l) n e))) ∙ u));
      val = λ m w q na mu d. v.val m w q na (ap (λ (x : Named). x.mutable) (sym (flags m (λ e. na (inr e)))) ∙ mu) (ap (λ (x : Named). x.dirty) (sym (flags m (λ e. na (inr e)))) ∙ d);
      seen = λ e w q gn na d. v.seen e w q gn na (ap (λ (x : Named). x.dirty) (sym (flags e (λ z. na (inr z)))) ∙ d);
      rec = λ e w q gn nx. v.rec e w q gn (λ x. nx (inl x));
    }

    begun_moves : (cyc j : ℕ) (dn rs : ℕ → List ℕ) → s.cycle ≤ cyc → cyc ≤ s.cycle + j → Moves g p (Low g (suc n)) nobody (suc n) j s (begun cyc dn rs)
    begun_moves cyc j dn rs lt ge = moves_flags g p (Low g (suc n)) nobody (suc n) j s (begun cyc dn rs) (λ m. inl refl) (λ m q. refl) lt ge (λ m a q. flags m (off m a))

    pub updates : ((b : ℕ) → b + 1 < end → raised b ≡ b + 1) → unclean (s.fl n) ≡ true → s.cycle + in_update fr c computed s n < end → Fine g p ρ X (in_update fr c computed s n) s n (upd_computed fr s n)
    unfolding upd_computed in_update
    updates raises un =
        let b = with_cycle s (raised s.cycle) in
        let s₁ = set_fl (rewind b n) n f5 in
        let ib : Inside g (also X n) b = others g (also X n) s (wide g st k fr frs X s n i o h ab le) (raised s.cycle) s.sto s.pend s.depth s.log s.stuck in
        let i₁ : Inside g (also X n) s₁ = flags_inside g (also X n) (rewind b n) n (rewind_inside g (also X n) b n ib (inr refl)) (inr refl) f5 (λ q. refl) in
        let f₁ : Frame g (Low g (suc n)) n s s₁ = frame_flags g (Low g (suc n)) n s s₁ refl refl refl refl refl refl (λ l a h. refl)
        (λ m z. (up_other s.done n [] m (off m z), up_other s.rest n (s.done n ++ s.rest n) m (off m z)))
        (λ m z q. flags m (off m z))
        (λ m q. flags m (λ x. clash un (ap unclean (sym (ap s.fl x) ∙ q))) ∙ q) (λ m z q. refl) in
        let r = i.rests n h (n_off g st k fr frs X s n i o h ab le (ap readable kn)) in
        let all : s₁.rest n ≡ s.done n = up_same s.rest n (s.done n ++ s.rest n) ∙ ap (λ (x : List ℕ). s.done n ++ x) r.tail ∙ append-nil (s.done n) in
        let few : length (read_links g.kind s.dep (s₁.rest n)) ≤ reads_of g st n = subst (λ (x : List ℕ). length (read_links g.kind s.dep x) ≤ reads_of g st n) (sym all) r.few in
        let ev : Evaluating s₁ n (s.cycle + 1) [] =
        subst (λ (d : List ℕ). Evaluated d (s₁.rest n) s.dep s.ver (s.cycle + 1) []) (sym (up_same s.done n []))
        (record {
          covers = λ d x. absurd x;
          only = λ l x. absurd x;
          since = λ l x. absurd x;
          older = λ l x. let y = v.ver l (i.lists.deps_live l n (subst (In l) (up_same s.rest n (s.done n ++ s.rest n)) x)).0 in omega arith;
        }) in
        subst (λ (t : Tree). s.cycle + suc (in_formula (read_w fr n) c t s₁) < end
        → Fine g p ρ X (suc (in_formula (read_w fr n) c t s₁)) s n (let z = eval_by (read_w fr n) t s₁ in ans (purge (set_fl (set_sto z.st n z.val) n f1) n) (not (same (s.sto n) z.val))))
        (sym (form_is g st k fr frs X s n i o h ab le))
        (λ fits. let up_one : raised s.cycle ≡ s.cycle + 1 = raises s.cycle (omega arith) in
        fine_as (1 + in_formula (read_w fr n) c (g.form n) s₁) (suc (in_formula (read_w fr n) c (g.form n) s₁)) (omega arith)
        (update_fine X s s₁ n i o h kn ab le i₁ f₁ (up_same s.done n []) few v
        (begun_keeps (raised s.cycle) s₁.done s₁.rest (omega arith)) (s.cycle + 1) 1 ev (omega arith)
        (begun_moves (raised s.cycle) 1 s₁.done s₁.rest (omega arith) (omega arith)) refl lowers (omega arith) un))

    pub begins_fine : bare (s.fl n) ≡ true → s.fl n ≡ f0 → s.done n ≡ [] → s.rest n ≡ [] → s.subs n ≡ [] → s.cycle + in_first fr c s n < end → Fine g p ρ X (in_first fr c s n) s n (ans (first_w fr s n) false)
    unfolding first_w count_first read_links
    begins_fine br fl e e' none =
        let s₁ = set_fl s n f5 in
        let i₁ : Inside g (also X n) s₁ = flags_inside g (also X n) s n (wide g st k fr frs X s n i o h ab le) (inr refl) f5 (λ q. refl) in
        let f₁ : Frame g (Low g (suc n)) n s s₁ = frame_flags g (Low g (suc n)) n s s₁ refl refl refl refl refl refl (λ l a h. refl) (λ m z. (refl, refl))
        (λ m z q. flags m (off m z))
        (λ m q. flags m (λ x. clash (ap (λ (z : Named). z.mutable) q) (ap (λ (z : Named). z.mutable) (ap s.fl x ∙ fl))) ∙ q) (λ m z q. refl) in
        let few : length (read_links g.kind s.dep (s.rest n)) ≤ reads_of g st n = subst (λ (x : List ℕ). length (read_links g.kind s.dep x) ≤ reads_of g st n) (sym e') (omega arith) in
        let ev : Evaluating s₁ n s.cycle [] =
        subst (λ (d : List ℕ). Evaluated d (s.rest n) s.dep s.ver s.cycle []) (sym e)
        (subst (λ (r : List ℕ). Evaluated [] r s.dep s.ver s.cycle []) (sym e')
        (record { covers = λ d x. absurd x; only = λ l x. absurd x; since = λ l x. absurd x; older = λ l x. absurd x })) in
        subst (λ (t : Tree). s.cycle + suc (in_formula (read_w fr n) c t s₁) < end
        → Fine g p ρ X (suc (in_formula (read_w fr n) c t s₁)) s n (let z = eval_by (read_w fr n) t s₁ in ans (set_fl (set_sto z.st n z.val) n f1) false))
        (sym (form_is g st k fr frs X s n i o h ab le))
        (λ fits. fine_as (1 + in_formula (read_w fr n) c (g.form n) s₁) (suc (in_formula (read_w fr n) c (g.form n) s₁)) (omega arith)
        (first_fine X s s₁ n i o h kn ab le i₁ f₁ e few v
        (begun_keeps s.cycle s.done s.rest (omega arith)) s.cycle 1 ev (omega arith)
        (begun_moves s.cycle 1 s.done s.rest (omega arith) (omega arith)) refl lowers (omega arith) e' br none))
