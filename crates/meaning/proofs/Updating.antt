-- The second ring inside an operation: first evaluation, update, dirty check and read keep well-formedness and are not stuck. Assumes nothing.
use mathlib.Core.Path.{◌≡◌, refl, sym, ap, ap₂, ◌∙◌, subst}
use mathlib.Core.Logic.{◌⊎◌, inl, inr}
use mathlib.Core.Bool.{Bool, true, false, not, ◌&&◌}
use mathlib.Core.List.{List, [], ◌∷◌, ◌++◌, append-nil, append_assoc}
use Prim.Native.Nat.{ℕ, zero, suc, ◌+◌, ◌≤◌, ◌<◌}
use native.Mathlib.Omega.{arith}
use lib.Dec.{eqb}
use lib.ListN.{length}
use borrow.Author.Tests.{eq-eqb, eqb-true, eqb-false}
use Rattle.flags.specs.declared.Named.{Named}
use Rattle.values.specs.Values.{same}
use Rattle.trees.specs.Trees.{Tree}
use Rattle.meaning.specs.State.{St, Kind, signal, computed, effect, scope, readable, rank, deps, bare, f0, f1, f5, f17, with_pending, raised, up}
use Rattle.meaning.specs.Setters.{set_fl, set_sto, with_cycle}
use Rattle.meaning.specs.Links.{is_nil, several, rewind, purge}
use Rattle.meaning.specs.Marks.{shallow}
use Rattle.meaning.specs.Reads.{Ans, ans, Out, eval_by, read_w, first_w, upd_computed, upd_signal, upd_w, same_slots, steady, check_on, check_w, pending_w, fresh_w, fresh}
use Rattle.meaning.specs.WellFormed.{In, read_links, ComputedFlags, never, clean, stale, maybe, dirty}
use Rattle.meaning.proofs.Laws.{clash, false≢true, either, branch, provided_same, up_same, up_other, up_by, in_left, in_right, in_cases}
use Rattle.meaning.proofs.Members.{nil_none, is_nil-true, append_is_nil, reads_few}
use Rattle.meaning.proofs.Still.{Given}
use Rattle.meaning.proofs.Inside.{Set, also, Static, Goes, Rests, Inside, widen, let_out, read_moves, moves_read, Under}
use Rattle.meaning.proofs.Dropping.{a_computed, flags_inside, rewind_inside, purge_inside}
use Rattle.meaning.proofs.Room.{owner_links, spends, Paid}
use Rattle.meaning.proofs.Frames.{others, Low, Soiled, Frame, frame_flags, frame_same, frame_then, frame_wider, paid_frame, Open, open_frame, rests_clean, purge_sto, purge_frame}
use Rattle.meaning.proofs.Soiling.{shallow_inside, shallow_frame}
use Rattle.meaning.proofs.Reading.{Above, Freshened, Freshens, Near, reads_of, During, eval_during}

-- ---- a list is what it is
same_slots_lem : (xs : List ℕ) → same_slots xs xs ≡ true
unfolding same_slots
same_slots_lem [] = refl
same_slots_lem (x ∷ xs) = rw (eq-eqb x x refl, same_slots, same_slots_lem xs)

pub steady_same : (was : List ℕ) (t : St) (d : ℕ) → t.subs d ≡ was → (was ≡ [] → ⊥) → steady was t d ≡ t
unfolding steady
steady_same was t d e h =
    provided_same _ t (both (subst (λ (z : List ℕ). same_slots was z ≡ true) (sym e) (same_slots_lem was)) (full was h))
  where
    both : {a b : Bool} → a ≡ true → b ≡ true → (a && b) ≡ true
    both p q = ap₂ (λ (x y : Bool). x && y) p q

    full : (xs : List ℕ) → (xs ≡ [] → ⊥) → not (is_nil xs) ≡ true
    full [] k = absurd (k refl)
    full (x ∷ xs) k = refl

-- a computed that is pending and not dirty, without PENDING
pub cleared : (f : Named) (links subs : List ℕ) → f.pending ≡ true → f.dirty ≡ false → ComputedFlags f links subs → with_pending f false ≡ f1
cleared f links subs p q (never e x y) = clash p (ap (λ (z : Named). z.pending) e)
cleared f links subs p q (clean e) = clash p (ap (λ (z : Named). z.pending) e)
cleared f links subs p q (stale e x) = clash p (ap (λ (z : Named). z.pending) e)
cleared f links subs p q (maybe e x) = ap (λ (z : Named). with_pending z false) e
cleared f links subs p q (dirty e x) = clash (ap (λ (z : Named). z.dirty) e) q

module _ (g : Given) (st : Static g) where
  also_known : (X : Set) (n : ℕ) → ((m : ℕ) → X m ⊎ (X m → ⊥)) → (m : ℕ) → also X n m ⊎ (also X n m → ⊥)
  also_known X n k m = either (eqb m n) (λ e. inl (inr (eqb-true m n e))) (λ e. go (eqb-false m n e) (k m))
    where
      go : (m ≡ n → ⊥) → X m ⊎ (X m → ⊥) → also X n m ⊎ (also X n m → ⊥)
      go e (inl x) = inl (inl x)
      go e (inr f) = inr (neither e f)
        where
          neither : (m ≡ n → ⊥) → (X m → ⊥) → also X n m → ⊥
          neither e f (inl x) = f x
          neither e f (inr q) = e q

  -- ---- a computed n below X
  module _ (X : Set) (n : ℕ) (kn : g.kind n ≡ computed) (ab : Above g st X n) where
    pub also_above : (m : ℕ) → also X n m → readable (g.kind m) ≡ true → rank n ≤ rank m
    also_above m (inl x) r = let a = ab m x r in omega arith
    also_above m (inr q) r = omega arith

    -- what a purge of n may come to
    pub purge_apart : (m : ℕ) → Under g n m × (m ≡ n → ⊥) → also X n m → ⊥
    purge_apart m p (inl x) = let rn = ap readable kn in either (readable (g.kind m)) (λ r. let a = ab m x r in let b = p.0.low r rn in omega arith) (λ r. clash rn (p.0.high r).0)
    purge_apart m p (inr q) = p.1 q

    -- what a check of n asks
    pub check_apart : (d : ℕ) → d < g.size → Goes g d n → X d → ⊥
    check_apart d hd gd x = let q = gd.of_computed kn in let a = gd.lower q in let b = ab d x q in omega arith

  module _ (k : ℕ) (fr : St → ℕ → Ans) (frs : Freshens g st k fr) where
    -- ---- the evaluation of a computed n, from s where it is at rest, with its flags 5 in s₁, to where its value is in
    module _ (X : Set) (s s₁ : St) (n : ℕ) (i : Inside g X s) (o : Open g st X s) (h : n < g.size) (kn : g.kind n ≡ computed) (ab : Above g st X n) (le : rank n ≤ k)
        (i₁ : Inside g (also X n) s₁) (f₁ : Frame g (Low g (suc (rank n))) (rank n) s s₁) (empty : s₁.done n ≡ []) (left : length (read_links g.kind s₁.dep (s₁.rest n)) ≤ reads_of g st n) where
      rn : readable (g.kind n) ≡ true
      rn = ap readable kn

      far : (m : ℕ) → X m → Low g (suc (rank n)) m → ⊥
      far m x p = let a = ab m x (ap readable p.0) in let b = p.1 in omega arith

      pub begin : During g st (also X n) n s₁ 0 s₁
      begin =
          let z = ap length empty in
          record {
            inside = i₁;
            frame = frame_same g (Near g st n) n s₁;
            few = omega arith;
            reads = λ l j. absurd (nil_none (s₁.done n) l empty j);
            left = left;
            spare = spare (g.kind n) refl kn;
            tail = λ q. q;
            calm = λ q. refl;
            sto = refl;
            known = also_known X n o.known;
            pays = λ m l x q. pays m l q x;
          }
        where
          spare : (c : Kind) → g.kind n ≡ c → g.kind n ≡ computed → length (owner_links (g.kind n) (s₁.subs n)) + (reads_of g st n + reads_of g st n) ≤ spends g s₁ n
          spare signal e q = clash (ap a_computed q) (ap a_computed e)
          spare computed e q = rw (e) (omega arith)
          spare effect e q = clash (ap readable q) (ap readable e)
          spare scope e q = clash (ap readable q) (ap readable e)

          pays : (m : ℕ) → m < g.size → (m ≡ n → ⊥) → also X n m → Paid g s₁ m
          pays m l q (inl x) = paid_frame g st (also X n) (Low g (suc (rank n))) n s s₁ m (widen g X (also X n) s (λ y z. inl z) i) i₁ f₁ l (far m x) (o.pays m l x)
          pays m l q (inr e) = absurd (q e)

      abbrev out : Out
      out = eval_by (read_w fr n) (g.form n) s₁

      went : During g st (also X n) n s₁ (reads_of g st n) out.st
      went =
          let e : 0 + reads_of g st n ≡ reads_of g st n = omega arith in
          subst (λ (j : ℕ). During g st (also X n) n s₁ j out.st) e (eval_during g st (also X n) n (inr refl) h (also_above X n kn ab) s₁ i₁ k fr frs le (g.form n) (λ m z. z) 0 s₁ (omega arith) begin)

      abbrev stored : St
      stored = set_fl (set_sto out.st n out.val) n f1

      pub i_stored : Inside g (also X n) stored
      i_stored = flags_inside g (also X n) (set_sto out.st n out.val) n (others g (also X n) out.st went.inside out.st.cycle (up out.st.sto n out.val) out.st.pend out.st.depth out.st.log out.st.stuck) (inr refl) f1 (λ q. refl)

      pub f_evaluated : Frame g (Low g (suc (rank n))) (rank n) s out.st
      f_evaluated = frame_then g (Low g (suc (rank n))) n s s₁ out.st i.lists i₁.lists f₁ (frame_wider g (Near g st n) (Low g (suc (rank n))) n n s₁ out.st near (omega arith) went.frame)
        where
          near : (m : ℕ) → Near g st n m → Low g (suc (rank n)) m
          near m (inl p) = let a = p.1 in (p.0, omega arith)
          near m (inr q) = (ap g.kind q ∙ kn, omega arith)

      f_stored : Frame g (Low g (suc n)) n s stored
      f_stored =
          let b : Frame g (Low g (suc n)) n out.st stored = frame_flags g (Low g (suc n)) n out.st stored refl refl refl refl refl refl (λ l a h. refl) (λ m z. (refl, refl))
          (λ m z q. up_other out.st.fl n f1 m (λ e. z (ap g.kind e ∙ kn, omega arith))) (λ m q. up_by out.st.fl n f1 (λ (x : Named). x ≡ f1) m (λ e. refl) (λ e. q))
          (λ m z q. up_other out.st.sto n out.val m (λ e. z (ap g.kind e ∙ kn, omega arith))) in
          frame_then g (Low g (suc n)) n s out.st stored i.lists went.inside.lists f_evaluated b

      few_stored : length (read_links g.kind stored.dep (stored.done n)) ≤ reads_of g st n
      few_stored = let a = reads_few g.kind stored.dep (stored.done n) in let b = went.few in omega arith

      -- a first evaluation has nothing to purge
      pub first_ends : s₁.rest n ≡ [] → Freshened g st X s n (ans stored false)
      first_ends e = record {
        inside = let_out g X stored n i_stored
            (rests_clean g st stored.queue stored.dep stored.sub n (stored.fl n) (stored.gone n) (stored.done n) (stored.rest n) (stored.subs n) h rn
            (up_same out.st.fl n f1) (i_stored.gone_kind n h rn) (went.tail e) few_stored);
        frame = f_stored;
        clean = up_same out.st.fl n f1;
        changed = λ q. false≢true q;
      }

      pub update_ends : (b : Bool) → (b ≡ true → s.fl n ≡ f1 → ⊥) → Freshened g st X s n (ans (purge stored n) b)
      update_ends b ch =
          let p = purge_inside g st (also X n) stored n i_stored (inr refl) (purge_apart X n kn ab) in
          let t = purge stored n in
          let outside : Under g n n × (n ≡ n → ⊥) → ⊥ = λ z. z.1 refl in
          let flag : t.fl n ≡ f1 = (p.dropped.flags n outside).0 ∙ up_same out.st.fl n f1 in
          let a = ap (λ (x : List ℕ). length x) p.done in
          let b = reads_few g.kind t.dep (t.done n) in
          let c = went.few in
          record {
            inside = let_out g X t n p.inside (rests_clean g st t.queue t.dep t.sub n (t.fl n) (t.gone n) (t.done n) (t.rest n) (t.subs n) h rn flag (p.inside.gone_kind n h rn) p.rest (omega arith));
            frame = frame_then g (Low g (suc (rank n))) n s stored t i.lists i_stored.lists f_stored (purge_frame g st (also X n) stored t n i_stored h kn p (purge_sto stored n));
            clean = flag;
            changed = ch;
          }

    module _ (X : Set) (s : St) (n : ℕ) (i : Inside g X s) (o : Open g st X s) (h : n < g.size) (ab : Above g st X n) (le : rank n ≤ k) where
      pub form_is : s.form n ≡ g.form n
      form_is = ap (λ (z : Given). z.form n) i.same

      pub wide : Inside g (also X n) s
      wide = widen g X (also X n) s (λ m x. inl x) i

      -- at rest, a node that can be read is outside X
      pub n_off : readable (g.kind n) ≡ true → X n → ⊥
      n_off r x = let a = ab n x r in omega arith

      -- ---- before a first evaluation
      abbrev pub begun_at_first : St
      begun_at_first = set_fl s n f5

      i_first : Inside g (also X n) begun_at_first
      i_first = flags_inside g (also X n) s n wide (inr refl) f5 (λ q. refl)

      f_first : g.kind n ≡ computed → s.fl n ≡ f0 → Frame g (Low g (suc (rank n))) (rank n) s begun_at_first
      f_first kn fl = frame_flags g (Low g (suc (rank n))) n s begun_at_first refl refl refl refl refl refl (λ l a h. refl) (λ m z. (refl, refl))
          (λ m z q. up_other s.fl n f5 m (λ x. z (ap g.kind x ∙ kn, omega arith)))
          (λ m q. up_other s.fl n f5 m (λ x. clash (ap (λ (z : Named). z.mutable) q) (ap (λ (z : Named). z.mutable) (ap s.fl x ∙ fl))) ∙ q)
          (λ m z q. refl)

      few_first : s.rest n ≡ [] → length (read_links g.kind s.dep (s.rest n)) ≤ reads_of g st n
      unfolding read_links
      few_first e = subst (λ (x : List ℕ). length (read_links g.kind s.dep x) ≤ reads_of g st n) (sym e) (omega arith)

      pub first_begins : g.kind n ≡ computed → s.fl n ≡ f0 → s.done n ≡ [] → s.rest n ≡ [] → During g st (also X n) n begun_at_first 0 begun_at_first
      first_begins kn fl e e' = begin X s begun_at_first n i o h kn ab le i_first (f_first kn fl) e (few_first e')

      first_inside : g.kind n ≡ computed → s.fl n ≡ f0 → s.done n ≡ [] → s.rest n ≡ [] → Freshened g st X s n (ans (first_w fr s n) false)
      unfolding first_w
      first_inside kn fl e e' =
          subst (λ (t : Tree). Freshened g st X s n (let z = eval_by (read_w fr n) t begun_at_first in ans (set_fl (set_sto z.st n z.val) n f1) false)) (sym form_is)
          (first_ends X s begun_at_first n i o h kn ab le i_first (f_first kn fl) e (few_first e') e')

      -- ---- before a re-evaluation
      abbrev pub begun_update : St
      begun_update = set_fl (rewind (with_cycle s (raised s.cycle)) n) n f5

      i_begun : Inside g (also X n) begun_update
      i_begun =
          let c = with_cycle s (raised s.cycle) in
          let ic : Inside g (also X n) c = others g (also X n) s wide (raised s.cycle) s.sto s.pend s.depth s.log s.stuck in
          flags_inside g (also X n) (rewind c n) n (rewind_inside g (also X n) c n ic (inr refl)) (inr refl) f5 (λ q. refl)

      f_begun : g.kind n ≡ computed → (s.fl n ≡ f1 → ⊥) → Frame g (Low g (suc (rank n))) (rank n) s begun_update
      f_begun kn un =
          let off : (m : ℕ) → (Low g (suc (rank n)) m → ⊥) → m ≡ n → ⊥ = λ m z x. z (ap g.kind x ∙ kn, omega arith) in
          frame_flags g (Low g (suc (rank n))) n s begun_update refl refl refl refl refl refl (λ l a h. refl)
          (λ m z. (up_other s.done n [] m (off m z), up_other s.rest n (s.done n ++ s.rest n) m (off m z)))
          (λ m z q. up_other s.fl n f5 m (off m z))
          (λ m q. up_other s.fl n f5 m (λ x. un (sym (ap s.fl x) ∙ q)) ∙ q)
          (λ m z q. refl)

      few_begun : g.kind n ≡ computed → length (read_links g.kind s.dep (begun_update.rest n)) ≤ reads_of g st n
      few_begun kn =
          let r = i.rests n h (n_off (ap readable kn)) in
          let all : begun_update.rest n ≡ s.done n = up_same s.rest n (s.done n ++ s.rest n) ∙ ap (λ (x : List ℕ). s.done n ++ x) r.tail ∙ append-nil (s.done n) in
          subst (λ (x : List ℕ). length (read_links g.kind s.dep x) ≤ reads_of g st n) (sym all) r.few

      pub update_begins : g.kind n ≡ computed → (s.fl n ≡ f1 → ⊥) → During g st (also X n) n begun_update 0 begun_update
      update_begins kn un = begin X s begun_update n i o h kn ab le i_begun (f_begun kn un) (up_same s.done n []) (few_begun kn)

      pub update_inside : g.kind n ≡ computed → (s.fl n ≡ f1 → ⊥) → Freshened g st X s n (upd_computed fr s n)
      unfolding upd_computed
      update_inside kn un =
          subst (λ (t : Tree). Freshened g st X s n (let z = eval_by (read_w fr n) t begun_update in ans (purge (set_fl (set_sto z.st n z.val) n f1) n) (not (same (s.sto n) z.val)))) (sym form_is)
          (update_ends X s begun_update n i o h kn ab le i_begun (f_begun kn un) (up_same s.done n []) (few_begun kn) (not (same (s.sto n) _)) (λ q. un))

      pub signal_inside : g.kind n ≡ signal → (s.fl n ≡ f1 → ⊥) → Freshened g st X s n (upd_signal s n)
      unfolding upd_signal
      signal_inside kn un =
          let t = set_sto (set_fl s n f1) n (s.pend n) in
          let it : Inside g (also X n) t = others g (also X n) (set_fl s n f1) (flags_inside g (also X n) s n wide (inr refl) f1 (λ q. refl)) s.cycle (up s.sto n (s.pend n)) s.pend s.depth s.log s.stuck in
          let r = i.rests n h (n_off (ap readable kn)) in
          record {
            inside = let_out g X t n it
                (rests_clean g st t.queue t.dep t.sub n (t.fl n) (t.gone n) (t.done n) (t.rest n) (t.subs n) h (ap readable kn) (up_same s.fl n f1) (i.gone_kind n h (ap readable kn)) r.tail r.few);
            frame = frame_flags g (Low g (suc (rank n))) n s t refl refl refl refl refl refl (λ l a h. refl) (λ m z. (refl, refl)) (λ m z q. up_other s.fl n f1 m (λ x. q (ap g.kind x ∙ kn)))
                (λ m q. up_by s.fl n f1 (λ (x : Named). x ≡ f1) m (λ e. refl) (λ e. q))
                (λ m z q. up_other s.sto n (s.pend n) m (λ x. q (ap g.kind x ∙ kn)));
            clean = up_same s.fl n f1;
            changed = λ q. un;
          }

      pub upd_inside : readable (g.kind n) ≡ true → (s.fl n ≡ f1 → ⊥) → (c : Kind) → g.kind n ≡ c → Freshened g st X s n (upd_w fr c s n)
      unfolding upd_w
      upd_inside r d signal e = signal_inside e d
      upd_inside r d computed e = update_inside e d
      upd_inside r d effect e = clash r (ap readable e)
      upd_inside r d scope e = clash r (ap readable e)

    -- ---- the dirty check of u
    pub record Checked (X : Set) (s : St) (u : ℕ) (a : Ans) : Type 0 where
      pub inside : Inside g X a.st
      pub frame : Frame g (Low g (rank u)) (rank u) s a.st
      pub answer : a.yes ≡ false → (a.st.fl u).dirty ≡ false

    module _ (X : Set) (u : ℕ) (hu : u < g.size) (le : rank u ≤ k) (above : (m : ℕ) → X m → readable (g.kind m) ≡ true → rank u ≤ rank m) (apart : (d : ℕ) → d < g.size → Goes g d u → X d → ⊥) where
      u_off : Low g (rank u) u → ⊥
      u_off p = let a = p.1 in omega arith

      X-off : (m : ℕ) → X m → Low g (rank u) m → ⊥
      X-off m x p = let a = above m x (ap readable p.0) in let b = p.1 in omega arith

      one : {b : ℕ} (j : ℕ) → In j (b ∷ []) → j ≡ b
      one {b = b} j (inr x') = elim x' [ ]
      one j (inl q) = q

      -- the first link l that is not passed yet leads to a dependency that can be read: it is brought up to date. Each fact is a law of its own, so that no proof holds another's.
      module _ (s : St) (i : Inside g X s) (o : Open g st X s) (l : ℕ) (lin : In l (deps s u)) where
        abbrev d : ℕ
        d = s.dep l

        lv : (s.live l ≡ true) × (s.sub l ≡ u)
        lv = i.lists.deps_live l u lin

        hd : d < g.size
        hd = (i.lists.inside l lv.0).0

        gd : Goes g d u
        gd = subst (Goes g d) lv.1 (i.goes l lv.0)

        has : In l (s.subs d)
        has = i.lists.live_in_subs l lv.0

        rd : Rests g s d
        rd = i.rests d hd (apart d hd gd)

        owns : (s.fl d).mutable ≡ false → readable (g.kind d) ≡ false
        owns m = either (readable (g.kind d)) (λ r. clash (read_moves g s.queue s.dep s.sub d _ _ _ _ _ rd l has r) m) (λ r. r)

        reads : (s.fl d).mutable ≡ true → readable (g.kind d) ≡ true
        reads m = moves_read g s.queue s.dep s.sub d _ _ _ _ _ rd m

        module _ (r : readable (g.kind d) ≡ true) where
          abbrev t : St
          t = (fr s d).st

          f : Freshened g st X s d (fr s d)
          f = let lo = gd.lower r in frs X s d i o hd r (λ n x y. let z = above n x y in omega arith) (omega arith)

          u_far : Low g (suc (rank d)) u → ⊥
          u_far p = let lo = gd.lower r in let z = p.1 in omega arith

          stays : steady (s.subs d) t d ≡ t
          stays = steady_same (s.subs d) t d (f.frame.subs d (λ z. omega arith)) (λ z. nil_none (s.subs d) l z has)

          wider : Frame g (Low g (rank u)) (rank u) s t
          wider = let lo = gd.lower r in frame_wider g (Low g (suc (rank d))) (Low g (rank u)) d u s t (λ n p. let z = p.1 in (p.0, omega arith)) (omega arith) f.frame

          opened : Open g st X t
          opened = open_frame g st X (Low g (rank u)) u s t i f.inside wider X-off o

          told : (fr s d).yes ≡ true → Checked X s u (ans (elim (several (t.subs d)) [ true ↦ shallow t d | false ↦ t ]) true)
          told y =
              branch (λ (x : St). Checked X s u (ans x true)) (several (t.subs d))
              (λ z. record {
                inside = shallow_inside g X t d f.inside;
                frame = shallow_frame g X (Low g (rank u)) u u s t d i f.inside wider (omega arith) (gd.lower r) r (f.changed y);
                answer = λ w. false≢true (sym w);
              })
              (λ z. record { inside = f.inside; frame = wider; answer = λ w. false≢true (sym w) })

          deps_same : deps t u ≡ deps s u
          deps_same = let w = f.frame.lists u u_far in ap₂ (λ (x z : List ℕ). x ++ z) w.0 w.1

          dep_same : (j : ℕ) → In j (deps s u) → t.dep j ≡ s.dep j
          dep_same j z = let w = i.lists.deps_live j u z in (f.frame.links j w.0 (λ p. u_far (subst (Low g (suc (rank d))) w.1 p))).1

          held : (j : ℕ) → In j (deps s u) → s.fl (s.dep j) ≡ f1 → t.fl (s.dep j) ≡ f1
          held j z c = let w = i.lists.deps_live j u z in f.frame.held j w.0 (λ p. u_far (subst (Low g (suc (rank d))) w.1 p)) c

          -- what was passed stays clean, and so is l
          passes : (ls passed : List ℕ) → deps s u ≡ passed ++ (l ∷ ls) → ((j : ℕ) → In j passed → readable (g.kind (s.dep j)) ≡ true → s.fl (s.dep j) ≡ f1)
              → (j : ℕ) → In j (passed ++ l ∷ []) → readable (g.kind (t.dep j)) ≡ true → t.fl (t.dep j) ≡ f1
          passes ls passed e pass j z c =
              in_cases j passed (l ∷ []) z
              (λ w. before (subst (In j) (sym e) (in_left j passed (l ∷ ls) w)) w)
              (λ w. subst (λ (b : ℕ). t.fl b ≡ f1) (sym (ap t.dep (one j w) ∙ dep_same l lin)) f.clean)
            where
              before : In j (deps s u) → In j passed → t.fl (t.dep j) ≡ f1
              before v w = subst (λ (b : ℕ). t.fl b ≡ f1) (sym (dep_same j v)) (held j v (pass j w (subst (λ (b : ℕ). readable (g.kind b) ≡ true) (dep_same j v) c)))

          -- DIRTY came by a later link
          later : (ls passed : List ℕ) → deps s u ≡ passed ++ (l ∷ ls) → ((j : ℕ) → In j passed → readable (g.kind (s.dep j)) ≡ true → s.fl (s.dep j) ≡ f1)
              → (s.fl u).dirty ≡ false → (t.fl u).dirty ≡ true → ls ≡ [] → ⊥
          later ls passed e pass q soil z = by (f.frame.soiled u u_far (λ w. gd.of_signal w) q soil)
            where
              by : Soiled g d s u → ⊥
              by w =
                  in_cases w.link passed (l ∷ ls) (subst (In w.link) e (subst (λ (b : ℕ). In w.link (deps s b)) w.to (i.lists.live_in_deps w.link w.live)))
                  (λ a. w.unclean (pass w.link a w.reads))
                  (λ a. last a)
                where
                  last : In w.link (l ∷ ls) → ⊥
                  last (inl b) = let c = w.low in let v = ap s.dep b in omega arith
                  last (inr b) = nil_none ls w.link z b

      check_on-inside : (ls passed : List ℕ) (s : St) → Inside g X s → Open g st X s → deps s u ≡ passed ++ ls
          → ((l : ℕ) → In l passed → readable (g.kind (s.dep l)) ≡ true → s.fl (s.dep l) ≡ f1) → ((s.fl u).dirty ≡ true → ls ≡ [] → ⊥) → Checked X s u (check_on fr u s ls)
      unfolding check_on
      check_on-inside [] passed s i o e pass dl = record { inside = i; frame = frame_same g (Low g (rank u)) u s; answer = λ z. either (s.fl u).dirty (λ q. absurd (dl q refl)) (λ q. q) }
      check_on-inside (l ∷ ls) passed s i o e pass dl =
          let x = steady (s.subs (s.dep l)) (fr s (s.dep l)).st (s.dep l) in
          let asked : Ans = elim (fr s (s.dep l)).yes [ true ↦ ans (elim (several (x.subs (s.dep l))) [ true ↦ shallow x (s.dep l) | false ↦ x ]) true | false ↦ check_on fr u x ls ] in
          branch (Checked X s u) (s.fl u).dirty {x = ans s true} {y = elim (s.fl (s.dep l)).mutable [ true ↦ asked | false ↦ check_on fr u s ls ]} (λ q. record { inside = i; frame = frame_same g (Low g (rank u)) u s; answer = λ z. false≢true (sym z) })
          (λ q. branch (Checked X s u) (s.fl (s.dep l)).mutable {x = asked} {y = check_on fr u s ls}
          (λ m. asks (reads s i o l lin m) (check_on-inside ls (passed ++ l ∷ []) (fr s (s.dep l)).st (f s i o l lin (reads s i o l lin m)).inside (opened s i o l lin (reads s i o l lin m))
          (deps_same s i o l lin (reads s i o l lin m) ∙ next) (passes s i o l lin (reads s i o l lin m) ls passed e pass) (λ soil z. later s i o l lin (reads s i o l lin m) ls passed e pass q soil z)))
          (λ m. check_on-inside ls (passed ++ l ∷ []) s i o next (skips (owns s i o l lin m)) (λ soil z. clash soil q)))
        where
          lin : In l (deps s u)
          lin = subst (In l) (sym e) (in_right l passed (l ∷ ls) (inl refl))

          next : deps s u ≡ (passed ++ l ∷ []) ++ ls
          next = e ∙ sym (append_assoc passed (l ∷ []) ls)

          skips : readable (g.kind (s.dep l)) ≡ false → (j : ℕ) → In j (passed ++ l ∷ []) → readable (g.kind (s.dep j)) ≡ true → s.fl (s.dep j) ≡ f1
          skips own j z c = in_cases j passed (l ∷ []) z (λ w. pass j w c) (λ w. clash (subst (λ (b : ℕ). readable (g.kind (s.dep b)) ≡ true) (one j w) c) own)

          asks : readable (g.kind (s.dep l)) ≡ true → Checked X (fr s (s.dep l)).st u (check_on fr u (fr s (s.dep l)).st ls) → Checked X s u
              (let x = steady (s.subs (s.dep l)) (fr s (s.dep l)).st (s.dep l) in
              elim (fr s (s.dep l)).yes [ true ↦ ans (elim (several (x.subs (s.dep l))) [ true ↦ shallow x (s.dep l) | false ↦ x ]) true | false ↦ check_on fr u x ls ])
          asks r n =
              subst (λ (x : St). Checked X s u
              (elim (fr s (s.dep l)).yes [ true ↦ ans (elim (several (x.subs (s.dep l))) [ true ↦ shallow x (s.dep l) | false ↦ x ]) true | false ↦ check_on fr u x ls ])) (sym (stays s i o l lin r))
              (branch (Checked X s u) (fr s (s.dep l)).yes (λ y. told s i o l lin r y) (λ y. record {
                inside = n.inside;
                frame = frame_then g (Low g (rank u)) u s (fr s (s.dep l)).st _ i.lists (f s i o l lin r).inside.lists (wider s i o l lin r) n.frame;
                answer = n.answer;
              }))

      pub check_inside : (s : St) → Inside g X s → Open g st X s → (deps s u ≡ [] → ⊥) → Checked X s u (check_w fr s u)
      unfolding check_w
      check_inside s i o ne =
          branch (Checked X s u) (is_nil (deps s u)) (λ e. absurd (ne (is_nil-true (deps s u) e)))
          (λ e. check_on-inside (deps s u) [] s i o refl (λ l j. absurd j) (λ q z. ne z))

    -- ---- never evaluated, dirty, pending, clean
    module _ (X : Set) (s : St) (n : ℕ) (i : Inside g X s) (o : Open g st X s) (h : n < g.size) (r : readable (g.kind n) ≡ true) (ab : Above g st X n) (le : rank n ≤ k) where
      resting : Rests g s n
      resting = i.rests n h (n_off X s n i o h ab le r)

      kind_is : s.kind n ≡ g.kind n
      kind_is = ap (λ (z : Given). z.kind n) i.same

      flag_of : {f : Named} (π : Named → Bool) → s.fl n ≡ f → π (s.fl n) ≡ π f
      flag_of π e = ap π e

      not_clean : (π : Named → Bool) → π (s.fl n) ≡ true → π f1 ≡ false → s.fl n ≡ f1 → ⊥
      not_clean π a b e = clash (sym (ap π e) ∙ a) b

      -- ---- the check of a computed that is pending
      module _ (kn : g.kind n ≡ computed) (pd : (s.fl n).pending ≡ true) (ne : deps s n ≡ [] → ⊥) where
        pub n_checked : Checked X s n (check_w fr s n)
        n_checked = check_inside X n h le (λ m x q. let a = ab m x q in omega arith) (check_apart X n kn ab) s i o ne

        pub n_open : Open g st X (check_w fr s n).st
        n_open = open_frame g st X (Low g (rank n)) n s (check_w fr s n).st i n_checked.inside n_checked.frame (λ m x p. let a = ab m x (ap readable p.0) in let b = p.1 in omega arith) o

        pub n_pending : ((check_w fr s n).st.fl n).pending ≡ true
        n_pending = n_checked.frame.pending n (λ p. let a = p.1 in omega arith) (λ q. clash (ap a_computed kn) (ap a_computed q)) ∙ pd

        pub n_unclean : (check_w fr s n).st.fl n ≡ f1 → ⊥
        n_unclean e = clash (sym (ap (λ (z : Named). z.pending) e) ∙ n_pending) refl

        -- where no dependency has changed
        pub n_cleared : (check_w fr s n).yes ≡ false → with_pending ((check_w fr s n).st.fl n) false ≡ f1
        n_cleared y =
            let t = (check_w fr s n).st in
            cleared (t.fl n) (t.done n) (t.subs n) n_pending (n_checked.answer y) ((n_checked.inside.rests n h (n_off X s n i o h ab le r)).of_computed kn)

      pending_inside : g.kind n ≡ computed → (s.fl n).pending ≡ true → (deps s n ≡ [] → ⊥) → Freshened g st X s n (pending_w fr s n)
      unfolding pending_w
      pending_inside kn pd ne =
          let c = check_w fr s n in
          let t = c.st in
          let w = n_checked kn pd ne in
          let wide : Frame g (Low g (suc (rank n))) (rank n) s t = frame_wider g (Low g (rank n)) (Low g (suc (rank n))) n n s t (λ m p. let a = p.1 in (p.0, omega arith)) (omega arith) w.frame in
          branch (Freshened g st X s n) c.yes
          (λ y. let f = upd_inside X t n w.inside (n_open kn pd ne) h ab le r (n_unclean kn pd ne) (s.kind n) (sym kind_is) in
          record {
            inside = f.inside;
            frame = frame_then g (Low g (suc (rank n))) n s t _ i.lists w.inside.lists wide f.frame;
            clean = f.clean;
            changed = λ q. not_clean (λ (z : Named). z.pending) pd refl;
          })
          (λ y. let rt = w.inside.rests n h (n_off X s n i o h ab le r) in
          let flag = n_cleared kn pd ne y in
          let x = set_fl t n (with_pending (t.fl n) false) in
          let ix : Inside g (also X n) x = flags_inside g (also X n) t n (widen g X (also X n) t (λ m z. inl z) w.inside) (inr refl) (with_pending (t.fl n) false) (λ q. clash q refl) in
          let now : x.fl n ≡ f1 = up_same t.fl n (with_pending (t.fl n) false) ∙ flag in
          let f : Frame g (Low g (suc (rank n))) (rank n) t x = frame_flags g (Low g (suc (rank n))) n t x refl refl refl refl refl refl (λ l a h. refl) (λ m z. (refl, refl))
          (λ m z q. up_other t.fl n _ m (λ e. z (ap g.kind e ∙ kn, omega arith)))
          (λ m q. up_by t.fl n (with_pending (t.fl n) false) (λ (z : Named). z ≡ f1) m (λ e. flag) (λ e. q)) (λ m z q. refl) in
          record {
            inside = let_out g X x n ix (rests_clean g st x.queue x.dep x.sub n (x.fl n) (x.gone n) (x.done n) (x.rest n) (x.subs n) h r now (w.inside.gone_kind n h r) rt.tail rt.few);
            frame = frame_then g (Low g (suc (rank n))) n s t x i.lists w.inside.lists wide f;
            clean = now;
            changed = λ q. false≢true q;
          })

      pub whole_inside : Freshened g st X s n (fresh_w fr s n)
      unfolding fresh_w
      whole_inside =
          branch (Freshened g st X s n) (bare (s.fl n)) (λ b. by_bare b (g.kind n) refl)
          (λ b. branch (Freshened g st X s n) (s.fl n).dirty (λ d. upd_inside X s n i o h ab le r (not_clean (λ (z : Named). z.dirty) d refl) (s.kind n) (sym kind_is))
          (λ d. branch (Freshened g st X s n) (s.fl n).pending (λ p. by_pending p (g.kind n) refl)
          (λ p. record { inside = i; frame = frame_same g (Low g (suc (rank n))) n s; clean = by_clean b d p (g.kind n) refl; changed = λ q. false≢true q })))
        where
          signal_flags_lem : (s.fl n ≡ f1) ⊎ (s.fl n ≡ f17) → (bare (s.fl n) ≡ false) × ((s.fl n).pending ≡ false) × ((s.fl n).dirty ≡ false → s.fl n ≡ f1)
          signal_flags_lem (inl e) = (ap bare e, ap (λ (z : Named). z.pending) e, λ q. e)
          signal_flags_lem (inr e) = (ap bare e, ap (λ (z : Named). z.pending) e, λ q. clash (ap (λ (z : Named). z.dirty) e) q)

          by_bare : bare (s.fl n) ≡ true → (c : Kind) → g.kind n ≡ c → Freshened g st X s n (ans (first_w fr s n) false)
          by_bare b signal e = clash b (signal_flags_lem (resting.of_signal e)).0
          by_bare b computed e = go (resting.of_computed e)
            where
              go : ComputedFlags (s.fl n) (s.done n) (s.subs n) → Freshened g st X s n (ans (first_w fr s n) false)
              go (never x y z) = first_inside X s n i o h ab le e x y resting.tail
              go (clean x) = clash b (ap bare x)
              go (stale x y) = clash b (ap bare x)
              go (maybe x y) = clash b (ap bare x)
              go (dirty x y) = clash b (ap bare x)
          by_bare b effect e = clash r (ap readable e)
          by_bare b scope e = clash r (ap readable e)

          by_pending : (s.fl n).pending ≡ true → (c : Kind) → g.kind n ≡ c → Freshened g st X s n (pending_w fr s n)
          by_pending p signal e = clash p (signal_flags_lem (resting.of_signal e)).1
          by_pending p computed e = pending_inside e p (λ q. go (append_is_nil (s.done n) (s.rest n) q).0 (resting.of_computed e))
            where
              go : s.done n ≡ [] → ComputedFlags (s.fl n) (s.done n) (s.subs n) → ⊥
              go q (never x y z) = clash p (ap (λ (z : Named). z.pending) x)
              go q (clean x) = clash p (ap (λ (z : Named). z.pending) x)
              go q (stale x y) = clash p (ap (λ (z : Named). z.pending) x)
              go q (maybe x y) = y q
              go q (dirty x y) = y q
          by_pending p effect e = clash r (ap readable e)
          by_pending p scope e = clash r (ap readable e)

          by_clean : bare (s.fl n) ≡ false → (s.fl n).dirty ≡ false → (s.fl n).pending ≡ false → (c : Kind) → g.kind n ≡ c → s.fl n ≡ f1
          by_clean b d p signal e = (signal_flags_lem (resting.of_signal e)).2 d
          by_clean b d p computed e = go (resting.of_computed e)
            where
              go : ComputedFlags (s.fl n) (s.done n) (s.subs n) → s.fl n ≡ f1
              go (never x y z) = clash (ap bare x) b
              go (clean x) = x
              go (stale x y) = clash (ap (λ (z : Named). z.dirty) x) d
              go (maybe x y) = clash (ap (λ (z : Named). z.pending) x) p
              go (dirty x y) = clash (ap (λ (z : Named). z.dirty) x) d
          by_clean b d p effect e = clash r (ap readable e)
          by_clean b d p scope e = clash r (ap readable e)

  -- ---- the recursion
  pub fresh_inside : (k : ℕ) → Freshens g st k (fresh k)
  unfolding fresh
  fresh_inside zero X s n i o h r ab lt = absurd (omega arith)
  fresh_inside (suc k) X s n i o h r ab lt = whole_inside k (fresh k) (fresh_inside k) X s n i o h r ab (omega arith)
