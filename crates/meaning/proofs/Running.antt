-- Reads, runs and the flush keep well-formedness and are not stuck. Assumes nothing.
use Rattle.std.specs.Prelude.{Option, None, Some}
use mathlib.Core.Path.{◌≡◌, refl, sym, ap, ap₂, ◌∙◌, subst}
use mathlib.Core.Logic.{◌⊎◌, inl, inr}
use mathlib.Core.Bool.{Bool, true, false}
use mathlib.Core.List.{List, [], ◌∷◌, ◌++◌, append-nil}
use Prim.Native.Nat.{ℕ, suc, ◌+◌, ◌≤◌, ◌<◌}
use native.Mathlib.Omega.{arith}
use lib.Dec.{eqb}
use lib.ListN.{length, length-append}
use borrow.Author.Tests.{eqb-true, eqb-false}
use Rattle.flags.specs.declared.Named.{Named}
use Rattle.trees.specs.Trees.{Tree}
use Rattle.meaning.specs.State.{St, Kind, effect, Row, readable, rank, deps, f1, f2, f6, raised, up}
use Rattle.meaning.specs.Setters.{set_fl, with_cycle, with_queue}
use Rattle.meaning.specs.Links.{rewind, purge}
use Rattle.meaning.specs.Reads.{Out, eval_by, read_w, fresh, settle, check, evaluate}
use Rattle.meaning.specs.Marks.{is_effect}
use Rattle.meaning.specs.Engine.{logged, rerun, run, flush_on}
use Rattle.meaning.specs.Reserve.{reserve_of, owned_link}
use Rattle.meaning.specs.Owners.{Below}
use Rattle.meaning.specs.WellFormed.{In, Once, read_links, EffectFlags, watching, pushed, pending, dirty}
use Rattle.meaning.proofs.Laws.{clash, false≢true, either, none_some, branch, up_same, up_other, in_left}
use Rattle.meaning.proofs.Members.{append_is_nil, nil_none, reads_few, reads_agree}
use Rattle.meaning.proofs.Rings.{purge_ring, evaluate_ring, check_ring}
use Rattle.meaning.proofs.Still.{Given, Fixed, Still, drops_still, renews_still}
use Rattle.meaning.proofs.Steps.{rerun_is}
use Rattle.meaning.proofs.Flush.{run_queues_nothing, rerun_row}
use Rattle.meaning.proofs.Inside.{Set, nobody, also, Static, Goes, Rests, Inside, let_out, Under, under_same, never_back, owner_owns}
use Rattle.meaning.proofs.Dropping.{flags_inside, rewind_inside, purge_inside, purge_reads}
use Rattle.meaning.proofs.Room.{owner_links, spends, Paid, rests_paid}
use Rattle.meaning.proofs.Frames.{others, Low, Frame, frame_flags, frame_same, frame_then, frame_wider, frame_reads, Open}
use Rattle.meaning.proofs.Binding.{SameReads, reads_then}
use Rattle.meaning.proofs.Reading.{Settled, settle_inside, Near, reads_of, During, eval_during}
use Rattle.meaning.proofs.Updating.{Checked, check_inside, fresh_inside}

-- well-formed inside, and not stuck unless it was
pub record Goes_on (g : Given) (X : Set) (s t : St) : Type 0 where
  pub inside : Inside g X t
  pub stuck : t.stuck ≡ s.stuck

queue_still : (s t : St) → Still s t → t.queue ≡ s.queue
queue_still s t p = ap (λ (f : Fixed). f.queue) p.same

module _ (g : Given) (st : Static g) where
  pub size_is : (X : Set) (s : St) → Inside g X s → s.size ≡ g.size
  size_is X s i = ap (λ (z : Given). z.size) i.same

  pub nobody_open : (s : St) → Open g st nobody s
  nobody_open s = record { known = λ n. inr (λ x. x); pays = λ n h x. absurd x }

  -- ---- a read
  module _ (s : St) (n : ℕ) (i : Inside g nobody s) (h : n < g.size) (r : readable (g.kind n) ≡ true) where
    pub read_settles : Settled g st nobody s n (settle s n)
    read_settles = let e = size_is nobody s i in settle_inside g st s.size (fresh s.size) (fresh_inside g st s.size) nobody s n i (nobody_open s) h r (λ m x q. absurd x) (omega arith)

    pub read_inside : Goes_on g nobody s (settle s n)
    read_inside = record { inside = read_settles.inside; stuck = read_settles.frame.stuck }

    -- it leaves the links of effects alone, and every mark
    pub read_reads : (e : ℕ) → g.kind e ≡ effect → SameReads g.kind s (settle s n) e
    read_reads e k = frame_reads g st nobody (Low g (suc (rank n))) (suc n) s (settle s n) e i read_settles.frame (λ p. clash (ap is_effect k) (ap is_effect p.0))

    pub read_marks : (m : ℕ) → readable (g.kind m) ≡ false → (settle s n).gone m ≡ s.gone m
    read_marks = read_settles.frame.gone

  -- who has read links only has lost what it owned
  pub owned_gone : (t : St) → Inside g nobody t → (e : ℕ) → ((l : ℕ) → In l (deps t e) → readable (g.kind (t.dep l)) ≡ true) → (y : ℕ) → y < g.size → g.owner y ≡ Some e → t.gone y ≡ true
  owned_gone t i e all y h q = either (t.gone y) (λ a. a) (λ a.
      let x = (i.rests y h (λ z. z)).owned e a q in
      let lv = i.lists.subs_live x.0 y (subst (In x.0) (sym x.1) (inl refl)) in
      let j = subst (λ (z : ℕ). In x.0 (deps t z)) x.2 (i.lists.live_in_deps x.0 lv.0) in
      none_some (sym (st.owner_kind y h (ap (λ (z : ℕ). readable (g.kind z)) (sym lv.1) ∙ all x.0 j)) ∙ q))

  -- ---- an effect e under way: its owner's link, and its own links
  pub record Owns (s : St) (e : ℕ) : Type 0 where
    pub owned : (o : ℕ) → g.owner e ≡ Some o → (l : ℕ) × (s.subs e ≡ l ∷ []) × (s.sub l ≡ o)
    pub unowned : g.owner e ≡ None → s.subs e ≡ []
    pub alive : s.gone e ≡ false

  pub record Lies (s : St) (e : ℕ) : Type 0 where
    pub owns : Owns s e
    pub tail : s.rest e ≡ []
    pub few : length (read_links g.kind s.dep (s.done e)) ≤ reads_of g st e

  abbrev pub Run : ℕ → Set
  Run e = also nobody e

  module _ (e : ℕ) (he : e < g.size) (ke : g.kind e ≡ effect) where
    re : readable (g.kind e) ≡ false
    re = ap readable ke

    -- it watches again
    pub lies_rests : (s : St) → Lies s e → (In e s.queue → ⊥) → s.fl e ≡ f2 → Rests g s e
    lies_rests s l nq f =
        let w = l.owns in
        record {
          tail = l.tail;
          owned = λ o a z. w.owned o z;
          unowned = λ r z. w.unowned z;
          bare = λ a. clash a w.alive;
          few = l.few;
          of_signal = λ k. clash (ap readable k) re;
          of_computed = λ k. clash (ap readable k) re;
          of_effect = λ k a. watching f nq;
          of_scope = λ k. clash (ap is_effect ke) (ap is_effect k);
          of_gone = λ k a. clash a w.alive;
          queued = λ j a. clash a w.alive;
        }

    pub run_above : (m : ℕ) → Run e m → readable (g.kind m) ≡ true → rank e ≤ rank m
    run_above m (inl x'') r = elim x'' [ ]
    run_above m (inr q) r = clash r (ap (λ (z : ℕ). readable (g.kind z)) q ∙ re)

    -- e is no dependency of itself
    pub run_apart : (d : ℕ) → d < g.size → Goes g d e → Run e d → ⊥
    run_apart d hd gd (inl x') = elim x' [ ]
    run_apart d hd gd (inr z) = never_back g st d e hd gd (subst (Under g d) z (under_same g st d))

    run_known : (m : ℕ) → Run e m ⊎ (Run e m → ⊥)
    run_known m = either (eqb m e) (λ q. inl (inr (eqb-true m e q))) (λ q. inr (off (eqb-false m e q)))
      where
        off : (m ≡ e → ⊥) → Run e m → ⊥
        off f (inl x') = elim x' [ ]
        off f (inr q) = f q

    owner_few : (s : St) → Owns s e → length (s.subs e) ≤ owned_link (g.owner e)
    owner_few s l = go (g.owner e) refl
      where
        go : (o : Option ℕ) → g.owner e ≡ o → length (s.subs e) ≤ owned_link o
        go None q = let z = ap length (l.unowned q) in omega arith
        go (Some o) q = let z = ap length (l.owned o q).1 in omega arith

    -- the owner is no computed and not e
    owner_far : (s : St) (X : Set) → Inside g X s → (l : ℕ) → s.subs e ≡ l ∷ [] → (s.live l ≡ true) × (Near g st e (s.sub l) → ⊥)
    owner_far s X i l q =
        let lv = i.lists.subs_live l e (subst (In l) (sym q) (inl refl)) in
        let go : Goes g e (s.sub l) = subst (λ (z : ℕ). Goes g z (s.sub l)) lv.1 (i.goes l lv.0) in
        (lv.0, off (owner_owns g st e (s.sub l) go re) (st.owner_lower e (s.sub l) he (go.owned re)))
      where
        off : {n : ℕ} → readable (g.kind n) ≡ false → n < e → Near g st e n → ⊥
        off own lo (inl p) = clash (ap readable p.0) own
        off own lo (inr z) = omega arith

    owns_moves : (X : Set) (c : ℕ) (s t : St) → Inside g X s → Frame g (Near g st e) c s t → Owns s e → Owns t e
    owns_moves X c s t i f l =
        let subs : t.subs e ≡ s.subs e = f.subs e (λ r. clash r re) in
        record {
          owned = λ o q. let x = l.owned o q in let w = owner_far s X i x.0 x.1 in (x.0, subs ∙ x.1, (f.links x.0 w.0 w.1).2 ∙ x.2);
          unowned = λ q. subs ∙ l.unowned q;
          alive = f.gone e re ∙ l.alive;
        }

    -- other effects that are still live keep their read links
    abbrev Others : St → St → Type 0
    Others s t = (m : ℕ) → m < g.size → g.kind m ≡ effect → (m ≡ e → ⊥) → t.gone m ≡ false → SameReads g.kind s t m

    -- what e owns is gone
    abbrev Disposed : St → Type 0
    Disposed t = (y : ℕ) → y < g.size → g.owner y ≡ Some e → t.gone y ≡ true

    -- nothing else goes
    abbrev Spared : St → St → Type 0
    Spared s t = (m : ℕ) → readable (g.kind m) ≡ false → (Below g.owner e m × (m ≡ e → ⊥) → ⊥) → t.gone m ≡ s.gone m

    -- ---- the run itself, from s₁, where e has flags 6 and its cursor before its first link
    module _ (s s₁ : St) (i : Inside g (Run e) s) (l : Owns s e) (i₁ : Inside g (Run e) s₁) (f₁ : Frame g (Near g st e) (rank e) s s₁) (empty : s₁.done e ≡ []) (left : length (read_links g.kind s₁.dep (s₁.rest e)) ≤ reads_of g st e) where
      pub begin : During g st (Run e) e s₁ 0 s₁
      begin =
          let z = ap length empty in
          record {
            inside = i₁;
            frame = frame_same g (Near g st e) e s₁;
            few = omega arith;
            reads = λ l j. absurd (nil_none (s₁.done e) l empty j);
            left = left;
            spare = spare;
            tail = λ q. q;
            calm = λ q. refl;
            sto = refl;
            known = run_known;
            pays = λ n h x q. absurd (q (at n x));
          }
        where
          at : (n : ℕ) → Run e n → n ≡ e
          at n (inl x') = elim x' [ ]
          at n (inr q) = q

          spare : length (owner_links (g.kind e) (s₁.subs e)) + (reads_of g st e + reads_of g st e) ≤ spends g s₁ e
          spare =
              let a = owner_few s l in
              let b = ap length (f₁.subs e (λ r. clash r re)) in
              let c : s₁.gone e ≡ false = f₁.gone e re ∙ l.alive in
              let p : spends g s₁ e ≡ reserve_of effect false (g.form e) (g.owner e) = ap₂ (λ (x : Kind) (y : Bool). reserve_of x y (g.form e) (g.owner e)) ke c in
              let q : length (owner_links (g.kind e) (s₁.subs e)) ≡ length (s₁.subs e) = ap (λ (y : Bool). length {A = ℕ} (elim y as (λ (x : Bool). List ℕ) [ true ↦ [] | false ↦ s₁.subs e ])) re in
              omega arith

      abbrev K : ℕ
      K = s₁.size

      abbrev o : Out
      o = eval_by (read_w (fresh K) e) (g.form e) s₁

      went : During g st (Run e) e s₁ (reads_of g st e) o.st
      went =
          let z : 0 + reads_of g st e ≡ reads_of g st e = omega arith in
          let k = size_is (Run e) s₁ i₁ in
          subst (λ (j : ℕ). During g st (Run e) e s₁ j o.st) z
          (eval_during g st (Run e) e (inr refl) he run_above s₁ i₁ K (fresh K) (fresh_inside g st K) (omega arith) (g.form e) (λ m z. z) 0 s₁ (omega arith) begin)

      pub f_went : Frame g (Near g st e) (rank e) s o.st
      f_went = frame_then g (Near g st e) e s s₁ o.st i.lists i₁.lists f₁ went.frame

      owns_went : Owns o.st e
      owns_went = owns_moves (Run e) e s o.st i f_went l

      queue_went : o.st.queue ≡ s₁.queue
      queue_went = subst (λ (t : Tree). (eval_by (read_w (fresh K) e) t s₁).st.queue ≡ s₁.queue) (ap (λ (z : Given). z.form e) i₁.same) (queue_still s₁ (evaluate s₁ e).st (evaluate_ring Still renews_still s₁ e))

      abbrev ended : St
      ended = set_fl (logged o e) e f2

      pub i_ended : Inside g (Run e) ended
      unfolding logged
      i_ended = flags_inside g (Run e) (logged o e) e (others g (Run e) o.st went.inside o.st.cycle o.st.sto o.st.pend o.st.depth (logged o e).log o.st.stuck) (inr refl) f2 (λ q. false≢true q)

      few_ended : length (read_links g.kind o.st.dep (o.st.done e)) ≤ reads_of g st e
      few_ended = let a = reads_few g.kind o.st.dep (o.st.done e) in let b = went.few in omega arith

      -- a first run has nothing to purge
      pub first_run : s₁.rest e ≡ [] → (In e s₁.queue → ⊥) → Goes_on g nobody s ended
      unfolding logged
      first_run q nq = record {
        inside = let_out g nobody ended e i_ended
            (lies_rests ended (record { owns = record { owned = owns_went.owned; unowned = owns_went.unowned; alive = owns_went.alive }; tail = went.tail q; few = few_ended })
            (λ j. nq (subst (In e) queue_went j)) (up_same o.st.fl e f2));
        stuck = f_went.stuck;
      }

      -- other effects keep their read links
      went_reads : (m : ℕ) → g.kind m ≡ effect → (m ≡ e → ⊥) → SameReads g.kind s o.st m
      went_reads m k ne = frame_reads g st (Run e) (Near g st e) e s o.st m i f_went (λ z. off z)
        where
          off : Near g st e m → ⊥
          off (inl p) = clash (ap is_effect k) (ap is_effect p.0)
          off (inr q) = ne q

      pub first_reads : (m : ℕ) → g.kind m ≡ effect → (m ≡ e → ⊥) → SameReads g.kind s ended m
      unfolding logged
      first_reads m k ne = let r = went_reads m k ne in record { links = r.links; ends = r.ends }

      later_run : (In e s₁.queue → ⊥) → Goes_on g nobody s (purge ended e) × Others s (purge ended e) × Disposed (purge ended e) × Spared s (purge ended e)
      unfolding logged
      later_run nq =
          let p = purge_inside g st (Run e) ended e i_ended (inr refl) apart in
          let t = purge ended e in
          let d = p.dropped in
          let outside : Under g e e × (e ≡ e → ⊥) → ⊥ = λ z. z.1 refl in
          let subs : t.subs e ≡ o.st.subs e = d.subs e outside in
          let own : Owns t e = record {
            owned = λ b q. let x = owns_went.owned b q in (x.0, subs ∙ x.1, ap (λ (z : ℕ → ℕ). z x.0) d.sub ∙ x.2);
            unowned = λ q. subs ∙ owns_went.unowned q;
            alive = (d.flags e outside).1 ∙ owns_went.alive;
          } in
          let few : length (read_links g.kind t.dep (t.done e)) ≤ reads_of g st e =
          let a = reads_few g.kind t.dep (t.done e) in let b = went.few in let c = ap (λ (x : List ℕ). length x) p.done in omega arith in
          let it : Inside g nobody t = let_out g nobody t e p.inside
          (lies_rests t (record { owns = own; tail = p.rest; few = few })
          (λ j. nq (subst (In e) (queue_still ended t (purge_ring Still drops_still ended e) ∙ queue_went) j)) ((d.flags e outside).0 ∙ up_same o.st.fl e f2)) in
          let all : deps t e ≡ o.st.done e = ap₂ (λ (x y : List ℕ). x ++ y) p.done p.rest ∙ append-nil (o.st.done e) in (
            record { inside = it; stuck = d.stuck ∙ f_went.stuck },
            λ m h k ne a. reads_then g.kind s ended t m (first_reads m k ne) (purge_reads g st (Run e) ended t e m p h k (off m ne) ne a),
            owned_gone t it e (λ l j. ap (λ (z : ℕ → ℕ). readable (g.kind (z l))) d.dep ∙ went.reads l (subst (In l) all j)),
            λ m r f. (d.flags m (λ z. f (z.0.owned r, z.1))).1 ∙ f_went.gone m r,
          )
        where
          off : (m : ℕ) → (m ≡ e → ⊥) → Run e m → ⊥
          off m ne (inl x') = elim x' [ ]
          off m ne (inr q) = ne q

          apart : (m : ℕ) → Under g e m × (m ≡ e → ⊥) → Run e m → ⊥
          apart m p (inl x') = elim x' [ ]
          apart m p (inr q) = p.1 q

    -- ---- a rerun: a new cycle, flags 6, and the cursor before the first link
    abbrev pub begun : St → St
    begun s = set_fl (rewind (with_cycle s (raised s.cycle)) e) e f6

    module _ (s : St) (i : Inside g (Run e) s) (l : Lies s e) (pd : (s.fl e).pending ≡ true) where
      i_begun : Inside g (Run e) (begun s)
      i_begun =
          let c = with_cycle s (raised s.cycle) in
          let ic : Inside g (Run e) c = others g (Run e) s i (raised s.cycle) s.sto s.pend s.depth s.log s.stuck in
          flags_inside g (Run e) (rewind c e) e (rewind_inside g (Run e) c e ic (inr refl)) (inr refl) f6 (λ q. false≢true q)

      f_begun : Frame g (Near g st e) (rank e) s (begun s)
      f_begun = frame_flags g (Near g st e) e s (begun s) refl refl refl refl refl refl (λ l a h. refl)
          (λ m z. (up_other s.done e [] m (λ q. z (inr q)), up_other s.rest e (s.done e ++ s.rest e) m (λ q. z (inr q))))
          (λ m z q. up_other s.fl e f6 m (λ x. z (inr x)))
          (λ m q. kept m q) (λ m z q. refl)
        where
          kept : (m : ℕ) → s.fl m ≡ f1 → up s.fl e f6 m ≡ f1
          kept m q = up_other s.fl e f6 m (λ x. clash (sym (ap (λ (z : Named). z.pending) (sym (ap s.fl x) ∙ q)) ∙ pd) refl) ∙ q

      few_begun : length (read_links g.kind s.dep ((begun s).rest e)) ≤ reads_of g st e
      few_begun =
          let all : (begun s).rest e ≡ s.done e = up_same s.rest e (s.done e ++ s.rest e) ∙ ap (λ (x : List ℕ). s.done e ++ x) l.tail ∙ append-nil (s.done e) in
          subst (λ (x : List ℕ). length (read_links g.kind s.dep x) ≤ reads_of g st e) (sym all) l.few

      form_is : s.form e ≡ g.form e
      form_is = ap (λ (z : Given). z.form e) i.same

      -- its evaluation begins, and ends before the purge
      pub rerun_begins : During g st (Run e) e (begun s) 0 (begun s)
      rerun_begins = begin s (begun s) i l.owns i_begun f_begun (up_same s.done e []) few_begun

      pub rerun_ends : Inside g (Run e) (set_fl (logged (evaluate (begun s) e) e) e f2)
      rerun_ends = subst (λ (t : Tree). Inside g (Run e) (set_fl (logged (eval_by (read_w (fresh s.size) e) t (begun s)) e) e f2)) (sym form_is) (i_ended s (begun s) i l.owns i_begun f_begun (up_same s.done e []) few_begun)

      rerun_inside : (In e s.queue → ⊥) → Goes_on g nobody s (rerun s e) × Others s (rerun s e) × Disposed (rerun s e) × Spared s (rerun s e)
      rerun_inside nq =
          let All : St → Type 0 = λ x. Goes_on g nobody s x × Others s x × Disposed x × Spared s x in
          subst All (sym (rerun_is s e (ap (λ (z : Given). z.kind e) i.same ∙ ke)))
          (subst (λ (t : Tree). All (purge (set_fl (logged (eval_by (read_w (fresh s.size) e) t (begun s)) e) e f2) e)) (sym form_is)
          (later_run s (begun s) i l.owns i_begun f_begun (up_same s.done e []) few_begun nq))

    -- ---- e is taken off the queue
    module _ (s : St) (q : List ℕ) (i : Inside g nobody s) (is : s.queue ≡ e ∷ q) where
      abbrev s' : St
      s' = with_queue s q

      ones : Once (e ∷ q)
      ones = subst Once is i.once

      pub popped : Inside g (Run e) s'
      popped = record {
        same = i.same;
        lists = i.lists;
        goes = i.goes;
        gone_kind = i.gone_kind;
        fits = i.fits;
        no_wake = i.no_wake;
        once = ones.1;
        effects = λ n j. i.effects n (subst (In n) (sym is) (inr j));
        rests = λ n h f. other n (λ z. f (inr z)) (i.rests n h (λ z. z));
      }
        where
          in_rest : (n : ℕ) → (n ≡ e → ⊥) → In n s.queue → In n q
          in_rest n f j = go (subst (In n) is j)
            where
              go : In n (e ∷ q) → In n q
              go (inl z) = absurd (f z)
              go (inr z) = z

          in_all : (n : ℕ) → In n q → In n s.queue
          in_all n j = subst (In n) (sym is) (inr j)

          flags : (n : ℕ) (f : Named) (reads : List ℕ) → (n ≡ e → ⊥) → EffectFlags n f s.queue reads → EffectFlags n f q reads
          flags n f reads ne (watching a b) = watching a (λ j. b (in_all n j))
          flags n f reads ne (pushed a b) = pushed a (in_rest n ne b)
          flags n f reads ne (pending a b c) = pending a (in_rest n ne b) c
          flags n f reads ne (dirty a b c) = dirty a (in_rest n ne b) c

          other : (n : ℕ) → (n ≡ e → ⊥) → Rests g s n → Rests g s' n
          other n ne r = record {
            tail = r.tail;
            owned = r.owned;
            unowned = r.unowned;
            bare = r.bare;
            few = r.few;
            of_signal = r.of_signal;
            of_computed = r.of_computed;
            of_effect = λ k a. flags n (s.fl n) _ ne (r.of_effect k a);
            of_scope = r.of_scope;
            of_gone = r.of_gone;
            queued = λ j a. r.queued (in_all n j) a;
          }

      pub was : Rests g s e
      was = i.rests e he (λ z. z)

      pub lies : s.gone e ≡ false → Lies s' e
      lies a = record { owns = record { owned = λ o z. was.owned o a z; unowned = λ z. was.unowned re z; alive = a }; tail = was.tail; few = was.few }

      pub popped_open : Open g st (Run e) s'
      popped_open = record { known = run_known; pays = λ n h x. at n x }
        where
          at : (n : ℕ) → Run e n → Paid g s' n
          at n (inl x') = elim x' [ ]
          at n (inr z) = subst (Paid g s') (sym z) (record { enough = (rests_paid g st nobody s e i he was).enough })

      -- well-formed and not stuck; effects that are still live keep their read links, but for e if it has a row, and then what it owned is gone, and nothing else
      pub record RunOn (t : St) : Type 0 where
        pub inside : Inside g nobody t
        pub stuck : t.stuck ≡ s.stuck
        pub reads : (m : ℕ) → m < g.size → g.kind m ≡ effect → t.gone m ≡ false → SameReads g.kind s t m ⊎ ((m ≡ e) × (t.log ≡ s.log → ⊥))
        pub disposed : (t.log ≡ s.log → ⊥) → Disposed t
        pub spared : (m : ℕ) → readable (g.kind m) ≡ false → ((t.log ≡ s.log → ⊥) → Below g.owner e m × (m ≡ e → ⊥) → ⊥) → t.gone m ≡ s.gone m

      has_row : (t : St) → t.log ≡ s.log → (rerun t e).log ≡ s.log → ⊥
      has_row t q z =
          let r = rerun_row t e in
          let a = ap length (sym z ∙ r.2) in
          let b = length-append t.log (r.0 ∷ []) in
          let c = ap (λ (x : List Row). length x) q in
          omega arith

      rerun_on : (t : St) → t.log ≡ s.log → t.stuck ≡ s.stuck → ((m : ℕ) → g.kind m ≡ effect → SameReads g.kind s t m) → ((m : ℕ) → readable (g.kind m) ≡ false → t.gone m ≡ s.gone m) → Goes_on g nobody t (rerun t e) × Others t (rerun t e) × Disposed (rerun t e) × Spared t (rerun t e) → RunOn (rerun t e)
      rerun_on t q k same marks w = record {
        inside = w.0.inside;
        stuck = w.0.stuck ∙ k;
        reads = λ m h z a. either (eqb m e) (λ y. inr (eqb-true m e y, has_row t q)) (λ y. inl (reads_then g.kind s t (rerun t e) m (same m z) (w.1 m h z (eqb-false m e y) a)));
        disposed = λ z. w.2;
        spared = λ m r f. w.3 m r (f (has_row t q)) ∙ marks m r;
      }

      -- it does not run
      calmed : (s.gone e ≡ true) ⊎ (s.gone e ≡ false) → RunOn (set_fl s' e f2)
      calmed c =
          let t = set_fl s' e f2 in
          let it : Inside g (Run e) t = flags_inside g (Run e) s' e popped (inr refl) f2 (λ z. false≢true z) in
          record { inside = let_out g nobody t e it (at c); stuck = refl; reads = λ m h k a. inl (record { links = refl; ends = λ l j. (refl, refl) }); disposed = λ z. absurd (z refl); spared = λ m r f. refl }
        where
          at : (s.gone e ≡ true) ⊎ (s.gone e ≡ false) → Rests g (set_fl s' e f2) e
          at (inl a) = record {
            tail = was.tail;
            owned = was.owned;
            unowned = was.unowned;
            bare = was.bare;
            few = was.few;
            of_signal = λ k. clash (ap readable k) re;
            of_computed = λ k. clash (ap readable k) re;
            of_effect = λ k b. clash a b;
            of_scope = λ k. clash (ap is_effect ke) (ap is_effect k);
            of_gone = λ k b. inr (up_same s.fl e f2);
            queued = λ j b. absurd (ones.0 j);
          }
          at (inr a) = let l = lies a in lies_rests (set_fl s' e f2) (record { owns = record { owned = l.owns.owned; unowned = l.owns.unowned; alive = a }; tail = l.tail; few = l.few }) ones.0 (up_same s.fl e f2)

      module _ (a : s.gone e ≡ false) (reads : read_links g.kind s.dep (s.done e) ≡ [] → ⊥) (pd : (s.fl e).pending ≡ true) where
        pub has_deps : deps s' e ≡ [] → ⊥
        unfolding read_links
        has_deps z = reads (ap (read_links g.kind s.dep) (append_is_nil (s.done e) (s.rest e) z).0)

        pub checked : Checked g st s'.size (fresh s'.size) (fresh_inside g st s'.size) (Run e) s' e (check s' e)
        checked =
            let k = size_is (Run e) s' popped in
            check_inside g st s'.size (fresh s'.size) (fresh_inside g st s'.size) (Run e) e he (omega arith) run_above run_apart s' popped popped_open has_deps

        e_far : Low g (rank e) e → ⊥
        e_far p = let z = p.1 in omega arith

        wide : Frame g (Near g st e) (rank e) s' (check s' e).st
        wide = frame_wider g (Low g (rank e)) (Near g st e) e e s' (check s' e).st (λ m p. inl p) (omega arith) checked.frame

        pub lies_checked : Lies (check s' e).st e
        lies_checked =
            let t = (check s' e).st in
            let f = checked.frame.lists e e_far in
            let ends : read_links g.kind t.dep (s.done e) ≡ read_links g.kind s.dep (s.done e) =
            reads_agree g.kind s.dep t.dep (s.done e) (λ l z. let x = i.lists.deps_live l e (in_left l (s.done e) (s.rest e) z) in (checked.frame.links l x.0 (λ p. e_far (subst (Low g (rank e)) x.1 p))).1) in
            record {
              owns = owns_moves (Run e) e s' t popped wide (lies a).owns;
              tail = f.1 ∙ was.tail;
              few = subst (λ (x : List ℕ). length (read_links g.kind t.dep x) ≤ reads_of g st e) (sym f.0) (subst (λ (x : List ℕ). length x ≤ reads_of g st e) (sym ends) was.few);
            }

        not_queued : In e (check s' e).st.queue → ⊥
        not_queued j = ones.0 (subst (In e) (queue_still s' (check s' e).st (check_ring Still renews_still s' e)) j)

        checked_reads : (m : ℕ) → g.kind m ≡ effect → SameReads g.kind s (check s' e).st m
        checked_reads m k = let r = frame_reads g st (Run e) (Low g (rank e)) e s' (check s' e).st m popped checked.frame (λ p. clash (ap is_effect k) (ap is_effect p.0)) in record { links = r.links; ends = r.ends }

        checked_run : RunOn (elim (check s' e).yes [ true ↦ rerun (check s' e).st e | false ↦ set_fl (check s' e).st e f2 ])
        checked_run =
            let c = check s' e in
            let t = c.st in
            branch RunOn c.yes
            (λ y. rerun_on t (ap (λ (f : Fixed). f.log) (check_ring Still renews_still s' e).same) checked.frame.stuck checked_reads checked.frame.gone
            (rerun_inside t checked.inside lies_checked (checked.frame.pending e e_far (λ k. clash (ap readable k) re) ∙ pd) not_queued))
            (λ y. let x = set_fl t e f2 in
            let l = lies_checked in
            let it : Inside g (Run e) x = flags_inside g (Run e) t e checked.inside (inr refl) f2 (λ z. false≢true z) in
            record {
              inside = let_out g nobody x e it
                  (lies_rests x (record { owns = record { owned = l.owns.owned; unowned = l.owns.unowned; alive = l.owns.alive }; tail = l.tail; few = l.few }) not_queued (up_same t.fl e f2));
              stuck = checked.frame.stuck;
              reads = λ m h k a. inl (let r = checked_reads m k in record { links = r.links; ends = r.ends });
              disposed = λ z. absurd (z (ap (λ (f : Fixed). f.log) (check_ring Still renews_still s' e).same));
              spared = λ m r f. checked.frame.gone m r;
            })

      pub run_inside : RunOn (run s' e)
      unfolding run
      run_inside =
          branch RunOn (s.fl e).dirty (λ d. at_dirty d)
          (λ d. branch RunOn (s.fl e).pending (λ p. at_pending p)
          (λ p. calmed (either (s.gone e) (λ a. inl a) (λ a. inr a))))
        where
          at_dirty : (s.fl e).dirty ≡ true → RunOn (rerun s' e)
          at_dirty d = either (s.gone e) (λ a. clash d (ap (λ (z : Named). z.dirty) (was.queued (subst (In e) (sym is) (inl refl)) a))) (λ a. go a (was.of_effect ke a))
            where
              go : s.gone e ≡ false → EffectFlags e (s.fl e) s.queue (read_links g.kind s.dep (s.done e)) → RunOn (rerun s' e)
              go a (watching x y) = clash d (ap (λ (z : Named). z.dirty) x)
              go a (pushed x y) = clash d (ap (λ (z : Named). z.dirty) x)
              go a (pending x y z) = clash d (ap (λ (z : Named). z.dirty) x)
              go a (dirty x y z) = rerun_on s' refl refl (λ m k. record { links = refl; ends = λ l j. (refl, refl) }) (λ m r. refl) (rerun_inside s' popped (lies a) (ap (λ (z : Named). z.pending) x) ones.0)

          at_pending : (s.fl e).pending ≡ true → RunOn (elim (check s' e).yes [ true ↦ rerun (check s' e).st e | false ↦ set_fl (check s' e).st e f2 ])
          at_pending p = either (s.gone e) (λ a. clash p (ap (λ (z : Named). z.pending) (was.queued (subst (In e) (sym is) (inl refl)) a))) (λ a. go a (was.of_effect ke a))
            where
              go : s.gone e ≡ false → EffectFlags e (s.fl e) s.queue (read_links g.kind s.dep (s.done e)) → RunOn (elim (check s' e).yes [ true ↦ rerun (check s' e).st e | false ↦ set_fl (check s' e).st e f2 ])
              go a (watching x y) = clash p (ap (λ (z : Named). z.pending) x)
              go a (pushed x y) = clash p (ap (λ (z : Named). z.pending) x)
              go a (pending x y z) = checked_run a z p
              go a (dirty x y z) = checked_run a z p

  -- ---- the flush
  pub flush_inside : (q : List ℕ) (s : St) → Inside g nobody s → s.queue ≡ q → Goes_on g nobody s (flush_on s q)
  unfolding flush_on
  flush_inside [] s i is = record { inside = i; stuck = refl }
  flush_inside (e ∷ q) s i is =
      let x = i.effects e (subst (In e) (sym is) (inl refl)) in
      let r = run_inside e x.0 x.1 s q i is in
      let n = flush_inside q (run (with_queue s q) e) r.inside (run_queues_nothing (with_queue s q) e) in
      record { inside = n.inside; stuck = n.stuck ∙ r.stuck }
