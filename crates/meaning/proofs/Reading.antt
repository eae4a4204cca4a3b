-- Evaluation inside an operation: each read brings its node up to date and links it; there is a slot for it, since at most as many reads are made as the formula names. Assumes nothing.
use mathlib.Core.Path.{◌≡◌, refl, sym, ap, ap₂, ◌∙◌, subst}
use mathlib.Core.Logic.{◌⊎◌, inl, inr}
use mathlib.Core.Bool.{Bool, true, false, ◌||◌}
use mathlib.Core.List.{List, [], ◌∷◌, ◌++◌, append-nil}
use Prim.Native.Nat.{ℕ, suc, ◌+◌, ◌≤◌, ◌<◌}
use native.Mathlib.Omega.{arith}
use lib.Dec.{eqb}
use lib.ListN.{length, length-append}
use borrow.Author.Tests.{eqb-true, eqb-false}
use Rattle.flags.specs.declared.Named.{Named}
use Rattle.values.specs.Values.{is_zero}
use Rattle.trees.specs.Trees.{Tree, constant, read, two, choose, names}
use Rattle.meaning.specs.State.{St, Kind, signal, computed, effect, scope, readable, has_value, rank, f1, up}
use Rattle.meaning.specs.Links.{head_of, goes_to, renew, spent, insert, link}
use Rattle.meaning.specs.Reads.{Ans, Out, eval_by, spread, settle_w, read_w}
use Rattle.meaning.specs.Reserve.{reserve_of, live_links}
use Rattle.meaning.specs.WellFormed.{In, read_links}
use Rattle.meaning.proofs.Laws.{clash, false≢true, either, branch, provided_same, or_false, up_same, up_other, in_left, in_right, in_cases}
use Rattle.meaning.proofs.Rings.{link_ways}
use Rattle.meaning.proofs.Members.{nil_none, reads_few, reads_append, reads_agree}
use Rattle.meaning.proofs.Still.{Given}
use Rattle.meaning.proofs.Inside.{Set, also, Static, Goes, Inside, reserved, widen, let_out}
use Rattle.meaning.proofs.Room.{owner_links, paid, spends, Paid, rests_paid, live_reserved, slot_left}
use Rattle.meaning.proofs.Linking.{renew_inside, insert_inside, other}
use Rattle.meaning.proofs.Frames.{Low, Frame, frame_flags, frame_then, frame_wider, paid_frame, Open, rests_clean}
use Rattle.meaning.proofs.Soiling.{shallow_inside, shallow_clean, shallow_frame}

-- what can be read and is clean has a value
clean_has : (k : Kind) → readable k ≡ true → has_value k f1 ≡ true
clean_has signal q = refl
clean_has computed q = refl
clean_has effect q = q
clean_has scope q = q

module _ (g : Given) (st : Static g) where
  -- the nodes of X that can be read lie above n
  abbrev pub Above : Set → ℕ → Type 0
  Above X n = (m : ℕ) → X m → readable (g.kind m) ≡ true → rank n < rank m

  -- ---- a node brought up to date
  pub record Freshened (X : Set) (s : St) (n : ℕ) (a : Ans) : Type 0 where
    pub inside : Inside g X a.st
    pub frame : Frame g (Low g (suc (rank n))) (rank n) s a.st
    pub clean : a.st.fl n ≡ f1
    pub changed : a.yes ≡ true → s.fl n ≡ f1 → ⊥

  -- fr brings nodes of a rank below k up to date
  abbrev pub Freshens : ℕ → (St → ℕ → Ans) → Type 1
  Freshens k fr = (X : Set) (s : St) (n : ℕ) → Inside g X s → Open g st X s → n < g.size → readable (g.kind n) ≡ true → Above X n → rank n < k → Freshened X s n (fr s n)

  pub record Settled (X : Set) (s : St) (n : ℕ) (t : St) : Type 0 where
    pub inside : Inside g X t
    pub frame : Frame g (Low g (suc (rank n))) (suc (rank n)) s t
    pub clean : t.fl n ≡ f1

  module _ (k : ℕ) (fr : St → ℕ → Ans) (frs : Freshens k fr) (X : Set) (s : St) (n : ℕ) (i : Inside g X s) (o : Open g st X s) (h : n < g.size) (r : readable (g.kind n) ≡ true) (ab : Above X n) (lt : rank n < k) where
    spread_inside : Settled X s n (spread (fr s n) n)
    spread_inside =
        let a = fr s n in
        let f = frs X s n i o h r ab lt in
        branch (Settled X s n) a.yes
        (λ e. record {
          inside = shallow_inside g X a.st n f.inside;
          frame = shallow_frame g X (Low g (suc (rank n))) n (suc n) s a.st n i f.inside f.frame (omega arith) (omega arith) r (f.changed e);
          clean = shallow_clean g X a.st n f.inside n f.clean;
        })
        (λ e. record { inside = f.inside; frame = frame_wider g (Low g (suc (rank n))) (Low g (suc (rank n))) n (suc n) s a.st (λ m z. z) (omega arith) f.frame; clean = f.clean })

    -- its value is there
    pub settle_spreads : settle_w fr s n ≡ spread (fr s n) n
    unfolding settle_w
    settle_spreads =
        let w = spread_inside in
        provided_same _ (spread (fr s n) n) (ap₂ has_value (ap (λ (z : Given). z.kind n) w.inside.same) w.clean ∙ clean_has (g.kind n) r)

    pub settle_inside : Settled X s n (settle_w fr s n)
    settle_inside = subst (Settled X s n) (sym settle_spreads) spread_inside

  -- ---- an evaluation of u under way: i reads are made
  abbrev pub Near : ℕ → Set
  Near u m = Low g (rank u) m ⊎ (m ≡ u)

  abbrev pub reads_of : ℕ → ℕ
  reads_of u = length (names (g.form u))

  pub record During (X : Set) (u : ℕ) (s₀ : St) (i : ℕ) (s : St) : Type 0 where
    pub inside : Inside g X s
    pub frame : Frame g (Near u) (rank u) s₀ s
    pub few : length (s.done u) ≤ i
    pub reads : (l : ℕ) → In l (s.done u) → readable (g.kind (s.dep l)) ≡ true
    pub left : length (read_links g.kind s.dep (s.rest u)) ≤ reads_of u
    pub spare : length (owner_links (g.kind u) (s.subs u)) + (reads_of u + reads_of u) ≤ spends g s u
    pub tail : s₀.rest u ≡ [] → s.rest u ≡ []
    pub calm : (s₀.fl u).pending ≡ false → s.fl u ≡ s₀.fl u
    pub sto : s.sto u ≡ s₀.sto u
    pub known : (n : ℕ) → X n ⊎ (X n → ⊥)
    pub pays : (n : ℕ) → n < g.size → X n → (n ≡ u → ⊥) → Paid g s n

  module _ (X : Set) (u : ℕ) (xu : X u) (hu : u < g.size) (above : (m : ℕ) → X m → readable (g.kind m) ≡ true → rank u ≤ rank m) (s₀ : St) (i₀ : Inside g X s₀) where
    paid_u : (i : ℕ) (s : St) → During X u s₀ i s → paid g s u ≤ i + reads_of u + length (owner_links (g.kind u) (s.subs u))
    paid_u i s d =
        let a = ap length (reads_append g.kind s.dep (s.done u) (s.rest u)) in
        let b = length-append (read_links g.kind s.dep (s.done u)) (read_links g.kind s.dep (s.rest u)) in
        let c = reads_few g.kind s.dep (s.done u) in
        let e = d.few in
        let f = d.left in
        omega arith

    pub during_open : (i : ℕ) (s : St) → During X u s₀ i s → i ≤ reads_of u → Open g st X s
    during_open i s d le = record {
      known = d.known;
      pays = λ n h x. either (eqb n u)
          (λ e. let a = paid_u i s d in let b = d.spare in
          let p : Paid g s u = record { enough = omega arith } in
          subst (Paid g s) (sym (eqb-true n u e)) p)
          (λ e. d.pays n h x (eqb-false n u e));
    }

    -- all have paid
    all_pay : (i : ℕ) (s : St) → During X u s₀ i s → i ≤ reads_of u → (n : ℕ) → n < g.size → Paid g s n
    all_pay i s d le n h = go (d.known n)
      where
        go : X n ⊎ (X n → ⊥) → Paid g s n
        go (inl x) = (during_open i s d le).pays n h x
        go (inr f) = rests_paid g st X s n d.inside h (d.inside.rests n h f)

    -- so, between any two reads, live links are at most the reserve, and that at most the slots
    pub room_during : (i : ℕ) (s : St) → During X u s₀ i s → i ≤ reads_of u → (live_links s ≤ reserved g s.gone) × (reserved g s.gone ≤ g.room.slots)
    room_during i s d le = live_reserved g st X s d.inside (all_pay i s d le)

    outside : (n : ℕ) → X n → (n ≡ u → ⊥) → Near u n → ⊥
    outside n x f (inl p) = let a = above n x (ap readable p.0) in let b = p.1 in omega arith
    outside n x f (inr q) = f q

    -- one step more
    step : (i : ℕ) (s t : St) → During X u s₀ i s → Inside g X t → Frame g (Near u) (rank u) s t → length (t.done u) ≤ suc i → length (read_links g.kind t.dep (t.rest u)) ≤ reads_of u → (s.rest u ≡ [] → t.rest u ≡ []) → ((l : ℕ) → In l (t.done u) → readable (g.kind (t.dep l)) ≡ true) → ((s.fl u).pending ≡ false → t.fl u ≡ s.fl u) → t.sto u ≡ s.sto u → During X u s₀ (suc i) t
    step i s t d j f few left tail reads calm sto = record {
      inside = j;
      frame = frame_then g (Near u) u s₀ s t i₀.lists d.inside.lists d.frame f;
      few = few;
      reads = reads;
      left = left;
      spare = let a = ap length (owners (readable (g.kind u)) refl) in let b = spent in let c = d.spare in omega arith;
      tail = λ e. tail (d.tail e);
      calm = λ e. let x = d.calm e in calm (ap (λ (z : Named). z.pending) x ∙ e) ∙ x;
      sto = sto ∙ d.sto;
      known = d.known;
      pays = λ n h x q. paid_frame g st X (Near u) u s t n d.inside j f h (outside n x q) (d.pays n h x q);
    }
      where
        owners : (b : Bool) → readable (g.kind u) ≡ b → ◌≡◌ {A = List ℕ} (elim b [ true ↦ [] | false ↦ t.subs u ]) (elim b [ true ↦ [] | false ↦ s.subs u ])
        owners true r = refl
        owners false r = f.subs u (λ q. omega arith)

        spent : spends g t u ≡ spends g s u
        spent = ap (λ (b : Bool). reserve_of (g.kind u) b (g.form u) (g.owner u))
            (either (readable (g.kind u)) (λ r. j.gone_kind u hu r ∙ sym (d.inside.gone_kind u hu r)) (λ r. f.gone u r))

    pub later : (i j : ℕ) (s : St) → i ≤ j → During X u s₀ i s → During X u s₀ j s
    later i j s le d = let a = d.few in record { inside = d.inside; frame = d.frame; few = omega arith; reads = d.reads; left = d.left; spare = d.spare; tail = d.tail; calm = d.calm; sto = d.sto; known = d.known; pays = d.pays }

    -- ---- the link to m, which is clean
    module _ (m : ℕ) (named : In m (names (g.form u))) where
      m_low : (readable (g.kind m) ≡ true) × (rank m < rank u)
      m_low = st.names_lower u m hu named

      m_off : X m → ⊥
      m_off x = let a = above m x m_low.0 in let b = m_low.1 in omega arith

      goes_there : Goes g m u
      goes_there = record {
        of_signal = λ k. nil_none (names (g.form u)) m (st.nameless u hu (inl k)) named;
        of_computed = λ k. m_low.0;
        of_scope = λ k. absurd (nil_none (names (g.form u)) m (st.nameless u hu (inr k)) named);
        lower = λ r. m_low.1;
        named = λ r. named;
        owned = λ r. clash m_low.0 r;
      }

      renewed : (i : ℕ) (s : St) (v : ℕ) → During X u s₀ i s → (ls : List ℕ) → s.rest u ≡ ls → goes_to s (head_of ls) m ≡ true → During X u s₀ (suc i) (renew s u v ls)
      unfolding renew
      renewed i s v d [] e q = false≢true q
      renewed i s v d (l ∷ ls) e q =
          let t = renew s u v (l ∷ ls) in
          let f : Frame g (Near u) (rank u) s t = frame_flags g (Near u) u s t refl refl refl refl refl refl
          (λ k lv a. up_other s.ver l v k (λ z. a (inr (ap s.sub z ∙ (d.inside.lists.deps_live l u (in_right l (s.done u) (s.rest u) (subst (In l) (sym e) (inl refl)))).1))))
          (λ n a. (up_other s.done u (s.done u ++ l ∷ []) n (λ z. a (inr z)), up_other s.rest u ls n (λ z. a (inr z)))) (λ n a k. refl) (λ n z. z) (λ n a k. refl) in
          let a = ap length (up_same s.done u (s.done u ++ l ∷ [])) in
          let b = length-append (s.done u) (l ∷ []) in
          let c = d.few in
          let x = ap (λ (z : List ℕ). length (read_links g.kind s.dep z)) (up_same s.rest u ls) in
          let y = ap length (reads_append g.kind s.dep (l ∷ []) ls) in
          let z = length-append (read_links g.kind s.dep (l ∷ [])) (read_links g.kind s.dep ls) in
          let w = ap (λ (z : List ℕ). length (read_links g.kind s.dep z)) e in
          let k = d.left in
          step i s t d (renew_inside g X s u v l ls d.inside xu e) f (omega arith) (omega arith) (λ p. absurd (nil_none (s.rest u) l p (subst (In l) (sym e) (inl refl))))
          (λ k j. last_read d (λ k j. d.reads k j) k (subst (In k) (up_same s.done u (s.done u ++ l ∷ [])) j)) (λ z. refl) refl
        where
          last_read : During X u s₀ i s → ((k : ℕ) → In k (s.done u) → readable (g.kind (s.dep k)) ≡ true) → (k : ℕ) → In k (s.done u ++ l ∷ []) → readable (g.kind (s.dep k)) ≡ true
          last_read d h k j = in_cases k (s.done u) (l ∷ []) j (h k) (λ z. here z)
            where
              here : In k (l ∷ []) → readable (g.kind (s.dep k)) ≡ true
              here (inr x3) = elim x3 [ ]
              here (inl z) = ap (λ (x : ℕ). readable (g.kind (s.dep x))) z ∙ ap (λ (x : ℕ). readable (g.kind x)) (eqb-true (s.dep l) m q) ∙ m_low.0

      module _ (i : ℕ) (s : St) (v : ℕ) (d : During X u s₀ i s) (lt : i < reads_of u) (clean : s.fl m ≡ f1) where
        all_paid : (n : ℕ) → n < g.size → Paid g s n
        all_paid = all_pay i s d (omega arith)

        -- there is a slot for it
        pub slot_free : s.free ≡ [] → ⊥
        slot_free = let a = paid_u i s d in let b = d.spare in (slot_left g st X s u d.inside hu (omega arith) all_paid).0

        unspent : (s.stuck || spent s) ≡ s.stuck
        unspent = let a = paid_u i s d in let b = d.spare in ap (λ (x : Bool). s.stuck || x) (slot_left g st X s u d.inside hu (omega arith) all_paid).1 ∙ or_false s.stuck

        inserted : (ls : List ℕ) → s.free ≡ ls → During X u s₀ (suc i) (insert s m u v ls)
        unfolding insert
        inserted [] e = absurd (slot_free e)
        inserted (l ∷ ls) e =
            let t = insert s m u v (l ∷ ls) in
            let hm : m < g.size = let z = m_low.1 in omega arith in
            let j = insert_inside g X s m u v l ls d.inside e goes_there hm hu in
            let away : (k : ℕ) → s.live k ≡ true → k ≡ l → ⊥ = other g X s m u v l ls d.inside e goes_there hm hu in
            let was = d.inside.rests m hm m_off in
            let m_other : m ≡ u → ⊥ = λ q. let z = m_low.1 in omega arith in
            let links : s.done m ++ s.rest m ≡ s.done m = ap (λ (x : List ℕ). s.done m ++ x) was.tail ∙ append-nil (s.done m) in
            let done_m : t.done m ≡ s.done m = up_other s.done u (s.done u ++ l ∷ []) m m_other in
            let ends : read_links g.kind t.dep (s.done m) ≡ read_links g.kind s.dep (s.done m) =
            reads_agree g.kind s.dep t.dep (s.done m) (λ k z. up_other s.dep l m k (away k (d.inside.lists.deps_live k m (in_left k (s.done m) (s.rest m) z)).0)) in
            let few_m : length (read_links g.kind t.dep (t.done m)) ≤ length (names (g.form m)) =
            subst (λ (x : List ℕ). length (read_links g.kind t.dep x) ≤ length (names (g.form m))) (sym done_m) (subst (λ (x : List ℕ). length x ≤ length (names (g.form m))) (sym ends) was.few) in
            let it : Inside g X t =
            let_out g X t m (widen g (also (also X m) u) (also X m) t in_x j)
            (rests_clean g st t.queue t.dep t.sub m (t.fl m) (t.gone m) (t.done m) (t.rest m) (t.subs m) hm m_low.0 clean (d.inside.gone_kind m hm m_low.0) was.tail few_m) in
            let f : Frame g (Near u) (rank u) s t = record {
              lists = λ n a. (up_other s.done u (s.done u ++ l ∷ []) n (λ z. a (inr z)), refl);
              subs = λ n a. up_other s.subs m (s.subs m ++ l ∷ []) n (λ q. let x = m_low.1 in let y = a (ap (λ (k : ℕ). readable (g.kind k)) q ∙ m_low.0) in omega arith);
              gone = λ n a. refl;
              links = λ k lv a. (up_other s.live l true k (away k lv) ∙ lv, up_other s.dep l m k (away k lv), up_other s.sub l u k (away k lv));
              ver = λ k lv a. up_other s.ver l v k (away k lv);
              held = λ k lv a q. q;
              pending = λ n a q. refl;
              calm = λ n a q z. refl;
              sto = λ n a q. refl;
              soiled = λ n a q x y. clash y x;
              stuck = unspent;
            } in
            let a = ap length (up_same s.done u (s.done u ++ l ∷ [])) in
            let b = length-append (s.done u) (l ∷ []) in
            let c = d.few in
            let rest_ends : read_links g.kind t.dep (s.rest u) ≡ read_links g.kind s.dep (s.rest u) =
            reads_agree g.kind s.dep t.dep (s.rest u) (λ k z. up_other s.dep l m k (away k (d.inside.lists.deps_live k u (in_right k (s.done u) (s.rest u) z)).0)) in
            let y = ap length rest_ends in
            let k = d.left in
            step i s t d it f (omega arith) (omega arith) (λ p. p)
            (λ k j. in_cases k (s.done u) (l ∷ []) (subst (In k) (up_same s.done u (s.done u ++ l ∷ [])) j)
            (λ z. ap (λ (x : ℕ). readable (g.kind x)) (up_other s.dep l m k (away k (d.inside.lists.deps_live k u (in_left k (s.done u) (s.rest u) z)).0)) ∙ d.reads k z)
            (λ z. here k z)) (λ z. refl) refl
          where
            here : (k : ℕ) → In k (l ∷ []) → readable (g.kind (up s.dep l m k)) ≡ true
            here k (inr x'') = elim x'' [ ]
            here k (inl z) = ap (λ (x : ℕ). readable (g.kind (up s.dep l m x))) z ∙ ap (λ (x : ℕ). readable (g.kind x)) (up_same s.dep l m) ∙ m_low.0

            in_x : (n : ℕ) → also (also X m) u n → also X m n
            in_x n (inl z) = z
            in_x n (inr q) = inl (subst X (sym q) xu)

        pub link_during : During X u s₀ (suc i) (link s m u v)
        link_during =
            link_ways (During X u s₀ (suc i)) s m u v (λ e. later i (suc i) s (omega arith) d) (λ q. renewed i s v d (s.rest u) refl q) (λ z. later i (suc i) s (omega arith) d) (inserted s.free refl)

      -- ---- a read of m: it is brought up to date, and linked
      pub m_settled : (k : ℕ) (fr : St → ℕ → Ans) → Freshens k fr → u ≤ k → (i : ℕ) (s : St) → During X u s₀ i s → i < reads_of u → Settled X s m (settle_w fr s m)
      m_settled k fr frs le i s d lt =
          let lo = m_low.1 in
          settle_inside k fr frs X s m d.inside (during_open i s d (omega arith)) (omega arith) m_low.0 (λ n x r. let a = above n x r in omega arith) (omega arith)

      pub settle_during : (k : ℕ) (fr : St → ℕ → Ans) → Freshens k fr → u ≤ k → (i : ℕ) (s : St) → During X u s₀ i s → i < reads_of u → During X u s₀ i (settle_w fr s m)
      settle_during k fr frs le i s d lt =
          let lo = m_low.1 in
          let t = settle_w fr s m in
          let w = m_settled k fr frs le i s d lt in
          let off : Low g (suc (rank m)) u → ⊥ = λ p. let a = p.1 in omega arith in
          let same = w.frame.lists u off in
          let rest_ends : read_links g.kind t.dep (s.rest u) ≡ read_links g.kind s.dep (s.rest u) =
          reads_agree g.kind s.dep t.dep (s.rest u) (λ l z. let x = d.inside.lists.deps_live l u (in_right l (s.done u) (s.rest u) z) in (w.frame.links l x.0 (λ p. off (subst (Low g (suc (rank m))) x.1 p))).1) in
          let calm : (s.fl u).pending ≡ false → t.fl u ≡ s.fl u = w.frame.calm u off goes_there.of_signal in
          let sto : t.sto u ≡ s.sto u = w.frame.sto u off goes_there.of_signal in
          let wide : Frame g (Near u) (rank u) s t = frame_wider g (Low g (suc (rank m))) (Near u) (suc m) u s t (λ n p. let a = p.1 in inl (p.0, omega arith)) (omega arith) w.frame in
          let a = ap length same.0 in
          let b = ap (λ (x : List ℕ). length (read_links g.kind t.dep x)) same.1 in
          let c = ap length rest_ends in
          let e = d.few in
          let f = d.left in
          let kept : (l : ℕ) → In l (t.done u) → readable (g.kind (t.dep l)) ≡ true = λ l j.
          let z = subst (In l) same.0 j in
          let x = d.inside.lists.deps_live l u (in_left l (s.done u) (s.rest u) z) in
          ap (λ (y : ℕ). readable (g.kind y)) (w.frame.links l x.0 (λ p. off (subst (Low g (suc m)) x.1 p))).1 ∙ d.reads l z in
          record {
            inside = w.inside;
            frame = frame_then g (Near u) u s₀ s t i₀.lists d.inside.lists d.frame wide;
            few = omega arith;
            reads = kept;
            left = omega arith;
            spare = (step i s t d w.inside wide (omega arith) (omega arith) (λ p. same.1 ∙ p) kept calm sto).spare;
            tail = λ q. same.1 ∙ d.tail q;
            calm = λ q. let x = d.calm q in calm (ap (λ (z : Named). z.pending) x ∙ q) ∙ x;
            sto = sto ∙ d.sto;
            known = d.known;
            pays = λ n h x q. paid_frame g st X (Near u) u s t n d.inside w.inside wide h (outside n x q) (d.pays n h x q);
          }

      pub read_during : (k : ℕ) (fr : St → ℕ → Ans) → Freshens k fr → u ≤ k → (i : ℕ) (s : St) → During X u s₀ i s → i < reads_of u → During X u s₀ (suc i) (read_w fr u s m)
      read_during k fr frs le i s d lt =
          let t = settle_w fr s m in
          link_during i t t.cycle (settle_during k fr frs le i s d lt) lt (m_settled k fr frs le i s d lt).clean

    -- ---- the formula, left to right
    pub eval_during : (k : ℕ) (fr : St → ℕ → Ans) → Freshens k fr → u ≤ k → (f : Tree) → ((m : ℕ) → In m (names f) → In m (names (g.form u))) → (i : ℕ) (s : St) → i + length (names f) ≤ reads_of u
        → During X u s₀ i s → During X u s₀ (i + length (names f)) (eval_by (read_w fr u) f s).st
    unfolding eval_by names
    eval_during k fr frs le (constant c) sub i s b d = later i (i + 0) s (omega arith) d
    eval_during k fr frs le (read m) sub i s b d =
        let e : suc i ≡ i + 1 = omega arith in
        subst (λ (j : ℕ). During X u s₀ j (read_w fr u s m)) e (read_during m (sub m (inl refl)) k fr frs le i s d (omega arith))
    eval_during k fr frs le (two o a c) sub i s b d =
        let n = length-append (names a) (names c) in
        let x = eval_during k fr frs le a (λ m z. sub m (in_left m (names a) (names c) z)) i s (omega arith) d in
        let t = (eval_by (read_w fr u) a s).st in
        let y = eval_during k fr frs le c (λ m z. sub m (in_right m (names a) (names c) z)) (i + length (names a)) t (omega arith) x in
        let z : i + length (names a) + length (names c) ≡ i + length (names a ++ names c) = omega arith in
        subst (λ (j : ℕ). During X u s₀ j (eval_by (read_w fr u) c t).st) z y
    eval_during k fr frs le (choose c a b) sub i s r d =
        let n = length-append (names c) (names a ++ names b) in
        let n' = length-append (names a) (names b) in
        let x = eval_during k fr frs le c (λ m z. sub m (in_left m (names c) (names a ++ names b) z)) i s (omega arith) d in
        let v = (eval_by (read_w fr u) c s).val in
        let t = (eval_by (read_w fr u) c s).st in
        let all = i + length (names c ++ (names a ++ names b)) in
        branch (λ (y : Out). During X u s₀ all y.st) (is_zero v) {x = eval_by (read_w fr u) b t} {y = eval_by (read_w fr u) a t}
        (λ e. later (i + length (names c) + length (names b)) all (eval_by (read_w fr u) b t).st (omega arith)
        (eval_during k fr frs le b (λ m z. sub m (in_right m (names c) (names a ++ names b) (in_right m (names a) (names b) z))) (i + length (names c)) t (omega arith) x))
        (λ e. later (i + length (names c) + length (names a)) all (eval_by (read_w fr u) a t).st (omega arith)
        (eval_during k fr frs le a (λ m z. sub m (in_right m (names c) (names a ++ names b) (in_left m (names a) (names b) z))) (i + length (names c)) t (omega arith) x))
