-- Notify and propagate keep well-formedness and are not stuck: the walk ends in time, its stack holds at most as many lists as nodes, the queue each effect once. Assumes nothing.
use Rattle.std.specs.Prelude.{Option, None, Some}
use mathlib.Core.Path.{◌≡◌, refl, sym, ap, ap₂, ◌∙◌, subst}
use mathlib.Core.Logic.{◌⊎◌, inl, inr}
use mathlib.Core.Bool.{Bool, true, false, not, ◌&&◌, ◌||◌}
use mathlib.Core.List.{List, [], ◌∷◌, ◌++◌, reverse, reverse_aux}
use Prim.Native.Nat.{ℕ, zero, suc, ◌≤◌, ◌<◌}
use native.Mathlib.Omega.{arith}
use lib.Dec.{eqb, ltb}
use lib.ListN.{length}
use borrow.Author.Tests.{eqb-true, eqb-false, le-ltb}
use Rattle.flags.specs.declared.Named.{Named}
use Rattle.meaning.specs.State.{St, Kind, signal, computed, effect, scope, readable, deps, unclean, recursing, with_pending, with_watching, f0, f1, f2, f32, up}
use Rattle.meaning.specs.Setters.{set_fl, with_stuck}
use Rattle.meaning.specs.Marks.{Marks, marks, marks_of, with_marks, chain, calm, is_effect, effects, notify, mark}
use Rattle.meaning.specs.WellFormed.{In, Once, read_links, ComputedFlags, never, clean, stale, maybe, dirty, EffectFlags, watching, pushed, pending, dirty as soiled}
use Rattle.meaning.proofs.Laws.{clash, either, branch, or_false, up_same, up_other, in_left, in_right, in_cases}
use Rattle.meaning.proofs.Members.{nil_none, in_or_not, once_both, most_below, reads_in}
use Rattle.meaning.proofs.Still.{Given}
use Rattle.meaning.proofs.Inside.{Set, nobody, also, Static, Goes, AtRest, Rests, Inside, widen, let_out, owner_owns}
use Rattle.meaning.proofs.Dropping.{a_computed, flags_inside}
use Rattle.meaning.proofs.Frames.{others}
use Rattle.meaning.proofs.Running.{Goes_on}

-- ---- lists the other way round
rev_in : (x : ℕ) (xs ys : List ℕ) → In x (reverse_aux xs ys) → In x xs ⊎ In x ys
rev_in x [] ys j = inr j
rev_in x (y ∷ xs) ys j = go (rev_in x xs (y ∷ ys) j)
  where
    go : In x xs ⊎ In x (y ∷ ys) → In x (y ∷ xs) ⊎ In x ys
    go (inl a) = inl (inr a)
    go (inr (inl e)) = inl (inl e)
    go (inr (inr a)) = inr a

in_rev : (x : ℕ) (xs ys : List ℕ) → In x xs ⊎ In x ys → In x (reverse_aux xs ys)
in_rev x [] ys (inl x3) = elim x3 [ ]
in_rev x [] ys (inr j) = j
in_rev x (y ∷ xs) ys (inl (inl e)) = in_rev x xs (y ∷ ys) (inr (inl e))
in_rev x (y ∷ xs) ys (inl (inr j)) = in_rev x xs (y ∷ ys) (inl j)
in_rev x (y ∷ xs) ys (inr j) = in_rev x xs (y ∷ ys) (inr (inr j))

rev_once : (xs ys : List ℕ) → Once xs → Once ys → ((x : ℕ) → In x xs → In x ys → ⊥) → Once (reverse_aux xs ys)
rev_once [] ys a b h = b
rev_once (x ∷ xs) ys a b h = rev_once xs (x ∷ ys) a.1 (h x (inl refl), b) (λ y i j. go y i j)
  where
    go : (y : ℕ) → In y xs → In y (x ∷ ys) → ⊥
    go y i (inl e) = a.0 (subst (λ (z : ℕ). In z xs) e i)
    go y i (inr j) = h y (inr i) j

-- ---- those of the chain watch no longer
calm_out : (c : List ℕ) (f : ℕ → Named) (n : ℕ) → (In n c → ⊥) → calm c f n ≡ f n
unfolding calm
calm_out [] f n h = refl
calm_out (e ∷ c) f n h = calm_out c (up f e (with_watching (f e) false)) n (λ i. h (inr i)) ∙ up_other f e (with_watching (f e) false) n (λ q. h (inl q))

calm_in : (c : List ℕ) (f : ℕ → Named) (n : ℕ) → Once c → In n c → calm c f n ≡ with_watching (f n) false
unfolding calm
calm_in [] f n o x'' = elim x'' [ ]
calm_in (e ∷ c) f n o (inl q) =
    calm_out c (up f e (with_watching (f e) false)) n (λ i. o.0 (subst (λ (z : ℕ). In z c) q i))
    ∙ ap (up f e (with_watching (f e) false)) q ∙ up_same f e (with_watching (f e) false) ∙ ap (λ (z : ℕ). with_watching (f z) false) (sym q)
calm_in (e ∷ c) f n o (inr i) =
    calm_in c (up f e (with_watching (f e) false)) n o.1 i
    ∙ ap (λ (z : Named). with_watching z false) (up_other f e (with_watching (f e) false) n (λ q. o.0 (subst (λ (z : ℕ). In z c) q i)))

pub stuck_inside : (g : Given) (X : Set) (s : St) (b : Bool) → Inside g X s → Inside g X (with_stuck s b)
stuck_inside g X s b i = others g X s i s.cycle s.sto s.pend s.depth s.log b

-- ---- flags at rest
pub no_recursing : (g : Given) (s : St) (n : ℕ) → Rests g s n → recursing (s.fl n) ≡ false
no_recursing g s n r = go (g.kind n) refl
  where
    of_computed : ComputedFlags (s.fl n) (s.done n) (s.subs n) → recursing (s.fl n) ≡ false
    of_computed (never e x y) = ap recursing e
    of_computed (clean e) = ap recursing e
    of_computed (stale e x) = ap recursing e
    of_computed (maybe e x) = ap recursing e
    of_computed (dirty e x) = ap recursing e

    of_effect : {queue reads : List ℕ} → EffectFlags n (s.fl n) queue reads → recursing (s.fl n) ≡ false
    of_effect (watching e x) = ap recursing e
    of_effect (pushed e x) = ap recursing e
    of_effect (pending e x y) = ap recursing e
    of_effect (soiled e x y) = ap recursing e

    of_two : {a b : Named} → recursing a ≡ false → recursing b ≡ false → (s.fl n ≡ a) ⊎ (s.fl n ≡ b) → recursing (s.fl n) ≡ false
    of_two p q (inl e) = ap recursing e ∙ p
    of_two p q (inr e) = ap recursing e ∙ q

    go : (k : Kind) → g.kind n ≡ k → recursing (s.fl n) ≡ false
    go signal e = of_two refl refl (r.of_signal e)
    go computed e = of_computed (r.of_computed e)
    go effect e = either (s.gone n) (λ a. of_two refl refl (r.of_gone e a)) (λ a. of_effect (r.of_effect e a))
    go scope e = ap recursing (r.of_scope e)

module _ (g : Given) (st : Static g) (s : St) (i : Inside g nobody s) where
  resting : (n : ℕ) → n < g.size → Rests g s n
  resting n h = i.rests n h (λ z. z)

  -- ---- a live effect that watches, and the owners of one that watch too
  record Awake (n : ℕ) : Type 0 where
    pub low : n < g.size
    pub is : g.kind n ≡ effect
    pub alive : s.gone n ≡ false
    pub awake : s.fl n ≡ f2
    pub apart : In n s.queue → ⊥

  -- a live node that watches
  wakes : (n : ℕ) → n < g.size → readable (g.kind n) ≡ false → s.gone n ≡ false → (s.fl n).watching ≡ true → Awake n
  wakes n h r a w = go (g.kind n) refl
    where
      of_effect : g.kind n ≡ effect → {reads : List ℕ} → EffectFlags n (s.fl n) s.queue reads → Awake n
      of_effect k (watching e x) = record { low = h; is = k; alive = a; awake = e; apart = x }
      of_effect k (pushed e x) = clash w (ap (λ (z : Named). z.watching) e)
      of_effect k (pending e x y) = clash w (ap (λ (z : Named). z.watching) e)
      of_effect k (soiled e x y) = clash w (ap (λ (z : Named). z.watching) e)

      go : (k : Kind) → g.kind n ≡ k → Awake n
      go signal e = clash (ap readable e) r
      go computed e = clash (ap readable e) r
      go effect e = of_effect e ((resting n h).of_effect e a)
      go scope e = clash w (ap (λ (z : Named). z.watching) ((resting n h).of_scope e))

  -- its owner is live, and lower
  owner_live : (n o : ℕ) → Awake n → g.owner n ≡ Some o → (o < n) × (s.gone o ≡ false) × (readable (g.kind o) ≡ false)
  owner_live n o w e =
      let x = (resting n w.low).owned o w.alive e in
      let lv = i.lists.subs_live x.0 n (subst (In x.0) (sym x.1) (inl refl)) in
      let lo = st.owner_lower n o w.low e in
      let lw = w.low in
      let go : Goes g n o = subst (λ (z : ℕ). Goes g n z) x.2 (subst (λ (z : ℕ). Goes g z (s.sub x.0)) lv.1 (i.goes x.0 lv.0)) in (
        lo,
        either (s.gone o)
            (λ a. absurd (gone_none o (omega arith) a x.0 (subst (λ (z : ℕ). In x.0 (deps s z)) x.2 (i.lists.live_in_deps x.0 lv.0))))
            (λ a. a),
        owner_owns g st n o go (ap readable w.is),
      )
    where
      gone_none : (o : ℕ) → o < g.size → s.gone o ≡ true → (l : ℕ) → In l (deps s o) → ⊥
      gone_none o h a l j = in_cases l (s.done o) (s.rest o) j (λ z. nil_none (s.done o) l ((resting o h).bare a).0 z) (λ z. nil_none (s.rest o) l (resting o h).tail z)

  -- the flags in the middle of a mark: those of s, but for u
  module _ (u : ℕ) (fu : Named) where
    abbrev f : ℕ → Named
    f = up s.fl u fu

    chain_in : (k : ℕ) (e : ℕ) → e ≤ u → Awake e → (x : ℕ) → In x (chain k g.owner f e) → Awake x × (x ≤ e)
    unfolding chain
    chain_in zero e le w x (inr j) = elim j [ ]
    chain_in zero e le w x (inl q) = (subst Awake (sym q) w, omega arith)
    chain_in (suc k) e le w x (inl q) = (subst Awake (sym q) w, omega arith)
    chain_in (suc k) e le w x (inr j) = go (λ o a lt b. chain_in k o (omega arith) b x a) (g.owner e) refl j
      where
        go : ((o : ℕ) → In x (chain k g.owner f o) → o < e → Awake o → Awake x × (x ≤ o)) → (p : Option ℕ) → g.owner e ≡ p
            → In x (elim p [ None ↦ [] | Some o ↦ elim (f o).watching [ true ↦ chain k g.owner f o | false ↦ [] ] ]) → Awake x × (x ≤ e)
        go rec None q z = absurd z
        go rec (Some o) q z =
            let ow = owner_live e o w q in
            let lt = ow.0 in
            let lw = w.low in
            branch (λ (c : List ℕ). In x c → Awake x × (x ≤ e)) (f o).watching
            (λ a m. let same : f o ≡ s.fl o = up_other s.fl u fu o (λ y. omega arith) in
            let r = rec o m lt (wakes o (omega arith) ow.2 ow.1 (sym (ap (λ (y : Named). y.watching) same) ∙ a)) in
            let b = r.1 in
            (r.0, omega arith))
            (λ a m. absurd m) z

    chain_once : (k : ℕ) (e : ℕ) → e ≤ u → Awake e → Once (chain k g.owner f e)
    unfolding chain
    chain_once zero e le w = (λ j. j, tt)
    chain_once (suc k) e le w = go (λ o lt b. (chain_once k o (omega arith) b, λ j. let r = (chain_in k o (omega arith) b e j).1 in omega arith)) (g.owner e) refl
      where
        go : ((o : ℕ) → o < e → Awake o → Once (chain k g.owner f o) × (In e (chain k g.owner f o) → ⊥)) → (p : Option ℕ) → g.owner e ≡ p
            → Once (e ∷ (elim p [ None ↦ [] | Some o ↦ elim (f o).watching [ true ↦ chain k g.owner f o | false ↦ [] ] ]))
        go rec None q = (λ j. j, tt)
        go rec (Some o) q =
            let ow = owner_live e o w q in
            let lt = ow.0 in
            let lw = w.low in
            branch (λ (c : List ℕ). Once (e ∷ c)) (f o).watching
            (λ a. let same : f o ≡ s.fl o = up_other s.fl u fu o (λ y. omega arith) in
            let r = rec o lt (wakes o (omega arith) ow.2 ow.1 (sym (ap (λ (y : Named). y.watching) same) ∙ a)) in
            (r.1, r.0))
            (λ a. (λ j. j, tt))

    chain_first : (k : ℕ) (e : ℕ) → In e (chain k g.owner f e)
    unfolding chain
    chain_first zero e = inl refl
    chain_first (suc k) e = inl refl

  effects_all : (kind : ℕ → Kind) (c : List ℕ) → ((x : ℕ) → In x c → kind x ≡ effect) → effects kind c ≡ true
  unfolding effects
  effects_all kind [] h = refl
  effects_all kind (x ∷ c) h = ap₂ (λ (a b : Bool). a && b) (ap is_effect (h x (inl refl))) (effects_all kind c (λ y j. h y (inr j)))

  -- ---- one mark: a read link l leads to u, which is clean
  module _ (l : ℕ) (lv : s.live l ≡ true) (rd : readable (g.kind (s.dep l)) ≡ true) (cl : unclean (s.fl (s.sub l)) ≡ false) where
    abbrev u : ℕ
    u = s.sub l

    hu : u < g.size
    hu = (i.lists.inside l lv).1

    linked : In l (s.done u)
    linked = in_cases l (s.done u) (s.rest u) (i.lists.live_in_deps l lv) (λ j. j) (λ j. absurd (nil_none (s.rest u) l (resting u hu).tail j))

    has_links : s.done u ≡ [] → ⊥
    has_links e = nil_none (s.done u) l e linked

    has_reads : read_links g.kind s.dep (s.done u) ≡ [] → ⊥
    has_reads e = nil_none (read_links g.kind s.dep (s.done u)) l e (reads_in g.kind s.dep l (s.done u) linked rd)

    -- what it can be
    data Target : Type 0 where
      at_computed : g.kind u ≡ computed → s.fl u ≡ f1 → Target
      at_queued : g.kind u ≡ effect → s.gone u ≡ false → s.fl u ≡ f0 → In u s.queue → Target
      at_awake : Awake u → Target

    target : Target
    target = go (g.kind u) refl
      where
        of_computed : g.kind u ≡ computed → ComputedFlags (s.fl u) (s.done u) (s.subs u) → Target
        of_computed k (never e x y) = absurd (has_links x)
        of_computed k (clean e) = at_computed k e
        of_computed k (stale e x) = clash (ap unclean e) cl
        of_computed k (maybe e x) = clash (ap unclean e) cl
        of_computed k (dirty e x) = clash (ap unclean e) cl

        of_effect : g.kind u ≡ effect → s.gone u ≡ false → {reads : List ℕ} → EffectFlags u (s.fl u) s.queue reads → Target
        of_effect k a (watching e x) = at_awake (record { low = hu; is = k; alive = a; awake = e; apart = x })
        of_effect k a (pushed e x) = at_queued k a e x
        of_effect k a (pending e x y) = clash (ap unclean e) cl
        of_effect k a (soiled e x y) = clash (ap unclean e) cl

        go : (k : Kind) → g.kind u ≡ k → Target
        go signal e = absurd ((i.goes l lv).of_signal e)
        go computed e = of_computed e ((resting u hu).of_computed e)
        go effect e = either (s.gone u) (λ a. absurd (has_links ((resting u hu).bare a).0)) (λ a. of_effect e a ((resting u hu).of_effect e a))
        go scope e = clash rd ((i.goes l lv).of_scope e)

    abbrev marked : Named
    marked = with_pending (s.fl u) true

    -- it does not watch
    plain : (s.fl u).watching ≡ false → Goes_on g nobody s (with_marks s (marks (up s.fl u marked) s.queue s.stuck))
    plain w =
        let t = set_fl s u marked in
        let it : Inside g (also nobody u) t = flags_inside g (also nobody u) s u (widen g nobody (also nobody u) s (λ n z. absurd z) i) (inr refl) marked (λ q. w) in
        record { inside = let_out g nobody t u it (at target); stuck = refl }
      where
        flag : {h : Named} → s.fl u ≡ h → up s.fl u marked u ≡ with_pending h true
        flag e = up_same s.fl u marked ∙ ap (λ (z : Named). with_pending z true) e

        at : Target → Rests g (set_fl s u marked) u
        at (at_computed k e) =
            let r = resting u hu in
            record {
              tail = r.tail;
              owned = r.owned;
              unowned = r.unowned;
              bare = r.bare;
              few = r.few;
              of_signal = λ q. clash (ap a_computed k) (ap a_computed q);
              of_computed = λ q. maybe (flag e) has_links;
              of_effect = λ q a. clash (ap readable k) (ap readable q);
              of_scope = λ q. clash (ap readable k) (ap readable q);
              of_gone = λ q a. clash (ap readable k) (ap readable q);
              queued = λ j a. clash a (i.gone_kind u hu (ap readable k));
            }
        at (at_queued k a e j) =
            let r = resting u hu in
            record {
              tail = r.tail;
              owned = r.owned;
              unowned = r.unowned;
              bare = r.bare;
              few = r.few;
              of_signal = λ q. clash (ap readable q) (ap readable k);
              of_computed = λ q. clash (ap readable q) (ap readable k);
              of_effect = λ q b. pending (flag e) j has_reads;
              of_scope = λ q. clash (ap is_effect k) (ap is_effect q);
              of_gone = λ q b. clash b a;
              queued = λ z b. clash b a;
            }
        at (at_awake a) = clash (ap (λ (z : Named). z.watching) a.awake) w

    -- it watches: it is notified
    module _ (w : Awake u) where
      abbrev fl' : ℕ → Named
      fl' = up s.fl u marked

      abbrev c : List ℕ
      c = chain s.room.nodes s.owner fl' u

      owner_is_word : g.owner ≡ s.owner
      owner_is_word = sym (ap (λ (z : Given). z.owner) i.same)

      c_in : (x : ℕ) → In x c → Awake x
      c_in x = subst (λ (z : ℕ → Option ℕ). In x (chain s.room.nodes z fl' u) → Awake x) owner_is_word (λ j. (chain_in u marked s.room.nodes u (omega arith) w x j).0)

      c_once : Once c
      c_once = subst (λ (z : ℕ → Option ℕ). Once (chain s.room.nodes z fl' u)) owner_is_word (chain_once u marked s.room.nodes u (omega arith) w)

      u_in : In u c
      u_in = subst (λ (z : ℕ → Option ℕ). In u (chain s.room.nodes z fl' u)) owner_is_word (chain_first u marked s.room.nodes u)

      abbrev q : List ℕ
      q = s.queue ++ reverse c

      in_q : {C : Type 0} (n : ℕ) → In n q → (In n s.queue → C) → (In n c → C) → C
      in_q n j a b = in_cases n s.queue (reverse c) j a (λ z. go b (rev_in n c [] z))
        where
          go : {C : Type 0} → (In n c → C) → In n c ⊎ In n [] → C
          go b (inr x') = elim x' [ ]
          go b (inl y) = b y

      q_new : (n : ℕ) → In n c → In n q
      q_new n j = in_right n s.queue (reverse c) (in_rev n c [] (inl j))

      q_once : Once q
      q_once = once_both s.queue (reverse c) i.once (rev_once c [] c_once tt (λ x a b. b)) (λ x a b. go x a (rev_in x c [] b))
        where
          go : (x : ℕ) → In x s.queue → In x c ⊎ In x [] → ⊥
          go x a (inr x'') = elim x'' [ ]
          go x a (inl y) = (c_in x y).apart a

      q_effects : (n : ℕ) → In n q → (n < g.size) × (g.kind n ≡ effect)
      q_effects n j = in_q n j (i.effects n) (λ y. ((c_in n y).low, (c_in n y).is))

      fl_out : (n : ℕ) → (In n c → ⊥) → calm c fl' n ≡ s.fl n
      fl_out n f = calm_out c fl' n f ∙ up_other s.fl u marked n (λ e. f (subst (λ (z : ℕ). In z c) (sym e) u_in))

      -- owners are pushed, u is pending
      fl_in : (n : ℕ) → In n c → ((n ≡ u) × (calm c fl' n ≡ f32)) ⊎ (calm c fl' n ≡ f0)
      fl_in n j = either (eqb n u)
          (λ e. let p = eqb-true n u e in
          inl (p, calm_in c fl' n c_once j ∙ ap (λ (z : Named). with_watching z false) (ap fl' p ∙ up_same s.fl u marked ∙ ap (λ (z : Named). with_pending z true) w.awake)))
          (λ e. inr (calm_in c fl' n c_once j ∙ ap (λ (z : Named). with_watching z false) (up_other s.fl u marked n (eqb-false n u e) ∙ (c_in n j).awake)))

      rests_in : (n : ℕ) → In n c → AtRest g q s.dep s.sub n (calm c fl' n) (s.gone n) (s.done n) (s.rest n) (s.subs n)
      rests_in n j =
          let a = c_in n j in
          let r = resting n a.low in
          record {
            tail = r.tail;
            owned = r.owned;
            unowned = r.unowned;
            bare = r.bare;
            few = r.few;
            of_signal = λ k. clash (ap readable k) (ap readable a.is);
            of_computed = λ k. clash (ap readable k) (ap readable a.is);
            of_effect = λ k b. flags (fl_in n j);
            of_scope = λ k. clash (ap is_effect a.is) (ap is_effect k);
            of_gone = λ k b. clash b a.alive;
            queued = λ z b. clash b a.alive;
          }
        where
          flags : ((n ≡ u) × (calm c fl' n ≡ f32)) ⊎ (calm c fl' n ≡ f0) → EffectFlags n (calm c fl' n) q (read_links g.kind s.dep (s.done n))
          flags (inl p) = pending p.1 (q_new n j) (λ e. has_reads (subst (λ (z : ℕ). read_links g.kind s.dep (s.done z) ≡ []) p.0 e))
          flags (inr e) = pushed e (q_new n j)

      rests_out : (n : ℕ) → n < g.size → (In n c → ⊥) → AtRest g q s.dep s.sub n (s.fl n) (s.gone n) (s.done n) (s.rest n) (s.subs n)
      rests_out n h f =
          let r = resting n h in
          record {
            tail = r.tail;
            owned = r.owned;
            unowned = r.unowned;
            bare = r.bare;
            few = r.few;
            of_signal = r.of_signal;
            of_computed = r.of_computed;
            of_effect = λ k a. flags (r.of_effect k a);
            of_scope = r.of_scope;
            of_gone = r.of_gone;
            queued = λ j a. in_q n j (λ z. r.queued z a) (λ z. absurd (f z));
          }
        where
          flags : {reads : List ℕ} → EffectFlags n (s.fl n) s.queue reads → EffectFlags n (s.fl n) q reads
          flags (watching e x) = watching e (λ j. in_q n j x f)
          flags (pushed e x) = pushed e (in_left n s.queue (reverse c) x)
          flags (pending e x y) = pending e (in_left n s.queue (reverse c) x) y
          flags (soiled e x y) = soiled e (in_left n s.queue (reverse c) x) y

      i_notified : Inside g nobody (with_marks s (marks (calm c fl') q s.stuck))
      i_notified = record {
        same = i.same;
        lists = i.lists;
        goes = i.goes;
        gone_kind = i.gone_kind;
        fits = i.fits;
        no_wake = λ n h p. quiet n h p (in_or_not n c);
        once = q_once;
        effects = q_effects;
        rests = λ n h x. at n h (in_or_not n c);
      }
        where
          quiet : (n : ℕ) → n < g.size → (calm c fl' n).pending ≡ true → In n c ⊎ (In n c → ⊥) → (calm c fl' n).watching ≡ false
          quiet n h p (inl j) = ap (λ (z : Named). z.watching) (calm_in c fl' n c_once j)
          quiet n h p (inr f) = ap (λ (z : Named). z.watching) (fl_out n f) ∙ i.no_wake n h (sym (ap (λ (z : Named). z.pending) (fl_out n f)) ∙ p)

          at : (n : ℕ) → n < g.size → In n c ⊎ (In n c → ⊥) → AtRest g q s.dep s.sub n (calm c fl' n) (s.gone n) (s.done n) (s.rest n) (s.subs n)
          at n h (inl j) = rests_in n j
          at n h (inr f) = subst (λ (z : Named). AtRest g q s.dep s.sub n z (s.gone n) (s.done n) (s.rest n) (s.subs n)) (sym (fl_out n f)) (rests_out n h f)

      goes_on : (s.stuck || (ltb s.room.nodes (length q) || not (effects s.kind c))) ≡ s.stuck
      goes_on =
          let a = most_below g.size q q_once (λ n j. (q_effects n j).0) in
          let b = st.nodes_fit in
          let e : s.room.nodes ≡ g.room.nodes = ap (λ (z : Given). z.room.nodes) i.same in
          let x : ltb s.room.nodes (length q) ≡ false = le-ltb s.room.nodes (length q) (omega arith) in
          let y : effects s.kind c ≡ true = effects_all s.kind c (λ n j. ap (λ (z : Given). z.kind n) i.same ∙ (c_in n j).is) in
          ap₂ (λ (p r : Bool). s.stuck || (p || not r)) x y ∙ or_false s.stuck

    pub mark_inside : Goes_on g nobody s (with_marks s (mark s (marks_of s) u))
    unfolding mark notify
    mark_inside =
        branch (λ (x : Marks). Goes_on g nobody s (with_marks s x)) (s.fl u).watching (λ w. at w target) plain
      where
        at : (s.fl u).watching ≡ true → Target → Goes_on g nobody s (with_marks s (notify s (marks (up s.fl u marked) s.queue s.stuck) u))
        at w (at_computed k e) = clash w (ap (λ (z : Named). z.watching) e)
        at w (at_queued k a e j) = clash w (ap (λ (z : Named). z.watching) e)
        at w (at_awake a) = record { inside = stuck_inside g nobody _ _ (i_notified a); stuck = goes_on a }
