-- What reading leaves alone: links of nodes outside N, subscriber lists from c on, clean nodes that are held, DIRTY but for a dependency that was not clean. Assumes nothing.
use mathlib.Core.Path.{◌≡◌, refl, sym, ap, ap₂, ◌∙◌, subst}
use mathlib.Core.Logic.{◌⊎◌, inl, inr}
use mathlib.Core.Bool.{Bool, true, false}
use mathlib.Core.List.{List, [], ◌++◌}
use Prim.Native.Nat.{ℕ, suc, ◌≤◌, ◌<◌}
use native.Mathlib.Omega.{arith}
use lib.ListN.{length}
use Rattle.flags.specs.declared.Named.{Named}
use Rattle.values.specs.declared.Value.{Value}
use Rattle.trees.specs.Trees.{names}
use Rattle.meaning.specs.State.{St, Kind, signal, computed, effect, scope, Row, readable, rank, deps, f1}
use Rattle.meaning.specs.Setters.{with_cycle, with_sto, with_pend, with_depth, with_log, with_stuck}
use Rattle.meaning.specs.Links.{cut, purge}
use Rattle.meaning.specs.Reserve.{reserve_of}
use Rattle.meaning.specs.WellFormed.{In, read_links, clean}
use Rattle.meaning.proofs.Laws.{clash, either, none_some}
use Rattle.meaning.proofs.Members.{none_nil, nil_none, append_is_nil, reads_agree}
use Rattle.meaning.proofs.Rings.{purge_ring}
use Rattle.meaning.proofs.Still.{Given}
use Rattle.meaning.proofs.Binding.{SameReads, reads_lists}
use Rattle.meaning.proofs.Inside.{Set, Static, AtRest, Slots, Inside, Under}
use Rattle.meaning.proofs.Dropping.{a_computed, Purged}
use Rattle.meaning.proofs.Room.{spends, Paid}

-- ---- columns that well-formedness does not look at
pub others : (g : Given) (X : Set) (s : St) → Inside g X s → (c : ℕ) (f p : ℕ → Value) (d : ℕ) (l : List Row) (b : Bool) → Inside g X (with_stuck (with_log (with_depth (with_pend (with_sto (with_cycle s c) f) p) d) l) b)
others g X s i c f p d l b = record {
  same = i.same;
  lists = i.lists;
  goes = i.goes;
  gone_kind = i.gone_kind;
  fits = i.fits;
  no_wake = i.no_wake;
  once = i.once;
  effects = i.effects;
  rests = i.rests;
}

-- ---- the first ring stores no value
abbrev Stores : St → St → Type 0
Stores s t = t.sto ≡ s.sto

pub purge_sto : (s : St) (u : ℕ) → (purge s u).sto ≡ s.sto
unfolding cut
purge_sto = purge_ring Stores (record { same = λ s. refl; then = λ s t x p q. q ∙ p; stops = λ s. refl; cuts = λ s l v. refl; bares = λ s x. refl; stales = λ s d. refl })

-- ---- computeds of a rank below b
abbrev pub Low : Given → ℕ → Set
Low g b m = (g.kind m ≡ computed) × (rank m < b)

-- DIRTY came to u by a link from a dependency of a rank below c that was not clean
pub record Soiled (g : Given) (c : ℕ) (s : St) (u : ℕ) : Type 0 where
  pub link : ℕ
  pub live : s.live link ≡ true
  pub to : s.sub link ≡ u
  pub reads : readable (g.kind (s.dep link)) ≡ true
  pub unclean : s.fl (s.dep link) ≡ f1 → ⊥
  pub low : rank (s.dep link) < c

pub record Frame (g : Given) (N : Set) (c : ℕ) (s t : St) : Type 0 where
  pub lists : (m : ℕ) → (N m → ⊥) → (t.done m ≡ s.done m) × (t.rest m ≡ s.rest m)
  pub subs : (m : ℕ) → (readable (g.kind m) ≡ true → c ≤ rank m) → t.subs m ≡ s.subs m
  pub gone : (m : ℕ) → readable (g.kind m) ≡ false → t.gone m ≡ s.gone m
  pub links : (l : ℕ) → s.live l ≡ true → (N (s.sub l) → ⊥) → (t.live l ≡ true) × (t.dep l ≡ s.dep l) × (t.sub l ≡ s.sub l)
  pub ver : (l : ℕ) → s.live l ≡ true → (N (s.sub l) → ⊥) → t.ver l ≡ s.ver l
  pub held : (l : ℕ) → s.live l ≡ true → (N (s.sub l) → ⊥) → s.fl (s.dep l) ≡ f1 → t.fl (s.dep l) ≡ f1
  pub pending : (m : ℕ) → (N m → ⊥) → (g.kind m ≡ signal → ⊥) → (t.fl m).pending ≡ (s.fl m).pending
  pub calm : (m : ℕ) → (N m → ⊥) → (g.kind m ≡ signal → ⊥) → (s.fl m).pending ≡ false → t.fl m ≡ s.fl m
  pub sto : (m : ℕ) → (N m → ⊥) → (g.kind m ≡ signal → ⊥) → t.sto m ≡ s.sto m
  pub soiled : (u : ℕ) → (N u → ⊥) → (g.kind u ≡ signal → ⊥) → (s.fl u).dirty ≡ false → (t.fl u).dirty ≡ true → Soiled g c s u
  pub stuck : t.stuck ≡ s.stuck

module _ (g : Given) (N : Set) (c : ℕ) where
  -- a step that moves no link
  pub frame_flags : (s t : St) → t.subs ≡ s.subs → t.gone ≡ s.gone → t.live ≡ s.live → t.dep ≡ s.dep → t.sub ≡ s.sub → t.stuck ≡ s.stuck
      → ((l : ℕ) → s.live l ≡ true → (N (s.sub l) → ⊥) → t.ver l ≡ s.ver l) → ((m : ℕ) → (N m → ⊥) → (t.done m ≡ s.done m) × (t.rest m ≡ s.rest m)) → ((m : ℕ) → (N m → ⊥) → (g.kind m ≡ signal → ⊥) → t.fl m ≡ s.fl m)
      → ((m : ℕ) → s.fl m ≡ f1 → t.fl m ≡ f1) → ((m : ℕ) → (N m → ⊥) → (g.kind m ≡ signal → ⊥) → t.sto m ≡ s.sto m) → Frame g N c s t
  frame_flags s t e₁ e₂ e₃ e₄ e₅ e₆ vr ls fs cl vs = record {
    lists = ls;
    subs = λ m h. ap (λ (x : ℕ → List ℕ). x m) e₁;
    gone = λ m h. ap (λ (x : ℕ → Bool). x m) e₂;
    links = λ l a h. (ap (λ (x : ℕ → Bool). x l) e₃ ∙ a, ap (λ (x : ℕ → ℕ). x l) e₄, ap (λ (x : ℕ → ℕ). x l) e₅);
    ver = vr;
    held = λ l a h q. cl (s.dep l) q;
    pending = λ m h k. ap (λ (x : Named). x.pending) (fs m h k);
    calm = λ m h k p. fs m h k;
    sto = vs;
    soiled = λ u h k a b. clash b (ap (λ (x : Named). x.dirty) (fs u h k) ∙ a);
    stuck = e₆;
  }

  pub frame_same : (s : St) → Frame g N c s s
  frame_same s = frame_flags s s refl refl refl refl refl refl (λ l a h. refl) (λ m h. (refl, refl)) (λ m h k. refl) (λ m q. q) (λ m h k. refl)

  -- a link of t whose subscriber is outside N is one of s
  pub was_link : (s t : St) → Slots g s → Slots g t → Frame g N c s t → (l u : ℕ) → t.live l ≡ true → t.sub l ≡ u → (N u → ⊥) → (s.live l ≡ true) × (s.sub l ≡ u) × (t.dep l ≡ s.dep l)
  was_link s t a b f l u lv e h =
      let x : In l (deps t u) = subst (λ (z : ℕ). In l (deps t z)) e (b.live_in_deps l lv) in
      let same : deps t u ≡ deps s u = ap₂ (λ (p q : List ℕ). p ++ q) (f.lists u h).0 (f.lists u h).1 in
      let y = a.deps_live l u (subst (In l) same x) in
      (y.0, y.1, (f.links l y.0 (λ n. h (subst N y.1 n))).1)

  pub frame_then : (s t x : St) → Slots g s → Slots g t → Frame g N c s t → Frame g N c t x → Frame g N c s x
  frame_then s t x a b p q = record {
    lists = λ m h. ((q.lists m h).0 ∙ (p.lists m h).0, (q.lists m h).1 ∙ (p.lists m h).1);
    subs = λ m h. q.subs m h ∙ p.subs m h;
    gone = λ m h. q.gone m h ∙ p.gone m h;
    links = λ l lv h.
        let y = p.links l lv h in
        let z = q.links l y.0 (λ n. h (subst N y.2 n)) in
        (z.0, z.1 ∙ y.1, z.2 ∙ y.2);
    ver = λ l lv h. let y = p.links l lv h in q.ver l y.0 (λ n. h (subst N y.2 n)) ∙ p.ver l lv h;
    held = λ l lv h e.
        let y = p.links l lv h in
        subst (λ (n : ℕ). x.fl n ≡ f1) y.1 (q.held l y.0 (λ n. h (subst N y.2 n)) (subst (λ (n : ℕ). t.fl n ≡ f1) (sym y.1) (p.held l lv h e)));
    pending = λ m h k. q.pending m h k ∙ p.pending m h k;
    calm = λ m h k e. q.calm m h k (p.pending m h k ∙ e) ∙ p.calm m h k e;
    sto = λ m h k. q.sto m h k ∙ p.sto m h k;
    soiled = λ u h k d e. either (t.fl u).dirty (λ m. p.soiled u h k d m) (λ m. back u h (q.soiled u h k m e));
    stuck = q.stuck ∙ p.stuck;
  }
    where
      back : (u : ℕ) → (N u → ⊥) → Soiled g c t u → Soiled g c s u
      back u h z =
          let l = z.link in
          let w = was_link s t a b p l u z.live z.to h in
          let e : t.dep l ≡ s.dep l = w.2 in
          record {
            link = l;
            live = w.0;
            to = w.1;
            reads = subst (λ (n : ℕ). readable (g.kind n) ≡ true) e z.reads;
            unclean = λ y. z.unclean (subst (λ (n : ℕ). t.fl n ≡ f1) (sym e) (p.held l w.0 (λ n. h (subst N w.1 n)) y));
            low = subst (λ (n : ℕ). n < c) e z.low;
          }

pub frame_wider : (g : Given) (N M : Set) (c b : ℕ) (s t : St) → ((m : ℕ) → N m → M m) → c ≤ b → Frame g N c s t → Frame g M b s t
frame_wider g N M c b s t h le f = record {
  lists = λ m a. f.lists m (λ n. a (h m n));
  subs = λ m a. f.subs m (λ r. let x = a r in omega arith);
  gone = f.gone;
  links = λ l lv a. f.links l lv (λ n. a (h (s.sub l) n));
  ver = λ l lv a. f.ver l lv (λ n. a (h (s.sub l) n));
  held = λ l lv a. f.held l lv (λ n. a (h (s.sub l) n));
  pending = λ m a. f.pending m (λ n. a (h m n));
  calm = λ m a. f.calm m (λ n. a (h m n));
  sto = λ m a. f.sto m (λ n. a (h m n));
  soiled = λ u a k d e.
      let z = f.soiled u (λ n. a (h u n)) k d e in
      let l = z.low in
      record { link = z.link; live = z.live; to = z.to; reads = z.reads; unclean = z.unclean; low = omega arith };
  stuck = f.stuck;
}

module _ (g : Given) (st : Static g) where
  -- a node outside N keeps its read links
  pub frame_reads : (X N : Set) (c : ℕ) (s t : St) (e : ℕ) → Inside g X s → Frame g N c s t → (N e → ⊥) → SameReads g.kind s t e
  frame_reads X N c s t e i f h = reads_lists g.kind s t e (f.lists e h) (λ l j. let x = i.lists.deps_live l e j in ((f.links l x.0 (λ z. h (subst N x.1 z))).1, f.ver l x.0 (λ z. h (subst N x.1 z))))

  -- what a node outside N pays for stays as it is
  pub paid_frame : (X : Set) (N : Set) (c : ℕ) (s t : St) (n : ℕ) → Inside g X s → Inside g X t → Frame g N c s t → n < g.size → (N n → ⊥) → Paid g s n → Paid g t n
  paid_frame X N c s t n i j f h a p =
      let links : deps t n ≡ deps s n = ap₂ (λ (x y : List ℕ). x ++ y) (f.lists n a).0 (f.lists n a).1 in
      let ends : read_links g.kind t.dep (deps s n) ≡ read_links g.kind s.dep (deps s n) =
      reads_agree g.kind s.dep t.dep (deps s n) (λ l k. let x = i.lists.deps_live l n k in (f.links l x.0 (λ z. a (subst N x.1 z))).1) in
      let reads = ap length (ap (read_links g.kind t.dep) links ∙ ends) in
      let own = ap length (owners (readable (g.kind n)) refl) in
      let spent : spends g t n ≡ spends g s n = ap (λ (b : Bool). reserve_of (g.kind n) b (g.form n) (g.owner n)) gone_same in
      let e = p.enough in
      record { enough = omega arith }
    where
      gone_same : t.gone n ≡ s.gone n
      gone_same = either (readable (g.kind n)) (λ r. j.gone_kind n h r ∙ sym (i.gone_kind n h r)) (λ r. f.gone n r)

      owners : (b : Bool) → readable (g.kind n) ≡ b → ◌≡◌ {A = List ℕ} (elim b [ true ↦ [] | false ↦ t.subs n ]) (elim b [ true ↦ [] | false ↦ s.subs n ])
      owners true r = refl
      owners false r = f.subs n (λ q. clash q r)

  -- ---- nodes of X that are evaluated: who is one is known, and each has paid
  pub record Open (X : Set) (s : St) : Type 0 where
    pub known : (n : ℕ) → X n ⊎ (X n → ⊥)
    pub pays : (n : ℕ) → n < g.size → X n → Paid g s n

  pub open_frame : (X : Set) (N : Set) (c : ℕ) (s t : St) → Inside g X s → Inside g X t → Frame g N c s t → ((n : ℕ) → X n → N n → ⊥) → Open X s → Open X t
  open_frame X N c s t i j f a o = record { known = o.known; pays = λ n h x. paid_frame X N c s t n i j f h (a n x) (o.pays n h x) }

  -- ---- a signal or computed that is clean
  pub rests_clean : (queue : List ℕ) (dep sub : ℕ → ℕ) (n : ℕ) (f : Named) (b : Bool) (done rest subs : List ℕ) → n < g.size → readable (g.kind n) ≡ true → f ≡ f1 → b ≡ false → rest ≡ []
      → length (read_links g.kind dep done) ≤ length (names (g.form n)) → AtRest g queue dep sub n f b done rest subs
  rests_clean queue dep sub n f b done rest subs h r e a t few = record {
    tail = t;
    owned = λ o x q. none_some (sym (st.owner_kind n h r) ∙ q);
    unowned = λ x q. clash r x;
    bare = λ x. clash x a;
    few = few;
    of_signal = λ k. inl e;
    of_computed = λ k. clean e;
    of_effect = λ k x. clash r (ap readable k);
    of_scope = λ k. clash r (ap readable k);
    of_gone = λ k x. clash r (ap readable k);
    queued = λ j x. clash x a;
  }

  pub signal_lists : (X : Set) (s : St) → Inside g X s → (n : ℕ) → g.kind n ≡ signal → (s.done n ≡ []) × (s.rest n ≡ [])
  signal_lists X s i n e = append_is_nil (s.done n) (s.rest n) (none_nil (deps s n) (λ l j. let x = i.lists.deps_live l n j in (i.goes l x.0).of_signal (ap g.kind x.1 ∙ e)))

  -- ---- the purge of a computed
  pub purge_frame : (X : Set) (s t : St) (n : ℕ) → Inside g X s → n < g.size → g.kind n ≡ computed → Purged g st X s n t → t.sto ≡ s.sto → Frame g (Low g (suc (rank n))) (rank n) s t
  purge_frame X s t n i h k p vs =
      let d = p.dropped in
      record {
        lists = λ m a. by_kind m a;
        subs = λ m a. d.subs m (λ z. strict_low m z a);
        gone = λ m r. (d.flags m (λ z. clash rn (z.0.high r).0)).1;
        links = λ l lv a. (alive l lv a, ap (λ (x : ℕ → ℕ). x l) d.dep, ap (λ (x : ℕ → ℕ). x l) d.sub);
        ver = λ l lv a. ap (λ (x : ℕ → ℕ). x l) d.ver;
        held = λ l lv a e. keeps l lv a e (d.fate (s.dep l));
        pending = λ m a q. ap (λ (x : Named). x.pending) (d.flags m (λ z. not_low m a q z)).0;
        calm = λ m a q e. (d.flags m (λ z. not_low m a q z)).0;
        sto = λ m a q. ap (λ (x : ℕ → Value). x m) vs;
        soiled = λ u a q x y. clash y (ap (λ (x : Named). x.dirty) (d.flags u (λ z. not_low u a q z)).0 ∙ x);
        stuck = d.stuck;
      }
    where
      rn : readable (g.kind n) ≡ true
      rn = ap readable k

      strict_low : (m : ℕ) → Under g n m × (m ≡ n → ⊥) → (readable (g.kind m) ≡ true → rank n ≤ rank m) → ⊥
      strict_low m z a = either (readable (g.kind m)) (λ r. let x = z.0.low r rn in let y = a r in let w = z.1 in omega (arith, w)) (λ r. clash rn (z.0.high r).0)

      not_low : (m : ℕ) → (Low g (suc (rank n)) m → ⊥) → (g.kind m ≡ signal → ⊥) → Under g n m × (m ≡ n → ⊥) → ⊥
      not_low m a q z = go (g.kind m) refl
        where
          go : (x : Kind) → g.kind m ≡ x → ⊥
          go signal e = q e
          go computed e = let y = z.0.low (ap readable e) rn in a (e, omega arith)
          go effect e = clash rn (z.0.high (ap readable e)).0
          go scope e = clash rn (z.0.high (ap readable e)).0

      other : (m : ℕ) → (Low g (suc (rank n)) m → ⊥) → m ≡ n → ⊥
      other m a q = a (ap g.kind q ∙ k, omega arith)

      by_kind : (m : ℕ) → (Low g (suc (rank n)) m → ⊥) → (t.done m ≡ s.done m) × (t.rest m ≡ s.rest m)
      by_kind m a = go (g.kind m) refl
        where
          far : (g.kind m ≡ signal → ⊥) → (t.done m ≡ s.done m) × (t.rest m ≡ s.rest m)
          far q = p.dropped.lists m (not_low m a q) (other m a)

          go : (x : Kind) → g.kind m ≡ x → (t.done m ≡ s.done m) × (t.rest m ≡ s.rest m)
          go signal e = let x = signal_lists X s i m e in let y = signal_lists X t p.inside m e in (y.0 ∙ sym x.0, y.1 ∙ sym x.1)
          go computed e = far (λ q. clash (ap a_computed e) (ap a_computed q))
          go effect e = far (λ q. clash (ap readable q) (ap readable e))
          go scope e = far (λ q. clash (ap readable q) (ap readable e))

      alive : (l : ℕ) → s.live l ≡ true → (Low g (suc (rank n)) (s.sub l) → ⊥) → t.live l ≡ true
      alive l lv a =
          let x = by_kind (s.sub l) a in
          let y : deps t (s.sub l) ≡ deps s (s.sub l) = ap₂ (λ (u v : List ℕ). u ++ v) x.0 x.1 in
          (p.inside.lists.deps_live l (s.sub l) (subst (In l) (sym y) (i.lists.live_in_deps l lv))).0

      keeps : (l : ℕ) → s.live l ≡ true → (Low g (suc (rank n)) (s.sub l) → ⊥) → s.fl (s.dep l) ≡ f1 → (t.fl (s.dep l) ≡ s.fl (s.dep l)) ⊎ (t.subs (s.dep l) ≡ []) → t.fl (s.dep l) ≡ f1
      keeps l lv a e (inl q) = q ∙ e
      keeps l lv a e (inr q) =
          absurd (nil_none (t.subs (s.dep l)) l q
          (subst (λ (z : ℕ). In l (t.subs z)) (ap (λ (x : ℕ → ℕ). x l) p.dropped.dep) (p.inside.lists.live_in_subs l (alive l lv a))))
