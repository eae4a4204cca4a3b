-- Well-formedness inside an operation: as at rest, but nothing is asked of the nodes of X, whose evaluation, purge or making is under way. Assumes nothing.
use Rattle.std.specs.Prelude.{Option, None, Some}
use mathlib.Core.Path.{◌≡◌, refl, sym, ap, ◌∙◌, subst}
use mathlib.Core.Logic.{◌⊎◌, inl, inr}
use mathlib.Core.Bool.{Bool, true, false}
use mathlib.Core.List.{List, [], ◌∷◌, ◌++◌, append-nil}
use Prim.Native.Nat.{ℕ, ◌≤◌, ◌<◌}
use native.Mathlib.Omega.{arith}
use lib.Dec.{eqb}
use lib.ListN.{length}
use borrow.Author.Tests.{eqb-true, eqb-false}
use Rattle.flags.specs.declared.Named.{Named}
use Rattle.trees.specs.Trees.{Tree, size, nesting, names}
use Rattle.trees.specs.Legal.{most_cells, most_nesting}
use Rattle.meaning.specs.State.{St, Kind, signal, computed, effect, scope, capacities, readable, rank, deps, f0, f1, f2, f17}
use Rattle.meaning.specs.Engine.{level_of}
use Rattle.meaning.specs.Reserve.{total, reserve_of, reserve}
use Rattle.meaning.specs.Refusals.{most_level, most_depth}
use Rattle.meaning.specs.Owners.{Below, itself, through}
use Rattle.meaning.specs.WellFormed.{In, Once, Lists, read_links, ComputedFlags, never, clean, stale, maybe, dirty, EffectFlags, watching, pushed, pending, dirty as soiled, WellFormed}
use Rattle.meaning.proofs.Laws.{clash, either}
use Rattle.meaning.proofs.Members.{none_nil, nil_none}
use Rattle.meaning.proofs.Owning.{below_then}
use Rattle.meaning.proofs.Still.{Given, given}

-- ---- sets of nodes
abbrev pub Set : Type 1
Set = ℕ → Type 0

abbrev pub nobody : Set
nobody n = ⊥

abbrev pub also : Set → ℕ → Set
also X n m = X m ⊎ (m ≡ n)

abbrev pub only : ℕ → Set
only n m = m ≡ n

-- ---- what no read, write or disposal changes
pub record Static (g : Given) : Type 0 where
  pub names_lower : (n m : ℕ) → n < g.size → In m (names (g.form n)) → (readable (g.kind m) ≡ true) × (rank m < rank n)
  pub nameless : (n : ℕ) → n < g.size → (g.kind n ≡ signal) ⊎ (g.kind n ≡ scope) → names (g.form n) ≡ []
  pub owner_lower : (n o : ℕ) → n < g.size → g.owner n ≡ Some o → o < n
  pub owner_kind : (n : ℕ) → n < g.size → readable (g.kind n) ≡ true → g.owner n ≡ None
  pub cells_few : (n : ℕ) → n < g.size → size (g.form n) ≤ most_cells
  pub nesting_low : (n : ℕ) → n < g.size → nesting (g.form n) ≤ most_nesting
  pub levels : (n : ℕ) → n < g.size → g.level n ≡ level_of g.level (g.kind n) (g.form n) (g.owner n)
  pub level_low : (n : ℕ) → n < g.size → g.level n ≤ most_level (g.kind n)
  pub room_within : capacities g.room ≡ true
  pub nodes_fit : g.size ≤ g.room.nodes
  pub cells_fit : g.used ≤ g.room.cells

-- a link from d to u
pub record Goes (g : Given) (d u : ℕ) : Type 0 where
  pub of_signal : g.kind u ≡ signal → ⊥
  pub of_computed : g.kind u ≡ computed → readable (g.kind d) ≡ true
  pub of_scope : g.kind u ≡ scope → readable (g.kind d) ≡ false
  pub lower : readable (g.kind d) ≡ true → rank d < rank u
  pub named : readable (g.kind d) ≡ true → In d (names (g.form u))
  pub owned : readable (g.kind d) ≡ false → g.owner d ≡ Some u

-- a node n with these flags, mark of being gone, and lists
pub record AtRest (g : Given) (queue : List ℕ) (dep sub : ℕ → ℕ) (n : ℕ) (f : Named) (gn : Bool) (done rest subs : List ℕ) : Type 0 where
  pub tail : rest ≡ []
  pub owned : (o : ℕ) → gn ≡ false → g.owner n ≡ Some o → (l : ℕ) × (subs ≡ l ∷ []) × (sub l ≡ o)
  pub unowned : readable (g.kind n) ≡ false → g.owner n ≡ None → subs ≡ []
  pub bare : gn ≡ true → (done ≡ []) × (subs ≡ [])
  pub few : length (read_links g.kind dep done) ≤ length (names (g.form n))
  pub of_signal : g.kind n ≡ signal → (f ≡ f1) ⊎ (f ≡ f17)
  pub of_computed : g.kind n ≡ computed → ComputedFlags f done subs
  pub of_effect : g.kind n ≡ effect → gn ≡ false → EffectFlags n f queue (read_links g.kind dep done)
  pub of_scope : g.kind n ≡ scope → f ≡ f0
  pub of_gone : g.kind n ≡ effect → gn ≡ true → (f ≡ f0) ⊎ (f ≡ f2)
  pub queued : In n queue → gn ≡ true → f ≡ f0

abbrev pub Rests : Given → St → ℕ → Type 0
Rests g s n = AtRest g s.queue s.dep s.sub n (s.fl n) (s.gone n) (s.done n) (s.rest n) (s.subs n)

abbrev pub Slots : Given → St → Type 0
Slots g s = Lists g.room.slots g.size s.free s.live s.dep s.sub (deps s) (λ u. []) s.subs

abbrev pub reserved : Given → (ℕ → Bool) → ℕ
reserved g gn = total (λ n. reserve_of (g.kind n) (gn n) (g.form n) (g.owner n)) g.size

-- a gone node counts no more than a live one
pub reserve_least : (k : Kind) (b : Bool) (t : Tree) (p : Option ℕ) → reserve_of k true t p ≤ reserve_of k b t p
reserve_least signal b t p = omega arith
reserve_least computed b t p = omega arith
reserve_least effect true t p = omega arith
reserve_least effect false t p = omega arith
reserve_least scope true t p = omega arith
reserve_least scope false t p = omega arith

pub record Inside (g : Given) (X : Set) (s : St) : Type 0 where
  pub same : given s ≡ g
  pub lists : Slots g s
  pub goes : (l : ℕ) → s.live l ≡ true → Goes g (s.dep l) (s.sub l)
  pub gone_kind : (n : ℕ) → n < g.size → readable (g.kind n) ≡ true → s.gone n ≡ false
  pub fits : reserved g s.gone ≤ g.room.slots
  pub no_wake : (n : ℕ) → n < g.size → (s.fl n).pending ≡ true → (s.fl n).watching ≡ false
  pub once : Once s.queue
  pub effects : (n : ℕ) → In n s.queue → (n < g.size) × (g.kind n ≡ effect)
  pub rests : (n : ℕ) → n < g.size → (X n → ⊥) → Rests g s n

-- ---- nodes are taken in and let out
pub widen : (g : Given) (X Y : Set) (s : St) → ((n : ℕ) → X n → Y n) → Inside g X s → Inside g Y s
widen g X Y s h i = record {
  same = i.same;
  lists = i.lists;
  goes = i.goes;
  gone_kind = i.gone_kind;
  fits = i.fits;
  no_wake = i.no_wake;
  once = i.once;
  effects = i.effects;
  rests = λ n l f. i.rests n l (λ x. f (h n x));
}

pub let_out : (g : Given) (X : Set) (s : St) (n : ℕ) → Inside g (also X n) s → Rests g s n → Inside g X s
let_out g X s n i r = record {
  same = i.same;
  lists = i.lists;
  goes = i.goes;
  gone_kind = i.gone_kind;
  fits = i.fits;
  no_wake = i.no_wake;
  once = i.once;
  effects = i.effects;
  rests = λ m l f. either (eqb m n) (λ e. subst (Rests g s) (sym (eqb-true m n e)) r) (λ e. i.rests m l (outside m (eqb-false m n e) f));
}
  where
    outside : (m : ℕ) → (m ≡ n → ⊥) → (X m → ⊥) → also X n m → ⊥
    outside m e f (inl x) = f x
    outside m e f (inr q) = e q

-- the same flags, mark and lists
pub at_same : (g : Given) (queue : List ℕ) (dep sub : ℕ → ℕ) (n : ℕ) (f h : Named) (a b : Bool) (d d' r r' u u' : List ℕ)
    → h ≡ f → b ≡ a → d' ≡ d → r' ≡ r → u' ≡ u → AtRest g queue dep sub n f a d r u → AtRest g queue dep sub n h b d' r' u'
at_same g queue dep sub n f h a b d d' r r' u u' e₁ e₂ e₃ e₄ e₅ x =
    subst (λ (z : List ℕ). AtRest g queue dep sub n h b d' r' z) (sym e₅)
    (subst (λ (z : List ℕ). AtRest g queue dep sub n h b d' z u) (sym e₄)
    (subst (λ (z : List ℕ). AtRest g queue dep sub n h b z r u) (sym e₃)
    (subst (λ (z : Bool). AtRest g queue dep sub n h z d r u) (sym e₂) (subst (λ (z : Named). AtRest g queue dep sub n z a d r u) (sym e₁) x))))

-- ---- flags tell kinds
module _ (g : Given) (queue : List ℕ) (dep sub : ℕ → ℕ) (n : ℕ) (f : Named) (gn : Bool) (done rest subs : List ℕ) (r : AtRest g queue dep sub n f gn done rest subs) where
  effect_still : EffectFlags n f queue (read_links g.kind dep done) → (f.mutable ≡ false)
  effect_still (watching e q) = ap (λ (z : Named). z.mutable) e
  effect_still (pushed e q) = ap (λ (z : Named). z.mutable) e
  effect_still (pending e q h) = ap (λ (z : Named). z.mutable) e
  effect_still (soiled e q h) = ap (λ (z : Named). z.mutable) e

  gone_still : (f ≡ f0) ⊎ (f ≡ f2) → f.mutable ≡ false
  gone_still (inl e) = ap (λ (z : Named). z.mutable) e
  gone_still (inr e) = ap (λ (z : Named). z.mutable) e

  -- effects and scopes have no MUTABLE
  pub own_still : readable (g.kind n) ≡ false → f.mutable ≡ false
  own_still q = go (g.kind n) refl
    where
      go : (k : Kind) → g.kind n ≡ k → f.mutable ≡ false
      go signal e = clash (ap readable e) q
      go computed e = clash (ap readable e) q
      go effect e = either gn (λ a. gone_still (r.of_gone e a)) (λ a. effect_still (r.of_effect e a))
      go scope e = ap (λ (z : Named). z.mutable) (r.of_scope e)

  -- what can be read and has a subscriber has MUTABLE
  computed_moves : (l : ℕ) → In l subs → ComputedFlags f done subs → f.mutable ≡ true
  computed_moves l i (never e x y) = absurd (nil_none subs l y i)
  computed_moves l i (clean e) = ap (λ (z : Named). z.mutable) e
  computed_moves l i (stale e x) = ap (λ (z : Named). z.mutable) e
  computed_moves l i (maybe e x) = ap (λ (z : Named). z.mutable) e
  computed_moves l i (dirty e x) = ap (λ (z : Named). z.mutable) e

  pub signal_moves : (f ≡ f1) ⊎ (f ≡ f17) → f.mutable ≡ true
  signal_moves (inl e) = ap (λ (z : Named). z.mutable) e
  signal_moves (inr e) = ap (λ (z : Named). z.mutable) e

  pub read_moves : (l : ℕ) → In l subs → readable (g.kind n) ≡ true → f.mutable ≡ true
  read_moves l i q = go (g.kind n) refl
    where
      go : (k : Kind) → g.kind n ≡ k → f.mutable ≡ true
      go signal e = signal_moves (r.of_signal e)
      go computed e = computed_moves l i (r.of_computed e)
      go effect e = clash q (ap readable e)
      go scope e = clash q (ap readable e)

  pub moves_read : f.mutable ≡ true → readable (g.kind n) ≡ true
  moves_read m = either (readable (g.kind n)) (λ e. e) (λ e. clash m (own_still e))

-- ---- at rest
module _ (s : St) (w : WellFormed s) where
  pub static : Static (given s)
  static = record {
    names_lower = w.limits.names_lower;
    nameless = w.limits.nameless;
    owner_lower = w.depends.owner_lower;
    owner_kind = w.depends.owner_kind;
    cells_few = w.limits.cells_few;
    nesting_low = w.limits.nesting_low;
    levels = w.limits.levels;
    level_low = w.limits.level_low;
    room_within = w.limits.room_within;
    nodes_fit = w.limits.nodes_fit;
    cells_fit = w.limits.cells_fit;
  }

  done_only : (n : ℕ) → deps s n ≡ s.done n
  done_only n = ap (λ (x : List ℕ). s.done n ++ x) (w.lists.tail_last n) ∙ append-nil (s.done n)

  rests_there : (n : ℕ) → n < s.size → Rests (given s) s n
  rests_there n h = record {
    tail = w.lists.tail_last n;
    owned = λ o a q. w.depends.one_owner n o h a q;
    unowned = w.depends.unowned n h;
    bare = λ a. (sym (done_only n) ∙ (w.depends.gone_bare n h a).0, (w.depends.gone_bare n h a).1);
    few = subst (λ (x : List ℕ). length (read_links s.kind s.dep x) ≤ length (names (s.form n))) (done_only n) (w.limits.links_few n h);
    of_signal = w.by_kind.of_signal n h;
    of_computed = λ k. subst (λ (x : List ℕ). ComputedFlags (s.fl n) x (s.subs n)) (done_only n) (w.by_kind.of_computed n h k);
    of_effect = λ k a. subst (λ (x : List ℕ). EffectFlags n (s.fl n) s.queue (read_links s.kind s.dep x)) (done_only n) (w.by_kind.of_effect n h k a);
    of_scope = w.by_kind.of_scope n h;
    of_gone = w.by_kind.of_gone n h;
    queued = w.queued.queue_gone n;
  }

  computed_quiet : (n : ℕ) → ComputedFlags (s.fl n) (deps s n) (s.subs n) → (s.fl n).watching ≡ false
  computed_quiet n (never e x y) = ap (λ (z : Named). z.watching) e
  computed_quiet n (clean e) = ap (λ (z : Named). z.watching) e
  computed_quiet n (stale e x) = ap (λ (z : Named). z.watching) e
  computed_quiet n (maybe e x) = ap (λ (z : Named). z.watching) e
  computed_quiet n (dirty e x) = ap (λ (z : Named). z.watching) e

  effect_quiet : (n : ℕ) (reads : List ℕ) → EffectFlags n (s.fl n) s.queue reads → (s.fl n).pending ≡ true → (s.fl n).watching ≡ false
  effect_quiet n reads (watching e q) p = clash p (ap (λ (z : Named). z.pending) e)
  effect_quiet n reads (pushed e q) p = ap (λ (z : Named). z.watching) e
  effect_quiet n reads (pending e q h) p = ap (λ (z : Named). z.watching) e
  effect_quiet n reads (soiled e q h) p = ap (λ (z : Named). z.watching) e

  quiet : (n : ℕ) → n < s.size → (s.fl n).pending ≡ true → (s.fl n).watching ≡ false
  quiet n h p = go (s.kind n) refl
    where
      of_signal : (s.fl n ≡ f1) ⊎ (s.fl n ≡ f17) → (s.fl n).watching ≡ false
      of_signal (inl e) = ap (λ (z : Named). z.watching) e
      of_signal (inr e) = ap (λ (z : Named). z.watching) e

      of_gone : (s.fl n ≡ f0) ⊎ (s.fl n ≡ f2) → (s.fl n).watching ≡ false
      of_gone (inl e) = ap (λ (z : Named). z.watching) e
      of_gone (inr e) = clash p (ap (λ (z : Named). z.pending) e)

      go : (k : Kind) → s.kind n ≡ k → (s.fl n).watching ≡ false
      go signal e = of_signal (w.by_kind.of_signal n h e)
      go computed e = computed_quiet n (w.by_kind.of_computed n h e)
      go effect e = either (s.gone n) (λ a. of_gone (w.by_kind.of_gone n h e a)) (λ a. effect_quiet n _ (w.by_kind.of_effect n h e a) p)
      go scope e = ap (λ (z : Named). z.watching) (w.by_kind.of_scope n h e)

  pub rest_inside : Inside (given s) nobody s
  unfolding reserve
  rest_inside =
      let o = w.lists in
      record {
        same = refl;
        lists = record {
          free_not_live = o.free_not_live;
          free_or_live = o.free_or_live;
          free_once = o.free_once;
          live_slot = o.live_slot;
          live_in_subs = o.live_in_subs;
          subs_live = o.subs_live;
          subs_once = o.subs_once;
          live_in_deps = o.live_in_deps;
          deps_live = o.deps_live;
          deps_once = o.deps_once;
          tail_last = λ u. refl;
          inside = o.inside;
        };
        goes = λ l e. record {
          of_signal = w.depends.of_signal l e;
          of_computed = w.depends.of_computed l e;
          of_scope = w.depends.of_scope l e;
          lower = w.depends.read_lower l e;
          named = w.limits.links_named l e;
          owned = w.depends.owned_by_it l e;
        };
        gone_kind = w.depends.gone_kind;
        fits = w.limits.reserve_fits;
        no_wake = quiet;
        once = w.queued.queue_once;
        effects = w.queued.queue_effects;
        rests = λ n h x. rests_there n h;
      }

-- nobody is left inside
module _ (s : St) (st : Static (given s)) (i : Inside (given s) nobody s) where
  no_rest : (u : ℕ) → s.rest u ≡ []
  no_rest u = none_nil (s.rest u) (λ l j.
      let h = i.lists.deps_live l u (in_rest l j) in
      let low = (i.lists.inside l h.0).1 in
      nil_none (s.rest u) l (i.rests u (subst (λ (x : ℕ). x < s.size) h.1 low) (λ z. z)).tail j)
    where
      in_rest : (l : ℕ) → In l (s.rest u) → In l (deps s u)
      in_rest l j = right (s.done u) j
        where
          right : (xs : List ℕ) → In l (s.rest u) → In l (xs ++ s.rest u)
          right [] k = k
          right (x ∷ xs) k = inr (right xs k)

  all_done : (n : ℕ) → s.done n ≡ deps s n
  all_done n = sym (ap (λ (x : List ℕ). s.done n ++ x) (no_rest n) ∙ append-nil (s.done n))

  at : (n : ℕ) → n < s.size → Rests (given s) s n
  at n h = i.rests n h (λ z. z)

  pub inside_rest : (s.depth ≡ 0 → s.queue ≡ []) → s.depth ≤ most_depth → WellFormed s
  unfolding reserve
  inside_rest d0 low =
      let o = i.lists in
      record {
        lists = record {
          free_not_live = o.free_not_live;
          free_or_live = o.free_or_live;
          free_once = o.free_once;
          live_slot = o.live_slot;
          live_in_subs = o.live_in_subs;
          subs_live = o.subs_live;
          subs_once = o.subs_once;
          live_in_deps = o.live_in_deps;
          deps_live = o.deps_live;
          deps_once = o.deps_once;
          tail_last = no_rest;
          inside = o.inside;
        };
        depends = record {
          of_signal = λ l e. (i.goes l e).of_signal;
          of_computed = λ l e. (i.goes l e).of_computed;
          of_scope = λ l e. (i.goes l e).of_scope;
          read_lower = λ l e. (i.goes l e).lower;
          owned_by_it = λ l e. (i.goes l e).owned;
          one_owner = λ n p h a q. (at n h).owned p a q;
          owner_lower = st.owner_lower;
          unowned = λ n h. (at n h).unowned;
          owner_kind = st.owner_kind;
          gone_bare = λ n h a. (sym (all_done n) ∙ ((at n h).bare a).0, ((at n h).bare a).1);
          gone_kind = i.gone_kind;
        };
        limits = record {
          names_lower = st.names_lower;
          nameless = st.nameless;
          links_few = λ n h. subst (λ (x : List ℕ). length (read_links s.kind s.dep x) ≤ length (names (s.form n))) (all_done n) (at n h).few;
          links_named = λ l e. (i.goes l e).named;
          cells_few = st.cells_few;
          nesting_low = st.nesting_low;
          levels = st.levels;
          level_low = st.level_low;
          room_within = st.room_within;
          nodes_fit = st.nodes_fit;
          cells_fit = st.cells_fit;
          reserve_fits = i.fits;
        };
        by_kind = record {
          of_signal = λ n h. (at n h).of_signal;
          of_computed = λ n h k. subst (λ (x : List ℕ). ComputedFlags (s.fl n) x (s.subs n)) (all_done n) ((at n h).of_computed k);
          of_effect = λ n h k a. subst (λ (x : List ℕ). EffectFlags n (s.fl n) s.queue (read_links s.kind s.dep x)) (all_done n) ((at n h).of_effect k a);
          of_scope = λ n h. (at n h).of_scope;
          of_gone = λ n h. (at n h).of_gone;
        };
        queued = record {
          queue_once = i.once;
          queue_effects = i.effects;
          queue_gone = λ n j. (at n (i.effects n j).0).queued j;
          at_depth_0 = d0;
          depth_low = low;
        };
      }

-- ---- what a ring may come to from d: lower signals and computeds; from an effect or a scope also higher effects and scopes, which it owns
pub record Under (g : Given) (d m : ℕ) : Type 0 where
  pub low : readable (g.kind m) ≡ true → readable (g.kind d) ≡ true → rank m ≤ rank d
  pub high : readable (g.kind m) ≡ false → (readable (g.kind d) ≡ false) × (d ≤ m)
  pub owned : readable (g.kind m) ≡ false → Below g.owner d m

module _ (g : Given) (st : Static g) where
  pub under_same : (d : ℕ) → Under g d d
  under_same d = record { low = λ a b. omega arith; high = λ a. (a, omega arith); owned = λ a. itself refl }

  pub under_then : (d m k : ℕ) → Under g d m → Under g m k → Under g d k
  under_then d m k p q = record {
    low = λ a b. either (readable (g.kind m)) (λ e. let x = p.low e b in let y = q.low a e in omega arith) (λ e. clash b (p.high e).0);
    high = λ a. let y = q.high a in let x = p.high y.0 in let z = y.1 in let w = x.1 in (x.0, omega arith);
    owned = λ a. below_then g.owner d m k (p.owned (q.high a).0) (q.owned a);
  }

  -- an owner is no signal and no computed
  pub owner_owns : (d u : ℕ) → Goes g d u → readable (g.kind d) ≡ false → readable (g.kind u) ≡ false
  owner_owns d u l e = go (g.kind u) refl
    where
      go : (k : Kind) → g.kind u ≡ k → readable (g.kind u) ≡ false
      go signal q = absurd (l.of_signal q)
      go computed q = clash (l.of_computed q) e
      go effect q = ap readable q
      go scope q = ap readable q

  pub goes_under : (d u : ℕ) → d < g.size → Goes g d u → Under g u d
  goes_under d u h l = record {
    low = λ a b. let x = l.lower a in omega arith;
    high = λ a. let x = st.owner_lower d u h (l.owned a) in (owner_owns d u l a, omega arith);
    owned = λ a. through u (itself refl) (l.owned a);
  }

  pub never_back : (d u : ℕ) → d < g.size → Goes g d u → Under g d u → ⊥
  never_back d u h l p = either (readable (g.kind d))
      (λ e. let x = l.lower e in either (readable (g.kind u)) (λ f. let y = p.low f e in omega arith) (λ f. clash e (p.high f).0))
      (λ e. let x = st.owner_lower d u h (l.owned e) in let y = (p.high (owner_owns d u l e)).1 in omega arith)
