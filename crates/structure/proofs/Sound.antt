-- The state that is read from tables that the test passes is well formed. Assumes nothing.
use Rattle.std.specs.Prelude.{None, Some}
use mathlib.Core.Path.{◌≡◌, refl, sym, ap, fun_ext, ◌∙◌, subst, subst₂}
use mathlib.Core.Logic.{◌⊎◌, inl, inr}
use mathlib.Core.Bool.{true, false}
use mathlib.Core.List.{List, [], ◌∷◌, append-nil}
use Prim.Native.Nat.{ℕ, suc, ◌%◌, ◌≤◌, ◌<◌}
use native.Mathlib.Omega.{arith}
use lib.IntN.{ℤ, pos}
use lib.ListN.{length, get_or}
use Rattle.flags.specs.declared.Named.{Named}
use Rattle.flags.specs.Flags.{bit as bit_at, named}
use Rattle.queue.specs.Queue.{queue_of}
use Rattle.primitive.specs.Words.{COUNT, FLAGS, KIND, GONE, DEPS, DEPS-TAIL, SUBS, SUBS-TAIL, OWNER, LEVEL, DEP, SUB, PREV-SUB, NEXT-SUB, PREV-DEP, NEXT-DEP, SIGNAL, COMPUTED, EFFECT, SCOPE, FREE, node, link}
use Rattle.trees.specs.Trees.{Tree, constant, names, size, nesting}
use Rattle.trees.specs.Legal.{readable_in, AllReadable, most_cells, most_nesting}
use Rattle.lists.specs.Sum.{occ}
use Rattle.lists.specs.Each.{keep}
use Rattle.counting.specs.Counts.{counted_in, slot_room, reserve_in, total as totalIn, reserve_of as reserveAt}
use Rattle.counting.proofs.Capacities.{carried}
use Rattle.telling.specs.Rules.{AllLower, HasFormula, NodeRow, a_signal_row, a_computed_row, an_effect, a_scope, Described}
use Rattle.telling.specs.Whole.{used_cells}
use Rattle.resting.specs.Linked.{is_live_slot as live_in}
use Rattle.resting.specs.Named.{names_of}
use Rattle.resting.specs.AtRest.{subs_of, deps_of, free_of, read_links_of, May, Waits, Flagged, signal_clean, signal_set, computed_never, computed_clean, computed_bare, computed_pending, computed_dirty, effect_watching, effect_queued, effect_pending, effect_dirty, gone_queued, gone_done, scope_still, Joined}
use Rattle.resting.proofs.LinkedExact.{live_low}
use Rattle.linking.specs.Free.{is_live_slot}
use Rattle.meaning.specs.State.{St, Kind, signal, computed, effect, scope, readable, deps, f0, f1, f2, f17, f32, f33, f48, f49}
use Rattle.meaning.specs.Engine.{level_of, tallest as tallestOf}
use Rattle.meaning.specs.Reserve.{reserve}
use Rattle.meaning.specs.Refusals.{most_level}
use Rattle.meaning.specs.WellFormed.{In, Once, read_links, Lists, Depends, Limits, ComputedFlags, never, clean, stale, maybe, EffectFlags, watching, pushed, pending, FlagsByKind, Queue, WellFormed}
use Rattle.meaning.proofs.Laws.{either, clash, false≢true}
use Rattle.meaning.proofs.Members.{none_nil, reads_sub}
use Rattle.refusing.specs.Sight.{kind_of}
use Rattle.structure.specs.Rep.{kind_word, has_form}
use Rattle.structure.specs.Reading.{of_node, owner_in, state_in}
use Rattle.structure.proofs.Occurs.{occ_in, occ_once, all_in}
use Rattle.structure.proofs.ChainLaws.{listed_in, free_in}
use Rattle.structure.proofs.WordLaws.{live_same, says_kind, same_kind, unmarked, marked, zero_mark, owner_some, owner_none, of_a_node, in_node, readable_within, readable_low, spelt_names, no_names, read_same, read_link, tallest_same, depth_same, queue_nil}
use Rattle.structure.proofs.Represents.{room_fits, counted, known, fit, row_form, form_tree, form_none, form_spelt, read_rep}
use Rattle.structure.proofs.Counting.{reserve_is}

-- ---- a node's flags, by its kind
data Sorted (n kind gone f : ℕ) (ds ss rs q : List ℕ) : Type 0 where
  signal_flags_lem : kind ≡ SIGNAL → (named (f % 256) ≡ f1) ⊎ (named (f % 256) ≡ f17) → Sorted n kind gone f ds ss rs q
  computed_flags_lem : kind ≡ COMPUTED → ComputedFlags (named (f % 256)) ds ss → Sorted n kind gone f ds ss rs q
  effect_flags_lem : kind ≡ EFFECT → gone ≡ 0 → EffectFlags n (named (f % 256)) q rs → Sorted n kind gone f ds ss rs q
  gone_flags_lem : kind ≡ EFFECT → (gone ≡ 0 → ⊥) → (named (f % 256) ≡ f0) ⊎ (named (f % 256) ≡ f2) → Sorted n kind gone f ds ss rs q
  scope_flags : kind ≡ SCOPE → named (f % 256) ≡ f0 → Sorted n kind gone f ds ss rs q

word_flags : (w k : ℕ) → w ≡ k → (f : Named) → named (k % 256) ≡ f → named (w % 256) ≡ f
word_flags w k e f p = ap (λ (x : ℕ). named (x % 256)) e ∙ p

zero_flags : named (0 % 256) ≡ f0
unfolding named bit_at
zero_flags = refl

module _ (n kind gone f : ℕ) (ds ss rs q : List ℕ) where
  -- by where it stands in the queue
  sorts : (kind ≡ EFFECT → gone ≡ 0 → (f ≡ 2 → ⊥) → In n q) → (gone ≡ 0 → f ≡ 2 → In n q → ⊥) → Flagged kind gone f ds ss rs → Sorted n kind gone f ds ss rs q
  unfolding named bit_at
  sorts w u (signal_clean k e) = signal_flags_lem k (inl (word_flags f 1 e f1 refl))
  sorts w u (signal_set k e) = signal_flags_lem k (inr (word_flags f 17 e f17 refl))
  sorts w u (computed_never k e a b) = computed_flags_lem k (never (word_flags f 0 e f0 refl) a b)
  sorts w u (computed_clean k e) = computed_flags_lem k (clean (word_flags f 1 e f1 refl))
  sorts w u (computed_bare k e a) = computed_flags_lem k (stale (word_flags f 17 e f17 refl) a)
  sorts w u (computed_pending k e a) = computed_flags_lem k (maybe (word_flags f 33 e f33 refl) a)
  sorts w u (computed_dirty k e a) = computed_flags_lem k (ComputedFlags.dirty (word_flags f 49 e f49 refl) a)
  sorts w u (effect_watching k g e) = effect_flags_lem k g (watching (word_flags f 2 e f2 refl) (u g e))
  sorts w u (effect_queued k g e) = effect_flags_lem k g (pushed (word_flags f 0 e f0 refl) (w k g (λ z. omega arith)))
  sorts w u (effect_pending k g e a) = effect_flags_lem k g (pending (word_flags f 32 e f32 refl) (w k g (λ z. omega arith)) a)
  sorts w u (effect_dirty k g e a) = effect_flags_lem k g (EffectFlags.dirty (word_flags f 48 e f48 refl) (w k g (λ z. omega arith)) a)
  sorts w u (gone_queued k g e) = gone_flags_lem k g (inl (word_flags f 0 e f0 refl))
  sorts w u (gone_done k g e) = gone_flags_lem k g (inr (word_flags f 2 e f2 refl))
  sorts w u (scope_still k e) = scope_flags k (word_flags f 0 e f0 refl)

module _ (N L : List ℕ) (W C : List ℤ) (d : Described N L W C) (j : Joined N L C) where
  abbrev s : St
  s = state_in N L W C

  abbrev count : ℕ
  count = get_or N COUNT 0

  -- the two lists of a node
  abbrev D : ℕ → List ℕ
  D n = of_node N n (deps_of N L n)

  abbrev S : ℕ → List ℕ
  S n = of_node N n (subs_of N L n)

  deps_is : deps s ≡ D
  deps_is = fun_ext (λ n. append-nil (D n))

  below : (n : ℕ) → n < counted_in N → n < count
  below n h = omega (arith, counted N L W C d)

  -- ---- slots and lists
  lives : (x : ℕ) → is_live_slot L x ≡ true → live_in L x ≡ true
  lives x e = sym (live_same L x) ∙ e

  sub_low : (x : ℕ) → is_live_slot L x ≡ true → link L x SUB < count
  sub_low x e = below _ (j.linked.in_deps x (lives x e)).0

  dep_low : (x : ℕ) → is_live_slot L x ≡ true → link L x DEP < count
  dep_low x e = below _ (j.linked.in_subs x (lives x e)).0

  in_deps : (x : ℕ) → is_live_slot L x ≡ true → In x (deps_of N L (link L x SUB))
  in_deps x e = occ_in x (deps_of N L (link L x SUB)) (omega (arith, (j.linked.in_deps x (lives x e)).1))

  in_subs : (x : ℕ) → is_live_slot L x ≡ true → In x (subs_of N L (link L x DEP))
  in_subs x e = occ_in x (subs_of N L (link L x DEP)) (omega (arith, (j.linked.in_subs x (lives x e)).1))

  deps_in : (x n : ℕ) → In x (D n) → (live_in L x ≡ true) × (link L x SUB ≡ n)
  deps_in x n i =
      let p = in_node N n x (deps_of N L n) i in
      listed_in L SUB PREV-DEP NEXT-DEP n 0 (node N n DEPS) (deps_of N L n) (node N n DEPS-TAIL) (j.linked.deps n (known N L W C d n p.0)) x p.1

  subs_in : (x n : ℕ) → In x (S n) → (live_in L x ≡ true) × (link L x DEP ≡ n)
  subs_in x n i =
      let p = in_node N n x (subs_of N L n) i in
      listed_in L DEP PREV-SUB NEXT-SUB n 0 (node N n SUBS) (subs_of N L n) (node N n SUBS-TAIL) (j.linked.subs n (known N L W C d n p.0)) x p.1

  deps_once : (n : ℕ) → Once (D n)
  deps_once n = occ_once (D n) (λ x i.
      let p = in_node N n x (deps_of N L n) i in
      let q = deps_in x n i in
      let o : occ x (deps_of N L n) ≡ 1 = subst (λ (m : ℕ). occ x (deps_of N L m) ≡ 1) q.1 (j.linked.in_deps x q.0).1 in
      let e : occ x (D n) ≡ 1 = ap (occ x) (of_a_node N n (deps_of N L n) p.0) ∙ o in
      omega arith)

  subs_once : (n : ℕ) → Once (S n)
  subs_once n = occ_once (S n) (λ x i.
      let p = in_node N n x (subs_of N L n) i in
      let q = subs_in x n i in
      let o : occ x (subs_of N L n) ≡ 1 = subst (λ (m : ℕ). occ x (subs_of N L m) ≡ 1) q.1 (j.linked.in_subs x q.0).1 in
      let e : occ x (S n) ≡ 1 = ap (occ x) (of_a_node N n (subs_of N L n) p.0) ∙ o in
      omega arith)

  of_free : (x : ℕ) → In x (free_of L) → (x < slot_room L) × (live_in L x ≡ false)
  of_free x i = free_in L (get_or L FREE 0) (free_of L) j.linked.free x i

  lists : Lists (slot_room L) count (free_of L) s.live s.dep s.sub D s.rest S
  lists = record {
    free_not_live = λ x i. let p = of_free x i in (live_same L x ∙ p.1, p.0);
    free_or_live = λ x h e. occ_in x (free_of L) (omega (arith, j.linked.in_free x h (sym (live_same L x) ∙ e)));
    free_once = occ_once (free_of L) (λ x i. let p = of_free x i in omega (arith, j.linked.in_free x p.0 p.1));
    live_slot = λ x e. live_low L x (lives x e);
    live_in_subs = λ x e. subst (In x) (sym (of_a_node N (link L x DEP) (subs_of N L (link L x DEP)) (dep_low x e))) (in_subs x e);
    subs_live = λ x n i. let p = subs_in x n i in (live_same L x ∙ p.0, p.1);
    subs_once = subs_once;
    live_in_deps = λ x e. subst (In x) (sym (of_a_node N (link L x SUB) (deps_of N L (link L x SUB)) (sub_low x e))) (in_deps x e);
    deps_live = λ x n i. let p = deps_in x n i in (live_same L x ∙ p.0, p.1);
    deps_once = deps_once;
    tail_last = λ n. refl;
    inside = λ x e. (dep_low x e, sub_low x e);
  }

  -- ---- what depends on what
  may : (x : ℕ) → is_live_slot L x ≡ true → May N (link L x SUB) (link L x DEP)
  may x e =
      let h = (j.linked.in_deps x (lives x e)).0 in
      all_in (λ (y : ℕ). May N (link L x SUB) (link L y DEP)) (deps_of N L (link L x SUB)) (j.depends (link L x SUB) h) x (in_deps x e)

  reads_dep : (x : ℕ) → is_live_slot L x ≡ true → readable_in N (link L x DEP) ≡ readable (s.kind (link L x DEP))
  reads_dep x e = readable_within N (link L x DEP) (dep_low x e)

  -- a word of two kinds
  not_both : {A : Type 0} (k i : Kind) (w : ℕ) → kind_of w ≡ k → w ≡ kind_word i → (kind_word k ≡ kind_word i → ⊥) → A
  not_both k i w e f h = absurd (h (same_kind k i w e f))

  of_signal : (x : ℕ) → is_live_slot L x ≡ true → s.kind (link L x SUB) ≡ signal → ⊥
  of_signal x e k = either (readable_in N (link L x DEP)) (λ q. go ((may x e).read q).0) (λ q. at ((may x e).own q).0)
    where
      go : (node N (link L x SUB) KIND ≡ COMPUTED) ⊎ (node N (link L x SUB) KIND ≡ EFFECT) → ⊥
      go (inl f) = not_both signal computed _ k f (λ z. omega arith)
      go (inr f) = not_both signal effect _ k f (λ z. omega arith)

      at : (node N (link L x SUB) KIND ≡ EFFECT) ⊎ (node N (link L x SUB) KIND ≡ SCOPE) → ⊥
      at (inl f) = not_both signal effect _ k f (λ z. omega arith)
      at (inr f) = not_both signal scope _ k f (λ z. omega arith)

  of_computed : (x : ℕ) → is_live_slot L x ≡ true → s.kind (link L x SUB) ≡ computed → readable (s.kind (link L x DEP)) ≡ true
  of_computed x e k = either (readable_in N (link L x DEP)) (λ q. sym (reads_dep x e) ∙ q) (λ q. at ((may x e).own q).0)
    where
      at : (node N (link L x SUB) KIND ≡ EFFECT) ⊎ (node N (link L x SUB) KIND ≡ SCOPE) → readable (s.kind (link L x DEP)) ≡ true
      at (inl f) = not_both computed effect _ k f (λ z. omega arith)
      at (inr f) = not_both computed scope _ k f (λ z. omega arith)

  of_scope : (x : ℕ) → is_live_slot L x ≡ true → s.kind (link L x SUB) ≡ scope → readable (s.kind (link L x DEP)) ≡ false
  of_scope x e k = either (readable_in N (link L x DEP)) (λ q. go ((may x e).read q).0) (λ q. sym (reads_dep x e) ∙ q)
    where
      go : (node N (link L x SUB) KIND ≡ COMPUTED) ⊎ (node N (link L x SUB) KIND ≡ EFFECT) → readable (s.kind (link L x DEP)) ≡ false
      go (inl f) = not_both scope computed _ k f (λ z. omega arith)
      go (inr f) = not_both scope effect _ k f (λ z. omega arith)

  -- a node is read, and then never gone nor owned, or it owns
  abbrev Stands : ℕ → Type 0
  Stands n = (readable (s.kind n) ≡ true) × (node N n GONE ≡ 0) × (node N n OWNER ≡ 0)

  abbrev Owns : ℕ → Type 0
  Owns n = (readable (s.kind n) ≡ false) × (node N n OWNER ≤ n)

  sort_of : (n : ℕ) → NodeRow N (used_cells N C) n → Stands n ⊎ Owns n
  sort_of n (a_signal_row k r) = inl (ap readable (says_kind signal _ k), r.not_gone, r.unowned)
  sort_of n (a_computed_row k r) = inl (ap readable (says_kind computed _ k), r.not_gone, r.unowned)
  sort_of n (an_effect k r f) = inr (ap readable (says_kind effect _ k), r.owner_lower)
  sort_of n (a_scope k r) = inr (ap readable (says_kind scope _ k), r.owner_lower)

  module _ (n : ℕ) (h : n < count) where
    sort : Stands n ⊎ Owns n
    sort = sort_of n (d.rows n h)

    unread : readable (s.kind n) ≡ false → readable_in N n ≡ false
    unread e = readable_within N n h ∙ e

    owned_reads : {A : Type 0} (o : ℕ) → s.owner n ≡ Some o → (Owns n → A) → A
    owned_reads {A} o e f = go sort
      where
        go : Stands n ⊎ Owns n → A
        go (inl p) = let z = owner_some (node N n OWNER) o e in let u = p.2 in absurd (omega arith)
        go (inr p) = f p

    one_owner : (o : ℕ) → s.gone n ≡ false → s.owner n ≡ Some o → (x : ℕ) × (S n ≡ x ∷ []) × (s.sub x ≡ o)
    one_owner o g e =
        owned_reads o e (λ p.
        let q = (j.owned n (known N L W C d n h)).owned (unread p.0) (unmarked (node N n GONE) g) o (owner_some (node N n OWNER) o e) in
        (q.0, of_a_node N n (subs_of N L n) h ∙ q.1, q.2))

    owner_lower : (o : ℕ) → s.owner n ≡ Some o → o < n
    owner_lower o e = owned_reads o e (λ p. let a = owner_some (node N n OWNER) o e in let b = p.1 in omega arith)

    unowned : readable (s.kind n) ≡ false → s.owner n ≡ None → S n ≡ []
    unowned e f =
        of_a_node N n (subs_of N L n) h
        ∙ either (s.gone n) (λ g. ((j.owned n (known N L W C d n h)).gone (unread e) (marked (node N n GONE) g)).0)
        (λ g. (j.owned n (known N L W C d n h)).unowned (unread e) (unmarked (node N n GONE) g) (owner_none (node N n OWNER) f))

    owner_kind : readable (s.kind n) ≡ true → s.owner n ≡ None
    owner_kind e = go sort
      where
        go : Stands n ⊎ Owns n → s.owner n ≡ None
        go (inl p) = ap owner_in p.2
        go (inr p) = clash e p.0

    gone_bare : s.gone n ≡ true → (D n ≡ []) × (S n ≡ [])
    gone_bare g = go sort
      where
        go : Stands n ⊎ Owns n → (D n ≡ []) × (S n ≡ [])
        go (inl p) = absurd (marked (node N n GONE) g p.1)
        go (inr p) =
            let q = (j.owned n (known N L W C d n h)).gone (unread p.0) (marked (node N n GONE) g) in
            (of_a_node N n (deps_of N L n) h ∙ q.1, of_a_node N n (subs_of N L n) h ∙ q.0)

    gone_kind : readable (s.kind n) ≡ true → s.gone n ≡ false
    gone_kind e = go sort
      where
        go : Stands n ⊎ Owns n → s.gone n ≡ false
        go (inl p) = zero_mark (node N n GONE) p.1
        go (inr p) = clash e p.0

  depends : Depends count s.kind s.owner s.gone s.live s.dep s.sub D S
  depends = record {
    of_signal = of_signal;
    of_computed = of_computed;
    of_scope = of_scope;
    read_lower = λ x e r. ((may x e).read (reads_dep x e ∙ r)).1;
    owned_by_it = λ x e r. ap owner_in ((may x e).own (reads_dep x e ∙ r)).1;
    one_owner = λ n o h. one_owner n h o;
    owner_lower = λ n o h. owner_lower n h o;
    unowned = unowned;
    owner_kind = owner_kind;
    gone_bare = gone_bare;
    gone_kind = gone_kind;
  }

  -- ---- formulas and limits
  all_known : (ns : List ℕ) → AllReadable N ns → (m : ℕ) → In m ns → readable_in N m ≡ true
  all_known [] a m x'' = elim x'' [ ]
  all_known (n ∷ ns) a m (inl e) = subst (λ (x : ℕ). readable_in N x ≡ true) (sym e) a.0
  all_known (n ∷ ns) a m (inr i) = all_known ns a.1 m i

  all_are_lower : (ns : List ℕ) (n : ℕ) → AllLower ns n → (m : ℕ) → In m ns → m < n
  all_are_lower [] n a m x'' = elim x'' [ ]
  all_are_lower (k ∷ ns) n a m (inl e) = let b = a.0 in omega arith
  all_are_lower (k ∷ ns) n a m (inr i) = all_are_lower ns n a.1 m i

  -- by whether the node has a formula
  by_form : {A : Type 0} (n : ℕ) → n < count → ((t : HasFormula N (used_cells N C) n) → has_form (s.kind n) ≡ true → s.form n ≡ t.tree → A)
      → (has_form (s.kind n) ≡ false → s.form n ≡ constant (pos 0) → A) → A
  by_form n h f g =
      either (has_form (s.kind n)) (λ e. let t = row_form N L W C d n (d.rows n h) e in f t e (form_tree N L W C d n h e t))
      (λ e. g e (form_none N L W C d n h e))

  names_lower : (n m : ℕ) → n < count → In m (names (s.form n)) → (readable (s.kind m) ≡ true) × (m < n)
  unfolding names
  names_lower n m h i =
      by_form n h
      (λ t e q. let k : In m (names t.tree) = subst (λ (x : Tree). In m (names x)) q i in
      let r = all_known (names t.tree) t.formula.known m k in
      (sym (readable_within N m (readable_low N m r)) ∙ r, all_are_lower (names t.tree) n t.lower m k))
      (λ e q. absurd (subst (λ (x : Tree). In m (names x)) q i))

  nameless : (n : ℕ) → n < count → (s.kind n ≡ signal) ⊎ (s.kind n ≡ scope) → names (s.form n) ≡ []
  unfolding names
  nameless n h k = ap names (form_none N L W C d n h (go k))
    where
      go : (s.kind n ≡ signal) ⊎ (s.kind n ≡ scope) → has_form (s.kind n) ≡ false
      go (inl e) = ap has_form e
      go (inr e) = ap has_form e

  reads_at : (n : ℕ) → n < count → read_links s.kind s.dep (D n) ≡ read_links_of N L n
  reads_at n h =
      read_same N L (D n) (λ x i. dep_low x (live_same L x ∙ (deps_in x n i).0))
      ∙ ap (keep (λ (x : ℕ). readable_in N (link L x DEP))) (of_a_node N n (deps_of N L n) h)

  -- what has no formula reads nothing
  unread_links : (n : ℕ) → n < count → has_form (s.kind n) ≡ false → read_links s.kind s.dep (D n) ≡ []
  unread_links n h e = none_nil (read_links s.kind s.dep (D n)) (λ x i. let q = deps_in x n (reads_sub s.kind s.dep x (D n) i) in
      let v = live_same L x ∙ q.0 in
      go x v (read_link s.kind s.dep (D n) x i) (s.kind n) refl (ap s.kind q.1))
    where
      go : (x : ℕ) → is_live_slot L x ≡ true → readable (s.kind (link L x DEP)) ≡ true → (k : Kind) → s.kind n ≡ k → s.kind (link L x SUB) ≡ s.kind n → ⊥
      go x v r signal k f = of_signal x v (f ∙ k)
      go x v r computed k f = false≢true (sym e ∙ ap has_form k)
      go x v r effect k f = false≢true (sym e ∙ ap has_form k)
      go x v r scope k f = clash r (of_scope x v (f ∙ k))

  links_few : (n : ℕ) → n < count → length (read_links s.kind s.dep (D n)) ≤ length (names (s.form n))
  links_few n h =
      by_form n h
      (λ t e q. let a = ap length (reads_at n h) in
      let b = j.few n (known N L W C d n h) in
      let c = t.counted in
      let f = ap (λ (x : Tree). length (names x)) q in
      omega arith)
      (λ e q. let a = ap length (unread_links n h e) in omega arith)

  links_named : (x : ℕ) → is_live_slot L x ≡ true → readable (s.kind (link L x DEP)) ≡ true → In (link L x DEP) (names (s.form (link L x SUB)))
  links_named x v r =
      let u = link L x SUB in
      let h = (j.linked.in_deps x (lives x v)).0 in
      let o = all_in (λ (y : ℕ). readable_in N (link L y DEP) ≡ true → 1 ≤ occ (link L y DEP) (names_of N C u)) (deps_of N L u) (j.named u h) x (in_deps x v) (reads_dep x v ∙ r) in
      by_form u (sub_low x v)
      (λ t e q. let f = spelt_names N C u (fit N L W C d) t.tree (form_spelt N L W C d u t) e ∙ sym (ap names q) in
      occ_in (link L x DEP) (names (s.form u)) (subst (λ (ns : List ℕ). 1 ≤ occ (link L x DEP) ns) f o))
      (λ e q. absurd (no_names N C u e (link L x DEP) (occ_in (link L x DEP) (names_of N C u) o)))

  cells_few : (n : ℕ) → n < count → size (s.form n) ≤ most_cells
  unfolding size
  cells_few n h = by_form n h (λ t e q. subst (λ (x : Tree). size x ≤ most_cells) (sym q) t.formula.few) (λ e q. subst (λ (x : Tree). size x ≤ most_cells) (sym q) (omega arith))

  nesting_low : (n : ℕ) → n < count → nesting (s.form n) ≤ most_nesting
  unfolding nesting
  nesting_low n h = by_form n h (λ t e q. subst (λ (x : Tree). nesting x ≤ most_nesting) (sym q) t.formula.shallow) (λ e q. subst (λ (x : Tree). nesting x ≤ most_nesting) (sym q) (omega arith))

  -- ---- heights and owner depths
  levels : (n : ℕ) → n < count → (s.level n ≡ level_of s.level (s.kind n) (s.form n) (s.owner n)) × (s.level n ≤ most_level (s.kind n))
  levels n h = go (d.rows n h)
    where
      by_kind : (k : Kind) → node N n KIND ≡ kind_word k → node N n LEVEL ≡ level_of s.level k (s.form n) (s.owner n) → node N n LEVEL ≤ most_level k
          → (node N n LEVEL ≡ level_of s.level (s.kind n) (s.form n) (s.owner n)) × (node N n LEVEL ≤ most_level (s.kind n))
      by_kind k e p q = subst (λ (x : Kind). (node N n LEVEL ≡ level_of s.level x (s.form n) (s.owner n)) × (node N n LEVEL ≤ most_level x)) (sym (says_kind k (node N n KIND) e)) (p, q)

      go : NodeRow N (used_cells N C) n → (node N n LEVEL ≡ level_of s.level (s.kind n) (s.form n) (s.owner n)) × (node N n LEVEL ≤ most_level (s.kind n))
      go (a_signal_row k r) = by_kind signal k r.level (omega (arith, r.level))
      go (a_computed_row k r) =
          let f = sym (form_tree N L W C d n h (ap has_form (says_kind computed _ k)) r.has) in
          by_kind computed k (r.level ∙ ap suc (tallest_same N (names r.has.tree) ∙ ap (λ (t : Tree). tallestOf s.level (names t)) f)) r.level_low
      go (an_effect k r f) = by_kind effect k (r.level ∙ depth_same N (node N n OWNER)) r.level_low
      go (a_scope k r) = by_kind scope k (r.level ∙ depth_same N (node N n OWNER)) r.level_low

  -- ---- the reserve
  reserve_fits : reserve s ≤ slot_room L
  unfolding reserve_in
  reserve_fits =
      let a = d.reserve_fits in
      let z = (carried N L W C d.carried).few_slots in
      let e : totalIn (reserveAt N) (counted_in N) ≡ reserve s = ap (totalIn (reserveAt N)) (counted N L W C d) ∙ reserve_is N L W C s (read_rep N L W C d j) in
      omega arith

  limits : Limits s.room count s.used (reserve s) s.kind s.form s.owner s.level s.live s.dep s.sub D
  limits = record {
    names_lower = names_lower;
    nameless = nameless;
    links_few = links_few;
    links_named = links_named;
    cells_few = cells_few;
    nesting_low = nesting_low;
    levels = λ n h. (levels n h).0;
    level_low = λ n h. (levels n h).1;
    room_within = room_fits N L W C d.carried;
    nodes_fit = d.nodes_fit;
    cells_fit = d.cells_fit;
    reserve_fits = reserve_fits;
  }

  -- ---- flags by kind, and the queue
  waits : (n : ℕ) → n < count → node N n KIND ≡ EFFECT → node N n GONE ≡ 0 → (node N n FLAGS ≡ 2 → ⊥) → In n (queue_of N)
  waits n h k g f =
      occ_in n (queue_of N)
      (omega (arith, j.queued.each n (record { known = known N L W C d n h; effect = k; unwatching = λ g. f; gone = λ a. absurd (a g) }) g))

  waiting : (n : ℕ) → In n (queue_of N) → Waits N n
  waiting n i = all_in (Waits N) (queue_of N) j.queued.only n i

  abbrev SortedAt : ℕ → Type 0
  SortedAt n = Sorted n (node N n KIND) (node N n GONE) (node N n FLAGS) (deps_of N L n) (subs_of N L n) (read_links_of N L n) (queue_of N)

  sorted : (n : ℕ) → n < count → SortedAt n
  sorted n h =
      sorts n (node N n KIND) (node N n GONE) (node N n FLAGS) (deps_of N L n) (subs_of N L n) (read_links_of N L n) (queue_of N)
      (λ k g f. waits n h k g f) (λ g f i. (waiting n i).unwatching g f) (j.flagged n (known N L W C d n h))

  module _ (n : ℕ) (h : n < count) where
    flags_signal : s.kind n ≡ signal → (s.fl n ≡ f1) ⊎ (s.fl n ≡ f17)
    flags_signal k = go (sorted n h)
      where
        go : SortedAt n → (s.fl n ≡ f1) ⊎ (s.fl n ≡ f17)
        go (signal_flags_lem e f) = f
        go (computed_flags_lem e f) = not_both signal computed _ k e (λ z. omega arith)
        go (effect_flags_lem e g f) = not_both signal effect _ k e (λ z. omega arith)
        go (gone_flags_lem e g f) = not_both signal effect _ k e (λ z. omega arith)
        go (scope_flags e f) = not_both signal scope _ k e (λ z. omega arith)

    flags_computed : s.kind n ≡ computed → ComputedFlags (s.fl n) (deps_of N L n) (subs_of N L n)
    flags_computed k = go (sorted n h)
      where
        go : SortedAt n → ComputedFlags (s.fl n) (deps_of N L n) (subs_of N L n)
        go (signal_flags_lem e f) = not_both computed signal _ k e (λ z. omega arith)
        go (computed_flags_lem e f) = f
        go (effect_flags_lem e g f) = not_both computed effect _ k e (λ z. omega arith)
        go (gone_flags_lem e g f) = not_both computed effect _ k e (λ z. omega arith)
        go (scope_flags e f) = not_both computed scope _ k e (λ z. omega arith)

    flags_effect : s.kind n ≡ effect → s.gone n ≡ false → EffectFlags n (s.fl n) (queue_of N) (read_links_of N L n)
    flags_effect k m = go (sorted n h)
      where
        go : SortedAt n → EffectFlags n (s.fl n) (queue_of N) (read_links_of N L n)
        go (signal_flags_lem e f) = not_both effect signal _ k e (λ z. omega arith)
        go (computed_flags_lem e f) = not_both effect computed _ k e (λ z. omega arith)
        go (effect_flags_lem e g f) = f
        go (gone_flags_lem e g f) = absurd (g (unmarked (node N n GONE) m))
        go (scope_flags e f) = not_both effect scope _ k e (λ z. omega arith)

    flags_gone : s.kind n ≡ effect → s.gone n ≡ true → (s.fl n ≡ f0) ⊎ (s.fl n ≡ f2)
    flags_gone k m = go (sorted n h)
      where
        go : SortedAt n → (s.fl n ≡ f0) ⊎ (s.fl n ≡ f2)
        go (signal_flags_lem e f) = not_both effect signal _ k e (λ z. omega arith)
        go (computed_flags_lem e f) = not_both effect computed _ k e (λ z. omega arith)
        go (effect_flags_lem e g f) = absurd (marked (node N n GONE) m g)
        go (gone_flags_lem e g f) = f
        go (scope_flags e f) = not_both effect scope _ k e (λ z. omega arith)

    flags_scope : s.kind n ≡ scope → s.fl n ≡ f0
    flags_scope k = go (sorted n h)
      where
        go : SortedAt n → s.fl n ≡ f0
        go (signal_flags_lem e f) = not_both scope signal _ k e (λ z. omega arith)
        go (computed_flags_lem e f) = not_both scope computed _ k e (λ z. omega arith)
        go (effect_flags_lem e g f) = not_both scope effect _ k e (λ z. omega arith)
        go (gone_flags_lem e g f) = not_both scope effect _ k e (λ z. omega arith)
        go (scope_flags e f) = f

  by_kind : FlagsByKind count s.kind s.gone s.fl (queue_of N) s.dep D S
  by_kind = record {
    of_signal = flags_signal;
    of_computed = λ n h k. subst₂ (ComputedFlags (s.fl n)) (sym (of_a_node N n (deps_of N L n) h)) (sym (of_a_node N n (subs_of N L n) h)) (flags_computed n h k);
    of_effect = λ n h k g. subst (EffectFlags n (s.fl n) (queue_of N)) (sym (reads_at n h)) (flags_effect n h k g);
    of_scope = flags_scope;
    of_gone = flags_gone;
  }

  queued : Queue count s.kind s.gone s.fl (queue_of N) s.depth
  queued = record {
    queue_once = occ_once (queue_of N) (λ x i. j.queued.once x);
    queue_effects = λ n i. let w = waiting n i in (below n w.known, says_kind effect _ w.effect);
    queue_gone = λ n i g. let w = waiting n i in word_flags (node N n FLAGS) 0 (w.gone (marked (node N n GONE) g)) f0 zero_flags;
    at_depth_0 = λ e. queue_nil N (j.queued.idle e);
    depth_low = j.queued.depth;
  }

  pub read_well_formed : WellFormed s
  read_well_formed = record {
    lists = subst (λ (ls : ℕ → List ℕ). Lists (slot_room L) count (free_of L) s.live s.dep s.sub ls s.rest S) (sym deps_is) lists;
    depends = subst (λ (ls : ℕ → List ℕ). Depends count s.kind s.owner s.gone s.live s.dep s.sub ls S) (sym deps_is) depends;
    limits = subst (λ (ls : ℕ → List ℕ). Limits s.room count s.used (reserve s) s.kind s.form s.owner s.level s.live s.dep s.sub ls) (sym deps_is) limits;
    by_kind = subst (λ (ls : ℕ → List ℕ). FlagsByKind count s.kind s.gone s.fl (queue_of N) s.dep ls S) (sym deps_is) by_kind;
    queued = queued;
  }
