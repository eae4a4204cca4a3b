-- Tables that represent a well-formed state pass the test: here for the state that is read from them. Assumes nothing.
use mathlib.Core.Path.{◌≡◌, refl, sym, ap, fun_ext, ◌∙◌, subst}
use mathlib.Core.Logic.{◌⊎◌, inl, inr}
use mathlib.Core.Bool.{Bool, true, false, ◌&&◌}
use mathlib.Core.List.{List, [], ◌∷◌, append-nil}
use Prim.Native.Nat.{ℕ, zero, suc, ◌*◌, ◌≤◌, ◌<◌}
use native.Mathlib.Omega.{arith}
use lib.Dec.{leb}
use lib.IntN.{ℤ}
use lib.ListN.{length, get_or}
use borrow.Author.Tests.{leb-true}
use Rattle.flags.specs.declared.Named.{Named}
use Rattle.queue.specs.Queue.{queue_of}
use Rattle.primitive.specs.Words.{COUNT, USED, FLAGS, KIND, GONE, DEPS, DEPS-TAIL, SUBS, SUBS-TAIL, READS, OWNER, LEVEL, DEP, SUB, PREV-SUB, NEXT-SUB, PREV-DEP, NEXT-DEP, SIGNAL, COMPUTED, EFFECT, SCOPE, FREE, node, link}
use Rattle.trees.specs.Trees.{names}
use Rattle.trees.specs.Legal.{readable_in, AllReadable}
use Rattle.lists.specs.Sum.{All, occ, bit}
use Rattle.lists.specs.Each.{keep}
use Rattle.counting.specs.Counts.{counted_in, node_room, slot_room, cell_room, reserve_in, total as totalIn, reserve_of as reserveAt}
use Rattle.counting.specs.Depths.{depth_under}
use Rattle.counting.proofs.Capacities.{carries}
use Rattle.telling.specs.Rules.{AllLower, HasFormula, ScopeRow, NodeRow, a_signal_row, a_computed_row, an_effect, a_scope, Described}
use Rattle.telling.specs.Whole.{used_cells}
use Rattle.resting.specs.Linked.{is_live_slot as live_in}
use Rattle.resting.specs.Named.{names_of}
use Rattle.resting.specs.AtRest.{subs_of, deps_of, free_of, read_links_of, Listed, Linked, May, Owned, Waits, Queued, Flagged, signal_clean, signal_set, computed_never, computed_clean, computed_bare, computed_pending, computed_dirty, effect_watching, effect_queued, effect_pending, effect_dirty, gone_queued, gone_done, scope_still, Joined}
use Rattle.linking.specs.Free.{is_live_slot}
use Rattle.meaning.specs.State.{St, Kind, signal, computed, effect, scope, readable, deps, f0, f1, f2, f17, f32, f33, f48, f49}
use Rattle.meaning.specs.Played.{byte}
use Rattle.meaning.specs.Engine.{level_of}
use Rattle.meaning.specs.Reserve.{reserve}
use Rattle.meaning.specs.Refusals.{most_level}
use Rattle.meaning.specs.WellFormed.{In, read_links, Lists, Depends, Limits, ComputedFlags, never, clean, stale, maybe, dirty, EffectFlags, watching, pushed, pending, FlagsByKind, WellFormed}
use Rattle.meaning.proofs.Laws.{either, clash, false≢true}
use Rattle.meaning.proofs.Members.{most_below}
use Rattle.structure.specs.Chains.{Chain, Back, last_word}
use Rattle.structure.specs.Rep.{kind_word, has_form, word_at, free_at, Rep}
use Rattle.structure.specs.Reading.{of_node, owner_in, state_in}
use Rattle.structure.proofs.Occurs.{once_occ, in_once, in_occ, in_all}
use Rattle.structure.proofs.ChainLaws.{to_listed, to_free}
use Rattle.structure.proofs.WordLaws.{live_same, says_kind, unmarked, marked, zero_mark, some_mark, owner_some, owner_none, of_a_node, readable_within, used_cells_lem, spelt_names, read_same, tallest_same, depth_same}
use Rattle.structure.proofs.Counting.{reserve_is}

pub both : (a b : Bool) → a && b ≡ true → (a ≡ true) × (b ≡ true)
both true b e = (refl, e)
both false b e = false≢true e

module _ (N L : List ℕ) (W C : List ℤ) (r : Rep N L W C (state_in N L W C)) (w : WellFormed (state_in N L W C)) where
  abbrev s : St
  s = state_in N L W C

  abbrev count : ℕ
  count = get_or N COUNT 0

  abbrev D : ℕ → List ℕ
  D n = of_node N n (deps_of N L n)

  abbrev S : ℕ → List ℕ
  S n = of_node N n (subs_of N L n)

  deps_is : deps s ≡ D
  deps_is = fun_ext (λ n. append-nil (D n))

  ls : Lists (slot_room L) count (free_of L) s.live s.dep s.sub D s.rest S
  ls = subst (λ (x : ℕ → List ℕ). Lists (slot_room L) count (free_of L) s.live s.dep s.sub x s.rest S) deps_is w.lists

  ds : Depends count s.kind s.owner s.gone s.live s.dep s.sub D S
  ds = subst (λ (x : ℕ → List ℕ). Depends count s.kind s.owner s.gone s.live s.dep s.sub x S) deps_is w.depends

  li : Limits s.room count s.used (reserve s) s.kind s.form s.owner s.level s.live s.dep s.sub D
  li = subst (λ (x : ℕ → List ℕ). Limits s.room count s.used (reserve s) s.kind s.form s.owner s.level s.live s.dep s.sub x) deps_is w.limits

  fs : FlagsByKind count s.kind s.gone s.fl (queue_of N) s.dep D S
  fs = subst (λ (x : ℕ → List ℕ). FlagsByKind count s.kind s.gone s.fl (queue_of N) s.dep x S) deps_is w.by_kind

  counted : counted_in N ≡ count
  unfolding counted_in
  counted = omega (arith, li.nodes_fit)

  below : (n : ℕ) → n < counted_in N → n < count
  below n h = omega (arith, counted)

  known : (n : ℕ) → n < count → n < counted_in N
  known n h = omega (arith, counted)

  fit : get_or N USED 0 * 2 ≤ length C
  fit = omega (arith, li.cells_fit)

  -- the kind word of a node of this kind
  kind_at : (n : ℕ) → n < count → (k : Kind) → s.kind n ≡ k → node N n KIND ≡ kind_word k
  kind_at n h k e = r.kinds.kind_word_lem n h ∙ ap kind_word e

  -- ---- formulas
  all_known : (n : ℕ) → n < count → (ns : List ℕ) → ((m : ℕ) → In m ns → (readable (s.kind m) ≡ true) × (m < n)) → AllReadable N ns × AllLower ns n
  all_known n h [] f = (tt, tt)
  all_known n h (m ∷ ns) f =
      let p = f m (inl refl) in
      let l = p.1 in
      let q = all_known n h ns (λ x i. f x (inr i)) in
      ((readable_within N m (omega arith) ∙ p.0, q.0), (p.1, q.1))

  formula : (n : ℕ) → n < count → has_form (s.kind n) ≡ true → HasFormula N (used_cells N C) n
  formula n h e =
      let f = r.forms.spelt n h e in
      let k = all_known n h (names (s.form n)) (λ m i. li.names_lower n m h i) in
      record {
        tree = s.form n;
        inside = let i = f.inside in omega (arith, used_cells_lem N C n fit);
        long = f.long;
        formula = record { spelt = f.words; few = li.cells_few n h; shallow = li.nesting_low n h; known = k.0 };
        lower = k.1;
        counted = f.counted;
      }

  -- ---- rows
  module _ (n : ℕ) (h : n < count) where
    level_is : (k : Kind) → s.kind n ≡ k → (node N n LEVEL ≡ level_of s.level k (s.form n) (s.owner n)) × (node N n LEVEL ≤ most_level k)
    level_is k e = subst (λ (x : Kind). (node N n LEVEL ≡ level_of s.level x (s.form n) (s.owner n)) × (node N n LEVEL ≤ most_level x)) e (li.levels n h, li.level_low n h)

    never_gone : readable (s.kind n) ≡ true → node N n GONE ≡ 0
    never_gone e = unmarked (node N n GONE) (ds.gone_kind n h e)

    never_owned : readable (s.kind n) ≡ true → node N n OWNER ≡ 0
    never_owned e = owner_none (node N n OWNER) (ds.owner_kind n h e)

    gone_low : node N n GONE ≤ 1
    gone_low = go (s.gone n) refl
      where
        go : (b : Bool) → s.gone n ≡ b → node N n GONE ≤ 1
        go true e = let q = r.kinds.gone_word n h ∙ ap bit e in omega arith
        go false e = let q = unmarked (node N n GONE) e in omega arith

    owner_low : node N n OWNER ≤ n
    owner_low = go (node N n OWNER) refl
      where
        go : (o : ℕ) → node N n OWNER ≡ o → o ≤ n
        go zero e = omega arith
        go (suc o) e = let q = ds.owner_lower n o h (ap owner_in e) in omega arith

    scope_row : (k : Kind) → s.kind n ≡ k → node N n LEVEL ≡ depth_under N (node N n OWNER) → node N n LEVEL ≤ 16 → ScopeRow N n
    scope_row k e l m = record { gone_mark = gone_low; owner_lower = owner_low; level = l; level_low = m }

    row : NodeRow N (used_cells N C) n
    unfolding formula
    row = go (s.kind n) refl
      where
        go : (k : Kind) → s.kind n ≡ k → NodeRow N (used_cells N C) n
        go signal e = a_signal_row (kind_at n h signal e) (record { not_gone = never_gone (ap readable e); unowned = never_owned (ap readable e); level = (level_is signal e).0 })
        go computed e =
            a_computed_row (kind_at n h computed e)
            (record {
              not_gone = never_gone (ap readable e);
              unowned = never_owned (ap readable e);
              has = formula n h (ap has_form e);
              level = (level_is computed e).0 ∙ ap suc (sym (tallest_same N (names (s.form n))));
              level_low = (level_is computed e).1;
            })
        go effect e = an_effect (kind_at n h effect e) (scope_row effect e ((level_is effect e).0 ∙ sym (depth_same N (node N n OWNER))) (level_is effect e).1) (formula n h (ap has_form e))
        go scope e = a_scope (kind_at n h scope e) (scope_row scope e ((level_is scope e).0 ∙ sym (depth_same N (node N n OWNER))) (level_is scope e).1)

  pub is_described : Described N L W C
  unfolding reserve_in
  is_described =
      let c = li.room_within in
      let z = r.lengths in
      let a = both _ _ c in
      let b = both _ _ a.1 in
      let nodes = both (leb 1 (node_room N)) _ a.0 in
      let slots = both (leb 1 (slot_room L)) _ b.0 in
      let cells = both (leb 1 (cell_room C)) _ b.1 in
      record {
        carried = carries N L W C (node_room N) (slot_room L) (cell_room C)
            (record {
              node_rows_lem = z.of_nodes;
              value_words_lem = z.of_values;
              link_rows_lem = z.of_links;
              cells_long = z.of_cells;
              some_nodes = leb-true _ _ nodes.0;
              few_nodes = leb-true _ _ nodes.1;
              some_slots = leb-true _ _ slots.0;
              few_slots = leb-true _ _ slots.1;
              some_cells = leb-true _ _ cells.0;
              few_cells = leb-true _ _ cells.1;
            });
        nodes_fit = li.nodes_fit;
        cells_fit = li.cells_fit;
        rows = row;
        reserve_fits = let e : totalIn (reserveAt N) (counted_in N) ≡ reserve s = ap (totalIn (reserveAt N)) counted ∙ reserve_is N L W C s r in omega (arith, li.reserve_fits);
      }

  -- ---- slots and lists
  lives : (x : ℕ) → live_in L x ≡ true → is_live_slot L x ≡ true
  lives x e = live_same L x ∙ e

  deps_in : (n : ℕ) → n < count → (x : ℕ) → In x (deps_of N L n) → (is_live_slot L x ≡ true) × (link L x SUB ≡ n)
  deps_in n h x i = ls.deps_live x n (subst (In x) (sym (of_a_node N n (deps_of N L n) h)) i)

  subs_in : (n : ℕ) → n < count → (x : ℕ) → In x (subs_of N L n) → (is_live_slot L x ≡ true) × (link L x DEP ≡ n)
  subs_in n h x i = ls.subs_live x n (subst (In x) (sym (of_a_node N n (subs_of N L n) h)) i)

  deps_listed : (n : ℕ) → n < count → Listed L SUB PREV-DEP NEXT-DEP n 0 (node N n DEPS) (deps_of N L n) (node N n DEPS-TAIL)
  unfolding word_at
  deps_listed n h =
      let e : deps s n ≡ deps_of N L n = append-nil (D n) ∙ of_a_node N n (deps_of N L n) h in
      to_listed L SUB PREV-DEP NEXT-DEP n (word_at N L NEXT-DEP n DEPS) (λ x. refl) 0 (node N n DEPS) (deps_of N L n) (node N n DEPS-TAIL) refl
      (subst (λ (xs : List ℕ). Chain (word_at N L NEXT-DEP n DEPS) 0 xs) e (r.deps.next n h))
      (subst (λ (xs : List ℕ). Back (λ (x : ℕ). link L x PREV-DEP) 0 xs) e (r.deps.prev n h))
      (r.deps.tail n h ∙ ap (last_word 0) (of_a_node N n (deps_of N L n) h))
      (λ x i. let p = deps_in n h x i in (sym (live_same L x) ∙ p.0, p.1))

  subs_listed : (n : ℕ) → n < count → Listed L DEP PREV-SUB NEXT-SUB n 0 (node N n SUBS) (subs_of N L n) (node N n SUBS-TAIL)
  unfolding word_at
  subs_listed n h =
      let e = of_a_node N n (subs_of N L n) h in
      to_listed L DEP PREV-SUB NEXT-SUB n (word_at N L NEXT-SUB n SUBS) (λ x. refl) 0 (node N n SUBS) (subs_of N L n) (node N n SUBS-TAIL) refl
      (subst (λ (xs : List ℕ). Chain (word_at N L NEXT-SUB n SUBS) 0 xs) e (r.subs.next n h))
      (subst (λ (xs : List ℕ). Back (λ (x : ℕ). link L x PREV-SUB) 0 xs) e (r.subs.prev n h))
      (r.subs.tail n h ∙ ap (last_word 0) e)
      (λ x i. let p = subs_in n h x i in (sym (live_same L x) ∙ p.0, p.1))

  linked : Linked N L
  unfolding free_at
  linked = record {
    subs = λ n h. subs_listed n (below n h);
    deps = λ n h. deps_listed n (below n h);
    free = to_free L (free_at L) (λ x. refl) 0 (get_or L FREE 0) (free_of L) refl r.free
        (λ x i. let p = ls.free_not_live x i in (p.1, sym (live_same L x) ∙ p.0));
    in_subs = λ x e.
        let h = (ls.inside x (lives x e)).0 in
        let q = of_a_node N (link L x DEP) (subs_of N L (link L x DEP)) h in
        (known _ h, ap (occ x) (sym q) ∙ in_once x (S (link L x DEP)) (ls.subs_once (link L x DEP)) (ls.live_in_subs x (lives x e)));
    in_deps = λ x e.
        let h = (ls.inside x (lives x e)).1 in
        let q = of_a_node N (link L x SUB) (deps_of N L (link L x SUB)) h in
        (known _ h, ap (occ x) (sym q) ∙ in_once x (D (link L x SUB)) (ls.deps_once (link L x SUB)) (ls.live_in_deps x (lives x e)));
    in_free = λ x h e. in_once x (free_of L) ls.free_once (ls.free_or_live x h (live_same L x ∙ e));
  }

  -- ---- what depends on what
  module _ (x : ℕ) (v : is_live_slot L x ≡ true) where
    u : ℕ
    u = link L x SUB

    d : ℕ
    d = link L x DEP

    may_read : readable_in N d ≡ true → ((node N u KIND ≡ COMPUTED) ⊎ (node N u KIND ≡ EFFECT)) × (d < u)
    unfolding u d
    may_read e = let q = sym (readable_within N d (ls.inside x v).0) ∙ e in (go q (s.kind u) refl, ds.read_lower x v q)
      where
        go : readable (s.kind d) ≡ true → (k : Kind) → s.kind u ≡ k → (node N u KIND ≡ COMPUTED) ⊎ (node N u KIND ≡ EFFECT)
        go q signal k = absurd (ds.of_signal x v k)
        go q computed k = inl (kind_at u (ls.inside x v).1 computed k)
        go q effect k = inr (kind_at u (ls.inside x v).1 effect k)
        go q scope k = clash q (ds.of_scope x v k)

    may_own : readable_in N d ≡ false → ((node N u KIND ≡ EFFECT) ⊎ (node N u KIND ≡ SCOPE)) × (node N d OWNER ≡ suc u)
    unfolding u d
    may_own e = let q = sym (readable_within N d (ls.inside x v).0) ∙ e in (go q (s.kind u) refl, owner_some (node N d OWNER) u (ds.owned_by_it x v q))
      where
        go : readable (s.kind d) ≡ false → (k : Kind) → s.kind u ≡ k → (node N u KIND ≡ EFFECT) ⊎ (node N u KIND ≡ SCOPE)
        go q signal k = absurd (ds.of_signal x v k)
        go q computed k = clash (ds.of_computed x v k) q
        go q effect k = inl (kind_at u (ls.inside x v).1 effect k)
        go q scope k = inr (kind_at u (ls.inside x v).1 scope k)

    may : May N u d
    may = record { read = may_read; own = may_own }

  depends : (n : ℕ) → n < count → All (λ (x : ℕ). May N n (link L x DEP)) (deps_of N L n)
  unfolding u d
  depends n h = in_all (λ (x : ℕ). May N n (link L x DEP)) (deps_of N L n) (λ x i. let p = deps_in n h x i in subst (λ (m : ℕ). May N m (link L x DEP)) p.1 (may x p.0))

  unread : (n : ℕ) → n < count → readable_in N n ≡ false → readable (s.kind n) ≡ false
  unread n h e = sym (readable_within N n h) ∙ e

  owned : (n : ℕ) → n < count → Owned N L n
  owned n h = record {
    owned = λ e g o q.
        let p = ds.one_owner n o h (zero_mark (node N n GONE) g) (ap owner_in q) in
        (p.0, sym (of_a_node N n (subs_of N L n) h) ∙ p.1, p.2);
    unowned = λ e g q. sym (of_a_node N n (subs_of N L n) h) ∙ ds.unowned n h (unread n h e) (ap owner_in q);
    gone = λ e g.
        let p = ds.gone_bare n h (some_mark (node N n GONE) g) in
        (sym (of_a_node N n (subs_of N L n) h) ∙ p.1, sym (of_a_node N n (deps_of N L n) h) ∙ p.0);
  }

  -- ---- read links
  reads_at : (n : ℕ) → n < count → read_links s.kind s.dep (D n) ≡ read_links_of N L n
  reads_at n h =
      read_same N L (D n) (λ x i. (ls.inside x (ls.deps_live x n i).0).0)
      ∙ ap (keep (λ (x : ℕ). readable_in N (link L x DEP))) (of_a_node N n (deps_of N L n) h)

  nameless : (n : ℕ) → n < count → has_form (s.kind n) ≡ false → names (s.form n) ≡ []
  nameless n h e = li.nameless n h (go (s.kind n) refl)
    where
      go : (k : Kind) → s.kind n ≡ k → (s.kind n ≡ signal) ⊎ (s.kind n ≡ scope)
      go signal q = inl q
      go computed q = false≢true (sym e ∙ ap has_form q)
      go effect q = false≢true (sym e ∙ ap has_form q)
      go scope q = inr q

  few : (n : ℕ) → n < count → length (read_links_of N L n) ≤ node N n READS
  few n h =
      let a = ap length (reads_at n h) in
      let b = li.links_few n h in
      either (has_form (s.kind n)) (λ e. let c = (r.forms.spelt n h e).counted in omega arith) (λ e. let c = ap length (nameless n h e) in omega arith)

  named : (n : ℕ) → n < count → All (λ (x : ℕ). readable_in N (link L x DEP) ≡ true → 1 ≤ occ (link L x DEP) (names_of N C n)) (deps_of N L n)
  named n h = in_all _ (deps_of N L n) (λ x i q.
      let p = deps_in n h x i in
      let m = link L x DEP in
      let j : In m (names (s.form n)) = subst (λ (u : ℕ). In m (names (s.form u))) p.1 (li.links_named x p.0 (sym (readable_within N m (ls.inside x p.0).0) ∙ q)) in
      either (has_form (s.kind n)) (λ e. in_occ m (names_of N C n) (subst (In m) (sym (spelt_names N C n fit (s.form n) (r.forms.spelt n h e) e)) j))
      (λ e. absurd (subst (In m) (nameless n h e) j)))

  -- ---- flags and the queue
  flag_at : (n : ℕ) → n < count → (f : Named) → s.fl n ≡ f → node N n FLAGS ≡ byte f
  flag_at n h f e = r.flags.flag_word n h ∙ ap byte e

  abbrev FlaggedAs : ℕ → Type 0
  FlaggedAs n = Flagged (node N n KIND) (node N n GONE) (node N n FLAGS) (deps_of N L n) (subs_of N L n) (read_links_of N L n)

  module _ (n : ℕ) (h : n < count) where
    nil_deps : D n ≡ [] → deps_of N L n ≡ []
    nil_deps e = sym (of_a_node N n (deps_of N L n) h) ∙ e

    deps_nil : (D n ≡ [] → ⊥) → deps_of N L n ≡ [] → ⊥
    deps_nil f e = f (of_a_node N n (deps_of N L n) h ∙ e)

    reads_nil : (read_links s.kind s.dep (D n) ≡ [] → ⊥) → read_links_of N L n ≡ [] → ⊥
    reads_nil f e = f (reads_at n h ∙ e)

    of_signal : node N n KIND ≡ SIGNAL → (s.fl n ≡ f1) ⊎ (s.fl n ≡ f17) → FlaggedAs n
    of_signal k (inl e) = signal_clean k (flag_at n h f1 e)
    of_signal k (inr e) = signal_set k (flag_at n h f17 e)

    of_computed : node N n KIND ≡ COMPUTED → ComputedFlags (s.fl n) (D n) (S n) → FlaggedAs n
    of_computed k (never e a b) = computed_never k (flag_at n h f0 e) (nil_deps a) (sym (of_a_node N n (subs_of N L n) h) ∙ b)
    of_computed k (clean e) = computed_clean k (flag_at n h f1 e)
    of_computed k (stale e a) = computed_bare k (flag_at n h f17 e) (nil_deps a)
    of_computed k (maybe e a) = computed_pending k (flag_at n h f33 e) (deps_nil a)
    of_computed k (dirty e a) = computed_dirty k (flag_at n h f49 e) (deps_nil a)

    of_effect : node N n KIND ≡ EFFECT → node N n GONE ≡ 0 → EffectFlags n (s.fl n) (queue_of N) (read_links s.kind s.dep (D n)) → FlaggedAs n
    of_effect k g (watching e i) = effect_watching k g (flag_at n h f2 e)
    of_effect k g (pushed e i) = effect_queued k g (flag_at n h f0 e)
    of_effect k g (pending e i a) = effect_pending k g (flag_at n h f32 e) (reads_nil a)
    of_effect k g (dirty e i a) = effect_dirty k g (flag_at n h f48 e) (reads_nil a)

    of_gone : node N n KIND ≡ EFFECT → (node N n GONE ≡ 0 → ⊥) → (s.fl n ≡ f0) ⊎ (s.fl n ≡ f2) → FlaggedAs n
    of_gone k g (inl e) = gone_queued k g (flag_at n h f0 e)
    of_gone k g (inr e) = gone_done k g (flag_at n h f2 e)

    flagged : FlaggedAs n
    flagged = go (s.kind n) refl
      where
        go : (k : Kind) → s.kind n ≡ k → FlaggedAs n
        go signal e = of_signal (kind_at n h signal e) (fs.of_signal n h e)
        go computed e = of_computed (kind_at n h computed e) (fs.of_computed n h e)
        go effect e =
            either (s.gone n) (λ g. of_gone (kind_at n h effect e) (marked (node N n GONE) g) (fs.of_gone n h e g))
            (λ g. of_effect (kind_at n h effect e) (unmarked (node N n GONE) g) (fs.of_effect n h e g))
        go scope e = scope_still (kind_at n h scope e) (flag_at n h f0 (fs.of_scope n h e))

  -- a live effect is in the queue exactly if its flags are not 2
  module _ (n : ℕ) (h : n < count) where
    not_two : In n (queue_of N) → EffectFlags n (s.fl n) (queue_of N) (read_links s.kind s.dep (D n)) → node N n FLAGS ≡ 2 → ⊥
    not_two i (watching e f) z = f i
    not_two i (pushed e f) z = let q = flag_at n h f0 e in omega arith
    not_two i (pending e f a) z = let q = flag_at n h f32 e in omega arith
    not_two i (dirty e f a) z = let q = flag_at n h f48 e in omega arith

    in_queue : (node N n FLAGS ≡ 2 → ⊥) → EffectFlags n (s.fl n) (queue_of N) (read_links s.kind s.dep (D n)) → In n (queue_of N)
    in_queue z (watching e f) = absurd (z (flag_at n h f2 e))
    in_queue z (pushed e f) = f
    in_queue z (pending e f a) = f
    in_queue z (dirty e f a) = f

  waits : (n : ℕ) → In n (queue_of N) → Waits N n
  waits n i =
      let p = w.queued.queue_effects n i in
      let h = p.0 in
      record {
        known = known n h;
        effect = kind_at n h effect p.1;
        unwatching = λ g z. not_two n h i (fs.of_effect n h p.1 (zero_mark (node N n GONE) g)) z;
        gone = λ g. flag_at n h f0 (w.queued.queue_gone n i (some_mark (node N n GONE) g));
      }

  queued : Queued N
  queued = record {
    depth = w.queued.depth_low;
    idle = λ e. r.queue.waiting ∙ ap length (w.queued.at_depth_0 e);
    long = let a = most_below count (queue_of N) w.queued.queue_once (λ x i. (w.queued.queue_effects x i).0) in let b = r.queue.waiting in omega (arith, counted);
    only = in_all (Waits N) (queue_of N) waits;
    once = once_occ (queue_of N) w.queued.queue_once;
    each = λ n v g.
        let h = below n v.known in
        in_once n (queue_of N) w.queued.queue_once
        (in_queue n h (v.unwatching g) (fs.of_effect n h (says_kind effect _ v.effect) (zero_mark (node N n GONE) g)));
  }

  pub is_joined : Joined N L C
  is_joined = record {
    linked = linked;
    depends = λ n h. depends n (below n h);
    owned = λ n h. owned n (below n h);
    few = λ n h. few n (below n h);
    flagged = λ n h. flagged n (below n h);
    named = λ n h. named n (below n h);
    queued = queued;
  }
