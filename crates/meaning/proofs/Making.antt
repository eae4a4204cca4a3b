-- Making a node, where its refusals do not apply: the tables are well formed but for the new node, and its owner finds a slot for it. Assumes nothing.
use Rattle.std.specs.Prelude.{Option, None, Some}
use mathlib.Core.Path.{◌≡◌, refl, sym, ap, ap₂, ◌∙◌, subst}
use mathlib.Core.Logic.{◌⊎◌, inl, inr}
use mathlib.Core.Bool.{Bool, true, false}
use mathlib.Core.List.{List, [], ◌∷◌, ◌++◌}
use Prim.Native.Nat.{ℕ, suc, ◌+◌, ◌≤◌, ◌<◌, max}
use native.Mathlib.Omega.{arith}
use lib.Dec.{eqb, ltb}
use lib.ListN.{length}
use borrow.Author.Tests.{eqb-true, eqb-false, ltb-true, ltb-false}
use Rattle.flags.specs.declared.Named.{Named}
use Rattle.values.specs.declared.Value.{Value}
use Rattle.lists.proofs.SumLaws.{sum_same}
use Rattle.trees.specs.Trees.{Tree, size, nesting, names}
use Rattle.trees.specs.Legal.{most_cells, most_nesting}
use Rattle.meaning.specs.State.{St, Kind, signal, computed, effect, scope, readable, deps, up}
use Rattle.meaning.specs.Engine.{tallest, level_of, cells_of, node}
use Rattle.meaning.specs.Reserve.{total, reserve_of, reserve}
use Rattle.meaning.specs.Refusals.{most_level}
use Rattle.meaning.specs.WellFormed.{In, Once, read_links, EffectFlags, WellFormed}
use Rattle.meaning.proofs.Laws.{clash, either, up_same, up_other, up_by, in_left}
use Rattle.meaning.proofs.Still.{Given, given}
use Rattle.meaning.proofs.Binding.{ReadsStay}
use Rattle.meaning.proofs.Inside.{nobody, also, Static, Rests, Slots, Inside, at_same, rest_inside, reserved}

-- ---- what agrees below n
tallest_same : (f g : ℕ → ℕ) (n : ℕ) → ((m : ℕ) → m < n → g m ≡ f m) → (ns : List ℕ) → ((m : ℕ) → In m ns → m < n) → tallest g ns ≡ tallest f ns
unfolding tallest
tallest_same f g n h [] low = refl
tallest_same f g n h (x ∷ ns) low = ap₂ max (h x (low x (inl refl))) (tallest_same f g n h ns (λ m i. low m (inr i)))

level_same : (f g : ℕ → ℕ) (n : ℕ) → ((m : ℕ) → m < n → g m ≡ f m) → (k : Kind) (t : Tree) (o : Option ℕ)
    → ((m : ℕ) → In m (names t) → m < n) → ((m : ℕ) → o ≡ Some m → m < n) → level_of g k t o ≡ level_of f k t o
level_same f g n h signal t o low own = refl
level_same f g n h computed t o low own = ap suc (tallest_same f g n h (names t) low)
level_same f g n h effect t None low own = refl
level_same f g n h effect t (Some o) low own = ap suc (h o (own o refl))
level_same f g n h scope t None low own = refl
level_same f g n h scope t (Some o) low own = ap suc (h o (own o refl))

reads_same : (f g : ℕ → Kind) (n : ℕ) → ((m : ℕ) → m < n → g m ≡ f m) → (dep : ℕ → ℕ) (ls : List ℕ) → ((l : ℕ) → In l ls → dep l < n) → read_links g dep ls ≡ read_links f dep ls
unfolding read_links
reads_same f g n h dep [] low = refl
reads_same f g n h dep (l ∷ ls) low =
    let r : List ℕ → List ℕ → Kind → List ℕ = λ x y k. elim (readable k) [ true ↦ x | false ↦ y ] in
    let p = reads_same f g n h dep ls (λ m i. low m (inr i)) in
    ap (λ (x : List ℕ). r (l ∷ x) x (g (dep l))) p ∙ ap (r (l ∷ read_links f dep ls) (read_links f dep ls)) (h (dep l) (low l (inl refl)))

-- what rows 3 to 7 of the refusals leave
pub record Fits (s : St) (k : Kind) (t : Tree) (o : Option ℕ) : Type 0 where
  pub room : s.size < s.room.nodes
  pub cells : s.used + cells_of k t ≤ s.room.cells
  pub slots : reserve s + reserve_of k false t o ≤ s.room.slots
  pub known : (m : ℕ) → In m (names t) → (m < s.size) × (readable (s.kind m) ≡ true)
  pub few : size t ≤ most_cells
  pub shallow : nesting t ≤ most_nesting
  pub level : level_of s.level k t o ≤ most_level k
  pub owner : (p : ℕ) → o ≡ Some p → (p < s.size) × (readable (s.kind p) ≡ false) × (s.gone p ≡ false)
  pub unowned : readable k ≡ true → o ≡ None
  pub nameless : (k ≡ signal) ⊎ (k ≡ scope) → names t ≡ []

module _ (s : St) (w : WellFormed s) (k : Kind) (t : Tree) (o : Option ℕ) (b : Named) (v : Value) (fits : Fits s k t o) where
  abbrev n : ℕ
  n = s.size

  abbrev pub N : St
  N = node s k t o b v

  abbrev pub G : Given
  G = given N

  old : {A : Type 0} (f : ℕ → A) (x : A) (m : ℕ) → m < s.size → up f s.size x m ≡ f m
  old f x m h = up_other f s.size x m (λ e. omega arith)

  -- a node of the new state is the new one, or an old one
  split : {C : Type 0} (m : ℕ) → m < suc s.size → (m ≡ s.size → C) → (m < s.size → C) → C
  split m h f g = either (ltb m s.size) (λ e. g (ltb-true m s.size e)) (λ e. f (same (ltb-false m s.size e)))
    where
      same : s.size ≤ m → m ≡ s.size
      same l = omega arith

  kind_old : (m : ℕ) → m < s.size → N.kind m ≡ s.kind m
  kind_old m h = old s.kind k m h

  deps_other : (u : ℕ) → (u ≡ s.size → ⊥) → deps N u ≡ deps s u
  deps_other u h = ap₂ (λ (x y : List ℕ). x ++ y) (up_other s.done s.size [] u h) (up_other s.rest s.size [] u h)

  pub deps_new : (u : ℕ) → u ≡ s.size → deps N u ≡ []
  deps_new u q = ap (deps N) q ∙ ap₂ (λ (x y : List ℕ). x ++ y) (up_same s.done s.size []) (up_same s.rest s.size [])

  deps_cases : (P : List ℕ → Type 0) (u : ℕ) → P [] → P (deps s u) → P (deps N u)
  deps_cases P u p q = either (eqb u s.size) (λ e. subst P (sym (deps_new u (eqb-true u s.size e))) p) (λ e. subst P (sym (deps_other u (eqb-false u s.size e))) q)

  below : (l : ℕ) → s.live l ≡ true → (s.dep l < s.size) × (s.sub l < s.size)
  below = w.lists.inside

  kind_dep : (l : ℕ) → s.live l ≡ true → N.kind (s.dep l) ≡ s.kind (s.dep l)
  kind_dep l e = kind_old (s.dep l) (below l e).0

  kind_sub : (l : ℕ) → s.live l ≡ true → N.kind (s.sub l) ≡ s.kind (s.sub l)
  kind_sub l e = kind_old (s.sub l) (below l e).1

  new_lists : Slots G N
  new_lists =
      let o = w.lists in
      record {
        free_not_live = o.free_not_live;
        free_or_live = o.free_or_live;
        free_once = o.free_once;
        live_slot = o.live_slot;
        live_in_subs = λ l e. subst (In l) (sym (old s.subs [] (s.dep l) (below l e).0)) (o.live_in_subs l e);
        subs_live = λ l d. up_by s.subs s.size [] (λ (x : List ℕ). In l x → (s.live l ≡ true) × (s.dep l ≡ d)) d (λ q i. absurd i) (λ q. o.subs_live l d);
        subs_once = λ d. up_by s.subs s.size [] Once d (λ q. tt) (λ q. o.subs_once d);
        live_in_deps = λ l e. let h = (below l e).1 in subst (In l) (sym (deps_other (s.sub l) (λ q. omega arith))) (o.live_in_deps l e);
        deps_live = λ l u. deps_cases (λ (x : List ℕ). In l x → (s.live l ≡ true) × (s.sub l ≡ u)) u (λ i. absurd i) (o.deps_live l u);
        deps_once = λ u. deps_cases Once u tt (o.deps_once u);
        tail_last = λ u. refl;
        inside = λ l e. let h = (below l e).0 in let g = (below l e).1 in (omega arith, omega arith);
      }

  pub owner_new : (m : ℕ) → m ≡ s.size → N.owner m ≡ o
  owner_new m q = ap N.owner q ∙ up_same s.owner s.size o

  pub gone_new : (m : ℕ) → m ≡ s.size → N.gone m ≡ false
  gone_new m q = ap N.gone q ∙ up_same s.gone s.size false

  pub subs_new : (m : ℕ) → m ≡ s.size → N.subs m ≡ []
  subs_new m q = ap N.subs q ∙ up_same s.subs s.size []

  form_new : (m : ℕ) → m ≡ s.size → N.form m ≡ t
  form_new m q = ap N.form q ∙ up_same s.form s.size t

  pub kind_new : (m : ℕ) → m ≡ s.size → N.kind m ≡ k
  kind_new m q = ap N.kind q ∙ up_same s.kind s.size k

  level_new : (m : ℕ) → m ≡ s.size → N.level m ≡ level_of s.level k t o
  level_new m q = ap N.level q ∙ up_same s.level s.size (level_of s.level k t o)

  pub fl_new : (m : ℕ) → m ≡ s.size → N.fl m ≡ b
  fl_new m q = ap N.fl q ∙ up_same s.fl s.size b

  reserve_at : (a c : Kind) (g h : Bool) (x y : Tree) (p q : Option ℕ) → a ≡ c → g ≡ h → x ≡ y → p ≡ q → reserve_of a g x p ≡ reserve_of c h y q
  reserve_at a c g h x y p q e f z r = cc

  pub new_reserve : reserved G N.gone ≡ reserve s + reserve_of k false t o
  unfolding reserve total
  new_reserve =
      ap₂ (λ (x y : ℕ). x + y)
      (sum_same (λ m. reserve_of (N.kind m) (N.gone m) (N.form m) (N.owner m)) (λ m. reserve_of (s.kind m) (s.gone m) (s.form m) (s.owner m)) s.size
      (λ m h. reserve_at _ _ _ _ _ _ _ _ (kind_old m h) (old s.gone false m h) (old s.form t m h) (old s.owner o m h)))
      (reserve_at _ _ _ _ _ _ _ _ (kind_new s.size refl) (gone_new s.size refl) (form_new s.size refl) (owner_new s.size refl))

  level_at : (g : ℕ → ℕ) (a c : Kind) (x y : Tree) (p q : Option ℕ) → a ≡ c → x ≡ y → p ≡ q → level_of g a x p ≡ level_of g c y q
  level_at g a c x y p q e f z = cc

  lower_names : (m : ℕ) → m < s.size → (x : ℕ) → In x (names (s.form m)) → x < s.size
  lower_names m h x i = let z = (w.limits.names_lower m x h i).1 in omega arith

  lower_owner : (m : ℕ) → m < s.size → (x : ℕ) → s.owner m ≡ Some x → x < s.size
  lower_owner m h x q = let z = w.depends.owner_lower m x h q in omega arith

  pub new_static : Static G
  new_static =
      let r = fits.room in
      let l = w.limits in
      let levels_old : (m : ℕ) → m < s.size → N.level m ≡ s.level m = λ m h. old s.level _ m h in
      record {
        names_lower = λ m x h i. split m h
            (λ z. let y = fits.known x (subst (λ (f : Tree). In x (names f)) (form_new m z) i) in
            let q = y.0 in
            (ap readable (kind_old x q) ∙ y.1, omega arith))
            (λ z. let y = l.names_lower m x z (subst (λ (f : Tree). In x (names f)) (old s.form t m z) i) in
            let q = y.1 in
            (ap readable (kind_old x (omega arith)) ∙ y.0, q));
        nameless = λ m h d. split m h (λ z. ap names (form_new m z) ∙ fits.nameless (subst (λ (x : Kind). (x ≡ signal) ⊎ (x ≡ scope)) (kind_new m z) d))
            (λ z. ap names (old s.form t m z) ∙ l.nameless m z (subst (λ (x : Kind). (x ≡ signal) ⊎ (x ≡ scope)) (kind_old m z) d));
        owner_lower = λ m p h q. split m h (λ z. let a = (fits.owner p (sym (owner_new m z) ∙ q)).0 in omega arith) (λ z. w.depends.owner_lower m p z (sym (old s.owner o m z) ∙ q));
        owner_kind = λ m h r. split m h (λ z. owner_new m z ∙ fits.unowned (sym (ap readable (kind_new m z)) ∙ r)) (λ z. old s.owner o m z ∙ w.depends.owner_kind m z (sym (ap readable (kind_old m z)) ∙ r));
        cells_few = λ m h. split m h (λ z. subst (λ (f : Tree). size f ≤ most_cells) (sym (form_new m z)) fits.few) (λ z. subst (λ (f : Tree). size f ≤ most_cells) (sym (old s.form t m z)) (l.cells_few m z));
        nesting_low = λ m h. split m h (λ z. subst (λ (f : Tree). nesting f ≤ most_nesting) (sym (form_new m z)) fits.shallow) (λ z. subst (λ (f : Tree). nesting f ≤ most_nesting) (sym (old s.form t m z)) (l.nesting_low m z));
        levels = λ m h. split m h
            (λ z. level_new m z
            ∙ sym (level_same s.level N.level s.size levels_old k t o (λ x i. (fits.known x i).0) (λ x q. (fits.owner x q).0))
            ∙ sym (level_at N.level _ _ _ _ _ _ (kind_new m z) (form_new m z) (owner_new m z)))
            (λ z. levels_old m z ∙ l.levels m z
            ∙ sym (level_same s.level N.level s.size levels_old (s.kind m) (s.form m) (s.owner m) (lower_names m z) (lower_owner m z))
            ∙ sym (level_at N.level _ _ _ _ _ _ (kind_old m z) (old s.form t m z) (old s.owner o m z)));
        level_low = λ m h. split m h (λ z. subst (λ (x : Kind). N.level m ≤ most_level x) (sym (kind_new m z)) (subst (λ (x : ℕ). x ≤ most_level k) (sym (level_new m z)) fits.level))
            (λ z. subst (λ (x : Kind). N.level m ≤ most_level x) (sym (kind_old m z)) (subst (λ (x : ℕ). x ≤ most_level (s.kind m)) (sym (levels_old m z)) (l.level_low m z)));
        room_within = l.room_within;
        nodes_fit = omega arith;
        cells_fit = fits.cells;
      }

  was : Inside (given s) nobody s
  was = rest_inside s w

  -- an old node is as it was
  rests_old : (m : ℕ) → m < s.size → Rests G N m
  rests_old m h =
      let r = was.rests m h (λ z. z) in
      let reads : read_links N.kind s.dep (s.done m) ≡ read_links s.kind s.dep (s.done m) =
      reads_same s.kind N.kind s.size kind_old s.dep (s.done m) (λ l i. (below l (w.lists.deps_live l m (in_left l (s.done m) (s.rest m) i)).0).0) in
      let kd = kind_old m h in
      at_same G s.queue s.dep s.sub m _ _ _ _ _ _ _ _ _ _ (old s.fl b m h) (old s.gone false m h) (old s.done [] m h) (old s.rest [] m h) (old s.subs [] m h)
      (record {
        tail = r.tail;
        owned = λ p a q. r.owned p a (sym (old s.owner o m h) ∙ q);
        unowned = λ a q. r.unowned (sym (ap readable kd) ∙ a) (sym (old s.owner o m h) ∙ q);
        bare = r.bare;
        few = few m h reads r.few;
        of_signal = λ q. r.of_signal (sym kd ∙ q);
        of_computed = λ q. r.of_computed (sym kd ∙ q);
        of_effect = λ q a. subst (EffectFlags m (s.fl m) s.queue) (sym reads) (r.of_effect (sym kd ∙ q) a);
        of_scope = λ q. r.of_scope (sym kd ∙ q);
        of_gone = λ q a. r.of_gone (sym kd ∙ q) a;
        queued = r.queued;
      })
    where
      few : (m : ℕ) → m < s.size → read_links N.kind s.dep (s.done m) ≡ read_links s.kind s.dep (s.done m)
          → length (read_links s.kind s.dep (s.done m)) ≤ length (names (s.form m)) → length (read_links N.kind s.dep (s.done m)) ≤ length (names (N.form m))
      few m h e p = let x = ap length e in let y = ap (λ (f : Tree). length (names f)) (old s.form t m h) in omega arith

  pub new_inside : b.pending ≡ false → Inside G (also nobody s.size) N
  new_inside calm = record {
    same = refl;
    lists = new_lists;
    goes = λ l e.
        let q = was.goes l e in
        let kd = kind_dep l e in
        let ks = kind_sub l e in
        record {
          of_signal = λ z. q.of_signal (sym ks ∙ z);
          of_computed = λ z. ap readable kd ∙ q.of_computed (sym ks ∙ z);
          of_scope = λ z. ap readable kd ∙ q.of_scope (sym ks ∙ z);
          lower = λ z. q.lower (sym (ap readable kd) ∙ z);
          named = λ z. subst (λ (f : Tree). In (s.dep l) (names f)) (sym (old s.form t (s.sub l) (below l e).1)) (q.named (sym (ap readable kd) ∙ z));
          owned = λ z. old s.owner o (s.dep l) (below l e).0 ∙ q.owned (sym (ap readable kd) ∙ z);
        };
    gone_kind = λ m h r. split m h (gone_new m) (λ z. old s.gone false m z ∙ w.depends.gone_kind m z (sym (ap readable (kind_old m z)) ∙ r));
    fits = subst (λ (x : ℕ). x ≤ s.room.slots) (sym new_reserve) fits.slots;
    no_wake = λ m h p. split m h (λ z. clash p (ap (λ (x : Named). x.pending) (fl_new m z) ∙ calm))
        (λ z. ap (λ (x : Named). x.watching) (old s.fl b m z) ∙ was.no_wake m z (sym (ap (λ (x : Named). x.pending) (old s.fl b m z)) ∙ p));
    once = was.once;
    effects = λ m j. let x = was.effects m j in let y = x.0 in (omega arith, kind_old m y ∙ x.1);
    rests = λ m h f. split m h (λ z. absurd (f (inr z))) (rests_old m);
  }

  pub new_reads : (m : ℕ) → m < s.size → ReadsStay s N m
  new_reads m h = record {
    links = ap (read_links N.kind s.dep) (deps_other m (λ q. omega arith)) ∙ reads_same s.kind N.kind s.size kind_old s.dep (deps s m) (λ l j. (below l (w.lists.deps_live l m j).0).0);
    ends = λ l j. (refl, refl);
  }

  pub not_queued : In s.size s.queue → ⊥
  not_queued j = let x = (was.effects s.size j).0 in omega arith

  pub done_new : (N.done s.size ≡ []) × (N.rest s.size ≡ [])
  done_new = (up_same s.done s.size [], up_same s.rest s.size [])
