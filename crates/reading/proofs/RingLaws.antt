-- Each way through a member of the ring, by what the code finds on it. Assumes nothing.
use mathlib.Core.Path.{◌≡◌, refl, sym, ap, ◌∙◌}
use mathlib.Core.Bool.{Bool, true, false}
use mathlib.Core.List.{List}
use Prim.Native.Nat.{ℕ, zero, suc, ◌+◌, ◌-◌, ◌/◌, ◌≤◌, ◌<◌}
use native.Mathlib.Omega.{arith}
use native.Mathlib.Numerals.{sub-one}
use lib.Dec.{eqb}
use lib.IntN.{ℤ, pos}
use lib.ListN.{length}
use borrow.Author.Tests.{eq-eqb, ne_eqb, lt-ltb, le-ltb}
use Rattle.std.specs.Prelude.{Option, Some}
use Rattle.primitive.specs.declared.kinds.Kind.{Kind}
use Rattle.primitive.specs.declared.kinds.Kind.TheVariants.{Signal, Computed}
use Rattle.primitive.specs.Kinds.{kind_word}
use Rattle.primitive.specs.Kinds as kinds
use Rattle.primitive.proofs.KindLaws.{word_kind, kind_is}
use Rattle.primitive.specs.declared.slots.Slot.{Slot}
use Rattle.primitive.specs.declared.slots.Slot.TheVariants.{At, Nothing}
use Rattle.values.specs.declared.Value.{Value}
use Rattle.primitive.specs.Slots.{slot_of}
use Rattle.values.specs.Values.{value, is_zero}
use Rattle.trees.specs.declared.cells.Op.{Op}
use Rattle.trees.specs.declared.cells.Cell.{Cell}
use Rattle.trees.specs.declared.cells.Cell.TheVariants.{Constant, Read, Two, Choose, Bad}
use Rattle.trees.proofs.ScanLaws.{arity_inside}
use Rattle.trees.specs.Cells.{arity_of, cell_at, end_of}
use Rattle.trees.specs.Legal.{most_nesting}
use Rattle.trees.specs.Trees.{apply}
use Rattle.linking.specs.Link.{linked}
use Rattle.primitive.specs.Words.{DEP, NEXT-DEP, link}
use Rattle.linking.specs.Table.{tab}
use Rattle.marking.specs.Fields.{flags_of, set_flags, dirty, pending, has, has_only, without}
use Rattle.reading.specs.Tables.{State, state, Told, told, Got, got, Evaluated, evaluated, rank_of, current_of, cycle_of}
use Rattle.reading.specs.Steps.{woken, woken_others, updated_signal, waken_if, refreshed_signal, begun_first, begun, finished_first, finished, linked_to}
use Rattle.reading.specs.Ring.{Ring, kind_of, start_of, read_by, two_by, choose_by, cell_by, evaluated_by, updated_computed_by, first_by, updated_by, settled_by, pending_by, stale, unsure, dependency_by, dirty_by, onward, deps_by, checked_by, renewed_by, surely_by, refreshed_computed_by, refreshed_by, ring_n, Enough}

-- ---- a member below the node at hand
module _ (ws : List ℤ) (s : State) (m : ℕ) where
  pub lower_refresh : {t : State} → Enough ws m (λ b. refreshed_by ws b s m) t → (k : ℕ) → rank_of m < k → t ≡ (ring_n ws k).refresh s m
  unfolding ring_n
  lower_refresh e zero h = absurd (omega arith)
  lower_refresh e (suc k) h = e k (omega arith)

  pub lower_check : {t : Told} → Enough ws m (λ b. checked_by ws b s m) t → (k : ℕ) → rank_of m < k → t ≡ (ring_n ws k).check s m
  unfolding ring_n
  lower_check e zero h = absurd (omega arith)
  lower_check e (suc k) h = e k (omega arith)

-- ---- evaluation
module _ (ws : List ℤ) (r : Ring) (n : ℕ) (s : State) (i : ℕ) where
  pub worked_none : {d j : ℕ} {v : Value} → d ≡ 0 → v ≡ value (pos 0) → j ≡ i → evaluated v j s ≡ evaluated_by ws r n d s i
  unfolding evaluated_by
  worked_none e f g = rw (e, f, g)

  up : i + 1 ≡ suc i
  up = omega arith

  step : (d : ℕ) → (d ≡ 0 → ⊥) → cell_by ws r n (evaluated_by ws r n (d - 1)) s i (cell_at ws i) ≡ evaluated_by ws r n d s i
  unfolding evaluated_by
  step zero f = absurd (f refl)
  step (suc d) f = rw (sub-one (suc d))

  module _ (d : ℕ) (f : d ≡ 0 → ⊥) {x : Cell} (c : x ≡ cell_at ws i) where
    pub worked_constant : {k : ℤ} {v : Value} → x ≡ Constant k → v ≡ value k → evaluated v (i + 1) s ≡ evaluated_by ws r n d s i
    unfolding cell_by
    worked_constant g e = (rw (← c, g, e, up)) ∙ step d f

    pub worked_read : {m : ℕ} (g : Got) → x ≡ Read m → g ≡ read_by r n s m → evaluated g.value (i + 1) g.after ≡ evaluated_by ws r n d s i
    unfolding cell_by
    worked_read g q e = (rw (← c, q, ← e, up)) ∙ step d f

    pub worked_two : {o : Op} {e : Evaluated} → x ≡ Two o → e ≡ two_by (evaluated_by ws r n (d - 1)) o s (i + 1) → e ≡ evaluated_by ws r n d s i
    unfolding cell_by
    worked_two g e = (rw (← c, g, ← up) e) ∙ step d f

    pub worked_choose : {e : Evaluated} → x ≡ Choose → e ≡ choose_by ws (evaluated_by ws r n (d - 1)) s (i + 1) → e ≡ evaluated_by ws r n d s i
    unfolding cell_by
    worked_choose g e = (rw (← c, g, ← up) e) ∙ step d f

    -- a cell that is not bad lies inside the list, so the next cell's number does not wrap
    pub constant_inside : {k : ℤ} → x ≡ Constant k → i < length ws / 2
    unfolding arity_of
    constant_inside g = (arity_inside ws i 0 (ap arity_of (sym c ∙ g))).0

    pub read_inside : {m : ℕ} → x ≡ Read m → i < length ws / 2
    unfolding arity_of
    read_inside g = (arity_inside ws i 0 (ap arity_of (sym c ∙ g))).0

    pub two_inside : {o : Op} → x ≡ Two o → i < length ws / 2
    unfolding arity_of
    two_inside g = (arity_inside ws i 2 (ap arity_of (sym c ∙ g))).0

    pub choose_inside : x ≡ Choose → i < length ws / 2
    unfolding arity_of
    choose_inside g = (arity_inside ws i 3 (ap arity_of (sym c ∙ g))).0

    pub worked_bad : {v : Value} {j : ℕ} → x ≡ Bad → v ≡ value (pos 0) → j ≡ i → evaluated v j s ≡ evaluated_by ws r n d s i
    unfolding cell_by
    worked_bad g e o = (rw (← c, g, e, o)) ∙ step d f

module _ (r : Ring) (n : ℕ) (s : State) (m : ℕ) {p q : ℕ} (e : p ≡ rank_of m) (f : q ≡ rank_of n) where
  pub read_lower : (N L : List ℕ) (v₁ : List ℤ) {N' L' : List ℕ} {y : ℕ} {v : Value} → p < q → state N L v₁ ≡ r.refresh s m → y ≡ cycle_of L
      → tab N' L' ≡ linked (tab N L) m n y → v ≡ current_of v₁ m → got v (state N' L' v₁) ≡ read_by r n s m
  unfolding read_by linked_to
  read_lower N L v₁ h g y l v = let o : rank_of m < rank_of n = omega arith in rw (lt-ltb _ _ o, read_by, ← g, ← y, ← l, v)

  pub read_not : {v : Value} → q ≤ p → v ≡ value (pos 0) → got v s ≡ read_by r n s m
  unfolding read_by
  read_not h v = let o : rank_of n ≤ rank_of m = omega arith in rw (le-ltb _ _ o, read_by, v)

module _ (e : State → ℕ → Evaluated) (s : State) (i : ℕ) where
  pub two_worked : (o : Op) (a b : Evaluated) {v : Value} → a ≡ e s i → b ≡ e a.after a.next → v ≡ apply o a.value b.value → evaluated v b.next b.after ≡ two_by e o s i
  unfolding two_by
  two_worked o a b p q v = rw (← p, ← q, v)

  module _ (ws : List ℤ) (c : Evaluated) {z : Bool} (p : c ≡ e s i) (y : z ≡ is_zero c.value) where
    pub choose_third : (a : Evaluated) {j : ℕ} → z ≡ true → j ≡ end_of ws c.next → a ≡ e c.after j → a ≡ choose_by ws e s i
    unfolding choose_by
    choose_third a t j q = let u = sym y ∙ t in rw (← p, u, choose_by, ← p, ← j) q

    pub choose_second : (a : Evaluated) {j : ℕ} → z ≡ false → a ≡ e c.after c.next → j ≡ end_of ws a.next → evaluated a.value j a.after ≡ choose_by ws e s i
    unfolding choose_by
    choose_second a t q j = let u = sym y ∙ t in rw (← p, u, choose_by, ← p, ← q, ← j)

-- ---- updates
module _ (ws : List ℤ) (r : Ring) (s : State) (n : ℕ) where
  pub first_worked : (e : Evaluated) {i : ℕ} {N N' : List ℕ} {v' : List ℤ} → i ≡ start_of s n → N ≡ begun_first s.nodes n
      → e ≡ evaluated_by ws r n most_nesting (state N s.links s.values) i → state N' e.after.links v' ≡ finished_first e.after n e.value
      → state N' e.after.links v' ≡ first_by ws r s n
  unfolding first_by
  first_worked e i b g f = rw (← i, ← b, ← g) f

  pub update_worked : (e : Evaluated) (b : State) {i : ℕ} {t : Told} → i ≡ start_of s n → b ≡ begun s n → e ≡ evaluated_by ws r n most_nesting b i → t ≡ finished e.after n e.value
      → t ≡ updated_computed_by ws r s n
  unfolding updated_computed_by
  update_worked e b i g h f = rw (← i, ← g, ← h) f

  -- the kind that the code finds, o, is what the kind's word x says
  module _ {x : ℕ} (k : x ≡ kind_of s n) {o : Option Kind} (q : o ≡ kinds.kind_of x) where
    is_kind : {v : Kind} (w : Kind) → o ≡ Some v → v ≡ w → eqb (kind_of s n) (kind_word w) ≡ true
    is_kind w e g = eq-eqb _ _ (sym k ∙ kind_is x w (sym q ∙ e ∙ ap Some g))

    is_no_kind : (w : Kind) → (o ≡ Some w → ⊥) → eqb (kind_of s n) (kind_word w) ≡ false
    is_no_kind w f = ne_eqb _ _ (λ e. f (q ∙ ap kinds.kind_of (k ∙ e) ∙ word_kind w))

    no_signal : {v : Kind} → o ≡ Some v → v ≡ Computed → o ≡ Some Signal → ⊥
    no_signal e g h = cc

    pub updated_the_signal : {v : Kind} {t : Told} → o ≡ Some v → v ≡ Signal → t ≡ updated_signal s n → t ≡ updated_by ws r s n
    unfolding updated_by
    updated_the_signal e v g = rw (is_kind Signal e v, updated_by) g

    pub updated_computed : {v : Kind} {t : Told} → o ≡ Some v → v ≡ Computed → t ≡ updated_computed_by ws r s n → t ≡ updated_by ws r s n
    unfolding updated_by
    updated_computed e v g = rw (is_no_kind Signal (no_signal e v), is_kind Computed e v, updated_by) g

    pub updated_other : (o ≡ Some Signal → ⊥) → (o ≡ Some Computed → ⊥) → told false s ≡ updated_by ws r s n
    unfolding updated_by
    updated_other f g = rw (is_no_kind Signal f, is_no_kind Computed g, updated_by)

    pub refreshed_signal_lem : {v : Kind} {t : State} → o ≡ Some v → v ≡ Signal → t ≡ refreshed_signal s n → t ≡ refreshed_by ws r s n
    unfolding refreshed_by
    refreshed_signal_lem e v g = rw (is_kind Signal e v, refreshed_by) g

    pub refreshed_computed : {v : Kind} {t : State} → o ≡ Some v → v ≡ Computed → t ≡ refreshed_computed_by ws r s n → t ≡ refreshed_by ws r s n
    unfolding refreshed_by
    refreshed_computed e v g = rw (is_no_kind Signal (no_signal e v), is_kind Computed e v, refreshed_by) g

    pub refreshed_other : (o ≡ Some Signal → ⊥) → (o ≡ Some Computed → ⊥) → s ≡ refreshed_by ws r s n
    unfolding refreshed_by
    refreshed_other f g = rw (is_no_kind Signal f, is_no_kind Computed g, refreshed_by)

-- ---- the dirty check
module _ (ws : List ℤ) (r : Ring) (s : State) (m : ℕ) where
  module _ (u : Told) (e : u ≡ updated_by ws r s m) where
    pub settle_changed : {N : List ℕ} → u.changed ≡ true → N ≡ woken_others u.after.links u.after.nodes m → told true (state N u.after.links u.after.values) ≡ settled_by ws r s m
    unfolding settled_by
    settle_changed t g = rw (← e, t, settled_by, ← e, g)

    pub settle_same : u.changed ≡ false → told false u.after ≡ settled_by ws r s m
    unfolding settled_by
    settle_same t = rw (← e, t, settled_by, ← e)

  module _ (c : Told) (e : c ≡ r.check s m) where
    pub pending_changed : {t : Told} → c.changed ≡ true → t ≡ settled_by ws r c.after m → t ≡ pending_by ws r s m
    unfolding pending_by
    pending_changed z g = rw (← e, z, pending_by, ← e) g

    pub pending_same : {f g : ℕ} {N : List ℕ} → c.changed ≡ false → f ≡ flags_of c.after.nodes m → g ≡ without f pending → N ≡ set_flags c.after.nodes m g
        → told false (state N c.after.links c.after.values) ≡ pending_by ws r s m
    unfolding pending_by
    pending_same z f g h = rw (← e, z, pending_by, ← e, ← f, ← g, ← h)

  module _ {f : ℕ} (e : f ≡ flags_of s.nodes m) {y : Bool} (a : y ≡ has_only f stale stale) where
    pub dependency_stale : {t : Told} → y ≡ true → t ≡ settled_by ws r s m → t ≡ dependency_by ws r s m
    unfolding dependency_by
    dependency_stale p g =
        let z : has_only (flags_of s.nodes m) stale stale ≡ true = rw (← e) (sym a ∙ p) in
        rw (z, dependency_by) g

    pub dependency_unsure : {x : Bool} {t : Told} → y ≡ false → x ≡ has_only f unsure unsure → x ≡ true → t ≡ pending_by ws r s m → t ≡ dependency_by ws r s m
    unfolding dependency_by
    dependency_unsure p b q g =
        let z : has_only (flags_of s.nodes m) stale stale ≡ false = rw (← e) (sym a ∙ p) in
        let w : has_only (flags_of s.nodes m) unsure unsure ≡ true = rw (← e) (sym b ∙ q) in
        rw (z, w, dependency_by) g

    pub dependency_clean : {x : Bool} → y ≡ false → x ≡ has_only f unsure unsure → x ≡ false → told false s ≡ dependency_by ws r s m
    unfolding dependency_by
    dependency_clean p b q =
        let z : has_only (flags_of s.nodes m) stale stale ≡ false = rw (← e) (sym a ∙ p) in
        let w : has_only (flags_of s.nodes m) unsure unsure ≡ false = rw (← e) (sym b ∙ q) in
        rw (z, w, dependency_by)

module _ (ws : List ℤ) (r : Ring) (s : State) (n m : ℕ) {f : ℕ} (e : f ≡ flags_of s.nodes n) {y : Bool} (a : y ≡ has f dirty) where
  pub dirty_already : y ≡ true → told true s ≡ dirty_by ws r s n m
  unfolding dirty_by
  dirty_already p =
      let z : has (flags_of s.nodes n) dirty ≡ true = rw (← e) (sym a ∙ p) in
      rw (z, dirty_by)

  module _ (h : y ≡ false) {p q : ℕ} (i : p ≡ rank_of m) (j : q ≡ rank_of n) where
    pub dirty_dependency : {t : Told} → p < q → t ≡ dependency_by ws r s m → t ≡ dirty_by ws r s n m
    unfolding dirty_by
    dirty_dependency o g =
        let z : has (flags_of s.nodes n) dirty ≡ false = rw (← e) (sym a ∙ h) in
        let l : rank_of m < rank_of n = omega arith in
        rw (z, lt-ltb _ _ l, dirty_by) g

    pub dirty_not : q ≤ p → told false s ≡ dirty_by ws r s n m
    unfolding dirty_by
    dirty_not o =
        let z : has (flags_of s.nodes n) dirty ≡ false = rw (← e) (sym a ∙ h) in
        let l : rank_of n ≤ rank_of m = omega arith in
        rw (z, le-ltb _ _ l, dirty_by)

-- a turn of the walk over the dependencies
module _ (ws : List ℤ) (r : Ring) (n : ℕ) (s : State) (w : ℕ) where
  pub deps_out : (j : ℕ) → j ≤ 0 → told false s ≡ deps_by ws r n j s w
  unfolding deps_by
  deps_out zero h = refl
  deps_out (suc j) h = absurd (omega arith)

  pub deps_end : (j : ℕ) {o : Slot} → o ≡ slot_of w → o ≡ Nothing → told false s ≡ deps_by ws r n j s w
  unfolding deps_by
  deps_end zero e g = refl
  deps_end (suc j) e g = rw (← e, g)

  module _ (x : ℕ) {o : Slot} (e : o ≡ slot_of w) (g : o ≡ At x) {m : ℕ} (d : m ≡ link s.links x DEP) (t : Told) (q : t ≡ dirty_by ws r s n m) where
    pub deps_changed : (j : ℕ) → 0 < j → t.changed ≡ true → told true t.after ≡ deps_by ws r n j s w
    unfolding deps_by onward
    deps_changed zero h z = absurd (omega arith)
    deps_changed (suc j) h z = rw (← e, g, ← d, ← q, z, onward, ← d, ← q)

    pub deps_same : (j : ℕ) {w' : ℕ} → 0 < j → t.changed ≡ false → w' ≡ link s.links x NEXT-DEP → deps_by ws r n (j - 1) t.after w' ≡ deps_by ws r n j s w
    unfolding deps_by onward
    deps_same zero h z i = absurd (omega arith)
    deps_same (suc j) h z i = rw (sub-one (suc j)) (rw (← e, g, ← d, ← q, z, onward, ← d, ← q, i))

-- ---- a read's first half
module _ (ws : List ℤ) (r : Ring) (s : State) (n : ℕ) where
  module _ (u : Told) (e : u ≡ updated_computed_by ws r s n) where
    pub renew_changed : {N : List ℕ} → u.changed ≡ true → N ≡ woken u.after.links u.after.nodes n → state N u.after.links u.after.values ≡ renewed_by ws r s n
    unfolding renewed_by waken_if
    renew_changed z g = rw (← e, z, waken_if, ← e, g)

    pub renew_same : u.changed ≡ false → u.after ≡ renewed_by ws r s n
    unfolding renewed_by waken_if
    renew_same z = rw (← e, z, waken_if, ← e)

  module _ (f : ℕ) (c : Told) (e : c ≡ checked_by ws r s n) where
    pub surely_changed : {t : State} → c.changed ≡ true → t ≡ renewed_by ws r c.after n → t ≡ surely_by ws r s n f
    unfolding surely_by
    surely_changed z g = rw (← e, z, surely_by, ← e) g

    pub surely_same : {g : ℕ} {N : List ℕ} → c.changed ≡ false → g ≡ without f pending → N ≡ set_flags c.after.nodes n g → state N c.after.links c.after.values ≡ surely_by ws r s n f
    unfolding surely_by
    surely_same z g h = rw (← e, z, surely_by, ← e, ← g, ← h)

  module _ {f : ℕ} (e : f ≡ flags_of s.nodes n) {y : Bool} (a : y ≡ has f dirty) where
    pub computed_dirty : {t : State} → y ≡ true → t ≡ renewed_by ws r s n → t ≡ refreshed_computed_by ws r s n
    unfolding refreshed_computed_by
    computed_dirty p g =
        let z : has (flags_of s.nodes n) dirty ≡ true = rw (← e) (sym a ∙ p) in
        rw (z, refreshed_computed_by) g

    module _ (p : y ≡ false) {x : Bool} (b : x ≡ has f pending) where
      pub computed_pending : {t : State} → x ≡ true → t ≡ surely_by ws r s n f → t ≡ refreshed_computed_by ws r s n
      unfolding refreshed_computed_by
      computed_pending q g =
          let z : has (flags_of s.nodes n) dirty ≡ false = rw (← e) (sym a ∙ p) in
          let w : has (flags_of s.nodes n) pending ≡ true = rw (← e) (sym b ∙ q) in
          rw (z, w, refreshed_computed_by, ← e) g

      pub computed_first : {v : Bool} {t : State} → x ≡ false → v ≡ eqb f 0 → v ≡ true → t ≡ first_by ws r s n → t ≡ refreshed_computed_by ws r s n
      unfolding refreshed_computed_by
      computed_first q d o g =
          let z : has (flags_of s.nodes n) dirty ≡ false = rw (← e) (sym a ∙ p) in
          let w : has (flags_of s.nodes n) pending ≡ false = rw (← e) (sym b ∙ q) in
          let u : eqb (flags_of s.nodes n) 0 ≡ true = rw (← e) (sym d ∙ o) in
          rw (z, w, u, refreshed_computed_by) g

      pub computed_clean : {v : Bool} → x ≡ false → v ≡ eqb f 0 → v ≡ false → s ≡ refreshed_computed_by ws r s n
      unfolding refreshed_computed_by
      computed_clean q d o =
          let z : has (flags_of s.nodes n) dirty ≡ false = rw (← e) (sym a ∙ p) in
          let w : has (flags_of s.nodes n) pending ≡ false = rw (← e) (sym b ∙ q) in
          let u : eqb (flags_of s.nodes n) 0 ≡ false = rw (← e) (sym d ∙ o) in
          rw (z, w, u, refreshed_computed_by)
