-- The bound of the ring does not matter: any bound that is not below a node's rank gives the same. Assumes nothing.
use mathlib.Core.Path.{◌≡◌, refl, ap, ap₂, ◌∙◌, fun_ext}
use mathlib.Core.Bool.{Bool, true, false}
use mathlib.Core.List.{List}
use Prim.Native.Nat.{ℕ, zero, suc, ◌<◌, ◌≤◌}
use native.Mathlib.Omega.{arith}
use lib.Dec.{eqb, ltb}
use lib.IntN.{ℤ}
use borrow.Author.Tests.{ltb-true}
use Rattle.primitive.specs.declared.slots.Slot.{Slot}
use Rattle.primitive.specs.declared.slots.Slot.TheVariants.{At, Nothing}
use Rattle.primitive.specs.Slots.{slot_of}
use Rattle.trees.specs.declared.cells.Cell.{Cell}
use Rattle.trees.specs.declared.cells.Cell.TheVariants.{Constant, Read, Two, Choose, Bad}
use Rattle.trees.specs.Cells.{cell_at}
use Rattle.trees.specs.Legal.{most_nesting}
use Rattle.primitive.specs.Words.{DEPS, DEP, NEXT-DEP, node, link}
use Rattle.primitive.specs.Words.{link_rows}
use Rattle.marking.specs.Fields.{flags_of, set_flags, dirty, pending, has, has_only, without}
use Rattle.reading.specs.Tables.{State, state, Told, told, Got, got, Evaluated, evaluated, rank_of}
use Rattle.reading.specs.Steps.{woken_others, updated_signal, waken_if, refreshed_signal, begun_first, begun, finished_first, finished}
use Rattle.reading.specs.Ring.{Ring, kind_of, start_of, read_by, two_by, choose_by, cell_by, evaluated_by, updated_computed_by, first_by, updated_by, settled_by, pending_by, stale, unsure, dependency_by, dirty_by, onward, deps_on, deps_by, checked_by, renewed_by, surely_by, refreshed_computed_by, refreshed_by, ring_n}
use Rattle.reading.specs.Read.{refreshed, checked, evaluated_for}

-- two rings that say the same of the nodes whose rank is below b
record Agree (r q : Ring) (b : ℕ) : Type 0 where
  refresh : (s : State) (m : ℕ) → rank_of m < b → r.refresh s m ≡ q.refresh s m
  check : (s : State) (m : ℕ) → rank_of m < b → r.check s m ≡ q.check s m

fewer : (r q : Ring) (b c : ℕ) → c ≤ b → Agree r q b → Agree r q c
fewer r q b c h a = record { refresh = λ s m l. a.refresh s m (omega arith); check = λ s m l. a.check s m (omega arith) }

-- a choice between two answers
abbrev pick : Bool → Told → Told → Told
pick b x y = elim b [ true ↦ x | false ↦ y ]

abbrev pick_state : Bool → State → State → State
pick_state b x y = elim b [ true ↦ x | false ↦ y ]

module _ (ws : List ℤ) (r q : Ring) where
  reads : (n : ℕ) (s : State) (m : ℕ) → Agree r q (rank_of n) → read_by r n s m ≡ read_by q n s m
  unfolding read_by
  reads n s m a = go (ltb (rank_of m) (rank_of n)) refl
    where
      go : (b : Bool) → ltb (rank_of m) (rank_of n) ≡ b → read_by r n s m ≡ read_by q n s m
      go true e = rw (e, read_by, a.refresh s m (ltb-true _ _ e))
      go false e = rw (e, read_by)

  cells : (n : ℕ) (e f : State → ℕ → Evaluated) → Agree r q (rank_of n) → e ≡ f → (s : State) (i : ℕ) (c : Cell) → cell_by ws r n e s i c ≡ cell_by ws q n f s i c
  unfolding cell_by
  cells n e f a p s i (Constant k) = refl
  cells n e f a p s i (Read m) = ap (λ (g : Got). evaluated g.value (suc i) g.after) (reads n s m a)
  cells n e f a p s i (Two o) = ap (λ (x : State → ℕ → Evaluated). two_by x o s (suc i)) p
  cells n e f a p s i Choose = ap (λ (x : State → ℕ → Evaluated). choose_by ws x s (suc i)) p
  cells n e f a p s i Bad = refl

  works : (n : ℕ) → Agree r q (rank_of n) → (d : ℕ) → evaluated_by ws r n d ≡ evaluated_by ws q n d
  unfolding evaluated_by
  works n a zero = fun_ext (λ s. fun_ext (λ i. refl))
  works n a (suc d) = fun_ext (λ s. fun_ext (λ i. cells n (evaluated_by ws r n d) (evaluated_by ws q n d) a (works n a d) s i (cell_at ws i)))

  updates_computed : (s : State) (n : ℕ) → Agree r q (rank_of n) → updated_computed_by ws r s n ≡ updated_computed_by ws q s n
  unfolding updated_computed_by
  updates_computed s n a = ap (λ (e : State → ℕ → Evaluated). finished (e (begun s n) (start_of s n)).after n (e (begun s n) (start_of s n)).value) (works n a most_nesting)

  firsts : (s : State) (n : ℕ) → Agree r q (rank_of n) → first_by ws r s n ≡ first_by ws q s n
  unfolding first_by
  firsts s n a =
      let b = state (begun_first s.nodes n) s.links s.values in
      ap (λ (e : State → ℕ → Evaluated). finished_first (e b (start_of s n)).after n (e b (start_of s n)).value) (works n a most_nesting)

  updates : (s : State) (n : ℕ) → Agree r q (rank_of n) → updated_by ws r s n ≡ updated_by ws q s n
  unfolding updated_by
  updates s n a = ap (λ (x : Told). pick (eqb (kind_of s n) 1) (updated_signal s n) (pick (eqb (kind_of s n) 2) x (told false s))) (updates_computed s n a)

  settles : (s : State) (m : ℕ) → Agree r q (rank_of m) → settled_by ws r s m ≡ settled_by ws q s m
  unfolding settled_by
  settles s m a =
      ap
      (λ (u : Told). pick u.changed (told true (state (woken_others u.after.links u.after.nodes m) u.after.links u.after.values)) (told false u.after))
      (updates s m a)

  -- m is of rank below b, where the rings agree
  module _ (b : ℕ) (a : Agree r q b) where
    at : (m : ℕ) → rank_of m ≤ b → Agree r q (rank_of m)
    at m h = fewer r q b (rank_of m) h a

    cleared : Told → ℕ → Told
    cleared c m = told false (state (set_flags c.after.nodes m (without (flags_of c.after.nodes m) pending)) c.after.links c.after.values)

    pendings : (s : State) (m : ℕ) → rank_of m < b → pending_by ws r s m ≡ pending_by ws q s m
    unfolding pending_by cleared
    pendings s m h =
        let c = q.check s m in
        ap (λ (c : Told). pick c.changed (settled_by ws r c.after m) (cleared c m)) (a.check s m h)
        ∙ ap (λ (x : Told). pick c.changed x (cleared c m)) (settles c.after m (at m (omega arith)))

    dependencies : (s : State) (m : ℕ) → rank_of m < b → dependency_by ws r s m ≡ dependency_by ws q s m
    unfolding dependency_by
    dependencies s m h =
        let f = flags_of s.nodes m in
        ap₂ (λ (x y : Told). pick (has_only f stale stale) x (pick (has_only f unsure unsure) y (told false s))) (settles s m (at m (omega arith))) (pendings s m h)

    dirties : (s : State) (n m : ℕ) → rank_of n ≤ b → dirty_by ws r s n m ≡ dirty_by ws q s n m
    unfolding dirty_by
    dirties s n m h = go (ltb (rank_of m) (rank_of n)) refl
      where
        go : (z : Bool) → ltb (rank_of m) (rank_of n) ≡ z → dirty_by ws r s n m ≡ dirty_by ws q s n m
        go true e =
            let l : rank_of m < rank_of n = ltb-true (rank_of m) (rank_of n) e in
            ap (λ (x : Told). pick (has (flags_of s.nodes n) dirty) (told true s) (pick (ltb (rank_of m) (rank_of n)) x (told false s))) (dependencies s m (omega (arith, l, h)))
        go false e = shut (has (flags_of s.nodes n) dirty) refl
          where
            shut : (y : Bool) → has (flags_of s.nodes n) dirty ≡ y → dirty_by ws r s n m ≡ dirty_by ws q s n m
            shut true g = rw (g, dirty_by)
            shut false g = rw (g, e, dirty_by)

    deps : (n j : ℕ) → rank_of n ≤ b → deps_by ws r n j ≡ deps_by ws q n j
    unfolding deps_by
    deps n zero h = fun_ext (λ s. fun_ext (λ w. refl))
    deps n (suc j) h = fun_ext (λ s. fun_ext (λ w. go s (deps n j h) (slot_of w)))
      where
        go : (s : State) → deps_by ws r n j ≡ deps_by ws q n j → (o : Slot) → deps_on ws r n (deps_by ws r n j) s o ≡ deps_on ws q n (deps_by ws q n j) s o
        go s p Nothing = refl
        go s p (At x) = ap₂ (λ (f : State → ℕ → Told) (t : Told). onward f t (link s.links x NEXT-DEP)) p (dirties s n (link s.links x DEP) h)

    checks : (s : State) (n : ℕ) → rank_of n ≤ b → checked_by ws r s n ≡ checked_by ws q s n
    unfolding checked_by
    checks s n h = ap (λ (f : State → ℕ → Told). f s (node s.nodes n DEPS)) (deps n (link_rows s.links) h)

    renews : (s : State) (n : ℕ) → rank_of n ≤ b → renewed_by ws r s n ≡ renewed_by ws q s n
    unfolding renewed_by
    renews s n h = ap (λ (t : Told). waken_if t n) (updates_computed s n (at n h))

    surelies : (s : State) (n f : ℕ) → rank_of n ≤ b → surely_by ws r s n f ≡ surely_by ws q s n f
    unfolding surely_by
    surelies s n f h =
        let c = checked_by ws q s n in
        let kept : Told → State = λ c. state (set_flags c.after.nodes n (without f pending)) c.after.links c.after.values in
        ap (λ (c : Told). pick_state c.changed (renewed_by ws r c.after n) (kept c)) (checks s n h)
        ∙ ap (λ (x : State). pick_state c.changed x (kept c)) (renews c.after n h)

    refreshes_computed : (s : State) (n : ℕ) → rank_of n ≤ b → refreshed_computed_by ws r s n ≡ refreshed_computed_by ws q s n
    unfolding refreshed_computed_by
    refreshes_computed s n h =
        let f = flags_of s.nodes n in
        ap₂ (λ (x y : State). pick_state (has f dirty) x (pick_state (has f pending) y (pick_state (eqb f 0) (first_by ws r s n) s))) (renews s n h) (surelies s n f h)
        ∙ ap (λ (x : State). pick_state (has f dirty) (renewed_by ws q s n) (pick_state (has f pending) (surely_by ws q s n f) (pick_state (eqb f 0) x s))) (firsts s n (at n h))

    refreshes : (s : State) (n : ℕ) → rank_of n ≤ b → refreshed_by ws r s n ≡ refreshed_by ws q s n
    unfolding refreshed_by
    refreshes s n h = ap (λ (x : State). pick_state (eqb (kind_of s n) 1) (refreshed_signal s n) (pick_state (eqb (kind_of s n) 2) x s)) (refreshes_computed s n h)

module _ (ws : List ℤ) where
  agree : (k j b : ℕ) → b ≤ k → b ≤ j → Agree (ring_n ws k) (ring_n ws j) b
  unfolding ring_n
  agree zero j b h g = record { refresh = λ s m l. absurd (omega arith); check = λ s m l. absurd (omega arith) }
  agree (suc k) zero b h g = record { refresh = λ s m l. absurd (omega arith); check = λ s m l. absurd (omega arith) }
  agree (suc k) (suc j) b h g =
      record {
        refresh = λ s m l. refreshes ws (ring_n ws k) (ring_n ws j) (rank_of m) (agree k j (rank_of m) (omega arith) (omega arith)) s m (omega arith);
        check = λ s m l. checks ws (ring_n ws k) (ring_n ws j) (rank_of m) (agree k j (rank_of m) (omega arith) (omega arith)) s m (omega arith);
      }

  module _ (k n : ℕ) (h : rank_of n ≤ k) where
    own : Agree (ring_n ws k) (ring_n ws (rank_of n)) (rank_of n)
    own = agree k (rank_of n) (rank_of n) h (omega arith)

    pub bound_refreshed : (s : State) → refreshed_by ws (ring_n ws k) s n ≡ refreshed ws s n
    unfolding refreshed
    bound_refreshed s = refreshes ws (ring_n ws k) (ring_n ws (rank_of n)) (rank_of n) own s n (omega arith)

    pub bound_checked : (s : State) → checked_by ws (ring_n ws k) s n ≡ checked ws s n
    unfolding checked
    bound_checked s = checks ws (ring_n ws k) (ring_n ws (rank_of n)) (rank_of n) own s n (omega arith)

    abbrev got_from : Evaluated → Got
    got_from e = got e.value e.after

    pub bound_evaluated : (s : State) → got_from (evaluated_by ws (ring_n ws k) n most_nesting s (start_of s n)) ≡ evaluated_for ws s n
    unfolding evaluated_for
    bound_evaluated s = ap (λ (e : State → ℕ → Evaluated). got_from (e s (start_of s n))) (works ws (ring_n ws k) (ring_n ws (rank_of n)) n own most_nesting)
