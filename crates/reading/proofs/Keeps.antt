-- One induction for all of the ring: what holds over each single step, and is handed on from step to step, holds over every read, check and evaluation. Assumes nothing.
use mathlib.Core.Path.{◌≡◌, refl}
use mathlib.Core.Bool.{Bool, true, false}
use mathlib.Core.List.{List}
use Prim.Native.Nat.{ℕ, zero, suc, ◌<◌}
use lib.Dec.{eqb, ltb}
use lib.IntN.{ℤ, pos}
use borrow.Author.Tests.{ltb-true}
use Rattle.primitive.specs.declared.slots.Slot.{Slot}
use Rattle.primitive.specs.declared.slots.Slot.TheVariants.{At, Nothing}
use Rattle.values.specs.declared.Value.{Value}
use Rattle.primitive.specs.Slots.{slot_of}
use Rattle.values.specs.Values.{value, is_zero}
use Rattle.trees.specs.declared.cells.Cell.{Cell}
use Rattle.trees.specs.declared.cells.Cell.TheVariants.{Constant, Read, Two, Choose, Bad}
use Rattle.trees.specs.Cells.{cell_at, end_of}
use Rattle.trees.specs.Legal.{most_nesting}
use Rattle.primitive.specs.Words.{DEPS, DEP, NEXT-DEP, node, link}
use Rattle.primitive.specs.Words.{link_rows}
use Rattle.marking.specs.Fields.{flags_of, set_flags, dirty, pending, has, has_only}
use Rattle.reading.specs.Tables.{State, state, Told, Got, got, Evaluated, rank_of, current_of}
use Rattle.reading.specs.Steps.{woken, woken_others, updated_signal, waken_if, refreshed_signal, evaluating, begun_first, begun, finished_first, finished, linked_to}
use Rattle.reading.specs.Ring.{Ring, kind_of, start_of, read_by, two_by, choose_by, cell_by, evaluated_by, updated_computed_by, first_by, updated_by, settled_by, pending_by, stale, unsure, dependency_by, dirty_by, onward, deps_on, deps_by, checked_by, renewed_by, surely_by, refreshed_computed_by, refreshed_by, ring_n}
use Rattle.reading.specs.Read.{refreshed, read_of, checked, evaluated_for}

-- the steps: new flags of a node, a signal's update, what goes before and after an evaluation, a link to a node of higher rank, subscribers woken
module _ (R : State → State → Type 0) (same : (s : State) → R s s) (trans : (a b c : State) → R a b → R b c → R a c)
    (flags : (s : State) (n f : ℕ) → R s (state (set_flags s.nodes n f) s.links s.values))
    (signal : (s : State) (n : ℕ) → R s (updated_signal s n).after)
    (begins : (s : State) (n : ℕ) → R s (begun s n))
    (ends_first : (s : State) (n : ℕ) (v : Value) → R s (finished_first s n v))
    (ends : (s : State) (n : ℕ) (v : Value) → R s (finished s n v).after)
    (links : (s : State) (m n : ℕ) → rank_of m < rank_of n → R s (linked_to s m n))
    (wakes : (s : State) (n : ℕ) → R s (state (woken s.links s.nodes n) s.links s.values))
    (wakes-others : (s : State) (n : ℕ) → R s (state (woken_others s.links s.nodes n) s.links s.values))
    (ws : List ℤ) where
  then : {a b c : State} → R a b → R b c → R a c
  then p q = trans _ _ _ p q

  branch : (b : Bool) {s x y : State} → R s x → R s y → R s (elim b [ true ↦ x | false ↦ y ])
  branch true p q = p
  branch false p q = q

  branch_told : (b : Bool) {s : State} (x y : Told) → R s x.after → R s y.after → (let t : Told = elim b [ true ↦ x | false ↦ y ] in R s t.after)
  branch_told true x y p q = p
  branch_told false x y p q = q

  branch_worked : (b : Bool) {s : State} (x y : Evaluated) → R s x.after → R s y.after → (let t : Evaluated = elim b [ true ↦ x | false ↦ y ] in R s t.after)
  branch_worked true x y p q = p
  branch_worked false x y p q = q

  module _ (r : Ring) (refreshes : (s : State) (n : ℕ) → R s (r.refresh s n)) (checks : (s : State) (n : ℕ) → R s (r.check s n).after) where
    reads : (n : ℕ) (s : State) (m : ℕ) → R s (read_by r n s m).after
    unfolding read_by
    reads n s m = go (ltb (rank_of m) (rank_of n)) refl
      where
        go : (b : Bool) → ltb (rank_of m) (rank_of n) ≡ b
            → (let g : Got = elim b [ true ↦ (let t = linked_to (r.refresh s m) m n in got (current_of t.values m) t) | false ↦ got (value (pos 0)) s ] in R s g.after)
        go true e = then (refreshes s m) (links (r.refresh s m) m n (ltb-true _ _ e))
        go false e = same s

    works_cell : (n : ℕ) (e : State → ℕ → Evaluated) → ((s : State) (i : ℕ) → R s (e s i).after) → (s : State) (i : ℕ) (c : Cell) → R s (cell_by ws r n e s i c).after
    unfolding cell_by two_by choose_by
    works_cell n e h s i (Constant k) = same s
    works_cell n e h s i (Read m) = reads n s m
    works_cell n e h s i (Two o) = let a = e s (suc i) in then (h s (suc i)) (h a.after a.next)
    works_cell n e h s i Choose =
        let c = e s (suc i) in
        then (h s (suc i)) (branch_worked (is_zero c.value) _ _ (h c.after (end_of ws c.next)) (h c.after c.next))
    works_cell n e h s i Bad = same s

    works : (n d : ℕ) (s : State) (i : ℕ) → R s (evaluated_by ws r n d s i).after
    unfolding evaluated_by
    works n zero s i = same s
    works n (suc d) s i = works_cell n (evaluated_by ws r n d) (works n d) s i (cell_at ws i)

    updates_computed : (s : State) (n : ℕ) → R s (updated_computed_by ws r s n).after
    unfolding updated_computed_by
    updates_computed s n = then (begins s n) (then (works n most_nesting (begun s n) (start_of s n)) (ends _ n _))

    works_first : (s : State) (n : ℕ) → R s (first_by ws r s n)
    unfolding first_by begun_first
    works_first s n = then (flags s n evaluating) (then (works n most_nesting _ (start_of s n)) (ends_first _ n _))

    updates : (s : State) (n : ℕ) → R s (updated_by ws r s n).after
    unfolding updated_by
    updates s n = branch_told (eqb (kind_of s n) 1) _ _ (signal s n) (branch_told (eqb (kind_of s n) 2) _ _ (updates_computed s n) (same s))

    settles : (s : State) (m : ℕ) → R s (settled_by ws r s m).after
    unfolding settled_by
    settles s m = let u = updated_by ws r s m in then (updates s m) (branch_told u.changed _ _ (wakes-others u.after m) (same u.after))

    checks_pending : (s : State) (m : ℕ) → R s (pending_by ws r s m).after
    unfolding pending_by
    checks_pending s m = let c = r.check s m in then (checks s m) (branch_told c.changed _ _ (settles c.after m) (flags c.after m _))

    checks_dependency : (s : State) (m : ℕ) → R s (dependency_by ws r s m).after
    unfolding dependency_by
    checks_dependency s m =
        branch_told (has_only (flags_of s.nodes m) stale stale) _ _ (settles s m) (branch_told (has_only (flags_of s.nodes m) unsure unsure) _ _ (checks_pending s m) (same s))

    checks_one : (s : State) (n m : ℕ) → R s (dirty_by ws r s n m).after
    unfolding dirty_by
    checks_one s n m = branch_told (has (flags_of s.nodes n) dirty) _ _ (same s) (branch_told (ltb (rank_of m) (rank_of n)) _ _ (checks_dependency s m) (same s))

    checks_from : (n j : ℕ) (s : State) (w : ℕ) → R s (deps_by ws r n j s w).after
    unfolding deps_by onward
    checks_from n zero s w = same s
    checks_from n (suc j) s w = go (checks_from n j) (slot_of w)
      where
        go : ((s : State) (w : ℕ) → R s (deps_by ws r n j s w).after) → (o : Slot) → R s (deps_on ws r n (deps_by ws r n j) s o).after
        go h Nothing = same s
        go h (At x) =
            let t = dirty_by ws r s n (link s.links x DEP) in
            then (checks_one s n (link s.links x DEP)) (branch_told t.changed _ _ (same t.after) (h t.after (link s.links x NEXT-DEP)))

    checks_all : (s : State) (n : ℕ) → R s (checked_by ws r s n).after
    unfolding checked_by
    checks_all s n = checks_from n (link_rows s.links) s (node s.nodes n DEPS)

    wakes_if : (t : Told) (n : ℕ) → R t.after (waken_if t n)
    unfolding waken_if
    wakes_if t n = branch t.changed (wakes t.after n) (same t.after)

    renews : (s : State) (n : ℕ) → R s (renewed_by ws r s n)
    unfolding renewed_by
    renews s n = then (updates_computed s n) (wakes_if (updated_computed_by ws r s n) n)

    refreshes_pending : (s : State) (n f : ℕ) → R s (surely_by ws r s n f)
    unfolding surely_by
    refreshes_pending s n f = let c = checked_by ws r s n in then (checks_all s n) (branch c.changed (renews c.after n) (flags c.after n _))

    refreshes_computed : (s : State) (n : ℕ) → R s (refreshed_computed_by ws r s n)
    unfolding refreshed_computed_by
    refreshes_computed s n =
        let f = flags_of s.nodes n in
        branch (has f dirty) (renews s n) (branch (has f pending) (refreshes_pending s n f) (branch (eqb f 0) (works_first s n) (same s)))

    refreshes_signal : (s : State) (n : ℕ) → R s (refreshed_signal s n)
    unfolding refreshed_signal
    refreshes_signal s n = branch (has (flags_of s.nodes n) dirty) (then (signal s n) (wakes_if (updated_signal s n) n)) (same s)

    refreshes_all : (s : State) (n : ℕ) → R s (refreshed_by ws r s n)
    unfolding refreshed_by
    refreshes_all s n = branch (eqb (kind_of s n) 1) (refreshes_signal s n) (branch (eqb (kind_of s n) 2) (refreshes_computed s n) (same s))

  -- the ring, at any bound
  keeps : (k : ℕ) → ((s : State) (n : ℕ) → R s ((ring_n ws k).refresh s n)) × ((s : State) (n : ℕ) → R s ((ring_n ws k).check s n).after)
  unfolding ring_n
  keeps zero = (λ s n. same s, λ s n. same s)
  keeps (suc k) = let p = keeps k in (refreshes_all (ring_n ws k) p.0 p.1, checks_all (ring_n ws k) p.0 p.1)

  pub keeps_refreshed : (s : State) (n : ℕ) → R s (refreshed ws s n)
  unfolding refreshed
  keeps_refreshed s n = refreshes_all (ring_n ws (rank_of n)) (keeps (rank_of n)).0 (keeps (rank_of n)).1 s n

  pub keeps_read : (s : State) (n : ℕ) → R s (read_of ws s n).after
  unfolding read_of
  keeps_read s n = keeps_refreshed s n

  pub keeps_checked : (s : State) (n : ℕ) → R s (checked ws s n).after
  unfolding checked
  keeps_checked s n = checks_all (ring_n ws (rank_of n)) (keeps (rank_of n)).0 (keeps (rank_of n)).1 s n

  pub keeps_evaluated : (s : State) (n : ℕ) → R s (evaluated_for ws s n).after
  unfolding evaluated_for
  keeps_evaluated s n = works (ring_n ws (rank_of n)) (keeps (rank_of n)).0 (keeps (rank_of n)).1 n most_nesting s (start_of s n)
