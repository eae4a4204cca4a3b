-- A read, the dirty check, updates and evaluation call each other in a ring. Only `ring_n` recurses, on a bound of the ranks; the others take the ring of the nodes of lower rank
-- as an argument, r. ws are the cells.
use Rattle.std.specs.Prelude.{ℕ, zero, suc, ◌≤◌, ◌<◌, ◌≡◌, true, false, List, eqb, ltb, ℤ, pos}
use Rattle.primitive.specs.declared.slots.Slot.{Slot}
use Rattle.primitive.specs.declared.slots.Slot.TheVariants.{At, Nothing}
use Rattle.primitive.specs.Slots.{slot_of}
use Rattle.values.specs.Values.{value, is_zero}
use Rattle.trees.specs.declared.cells.Op.{Op}
use Rattle.trees.specs.declared.cells.Cell.{Cell}
use Rattle.trees.specs.declared.cells.Cell.TheVariants.{Constant, Read, Two, Choose, Bad}
use Rattle.trees.specs.Cells.{cell_at, end_of}
use Rattle.trees.specs.Legal.{most_nesting}
use Rattle.trees.specs.Trees.{apply}
use Rattle.primitive.specs.Words.{COMPUTED, DEP, DEPS, KIND, NEXT-DEP, SIGNAL, START, link, link_rows, node}
use Rattle.marking.specs.Fields.{flags_of, set_flags, dirty, pending, has, has_only, without}
use Rattle.reading.specs.Tables.{State, state, Told, told, Got, got, Evaluated, evaluated, rank_of, current_of}
use Rattle.reading.specs.Steps.{woken_others, updated_signal, waken_if, refreshed_signal, begun_first, begun, finished_first, finished, linked_to}

-- what can be asked of a node: to bring its value up to date, and whether a dependency of it has changed
pub record Ring : Type 0 where
  pub refresh : State → ℕ → State
  pub check : State → ℕ → Told

-- a node's kind, and where its formula starts
abbrev pub kind_of : State → ℕ → ℕ
kind_of s n = node s.nodes n KIND

abbrev pub start_of : State → ℕ → ℕ
start_of s n = node s.nodes n START

-- ---- evaluation, for node n
-- the value of m, which n then depends on; 0 where m is not of lower rank
unfoldable pub read_by : Ring → ℕ → State → ℕ → Got
read_by r n s m =
    elim (ltb (rank_of m) (rank_of n)) [
      | true ↦ (let t = linked_to (r.refresh s m) m n in got (current_of t.values m) t)
      | false ↦ got (value (pos 0)) s
    ]

-- the first argument is at cell i, and e works out an argument
unfoldable pub two_by : (State → ℕ → Evaluated) → Op → State → ℕ → Evaluated
two_by e o s i =
    let a = e s i in
    let b = e a.after a.next in
    evaluated (apply o a.value b.value) b.next b.after

-- only the branch that is taken is worked out
unfoldable pub choose_by : List ℤ → (State → ℕ → Evaluated) → State → ℕ → Evaluated
choose_by ws e s i =
    let c = e s i in
    elim (is_zero c.value) [
      | true ↦ e c.after (end_of ws c.next)
      | false ↦ (let a = e c.after c.next in evaluated a.value (end_of ws a.next) a.after)
    ]

unfoldable pub cell_by : List ℤ → Ring → ℕ → (State → ℕ → Evaluated) → State → ℕ → Cell → Evaluated
cell_by ws r n e s i (Constant k) = evaluated (value k) (suc i) s
cell_by ws r n e s i (Read m) = let g = read_by r n s m in evaluated g.value (suc i) g.after
cell_by ws r n e s i (Two o) = two_by e o s (suc i)
cell_by ws r n e s i Choose = choose_by ws e s (suc i)
cell_by ws r n e s i Bad = evaluated (value (pos 0)) i s

-- the expression at cell i, of nesting at most d
unfoldable pub evaluated_by : List ℤ → Ring → ℕ → ℕ → State → ℕ → Evaluated
evaluated_by ws r n zero s i = evaluated (value (pos 0)) i s
evaluated_by ws r n (suc d) s i = cell_by ws r n (evaluated_by ws r n d) s i (cell_at ws i)

-- ---- updates
unfoldable pub updated_computed_by : List ℤ → Ring → State → ℕ → Told
updated_computed_by ws r s n =
    let e = evaluated_by ws r n most_nesting (begun s n) (start_of s n) in
    finished e.after n e.value

unfoldable pub first_by : List ℤ → Ring → State → ℕ → State
first_by ws r s n =
    let e = evaluated_by ws r n most_nesting (state (begun_first s.nodes n) s.links s.values) (start_of s n) in
    finished_first e.after n e.value

-- signals and computeds have values
unfoldable pub updated_by : List ℤ → Ring → State → ℕ → Told
updated_by ws r s n =
    elim (eqb (kind_of s n) SIGNAL) [
      | true ↦ updated_signal s n
      | false ↦ elim (eqb (kind_of s n) COMPUTED) [ true ↦ updated_computed_by ws r s n | false ↦ told false s ]
    ]

-- ---- the dirty check
-- updated; a change wakes the subscribers other than the one that asks
unfoldable pub settled_by : List ℤ → Ring → State → ℕ → Told
settled_by ws r s m =
    let u = updated_by ws r s m in
    elim u.changed [
      | true ↦ told true (state (woken_others u.after.links u.after.nodes m) u.after.links u.after.values)
      | false ↦ told false u.after
    ]

-- m is pending: its own dependencies say whether it is to be updated
unfoldable pub pending_by : List ℤ → Ring → State → ℕ → Told
pending_by ws r s m =
    let c = r.check s m in
    elim c.changed [
      | true ↦ settled_by ws r c.after m
      | false ↦ told false (state (set_flags c.after.nodes m (without (flags_of c.after.nodes m) pending)) c.after.links c.after.values)
    ]

-- MUTABLE and DIRTY, MUTABLE and PENDING
abbrev pub stale : ℕ
stale = 17

abbrev pub unsure : ℕ
unsure = 33

-- the dependency m has changed
unfoldable pub dependency_by : List ℤ → Ring → State → ℕ → Told
dependency_by ws r s m =
    elim (has_only (flags_of s.nodes m) stale stale) [
      | true ↦ settled_by ws r s m
      | false ↦ elim (has_only (flags_of s.nodes m) unsure unsure) [ true ↦ pending_by ws r s m | false ↦ told false s ]
    ]

-- n is DIRTY already, or its dependency m has changed
unfoldable pub dirty_by : List ℤ → Ring → State → ℕ → ℕ → Told
dirty_by ws r s n m =
    elim (has (flags_of s.nodes n) dirty) [
      | true ↦ told true s
      | false ↦ elim (ltb (rank_of m) (rank_of n)) [ true ↦ dependency_by ws r s m | false ↦ told false s ]
    ]

-- on to the next dependency where this one did not change; p is the rest of the walk
unfoldable pub onward : (State → ℕ → Told) → Told → ℕ → Told
onward p t w = elim t.changed [ true ↦ told true t.after | false ↦ p t.after w ]

abbrev pub deps_on : List ℤ → Ring → ℕ → (State → ℕ → Told) → State → Slot → Told
deps_on ws r n p s Nothing = told false s
deps_on ws r n p s (At x) = onward p (dirty_by ws r s n (link s.links x DEP)) (link s.links x NEXT-DEP)

-- the dependencies of n from the word w on, at most j of them
unfoldable pub deps_by : List ℤ → Ring → ℕ → ℕ → State → ℕ → Told
deps_by ws r n zero s w = told false s
deps_by ws r n (suc j) s w = deps_on ws r n (deps_by ws r n j) s (slot_of w)

unfoldable pub checked_by : List ℤ → Ring → State → ℕ → Told
checked_by ws r s n = deps_by ws r n (link_rows s.links) s (node s.nodes n DEPS)

-- ---- a read's first half
unfoldable pub renewed_by : List ℤ → Ring → State → ℕ → State
renewed_by ws r s n = waken_if (updated_computed_by ws r s n) n

-- n is pending: its dependencies say whether it is to be updated; if not, its flags are f, as they were, without PENDING
unfoldable pub surely_by : List ℤ → Ring → State → ℕ → ℕ → State
surely_by ws r s n f =
    let c = checked_by ws r s n in
    elim c.changed [
      | true ↦ renewed_by ws r c.after n
      | false ↦ state (set_flags c.after.nodes n (without f pending)) c.after.links c.after.values
    ]

-- a computed without flags was never evaluated
unfoldable pub refreshed_computed_by : List ℤ → Ring → State → ℕ → State
refreshed_computed_by ws r s n =
    let f = flags_of s.nodes n in
    elim (has f dirty) [
      | true ↦ renewed_by ws r s n
      | false ↦ elim (has f pending) [
        | true ↦ surely_by ws r s n f
        | false ↦ elim (eqb f 0) [ true ↦ first_by ws r s n | false ↦ s ]
      ]
    ]

unfoldable pub refreshed_by : List ℤ → Ring → State → ℕ → State
refreshed_by ws r s n =
    elim (eqb (kind_of s n) SIGNAL) [
      | true ↦ refreshed_signal s n
      | false ↦ elim (eqb (kind_of s n) COMPUTED) [ true ↦ refreshed_computed_by ws r s n | false ↦ s ]
    ]

-- ---- the ring of the nodes whose rank is below k
unfoldable pub ring_n : List ℤ → ℕ → Ring
ring_n ws zero = record { refresh = λ s n. s; check = λ s n. told false s }
ring_n ws (suc k) = record { refresh = refreshed_by ws (ring_n ws k); check = checked_by ws (ring_n ws k) }

-- ---- what the members promise each other: for every bound that is enough
-- of work on node n
abbrev pub Enough {ℓ} : {A : Type ℓ} → List ℤ → ℕ → (Ring → A) → A → Type ℓ
Enough ws n f a = (k : ℕ) → rank_of n ≤ k → a ≡ f (ring_n ws k)

-- of work on node m for a node of higher rank
abbrev pub Below {ℓ} : {A : Type ℓ} → List ℤ → ℕ → (Ring → A) → A → Type ℓ
Below ws m f a = (k : ℕ) → rank_of m < k → a ≡ f (ring_n ws k)
