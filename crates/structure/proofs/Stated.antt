-- Tables that represent a well-formed state represent no other, and reading them gives it. Assumes nothing.
use mathlib.Core.Path.{◌≡◌, refl, sym, ap, ◌∙◌}
use mathlib.Core.Bool.{Bool, true, false}
use mathlib.Core.List.{List, [], ◌++◌, append-nil}
use Prim.Native.Nat.{ℕ, ◌≤◌, ◌<◌}
use native.Mathlib.Omega.{arith}
use lib.Dec.{ltb}
use lib.IntN.{ℤ}
use lib.ListN.{get_or}
use borrow.Author.Tests.{ltb-true, ltb-false, lt-ltb, le-ltb}
use Rattle.primitive.specs.Words.{COUNT, OWNER, DEPS, SUBS, NEXT-DEP, NEXT-SUB, node, link}
use Rattle.counting.specs.Counts.{node_room, slot_room, cell_room}
use Rattle.telling.specs.Formulas.{own_cells}
use Rattle.telling.specs.Whole.{used_cells}
use Rattle.resting.specs.AtRest.{subs_of, deps_of, free_of}
use Rattle.meaning.specs.State.{St, Row, deps}
use Rattle.meaning.specs.Setters.{with_log, with_stuck}
use Rattle.meaning.specs.Reserve.{reserve}
use Rattle.meaning.specs.WellFormed.{In, WellFormed}
use Rattle.meaning.specs.Words.{formula_of}
use Rattle.meaning.proofs.Laws.{either}
use Rattle.meaning.proofs.Members.{none_nil, most_below}
use Rattle.refusing.specs.Sight.{room_in}
use Rattle.structure.specs.Rep.{has_form, word_at, free_at, RepAfter, Rep}
use Rattle.structure.specs.Reading.{of_node, owner_in, or_constant, form_in, state_in, plain}
use Rattle.structure.proofs.ChainLaws.{chain_slots}
use Rattle.structure.proofs.WordLaws.{owner_back, of_a_node, of_none, formula_of_written}

-- neither record looks at the log, nor at `stuck`
pub relogged : (ran N L : List ℕ) (W C : List ℤ) (s : St) (l : List Row) (b : Bool) → RepAfter ran N L W C s → RepAfter ran N L W C (with_stuck (with_log s l) b)
relogged ran N L W C s l b r = record {
  lengths = r.lengths;
  registers = r.registers;
  kinds = r.kinds;
  flags = r.flags;
  values = r.values;
  forms = r.forms;
  slots = r.slots;
  deps = r.deps;
  subs = r.subs;
  free = r.free;
  queue = r.queue;
}

pub plain_rep : (N L : List ℕ) (W C : List ℤ) (s : St) → Rep N L W C s → Rep N L W C (plain s)
plain_rep N L W C s r = relogged [] N L W C s [] false r

pub plain_well_formed : (s : St) → WellFormed s → WellFormed (plain s)
unfolding reserve
plain_well_formed s w = record { lists = w.lists; depends = w.depends; limits = w.limits; by_kind = w.by_kind; queued = w.queued }

module _ (N L : List ℕ) (W C : List ℤ) (s : St) (r : Rep N L W C s) (w : WellFormed s) where
  abbrev count : ℕ
  count = get_or N COUNT 0

  pub nodes_is : node_room N ≡ s.room.nodes
  nodes_is = omega (arith, r.lengths.of_nodes)

  pub slots_is : slot_room L ≡ s.room.slots
  slots_is = omega (arith, r.lengths.of_links)

  pub cells_is : cell_room C ≡ s.room.cells
  cells_is = omega (arith, r.lengths.of_cells)

  -- ---- lists: none past the last node, and none longer than there are slots
  module _ (n : ℕ) (xs : List ℕ) (inside : (x : ℕ) → In x xs → n < s.size) where
    none_past : s.size ≤ n → xs ≡ []
    none_past h = none_nil xs (λ x i. let l = inside x i in omega arith)

  read_by : (n : ℕ) (ys xs : List ℕ) → (n < s.size → ys ≡ xs) → (s.size ≤ n → xs ≡ []) → of_node N n ys ≡ xs
  read_by n ys xs f g =
      let e = r.registers.count in
      either (ltb n s.size) (λ q. let h = ltb-true n s.size q in of_a_node N n ys (omega arith) ∙ f h)
      (λ q. let h = ltb-false n s.size q in of_none N n ys (omega arith) ∙ sym (g h))

  pub deps_read : (n : ℕ) → of_node N n (deps_of N L n) ≡ deps s n
  unfolding word_at
  deps_read n =
      read_by n (deps_of N L n) (deps s n)
      (λ h. chain_slots (word_at N L NEXT-DEP n DEPS) (λ (x : ℕ). link L x NEXT-DEP) (λ x. refl) (slot_room L) 0 (deps s n) (r.deps.next n h)
      (let b = most_below s.room.slots (deps s n) (w.lists.deps_once n) (λ x i. w.lists.live_slot x (w.lists.deps_live x n i).0) in omega (arith, slots_is)))
      (none_past n (deps s n) (λ x i. let p = w.lists.deps_live x n i in let q = (w.lists.inside x p.0).1 in let e = p.1 in omega arith))

  pub subs_read : (n : ℕ) → of_node N n (subs_of N L n) ≡ s.subs n
  unfolding word_at
  subs_read n =
      read_by n (subs_of N L n) (s.subs n)
      (λ h. chain_slots (word_at N L NEXT-SUB n SUBS) (λ (x : ℕ). link L x NEXT-SUB) (λ x. refl) (slot_room L) 0 (s.subs n) (r.subs.next n h)
      (let b = most_below s.room.slots (s.subs n) (w.lists.subs_once n) (λ x i. w.lists.live_slot x (w.lists.subs_live x n i).0) in omega (arith, slots_is)))
      (none_past n (s.subs n) (λ x i. let p = w.lists.subs_live x n i in let q = (w.lists.inside x p.0).0 in let e = p.1 in omega arith))

  done_read : (n : ℕ) → of_node N n (deps_of N L n) ≡ s.done n
  done_read n = deps_read n ∙ ap (λ (xs : List ℕ). s.done n ++ xs) (w.lists.tail_last n) ∙ append-nil (s.done n)

  pub free_read : free_of L ≡ s.free
  unfolding free_at
  free_read =
      chain_slots (free_at L) (λ (x : ℕ). link L x NEXT-DEP) (λ x. refl) (slot_room L) 0 s.free r.free
      (let b = most_below s.room.slots s.free w.lists.free_once (λ x i. (w.lists.free_not_live x i).1) in omega (arith, slots_is))

  -- ---- formulas
  pub form_read : (n : ℕ) → form_in N C n ≡ s.form n
  unfolding form_in
  form_read n = either (ltb n s.size) (λ q. known (ltb-true n s.size q)) (λ q. let h = ltb-false n s.size q in past h)
    where
      past : s.size ≤ n → form_in N C n ≡ s.form n
      past h = let e = r.registers.count in rw (le-ltb n count (omega arith), form_in) (sym (r.forms.past n h))

      of_kind : n < s.size → (b : Bool) → has_form (s.kind n) ≡ b → or_constant b (formula_of (own_cells N (used_cells N C) n)) ≡ s.form n
      of_kind h true e =
          let f = r.forms.spelt n h e in
          formula_of_written (own_cells N (used_cells N C) n) (s.form n) (record { spelt = f.words; few = w.limits.cells_few n h; shallow = w.limits.nesting_low n h })
      of_kind h false e = sym (r.forms.without n h e)

      known : n < s.size → form_in N C n ≡ s.form n
      known h =
          let e = r.registers.count in
          rw (lt-ltb n count (omega arith), form_in)
          (ap (λ (b : Bool). or_constant b (formula_of (own_cells N (used_cells N C) n))) (ap has_form (r.kinds.kind n)) ∙ of_kind h (has_form (s.kind n)) refl)

  room_read : room_in N L C ≡ s.room
  room_read = λ i. record { nodes = nodes_is i; slots = slots_is i; cells = cells_is i }

  owner_read : (n : ℕ) → owner_in (node N n OWNER) ≡ s.owner n
  owner_read n = ap owner_in (r.kinds.owner n) ∙ owner_back (s.owner n)

  -- THE READING: all columns but the log and `stuck`
  pub read_is : state_in N L W C ≡ plain s
  read_is = λ i. record {
    room = room_read i;
    size = r.registers.count i;
    used = r.registers.used i;
    kind = λ n. r.kinds.kind n i;
    form = λ n. form_read n i;
    owner = λ n. owner_read n i;
    gone = λ n. r.kinds.gone n i;
    level = λ n. r.kinds.level n i;
    fl = λ n. r.flags.flags n i;
    sto = λ n. r.values.current n i;
    pend = λ n. r.values.pending n i;
    done = λ n. done_read n i;
    rest = λ n. sym (w.lists.tail_last n) i;
    subs = λ n. subs_read n i;
    live = λ x. r.slots.live x i;
    dep = λ x. r.slots.dep x i;
    sub = λ x. r.slots.sub x i;
    ver = λ x. r.slots.ver x i;
    free = free_read i;
    queue = r.queue.entries i;
    depth = r.registers.depth i;
    cycle = r.registers.cycle i;
    log = [];
    stuck = false;
  }
