-- The steps of a read that evaluate nothing, over words and over lists: values, the cycle, what goes before and after an evaluation, a signal's update. Assumes nothing.
use mathlib.Core.Path.{◌≡◌, refl, sym, ap, ap₂, ◌∙◌, subst}
use mathlib.Core.Bool.{false, not}
use mathlib.Core.List.{List, []}
use Prim.Native.Nat.{ℕ, zero, suc, ◌+◌, ◌*◌, ◌%◌, ◌^◌, ◌<◌, ◌≤◌}
use native.Mathlib.Omega.{arith}
use lib.Dec.{eqb}
use lib.IntN.{ℤ, pos}
use lib.ListN.{length, get_or, set, length-set}
use lib.Seq.{get_or-set_same, get_or-set_other}
use Rattle.flags.specs.declared.Named.{Named}
use Rattle.values.specs.declared.Value.{Value}
use Rattle.flags.specs.Flags.{bit, named}
use Rattle.values.specs.Values.{value, value_at, set_value, same}
use Rattle.primitive.specs.Words.{CYCLE, FREE, LIVE, VERSION, DEP, SUB, PREV-DEP, NEXT-DEP, DEPS, DEPS-TAIL, PREV-SUB, NEXT-SUB, SUBS, link, set_node}
use Rattle.primitive.proofs.RowLaws.{field_after_header}
use Rattle.linking.specs.Free.{is_live_slot}
use Rattle.linking.specs.Link.{linked}
use Rattle.linking.specs.Table.{Tab, tab}
use Rattle.marking.specs.Fields.{flags_of, set_flags, recursed_checking, without}
use Rattle.reading.specs.Tables.{State, state, Told, current_of, pending_of, set_current, set_pending, cycle_of, raised}
use Rattle.reading.specs.Steps.{updated_signal, begun_first, begun, finished_first, finished, linked_to}
use Rattle.meaning.specs.State.{St, up, deps, f1, f5, raised as raisedTo}
use Rattle.meaning.specs.Setters.{with_cycle, set_fl, set_sto, set_pend}
use Rattle.meaning.specs.Links.{rewind, purge, last_of, head_of, goes_to, is_from, link as link_of}
use Rattle.meaning.specs.Reads.{Ans, upd_signal}
use Rattle.meaning.specs.Played.{byte}
use Rattle.meaning.proofs.Laws.{up_by}
use Rattle.meaning.proofs.Still.{Given}
use Rattle.meaning.proofs.Inside.{Set, Static, Inside}
use Rattle.structure.specs.Rep.{word_at, free_at, RepAfter}
use Rattle.structure.proofs.Chained.{chain_ext, back_ext}
use Rattle.structure.proofs.Held.{Held, Shows}
use Rattle.structure.proofs.Stored.{held_rewind, rewind_shows, flag_shows}
use Rattle.structure.proofs.Link.{link_shows}
use Rattle.structure.proofs.Marked.{flag_is, shows_marked}
use Rattle.structure.proofs.Ring.{Strict}
use Rattle.structure.proofs.Dispose.{purge_shows}

-- ---- values
module _ (W : List ℤ) (n : ℕ) (v : Value) (h : n * 4 + 4 ≤ length W) where
  pub current_at : (m : ℕ) (f : ℕ → Value) → ((x : ℕ) → current_of W x ≡ f x) → current_of (set_current W n v) m ≡ up f n v m
  unfolding current_of set_current value_at set_value
  current_at m f k = up_by f n v (λ (z : Value). value (get_or (set W (n * 2 * 2) v.word) (m * 2 * 2) (pos 0)) ≡ z) m
      (λ e. ap (λ (x : ℕ). value (get_or (set W (n * 2 * 2) v.word) (x * 2 * 2) (pos 0))) e ∙ ap value (get_or-set_same W (n * 2 * 2) v.word (pos 0) (omega arith)))
      (λ e. ap value (get_or-set_other W (n * 2 * 2) (m * 2 * 2) v.word (pos 0) (λ q. e (omega arith))) ∙ k m)

  pub current_kept : (m : ℕ) → pending_of (set_current W n v) m ≡ pending_of W m
  unfolding pending_of set_current value_at set_value
  current_kept m = ap value (get_or-set_other W (n * 2 * 2) ((m * 2 + 1) * 2) v.word (pos 0) (λ q. omega arith))

  pub pending_at_lem : (m : ℕ) (f : ℕ → Value) → ((x : ℕ) → pending_of W x ≡ f x) → pending_of (set_pending W n v) m ≡ up f n v m
  unfolding pending_of set_pending value_at set_value
  pending_at_lem m f k = up_by f n v (λ (z : Value). value (get_or (set W ((n * 2 + 1) * 2) v.word) ((m * 2 + 1) * 2) (pos 0)) ≡ z) m
      (λ e. ap (λ (x : ℕ). value (get_or (set W ((n * 2 + 1) * 2) v.word) ((x * 2 + 1) * 2) (pos 0))) e ∙ ap value (get_or-set_same W ((n * 2 + 1) * 2) v.word (pos 0) (omega arith)))
      (λ e. ap value (get_or-set_other W ((n * 2 + 1) * 2) ((m * 2 + 1) * 2) v.word (pos 0) (λ q. e (omega arith))) ∙ k m)

  pub pending_kept : (m : ℕ) → current_of (set_pending W n v) m ≡ current_of W m
  unfolding current_of set_pending value_at set_value
  pending_kept m = ap value (get_or-set_other W ((n * 2 + 1) * 2) (m * 2 * 2) v.word (pos 0) (λ q. omega arith))

  pub current_long : length (set_current W n v) ≡ length W
  unfolding set_current set_value
  current_long = length-set W (n * 2 * 2) v.word

  pub pending_long : length (set_pending W n v) ≡ length W
  unfolding set_pending set_value
  pending_long = length-set W ((n * 2 + 1) * 2) v.word

module _ (ran : List ℕ) (t : Tab) (W C : List ℤ) (s : St) (n : ℕ) (v : Value) (w : Held s) (r : Shows ran t W C s) (low : n < s.size) where
  there : n * 4 + 4 ≤ length W
  there = let e = r.lengths.of_values in let f = w.fit in omega arith

  pub current_shows : Shows ran t (set_current W n v) C (set_sto s n v)
  current_shows = record {
    lengths = record { of_nodes = r.lengths.of_nodes; of_links = r.lengths.of_links; of_values = current_long W n v there ∙ r.lengths.of_values; of_cells = r.lengths.of_cells };
    registers = r.registers;
    kinds = r.kinds;
    flags = r.flags;
    values = record { current = λ m. current_at W n v there m s.sto r.values.current; pending = λ m. current_kept W n v there m ∙ r.values.pending m };
    forms = r.forms;
    slots = r.slots;
    deps = r.deps;
    subs = r.subs;
    free = r.free;
    queue = r.queue;
  }

  pub pending_shows : Shows ran t (set_pending W n v) C (set_pend s n v)
  pending_shows = record {
    lengths = record { of_nodes = r.lengths.of_nodes; of_links = r.lengths.of_links; of_values = pending_long W n v there ∙ r.lengths.of_values; of_cells = r.lengths.of_cells };
    registers = r.registers;
    kinds = r.kinds;
    flags = r.flags;
    values = record { current = λ m. pending_kept W n v there m ∙ r.values.current m; pending = λ m. pending_at_lem W n v there m s.pend r.values.pending };
    forms = r.forms;
    slots = r.slots;
    deps = r.deps;
    subs = r.subs;
    free = r.free;
    queue = r.queue;
  }

-- ---- the cycle
module _ (L : List ℕ) where
  cycle_link : (x f : ℕ) → link (raised L) x f ≡ link L x f
  unfolding raised
  cycle_link x f = field_after_header 8 L x f ((cycle_of L + 1) % 2 ^ 64) CYCLE (omega arith)

  cycle_ptr : (N : List ℕ) (f n g x : ℕ) → word_at N (raised L) f n g x ≡ word_at N L f n g x
  unfolding word_at
  cycle_ptr N f n g zero = refl
  cycle_ptr N f n g (suc x) = cycle_link x f

  cycle_free : (x : ℕ) → free_at (raised L) x ≡ free_at L x
  unfolding free_at raised
  cycle_free zero = get_or-set_other L CYCLE FREE ((cycle_of L + 1) % 2 ^ 64) 0 (λ q. omega arith)
  cycle_free (suc x) = cycle_link x NEXT-DEP

  cycle_live : (x : ℕ) → is_live_slot (raised L) x ≡ is_live_slot L x
  unfolding is_live_slot
  cycle_live x = ap (λ (z : ℕ). not (eqb z 0)) (cycle_link x LIVE)

  cycle_long : length (raised L) ≡ length L
  unfolding raised
  cycle_long = length-set L CYCLE ((cycle_of L + 1) % 2 ^ 64)

  cycle_now : 0 < length L → cycle_of (raised L) ≡ (cycle_of L + 1) % 2 ^ 64
  unfolding raised cycle_of
  cycle_now h = get_or-set_same L CYCLE ((get_or L CYCLE 0 + 1) % 2 ^ 64) 0 h

pub cycle_shows : (ran : List ℕ) (t : Tab) (W C : List ℤ) (s : St) → Shows ran t W C s → Shows ran (tab t.nodes (raised t.links)) W C (with_cycle s (raisedTo s.cycle))
cycle_shows ran t W C s r =
    let N = t.nodes in
    let L = t.links in
    let e = r.lengths.of_links in
    record {
      lengths = record { of_nodes = r.lengths.of_nodes; of_links = cycle_long L ∙ e; of_values = r.lengths.of_values; of_cells = r.lengths.of_cells };
      registers = record {
        count = r.registers.count;
        used = r.registers.used;
        depth = r.registers.depth;
        cycle = cycle_now L (omega arith) ∙ ap (λ (z : ℕ). (z + 1) % 2 ^ 64) r.registers.cycle;
      };
      kinds = r.kinds;
      flags = r.flags;
      values = r.values;
      forms = r.forms;
      slots = record {
        live = λ x. cycle_live L x ∙ r.slots.live x;
        dep = λ x. cycle_link L x DEP ∙ r.slots.dep x;
        sub = λ x. cycle_link L x SUB ∙ r.slots.sub x;
        ver = λ x. cycle_link L x VERSION ∙ r.slots.ver x;
      };
      deps = record {
        next = λ n h. chain_ext (word_at N L NEXT-DEP n DEPS) (word_at N (raised L) NEXT-DEP n DEPS) 0 (deps s n) (λ x. cycle_ptr L N NEXT-DEP n DEPS x) (r.deps.next n h);
        prev = λ n h. back_ext (λ x. link L x PREV-DEP) (λ x. link (raised L) x PREV-DEP) 0 (deps s n) (λ x. cycle_link L x PREV-DEP) (r.deps.prev n h);
        tail = r.deps.tail;
      };
      subs = record {
        next = λ n h. chain_ext (word_at N L NEXT-SUB n SUBS) (word_at N (raised L) NEXT-SUB n SUBS) 0 (s.subs n) (λ x. cycle_ptr L N NEXT-SUB n SUBS x) (r.subs.next n h);
        prev = λ n h. back_ext (λ x. link L x PREV-SUB) (λ x. link (raised L) x PREV-SUB) 0 (s.subs n) (λ x. cycle_link L x PREV-SUB) (r.subs.prev n h);
        tail = r.subs.tail;
      };
      free = chain_ext (free_at L) (free_at (raised L)) 0 s.free (cycle_free L) r.free;
      queue = r.queue;
    }

-- ---- tables of three parts
abbrev pub Sees : List ℕ → State → List ℤ → St → Type 0
Sees ran x C s = RepAfter ran x.nodes x.links x.values C s

-- and whether a value has changed
abbrev pub Tells : List ℕ → List ℤ → Told → Ans → Type 0
Tells ran C a b = (a.changed ≡ b.yes) × Sees ran a.after C b.st

-- the flags of a node
pub flags_are : (ran : List ℕ) (x : State) (C : List ℤ) (s : St) (n : ℕ) → Sees ran x C s → n < s.size → flags_of x.nodes n ≡ byte (s.fl n)
flags_are ran x C s n q h = flag_is ran x.nodes s s.fl s.queue (shows_marked ran (tab x.nodes x.links) x.values C s q) n h

held_as : (s : St) (n : ℕ) (F : Named) → Held s → Held (set_fl s n F)
held_as s n F w = record { lists = w.lists; fit = w.fit }

module _ (ran : List ℕ) (x : State) (C : List ℤ) (s : St) (n : ℕ) (w : Held s) (r : Sees ran x C s) (low : n < s.size) where
  abbrev t : Tab
  t = tab x.nodes x.links

  -- before an evaluation
  pub begun_first_sees : Sees ran (state (begun_first x.nodes n) x.links x.values) C (set_fl s n f5)
  unfolding begun_first named bit
  begun_first_sees = flag_shows ran t x.values C s n w r low 5 f5 refl refl

  -- a new cycle, and no dependency is reached yet; f is the byte of F
  pub begun_by : (f : ℕ) (F : Named) → f ≡ byte F → named (f % 256) ≡ F → Sees ran (state (set_flags (set_node x.nodes n DEPS-TAIL 0) n f) (raised x.links) x.values) C (set_fl (rewind (with_cycle s (raisedTo s.cycle)) n) n F)
  begun_by f F p q =
      let s₁ : St = with_cycle s (raisedTo s.cycle) in
      let w₁ : Held s₁ = record { lists = w.lists; fit = w.fit } in
      let r₁ : Shows ran (tab x.nodes (raised x.links)) x.values C s₁ = cycle_shows ran t x.values C s r in
      flag_shows ran (tab (set_node x.nodes n DEPS-TAIL 0) (raised x.links)) x.values C (rewind s₁ n) n (held_rewind s₁ n w₁) (rewind_shows ran (tab x.nodes (raised x.links)) x.values C s₁ n w₁ r₁ low) low f F p q

  pub begun_sees : Sees ran (begun x n) C (set_fl (rewind (with_cycle s (raisedTo s.cycle)) n) n f5)
  unfolding begun begun_first named bit
  begun_sees = begun_by 5 f5 refl refl

  -- after it: n has the flags 5
  pub finished_first_sees : (v : Value) → s.fl n ≡ f5 → Sees ran (finished_first x n v) C (set_fl (set_sto s n v) n f1)
  unfolding finished_first named bit
  finished_first_sees v e =
      let own : flags_of x.nodes n ≡ 5 = ap (λ (z : ℕ). z % 256) (r.flags.flag_word n low ∙ ap byte e) in
      subst (λ (z : ℕ). Sees ran (state (set_flags x.nodes n (without z recursed_checking)) x.links (set_current x.values n v)) C (set_fl (set_sto s n v) n f1)) (sym own)
      (flag_shows ran t (set_current x.values n v) C (set_sto s n v) n (record { lists = w.lists; fit = w.fit }) (current_shows ran t x.values C s n v w r low) low 1 f1 refl refl)

  -- and the dependencies that were not reached go
  pub finished_sees : (g : Given) (st : Static g) (X : Set) (v : Value) → s.fl n ≡ f5 → n < g.size → X n → ((m : ℕ) → Strict g st n m → X m → ⊥) → Inside g X (set_fl (set_sto s n v) n f1)
      → Sees ran (finished x n v).after C (purge (set_fl (set_sto s n v) n f1) n) × ((finished x n v).changed ≡ not (same (s.sto n) v))
  unfolding finished
  finished_sees g st X v e h xn apart i = (
    purge_shows g st ran (finished_first x n v).values C X n h xn apart (tab (finished_first x n v).nodes (finished_first x n v).links) (set_fl (set_sto s n v) n f1) i (finished_first_sees v e),
    ap (λ (z : Value). not (same z v)) (r.values.current n),
  )

  -- the pending value of a signal becomes the current one
  pub signal_sees : Sees ran (updated_signal x n).after C (upd_signal s n).st × ((updated_signal x n).changed ≡ (upd_signal s n).yes)
  unfolding updated_signal upd_signal named bit
  signal_sees = (
    subst (λ (z : Value). Sees ran (state (set_flags x.nodes n 1) x.links (set_current x.values n z)) C (set_sto (set_fl s n f1) n (s.pend n))) (sym (r.values.pending n))
        (current_shows ran (tab (set_flags x.nodes n 1) x.links) x.values C (set_fl s n f1) n (s.pend n) (held_as s n f1 w) (flag_shows ran t x.values C s n w r low 1 f1 refl refl) low),
    ap₂ (λ (p q : Value). not (same p q)) (r.values.current n) (r.values.pending n),
  )

-- u reads d in the cycle at hand
pub linked_sees : (ran : List ℕ) (x : State) (C : List ℤ) (s : St) (d u : ℕ) → Held s → Sees ran x C s → d < s.size → u < s.size
    → (goes_to s (last_of (s.done u)) d ≡ false → goes_to s (head_of (s.rest u)) d ≡ false → is_from s (last_of (s.subs d)) u s.cycle ≡ false → s.free ≡ [] → ⊥)
    → Sees ran (linked_to x d u) C (link_of s d u s.cycle)
unfolding linked_to
linked_sees ran x C s d u w r hd hu room =
    subst (λ (z : ℕ). Sees ran (state (linked (tab x.nodes x.links) d u z).nodes (linked (tab x.nodes x.links) d u z).links x.values) C (link_of s d u s.cycle)) (sym r.registers.cycle)
    (link_shows ran (tab x.nodes x.links) x.values C s d u s.cycle w r hd hu room)
