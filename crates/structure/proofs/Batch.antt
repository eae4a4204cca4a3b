-- Batches over words are the list operations. Assumes nothing.
use mathlib.Core.Path.{◌≡◌, refl, sym, ◌∙◌, subst}
use mathlib.Core.Bool.{Bool, true, false}
use mathlib.Core.List.{List, []}
use Prim.Native.Nat.{ℕ, zero, suc, ◌-◌, ◌<◌}
use native.Mathlib.Omega.{arith}
use lib.Dec.{eqb, ltb}
use lib.IntN.{ℤ}
use lib.ListN.{get_or, set, length-set}
use lib.Seq.{get_or-set_same, get_or-set_other}
use borrow.Author.Tests.{eq-eqb, ne_eqb, lt-ltb}
use Rattle.primitive.specs.Words.{COUNT, USED, DEPTH, QUEUE, FLAGS, KIND, GONE, START, CELLS, READS, OWNER, LEVEL, DEPS, DEPS-TAIL, SUBS, SUBS-TAIL, NEXT-DEP, NEXT-SUB, node}
use Rattle.primitive.proofs.RowLaws.{field_after_header}
use Rattle.linking.specs.Table.{Tab, tab}
use Rattle.reading.specs.Tables.{State, state}
use Rattle.operating.specs.Log.{Ran, ran_to}
use Rattle.operating.specs.Batches.{most_depth, depth_of, started, flushed_at, ended_batch}
use Rattle.meaning.specs.State.{St, deps}
use Rattle.meaning.specs.Setters.{with_depth}
use Rattle.meaning.specs.Links.{stop}
use Rattle.meaning.specs.Engine.{flush_at, start, end_at}
use Rattle.meaning.proofs.Still.{Given}
use Rattle.meaning.proofs.Inside.{nobody, Static, Inside}
use Rattle.meaning.proofs.Frames.{others}
use Rattle.structure.specs.Rep.{word_at}
use Rattle.structure.proofs.Stated.{relogged}
use Rattle.structure.proofs.Chained.{chain_ext}
use Rattle.structure.proofs.Lens.{ptr}
use Rattle.structure.proofs.Held.{Shows, keep_kinds, keep_flags, keep_forms, keep_queue}
use Rattle.structure.proofs.Steps.{Sees}
use Rattle.structure.proofs.LogRows.{quiet_leaves}
use Rattle.structure.proofs.Writes.{LeavesIf, flush_at_lem}

-- ---- another depth
module _ (ran : List ℕ) (t : Tab) (W C : List ℤ) (s : St) (d : ℕ) (r : Shows ran t W C s) where
  abbrev N : List ℕ
  N = t.nodes

  abbrev M : List ℕ
  M = set N DEPTH d

  same : (n f : ℕ) → node M n f ≡ node N n f
  same n f = field_after_header 16 N n f d DEPTH (omega arith)

  head : (i : ℕ) → (i ≡ DEPTH → ⊥) → get_or M i 0 ≡ get_or N i 0
  head i h = get_or-set_other N DEPTH i d 0 h

  same_ptr : (f n g x : ℕ) → ptr (tab M t.links) f n g x ≡ ptr t f n g x
  unfolding word_at
  same_ptr f n g zero = same n g
  same_ptr f n g (suc x) = refl

  pub depth_shows : Shows ran (tab M t.links) W C (with_depth s d)
  depth_shows =
      let e = r.lengths.of_nodes in
      record {
        lengths = record { of_nodes = length-set N DEPTH d ∙ e; of_links = r.lengths.of_links; of_values = r.lengths.of_values; of_cells = r.lengths.of_cells };
        registers = record {
          count = head COUNT (λ q. omega arith) ∙ r.registers.count;
          used = head USED (λ q. omega arith) ∙ r.registers.used;
          depth = get_or-set_same N DEPTH d 0 (omega arith);
          cycle = r.registers.cycle;
        };
        kinds = keep_kinds N M _ _ _ _ _ (λ n. same n KIND) (λ n. same n GONE) (λ n. same n OWNER) (λ n. same n LEVEL) r.kinds;
        flags = keep_flags N M _ _ (λ n. same n FLAGS) r.flags;
        values = r.values;
        forms = keep_forms N M C _ _ _ (λ n. same n START) (λ n. same n CELLS) (λ n. same n READS) (head USED (λ q. omega arith)) r.forms;
        slots = r.slots;
        deps = record {
          next = λ n h. chain_ext (ptr t NEXT-DEP n DEPS) (ptr (tab M t.links) NEXT-DEP n DEPS) 0 (deps s n) (λ x. same_ptr NEXT-DEP n DEPS x) (r.deps.next n h);
          prev = r.deps.prev;
          tail = λ n h. same n DEPS-TAIL ∙ r.deps.tail n h;
        };
        subs = record {
          next = λ n h. chain_ext (ptr t NEXT-SUB n SUBS) (ptr (tab M t.links) NEXT-SUB n SUBS) 0 (s.subs n) (λ x. same_ptr NEXT-SUB n SUBS x) (r.subs.next n h);
          prev = r.subs.prev;
          tail = λ n h. same n SUBS-TAIL ∙ r.subs.tail n h;
        };
        free = r.free;
        queue = keep_queue N M ran _ (length-set N DEPTH d) (head QUEUE (λ q. omega arith)) (λ n. same n QUEUE) r.queue;
      }

-- ---- a batch starts, below the greatest depth
pub start_sees : (ran : List ℕ) (x : State) (C : List ℤ) (s : St) → Sees ran x C s → s.depth < most_depth → Sees ran (state (started x.nodes) x.links x.values) C (start s)
unfolding started
start_sees ran x C s r h =
    let e : depth_of x.nodes ≡ s.depth = r.registers.depth in
    subst (λ (d : ℕ). Sees ran (state (elim (ltb d most_depth) [ true ↦ set x.nodes DEPTH (suc d) | false ↦ x.nodes ]) x.links x.values) C (start s)) (sym e)
    (subst (λ (b : Bool). Sees ran (state (elim b [ true ↦ set x.nodes DEPTH (suc s.depth) | false ↦ x.nodes ]) x.links x.values) C (start s)) (sym (lt-ltb s.depth most_depth h))
    (depth_shows ran (tab x.nodes x.links) x.values C s (suc s.depth) r))

-- ---- a batch ends
module _ (g : Given) (st : Static g) (C : List ℤ) (l : List ℤ) (x : State) (s : St) (i : Inside g nobody s) (q : s.stuck ≡ false) (blank : s.log ≡ []) (r : Sees [] x C s) where
  abbrev If : Ran → St → Type 0
  If a t = LeavesIf g st C l a t

  ended : (d : ℕ) → If (flushed_at C (state (set x.nodes DEPTH d) x.links x.values) l d) (flush_at (with_depth s d) d)
  ended d =
      flush_at_lem g st C l (state (set x.nodes DEPTH d) x.links x.values) (with_depth s d) d
      (others g nobody s i s.cycle s.sto s.pend d s.log s.stuck) q blank (depth_shows [] (tab x.nodes x.links) x.values C s d r)

  pub end_leaves : If (ended_batch C x l) (end_at s s.depth)
  unfolding ended_batch
  end_leaves = subst (λ (d : ℕ). If (by d (eqb d 0)) (end_at s s.depth)) (sym r.registers.depth) (go s.depth)
    where
      by : ℕ → Bool → Ran
      by d b = elim b [ true ↦ ran_to x l 0 | false ↦ flushed_at C (state (set x.nodes DEPTH (d - 1)) x.links x.values) l (d - 1) ]

      less : (d : ℕ) → suc d - 1 ≡ d
      less d = omega arith

      -- one batch less
      inner : (d : ℕ) → If (by (suc d) (eqb (suc d) 0)) (flush_at (with_depth s d) d)
      inner d =
          subst (λ (b : Bool). If (by (suc d) b) (flush_at (with_depth s d) d)) (sym (ne_eqb (suc d) 0 (λ z. omega arith)))
          (subst (λ (z : ℕ). If (flushed_at C (state (set x.nodes DEPTH z) x.links x.values) l z) (flush_at (with_depth s d) d)) (sym (less d)) (ended d))

      -- that it is stuck is in no table
      go : (d : ℕ) → If (by d (eqb d 0)) (end_at s d)
      go zero = subst (λ (b : Bool). If (by 0 b) (stop s)) (sym (eq-eqb 0 0 refl)) (λ fit. quiet_leaves l C x (stop s) blank (relogged [] x.nodes x.links x.values C s s.log true r))
      go (suc zero) = inner 0
      go (suc (suc d)) = inner (suc d)
