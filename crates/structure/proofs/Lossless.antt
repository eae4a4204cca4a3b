-- Reading loses nothing: tables that represent one well-formed state agree in every word that has a meaning. Assumes nothing.
use mathlib.Core.Path.{◌≡◌, sym, ap, ◌∙◌, subst}
use mathlib.Core.Bool.{true}
use mathlib.Core.List.{List}
use Prim.Native.Nat.{ℕ, suc, ◌<◌}
use native.Mathlib.Omega.{arith}
use lib.IntN.{ℤ}
use lib.ListN.{get_or}
use Rattle.primitive.specs.Words.{COUNT, DEPS, SUBS, NEXT-SUB, NEXT-DEP, PREV-SUB, PREV-DEP, node, link}
use Rattle.reading.specs.Tables.{cycle_of}
use Rattle.meaning.specs.State.{St, deps}
use Rattle.meaning.specs.WellFormed.{In, WellFormed}
use Rattle.commanding.specs.Tables.{well_formed_in}
use Rattle.structure.specs.Rep.{has_form, word_at, free_at, Rep}
use Rattle.structure.specs.Reading.{state_in}
use Rattle.structure.specs.Alike.{SameLengths, SameNode, SameFormula, SameSlot, Alike}
use Rattle.structure.proofs.ChainLaws.{chain_agree, back_agree}
use Rattle.structure.proofs.Stated.{slots_is}
use Rattle.structure.proofs.Exact.{accepted_represents, accepted_well_formed}

module _ (N L : List ℕ) (W C : List ℤ) (N' L' : List ℕ) (W' C' : List ℤ) (s : St) (r : Rep N L W C s) (q : Rep N' L' W' C' s) (w : WellFormed s) where
  below : (n : ℕ) → n < get_or N COUNT 0 → n < s.size
  below n h = let e = r.registers.count in omega arith

  deps_agree : (n : ℕ) → n < s.size → (node N n DEPS ≡ node N' n DEPS) × ((x : ℕ) → In x (deps s n) → link L x NEXT-DEP ≡ link L' x NEXT-DEP)
  unfolding word_at
  deps_agree n h = chain_agree (word_at N L NEXT-DEP n DEPS) (word_at N' L' NEXT-DEP n DEPS) 0 (deps s n) (r.deps.next n h) (q.deps.next n h)

  subs_agree : (n : ℕ) → n < s.size → (node N n SUBS ≡ node N' n SUBS) × ((x : ℕ) → In x (s.subs n) → link L x NEXT-SUB ≡ link L' x NEXT-SUB)
  unfolding word_at
  subs_agree n h = chain_agree (word_at N L NEXT-SUB n SUBS) (word_at N' L' NEXT-SUB n SUBS) 0 (s.subs n) (r.subs.next n h) (q.subs.next n h)

  free_agree : (free_at L 0 ≡ free_at L' 0) × ((x : ℕ) → In x s.free → free_at L (suc x) ≡ free_at L' (suc x))
  free_agree = chain_agree (free_at L) (free_at L') 0 s.free r.free q.free

  same_node : (n : ℕ) → n < s.size → SameNode N N' n
  same_node n h = record {
    flags = r.flags.flag_word n h ∙ sym (q.flags.flag_word n h);
    kind = r.kinds.kind_word_lem n h ∙ sym (q.kinds.kind_word_lem n h);
    gone = r.kinds.gone_word n h ∙ sym (q.kinds.gone_word n h);
    deps = (deps_agree n h).0;
    deps_tail_lem = r.deps.tail n h ∙ sym (q.deps.tail n h);
    subs = (subs_agree n h).0;
    subs_tail = r.subs.tail n h ∙ sym (q.subs.tail n h);
    owner = r.kinds.owner n ∙ sym (q.kinds.owner n);
    level = r.kinds.level n ∙ sym (q.kinds.level n);
  }

  same_formula : (n : ℕ) → n < s.size → has_form (s.kind n) ≡ true → SameFormula N N' C C' n
  same_formula n h e =
      let a = r.forms.spelt n h e in
      let b = q.forms.spelt n h e in
      record { long = sym a.long ∙ b.long; reads = a.counted ∙ sym b.counted; words = a.words ∙ sym b.words }

  same_slot : (x : ℕ) → s.live x ≡ true → SameSlot L L' x
  same_slot x v =
      let d = (w.lists.inside x v).0 in
      let u = (w.lists.inside x v).1 in
      let i = w.lists.live_in_subs x v in
      let j = w.lists.live_in_deps x v in
      record {
        version = r.slots.ver x ∙ sym (q.slots.ver x);
        dep = r.slots.dep x ∙ sym (q.slots.dep x);
        sub = r.slots.sub x ∙ sym (q.slots.sub x);
        prev_sub_lem = back_agree (λ (y : ℕ). link L y PREV-SUB) (λ (y : ℕ). link L' y PREV-SUB) 0 (s.subs (s.dep x)) (r.subs.prev (s.dep x) d) (q.subs.prev (s.dep x) d) x i;
        next_sub = (subs_agree (s.dep x) d).1 x i;
        prev_dep_lem = back_agree (λ (y : ℕ). link L y PREV-DEP) (λ (y : ℕ). link L' y PREV-DEP) 0 (deps s (s.sub x)) (r.deps.prev (s.sub x) u) (q.deps.prev (s.sub x) u) x j;
        next_dep_lem = (deps_agree (s.sub x) u).1 x j;
      }

  pub loses_nothing : Alike N L W C N' L' W' C'
  unfolding free_at cycle_of
  loses_nothing = record {
    count = r.registers.count ∙ sym q.registers.count;
    used = r.registers.used ∙ sym q.registers.used;
    depth = r.registers.depth ∙ sym q.registers.depth;
    waiting = r.queue.waiting ∙ sym q.queue.waiting;
    queue = r.queue.entries ∙ sym q.queue.entries;
    cycle = r.registers.cycle ∙ sym q.registers.cycle;
    free = free_agree.0;
    nodes = λ n h. same_node n (below n h);
    formulas = λ n h e. same_formula n (below n h) (sym (ap has_form (r.kinds.kind n)) ∙ e);
    current = λ n. r.values.current n ∙ sym (q.values.current n);
    pending = λ n. r.values.pending n ∙ sym (q.values.pending n);
    live = λ x. r.slots.live x ∙ sym (q.slots.live x);
    slots = λ x v. same_slot x (sym (r.slots.live x) ∙ v);
    next_free = λ x h v. free_agree.1 x (w.lists.free_or_live x (let e = slots_is N L W C s r w in omega arith) (sym (r.slots.live x) ∙ v));
  }

  pub same_lengths : SameLengths N L W C N' L' W' C'
  same_lengths = record {
    of_nodes = r.lengths.of_nodes ∙ sym q.lengths.of_nodes;
    of_links = r.lengths.of_links ∙ sym q.lengths.of_links;
    of_values = r.lengths.of_values ∙ sym q.lengths.of_values;
    of_cells = r.lengths.of_cells ∙ sym q.lengths.of_cells;
  }

-- so tables that the test passes, read as one state, are alike
pub read_loses_nothing : (N L : List ℕ) (W C : List ℤ) (N' L' : List ℕ) (W' C' : List ℤ) → well_formed_in N L W C ≡ true → well_formed_in N' L' W' C' ≡ true
    → state_in N L W C ≡ state_in N' L' W' C' → SameLengths N L W C N' L' W' C' × Alike N L W C N' L' W' C'
read_loses_nothing N L W C N' L' W' C' a b e =
    let r = accepted_represents N L W C a in
    let q = subst (λ (s : St). Rep N' L' W' C' s) (sym e) (accepted_represents N' L' W' C' b) in
    let w = accepted_well_formed N L W C a in
    (same_lengths N L W C N' L' W' C' (state_in N L W C) r q w, loses_nothing N L W C N' L' W' C' (state_in N L W C) r q w)
