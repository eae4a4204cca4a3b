-- The node table as the walks change it: flags and the queue. What else it says stays. Assumes nothing.
use mathlib.Core.Path.{◌≡◌, refl, sym, ap, ◌∙◌}
use mathlib.Core.Bool.{Bool, false}
use mathlib.Core.List.{List, [], ◌∷◌}
use Prim.Native.Nat.{ℕ, zero, suc, ◌*◌, ◌%◌, ◌<◌, ◌≤◌}
use native.Mathlib.Omega.{arith}
use lib.Dec.{eqb}
use lib.IntN.{ℤ}
use lib.ListN.{length, get_or}
use Rattle.flags.specs.declared.Named.{Named}
use Rattle.flags.specs.Flags.{named}
use Rattle.primitive.specs.Rows.{has_field, field}
use Rattle.primitive.specs.Words.{COUNT, USED, DEPTH, QUEUE, FLAGS, KIND, GONE, START, CELLS, READS, OWNER, LEVEL, DEPS, DEPS-TAIL, SUBS, SUBS-TAIL, NEXT-DEP, NEXT-SUB, node}
use Rattle.primitive.proofs.RowLaws.{other_record, other_field, length-set_field, header_kept}
use Rattle.linking.specs.Table.{Tab, tab}
use Rattle.marking.specs.Fields.{flags_of, set_flags, next_sub_of}
use Rattle.meaning.specs.State.{St, up, deps}
use Rattle.meaning.specs.Setters.{with_fl, with_queue, with_stuck}
use Rattle.meaning.specs.Played.{byte}
use Rattle.meaning.proofs.Laws.{up_by}
use Rattle.structure.specs.Chains.{first_word, Chain}
use Rattle.structure.specs.Rep.{word_at, Flags, Queues, RepAfter}
use Rattle.structure.proofs.Chained.{chain_at, chain_ext}
use Rattle.structure.proofs.Lens.{ptr, NodeIn, node_same}
use Rattle.structure.proofs.Held.{Shows, keep_kinds, keep_forms, keep_queue}
use Rattle.structure.proofs.FlagBytes.{byte_mod, named_byte}

pub record Marked (ran : List ℕ) (N : List ℕ) (s : St) (f : ℕ → Named) (q : List ℕ) : Type 0 where
  pub flags : Flags N s.size f
  pub queue : Queues N ran q
  pub heads : (n : ℕ) → n < s.size → node N n SUBS ≡ first_word (s.subs n)
  pub long : length N ≡ suc s.room.nodes * 16

-- along the next words of subscribers
abbrev pub Along : List ℕ → List ℕ → Type 0
Along L [] = Unit {0}
Along L (x ∷ xs) = (next_sub_of L x ≡ first_word xs) × Along L xs

pub chain_along : (L : List ℕ) (N : ℕ → ℕ) (p : ℕ) (xs : List ℕ) → ((x : ℕ) → N (suc x) ≡ next_sub_of L x) → Chain N p xs → Along L xs
chain_along L N p [] h c = tt
chain_along L N p (x ∷ xs) h c = (sym (h x) ∙ chain_at N (suc x) [] xs c.1, chain_along L N (suc x) xs h c.1)

pub subs_along : (ran N L : List ℕ) (W C : List ℤ) (s : St) (d : ℕ) → RepAfter ran N L W C s → d < s.size → Along L (s.subs d)
unfolding word_at
subs_along ran N L W C s d r h = chain_along L (word_at N L NEXT-SUB d SUBS) 0 (s.subs d) (λ x. refl) (r.subs.next d h)

module _ (ran : List ℕ) (N : List ℕ) (s : St) (f : ℕ → Named) (q : List ℕ) (m : Marked ran N s f q) where
  pub flag_is : (n : ℕ) → n < s.size → flags_of N n ≡ byte (f n)
  flag_is n h = ap (λ (z : ℕ). z % 256) (m.flags.flag_word n h) ∙ byte_mod (f n)

  pub row_in : (n : ℕ) → n < s.size → s.size ≤ s.room.nodes → NodeIn N n
  row_in n h k = let e = m.long in omega arith

  -- a node has other flags
  pub mark_flag : (n g : ℕ) (G : Named) → n < s.size → s.size ≤ s.room.nodes → g ≡ byte G → Marked ran (set_flags N n g) s (up f n G) q
  unfolding has_field
  mark_flag n g G h k e =
      let own : node (set_flags N n g) n FLAGS ≡ g = node_same N n FLAGS g refl (row_in n h k) in
      record {
        flags = record {
          flags = λ x. up_by f n G (λ (z : Named). named (node (set_flags N n g) x FLAGS % 256) ≡ z) x
              (λ z. ap (λ (y : ℕ). named (node (set_flags N n g) y FLAGS % 256)) z ∙ ap (λ (y : ℕ). named (y % 256)) (own ∙ e) ∙ named_byte G)
              (λ z. ap (λ (y : ℕ). named (y % 256)) (other_record 16 N n x FLAGS FLAGS g z) ∙ m.flags.flags x);
          flag_word = λ x l. up_by f n G (λ (z : Named). node (set_flags N n g) x FLAGS ≡ byte z) x
              (λ z. ap (λ (y : ℕ). node (set_flags N n g) y FLAGS) z ∙ own ∙ e) (λ z. other_record 16 N n x FLAGS FLAGS g z ∙ m.flags.flag_word x l);
        };
        queue = keep_queue N (set_flags N n g) ran q (length-set_field 16 N n FLAGS g) (header_kept 16 N n FLAGS g QUEUE (omega arith)) (λ x. other_field 16 N n x FLAGS QUEUE g refl) m.queue;
        heads = λ x l. other_field 16 N n x FLAGS SUBS g refl ∙ m.heads x l;
        long = length-set_field 16 N n FLAGS g ∙ m.long;
      }

-- ---- to and from a representation
pub shows_marked : (ran : List ℕ) (t : Tab) (W C : List ℤ) (s : St) → Shows ran t W C s → Marked ran t.nodes s s.fl s.queue
unfolding word_at
shows_marked ran t W C s r = record {
  flags = r.flags;
  queue = r.queue;
  heads = λ n h. chain_at (ptr t NEXT-SUB n SUBS) 0 [] (s.subs n) (r.subs.next n h);
  long = r.lengths.of_nodes;
}

-- M is the node table after
pub record Kept (N M : List ℕ) : Type 0 where
  pub column : (n f : ℕ) → eqb f 0 ≡ false → eqb f 12 ≡ false → field 16 M n f ≡ field 16 N n f
  pub header : (i : ℕ) → i < 16 → eqb i 12 ≡ false → get_or M i 0 ≡ get_or N i 0
  pub long : length M ≡ length N

pub marked_shows : (old ran : List ℕ) (t : Tab) (M : List ℕ) (W C : List ℤ) (s : St) (f : ℕ → Named) (q : List ℕ) (b : Bool) → Shows old t W C s → Kept t.nodes M → Marked ran M s f q
    → Shows ran (tab M t.links) W C (with_stuck (with_queue (with_fl s f) q) b)
unfolding word_at
marked_shows old ran t M W C s f q b r k m = record {
  lengths = record { of_nodes = m.long; of_links = r.lengths.of_links; of_values = r.lengths.of_values; of_cells = r.lengths.of_cells };
  registers = record {
    count = k.header COUNT (omega arith) refl ∙ r.registers.count;
    used = k.header USED (omega arith) refl ∙ r.registers.used;
    depth = k.header DEPTH (omega arith) refl ∙ r.registers.depth;
    cycle = r.registers.cycle;
  };
  kinds = keep_kinds t.nodes M _ _ _ _ _ (λ n. k.column n KIND refl refl) (λ n. k.column n GONE refl refl) (λ n. k.column n OWNER refl refl) (λ n. k.column n LEVEL refl refl) r.kinds;
  flags = m.flags;
  values = r.values;
  forms = keep_forms t.nodes M C _ _ _ (λ n. k.column n START refl refl) (λ n. k.column n CELLS refl refl) (λ n. k.column n READS refl refl) (k.header USED (omega arith) refl) r.forms;
  slots = r.slots;
  deps = record {
    next = λ n h. chain_ext (ptr t NEXT-DEP n DEPS) (ptr (tab M t.links) NEXT-DEP n DEPS) 0 (deps s n) (λ x. same NEXT-DEP n DEPS x refl refl) (r.deps.next n h);
    prev = r.deps.prev;
    tail = λ n h. k.column n DEPS-TAIL refl refl ∙ r.deps.tail n h;
  };
  subs = record {
    next = λ n h. chain_ext (ptr t NEXT-SUB n SUBS) (ptr (tab M t.links) NEXT-SUB n SUBS) 0 (s.subs n) (λ x. same NEXT-SUB n SUBS x refl refl) (r.subs.next n h);
    prev = r.subs.prev;
    tail = λ n h. k.column n SUBS-TAIL refl refl ∙ r.subs.tail n h;
  };
  free = r.free;
  queue = m.queue;
}
  where
    same : (g n h x : ℕ) → eqb h 0 ≡ false → eqb h 12 ≡ false → ptr (tab M t.links) g n h x ≡ ptr t g n h x
    same g n h zero a c = k.column n h a c
    same g n h (suc x) a c = refl
