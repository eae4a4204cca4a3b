-- What of well-formedness the words of lists need, and the parts of a representation that a change leaves alone. Assumes nothing.
use Rattle.std.specs.Prelude.{Option}
use mathlib.Core.Path.{◌≡◌, refl, sym, ap, ap₂, ◌∙◌, subst}
use mathlib.Core.Bool.{Bool, true, false, not}
use mathlib.Core.List.{List, [], ◌∷◌}
use Prim.Native.Nat.{ℕ, zero, suc, ◌+◌, ◌*◌, ◌/◌, ◌%◌, ◌-◌, ◌<◌, ◌≤◌, min}
use native.Mathlib.Omega.{arith}
use lib.Dec.{eqb, leb}
use lib.IntN.{ℤ}
use lib.ListN.{length, get_or, take, drop}
use Rattle.flags.specs.declared.Named.{Named}
use Rattle.flags.specs.Flags.{named}
use Rattle.queue.specs.Queue.{count as counted, entry_at, entries, queue_of}
use Rattle.primitive.specs.Words.{COUNT, USED, DEPTH, QUEUE, FLAGS, KIND, GONE, START, CELLS, READS, OWNER, LEVEL, node}
use Rattle.trees.specs.Trees.{Tree}
use Rattle.telling.specs.Formulas.{own_cells}
use Rattle.telling.specs.Whole.{used_cells}
use Rattle.reading.specs.Tables.{cycle_of}
use Rattle.linking.specs.Table.{Tab}
use Rattle.linking.proofs.Untouched.{Untouched}
use Rattle.refusing.specs.Sight.{kind_of}
use Rattle.meaning.specs.State.{St, Kind, Room, deps}
use Rattle.meaning.specs.WellFormed.{Lists}
use Rattle.meaning.proofs.Still.{Given}
use Rattle.meaning.proofs.Inside.{Set, Static, Inside}
use Rattle.structure.specs.Rep.{Lengths, Registers, Kinds, Flags, Forms, Queues, RepAfter}
use Rattle.structure.proofs.Lens.{NodeIn, LinkIn}

-- ---- slots and lists, and a row for each node
pub record Held (s : St) : Type 0 where
  pub lists : Lists s.room.slots s.size s.free s.live s.dep s.sub (deps s) (λ u. []) s.subs
  pub fit : s.size ≤ s.room.nodes

pub inside_held : (g : Given) (X : Set) (s : St) → Static g → Inside g X s → Held s
inside_held g X s st i = record {
  lists = subst (λ (z : Given). Lists z.room.slots z.size s.free s.live s.dep s.sub (deps s) (λ u. []) s.subs) (sym i.same) i.lists;
  fit = subst (λ (z : Given). z.size ≤ z.room.nodes) (sym i.same) st.nodes_fit;
}

-- tables, in the two parts that links change
abbrev pub Shows : List ℕ → Tab → List ℤ → List ℤ → St → Type 0
Shows ran t W C s = RepAfter ran t.nodes t.links W C s

pub node_within : (N L : List ℕ) (W C : List ℤ) (s : St) (n : ℕ) → Lengths N L W C s.room → s.size ≤ s.room.nodes → n < s.size → NodeIn N n
node_within N L W C s n e h k = let q = e.of_nodes in omega arith

pub link_in : (N L : List ℕ) (W C : List ℤ) (s : St) (x : ℕ) → Lengths N L W C s.room → x < s.room.slots → LinkIn L x
link_in N L W C s x e k = let q = e.of_links in omega arith

-- the cells of a node, by where they start, how many they are, and how many are in use
abbrev cells_from : List ℤ → ℕ → ℕ → ℕ → List ℤ
cells_from C p q u = elim (leb (p + q) (length (take (u * 2) C) / 2)) [ true ↦ take (q * 2) (drop (p * 2) (take (u * 2) C)) | false ↦ [] ]

-- ---- parts that stay: M is the node table after
module _ (N M : List ℕ) where
  pub keep_kinds : (count : ℕ) (kinds : ℕ → Kind) (gones : ℕ → Bool) (owners : ℕ → Option ℕ) (levels : ℕ → ℕ)
      → ((n : ℕ) → node M n KIND ≡ node N n KIND) → ((n : ℕ) → node M n GONE ≡ node N n GONE) → ((n : ℕ) → node M n OWNER ≡ node N n OWNER) → ((n : ℕ) → node M n LEVEL ≡ node N n LEVEL)
      → Kinds N count kinds gones owners levels → Kinds M count kinds gones owners levels
  keep_kinds count kinds gones owners levels a b c d k = record {
    kind = λ n. ap kind_of (a n) ∙ k.kind n;
    gone = λ n. ap (λ (w : ℕ). not (eqb w 0)) (b n) ∙ k.gone n;
    owner = λ n. c n ∙ k.owner n;
    level = λ n. d n ∙ k.level n;
    kind_word_lem = λ n h. a n ∙ k.kind_word_lem n h;
    gone_word = λ n h. b n ∙ k.gone_word n h;
  }

  pub keep_flags : (count : ℕ) (fl : ℕ → Named) → ((n : ℕ) → node M n FLAGS ≡ node N n FLAGS) → Flags N count fl → Flags M count fl
  keep_flags count fl a k = record {
    flags = λ n. ap (λ (w : ℕ). named (w % 256)) (a n) ∙ k.flags n;
    flag_word = λ n h. a n ∙ k.flag_word n h;
  }

  pub keep_forms : (C : List ℤ) (count : ℕ) (kinds : ℕ → Kind) (form : ℕ → Tree)
      → ((n : ℕ) → node M n START ≡ node N n START) → ((n : ℕ) → node M n CELLS ≡ node N n CELLS) → ((n : ℕ) → node M n READS ≡ node N n READS) → get_or M USED 0 ≡ get_or N USED 0
      → Forms N C count kinds form → Forms M C count kinds form
  unfolding own_cells
  keep_forms C count kinds form a b c d k = record {
    spelt = λ n h q. let z = k.spelt n h q in record {
      inside = subst (λ (w : ℕ). node M n START + node M n CELLS ≤ w) (sym d) (subst (λ (w : ℕ). w + node M n CELLS ≤ get_or N USED 0) (sym (a n)) (subst (λ (w : ℕ). node N n START + w ≤ get_or N USED 0) (sym (b n)) z.inside));
      long = z.long ∙ sym (b n);
      words = same_cells n ∙ z.words;
      counted = c n ∙ z.counted;
    };
    without = k.without;
    past = k.past;
  }
    where
      same_cells : (n : ℕ) → own_cells M (used_cells M C) n ≡ own_cells N (used_cells N C) n
      same_cells n =
          ap (λ (x : ℕ). cells_from C x (node M n CELLS) (get_or M USED 0)) (a n) ∙ ap (λ (x : ℕ). cells_from C (node N n START) x (get_or M USED 0)) (b n)
          ∙ ap (cells_from C (node N n START) (node N n CELLS)) d

  same_entries : ((n : ℕ) → node M n QUEUE ≡ node N n QUEUE) → (i k : ℕ) → entries M i k ≡ entries N i k
  unfolding entries entry_at
  same_entries a i zero = refl
  same_entries a i (suc k) = ap₂ (λ (x : ℕ) (xs : List ℕ). x ∷ xs) (a i) (same_entries a (suc i) k)

  pub keep_queue : (ran queue : List ℕ) → length M ≡ length N → get_or M QUEUE 0 ≡ get_or N QUEUE 0 → ((n : ℕ) → node M n QUEUE ≡ node N n QUEUE) → Queues N ran queue → Queues M ran queue
  unfolding queue_of counted
  keep_queue ran queue e f a k = record {
    entries = same_entries a 0 (counted M) ∙ ap (entries N 0) (ap₂ (λ (x y : ℕ). min x (y / 16 - 1)) f e) ∙ k.entries;
    waiting = f ∙ k.waiting;
  }

-- ---- what links leave alone
module _ (t u : Tab) (k : Untouched t u) where
  pub same_lengths : (W C : List ℤ) (room : Room) → Lengths t.nodes t.links W C room → Lengths u.nodes u.links W C room
  same_lengths W C room e = record { of_nodes = k.nodes_long ∙ e.of_nodes; of_links = k.links_long ∙ e.of_links; of_values = e.of_values; of_cells = e.of_cells }

  pub same_registers : (a b c d : ℕ) → Registers t.nodes t.links a b c d → Registers u.nodes u.links a b c d
  unfolding cycle_of
  same_registers a b c d e = record {
    count = k.header COUNT (omega arith) ∙ e.count;
    used = k.header USED (omega arith) ∙ e.used;
    depth = k.header DEPTH (omega arith) ∙ e.depth;
    cycle = k.cycle ∙ e.cycle;
  }

  pub same_kinds : (count : ℕ) (kinds : ℕ → Kind) (gones : ℕ → Bool) (owners : ℕ → Option ℕ) (levels : ℕ → ℕ) → ((n : ℕ) → node u.nodes n GONE ≡ node t.nodes n GONE)
      → Kinds t.nodes count kinds gones owners levels → Kinds u.nodes count kinds gones owners levels
  same_kinds count kinds gones owners levels b e =
      keep_kinds t.nodes u.nodes count kinds gones owners levels k.kind b (λ n. k.rest n OWNER (omega arith)) (λ n. k.rest n LEVEL (omega arith)) e

  pub same_forms : (C : List ℤ) (count : ℕ) (kinds : ℕ → Kind) (form : ℕ → Tree) → Forms t.nodes C count kinds form → Forms u.nodes C count kinds form
  same_forms C count kinds form e =
      keep_forms t.nodes u.nodes C count kinds form (λ n. k.rest n START (omega arith)) (λ n. k.rest n CELLS (omega arith)) (λ n. k.rest n READS (omega arith)) (k.header USED (omega arith)) e

  pub same_queue : (ran queue : List ℕ) → Queues t.nodes ran queue → Queues u.nodes ran queue
  same_queue ran queue e = keep_queue t.nodes u.nodes ran queue k.nodes_long (k.header QUEUE (omega arith)) (λ n. k.rest n QUEUE (omega arith)) e
