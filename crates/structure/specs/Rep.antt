-- Lent tables represent a state of `meaning`: an equation for each word that says something. N, L are the node and the link table, W the values, C the cells.
-- A part speaks of the columns that it names, so that a change of any other column leaves it as it is. The log and `stuck` are in no table.
use Rattle.std.specs.Prelude.{◌≡◌, Bool, true, false, not, List, [], ◌++◌, ℕ, zero, suc, ◌+◌, ◌*◌, ◌<◌, ◌≤◌, eqb, ℤ, pos, length, get_or, Option, None, Some}
use Rattle.flags.specs.declared.Named.{Named}
use Rattle.values.specs.declared.Value.{Value}
use Rattle.flags.specs.Flags.{named}
use Rattle.queue.specs.Queue.{queue_of}
use Rattle.primitive.specs.Words.{NODE, LINK, COUNT, USED, DEPTH, QUEUE, FLAGS, KIND, GONE, START, CELLS, READS, OWNER, LEVEL, VERSION, DEP, SUB, NEXT-DEP, FREE, SIGNAL, COMPUTED, EFFECT, SCOPE, node, link}
use Rattle.trees.specs.Trees.{Tree, constant, written, size, names}
use Rattle.linking.specs.Free.{is_live_slot}
use Rattle.marking.specs.Fields.{flags_of}
use Rattle.reading.specs.Tables.{current_of, pending_of, cycle_of}
use Rattle.telling.specs.Formulas.{own_cells}
use Rattle.telling.specs.Whole.{used_cells}
use Rattle.lists.specs.Sum.{bit}
use Rattle.resting.specs.declared.linked.Side.{Side}
use Rattle.resting.specs.Linked.{subscribers, dependencies}
use Rattle.meaning.specs.State.{St, Kind, signal, computed, effect, scope, Room, deps}
use Rattle.meaning.specs.Played.{byte}
use Rattle.refusing.specs.Sight.{kind_of}
use Rattle.structure.specs.Chains.{last_word, Chain, Back}

-- ---- lengths: a header row and a row for each node or slot; two values of two words for each node; cells of two words
pub record Lengths (N L : List ℕ) (W C : List ℤ) (room : Room) : Type 0 where
  pub of_nodes : length N ≡ suc room.nodes * NODE
  pub of_links : length L ≡ suc room.slots * LINK
  pub of_values : length W ≡ room.nodes * 4
  pub of_cells : length C ≡ room.cells * 2

-- ---- words of the header rows
pub record Registers (N L : List ℕ) (nodes cells batches evaluations : ℕ) : Type 0 where
  pub count : get_or N COUNT 0 ≡ nodes
  pub used : get_or N USED 0 ≡ cells
  pub depth : get_or N DEPTH 0 ≡ batches
  pub cycle : cycle_of L ≡ evaluations

-- ---- words of a node. What the words past the last node say is read too, so that columns are read whole; only below it a word must be the one that says it
abbrev pub kind_word : Kind → ℕ
kind_word signal = SIGNAL
kind_word computed = COMPUTED
kind_word effect = EFFECT
kind_word scope = SCOPE

-- 0 if there is none, else the owner's number and 1
abbrev pub owner_word : Option ℕ → ℕ
owner_word None = 0
owner_word (Some o) = suc o

pub record Kinds (N : List ℕ) (count : ℕ) (kinds : ℕ → Kind) (gones : ℕ → Bool) (owners : ℕ → Option ℕ) (levels : ℕ → ℕ) : Type 0 where
  pub kind : (n : ℕ) → kind_of (node N n KIND) ≡ kinds n
  pub gone : (n : ℕ) → not (eqb (node N n GONE) 0) ≡ gones n
  pub owner : (n : ℕ) → node N n OWNER ≡ owner_word (owners n)
  pub level : (n : ℕ) → node N n LEVEL ≡ levels n
  pub kind_word_lem : (n : ℕ) → n < count → node N n KIND ≡ kind_word (kinds n)
  pub gone_word : (n : ℕ) → n < count → node N n GONE ≡ bit (gones n)

pub record Flags (N : List ℕ) (count : ℕ) (fl : ℕ → Named) : Type 0 where
  pub flags : (n : ℕ) → named (flags_of N n) ≡ fl n
  pub flag_word : (n : ℕ) → n < count → node N n FLAGS ≡ byte (fl n)

-- current, and of a signal pending
pub record Values (W : List ℤ) (sto pend : ℕ → Value) : Type 0 where
  pub current : (n : ℕ) → current_of W n ≡ sto n
  pub pending : (n : ℕ) → pending_of W n ≡ pend n

-- ---- formulas
-- computeds and effects have one
abbrev pub has_form : Kind → Bool
has_form signal = false
has_form computed = true
has_form effect = true
has_form scope = false

-- the tree t is written out in the cells of node n, which lie among the cells in use
pub record Spelt (N : List ℕ) (C : List ℤ) (n : ℕ) (t : Tree) : Type 0 where
  pub inside : node N n START + node N n CELLS ≤ get_or N USED 0
  pub long : size t ≡ node N n CELLS
  pub words : own_cells N (used_cells N C) n ≡ written t
  pub counted : node N n READS ≡ length (names t)

pub record Forms (N : List ℕ) (C : List ℤ) (count : ℕ) (kinds : ℕ → Kind) (form : ℕ → Tree) : Type 0 where
  pub spelt : (n : ℕ) → n < count → has_form (kinds n) ≡ true → Spelt N C n (form n)
  pub without : (n : ℕ) → n < count → has_form (kinds n) ≡ false → form n ≡ constant (pos 0)
  pub past : (n : ℕ) → count ≤ n → form n ≡ constant (pos 0)

-- ---- words of a slot, live or not
pub record Slots (L : List ℕ) (lives : ℕ → Bool) (deps subs vers : ℕ → ℕ) : Type 0 where
  pub live : (x : ℕ) → is_live_slot L x ≡ lives x
  pub dep : (x : ℕ) → link L x DEP ≡ deps x
  pub sub : (x : ℕ) → link L x SUB ≡ subs x
  pub ver : (x : ℕ) → link L x VERSION ≡ vers x

-- ---- lists
-- field f of the slot that a word names, and of nothing field g of node n: so a list's head is the next word of nothing
unfoldable pub word_at : List ℕ → List ℕ → ℕ → ℕ → ℕ → ℕ → ℕ
word_at N L f n g zero = node N n g
word_at N L f n g (suc x) = link L x f

-- one side of every node: the slots of its list, and up to its tail, which of dependencies is the cursor
pub record Strung (N L : List ℕ) (count : ℕ) (side : Side) (up_to all : ℕ → List ℕ) : Type 0 where
  pub next : (n : ℕ) → n < count → Chain (word_at N L side.next n side.head) 0 (all n)
  pub prev : (n : ℕ) → n < count → Back (λ (x : ℕ). link L x side.prev) 0 (all n)
  pub tail : (n : ℕ) → n < count → node N n side.tail ≡ last_word 0 (up_to n)

-- the free list
unfoldable pub free_at : List ℕ → ℕ → ℕ
free_at L zero = get_or L FREE 0
free_at L (suc x) = link L x NEXT-DEP

-- the queue: entries that ran in the flush at hand stay in the table until it ends
pub record Queues (N : List ℕ) (ran queue : List ℕ) : Type 0 where
  pub entries : queue_of N ≡ ran ++ queue
  pub waiting : get_or N QUEUE 0 ≡ length (ran ++ queue)

-- ---- all of them; ran: what a flush has done of the queue
pub record RepAfter (ran : List ℕ) (N L : List ℕ) (W C : List ℤ) (s : St) : Type 0 where
  pub lengths : Lengths N L W C s.room
  pub registers : Registers N L s.size s.used s.depth s.cycle
  pub kinds : Kinds N s.size s.kind s.gone s.owner s.level
  pub flags : Flags N s.size s.fl
  pub values : Values W s.sto s.pend
  pub forms : Forms N C s.size s.kind s.form
  pub slots : Slots L s.live s.dep s.sub s.ver
  pub deps : Strung N L s.size dependencies s.done (deps s)
  pub subs : Strung N L s.size subscribers s.subs s.subs
  pub free : Chain (free_at L) 0 s.free
  pub queue : Queues N ran s.queue

-- between commands
abbrev pub Rep : List ℕ → List ℕ → List ℤ → List ℤ → St → Type 0
Rep N L W C s = RepAfter [] N L W C s
