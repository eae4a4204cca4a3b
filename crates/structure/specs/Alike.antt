-- Which words of lent tables have a meaning: two tables of equal lengths are alike where these agree. The other words say nothing: rows past the last node and queue entries past
-- the queue's length; CELLS, READS and START of signals and scopes; where the cells of a formula lie; what a live mark is beside not 0; the words of a free slot, but for the
-- next free one; the spare words of rows, headers and values; cells of no formula. `state_in` reads some of them all the same, so equal states ask more than tables that are alike.
use Rattle.std.specs.Prelude.{◌≡◌, true, false, List, ℕ, ◌<◌, ℤ, length, get_or}
use Rattle.queue.specs.Queue.{queue_of}
use Rattle.primitive.specs.Words.{COUNT, USED, DEPTH, QUEUE, CYCLE, FREE, FLAGS, KIND, GONE, DEPS, DEPS-TAIL, SUBS, SUBS-TAIL, CELLS, READS, OWNER, LEVEL, VERSION, DEP, SUB, PREV-SUB, NEXT-SUB, PREV-DEP, NEXT-DEP, node, link}
use Rattle.linking.specs.Free.{is_live_slot}
use Rattle.reading.specs.Tables.{current_of, pending_of}
use Rattle.counting.specs.Counts.{slot_room}
use Rattle.telling.specs.Formulas.{own_cells}
use Rattle.telling.specs.Whole.{used_cells}
use Rattle.refusing.specs.Sight.{kind_of}
use Rattle.structure.specs.Rep.{has_form}

pub record SameLengths (N L : List ℕ) (W C : List ℤ) (N' L' : List ℕ) (W' C' : List ℤ) : Type 0 where
  pub of_nodes : length N ≡ length N'
  pub of_links : length L ≡ length L'
  pub of_values : length W ≡ length W'
  pub of_cells : length C ≡ length C'

-- the words of node n
pub record SameNode (N N' : List ℕ) (n : ℕ) : Type 0 where
  pub flags : node N n FLAGS ≡ node N' n FLAGS
  pub kind : node N n KIND ≡ node N' n KIND
  pub gone : node N n GONE ≡ node N' n GONE
  pub deps : node N n DEPS ≡ node N' n DEPS
  pub deps_tail_lem : node N n DEPS-TAIL ≡ node N' n DEPS-TAIL
  pub subs : node N n SUBS ≡ node N' n SUBS
  pub subs_tail : node N n SUBS-TAIL ≡ node N' n SUBS-TAIL
  pub owner : node N n OWNER ≡ node N' n OWNER
  pub level : node N n LEVEL ≡ node N' n LEVEL

-- and of its formula
pub record SameFormula (N N' : List ℕ) (C C' : List ℤ) (n : ℕ) : Type 0 where
  pub long : node N n CELLS ≡ node N' n CELLS
  pub reads : node N n READS ≡ node N' n READS
  pub words : own_cells N (used_cells N C) n ≡ own_cells N' (used_cells N' C') n

-- the words of a live slot
pub record SameSlot (L L' : List ℕ) (x : ℕ) : Type 0 where
  pub version : link L x VERSION ≡ link L' x VERSION
  pub dep : link L x DEP ≡ link L' x DEP
  pub sub : link L x SUB ≡ link L' x SUB
  pub prev_sub_lem : link L x PREV-SUB ≡ link L' x PREV-SUB
  pub next_sub : link L x NEXT-SUB ≡ link L' x NEXT-SUB
  pub prev_dep_lem : link L x PREV-DEP ≡ link L' x PREV-DEP
  pub next_dep_lem : link L x NEXT-DEP ≡ link L' x NEXT-DEP

pub record Alike (N L : List ℕ) (W C : List ℤ) (N' L' : List ℕ) (W' C' : List ℤ) : Type 0 where
  pub count : get_or N COUNT 0 ≡ get_or N' COUNT 0
  pub used : get_or N USED 0 ≡ get_or N' USED 0
  pub depth : get_or N DEPTH 0 ≡ get_or N' DEPTH 0
  pub waiting : get_or N QUEUE 0 ≡ get_or N' QUEUE 0
  pub queue : queue_of N ≡ queue_of N'
  pub cycle : get_or L CYCLE 0 ≡ get_or L' CYCLE 0
  pub free : get_or L FREE 0 ≡ get_or L' FREE 0
  pub nodes : (n : ℕ) → n < get_or N COUNT 0 → SameNode N N' n
  pub formulas : (n : ℕ) → n < get_or N COUNT 0 → has_form (kind_of (node N n KIND)) ≡ true → SameFormula N N' C C' n
  pub current : (n : ℕ) → current_of W n ≡ current_of W' n
  pub pending : (n : ℕ) → pending_of W n ≡ pending_of W' n
  pub live : (x : ℕ) → is_live_slot L x ≡ is_live_slot L' x
  pub slots : (x : ℕ) → is_live_slot L x ≡ true → SameSlot L L' x
  pub next_free : (x : ℕ) → x < slot_room L → is_live_slot L x ≡ false → link L x NEXT-DEP ≡ link L' x NEXT-DEP
