-- What the tests mean: document 01, "Flags and tables at rest", over the lists that the tables hold. A list is decoded from its head, not asked for.
use Rattle.std.specs.Prelude.{◌≡◌, ◌⊎◌, true, false, List, [], ◌∷◌, ℕ, suc, ◌<◌, ◌≤◌, ℤ, get_or, length}
use Rattle.primitive.specs.Words.{SIGNAL, COMPUTED, EFFECT, SCOPE, FLAGS, KIND, GONE, DEPS, DEPS-TAIL, SUBS, SUBS-TAIL, READS, OWNER, DEPTH, QUEUE, DEP, SUB, PREV-SUB, NEXT-SUB, PREV-DEP, NEXT-DEP, FREE, node, link}
use Rattle.queue.specs.Queue.{queue_of}
use Rattle.trees.specs.Legal.{readable_in}
use Rattle.lists.specs.Sum.{All, occ}
use Rattle.lists.specs.Walk.{slots}
use Rattle.lists.specs.Each.{keep}
use Rattle.counting.specs.Counts.{counted_in, slot_room}
use Rattle.resting.specs.Linked.{is_live_slot}
use Rattle.resting.specs.Depends.{rank}
use Rattle.resting.specs.Named.{names_of}
use Rattle.resting.specs.Queued.{most_depth}

-- ---- the lists that the tables hold: from a head word along a field, at most as many as there are slots
abbrev pub list_from : List ℕ → ℕ → ℕ → List ℕ
list_from l next w = slots (λ (x : ℕ). link l x next) (slot_room l) w

abbrev pub subs_of : List ℕ → List ℕ → ℕ → List ℕ
subs_of t l n = list_from l NEXT-SUB (node t n SUBS)

abbrev pub deps_of : List ℕ → List ℕ → ℕ → List ℕ
deps_of t l n = list_from l NEXT-DEP (node t n DEPS)

abbrev pub free_of : List ℕ → List ℕ
free_of l = list_from l NEXT-DEP (get_or l FREE 0)

-- the links of a node that go to what can be read
abbrev pub read_links_of : List ℕ → List ℕ → ℕ → List ℕ
read_links_of t l n = keep (λ (x : ℕ). readable_in t (link l x DEP)) (deps_of t l n)

-- ---- first bullet
-- from the word w along the field next the slots xs and then nothing: each is live, names node n in the field own, and points back in the field prev
-- at the word before it, the first at p; the last's word is the tail
abbrev pub Listed : List ℕ → ℕ → ℕ → ℕ → ℕ → ℕ → ℕ → List ℕ → ℕ → Type 0
Listed l own prev next n p w [] tail = (w ≡ 0) × (p ≡ tail)
Listed l own prev next n p w (x ∷ xs) tail =
    (w ≡ suc x) × (is_live_slot l x ≡ true) × (link l x own ≡ n) × (link l x prev ≡ p) × Listed l own prev next n (suc x) (link l x next) xs tail

-- from the word w the slots xs and then nothing: each is there and not live
abbrev pub FreeList : List ℕ → ℕ → List ℕ → Type 0
FreeList l w [] = w ≡ 0
FreeList l w (x ∷ xs) = (w ≡ suc x) × (x < slot_room l) × (is_live_slot l x ≡ false) × FreeList l (link l x NEXT-DEP) xs

-- every slot is free, once on the free list, or live, and then exactly once in its dependency's subscriber list and once in its
-- subscriber's dependency list; heads, tails and both neighbours agree
pub record Linked (t l : List ℕ) : Type 0 where
  pub subs : (n : ℕ) → n < counted_in t → Listed l DEP PREV-SUB NEXT-SUB n 0 (node t n SUBS) (subs_of t l n) (node t n SUBS-TAIL)
  pub deps : (n : ℕ) → n < counted_in t → Listed l SUB PREV-DEP NEXT-DEP n 0 (node t n DEPS) (deps_of t l n) (node t n DEPS-TAIL)
  pub free : FreeList l (get_or l FREE 0) (free_of l)
  pub in_subs : (x : ℕ) → is_live_slot l x ≡ true → (link l x DEP < counted_in t) × (occ x (subs_of t l (link l x DEP)) ≡ 1)
  pub in_deps : (x : ℕ) → is_live_slot l x ≡ true → (link l x SUB < counted_in t) × (occ x (deps_of t l (link l x SUB)) ≡ 1)
  pub in_free : (x : ℕ) → x < slot_room l → is_live_slot l x ≡ false → occ x (free_of l) ≡ 1

-- ---- second bullet
-- node n may depend on node d: a computed on lower signals and computeds; an effect on those and on what it owns; a scope on what it owns only; a signal on nothing
pub record May (t : List ℕ) (n d : ℕ) : Type 0 where
  pub read : readable_in t d ≡ true → ((node t n KIND ≡ COMPUTED) ⊎ (node t n KIND ≡ EFFECT)) × (rank d < rank n)
  pub own : readable_in t d ≡ false → ((node t n KIND ≡ EFFECT) ⊎ (node t n KIND ≡ SCOPE)) × (node t d OWNER ≡ suc n)

-- each of its links goes to what it may depend on
abbrev pub Depends : List ℕ → List ℕ → ℕ → Type 0
Depends t l n = All (λ (x : ℕ). May t n (link l x DEP)) (deps_of t l n)

-- a live owned effect or scope has one subscriber link, to its owner; an unowned or gone one has none; gone nodes have no links
pub record Owned (t l : List ℕ) (n : ℕ) : Type 0 where
  pub owned : readable_in t n ≡ false → node t n GONE ≡ 0 → (o : ℕ) → node t n OWNER ≡ suc o → (x : ℕ) × (subs_of t l n ≡ x ∷ []) × (link l x SUB ≡ o)
  pub unowned : readable_in t n ≡ false → node t n GONE ≡ 0 → node t n OWNER ≡ 0 → subs_of t l n ≡ []
  pub gone : readable_in t n ≡ false → (node t n GONE ≡ 0 → ⊥) → (subs_of t l n ≡ []) × (deps_of t l n ≡ [])

-- ---- third bullet: the read links of node n are at most as many as its read cells, and go only to nodes that these name
abbrev pub Few : List ℕ → List ℕ → ℕ → Type 0
Few t l n = length (read_links_of t l n) ≤ node t n READS

abbrev pub Named : List ℕ → List ℕ → List ℤ → ℕ → Type 0
Named t l c n = All (λ (x : ℕ). readable_in t (link l x DEP) ≡ true → 1 ≤ occ (link l x DEP) (names_of t c n)) (deps_of t l n)

-- ---- fourth bullet: the states of a node, by its kind, gone mark, flags, dependency links, subscriber links and read links
pub data Flagged (kind gone f : ℕ) (deps subs reads : List ℕ) : Type 0 where
  signal_clean : kind ≡ SIGNAL → f ≡ 1 → Flagged kind gone f deps subs reads
  signal_set : kind ≡ SIGNAL → f ≡ 17 → Flagged kind gone f deps subs reads
  computed_never : kind ≡ COMPUTED → f ≡ 0 → deps ≡ [] → subs ≡ [] → Flagged kind gone f deps subs reads
  computed_clean : kind ≡ COMPUTED → f ≡ 1 → Flagged kind gone f deps subs reads
  computed_bare : kind ≡ COMPUTED → f ≡ 17 → deps ≡ [] → Flagged kind gone f deps subs reads
  computed_pending : kind ≡ COMPUTED → f ≡ 33 → (deps ≡ [] → ⊥) → Flagged kind gone f deps subs reads
  computed_dirty : kind ≡ COMPUTED → f ≡ 49 → (deps ≡ [] → ⊥) → Flagged kind gone f deps subs reads
  effect_watching : kind ≡ EFFECT → gone ≡ 0 → f ≡ 2 → Flagged kind gone f deps subs reads
  effect_queued : kind ≡ EFFECT → gone ≡ 0 → f ≡ 0 → Flagged kind gone f deps subs reads
  effect_pending : kind ≡ EFFECT → gone ≡ 0 → f ≡ 32 → (reads ≡ [] → ⊥) → Flagged kind gone f deps subs reads
  effect_dirty : kind ≡ EFFECT → gone ≡ 0 → f ≡ 48 → (reads ≡ [] → ⊥) → Flagged kind gone f deps subs reads
  gone_queued : kind ≡ EFFECT → (gone ≡ 0 → ⊥) → f ≡ 0 → Flagged kind gone f deps subs reads
  gone_done : kind ≡ EFFECT → (gone ≡ 0 → ⊥) → f ≡ 2 → Flagged kind gone f deps subs reads
  scope_still : kind ≡ SCOPE → f ≡ 0 → Flagged kind gone f deps subs reads

abbrev pub FlaggedAt : List ℕ → List ℕ → ℕ → Type 0
FlaggedAt t l n = Flagged (node t n KIND) (node t n GONE) (node t n FLAGS) (deps_of t l n) (subs_of t l n) (read_links_of t l n)

-- ---- fifth bullet
-- e is a live effect without WATCHING, or a gone one with flags 0
pub record Waits (t : List ℕ) (e : ℕ) : Type 0 where
  pub known : e < counted_in t
  pub effect : node t e KIND ≡ EFFECT
  pub unwatching : node t e GONE ≡ 0 → node t e FLAGS ≡ 2 → ⊥
  pub gone : (node t e GONE ≡ 0 → ⊥) → node t e FLAGS ≡ 0

-- the queue holds each live effect without WATCHING once, maybe gone ones with flags 0 once, nothing else; at depth 0 it is empty; depth is at most 64.
-- Its length is a word of its own, which says no more than there are nodes.
pub record Queued (t : List ℕ) : Type 0 where
  pub depth : get_or t DEPTH 0 ≤ most_depth
  pub idle : get_or t DEPTH 0 ≡ 0 → get_or t QUEUE 0 ≡ 0
  pub long : get_or t QUEUE 0 ≤ counted_in t
  pub only : All (Waits t) (queue_of t)
  pub once : (e : ℕ) → occ e (queue_of t) ≤ 1
  pub each : (e : ℕ) → Waits t e → node t e GONE ≡ 0 → occ e (queue_of t) ≡ 1

-- ---- all of them
pub record Joined (t l : List ℕ) (c : List ℤ) : Type 0 where
  pub linked : Linked t l
  pub depends : (n : ℕ) → n < counted_in t → Depends t l n
  pub owned : (n : ℕ) → n < counted_in t → Owned t l n
  pub few : (n : ℕ) → n < counted_in t → Few t l n
  pub flagged : (n : ℕ) → n < counted_in t → FlaggedAt t l n
  pub named : (n : ℕ) → n < counted_in t → Named t l c n
  pub queued : Queued t
