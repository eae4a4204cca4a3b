-- Document 01, "Flags and tables at rest": its five bullets, a named clause a line.
-- Each bullet speaks of the columns that it names, so that a change of any other column leaves it as it is.
use Rattle.std.specs.Prelude.{◌≡◌, ◌⊎◌, Bool, true, false, List, [], ◌∷◌, ℕ, ◌≤◌, ◌<◌, length, Option, None, Some}
use Rattle.flags.specs.declared.Named.{Named}
use Rattle.trees.specs.Trees.{Tree, size, nesting, names}
use Rattle.trees.specs.Legal.{most_cells, most_nesting}
use Rattle.meaning.specs.State.{St, Kind, signal, computed, effect, scope, Room, capacities, readable, rank, deps, f0, f1, f2, f17, f32, f33, f48, f49}
use Rattle.meaning.specs.Engine.{level_of}
use Rattle.meaning.specs.Reserve.{reserve}
use Rattle.meaning.specs.Refusals.{most_level, most_depth}

-- n stands in the list
abbrev pub In : ℕ → List ℕ → Type 0
In n [] = ⊥
In n (x ∷ xs) = (n ≡ x) ⊎ In n xs

-- no member twice
abbrev pub Once : List ℕ → Type 0
Once [] = Unit {0}
Once (x ∷ xs) = (In x xs → ⊥) × Once xs

-- the links of a list that go to what can be read
unfoldable pub read_links : (ℕ → Kind) → (ℕ → ℕ) → List ℕ → List ℕ
read_links kind dep [] = []
read_links kind dep (l ∷ ls) = elim (readable (kind (dep l))) [ true ↦ l ∷ read_links kind dep ls | false ↦ read_links kind dep ls ]

-- slots and lists
pub record Lists (slots count : ℕ) (free : List ℕ) (live : ℕ → Bool) (dep sub : ℕ → ℕ) (links rest subs : ℕ → List ℕ) : Type 0 where
  pub free_not_live : (l : ℕ) → In l free → (live l ≡ false) × (l < slots)
  pub free_or_live : (l : ℕ) → l < slots → live l ≡ false → In l free
  pub free_once : Once free
  pub live_slot : (l : ℕ) → live l ≡ true → l < slots
  pub live_in_subs : (l : ℕ) → live l ≡ true → In l (subs (dep l))
  pub subs_live : (l d : ℕ) → In l (subs d) → (live l ≡ true) × (dep l ≡ d)
  pub subs_once : (d : ℕ) → Once (subs d)
  pub live_in_deps : (l : ℕ) → live l ≡ true → In l (links (sub l))
  pub deps_live : (l u : ℕ) → In l (links u) → (live l ≡ true) × (sub l ≡ u)
  pub deps_once : (u : ℕ) → Once (links u)
  pub tail_last : (u : ℕ) → rest u ≡ []
  pub inside : (l : ℕ) → live l ≡ true → (dep l < count) × (sub l < count)

-- what depends on what
pub record Depends (count : ℕ) (kind : ℕ → Kind) (owner : ℕ → Option ℕ) (gone : ℕ → Bool) (live : ℕ → Bool) (dep sub : ℕ → ℕ) (links subs : ℕ → List ℕ) : Type 0 where
  pub of_signal : (l : ℕ) → live l ≡ true → kind (sub l) ≡ signal → ⊥
  pub of_computed : (l : ℕ) → live l ≡ true → kind (sub l) ≡ computed → readable (kind (dep l)) ≡ true
  pub of_scope : (l : ℕ) → live l ≡ true → kind (sub l) ≡ scope → readable (kind (dep l)) ≡ false
  pub read_lower : (l : ℕ) → live l ≡ true → readable (kind (dep l)) ≡ true → rank (dep l) < rank (sub l)
  pub owned_by_it : (l : ℕ) → live l ≡ true → readable (kind (dep l)) ≡ false → owner (dep l) ≡ Some (sub l)
  pub one_owner : (n o : ℕ) → n < count → gone n ≡ false → owner n ≡ Some o → (l : ℕ) × (subs n ≡ l ∷ []) × (sub l ≡ o)
  pub owner_lower : (n o : ℕ) → n < count → owner n ≡ Some o → o < n
  pub unowned : (n : ℕ) → n < count → readable (kind n) ≡ false → owner n ≡ None → subs n ≡ []
  pub owner_kind : (n : ℕ) → n < count → readable (kind n) ≡ true → owner n ≡ None
  pub gone_bare : (n : ℕ) → n < count → gone n ≡ true → (links n ≡ []) × (subs n ≡ [])
  pub gone_kind : (n : ℕ) → n < count → readable (kind n) ≡ true → gone n ≡ false

-- formulas and limits
pub record Limits (room : Room) (count used reserved : ℕ) (kind : ℕ → Kind) (form : ℕ → Tree) (owner : ℕ → Option ℕ) (level : ℕ → ℕ) (live : ℕ → Bool) (dep sub : ℕ → ℕ) (links : ℕ → List ℕ) : Type 0 where
  pub names_lower : (n m : ℕ) → n < count → In m (names (form n)) → (readable (kind m) ≡ true) × (rank m < rank n)
  pub nameless : (n : ℕ) → n < count → (kind n ≡ signal) ⊎ (kind n ≡ scope) → names (form n) ≡ []
  pub links_few : (n : ℕ) → n < count → length (read_links kind dep (links n)) ≤ length (names (form n))
  pub links_named : (l : ℕ) → live l ≡ true → readable (kind (dep l)) ≡ true → In (dep l) (names (form (sub l)))
  pub cells_few : (n : ℕ) → n < count → size (form n) ≤ most_cells
  pub nesting_low : (n : ℕ) → n < count → nesting (form n) ≤ most_nesting
  pub levels : (n : ℕ) → n < count → level n ≡ level_of level (kind n) (form n) (owner n)
  pub level_low : (n : ℕ) → n < count → level n ≤ most_level (kind n)
  pub room_within : capacities room ≡ true
  pub nodes_fit : count ≤ room.nodes
  pub cells_fit : used ≤ room.cells
  pub reserve_fits : reserved ≤ room.slots

-- the five states of a computed: its flags, dependency and subscriber links
pub data ComputedFlags (f : Named) (links subs : List ℕ) : Type 0 where
  never : f ≡ f0 → links ≡ [] → subs ≡ [] → ComputedFlags f links subs
  clean : f ≡ f1 → ComputedFlags f links subs
  stale : f ≡ f17 → links ≡ [] → ComputedFlags f links subs
  maybe : f ≡ f33 → (links ≡ [] → ⊥) → ComputedFlags f links subs
  dirty : f ≡ f49 → (links ≡ [] → ⊥) → ComputedFlags f links subs

-- the four states of a live effect n: its flags, the queue, and its read links
pub data EffectFlags (n : ℕ) (f : Named) (queue reads : List ℕ) : Type 0 where
  watching : f ≡ f2 → (In n queue → ⊥) → EffectFlags n f queue reads
  pushed : f ≡ f0 → In n queue → EffectFlags n f queue reads
  pending : f ≡ f32 → In n queue → (reads ≡ [] → ⊥) → EffectFlags n f queue reads
  dirty : f ≡ f48 → In n queue → (reads ≡ [] → ⊥) → EffectFlags n f queue reads

-- flags by kind
pub record FlagsByKind (count : ℕ) (kind : ℕ → Kind) (gone : ℕ → Bool) (fl : ℕ → Named) (queue : List ℕ) (dep : ℕ → ℕ) (links subs : ℕ → List ℕ) : Type 0 where
  pub of_signal : (n : ℕ) → n < count → kind n ≡ signal → (fl n ≡ f1) ⊎ (fl n ≡ f17)
  pub of_computed : (n : ℕ) → n < count → kind n ≡ computed → ComputedFlags (fl n) (links n) (subs n)
  pub of_effect : (n : ℕ) → n < count → kind n ≡ effect → gone n ≡ false → EffectFlags n (fl n) queue (read_links kind dep (links n))
  pub of_scope : (n : ℕ) → n < count → kind n ≡ scope → fl n ≡ f0
  pub of_gone : (n : ℕ) → n < count → kind n ≡ effect → gone n ≡ true → (fl n ≡ f0) ⊎ (fl n ≡ f2)

-- the queue; that it holds each live effect without WATCHING is said by EffectFlags
pub record Queue (count : ℕ) (kind : ℕ → Kind) (gone : ℕ → Bool) (fl : ℕ → Named) (queue : List ℕ) (depth : ℕ) : Type 0 where
  pub queue_once : Once queue
  pub queue_effects : (n : ℕ) → In n queue → (n < count) × (kind n ≡ effect)
  pub queue_gone : (n : ℕ) → In n queue → gone n ≡ true → fl n ≡ f0
  pub at_depth_0 : depth ≡ 0 → queue ≡ []
  pub depth_low : depth ≤ most_depth

pub record WellFormed (s : St) : Type 0 where
  pub lists : Lists s.room.slots s.size s.free s.live s.dep s.sub (deps s) s.rest s.subs
  pub depends : Depends s.size s.kind s.owner s.gone s.live s.dep s.sub (deps s) s.subs
  pub limits : Limits s.room s.size s.used (reserve s) s.kind s.form s.owner s.level s.live s.dep s.sub (deps s)
  pub by_kind : FlagsByKind s.size s.kind s.gone s.fl s.queue s.dep (deps s) s.subs
  pub queued : Queue s.size s.kind s.gone s.fl s.queue s.depth
