-- Document 01, "Nine refusals, tried in number order". Refusals 2 to 9 see the state only through `Sight`.
use Rattle.std.specs.Prelude.{Bool, true, false, not, ◌&&◌, ◌||◌, List, [], ◌∷◌, ℕ, zero, suc, ◌+◌, eqb, leb, ltb, ℤ, pos, negsuc, Option, None, Some}
use Rattle.lists.specs.Sum.{bit, count}
use Rattle.trees.specs.Trees.{Tree, constant, names}
pub use Rattle.trees.specs.Names.{most_height}
use Rattle.meaning.specs.State.{St, Kind, signal, computed, effect, scope, Room, readable}
pub use Rattle.meaning.specs.State.{on, a_signal}
use Rattle.meaning.specs.Reserve.{reserve_of, reserve}
use Rattle.meaning.specs.Marks.{is_effect}
use Rattle.meaning.specs.Engine.{level_of, cells_of}
use Rattle.meaning.specs.Words.{Command, make_signal, make_computed, make_effect, make_scope, set_to, add_to, read_of, dispose_of, batch_start, batch_end, command_of, owner_of, tree_of, formula_of}

-- ---- what the refusals see
pub record Sight : Type 0 where
  pub room : Room
  pub rows : ℕ  -- of the lent log
  pub count : ℕ  -- of nodes
  pub kind : ℕ → Kind
  pub gone : ℕ → Bool
  pub level : ℕ → ℕ  -- heights and owner depths
  pub used : ℕ  -- cells
  pub reserved : ℕ
  pub effects : ℕ  -- live ones
  pub depth : ℕ

unfoldable pub live_effects : St → ℕ
live_effects s = count (λ n. is_effect (s.kind n) && not (s.gone n)) s.size

abbrev pub sight_of : St → ℕ → Sight
sight_of s rows = record { room = s.room; rows = rows; count = s.size; kind = s.kind; gone = s.gone; level = s.level; used = s.used; reserved = reserve s; effects = live_effects s; depth = s.depth }

-- ---- the limits
abbrev pub most_owner_depth : ℕ
most_owner_depth = 16

abbrev pub most_depth : ℕ
most_depth = 64

abbrev pub most_level : Kind → ℕ
most_level k = elim k [ signal ↦ 0 | computed ↦ most_height | effect ↦ most_owner_depth | scope ↦ most_owner_depth ]

-- ---- what a command asks
pub record Asks : Type 0 where
  pub node : Option ℤ  -- the node that it names
  pub takes : Kind → Bool  -- of which kinds
  pub ends : Bool  -- to dispose it
  pub makes : Option Kind  -- a new node
  pub owner : ℤ  -- with this owner, -1 if none
  pub cells : Option (List ℤ)  -- and this formula
  pub barred : ℕ → Bool  -- at which depths it cannot be
  pub rows : Sight → ℕ  -- the log rows that it wants

-- effects and scopes can be disposed, and own
abbrev pub an_owner : Kind → Bool
an_owner k = not (readable k)

-- as many rows as effects are live, where the depth is such that a flush follows
abbrev pub flush_rows : Sight → ℕ → ℕ
flush_rows v d = elim (eqb v.depth d) [ true ↦ v.effects | false ↦ 0 ]

abbrev pub names_it : ℤ → (Kind → Bool) → Bool → (Sight → ℕ) → Asks
names_it n p d w = record { node = Some n; takes = p; ends = d; makes = None; owner = negsuc 0; cells = None; barred = λ d. false; rows = w }

-- a new effect wants 1 row
abbrev pub makes_it : Kind → ℤ → Option (List ℤ) → Asks
makes_it k o cs = record { node = None; takes = readable; ends = false; makes = Some k; owner = o; cells = cs; barred = λ d. false; rows = λ v. bit (is_effect k) }

abbrev pub batches : (ℕ → Bool) → (Sight → ℕ) → Asks
batches b w = record { node = None; takes = readable; ends = false; makes = None; owner = negsuc 0; cells = None; barred = b; rows = w }

-- set and add: signals; read: signals and computeds; dispose and owner: effects and scopes
unfoldable pub asks_of : Command → Asks
asks_of (make_signal k) = makes_it signal (negsuc 0) None
asks_of (make_computed cs) = makes_it computed (negsuc 0) (Some cs)
asks_of (make_effect o cs) = makes_it effect o (Some cs)
asks_of (make_scope o) = makes_it scope o None
asks_of (set_to n k) = names_it n a_signal false (λ v. flush_rows v 0)
asks_of (add_to n k) = names_it n a_signal false (λ v. flush_rows v 0)
asks_of (read_of n) = names_it n readable false (λ v. 0)
asks_of (dispose_of n) = names_it n an_owner true (λ v. 0)
asks_of batch_start = batches (λ d. leb most_depth d) (λ v. 0)
asks_of batch_end = batches (λ d. eqb d 0) (λ v. flush_rows v 1)

-- ---- the rows of the table
-- 2: unknown command code or wrong word count
unfoldable pub unknown : Option Command → Bool
unknown c = elim c [ None ↦ true | Some a ↦ false ]

-- n is the number of a node of such a kind
unfoldable pub is_a : Sight → (Kind → Bool) → ℤ → Bool
is_a v p (pos n) = elim (ltb n v.count) [ true ↦ p (v.kind n) | false ↦ false ]
is_a v p (negsuc n) = false

abbrev pub wrong_owner : Sight → ℤ → Bool
wrong_owner v (pos n) = not (is_a v an_owner (pos n))
wrong_owner v (negsuc zero) = false
wrong_owner v (negsuc (suc n)) = true

-- 3: node or owner number unknown, or of a kind the command doesn't take
unfoldable pub wrong_node : Sight → Command → Bool
wrong_node v c = on (asks_of c).node (λ n. not (is_a v (asks_of c).takes n)) || wrong_owner v (asks_of c).owner

abbrev pub is_gone : Sight → ℤ → Bool
is_gone v (pos n) = v.gone n
is_gone v (negsuc n) = false

-- 4: the node to dispose, or the owner, is gone
unfoldable pub gone_node : Sight → Command → Bool
gone_node v c = ((asks_of c).ends && on (asks_of c).node (is_gone v)) || is_gone v (asks_of c).owner

unfoldable pub all_readable : Sight → List ℕ → Bool
all_readable v [] = true
all_readable v (n ∷ ns) = is_a v readable (pos n) && all_readable v ns

-- one expression within the limits, and each read names an existing signal or computed
abbrev pub legal_cells : Sight → List ℤ → Bool
legal_cells v cs = on (tree_of cs) (λ t. all_readable v (names t))

-- 5: the formula breaks a rule
unfoldable pub bad_formula : Sight → Command → Bool
bad_formula v c = on (asks_of c).cells (λ cs. not (legal_cells v cs))

-- the new node's formula
abbrev pub tree_in : Option (List ℤ) → Tree
tree_in o = elim o [ None ↦ constant (pos 0) | Some cs ↦ formula_of cs ]

-- 6: computed of height over 64, or owner depth over 16
unfoldable pub too_high : Sight → Command → Bool
too_high v c = on (asks_of c).makes (λ k. ltb (most_level k) (level_of v.level k (tree_in (asks_of c).cells) (owner_of (asks_of c).owner)))

abbrev pub full : Sight → Option Kind → Tree → Option ℕ → Bool
full v m t o =
    on m (λ k. leb v.room.nodes v.count || (ltb v.room.cells (v.used + cells_of k t) || ltb v.room.slots (v.reserved + reserve_of k false t o)))

-- 7: node table full, too few cells left, or the reserve would exceed the link slots
unfoldable pub no_room : Sight → Command → Bool
no_room v c = full v (asks_of c).makes (tree_in (asks_of c).cells) (owner_of (asks_of c).owner)

-- 8: end at depth 0, or start at depth 64
unfoldable pub wrong_depth : Sight → Command → Bool
wrong_depth v c = (asks_of c).barred v.depth

-- 9: too few log rows
unfoldable pub few_rows : Sight → Command → Bool
few_rows v c = ltb v.rows ((asks_of c).rows v)

-- ---- the table
-- well: the lent tables are well formed
unfoldable pub table : Bool → Sight → Option Command → List Bool
table well v c =
    not well ∷ unknown c ∷ on c (wrong_node v) ∷ on c (gone_node v) ∷ on c (bad_formula v) ∷ on c (too_high v) ∷ on c (no_room v) ∷ on c (wrong_depth v) ∷ on c (few_rows v) ∷ []

-- the number of the first row that holds, counted from n; 0 if none does
unfoldable pub first : ℕ → List Bool → ℕ
first n [] = 0
first n (b ∷ bs) = elim b [ true ↦ n | false ↦ first (suc n) bs ]

unfoldable pub refusal : Bool → Sight → List ℤ → ℕ
refusal well v ws = first 1 (table well v (command_of ws))
