-- Document 01, "Flags and tables at rest": its rules that speak of nodes alone, a named clause a line. The test is proved to decide them (`Exact`).
use Rattle.std.specs.Prelude.{◌≡◌, true, List, [], ◌∷◌, ℕ, suc, ◌+◌, ◌/◌, ◌<◌, ◌≤◌, ℤ, length, get_or}
use Rattle.primitive.specs.Words.{COUNT, USED, KIND, GONE, START, CELLS, READS, OWNER, LEVEL, SIGNAL, COMPUTED, EFFECT, SCOPE, node}
use Rattle.trees.specs.Trees.{Tree, size, names}
use Rattle.trees.specs.Legal.{FormulaOf}
use Rattle.trees.specs.Names.{most_height, tallest}
use Rattle.counting.specs.Counts.{node_room, slot_room, cell_room, carry_in, reserve_in}
use Rattle.telling.specs.Formulas.{rank_of, own_cells}
use Rattle.counting.specs.Depths.{most_owner_depth, depth_under}
use Rattle.telling.specs.Whole.{used_cells}

abbrev pub AllLower : List ℕ → ℕ → Type 0
AllLower [] n = Unit {0}
AllLower (m ∷ ms) n = (rank_of m < rank_of n) × AllLower ms n

-- a formula among the cells in use: a tree written out, whose reads name signals and computeds of lower rank
pub record HasFormula (nodes : List ℕ) (used : List ℤ) (n : ℕ) : Type 0 where
  pub tree : Tree
  pub inside : node nodes n START + node nodes n CELLS ≤ length used / 2
  pub long : size tree ≡ node nodes n CELLS
  pub formula : FormulaOf nodes (own_cells nodes used n) tree
  pub lower : AllLower (names tree) n
  pub counted : node nodes n READS ≡ length (names tree)

pub record SignalRow (nodes : List ℕ) (n : ℕ) : Type 0 where
  pub not_gone : node nodes n GONE ≡ 0
  pub unowned : node nodes n OWNER ≡ 0
  pub level : node nodes n LEVEL ≡ 0

-- the height is 1 + the greatest that the formula names
pub record ComputedRow (nodes : List ℕ) (used : List ℤ) (n : ℕ) : Type 0 where
  pub not_gone : node nodes n GONE ≡ 0
  pub unowned : node nodes n OWNER ≡ 0
  pub has : HasFormula nodes used n
  pub level : node nodes n LEVEL ≡ suc (tallest nodes (names has.tree))
  pub level_low : node nodes n LEVEL ≤ most_height

-- an owner word o + 1 is at most n: the owner is of lower number
pub record ScopeRow (nodes : List ℕ) (n : ℕ) : Type 0 where
  pub gone_mark : node nodes n GONE ≤ 1
  pub owner_lower : node nodes n OWNER ≤ n
  pub level : node nodes n LEVEL ≡ depth_under nodes (node nodes n OWNER)
  pub level_low : node nodes n LEVEL ≤ most_owner_depth

pub data NodeRow (nodes : List ℕ) (used : List ℤ) (n : ℕ) : Type 0 where
  a_signal_row : node nodes n KIND ≡ SIGNAL → SignalRow nodes n → NodeRow nodes used n
  a_computed_row : node nodes n KIND ≡ COMPUTED → ComputedRow nodes used n → NodeRow nodes used n
  an_effect : node nodes n KIND ≡ EFFECT → ScopeRow nodes n → HasFormula nodes used n → NodeRow nodes used n
  a_scope : node nodes n KIND ≡ SCOPE → ScopeRow nodes n → NodeRow nodes used n

pub record Described (nodes links : List ℕ) (values cells : List ℤ) : Type 0 where
  pub carried : carry_in nodes links values cells ≡ true
  pub nodes_fit : get_or nodes COUNT 0 ≤ node_room nodes
  pub cells_fit : get_or nodes USED 0 ≤ cell_room cells
  pub rows : (n : ℕ) → n < get_or nodes COUNT 0 → NodeRow nodes (used_cells nodes cells) n
  pub reserve_fits : reserve_in nodes ≤ slot_room links
