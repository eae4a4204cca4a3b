-- Document 01, "Flags and tables at rest": what a node's row must say, by its kind.
use Rattle.std.specs.Prelude.{Bool, true, false, ◌&&◌, List, ℕ, zero, suc, eqb, leb, ℤ}
use Rattle.primitive.specs.Words.{KIND, GONE, OWNER, LEVEL, SIGNAL, COMPUTED, EFFECT, SCOPE, node}
use Rattle.trees.specs.Names.{most_height, height_in}
use Rattle.telling.specs.Formulas.{own_cells, formula_in}
use Rattle.counting.specs.Depths.{most_owner_depth, depth_under}
use Rattle.telling.specs.Levels.{level_kept}

-- the first where it is so, else the second
abbrev pub row : Bool → Bool → Bool → Bool
row true x y = x
row false x y = y

-- never gone and with no owner: signals and computeds
unfoldable pub stands_alone : List ℕ → ℕ → Bool
stands_alone nodes n = eqb (node nodes n GONE) 0 && eqb (node nodes n OWNER) 0

unfoldable pub signal_in : List ℕ → ℕ → Bool
signal_in nodes n = stands_alone nodes n && eqb (node nodes n LEVEL) 0

unfoldable pub computed_in : List ℕ → List ℤ → ℕ → Bool
computed_in nodes used n =
    stands_alone nodes n
    && (formula_in nodes (own_cells nodes used n) n
    && level_kept nodes n (height_in nodes (own_cells nodes used n)) most_height)

-- a scope, gone or not: its owner, if any, is of lower number
unfoldable pub scope_in : List ℕ → ℕ → Bool
scope_in nodes n =
    leb (node nodes n GONE) 1
    && (leb (node nodes n OWNER) n
    && level_kept nodes n (depth_under nodes (node nodes n OWNER)) most_owner_depth)

-- an effect is as a scope, and has a formula
unfoldable pub effect_in : List ℕ → List ℤ → ℕ → Bool
effect_in nodes used n = scope_in nodes n && formula_in nodes (own_cells nodes used n) n

-- node n is of one of the four kinds, and its row is as that kind asks
unfoldable pub node_in : List ℕ → List ℤ → ℕ → Bool
node_in nodes used n =
    let kind = node nodes n KIND in
    row (eqb kind SIGNAL) (signal_in nodes n)
    (row (eqb kind COMPUTED) (computed_in nodes used n)
    (row (eqb kind EFFECT) (effect_in nodes used n)
    (row (eqb kind SCOPE) (scope_in nodes n)
    false)))

-- the nodes below a number
unfoldable pub nodes_in : List ℕ → List ℤ → ℕ → Bool
nodes_in nodes used zero = true
nodes_in nodes used (suc n) = node_in nodes used n && nodes_in nodes used n
