-- Document 01, "The engine and its edges" and "Reserve": what is counted from lent tables.
use Rattle.std.specs.Prelude.{Bool, true, false, not, ◌&&◌, List, ℕ, zero, suc, ◌+◌, ◌*◌, ◌-◌, ◌/◌, ◌%◌, min, eqb, leb, ℤ, length, get_or}
use Rattle.primitive.specs.Words.{NODE, LINK, COUNT, KIND, GONE, READS, OWNER, SIGNAL, COMPUTED, EFFECT, node, node_rows, link_rows}

-- ---- capacities, from the lengths: rows after the header, and cells of two words
abbrev pub node_room : List ℕ → ℕ
node_room nodes = node_rows nodes - 1

abbrev pub slot_room : List ℕ → ℕ
slot_room links = link_rows links - 1

abbrev pub cell_room : List ℤ → ℕ
cell_room cells = length cells / 2

abbrev pub most_nodes : ℕ
most_nodes = 1024

abbrev pub most_slots : ℕ
most_slots = 8192

abbrev pub most_cell_room : ℕ
most_cell_room = 8192

-- n is a capacity: 1 to the most
unfoldable pub within_most : ℕ → ℕ → Bool
within_most most n = not (eqb n 0) && leb n most

-- no words over
unfoldable pub whole_rows : List ℕ → List ℕ → List ℤ → Bool
whole_rows nodes links cells = eqb (length nodes % NODE) 0 && (eqb (length links % LINK) 0 && eqb (length cells % 2) 0)

unfoldable pub within_all : List ℕ → List ℕ → List ℤ → Bool
within_all nodes links cells =
    within_most most_nodes (node_room nodes) && (within_most most_slots (slot_room links) && within_most most_cell_room (cell_room cells))

-- the four lengths carry capacities; a node has two values, each of two words
unfoldable pub carry_in : List ℕ → List ℕ → List ℤ → List ℤ → Bool
carry_in nodes links values cells = whole_rows nodes links cells && (within_all nodes links cells && eqb (length values) (node_room nodes * 4))

-- ---- sums over the nodes
-- the nodes counted are 0 .. counted_in - 1: as many as the tables say, but no more than there are rows for
unfoldable pub counted_in : List ℕ → ℕ
counted_in nodes = min (get_or nodes COUNT 0) (node_room nodes)

-- the sum of f over 0 .. n - 1
unfoldable pub total : (ℕ → ℕ) → ℕ → ℕ
total f zero = 0
total f (suc n) = total f n + f n

-- the greatest word, at which a sum stops
abbrev pub top : ℕ
top = 18446744073709551615

-- an owner word 0 is no owner
abbrev pub owned_link : ℕ → ℕ
owned_link zero = 0
owned_link (suc o) = 1

-- the first where it is so, else the second
abbrev pub row : Bool → ℕ → ℕ → ℕ
row true x y = x
row false x y = y

-- a computed counts twice its read cells; a live effect does too, and a live owned effect or scope 1 more
unfoldable pub reserve_of : List ℕ → ℕ → ℕ
reserve_of nodes n =
    let kind = node nodes n KIND in
    let reads = node nodes n READS in
    let owned = owned_link (node nodes n OWNER) in
    row (eqb kind SIGNAL) 0
    (row (eqb kind COMPUTED) (2 * reads)
    (row (eqb (node nodes n GONE) 0) (row (eqb kind EFFECT) (2 * reads + owned) owned)
    0))

unfoldable pub reserve_in : List ℕ → ℕ
reserve_in nodes = min top (total (reserve_of nodes) (counted_in nodes))

-- 1 for a live effect
unfoldable pub effect_of : List ℕ → ℕ → ℕ
effect_of nodes n = row (eqb (node nodes n KIND) EFFECT) (row (eqb (node nodes n GONE) 0) 1 0) 0

unfoldable pub live_effects_in : List ℕ → ℕ
live_effects_in nodes = total (effect_of nodes) (counted_in nodes)
