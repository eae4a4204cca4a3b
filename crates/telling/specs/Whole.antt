-- Document 01, "Flags and tables at rest": what well-formed tables say of nodes. How nodes are linked, flagged and queued is the other half of the test.
use Rattle.std.specs.Prelude.{Bool, ◌&&◌, List, ℕ, ◌*◌, leb, ℤ, get_or, take}
use Rattle.primitive.specs.Words.{COUNT, USED}
use Rattle.counting.specs.Counts.{node_room, slot_room, cell_room, carry_in, reserve_in}
use Rattle.telling.specs.Nodes.{nodes_in}

-- the words of the cells in use
abbrev pub used_cells : List ℕ → List ℤ → List ℤ
used_cells nodes cells = take (get_or nodes USED 0 * 2) cells

unfoldable pub described_in : List ℕ → List ℕ → List ℤ → List ℤ → Bool
described_in nodes links values cells =
    carry_in nodes links values cells
    && (leb (get_or nodes COUNT 0) (node_room nodes)
    && (leb (get_or nodes USED 0) (cell_room cells)
    && (nodes_in nodes (used_cells nodes cells) (get_or nodes COUNT 0)
    && leb (reserve_in nodes) (slot_room links))))
