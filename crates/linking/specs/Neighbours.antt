-- What stands beside a place in a list: a link's word, or the node's head or tail where there is no link.
use Rattle.std.specs.Prelude.{ℕ}
use Rattle.primitive.specs.Slots.{slot_of}
use Rattle.primitive.specs.declared.slots.Slot.{Slot}
use Rattle.primitive.specs.declared.slots.Slot.TheVariants.{At, Nothing}
use Rattle.primitive.specs.Words.{DEPS, NEXT-DEP, node, link, set_node, set_link}
use Rattle.linking.specs.Table.{Tab, tab}

abbrev pub next_dep_on : Slot → Tab → ℕ → ℕ
next_dep_on Nothing t sub = node t.nodes sub DEPS
next_dep_on (At p) t sub = link t.links p NEXT-DEP

-- what follows prev in sub's dependency list
unfoldable pub next_dep_of : Tab → ℕ → ℕ → ℕ
next_dep_of t sub prev = next_dep_on (slot_of prev) t sub

abbrev pub set_beside_on : Slot → Tab → ℕ → ℕ → ℕ → ℕ → Tab
set_beside_on Nothing t f n g w = tab (set_node t.nodes n g w) t.links
set_beside_on (At s) t f n g w = tab t.nodes (set_link t.links s f w)

-- field f of the slot that beside names, or field g of node n where it names nothing, becomes w
unfoldable pub set_beside : Tab → ℕ → ℕ → ℕ → ℕ → ℕ → Tab
set_beside t beside f n g w = set_beside_on (slot_of beside) t f n g w
