-- Worked examples, computed by the definitions over tables of eight nodes and six slots, all of them free at the start. Assumes nothing.
use mathlib.Core.Path.{◌≡◌, refl}
use mathlib.Core.List.{List, [], ◌∷◌}
use Prim.Native.Nat.{ℕ, zero, suc}
use lib.ListN.{replicate, get_or}
use Rattle.flags.specs.Flags.{bit}
use Rattle.primitive.specs.Rows.{has_field, field, set_field}
use Rattle.primitive.specs.Slots.{slot_of}
use Rattle.primitive.specs.declared.slots.Slot.{Slot}
use Rattle.primitive.specs.declared.slots.Slot.TheVariants.{At, Nothing}
use Rattle.linking.specs.Free.{is_live_slot, live_below, live, taken, released}
use Rattle.linking.specs.Neighbours.{next_dep_of, set_beside}
use Rattle.linking.specs.Link.{names, newest, written, made, set_back, joined, inserted, reused, init_of, linked}
use Rattle.linking.specs.Ring.{is_only, is_mutable, reset, retired, mended, cut_out, next_of, walked, purged_by, disposed_by, unwatched_by, unlinked_by, unlinked_n, unlinked, disposed, purged}
use Rattle.primitive.specs.Words.{FLAGS, GONE, DEPS, DEPS-TAIL, SUBS, SUBS-TAIL, VERSION, DEP, SUB, PREV-SUB, NEXT-SUB, PREV-DEP, NEXT-DEP, FREE, node, link, set_node}
use Rattle.linking.specs.Table.{Tab, tab}

-- n rows of the link table from row k on, each of them before the next on the free list
rows : ℕ → ℕ → List ℕ
rows zero k = []
rows (suc zero) k = replicate 8 0
rows (suc (suc n)) k = 0 ∷ 0 ∷ 0 ∷ 0 ∷ 0 ∷ 0 ∷ suc k ∷ 0 ∷ rows (suc n) (suc k)

-- nodes with these flags, from node n on
flagged : List ℕ → ℕ → List ℕ → List ℕ
flagged t n [] = t
flagged t n (f ∷ fs) = flagged (set_node t n FLAGS f) (suc n) fs

start : List ℕ → Tab
start fs = tab (flagged (replicate 144 0) 0 fs) (rows 7 0)

-- field g of the slots along field f, from the slot that a word names; at most m of them
along : ℕ → List ℕ → ℕ → ℕ → Slot → List ℕ
along zero l f g o = []
along (suc m) l f g Nothing = []
along (suc m) l f g (At s) = link l s g ∷ along m l f g (slot_of (link l s f))

-- whom node n reads, who reads it, each in both directions, and the free slots by the words that name the next
reads : Tab → ℕ → List ℕ
reads t n = along 9 t.links NEXT-DEP DEP (slot_of (node t.nodes n DEPS))

back_reads : Tab → ℕ → List ℕ
back_reads t n = along 9 t.links PREV-DEP DEP (slot_of (node t.nodes n DEPS-TAIL))

readers : Tab → ℕ → List ℕ
readers t n = along 9 t.links NEXT-SUB SUB (slot_of (node t.nodes n SUBS))

back_readers : Tab → ℕ → List ℕ
back_readers t n = along 9 t.links PREV-SUB SUB (slot_of (node t.nodes n SUBS-TAIL))

free : Tab → List ℕ
free t = get_or t.links FREE 0 ∷ along 9 t.links NEXT-DEP NEXT-DEP (slot_of (get_or t.links FREE 0))

-- ---- case 12: signal 0; C(0) is 1; E(0 + (1 + 0)) is 2, which reads 0, then 1, which reads 0, then 0. Four live links, two of them from 0 to the effect
twelve : Tab
twelve = linked (linked (linked (linked (start (1 ∷ 1 ∷ 2 ∷ [])) 0 2 0) 0 1 0) 1 2 0) 0 2 0

case_12 :
    (live twelve.links ≡ 4)
    × (readers twelve 0 ≡ 2 ∷ 1 ∷ 2 ∷ []) × (back_readers twelve 0 ≡ 2 ∷ 1 ∷ 2 ∷ [])
    × (reads twelve 2 ≡ 0 ∷ 1 ∷ 0 ∷ []) × (back_reads twelve 2 ≡ 0 ∷ 1 ∷ 0 ∷ [])
    × (reads twelve 1 ≡ 0 ∷ []) × (free twelve ≡ 5 ∷ 6 ∷ 0 ∷ [])
unfolding twelve reads back_reads readers back_readers free along live live_below is_live_slot start flagged rows linked init_of names newest next_dep_of inserted made written taken joined set_back set_beside reused field set_field has_field
case_12 = (refl, refl, refl, refl, refl, refl, refl)

-- the effect runs again at cycle 7 and reads 0 alone: the old link serves, with the new version, and the rest is purged from behind the tail. The computed has lost
-- its last subscriber: it is 17, and its own link goes before the effect's last
again : Tab
again = linked (tab (set_node twelve.nodes 2 DEPS-TAIL 0) twelve.links) 0 2 7

case_12_again :
    (live again.links ≡ 4) × (link again.links 0 VERSION ≡ 7) × (back_reads again 2 ≡ 0 ∷ [])
    × (live (purged again 2).links ≡ 1) × (readers (purged again 2) 0 ≡ 2 ∷ []) × (reads (purged again 2) 2 ≡ 0 ∷ [])
    × (node (purged again 2).nodes 1 FLAGS ≡ 17) × (reads (purged again 2) 1 ≡ []) × (node (purged again 2).nodes 1 GONE ≡ 0)
    × (free (purged again 2) ≡ 4 ∷ 2 ∷ 3 ∷ 5 ∷ 6 ∷ 0 ∷ [])
unfolding again twelve purged reads back_reads readers free along live live_below start flagged rows linked init_of names newest next_dep_of inserted made written taken joined set_back set_beside reused field set_field has_field unlinked unlinked_n unlinked_by unwatched_by disposed_by purged_by walked next_of cut_out mended retired reset is_mutable is_only released is_live_slot bit
case_12_again = (refl, refl, refl, refl, refl, refl, refl, refl, refl, refl)

-- ---- one signal, read by 1, 2 and 3, and two more read by 3: a middle reader, a middle dependency that is the only one of its signal, the first, the last
five : Tab
five = linked (linked (linked (linked (linked (start (1 ∷ 2 ∷ 2 ∷ 2 ∷ 1 ∷ 1 ∷ [])) 0 1 0) 0 2 0) 0 3 0) 4 3 0) 5 3 0

middle : Tab
middle = (unlinked (unlinked five 1 2).tabs 3 3).tabs

case_middle :
    ((unlinked five 1 2).next ≡ Nothing) × ((unlinked five 3 3).next ≡ At 4)
    × (readers middle 0 ≡ 1 ∷ 3 ∷ []) × (back_readers middle 0 ≡ 3 ∷ 1 ∷ [])
    × (reads middle 3 ≡ 0 ∷ 5 ∷ []) × (back_reads middle 3 ≡ 5 ∷ 0 ∷ [])
    × (reads middle 2 ≡ []) × (readers middle 4 ≡ []) × (node middle.nodes 4 FLAGS ≡ 1) × (free middle ≡ 4 ∷ 2 ∷ 6 ∷ 0 ∷ [])
unfolding five middle reads back_reads readers back_readers free along start flagged rows linked init_of names newest next_dep_of inserted made written taken joined set_back set_beside reused field set_field has_field unlinked unlinked_n unlinked_by unwatched_by disposed_by purged_by walked next_of cut_out mended retired reset is_mutable is_only released is_live_slot bit
case_middle = (refl, refl, refl, refl, refl, refl, refl, refl, refl, refl)

case_ends :
    (readers (unlinked middle 0 1).tabs 0 ≡ 3 ∷ []) × (back_readers (unlinked middle 0 1).tabs 0 ≡ 3 ∷ [])
    × ((unlinked middle 2 3).next ≡ At 4) × (reads (unlinked middle 2 3).tabs 3 ≡ 5 ∷ []) × (back_readers (unlinked middle 2 3).tabs 0 ≡ 1 ∷ [])
unfolding five middle reads back_reads readers back_readers free along start flagged rows linked init_of names newest next_dep_of inserted made written taken joined set_back set_beside reused field set_field has_field unlinked unlinked_n unlinked_by unwatched_by disposed_by purged_by walked next_of cut_out mended retired reset is_mutable is_only released is_live_slot bit
case_ends = (refl, refl, refl, refl, refl)

-- ---- signal 0, computeds 1 and 2, effect 3, each read by the next: the effect goes, and the computeds drop what they read. Last freed first
chain : Tab
chain = disposed (linked (linked (linked (start (17 ∷ 1 ∷ 33 ∷ 2 ∷ [])) 0 1 0) 1 2 0) 2 3 0) 3

case_chain :
    (live chain.links ≡ 0) × (free chain ≡ 1 ∷ 2 ∷ 3 ∷ 4 ∷ 5 ∷ 6 ∷ 0 ∷ [])
    × (node chain.nodes 0 FLAGS ≡ 17) × (node chain.nodes 1 FLAGS ≡ 17) × (node chain.nodes 2 FLAGS ≡ 17) × (node chain.nodes 3 FLAGS ≡ 0)
    × (node chain.nodes 2 GONE ≡ 0) × (node chain.nodes 3 GONE ≡ 1)
unfolding chain disposed free along live live_below start flagged rows linked init_of names newest next_dep_of inserted made written taken joined set_back set_beside reused field set_field has_field unlinked unlinked_n unlinked_by unwatched_by disposed_by purged_by walked next_of cut_out mended retired reset is_mutable is_only released is_live_slot bit
case_chain = (refl, refl, refl, refl, refl, refl, refl, refl)

-- ---- scope 4 owns effect 1, which owns effect 2, which reads signal 0 and owns scope 3: effect 1 goes, with all that it owns
owned : Tab
owned = disposed (linked (linked (linked (linked (start (1 ∷ 2 ∷ 2 ∷ 0 ∷ 0 ∷ [])) 1 4 0) 0 2 0) 2 1 0) 3 2 0) 1

case_owned :
    (live owned.links ≡ 0) × (free owned ≡ 1 ∷ 4 ∷ 2 ∷ 3 ∷ 5 ∷ 6 ∷ 0 ∷ [])
    × (node owned.nodes 1 GONE ≡ 1) × (node owned.nodes 2 GONE ≡ 1) × (node owned.nodes 3 GONE ≡ 1) × (node owned.nodes 4 GONE ≡ 0)
    × (node owned.nodes 0 FLAGS ≡ 1) × (node owned.nodes 2 FLAGS ≡ 0) × (reads owned 4 ≡ [])
unfolding owned disposed reads free along live live_below start flagged rows linked init_of names newest next_dep_of inserted made written taken joined set_back set_beside reused field set_field has_field unlinked unlinked_n unlinked_by unwatched_by disposed_by purged_by walked next_of cut_out mended retired reset is_mutable is_only released is_live_slot bit
case_owned = (refl, refl, refl, refl, refl, refl, refl, refl, refl)
