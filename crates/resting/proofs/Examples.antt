-- Small tables that pass, and the same with a word or two changed, by computing. Case 12 of document 01: two of the four live links go from node 0 to node 2.
-- And an effect that owns one of two others, the second gone. Assumes nothing.
use mathlib.Core.Path.{◌≡◌, refl}
use mathlib.Core.Bool.{Bool, true, false}
use mathlib.Core.List.{List, [], ◌∷◌}
use Prim.Native.Nat.{ℕ}
use lib.IntN.{ℤ, pos}
use lib.ListN.{set}
use Rattle.primitive.specs.Rows.{field, has_field}
use Rattle.queue.specs.Queue.{count, queue_of, entries, entry_at}
use Rattle.trees.specs.Cells.{read_of, bare_of, codes, cell_of, name_of, cell_at}
use Rattle.trees.specs.Legal.{read_kind, readable_in}
use Rattle.trees.specs.Names.{named}
use Rattle.counting.specs.Counts.{counted_in}
use Rattle.lists.specs.Sum.{sum}
use Rattle.lists.specs.Walk.{slots, run, runs}
use Rattle.lists.specs.Each.{every, along, tally}
use Rattle.lists.specs.Once.{scan, stamp}
use Rattle.resting.specs.Blank.{blank}
use Rattle.resting.specs.Linked.{is_live_slot, fits, spare, walks, frees, linked_in}
use Rattle.resting.specs.Depends.{owner_is, may_depend, depends_on, depends_at, only_to, owned_on, owned_at}
use Rattle.resting.specs.Named.{reads_from, names_of, stamp_node, stamped, links_stamped, named_from, named_in}
use Rattle.resting.specs.Flagged.{signal_flags, computed_flags, effect_flags, gone_flags, flags_on}
use Rattle.resting.specs.Queued.{waits_on, may_wait, lives, due, scanned, idle, queued_in}
use Rattle.resting.specs.Joined.{flagged_at, rests_at, rest_in, joined_in}
use Rattle.resting.specs.AtRest.{subs_of, deps_of}

nodes : List ℕ
nodes =
    0 ∷ 0 ∷ 0 ∷ 0 ∷ 0 ∷ 0 ∷ 0 ∷ 3 ∷ 6 ∷ 0 ∷ 0 ∷ 0 ∷ 0 ∷ 0 ∷ 0 ∷ 0 ∷
    1 ∷ 1 ∷ 0 ∷ 0 ∷ 0 ∷ 1 ∷ 4 ∷ 0 ∷ 0 ∷ 0 ∷ 0 ∷ 0 ∷ 0 ∷ 0 ∷ 0 ∷ 0 ∷
    1 ∷ 2 ∷ 0 ∷ 2 ∷ 2 ∷ 3 ∷ 3 ∷ 0 ∷ 1 ∷ 1 ∷ 0 ∷ 1 ∷ 0 ∷ 0 ∷ 0 ∷ 0 ∷
    2 ∷ 3 ∷ 0 ∷ 1 ∷ 4 ∷ 0 ∷ 0 ∷ 1 ∷ 5 ∷ 3 ∷ 0 ∷ 1 ∷ 0 ∷ 0 ∷ 0 ∷ 0 ∷ []

links : List ℕ
links =
    0 ∷ 0 ∷ 0 ∷ 0 ∷ 0 ∷ 0 ∷ 5 ∷ 0 ∷
    0 ∷ 0 ∷ 2 ∷ 0 ∷ 2 ∷ 0 ∷ 3 ∷ 1 ∷
    0 ∷ 0 ∷ 1 ∷ 1 ∷ 4 ∷ 0 ∷ 0 ∷ 1 ∷
    0 ∷ 1 ∷ 2 ∷ 0 ∷ 0 ∷ 1 ∷ 4 ∷ 1 ∷
    0 ∷ 0 ∷ 2 ∷ 2 ∷ 0 ∷ 3 ∷ 0 ∷ 1 ∷
    7 ∷ 7 ∷ 7 ∷ 7 ∷ 7 ∷ 7 ∷ 0 ∷ 0 ∷ []

cells : List ℤ
cells = pos 2 ∷ pos 0 ∷ pos 3 ∷ pos 0 ∷ pos 2 ∷ pos 0 ∷ pos 3 ∷ pos 0 ∷ pos 2 ∷ pos 1 ∷ pos 2 ∷ pos 0 ∷ []

owned : List ℕ
owned =
    0 ∷ 0 ∷ 0 ∷ 0 ∷ 0 ∷ 0 ∷ 0 ∷ 3 ∷ 0 ∷ 0 ∷ 0 ∷ 0 ∷ 0 ∷ 0 ∷ 0 ∷ 0 ∷
    2 ∷ 3 ∷ 0 ∷ 1 ∷ 1 ∷ 0 ∷ 0 ∷ 0 ∷ 1 ∷ 0 ∷ 0 ∷ 1 ∷ 0 ∷ 0 ∷ 0 ∷ 0 ∷
    2 ∷ 3 ∷ 0 ∷ 0 ∷ 0 ∷ 1 ∷ 1 ∷ 0 ∷ 1 ∷ 0 ∷ 1 ∷ 2 ∷ 0 ∷ 0 ∷ 0 ∷ 0 ∷
    0 ∷ 3 ∷ 1 ∷ 0 ∷ 0 ∷ 0 ∷ 0 ∷ 0 ∷ 1 ∷ 0 ∷ 1 ∷ 2 ∷ 0 ∷ 0 ∷ 0 ∷ 0 ∷ []

owns : List ℕ
owns =
    0 ∷ 0 ∷ 0 ∷ 0 ∷ 0 ∷ 0 ∷ 2 ∷ 0 ∷
    0 ∷ 1 ∷ 0 ∷ 0 ∷ 0 ∷ 0 ∷ 0 ∷ 1 ∷
    0 ∷ 0 ∷ 0 ∷ 0 ∷ 0 ∷ 0 ∷ 0 ∷ 0 ∷ []

lone : List ℤ
lone = pos 1 ∷ pos 7 ∷ []

-- the lists that are decoded
subs_of_signal : subs_of nodes links 0 ≡ 0 ∷ 1 ∷ 3 ∷ []
unfolding nodes links slots field has_field
subs_of_signal = refl

deps_of_effect : deps_of nodes links 2 ≡ 0 ∷ 2 ∷ 3 ∷ []
unfolding nodes links slots field has_field
deps_of_effect = refl

passing : List Bool
passing =
    -- as they stand
    joined_in nodes links cells ∷
    -- the signal is set, and the computed may have to be worked out again
    joined_in (set (set nodes 16 17) 32 33) links cells ∷
    -- inside a batch the effect waits in the queue
    joined_in (set (set (set (set nodes 9 1) 12 1) 28 2) 48 48) links cells ∷
    -- words without meaning: a spare column, an entry past the queue, the formula of a signal, a free slot, the cycle
    joined_in (set (set (set nodes 29 5) 44 99) 23 88) (set (set links 0 55) 41 1) cells ∷
    -- as they stand: the gone effect 2 has flags 0 and is not queued
    joined_in owned owns lone ∷
    -- it is still queued
    joined_in (set (set (set owned 9 1) 12 1) 28 2) owns lone ∷
    -- the owner waits with flags 0
    joined_in (set (set (set owned 9 1) 12 1) 16 0) owns lone ∷
    []

all_pass : passing ≡ true ∷ true ∷ true ∷ true ∷ true ∷ true ∷ true ∷ []
unfolding passing nodes links cells owned owns lone
    joined_in rest_in rests_at linked_in walks frees run runs fits spare is_live_slot depends_at depends_on may_depend owner_is owned_at owned_on only_to flagged_at flags_on signal_flags computed_flags effect_flags gone_flags reads_from named_in named_from names_of stamp_node links_stamped stamped queued_in scanned idle due may_wait waits_on lives blank every along tally scan stamp sum counted_in count queue_of entries entry_at readable_in read_kind named name_of cell_at cell_of codes read_of bare_of field has_field
all_pass = refl

refused : List Bool
refused =
    -- slot 3 points back at slot 0 in place of slot 1
    joined_in nodes (set links 35 1) cells ∷
    -- the signal's tail is slot 2
    joined_in (set nodes 22 3) links cells ∷
    -- the free list is cut off
    joined_in nodes (set links 6 0) cells ∷
    -- the free list goes round
    joined_in nodes (set links 46 5) cells ∷
    -- the signal's list goes round
    joined_in nodes (set links 36 1) cells ∷
    -- a computed with dependencies has flags 17
    joined_in (set nodes 32 17) links cells ∷
    -- the effect lost WATCHING and is not queued
    joined_in (set nodes 48 32) links cells ∷
    -- it is queued with WATCHING
    joined_in (set (set (set nodes 9 1) 12 1) 28 2) links cells ∷
    -- it is queued twice
    joined_in (set (set (set (set (set nodes 9 1) 12 2) 28 2) 44 2) 48 32) links cells ∷
    -- it is queued at depth 0
    joined_in (set (set (set nodes 12 1) 28 2) 48 32) links cells ∷
    -- batches nest 65 deep
    joined_in (set nodes 9 65) links cells ∷
    -- the effect has two read cells and three read links
    joined_in (set nodes 57 2) links cells ∷
    -- the computed is a signal, which depends on nothing
    joined_in (set nodes 33 1) links cells ∷
    -- the cell that reads node 1 is a constant, and a link goes there
    joined_in nodes links (set cells 8 (pos 1)) ∷
    -- effect 1 is not owned, and has a subscriber link
    joined_in (set owned 42 0) owns lone ∷
    -- effect 1 is gone, and has one
    joined_in (set owned 34 1) owns lone ∷
    -- effect 2 lives, and has none
    joined_in (set (set owned 50 0) 48 2) owns lone ∷
    -- the gone effect is queued with flags 2
    joined_in (set (set (set (set owned 9 1) 12 1) 28 2) 48 2) owns lone ∷
    -- the owner is queued with flags 32 and has no read link: an owned node is not enough
    joined_in (set (set (set owned 9 1) 12 1) 16 32) owns lone ∷
    []

all_refused : refused ≡ false ∷ false ∷ false ∷ false ∷ false ∷ false ∷ false ∷ false ∷ false ∷ false ∷ false ∷ false ∷ false ∷ false ∷ false ∷ false ∷ false ∷ false ∷ false ∷ []
unfolding refused nodes links cells owned owns lone
    joined_in rest_in rests_at linked_in walks frees run runs fits spare is_live_slot depends_at depends_on may_depend owner_is owned_at owned_on only_to flagged_at flags_on signal_flags computed_flags effect_flags gone_flags reads_from named_in named_from names_of stamp_node links_stamped stamped queued_in scanned idle due may_wait waits_on lives blank every along tally scan stamp sum counted_in count queue_of entries entry_at readable_in read_kind named name_of cell_at cell_of codes read_of bare_of field has_field
all_refused = refl
