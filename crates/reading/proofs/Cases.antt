-- Small tables, computed: document 01's cases 1 and 3, a choose that switches branches, two arguments in turn, and a node that reads itself. Assumes nothing.
use mathlib.Core.Path.{◌≡◌, refl}
use mathlib.Core.Bool.{false}
use mathlib.Core.List.{List, [], ◌∷◌}
use Prim.Native.Nat.{ℕ, ◌+◌, ◌*◌}
use lib.IntN.{ℤ, pos}
use lib.ListN.{get_or, set, replicate}
use Rattle.flags.specs.Flags as flags
use Rattle.primitive.specs.Rows as rows
use Rattle.values.specs.Values as values
use Rattle.trees.specs.Cells as cells
use Rattle.trees.specs.Trees as trees
use Rattle.linking.specs.Free as free
use Rattle.linking.specs.Neighbours as neighbours
use Rattle.linking.specs.Link as links
use Rattle.linking.specs.Ring as unlinks
use Rattle.marking.specs.Fields as fields
use Rattle.marking.specs.Shallow as shallows
use Rattle.reading.specs.Tables.{State, state, Told, Got, rank_of, current_of, pending_of, set_current, set_pending, cycle_of, raised}
use Rattle.reading.specs.Steps.{woken, woken_others, updated_signal, waken_if, refreshed_signal, begun_first, begun, finished_first, finished, linked_to}
use Rattle.reading.specs.Ring.{read_by, two_by, choose_by, cell_by, evaluated_by, updated_computed_by, first_by, updated_by, settled_by, pending_by, dependency_by, dirty_by, onward, deps_by, checked_by, renewed_by, surely_by, refreshed_computed_by, refreshed_by, ring_n}
use Rattle.reading.specs.Read.{refreshed, read_of, checked, evaluated_for}

-- ---- tables by hand: four nodes, five slots, all of them free
abbrev word : List ℕ → ℕ → ℕ → ℕ → List ℕ
word t n f v = set t ((n + 1) * 16 + f) v

abbrev free_slots : List ℕ
free_slots = set (set (set (set (set (replicate 48 0) 6 1) 14 2) 22 3) 30 4) 38 5

abbrev signal : State → ℕ → ℤ → State
signal s n v = state (word (word s.nodes n 0 1) n 1 1) s.links (set (set s.values (n * 4) v) (n * 4 + 2) v)

-- a computed whose formula starts at cell i
abbrev computed : State → ℕ → ℕ → State
computed s n i = state (word (word s.nodes n 1 2) n 7 i) s.links s.values

-- a new pending value, and the flags as propagate leaves them
abbrev written : State → ℕ → ℤ → State
written s n v = state (word s.nodes n 0 17) s.links (set s.values (n * 4 + 2) v)

abbrev marked : State → ℕ → ℕ → State
marked s n f = state (word s.nodes n 0 f) s.links s.values

-- the formula of n starts at cell i
abbrev starting : State → ℕ → ℕ → State
starting s n i = state (word s.nodes n 7 i) s.links s.values

abbrev empty : State
empty = state (replicate 80 0) free_slots (replicate 16 (pos 0))

-- what is looked at: a node's flags, and the cycle
abbrev flags_at : State → ℕ → ℕ
flags_at s n = get_or s.nodes ((n + 1) * 16) 0

abbrev cycle_at : State → ℕ
cycle_at s = get_or s.links 0 0

-- ---- case 1: signal 5; C(0 + 1); read gives 6; set 0 7; read gives 8
abbrev plus_one : List ℤ
plus_one = pos 3 ∷ pos 0 ∷ pos 2 ∷ pos 0 ∷ pos 1 ∷ pos 1 ∷ []

abbrev first : Got
first = read_of plus_one (computed (signal empty 0 (pos 5)) 1 0) 1

abbrev second : Got
second = read_of plus_one (marked (written first.after 0 (pos 7)) 1 33) 1

-- the first evaluation leaves the cycle at 0, the second raises it
abbrev Case-1 : Type 0
Case-1 = (first.value ≡ values.value (pos 6)) × (cycle_at first.after ≡ 0) × (second.value ≡ values.value (pos 8)) × (cycle_at second.after ≡ 1) × (flags_at second.after 1 ≡ 1)

-- ---- case 3: signal 5; C(0 < 10); E(1); set 0 8: the check says unchanged, and nothing is pending any more
abbrev below_ten : List ℤ
below_ten = pos 7 ∷ pos 0 ∷ pos 2 ∷ pos 0 ∷ pos 1 ∷ pos 10 ∷ pos 2 ∷ pos 1 ∷ []

abbrev ran : State
ran = (evaluated_for below_ten (starting (computed (signal empty 0 (pos 5)) 1 0) 2 3) 2).after

abbrev asked : Told
asked = checked below_ten (marked (marked (written ran 0 (pos 8)) 1 33) 2 32) 2

abbrev Case-3 : Type 0
Case-3 = (asked.changed ≡ false) × (flags_at asked.after 1 ≡ 1) × (cycle_at asked.after ≡ 1) × (get_or asked.after.values 4 (pos 0) ≡ pos 1)

-- ---- choose(0, 1, 2): the switch drops the link to node 1 and makes one to node 2
abbrev either : List ℤ
either = pos 8 ∷ pos 0 ∷ pos 2 ∷ pos 0 ∷ pos 2 ∷ pos 1 ∷ pos 2 ∷ pos 2 ∷ []

abbrev three : State
three = computed (signal (signal (signal empty 0 (pos 1)) 1 (pos 20)) 2 (pos 30)) 3 0

abbrev one_way : Got
one_way = read_of either three 3

abbrev other_way : Got
other_way = read_of either (marked (written one_way.after 0 (pos 0)) 3 33) 3

-- a node's first subscriber
abbrev heard : State → ℕ → ℕ
heard s n = get_or s.nodes ((n + 1) * 16 + 5) 0

abbrev Switches : Type 0
Switches = (one_way.value ≡ values.value (pos 20)) × (heard one_way.after 1 ≡ 2) × (heard one_way.after 2 ≡ 0)
    × (other_way.value ≡ values.value (pos 30)) × (heard other_way.after 1 ≡ 0) × (heard other_way.after 2 ≡ 3)

-- ---- 0 + 1: the first argument is worked out first, and so its link is made first
abbrev both : List ℤ
both = pos 3 ∷ pos 0 ∷ pos 2 ∷ pos 0 ∷ pos 2 ∷ pos 1 ∷ []

abbrev told_in_turn : Got
told_in_turn = read_of both (computed (signal (signal empty 0 (pos 9)) 1 (pos 4)) 2 0) 2

abbrev Left-first : Type 0
Left-first = (told_in_turn.value ≡ values.value (pos 13)) × (heard told_in_turn.after 0 ≡ 1) × (heard told_in_turn.after 1 ≡ 2)

-- ---- a formula that reads its own node, which no command makes: 0, and no link
abbrev own : Got
own = read_of (pos 2 ∷ pos 0 ∷ []) (computed empty 0 0) 0

abbrev Reads-itself : Type 0
Reads-itself = (own.value ≡ values.value (pos 0)) × (heard own.after 0 ≡ 0)

pub cases : Case-1 × Case-3 × Switches × Left-first × Reads-itself
unfolding rank_of current_of pending_of set_current set_pending cycle_of raised woken woken_others updated_signal waken_if refreshed_signal begun_first begun finished_first finished linked_to read_by two_by choose_by cell_by evaluated_by updated_computed_by first_by updated_by settled_by pending_by dependency_by dirty_by onward deps_by checked_by renewed_by surely_by refreshed_computed_by refreshed_by ring_n refreshed read_of checked evaluated_for flags.bit rows.has_field rows.field rows.set_field values.clamp values.sum values.less values.same_number values.same values.is_zero values.value_at values.set_value cells.bare_of cells.read_of cells.codes cells.cell_of cells.arity_of cells.cell_at cells.settled cells.end_of trees.apply free.is_live_slot free.live_below free.live free.taken free.released neighbours.next_dep_of neighbours.set_beside links.names links.newest links.written links.made links.set_back links.joined links.inserted links.reused links.init_of links.linked unlinks.is_only unlinks.is_mutable unlinks.reset unlinks.retired unlinks.mended unlinks.cut_out unlinks.next_of unlinks.walked unlinks.purged_by unlinks.disposed_by unlinks.unwatched_by unlinks.unlinked_by unlinks.unlinked_n unlinks.unlinked unlinks.unwatched unlinks.disposed unlinks.purged fields.has fields.lacks fields.has_only shallows.raised shallows.dirtied shallows.further shallows.shallow_from shallows.shallow
cases = ((refl, refl, refl, refl, refl), (refl, refl, refl, refl), (refl, refl, refl, refl, refl, refl), (refl, refl, refl), (refl, refl))
