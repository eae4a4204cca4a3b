-- Worked examples, computed: a diamond, a walk that comes back, case 9, two effects woken one by one, shallow marks, and the five branches at single bytes.
-- Assumes nothing.
use mathlib.Core.Path.{◌≡◌, refl}
use mathlib.Core.Bool.{true, false}
use mathlib.Core.List.{List, [], ◌∷◌}
use Prim.Native.Nat.{ℕ}
use Rattle.queue.specs.Queue.{count, entry_at, pushed, swapped, reversed, reversed_from, entries, queue_of}
use Rattle.primitive.specs.Rows.{has_field, field, set_field}
use Rattle.stack.specs.Stack.{pushed_len}
use Rattle.marking.specs.Fields.{flags_of, has, lacks, has_only}
use Rattle.marking.specs.Notify.{queued, owner_of, climbed, notified}
use Rattle.marking.specs.Valid.{valid_at, valid_from, valid_link}
use Rattle.marking.specs.Visits.{visit_of, visit, after, stored, reached}
use Rattle.marking.specs.Visits.Visit.{Skip, Mark}
use Rattle.marking.specs.Walks.{below, down, back, along, onward, turn, walked, propagated}
use Rattle.marking.specs.Shallow.{raised, dirtied, further, shallow_from, shallow}

-- ---- rows: a node of flags f with the words of its four ends, and the rows behind it
abbrev node : ℕ → ℕ → ℕ → ℕ → ℕ → List ℕ → List ℕ
node f deps deps_tail subs subsTail N = f ∷ 0 ∷ 0 ∷ deps ∷ deps_tail ∷ subs ∷ subsTail ∷ 0 ∷ 0 ∷ 0 ∷ 0 ∷ 0 ∷ 0 ∷ 0 ∷ 0 ∷ 0 ∷ N

-- a live link with the words of its four neighbours
abbrev link : ℕ → ℕ → ℕ → ℕ → ℕ → ℕ → List ℕ → List ℕ
link dep sub prevSub next_sub_of prev_dep_of next_dep_of L = 0 ∷ dep ∷ sub ∷ prevSub ∷ next_sub_of ∷ prev_dep_of ∷ next_dep_of ∷ 1 ∷ L

-- row 0 of either
abbrev nodes : List ℕ → List ℕ
nodes N = node 0 0 0 0 0 N

abbrev links : List ℕ → List ℕ
links L = 0 ∷ 0 ∷ 0 ∷ 0 ∷ 0 ∷ 0 ∷ 0 ∷ 0 ∷ L

-- the flags of nodes 0 to 3
abbrev flags : List ℕ → List ℕ
flags N = flags_of N 0 ∷ flags_of N 1 ∷ flags_of N 2 ∷ flags_of N 3 ∷ []

-- ---- a diamond: signal 0, computeds 1 and 2 of flags c, effect 3 of flags f
abbrev diamond_nodes : ℕ → ℕ → List ℕ
diamond_nodes c f = nodes (node 17 0 0 1 2 (node c 1 1 3 3 (node c 2 2 4 4 (node f 3 4 0 0 []))))

abbrev diamond_links : List ℕ
diamond_links = links (link 0 1 0 2 0 0 (link 0 2 1 0 0 0 (link 1 3 0 0 0 4 (link 2 3 0 0 3 0 []))))

-- ---- a tree: signal 0, computeds 1 and 2 and effect 6; effects 3 and 4 of the first computed, 5 of the second
abbrev tree_nodes : List ℕ
tree_nodes =
    nodes
    (node 17 0 0 1 3
    (node 1 1 1 4 5 (node 1 2 2 6 6 (node 2 4 4 0 0 (node 2 5 5 0 0 (node 2 6 6 0 0 (node 2 3 3 0 0 [])))))))

abbrev tree_links : List ℕ
tree_links = links (link 0 1 0 2 0 0 (link 0 2 1 3 0 0 (link 0 6 2 0 0 0 (link 1 3 0 5 0 0 (link 1 4 4 0 0 0 (link 2 5 0 0 0 0 []))))))

-- ---- document 01, case 9: signals 0 and 1; effect 2 reads 0 and owns effect 3, which reads 1
abbrev owner_nodes : List ℕ
owner_nodes = nodes (node 1 0 0 1 1 (node 17 0 0 3 3 (node 2 1 2 0 0 (node 2 3 3 2 2 []))))

abbrev owner_links : List ℕ
owner_links = links (link 0 2 0 0 0 2 (link 3 2 0 0 1 0 (link 1 3 0 0 0 0 [])))

-- ---- signals 0 and 1, effect 2 of the first, effect 3 of the second
abbrev two_nodes : List ℕ
two_nodes = nodes (node 17 0 0 1 1 (node 17 0 0 2 2 (node 2 1 1 0 0 (node 2 2 2 0 0 []))))

abbrev two_links : List ℕ
two_links = links (link 0 2 0 0 0 0 (link 1 3 0 0 0 0 []))

-- ---- tables N have these flags and this queue
abbrev Shows : List ℕ → List ℕ → List ℕ → Type 0
Shows N fs q = (flags N ≡ fs) × (queue_of N ≡ q)

pub record Propagates : Type 0 where
  -- each node is marked once, and the effect is queued once
  pub diamond : Shows (propagated diamond_links (diamond_nodes 1 2) 0) (17 ∷ 33 ∷ 33 ∷ 32 ∷ []) (3 ∷ [])
  -- the walk comes back to what it left aside and goes on from there, and effects are queued as they are met
  pub tree : Shows (propagated tree_links tree_nodes 0) (17 ∷ 33 ∷ 33 ∷ 32 ∷ []) (3 ∷ 4 ∷ 5 ∷ 6 ∷ [])
  -- a set of signal 1 queues the owner before its child
  pub owner_first : Shows (propagated owner_links owner_nodes 2) (1 ∷ 17 ∷ 0 ∷ 32 ∷ []) (2 ∷ 3 ∷ [])
  -- effects woken one after the other keep their order
  pub one_by_one : Shows (propagated two_links (propagated two_links two_nodes 0) 1) (17 ∷ 17 ∷ 32 ∷ 32 ∷ []) (2 ∷ 3 ∷ [])

pub propagates : Propagates
unfolding propagated walked turn onward along back down below reached visit visit_of after stored valid_link valid_from valid_at notified climbed owner_of queued has lacks field set_field has_field count entry_at pushed swapped reversed reversed_from entries queue_of pushed_len
propagates = record { diamond = (refl, refl); tree = (refl, refl); owner_first = (refl, refl); one_by_one = (refl, refl) }

pub record Shallows : Type 0 where
  -- all pending subscribers of the signal become dirty
  pub along : Shows (shallow diamond_links (diamond_nodes 33 32) 0) (17 ∷ 49 ∷ 49 ∷ 32 ∷ []) []
  -- a pending effect that watches is notified, unless it is being checked
  pub wakes : Shows (shallow diamond_links (diamond_nodes 1 34) 2) (17 ∷ 1 ∷ 1 ∷ 48 ∷ []) (3 ∷ [])
  pub checked : Shows (shallow diamond_links (diamond_nodes 1 38) 2) (17 ∷ 1 ∷ 1 ∷ 54 ∷ []) []

pub shallows : Shallows
unfolding shallow shallow_from further dirtied raised has_only notified climbed owner_of queued lacks field set_field has_field count entry_at pushed swapped reversed reversed_from entries queue_of
shallows = record { along = (refl, refl); wakes = (refl, refl); checked = (refl, refl) }

-- the effect of the diamond has the links 2 and 3
pub record Valid : Type 0 where
  pub first : valid_link diamond_links (diamond_nodes 1 2) 2 3 ≡ true
  pub last : valid_link diamond_links (diamond_nodes 1 2) 3 3 ≡ true
  pub other : valid_link diamond_links (diamond_nodes 1 2) 1 3 ≡ false

pub valid : Valid
unfolding valid_link valid_from valid_at field has_field
valid = record { first = refl; last = refl; other = refl }

-- the five branches of a visit, at single bytes
pub record Visited : Type 0 where
  pub clean : (visit_of 0 false ≡ Mark 32 0) × (visit_of 1 false ≡ Mark 33 1) × (visit_of 2 false ≡ Mark 34 2)
  pub changed : (visit_of 17 true ≡ Skip) × (visit_of 33 true ≡ Skip) × (visit_of 49 true ≡ Skip) × (visit_of 32 true ≡ Skip) × (visit_of 48 true ≡ Skip)
  pub recursed : (visit_of 9 false ≡ Mark 33 9) × (visit_of 57 false ≡ Mark 49 57)
  pub checked : (visit_of 5 true ≡ Mark 45 1) × (visit_of 7 true ≡ Mark 47 1)
  pub otherwise : (visit_of 5 false ≡ Skip) × (visit_of 37 true ≡ Skip) × (visit_of 21 true ≡ Skip)

pub visited : Visited
unfolding visit_of lacks
visited = record { clean = (refl, refl, refl); changed = (refl, refl, refl, refl, refl); recursed = (refl, refl); checked = (refl, refl); otherwise = (refl, refl, refl) }
