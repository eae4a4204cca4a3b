-- How links go: unlink, unwatched, dispose and purge call each other in a ring. Only unlink recurses, on a bound of the live links; the others take it as an argument.
use Rattle.std.specs.Prelude.{ℕ, zero, suc, ◌+◌, ◌%◌, ◌≤◌, ◌≡◌, Bool, true, false, List, eqb}
use Rattle.flags.specs.Flags.{bit}
use Rattle.primitive.specs.Slots.{slot_of}
use Rattle.primitive.specs.declared.slots.Slot.{Slot}
use Rattle.primitive.specs.declared.slots.Slot.TheVariants.{At, Nothing}
use Rattle.linking.specs.Free.{is_live_slot, slots, live, released}
use Rattle.linking.specs.Neighbours.{next_dep_of, set_beside}
use Rattle.primitive.specs.Words.{FLAGS, GONE, DEPS, DEPS-TAIL, SUBS, SUBS-TAIL, DEP, SUB, PREV-SUB, NEXT-SUB, PREV-DEP, NEXT-DEP, node, link, set_node}
use Rattle.linking.specs.Table.{Tab, tab}

abbrev pub is_only_on : Slot → List ℕ → ℕ → Bool
is_only_on Nothing l s = eqb (link l s NEXT-SUB) 0
is_only_on (At p) l s = false

-- slot s is its dependency's only subscriber
unfoldable pub is_only : List ℕ → ℕ → Bool
is_only l s = is_only_on (slot_of (link l s PREV-SUB)) l s

-- the flags, the low byte of their word, have MUTABLE
unfoldable pub is_mutable : List ℕ → ℕ → Bool
is_mutable t n = bit 0 (node t n FLAGS % 256)

-- no dependency is kept, and these are the flags
unfoldable pub reset : List ℕ → ℕ → ℕ → List ℕ
reset t n f = set_node (set_node t n DEPS-TAIL 0) n FLAGS f

-- gone for good
unfoldable pub retired : List ℕ → ℕ → List ℕ
retired t n = set_node (reset t n 0) n GONE 1

-- the neighbours of slot s in both of its lists stand beside each other
unfoldable pub mended : Tab → ℕ → ℕ → Tab
mended t s sub =
    let dep = link t.links s DEP in
    let prev_dep_of = link t.links s PREV-DEP in
    let next_dep_of = link t.links s NEXT-DEP in
    let prevSub = link t.links s PREV-SUB in
    let next_sub_of = link t.links s NEXT-SUB in
    let a = set_beside t next_dep_of PREV-DEP sub DEPS-TAIL prev_dep_of in
    let b = set_beside a prev_dep_of NEXT-DEP sub DEPS next_dep_of in
    let c = set_beside b next_sub_of PREV-SUB dep SUBS-TAIL prevSub in
    set_beside c prevSub NEXT-SUB dep SUBS next_sub_of

-- and it is free
unfoldable pub cut_out : Tab → ℕ → ℕ → Tab
cut_out t s sub = tab (mended t s sub).nodes (released (mended t s sub).links s)

-- what comes after a live slot among its subscriber's dependencies
unfoldable pub next_of : List ℕ → ℕ → Slot
next_of l s = elim (is_live_slot l s) [ true ↦ slot_of (link l s NEXT-DEP) | false ↦ Nothing ]

-- ---- the ring, with u for unlink
-- the turns of a purge, m of them at most: d is the slot at hand
unfoldable pub walked : (Tab → ℕ → ℕ → Tab) → ℕ → Tab → Slot → ℕ → Tab
walked u zero t d sub = t
walked u (suc m) t Nothing sub = t
walked u (suc m) t (At s) sub = walked u m (u t s sub) (next_of t.links s) sub

-- the dependencies behind the tail go
unfoldable pub purged_by : (Tab → ℕ → ℕ → Tab) → ℕ → Tab → ℕ → Tab
purged_by u k t sub = walked u (suc k) t (slot_of (next_dep_of t sub (node t.nodes sub DEPS-TAIL))) sub

abbrev pub disowned : (Tab → ℕ → ℕ → Tab) → Tab → Slot → Tab
disowned u t Nothing = t
disowned u t (At s) = u t s (link t.links s SUB)

-- gone, with its dependencies, and then its own link to its owner
unfoldable pub disposed_by : (Tab → ℕ → ℕ → Tab) → ℕ → Tab → ℕ → Tab
disposed_by u k t n =
    let p = purged_by u k (tab (retired t.nodes n) t.links) n in
    disowned u p (slot_of (node p.nodes n SUBS))

abbrev pub dropped_by : (Tab → ℕ → ℕ → Tab) → ℕ → Tab → ℕ → Slot → Tab
dropped_by u k t n Nothing = t
dropped_by u k t n (At s) = purged_by u k (tab (reset t.nodes n 17) t.links) n

-- an effect or scope is disposed of; a computed that has dependencies is MUTABLE and DIRTY, 17, and drops them
unfoldable pub unwatched_by : (Tab → ℕ → ℕ → Tab) → ℕ → Tab → ℕ → Tab
unwatched_by u k t n =
    elim (is_mutable t.nodes n) [
      | true ↦ dropped_by u k t n (slot_of (node t.nodes n DEPS-TAIL))
      | false ↦ disposed_by u k t n
    ]

-- a live slot goes, and its dependency is told where it was the only subscriber, by w
unfoldable pub unlinked_by : (Tab → ℕ → Tab) → Tab → ℕ → ℕ → Tab
unlinked_by w t s sub =
    elim (is_live_slot t.links s) [
      | true ↦ elim (is_only t.links s) [ true ↦ w (cut_out t s sub) (link t.links s DEP) | false ↦ cut_out t s sub ]
      | false ↦ t
    ]

-- with at most k slots live
unfoldable pub unlinked_n : ℕ → Tab → ℕ → ℕ → Tab
unlinked_n zero t s sub = t
unlinked_n (suc k) t s sub = unlinked_by (unwatched_by (unlinked_n k) k) t s sub

-- ---- what callers cite: the bound is the number of slots
pub record Out : Type 0 where
  pub next : Slot
  pub tabs : Tab

abbrev pub out : Slot → Tab → Out
out r t = record { next = r; tabs = t }

unfoldable pub unlinked : Tab → ℕ → ℕ → Out
unlinked t s sub = out (next_of t.links s) (unlinked_n (slots t.links) t s sub)

unfoldable pub unwatched : Tab → ℕ → Tab
unwatched t n = unwatched_by (unlinked_n (slots t.links)) (slots t.links) t n

unfoldable pub disposed : Tab → ℕ → Tab
disposed t n = disposed_by (unlinked_n (slots t.links)) (slots t.links) t n

unfoldable pub purged : Tab → ℕ → Tab
purged t sub = purged_by (unlinked_n (slots t.links)) (slots t.links) t sub

-- ---- what the members of the ring promise each other: for every bound that is enough
abbrev pub more : Slot → ℕ
more (At s) = 1
more Nothing = 0

pub record Unlinks (t : Tab) (s sub : ℕ) (r : Slot) (u : Tab) : Type 0 where
  pub same : (k : ℕ) → live t.links ≤ k → u ≡ unlinked_n k t s sub
  pub fewer : live u.links + more r ≤ live t.links
  pub next : r ≡ next_of t.links s

pub record Runs (t : Tab) (f : ℕ → Tab) (u : Tab) : Type 0 where
  pub same : (k : ℕ) → live t.links ≤ k → u ≡ f k
  pub fewer : live u.links ≤ live t.links

abbrev pub Unwatches : Tab → ℕ → Tab → Type 0
Unwatches t n u = Runs t (λ k. unwatched_by (unlinked_n k) k t n) u

abbrev pub Disposes : Tab → ℕ → Tab → Type 0
Disposes t n u = Runs t (λ k. disposed_by (unlinked_n k) k t n) u

abbrev pub Purges : Tab → ℕ → Tab → Type 0
Purges t sub u = Runs t (λ k. purged_by (unlinked_n k) k t sub) u
