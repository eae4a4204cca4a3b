-- A subscriber reads a dependency: what link does, statement for statement.
use Rattle.std.specs.Prelude.{ℕ, Bool, true, false, List, eqb}
use Rattle.primitive.specs.Slots.{slot_of}
use Rattle.primitive.specs.declared.slots.Slot.{Slot}
use Rattle.primitive.specs.declared.slots.Slot.TheVariants.{At, Nothing}
use Rattle.linking.specs.declared.link.LinkInit.{LinkInit}
use Rattle.linking.specs.Free.{Fresh, fresh, taken}
use Rattle.linking.specs.Neighbours.{next_dep_of, set_beside}
use Rattle.primitive.specs.Words.{VERSION, DEP, SUB, PREV-SUB, NEXT-SUB, PREV-DEP, NEXT-DEP, DEPS, DEPS-TAIL, SUBS, SUBS-TAIL, node, link, set_node, set_link}
use Rattle.linking.specs.Table.{Tab, tab}

abbrev pub names_on : Slot → List ℕ → ℕ → Bool
names_on Nothing l dep = false
names_on (At s) l dep = eqb (link l s DEP) dep

-- the slot that w names depends on dep
unfoldable pub names : List ℕ → ℕ → ℕ → Bool
names l w dep = names_on (slot_of w) l dep

abbrev pub newest_on : Slot → List ℕ → ℕ → ℕ → Bool
newest_on Nothing l sub version = false
newest_on (At s) l sub version = elim (eqb (link l s VERSION) version) [ true ↦ eqb (link l s SUB) sub | false ↦ false ]

-- dep's last subscriber is sub at this version
unfoldable pub newest : Tab → ℕ → ℕ → ℕ → Bool
newest t dep sub version = newest_on (slot_of (node t.nodes dep SUBS-TAIL)) t.links sub version

-- the words of a link
unfoldable pub written : List ℕ → ℕ → LinkInit → List ℕ
written l s i =
    let a = set_link (set_link (set_link l s VERSION i.version) s DEP i.dep) s SUB i.sub in
    let b = set_link (set_link a s PREV-SUB i.prev_sub) s NEXT-SUB 0 in
    set_link (set_link b s PREV-DEP i.prev_dep) s NEXT-DEP i.next_dep

abbrev pub made_on : Slot → Fresh → LinkInit → Fresh
made_on Nothing f i = fresh 0 f.links
made_on (At s) f i = fresh f.word (written f.links s i)

-- a free slot with these words
unfoldable pub made : List ℕ → LinkInit → Fresh
made l i = made_on (slot_of (taken l).word) (taken l) i

abbrev pub set_back_on : Slot → List ℕ → ℕ → List ℕ
set_back_on Nothing l w = l
set_back_on (At s) l w = set_link l s PREV-DEP w

unfoldable pub set_back : List ℕ → ℕ → ℕ → List ℕ
set_back l next w = set_back_on (slot_of next) l w

-- both lists name the slot that w names
unfoldable pub joined : Tab → ℕ → LinkInit → Tab
joined t w i =
    let n = set_node (set_node t.nodes i.dep SUBS-TAIL w) i.sub DEPS-TAIL w in
    let a = tab n (set_back t.links i.next_dep w) in
    set_beside (set_beside a i.prev_dep NEXT-DEP i.sub DEPS w) i.prev_sub NEXT-SUB i.dep SUBS w

abbrev pub inserted_on : Slot → List ℕ → Fresh → LinkInit → Tab
inserted_on Nothing n f i = tab n f.links
inserted_on (At s) n f i = joined (tab n f.links) f.word i

-- a new link; where no slot is free nothing changes
unfoldable pub inserted : Tab → LinkInit → Tab
inserted t i = inserted_on (slot_of (made t.links i).word) t.nodes (made t.links i) i

abbrev pub reused_on : Slot → Tab → ℕ → ℕ → ℕ → Tab
reused_on Nothing t sub version w = t
reused_on (At s) t sub version w = tab (set_node t.nodes sub DEPS-TAIL w) (set_link t.links s VERSION version)

-- the link that w names has this version, and is sub's last so far
unfoldable pub reused : Tab → ℕ → ℕ → ℕ → Tab
reused t sub version w = reused_on (slot_of w) t sub version w

-- the new link of dep and sub: behind sub's last so far, and behind dep's last subscriber
unfoldable pub init_of : Tab → ℕ → ℕ → ℕ → LinkInit
init_of t dep sub version =
    let prev = node t.nodes sub DEPS-TAIL in
    record {
      version = version;
      dep = dep;
      sub = sub;
      prev_dep = prev;
      next_dep = next_dep_of t sub prev;
      prev_sub = node t.nodes dep SUBS-TAIL;
    }

-- sub's last so far depends on dep; the one after it does, and serves again; dep's last subscriber is sub at this version; or a new link
unfoldable pub linked : Tab → ℕ → ℕ → ℕ → Tab
linked t dep sub version =
    let i = init_of t dep sub version in
    elim (names t.links i.prev_dep dep) [
      | true ↦ t
      | false ↦ elim (names t.links i.next_dep dep) [
        | true ↦ reused t sub version i.next_dep
        | false ↦ elim (newest t dep sub version) [ true ↦ t | false ↦ inserted t i ]
      ]
    ]
