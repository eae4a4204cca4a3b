-- Document 01, "Flags and tables at rest", second bullet: what depends on what, and the links of owned, unowned and gone nodes.
use Rattle.std.specs.Prelude.{ℕ, zero, suc, Bool, true, false, List, eqb, ltb}
use Rattle.primitive.specs.Words.{COMPUTED, EFFECT, SCOPE, KIND, GONE, OWNER, DEPS, SUBS, DEP, SUB, NEXT-SUB, NEXT-DEP, node, link}
use Rattle.trees.specs.Legal.{readable_in}
use Rattle.lists.specs.Each.{both, either, pick, along}
use Rattle.counting.specs.Counts.{slot_room}

-- computeds and effects read; effects and scopes own
abbrev pub reads_kind : ℕ → Bool
reads_kind kind = either (eqb kind COMPUTED) (eqb kind EFFECT)

abbrev pub owns_kind : ℕ → Bool
owns_kind kind = either (eqb kind EFFECT) (eqb kind SCOPE)

-- what can be read: it is lower, and this kind reads; what can not: it is owned by the node, and this kind owns
abbrev pub may_on : Bool → ℕ → Bool → Bool → Bool
may_on true kind lower owned = both (reads_kind kind) lower
may_on false kind lower owned = both (owns_kind kind) owned

-- an owner's word is 0 for none and o + 1 for o
unfoldable pub owner_is : ℕ → ℕ → Bool
owner_is zero n = false
owner_is (suc o) n = eqb o n

-- the order in which formulas read: today the number
abbrev pub rank : ℕ → ℕ
rank n = n

-- node n may depend on node d: a computed on lower signals and computeds; an effect on those and on what it owns; a scope on what it owns only; a signal on nothing
unfoldable pub may_depend : List ℕ → ℕ → ℕ → Bool
may_depend t n d = may_on (readable_in t d) (node t n KIND) (ltb (rank d) (rank n)) (owner_is (node t d OWNER) n)

-- each link of a dependency list, from the word w, at most b of them
unfoldable pub depends_on : List ℕ → List ℕ → ℕ → ℕ → ℕ → Bool
depends_on t l n b w = along (λ (x : ℕ). link l x NEXT-DEP) (λ (x : ℕ). may_depend t n (link l x DEP)) b w

unfoldable pub depends_at : List ℕ → List ℕ → ℕ → Bool
depends_at t l n = depends_on t l n (slot_room l) (node t n DEPS)

-- slot x is the last of its subscriber list, and its subscriber is o
unfoldable pub only_to : List ℕ → ℕ → ℕ → Bool
only_to l o x = both (eqb (link l x NEXT-SUB) 0) (eqb (link l x SUB) o)

-- by the owner's word and the head of the subscriber list: an unowned node has no subscriber link, an owned one has one, to its owner
unfoldable pub owned_on : List ℕ → ℕ → ℕ → Bool
owned_on l zero subs = eqb subs 0
owned_on l (suc o) zero = false
owned_on l (suc o) (suc x) = only_to l o x

-- an effect or scope that lives has the link that its owner asks for and no other; a gone one has no links
unfoldable pub owned_at : List ℕ → List ℕ → ℕ → Bool
owned_at t l n =
    pick (readable_in t n) true
    (pick (eqb (node t n GONE) 0) (owned_on l (node t n OWNER) (node t n SUBS))
    (both (eqb (node t n SUBS) 0) (eqb (node t n DEPS) 0)))
