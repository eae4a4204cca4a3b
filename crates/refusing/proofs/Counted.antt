-- The capacities and counts are those of `meaning`: where the words of a node tell its kind, formula and owner, it counts as much, and so do sums over nodes. Assumes nothing.
use Rattle.std.specs.Prelude.{Option, None, Some}
use mathlib.Core.Path.{◌≡◌, refl, sym, ap, ap₂, ◌∙◌}
use mathlib.Core.Bool.{Bool, true, false, not, ◌&&◌}
use mathlib.Core.List.{List}
use Prim.Native.Nat.{ℕ, zero, suc, ◌+◌, ◌*◌, ◌<◌, ◌≤◌}
use native.Mathlib.Omega.{arith}
use lib.Dec.{eqb}
use lib.IntN.{ℤ}
use lib.ListN.{length}
use borrow.Author.Tests.{eqb-true, ne_eqb, le-leb}
use Rattle.primitive.specs.Words.{KIND, GONE, READS, OWNER, SIGNAL, COMPUTED, EFFECT, node}
use Rattle.trees.specs.Trees.{Tree, names}
use Rattle.lists.specs.Sum.{bit, sum}
use Rattle.counting.specs.Counts.{node_room, slot_room, cell_room, most_nodes, most_slots, most_cell_room, within_most, within_all, total, row, owned_link, reserve_of, effect_of}
use Rattle.meaning.specs.State.{Kind, signal, computed, effect, scope, within, capacities}
use Rattle.meaning.specs.Marks.{is_effect}
use Rattle.meaning.specs.Reserve.{owned_link as ownedLinkOf, reserve_of as reserve_from}
use Rattle.refusing.specs.Sight.{either, kind_of, room_in}

-- ---- capacities
within_same : (most n : ℕ) → within_most most n ≡ within n most
unfolding within_most
within_same most zero = refl
within_same most (suc n) =
    let d : suc n ≡ 0 → ⊥ = λ e. omega arith in
    let l : 1 ≤ suc n = omega arith in
    rw (ne_eqb (suc n) 0 d, le-leb 1 (suc n) l)

pub room_same : (nodes links : List ℕ) (cells : List ℤ) → within_all nodes links cells ≡ capacities (room_in nodes links cells)
unfolding within_all
room_same nodes links cells =
    ap₂ ◌&&◌ (within_same most_nodes (node_room nodes)) (ap₂ ◌&&◌ (within_same most_slots (slot_room links)) (within_same most_cell_room (cell_room cells)))

-- ---- counts
-- an owner word: 0 if there is none, else the owner's number and 1
abbrev pub owner_word : Option ℕ → ℕ
owner_word None = 0
owner_word (Some o) = suc o

owned_same : (w : ℕ) (o : Option ℕ) → w ≡ owner_word o → owned_link w ≡ ownedLinkOf o
owned_same w None e = ap owned_link e
owned_same w (Some o) e = ap owned_link e

-- a computed or an effect says how many read cells its formula has
abbrev pub TellsReads : Kind → ℕ → Tree → Type 0
TellsReads signal w t = Unit {0}
TellsReads computed w t = w ≡ length (names t)
TellsReads effect w t = w ≡ length (names t)
TellsReads scope w t = Unit {0}

module _ (nodes : List ℕ) (n : ℕ) where
  -- the kind, and whether it is gone, by the words
  abbrev kind : Kind
  kind = kind_of (node nodes n KIND)

  abbrev gone : Bool
  gone = not (eqb (node nodes n GONE) 0)

  pub reserve_same : (t : Tree) (o : Option ℕ) → TellsReads kind (node nodes n READS) t → node nodes n OWNER ≡ owner_word o
      → reserve_of nodes n ≡ reserve_from kind gone t o
  unfolding reserve_of kind_of
  reserve_same t o reads owner = go (eqb (node nodes n KIND) SIGNAL) (eqb (node nodes n KIND) COMPUTED) (eqb (node nodes n KIND) EFFECT) (eqb (node nodes n GONE) 0) reads
    where
      u : owned_link (node nodes n OWNER) ≡ ownedLinkOf o
      u = owned_same (node nodes n OWNER) o owner

      go : (s c e l : Bool) → TellsReads (either s signal (either c computed (either e effect scope))) (node nodes n READS) t
          → row s 0 (row c (2 * node nodes n READS) (row l (row e (2 * node nodes n READS + owned_link (node nodes n OWNER)) (owned_link (node nodes n OWNER))) 0))
          ≡ reserve_from (either s signal (either c computed (either e effect scope))) (not l) t o
      go true c e l r = refl
      go false true e l r = omega arith
      go false false true true r = omega (arith, u)
      go false false true false r = refl
      go false false false true r = u
      go false false false false r = refl

  pub effect_same : effect_of nodes n ≡ bit (is_effect kind && not gone)
  unfolding effect_of kind_of
  effect_same = go (eqb (node nodes n KIND) EFFECT) refl
    where
      live : (l : Bool) → row l 1 0 ≡ bit (not (not l))
      live true = refl
      live false = refl

      other : (s c : Bool) (g : Bool) → 0 ≡ bit (is_effect (either s signal (either c computed scope)) && not g)
      other true c g = refl
      other false true g = refl
      other false false g = refl

      go : (e : Bool) → eqb (node nodes n KIND) EFFECT ≡ e → row e (row (eqb (node nodes n GONE) 0) 1 0) 0 ≡ bit (is_effect kind && not gone)
      go true q =
          let k : node nodes n KIND ≡ EFFECT = eqb-true (node nodes n KIND) EFFECT q in
          live (eqb (node nodes n GONE) 0) ∙ ap (λ (w : ℕ). bit (is_effect (kind_of w) && not gone)) (sym k)
      go false q =
          other (eqb (node nodes n KIND) SIGNAL) (eqb (node nodes n KIND) COMPUTED) gone
          ∙ ap (λ (b : Bool). bit (is_effect (either (eqb (node nodes n KIND) SIGNAL) signal (either (eqb (node nodes n KIND) COMPUTED) computed (either b effect scope))) && not gone)) (sym q)

-- sums of what agrees agree
pub total_same : (f g : ℕ → ℕ) (n : ℕ) → ((m : ℕ) → m < n → f m ≡ g m) → total f n ≡ sum g n
unfolding total sum
total_same f g zero h = refl
total_same f g (suc n) h = ap₂ ◌+◌ (total_same f g n (λ m l. h m (omega arith))) (h n (omega arith))
