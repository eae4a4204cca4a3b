-- What links and their going leave alone: the lengths, every field of a node but its flags, its gone mark and its lists, the header of the node table, and the
-- cycle. Assumes nothing.
use mathlib.Core.Path.{◌≡◌, refl, ◌∙◌}
use mathlib.Core.Bool.{false}
use mathlib.Core.List.{List}
use Prim.Native.Nat.{ℕ, ◌<◌, ◌≤◌}
use native.Mathlib.Omega.{arith}
use lib.Dec.{eqb}
use lib.ListN.{length, get_or, set, length-set}
use lib.Seq.{get_or-set_other}
use borrow.Author.Tests.{ne_eqb}
use Rattle.primitive.specs.Slots.{slot_of}
use Rattle.primitive.specs.declared.slots.Slot.{Slot}
use Rattle.primitive.specs.declared.slots.Slot.TheVariants.{At, Nothing}
use Rattle.primitive.proofs.RowLaws.{length-set_field, header_kept, other_field}
use Rattle.linking.specs.Neighbours.{set_beside, set_beside_on}
use Rattle.primitive.specs.Words.{FREE, node, set_node, set_link}
use Rattle.linking.specs.Table.{Tab, tab}

-- fields 1, the kind, and 7 on; words 0 to 15 of the node table; word 0 of the link table
pub record Untouched (t u : Tab) : Type 0 where
  pub nodes_long : length u.nodes ≡ length t.nodes
  pub links_long : length u.links ≡ length t.links
  pub kind : (n : ℕ) → node u.nodes n 1 ≡ node t.nodes n 1
  pub rest : (n f : ℕ) → 7 ≤ f → node u.nodes n f ≡ node t.nodes n f
  pub header : (i : ℕ) → i < 16 → get_or u.nodes i 0 ≡ get_or t.nodes i 0
  pub cycle : get_or u.links 0 0 ≡ get_or t.links 0 0

pub untouched_refl : (t : Tab) → Untouched t t
untouched_refl t =
    record { nodes_long = refl; links_long = refl; kind = λ n. refl; rest = λ n f h. refl; header = λ i h. refl; cycle = refl }

pub then : {t u v : Tab} → Untouched t u → Untouched u v → Untouched t v
then a b =
    record {
      nodes_long = b.nodes_long ∙ a.nodes_long;
      links_long = b.links_long ∙ a.links_long;
      kind = λ n. b.kind n ∙ a.kind n;
      rest = λ n f h. b.rest n f h ∙ a.rest n f h;
      header = λ i h. b.header i h ∙ a.header i h;
      cycle = b.cycle ∙ a.cycle;
    }

-- ---- a store to one of the other fields of a node
pub by_node : (t : Tab) (n f v : ℕ) → f < 7 → eqb 1 f ≡ false → Untouched t (tab (set_node t.nodes n f v) t.links)
by_node t n f v h d =
    record {
      nodes_long = length-set_field 16 t.nodes n f v;
      links_long = refl;
      kind = λ m. other_field 16 t.nodes n m f 1 v d;
      rest = λ m g k. other_field 16 t.nodes n m f g v (ne_eqb g f (λ e. omega arith));
      header = λ i k. header_kept 16 t.nodes n f v i k;
      cycle = refl;
    }

-- ---- a store to a link, and to the head of the free list
pub by_links : (t : Tab) {l : List ℕ} → length l ≡ length t.links → get_or l 0 0 ≡ get_or t.links 0 0 → Untouched t (tab t.nodes l)
by_links t e f =
    record { nodes_long = refl; links_long = e; kind = λ n. refl; rest = λ n f h. refl; header = λ i h. refl; cycle = f }

pub by_link : (t : Tab) (s f v : ℕ) → Untouched t (tab t.nodes (set_link t.links s f v))
by_link t s f v = by_links t (length-set_field 8 t.links s f v) (header_kept 8 t.links s f v 0 (omega arith))

pub by_head : (t : Tab) (v : ℕ) → Untouched t (tab t.nodes (set t.links FREE v))
by_head t v = by_links t (length-set t.links FREE v) (get_or-set_other t.links FREE 0 v 0 (λ e. omega arith))

-- ---- a store beside a place
pub by_beside : (t : Tab) (beside f n g w : ℕ) → g < 7 → eqb 1 g ≡ false → Untouched t (set_beside t beside f n g w)
unfolding set_beside
by_beside t beside f n g w h d = go (slot_of beside)
  where
    go : (o : Slot) → Untouched t (set_beside_on o t f n g w)
    go Nothing = by_node t n g w h d
    go (At s) = by_link t s f w
