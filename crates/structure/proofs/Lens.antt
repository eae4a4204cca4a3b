-- What one store does to the words that lists are made of. Assumes nothing.
use mathlib.Core.Path.{◌≡◌, refl, sym, ap, subst}
use mathlib.Core.Bool.{true, false}
use mathlib.Core.List.{List}
use Prim.Native.Nat.{ℕ, zero, suc, ◌+◌, ◌*◌, ◌<◌}
use native.Mathlib.Omega.{arith}
use lib.Dec.{eqb}
use lib.ListN.{length, get_or}
use Rattle.primitive.specs.Rows.{has_field}
use Rattle.primitive.specs.Words.{node, link, set_node, set_link}
use Rattle.primitive.proofs.RowLaws.{has_below, same_field, other_record, other_field, length-set_field, header_kept}
use Rattle.linking.specs.Neighbours.{set_beside}
use Rattle.linking.specs.Table.{Tab}
use Rattle.structure.specs.Rep.{word_at}

-- the words of a list of node n, by field f of its slots and field g of the node
abbrev pub ptr : Tab → ℕ → ℕ → ℕ → ℕ → ℕ
ptr t f n g w = word_at t.nodes t.links f n g w

-- row n of the node table, row x of the link table is there
abbrev pub NodeIn : List ℕ → ℕ → Type 0
NodeIn N n = suc n * 16 + 15 < length N

abbrev pub LinkIn : List ℕ → ℕ → Type 0
LinkIn L x = suc x * 8 + 7 < length L

-- ---- a word of a row that is there
pub node_same : (N : List ℕ) (n f v : ℕ) → has_field 16 f ≡ true → NodeIn N n → node (set_node N n f v) n f ≡ v
node_same N n f v h k = let b = has_below 16 f h in same_field 16 N n f v h (omega arith)

pub link_same : (L : List ℕ) (x f v : ℕ) → has_field 8 f ≡ true → LinkIn L x → link (set_link L x f v) x f ≡ v
link_same L x f v h k = let b = has_below 8 f h in same_field 8 L x f v h (omega arith)

-- the row that a word names, or of nothing the node's
abbrev pub RowIn : Tab → ℕ → ℕ → Type 0
RowIn t n zero = NodeIn t.nodes n
RowIn t n (suc x) = LinkIn t.links x

-- ---- a store beside a place: field f of the slot that w names, or field g of node n where it names nothing, becomes v
module _ (t : Tab) (f n g v : ℕ) where
  pub on_links : (w x h : ℕ) → eqb h f ≡ false → link (set_beside t w f n g v).links x h ≡ link t.links x h
  unfolding set_beside
  on_links zero x h d = refl
  on_links (suc s) x h d = other_field 8 t.links s x f h v d

  pub on_nodes : (w m h : ℕ) → eqb h g ≡ false → node (set_beside t w f n g v).nodes m h ≡ node t.nodes m h
  unfolding set_beside
  on_nodes zero m h d = other_field 16 t.nodes n m g h v d
  on_nodes (suc s) m h d = refl

  pub on_ptr : (w f' m g' x : ℕ) → eqb f' f ≡ false → eqb g' g ≡ false → ptr (set_beside t w f n g v) f' m g' x ≡ ptr t f' m g' x
  unfolding word_at
  on_ptr w f' m g' zero a b = on_nodes w m g' b
  on_ptr w f' m g' (suc x) a b = on_links w x f' a

  pub on_rows : (w : ℕ) → length (set_beside t w f n g v).nodes ≡ length t.nodes
  unfolding set_beside
  on_rows zero = length-set_field 16 t.nodes n g v
  on_rows (suc s) = refl

  pub on_slots : (w : ℕ) → length (set_beside t w f n g v).links ≡ length t.links
  unfolding set_beside
  on_slots zero = refl
  on_slots (suc s) = length-set_field 8 t.links s f v

  pub on_header : (w i : ℕ) → i < 8 → get_or (set_beside t w f n g v).links i 0 ≡ get_or t.links i 0
  unfolding set_beside
  on_header zero i h = refl
  on_header (suc s) i h = header_kept 8 t.links s f v i h

  -- ---- its own pair of fields, as one store to the next words at one place
  pub ptr_same : (w : ℕ) → has_field 8 f ≡ true → has_field 16 g ≡ true → RowIn t n w → ptr (set_beside t w f n g v) f n g w ≡ v
  unfolding set_beside word_at
  ptr_same zero a b k = node_same t.nodes n g v b k
  ptr_same (suc s) a b k = link_same t.links s f v a k

  pub ptr_off : (w x : ℕ) → (x ≡ w → ⊥) → ptr (set_beside t w f n g v) f n g x ≡ ptr t f n g x
  unfolding set_beside word_at
  ptr_off zero zero h = absurd (h refl)
  ptr_off zero (suc x) h = refl
  ptr_off (suc s) zero h = refl
  ptr_off (suc s) (suc x) h = other_record 8 t.links s x f f v (λ e. h (ap suc e))

  -- seen from another node's list
  pub ptr_head : (w m : ℕ) → (m ≡ n → ⊥) → ptr (set_beside t w f n g v) f m g 0 ≡ ptr t f m g 0
  unfolding set_beside word_at
  ptr_head zero m h = other_record 16 t.nodes n m g g v h
  ptr_head (suc s) m h = refl

  pub ptr_slot : (w m x : ℕ) → (suc x ≡ w → ⊥) → ptr (set_beside t w f n g v) f m g (suc x) ≡ ptr t f m g (suc x)
  unfolding set_beside word_at
  ptr_slot zero m x h = refl
  ptr_slot (suc s) m x h = other_record 8 t.links s x f f v (λ e. h (ap suc e))

  -- ---- as a store to a slot only, or to a node only
  pub slot_same : (w s : ℕ) → has_field 8 f ≡ true → w ≡ suc s → LinkIn t.links s → link (set_beside t w f n g v).links s f ≡ v
  unfolding set_beside
  slot_same zero s a e k = absurd (omega arith)
  slot_same (suc r) s a e k =
      let q : r ≡ s = omega arith in
      subst (λ (z : ℕ). link (set_link t.links z f v) s f ≡ v) (sym q) (link_same t.links s f v a k)

  pub slot_off : (w x : ℕ) → (suc x ≡ w → ⊥) → link (set_beside t w f n g v).links x f ≡ link t.links x f
  unfolding set_beside
  slot_off zero x h = refl
  slot_off (suc s) x h = other_record 8 t.links s x f f v (λ e. h (ap suc e))

  pub node_end : (w : ℕ) → has_field 16 g ≡ true → NodeIn t.nodes n → w ≡ 0 → node (set_beside t w f n g v).nodes n g ≡ v
  unfolding set_beside
  node_end zero a k e = node_same t.nodes n g v a k
  node_end (suc s) a k e = absurd (omega arith)

  pub node_mid : (w m : ℕ) → (w ≡ 0 → ⊥) → node (set_beside t w f n g v).nodes m g ≡ node t.nodes m g
  unfolding set_beside
  node_mid zero m h = absurd (h refl)
  node_mid (suc s) m h = refl

  pub node_off : (w m : ℕ) → (m ≡ n → ⊥) → node (set_beside t w f n g v).nodes m g ≡ node t.nodes m g
  unfolding set_beside
  node_off zero m h = other_record 16 t.nodes n m g g v h
  node_off (suc s) m h = refl
