-- A slot is cut out of one side's list by two stores: one text for both sides, over the numbers of the fields. Assumes nothing.
use mathlib.Core.Path.{◌≡◌, refl, sym, ◌∙◌, subst}
use mathlib.Core.Bool.{true, false}
use mathlib.Core.Logic.{inl, inr}
use mathlib.Core.List.{List, [], ◌∷◌, ◌++◌}
use Prim.Native.Nat.{ℕ, suc, ◌+◌, ◌*◌, ◌<◌}
use native.Mathlib.Omega.{arith}
use lib.Dec.{eqb}
use lib.ListN.{length}
use Rattle.primitive.specs.Rows.{has_field}
use Rattle.primitive.specs.Words.{PREV-DEP, NEXT-DEP, DEPS, DEPS-TAIL, PREV-SUB, NEXT-SUB, SUBS, SUBS-TAIL, node, link}
use Rattle.linking.specs.Neighbours.{set_beside}
use Rattle.linking.specs.Table.{Tab}
use Rattle.meaning.specs.WellFormed.{In, Once}
use Rattle.meaning.proofs.Laws.{in_left, in_right}
use Rattle.structure.specs.Chains.{first_word, last_word, Chain, Back}
use Rattle.structure.proofs.Chained.{off_zero, off_slot, last_off, first_off, last_all, chain_remove, chain_frame, back_remove, back_frame}
use Rattle.structure.proofs.Lens.{ptr, NodeIn, LinkIn, RowIn, on_links, on_nodes, on_ptr, on_rows, on_slots, ptr_same, ptr_off, ptr_head, ptr_slot, slot_same, slot_off, node_end, node_mid, node_off}

-- fields f, g of a slot are its neighbours before and after; k, h of a node the tail and the head
pub record Fields (f k g h : ℕ) : Type 0 where
  pub fg : eqb f g ≡ false
  pub gf : eqb g f ≡ false
  pub kh : eqb k h ≡ false
  pub hk : eqb h k ≡ false
  pub f8 : has_field 8 f ≡ true
  pub g8 : has_field 8 g ≡ true
  pub k16 : has_field 16 k ≡ true
  pub h16 : has_field 16 h ≡ true

pub deps_side : Fields PREV-DEP DEPS-TAIL NEXT-DEP DEPS
unfolding has_field
deps_side = record { fg = refl; gf = refl; kh = refl; hk = refl; f8 = refl; g8 = refl; k16 = refl; h16 = refl }

pub subs_side : Fields PREV-SUB SUBS-TAIL NEXT-SUB SUBS
unfolding has_field
subs_side = record { fg = refl; gf = refl; kh = refl; hk = refl; f8 = refl; g8 = refl; k16 = refl; h16 = refl }

-- the slot with the neighbours P and N is cut out of the list of node n
abbrev pub cut_side : ℕ → ℕ → ℕ → ℕ → Tab → ℕ → ℕ → ℕ → Tab
cut_side f k g h t n P N = set_beside (set_beside t N f n k P) P g n h N

pub first_is_in : (zs : List ℕ) (z : ℕ) → first_word zs ≡ suc z → In z zs
first_is_in [] z e = absurd (omega arith)
first_is_in (x ∷ zs) z e = inl (omega arith)

module _ (f k g h : ℕ) (q : Fields f k g h) (t : Tab) (n : ℕ) (ys zs : List ℕ) where
  abbrev P : ℕ
  P = last_word 0 ys

  abbrev N : ℕ
  N = first_word zs

  abbrev T₁ : Tab
  T₁ = set_beside t N f n k P

  abbrev T₂ : Tab
  T₂ = cut_side f k g h t n P N

  -- its own list
  pub cut_chain : (l : ℕ) → NodeIn t.nodes n → ((y : ℕ) → In y (ys ++ l ∷ zs) → LinkIn t.links y) → Once (ys ++ l ∷ zs)
      → Chain (ptr t g n h) 0 (ys ++ l ∷ zs) → Chain (ptr T₂ g n h) 0 (ys ++ zs)
  cut_chain l a b o c =
      chain_remove (ptr t g n h) (ptr T₂ g n h) 0 l ys zs (off_zero (ys ++ l ∷ zs)) o
      (ptr_same T₁ g n h N P q.g8 q.h16
      (last_all (RowIn T₁ n) 0 ys (subst (λ (x : ℕ). suc n * 16 + 15 < x) (sym (on_rows t f n k P N)) a)
      (λ y i. subst (λ (x : ℕ). suc y * 8 + 7 < x) (sym (on_slots t f n k P N)) (b y (in_left y ys (l ∷ zs) i)))))
      (λ w e. ptr_off T₁ g n h N P w e ∙ on_ptr t f n k P N g n h w q.gf q.hk)
      c

  pub cut_back : (l : ℕ) → ((y : ℕ) → In y (ys ++ l ∷ zs) → LinkIn t.links y) → Once (ys ++ l ∷ zs)
      → Back (λ x. link t.links x f) 0 (ys ++ l ∷ zs) → Back (λ x. link T₂.links x f) 0 (ys ++ zs)
  cut_back l b o c =
      back_remove (λ x. link t.links x f) (λ x. link T₂.links x f) 0 l ys zs o
      (λ z e. on_links T₁ g n h N P z f q.fg ∙ slot_same t f n k P N z q.f8 e (b z (in_right z ys (l ∷ zs) (inr (first_is_in zs z e)))))
      (λ y e. on_links T₁ g n h N P y f q.fg ∙ slot_off t f n k P N y e)
      c

  pub cut_end : NodeIn t.nodes n → first_word zs ≡ 0 → node T₂.nodes n k ≡ last_word 0 ys
  cut_end a e = on_nodes T₁ g n h N P n k q.kh ∙ node_end t f n k P N q.k16 a e

  pub cut_mid : (m : ℕ) → (first_word zs ≡ 0 → ⊥) → node T₂.nodes m k ≡ node t.nodes m k
  cut_mid m e = on_nodes T₁ g n h N P m k q.kh ∙ node_mid t f n k P N m e

  -- another node's list, whose slots are none of these
  pub cut_chain_other : (m l : ℕ) (xs : List ℕ) → (m ≡ n → ⊥) → ((y : ℕ) → In y xs → In y (ys ++ l ∷ zs) → ⊥) → Chain (ptr t g m h) 0 xs → Chain (ptr T₂ g m h) 0 xs
  cut_chain_other m l xs ne far c =
      chain_frame (ptr t g m h) (ptr T₂ g m h) 0 xs
      (ptr_head T₁ g n h N P m ne ∙ on_ptr t f n k P N g m h 0 q.gf q.hk)
      (λ y i. ptr_slot T₁ g n h N P m y (last_off (suc y) 0 ys (λ e. omega arith) (off_slot y ys (λ j. far y i (in_left y ys (l ∷ zs) j)))) ∙ on_ptr t f n k P N g m h (suc y) q.gf q.hk)
      c

  pub cut_back_other : (l : ℕ) (xs : List ℕ) → ((y : ℕ) → In y xs → In y (ys ++ l ∷ zs) → ⊥) → Back (λ x. link t.links x f) 0 xs → Back (λ x. link T₂.links x f) 0 xs
  cut_back_other l xs far c =
      back_frame (λ x. link t.links x f) (λ x. link T₂.links x f) 0 xs
      (λ y i. on_links T₁ g n h N P y f q.fg ∙ slot_off t f n k P N y (first_off (suc y) zs (λ e. omega arith) (off_slot y zs (λ j. far y i (in_right y ys (l ∷ zs) (inr j))))))
      c

  pub cut_node_other : (m : ℕ) → (m ≡ n → ⊥) → node T₂.nodes m k ≡ node t.nodes m k
  cut_node_other m ne = on_nodes T₁ g n h N P m k q.kh ∙ node_off t f n k P N m ne

  -- the next word of a slot that is none of these
  pub cut_next_other : (l x : ℕ) → (In x (ys ++ l ∷ zs) → ⊥) → link T₂.links x g ≡ link t.links x g
  cut_next_other l x far =
      slot_off T₁ g n h N P x (last_off (suc x) 0 ys (λ e. omega arith) (off_slot x ys (λ j. far (in_left x ys (l ∷ zs) j)))) ∙ on_links t f n k P N x g q.gf

-- whatever has other fields
module _ (f k g h : ℕ) (t : Tab) (n P N : ℕ) where
  pub cut_ptr : (f' m g' x : ℕ) → eqb f' f ≡ false → eqb f' g ≡ false → eqb g' k ≡ false → eqb g' h ≡ false → ptr (cut_side f k g h t n P N) f' m g' x ≡ ptr t f' m g' x
  cut_ptr f' m g' x a b c d = on_ptr (set_beside t N f n k P) g n h N P f' m g' x b d ∙ on_ptr t f n k P N f' m g' x a c

  pub cut_link : (x e : ℕ) → eqb e f ≡ false → eqb e g ≡ false → link (cut_side f k g h t n P N).links x e ≡ link t.links x e
  cut_link x e a b = on_links (set_beside t N f n k P) g n h N P x e b ∙ on_links t f n k P N x e a

  pub cut_node : (m e : ℕ) → eqb e k ≡ false → eqb e h ≡ false → node (cut_side f k g h t n P N).nodes m e ≡ node t.nodes m e
  cut_node m e a b = on_nodes (set_beside t N f n k P) g n h N P m e b ∙ on_nodes t f n k P N m e a

  pub cut_rows : length (cut_side f k g h t n P N).nodes ≡ length t.nodes
  cut_rows = on_rows (set_beside t N f n k P) g n h N P ∙ on_rows t f n k P N

  pub cut_slots : length (cut_side f k g h t n P N).links ≡ length t.links
  cut_slots = on_slots (set_beside t N f n k P) g n h N P ∙ on_slots t f n k P N
