-- A free slot is put in at the cursor of its subscriber, and at the end of the subscribers of its dependency. Assumes nothing.
use mathlib.Core.Path.{◌≡◌, refl, sym, ap, ◌∙◌, subst}
use mathlib.Core.Bool.{Bool, true, false, not}
use mathlib.Core.Logic.{inl, inr}
use mathlib.Core.List.{List, [], ◌∷◌, ◌++◌, append_assoc, append-nil}
use Prim.Native.Nat.{ℕ, zero, suc, ◌+◌, ◌*◌, ◌<◌}
use native.Mathlib.Omega.{arith}
use lib.Dec.{eqb}
use lib.IntN.{ℤ}
use lib.ListN.{length, get_or, set, length-set}
use lib.Seq.{get_or-set_same, get_or-set_other}
use Rattle.primitive.specs.Rows.{has_field}
use Rattle.primitive.specs.Slots.{slot_of}
use Rattle.primitive.specs.Words.{FREE, LIVE, VERSION, DEP, SUB, PREV-DEP, NEXT-DEP, DEPS, DEPS-TAIL, PREV-SUB, NEXT-SUB, SUBS, SUBS-TAIL, FLAGS, GONE, node, link, set_node, set_link}
use Rattle.primitive.proofs.RowLaws.{other_record, other_field, field_after_header, header_kept, length-set_field}
use Rattle.linking.specs.Free.{is_live_slot, Fresh, fresh, taken_on, taken}
use Rattle.linking.specs.Link.{written, made_on, made, inserted_on, set_back, joined, inserted, init_of}
use Rattle.linking.specs.Neighbours.{next_dep_of, set_beside}
use Rattle.linking.specs.Table.{Tab, tab}
use Rattle.linking.proofs.Untouched.{Untouched, then, by_node, by_links, by_beside}
use Rattle.meaning.specs.State.{St, up, deps}
use Rattle.meaning.specs.Links.{insert}
use Rattle.meaning.specs.WellFormed.{In, Once}
use Rattle.meaning.proofs.Laws.{clash, up_by, in_left, in_right}
use Rattle.structure.specs.Chains.{first_word, last_word, Chain, Back}
use Rattle.structure.specs.Rep.{word_at, free_at, Slots}
use Rattle.structure.proofs.Chained.{off_zero, off_slot, last_off, first_off, last_all, last_join, chain_at, chain_from, chain_frame, chain_ext, chain_insert, back_ext, back_frame, back_insert}
use Rattle.structure.proofs.Lens.{ptr, NodeIn, LinkIn, RowIn, node_same, link_same, on_links, on_nodes, on_ptr, on_rows, on_slots, on_header, ptr_same, ptr_off, ptr_head, ptr_slot, slot_same, slot_off}
use Rattle.structure.proofs.Cut.{first_is_in}
use Rattle.structure.proofs.Held.{Held, Shows, node_within, link_in, keep_flags, same_lengths, same_registers, same_kinds, same_forms, same_queue}

-- ---- the seven words of a new slot
seven : List ℕ → ℕ → ℕ → ℕ → ℕ → ℕ → ℕ → ℕ → List ℕ
seven L l v d u c a b =
    set_link (set_link (set_link (set_link (set_link (set_link (set_link L l VERSION v) l DEP d) l SUB u) l PREV-SUB c) l NEXT-SUB 0) l PREV-DEP a) l NEXT-DEP b

module _ (L : List ℕ) (l v d u c a b : ℕ) where
  seven_off : (y h : ℕ) → (y ≡ l → ⊥) → link (seven L l v d u c a b) y h ≡ link L y h
  unfolding seven
  seven_off y h ne =
      other_record 8 _ l y NEXT-DEP h b ne ∙ other_record 8 _ l y PREV-DEP h a ne ∙ other_record 8 _ l y NEXT-SUB h 0 ne ∙ other_record 8 _ l y PREV-SUB h c ne
      ∙ other_record 8 _ l y SUB h u ne ∙ other_record 8 _ l y DEP h d ne ∙ other_record 8 L l y VERSION h v ne

  seven_live : (y : ℕ) → link (seven L l v d u c a b) y LIVE ≡ link L y LIVE
  unfolding seven
  seven_live y =
      other_field 8 _ l y NEXT-DEP LIVE b refl ∙ other_field 8 _ l y PREV-DEP LIVE a refl ∙ other_field 8 _ l y NEXT-SUB LIVE 0 refl ∙ other_field 8 _ l y PREV-SUB LIVE c refl
      ∙ other_field 8 _ l y SUB LIVE u refl ∙ other_field 8 _ l y DEP LIVE d refl ∙ other_field 8 L l y VERSION LIVE v refl

  seven_long : length (seven L l v d u c a b) ≡ length L
  unfolding seven
  seven_long =
      length-set_field 8 _ l NEXT-DEP b ∙ length-set_field 8 _ l PREV-DEP a ∙ length-set_field 8 _ l NEXT-SUB 0 ∙ length-set_field 8 _ l PREV-SUB c
      ∙ length-set_field 8 _ l SUB u ∙ length-set_field 8 _ l DEP d ∙ length-set_field 8 L l VERSION v

  seven_head : (i : ℕ) → i < 8 → get_or (seven L l v d u c a b) i 0 ≡ get_or L i 0
  unfolding seven
  seven_head i h =
      header_kept 8 _ l NEXT-DEP b i h ∙ header_kept 8 _ l PREV-DEP a i h ∙ header_kept 8 _ l NEXT-SUB 0 i h ∙ header_kept 8 _ l PREV-SUB c i h
      ∙ header_kept 8 _ l SUB u i h ∙ header_kept 8 _ l DEP d i h ∙ header_kept 8 L l VERSION v i h

  -- its own words
  module _ (k : LinkIn L l) where
    own : (f w : ℕ) (M : List ℕ) → length M ≡ length L → has_field 8 f ≡ true → link (set_link M l f w) l f ≡ w
    own f w M e h = link_same M l f w h (subst (λ (x : ℕ). suc l * 8 + 7 < x) (sym e) k)

    l1 : (f : ℕ) (w : ℕ) (M : List ℕ) → length M ≡ length L → length (set_link M l f w) ≡ length L
    l1 f w M e = length-set_field 8 M l f w ∙ e

    at_next_dep : link (seven L l v d u c a b) l NEXT-DEP ≡ b
    unfolding seven has_field
    at_next_dep = own NEXT-DEP b _ (l1 PREV-DEP a _ (l1 NEXT-SUB 0 _ (l1 PREV-SUB c _ (l1 SUB u _ (l1 DEP d _ (l1 VERSION v L refl)))))) refl

    at_prev_dep : link (seven L l v d u c a b) l PREV-DEP ≡ a
    unfolding seven has_field
    at_prev_dep = other_field 8 _ l l NEXT-DEP PREV-DEP b refl ∙ own PREV-DEP a _ (l1 NEXT-SUB 0 _ (l1 PREV-SUB c _ (l1 SUB u _ (l1 DEP d _ (l1 VERSION v L refl))))) refl

    at_next_sub : link (seven L l v d u c a b) l NEXT-SUB ≡ 0
    unfolding seven has_field
    at_next_sub = other_field 8 _ l l NEXT-DEP NEXT-SUB b refl ∙ other_field 8 _ l l PREV-DEP NEXT-SUB a refl ∙ own NEXT-SUB 0 _ (l1 PREV-SUB c _ (l1 SUB u _ (l1 DEP d _ (l1 VERSION v L refl)))) refl

    at_prev_sub : link (seven L l v d u c a b) l PREV-SUB ≡ c
    unfolding seven has_field
    at_prev_sub =
        other_field 8 _ l l NEXT-DEP PREV-SUB b refl ∙ other_field 8 _ l l PREV-DEP PREV-SUB a refl ∙ other_field 8 _ l l NEXT-SUB PREV-SUB 0 refl
        ∙ own PREV-SUB c _ (l1 SUB u _ (l1 DEP d _ (l1 VERSION v L refl))) refl

    at_sub : link (seven L l v d u c a b) l SUB ≡ u
    unfolding seven has_field
    at_sub =
        other_field 8 _ l l NEXT-DEP SUB b refl ∙ other_field 8 _ l l PREV-DEP SUB a refl ∙ other_field 8 _ l l NEXT-SUB SUB 0 refl ∙ other_field 8 _ l l PREV-SUB SUB c refl
        ∙ own SUB u _ (l1 DEP d _ (l1 VERSION v L refl)) refl

    at_dep : link (seven L l v d u c a b) l DEP ≡ d
    unfolding seven has_field
    at_dep =
        other_field 8 _ l l NEXT-DEP DEP b refl ∙ other_field 8 _ l l PREV-DEP DEP a refl ∙ other_field 8 _ l l NEXT-SUB DEP 0 refl ∙ other_field 8 _ l l PREV-SUB DEP c refl
        ∙ other_field 8 _ l l SUB DEP u refl ∙ own DEP d _ (l1 VERSION v L refl) refl

    at_version : link (seven L l v d u c a b) l VERSION ≡ v
    unfolding seven has_field
    at_version =
        other_field 8 _ l l NEXT-DEP VERSION b refl ∙ other_field 8 _ l l PREV-DEP VERSION a refl ∙ other_field 8 _ l l NEXT-SUB VERSION 0 refl ∙ other_field 8 _ l l PREV-SUB VERSION c refl
        ∙ other_field 8 _ l l SUB VERSION u refl ∙ other_field 8 _ l l DEP VERSION d refl ∙ own VERSION v L refl refl

-- a store to a slot only, where there is one
back_is : (N L : List ℕ) (next w : ℕ) → set_back L next w ≡ (set_beside (tab N L) next PREV-DEP 0 0 w).links
unfolding set_back set_beside
back_is N L zero w = refl
back_is N L (suc x) w = refl

-- what follows a place among the dependencies of u
pub next_is : (t : Tab) (u p : ℕ) → next_dep_of t u p ≡ ptr t NEXT-DEP u DEPS p
unfolding next_dep_of word_at
next_is t u zero = refl
next_is t u (suc x) = refl

pub after_cursor : (ran : List ℕ) (t : Tab) (W C : List ℤ) (s : St) (u : ℕ) → Shows ran t W C s → u < s.size → next_dep_of t u (node t.nodes u DEPS-TAIL) ≡ first_word (s.rest u)
after_cursor ran t W C s u r hu =
    ap (next_dep_of t u) (r.deps.tail u hu) ∙ next_is t u (last_word 0 (s.done u)) ∙ chain_at (ptr t NEXT-DEP u DEPS) 0 (s.done u) (s.rest u) (r.deps.next u hu)

module _ (ran : List ℕ) (t : Tab) (W C : List ℤ) (s : St) (d u v l : ℕ) (fs : List ℕ) (w : Held s) (r : Shows ran t W C s) (d_low : d < s.size) (u_low : u < s.size) (e : s.free ≡ l ∷ fs) where
  -- the words that the slot comes between
  abbrev a : ℕ
  a = last_word 0 (s.done u)

  abbrev b : ℕ
  b = first_word (s.rest u)

  abbrev c : ℕ
  c = last_word 0 (s.subs d)

  -- the tables after each step: the slot taken and written, the tails, the next slot's word back, the words forward of both sides
  L₀ : List ℕ
  L₀ = set (set_link t.links l LIVE 1) FREE (link t.links l NEXT-DEP)

  L₁ : List ℕ
  L₁ = seven L₀ l v d u c a b

  N₁ : List ℕ
  N₁ = set_node (set_node t.nodes d SUBS-TAIL (suc l)) u DEPS-TAIL (suc l)

  T₂ : Tab
  T₂ = tab N₁ (set_beside (tab N₁ L₁) b PREV-DEP 0 0 (suc l)).links

  T₃ : Tab
  T₃ = set_beside T₂ a NEXT-DEP u DEPS (suc l)

  T₄ : Tab
  T₄ = set_beside T₃ c NEXT-SUB d SUBS (suc l)

  -- what is known of the slot
  l_free : (s.live l ≡ false) × (l < s.room.slots)
  l_free = w.lists.free_not_live l (subst (In l) (sym e) (inl refl))

  l_deps : (n : ℕ) → In l (deps s n) → ⊥
  l_deps n i = clash (w.lists.deps_live l n i).0 l_free.0

  l_subs : (n : ℕ) → In l (s.subs n) → ⊥
  l_subs n i = clash (w.lists.subs_live l n i).0 l_free.0

  l_in : LinkIn t.links l
  l_in = link_in t.nodes t.links W C s l r.lengths l_free.1

  dep_in : (n y : ℕ) → In y (deps s n) → LinkIn t.links y
  dep_in n y i = link_in t.nodes t.links W C s y r.lengths (w.lists.live_slot y (w.lists.deps_live y n i).0)

  sub_in : (n y : ℕ) → In y (s.subs n) → LinkIn t.links y
  sub_in n y i = link_in t.nodes t.links W C s y r.lengths (w.lists.live_slot y (w.lists.subs_live y n i).0)

  u_in : NodeIn t.nodes u
  u_in = node_within t.nodes t.links W C s u r.lengths w.fit u_low

  d_in : NodeIn t.nodes d
  d_in = node_within t.nodes t.links W C s d r.lengths w.fit d_low

  -- lengths
  L₀-long : length L₀ ≡ length t.links
  unfolding L₀
  L₀-long = length-set (set_link t.links l LIVE 1) FREE (link t.links l NEXT-DEP) ∙ length-set_field 8 t.links l LIVE 1

  L₁-long : length L₁ ≡ length t.links
  unfolding L₁
  L₁-long = seven_long L₀ l v d u c a b ∙ L₀-long

  T₂-long : length T₂.links ≡ length t.links
  unfolding T₂
  T₂-long = on_slots (tab N₁ L₁) PREV-DEP 0 0 (suc l) b ∙ L₁-long

  N₁-long : length N₁ ≡ length t.nodes
  unfolding N₁
  N₁-long = length-set_field 16 (set_node t.nodes d SUBS-TAIL (suc l)) u DEPS-TAIL (suc l) ∙ length-set_field 16 t.nodes d SUBS-TAIL (suc l)

  T₃-slots : length T₃.links ≡ length t.links
  unfolding T₃
  T₃-slots = on_slots T₂ NEXT-DEP u DEPS (suc l) a ∙ T₂-long

  T₃-rows : length T₃.nodes ≡ length t.nodes
  unfolding T₃ T₂
  T₃-rows = on_rows T₂ NEXT-DEP u DEPS (suc l) a ∙ N₁-long

  link_at : (M : List ℕ) (y : ℕ) → length M ≡ length t.links → LinkIn t.links y → LinkIn M y
  link_at M y q h = subst (λ (x : ℕ). suc y * 8 + 7 < x) (sym q) h

  node_at : (M : List ℕ) (y : ℕ) → length M ≡ length t.nodes → NodeIn t.nodes y → NodeIn M y
  node_at M y q h = subst (λ (x : ℕ). suc y * 16 + 15 < x) (sym q) h

  l-in₀ : LinkIn L₀ l
  l-in₀ = link_at L₀ l L₀-long l_in

  -- ---- words of other slots
  off₁ : (y h : ℕ) → (y ≡ l → ⊥) → link L₁ y h ≡ link t.links y h
  unfolding L₁ L₀
  off₁ y h ne =
      seven_off L₀ l v d u c a b y h ne ∙ field_after_header 8 (set_link t.links l LIVE 1) y h (link t.links l NEXT-DEP) FREE (omega arith)
      ∙ other_record 8 t.links l y LIVE h 1 ne

  off₂ : (y h : ℕ) → eqb h PREV-DEP ≡ false → (y ≡ l → ⊥) → link T₂.links y h ≡ link t.links y h
  unfolding T₂
  off₂ y h q ne = on_links (tab N₁ L₁) PREV-DEP 0 0 (suc l) b y h q ∙ off₁ y h ne

  at₂ : (h : ℕ) → eqb h PREV-DEP ≡ false → link T₂.links l h ≡ link L₁ l h
  unfolding T₂
  at₂ h q = on_links (tab N₁ L₁) PREV-DEP 0 0 (suc l) b l h q

  -- a word that is neither side's next
  at₄ : (y h : ℕ) → eqb h NEXT-SUB ≡ false → eqb h NEXT-DEP ≡ false → link T₄.links y h ≡ link T₂.links y h
  unfolding T₄ T₃
  at₄ y h p q = on_links T₃ NEXT-SUB d SUBS (suc l) c y h p ∙ on_links T₂ NEXT-DEP u DEPS (suc l) a y h q

  node₄ : (n h : ℕ) → eqb h SUBS ≡ false → eqb h DEPS ≡ false → node T₄.nodes n h ≡ node N₁ n h
  unfolding T₄ T₃ T₂
  node₄ n h p q = on_nodes T₃ NEXT-SUB d SUBS (suc l) c n h p ∙ on_nodes T₂ NEXT-DEP u DEPS (suc l) a n h q

  node₁ : (n h : ℕ) → eqb h DEPS-TAIL ≡ false → eqb h SUBS-TAIL ≡ false → node N₁ n h ≡ node t.nodes n h
  unfolding N₁
  node₁ n h p q = other_field 16 (set_node t.nodes d SUBS-TAIL (suc l)) u n DEPS-TAIL h (suc l) p ∙ other_field 16 t.nodes d n SUBS-TAIL h (suc l) q

  ptr₂ : (f n g y : ℕ) → eqb f PREV-DEP ≡ false → eqb g DEPS-TAIL ≡ false → eqb g SUBS-TAIL ≡ false → (y ≡ suc l → ⊥) → ptr T₂ f n g y ≡ ptr t f n g y
  unfolding word_at T₂
  ptr₂ f n g zero p q o ne = node₁ n g q o
  ptr₂ f n g (suc y) p q o ne = off₂ y f p (λ z. ne (ap suc z))

  own₂ : (f n g x : ℕ) → link T₂.links l f ≡ x → ptr T₂ f n g (suc l) ≡ x
  unfolding word_at
  own₂ f n g x q = q

  -- ---- the dependency side
  cur_row : RowIn T₂ u a
  unfolding T₂
  cur_row = last_all (RowIn T₂ u) 0 (s.done u) (node_at N₁ u N₁-long u_in) (λ y i. link_at T₂.links y T₂-long (dep_in u y (in_left y (s.done u) (s.rest u) i)))

  cur_ne : suc l ≡ a → ⊥
  cur_ne = last_off (suc l) 0 (s.done u) (λ q. omega arith) (off_slot l (s.done u) (λ i. l_deps u (in_left l (s.done u) (s.rest u) i)))

  nxt_ne : suc l ≡ b → ⊥
  nxt_ne = first_off (suc l) (s.rest u) (λ q. omega arith) (off_slot l (s.rest u) (λ i. l_deps u (in_right l (s.done u) (s.rest u) i)))

  next_l : link T₂.links l NEXT-DEP ≡ b
  unfolding L₁
  next_l = at₂ NEXT-DEP refl ∙ at_next_dep L₀ l v d u c a b l-in₀

  own_dep : Chain (ptr T₃ NEXT-DEP u DEPS) 0 (s.done u ++ l ∷ s.rest u)
  unfolding T₃ has_field
  own_dep =
      chain_insert (ptr t NEXT-DEP u DEPS) (ptr T₃ NEXT-DEP u DEPS) 0 l (s.done u) (s.rest u) (off_zero (deps s u)) (w.lists.deps_once u) (λ q. omega arith) (l_deps u)
      (ptr_same T₂ NEXT-DEP u DEPS (suc l) a refl refl cur_row)
      (ptr_off T₂ NEXT-DEP u DEPS (suc l) a (suc l) cur_ne ∙ own₂ NEXT-DEP u DEPS b next_l)
      (λ y p q. ptr_off T₂ NEXT-DEP u DEPS (suc l) a y p ∙ ptr₂ NEXT-DEP u DEPS y refl refl refl q)
      (r.deps.next u u_low)

  other_dep : (n : ℕ) → n < s.size → (n ≡ u → ⊥) → Chain (ptr T₃ NEXT-DEP n DEPS) 0 (deps s n)
  unfolding T₃
  other_dep n h ne =
      chain_frame (ptr t NEXT-DEP n DEPS) (ptr T₃ NEXT-DEP n DEPS) 0 (deps s n)
      (ptr_head T₂ NEXT-DEP u DEPS (suc l) a n ne ∙ ptr₂ NEXT-DEP n DEPS 0 refl refl refl (λ q. omega arith))
      (λ y i. ptr_slot T₂ NEXT-DEP u DEPS (suc l) a n y
      (last_off (suc y) 0 (s.done u) (λ q. omega arith) (off_slot y (s.done u) (λ j. ne (sym (w.lists.deps_live y n i).1 ∙ (w.lists.deps_live y u (in_left y (s.done u) (s.rest u) j)).1))))
      ∙ ptr₂ NEXT-DEP n DEPS (suc y) refl refl refl (λ q. off_slot l (deps s n) (l_deps n) y i (sym q)))
      (r.deps.next n h)

  -- the lists after, of each node
  deps_each : (P : ℕ → List ℕ → Type 0) → P u (s.done u ++ l ∷ s.rest u) → ((n : ℕ) → (n ≡ u → ⊥) → P n (deps s n)) → (n : ℕ) → P n (up s.done u (s.done u ++ l ∷ []) n ++ s.rest n)
  deps_each P p q n =
      up_by s.done u (s.done u ++ l ∷ []) (λ (xs : List ℕ). P n (xs ++ s.rest n)) n
      (λ z. subst (λ (m : ℕ). P m ((s.done u ++ l ∷ []) ++ s.rest m)) (sym z) (subst (P u) (sym (append_assoc (s.done u) (l ∷ []) (s.rest u))) p)) (q n)

  subs_each : (P : ℕ → List ℕ → Type 0) → P d (s.subs d ++ l ∷ []) → ((n : ℕ) → (n ≡ d → ⊥) → P n (s.subs n)) → (n : ℕ) → P n (up s.subs d (s.subs d ++ l ∷ []) n)
  subs_each P p q n = up_by s.subs d (s.subs d ++ l ∷ []) (P n) n (λ z. subst (λ (m : ℕ). P m (s.subs d ++ l ∷ [])) (sym z) p) (q n)

  next_dep' : (n : ℕ) → n < s.size → Chain (ptr T₄ NEXT-DEP n DEPS) 0 (up s.done u (s.done u ++ l ∷ []) n ++ s.rest n)
  unfolding T₄
  next_dep' n h =
      chain_ext (ptr T₃ NEXT-DEP n DEPS) (ptr T₄ NEXT-DEP n DEPS) 0 (up s.done u (s.done u ++ l ∷ []) n ++ s.rest n)
      (λ y. on_ptr T₃ NEXT-SUB d SUBS (suc l) c NEXT-DEP n DEPS y refl refl)
      (deps_each (λ m xs. m < s.size → Chain (ptr T₃ NEXT-DEP m DEPS) 0 xs) (λ k. own_dep) (λ m ne k. other_dep m k ne) n h)

  -- the words back
  back_l : link L₁ l PREV-DEP ≡ a
  unfolding L₁
  back_l = at_prev_dep L₀ l v d u c a b l-in₀

  back_own : Back (λ x. link T₂.links x PREV-DEP) 0 (s.done u ++ l ∷ s.rest u)
  unfolding T₂ has_field
  back_own =
      back_insert (λ x. link t.links x PREV-DEP) (λ x. link T₂.links x PREV-DEP) 0 l (s.done u) (s.rest u) (w.lists.deps_once u) (l_deps u)
      (slot_off (tab N₁ L₁) PREV-DEP 0 0 (suc l) b l nxt_ne ∙ back_l)
      (λ z q. slot_same (tab N₁ L₁) PREV-DEP 0 0 (suc l) b z refl q (link_at L₁ z L₁-long (dep_in u z (in_right z (s.done u) (s.rest u) (first_is_in (s.rest u) z q)))))
      (λ y p q. slot_off (tab N₁ L₁) PREV-DEP 0 0 (suc l) b y p ∙ off₁ y PREV-DEP q)
      (r.deps.prev u u_low)

  back_other : (n : ℕ) → n < s.size → (n ≡ u → ⊥) → Back (λ x. link T₂.links x PREV-DEP) 0 (deps s n)
  unfolding T₂
  back_other n h ne =
      back_frame (λ x. link t.links x PREV-DEP) (λ x. link T₂.links x PREV-DEP) 0 (deps s n)
      (λ y i. slot_off (tab N₁ L₁) PREV-DEP 0 0 (suc l) b y
      (first_off (suc y) (s.rest u) (λ q. omega arith) (off_slot y (s.rest u) (λ j. ne (sym (w.lists.deps_live y n i).1 ∙ (w.lists.deps_live y u (in_right y (s.done u) (s.rest u) j)).1))))
      ∙ off₁ y PREV-DEP (λ q. l_deps n (subst (λ (z : ℕ). In z (deps s n)) q i)))
      (r.deps.prev n h)

  prev_dep' : (n : ℕ) → n < s.size → Back (λ x. link T₄.links x PREV-DEP) 0 (up s.done u (s.done u ++ l ∷ []) n ++ s.rest n)
  prev_dep' n h =
      back_ext (λ x. link T₂.links x PREV-DEP) (λ x. link T₄.links x PREV-DEP) 0 (up s.done u (s.done u ++ l ∷ []) n ++ s.rest n) (λ y. at₄ y PREV-DEP refl refl)
      (deps_each (λ m xs. m < s.size → Back (λ x. link T₂.links x PREV-DEP) 0 xs) (λ k. back_own) (λ m ne k. back_other m k ne) n h)

  cursor' : (n : ℕ) → n < s.size → node T₄.nodes n DEPS-TAIL ≡ last_word 0 (up s.done u (s.done u ++ l ∷ []) n)
  unfolding N₁ has_field
  cursor' n h =
      node₄ n DEPS-TAIL refl refl
      ∙ up_by s.done u (s.done u ++ l ∷ []) (λ (xs : List ℕ). node N₁ n DEPS-TAIL ≡ last_word 0 xs) n
      (λ z. subst (λ (m : ℕ). node N₁ m DEPS-TAIL ≡ last_word 0 (s.done u ++ l ∷ [])) (sym z)
      (node_same (set_node t.nodes d SUBS-TAIL (suc l)) u DEPS-TAIL (suc l) refl (node_at (set_node t.nodes d SUBS-TAIL (suc l)) u (length-set_field 16 t.nodes d SUBS-TAIL (suc l)) u_in) ∙ sym (last_join 0 l (s.done u) [])))
      (λ ne. other_record 16 (set_node t.nodes d SUBS-TAIL (suc l)) u n DEPS-TAIL DEPS-TAIL (suc l) ne ∙ other_field 16 t.nodes d n SUBS-TAIL DEPS-TAIL (suc l) refl ∙ r.deps.tail n h)

  -- ---- the subscriber side: at the end
  tl_row : RowIn T₃ d c
  tl_row = last_all (RowIn T₃ d) 0 (s.subs d) (node_at T₃.nodes d T₃-rows d_in) (λ y i. link_at T₃.links y T₃-slots (sub_in d y i))

  tl_ne : suc l ≡ c → ⊥
  tl_ne = last_off (suc l) 0 (s.subs d) (λ q. omega arith) (off_slot l (s.subs d) (l_subs d))

  ptr₃ : (n y : ℕ) → (y ≡ suc l → ⊥) → ptr T₃ NEXT-SUB n SUBS y ≡ ptr t NEXT-SUB n SUBS y
  unfolding T₃
  ptr₃ n y ne = on_ptr T₂ NEXT-DEP u DEPS (suc l) a NEXT-SUB n SUBS y refl refl ∙ ptr₂ NEXT-SUB n SUBS y refl refl refl ne

  next_y : ptr T₃ NEXT-SUB d SUBS (suc l) ≡ 0
  unfolding T₃ L₁
  next_y = on_ptr T₂ NEXT-DEP u DEPS (suc l) a NEXT-SUB d SUBS (suc l) refl refl ∙ own₂ NEXT-SUB d SUBS 0 (at₂ NEXT-SUB refl ∙ at_next_sub L₀ l v d u c a b l-in₀)

  whole : (P : List ℕ → Type 0) → P (s.subs d) → P (s.subs d ++ [])
  whole P p = subst P (sym (append-nil (s.subs d))) p

  own_sub : Chain (ptr T₄ NEXT-SUB d SUBS) 0 (s.subs d ++ l ∷ [])
  unfolding T₄ has_field
  own_sub =
      chain_insert (ptr t NEXT-SUB d SUBS) (ptr T₄ NEXT-SUB d SUBS) 0 l (s.subs d) [] (off_zero (s.subs d ++ [])) (whole Once (w.lists.subs_once d)) (λ q. omega arith)
      (whole (λ (xs : List ℕ). In l xs → ⊥) (l_subs d))
      (ptr_same T₃ NEXT-SUB d SUBS (suc l) c refl refl tl_row)
      (ptr_off T₃ NEXT-SUB d SUBS (suc l) c (suc l) tl_ne ∙ next_y)
      (λ y p q. ptr_off T₃ NEXT-SUB d SUBS (suc l) c y p ∙ ptr₃ d y q)
      (whole (Chain (ptr t NEXT-SUB d SUBS) 0) (r.subs.next d d_low))

  other_sub : (n : ℕ) → n < s.size → (n ≡ d → ⊥) → Chain (ptr T₄ NEXT-SUB n SUBS) 0 (s.subs n)
  unfolding T₄
  other_sub n h ne =
      chain_frame (ptr t NEXT-SUB n SUBS) (ptr T₄ NEXT-SUB n SUBS) 0 (s.subs n)
      (ptr_head T₃ NEXT-SUB d SUBS (suc l) c n ne ∙ ptr₃ n 0 (λ q. omega arith))
      (λ y i. ptr_slot T₃ NEXT-SUB d SUBS (suc l) c n y
      (last_off (suc y) 0 (s.subs d) (λ q. omega arith) (off_slot y (s.subs d) (λ j. ne (sym (w.lists.subs_live y n i).1 ∙ (w.lists.subs_live y d j).1))))
      ∙ ptr₃ n (suc y) (λ q. off_slot l (s.subs n) (l_subs n) y i (sym q)))
      (r.subs.next n h)

  next_sub' : (n : ℕ) → n < s.size → Chain (ptr T₄ NEXT-SUB n SUBS) 0 (up s.subs d (s.subs d ++ l ∷ []) n)
  next_sub' n h = subs_each (λ m xs. m < s.size → Chain (ptr T₄ NEXT-SUB m SUBS) 0 xs) (λ k. own_sub) (λ m ne k. other_sub m k ne) n h

  sub_l : link T₂.links l PREV-SUB ≡ c
  unfolding L₁
  sub_l = at₂ PREV-SUB refl ∙ at_prev_sub L₀ l v d u c a b l-in₀

  prev_sub' : (n : ℕ) → n < s.size → Back (λ x. link T₄.links x PREV-SUB) 0 (up s.subs d (s.subs d ++ l ∷ []) n)
  prev_sub' n h =
      back_ext (λ x. link T₂.links x PREV-SUB) (λ x. link T₄.links x PREV-SUB) 0 (up s.subs d (s.subs d ++ l ∷ []) n) (λ y. at₄ y PREV-SUB refl refl)
      (subs_each (λ m xs. m < s.size → Back (λ x. link T₂.links x PREV-SUB) 0 xs)
      (λ k. back_insert (λ x. link t.links x PREV-SUB) (λ x. link T₂.links x PREV-SUB) 0 l (s.subs d) [] (whole Once (w.lists.subs_once d)) (whole (λ (xs : List ℕ). In l xs → ⊥) (l_subs d))
      sub_l (λ z q. absurd (omega arith)) (λ y p q. off₂ y PREV-SUB refl q) (whole (Back (λ x. link t.links x PREV-SUB) 0) (r.subs.prev d k)))
      (λ m ne k. back_frame (λ x. link t.links x PREV-SUB) (λ x. link T₂.links x PREV-SUB) 0 (s.subs m) (λ y i. off₂ y PREV-SUB refl (λ q. l_subs m (subst (λ (z : ℕ). In z (s.subs m)) q i))) (r.subs.prev m k)) n h)

  tail' : (n : ℕ) → n < s.size → node T₄.nodes n SUBS-TAIL ≡ last_word 0 (up s.subs d (s.subs d ++ l ∷ []) n)
  unfolding N₁ has_field
  tail' n h =
      node₄ n SUBS-TAIL refl refl ∙ other_field 16 (set_node t.nodes d SUBS-TAIL (suc l)) u n DEPS-TAIL SUBS-TAIL (suc l) refl
      ∙ subs_each (λ m xs. m < s.size → node (set_node t.nodes d SUBS-TAIL (suc l)) m SUBS-TAIL ≡ last_word 0 xs)
      (λ k. node_same t.nodes d SUBS-TAIL (suc l) refl d_in ∙ sym (last_join 0 l (s.subs d) []))
      (λ m ne k. other_record 16 t.nodes d m SUBS-TAIL SUBS-TAIL (suc l) ne ∙ r.subs.tail m k) n h

  -- ---- version, dep, sub and live
  word : (h x : ℕ) (g : ℕ → ℕ) → eqb h PREV-DEP ≡ false → eqb h NEXT-SUB ≡ false → eqb h NEXT-DEP ≡ false → link L₁ l h ≡ x → ((y : ℕ) → link t.links y h ≡ g y) → (y : ℕ) → link T₄.links y h ≡ up g l x y
  word h x g p q o z k y =
      at₄ y h q o ∙ up_by g l x (λ (m : ℕ). link T₂.links y h ≡ m) y (λ i. ap (λ (m : ℕ). link T₂.links m h) i ∙ at₂ h p ∙ z) (λ ne. off₂ y h p ne ∙ k y)

  live_l : link L₁ l LIVE ≡ 1
  unfolding L₁ L₀ has_field
  live_l = seven_live L₀ l v d u c a b l ∙ field_after_header 8 (set_link t.links l LIVE 1) l LIVE (link t.links l NEXT-DEP) FREE (omega arith) ∙ link_same t.links l LIVE 1 refl l_in

  live' : (y : ℕ) → is_live_slot T₄.links y ≡ up s.live l true y
  unfolding is_live_slot
  live' y =
      ap (λ (z : ℕ). not (eqb z 0)) (at₄ y LIVE refl refl)
      ∙ up_by s.live l true (λ (z : Bool). not (eqb (link T₂.links y LIVE) 0) ≡ z) y
      (λ i. ap (λ (m : ℕ). not (eqb m 0)) (ap (λ (m : ℕ). link T₂.links m LIVE) i ∙ at₂ LIVE refl ∙ live_l))
      (λ ne. ap (λ (m : ℕ). not (eqb m 0)) (off₂ y LIVE refl ne) ∙ r.slots.live y)

  slots' : Slots T₄.links (up s.live l true) (up s.dep l d) (up s.sub l u) (up s.ver l v)
  unfolding L₁
  slots' = record {
    live = live';
    dep = word DEP d s.dep refl refl refl (at_dep L₀ l v d u c a b l-in₀) r.slots.dep;
    sub = word SUB u s.sub refl refl refl (at_sub L₀ l v d u c a b l-in₀) r.slots.sub;
    ver = word VERSION v s.ver refl refl refl (at_version L₀ l v d u c a b l-in₀) r.slots.ver;
  }

  -- ---- the free list
  head' : get_or T₄.links FREE 0 ≡ link t.links l NEXT-DEP
  unfolding T₄ T₃ T₂ L₁ L₀
  head' =
      let k = l_in in
      let z = length-set_field 8 t.links l LIVE 1 in
      on_header T₃ NEXT-SUB d SUBS (suc l) c FREE (omega arith) ∙ on_header T₂ NEXT-DEP u DEPS (suc l) a FREE (omega arith) ∙ on_header (tab N₁ L₁) PREV-DEP 0 0 (suc l) b FREE (omega arith)
      ∙ seven_head L₀ l v d u c a b FREE (omega arith) ∙ get_or-set_same (set_link t.links l LIVE 1) FREE (link t.links l NEXT-DEP) 0 (omega arith)

  free_is : Chain (free_at t.links) 0 (l ∷ fs)
  free_is = subst (Chain (free_at t.links) 0) e r.free

  spare' : Chain (free_at T₄.links) 0 fs
  unfolding free_at T₄ T₃
  spare' =
      let o : Once (l ∷ fs) = subst Once e w.lists.free_once in
      chain_from (free_at t.links) (free_at T₄.links) (suc l) 0 fs head'
      (λ y i. on_links T₃ NEXT-SUB d SUBS (suc l) c y NEXT-DEP refl
      ∙ slot_off T₂ NEXT-DEP u DEPS (suc l) a y
      (last_off (suc y) 0 (s.done u) (λ q. omega arith) (off_slot y (s.done u) (λ j.
      clash (w.lists.deps_live y u (in_left y (s.done u) (s.rest u) j)).0 (w.lists.free_not_live y (subst (In y) (sym e) (inr i))).0)))
      ∙ off₂ y NEXT-DEP refl (λ q. o.0 (subst (λ (z : ℕ). In z fs) q i)))
      free_is.1

  -- the tables after, by the words that the slot comes between
  abbrev between : ℕ → ℕ → ℕ → Tab
  between a b c = set_beside (set_beside (tab N₁ (set_back (seven L₀ l v d u c a b) b (suc l))) a NEXT-DEP u DEPS (suc l)) c NEXT-SUB d SUBS (suc l)

  taken_is : taken t.links ≡ fresh (suc l) L₀
  unfolding taken L₀ free_at
  taken_is = ap (λ (z : ℕ). taken_on (slot_of z) t.links) free_is.0 ∙ ap (λ (z : ℕ). fresh z L₀) free_is.0

  joined_is : inserted t (init_of t d u v) ≡ joined (tab t.nodes (written L₀ l (init_of t d u v))) (suc l) (init_of t d u v)
  unfolding inserted made
  joined_is = ap (λ (f : Fresh). inserted_on (slot_of (made_on (slot_of f.word) f (init_of t d u v)).word) t.nodes (made_on (slot_of f.word) f (init_of t d u v)) (init_of t d u v)) taken_is

  between_is : joined (tab t.nodes (written L₀ l (init_of t d u v))) (suc l) (init_of t d u v) ≡ between (node t.nodes u DEPS-TAIL) (next_dep_of t u (node t.nodes u DEPS-TAIL)) (node t.nodes d SUBS-TAIL)
  unfolding joined written init_of seven N₁
  between_is = refl

  T₄-is : inserted t (init_of t d u v) ≡ T₄
  unfolding T₄ T₃ T₂ L₁
  T₄-is =
      joined_is ∙ between_is
      ∙ ap (λ (z : ℕ). between (node t.nodes u DEPS-TAIL) z (node t.nodes d SUBS-TAIL)) (after_cursor ran t W C s u r u_low)
      ∙ ap (λ (z : ℕ). between z b (node t.nodes d SUBS-TAIL)) (r.deps.tail u u_low) ∙ ap (between a b) (r.subs.tail d d_low)
      ∙ ap (λ (x : List ℕ). set_beside (set_beside (tab N₁ x) a NEXT-DEP u DEPS (suc l)) c NEXT-SUB d SUBS (suc l)) (back_is N₁ L₁ b (suc l))

  T₄-untouched : Untouched t T₄
  unfolding T₄ T₃ T₂ N₁ L₁ L₀
  T₄-untouched =
      let head : get_or L₁ 0 0 ≡ get_or t.links 0 0 =
      seven_head L₀ l v d u c a b 0 (omega arith) ∙ get_or-set_other (set_link t.links l LIVE 1) FREE 0 (link t.links l NEXT-DEP) 0 (λ q. omega arith) ∙ header_kept 8 t.links l LIVE 1 0 (omega arith) in
      let p : Untouched t (tab t.nodes L₁) = by_links t L₁-long head in
      let q : Untouched (tab t.nodes L₁) (tab N₁ L₁) = then (by_node (tab t.nodes L₁) d SUBS-TAIL (suc l) (omega arith) refl) (by_node (tab (set_node t.nodes d SUBS-TAIL (suc l)) L₁) u DEPS-TAIL (suc l) (omega arith) refl) in
      let o : Untouched (tab N₁ L₁) T₂ = by_links (tab N₁ L₁) (on_slots (tab N₁ L₁) PREV-DEP 0 0 (suc l) b) (on_header (tab N₁ L₁) PREV-DEP 0 0 (suc l) b 0 (omega arith)) in
      then (then (then (then p q) o) (by_beside T₂ a NEXT-DEP u DEPS (suc l) (omega arith) refl)) (by_beside T₃ c NEXT-SUB d SUBS (suc l) (omega arith) refl)

  shows : Shows ran T₄ W C (insert s d u v (l ∷ fs))
  unfolding insert
  shows =
      let k = T₄-untouched in
      let same : (n h : ℕ) → eqb h SUBS ≡ false → eqb h DEPS ≡ false → eqb h DEPS-TAIL ≡ false → eqb h SUBS-TAIL ≡ false → node T₄.nodes n h ≡ node t.nodes n h =
      (λ n h p z x y. node₄ n h p z ∙ node₁ n h x y) in
      record {
        lengths = same_lengths t T₄ k W C s.room r.lengths;
        registers = same_registers t T₄ k _ _ _ _ r.registers;
        kinds = same_kinds t T₄ k _ _ _ _ _ (λ n. same n GONE refl refl refl refl) r.kinds;
        flags = keep_flags t.nodes T₄.nodes _ _ (λ n. same n FLAGS refl refl refl refl) r.flags;
        values = r.values;
        forms = same_forms t T₄ k C _ _ _ r.forms;
        slots = slots';
        deps = record { next = next_dep'; prev = prev_dep'; tail = cursor' };
        subs = record { next = next_sub'; prev = prev_sub'; tail = tail' };
        free = spare';
        queue = same_queue t T₄ k ran _ r.queue;
      }

-- ---- where a slot is free
pub insert_shows : (ran : List ℕ) (t : Tab) (W C : List ℤ) (s : St) (d u v : ℕ) → Held s → Shows ran t W C s → d < s.size → u < s.size → (s.free ≡ [] → ⊥)
    → Shows ran (inserted t (init_of t d u v)) W C (insert s d u v s.free)
insert_shows ran t W C s d u v w r hd hu some = go s.free refl
  where
    go : (fs : List ℕ) → s.free ≡ fs → Shows ran (inserted t (init_of t d u v)) W C (insert s d u v fs)
    go [] e = absurd (some e)
    go (l ∷ fs) e = subst (λ (x : Tab). Shows ran x W C (insert s d u v (l ∷ fs))) (sym (T₄-is ran t W C s d u v l fs w r hd hu e)) (shows ran t W C s d u v l fs w r hd hu e)
