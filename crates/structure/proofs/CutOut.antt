-- A slot is cut out of both its lists and is free: the words of `cut_out` are the lists of `cut`. Assumes nothing.
use mathlib.Core.Path.{◌≡◌, refl, sym, ap, ap₂, ◌∙◌, subst}
use mathlib.Core.Bool.{Bool, true, false, not}
use mathlib.Core.Logic.{◌⊎◌, inl, inr}
use mathlib.Core.List.{List, [], ◌∷◌, ◌++◌, append-nil}
use Prim.Native.Nat.{ℕ, suc, ◌+◌, ◌*◌, ◌<◌}
use native.Mathlib.Decide.{ℕ_discrete}
use native.Mathlib.Omega.{arith}
use lib.Dec.{eqb}
use lib.IntN.{ℤ}
use lib.ListN.{length, get_or, set}
use borrow.Author.Tests.{eqb-true, eqb-false}
use Rattle.primitive.specs.Words.{FREE, LIVE, VERSION, DEP, SUB, PREV-DEP, NEXT-DEP, DEPS, DEPS-TAIL, PREV-SUB, NEXT-SUB, SUBS, SUBS-TAIL, FLAGS, GONE, node, link, set_link}
use Rattle.primitive.proofs.RowLaws.{other_record, other_field, field_after_header}
use Rattle.linking.specs.Free.{is_live_slot, released}
use Rattle.linking.specs.Ring.{mended, cut_out}
use Rattle.linking.specs.Table.{Tab, tab}
use Rattle.linking.proofs.FreeLaws.{released_live, released_freed, released_others, last_first, next_free}
use Rattle.linking.proofs.Kept.{untouched_kept}
use Rattle.resting.specs.Linked.{dependencies, subscribers}
use Rattle.meaning.specs.State.{St, up, deps}
use Rattle.meaning.specs.Links.{remove, cut}
use Rattle.meaning.specs.WellFormed.{In, Once}
use Rattle.meaning.proofs.Laws.{clash, either, up_same, up_other, up_by}
use Rattle.meaning.proofs.Members.{remove_absent, remove_append, once_apart}
use Rattle.structure.specs.Chains.{first_word, last_word, Chain, Back}
use Rattle.structure.specs.Rep.{word_at, free_at, Slots, Strung}
use Rattle.structure.proofs.Chained.{in_split, mid_apart, remove_mid, tail_end, tail_mid, chain_after, back_at, chain_from, chain_frame, chain_ext, back_ext}
use Rattle.structure.proofs.Lens.{ptr, NodeIn, LinkIn, on_header}
use Rattle.structure.proofs.Cut.{deps_side, subs_side, cut_side, cut_chain, cut_back, cut_end, cut_mid, cut_chain_other, cut_back_other, cut_node_other, cut_next_other, cut_ptr, cut_link, cut_node, cut_rows, cut_slots}
use Rattle.structure.proofs.Held.{Held, Shows, node_within, link_in, keep_flags, same_lengths, same_registers, same_kinds, same_forms, same_queue}

-- ---- a slot that goes stands right after the cursor, or the cursor is at the end
abbrev pub Near : ℕ → List ℕ → Type 0
Near l rest = ((zs : List ℕ) × (rest ≡ l ∷ zs)) ⊎ (rest ≡ [])

pub record Goes (l : ℕ) (done rest : List ℕ) : Type 0 where
  pub ys : List ℕ
  pub zs : List ℕ
  pub whole : done ++ rest ≡ ys ++ l ∷ zs
  pub less : remove l done ++ remove l rest ≡ ys ++ zs
  pub at_end : first_word zs ≡ 0 → last_word 0 (remove l done) ≡ last_word 0 ys
  pub at_mid : (first_word zs ≡ 0 → ⊥) → last_word 0 (remove l done) ≡ last_word 0 done

goes_next : (l : ℕ) (done zs : List ℕ) → Once (done ++ l ∷ zs) → Goes l done (l ∷ zs)
goes_next l done zs o =
    let e : remove l done ≡ done = remove_absent l done (λ j. once_apart done (l ∷ zs) o l j (inl refl)) in
    record {
      ys = done;
      zs = zs;
      whole = refl;
      less = remove_append l done (l ∷ zs) ∙ remove_mid l done zs o;
      at_end = λ q. ap (last_word 0) e;
      at_mid = λ q. ap (last_word 0) e;
    }

goes_last : (l : ℕ) (ys zs : List ℕ) → Once (ys ++ l ∷ zs) → Goes l (ys ++ l ∷ zs) []
unfolding remove
goes_last l ys zs o =
    let e : remove l (ys ++ l ∷ zs) ≡ ys ++ zs = remove_mid l ys zs o in
    record {
      ys = ys;
      zs = zs;
      whole = append-nil (ys ++ l ∷ zs);
      less = append-nil (remove l (ys ++ l ∷ zs)) ∙ e;
      at_end = λ q. ap (last_word 0) e ∙ tail_end 0 ys zs q;
      at_mid = λ q. ap (last_word 0) e ∙ tail_mid 0 l ys zs q;
    }

pub goes : (l : ℕ) (done rest : List ℕ) → Once (done ++ rest) → In l (done ++ rest) → Near l rest → Goes l done rest
goes l done rest o i (inl n) =
    let e : rest ≡ l ∷ n.0 = n.1 in
    subst (Goes l done) (sym e) (goes_next l done n.0 (subst (λ (r : List ℕ). Once (done ++ r)) e o))
goes l done rest o i (inr e) =
    let k : done ++ rest ≡ done = ap (λ (r : List ℕ). done ++ r) e ∙ append-nil done in
    let p = in_split l done (subst (In l) k i) in
    subst (Goes l done) (sym e) (subst (λ (d : List ℕ). Goes l d []) (sym p.2) (goes_last l p.0 p.1 (subst Once (k ∙ p.2) o)))

-- ---- the slot is free: what the release of slot l leaves
module _ (L : List ℕ) (l : ℕ) (lv : is_live_slot L l ≡ true) where
  abbrev R : List ℕ
  R = set (set_link (set_link L l LIVE 0) l NEXT-DEP (get_or L FREE 0)) FREE (suc l)

  free_field : (x h : ℕ) → eqb h LIVE ≡ false → eqb h NEXT-DEP ≡ false → link (released L l) x h ≡ link L x h
  free_field x h a b =
      ap (λ (z : List ℕ). link z x h) (released_live L l lv)
      ∙ field_after_header 8 (set_link (set_link L l LIVE 0) l NEXT-DEP (get_or L FREE 0)) x h (suc l) FREE (omega arith)
      ∙ other_field 8 (set_link L l LIVE 0) l x NEXT-DEP h (get_or L FREE 0) b ∙ other_field 8 L l x LIVE h 0 a

  free_next : (x : ℕ) → (x ≡ l → ⊥) → link (released L l) x NEXT-DEP ≡ link L x NEXT-DEP
  free_next x ne =
      ap (λ (z : List ℕ). link z x NEXT-DEP) (released_live L l lv)
      ∙ field_after_header 8 (set_link (set_link L l LIVE 0) l NEXT-DEP (get_or L FREE 0)) x NEXT-DEP (suc l) FREE (omega arith)
      ∙ other_record 8 (set_link L l LIVE 0) l x NEXT-DEP NEXT-DEP (get_or L FREE 0) ne ∙ other_record 8 L l x LIVE NEXT-DEP 0 ne

  free_chain : (fs : List ℕ) → (In l fs → ⊥) → Chain (free_at L) 0 fs → Chain (free_at (released L l)) 0 (l ∷ fs)
  unfolding free_at
  free_chain fs ne c = (last_first L l lv, chain_from (free_at L) (free_at (released L l)) 0 (suc l) fs (next_free L l lv) (λ y i. free_next y (λ e. ne (subst (λ (z : ℕ). In z fs) e i))) c)

-- the words of the slot, by the lists
words : (t : Tab) (l u d a b c e : ℕ) → link t.links l DEP ≡ d → link t.links l PREV-DEP ≡ a → link t.links l NEXT-DEP ≡ b → link t.links l PREV-SUB ≡ c → link t.links l NEXT-SUB ≡ e
    → mended t l u ≡ cut_side PREV-SUB SUBS-TAIL NEXT-SUB SUBS (cut_side PREV-DEP DEPS-TAIL NEXT-DEP DEPS t u a b) d c e
unfolding mended
words t l u d a b c e e1 e2 e3 e4 e5 = rw (e1, e2, e3, e4, e5)

-- a slot's next word, of a chain
pub next_of_chain : (t : Tab) (f n g l : ℕ) (ys zs : List ℕ) → Chain (ptr t f n g) 0 (ys ++ l ∷ zs) → link t.links l f ≡ first_word zs
unfolding word_at
next_of_chain t f n g l ys zs c = chain_after (ptr t f n g) 0 l ys zs c

module _ (ran : List ℕ) (t : Tab) (W C : List ℤ) (s : St) (l : ℕ) (w : Held s) (r : Shows ran t W C s) (lv : s.live l ≡ true)
    (G : Goes l (s.done (s.sub l)) (s.rest (s.sub l))) (ys zs : List ℕ) (S : s.subs (s.dep l) ≡ ys ++ l ∷ zs) where
  abbrev u : ℕ
  u = s.sub l

  abbrev d : ℕ
  d = s.dep l

  T₁ : Tab
  T₁ = cut_side PREV-DEP DEPS-TAIL NEXT-DEP DEPS t u (last_word 0 G.ys) (first_word G.zs)

  T₂ : Tab
  T₂ = cut_side PREV-SUB SUBS-TAIL NEXT-SUB SUBS T₁ d (last_word 0 ys) (first_word zs)

  T₃ : Tab
  T₃ = tab T₂.nodes (released T₂.links l)

  u_low : u < s.size
  u_low = (w.lists.inside l lv).1

  d_low : d < s.size
  d_low = (w.lists.inside l lv).0

  u_in : NodeIn t.nodes u
  u_in = node_within t.nodes t.links W C s u r.lengths w.fit u_low

  d_in : NodeIn t.nodes d
  d_in = node_within t.nodes t.links W C s d r.lengths w.fit d_low

  -- its dependency side
  D-once : Once (G.ys ++ l ∷ G.zs)
  D-once = subst Once G.whole (w.lists.deps_once u)

  D-live : (y : ℕ) → In y (G.ys ++ l ∷ G.zs) → (s.live y ≡ true) × (s.sub y ≡ u)
  D-live y i = w.lists.deps_live y u (subst (In y) (sym G.whole) i)

  D-in : (y : ℕ) → In y (G.ys ++ l ∷ G.zs) → LinkIn t.links y
  D-in y i = link_in t.nodes t.links W C s y r.lengths (w.lists.live_slot y (D-live y i).0)

  D-far : (n : ℕ) → (n ≡ u → ⊥) → (y : ℕ) → In y (deps s n) → In y (G.ys ++ l ∷ G.zs) → ⊥
  D-far n ne y i j = ne (sym (w.lists.deps_live y n i).1 ∙ (D-live y j).1)

  D-chain : Chain (ptr t NEXT-DEP u DEPS) 0 (G.ys ++ l ∷ G.zs)
  D-chain = subst (Chain (ptr t NEXT-DEP u DEPS) 0) G.whole (r.deps.next u u_low)

  D-back : Back (λ x. link t.links x PREV-DEP) 0 (G.ys ++ l ∷ G.zs)
  D-back = subst (Back (λ x. link t.links x PREV-DEP) 0) G.whole (r.deps.prev u u_low)

  -- its subscriber side
  S-once : Once (ys ++ l ∷ zs)
  S-once = subst Once S (w.lists.subs_once d)

  S-live : (y : ℕ) → In y (ys ++ l ∷ zs) → (s.live y ≡ true) × (s.dep y ≡ d)
  S-live y i = w.lists.subs_live y d (subst (In y) (sym S) i)

  S-in : (y : ℕ) → In y (ys ++ l ∷ zs) → LinkIn t.links y
  S-in y i = link_in t.nodes t.links W C s y r.lengths (w.lists.live_slot y (S-live y i).0)

  S-far : (n : ℕ) → (n ≡ d → ⊥) → (y : ℕ) → In y (s.subs n) → In y (ys ++ l ∷ zs) → ⊥
  S-far n ne y i j = ne (sym (w.lists.subs_live y n i).1 ∙ (S-live y j).1)

  S-chain : Chain (ptr t NEXT-SUB d SUBS) 0 (ys ++ l ∷ zs)
  S-chain = subst (Chain (ptr t NEXT-SUB d SUBS) 0) S (r.subs.next d d_low)

  S-back : Back (λ x. link t.links x PREV-SUB) 0 (ys ++ l ∷ zs)
  S-back = subst (Back (λ x. link t.links x PREV-SUB) 0) S (r.subs.prev d d_low)

  S-less : remove l (s.subs d) ≡ ys ++ zs
  S-less = ap (remove l) S ∙ remove_mid l ys zs S-once

  mended_is : mended t l u ≡ T₂
  unfolding T₂ T₁
  mended_is =
      words t l u d _ _ _ _ (r.slots.dep l)
      (back_at (λ x. link t.links x PREV-DEP) 0 l G.ys G.zs D-back) (next_of_chain t NEXT-DEP u DEPS l G.ys G.zs D-chain)
      (back_at (λ x. link t.links x PREV-SUB) 0 l ys zs S-back) (next_of_chain t NEXT-SUB d SUBS l ys zs S-chain)

  T₃-is : cut_out t l u ≡ T₃
  unfolding cut_out T₃
  T₃-is = ap (λ (x : Tab). tab x.nodes (released x.links l)) mended_is

  -- what both cuts leave
  kept : (x h : ℕ) → eqb h PREV-DEP ≡ false → eqb h NEXT-DEP ≡ false → eqb h PREV-SUB ≡ false → eqb h NEXT-SUB ≡ false → link T₂.links x h ≡ link t.links x h
  unfolding T₂ T₁
  kept x h a b c e =
      cut_link PREV-SUB SUBS-TAIL NEXT-SUB SUBS T₁ d (last_word 0 ys) (first_word zs) x h c e
      ∙ cut_link PREV-DEP DEPS-TAIL NEXT-DEP DEPS t u (last_word 0 G.ys) (first_word G.zs) x h a b

  live₂ : (x : ℕ) → is_live_slot T₂.links x ≡ s.live x
  unfolding is_live_slot
  live₂ x = ap (λ (z : ℕ). not (eqb z 0)) (kept x LIVE refl refl refl refl) ∙ r.slots.live x

  l-live₂ : is_live_slot T₂.links l ≡ true
  l-live₂ = live₂ l ∙ lv

  node₂ : (n h : ℕ) → eqb h DEPS-TAIL ≡ false → eqb h DEPS ≡ false → eqb h SUBS-TAIL ≡ false → eqb h SUBS ≡ false → node T₂.nodes n h ≡ node t.nodes n h
  unfolding T₂ T₁
  node₂ n h a b c e =
      cut_node PREV-SUB SUBS-TAIL NEXT-SUB SUBS T₁ d (last_word 0 ys) (first_word zs) n h c e
      ∙ cut_node PREV-DEP DEPS-TAIL NEXT-DEP DEPS t u (last_word 0 G.ys) (first_word G.zs) n h a b

  -- ---- the lists after, of each node
  deps_each : (P : ℕ → List ℕ → Type 0) → P u (G.ys ++ G.zs) → ((n : ℕ) → (n ≡ u → ⊥) → P n (deps s n)) → (n : ℕ) → P n (deps (cut s l) n)
  unfolding cut
  deps_each P a b n =
      either (eqb n u)
      (λ e. subst (λ (m : ℕ). P m (up s.done u (remove l (s.done u)) m ++ up s.rest u (remove l (s.rest u)) m)) (sym (eqb-true n u e))
      (subst (P u) (sym (ap₂ (λ (x y : List ℕ). x ++ y) (up_same s.done u (remove l (s.done u))) (up_same s.rest u (remove l (s.rest u))) ∙ G.less)) a))
      (λ e. let ne = eqb-false n u e in
      subst (P n) (sym (ap₂ (λ (x y : List ℕ). x ++ y) (up_other s.done u (remove l (s.done u)) n ne) (up_other s.rest u (remove l (s.rest u)) n ne))) (b n ne))

  subs_each : (P : ℕ → List ℕ → Type 0) → P d (ys ++ zs) → ((n : ℕ) → (n ≡ d → ⊥) → P n (s.subs n)) → (n : ℕ) → P n ((cut s l).subs n)
  unfolding cut
  subs_each P a b n =
      up_by s.subs d (remove l (s.subs d)) (P n) n
      (λ e. subst (λ (m : ℕ). P m (remove l (s.subs d))) (sym e) (subst (P d) (sym S-less) a)) (b n)

  -- slots of the lists after are not l
  not_l : (n y : ℕ) → In y (deps (cut s l) n) → y ≡ l → ⊥
  not_l n y = deps_each (λ m xs. In y xs → y ≡ l → ⊥)
      (λ i e. mid_apart l G.ys G.zs D-once (subst (λ (z : ℕ). In z (G.ys ++ G.zs)) e i))
      (λ m ne i e. ne (sym (w.lists.deps_live y m i).1 ∙ ap s.sub e)) n

  next_dep' : (n : ℕ) → n < s.size → Chain (ptr T₃ NEXT-DEP n DEPS) 0 (deps (cut s l) n)
  unfolding T₃ T₂ T₁ word_at
  next_dep' n h =
      chain_frame (ptr T₂ NEXT-DEP n DEPS) (ptr T₃ NEXT-DEP n DEPS) 0 (deps (cut s l) n) refl (λ y i. free_next T₂.links l l-live₂ y (not_l n y i))
      (chain_ext (ptr T₁ NEXT-DEP n DEPS) (ptr T₂ NEXT-DEP n DEPS) 0 (deps (cut s l) n)
      (λ x. cut_ptr PREV-SUB SUBS-TAIL NEXT-SUB SUBS T₁ d (last_word 0 ys) (first_word zs) NEXT-DEP n DEPS x refl refl refl refl)
      (deps_each (λ m xs. m < s.size → Chain (ptr T₁ NEXT-DEP m DEPS) 0 xs)
      (λ k. cut_chain PREV-DEP DEPS-TAIL NEXT-DEP DEPS deps_side t u G.ys G.zs l u_in D-in D-once D-chain)
      (λ m ne k. cut_chain_other PREV-DEP DEPS-TAIL NEXT-DEP DEPS deps_side t u G.ys G.zs m l (deps s m) ne (D-far m ne) (r.deps.next m k)) n h))

  prev_dep' : (n : ℕ) → n < s.size → Back (λ x. link T₃.links x PREV-DEP) 0 (deps (cut s l) n)
  unfolding T₃ T₂ T₁
  prev_dep' n h =
      back_ext (λ x. link T₁.links x PREV-DEP) (λ x. link T₃.links x PREV-DEP) 0 (deps (cut s l) n)
      (λ x. free_field T₂.links l l-live₂ x PREV-DEP refl refl ∙ cut_link PREV-SUB SUBS-TAIL NEXT-SUB SUBS T₁ d (last_word 0 ys) (first_word zs) x PREV-DEP refl refl)
      (deps_each (λ m xs. m < s.size → Back (λ x. link T₁.links x PREV-DEP) 0 xs)
      (λ k. cut_back PREV-DEP DEPS-TAIL NEXT-DEP DEPS deps_side t u G.ys G.zs l D-in D-once D-back)
      (λ m ne k. cut_back_other PREV-DEP DEPS-TAIL NEXT-DEP DEPS deps_side t u G.ys G.zs l (deps s m) (D-far m ne) (r.deps.prev m k)) n h)

  cursor' : (n : ℕ) → n < s.size → node T₃.nodes n DEPS-TAIL ≡ last_word 0 ((cut s l).done n)
  unfolding T₃ T₂ T₁ cut
  cursor' n h =
      cut_node PREV-SUB SUBS-TAIL NEXT-SUB SUBS T₁ d (last_word 0 ys) (first_word zs) n DEPS-TAIL refl refl
      ∙ up_by s.done u (remove l (s.done u)) (λ (xs : List ℕ). node T₁.nodes n DEPS-TAIL ≡ last_word 0 xs) n
      (λ e. subst (λ (m : ℕ). node T₁.nodes m DEPS-TAIL ≡ last_word 0 (remove l (s.done u))) (sym e) (at_u (ℕ_discrete (first_word G.zs) 0)))
      (λ ne. cut_node_other PREV-DEP DEPS-TAIL NEXT-DEP DEPS deps_side t u G.ys G.zs n ne ∙ r.deps.tail n h)
    where
      at_u : Dec (first_word G.zs ≡ 0) → node T₁.nodes u DEPS-TAIL ≡ last_word 0 (remove l (s.done u))
      at_u (yes e) = cut_end PREV-DEP DEPS-TAIL NEXT-DEP DEPS deps_side t u G.ys G.zs u_in e ∙ sym (G.at_end e)
      at_u (no e) = cut_mid PREV-DEP DEPS-TAIL NEXT-DEP DEPS deps_side t u G.ys G.zs u e ∙ r.deps.tail u u_low ∙ sym (G.at_mid e)

  -- the dependency side leaves the subscriber side alone
  mid_ptr : (n x : ℕ) → ptr T₁ NEXT-SUB n SUBS x ≡ ptr t NEXT-SUB n SUBS x
  unfolding T₁
  mid_ptr n x = cut_ptr PREV-DEP DEPS-TAIL NEXT-DEP DEPS t u (last_word 0 G.ys) (first_word G.zs) NEXT-SUB n SUBS x refl refl refl refl

  mid_link : (x : ℕ) → link T₁.links x PREV-SUB ≡ link t.links x PREV-SUB
  unfolding T₁
  mid_link x = cut_link PREV-DEP DEPS-TAIL NEXT-DEP DEPS t u (last_word 0 G.ys) (first_word G.zs) x PREV-SUB refl refl

  mid_tail : (n : ℕ) → node T₁.nodes n SUBS-TAIL ≡ node t.nodes n SUBS-TAIL
  unfolding T₁
  mid_tail n = cut_node PREV-DEP DEPS-TAIL NEXT-DEP DEPS t u (last_word 0 G.ys) (first_word G.zs) n SUBS-TAIL refl refl

  mid_rows : length T₁.nodes ≡ length t.nodes
  unfolding T₁
  mid_rows = cut_rows PREV-DEP DEPS-TAIL NEXT-DEP DEPS t u (last_word 0 G.ys) (first_word G.zs)

  mid_slots : length T₁.links ≡ length t.links
  unfolding T₁
  mid_slots = cut_slots PREV-DEP DEPS-TAIL NEXT-DEP DEPS t u (last_word 0 G.ys) (first_word G.zs)

  d_mid : NodeIn T₁.nodes d
  d_mid = subst (λ (x : ℕ). suc d * 16 + 15 < x) (sym mid_rows) d_in

  S-mid : (y : ℕ) → In y (ys ++ l ∷ zs) → LinkIn T₁.links y
  S-mid y i = subst (λ (x : ℕ). suc y * 8 + 7 < x) (sym mid_slots) (S-in y i)

  next_sub' : (n : ℕ) → n < s.size → Chain (ptr T₃ NEXT-SUB n SUBS) 0 ((cut s l).subs n)
  unfolding T₃ T₂ word_at
  next_sub' n h =
      chain_frame (ptr T₂ NEXT-SUB n SUBS) (ptr T₃ NEXT-SUB n SUBS) 0 ((cut s l).subs n) refl (λ y i. free_field T₂.links l l-live₂ y NEXT-SUB refl refl)
      (subs_each (λ m xs. m < s.size → Chain (ptr T₂ NEXT-SUB m SUBS) 0 xs)
      (λ k. cut_chain PREV-SUB SUBS-TAIL NEXT-SUB SUBS subs_side T₁ d ys zs l d_mid S-mid S-once (chain_ext (ptr t NEXT-SUB d SUBS) (ptr T₁ NEXT-SUB d SUBS) 0 (ys ++ l ∷ zs) (mid_ptr d) S-chain))
      (λ m ne k. cut_chain_other PREV-SUB SUBS-TAIL NEXT-SUB SUBS subs_side T₁ d ys zs m l (s.subs m) ne (S-far m ne) (chain_ext (ptr t NEXT-SUB m SUBS) (ptr T₁ NEXT-SUB m SUBS) 0 (s.subs m) (mid_ptr m) (r.subs.next m k))) n h)

  prev_sub' : (n : ℕ) → n < s.size → Back (λ x. link T₃.links x PREV-SUB) 0 ((cut s l).subs n)
  unfolding T₃ T₂
  prev_sub' n h =
      back_ext (λ x. link T₂.links x PREV-SUB) (λ x. link T₃.links x PREV-SUB) 0 ((cut s l).subs n) (λ x. free_field T₂.links l l-live₂ x PREV-SUB refl refl)
      (subs_each (λ m xs. m < s.size → Back (λ x. link T₂.links x PREV-SUB) 0 xs)
      (λ k. cut_back PREV-SUB SUBS-TAIL NEXT-SUB SUBS subs_side T₁ d ys zs l S-mid S-once (back_ext (λ x. link t.links x PREV-SUB) (λ x. link T₁.links x PREV-SUB) 0 (ys ++ l ∷ zs) mid_link S-back))
      (λ m ne k. cut_back_other PREV-SUB SUBS-TAIL NEXT-SUB SUBS subs_side T₁ d ys zs l (s.subs m) (S-far m ne) (back_ext (λ x. link t.links x PREV-SUB) (λ x. link T₁.links x PREV-SUB) 0 (s.subs m) mid_link (r.subs.prev m k))) n h)

  tail' : (n : ℕ) → n < s.size → node T₃.nodes n SUBS-TAIL ≡ last_word 0 ((cut s l).subs n)
  unfolding T₃ T₂
  tail' n h =
      subs_each (λ m xs. m < s.size → node T₂.nodes m SUBS-TAIL ≡ last_word 0 xs) (λ k. at_d (ℕ_discrete (first_word zs) 0))
      (λ m ne k. cut_node_other PREV-SUB SUBS-TAIL NEXT-SUB SUBS subs_side T₁ d ys zs m ne ∙ mid_tail m ∙ r.subs.tail m k) n h
    where
      at_d : Dec (first_word zs ≡ 0) → node T₂.nodes d SUBS-TAIL ≡ last_word 0 (ys ++ zs)
      at_d (yes e) = cut_end PREV-SUB SUBS-TAIL NEXT-SUB SUBS subs_side T₁ d ys zs d_mid e ∙ sym (tail_end 0 ys zs e)
      at_d (no e) = cut_mid PREV-SUB SUBS-TAIL NEXT-SUB SUBS subs_side T₁ d ys zs d e ∙ mid_tail d ∙ r.subs.tail d d_low ∙ ap (last_word 0) S ∙ sym (tail_mid 0 l ys zs e)

  -- the free list
  head₂ : get_or T₂.links FREE 0 ≡ get_or t.links FREE 0
  unfolding T₂ T₁
  head₂ =
      on_header _ NEXT-SUB d SUBS (first_word zs) (last_word 0 ys) FREE (omega arith) ∙ on_header T₁ PREV-SUB d SUBS-TAIL (last_word 0 ys) (first_word zs) FREE (omega arith)
      ∙ on_header _ NEXT-DEP u DEPS (first_word G.zs) (last_word 0 G.ys) FREE (omega arith) ∙ on_header t PREV-DEP u DEPS-TAIL (last_word 0 G.ys) (first_word G.zs) FREE (omega arith)

  spare' : Chain (free_at T₃.links) 0 (l ∷ s.free)
  unfolding T₃ T₂ T₁ free_at
  spare' =
      free_chain T₂.links l l-live₂ s.free (λ i. clash lv (w.lists.free_not_live l i).0)
      (chain_frame (free_at t.links) (free_at T₂.links) 0 s.free head₂
      (λ y i. cut_link PREV-SUB SUBS-TAIL NEXT-SUB SUBS T₁ d (last_word 0 ys) (first_word zs) y NEXT-DEP refl refl
      ∙ cut_next_other PREV-DEP DEPS-TAIL NEXT-DEP DEPS deps_side t u G.ys G.zs l y (λ j. clash (D-live y j).0 (w.lists.free_not_live y i).0))
      r.free)

  live' : (x : ℕ) → is_live_slot T₃.links x ≡ up s.live l false x
  unfolding T₃
  live' x = up_by s.live l false (λ (b : Bool). is_live_slot (released T₂.links l) x ≡ b) x
      (λ e. ap (is_live_slot (released T₂.links l)) e ∙ released_freed T₂.links l)
      (λ ne. released_others T₂.links l x ne ∙ live₂ x)

  rep : Shows ran (cut_out t l u) W C (cut s l)
  unfolding cut T₃
  rep =
      let k = untouched_kept.cuts t l u (r.slots.live l ∙ lv) in
      let e = T₃-is in
      let same : (n h : ℕ) → eqb h DEPS-TAIL ≡ false → eqb h DEPS ≡ false → eqb h SUBS-TAIL ≡ false → eqb h SUBS ≡ false → node (cut_out t l u).nodes n h ≡ node t.nodes n h =
      (λ n h a b c f. ap (λ (x : Tab). node x.nodes n h) e ∙ node₂ n h a b c f) in
      record {
        lengths = same_lengths t (cut_out t l u) k W C s.room r.lengths;
        registers = same_registers t (cut_out t l u) k _ _ _ _ r.registers;
        kinds = same_kinds t (cut_out t l u) k _ _ _ _ _ (λ n. same n GONE refl refl refl refl) r.kinds;
        flags = keep_flags t.nodes (cut_out t l u).nodes _ _ (λ n. same n FLAGS refl refl refl refl) r.flags;
        values = r.values;
        forms = same_forms t (cut_out t l u) k C _ _ _ r.forms;
        slots = subst (λ (x : Tab). Slots x.links (up s.live l false) s.dep s.sub s.ver) (sym e) (record {
          live = live';
          dep = λ x. free_field T₂.links l l-live₂ x DEP refl refl ∙ kept x DEP refl refl refl refl ∙ r.slots.dep x;
          sub = λ x. free_field T₂.links l l-live₂ x SUB refl refl ∙ kept x SUB refl refl refl refl ∙ r.slots.sub x;
          ver = λ x. free_field T₂.links l l-live₂ x VERSION refl refl ∙ kept x VERSION refl refl refl refl ∙ r.slots.ver x;
        });
        deps = subst (λ (x : Tab). Strung x.nodes x.links s.size dependencies (cut s l).done (deps (cut s l))) (sym e) (record { next = next_dep'; prev = prev_dep'; tail = cursor' });
        subs = subst (λ (x : Tab). Strung x.nodes x.links s.size subscribers (cut s l).subs (cut s l).subs) (sym e) (record { next = next_sub'; prev = prev_sub'; tail = tail' });
        free = subst (λ (x : Tab). Chain (free_at x.links) 0 (l ∷ s.free)) (sym e) spare';
        queue = same_queue t (cut_out t l u) k ran _ r.queue;
      }

-- ---- a live slot right after its cursor, or with the cursor at the end
pub cut_shows : (ran : List ℕ) (t : Tab) (W C : List ℤ) (s : St) (l : ℕ) → Held s → Shows ran t W C s → s.live l ≡ true → Near l (s.rest (s.sub l)) → Shows ran (cut_out t l (s.sub l)) W C (cut s l)
cut_shows ran t W C s l w r lv near =
    let p = in_split l (s.subs (s.dep l)) (w.lists.live_in_subs l lv) in
    rep ran t W C s l w r lv (goes l (s.done (s.sub l)) (s.rest (s.sub l)) (w.lists.deps_once (s.sub l)) (w.lists.live_in_deps l lv) near) p.0 p.1 p.2
