-- The first ring over words is the ring over lists: unlink, unwatched, dispose and purge. The bounds of the word definitions are enough. Assumes nothing.
use mathlib.Core.Path.{◌≡◌, refl, sym, ap, ◌∙◌, subst}
use mathlib.Core.Bool.{Bool, true, false}
use mathlib.Core.Logic.{inl, inr}
use mathlib.Core.List.{List, [], ◌∷◌, ◌++◌}
use Prim.Native.Nat.{ℕ, zero, suc, ◌+◌, ◌<◌, ◌≤◌}
use native.Mathlib.Omega.{arith}
use lib.Dec.{eqb}
use lib.IntN.{ℤ}
use borrow.Author.Tests.{eq-eqb, ne_eqb}
use lib.ListN.{length, length-append}
use Rattle.flags.specs.declared.Named.{Named}
use Rattle.primitive.specs.declared.slots.Slot.{Slot}
use Rattle.primitive.specs.declared.slots.Slot.TheVariants.{Nothing}
use Rattle.flags.specs.Flags.{bit, named}
use Rattle.primitive.specs.Slots.{slot_of}
use Rattle.primitive.specs.Words.{NEXT-DEP, DEPS, DEPS-TAIL, PREV-SUB, NEXT-SUB, SUBS, node, link, set_node}
use Rattle.linking.specs.Free.{is_live_slot}
use Rattle.linking.specs.Ring.{is_only_on, is_only, is_mutable, reset, retired, cut_out, next_of, walked, purged_by, disowned, disposed_by, dropped_by, unwatched_by, unlinked_by, unlinked_n}
use Rattle.linking.specs.Table.{Tab, tab}
use Rattle.meaning.specs.State.{St, deps, f0, f17, readable}
use Rattle.meaning.specs.Setters.{set_fl, set_gone}
use Rattle.meaning.specs.Links.{is_nil, head_of, remove, each, cut, rewind, purge_w, last_link, dispose_w, unwatched_w, unlink_n}
use Rattle.meaning.specs.WellFormed.{In, Once}
use Rattle.meaning.proofs.Laws.{clash, either, up_same, in_right, in_cases}
use Rattle.meaning.proofs.Members.{remove_head, once_right, once_both, most_below, is_nil-true}
use Rattle.meaning.proofs.Still.{Given}
use Rattle.meaning.proofs.Inside.{Set, also, Static, Goes, Inside, read_moves, Under, under_same, under_then, goes_under, never_back}
use Rattle.meaning.proofs.Dropping.{Unlinked, unlink_inside, cut_inside, flags_inside, rewind_inside, gone_inside}
use Rattle.structure.specs.Chains.{first_word, last_word, Chain, Back}
use Rattle.structure.specs.Rep.{word_at, RepAfter}
use Rattle.structure.proofs.Chained.{in_split, remove_mid, chain_at, back_at}
use Rattle.structure.proofs.Lens.{ptr}
use Rattle.structure.proofs.Held.{Held, inside_held, Shows}
use Rattle.structure.proofs.Stored.{held_rewind, rewind_shows, flag_shows, gone_shows}
use Rattle.structure.proofs.Insert.{after_cursor}
use Rattle.structure.proofs.Link.{both_ways}
use Rattle.structure.proofs.CutOut.{Near, next_of_chain, cut_shows}

-- ---- what the tests of words say of lists
pub last_some : (y : ℕ) (ys : List ℕ) → (p : ℕ) × (last_word (suc y) ys ≡ suc p)
last_some y [] = (y, refl)
last_some y (z ∷ ys) = last_some z ys

pub only_is : (L : List ℕ) (l : ℕ) (ys zs : List ℕ) → link L l PREV-SUB ≡ last_word 0 ys → link L l NEXT-SUB ≡ first_word zs → is_only L l ≡ is_nil (ys ++ zs)
unfolding is_only
only_is L l [] [] p q = ap (λ (x : ℕ). is_only_on (slot_of x) L l) p ∙ ap (λ (x : ℕ). eqb x 0) q ∙ eq-eqb 0 0 refl
only_is L l [] (z ∷ zs) p q = ap (λ (x : ℕ). is_only_on (slot_of x) L l) p ∙ ap (λ (x : ℕ). eqb x 0) q ∙ ne_eqb (suc z) 0 (λ e. omega arith)
only_is L l (y ∷ ys) zs p q = ap (λ (x : ℕ). is_only_on (slot_of x) L l) (p ∙ (last_some y ys).1)

pub moves_is : (ran N L : List ℕ) (W C : List ℤ) (s : St) (n : ℕ) → RepAfter ran N L W C s → is_mutable N n ≡ (s.fl n).mutable
unfolding is_mutable named
moves_is ran N L W C s n r = ap (λ (z : Named). z.mutable) (r.flags.flags n)

-- the slots after a cursor, and the free ones
rest_few : (s : St) (u : ℕ) → Held s → length (s.rest u) + length s.free ≤ s.room.slots
rest_few s u w =
    let o = w.lists in
    let a : length (s.rest u ++ s.free) ≤ s.room.slots =
    most_below s.room.slots (s.rest u ++ s.free)
    (once_both (s.rest u) s.free (once_right (s.done u) (s.rest u) (o.deps_once u)) o.free_once (λ x i j. clash (o.deps_live x u (in_right x (s.done u) (s.rest u) i)).0 (o.free_not_live x j).0))
    (λ x i. in_cases x (s.rest u) s.free i (λ j. o.live_slot x (o.deps_live x u (in_right x (s.done u) (s.rest u) j)).0) (λ j. (o.free_not_live x j).1)) in
    let b = length-append (s.rest u) s.free in
    omega arith

-- words and state of a node that has begun to go
pub begun_shows : (ran : List ℕ) (t : Tab) (W C : List ℤ) (s : St) (x : ℕ) → Held s → Shows ran t W C s → x < s.size → Shows ran (tab (retired t.nodes x) t.links) W C (set_gone (set_fl (rewind s x) x f0) x true)
unfolding retired reset named bit
begun_shows ran t W C s x w r h =
    gone_shows ran _ W C (set_fl (rewind s x) x f0) x (flagged w) (flag_shows ran _ W C (rewind s x) x (held_rewind s x w) (rewind_shows ran t W C s x w r h) h 0 f0 refl refl) h
  where
    flagged : Held s → Held (set_fl (rewind s x) x f0)
    flagged w = let z = held_rewind s x w in record { lists = z.lists; fit = z.fit }

-- the word of the first subscriber
pub first_sub : (ran : List ℕ) (t : Tab) (W C : List ℤ) (s : St) (x : ℕ) → Shows ran t W C s → x < s.size → node t.nodes x SUBS ≡ first_word (s.subs x)
unfolding word_at
first_sub ran t W C s x r h = chain_at (ptr t NEXT-SUB x SUBS) 0 [] (s.subs x) (r.subs.next x h)

-- no link to an owner is left
pub bare_end : (ran : List ℕ) (W C : List ℤ) (un : Tab → ℕ → ℕ → Tab) (ul : St → ℕ → St) (t : Tab) (s : St) (x : ℕ) → Shows ran t W C s → x < s.size → s.subs x ≡ []
    → Shows ran (disowned un t (slot_of (node t.nodes x SUBS))) W C (last_link ul s (head_of (s.subs x)))
unfolding last_link
bare_end ran W C un ul t s x r h e =
    subst (λ (z : ℕ). Shows ran (disowned un t (slot_of z)) W C (last_link ul s (head_of (s.subs x)))) (sym (first_sub ran t W C s x r h ∙ ap first_word e))
    (subst (λ (z : List ℕ). Shows ran t W C (last_link ul s (head_of z))) (sym e) r)

-- a live slot leaves the free list short of the slots
pub free_short : (s : St) (l : ℕ) → Held s → s.live l ≡ true → length s.free < s.room.slots
free_short s l w lv =
    let o = w.lists in
    let a : suc (length s.free) ≤ s.room.slots = most_below s.room.slots (l ∷ s.free) (λ j. clash lv (o.free_not_live l j).0, o.free_once) low in
    omega arith
  where
    low : (x : ℕ) → In x (l ∷ s.free) → x < s.room.slots
    low x (inl q) = subst (λ (z : ℕ). z < s.room.slots) (sym q) (w.lists.live_slot l lv)
    low x (inr j) = (w.lists.free_not_live x j).1

pub cut_freed : (s : St) (l : ℕ) → length (cut s l).free ≡ suc (length s.free)
unfolding cut
cut_freed s l = refl

same_flag : (s : St) (l : ℕ) → (s.fl (s.dep l)).mutable ≡ ((cut s l).fl (s.dep l)).mutable
unfolding cut
same_flag s l = refl

module _ (g : Given) (st : Static g) where
  abbrev pub Strict : ℕ → Set
  Strict u m = Under g u m × (m ≡ u → ⊥)

  -- un over words does what ul over lists does, where slots for k links are free at least
  abbrev pub Sims : ℕ → (Tab → ℕ → ℕ → Tab) → (St → ℕ → St) → Type 1
  Sims k un ul = (ran : List ℕ) (W C : List ℤ) (X : Set) (t : Tab) (s : St) (l : ℕ) → Inside g X s → s.live l ≡ true → X (s.sub l) → ((m : ℕ) → Under g (s.dep l) m → X m → ⊥)
      → Near l (s.rest (s.sub l)) → g.room.slots ≤ k + length s.free → Shows ran t W C s → Shows ran (un t l (s.sub l)) W C (ul s l)

  abbrev Unlinks : ℕ → (St → ℕ → St) → Type 1
  Unlinks k ul = (X : Set) (s : St) (l : ℕ) → Inside g X s → s.live l ≡ true → X (s.sub l) → ((m : ℕ) → Under g (s.dep l) m → X m → ⊥)
      → g.room.slots ≤ k + length s.free → Unlinked g st X s l (ul s l)

  pub low_at : (X : Set) (s : St) (n : ℕ) → Inside g X s → n < g.size → n < s.size
  low_at X s n i h = subst (λ (z : Given). n < z.size) (sym i.same) h

  -- the words may have a greater bound than the lists
  module _ (k bound : ℕ) (enough : k ≤ bound) (un : Tab → ℕ → ℕ → Tab) (ul : St → ℕ → St) (sims : Sims k un ul) (uls : Unlinks k ul) (ran : List ℕ) (W C : List ℤ) where
    -- the turns of a purge
    abbrev pub Turned : Set → ℕ → St → Tab → St → Type 0
    Turned X u s t x = Shows ran t W C x × (x.subs u ≡ s.subs u) × Inside g X x

    purge_turns : (X : Set) (u : ℕ) → u < g.size → X u → ((m : ℕ) → Strict u m → X m → ⊥) → (ls : List ℕ) (j : ℕ) (t : Tab) (s : St) → Inside g X s → s.rest u ≡ ls → length ls ≤ j
        → g.room.slots ≤ k + length s.free → Shows ran t W C s → Turned X u s (walked un j t (slot_of (first_word ls)) u) (each ul s ls)
    unfolding walked each next_of
    purge_turns X u hu xu apart [] zero t s i e few b r = (r, refl, i)
    purge_turns X u hu xu apart [] (suc j) t s i e few b r = (r, refl, i)
    purge_turns X u hu xu apart (l ∷ ls) zero t s i e few b r = absurd (omega arith)
    purge_turns X u hu xu apart (l ∷ ls) (suc j) t s i e few b r =
        let in_deps : In l (deps s u) = in_right l (s.done u) (s.rest u) (subst (In l) (sym e) (inl refl)) in
        let lu = i.lists.deps_live l u in_deps in
        let su : s.sub l ≡ u = lu.1 in
        let dl = (i.lists.inside l lu.0).0 in
        let go = subst (λ (z : ℕ). Goes g (s.dep l) z) su (i.goes l lu.0) in
        let back : Under g (s.dep l) u → ⊥ = never_back g st (s.dep l) u dl go in
        let below : (m : ℕ) → Under g (s.dep l) m → Strict u m = λ m p. (under_then g st u (s.dep l) m (goes_under g st (s.dep l) u dl go) p, λ q. back (subst (Under g (s.dep l)) q p)) in
        let away : (m : ℕ) → Under g (s.dep l) m → X m → ⊥ = λ m p. apart m (below m p) in
        let xl : X (s.sub l) = subst X (sym su) xu in
        let p = uls X s l i lu.0 xl away b in
        let one : Once (s.done u ++ s.rest u) = i.lists.deps_once u in
        let ones : Once (l ∷ ls) = subst Once e (once_right (s.done u) (s.rest u) one) in
        let rest_now : (ul s l).rest u ≡ ls = subst (λ (z : ℕ). (ul s l).rest z ≡ remove l (s.rest z)) su p.rest ∙ ap (remove l) e ∙ remove_head l ls ones.0 in
        let fr = p.dropped.free in
        let shown : Shows ran (un t l u) W C (ul s l) = subst (λ (z : ℕ). Shows ran (un t l z) W C (ul s l)) su
        (sims ran W C X t s l i lu.0 xl away (inl (ls, ap s.rest su ∙ e)) b r) in
        let next : next_of t.links l ≡ slot_of (first_word ls) = next_slot t s u l ls (low_at X s u i hu) r lu.0 e in
        let n = purge_turns X u hu xu apart ls j (un t l u) (ul s l) p.inside rest_now (omega arith) (omega arith) shown in
        (subst (λ (z : Slot). Shows ran (walked un j (un t l u) z u) W C (each ul (ul s l) ls)) (sym next) n.0, n.1 ∙ p.dropped.subs u back, n.2)
      where
        next_slot : (t : Tab) (s : St) (u l : ℕ) (ls : List ℕ) → u < s.size → Shows ran t W C s → s.live l ≡ true → s.rest u ≡ l ∷ ls → next_of t.links l ≡ slot_of (first_word ls)
        next_slot t s u l ls h r lv e =
            ap (λ (b : Bool). elim b [ true ↦ slot_of (link t.links l NEXT-DEP) | false ↦ Nothing ]) (r.slots.live l ∙ lv)
            ∙ ap slot_of (next_of_chain t NEXT-DEP u DEPS l (s.done u) ls (subst (λ (z : List ℕ). Chain (ptr t NEXT-DEP u DEPS) 0 (s.done u ++ z)) e (r.deps.next u h)))

    -- the bound of the turns is enough
    pub purge_sim : (X : Set) (u : ℕ) → u < g.size → X u → ((m : ℕ) → Strict u m → X m → ⊥) → (t : Tab) (s : St) → Inside g X s → g.room.slots ≤ k + length s.free
        → Shows ran t W C s → Turned X u s (purged_by un bound t u) (purge_w ul s u)
    unfolding purged_by
    purge_sim X u hu xu apart t s i b r =
        let few = rest_few s u (inside_held g X s st i) in
        let e : s.room.slots ≡ g.room.slots = ap (λ (z : Given). z.room.slots) i.same in
        subst (λ (z : ℕ). Turned X u s (walked un (suc bound) t (slot_of z) u) (each ul s (s.rest u))) (sym (after_cursor ran t W C s u r (low_at X s u i hu)))
        (purge_turns X u hu xu apart (s.rest u) (suc bound) t s i refl (omega arith) b r)

    -- x has no subscriber: it goes with all it owns
    dispose_sim : (X : Set) (t : Tab) (s : St) (x : ℕ) → Inside g (also X x) s → x < g.size → readable (g.kind x) ≡ false → s.subs x ≡ [] → ((m : ℕ) → Under g x m → X m → ⊥)
        → g.room.slots ≤ k + length s.free → Shows ran t W C s → Shows ran (disposed_by un bound t x) W C (dispose_w ul s x)
    unfolding disposed_by dispose_w
    dispose_sim X t s x i h q e apart b r =
        let a = set_gone (set_fl (rewind s x) x f0) x true in
        let t₁ : Tab = tab (retired t.nodes x) t.links in
        let ia : Inside g (also X x) a = gone_inside g (also X x) (set_fl (rewind s x) x f0) x (flags_inside g (also X x) (rewind s x) x (rewind_inside g (also X x) s x i (inr refl)) (inr refl) f0 (λ z. refl)) (inr refl) q in
        let low = low_at (also X x) s x i h in
        let p = purge_sim (also X x) x h (inr refl) away t₁ a ia b (begun_shows ran t W C s x (inside_held g (also X x) s st i) r low) in
        bare_end ran W C un ul (purged_by un bound t₁ x) (purge_w ul a x) x p.0 (low_at (also X x) (purge_w ul a x) x p.2 h) (p.1 ∙ e)
      where
        away : (m : ℕ) → Strict x m → also X x m → ⊥
        away m p (inl q) = apart m p.0 q
        away m p (inr q) = p.1 q

    -- d has lost its last subscriber
    unwatched_sim : (X : Set) (t : Tab) (s : St) (d : ℕ) → Inside g (also X d) s → d < g.size → ((s.fl d).mutable ≡ false → readable (g.kind d) ≡ false) → s.subs d ≡ [] → ((m : ℕ) → Under g d m → X m → ⊥)
        → g.room.slots ≤ k + length s.free → Shows ran t W C s → Shows ran (unwatched_by un bound t d) W C (unwatched_w ul s d)
    unfolding unwatched_by unwatched_w reset named bit
    unwatched_sim X t s d i h own e apart b r =
        let w = inside_held g (also X d) s st i in
        let low = low_at (also X d) s d i h in
        both_ways (λ (x : Tab) (y : St). Shows ran x W C y) (is_mutable t.nodes d) (s.fl d).mutable (moves_is ran t.nodes t.links W C s d r)
        (λ m. drop w low (s.done d) refl)
        (λ m. dispose_sim X t s d i h (own m) e apart b r)
      where
        away : (m : ℕ) → Strict d m → also X d m → ⊥
        away m p (inl q) = apart m p.0 q
        away m p (inr q) = p.1 q

        falls : Held s → d < s.size → Shows ran (purged_by un bound (tab (reset t.nodes d 17) t.links) d) W C (purge_w ul (set_fl (rewind s d) d f17) d)
        falls w low =
            (purge_sim (also X d) d h (inr refl) away (tab (reset t.nodes d 17) t.links) (set_fl (rewind s d) d f17)
            (flags_inside g (also X d) (rewind s d) d (rewind_inside g (also X d) s d i (inr refl)) (inr refl) f17 (λ q. refl)) b
            (flag_shows ran (tab (set_node t.nodes d DEPS-TAIL 0) t.links) W C (rewind s d) d (held_rewind s d w) (rewind_shows ran t W C s d w r low) low 17 f17 refl refl)).0

        drop : Held s → d < s.size → (ds : List ℕ) → s.done d ≡ ds
            → Shows ran (dropped_by un bound t d (slot_of (node t.nodes d DEPS-TAIL))) W C (elim (is_nil (s.done d)) [ true ↦ s | false ↦ purge_w ul (set_fl (rewind s d) d f17) d ])
        drop w low [] q =
            subst (λ (z : ℕ). Shows ran (dropped_by un bound t d (slot_of z)) W C (elim (is_nil (s.done d)) [ true ↦ s | false ↦ purge_w ul (set_fl (rewind s d) d f17) d ])) (sym (r.deps.tail d low ∙ ap (last_word 0) q))
            (subst (λ (z : List ℕ). Shows ran t W C (elim (is_nil z) [ true ↦ s | false ↦ purge_w ul (set_fl (rewind s d) d f17) d ])) (sym q) r)
        drop w low (x ∷ xs) q =
            subst (λ (z : ℕ). Shows ran (dropped_by un bound t d (slot_of z)) W C (elim (is_nil (s.done d)) [ true ↦ s | false ↦ purge_w ul (set_fl (rewind s d) d f17) d ])) (sym (r.deps.tail d low ∙ ap (last_word 0) q ∙ (last_some x xs).1))
            (subst (λ (z : List ℕ). Shows ran (purged_by un bound (tab (reset t.nodes d 17) t.links) d) W C (elim (is_nil z) [ true ↦ s | false ↦ purge_w ul (set_fl (rewind s d) d f17) d ])) (sym q) (falls w low))

  -- ---- the recursion
  pub cut_subs_at : (s : St) (l : ℕ) → (cut s l).subs (s.dep l) ≡ remove l (s.subs (s.dep l))
  unfolding cut
  cut_subs_at s l = up_same s.subs (s.dep l) (remove l (s.subs (s.dep l)))

  pub unlink_sim : (k bound : ℕ) → k ≤ bound → Sims k (unlinked_n bound) (unlink_n k)
  unfolding unlinked_n unlinked_by unlink_n
  unlink_sim zero bound le ran W C X t s l i lv xu apart near b r = absurd (let a = free_short s l (inside_held g X s st i) lv in let e : s.room.slots ≡ g.room.slots = ap (λ (z : Given). z.room.slots) i.same in omega arith)
  unlink_sim (suc k) zero le ran W C X t s l i lv xu apart near b r = absurd (omega arith)
  unlink_sim (suc k) (suc bound) le ran W C X t s l i lv xu apart near b r =
      let w = inside_held g X s st i in
      let d = s.dep l in
      let c = cut s l in
      let p = in_split l (s.subs d) (i.lists.live_in_subs l lv) in
      let once : Once (p.0 ++ l ∷ p.1) = subst Once p.2 (i.lists.subs_once d) in
      let low : d < g.size = (i.lists.inside l lv).0 in
      let low' : d < s.size = low_at X s d i low in
      let chain : Chain (ptr t NEXT-SUB d SUBS) 0 (p.0 ++ l ∷ p.1) = subst (Chain (ptr t NEXT-SUB d SUBS) 0) p.2 (r.subs.next d low') in
      let back : Back (λ x. link t.links x PREV-SUB) 0 (p.0 ++ l ∷ p.1) = subst (Back (λ x. link t.links x PREV-SUB) 0) p.2 (r.subs.prev d low') in
      let left : c.subs d ≡ p.0 ++ p.1 = cut_subs_at s l ∙ ap (remove l) p.2 ∙ remove_mid l p.0 p.1 once in
      let only : is_only t.links l ≡ is_nil (c.subs d) =
      only_is t.links l p.0 p.1 (back_at (λ x. link t.links x PREV-SUB) 0 l p.0 p.1 back) (next_of_chain t NEXT-SUB d SUBS l p.0 p.1 chain) ∙ ap is_nil (sym left) in
      let shown : Shows ran (cut_out t l (s.sub l)) W C c = cut_shows ran t W C s l w r lv near in
      let ic = cut_inside g X s l i lv xu in
      both_ways (λ (x : Tab) (y : St). Shows ran x W C y) (is_live_slot t.links l) (s.live l) (r.slots.live l)
      (λ a. both_ways (λ (x : Tab) (y : St). Shows ran x W C y) (is_only t.links l) (is_nil (c.subs d)) only
      (λ e. subst (λ (z : ℕ). Shows ran (unwatched_by (unlinked_n bound) bound (cut_out t l (s.sub l)) z) W C (unwatched_w (unlink_n k) c d)) (sym (r.slots.dep l))
      (unwatched_sim k bound (omega arith) (unlinked_n bound) (unlink_n k) (unlink_sim k bound (omega arith)) (unlink_inside g st k) ran W C X (cut_out t l (s.sub l)) c d ic low (owns s l d i lv apart) (is_nil-true (c.subs d) e) apart (in_time s l b) shown))
      (λ e. shown))
      (λ a. clash lv a)
    where
      in_time : (s : St) (l : ℕ) → g.room.slots ≤ suc k + length s.free → g.room.slots ≤ k + length (cut s l).free
      in_time s l b = let z = cut_freed s l in omega arith

      owns : (s : St) (l d : ℕ) → Inside g X s → s.live l ≡ true → ((m : ℕ) → Under g (s.dep l) m → X m → ⊥) → ((cut s l).fl (s.dep l)).mutable ≡ false → readable (g.kind (s.dep l)) ≡ false
      owns s l d i lv apart m = either (readable (g.kind (s.dep l)))
          (λ q. clash (read_moves g s.queue s.dep s.sub (s.dep l) _ _ _ _ _ (i.rests (s.dep l) (i.lists.inside l lv).0 (apart (s.dep l) (under_same g st (s.dep l)))) l (i.lists.live_in_subs l lv) q) (same_flag s l ∙ m))
          (λ q. q)
