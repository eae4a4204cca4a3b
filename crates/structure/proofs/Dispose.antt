-- Purge and dispose, as commands and runs call them: the words are the lists. Assumes nothing.
use mathlib.Core.Path.{◌≡◌, refl, sym, ap, ap₂, ◌∙◌, subst}
use mathlib.Core.Bool.{true, false}
use mathlib.Core.Logic.{inl, inr}
use mathlib.Core.List.{List, [], ◌∷◌, ◌++◌}
use Prim.Native.Nat.{ℕ, zero, suc, ◌<◌, ◌≤◌}
use native.Mathlib.Omega.{arith}
use lib.IntN.{ℤ}
use Rattle.flags.specs.declared.Named.{Named}
use Rattle.primitive.specs.Slots.{slot_of}
use Rattle.primitive.specs.Words.{NEXT-SUB, PREV-SUB, SUBS, node, link}
use Rattle.linking.specs.Free.{is_live_slot, slots}
use Rattle.linking.specs.Ring.{is_only, is_mutable, retired, cut_out, walked, purged_by, disowned, disposed_by, unwatched_by, unlinked_by, unlinked_n, purged, disposed}
use Rattle.linking.specs.Table.{Tab, tab}
use Rattle.meaning.specs.State.{St, f0, readable}
use Rattle.meaning.specs.Setters.{set_fl, set_gone}
use Rattle.meaning.specs.Links.{is_nil, head_of, remove, each, cut, rewind, purge_w, last_link, dispose_w, unwatched_w, unlink_n, purge, dispose}
use Rattle.meaning.specs.WellFormed.{In, Once}
use Rattle.meaning.proofs.Laws.{clash, up_same, up_other}
use Rattle.meaning.proofs.Members.{is_nil-true}
use Rattle.meaning.proofs.Still.{Given}
use Rattle.meaning.proofs.Inside.{Set, nobody, also, Static, Goes, Inside, widen, Under, under_same, never_back}
use Rattle.meaning.proofs.Dropping.{Purged, unlink_inside, cut_inside, flags_inside, rewind_inside, gone_inside, purge_inside}
use Rattle.structure.specs.Chains.{first_word, Chain, Back}
use Rattle.structure.specs.Rep.{Lengths}
use Rattle.structure.proofs.Chained.{in_split, remove_mid, back_at}
use Rattle.structure.proofs.Lens.{ptr}
use Rattle.structure.proofs.Held.{Held, inside_held, Shows}
use Rattle.structure.proofs.Insert.{after_cursor}
use Rattle.structure.proofs.Link.{both_ways}
use Rattle.structure.proofs.CutOut.{Near, next_of_chain, cut_shows}
use Rattle.structure.proofs.Ring.{only_is, moves_is, begun_shows, first_sub, bare_end, Strict, Turned, low_at, cut_subs_at, purge_sim, unlink_sim}

-- the bound of the word definitions is that of the lists
pub slots_are : (N L : List ℕ) (W C : List ℤ) (s : St) → Lengths N L W C s.room → slots L ≡ suc s.room.slots
slots_are N L W C s e = let q = e.of_links in omega arith

module _ (g : Given) (st : Static g) (ran : List ℕ) (W C : List ℤ) where
  -- whatever bound is enough
  pub purge_within : (X : Set) (u : ℕ) → u < g.size → X u → ((m : ℕ) → Strict g st u m → X m → ⊥) → (t : Tab) (s : St) → Inside g X s → Shows ran t W C s → (b : ℕ) → slots t.links ≤ b
      → Shows ran (purged_by (unlinked_n b) b t u) W C (purge s u)
  purge_within X u hu xu apart t s i r b many =
      let e : s.room.slots ≡ g.room.slots = ap (λ (z : Given). z.room.slots) i.same in
      let q = slots_are t.nodes t.links W C s r.lengths in
      let k = suc s.room.slots in
      let le : k ≤ b = omega arith in
      (purge_sim g st k b le (unlinked_n b) (unlink_n k) (unlink_sim g st k b le) (unlink_inside g st k) ran W C X u hu xu apart t s i (omega arith) r).0

  pub purge_shows : (X : Set) (u : ℕ) → u < g.size → X u → ((m : ℕ) → Strict g st u m → X m → ⊥) → (t : Tab) (s : St) → Inside g X s → Shows ran t W C s → Shows ran (purged t u) W C (purge s u)
  unfolding purged
  purge_shows X u hu xu apart t s i r = purge_within X u hu xu apart t s i r (slots t.links) (omega arith)

  -- a node without any link goes
  idle : (k : ℕ) (un : Tab → ℕ → ℕ → Tab) (ul : St → ℕ → St) (t : Tab) (s : St) (x : ℕ) → Shows ran t W C s → x < s.size → s.rest x ≡ [] → s.subs x ≡ []
      → Shows ran (disowned un (purged_by un k t x) (slot_of (node (purged_by un k t x).nodes x SUBS))) W C (last_link ul (purge_w ul s x) (head_of ((purge_w ul s x).subs x)))
  unfolding purged_by walked each
  idle k un ul t s x r h e q =
      let a : purged_by un k t x ≡ t = ap (λ (z : ℕ). walked un (suc k) t (slot_of z) x) (after_cursor ran t W C s x r h ∙ ap first_word e) in
      let b : purge_w ul s x ≡ s = ap (each ul s) e in
      subst (λ (z : Tab). Shows ran (disowned un z (slot_of (node z.nodes x SUBS))) W C (last_link ul (purge_w ul s x) (head_of ((purge_w ul s x).subs x)))) (sym a)
      (subst (λ (z : St). Shows ran (disowned un t (slot_of (node t.nodes x SUBS))) W C (last_link ul z (head_of (z.subs x)))) (sym b) (bare_end ran W C un ul t s x r h q))

  dispose_idle : (k : ℕ) (un : Tab → ℕ → ℕ → Tab) (ul : St → ℕ → St) (t : Tab) (s : St) (x : ℕ) → Held s → Shows ran t W C s → x < s.size → s.done x ≡ [] → s.rest x ≡ [] → s.subs x ≡ []
      → Shows ran (disposed_by un k t x) W C (dispose_w ul s x)
  unfolding disposed_by dispose_w
  dispose_idle k un ul t s x w r h a b e =
      idle k un ul (tab (retired t.nodes x) t.links) (set_gone (set_fl (rewind s x) x f0) x true) x (begun_shows ran t W C s x w r h) h
      (up_same s.rest x (s.done x ++ s.rest x) ∙ ap₂ (λ (p q : List ℕ). p ++ q) a b) e

  -- ---- dispose, at rest
  module _ (t : Tab) (s : St) (x : ℕ) (i : Inside g nobody s) (h : x < g.size) (q : readable (g.kind x) ≡ false) (r : Shows ran t W C s) (B : ℕ) (many : s.room.slots ≤ B) where
    abbrev X : Set
    X = also nobody x

    abbrev K : ℕ
    K = s.room.slots

    abbrev begun : St
    begun = set_gone (set_fl (rewind s x) x f0) x true

    abbrev emptied : St
    emptied = purge_w (unlink_n (suc K)) begun x

    abbrev T : Tab
    T = purged_by (unlinked_n (suc B)) (suc B) (tab (retired t.nodes x) t.links) x

    wide : Inside g X s
    wide = widen g nobody X s (λ n z. absurd z) i

    i_begun : Inside g X begun
    i_begun = gone_inside g X (set_fl (rewind s x) x f0) x (flags_inside g X (rewind s x) x (rewind_inside g X s x wide (inr refl)) (inr refl) f0 (λ z. refl)) (inr refl) q

    away : (m : ℕ) → Strict g st x m → X m → ⊥
    away m p (inl x'') = elim x'' [ ]
    away m p (inr z) = p.1 z

    same_slots_lem : K ≡ g.room.slots
    same_slots_lem = ap (λ (z : Given). z.room.slots) i.same

    more : suc K ≤ suc B
    more = omega arith

    turned : Turned g st (suc K) (suc B) more (unlinked_n (suc B)) (unlink_n (suc K)) (unlink_sim g st (suc K) (suc B) more) (unlink_inside g st (suc K)) ran W C X x begun T emptied
    turned =
        let e = same_slots_lem in
        purge_sim g st (suc K) (suc B) more (unlinked_n (suc B)) (unlink_n (suc K)) (unlink_sim g st (suc K) (suc B) more) (unlink_inside g st (suc K)) ran W C X x h (inr refl) away (tab (retired t.nodes x) t.links) begun i_begun (omega arith)
        (begun_shows ran t W C s x (inside_held g nobody s st i) r (low_at g st nobody s x i h))

    left : Purged g st X begun x emptied
    left = purge_inside g st X begun x i_begun (inr refl) away

    outside : Strict g st x x → ⊥
    outside z = z.1 refl

    x_low : x < emptied.size
    x_low = low_at g st X emptied x turned.2 h

    -- the owner's link
    module _ (l : ℕ) (ls : List ℕ) (e : emptied.subs x ≡ l ∷ ls) where
      linked : (emptied.live l ≡ true) × (emptied.dep l ≡ x)
      linked = turned.2.lists.subs_live l x (subst (In l) (sym e) (inl refl))

      abbrev p : ℕ
      p = emptied.sub l

      p_low : p < g.size
      p_low = (turned.2.lists.inside l linked.0).1

      goes_up : Goes g x p
      goes_up = subst (λ (z : ℕ). Goes g z p) linked.1 (turned.2.goes l linked.0)

      p_other : x ≡ p → ⊥
      p_other z = never_back g st x p h goes_up (subst (Under g x) z (under_same g st x))

      near : Near l (emptied.rest p)
      near = inr (turned.2.rests p p_low (λ z. not_x z)).tail
        where
          not_x : X p → ⊥
          not_x (inl x'') = elim x'' [ ]
          not_x (inr z) = p_other (sym z)

      abbrev c : St
      c = cut emptied l

      i_cut : Inside g (also (also X p) (emptied.dep l)) c
      i_cut = cut_inside g (also X p) emptied l (widen g X (also X p) emptied (λ n z. inl z) turned.2) linked.0 (inr refl)

      shown : Shows ran (cut_out T l p) W C c
      shown = cut_shows ran T W C emptied l (inside_held g X emptied st turned.2) turned.0 linked.0 near

      x_done : (c.done x ≡ []) × (c.rest x ≡ [])
      unfolding cut
      x_done = (
        up_other emptied.done p (remove l (emptied.done p)) x p_other ∙ left.done ∙ up_same s.done x [],
        up_other emptied.rest p (remove l (emptied.rest p)) x p_other ∙ left.rest,
      )

      x_flag : (c.fl x).mutable ≡ false
      unfolding cut
      x_flag = ap (λ (z : Named). z.mutable) ((left.dropped.flags x outside).0 ∙ up_same s.fl x f0)

      unwatched : c.subs x ≡ [] → Shows ran (unwatched_by (unlinked_n B) B (cut_out T l p) x) W C (unwatched_w (unlink_n K) c x)
      unfolding unwatched_by unwatched_w
      unwatched bare =
          both_ways (λ (y : Tab) (z : St). Shows ran y W C z) (is_mutable (cut_out T l p).nodes x) (c.fl x).mutable (moves_is ran (cut_out T l p).nodes (cut_out T l p).links W C c x shown)
          (λ m. clash m x_flag)
          (λ m. dispose_idle B (unlinked_n B) (unlink_n K) (cut_out T l p) c x (inside_held g (also (also X p) (emptied.dep l)) c st i_cut) shown (low_at g st (also (also X p) (emptied.dep l)) c x i_cut h) x_done.0 x_done.1 bare)

      only : is_only T.links l ≡ is_nil (c.subs (emptied.dep l))
      only =
          let o = turned.2.lists in
          let d = emptied.dep l in
          let y = in_split l (emptied.subs d) (o.live_in_subs l linked.0) in
          let low : d < emptied.size = low_at g st X emptied d turned.2 (o.inside l linked.0).0 in
          let chain : Chain (ptr T NEXT-SUB d SUBS) 0 (y.0 ++ l ∷ y.1) = subst (Chain (ptr T NEXT-SUB d SUBS) 0) y.2 (turned.0.subs.next d low) in
          let back : Back (λ z. link T.links z PREV-SUB) 0 (y.0 ++ l ∷ y.1) = subst (Back (λ z. link T.links z PREV-SUB) 0) y.2 (turned.0.subs.prev d low) in
          only_is T.links l y.0 y.1 (back_at (λ z. link T.links z PREV-SUB) 0 l y.0 y.1 back) (next_of_chain T NEXT-SUB d SUBS l y.0 y.1 chain)
          ∙ ap is_nil (sym (cut_subs_at g st emptied l ∙ ap (remove l) y.2 ∙ remove_mid l y.0 y.1 (subst Once y.2 (o.subs_once d))))

      last_shows : Shows ran (unlinked_n (suc B) T l p) W C (unlink_n (suc K) emptied l)
      unfolding unlinked_n unlinked_by unlink_n
      last_shows =
          both_ways (λ (y : Tab) (z : St). Shows ran y W C z) (is_live_slot T.links l) (emptied.live l) (turned.0.slots.live l)
          (λ a. both_ways (λ (y : Tab) (z : St). Shows ran y W C z) (is_only T.links l) (is_nil (c.subs (emptied.dep l))) only
          (λ z. subst (λ (y : ℕ). Shows ran (unwatched_by (unlinked_n B) B (cut_out T l p) y) W C (unwatched_w (unlink_n K) c (emptied.dep l))) (sym (turned.0.slots.dep l))
          (subst (λ (y : ℕ). Shows ran (unwatched_by (unlinked_n B) B (cut_out T l p) y) W C (unwatched_w (unlink_n K) c y)) (sym linked.1)
          (unwatched (subst (λ (y : ℕ). c.subs y ≡ []) linked.1 (is_nil-true (c.subs (emptied.dep l)) z)))))
          (λ z. shown))
          (λ a. clash linked.0 a)

    ends : (ls : List ℕ) → emptied.subs x ≡ ls → Shows ran (disowned (unlinked_n (suc B)) T (slot_of (first_word ls))) W C (last_link (unlink_n (suc K)) emptied (head_of ls))
    unfolding last_link
    ends [] e = turned.0
    ends (l ∷ ls) e = subst (λ (z : ℕ). Shows ran (unlinked_n (suc B) T l z) W C (unlink_n (suc K) emptied l)) (sym (turned.0.slots.sub l)) (last_shows l ls e)

    disposes : Shows ran (disposed_by (unlinked_n (suc B)) (suc B) t x) W C (dispose s x)
    unfolding disposed_by dispose_w
    disposes =
        subst (λ (z : ℕ). Shows ran (disowned (unlinked_n (suc B)) T (slot_of z)) W C (last_link (unlink_n (suc K)) emptied (head_of (emptied.subs x)))) (sym (first_sub ran T W C emptied x turned.0 x_low))
        (ends (emptied.subs x) refl)

  pub dispose_within : (t : Tab) (s : St) (x : ℕ) → Inside g nobody s → x < g.size → readable (g.kind x) ≡ false → Shows ran t W C s → (b : ℕ) → slots t.links ≤ b
      → Shows ran (disposed_by (unlinked_n b) b t x) W C (dispose s x)
  dispose_within t s x i h q r zero many = absurd (let e = slots_are t.nodes t.links W C s r.lengths in omega arith)
  dispose_within t s x i h q r (suc b) many = let e = slots_are t.nodes t.links W C s r.lengths in disposes t s x i h q r b (omega arith)

  pub dispose_shows : (t : Tab) (s : St) (x : ℕ) → Inside g nobody s → x < g.size → readable (g.kind x) ≡ false → Shows ran t W C s → Shows ran (disposed t x) W C (dispose s x)
  unfolding disposed
  dispose_shows t s x i h q r = dispose_within t s x i h q r (slots t.links) (omega arith)
