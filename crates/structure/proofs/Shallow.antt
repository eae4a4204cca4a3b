-- Shallow propagation over words is that over lists: pending subscribers become dirty, and nobody is notified. Assumes nothing.
use mathlib.Core.Path.{◌≡◌, refl, sym, ap, ◌∙◌, subst}
use mathlib.Core.Bool.{Bool, true, false, not, ◌&&◌}
use mathlib.Core.Logic.{inl, inr}
use mathlib.Core.List.{List, [], ◌∷◌}
use Prim.Native.Nat.{ℕ, zero, suc, ◌<◌, ◌≤◌}
use native.Mathlib.Omega.{arith}
use lib.Bits.{bit_or}
use lib.IntN.{ℤ}
use lib.ListN.{length}
use Rattle.flags.specs.declared.Named.{Named}
use Rattle.primitive.specs.Slots.{slot_of}
use Rattle.primitive.specs.Words.{SUB, link, link_rows}
use Rattle.linking.specs.Table.{Tab, tab}
use Rattle.marking.specs.Fields.{flags_of, next_sub_of, watching, recursed_checking, dirty, has_only, changed, pending}
use Rattle.marking.specs.Shallow.{raised, dirtied, further, shallow_from, shallow as shallowed}
use Rattle.marking.proofs.Kept.{length_shallow, column_shallow, header_shallow}
use Rattle.reading.specs.Steps.{woken_on, woken, others_on, woken_others_on, woken_others}
use Rattle.meaning.specs.State.{St, up, with_dirty}
use Rattle.meaning.specs.Links.{several}
use Rattle.meaning.specs.Marks.{soil, shallow}
use Rattle.meaning.specs.Played.{byte}
use Rattle.meaning.specs.WellFormed.{In}
use Rattle.meaning.proofs.Laws.{up_by, clash, branch}
use Rattle.meaning.proofs.Members.{most_below}
use Rattle.meaning.proofs.Still.{Given}
use Rattle.meaning.proofs.Inside.{Set, Static, Inside}
use Rattle.structure.specs.Chains.{first_word}
use Rattle.structure.proofs.Held.{Held, inside_held, Shows}
use Rattle.structure.proofs.Link.{both_ways}
use Rattle.structure.proofs.FlagBytes.{only_pending, only_watching, or_dirty}
use Rattle.structure.proofs.Marked.{Marked, Along, subs_along, flag_is, mark_flag, shows_marked, Kept, marked_shows}

-- nobody that is pending watches
abbrev Quiet : St → (ℕ → Named) → Type 0
Quiet s f = (n : ℕ) → n < s.size → (f n).pending ≡ true → (f n).watching ≡ false

module _ (ran : List ℕ) (L : List ℕ) (s : St) (q : List ℕ) (fit : s.size ≤ s.room.nodes) (subs-are : (x : ℕ) → link L x SUB ≡ s.sub x) where
  -- one subscriber
  abbrev soiled : (ℕ → Named) → ℕ → ℕ → Named
  soiled f n = elim ((f n).pending && not (f n).dirty) [ true ↦ up f n (with_dirty (f n) true) | false ↦ f ]

  and_left : (a b : Bool) → (a && b) ≡ true → a ≡ true
  and_left true b e = refl
  and_left false b e = e

  dirty_sim : (N : List ℕ) (f : ℕ → Named) (n : ℕ) → n < s.size → Quiet s f → Marked ran N s f q → Marked ran (dirtied L N n) s (soiled f n) q
  unfolding dirtied raised
  dirty_sim N f n h quiet m =
      let e : flags_of N n ≡ byte (f n) = flag_is ran N s f q m n h in
      both_ways (λ (M : List ℕ) (z : ℕ → Named). Marked ran M s z q) (has_only (flags_of N n) changed pending) ((f n).pending && not (f n).dirty)
      (ap (λ (z : ℕ). has_only z changed pending) e ∙ only_pending (f n))
      (λ p. still (quiet n h (and_left (f n).pending (not (f n).dirty) p)) e)
      (λ p. m)
    where
      still : (f n).watching ≡ false → flags_of N n ≡ byte (f n) → Marked ran (raised L N n (flags_of N n)) s (up f n (with_dirty (f n) true)) q
      still w e =
          let no : has_only (flags_of N n) (bit_or watching recursed_checking) watching ≡ false =
          ap (λ (z : ℕ). has_only z (bit_or watching recursed_checking) watching) e ∙ only_watching (f n) ∙ ap (λ (z : Bool). z && not (f n).recursed_check) w in
          branch (λ (M : List ℕ). Marked ran M s (up f n (with_dirty (f n) true)) q) (has_only (flags_of N n) (bit_or watching recursed_checking) watching)
          (λ y. clash y no)
          (λ y. mark_flag ran N s f q m n (bit_or (flags_of N n) dirty) (with_dirty (f n) true) h fit (ap (λ (z : ℕ). bit_or z dirty) e ∙ or_dirty (f n)))

  soil_quiet : (f : ℕ → Named) (n : ℕ) → Quiet s f → Quiet s (soiled f n)
  soil_quiet f n quiet x h =
      branch (λ (z : ℕ → Named). (z x).pending ≡ true → (z x).watching ≡ false) ((f n).pending && not (f n).dirty)
      (λ e. up_by f n (with_dirty (f n) true) (λ (z : Named). z.pending ≡ true → z.watching ≡ false) x (λ z. subst (λ (y : ℕ). (f y).pending ≡ true → (f y).watching ≡ false) z (quiet x h)) (λ z. quiet x h))
      (λ e. quiet x h)

  -- from the first on; word and list take a turn a link
  shallow_turns : (k : ℕ) (x : ℕ) (ls : List ℕ) (N : List ℕ) (f : ℕ → Named) → suc (length ls) ≤ k → Along L (x ∷ ls) → ((y : ℕ) → In y (x ∷ ls) → s.sub y < s.size) → Quiet s f → Marked ran N s f q
      → Marked ran (shallow_from L k N x) s (soil s.sub (x ∷ ls) f) q
  unfolding shallow_from soil further
  shallow_turns zero x ls N f few al low quiet m = absurd (omega arith)
  shallow_turns (suc k) x [] N f few al low quiet m =
      subst (λ (z : ℕ). Marked ran (further (shallow_from L k) (dirtied L N z) (slot_of (next_sub_of L x))) s (soil s.sub (x ∷ []) f) q) (sym (subs-are x))
      (subst (λ (z : ℕ). Marked ran (further (shallow_from L k) (dirtied L N (s.sub x)) (slot_of z)) s (soil s.sub (x ∷ []) f) q) (sym al.0)
      (dirty_sim N f (s.sub x) (low x (inl refl)) quiet m))
  shallow_turns (suc k) x (y ∷ ls) N f few al low quiet m =
      subst (λ (z : ℕ). Marked ran (further (shallow_from L k) (dirtied L N z) (slot_of (next_sub_of L x))) s (soil s.sub (x ∷ y ∷ ls) f) q) (sym (subs-are x))
      (subst (λ (z : ℕ). Marked ran (further (shallow_from L k) (dirtied L N (s.sub x)) (slot_of z)) s (soil s.sub (x ∷ y ∷ ls) f) q) (sym al.0)
      (shallow_turns k y ls (dirtied L N (s.sub x)) (soiled f (s.sub x)) (omega arith) al.1 (λ z i. low z (inr i)) (soil_quiet f (s.sub x) quiet) (dirty_sim N f (s.sub x) (low x (inl refl)) quiet m)))

module _ (g : Given) (st : Static g) (X : Set) (ran : List ℕ) (t : Tab) (W C : List ℤ) (s : St) (d : ℕ) (i : Inside g X s) (r : Shows ran t W C s) (low : d < s.size) where
  abbrev N : List ℕ
  N = t.nodes

  abbrev L : List ℕ
  L = t.links

  held : Held s
  held = inside_held g X s st i

  subs_few : length (s.subs d) ≤ s.room.slots
  subs_few = most_below s.room.slots (s.subs d) (held.lists.subs_once d) (λ x j. held.lists.live_slot x (held.lists.subs_live x d j).0)

  quiet : Quiet s s.fl
  quiet n h p = i.no_wake n (subst (λ (z : Given). n < z.size) i.same h) p

  rows : link_rows L ≡ suc s.room.slots
  rows = let e = r.lengths.of_links in omega arith

  -- from the first subscriber, whatever budget is enough
  pub shallow_marks : (x : ℕ) (ls : List ℕ) → s.subs d ≡ x ∷ ls → (j : ℕ) → link_rows L ≤ j → Marked ran (shallow_from L j N x) s (shallow s d).fl (shallow s d).queue
  shallow_marks x ls e j many =
      let few = subs_few in
      let k = ap length e in
      let z = rows in
      subst (λ (y : List ℕ). Marked ran (shallow_from L j N x) s (soil s.sub y s.fl) s.queue) (sym e)
      (shallow_turns ran L s s.queue held.fit r.slots.sub j x ls N s.fl (omega arith) (subst (Along L) e (subs_along ran N L W C s d r low))
      (λ y j. (held.lists.inside y (held.lists.subs_live y d (subst (In y) (sym e) j)).0).1) quiet (shows_marked ran t W C s r))

  from_the_first : (x : ℕ) (ls : List ℕ) → s.subs d ≡ x ∷ ls → Marked ran (shallowed L N x) s (shallow s d).fl (shallow s d).queue
  unfolding shallowed
  from_the_first x ls e = shallow_marks x ls e (link_rows L) (omega arith)

  kept : (x : ℕ) → Kept N (shallowed L N x)
  kept x = record { column = λ n f a b. column_shallow L N x n f a b; header = λ n h b. header_shallow L N x n h b; long = length_shallow L N x }

  same : Kept N N
  same = record { column = λ n f a b. refl; header = λ n h b. refl; long = refl }

  -- all subscribers
  pub woken_shows : Shows ran (tab (woken L N d) L) W C (shallow s d)
  unfolding woken soil
  woken_shows = subst (λ (z : ℕ). Shows ran (tab (woken_on (slot_of z) L N) L) W C (shallow s d)) (sym ((shows_marked ran t W C s r).heads d low)) (go (s.subs d) refl)
    where
      go : (ls : List ℕ) → s.subs d ≡ ls → Shows ran (tab (woken_on (slot_of (first_word ls)) L N) L) W C (shallow s d)
      go [] e = marked_shows ran ran t N W C s _ _ _ r same (subst (λ (y : List ℕ). Marked ran N s (soil s.sub y s.fl) s.queue) (sym e) (shows_marked ran t W C s r))
      go (x ∷ ls) e = marked_shows ran ran t (shallowed L N x) W C s _ _ _ r (kept x) (from_the_first x ls e)

  -- where there are several
  pub others_shows : Shows ran (tab (woken_others L N d) L) W C (elim (several (s.subs d)) [ true ↦ shallow s d | false ↦ s ])
  unfolding woken_others
  others_shows =
      subst (λ (z : ℕ). Shows ran (tab (woken_others_on (slot_of z) L N) L) W C (elim (several (s.subs d)) [ true ↦ shallow s d | false ↦ s ])) (sym ((shows_marked ran t W C s r).heads d low))
      (go (s.subs d) refl (subs_along ran N L W C s d r low))
    where
      go : (ls : List ℕ) → s.subs d ≡ ls → Along L (s.subs d) → Shows ran (tab (woken_others_on (slot_of (first_word ls)) L N) L) W C (elim (several (s.subs d)) [ true ↦ shallow s d | false ↦ s ])
      go [] e al = subst (λ (y : List ℕ). Shows ran t W C (elim (several y) [ true ↦ shallow s d | false ↦ s ])) (sym e) r
      go (x ∷ []) e al =
          let z : next_sub_of L x ≡ 0 = (subst (Along L) e al).0 in
          subst (λ (y : List ℕ). Shows ran (tab (others_on (slot_of (next_sub_of L x)) L N x) L) W C (elim (several y) [ true ↦ shallow s d | false ↦ s ])) (sym e)
          (subst (λ (y : ℕ). Shows ran (tab (others_on (slot_of y) L N x) L) W C s) (sym z) r)
      go (x ∷ y ∷ ls) e al =
          let z : next_sub_of L x ≡ suc y = (subst (Along L) e al).0 in
          subst (λ (p : List ℕ). Shows ran (tab (others_on (slot_of (next_sub_of L x)) L N x) L) W C (elim (several p) [ true ↦ shallow s d | false ↦ s ])) (sym e)
          (subst (λ (p : ℕ). Shows ran (tab (others_on (slot_of p) L N x) L) W C (shallow s d)) (sym z) (marked_shows ran ran t (shallowed L N x) W C s _ _ _ r (kept x) (from_the_first x (y ∷ ls) e)))
