-- Room: each live link is paid for by a node, and a node that has not spent its reserve finds a free slot. Assumes nothing.
use Rattle.std.specs.Prelude.{Option, None, Some}
use mathlib.Core.Path.{◌≡◌, refl, sym, ap, ap₂, ◌∙◌, subst}
use mathlib.Core.Logic.{◌⊎◌, inl, inr}
use mathlib.Core.Bool.{Bool, true, false, not}
use mathlib.Core.List.{List, [], ◌∷◌, ◌++◌, append-nil}
use Prim.Native.Nat.{ℕ, zero, suc, ◌+◌, ◌≤◌, ◌<◌}
use native.Mathlib.Omega.{arith}
use lib.Dec.{leb, ltb}
use lib.ListN.{length, length-append}
use borrow.Author.Tests.{le-ltb, lt-leb, leb-false, ltb-false}
use Rattle.trees.specs.Trees.{names}
use Rattle.meaning.specs.State.{St, Kind, signal, computed, effect, scope, readable, deps}
use Rattle.lists.specs.Sum.{bit}
use Rattle.meaning.specs.Reserve.{total, owned_link, reserve_of, reserve, live_links}
use Rattle.meaning.specs.Links.{spent, insert}
use Rattle.meaning.specs.WellFormed.{In, read_links, WellFormed}
use Rattle.meaning.proofs.Laws.{clash, either, branch, or_none, or_left, or_right, in_left, in_right}
use Rattle.meaning.proofs.Members.{most_marked, all_marked, total_both, all_below, gather, gather_length, in_gather, total-least, total_spare, reads_in}
use Rattle.meaning.proofs.Still.{Given, given}
use Rattle.meaning.proofs.Inside.{Set, nobody, Static, Rests, Slots, Inside, reserved, static, rest_inside}

-- a node pays for its read links, and an effect or a scope for the link to its owner
abbrev pub owner_links : Kind → List ℕ → List ℕ
owner_links k subs = elim (readable k) [ true ↦ [] | false ↦ subs ]

abbrev pub paid : Given → St → ℕ → ℕ
paid g s n = length (read_links g.kind s.dep (deps s n)) + length (owner_links (g.kind n) (s.subs n))

abbrev pub spends : Given → St → ℕ → ℕ
spends g s n = reserve_of (g.kind n) (s.gone n) (g.form n) (g.owner n)

pub record Paid (g : Given) (s : St) (n : ℕ) : Type 0 where
  pub enough : paid g s n ≤ spends g s n

module _ (g : Given) (st : Static g) where
  owner_links_read : (k : Kind) (subs : List ℕ) → readable k ≡ true → length (owner_links k subs) ≡ 0
  owner_links_read k subs e = ap (λ (b : Bool). length {A = ℕ} (elim b as (λ (x : Bool). List ℕ) [ true ↦ [] | false ↦ subs ])) e

  owner_links_own : (k : Kind) (subs : List ℕ) → readable k ≡ false → length (owner_links k subs) ≡ length subs
  owner_links_own k subs e = ap (λ (b : Bool). length {A = ℕ} (elim b as (λ (x : Bool). List ℕ) [ true ↦ [] | false ↦ subs ])) e

  reserve_at : (k : Kind) (b : Bool) (n : ℕ) (s : St) → g.kind n ≡ k → s.gone n ≡ b → spends g s n ≡ reserve_of k b (g.form n) (g.owner n)
  reserve_at k b n s e f = ap₂ (λ (x : Kind) (y : Bool). reserve_of x y (g.form n) (g.owner n)) e f

  -- the link to the owner, at rest
  pub owner_links_few : (s : St) (n : ℕ) → readable (g.kind n) ≡ false → s.gone n ≡ false → Rests g s n → length (s.subs n) ≤ owned_link (g.owner n)
  owner_links_few s n r a w = go (g.owner n) refl
    where
      go : (o : Option ℕ) → g.owner n ≡ o → length (s.subs n) ≤ owned_link o
      go None e = let z = ap length (w.unowned r e) in omega arith
      go (Some o) e = let z = ap length (w.owned o a e).1 in omega arith

  pub rests_paid : (X : Set) (s : St) (n : ℕ) → Inside g X s → n < g.size → Rests g s n → Paid g s n
  unfolding read_links
  rests_paid X s n i h w = record { enough = go (g.kind n) refl }
    where
      links : deps s n ≡ s.done n
      links = ap (λ (x : List ℕ). s.done n ++ x) w.tail ∙ append-nil (s.done n)

      few : length (read_links g.kind s.dep (deps s n)) ≤ length (names (g.form n))
      few = subst (λ (x : List ℕ). length (read_links g.kind s.dep x) ≤ length (names (g.form n))) (sym links) w.few

      go : (k : Kind) → g.kind n ≡ k → paid g s n ≤ spends g s n
      go signal e =
          let a = owner_links_read (g.kind n) (s.subs n) (ap readable e) in
          let b = few in
          let c = ap length (st.nameless n h (inl e)) in
          omega arith
      go computed e =
          let a = owner_links_read (g.kind n) (s.subs n) (ap readable e) in
          let b = few in
          let c = reserve_at computed (s.gone n) n s e refl in
          omega arith
      go effect e = either (s.gone n)
          (λ q. let a = owner_links_own (g.kind n) (s.subs n) (ap readable e) in
          let b = ap (λ (x : List ℕ). length (read_links g.kind s.dep x)) (links ∙ (w.bare q).0) in
          let c = ap length (w.bare q).1 in
          omega arith)
          (λ q. let a = owner_links_own (g.kind n) (s.subs n) (ap readable e) in
          let b = few in
          let c = reserve_at effect false n s e q in
          let f = owner_links_few s n (ap readable e) q w in
          omega arith)
      go scope e = either (s.gone n)
          (λ q. let a = owner_links_own (g.kind n) (s.subs n) (ap readable e) in
          let b = ap (λ (x : List ℕ). length (read_links g.kind s.dep x)) (links ∙ (w.bare q).0) in
          let c = ap length (w.bare q).1 in
          omega arith)
          (λ q. let a = owner_links_own (g.kind n) (s.subs n) (ap readable e) in
          let b = few in
          let c = ap length (st.nameless n h (inr e)) in
          let x = reserve_at scope false n s e q in
          let f = owner_links_few s n (ap readable e) q w in
          omega arith)

  -- ---- where the live links are
  abbrev bill : St → ℕ → List ℕ
  bill s n = read_links g.kind s.dep (deps s n) ++ owner_links (g.kind n) (s.subs n)

  billed : (s : St) → Slots g s → (l : ℕ) → s.live l ≡ true → In l (gather (bill s) g.size)
  billed s o l e =
      either (readable (g.kind (s.dep l)))
      (λ r. in_gather (bill s) g.size l (s.sub l) (o.inside l e).1
      (in_left l (read_links g.kind s.dep (deps s (s.sub l))) _ (reads_in g.kind s.dep l (deps s (s.sub l)) (o.live_in_deps l e) r)))
      (λ r. in_gather (bill s) g.size l (s.dep l) (o.inside l e).0
      (in_right l (read_links g.kind s.dep (deps s (s.dep l))) _
      (branch (λ (x : List ℕ). In l x) (readable (g.kind (s.dep l))) (λ q. clash q r) (λ q. o.live_in_subs l e))))

  bill_length : (s : St) → length (gather (bill s) g.size) ≤ total (paid g s) g.size
  bill_length s =
      let a = gather_length (bill s) g.size in
      let b = total-least (λ n. length (bill s n)) (paid g s) g.size (λ n h. let c = length-append (read_links g.kind s.dep (deps s n)) (owner_links (g.kind n) (s.subs n)) in omega arith) in
      omega arith

  -- the slots that are not free are paid for
  live_paid : (X : Set) (s : St) → Inside g X s → g.room.slots ≤ length s.free + total (paid g s) g.size
  live_paid X s i =
      let a : g.room.slots ≤ length (s.free ++ gather (bill s) g.size) = all_below g.room.slots (s.free ++ gather (bill s) g.size) here in
      let b = length-append s.free (gather (bill s) g.size) in
      let c = bill_length s in
      omega arith
    where
      here : (l : ℕ) → l < g.room.slots → In l (s.free ++ gather (bill s) g.size)
      here l lo = either (s.live l) (λ e. in_right l s.free (gather (bill s) g.size) (billed s i.lists l e)) (λ e. in_left l s.free (gather (bill s) g.size) (i.lists.free_or_live l lo e))

  -- the slots that are not free are at most the reserve
  pub used_reserved : (X : Set) (s : St) → Inside g X s → ((n : ℕ) → n < g.size → Paid g s n) → g.room.slots ≤ reserved g s.gone + length s.free
  used_reserved X s i all =
      let a = live_paid X s i in
      let b = total-least (paid g s) (spends g s) g.size (λ n lo. (all n lo).enough) in
      omega arith

  -- live links are at most the reserve, and that at most the slots
  pub live_reserved : (X : Set) (s : St) → Inside g X s → ((n : ℕ) → n < g.size → Paid g s n) → (live_links s ≤ reserved g s.gone) × (reserved g s.gone ≤ g.room.slots)
  live_reserved X s i all =
      let k : s.room.slots ≡ g.room.slots = ap (λ (z : Given). z.room.slots) i.same in
      let a = all_marked (λ l. bit (s.live l)) s.room.slots (gather (bill s) g.size) (λ l h. at l) in
      let c = bill_length s in
      let b = total-least (paid g s) (spends g s) g.size (λ n lo. (all n lo).enough) in
      (omega arith, i.fits)
    where
      at : (l : ℕ) → (bit (s.live l) ≡ 0) ⊎ ((bit (s.live l) ≡ 1) × In l (gather (bill s) g.size))
      at l = either (s.live l) (λ e. inr (ap bit e, billed s i.lists l e)) (λ e. inl (ap bit e))

  -- u has a link to spare: a slot is free, and the reserve is not spent
  pub slot_left : (X : Set) (s : St) (u : ℕ) → Inside g X s → u < g.size → paid g s u < spends g s u → ((n : ℕ) → n < g.size → Paid g s n) → (s.free ≡ [] → ⊥) × (spent s ≡ false)
  unfolding spent reserve
  slot_left X s u i h spare all =
      let a = live_paid X s i in
      let c : total (paid g s) g.size + 1 ≤ reserved g s.gone = total_spare (paid g s) (spends g s) g.size u 1 h (omega arith) (λ n lo. (all n lo).enough) in
      let f = i.fits in
      let r : reserve s ≡ reserved g s.gone = ap (λ (z : Given). reserved z s.gone) i.same in
      let k : s.room.slots ≡ g.room.slots = ap (λ (z : Given). z.room.slots) i.same in (
        λ e. let z = ap length e in omega arith,
        or_none (leb (reserve s + length s.free) s.room.slots) (ltb s.room.slots (reserve s)) (lt-leb (reserve s + length s.free) s.room.slots (omega arith)) (le-ltb s.room.slots (reserve s) (omega arith)),
      )

-- at rest, and wherever nobody is under way: at every turn of a walk, and between two runs of a flush
pub room_resting : (g : Given) (st : Static g) (s : St) → Inside g nobody s → (live_links s ≤ reserved g s.gone) × (reserved g s.gone ≤ g.room.slots)
room_resting g st s i = live_reserved g st nobody s i (λ n h. rests_paid g st nobody s n i h (i.rests n h (λ z. z)))

pub room_at_rest : (s : St) → WellFormed s → (live_links s ≤ reserve s) × (reserve s ≤ s.room.slots)
unfolding reserve
room_at_rest s w = room_resting (given s) (static s w) s (rest_inside s w)

-- ---- where a link is made
ones : (n : ℕ) → total (λ l. 1) n ≡ n
unfolding total
ones zero = refl
ones (suc n) = let a = ones n in omega arith

-- a slot on the free list is not live
pub live_and_free : (g : Given) (s : St) → Slots g s → total (λ l. bit (s.live l)) g.room.slots + length s.free ≤ g.room.slots
live_and_free g s o =
    let n = g.room.slots in
    let a = most_marked (λ l. bit (not (s.live l))) n s.free o.free_once (λ l j. let x = o.free_not_live l j in let e = ap (λ (b : Bool). bit (not b)) x.0 in (x.1, omega arith)) in
    let b = total_both (λ l. bit (s.live l)) (λ l. bit (not (s.live l))) (λ l. 1) n (λ l h. each (s.live l)) in
    let c = ones n in
    omega arith
  where
    each : (b : Bool) → bit b + bit (not b) ≡ 1
    each true = refl
    each false = refl

-- a link that is made, and not stuck: live links are at most the reserve then, and that at most the slots
pub made_in_room : (g : Given) (s : St) (d u v l : ℕ) (ls : List ℕ) → given s ≡ g → s.free ≡ l ∷ ls → Slots g (insert s d u v (l ∷ ls)) → (insert s d u v (l ∷ ls)).stuck ≡ false
    → (live_links (insert s d u v (l ∷ ls)) ≤ reserve (insert s d u v (l ∷ ls))) × (reserve (insert s d u v (l ∷ ls)) ≤ s.room.slots)
unfolding insert spent reserve
made_in_room g s d u v l ls is e o h =
    let no = or_right s.stuck (spent s) h in
    let a = leb-false (reserve s + length s.free) s.room.slots (or_left (leb (reserve s + length s.free) s.room.slots) (ltb s.room.slots (reserve s)) no) in
    let b = ltb-false s.room.slots (reserve s) (or_right (leb (reserve s + length s.free) s.room.slots) (ltb s.room.slots (reserve s)) no) in
    let c = live_and_free g (insert s d u v (l ∷ ls)) o in
    let k : s.room.slots ≡ g.room.slots = ap (λ (z : Given). z.room.slots) is in
    let f = ap length e in
    let live : live_links (insert s d u v (l ∷ ls)) ≡ total (λ k. bit ((insert s d u v (l ∷ ls)).live k)) g.room.slots = ap (total (λ k. bit ((insert s d u v (l ∷ ls)).live k))) k in
    let same : reserve (insert s d u v (l ∷ ls)) ≡ reserve s = refl in
    (omega arith, omega arith)
