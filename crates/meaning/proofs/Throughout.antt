-- Room at every moment: a step that is not stuck keeps the live links, the slots in use and the reserve under the same bound. Assumes nothing.
use mathlib.Core.Path.{◌≡◌, refl, sym, ap, subst}
use mathlib.Core.Logic.{inl, inr}
use mathlib.Core.Bool.{Bool, true, false}
use mathlib.Core.List.{List, [], ◌∷◌}
use Prim.Native.Nat.{ℕ, ◌+◌, ◌≤◌, ◌<◌}
use native.Mathlib.Omega.{arith}
use lib.Dec.{leb, ltb, eqb}
use lib.ListN.{length}
use borrow.Author.Tests.{leb-false, eq-eqb}
use Rattle.lists.specs.Sum.{bit, count, sum}
use Rattle.lists.proofs.SumLaws.{sum_add, sum_at_le}
use Rattle.meaning.specs.State.{St, up, f0}
use Rattle.meaning.specs.Setters.{set_fl, set_gone}
use Rattle.meaning.specs.Links.{renew, spent, insert, link, cut, rewind}
use Rattle.meaning.specs.Reserve.{reserve_of, reserve, live_links}
use Rattle.meaning.specs.WellFormed.{In, WellFormed}
use Rattle.meaning.specs.Moments.{Held, held, Step, unlinks, links, marks_gone, others, Steps, here, later, Moment}
use Rattle.meaning.proofs.Laws.{clash, either, or_first, or_left, or_right, up_by, up_same}
use Rattle.meaning.proofs.Rings.{link_ways}
use Rattle.meaning.proofs.Members.{total-least, total_spare}
use Rattle.meaning.proofs.Still.{given}
use Rattle.meaning.proofs.Inside.{nobody, reserve_least, static, rest_inside}
use Rattle.meaning.proofs.Room.{rests_paid, used_reserved, live_and_free}

-- the reserve and the slots in use are at most n; no slot is both live and free; both are slots
pub record Within (n : ℕ) (s : St) : Type 0 where
  pub reserved : reserve s ≤ n
  pub in_use : s.room.slots ≤ n + length s.free
  pub apart : live_links s + length s.free ≤ s.room.slots
  pub live_slot : (l : ℕ) → s.live l ≡ true → l < s.room.slots
  pub free_slot : (l : ℕ) → In l s.free → l < s.room.slots

pub few_live : (n : ℕ) (s : St) → Within n s → live_links s ≤ n
few_live n s w = let a = w.in_use in let b = w.apart in omega arith

-- at rest the reserve itself is such a bound
pub rest_within : (s : St) → WellFormed s → Within (reserve s) s
unfolding reserve
rest_within s w =
    let i = rest_inside s w in
    let st = static s w in
    record {
      reserved = omega arith;
      in_use = used_reserved (given s) st nobody s i (λ n h. rests_paid (given s) st nobody s n i h (i.rests n h (λ z. z)));
      apart = live_and_free (given s) s i.lists;
      live_slot = w.lists.live_slot;
      free_slot = λ l j. (w.lists.free_not_live l j).1;
    }

-- ---- one step
abbrev Keeps : St → St → Type 0
Keeps s t = (s.stuck ≡ true → t.stuck ≡ true) × (t.stuck ≡ false → (n : ℕ) → Within n s → Within n t)

room_same : (s : St) → Keeps s s
room_same s = (λ e. e, λ e n h. h)

cut_room : (s : St) (l : ℕ) → s.live l ≡ true → Keeps s (cut s l)
unfolding cut reserve
cut_room s l v = (
  λ e. e,
  λ e n h.
      let a = h.in_use in
      let b = h.apart in
      let fewer : count (up s.live l false) s.room.slots + 1 ≤ count s.live s.room.slots =
      total_spare (λ m. bit (up s.live l false m)) (λ m. bit (s.live m)) s.room.slots l 1 (h.live_slot l v)
      (let p = ap bit (up_same s.live l false) in let q = ap bit v in omega arith)
      (λ m k. up_by s.live l false (λ (x : Bool). bit x ≤ bit (s.live m)) m (λ q. omega arith) (λ q. omega arith)) in
      record {
        reserved = h.reserved;
        in_use = omega arith;
        apart = omega arith;
        live_slot = λ m. up_by s.live l false (λ (x : Bool). x ≡ true → m < s.room.slots) m (λ q z. clash z refl) (λ q. h.live_slot m);
        free_slot = λ m j. slot n h m j;
      },
)
  where
    slot : (n : ℕ) → Within n s → (m : ℕ) → In m (l ∷ s.free) → m < s.room.slots
    slot n h m (inl e) = subst (λ (x : ℕ). x < s.room.slots) (sym e) (h.live_slot l v)
    slot n h m (inr j) = h.free_slot m j

renew_room : (s : St) (u v : ℕ) (ls : List ℕ) → Keeps s (renew s u v ls)
unfolding renew reserve
renew_room s u v [] = (λ e. refl, λ e n h. clash refl e)
renew_room s u v (l ∷ ls) = (λ e. e, λ e n h. record { reserved = h.reserved; in_use = h.in_use; apart = h.apart; live_slot = h.live_slot; free_slot = h.free_slot })

-- a link is made only where fewer are live than the reserve allows
insert_room : (s : St) (d u v : ℕ) (ls : List ℕ) → s.free ≡ ls → Keeps s (insert s d u v ls)
unfolding insert reserve spent
insert_room s d u v [] q = (λ e. refl, λ e n h. clash refl e)
insert_room s d u v (l ∷ ls) q = (
  or_first s.stuck (spent s),
  λ e n h.
      let no = or_right s.stuck (spent s) e in
      let a = leb-false (reserve s + length s.free) s.room.slots (or_left (leb (reserve s + length s.free) s.room.slots) (ltb s.room.slots (reserve s)) no) in
      let b : length s.free ≡ length (l ∷ ls) = ap length q in
      let c : reserve s ≤ n = h.reserved in
      let x = h.apart in
      let inside : (m : ℕ) → In m (l ∷ ls) → m < s.room.slots = subst (λ (z : List ℕ). (m : ℕ) → In m z → m < s.room.slots) q h.free_slot in
      let one_more : count (up s.live l true) s.room.slots ≤ sum (λ m. bit (s.live m) + bit (eqb m l)) s.room.slots =
      total-least (λ m. bit (up s.live l true m)) (λ m. bit (s.live m) + bit (eqb m l)) s.room.slots
      (λ m k. up_by s.live l true (λ (x : Bool). bit x ≤ bit (s.live m) + bit (eqb m l)) m (λ e. let y = ap bit (eq-eqb m l e) in omega arith) (λ e. omega arith)) in
      let both = sum_add (λ m. bit (s.live m)) (λ m. bit (eqb m l)) s.room.slots in
      let at_most = sum_at_le l s.room.slots in
      record {
        reserved = h.reserved;
        in_use = omega arith;
        apart = omega arith;
        live_slot = λ m. up_by s.live l true (λ (x : Bool). x ≡ true → m < s.room.slots) m (λ e z. subst (λ (k : ℕ). k < s.room.slots) (sym e) (inside l (inl refl))) (λ e. h.live_slot m);
        free_slot = λ m j. inside m (inr j);
      },
)

link_room : (s : St) (d u v : ℕ) → Keeps s (link s d u v)
link_room s d u v = link_ways (Keeps s) s d u v (λ a. room_same s) (λ b. renew_room s u v (s.rest u)) (λ c. room_same s) (insert_room s d u v s.free refl)

-- after it made one, they are at most the reserve of that moment
inserted_few : (s : St) (d u v : ℕ) (ls : List ℕ) (n : ℕ) → s.free ≡ ls → Within n s → (insert s d u v ls).stuck ≡ false → live_links (insert s d u v ls) ≤ reserve (insert s d u v ls)
unfolding insert reserve spent
inserted_few s d u v [] n q h e = clash refl e
inserted_few s d u v (l ∷ ls) n q h e =
    let no = or_right s.stuck (spent s) e in
    let a = leb-false (reserve s + length s.free) s.room.slots (or_left (leb (reserve s + length s.free) s.room.slots) (ltb s.room.slots (reserve s)) no) in
    let b : length s.free ≡ length (l ∷ ls) = ap length q in
    let x = ((insert_room s d u v (l ∷ ls) q).1 e n h).apart in
    omega arith

-- no link more, so nothing to say
none_more : (n : ℕ) {C : Type 0} → n < n → C
none_more n h = absurd (omega arith)

pub linked_few : (s : St) (d u v : ℕ) (n : ℕ) → Within n s → (link s d u v).stuck ≡ false → live_links s < live_links (link s d u v) → live_links (link s d u v) ≤ reserve (link s d u v)
unfolding renew
linked_few s d u v n h = link_ways Few s d u v (λ a e m. none_more (live_links s) m) (λ b. renewed (s.rest u)) (λ c e m. none_more (live_links s) m) (λ e m. inserted_few s d u v s.free n refl h e)
  where
    Few : St → Type 0
    Few t = t.stuck ≡ false → live_links s < live_links t → live_links t ≤ reserve t

    renewed : (ls : List ℕ) → Few (renew s u v ls)
    renewed [] e m = clash refl e
    renewed (l ∷ ls) e m = none_more (live_links s) m

-- the reserve falls where a node is marked gone
gone_room : (s : St) (x : ℕ) → Keeps s (set_gone (set_fl (rewind s x) x f0) x true)
unfolding reserve
gone_room s x = (
  λ e. e,
  λ e n h.
      let a = total-least (λ m. reserve_of (s.kind m) (up s.gone x true m) (s.form m) (s.owner m)) (λ m. reserve_of (s.kind m) (s.gone m) (s.form m) (s.owner m)) s.size
      (λ m l. up_by s.gone x true (λ (b : Bool). reserve_of (s.kind m) b (s.form m) (s.owner m) ≤ reserve_of (s.kind m) (s.gone m) (s.form m) (s.owner m)) m (λ q. reserve_least (s.kind m) (s.gone m) (s.form m) (s.owner m)) (λ q. omega arith)) in
      let b = h.reserved in
      record { reserved = omega arith; in_use = h.in_use; apart = h.apart; live_slot = h.live_slot; free_slot = h.free_slot },
)

-- `Within` looks at nothing else
abbrev WithinBy : ℕ → Held → Type 0
WithinBy n h = (sum (λ m. reserve_of (h.kind m) (h.gone m) (h.form m) (h.owner m)) h.size ≤ n) × (h.room.slots ≤ n + length h.free) × (count h.live h.room.slots + length h.free ≤ h.room.slots)
    × ((l : ℕ) → h.live l ≡ true → l < h.room.slots) × ((l : ℕ) → In l h.free → l < h.room.slots)

others_room : (s t : St) → held t ≡ held s → (n : ℕ) → Within n s → Within n t
unfolding reserve
others_room s t e n h =
    let x : WithinBy n (held t) = subst (WithinBy n) (sym e) (h.reserved, h.in_use, h.apart, h.live_slot, h.free_slot) in
    record { reserved = x.0; in_use = x.1; apart = x.2; live_slot = x.3; free_slot = x.4 }

step_room : (s t : St) → Step s t → Keeps s t
step_room s t (unlinks l v) = cut_room s l v
step_room s t (links d u v) = link_room s d u v
step_room s t (marks_gone x) = gone_room s x
step_room s t (others x e k) = (k, λ f. others_room s x e)

-- ---- all steps
steps_room : (s t : St) → Steps s t → Keeps s t
steps_room s t here = room_same s
steps_room s t (later {t = x} p q) =
    let a = steps_room s x p in
    let b = step_room x t q in
    (λ e. b.0 (a.0 e), λ e n h. b.1 e n (a.1 (either x.stuck (λ z. clash (b.0 z) e) (λ z. z)) n h))

pub steps_stick : (s t : St) → Steps s t → s.stuck ≡ true → t.stuck ≡ true
steps_stick s t p = (steps_room s t p).0

pub unstuck : (s t : St) → Steps s t → t.stuck ≡ false → s.stuck ≡ false
unstuck s t p e = either s.stuck (λ z. clash (steps_stick s t p z) e) (λ z. z)

-- at every moment on the way to a state that is not stuck
pub moment_within : (s t x : St) → Moment s t x → t.stuck ≡ false → (n : ℕ) → Within n s → Within n x
moment_within s t x m e n h =
    let before = steps_room s x m.reached in
    before.1 (unstuck x t m.left e) n h
