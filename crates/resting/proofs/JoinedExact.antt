-- The whole test passes exactly the tables of which the five bullets hold, so far as they speak of links, flags and the queue, where there are at most 1,024 nodes.
-- Assumes nothing.
use mathlib.Core.Path.{◌≡◌}
use mathlib.Core.Bool.{true}
use mathlib.Core.List.{List, [], ◌∷◌}
use Prim.Native.Nat.{ℕ, suc, ◌<◌, ◌≤◌}
use native.Mathlib.Omega.{arith}
use lib.IntN.{ℤ}
use Rattle.primitive.specs.Rows.{field}
use Rattle.lists.specs.Sum.{All}
use Rattle.lists.proofs.EachLaws.{both_true, true_both, every_sound, every_complete, all_map}
use Rattle.counting.specs.Counts.{counted_in, most_nodes}
use Rattle.resting.specs.Linked.{is_live_slot, linked_in}
use Rattle.resting.specs.Depends.{depends_at, owned_at}
use Rattle.resting.specs.Named.{named_in}
use Rattle.resting.specs.Joined.{rests_at, rest_in, joined_in}
use Rattle.resting.specs.AtRest.{deps_of, Listed, Linked, Joined}
use Rattle.resting.proofs.LinkedExact.{linked_sound, linked_complete}
use Rattle.resting.proofs.NodesExact.{depends_sound, depends_complete, owned_sound, owned_complete, flagged_sound, flagged_complete}
use Rattle.resting.proofs.NamedExact.{named_sound, named_complete}
use Rattle.resting.proofs.QueuedExact.{queued_sound, queued_complete}

listed_live : (l : List ℕ) (own prev next n p w : ℕ) (xs : List ℕ) (tail : ℕ) → Listed l own prev next n p w xs tail → All (λ (x : ℕ). is_live_slot l x ≡ true) xs
listed_live l own prev next n p w [] tail c = tt
listed_live l own prev next n p w (x ∷ xs) tail c = (c.1, listed_live l own prev next n (suc x) (field 8 l x next) xs tail c.4)

-- a link goes to a node that there is
links_low : (t l : List ℕ) → counted_in t ≤ most_nodes → Linked t l → (n : ℕ) → n < counted_in t → All (λ (x : ℕ). field 8 l x 1 < most_nodes) (deps_of t l n)
links_low t l few wf n h =
    all_map (λ (x : ℕ). is_live_slot l x ≡ true) (λ (x : ℕ). field 8 l x 1 < most_nodes) (deps_of t l n) (λ x i. omega (arith, few, (wf.in_subs x i).0))
    (listed_live l 2 5 6 n 0 (field 16 t n 3) (deps_of t l n) (field 16 t n 4) (wf.deps n h))

module _ (t l : List ℕ) (c : List ℤ) (few : counted_in t ≤ most_nodes) where
  pub joined_sound : joined_in t l c ≡ true → Joined t l c
  unfolding joined_in rest_in rests_at
  joined_sound e =
      let a = both_true (linked_in t l) _ e in
      let b = both_true (rest_in t l) _ a.1 in
      let d = both_true (named_in t l c) _ b.1 in
      let wf = linked_sound t l a.0 in
      let at : (n : ℕ) → n < counted_in t → rests_at t l n ≡ true = every_sound (rests_at t l) (counted_in t) b.0 in
      record {
        linked = wf;
        depends = λ n h. depends_sound t l n (both_true (depends_at t l n) _ (at n h)).0;
        owned = λ n h. owned_sound t l wf n h (both_true (owned_at t l n) _ (both_true (depends_at t l n) _ (at n h)).1).0;
        few = λ n h. (flagged_sound t l wf n h (both_true (owned_at t l n) _ (both_true (depends_at t l n) _ (at n h)).1).1).0;
        flagged = λ n h. (flagged_sound t l wf n h (both_true (owned_at t l n) _ (both_true (depends_at t l n) _ (at n h)).1).1).1;
        named = named_sound t l c d.0;
        queued = queued_sound t few d.1;
      }

  pub joined_complete : Joined t l c → joined_in t l c ≡ true
  unfolding joined_in rest_in rests_at
  joined_complete j =
      true_both _ _ (linked_complete t l j.linked)
      (true_both _ _
      (every_complete (rests_at t l) (counted_in t)
      (λ n h. true_both _ _ (depends_complete t l n (j.depends n h))
      (true_both _ _ (owned_complete t l j.linked n h (j.owned n h)) (flagged_complete t l j.linked n h (j.few n h) (j.flagged n h)))))
      (true_both _ _ (named_complete t l c (links_low t l few j.linked) j.named) (queued_complete t few j.queued)))
