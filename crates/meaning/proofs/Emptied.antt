-- Emptying gives the empty tables, which are well formed, or answers 1 and touches nothing. Assumes nothing.
use mathlib.Core.Path.{◌≡◌, refl, sym, ap, ◌∙◌}
use mathlib.Core.Logic.{◌⊎◌, inl, inr}
use mathlib.Core.Bool.{true, false}
use mathlib.Core.List.{List, [], ◌∷◌}
use Prim.Native.Nat.{ℕ, zero, suc, ◌+◌, ◌≤◌, ◌<◌}
use native.Mathlib.Omega.{arith}
use lib.Dec.{eqb}
use lib.ListN.{length, get_or}
use borrow.Author.Tests.{eqb-true, eqb-false}
use Rattle.meaning.specs.State.{St, Room, capacities, below, empty}
use Rattle.meaning.specs.Reserve.{total, reserve}
use Rattle.meaning.specs.WellFormed.{In, Once, WellFormed}
use Rattle.meaning.specs.Commands.{emptying}
use Rattle.meaning.proofs.Laws.{false≢true, either, branch}

-- ---- the slots from 0 on
below_in : (l n : ℕ) (ls : List ℕ) → In l (below n ls) → (l < n) ⊎ In l ls
unfolding below
below_in l zero ls h = inr h
below_in l (suc n) ls h = go (below_in l n (n ∷ ls) h)
  where
    go : (l < n) ⊎ In l (n ∷ ls) → (l < suc n) ⊎ In l ls
    go (inl a) = inl (omega arith)
    go (inr (inl e)) = inl (omega arith)
    go (inr (inr i)) = inr i

in_below : (l n : ℕ) (ls : List ℕ) → (l < n) ⊎ In l ls → In l (below n ls)
unfolding below
in_below l zero ls (inl a) = absurd (omega arith)
in_below l zero ls (inr i) = i
in_below l (suc n) ls h = in_below l n (n ∷ ls) (go h)
  where
    at : (l < n) ⊎ (n ≤ l) → l < suc n → (l < n) ⊎ In l (n ∷ ls)
    at (inl a) b = inl a
    at (inr a) b = inr (inl (omega arith))

    split : (m n : ℕ) → (m < n) ⊎ (n ≤ m)
    split m zero = inr (omega arith)
    split zero (suc n) = inl (omega arith)
    split (suc m) (suc n) = next (split m n)
      where
        next : (m < n) ⊎ (n ≤ m) → (suc m < suc n) ⊎ (suc n ≤ suc m)
        next (inl a) = inl (omega arith)
        next (inr a) = inr (omega arith)

    go : (l < suc n) ⊎ In l ls → (l < n) ⊎ In l (n ∷ ls)
    go (inl a) = at (split l n) a
    go (inr i) = inr (inr i)

below_once : (n : ℕ) (ls : List ℕ) → ((l : ℕ) → In l ls → n ≤ l) → Once ls → Once (below n ls)
unfolding below
below_once zero ls h o = o
below_once (suc n) ls h o = below_once n (n ∷ ls) high (λ i. let a = h n i in omega arith, o)
  where
    high : (l : ℕ) → In l (n ∷ ls) → n ≤ l
    high l (inl e) = omega arith
    high l (inr i) = let a = h l i in omega arith

-- ---- no nodes, no links
module _ (r : Room) where
  free_in : (l : ℕ) → In l (below r.slots []) → l < r.slots
  free_in l i = go (below_in l r.slots [] i)
    where
      go : (l < r.slots) ⊎ In l [] → l < r.slots
      go (inr x') = elim x' [ ]
      go (inl a) = a

  pub empty_well_formed : capacities r ≡ true → WellFormed (empty r)
  unfolding empty reserve total
  empty_well_formed within = record {
    lists = record {
      free_not_live = λ l i. (refl, free_in l i);
      free_or_live = λ l h e. in_below l r.slots [] (inl h);
      free_once = below_once r.slots [] (λ l i. absurd i) tt;
      live_slot = λ l e. false≢true e;
      live_in_subs = λ l e. false≢true e;
      subs_live = λ l d i. absurd i;
      subs_once = λ d. tt;
      live_in_deps = λ l e. false≢true e;
      deps_live = λ l u i. absurd i;
      deps_once = λ u. tt;
      tail_last = λ u. refl;
      inside = λ l e. false≢true e;
    };
    depends = record {
      of_signal = λ l e. false≢true e;
      of_computed = λ l e. false≢true e;
      of_scope = λ l e. false≢true e;
      read_lower = λ l e. false≢true e;
      owned_by_it = λ l e. false≢true e;
      one_owner = λ n o h. absurd (omega arith);
      owner_lower = λ n o h. absurd (omega arith);
      unowned = λ n h. absurd (omega arith);
      owner_kind = λ n h. absurd (omega arith);
      gone_bare = λ n h. absurd (omega arith);
      gone_kind = λ n h. absurd (omega arith);
    };
    limits = record {
      names_lower = λ n m h. absurd (omega arith);
      nameless = λ n h. absurd (omega arith);
      links_few = λ n h. absurd (omega arith);
      links_named = λ l e. false≢true e;
      cells_few = λ n h. absurd (omega arith);
      nesting_low = λ n h. absurd (omega arith);
      levels = λ n h. absurd (omega arith);
      level_low = λ n h. absurd (omega arith);
      room_within = within;
      nodes_fit = omega arith;
      cells_fit = omega arith;
      reserve_fits = omega arith;
    };
    by_kind = record {
      of_signal = λ n h. absurd (omega arith);
      of_computed = λ n h. absurd (omega arith);
      of_effect = λ n h. absurd (omega arith);
      of_scope = λ n h. absurd (omega arith);
      of_gone = λ n h. absurd (omega arith);
    };
    queued = record {
      queue_once = tt;
      queue_effects = λ n i. absurd i;
      queue_gone = λ n i. absurd i;
      at_depth_0 = λ e. refl;
      depth_low = omega arith;
    };
  }

-- emptying answers 0 and leaves the empty tables, which are well formed, or answers 1 and leaves what it was lent
pub emptying_answers : (r : Room) (s : St)
    → ((capacities r ≡ true) × (emptying r s ≡ (0, empty r)) × WellFormed (empty r)) ⊎ ((capacities r ≡ false) × (emptying r s ≡ (1, s)))
unfolding emptying
emptying_answers r s =
    branch (λ (x : ℕ × St). ((capacities r ≡ true) × (x ≡ (0, empty r)) × WellFormed (empty r)) ⊎ ((capacities r ≡ false) × (x ≡ (1, s)))) (capacities r)
    (λ e. inl (e, refl, empty_well_formed r e)) (λ e. inr (e, refl))

-- ---- what the empty tables are
-- the first of the list that the slots below n are put before stands at place n
past_below : (n k : ℕ) (ls : List ℕ) → get_or (below n ls) (n + k) 0 ≡ get_or ls k 0
unfolding below
past_below zero k ls = let e : 0 + k ≡ k = omega arith in ap (λ (j : ℕ). get_or ls j 0) e
past_below (suc n) k ls = let e : suc n + k ≡ n + suc k = omega arith in ap (λ (j : ℕ). get_or (below n (n ∷ ls)) j 0) e ∙ past_below n (suc k) (n ∷ ls)

at_below : (n l : ℕ) (ls : List ℕ) → l < n → get_or (below n ls) l 0 ≡ l
unfolding below
at_below zero l ls h = absurd (omega arith)
at_below (suc n) l ls h = either (eqb l n) (λ e. last (eqb-true l n e)) (λ e. let q = eqb-false l n e in at_below n l (n ∷ ls) (omega (arith, q)))
  where
    last : l ≡ n → get_or (below n (n ∷ ls)) l 0 ≡ l
    last q = let e : l ≡ n + 0 = omega arith in ap (λ (j : ℕ). get_or (below n (n ∷ ls)) j 0) e ∙ past_below n 0 (n ∷ ls) ∙ sym q

below_long : (n : ℕ) (ls : List ℕ) → length (below n ls) ≡ n + length ls
unfolding below
below_long zero ls = omega arith
below_long (suc n) ls = let r = below_long n (n ∷ ls) in omega arith

-- no nodes, all slots free, the lowest first, depth and cycle 0
pub empty_is : (r : Room) → let s = empty r in
    (s.size ≡ 0) × (length s.free ≡ r.slots) × ((l : ℕ) → l < r.slots → (s.live l ≡ false) × (get_or s.free l 0 ≡ l)) × (s.depth ≡ 0) × (s.cycle ≡ 0)
unfolding empty
empty_is r = let e = below_long r.slots [] in (refl, omega arith, λ l h. (refl, at_below r.slots l [] h), refl, refl)
