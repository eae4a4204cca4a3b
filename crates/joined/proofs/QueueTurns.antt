-- One turn of the queue's scan, by what the code finds. Assumes nothing.
use Rattle.std.specs.Prelude.{Option, Some, None}
use mathlib.Core.Path.{◌≡◌, sym, ◌∙◌}
use mathlib.Core.Bool.{Bool, true, false}
use mathlib.Core.List.{List}
use Prim.Native.Nat.{ℕ, zero, suc, ◌+◌, ◌-◌, ◌<◌, ◌≤◌}
use native.Mathlib.Omega.{arith}
use native.Mathlib.Numerals.{add-one}
use lib.ListN.{get_or, set}
use borrow.Author.Tests.{eq-eqb, ne_eqb}
use Rattle.queue.specs.Queue.{count, entry_at, entries, queue_of}
use Rattle.lists.specs.Once.{spend, scan}
use Rattle.resting.specs.Queued.{may_wait, lives, scanned}

-- what is left of the queue from entry i on, r entries
abbrev pub left_of : List ℕ → List ℕ → ℕ → ℕ → ℕ → Option ℕ
left_of t s i r b = scanned t s (entries t i r) b

pub scan_start : (t s : List ℕ) (b n : ℕ) → n ≡ count t → left_of t s 0 (n - 0) b ≡ scanned t s (queue_of t) b
unfolding queue_of
scan_start t s b n e = let z : n - 0 ≡ count t = omega (arith, e) in rw z

module _ (t s : List ℕ) (i b r : ℕ) where
  pub scan_end : r ≤ 0 → left_of t s i r b ≡ Some b
  unfolding scanned entries scan
  scan_end h = let z : r ≡ 0 = omega arith in rw z

module _ (t s : List ℕ) (i b e : ℕ) (q : e ≡ entry_at t i) where
  pub scan_bad : (r : ℕ) → 0 < r → may_wait t e ≡ false → left_of t s i r b ≡ None
  unfolding scanned entries scan
  scan_bad zero h f = absurd (omega arith)
  scan_bad (suc r) h f = rw (← q) (rw (f, scan))

  pub scan_seen : (r : ℕ) → 0 < r → may_wait t e ≡ true → (get_or s e 0 ≡ 0 → ⊥) → left_of t s i r b ≡ None
  unfolding scanned entries scan
  scan_seen zero h f g = absurd (omega arith)
  scan_seen (suc r) h f g = rw (← q) (rw (f, ne_eqb (get_or s e 0) 0 g, scan))

  pub scan_broke : (r : ℕ) → 0 < r → may_wait t e ≡ true → get_or s e 0 ≡ 0 → spend (lives t e) b ≡ None → left_of t s i r b ≡ None
  unfolding scanned entries scan
  scan_broke zero h f g o = absurd (omega arith)
  scan_broke (suc r) h f g o = rw (← q) (rw (f, eq-eqb (get_or s e 0) 0 g, o, scan))

  -- the mark is set, and what is paid comes off the budget
  pub scan_turn : (r r' m : ℕ) (u : List ℕ) (live : Bool) (paid : Option ℕ) → 0 < r → may_wait t e ≡ true → get_or s e 0 ≡ 0 → live ≡ lives t e → paid ≡ spend live b → paid ≡ Some m
      → u ≡ set s e 1 → r' ≡ r - 1 → left_of t s i r b ≡ left_of t u (i + 1) r' m
  unfolding scanned entries scan
  scan_turn zero r' m u live paid h f g l o p j k = absurd (omega arith)
  scan_turn (suc r) r' m u live paid h f g l o p j k =
      let z : r' ≡ r = omega (arith, k) in
      let y : spend (lives t e) b ≡ Some m = rw (← l) (sym o ∙ p) in
      rw (← q, j, z, add-one) (rw (f, eq-eqb (get_or s e 0) 0 g, y, scan))
