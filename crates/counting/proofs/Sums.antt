-- Sums over the nodes, turn by turn: a sum that stops at the greatest word is the plain sum, stopped. Assumes nothing.
use mathlib.Core.Path.{◌≡◌, refl}
use mathlib.Core.Bool.{Bool, true, false}
use mathlib.Core.List.{List}
use Prim.Native.Nat.{ℕ, ◌+◌, ◌≤◌, min}
use native.Mathlib.Numerals.{add-one}
use native.Mathlib.Omega.{arith}
use lib.Dec.{eqb}
use Rattle.primitive.specs.Words.{KIND, GONE, EFFECT, node}
use Rattle.counting.specs.Counts.{total, top, row, effect_of}

pub total_none : (f : ℕ → ℕ) → total f 0 ≡ 0
unfolding total
total_none f = refl

pub total_more : (f : ℕ → ℕ) (n : ℕ) → total f (n + 1) ≡ total f n + f n
unfolding total
total_more f n = rw (add-one n)

-- the sum of the stopped parts, stopped, is the whole sum, stopped
pub stopped_more : (f : ℕ → ℕ) (n : ℕ) {s p r : ℕ} → s ≡ min top (total f n) → p ≡ min top (f n) → r ≡ min top (s + p) → r ≡ min top (total f (n + 1))
stopped_more f n a b c = omega (arith, total_more f n)

-- an effect counts at most 1, so no sum of them exceeds the number of nodes
pub effect_most : (nodes : List ℕ) (n : ℕ) → effect_of nodes n ≤ 1
unfolding effect_of
effect_most nodes n = go (eqb (node nodes n KIND) EFFECT) (eqb (node nodes n GONE) 0)
  where
    go : (a b : Bool) → row a (row b 1 0) 0 ≤ 1
    go true true = omega arith
    go true false = omega arith
    go false b = omega arith
