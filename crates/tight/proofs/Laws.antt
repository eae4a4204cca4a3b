-- Laws by which the code was proved in an earlier form, and which pages name: of counting down, of a cell that carries no operand, and of the place behind
-- a newline. No proof needs them today. Assumes nothing.
use Rattle.std.specs.Prelude.{Option, Some, None}
use Rattle.std.specs.List.{position}
use mathlib.Core.Path.{◌≡◌, refl}
use mathlib.Core.Bool.{Bool, true, false, cond}
use mathlib.Core.List.{List}
use Prim.Native.Nat.{ℕ, zero, suc, ◌+◌, ◌≤◌}
use native.Mathlib.Omega.{arith}
use lib.Dec.{eqb, ltb}
use lib.IntN.{ℤ}
use lib.ListN.{length}
use Rattle.lists.specs.Sum.{sum, count}
use Rattle.trees.specs.declared.cells.Cell.{Cell}
use Rattle.trees.specs.declared.cells.Cell.TheVariants.{Bad}
use Rattle.trees.specs.Cells.{natural_of, bare_of}
use Rattle.trees.proofs.CellLaws.{natural_pos}
use Rattle.packs.specs.Packs.{index_of, line_of}

pub count_end_lem : (p : ℕ → Bool) (k c n : ℕ) → k ≤ 0 → c + count p k ≡ n → c ≡ n
unfolding sum
count_end_lem p zero c n h e = omega (arith, e)
count_end_lem p (suc k) c n h e = absurd (omega arith)

pub bare_not : (k : ℤ) {r : Option ℕ} → r ≡ natural_of k → (c : Cell) (n : ℕ) → r ≡ Some n → (n ≡ 0 → ⊥) → Bad ≡ bare_of k c
unfolding bare_of
bare_not k found c zero e z = absurd (z refl)
bare_not k found c (suc n) e z = rw (natural_pos k found (suc n) e)

-- the place behind a newline that was found
abbrev pub behind : Option ℕ → Option ℕ
behind None = None
behind (Some i) = Some (i + 1)

pub line_is : (w : List ℕ) → line_of w ≡ behind (position (λ b. eqb b 10) w)
line_is w = by_test (ltb (index_of 10 w) (length w)) (index_of 10 w)
  where
    by_test : (b : Bool) (n : ℕ) → elim b [ true ↦ Some (n + 1) | false ↦ None ] ≡ behind (cond b (Some n) None)
    by_test true n = refl
    by_test false n = refl
