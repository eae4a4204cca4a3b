-- A visit of a node whose flags have neither RECURSED_CHECK nor RECURSED, as between commands: a clean node becomes pending and the walk goes on from it;
-- any other is left alone. Assumes nothing.
use mathlib.Core.Path.{◌≡◌, refl, sym}
use mathlib.Core.Bool.{Bool, true, false}
use Prim.Native.Nat.{ℕ, ◌<◌}
use native.Mathlib.Omega.{arith}
use lib.Bits.{bit_or}
use Rattle.flags.proofs.FlagLaws.{every, every_at}
use Rattle.marking.specs.Fields.{pending, busy, changed, marked, lacks}
use Rattle.marking.specs.Visits.{visit_of}
use Rattle.marking.specs.Visits.Visit.{Skip, Mark}

-- where b holds, c and d are the same
alike : Bool → Bool → Bool → Bool
alike false c d = true
alike true true d = d
alike true false true = false
alike true false false = true

alike_same : (b c d : Bool) → alike b c d ≡ true → b ≡ true → c ≡ d
unfolding alike
alike_same false c d t h = let z : ◌≡◌ {A = ℕ} 0 1 = cc in absurd (omega arith)
alike_same true true d t h = sym t
alike_same true false true t h = t
alike_same true false false t h = refl

-- no busy bit: to lack all four is to lack DIRTY and PENDING
four : every (λ (f : ℕ). alike (lacks f busy) (lacks f marked) (lacks f changed)) 256 ≡ true
unfolding lacks alike
four = refl

pub visit_at_rest : (f : ℕ) (v : Bool) → f < 256 → lacks f busy ≡ true
    → visit_of f v ≡ elim (lacks f changed) [ true ↦ Mark (bit_or f pending) f | false ↦ Skip ]
unfolding visit_of
visit_at_rest f v l h =
    go (lacks f changed) refl (alike_same (lacks f busy) (lacks f marked) (lacks f changed) (every_at (λ (f : ℕ). alike (lacks f busy) (lacks f marked) (lacks f changed)) 256 four f l) h)
  where
    go : (b : Bool) → lacks f changed ≡ b → lacks f marked ≡ b → visit_of f v ≡ elim (lacks f changed) [ true ↦ Mark (bit_or f pending) f | false ↦ Skip ]
    go true p q = rw (p, q, visit_of)
    go false p q = rw (p, q, visit_of, h)
