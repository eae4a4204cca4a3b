-- A step that answers a pair. Assumes nothing.
use Rattle.std.proofs.Common.{◌≡◌, ℕ, ◌+◌, ◌≤◌, Bool, min, max, length, ap, sym, subst, ◌∙◌, inl, inr, arith}
use Rattle.script.specs.declared.turns.Turn.{Turn}
use Rattle.script.specs.declared.turns.Turn.TheVariants.{Answered}
use Rattle.script.specs.Turns.{Turned, turned}
use Rattle.simmer.specs.Steps.{Lent, Goes, turn_of, Stepped}

pub step_answered : {x y : Lent} {on : Bool} (used bytes : ℕ) → x.at ≤ x.end → x.end ≤ length x.buf → turned (Answered used bytes) y.tables y.words y.out ≡ turn_of x → y.at ≡ min (x.at + used) (max x.at x.end) → y.end ≡ x.end → y.over ≡ x.over → y.buf ≡ x.buf → Stepped x y on
step_answered {x} {y} {on} used bytes a b h at end over buf =
    let is : Answered used bytes ≡ (turn_of x).turn = ap (λ (z : Turned). z.turn) h in
    record {
      inside = λ i j. (ap (λ (z : Turn). turned z y.tables y.words y.out) (sym is) ∙ h, subst (λ (z : Turn). Goes z x y on) is (at, end, over, buf));
      outside = λ z. absurd (elim z [ inl p ↦ omega arith | inr p ↦ omega arith ]);
    }
