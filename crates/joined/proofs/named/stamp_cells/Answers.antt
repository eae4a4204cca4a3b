-- `joined::named::stamp_cells` meets its contract. Assumes nothing.
use Rattle.joined.proofs.StampTurns.{cells_turn, cells_done}
use mathlib.Core.Path.{◌≡◌, refl, sym, ◌∙◌}
use Prim.Native.Nat.{◌+◌, ◌-◌}
use native.Mathlib.Omega.{arith}
use Rattle.joined.proofs.named.stamp_cells.Goals as goal

pub loop-i-init : goal.loop-i-init
loop-i-init c = let e : c.args.start + c.args.n - c.args.start ≡ c.args.n = omega arith in (rw e, refl)

pub loop-i-preserved : goal.loop-i-preserved
loop-i-preserved c =
    (c.loop-i.invariant.0 ∙ cells_turn _ _ _ _ _ (c.args.start + c.args.n - c.loop-i.i) (c.args.start + c.args.n - (c.loop-i.i + 1)) (omega arith) c.stamp_cell.ensures, c.stamp_cell.auto.seen ∙ c.loop-i.invariant.1)

pub returns : goal.returns
returns c = sym (c.loop-i.invariant.0 ∙ cells_done _ _ _ _ (c.args.start + c.args.n - c.loop-i.i) (λ h. omega arith))
