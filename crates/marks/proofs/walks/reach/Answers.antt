-- `marks::walks::reach` meets its contract. Assumes nothing.
use mathlib.Core.Path.{sym, ◌∙◌}
use Rattle.marking.proofs.Tests.{masked_nonzero}
use Rattle.marking.proofs.VisitLaws.{reach_wakes, reach_rests}
use Rattle.marks.proofs.walks.reach.Goals as goal

pub returns-then-is_nonzero : goal.returns-then-is_nonzero
returns-then-is_nonzero c =
    record {
      bits_value = c.visit-flags.ensures.bits_value;
      nodes_after = c.notify.ensures
          ∙ sym
          (reach_wakes _ _ _ _ c.visit-flags.ensures.bits_value c.visit-flags.ensures.nodes_after
          (masked_nonzero _ _ c.mask.ensures c.is_nonzero.ensures c.if-is_nonzero.true));
    }

pub returns-else-is_nonzero : goal.returns-else-is_nonzero
returns-else-is_nonzero c =
    record {
      bits_value = c.visit-flags.ensures.bits_value;
      nodes_after = sym
          (reach_rests _ _ _ _ c.visit-flags.ensures.bits_value c.visit-flags.ensures.nodes_after
          (masked_nonzero _ _ c.mask.ensures c.is_nonzero.ensures c.if-is_nonzero.false));
    }
