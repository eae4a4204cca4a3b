-- `reads::signals::refresh_signal` meets its contract. Assumes nothing.
use Rattle.marking.specs.Fields.{has}
use Rattle.reading.proofs.StepLaws.{signal_changed, signal_same, signal_clean}
use Rattle.reads.proofs.signals.refresh_signal.Goals as goal
use Rattle.reads.proofs.signals.refresh_signal.Goals.{else-has-via-then-has+else-update_signal, else-has-via-else-has}

pub returns-then-update_signal : goal.returns-then-update_signal
unfolding has
returns-then-update_signal c = signal_changed _ _ c.flags.ensures c.has.ensures c.if-has.true _ (c.update_signal.ensures _) c.if-update_signal.true c.wake.ensures

pub returns-else-has : goal.returns-else-has
unfolding has
returns-else-has c =
    elim c.else-has.branch [
      | else-has-via-then-has+else-update_signal w ↦ rw (w.nodes-is, w.values-is) (signal_same _ _ c.flags.ensures c.has.ensures w.if-has.true _ (w.update_signal.ensures _) w.if-update_signal.false)
      | else-has-via-else-has w ↦ rw (w.nodes-is, w.values-is) (signal_clean _ _ c.flags.ensures c.has.ensures w.if-has.false)
    ]
