use Rattle.std.proofs.Common.{◌<◌}
use Rattle.stream.proofs.spelled.Given as goal

abbrev pub invariant-loop-b : goal.invariant-loop-b
invariant-loop-b l = l.k < 10000
