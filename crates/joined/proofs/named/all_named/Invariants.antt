-- `joined::named::all_named` meets its contract. Assumes nothing.
use Rattle.resting.specs.Named.{named_from}
use mathlib.Core.Path.{◌≡◌}
use Prim.Native.Nat.{◌-◌}
use lib.ListN.{length}
use Rattle.joined.proofs.named.all_named.Given as goal

abbrev pub invariant-loop-n : goal.invariant-loop-n
invariant-loop-n l = (named_from l.nodes l.links l.cells l.initial.seen l.initial.n (l.count - l.initial.n) ≡ named_from l.nodes l.links l.cells l.seen l.n (l.count - l.n)) × (length l.seen ≡ length l.initial.seen)
