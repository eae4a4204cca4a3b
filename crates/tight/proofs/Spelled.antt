-- What the contracts of `command`, `empty` and `turn` tell a caller is the equation that their text shows, of each lent list before and after: both directions by computing. Assumes nothing.
use mathlib.Core.Path.{◌≡◌}
use mathlib.Core.Logic.{◌↔◌}
use contract.Lifetimes.{Lfts}
use denote.Triple.Clauses.{Lasts, at_exit}
use borrow.Fn.Kinds.{Dens, ended_of}
use Rattle.operating.specs.Emptying.{emptied, emptying}
use Rattle.operations.proofs.emptying.empty.Kinds as empty-kinds
use Rattle.operations.proofs.emptying.empty.Reads as empty
use Rattle.std.specs.Prelude.{Result}
use Rattle.refusing.specs.declared.refusal.Refusal.{Refusal}
use Rattle.commanding.specs.declared.answers.Done.{Done}
use Rattle.commanding.specs.Answers.{code_in, value_in, runs_in}
use Rattle.commanding.specs.Command.{answered, command_in}
use Rattle.engine.proofs.command.command.Kinds as command-kinds
use Rattle.engine.proofs.command.command.Reads as command
use Rattle.script.specs.declared.turns.Turn.{Turn}
use Rattle.script.specs.Turns.{tables, turned, turn_in}
use Rattle.script.proofs.turn.Kinds as turn-kinds
use Rattle.script.proofs.turn.Reads as turn
use Prim.Native.Nat.{ℕ}

-- nodes, links, values, cells, log; the words of the command
pub command_spelled : (κs : Lfts 6) (a : Dens κs command-kinds.ps) (r : Result Done Refusal) (w : Lasts (ended_of 6 command-kinds.ps command-kinds.r) κs a)
    → command.Learnt κs a r (at_exit (ended_of 6 command-kinds.ps command-kinds.r) κs a w)
    ↔ (answered (code_in r) (value_in r) (runs_in r) w.0 w.1.0 w.1.1.0 w.1.1.1.0 w.1.1.1.1.0
    ≡ command_in a.0.now a.1.0.now a.1.1.0.now a.1.1.1.0.now a.1.1.1.1.0.now a.1.1.1.1.1.0.now)
command_spelled κs a r w = (λ p. p, λ p. p)

-- nodes, links, values, cells
pub empty_spelled : (κs : Lfts 4) (a : Dens κs empty-kinds.ps) (r : ℕ) (w : Lasts (ended_of 4 empty-kinds.ps empty-kinds.r) κs a)
    → empty.Learnt κs a r (at_exit (ended_of 4 empty-kinds.ps empty-kinds.r) κs a w)
    ↔ (emptied r w.0 w.1.0 w.1.1.0 w.1.1.1.0 ≡ emptying a.0.now a.1.0.now a.1.1.0.now a.1.1.1.0.now)
empty_spelled κs a r w = (λ p. p, λ p. p)

-- nodes, links, values, cells, log; words, bytes out; window, and whether more comes
pub turn_spelled : (κs : Lfts 8) (a : Dens κs turn-kinds.ps) (r : Turn) (w : Lasts (ended_of 8 turn-kinds.ps turn-kinds.r) κs a)
    → turn.Learnt κs a r (at_exit (ended_of 8 turn-kinds.ps turn-kinds.r) κs a w)
    ↔ (turned r (tables w.0 w.1.0 w.1.1.0 w.1.1.1.0 w.1.1.1.1.0) w.1.1.1.1.1.0 w.1.1.1.1.1.1.0
    ≡ turn_in (tables a.0.now a.1.0.now a.1.1.0.now a.1.1.1.0.now a.1.1.1.1.0.now) a.1.1.1.1.1.0.now a.1.1.1.1.1.1.0.now a.1.1.1.1.1.1.1.0.now a.1.1.1.1.1.1.1.1.0)
turn_spelled κs a r w = (λ p. p, λ p. p)
