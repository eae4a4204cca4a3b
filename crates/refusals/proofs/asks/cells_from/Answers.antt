-- `refusals::asks::cells_from` meets its contract. Assumes nothing.
use mathlib.Core.Path.{refl, sym, ap, ◌∙◌}
use mathlib.Core.Logic.{inl, inr}
use lib.ListN.{length}
use Rattle.std.specs.Option.{unwrap_or}
use Rattle.refusing.specs.Asked.{from_asked}
use Rattle.refusing.proofs.MakingLaws.{from_given}
use Rattle.refusals.proofs.asks.cells_from.Goals as goal

pub returns-in-Makes : goal.returns-in-Makes
returns-in-Makes c = from_given c.args.words.now c.asks_of.ensures (c.unwrap_or.ensures ∙ ap (λ a. unwrap_or (from_asked a) (length c.args.words.now)) (sym c.in-Makes.is))

pub returns-in-Names : goal.returns-in-Names
returns-in-Names c = from_given c.args.words.now c.asks_of.ensures (elim c.in-Names.is [ inl w ↦ rw w.3 | inr w ↦ rw w ])
