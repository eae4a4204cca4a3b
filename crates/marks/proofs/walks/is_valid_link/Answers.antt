-- `marks::walks::is_valid_link` meets its contract: `any` tests the slots of the walk, and so does the definition. Assumes nothing.
use Rattle.std.proofs.Common.{rules, tests, ◌∙◌}
use Rattle.std.proofs.lemmas.Iterator.Consumers.{YieldsList-from_first}
use Rattle.std.proofs.lemmas.Iterator.Search.{any_from_yields_List}
use lib.Dec.{eqb}
use Rattle.primitive.specs.Words.{link_rows}
use Rattle.marking.specs.Valid.{valid_link}
use Rattle.marking.proofs.ValidLaws.{valid_walk}
use Rattle.marks.proofs.walks.is_valid_link.Goals as goal

pub returns : goal.returns
unfolding valid_link
returns c =
    rw (← c.get.ensures) (any_from_yields_List (λ x. eqb x c.args.s) c.any.new.self _ _ c.any.ensures.ran
    (YieldsList-from_first (λ x. x) (λ s. s) _ c.new.ensures) (λ x b q k. search (rules, tests))
    ∙ rw (← valid_walk c.args.links.now c.args.s (link_rows c.args.links.now) c.get.result, c.open-tail.ensures))
