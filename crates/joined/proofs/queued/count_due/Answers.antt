-- `joined::queued::count_due` meets its contract. Assumes nothing.
use Rattle.std.proofs.Common.{rules, arith, ◌∙◌}
use borrow.Author.Tests.{tests}
use Rattle.std.proofs.lemmas.Iterator.{YieldsList-from_range}
use Rattle.std.proofs.lemmas.Iterator.Consumers.{YieldsList-from_filter, count_from_yields_List}
use Rattle.std.proofs.lemmas.List.Sums.{length-filter}
use Rattle.lists.proofs.EachLaws.{count_range}
use Rattle.resting.specs.Queued.{due}
use Rattle.joined.proofs.queued.count_due.Goals as goal

pub returns : goal.returns
returns c =
    let p = due c.args.nodes.now in
    let n = c.counted.result in
    rw (← c.counted.ensures) (count_from_yields_List _ _ c.count.ensures.ran
    (YieldsList-from_filter _ p (YieldsList-from_range 0 n n c.filter.ensures.source (omega arith)) c.filter.ensures.closure (λ x r q k. search (rules, tests)))
    ∙ length-filter p _ ∙ count_range p n)
