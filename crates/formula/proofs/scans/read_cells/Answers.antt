-- `formula::scans::read_cells` meets its contract. Assumes nothing.
use Rattle.std.proofs.Common.{rules, arith, length, ap, ◌∙◌}
use borrow.Author.Tests.{tests}
use Rattle.std.proofs.lemmas.Iterator.{YieldsList-from_range}
use Rattle.std.proofs.lemmas.Iterator.Consumers.{YieldsList-from_filter_map, count_from_yields_List}
use Rattle.trees.specs.Cells.{cell_at, name_of}
use Rattle.trees.specs.Names.{read_cells}
use Rattle.trees.proofs.ScanLaws.{all_named_range}
use Rattle.formula.proofs.scans.read_cells.Goals as goal

pub returns : goal.returns
unfolding read_cells
returns c =
    let ws = c.args.cells.now in
    let n = c.cell_count.result in
    let every = all_named_range ws in
    count_from_yields_List _ _ c.count.ensures.ran
    (YieldsList-from_filter_map _ (λ i. name_of (cell_at ws i)) (YieldsList-from_range 0 n n c.filter_map.ensures.source (omega arith)) c.filter_map.ensures.closure (λ x r q k. search (rules, tests)))
    ∙ ap length (rw c.cell_count.ensures every)
