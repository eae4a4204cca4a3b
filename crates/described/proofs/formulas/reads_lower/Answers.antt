-- `described::formulas::reads_lower` meets its contract. Assumes nothing.
use Rattle.std.proofs.Common.{rules, tests, arith, ap, ◌∙◌}
use Rattle.std.specs.List.{list_all}
use Rattle.std.proofs.lemmas.Iterator.{YieldsList-from_range}
use Rattle.std.proofs.lemmas.Iterator.Consumers.{YieldsList-from_filter_map}
use Rattle.std.proofs.lemmas.Iterator.Search.{all_from_yields_List}
use Rattle.trees.specs.Cells.{cell_at, name_of}
use Rattle.trees.proofs.ScanLaws.{all_named_range}
use Rattle.telling.specs.Formulas.{lower_rank, reads_lower}
use Rattle.described.proofs.FormulaLaws.{lower_all}
use Rattle.described.proofs.formulas.reads_lower.Goals as goal

pub returns : goal.returns
unfolding reads_lower
returns c =
    let ws = c.args.cells.now in
    let n = c.cell_count.result in
    let every = all_named_range ws in
    all_from_yields_List (λ m. lower_rank m c.args.n) _ _ _ c.all.ensures.ran
    (YieldsList-from_filter_map _ (λ i. name_of (cell_at ws i)) (YieldsList-from_range 0 n n c.filter_map.ensures.source (omega arith)) c.filter_map.ensures.closure (λ x r q k. search (rules, tests)))
    (λ x b q k. search (rules, tests))
    ∙ ap (list_all (λ m. lower_rank m c.args.n)) (rw c.cell_count.ensures every) ∙ lower_all c.args.n _
