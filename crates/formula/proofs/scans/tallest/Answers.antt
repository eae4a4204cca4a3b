-- `formula::scans::tallest` meets its contract. Assumes nothing.
use Rattle.std.proofs.Common.{◌≡◌, List, ℕ, Option, Some, None, rules, arith, refl, sym, ap, ◌∙◌, map}
use Rattle.std.specs.List.{reduce, filter_map, range_with_len}
use Rattle.std.specs.Option.{unwrap_or, option_map}
use Prim.Native.Nat.{max}
use borrow.Author.Tests.{tests}
use Rattle.std.proofs.lemmas.Iterator.{YieldsList-from_range, YieldsList-from_map}
use Rattle.std.proofs.lemmas.Iterator.Consumers.{YieldsList-at, YieldsList-from_filter_map, max_from_yields_List}
use Rattle.primitive.specs.Rows.{field}
use Rattle.trees.specs.Cells.{cell_at, name_of}
use Rattle.trees.specs.Names.{all_named, tallest_in}
use Rattle.trees.proofs.ScanLaws.{all_named_range, tallest_max}
use Rattle.formula.proofs.scans.tallest.Goals as goal

same : (r : Option ℕ) → option_map (λ x. x) r ≡ r
same None = refl
same (Some x) = refl

pub returns : goal.returns
unfolding tallest_in
returns c =
    let ws = c.args.cells.now in
    let nodes = c.args.nodes.now in
    let n = c.cell_count.result in
    let every = all_named_range ws in
    let most = max_from_yields_List _ _ c.max.ensures.ran
    (YieldsList-from_map _ (λ m. field 16 nodes m 11)
    (YieldsList-at c.map.ensures.source (YieldsList-from_filter_map _ (λ i. name_of (cell_at ws i)) (YieldsList-from_range 0 n n c.filter_map.ensures.source (omega arith)) c.filter_map.ensures.closure (λ x r q k. search (rules, tests))))
    c.map.ensures.closure (λ x r q k. search (rules, tests))) in
    let names : filter_map (λ i. name_of (cell_at ws i)) (range_with_len 0 n) ≡ all_named ws = rw c.cell_count.ensures every in
    c.unwrap_or.ensures ∙ ap (λ (o : Option ℕ). unwrap_or o 0) (sym (same c.max.result) ∙ most) ∙ ap (λ (ns : List ℕ). unwrap_or (reduce max (map (λ m. field 16 nodes m 11) ns)) 0) names ∙ tallest_max nodes (all_named ws)
