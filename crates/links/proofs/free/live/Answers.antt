-- `links::free::live` meets its contract: the chain counts over the list of all slots, the definition from the first on. Assumes nothing.
use Rattle.std.proofs.Common.{◌≡◌, ℕ, zero, suc, ◌+◌, List, Bool, true, false, cond, refl, ap, ◌∙◌, arith, rules}
use Rattle.std.specs.List.{fold, count_by, range_with_len}
use borrow.Author.Tests.{tests}
use Rattle.std.proofs.lemmas.Iterator.{YieldsList-from_range}
use Rattle.std.proofs.lemmas.Iterator.Consumers.{YieldsList-from_filter, count_from_yields_List}
use Rattle.std.proofs.lemmas.List.Sums.{length-filter}
use Rattle.linking.specs.Free.{is_live_slot, one, slots, live_below, live}
use Rattle.links.proofs.free.live.Goals as goal

one_more : (g : ℕ → ℕ → ℕ) (z a n : ℕ) → fold g z (range_with_len a (suc n)) ≡ g (fold g z (range_with_len a n)) (a + n)
one_more g z a zero = ap (g z) (omega arith)
one_more g z a (suc n) =
    let e : a + 1 + n ≡ a + suc n = omega arith in
    one_more g (g z a) (a + 1) n ∙ ap (g (fold g (g z a) (range_with_len (a + 1) n))) e

one_or_none : (b : Bool) → cond b 1 0 ≡ one b
one_or_none true = refl
one_or_none false = refl

counted : (l : List ℕ) (n : ℕ) → count_by (is_live_slot l) (range_with_len 0 n) ≡ live_below l n
unfolding live_below
counted l zero = refl
counted l (suc n) =
    let e : 0 + n ≡ n = omega arith in
    rw (one_more (λ k x. k + cond (is_live_slot l x) 1 0) 0 0 n, e, counted l n, one_or_none (is_live_slot l n))

pub returns : goal.returns
unfolding live
returns c =
    let l = c.args.links.now in
    let n = slots l in
    count_from_yields_List _ _ c.count.ensures.ran
    (YieldsList-from_filter _ (is_live_slot l) (YieldsList-from_range 0 n n c.filter.ensures.source (omega arith)) c.filter.ensures.closure (λ x r q k. search (rules, tests)))
    ∙ length-filter (is_live_slot l) _ ∙ counted l n
