-- `text::lines::store` meets its contract. Assumes nothing.
use borrow.Author.Rules.{rules}
use mathlib.Core.Path.{◌≡◌, sym, ap, ◌∙◌}
use mir.Val.{to_z, of_z}
use mir.Facts.{to_z-of_z}
use Rattle.std.proofs.Common.{tests, w64}
use Rattle.std.proofs.lemmas.List.{length_push}
use Rattle.std.proofs.lemmas.Iterator.Consumers.{YieldsList-turn, YieldsList-end}
use Rattle.spelling.specs.Pairs.{worth}
use Rattle.spelling.proofs.LineLaws.{at_spaces, store_next, store_end, worth_is}
use Rattle.text.proofs.lines.store.Goals as goal

pub loop-piece-preserved : goal.loop-piece-preserved
loop-piece-preserved c =
    let t = YieldsList-turn (at_spaces _ c.args.s.now (cc) (cc) (cc) (λ x b q h. search (rules, tests))) c.loop-piece.yielded _ c.loop-piece.yielded_by _ _ c.in-Some.piece c.in-Some.is c.next.ensures.steps in
    let p : to_z w64 (of_z w64 c.unwrap_or.result) ≡ c.unwrap_or.result = to_z-of_z {w = w64} (search rules) in
    rw length_push (c.loop-piece.invariant ∙ store_next _ _ _ t _ (c.unwrap_or.ensures ∙ worth_is _ ∙ ap worth c.number.ensures) (rw p at c.push-to.ensures))

pub returns : goal.returns
returns c =
    let t = YieldsList-end (at_spaces _ c.args.s.now (cc) (cc) (cc) (λ x b q h. search (rules, tests))) c.loop-piece.yielded _ c.loop-piece.yielded_by _ _ c.in-None.is c.next.ensures.steps in
    ap (λ b. b.held) (sym (c.loop-piece.invariant ∙ store_end _ _ t.1 _))
