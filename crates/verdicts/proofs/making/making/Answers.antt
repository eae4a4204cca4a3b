-- `verdicts::making::making` meets its contract. Assumes nothing.
use mathlib.Core.Path.{sym, ◌∙◌}
use Rattle.refusing.proofs.TableLaws.{making_5, making_6, making_7, making_0}
use Rattle.verdicts.proofs.making.making.Goals as goal

pub returns-then-bad_formula : goal.returns-then-bad_formula
returns-then-bad_formula c =
    making_5 _ _ _ (sym c.bad_formula.ensures ∙ c.if-bad_formula.true)

pub returns-then-too_high : goal.returns-then-too_high
returns-then-too_high c =
    let ok = sym c.bad_formula.ensures ∙ c.if-bad_formula.false in
    making_6 _ _ _ ok (sym (c.too_high.ensures ok) ∙ c.if-too_high.true)

pub returns-then-no_room : goal.returns-then-no_room
returns-then-no_room c =
    let ok = sym c.bad_formula.ensures ∙ c.if-bad_formula.false in
    let low = sym (c.too_high.ensures ok) ∙ c.if-too_high.false in
    making_7 _ _ _ ok low (sym (c.no_room.ensures ok) ∙ c.if-no_room.true)

pub returns-else-no_room : goal.returns-else-no_room
returns-else-no_room c =
    let ok = sym c.bad_formula.ensures ∙ c.if-bad_formula.false in
    let low = sym (c.too_high.ensures ok) ∙ c.if-too_high.false in
    making_0 _ _ _ ok low (sym (c.no_room.ensures ok) ∙ c.if-no_room.false)
