-- The cycle of calls `text::answers::put_digits` meets its contracts. Assumes nothing.
use mathlib.Core.Path.{◌∙◌}
use Rattle.spelling.proofs.AnswerLaws.{digits_none, digits_one, digits_more}
use Rattle.text.proofs.answers.+put_digits.Goals as goal

pub returns-then-most-eq0 : goal.returns-then-most-eq0
returns-then-most-eq0 t c = digits_none _ _ _ c.if-most-eq0.true

pub returns-then-n-lt10 : goal.returns-then-n-lt10
returns-then-n-lt10 t c = c.push.ensures ∙ (rw c.glyph_of.ensures (digits_one _ _ _ c.if-most-eq0.false c.if-n-lt10.true))

pub returns : goal.returns
returns t c = c.push-2.ensures ∙ (rw (c.put_digits-to.ensures, c.glyph_of-2.ensures) (digits_more _ _ _ c.if-most-eq0.false c.if-n-lt10.false))
