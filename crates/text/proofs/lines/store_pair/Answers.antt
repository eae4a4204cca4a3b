-- `text::lines::store_pair` meets its contract. Assumes nothing.
use mathlib.Core.Path.{sym, ap, ◌∙◌}
use mir.Facts.{to_z-of_z}
use Rattle.spelling.specs.Buffers.{buffer}
use Rattle.spelling.proofs.LineLaws.{stored_none, stored_some, rest_is}
use Rattle.text.proofs.lines.store_pair.Goals as goal

pub returns-else-s-gt5 : goal.returns-else-s-gt5
returns-else-s-gt5 c = ap (λ b. b.held) ((rw (to_z-of_z c.ranges.code) at c.push-to.ensures) ∙ sym (stored_none _ _ c.args.s.now c.if-s-gt5.false))

pub returns-then-s-gt5 : goal.returns-then-s-gt5
returns-then-s-gt5 c = (rw (rest_is c.args.s.now 5) at c.store.ensures) ∙ ap (λ b. b.held) (sym (stored_some (buffer c.args.words.now 0) c.args.code c.args.s.now c.if-s-gt5.true (rw (to_z-of_z c.ranges.code) at c.push-to.ensures)))
