use Rattle.std.proofs.Common.{◌∙◌}
use Rattle.primitive.proofs.RowLaws.{at_field, field_no_word}
use Rattle.primitive.proofs.words.get.Goals as goal

pub returns-then-n-t : goal.returns-then-n-t
returns-then-n-t c = c.at.ensures ∙ at_field _ _ _ _ c.if-w-le16.true c.if-f-w.true

pub returns-else-w-le16 : goal.returns-else-w-le16
returns-else-w-le16 c = field_no_word _ _ _ _ c.else-w-le16.either
