-- `text::lines::line_end` meets its contract. Assumes nothing.
use Rattle.spelling.proofs.LineLaws.{found_near, found_far, none_near, none_far}
use Rattle.text.proofs.lines.line_end.Goals as goal

pub returns-in-Some : goal.returns-in-Some
returns-in-Some c = found_near _ c.newline.ensures _ c.in-Some.is c.if-i-le-LONGEST.true

pub returns-in-None : goal.returns-in-None
returns-in-None c = none_near _ c.newline.ensures c.in-None.is c.if-s-le-LONGEST.true

pub returns-in_default : goal.returns-in_default
returns-in_default c = found_far _ c.newline.ensures _ c.in-Some.is c.if-i-le-LONGEST.false

pub returns-in_default-2 : goal.returns-in_default-2
returns-in_default-2 c = none_far _ c.newline.ensures c.in-None.is c.if-s-le-LONGEST.false
