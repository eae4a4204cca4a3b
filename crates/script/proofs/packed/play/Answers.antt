-- `script::packed::play` meets its contract. Assumes nothing.
use Rattle.script.specs.Packed.{play_on}
use Rattle.script.proofs.PackedLaws.{play_as, play_stop, play_turn, play_next}
use Rattle.script.proofs.packed.play.Goals as goal

pub returns-then-window-n : goal.returns-then-window-n
returns-then-window-n c = play_stop _ _ _ _ _ _ c.decide.ensures c.in-Turn.is c.if-window-n.true

pub returns-in-Read : goal.returns-in-Read
unfolding play_on
returns-in-Read c = play_as _ _ _ _ _ _ c.decide.ensures _ c.in-Read.is

-- What `turn` and `empty` were lent keeps its length, and nothing after them changes it; the search for that is dear.

pub returns-else-window-n : goal.returns-else-window-n
returns-else-window-n c = play_turn _ _ _ _ _ _ c.decide.ensures c.in-Turn.is c.if-window-n.false c.from.ensures c.turn.ensures

pub returns-in-Script : goal.returns-in-Script
returns-in-Script c = play_next _ _ _ _ _ _ c.decide.ensures c.in-Script.is c.empty.ensures

pub returns-in-Within : goal.returns-in-Within
unfolding play_on
returns-in-Within c = play_as _ _ _ _ _ _ c.decide.ensures _ c.in-Within.is

pub returns-in-Past : goal.returns-in-Past
unfolding play_on
returns-in-Past c = play_as _ _ _ _ _ _ c.decide.ensures _ c.in-Past.is

pub returns-in-Stop : goal.returns-in-Stop
unfolding play_on
returns-in-Stop c = play_as _ _ _ _ _ _ c.decide.ensures _ c.in-Stop.is
