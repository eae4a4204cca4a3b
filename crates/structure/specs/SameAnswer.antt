-- What a command gives over words is what it gives over lists.
use Rattle.std.specs.Prelude.{◌≡◌, List, ℤ}
use Rattle.meaning.specs.Commands.{Answer}
use Rattle.commanding.specs.Command.{Answered}
use Rattle.structure.specs.Logged.{Logged}
use Rattle.structure.specs.Rep.{Rep}

-- l: the log as it was lent
pub record SameAnswer (l : List ℤ) (a : Answered) (b : Answer) : Type 0 where
  pub code : a.code ≡ b.code
  pub value : a.value ≡ b.val.word
  pub runs : Logged l b.rows a.log a.runs
  pub tables : Rep a.nodes a.links a.values a.cells b.st
