-- Document 01, "Nine refusals": the number of each.
use Rattle.std.specs.Prelude.{ℕ, Option, None, Some}
use Rattle.refusing.specs.declared.refusal.Refusal.{Refusal}
use Rattle.refusing.specs.declared.refusal.Refusal.TheVariants.{WrongTables, UnknownCommand, WrongNode, GoneNode, BadFormula, TooHigh, NoRoom, WrongDepth, FewRows}

abbrev pub refusal_number : Refusal → ℕ
refusal_number WrongTables = 1
refusal_number UnknownCommand = 2
refusal_number WrongNode = 3
refusal_number GoneNode = 4
refusal_number BadFormula = 5
refusal_number TooHigh = 6
refusal_number NoRoom = 7
refusal_number WrongDepth = 8
refusal_number FewRows = 9

-- 0 where nothing is refused
abbrev pub refused_as : Option Refusal → ℕ
refused_as None = 0
refused_as (Some r) = refusal_number r
