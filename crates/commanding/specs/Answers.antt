-- An answer in numbers: a refusal has its number, value 0 and no runs; what is accepted has the number 0.
use Rattle.std.specs.Prelude.{ℕ, ℤ, pos, Result, Ok, Err}
use Rattle.refusing.specs.declared.refusal.Refusal.{Refusal}
use Rattle.refusing.specs.Numbers.{refusal_number}
use Rattle.commanding.specs.declared.answers.Done.{Done}

abbrev pub code_in : Result Done Refusal → ℕ
code_in (Ok d) = 0
code_in (Err r) = refusal_number r

abbrev pub value_in : Result Done Refusal → ℤ
value_in (Ok d) = d.value
value_in (Err r) = pos 0

abbrev pub runs_in : Result Done Refusal → ℕ
runs_in (Ok d) = d.runs
runs_in (Err r) = 0
