-- Document 01, "Commands": the code's enum beside the commands of `meaning`. The cells of a formula stay in the words.
use Rattle.std.specs.Prelude.{Bool, true, false, cond, List, ℕ, ◌%◌, eqb, ℤ, drop, Option, None, Some}
use Rattle.meaning.specs.Words.{Command as Meant, make_signal, make_computed, make_effect, make_scope, set_to, add_to, read_of, dispose_of, batch_start, batch_end}
use Rattle.refusing.specs.declared.commands.Command.{Command}
use Rattle.refusing.specs.declared.commands.Command.TheVariants.{Signal, Computed, Effect, Scope, Set, Add, Read, Dispose, Start, End, Unknown}

-- the number of a command, 0 if it is unknown
unfoldable pub number_of : Command → ℕ
number_of (Signal k) = 1
number_of Computed = 2
number_of (Effect o) = 3
number_of (Scope o) = 4
number_of (Set n k) = 5
number_of (Add n k) = 6
number_of (Read n) = 7
number_of (Dispose n) = 8
number_of Start = 9
number_of End = 10
number_of Unknown = 0

-- whether so many words are as many as the command of this code takes
unfoldable pub takes_words : ℕ → ℕ → Bool
takes_words c n =
    cond (eqb c 1) (eqb n 2)
    (cond (eqb c 2) (eqb (n % 2) 1)
    (cond (eqb c 3) (eqb (n % 2) 0)
    (cond (eqb c 4) (eqb n 2)
    (cond (eqb c 5) (eqb n 3)
    (cond (eqb c 6) (eqb n 3)
    (cond (eqb c 7) (eqb n 2)
    (cond (eqb c 8) (eqb n 2)
    (cond (eqb c 9) (eqb n 1)
    (cond (eqb c 10) (eqb n 1) false)))))))))

-- the number, where the words are as many as it takes
abbrev pub only_if : Bool → ℕ → ℕ
only_if true c = c
only_if false c = 0

-- the command of a number, with the two words after its code
unfoldable pub command_by : ℕ → ℤ → ℤ → Command
command_by k a b =
    cond (eqb k 1) (Signal a)
    (cond (eqb k 2) Computed
    (cond (eqb k 3) (Effect a)
    (cond (eqb k 4) (Scope a)
    (cond (eqb k 5) (Set a b)
    (cond (eqb k 6) (Add a b)
    (cond (eqb k 7) (Read a)
    (cond (eqb k 8) (Dispose a)
    (cond (eqb k 9) Start
    (cond (eqb k 10) End Unknown)))))))))

-- a command without its cells
unfoldable pub brief : Option Meant → Command
brief None = Unknown
brief (Some (make_signal k)) = Signal k
brief (Some (make_computed cs)) = Computed
brief (Some (make_effect o cs)) = Effect o
brief (Some (make_scope o)) = Scope o
brief (Some (set_to n k)) = Set n k
brief (Some (add_to n k)) = Add n k
brief (Some (read_of n)) = Read n
brief (Some (dispose_of n)) = Dispose n
brief (Some batch_start) = Start
brief (Some batch_end) = End

-- and with them: those of a computed follow the code, those of an effect the owner
unfoldable pub told : Command → List ℤ → Option Meant
told (Signal k) ws = Some (make_signal k)
told Computed ws = Some (make_computed (drop 1 ws))
told (Effect o) ws = Some (make_effect o (drop 2 ws))
told (Scope o) ws = Some (make_scope o)
told (Set n k) ws = Some (set_to n k)
told (Add n k) ws = Some (add_to n k)
told (Read n) ws = Some (read_of n)
told (Dispose n) ws = Some (dispose_of n)
told Start ws = Some batch_start
told End ws = Some batch_end
told Unknown ws = None
