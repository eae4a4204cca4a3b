-- The numbers of an answer are those of no other. Assumes nothing.
use Rattle.std.specs.Prelude.{Option, Some, Result, Ok, Err}
use mathlib.Core.Path.{◌≡◌, sym}
use mathlib.Core.List.{List}
use Prim.Native.Nat.{ℕ}
use lib.IntN.{ℤ}
use Rattle.refusing.specs.declared.refusal.Refusal.{Refusal}
use Rattle.refusing.proofs.TableLaws.{number_some, same_refusal}
use Rattle.commanding.specs.declared.answers.Done.{Done}
use Rattle.commanding.specs.Answers.{code_in, value_in, runs_in}
use Rattle.commanding.specs.Command.{Answered, answered}

pub same_answer : (x y : Result Done Refusal) → code_in x ≡ code_in y → value_in x ≡ value_in y → runs_in x ≡ runs_in y → x ≡ y
same_answer (Ok d) (Ok e) c v r = λ i. Ok (record { value = v i; runs = r i })
same_answer (Ok d) (Err s) c v r = absurd (number_some s (sym c))
same_answer (Err r) (Ok e) c v q = absurd (number_some r c)
same_answer (Err r) (Err s) c v q = let e : ◌≡◌ {A = Option Refusal} (Some r) (Some s) = same_refusal (Some r) (Some s) c in cc

-- an answer that is spelt with these numbers
pub spelt : (r : Result Done Refusal) {k : ℕ} {v : ℤ} {m : ℕ} {n l : List ℕ} {w c g : List ℤ} {x : Answered} → (k ≡ code_in r) × (v ≡ value_in r) × (m ≡ runs_in r)
    → answered (code_in r) (value_in r) (runs_in r) n l w c g ≡ x → answered k v m n l w c g ≡ x
spelt r e p = rw (e.0, e.1, e.2) p
