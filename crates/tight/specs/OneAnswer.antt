-- A promise has one answer. `Learnt` of a function's `Reads` is what its contract tells a caller, as the checker reads the clauses; `ps` and `r` of its `Kinds` are its signature.
use Rattle.std.specs.Prelude.{◌≡◌, List, ℕ}
use contract.Lifetimes.{Lfts}
use denote.Triple.Clauses.{Lasts, at_exit}
use borrow.Fn.Kinds.{ParamKind, ResultKind, Dens, res_t, ended_of, Out}

-- on any input a: two answers x and y, with the last contents v and w of all that was lent to be changed, that both keep the promise are one
abbrev pub OneAnswer : {n : ℕ} (ps : List (ParamKind n)) (r : ResultKind n) → Out n ps r → Type 0
OneAnswer {n} ps r Promise =
    (κs : Lfts n) (a : Dens κs ps) (x y : (res_t r κs).Denot) (v w : Lasts (ended_of n ps r) κs a)
    → Promise κs a x (at_exit (ended_of n ps r) κs a v) → Promise κs a y (at_exit (ended_of n ps r) κs a w) → (x ≡ y) × (v ≡ w)
