-- THE READ: on tables that represent a well-formed state, a read over words gives the value that the read over lists gives, and tables that represent the state after it.
-- The same of the reads, checks and evaluations that runs of effects ask for. Assumes nothing.
use mathlib.Core.Path.{◌≡◌, refl, ap, ◌∙◌}
use mathlib.Core.Logic.{inr}
use mathlib.Core.Bool.{true, false}
use mathlib.Core.List.{List, []}
use Prim.Native.Nat.{ℕ, ◌<◌}
use lib.IntN.{ℤ}
use Rattle.flags.specs.declared.Named.{Named}
use Rattle.reading.specs.Tables.{State, state}
use Rattle.reading.specs.Read.{read_of}
use Rattle.meaning.specs.State.{St, readable}
use Rattle.meaning.specs.Reads.{settle}
use Rattle.meaning.specs.WellFormed.{WellFormed}
use Rattle.meaning.proofs.Still.{Given, given}
use Rattle.meaning.proofs.Inside.{nobody, Static, static, rest_inside}
use Rattle.meaning.proofs.Running.{nobody_open, Run, run_above, run_apart}
use Rattle.commanding.specs.Tables.{well_formed_in}
use Rattle.structure.specs.Rep.{has_form}
use Rattle.structure.specs.Reading.{state_in}
use Rattle.structure.proofs.Exact.{accepted_represents, accepted_well_formed}
use Rattle.structure.proofs.Steps.{Sees}
use Rattle.structure.proofs.SecondRing.{refreshed_sees, checked_tells, evaluated_sees}
use Rattle.structure.proofs.Ringed.{Ringed}

pub ringed : (g : Given) (st : Static g) (C : List ℤ) → Ringed g st C
ringed g st C = record {
  reads = λ x s n i h r free q. refreshed_sees g st [] C nobody x s n i (nobody_open g st s) h r (λ m z e. absurd z) free q;
  checks = λ ran x s e h k i o ne free q. let w = checked_tells g st ran C (Run g st e) e h (run_above g st e h k) (run_apart g st e h k) x s i o free ne q in (w.1, w.0);
  evaluates = λ ran x s e h k d free f q.
      let w = evaluated_sees g st ran C (Run g st e) e (inr refl) h (ap has_form k) (run_above g st e h k) x s d free q in
      (w.0, w.2, w.1.calm (ap (λ (z : Named). z.pending) f) ∙ f);
}

pub read_same : (x : State) (C : List ℤ) (s : St) (n : ℕ) → WellFormed s → s.stuck ≡ false → Sees [] x C s → n < s.size → readable (s.kind n) ≡ true
    → ((read_of C x n).value ≡ (settle s n).sto n) × Sees [] (read_of C x n).after C (settle s n)
unfolding read_of
read_same x C s n w free q h r = let t = (ringed (given s) (static s w) C).reads x s n (rest_inside s w) h r free q in (t.values.current n, t)

-- of tables that the test of `commanding` passes
pub accepted_read : (N L : List ℕ) (W C : List ℤ) (n : ℕ) → well_formed_in N L W C ≡ true → n < (state_in N L W C).size → readable ((state_in N L W C).kind n) ≡ true
    → ((read_of C (state N L W) n).value ≡ (settle (state_in N L W C) n).sto n) × Sees [] (read_of C (state N L W) n).after C (settle (state_in N L W C) n)
accepted_read N L W C n e h r = read_same (state N L W) C (state_in N L W C) n (accepted_well_formed N L W C e) refl (accepted_represents N L W C e) h r
