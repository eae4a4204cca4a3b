-- What runs, the flush and commands ask of reading over words: that it is reading over lists. Assumes nothing.
use mathlib.Core.Path.{◌≡◌}
use mathlib.Core.Bool.{true, false}
use mathlib.Core.List.{List, []}
use Prim.Native.Nat.{ℕ, ◌<◌}
use lib.IntN.{ℤ}
use Rattle.reading.specs.Tables.{State}
use Rattle.reading.specs.Read.{refreshed, checked, evaluated_for}
use Rattle.meaning.specs.State.{St, effect, readable, deps, f6}
use Rattle.meaning.specs.Reads.{settle, check, evaluate}
use Rattle.meaning.proofs.Still.{Given}
use Rattle.meaning.proofs.Inside.{nobody, Static, Inside}
use Rattle.meaning.proofs.Frames.{Open}
use Rattle.meaning.proofs.Reading.{During}
use Rattle.meaning.proofs.Running.{Run}
use Rattle.structure.proofs.Steps.{Sees}

pub record Ringed (g : Given) (st : Static g) (C : List ℤ) : Type 0 where
  -- a read, at rest
  pub reads : (x : State) (s : St) (n : ℕ) → Inside g nobody s → n < g.size → readable (g.kind n) ≡ true → s.stuck ≡ false → Sees [] x C s
      → Sees [] (refreshed C x n) C (settle s n)
  -- the dirty check of an effect that was taken off the queue
  pub checks : (ran : List ℕ) (x : State) (s : St) (e : ℕ) → e < g.size → g.kind e ≡ effect → Inside g (Run g st e) s → Open g st (Run g st e) s → (deps s e ≡ [] → ⊥) → s.stuck ≡ false → Sees ran x C s
      → Sees ran (checked C x e).after C (check s e).st × ((checked C x e).changed ≡ (check s e).yes)
  -- the evaluation of an effect under way, whose flags are 6 and stay so
  pub evaluates : (ran : List ℕ) (x : State) (s : St) (e : ℕ) → e < g.size → g.kind e ≡ effect → During g st (Run g st e) e s 0 s → s.stuck ≡ false → s.fl e ≡ f6 → Sees ran x C s
      → Sees ran (evaluated_for C x e).after C (evaluate s e).st × ((evaluated_for C x e).value ≡ (evaluate s e).val) × ((evaluate s e).st.fl e ≡ f6)
