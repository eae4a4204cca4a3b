-- The order of rows, from document 01, "Values, writes, flush": the queue is as it stands when the flush begins, and each effect in it has one turn, from the first on.
use Rattle.std.specs.Prelude.{◌≡◌, true, false, List, [], ◌∷◌, ℕ}
use Rattle.values.specs.declared.Value.{Value}
use Rattle.meaning.specs.State.{St, f2, f17}
use Rattle.meaning.specs.Setters.{with_queue, with_depth, with_log, set_fl, set_pend}
use Rattle.meaning.specs.Marks.{Marks, marks_of, with_marks}
use Rattle.meaning.specs.Engine.{rerun}
use Rattle.meaning.specs.Words.{Command, batch_end}
use Rattle.meaning.specs.Outcome.{Writes}
use Rattle.meaning.specs.Order.{Walked}
use Rattle.meaning.specs.Checks.{Checks}

-- from s the queue q is flushed, and of its effects these run, in this order: who is live and dirty at its turn
pub data InTurn : St → List ℕ → List ℕ → Type 0 where
  ends : {s : St} → InTurn s [] []
  -- a gone effect doesn't run
  gone : {s : St} {q r : List ℕ} (e : ℕ) → s.gone e ≡ true → InTurn (set_fl (with_queue s q) e f2) q r → InTurn s (e ∷ q) r
  -- nor does one that was queued as an owner only
  clean : {s : St} {q r : List ℕ} (e : ℕ) → s.gone e ≡ false → (s.fl e).dirty ≡ false → (s.fl e).pending ≡ false → InTurn (set_fl (with_queue s q) e f2) q r → InTurn s (e ∷ q) r
  -- nor one none of whose reads has changed
  unchanged : {s x : St} {q r : List ℕ} (e : ℕ) → s.gone e ≡ false → (s.fl e).dirty ≡ false → (s.fl e).pending ≡ true → Checks (with_queue s q) e x false
      → InTurn (set_fl x e f2) q r → InTurn s (e ∷ q) r
  changed : {s x : St} {q r : List ℕ} (e : ℕ) → s.gone e ≡ false → (s.fl e).dirty ≡ false → (s.fl e).pending ≡ true → Checks (with_queue s q) e x true
      → InTurn (rerun x e) q r → InTurn s (e ∷ q) (e ∷ r)
  dirty : {s : St} {q r : List ℕ} (e : ℕ) → s.gone e ≡ false → (s.fl e).dirty ≡ true → InTurn (rerun (with_queue s q) e) q r → InTurn s (e ∷ q) (e ∷ r)

-- signal n, written, and an empty log
abbrev pub wrote : St → ℕ → Value → St
wrote s n x = set_fl (set_pend (with_log s []) n x) n f17

-- where the flush of a command on s begins
pub data FlushBegins (s : St) : Command → St → Type 0 where
  -- the old pending value: nothing is queued
  as_before : {c : Command} {n : ℕ} {x : Value} → Writes s c n x → s.pend n ≡ x → FlushBegins s c (with_log s [])
  -- a new one: what the walk from the signal's subscribers queues, as at depth 0 the queue was empty
  walks : {c : Command} {n : ℕ} {x : Value} {m : Marks} → Writes s c n x → (s.pend n ≡ x → ⊥) → Walked (wrote s n x) (marks_of (wrote s n x)) (s.subs n) m
      → FlushBegins s c (with_marks (wrote s n x) m)
  -- the end of the outermost batch: what is queued
  batch : FlushBegins s batch_end (with_depth (with_log s []) 0)
