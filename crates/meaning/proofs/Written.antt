-- What commands return; writes and ends, as what they leave: the pending values, and the flush as its runs one after the other. Assumes nothing.
use mathlib.Core.Path.{◌≡◌, refl, sym, ap, ◌∙◌}
use mathlib.Core.List.{List, []}
use Prim.Native.Nat.{ℕ, zero, suc}
use lib.ListN.{length}
use Rattle.values.specs.declared.Value.{Value}
use Rattle.values.specs.Values.{same}
use Rattle.values.proofs.ValueLaws.{same_yes, yes_same}
use Rattle.meaning.specs.State.{St, signal, a_signal, f17, up}
use Rattle.meaning.specs.Setters.{set_fl, set_pend, with_depth, with_log}
use Rattle.meaning.specs.Links.{provided, is_nil}
use Rattle.meaning.specs.Marks.{marks_of, with_marks, prop, turns, propagate}
use Rattle.meaning.specs.Engine.{flush_at, store, end_at}
use Rattle.meaning.specs.Words.{Command, make_signal, make_computed, make_effect, make_scope, set_to, add_to, read_of, dispose_of, batch_start, batch_end}
use Rattle.meaning.specs.Commands.{perform}
use Rattle.meaning.specs.Outcome.{Writes, sets, adds, value_of}
use Rattle.meaning.specs.Moments.{flushing}
use Rattle.meaning.proofs.Laws.{clash, branch, provided_so}
use Rattle.meaning.proofs.Members.{is_nil-true}
use Rattle.meaning.proofs.Flush.{flush_pend}
use Rattle.meaning.proofs.Moments.{flushing_whole}

module _ (s : St) (n : ℕ) (x : Value) (kn : s.kind n ≡ signal) where
  -- signal n, written
  abbrev pub written : St
  written = set_fl (set_pend s n x) n f17

  -- it is one
  so : (P : St → Type 0) {t : St} → P t → P (provided (a_signal (s.kind n)) t)
  so P p = provided_so P (a_signal (s.kind n)) (ap a_signal kn) p

  -- the value that is pending already
  pub stores_nothing : s.pend n ≡ x → store s n x ≡ s
  unfolding store
  stores_nothing e = so (λ (t : St). t ≡ s) (branch (λ (t : St). t ≡ s) (same (s.pend n) x) (λ a. refl) (λ a. clash (yes_same (s.pend n) x e) a))

  pub stores_pending : (s.pend n ≡ x → ⊥) → (store s n x).pend ≡ up s.pend n x
  unfolding store
  stores_pending e =
      let P : St → Type 0 = λ t. t.pend ≡ up s.pend n x in
      so P (branch P (same (s.pend n) x) (λ a. absurd (e (same_yes (s.pend n) x a))) (λ a. branch P (is_nil (s.subs n)) (λ b. refl) (λ b. at s.depth)))
    where
      at : (d : ℕ) → (flush_at (propagate (set_fl (set_pend s n x) n f17) n) d).pend ≡ up s.pend n x
      at zero = let p = propagate (set_fl (set_pend s n x) n f17) n in flush_pend p.queue p
      at (suc d) = refl

  -- without subscribers nothing is propagated
  none_told : (l : List ℕ) → l ≡ [] → with_marks written (prop written (turns written) (marks_of written) l []) ≡ written
  unfolding prop
  none_told l e = ap (λ (z : List ℕ). with_marks written (prop written (turns written) (marks_of written) z [])) e

  -- at depth 0 the flush is the runs of what is queued
  pub stores_flush : (s.pend n ≡ x → ⊥) → s.depth ≡ 0 → s.queue ≡ [] → let p = propagate written n in store s n x ≡ flushing (length p.queue) p p.queue
  unfolding store flushing
  stores_flush e d q =
      let p = propagate written n in
      let F : St → St = λ y. flushing (length y.queue) y y.queue in
      let P : St → Type 0 = λ t. t ≡ F p in
      so P (branch P (same (s.pend n) x) (λ a. absurd (e (same_yes (s.pend n) x a)))
      (λ a. branch P (is_nil (s.subs n)) (λ b. still q ∙ sym (ap F (none_told (s.subs n) (is_nil-true (s.subs n) b))))
      (λ b. ap (flush_at p) d ∙ sym (flushing_whole p.queue p))))
    where
      still : s.queue ≡ [] → set_fl (set_pend s n x) n f17 ≡ flushing (length s.queue) (set_fl (set_pend s n x) n f17) s.queue
      still z = ap (λ (y : List ℕ). flushing (length y) (set_fl (set_pend s n x) n f17) y) (sym z)

  -- inside a batch nothing runs
  pub stores_later : (s.pend n ≡ x → ⊥) → (d : ℕ) → s.depth ≡ suc d → store s n x ≡ propagate written n
  unfolding store
  stores_later e d h =
      let P : St → Type 0 = λ t. t ≡ propagate written n in
      so P (branch P (same (s.pend n) x) (λ a. absurd (e (same_yes (s.pend n) x a)))
      (λ a. branch P (is_nil (s.subs n)) (λ b. sym (none_told (s.subs n) (is_nil-true (s.subs n) b))) (λ b. ap (flush_at (propagate written n)) h)))

-- the end of the outermost batch
pub end_flushes : (s : St) → s.depth ≡ 1 → end_at s s.depth ≡ flushing (length s.queue) (with_depth s 0) s.queue
end_flushes s h = ap (end_at s) h ∙ sym (flushing_whole s.queue (with_depth s 0))

-- ---- of a command
pub writes_store : (s : St) {c : Command} {n : ℕ} {x : Value} → Writes s c n x → (perform (with_log s []) c).st ≡ store (with_log s []) n x
unfolding perform
writes_store s (sets n v) = refl
writes_store s (adds n v) = refl

pub perform_worth : (s : St) (c : Command) → (perform (with_log s []) c).val ≡ value_of s (perform (with_log s []) c).st c
unfolding perform
perform_worth s (make_signal v) = refl
perform_worth s (make_computed cs) = refl
perform_worth s (make_effect o cs) = refl
perform_worth s (make_scope o) = refl
perform_worth s (set_to n v) = refl
perform_worth s (add_to n v) = refl
perform_worth s (read_of n) = refl
perform_worth s (dispose_of n) = refl
perform_worth s batch_start = refl
perform_worth s batch_end = refl
