-- THE COMMAND: on tables that represent a well-formed state, what `command` does to the words is what it does to the lists. Assumes nothing.
use Rattle.std.specs.Prelude.{Option, Some}
use mathlib.Core.Path.{◌≡◌, refl, sym, ap, subst}
use mathlib.Core.Bool.{true, false}
use mathlib.Core.List.{List, []}
use Prim.Native.Nat.{ℕ, zero, suc, ◌*◌, ◌/◌, ◌≤◌}
use native.Mathlib.Omega.{arith}
use lib.IntN.{ℤ}
use lib.ListN.{length}
use Rattle.refusing.specs.Commands.{brief}
use Rattle.refusing.specs.Asked.{formula_in}
use Rattle.operating.specs.Log.{row_words}
use Rattle.reading.specs.Tables.{state}
use Rattle.commanding.specs.Perform.{performed}
use Rattle.commanding.specs.Command.{accepted, answer, command_in}
use Rattle.meaning.specs.State.{St}
use Rattle.meaning.specs.Setters.{with_log}
use Rattle.meaning.specs.Words.{Command, command_of}
use Rattle.meaning.specs.Refusals.{sight_of, refusal}
use Rattle.meaning.specs.Commands.{perform, Answer, accepted as acceptedL, answer as answerL, command}
use Rattle.meaning.specs.WellFormed.{WellFormed}
use Rattle.meaning.proofs.Performed.{performed as performedL, known}
use Rattle.meaning.proofs.Outcome.{rows_fit}
use Rattle.structure.specs.Rep.{Rep}
use Rattle.structure.specs.SameAnswer.{SameAnswer}
use Rattle.structure.proofs.Exact.{refusal_same}
use Rattle.structure.proofs.LogRows.{log_none}
use Rattle.structure.proofs.Performs.{performs}

module _ (N L : List ℕ) (W C l ws : List ℤ) (s : St) (r : Rep N L W C s) (w : WellFormed s) (free : s.stuck ≡ false) where
  abbrev rows : ℕ
  rows = length l / row_words

  -- accepted: it is performed
  done : (command true s rows ws).code ≡ 0 → SameAnswer l (accepted (performed (state N L W) C l (brief (command_of ws)) (formula_in ws))) (command true s rows ws)
  done a =
      let k = known s rows ws a in
      let c = k.0 in
      let p = performedL s rows ws c k.1 a in
      let fit : (b : Command) → command_of ws ≡ Some b → length (perform (with_log s []) b).st.log * 2 ≤ length l =
      λ b q. let e = ap (λ (z : Answer). length z.rows) (performedL s rows ws b q a).0 in let f = rows_fit s rows ws w in omega arith in
      let d = performs (state N L W) C l s rows r w free ws fit c k.1 p.1 in
      subst (SameAnswer l (accepted (performed (state N L W) C l (brief (command_of ws)) (formula_in ws)))) (sym p.0)
      (subst (λ (b : Option Command). SameAnswer l (accepted (performed (state N L W) C l (brief b) (formula_in ws))) (acceptedL (perform (with_log s []) c))) (sym k.1)
      (record { code = refl; value = d.value; runs = d.leaves.logs; tables = d.leaves.sees }))

  decided : SameAnswer l (command_in N L W C l ws) (command true s rows ws)
  unfolding command_in command answer answerL
  decided = subst (λ (z : ℕ). SameAnswer l (answer z N L W C l ws) (answerL (refusal true (sight_of s rows) ws) s ws)) (sym (refusal_same N L W C s r w l ws)) (go (refusal true (sight_of s rows) ws) refl)
    where
      go : (z : ℕ) → refusal true (sight_of s rows) ws ≡ z → SameAnswer l (answer z N L W C l ws) (answerL z s ws)
      go zero e = subst (λ (z : ℕ). SameAnswer l (answer 0 N L W C l ws) (answerL z s ws)) e (done (ap (λ (z : ℕ). (answerL z s ws).code) e))
      go (suc z) e = record { code = refl; value = refl; runs = log_none l; tables = r }

pub command_same : (N L : List ℕ) (W C l ws : List ℤ) (s : St) → Rep N L W C s → WellFormed s → s.stuck ≡ false → SameAnswer l (command_in N L W C l ws) (command true s (length l / row_words) ws)
command_same = decided
