-- An accepted command is a known one, no row of the table holds of it, and it is performed. Assumes nothing.
use Rattle.std.specs.Prelude.{Option, None, Some}
use mathlib.Core.Path.{◌≡◌, refl, sym, ap, ◌∙◌, subst}
use mathlib.Core.Bool.{true}
use mathlib.Core.List.{List, []}
use Prim.Native.Nat.{ℕ, zero, suc}
use native.Mathlib.Omega.{arith}
use lib.IntN.{ℤ}
use Rattle.meaning.specs.State.{St}
use Rattle.meaning.specs.Setters.{with_log}
use Rattle.meaning.specs.Words.{Command, command_of}
use Rattle.meaning.specs.Refusals.{sight_of, unknown, table, refusal}
use Rattle.meaning.specs.Commands.{perform, perform_any, Answer, accepted, answer, command}
use Rattle.meaning.proofs.Laws.{false≢true}
use Rattle.meaning.proofs.Refused.{NoneHolds, accepted_exactly}

module _ (s : St) (rows : ℕ) (ws : List ℤ) where
  pub performed : (c : Command) → command_of ws ≡ Some c → (command true s rows ws).code ≡ 0
      → (command true s rows ws ≡ accepted (perform (with_log s []) c)) × NoneHolds (table true (sight_of s rows) (Some c))
  unfolding command answer perform_any
  performed c q a = go (refusal true (sight_of s rows) ws) (accepted_exactly true s rows ws).0 a
    where
      go : (r : ℕ) → ((answer r s ws).code ≡ 0 → NoneHolds (table true (sight_of s rows) (command_of ws))) → (answer r s ws).code ≡ 0
          → (answer r s ws ≡ accepted (perform (with_log s []) c)) × NoneHolds (table true (sight_of s rows) (Some c))
      go zero h e = (ap (λ (z : Option Command). accepted (perform_any (with_log s []) z)) q, subst (λ (z : Option Command). NoneHolds (table true (sight_of s rows) z)) q (h refl))
      go (suc r) h e = absurd (omega arith)

  pub known : (command true s rows ws).code ≡ 0 → (c : Command) × (command_of ws ≡ Some c)
  unfolding table unknown
  known a = go (command_of ws) refl ((accepted_exactly true s rows ws).0 a)
    where
      go : (o : Option Command) → command_of ws ≡ o → NoneHolds (table true (sight_of s rows) o) → (c : Command) × (command_of ws ≡ Some c)
      go None e h = false≢true (sym (h 1))
      go (Some c) e h = (c, e)

  -- its rows are the log that it leaves
  pub rows_are : (command true s rows ws).code ≡ 0 → (command true s rows ws).rows ≡ (command true s rows ws).st.log
  rows_are a =
      let k = known a in
      let p = (performed k.0 k.1 a).0 in
      ap (λ (z : Answer). z.rows) p ∙ sym (ap (λ (z : Answer). z.st.log) p)
