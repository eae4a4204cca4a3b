-- How many evaluations an operation makes: the counts of `meaning`, first ones and later ones.
use Rattle.std.specs.Prelude.{true, List, [], ℕ, zero, suc, ℤ, Option, None, Some}
use Rattle.values.specs.declared.Value.{Value}
use Rattle.trees.specs.Trees.{Tree}
use Rattle.meaning.specs.State.{St}
use Rattle.meaning.specs.Setters.{with_log}
use Rattle.meaning.specs.Words.{Command, command_of}
use Rattle.meaning.specs.Reads.{Ans}
use Rattle.meaning.specs.Evaluations.{count_first, count_fresh_w, count_fresh, count_read, count_rerun, count_run, count_flush_on, count_flush_at, count_store, count_new_effect, count_end}
unfoldable pub use Rattle.meaning.specs.Evaluations.{in_formula, in_check_on, in_check, in_update, in_pending}
pub use Rattle.meaning.specs.Evaluations.{evaluations as inPerform}

abbrev pub in_first : (St → ℕ → Ans) → (St → ℕ → ℕ) → St → ℕ → ℕ
in_first = count_first true

abbrev pub in_fresh_w : (St → ℕ → Ans) → (St → ℕ → ℕ) → St → ℕ → ℕ
in_fresh_w = count_fresh_w true

abbrev pub in_fresh : ℕ → St → ℕ → ℕ
in_fresh = count_fresh true

abbrev pub in_read : St → ℕ → ℕ
in_read = count_read true

abbrev pub in_rerun : St → ℕ → ℕ
in_rerun = count_rerun true

abbrev pub in_run : St → ℕ → ℕ
in_run = count_run true

abbrev pub in_flush_on : St → List ℕ → ℕ
in_flush_on = count_flush_on true

abbrev pub in_flush_at : St → ℕ → ℕ
in_flush_at = count_flush_at true

abbrev pub in_store : St → ℕ → Value → ℕ
in_store = count_store true

abbrev pub in_new_effect : St → Option ℕ → Tree → ℕ
in_new_effect = count_new_effect true

abbrev pub in_end : St → ℕ → ℕ
in_end = count_end true

-- ---- of a call
unfoldable pub in_perform_any : St → Option Command → ℕ
in_perform_any s None = 0
in_perform_any s (Some c) = inPerform s c

unfoldable pub in_answer : ℕ → St → List ℤ → ℕ
in_answer zero s ws = in_perform_any (with_log s []) (command_of ws)
in_answer (suc r) s ws = 0
