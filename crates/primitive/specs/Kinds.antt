-- The kinds of a node, which are table words 1 to 4.
use Rattle.std.specs.Prelude.{◌≢◌, ℕ, zero, suc, Option, Some, None}
use Rattle.primitive.specs.Words.{SIGNAL, COMPUTED, EFFECT, SCOPE}
use Rattle.primitive.specs.declared.kinds.Kind.{Kind}
use Rattle.primitive.specs.declared.kinds.Kind.TheVariants.{Signal, Computed, Effect, Scope}

-- the word of a kind
abbrev pub kind_word : Kind → ℕ
kind_word Signal = SIGNAL
kind_word Computed = COMPUTED
kind_word Effect = EFFECT
kind_word Scope = SCOPE

-- the kind that a word says: any other word is no kind's
abbrev pub kind_of : ℕ → Option Kind
kind_of zero = None
kind_of (suc zero) = Some Signal
kind_of (suc (suc zero)) = Some Computed
kind_of (suc (suc (suc zero))) = Some Effect
kind_of (suc (suc (suc (suc zero)))) = Some Scope
kind_of (suc (suc (suc (suc (suc w))))) = None

-- the word is no kind's
pub record IsNoKind (w : ℕ) : Type 0 where
  pub no_signal : w ≢ kind_word Signal
  pub no_computed : w ≢ kind_word Computed
  pub no_effect : w ≢ kind_word Effect
  pub no_scope : w ≢ kind_word Scope
