-- A word and the kind that it says stand for each other. Assumes nothing.
use mathlib.Core.Path.{◌≡◌, refl}
use Prim.Native.Nat.{ℕ, zero, suc}
use Rattle.std.specs.Prelude.{Some, None}
use Rattle.primitive.specs.Kinds.{kind_of, kind_word, IsNoKind}
use Rattle.primitive.specs.declared.kinds.Kind.{Kind}
use Rattle.primitive.specs.declared.kinds.Kind.TheVariants.{Signal, Computed, Effect, Scope}

pub word_kind : (k : Kind) → kind_of (kind_word k) ≡ Some k
word_kind Signal = refl
word_kind Computed = refl
word_kind Effect = refl
word_kind Scope = refl

pub kind_is : (w : ℕ) (k : Kind) → kind_of w ≡ Some k → w ≡ kind_word k
kind_is zero k e = cc
kind_is (suc zero) Signal e = refl
kind_is (suc zero) Computed e = cc
kind_is (suc zero) Effect e = cc
kind_is (suc zero) Scope e = cc
kind_is (suc (suc zero)) Signal e = cc
kind_is (suc (suc zero)) Computed e = refl
kind_is (suc (suc zero)) Effect e = cc
kind_is (suc (suc zero)) Scope e = cc
kind_is (suc (suc (suc zero))) Signal e = cc
kind_is (suc (suc (suc zero))) Computed e = cc
kind_is (suc (suc (suc zero))) Effect e = refl
kind_is (suc (suc (suc zero))) Scope e = cc
kind_is (suc (suc (suc (suc zero)))) Signal e = cc
kind_is (suc (suc (suc (suc zero)))) Computed e = cc
kind_is (suc (suc (suc (suc zero)))) Effect e = cc
kind_is (suc (suc (suc (suc zero)))) Scope e = refl
kind_is (suc (suc (suc (suc (suc w))))) k e = cc

pub no_kind : (w : ℕ) → IsNoKind w → None ≡ kind_of w
no_kind zero h = refl
no_kind (suc zero) h = absurd (h.no_signal refl)
no_kind (suc (suc zero)) h = absurd (h.no_computed refl)
no_kind (suc (suc (suc zero))) h = absurd (h.no_effect refl)
no_kind (suc (suc (suc (suc zero)))) h = absurd (h.no_scope refl)
no_kind (suc (suc (suc (suc (suc w))))) h = refl
