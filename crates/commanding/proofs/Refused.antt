-- A refusal answers value 0 and no runs, and leaves every lent word as it was. Assumes nothing.
use mathlib.Core.Path.{◌≡◌, refl}
use mathlib.Core.List.{List}
use Prim.Native.Nat.{ℕ, zero, suc}
use lib.IntN.{ℤ, pos}
use Rattle.commanding.specs.Command.{Answered, refusal_in, answer, command_in}

module _ (n l : List ℕ) (v c g ws : List ℤ) where
  abbrev Unchanged : ℕ → Answered → Type 0
  Unchanged r a = a ≡ record { code = r; value = pos 0; runs = 0; nodes = n; links = l; values = v; cells = c; log = g }

  unchanged : (r : ℕ) → (r ≡ 0 → ⊥) → Unchanged r (answer r n l v c g ws)
  unfolding answer
  unchanged zero f = absurd (f refl)
  unchanged (suc r) f = refl

  pub refusal_unchanged : (refusal_in n l v c g ws ≡ 0 → ⊥) → Unchanged (refusal_in n l v c g ws) (command_in n l v c g ws)
  unfolding command_in
  refusal_unchanged = unchanged (refusal_in n l v c g ws)
