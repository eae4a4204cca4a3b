-- The flags that occur are those of the bytes in their names. Assumes nothing.
use mathlib.Core.Path.{◌≡◌, refl}
use mathlib.Core.List.{[], ◌∷◌}
use mathlib.Core.List.{map}
use Rattle.flags.specs.Flags.{bit, named}
use Rattle.meaning.specs.State.{f0, f1, f2, f5, f6, f17, f32, f33, f48, f49}

pub bytes : f0 ∷ f1 ∷ f2 ∷ f5 ∷ f6 ∷ f17 ∷ f32 ∷ f33 ∷ f48 ∷ f49 ∷ [] ≡ map named (0 ∷ 1 ∷ 2 ∷ 5 ∷ 6 ∷ 17 ∷ 32 ∷ 33 ∷ 48 ∷ 49 ∷ [])
unfolding bit named
bytes = refl
