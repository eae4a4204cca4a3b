-- What lists begin with, computed. Assumes nothing.
use mathlib.Core.Path.{◌≡◌, refl}
use mathlib.Core.List.{[], ◌∷◌}
use lib.IntN.{pos, negsuc}
use Rattle.sequencing.specs.declared.list.Next.TheVariants.{Over, Bad, Words}
use Rattle.sequencing.specs.Lists.{words_of, next_in}

pub record Begins : Type 0 where
  pub over : next_in [] ≡ Over
  -- a command may take all the words that are left, and no more
  pub all : next_in (pos 2 ∷ pos 7 ∷ pos 8 ∷ []) ≡ Words 2
  pub more : next_in (pos 3 ∷ pos 7 ∷ pos 8 ∷ []) ≡ Bad
  pub below : next_in (negsuc 0 ∷ pos 7 ∷ []) ≡ Bad

pub begins : Begins
unfolding next_in words_of
begins = record { over = refl; all = refl; more = refl; below = refl }
