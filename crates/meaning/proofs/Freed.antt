-- Link slots are reused, the last freed first. Assumes nothing.
use mathlib.Core.Path.{◌≡◌, refl}
use mathlib.Core.Bool.{true, false}
use mathlib.Core.List.{List, ◌∷◌}
use Prim.Native.Nat.{ℕ}
use Rattle.meaning.specs.State.{St}
use Rattle.meaning.specs.Links.{insert, cut}
use Rattle.meaning.proofs.Laws.{up_same}

-- a slot that is freed comes first
pub freed_first : (s : St) (l : ℕ) → ((cut s l).free ≡ l ∷ s.free) × ((cut s l).live l ≡ false)
unfolding cut
freed_first s l = (refl, up_same s.live l false)

-- and the first is taken
pub first_taken : (s : St) (d u v l : ℕ) (ls : List ℕ)
    → ((insert s d u v (l ∷ ls)).free ≡ ls) × ((insert s d u v (l ∷ ls)).live l ≡ true) × ((insert s d u v (l ∷ ls)).dep l ≡ d) × ((insert s d u v (l ∷ ls)).sub l ≡ u) × ((insert s d u v (l ∷ ls)).ver l ≡ v)
unfolding insert
first_taken s d u v l ls = (refl, up_same s.live l true, up_same s.dep l d, up_same s.sub l u, up_same s.ver l v)
