-- The tests of a flag byte as the code makes them: a mask, and what it is compared with. Assumes nothing.
use mathlib.Core.Path.{◌≡◌, sym, ap, ◌∙◌}
use mathlib.Core.Bool.{Bool, not}
use Prim.Native.Nat.{ℕ}
use lib.Bits.{bit_and}
use lib.Dec.{eqb}
use Rattle.marking.specs.Fields.{has, lacks, has_only}

module _ (f k : ℕ) {m : ℕ} {b t : Bool} (e : m ≡ bit_and f k) where
  pub masked_zero : b ≡ eqb m 0 → b ≡ t → lacks f k ≡ t
  unfolding lacks
  masked_zero u v = sym (u ∙ ap (λ (x : ℕ). eqb x 0) e) ∙ v

  pub masked_nonzero : b ≡ not (eqb m 0) → b ≡ t → has f k ≡ t
  unfolding has
  masked_nonzero u v = sym (u ∙ ap (λ (x : ℕ). not (eqb x 0)) e) ∙ v

  pub masked_same : (j : ℕ) → b ≡ eqb m j → b ≡ t → has_only f k j ≡ t
  unfolding has_only
  masked_same j u v = sym (u ∙ ap (λ (x : ℕ). eqb x j) e) ∙ v
