-- Who is owned: y is x, or has an owner that is below x.
use Rattle.std.specs.Prelude.{◌≡◌, ℕ, Option, Some}

pub data Below (owner : ℕ → Option ℕ) (x : ℕ) : ℕ → Type 0 where
  itself : {y : ℕ} → y ≡ x → Below owner x y
  through : {y : ℕ} (o : ℕ) → Below owner x o → owner y ≡ Some o → Below owner x y

-- what e owns, and all below it
abbrev pub Owned : (ℕ → Option ℕ) → ℕ → ℕ → Type 0
Owned owner e n = (y : ℕ) × (owner y ≡ Some e) × Below owner y n
