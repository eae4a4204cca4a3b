-- The level of a node, by what the code finds on its way. Assumes nothing.
use mathlib.Core.Path.{◌≡◌, refl, ◌∙◌}
use mathlib.Core.Bool.{Bool, true, false}
use mathlib.Core.List.{List}
use Prim.Native.Nat.{ℕ, suc, ◌<◌, min}
use native.Mathlib.Omega.{arith}
use lib.Dec.{leb}
use borrow.Author.Tests.{leb-true, leb-false, lt-leb}
use Rattle.telling.specs.Levels.{level_kept}

module _ (nodes : List ℕ) where
  -- a level that stops above the limit is kept exactly where the whole one is
  pub kept_whole : (n most level : ℕ) {r : Bool} {c : ℕ} → r ≡ level_kept nodes n c most → c ≡ min (suc most) level → r ≡ level_kept nodes n level most
  unfolding level_kept
  kept_whole n most level {r} {c} e f = e ∙ go (leb level most) refl
    where
      go : (b : Bool) → leb level most ≡ b → level_kept nodes n c most ≡ level_kept nodes n level most
      go true t = let m : c ≡ level = omega (arith, leb-true level most t) in rw m
      go false t = let m : most < c = omega (arith, leb-false level most t) in rw (lt-leb c most m, t)
