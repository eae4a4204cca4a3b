-- The limit on levels.
use Rattle.std.specs.Prelude.{Bool, ◌&&◌, List, ℕ, eqb, leb}
use Rattle.primitive.specs.Words.{LEVEL, node}

-- node n's level is the one given, and at most the greatest
unfoldable pub level_kept : List ℕ → ℕ → ℕ → ℕ → Bool
level_kept nodes n level most = leb level most && eqb (node nodes n LEVEL) level
