-- Document 01, "Commands": owner depth.
use Rattle.std.specs.Prelude.{List, ℕ, zero, suc}
use Rattle.primitive.specs.Words.{LEVEL, node}

-- the greatest owner depth
abbrev pub most_owner_depth : ℕ
most_owner_depth = 16

-- the owner depth under an owner word, which is 0 for none and o + 1 for node o: unowned 1; owned, owner's + 1
unfoldable pub depth_under : List ℕ → ℕ → ℕ
depth_under nodes zero = 1
depth_under nodes (suc o) = suc (node nodes o LEVEL)
