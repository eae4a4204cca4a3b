-- The local memory of the tests.
use Rattle.std.specs.Prelude.{ℕ, List, replicate}
use Rattle.counting.specs.Counts.{most_nodes}

-- a word for each node, all 0
unfoldable pub blank : List ℕ
blank = replicate most_nodes 0
