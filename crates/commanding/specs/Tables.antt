-- Document 01, "Flags and tables at rest": the two halves of the test.
use Rattle.std.specs.Prelude.{Bool, ◌&&◌, List, ℕ, ℤ}
use Rattle.telling.specs.Whole.{described_in}
use Rattle.resting.specs.Joined.{joined_in}

-- what the tables say of nodes, and how these are linked, flagged and queued
unfoldable pub well_formed_in : List ℕ → List ℕ → List ℤ → List ℤ → Bool
well_formed_in n l v c = described_in n l v c && joined_in n l c
