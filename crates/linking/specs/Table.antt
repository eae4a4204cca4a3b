-- The two tables that links and their ring change. Their words have their names in `Words` of the crate `primitive`.
use Rattle.std.specs.Prelude.{ℕ, List}

pub record Tab : Type 0 where
  pub nodes : List ℕ
  pub links : List ℕ

abbrev pub tab : List ℕ → List ℕ → Tab
tab n l = record { nodes = n; links = l }
