-- Document 01, "Cases": the table of the twelve marked P, of `meaning`, asked of the lent tables.
use Rattle.std.specs.Prelude.{◌≡◌, List, [], ◌∷◌, ℕ, eqb}
use Rattle.primitive.specs.Words.{DEP, SUB, link}
use Rattle.linking.specs.Free.{is_live_slot, live}
use Rattle.lists.specs.Sum.{count}
use Rattle.lists.specs.Each.{both}
use Rattle.counting.specs.Counts.{slot_room}
use Rattle.meaning.specs.Cases.{Case, case12, small, rows}
use Rattle.cases.specs.Scripts.{empty_tables, answers, after_all}

-- how many live links go from dependency d to subscriber s
unfoldable pub between : List ℕ → ℕ → ℕ → ℕ
between l d s = count (λ (x : ℕ). both (is_live_slot l x) (both (eqb (link l x DEP) d) (eqb (link l x SUB) s))) (slot_room l)

-- the link table after case 12
abbrev pub links12 : List ℕ
links12 = (after_all rows (empty_tables small) case12.script).links

-- each case is answered so, and after the last there are four live links, two of them from 0 to the effect
unfoldable pub Holds : List Case → Type 0
Holds [] = (live links12 ≡ 4) × (between links12 0 2 ≡ 2)
Holds (c ∷ cs) = (answers rows (empty_tables small) c.script ≡ c.told) × Holds cs
