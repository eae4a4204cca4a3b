-- Evaluation by the tree that the cells write out: what a formula is worth to node n, and the state after working it out.
use Rattle.std.specs.Prelude.{ℕ, true, false, List, [], ◌∷◌}
use Rattle.values.specs.Values.{value, is_zero}
use Rattle.trees.specs.Trees.{Tree, constant, read, two, choose, apply}
use Rattle.reading.specs.Tables.{State, Got, got}
use Rattle.reading.specs.Ring.{Ring, read_by}

-- arguments left to right, and of choose only the branch that it takes; as `worth` of the crate `trees`, with a read in the place of the environment
unfoldable pub worked_by : Ring → ℕ → Tree → State → Got
worked_by r n (constant k) s = got (value k) s
worked_by r n (read m) s = read_by r n s m
worked_by r n (two o a b) s =
    let x = worked_by r n a s in
    let y = worked_by r n b x.after in
    got (apply o x.value y.value) y.after
worked_by r n (choose c a b) s =
    let x = worked_by r n c s in
    elim (is_zero x.value) [ true ↦ worked_by r n b x.after | false ↦ worked_by r n a x.after ]

-- the state after node n has read these nodes, in order
unfoldable pub read_all : Ring → ℕ → List ℕ → State → State
read_all r n [] s = s
read_all r n (m ∷ ms) s = read_all r n ms (read_by r n s m).after
