-- Document 01, "Commands": the words of a command, and the cells of a formula, taken apart. Nothing else looks at words.
use Rattle.std.specs.Prelude.{true, false, cond, List, [], ◌∷◌, ℕ, zero, suc, ◌/◌, ◌%◌, eqb, leb, ℤ, pos, negsuc, length, Option, None, Some, unwrap_or}
use Rattle.trees.specs.declared.cells.Cell.{Cell}
use Rattle.trees.specs.declared.cells.Cell.TheVariants.{Constant, Read, Two, Choose, Bad}
use Rattle.trees.specs.Cells.{cell_of}
use Rattle.trees.specs.Trees.{Tree, constant, read, two, choose}
use Rattle.trees.specs.Legal.{most_cells, most_nesting}

-- the ten commands, in the order of their codes; numbers of nodes and owners as they were given
pub data Command : Type 0 where
  make_signal : ℤ → Command
  make_computed : List ℤ → Command
  make_effect : ℤ → List ℤ → Command
  make_scope : ℤ → Command
  set_to : ℤ → ℤ → Command
  add_to : ℤ → ℤ → Command
  read_of : ℤ → Command
  dispose_of : ℤ → Command
  batch_start : Command
  batch_end : Command

-- ---- the words that follow the code
-- one more, and so on
unfoldable pub word : {A : Type 0} → (ℤ → List ℤ → Option A) → List ℤ → Option A
word f [] = None
word f (x ∷ ws) = f x ws

-- no more
unfoldable pub no_word : {A : Type 0} → A → List ℤ → Option A
no_word c [] = Some c
no_word c (x ∷ ws) = None

unfoldable pub whole_cells : (List ℤ → Command) → List ℤ → Option Command
whole_cells c ws = elim (eqb (length ws % 2) 0) [ true ↦ Some (c ws) | false ↦ None ]

unfoldable pub codes : ℕ → List ℤ → Option Command
codes c ws =
    cond (eqb c 1) (word (λ v. no_word (make_signal v)) ws)
    (cond (eqb c 2) (whole_cells make_computed ws)
    (cond (eqb c 3) (word (λ o. whole_cells (make_effect o)) ws)
    (cond (eqb c 4) (word (λ o. no_word (make_scope o)) ws)
    (cond (eqb c 5) (word (λ n. word (λ v. no_word (set_to n v))) ws)
    (cond (eqb c 6) (word (λ n. word (λ d. no_word (add_to n d))) ws)
    (cond (eqb c 7) (word (λ n. no_word (read_of n)) ws)
    (cond (eqb c 8) (word (λ n. no_word (dispose_of n)) ws)
    (cond (eqb c 9) (no_word batch_start ws)
    (cond (eqb c 10) (no_word batch_end ws) None)))))))))

-- the command, if the code is known and the word count right
unfoldable pub command_of : List ℤ → Option Command
command_of [] = None
command_of (pos c ∷ ws) = codes c ws
command_of (negsuc c ∷ ws) = None

-- the node of a number that is known to be one
abbrev pub node_of : ℤ → ℕ
node_of (pos n) = n
node_of (negsuc n) = 0

-- -1 as owner means none
abbrev pub owner_of : ℤ → Option ℕ
owner_of (pos n) = Some n
owner_of (negsuc n) = None

-- ---- formulas
-- a tree, and the words after it
abbrev pub Part : Type 0
Part = Option (Tree × List ℤ)

unfoldable pub after : {A : Type 0} → Part → (Tree → List ℤ → Option A) → Option A
after None f = None
after (Some p) f = f p.0 p.1

-- p takes one argument from the front
unfoldable pub grown : (List ℤ → Part) → Cell → List ℤ → Part
grown p (Constant k) ws = Some (constant k, ws)
grown p (Read n) ws = Some (read n, ws)
grown p (Two o) ws = after (p ws) (λ a r. after (p r) (λ b q. Some (two o a b, q)))
grown p Choose ws = after (p ws) (λ c r. after (p r) (λ a q. after (p q) (λ b z. Some (choose c a b, z))))
grown p Bad ws = None

-- one expression of nesting at most k from the front, in prefix order
unfoldable pub parse : ℕ → List ℤ → Part
parse zero ws = None
parse (suc k) ws = word (λ c. word (λ o. grown (parse k) (cell_of c o))) ws

-- 1 to 64 cells, exactly one expression, nesting at most 16
unfoldable pub tree_of : List ℤ → Option Tree
tree_of ws = elim (leb (length ws / 2) most_cells) [ true ↦ after (parse most_nesting ws) no_word | false ↦ None ]

-- the formula of cells that are known to be one
abbrev pub formula_of : List ℤ → Tree
formula_of ws = unwrap_or (tree_of ws) (constant (pos 0))
