-- Document 01, "Cases": the twelve marked P, each from empty tables, with the answers they must give.
use Rattle.std.specs.Prelude.{◌≡◌, true, List, [], ◌∷◌, ◌++◌, ℕ, ℤ, pos, negsuc, replicate}
use Rattle.values.specs.declared.Value.{Value}
use Rattle.values.specs.Values.{value, greatest}
use Rattle.trees.specs.declared.cells.Op.TheVariants.{Sum, Difference, Less}
use Rattle.trees.specs.Trees.{Tree, constant, read, two, written}
use Rattle.meaning.specs.State.{St, Room, Row, empty, deps}
use Rattle.meaning.specs.Commands.{command}

-- ---- scripts from well-formed tables: refusal number, value, and effect and value of each run
abbrev pub Told : Type 0
Told = ℕ × Value × List (ℕ × Value)

unfoldable pub shown : List Row → List (ℕ × Value)
shown [] = []
shown (r ∷ rs) = (r.who, r.worth) ∷ shown rs

unfoldable pub answers : St → ℕ → List (List ℤ) → List Told
answers s rows [] = []
answers s rows (c ∷ cs) = let a = command true s rows c in (a.code, a.val, shown a.rows) ∷ answers a.st rows cs

unfoldable pub after_all : St → ℕ → List (List ℤ) → St
after_all s rows [] = s
after_all s rows (c ∷ cs) = after_all (command true s rows c).st rows cs

-- ---- the words of a command
abbrev pub signal_w : ℤ → List ℤ
signal_w v = pos 1 ∷ v ∷ []

abbrev pub computed_w : Tree → List ℤ
computed_w t = pos 2 ∷ written t

-- -1 is no owner
abbrev pub unowned : ℤ
unowned = negsuc 0

abbrev pub effect_w : ℤ → Tree → List ℤ
effect_w o t = pos 3 ∷ o ∷ written t

abbrev pub set_w : ℕ → ℤ → List ℤ
set_w n v = pos 5 ∷ pos n ∷ v ∷ []

abbrev pub add_w : ℕ → ℤ → List ℤ
add_w n d = pos 6 ∷ pos n ∷ d ∷ []

abbrev pub read_w : ℕ → List ℤ
read_w n = pos 7 ∷ pos n ∷ []

abbrev pub dispose_w : ℕ → List ℤ
dispose_w n = pos 8 ∷ pos n ∷ []

abbrev pub start_w : List ℤ
start_w = pos 9 ∷ []

abbrev pub end_w : List ℤ
end_w = pos 10 ∷ []

-- ---- what is answered: a value and no run; a value and one run; a refusal
abbrev pub gives : ℤ → Told
gives v = (0, value v, [])

abbrev pub runs : ℤ → ℕ → ℤ → Told
runs v e w = (0, value v, (e, value w) ∷ [])

abbrev pub refuses : ℕ → Told
refuses r = (r, value (pos 0), [])

pub record Case : Type 0 where
  pub script : List (List ℤ)
  pub told : List Told

abbrev pub case : List (List ℤ) → List Told → Case
case s t = record { script = s; told = t }

-- the ends of the range
abbrev pub most : ℤ
most = pos greatest

abbrev pub least : ℤ
least = negsuc greatest

abbrev pub case1 : Case
case1 = case (signal_w (pos 5) ∷ computed_w (two Sum (read 0) (constant (pos 1))) ∷ read_w 1 ∷ set_w 0 (pos 7) ∷ read_w 1 ∷ [])
    (gives (pos 0) ∷ gives (pos 1) ∷ gives (pos 6) ∷ gives (pos 0) ∷ gives (pos 8) ∷ [])

abbrev pub case2 : Case
case2 = case (signal_w (pos 5) ∷ effect_w unowned (read 0) ∷ set_w 0 (pos 5) ∷ set_w 0 (pos 6) ∷ [])
    (gives (pos 0) ∷ runs (pos 1) 1 (pos 5) ∷ gives (pos 0) ∷ runs (pos 0) 1 (pos 6) ∷ [])

abbrev pub case3 : Case
case3 = case (signal_w (pos 5) ∷ computed_w (two Less (read 0) (constant (pos 10))) ∷ effect_w unowned (read 1) ∷ set_w 0 (pos 8) ∷ [])
    (gives (pos 0) ∷ gives (pos 1) ∷ runs (pos 2) 2 (pos 1) ∷ gives (pos 0) ∷ [])

abbrev pub case4 : Case
case4 = case (signal_w (pos 5) ∷ effect_w unowned (read 0) ∷ start_w ∷ set_w 0 (pos 3) ∷ set_w 0 (pos 5) ∷ end_w ∷ [])
    (gives (pos 0) ∷ runs (pos 1) 1 (pos 5) ∷ gives (pos 0) ∷ gives (pos 0) ∷ gives (pos 0) ∷ gives (pos 0) ∷ [])

abbrev pub case5 : Case
case5 = case (signal_w (pos 5) ∷ effect_w unowned (read 0) ∷ start_w ∷ set_w 0 (pos 3) ∷ read_w 0 ∷ set_w 0 (pos 5) ∷ end_w ∷ [])
    (gives (pos 0) ∷ runs (pos 1) 1 (pos 5) ∷ gives (pos 0) ∷ gives (pos 0) ∷ gives (pos 3) ∷ gives (pos 0) ∷ runs (pos 0) 1 (pos 5) ∷ [])

abbrev pub case6 : Case
case6 = case (signal_w (pos 0) ∷ set_w 0 (pos 5) ∷ add_w 0 (pos 1) ∷ read_w 0 ∷ []) (gives (pos 0) ∷ gives (pos 0) ∷ gives (pos 0) ∷ gives (pos 1) ∷ [])

-- with a read after the set
abbrev pub case6b : Case
case6b = case (signal_w (pos 0) ∷ set_w 0 (pos 5) ∷ read_w 0 ∷ add_w 0 (pos 1) ∷ read_w 0 ∷ [])
    (gives (pos 0) ∷ gives (pos 0) ∷ gives (pos 5) ∷ gives (pos 0) ∷ gives (pos 6) ∷ [])

abbrev pub case7 : Case
case7 = case (signal_w (pos 0) ∷ effect_w unowned (read 0) ∷ effect_w (pos 1) (read 0) ∷ set_w 0 (pos 4) ∷ dispose_w 2 ∷ [])
    (gives (pos 0) ∷ runs (pos 1) 1 (pos 0) ∷ runs (pos 2) 2 (pos 0) ∷ runs (pos 0) 1 (pos 4) ∷ refuses 4 ∷ [])

abbrev pub case8 : Case
case8 = case (signal_w (pos 0) ∷ signal_w (pos 0) ∷ effect_w unowned (read 0) ∷ effect_w (pos 2) (read 1) ∷ set_w 1 (pos 9) ∷ [])
    (gives (pos 0) ∷ gives (pos 1) ∷ runs (pos 2) 2 (pos 0) ∷ runs (pos 3) 3 (pos 0) ∷ runs (pos 0) 3 (pos 9) ∷ [])

abbrev pub case9 : Case
case9 = case (signal_w (pos 0) ∷ signal_w (pos 0) ∷ effect_w unowned (read 0) ∷ effect_w (pos 2) (read 1) ∷ start_w ∷ set_w 1 (pos 9) ∷ set_w 0 (pos 4) ∷ end_w ∷ [])
    (gives (pos 0) ∷ gives (pos 1) ∷ runs (pos 2) 2 (pos 0) ∷ runs (pos 3) 3 (pos 0) ∷ gives (pos 0) ∷ gives (pos 0) ∷ gives (pos 0) ∷ runs (pos 0) 2 (pos 4) ∷ [])

abbrev pub case10 : Case
case10 = case
    (computed_w (two Sum (constant most) (constant (pos 1))) ∷ computed_w (two Difference (constant (pos 0)) (constant least)) ∷ computed_w (two Difference (constant least) (constant (pos 1))) ∷ read_w 0 ∷ read_w 1 ∷ read_w 2 ∷ [])
    (gives (pos 0) ∷ gives (pos 1) ∷ gives (pos 2) ∷ gives most ∷ gives most ∷ gives least ∷ [])

abbrev pub case11 : Case
case11 = case (end_w ∷ replicate 64 start_w ++ start_w ∷ []) (refuses 8 ∷ replicate 64 (gives (pos 0)) ++ refuses 8 ∷ [])

abbrev pub case12 : Case
case12 = case (signal_w (pos 0) ∷ computed_w (read 0) ∷ effect_w unowned (two Sum (read 0) (two Sum (read 1) (read 0))) ∷ [])
    (gives (pos 0) ∷ gives (pos 1) ∷ runs (pos 2) 2 (pos 0) ∷ [])

abbrev pub table : List Case
table = case1 ∷ case2 ∷ case3 ∷ case4 ∷ case5 ∷ case6 ∷ case6b ∷ case7 ∷ case8 ∷ case9 ∷ case10 ∷ case11 ∷ case12 ∷ []

-- ---- the tables that they start from: 8 nodes, 16 link slots, 16 cells, a log of 4 rows
abbrev pub small : Room
small = record { nodes = 8; slots = 16; cells = 16 }

abbrev pub rows : ℕ
rows = 4

-- links as pairs of dependency and subscriber
unfoldable pub ends : St → List ℕ → List (ℕ × ℕ)
ends s [] = []
ends s (l ∷ ls) = (s.dep l, s.sub l) ∷ ends s ls

-- the live links of case 12: those of the computed, those of the effect, and the slots that are free
abbrev pub links12 : List (ℕ × ℕ) × List (ℕ × ℕ) × List ℕ
links12 = let s = after_all (empty small) rows case12.script in (ends s (deps s 1), ends s (deps s 2), s.free)

-- each case is answered so, and in the last are four live links, two of them from 0 to the effect
unfoldable pub Holds : List Case → Type 0
Holds [] = links12 ≡ ((0, 1) ∷ [], (0, 2) ∷ (1, 2) ∷ (0, 2) ∷ [], 4 ∷ 5 ∷ 6 ∷ 7 ∷ 8 ∷ 9 ∷ 10 ∷ 11 ∷ 12 ∷ 13 ∷ 14 ∷ 15 ∷ [])
Holds (c ∷ cs) = (answers (empty small) rows c.script ≡ c.told) × Holds cs
