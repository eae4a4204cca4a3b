-- Document 01, "How tightly the promises bind": the five wrong engines, as what each does over the words; and the script on which each breaks the promise of `command`.
use Rattle.std.specs.Prelude.{◌≡◌, List, [], ◌∷◌, ℕ, ℤ, pos}
use Rattle.trees.specs.Trees.{read}
use Rattle.meaning.specs.Cases.{signal_w, effect_w, set_w, read_w, unowned}
use Rattle.commanding.specs.Command.{Answered, refused, command_in}
use Rattle.cases.specs.Scripts.{Lent, left, answered}

-- nodes, links, values, cells, log and the words of a command; the answer, and every word after it
abbrev pub Engine : Type 0
Engine = List ℕ → List ℕ → List ℤ → List ℤ → List ℤ → List ℤ → Answered

-- the contract of `command` is this equation (crate `tight`, Spelled)
abbrev pub Keeps : Engine → Type 0
Keeps e = (n l : List ℕ) (v c g ws : List ℤ) → e n l v c g ws ≡ command_in n l v c g ws

-- ---- the five
abbrev pub RefusesEverything : Engine → Type 0
RefusesEverything e = (n l : List ℕ) (v c g ws : List ℤ) → (e n l v c g ws).code ≡ 0 → ⊥

abbrev pub ReadsBackZero : Engine → Type 0
ReadsBackZero e = (n l : List ℕ) (v c g : List ℤ) (k : ℕ) → (e n l v c g (read_w k)).value ≡ pos 0

abbrev pub StoresNothing : Engine → Type 0
StoresNothing e = (n l : List ℕ) (v c g ws : List ℤ) → left (e n l v c g ws) ≡ record { nodes = n; links = l; values = v; cells = c }

-- once a write has run something, the next one runs nothing
abbrev pub SettlesFirstFlush : Engine → Type 0
SettlesFirstFlush e =
    (n l : List ℕ) (v c g : List ℤ) (i j : ℕ) (x y : ℤ) → let a = e n l v c g (set_w i x) in
    (a.runs ≡ 0 → ⊥) → (e a.nodes a.links a.values a.cells g (set_w j y)).runs ≡ 0

-- its run count hangs on the words of the command and the lent log, and not on what ran
abbrev pub InventsRuns : Engine → Type 0
InventsRuns e = (f : List ℤ → List ℤ → ℕ) × ((n l : List ℕ) (v c g ws : List ℤ) → (e n l v c g ws).runs ≡ f g ws)

-- one engine that is wrong in all five ways
abbrev pub idle : Engine
idle n l v c g ws = refused 1 n l v c g

-- ---- the script, and what must be answered: refusal number, value, number of runs
abbrev pub tried : List (List ℤ)
tried = signal_w (pos 5) ∷ effect_w unowned (read 0) ∷ read_w 0 ∷ set_w 0 (pos 6) ∷ set_w 0 (pos 7) ∷ set_w 0 (pos 7) ∷ read_w 0 ∷ []

abbrev pub tried_numbers : List (ℕ × ℤ × ℕ)
tried_numbers = (0, pos 0, 0) ∷ (0, pos 1, 1) ∷ (0, pos 5, 0) ∷ (0, pos 0, 1) ∷ (0, pos 0, 1) ∷ (0, pos 0, 0) ∷ (0, pos 7, 0) ∷ []

unfoldable pub numbers : ℕ → Lent → List (List ℤ) → List (ℕ × ℤ × ℕ)
numbers rows t [] = []
numbers rows t (ws ∷ wss) = let a = answered rows t ws in (a.code, a.value, a.runs) ∷ numbers rows (left a) wss
