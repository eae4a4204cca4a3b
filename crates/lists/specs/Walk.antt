-- Lists of slots by words: a word is 0 for nothing and x + 1 for slot x. What the list from a word is, and the walk that tests it on a budget.
use Rattle.std.specs.Prelude.{◌≡◌, Bool, true, false, List, [], ◌∷◌, ℕ, zero, suc, eqb, Option, Some, None}

-- from the word w along next the slots xs, and then nothing: ok passes each slot with the word before it, fin passes the word of the last
abbrev pub Chain : (ℕ → ℕ) → (ℕ → ℕ → Bool) → (ℕ → Bool) → ℕ → ℕ → List ℕ → Type 0
Chain next ok fin p w [] = (w ≡ 0) × (fin p ≡ true)
Chain next ok fin p w (x ∷ xs) = (w ≡ suc x) × (ok p x ≡ true) × Chain next ok fin (suc x) (next x) xs

-- the slots from the word w along next, at most b of them
unfoldable pub slots : (ℕ → ℕ) → ℕ → ℕ → List ℕ
slots next zero w = []
slots next (suc b) zero = []
slots next (suc b) (suc x) = x ∷ slots next b (next x)

-- the test of one list: what is left of the budget b
unfoldable pub run : (ℕ → ℕ) → (ℕ → ℕ → Bool) → (ℕ → Bool) → ℕ → ℕ → ℕ → Option ℕ
run next ok fin zero p zero = elim (fin p) [ true ↦ Some zero | false ↦ None ]
run next ok fin zero p (suc x) = None
run next ok fin (suc b) p zero = elim (fin p) [ true ↦ Some (suc b) | false ↦ None ]
run next ok fin (suc b) p (suc x) = elim (ok p x) [ true ↦ run next ok fin b (suc x) (next x) | false ↦ None ]

abbrev pub and_then : Option ℕ → (ℕ → Option ℕ) → Option ℕ
and_then (Some m) f = f m
and_then None f = None

-- the lists of the nodes below a number on one budget, the last node's first
unfoldable pub runs : (ℕ → ℕ) → (ℕ → ℕ → ℕ → Bool) → (ℕ → ℕ → Bool) → (ℕ → ℕ) → ℕ → ℕ → Option ℕ
runs next ok fin head zero b = Some b
runs next ok fin head (suc k) b = and_then (run next (ok k) (fin k) b 0 (head k)) (λ (m : ℕ). runs next ok fin head k m)

-- it leaves m
abbrev pub leaves : Option ℕ → ℕ → Bool
leaves (Some a) m = eqb a m
leaves None m = false

-- it leaves a number that passes f
abbrev pub on_left : Option ℕ → (ℕ → Bool) → Bool
on_left (Some m) f = f m
on_left None f = false
