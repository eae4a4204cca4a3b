-- A bounded stack: the first `len` words of a list, the last of them on top.
use Rattle.std.specs.Prelude.{ℕ, zero, suc, true, false, List, ltb, length, get_or, set, Option, Some, None}

-- past the end nothing is stored, and nothing more is in use
abbrev pub pushed : List ℕ → ℕ → ℕ → List ℕ
pushed s len w = set s len w

unfoldable pub pushed_len : List ℕ → ℕ → ℕ
pushed_len s len = elim (ltb len (length s)) [ true ↦ suc len | false ↦ len ]

unfoldable pub popped : List ℕ → ℕ → Option (ℕ × ℕ)
popped s zero = None
popped s (suc n) = Some (get_or s n 0, n)

-- the word on top, which is what is popped
abbrev pub top : List ℕ → ℕ → Option ℕ
top s zero = None
top s (suc n) = Some (get_or s n 0)
