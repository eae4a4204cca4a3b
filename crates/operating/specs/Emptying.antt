-- Emptying of lent tables: no nodes, all slots free, the lowest first, depth and cycle 0.
use Rattle.std.specs.Prelude.{ℕ, zero, suc, true, false, List, ℤ, pos, length, get_or, set}
use Rattle.primitive.specs.Words.{FREE, NEXT-DEP, set_link}
use Rattle.counting.specs.Counts.{slot_room, carry_in}

-- the answer, and the tables after it
pub record Emptied : Type 0 where
  pub code : ℕ
  pub nodes : List ℕ
  pub links : List ℕ
  pub values : List ℤ
  pub cells : List ℤ

abbrev pub emptied : ℕ → List ℕ → List ℕ → List ℤ → List ℤ → Emptied
emptied r n l v c = record { code = r; nodes = n; links = l; values = v; cells = c }

-- the first k words are z
unfoldable pub zeroed {ℓ} : {A : Type ℓ} → A → List A → ℕ → List A
zeroed z t zero = t
zeroed z t (suc k) = zeroed z (set t k z) k

abbrev pub blank {ℓ} : {A : Type ℓ} → A → List A → List A
blank z t = zeroed z t (length t)

-- the first k slots go to the front of the free list, the last of them first
unfoldable pub freed : List ℕ → ℕ → List ℕ
freed l zero = l
freed l (suc s) = freed (set (set_link l s NEXT-DEP (get_or l FREE 0)) FREE (suc s)) s

-- 1, and nothing is touched, where the lengths do not carry capacities; else 0
unfoldable pub emptying : List ℕ → List ℕ → List ℤ → List ℤ → Emptied
emptying n l v c =
    elim (carry_in n l v c) [
      | true ↦ emptied 0 (blank 0 n) (freed (blank 0 l) (slot_room l)) (blank (pos 0) v) (blank (pos 0) c)
      | false ↦ emptied 1 n l v c
    ]
