-- The making of a node, one law for each way. Assumes nothing.
use mathlib.Core.Path.{◌≡◌, refl}
use mathlib.Core.Bool.{Bool, true, false, ◌&&◌}
use mathlib.Core.List.{List}
use Prim.Native.Nat.{ℕ, suc, ◌+◌, ◌*◌, ◌/◌, ◌<◌, ◌≤◌}
use native.Mathlib.Numerals.{add-one}
use lib.Dec.{leb, ltb}
use lib.IntN.{ℤ}
use lib.ListN.{length, get_or, set}
use borrow.Author.Tests.{ltb-true, leb-true}
use Rattle.values.specs.declared.Value.{Value}
use Rattle.primitive.specs.Words.{COUNT, USED, node_rows}
use Rattle.reading.specs.Tables.{state}
use Rattle.operating.specs.declared.making.Sort.{Sort}
use Rattle.operating.specs.Making.{has_room, described, valued, laid, made, make}

-- ---- room
and_left : (a b : Bool) → (a && b) ≡ true → a ≡ true
and_left true b e = refl
and_left false b e = e

and_right : (a b : Bool) → (a && b) ≡ true → b ≡ true
and_right true b e = e
and_right false true e = refl
and_right false false e = e

module _ (N : List ℕ) (c : List ℤ) (k : ℕ) (h : has_room N c k ≡ true) where
  pub room_node : suc (get_or N COUNT 0) < node_rows N
  unfolding has_room
  room_node = ltb-true _ _ (and_left (ltb (suc (get_or N COUNT 0)) (node_rows N)) (leb (get_or N USED 0 + k) (length c / 2)) h)

  pub room_cells : get_or N USED 0 + k ≤ length c / 2
  unfolding has_room
  room_cells = leb-true _ _ (and_right (ltb (suc (get_or N COUNT 0)) (node_rows N)) (leb (get_or N USED 0 + k) (length c / 2)) h)

-- ---- the node
module _ (N : List ℕ) (l : List ℕ) (v c : List ℤ) (k : Sort) (ws : List ℤ) (x : Value) where
  abbrev n : ℕ
  n = get_or N COUNT 0

  abbrev used : ℕ
  used = get_or N USED 0

  pub make_room : has_room N c (length ws / 2) ≡ true
      → made n (state (set (set (described N n k ws) COUNT (n + 1)) USED (used + length ws / 2)) l (valued v n x)) (laid c (used * 2) ws) ≡ make (state N l v) c k ws x
  unfolding make
  make_room h = rw (h, make, add-one n)

  pub make_full : has_room N c (length ws / 2) ≡ false → made n (state N l v) c ≡ make (state N l v) c k ws x
  unfolding make
  make_full h = rw (h, make)
