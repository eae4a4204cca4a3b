-- Each row of the table sees of the tables no more than its function is lent. Assumes nothing.
use Rattle.std.specs.Prelude.{Option, None, Some}
use mathlib.Core.Path.{◌≡◌, refl, ap, ap₂}
use mathlib.Core.Bool.{Bool, not, ◌&&◌, ◌||◌}
use mathlib.Core.List.{List, [], ◌∷◌}
use Prim.Native.Nat.{ℕ, zero, suc}
use lib.Dec.{ltb}
use lib.IntN.{ℤ, pos, negsuc}
use Rattle.trees.specs.Trees.{Tree, names}
use Rattle.meaning.specs.State.{Kind, readable}
use Rattle.meaning.specs.Words.{Command as Meant, make_signal, make_computed, make_effect, make_scope, set_to, add_to, read_of, dispose_of, batch_start, batch_end, owner_of, tree_of}
use Rattle.meaning.specs.Refusals.{Sight, asks_of, on, an_owner, is_a, wrong_owner, wrong_node, is_gone, gone_node, all_readable, bad_formula, tree_in, too_high, full, no_room, wrong_depth, few_rows}
use Rattle.refusing.specs.Sight.{nodes_alone, sight_in}
use Rattle.refusing.specs.Asked.{wrong_named, over, illegal}

module _ (nodes links : List ℕ) (cells : List ℤ) (rows : ℕ) where
  abbrev v : Sight
  v = sight_in nodes links cells rows

  abbrev w : Sight
  w = nodes_alone nodes

  -- ---- 3
  a_sees : (p : Kind → Bool) (z : ℤ) → is_a v p z ≡ is_a w p z
  unfolding is_a
  a_sees p (pos n) = refl
  a_sees p (negsuc n) = refl

  named_sees : (p : Kind → Bool) (o : Option ℤ) → wrong_named v p o ≡ wrong_named w p o
  named_sees p None = refl
  named_sees p (Some z) = ap not (a_sees p z)

  owner_sees : (z : ℤ) → wrong_owner v z ≡ wrong_owner w z
  owner_sees (pos n) = ap not (a_sees an_owner (pos n))
  owner_sees (negsuc zero) = refl
  owner_sees (negsuc (suc n)) = refl

  pub wrong_sees : (c : Option Meant) → on c (wrong_node v) ≡ on c (wrong_node w)
  unfolding wrong_node
  wrong_sees None = refl
  wrong_sees (Some c) = ap₂ ◌||◌ (named_sees (asks_of c).takes (asks_of c).node) (owner_sees (asks_of c).owner)

  -- ---- 4
  is_gone_sees : (z : ℤ) → is_gone v z ≡ is_gone w z
  is_gone_sees (pos n) = refl
  is_gone_sees (negsuc n) = refl

  gone_named_sees : (o : Option ℤ) → on o (is_gone v) ≡ on o (is_gone w)
  gone_named_sees None = refl
  gone_named_sees (Some z) = is_gone_sees z

  pub gone_sees : (c : Option Meant) → on c (gone_node v) ≡ on c (gone_node w)
  unfolding gone_node
  gone_sees None = refl
  gone_sees (Some c) = ap₂ ◌||◌ (ap (λ (b : Bool). (asks_of c).ends && b) (gone_named_sees (asks_of c).node)) (is_gone_sees (asks_of c).owner)

  -- ---- 5
  readable_sees : (ns : List ℕ) → all_readable v ns ≡ all_readable w ns
  unfolding all_readable
  readable_sees [] = refl
  readable_sees (n ∷ ns) = ap₂ ◌&&◌ (a_sees readable (pos n)) (readable_sees ns)

  legal_sees : (o : Option Tree) → on o (λ t. all_readable v (names t)) ≡ on o (λ t. all_readable w (names t))
  legal_sees None = refl
  legal_sees (Some t) = readable_sees (names t)

  illegal_sees : (o : Option (List ℤ)) → illegal v o ≡ illegal w o
  illegal_sees None = refl
  illegal_sees (Some cs) = ap not (legal_sees (tree_of cs))

  pub bad_sees : (c : Option Meant) → on c (bad_formula v) ≡ on c (bad_formula w)
  unfolding bad_formula
  bad_sees None = refl
  bad_sees (Some c) = illegal_sees (asks_of c).cells

  -- ---- 6
  over_sees : (k : Option Kind) (t : Tree) (o : Option ℕ) → over v k t o ≡ over w k t o
  over_sees None t o = refl
  over_sees (Some k) t o = refl

  pub high_sees : (c : Option Meant) → on c (too_high v) ≡ on c (too_high w)
  unfolding too_high
  high_sees None = refl
  high_sees (Some c) = over_sees (asks_of c).makes (tree_in (asks_of c).cells) (owner_of (asks_of c).owner)

  -- ---- 7
  full_sees : (k : Option Kind) (t : Tree) (o : Option ℕ) → full v k t o ≡ full (sight_in nodes links cells 0) k t o
  full_sees None t o = refl
  full_sees (Some k) t o = refl

  pub room_sees : (c : Option Meant) → on c (no_room v) ≡ on c (no_room (sight_in nodes links cells 0))
  unfolding no_room
  room_sees None = refl
  room_sees (Some c) = full_sees (asks_of c).makes (tree_in (asks_of c).cells) (owner_of (asks_of c).owner)

  -- ---- 8
  pub depth_sees : (c : Option Meant) → on c (wrong_depth v) ≡ on c (wrong_depth w)
  unfolding wrong_depth
  depth_sees None = refl
  depth_sees (Some c) = refl

  -- ---- 9
  wanted_sees : (c : Meant) → (asks_of c).rows v ≡ (asks_of c).rows (sight_in nodes [] [] rows)
  unfolding asks_of
  wanted_sees (make_signal k) = refl
  wanted_sees (make_computed cs) = refl
  wanted_sees (make_effect o cs) = refl
  wanted_sees (make_scope o) = refl
  wanted_sees (set_to n k) = refl
  wanted_sees (add_to n k) = refl
  wanted_sees (read_of n) = refl
  wanted_sees (dispose_of n) = refl
  wanted_sees batch_start = refl
  wanted_sees batch_end = refl

  pub rows_see : (c : Option Meant) → on c (few_rows v) ≡ on c (few_rows (sight_in nodes [] [] rows))
  unfolding few_rows
  rows_see None = refl
  rows_see (Some c) = ap (ltb rows) (wanted_sees c)
