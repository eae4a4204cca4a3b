-- The one pass with stamps passes exactly where every node's read links go to nodes that its read cells name. Assumes nothing.
use mathlib.Core.Path.{◌≡◌, refl, sym, ◌∙◌, subst}
use mathlib.Core.Bool.{Bool, true, false}
use mathlib.Core.List.{List}
use Prim.Native.Nat.{ℕ, zero, suc, ◌+◌, ◌<◌, ◌≤◌}
use native.Mathlib.Omega.{arith}
use lib.Dec.{eqb}
use lib.IntN.{ℤ}
use lib.ListN.{get_or, length}
use borrow.Author.Tests.{eq-eqb, eqb-true, eqb-false}
use Rattle.primitive.specs.Rows.{field}
use Rattle.trees.specs.Legal.{readable_in}
use Rattle.lists.specs.Sum.{All, occ}
use Rattle.lists.specs.Each.{pick}
use Rattle.lists.proofs.EachLaws.{cond_true, true_cond, all_map, all_zip, along_sound, along_complete}
use Rattle.lists.proofs.Stamps.{stamped_sound, stamped_complete, stamp_le, length_stamp}
use Rattle.counting.specs.Counts.{counted_in, most_nodes, slot_room}
use Rattle.resting.specs.Blank.{blank}
use Rattle.resting.specs.Named.{names_of, stamp_node, stamped, links_stamped, named_from, named_in}
use Rattle.resting.specs.AtRest.{deps_of, Named}
use Rattle.resting.proofs.QueuedExact.{blank_length, blank_clear}

module _ (t s : List ℕ) (v d : ℕ) where
  stamped_yes : stamped t s v d ≡ true → readable_in t d ≡ true → get_or s d 0 ≡ v
  unfolding stamped
  stamped_yes e q = eqb-true (get_or s d 0) v (rw q at e)

  yes_stamped : (readable_in t d ≡ true → get_or s d 0 ≡ v) → stamped t s v d ≡ true
  unfolding stamped
  yes_stamped f = at (readable_in t d) refl
    where
      at : (b : Bool) → readable_in t d ≡ b → pick (readable_in t d) (eqb (get_or s d 0) v) true ≡ true
      at true e = rw e (eq-eqb _ _ (f e))
      at false e = rw e

module _ (t l : List ℕ) (c : List ℤ) where
  older : (s : List ℕ) (n : ℕ) → ((y : ℕ) → get_or s y 0 ≤ n) → (y : ℕ) → get_or (stamp_node t c s n (suc n)) y 0 ≤ suc n
  unfolding stamp_node
  older s n old y = stamp_le (suc n) 0 s (names_of t c n) (λ z. omega (arith, old z)) y

  -- one node
  one_sound : (s : List ℕ) (n : ℕ) → ((y : ℕ) → get_or s y 0 ≤ n) → links_stamped t l (stamp_node t c s n (suc n)) (suc n) (slot_room l) (field 16 t n 3) ≡ true → Named t l c n
  unfolding links_stamped stamp_node
  one_sound s n old e =
      all_map (λ (x : ℕ). stamped t (stamp_node t c s n (suc n)) (suc n) (field 8 l x 1) ≡ true) (λ (x : ℕ). readable_in t (field 8 l x 1) ≡ true → 1 ≤ occ (field 8 l x 1) (names_of t c n)) (deps_of t l n)
      (λ x q h. stamped_sound (suc n) (field 8 l x 1) s (names_of t c n) (λ o. omega (arith, old (field 8 l x 1), o)) (stamped_yes t (stamp_node t c s n (suc n)) (suc n) (field 8 l x 1) q h))
      (along_sound (λ (x : ℕ). field 8 l x 6) (λ (x : ℕ). stamped t (stamp_node t c s n (suc n)) (suc n) (field 8 l x 1)) (slot_room l) (field 16 t n 3) e)

  one_complete : (s : List ℕ) (n : ℕ) → All (λ (x : ℕ). field 8 l x 1 < length s) (deps_of t l n) → Named t l c n → links_stamped t l (stamp_node t c s n (suc n)) (suc n) (slot_room l) (field 16 t n 3) ≡ true
  unfolding links_stamped stamp_node
  one_complete s n low a =
      along_complete (λ (x : ℕ). field 8 l x 6) (λ (x : ℕ). stamped t (stamp_node t c s n (suc n)) (suc n) (field 8 l x 1)) (slot_room l) (field 16 t n 3)
      (all_zip (λ (x : ℕ). field 8 l x 1 < length s) (λ (x : ℕ). readable_in t (field 8 l x 1) ≡ true → 1 ≤ occ (field 8 l x 1) (names_of t c n)) (λ (x : ℕ). stamped t (stamp_node t c s n (suc n)) (suc n) (field 8 l x 1) ≡ true) (deps_of t l n)
      (λ x i f. yes_stamped t (stamp_node t c s n (suc n)) (suc n) (field 8 l x 1) (λ h. stamped_complete (suc n) (field 8 l x 1) s (names_of t c n) i (f h)))
      low a)

  length_node : (s : List ℕ) (n : ℕ) → length (stamp_node t c s n (suc n)) ≡ length s
  unfolding stamp_node
  length_node s n = length_stamp s (suc n) (names_of t c n)

  -- all of them, from the first on, with stamps that are never cleared
  from_sound : (k n : ℕ) (s : List ℕ) → ((y : ℕ) → get_or s y 0 ≤ n) → named_from t l c s n k ≡ true → (j : ℕ) → n ≤ j → j < n + k → Named t l c j
  unfolding named_from
  from_sound zero n s old e j a b = absurd (omega arith)
  from_sound (suc k) n s old e j a b =
      let q = cond_true (links_stamped t l (stamp_node t c s n (suc n)) (suc n) (slot_room l) (field 16 t n 3)) _ e in
      at (one_sound s n old q.0) (from_sound k (suc n) (stamp_node t c s n (suc n)) (older s n old) q.1 j) (eqb j n) refl
    where
      at : Named t l c n → (suc n ≤ j → j < suc n + k → Named t l c j) → (b : Bool) → eqb j n ≡ b → Named t l c j
      at here rest true q = subst (λ (i : ℕ). Named t l c i) (sym (eqb-true j n q)) here
      at here rest false q = let f : j ≡ n → ⊥ = eqb-false j n q in rest (omega arith) (omega arith)

  from_complete : (m k n : ℕ) (s : List ℕ) → length s ≡ m → ((j : ℕ) → j < n + k → All (λ (x : ℕ). field 8 l x 1 < m) (deps_of t l j)) → ((j : ℕ) → j < n + k → Named t l c j) → named_from t l c s n k ≡ true
  unfolding named_from
  from_complete m zero n s len low h = refl
  from_complete m (suc k) n s len low h =
      true_cond (links_stamped t l (stamp_node t c s n (suc n)) (suc n) (slot_room l) (field 16 t n 3)) _
      (one_complete s n (subst (λ (i : ℕ). All (λ (x : ℕ). field 8 l x 1 < i) (deps_of t l n)) (sym len) (low n (omega arith))) (h n (omega arith)))
      (from_complete m k (suc n) (stamp_node t c s n (suc n)) (length_node s n ∙ len) (λ j b. low j (omega arith)) (λ j b. h j (omega arith)))

  pub named_sound : named_in t l c ≡ true → (n : ℕ) → n < counted_in t → Named t l c n
  unfolding named_in
  named_sound e n h = from_sound (counted_in t) 0 blank (λ y. omega (arith, blank_clear y)) e n (omega arith) (omega arith)

  -- the links go to nodes for which the stamps have a word
  pub named_complete : ((n : ℕ) → n < counted_in t → All (λ (x : ℕ). field 8 l x 1 < most_nodes) (deps_of t l n)) → ((n : ℕ) → n < counted_in t → Named t l c n) → named_in t l c ≡ true
  unfolding named_in
  named_complete low h = from_complete most_nodes (counted_in t) 0 blank blank_length (λ j b. low j (omega arith)) (λ j b. h j (omega arith))
