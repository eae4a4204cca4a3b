-- The ways to look at the head of a list, one law each; and a command is inside its list. Assumes nothing.
use Rattle.std.specs.Prelude.{Option, Some, None}
use mathlib.Core.Path.{◌≡◌, refl, sym, ap, ◌∙◌}
use mathlib.Core.Bool.{Bool, true, false}
use mathlib.Core.List.{List, [], ◌∷◌}
use Prim.Native.Nat.{ℕ, suc, ◌≤◌, ◌<◌}
use native.Mathlib.Omega.{arith}
use lib.Dec.{leb}
use lib.IntN.{ℤ, pos}
use lib.ListN.{length, get_or}
use borrow.Author.Tests.{le-leb, lt-leb, leb-true}
use Rattle.trees.specs.Cells.{natural_of}
use Rattle.sequencing.specs.declared.list.Next.{Next}
use Rattle.sequencing.specs.declared.list.Next.TheVariants.{Over, Bad, Words}
use Rattle.sequencing.specs.Lists.{words_of, next_in}

pub none_left : (list : List ℤ) → length list ≡ 0 → Over ≡ next_in list
unfolding next_in
none_left [] e = refl
none_left (k ∷ rest) e = absurd (omega arith)

module _ (list : List ℤ) {z : ℤ} {m : Option ℕ} (read : z ≡ get_or list 0 (pos 0)) (told : m ≡ natural_of z) (some : length list ≡ 0 → ⊥) where
  by_number : (n : Option ℕ) → m ≡ n → (q : Next) → ((left : ℕ) → length list ≡ suc left → q ≡ words_of n left) → q ≡ next_in list
  unfolding next_in
  by_number n e q h = go list read some h
    where
      go : (xs : List ℤ) → z ≡ get_or xs 0 (pos 0) → (length xs ≡ 0 → ⊥) → ((left : ℕ) → length xs ≡ suc left → q ≡ words_of n left) → q ≡ next_in xs
      go [] r f h = absurd (f refl)
      go (x ∷ rest) r f h = h (length rest) refl ∙ ap (λ (i : Option ℕ). words_of i (length rest)) (sym e ∙ told ∙ ap natural_of r)

  pub is_below : m ≡ None → Bad ≡ next_in list
  unfolding words_of
  is_below e = by_number None e Bad (λ left l. refl)

  pub is_inside : (k : ℕ) → m ≡ Some k → k < length list → Words k ≡ next_in list
  unfolding words_of
  is_inside k e h = by_number (Some k) e (Words k) (λ left l. let i : k ≤ left = omega arith in rw (le-leb _ _ i, words_of))

  pub is_beyond : (k : ℕ) → m ≡ Some k → length list ≤ k → Bad ≡ next_in list
  unfolding words_of
  is_beyond k e h = by_number (Some k) e Bad (λ left l. let i : left < k = omega arith in rw (lt-leb _ _ i, words_of))

-- the words of a command are inside its list
pub words_inside : (list : List ℤ) (k : ℕ) → next_in list ≡ Words k → k < length list
unfolding next_in words_of
words_inside [] k e = let z : ◌≡◌ {A = ℕ} 0 1 = cc in absurd (omega arith)
words_inside (x ∷ rest) k e = let h = go (natural_of x) e in omega arith
  where
    within : (j : ℕ) (b : Bool) → leb j (length rest) ≡ b → elim b [ true ↦ Words j | false ↦ Bad ] ≡ Words k → k ≤ length rest
    within j true l e = let i = leb-true j (length rest) l in let q : j ≡ k = cc in omega (arith, i, q)
    within j false l e = let z : ◌≡◌ {A = ℕ} 0 1 = cc in absurd (omega arith)

    go : (m : Option ℕ) → words_of m (length rest) ≡ Words k → k ≤ length rest
    go None e = let z : ◌≡◌ {A = ℕ} 0 1 = cc in absurd (omega arith)
    go (Some j) e = within j (leb j (length rest)) refl e

-- the list is over only where no word is left
pub over_empty : (list : List ℤ) → next_in list ≡ Over → length list ≡ 0
unfolding next_in words_of
over_empty [] e = refl
over_empty (x ∷ rest) e = go (natural_of x) e
  where
    within : (j : ℕ) (b : Bool) → elim b [ true ↦ Words j | false ↦ Bad ] ≡ Over → length (x ∷ rest) ≡ 0
    within j true e = let z : ◌≡◌ {A = ℕ} 0 1 = cc in absurd (omega arith)
    within j false e = let z : ◌≡◌ {A = ℕ} 0 1 = cc in absurd (omega arith)

    go : (m : Option ℕ) → words_of m (length rest) ≡ Over → length (x ∷ rest) ≡ 0
    go None e = let z : ◌≡◌ {A = ℕ} 0 1 = cc in absurd (omega arith)
    go (Some j) e = within j (leb j (length rest)) e
