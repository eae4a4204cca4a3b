-- A formula in the cells is the tree that `meaning` finds in them: legal alike, of the same size, names and height. Assumes nothing.
use Rattle.std.specs.Prelude.{Option, None, Some, unwrap_or}
use mathlib.Core.Path.{◌≡◌, refl, sym, ap, ap₂, ◌∙◌, subst}
use mathlib.Core.Bool.{Bool, true, false, ◌&&◌}
use mathlib.Core.List.{List, [], ◌∷◌}
use Prim.Native.Nat.{ℕ, suc, ◌*◌, ◌/◌, max}
use native.Mathlib.Omega.{arith}
use lib.Dec.{T, eqb, ltb}
use lib.IntN.{ℤ, pos}
use lib.ListN.{length, get_or}
use borrow.Author.Tests.{not-false}
use Rattle.primitive.specs.Words.{COUNT, KIND, LEVEL, SIGNAL, COMPUTED, EFFECT, node}
use Rattle.trees.specs.Trees.{Tree, constant, written, size, names}
use Rattle.trees.specs.Legal.{read_kind, readable_in, AllReadable, legal_in}
use Rattle.trees.specs.Names.{all_named, read_cells, tallest, tallest_in, height_in}
use Rattle.trees.proofs.Written.{length_written}
use Rattle.trees.proofs.Ends.{all_named-written}
use Rattle.trees.proofs.Exact.{legal_sound, legal_complete}
use Rattle.meaning.specs.State.{signal, computed, effect, scope, readable}
use Rattle.meaning.specs.Words.{tree_of, formula_of}
use Rattle.meaning.specs.Engine.{tallest as tallestOf, height_of}
use Rattle.meaning.specs.Refusals.{on, is_a, all_readable, legal_cells}
use Rattle.meaning.proofs.Formulas.{tree_exact}
use Rattle.refusing.specs.Sight.{either, kind_of, nodes_alone}
use Rattle.refusing.specs.Asked.{illegal}

-- ---- Booleans
f≢t : {C : Type 0} → false ≡ true → C
f≢t e = absurd (subst T (sym e) tt)

both : (a b : Bool) → a && b ≡ true → (a ≡ true) × (b ≡ true)
both true b e = (refl, e)
both false b e = f≢t e

same_truth : (a b : Bool) → (a ≡ true → b ≡ true) → (b ≡ true → a ≡ true) → a ≡ b
same_truth true b f g = sym (f refl)
same_truth false true f g = g refl
same_truth false false f g = refl

-- ---- what can be read
pub readable_kind : (w : ℕ) → readable (kind_of w) ≡ read_kind w
unfolding kind_of read_kind
readable_kind w = go (eqb w SIGNAL) (eqb w COMPUTED) (eqb w EFFECT)
  where
    go : (a b c : Bool) → readable (either a signal (either b computed (either c effect scope))) ≡ elim a [ true ↦ true | false ↦ b ]
    go true b c = refl
    go false true c = refl
    go false false true = refl
    go false false false = refl

module _ (nodes : List ℕ) where
  a_readable : (n : ℕ) → is_a (nodes_alone nodes) readable (pos n) ≡ readable_in nodes n
  unfolding is_a readable_in
  a_readable n = go (ltb n (get_or nodes COUNT 0))
    where
      go : (b : Bool) → ◌≡◌ {A = Bool} (elim b [ true ↦ readable (kind_of (node nodes n KIND)) | false ↦ false ]) (elim b [ true ↦ read_kind (node nodes n KIND) | false ↦ false ])
      go true = readable_kind (node nodes n KIND)
      go false = refl

  all_known : (ns : List ℕ) → all_readable (nodes_alone nodes) ns ≡ true → AllReadable nodes ns
  unfolding all_readable
  all_known [] e = tt
  all_known (n ∷ ns) e =
      let p = both (is_a (nodes_alone nodes) readable (pos n)) (all_readable (nodes_alone nodes) ns) e in
      (sym (a_readable n) ∙ p.0, all_known ns p.1)

  known_all : (ns : List ℕ) → AllReadable nodes ns → all_readable (nodes_alone nodes) ns ≡ true
  unfolding all_readable
  known_all [] h = refl
  known_all (n ∷ ns) h = ap₂ ◌&&◌ (a_readable n ∙ h.0) (known_all ns h.1)

  -- ---- the code's test is that of `meaning`
  abbrev legal_tree : Option Tree → Bool
  legal_tree o = on o (λ t. all_readable (nodes_alone nodes) (names t))

  pub legal_same : (cs : List ℤ) → legal_in nodes cs ≡ legal_cells (nodes_alone nodes) cs
  legal_same cs = same_truth (legal_in nodes cs) (legal_cells (nodes_alone nodes) cs) there (back (tree_of cs) refl)
    where
      there : legal_in nodes cs ≡ true → legal_cells (nodes_alone nodes) cs ≡ true
      there e =
          let l = legal_sound nodes cs e in
          let f = l.1 in
          let t : tree_of cs ≡ Some l.0 = (tree_exact cs l.0).1 (record { spelt = f.spelt; few = f.few; shallow = f.shallow }) in
          ap legal_tree t ∙ known_all (names l.0) f.known

      back : (o : Option Tree) → tree_of cs ≡ o → legal_tree o ≡ true → legal_in nodes cs ≡ true
      back None e h = f≢t h
      back (Some t) e h =
          let w = (tree_exact cs t).0 e in
          legal_complete nodes cs (t, record { spelt = w.spelt; few = w.few; shallow = w.shallow; known = all_known (names t) h })

  -- ---- the tree of a legal formula
  module _ (cs : List ℤ) (legal : illegal (nodes_alone nodes) (Some cs) ≡ false) where
    found : (t : Tree) × (tree_of cs ≡ Some t)
    found = go (tree_of cs) refl (not-false (legal_cells (nodes_alone nodes) cs) legal)
      where
        go : (o : Option Tree) → tree_of cs ≡ o → legal_tree o ≡ true → (t : Tree) × (tree_of cs ≡ Some t)
        go None e h = f≢t h
        go (Some t) e h = (t, e)

    spelt : cs ≡ written (formula_of cs)
    spelt = ((tree_exact cs found.0).0 found.1).spelt ∙ ap (λ (o : Option Tree). written (unwrap_or o (constant (pos 0)))) (sym found.1)

    pub tree_names : names (formula_of cs) ≡ all_named cs
    tree_names = sym (all_named-written (formula_of cs)) ∙ ap all_named (sym spelt)

    pub tree_size : size (formula_of cs) ≡ length cs / 2
    tree_size = let n : length cs ≡ size (formula_of cs) * 2 = ap length spelt ∙ length_written (formula_of cs) in omega arith

    pub tree_reads : length (names (formula_of cs)) ≡ read_cells cs
    unfolding read_cells
    tree_reads = ap length tree_names

    tallest_same : (ns : List ℕ) → tallest nodes ns ≡ tallestOf (λ n. node nodes n LEVEL) ns
    unfolding tallest tallestOf
    tallest_same [] = refl
    tallest_same (n ∷ ns) = ap (max (node nodes n LEVEL)) (tallest_same ns)

    pub tree_height : height_in nodes cs ≡ height_of (λ n. node nodes n LEVEL) (formula_of cs)
    unfolding height_in tallest_in
    tree_height = ap suc (tallest_same (all_named cs) ∙ ap (tallestOf (λ n. node nodes n LEVEL)) (sym tree_names))
