-- Cells taken apart: tree_of finds exactly the trees within the limits, written out in prefix order. Assumes nothing.
use Rattle.std.specs.Prelude.{None, Some}
use mathlib.Core.Path.{◌≡◌, refl, sym, ap, ap₂, ◌∙◌, subst}
use mathlib.Core.Logic.{◌↔◌}
use mathlib.Core.Bool.{Bool, true, false}
use mathlib.Core.List.{List, [], ◌∷◌, ◌++◌, append_assoc, append-nil}
use Prim.Native.Nat.{ℕ, zero, suc, ◌*◌, ◌/◌, ◌≤◌, max}
use native.Mathlib.Omega.{arith}
use lib.Dec.{leb}
use lib.IntN.{ℤ, pos}
use lib.ListN.{length}
use borrow.Author.Tests.{leb-true, le-leb}
use Rattle.trees.specs.declared.cells.Op.{Op}
use Rattle.trees.specs.declared.cells.Op.TheVariants.{Sum, Difference, Minimum, Maximum, Less}
use Rattle.trees.specs.declared.cells.Cell.{Cell}
use Rattle.trees.specs.declared.cells.Cell.TheVariants.{Constant, Read, Two, Choose, Bad}
use Rattle.trees.specs.Cells.{cell_of, codes, read_of, bare_of}
use Rattle.trees.specs.Trees.{Tree, constant, read, two, choose, code_of, written, size, nesting}
use Rattle.trees.specs.Legal.{most_cells, most_nesting}
use Rattle.trees.proofs.Written.{WrittenAs, cell_written, length_written, regroup}
use Rattle.meaning.specs.Words.{word, no_word, Part, after, grown, parse, tree_of}
use Rattle.meaning.proofs.Laws.{none_some, same_some}

-- ---- what is written is found
cell_two : (o : Op) → cell_of (pos (code_of o)) (pos 0) ≡ Two o
unfolding cell_of codes bare_of
cell_two Sum = refl
cell_two Difference = refl
cell_two Minimum = refl
cell_two Maximum = refl
cell_two Less = refl

pub parse_written : (t : Tree) (k : ℕ) (rest : List ℤ) → nesting t ≤ k → parse k (written t ++ rest) ≡ Some (t, rest)
unfolding parse word grown after cell_of codes read_of bare_of written nesting
parse_written (constant c) zero rest h = absurd (omega arith)
parse_written (constant c) (suc k) rest h = refl
parse_written (read n) zero rest h = absurd (omega arith)
parse_written (read n) (suc k) rest h = refl
parse_written (two o a b) zero rest h = absurd (omega arith)
parse_written (two o a b) (suc k) rest h =
    let p = parse_written a k (written b ++ rest) (omega arith) in
    let q = parse_written b k rest (omega arith) in
    ap (λ (c : Cell). grown (parse k) c ((written a ++ written b) ++ rest)) (cell_two o)
    ∙ ap (λ (r : Part). after r (λ x y. after (parse k y) (λ z w. Some (two o x z, w)))) (ap (parse k) (append_assoc (written a) (written b) rest) ∙ p)
    ∙ ap (λ (r : Part). after r (λ z w. Some (two o a z, w))) q
parse_written (choose c a b) zero rest h = absurd (omega arith)
parse_written (choose c a b) (suc k) rest h =
    let o = parse_written c k (written a ++ (written b ++ rest)) (omega arith) in
    let p = parse_written a k (written b ++ rest) (omega arith) in
    let q = parse_written b k rest (omega arith) in
    ap (λ (r : Part). after r (λ x y. after (parse k y) (λ z w. after (parse k w) (λ v u. Some (choose x z v, u))))) (ap (parse k) (regroup c a b rest) ∙ o)
    ∙ ap (λ (r : Part). after r (λ z w. after (parse k w) (λ v u. Some (choose c z v, u)))) p
    ∙ ap (λ (r : Part). after r (λ v u. Some (choose c a v, u))) q

-- ---- what is found is written
after_some : (r : Part) (f : Tree → List ℤ → Part) (p : Tree × List ℤ) → after r f ≡ Some p → (x : Tree × List ℤ) × (r ≡ Some x) × (f x.0 x.1 ≡ Some p)
unfolding after
after_some None f p e = none_some e
after_some (Some x) f p e = (x, refl, e)

abbrev Spells : ℕ → List ℤ → Tree × List ℤ → Type 0
Spells k ws p = (ws ≡ written p.0 ++ p.1) × (nesting p.0 ≤ k)

grown_spells : (k : ℕ) → ((ws : List ℤ) (p : Tree × List ℤ) → parse k ws ≡ Some p → Spells k ws p)
    → (c o : ℤ) (x : Cell) → WrittenAs c o x → (ws : List ℤ) (p : Tree × List ℤ) → grown (parse k) x ws ≡ Some p → Spells (suc k) (c ∷ o ∷ ws) p
unfolding grown written nesting
grown_spells k ih c o (Constant v) w ws p e =
    let z : suc zero ≤ suc k = omega arith in
    subst (Spells (suc k) (c ∷ o ∷ ws)) (same_some e) (ap₂ (λ (x y : ℤ). x ∷ y ∷ ws) w.0 w.1, z)
grown_spells k ih c o (Read n) w ws p e =
    let z : suc zero ≤ suc k = omega arith in
    subst (Spells (suc k) (c ∷ o ∷ ws)) (same_some e) (ap₂ (λ (x y : ℤ). x ∷ y ∷ ws) w.0 w.1, z)
grown_spells k ih c o (Two op) w ws p e =
    let x = after_some (parse k ws) (λ a r. after (parse k r) (λ b q. Some (two op a b, q))) p e in
    let y = after_some (parse k x.0.1) (λ b q. Some (two op x.0.0 b, q)) p x.2 in
    let a = ih ws x.0 x.1 in
    let b = ih x.0.1 y.0 y.1 in
    let la = a.1 in
    let lb = b.1 in
    let low : suc (max (nesting x.0.0) (nesting y.0.0)) ≤ suc k = omega arith in
    subst (Spells (suc k) (c ∷ o ∷ ws)) (same_some y.2) (
      ap₂ (λ (x y : ℤ). x ∷ y ∷ ws) w.0 w.1
          ∙ ap (λ (r : List ℤ). pos (code_of op) ∷ pos 0 ∷ r)
          (a.0 ∙ ap (λ (r : List ℤ). written x.0.0 ++ r) b.0 ∙ sym (append_assoc (written x.0.0) (written y.0.0) y.0.1)),
      low,
    )
grown_spells k ih c o Choose w ws p e =
    let x = after_some (parse k ws) (λ c r. after (parse k r) (λ a q. after (parse k q) (λ b z. Some (choose c a b, z)))) p e in
    let y = after_some (parse k x.0.1) (λ a q. after (parse k q) (λ b z. Some (choose x.0.0 a b, z))) p x.2 in
    let v = after_some (parse k y.0.1) (λ b z. Some (choose x.0.0 y.0.0 b, z)) p y.2 in
    let f = ih ws x.0 x.1 in
    let a = ih x.0.1 y.0 y.1 in
    let b = ih y.0.1 v.0 v.1 in
    let lf = f.1 in
    let la = a.1 in
    let lb = b.1 in
    let low : suc (max (nesting x.0.0) (max (nesting y.0.0) (nesting v.0.0))) ≤ suc k = omega arith in
    subst (Spells (suc k) (c ∷ o ∷ ws)) (same_some v.2) (
      ap₂ (λ (x y : ℤ). x ∷ y ∷ ws) w.0 w.1
          ∙ ap (λ (r : List ℤ). pos 8 ∷ pos 0 ∷ r)
          (f.0 ∙ ap (λ (r : List ℤ). written x.0.0 ++ r) (a.0 ∙ ap (λ (r : List ℤ). written y.0.0 ++ r) b.0)
          ∙ sym (regroup x.0.0 y.0.0 v.0.0 v.0.1)),
      low,
    )
grown_spells k ih c o Bad w ws p e = none_some e

pub parse_spells : (k : ℕ) (ws : List ℤ) (p : Tree × List ℤ) → parse k ws ≡ Some p → Spells k ws p
unfolding parse word
parse_spells zero ws p e = none_some e
parse_spells (suc k) [] p e = none_some e
parse_spells (suc k) (c ∷ []) p e = none_some e
parse_spells (suc k) (c ∷ o ∷ ws) p e = grown_spells k (parse_spells k) c o (cell_of c o) (cell_written c o) ws p e

-- ---- both
-- the words are the tree t written out, within the limits
pub record WrittenOut (ws : List ℤ) (t : Tree) : Type 0 where
  pub spelt : ws ≡ written t
  pub few : size t ≤ most_cells
  pub shallow : nesting t ≤ most_nesting

alone_some : (r : Part) (t : Tree) → after r no_word ≡ Some t → r ≡ Some (t, [])
unfolding after no_word
alone_some None t e = none_some e
alone_some (Some (u, [])) t e = ap (λ (x : Tree). Some (x, [])) (same_some e)
alone_some (Some (u, w ∷ ws)) t e = none_some e

pub tree_exact : (ws : List ℤ) (t : Tree) → (tree_of ws ≡ Some t) ↔ WrittenOut ws t
unfolding tree_of after no_word
tree_exact ws t = (go (leb (length ws / 2) most_cells) refl, back)
  where
    go : (b : Bool) → leb (length ws / 2) most_cells ≡ b → elim b [ true ↦ after (parse most_nesting ws) no_word | false ↦ None ] ≡ Some t → WrittenOut ws t
    go true l e =
        let p = parse_spells most_nesting ws (t, []) (alone_some (parse most_nesting ws) t e) in
        let q : ws ≡ written t = p.0 ∙ append-nil (written t) in
        let n : length ws ≡ size t * 2 = ap length q ∙ length_written t in
        let few : length ws / 2 ≤ most_cells = leb-true (length ws / 2) most_cells l in
        record { spelt = q; few = omega arith; shallow = p.1 }
    go false l e = none_some e

    back : WrittenOut ws t → tree_of ws ≡ Some t
    back w =
        let n : length ws ≡ size t * 2 = ap length w.spelt ∙ length_written t in
        let few = w.few in
        let p : parse most_nesting ws ≡ Some (t, []) =
        ap (parse most_nesting) (w.spelt ∙ sym (append-nil (written t))) ∙ parse_written t most_nesting [] w.shallow in
        rw (le-leb (length ws / 2) most_cells (omega arith), tree_of, p)
