-- Evaluation by cells is evaluation of the tree that they write out. Assumes nothing.
use mathlib.Core.Path.{◌≡◌, refl, ap, ap₂, ◌∙◌}
use mathlib.Core.Bool.{Bool, true, false}
use mathlib.Core.List.{List, [], ◌∷◌, ◌++◌}
use Prim.Native.Nat.{ℕ, zero, suc, ◌+◌, ◌-◌, ◌/◌, ◌≤◌}
use native.Mathlib.Omega.{arith}
use lib.IntN.{ℤ}
use lib.ListN.{length}
use Rattle.values.specs.Values.{is_zero}
use Rattle.trees.specs.Cells.{arity_of, end_of}
use Rattle.trees.specs.Trees.{Tree, constant, read, two, choose, size, nesting, apply, chosen, worth, reads}
use Rattle.trees.proofs.Ends.{paid}
use Rattle.trees.proofs.Laid.{Laid}
use Rattle.trees.proofs.ScanLaws.{arity_inside, count_done}
use Rattle.values.specs.declared.Value.{Value}
use Rattle.reading.specs.Tables.{State, Got, Evaluated, evaluated}
use Rattle.reading.specs.Ring.{Ring, read_by, two_by, choose_by, cell_by, evaluated_by}
use Rattle.reading.specs.Works.{worked_by, read_all}

module _ (ws : List ℤ) where
  -- a tree lies inside the list
  pub laid_inside : (t : Tree) (i : ℕ) → Laid ws t i → i + size t ≤ length ws / 2
  unfolding size arity_of
  laid_inside (constant k) i l = let h = (arity_inside ws i 0 (ap arity_of l)).0 in omega arith
  laid_inside (read m) i l = let h = (arity_inside ws i 0 (ap arity_of l)).0 in omega arith
  laid_inside (two o a b) i l = let h = laid_inside b (suc i + size a) l.2 in omega arith
  laid_inside (choose c a b) i l = let h = laid_inside b (suc i + size c + size a) l.3 in omega arith

  -- and ends where its cells end
  pub end_laid : (t : Tree) (i : ℕ) → Laid ws t i → end_of ws i ≡ i + size t
  unfolding end_of
  end_laid t i l =
      let h = laid_inside t i l in
      let n : length ws / 2 - i ≡ size t + (length ws / 2 - i - size t) = omega arith in
      paid ws t i (length ws / 2 - i) (length ws / 2 - i - size t) 0 n l ∙ count_done ws (length ws / 2 - i - size t) 0 (i + size t) (omega arith)

  -- what the evaluation of a tree at cell i leaves
  abbrev at : Got → ℕ → Evaluated
  at g j = evaluated g.value j g.after

  -- the two branches of a choose whose condition is x: cells j to ja, and ja to jb
  branches : (e : State → ℕ → Evaluated) (s : State) (i j ja jb : ℕ) (x ya yb : Got) → e s i ≡ at x j → end_of ws j ≡ ja → end_of ws ja ≡ jb → e x.after j ≡ at ya ja
      → e x.after ja ≡ at yb jb → choose_by ws e s i ≡ at (elim (is_zero x.value) [ true ↦ yb | false ↦ ya ]) jb
  unfolding choose_by
  branches e s i j ja jb x ya yb p ea eb qa qb = go (is_zero x.value) refl
    where
      go : (b : Bool) → is_zero x.value ≡ b → choose_by ws e s i ≡ at (elim b [ true ↦ yb | false ↦ ya ]) jb
      go true z = rw (p, z, choose_by, p, ea, qb)
      go false z = rw (p, z, choose_by, p, qa, eb)

  -- the cells that follow are not looked at: where the tree stands, and nests no deeper than d, is all that matters
  pub evaluated_tree : (r : Ring) (n : ℕ) (t : Tree) (d i : ℕ) (s : State) → Laid ws t i → nesting t ≤ d → evaluated_by ws r n d s i ≡ at (worked_by r n t s) (i + size t)
  unfolding evaluated_by cell_by two_by choose_by worked_by size nesting
  evaluated_tree r n (constant k) zero i s l h = absurd (omega arith)
  evaluated_tree r n (constant k) (suc d) i s l h = let e : suc i ≡ i + 1 = omega arith in rw (l, e)
  evaluated_tree r n (read m) zero i s l h = absurd (omega arith)
  evaluated_tree r n (read m) (suc d) i s l h = let e : suc i ≡ i + 1 = omega arith in rw (l, e)
  evaluated_tree r n (two o a b) zero i s l h = absurd (omega arith)
  evaluated_tree r n (two o a b) (suc d) i s l h =
      let p = evaluated_tree r n a d (suc i) s l.1 (omega arith) in
      let q = evaluated_tree r n b d (suc i + size a) (worked_by r n a s).after l.2 (omega arith) in
      let e : suc i + size a + size b ≡ i + suc (size a + size b) = omega arith in
      rw (l.0, p, q, e)
  evaluated_tree r n (choose c a b) zero i s l h = absurd (omega arith)
  evaluated_tree r n (choose c a b) (suc d) i s l h =
      let x = worked_by r n c s in
      let j = suc i + size c in
      let p = evaluated_tree r n c d (suc i) s l.1 (omega arith) in
      let qa = evaluated_tree r n a d j x.after l.2 (omega arith) in
      let qb = evaluated_tree r n b d (j + size a) x.after l.3 (omega arith) in
      let e : i + suc (size c + (size a + size b)) ≡ j + size a + size b = omega arith in
      rw (l.0, e) (branches (evaluated_by ws r n d) s (suc i) j (j + size a) (j + size a + size b) x _ _ p (end_laid a j l.2) (end_laid b (j + size a) l.3) qa qb)

  pub next_after_tree : (r : Ring) (n : ℕ) (t : Tree) (d i : ℕ) (s : State) → Laid ws t i → nesting t ≤ d → (evaluated_by ws r n d s i).next ≡ i + size t
  next_after_tree r n t d i s l h = ap (λ (e : Evaluated). e.next) (evaluated_tree r n t d i s l h)

module _ (r : Ring) (n : ℕ) where
  read_all_append : (xs ys : List ℕ) (s : State) → read_all r n ys (read_all r n xs s) ≡ read_all r n (xs ++ ys) s
  unfolding read_all
  read_all_append [] ys s = refl
  read_all_append (m ∷ xs) ys s = read_all_append xs ys (read_by r n s m).after

  -- Where a read of m gives env m in every state that is P, and leaves it P: a tree is worth what `worth` says, and reads what `reads` says, in that order.
  module _ (P : State → Type 0) (env : ℕ → Value) (h : (s : State) (m : ℕ) → P s → ((read_by r n s m).value ≡ env m) × P (read_by r n s m).after) where
    abbrev As : Tree → State → Type 0
    As t s = ((worked_by r n t s).value ≡ worth t env) × ((worked_by r n t s).after ≡ read_all r n (reads t env) s) × P (worked_by r n t s).after

    either_branch : (c a b : Tree) (s : State) (z : Bool) → is_zero (worth c env) ≡ z → As c s → As a (worked_by r n c s).after → As b (worked_by r n c s).after → As (choose c a b) s
    unfolding worked_by worth reads chosen
    either_branch c a b s true e x ya yb =
        let z : is_zero (worked_by r n c s).value ≡ true = ap is_zero x.0 ∙ e in
        rw (z, worked_by, e, chosen) (yb.0, yb.1 ∙ ap (read_all r n (reads b env)) x.1 ∙ read_all_append (reads c env) (reads b env) s, yb.2)
    either_branch c a b s false e x ya yb =
        let z : is_zero (worked_by r n c s).value ≡ false = ap is_zero x.0 ∙ e in
        rw (z, worked_by, e, chosen) (ya.0, ya.1 ∙ ap (read_all r n (reads a env)) x.1 ∙ read_all_append (reads c env) (reads a env) s, ya.2)

    pub worth_of_tree : (t : Tree) (s : State) → P s → As t s
    unfolding worked_by worth reads read_all
    worth_of_tree (constant k) s p = (refl, refl, p)
    worth_of_tree (read m) s p = let g = h s m p in (g.0, refl, g.1)
    worth_of_tree (two o a b) s p =
        let x = worth_of_tree a s p in
        let y = worth_of_tree b (worked_by r n a s).after x.2 in
        (ap₂ (apply o) x.0 y.0, y.1 ∙ ap (read_all r n (reads b env)) x.1 ∙ read_all_append (reads a env) (reads b env) s, y.2)
    worth_of_tree (choose c a b) s p =
        let x = worth_of_tree c s p in
        let u = (worked_by r n c s).after in
        either_branch c a b s (is_zero (worth c env)) refl x (worth_of_tree a u x.2) (worth_of_tree b u x.2)
