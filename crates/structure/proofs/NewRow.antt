-- The words of a new node: its row, field by field, and its cells. Assumes nothing.
use mathlib.Core.Path.{◌≡◌, refl, sym, ap, ◌∙◌, subst}
use mathlib.Core.Bool.{Bool, true, false, ◌&&◌}
use mathlib.Core.List.{List, [], ◌∷◌, ◌++◌}
use Prim.Native.Nat.{ℕ, suc, ◌+◌, ◌*◌, ◌/◌, ◌<◌, ◌≤◌}
use native.Mathlib.Omega.{arith}
use lib.Dec.{eqb}
use lib.IntN.{ℤ}
use lib.ListN.{length, get_or, set, length-set, take, drop, length-append}
use lib.Seq.{get_or-set_same, get_or-set_other, sets, sets-eq, length-sets, length-take-le, take-take, take-add, drop_at, take_at}
use borrow.Author.Tests.{eqb-true, le-leb}
use Rattle.primitive.specs.Rows.{has_field}
use Rattle.primitive.specs.Words.{COUNT, USED, node, set_node, FLAGS, KIND, GONE, DEPS, DEPS-TAIL, SUBS, SUBS-TAIL, START, CELLS, READS, OWNER, LEVEL, QUEUE}
use Rattle.primitive.proofs.RowLaws.{other_record, other_field, length-set_field, header_kept, field_after_header}
use Rattle.trees.specs.Names.{read_cells}
use Rattle.telling.specs.Formulas.{own_cells}
use Rattle.telling.specs.Whole.{used_cells}
use Rattle.primitive.specs.Kinds.{kind_word as word_of}
use Rattle.operating.specs.declared.making.Sort.{Sort}
use Rattle.operating.specs.Making.{set_all, described, laid}
use Rattle.meaning.proofs.Laws.{branch}
use Rattle.structure.proofs.WordLaws.{used_cells_lem}
use Rattle.structure.proofs.Complete.{both}
use Rattle.structure.proofs.Lens.{NodeIn, node_same}

-- ---- a row written field by field
-- field f after these stores, where it was d
abbrev found : List (ℕ × ℕ) → ℕ → ℕ → ℕ
found [] f d = d
found ((g, w) ∷ fs) f d = found fs f (elim (eqb f g) [ true ↦ w | false ↦ d ])

-- a row has them all
abbrev has_all : List (ℕ × ℕ) → Bool
has_all [] = true
has_all ((g, w) ∷ fs) = has_field 16 g && has_all fs

module _ (n : ℕ) where
  all_long : (fs : List (ℕ × ℕ)) (N : List ℕ) → length (set_all N n fs) ≡ length N
  unfolding set_all
  all_long [] N = refl
  all_long ((g, w) ∷ fs) N = all_long fs (set_node N n g w) ∙ length-set_field 16 N n g w

  all_header : (fs : List (ℕ × ℕ)) (N : List ℕ) (i : ℕ) → i < 16 → get_or (set_all N n fs) i 0 ≡ get_or N i 0
  unfolding set_all
  all_header [] N i h = refl
  all_header ((g, w) ∷ fs) N i h = all_header fs (set_node N n g w) i h ∙ header_kept 16 N n g w i h

  all_other : (fs : List (ℕ × ℕ)) (N : List ℕ) (m f : ℕ) → (m ≡ n → ⊥) → node (set_all N n fs) m f ≡ node N m f
  unfolding set_all
  all_other [] N m f h = refl
  all_other ((g, w) ∷ fs) N m f h = all_other fs (set_node N n g w) m f h ∙ other_record 16 N n m g f w h

  one_at : (N : List ℕ) (g w f : ℕ) → has_field 16 g ≡ true → NodeIn N n → node (set_node N n g w) n f ≡ elim (eqb f g) [ true ↦ w | false ↦ node N n f ]
  one_at N g w f q h = branch (λ (z : ℕ). node (set_node N n g w) n f ≡ z) (eqb f g) (λ e. ap (node (set_node N n g w) n) (eqb-true f g e) ∙ node_same N n g w q h) (λ e. other_field 16 N n n g f w e)

  all_at : (fs : List (ℕ × ℕ)) (N : List ℕ) (f : ℕ) → has_all fs ≡ true → NodeIn N n → node (set_all N n fs) n f ≡ found fs f (node N n f)
  unfolding set_all
  all_at [] N f q h = refl
  all_at ((g, w) ∷ fs) N f q h =
      let p = both (has_field 16 g) (has_all fs) q in
      all_at fs (set_node N n g w) f p.1 (subst (λ (z : ℕ). suc n * 16 + 15 < z) (sym (length-set_field 16 N n g w)) h) ∙ ap (found fs f) (one_at N g w f p.0 h)

-- ---- the node table with a new node n
abbrev pub with_row : List ℕ → ℕ → Sort → List ℤ → ℕ → ℕ → List ℕ
with_row N n k ws c u = set (set (described N n k ws) COUNT c) USED u

module _ (N : List ℕ) (n : ℕ) (k : Sort) (ws : List ℤ) (c u : ℕ) (there : NodeIn N n) where
  abbrev M : List ℕ
  M = with_row N n k ws c u

  pub new_long : length M ≡ length N
  unfolding described
  new_long = length-set (set (described N n k ws) COUNT c) USED u ∙ length-set (described N n k ws) COUNT c ∙ all_long n _ N

  pub new_head : (i : ℕ) → i < 16 → (i ≡ COUNT → ⊥) → (i ≡ USED → ⊥) → get_or M i 0 ≡ get_or N i 0
  unfolding described
  new_head i h a b = get_or-set_other (set (described N n k ws) COUNT c) USED i u 0 b ∙ get_or-set_other (described N n k ws) COUNT i c 0 a ∙ all_header n _ N i h

  long_described : length (described N n k ws) ≡ length N
  unfolding described
  long_described = all_long n _ N

  pub new_count : get_or M COUNT 0 ≡ c
  new_count = get_or-set_other (set (described N n k ws) COUNT c) USED COUNT u 0 (λ e. omega arith) ∙ get_or-set_same (described N n k ws) COUNT c 0 (let e = long_described in omega arith)

  pub new_used : get_or M USED 0 ≡ u
  new_used = get_or-set_same (set (described N n k ws) COUNT c) USED u 0 (let e = long_described in let f = length-set (described N n k ws) COUNT c in omega arith)

  row : (m f : ℕ) → node M m f ≡ node (described N n k ws) m f
  row m f = field_after_header 16 (set (described N n k ws) COUNT c) m f u USED (omega arith) ∙ field_after_header 16 (described N n k ws) m f c COUNT (omega arith)

  pub new_other : (m f : ℕ) → (m ≡ n → ⊥) → node M m f ≡ node N m f
  unfolding described
  new_other m f h = row m f ∙ all_other n _ N m f h

  pub new_flags : node M n FLAGS ≡ k.flags.bits
  unfolding described has_field
  new_flags = row n FLAGS ∙ all_at n _ N FLAGS refl there

  pub new_kind : node M n KIND ≡ word_of k.kind
  unfolding described has_field
  new_kind = row n KIND ∙ all_at n _ N KIND refl there

  pub new_gone : node M n GONE ≡ 0
  unfolding described has_field
  new_gone = row n GONE ∙ all_at n _ N GONE refl there

  pub new_deps : node M n DEPS ≡ 0
  unfolding described has_field
  new_deps = row n DEPS ∙ all_at n _ N DEPS refl there

  pub new_deps_tail : node M n DEPS-TAIL ≡ 0
  unfolding described has_field
  new_deps_tail = row n DEPS-TAIL ∙ all_at n _ N DEPS-TAIL refl there

  pub new_subs : node M n SUBS ≡ 0
  unfolding described has_field
  new_subs = row n SUBS ∙ all_at n _ N SUBS refl there

  pub new_subs_tail : node M n SUBS-TAIL ≡ 0
  unfolding described has_field
  new_subs_tail = row n SUBS-TAIL ∙ all_at n _ N SUBS-TAIL refl there

  pub new_start : node M n START ≡ get_or N USED 0
  unfolding described has_field
  new_start = row n START ∙ all_at n _ N START refl there

  pub new_cells : node M n CELLS ≡ length ws / 2
  unfolding described has_field
  new_cells = row n CELLS ∙ all_at n _ N CELLS refl there

  pub new_reads : node M n READS ≡ read_cells ws
  unfolding described has_field
  new_reads = row n READS ∙ all_at n _ N READS refl there

  pub new_owner : node M n OWNER ≡ k.owner
  unfolding described has_field
  new_owner = row n OWNER ∙ all_at n _ N OWNER refl there

  pub new_level : node M n LEVEL ≡ k.level
  unfolding described has_field
  new_level = row n LEVEL ∙ all_at n _ N LEVEL refl there

  pub new_queue : node M n QUEUE ≡ node N n QUEUE
  unfolding described has_field
  new_queue = row n QUEUE ∙ all_at n _ N QUEUE refl there

-- ---- the cells: ws stand at word i, and what was before them stays
laid_sets : (ws C : List ℤ) (i : ℕ) → laid C i ws ≡ sets C i ws
unfolding laid
laid_sets [] C i = refl
laid_sets (w ∷ ws) C i = laid_sets ws (set C i w) (suc i)

module _ (C : List ℤ) (i : ℕ) (ws : List ℤ) (fit : i + length ws ≤ length C) where
  laid_is : laid C i ws ≡ (take i C ++ ws) ++ drop (i + length ws) C
  laid_is = laid_sets ws C i ∙ sets-eq ws C i fit

  pub laid_long : length (laid C i ws) ≡ length C
  laid_long = ap length (laid_sets ws C i) ∙ length-sets C i ws

  front : length (take i C) ≡ i
  front = length-take-le i C (omega arith)

  -- all up to their end
  pub laid_front : take (i + length ws) (laid C i ws) ≡ take i C ++ ws
  laid_front = ap (take (i + length ws)) laid_is ∙ take_at (take i C ++ ws) (drop (i + length ws) C) (i + length ws) (length-append (take i C) ws ∙ ap (λ (z : ℕ). z + length ws) front)

  pub laid_before : take i (laid C i ws) ≡ take i C
  laid_before = sym (take-take i (i + length ws) (laid C i ws) (omega arith)) ∙ ap (take i) laid_front ∙ take_at (take i C) ws i front

  pub laid_here : drop i (take (i + length ws) (laid C i ws)) ≡ ws
  laid_here = ap (drop i) laid_front ∙ drop_at (take i C) ws i front

-- ---- the cells of a node, in the table of all
window : (Y : List ℤ) (p q u : ℕ) → p + q ≤ u → u ≤ length Y → take q (drop p (take u Y)) ≡ drop p (take (p + q) Y)
window Y p q u h k =
    let x = take u Y in
    let e = length-take-le u Y k in
    sym (ap (drop p) (sym (take-take (p + q) u Y h) ∙ take-add p q x) ∙ drop_at (take p x) (take q (drop p x)) p (length-take-le p x (omega arith)))

pub own_window : (N : List ℕ) (C : List ℤ) (n : ℕ) → get_or N USED 0 * 2 ≤ length C → node N n START + node N n CELLS ≤ get_or N USED 0
    → own_cells N (used_cells N C) n ≡ drop (node N n START * 2) (take (node N n START * 2 + node N n CELLS * 2) C)
unfolding own_cells
own_window N C n fit h =
    let p = node N n START in
    let q = node N n CELLS in
    let u = used_cells N C in
    ap (λ (b : Bool). cells b p q u) (le-leb (p + q) (length u / 2) (let e = used_cells_lem N C n fit in omega arith)) ∙ window C (p * 2) (q * 2) (get_or N USED 0 * 2) (omega arith) fit
  where
    cells : Bool → ℕ → ℕ → List ℤ → List ℤ
    cells b p q u = elim b [ true ↦ take (q * 2) (drop (p * 2) u) | false ↦ [] ]
