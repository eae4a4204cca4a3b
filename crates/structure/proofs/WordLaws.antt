-- What single words say, of a node and of its formula. Assumes nothing.
use Rattle.std.specs.Prelude.{Option, None, Some}
use mathlib.Core.Path.{◌≡◌, refl, sym, ap, ◌∙◌, subst}
use mathlib.Core.Logic.{inl, inr}
use mathlib.Core.Bool.{Bool, true, false, not}
use mathlib.Core.List.{List, [], ◌∷◌, ◌++◌, append-nil, append_assoc}
use Prim.Native.Nat.{ℕ, zero, suc, ◌+◌, ◌*◌, ◌/◌, ◌≤◌, ◌<◌, max}
use native.Mathlib.Omega.{arith}
use lib.Dec.{eqb, ltb}
use lib.IntN.{ℤ}
use lib.ListN.{length, get_or, take, drop, length-take, take-append-drop}
use lib.Seq.{drop-append-le}
use borrow.Author.Tests.{lt-ltb, le-ltb, ltb-true, le-leb, eq-eqb, ne_eqb, eqb-true, not-true, not-false}
use Rattle.primitive.specs.Words.{COUNT, USED, QUEUE, KIND, START, CELLS, LEVEL, DEP, node, link}
use Rattle.queue.specs.Queue.{count as queueLength, entries, queue_of}
use Rattle.trees.specs.Trees.{Tree, written, names}
use Rattle.trees.specs.Legal.{read_kind, readable_in}
use Rattle.trees.specs.Names.{named, tallest}
use Rattle.trees.proofs.Laid.{Laid, laid}
use Rattle.trees.proofs.Ends.{named_tree}
use Rattle.lists.specs.Sum.{bit}
use Rattle.lists.specs.Each.{keep}
use Rattle.counting.specs.Depths.{depth_under}
use Rattle.linking.specs.Free.{is_live_slot}
use Rattle.resting.specs.Linked.{is_live_slot as live_in}
use Rattle.resting.specs.Depends.{reads_kind}
use Rattle.resting.specs.Named.{names_of}
use Rattle.telling.specs.Formulas.{own_cells}
use Rattle.telling.specs.Whole.{used_cells}
use Rattle.meaning.specs.State.{Kind, signal, computed, effect, scope, readable}
use Rattle.meaning.specs.Engine.{tallest as tallestOf, depth_under as depthUnderOf}
use Rattle.meaning.specs.WellFormed.{In, read_links}
use Rattle.meaning.specs.Words.{formula_of}
use Rattle.meaning.proofs.Formulas.{WrittenOut, tree_exact}
use Rattle.meaning.proofs.Laws.{clash, false≢true}
use Rattle.refusing.specs.Sight.{kind_of}
use Rattle.refusing.proofs.Formulas.{readable_kind}
use Rattle.structure.specs.Rep.{kind_word, owner_word, has_form, Spelt}
use Rattle.structure.specs.Reading.{of_node, owner_in}

-- ---- slots
pub live_same : (L : List ℕ) (x : ℕ) → is_live_slot L x ≡ live_in L x
unfolding is_live_slot live_in
live_same L x = refl

-- ---- kinds
pub kind_of_word : (k : Kind) → kind_of (kind_word k) ≡ k
unfolding kind_of
kind_of_word signal = refl
kind_of_word computed = refl
kind_of_word effect = refl
kind_of_word scope = refl

pub says_kind : (k : Kind) (w : ℕ) → w ≡ kind_word k → kind_of w ≡ k
says_kind k w e = ap kind_of e ∙ kind_of_word k

-- two kinds of one word are one
pub same_kind : (k j : Kind) (w : ℕ) → kind_of w ≡ k → w ≡ kind_word j → kind_word k ≡ kind_word j
same_kind k j w e f = ap kind_word (sym e ∙ says_kind j w f)

pub kind_word_lem : (k : Kind) (w : ℕ) → w ≡ kind_word k → w ≡ kind_word (kind_of w)
kind_word_lem k w e = e ∙ sym (ap kind_word (says_kind k w e))

-- ---- marks and owners
pub mark_word : (w : ℕ) → w ≤ 1 → w ≡ bit (not (eqb w 0))
mark_word zero h = refl
mark_word (suc zero) h = refl
mark_word (suc (suc w)) h = absurd (omega arith)

pub unmarked : (w : ℕ) → not (eqb w 0) ≡ false → w ≡ 0
unmarked w e = eqb-true w 0 (not-false (eqb w 0) e)

pub marked : (w : ℕ) → not (eqb w 0) ≡ true → w ≡ 0 → ⊥
marked w e z = clash (eq-eqb w 0 z) (not-true (eqb w 0) e)

pub zero_mark : (w : ℕ) → w ≡ 0 → not (eqb w 0) ≡ false
zero_mark w e = ap (λ (x : ℕ). not (eqb x 0)) e

pub some_mark : (w : ℕ) → (w ≡ 0 → ⊥) → not (eqb w 0) ≡ true
some_mark w h = ap not (ne_eqb w 0 h)

pub owner_word_lem : (w : ℕ) → w ≡ owner_word (owner_in w)
owner_word_lem zero = refl
owner_word_lem (suc o) = refl

pub owner_back : (o : Option ℕ) → owner_in (owner_word o) ≡ o
owner_back None = refl
owner_back (Some o) = refl

pub owner_some : (w o : ℕ) → owner_in w ≡ Some o → w ≡ suc o
owner_some w o e = owner_word_lem w ∙ ap owner_word e

pub owner_none : (w : ℕ) → owner_in w ≡ None → w ≡ 0
owner_none w e = owner_word_lem w ∙ ap owner_word e

-- ---- nodes below the count
module _ (N : List ℕ) (n : ℕ) where
  pub of_a_node : (xs : List ℕ) → n < get_or N COUNT 0 → of_node N n xs ≡ xs
  unfolding of_node
  of_a_node xs h = let e : xs ≡ xs = refl in rw (lt-ltb n (get_or N COUNT 0) h, of_node) e

  pub of_none : (xs : List ℕ) → get_or N COUNT 0 ≤ n → of_node N n xs ≡ []
  unfolding of_node
  of_none xs h = let e : ◌≡◌ {A = List ℕ} [] [] = refl in rw (le-ltb n (get_or N COUNT 0) h, of_node) e

  pub in_node : (x : ℕ) (xs : List ℕ) → In x (of_node N n xs) → (n < get_or N COUNT 0) × In x xs
  unfolding of_node
  in_node x xs = go (ltb n (get_or N COUNT 0)) refl
    where
      go : (b : Bool) → ltb n (get_or N COUNT 0) ≡ b → In x (elim b [ true ↦ xs | false ↦ [] ]) → (n < get_or N COUNT 0) × In x xs
      go true e i = (ltb-true n (get_or N COUNT 0) e, i)
      go false e i = absurd i

  pub readable_within : n < get_or N COUNT 0 → readable_in N n ≡ readable (kind_of (node N n KIND))
  unfolding readable_in
  readable_within h = rw (lt-ltb n (get_or N COUNT 0) h, readable_in) (sym (readable_kind (node N n KIND)))

  pub readable_low : readable_in N n ≡ true → n < get_or N COUNT 0
  unfolding readable_in
  readable_low = go (ltb n (get_or N COUNT 0)) refl
    where
      go : (b : Bool) → ltb n (get_or N COUNT 0) ≡ b → elim b [ true ↦ read_kind (node N n KIND) | false ↦ false ] ≡ true → n < get_or N COUNT 0
      go true e h = ltb-true n (get_or N COUNT 0) e
      go false e h = false≢true h

-- computeds and effects have formulas
pub reads_kind_lem : (w : ℕ) → reads_kind w ≡ has_form (kind_of w)
unfolding kind_of
reads_kind_lem zero = refl
reads_kind_lem (suc zero) = refl
reads_kind_lem (suc (suc zero)) = refl
reads_kind_lem (suc (suc (suc zero))) = refl
reads_kind_lem (suc (suc (suc (suc w)))) =
    let k = suc (suc (suc (suc w))) in
    rw (ne_eqb k 1 (λ e. omega arith), ne_eqb k 2 (λ e. omega arith), ne_eqb k 3 (λ e. omega arith))

-- ---- formulas
module _ (N : List ℕ) (C : List ℤ) (n : ℕ) (fit : get_or N USED 0 * 2 ≤ length C) where
  pub used_cells_lem : length (used_cells N C) / 2 ≡ get_or N USED 0
  used_cells_lem = omega (arith, length-take (get_or N USED 0 * 2) C)

  module _ (t : Tree) (s : Spelt N C n t) where
    -- the cells of a node, in the table of all
    own : List ℤ
    own = drop (node N n START * 2) (used_cells N C)

    own_cells_lem : own_cells N (used_cells N C) n ≡ take (node N n CELLS * 2) own
    unfolding own_cells own
    own_cells_lem = let h = s.inside in rw (le-leb (node N n START + node N n CELLS) (length (used_cells N C) / 2) (omega (arith, used_cells_lem)), own_cells)

    own_words : take (node N n CELLS * 2) own ≡ written t
    own_words = sym own_cells_lem ∙ s.words

    pub spelt_laid : Laid C t (node N n START)
    unfolding own
    spelt_laid =
        let i = node N n START * 2 in
        let u = get_or N USED 0 * 2 in
        let h = s.inside in
        let a : drop i C ≡ own ++ drop u C = ap (drop i) (sym (take-append-drop u C)) ∙ drop-append-le i (take u C) (drop u C) (omega (arith, length-take u C)) in
        let b : own ≡ written t ++ drop (node N n CELLS * 2) own =
        sym (take-append-drop (node N n CELLS * 2) own) ∙ ap (λ (x : List ℤ). x ++ drop (node N n CELLS * 2) own) own_words in
        laid C t (node N n START) (drop (node N n CELLS * 2) own ++ drop u C)
        (a ∙ ap (λ (x : List ℤ). x ++ drop u C) b ∙ append_assoc (written t) (drop (node N n CELLS * 2) own) (drop u C))

    pub spelt_named : named C (node N n CELLS) (node N n START) ≡ names t
    unfolding named
    spelt_named = named_tree C t (node N n START) (node N n CELLS) 0 (omega (arith, s.long)) spelt_laid ∙ append-nil (names t)

    pub spelt_names : has_form (kind_of (node N n KIND)) ≡ true → names_of N C n ≡ names t
    unfolding names_of
    spelt_names e = rw (reads_kind_lem (node N n KIND) ∙ e, names_of) spelt_named

pub no_names : (N : List ℕ) (C : List ℤ) (n : ℕ) → has_form (kind_of (node N n KIND)) ≡ false → (x : ℕ) → In x (names_of N C n) → ⊥
unfolding names_of
no_names N C n e x i = let q : names_of N C n ≡ [] = rw (reads_kind_lem (node N n KIND) ∙ e, names_of) in subst (In x) q i

-- the formula that written cells spell
pub formula_of_written : (ws : List ℤ) (t : Tree) → WrittenOut ws t → formula_of ws ≡ t
formula_of_written ws t w = rw ((tree_exact ws t).1 w)

-- ---- heights and owner depths
pub tallest_same : (N ns : List ℕ) → tallest N ns ≡ tallestOf (λ n. node N n LEVEL) ns
unfolding tallest tallestOf
tallest_same N [] = refl
tallest_same N (n ∷ ns) = ap (max (node N n LEVEL)) (tallest_same N ns)

pub depth_same : (N : List ℕ) (w : ℕ) → depth_under N w ≡ depthUnderOf (λ n. node N n LEVEL) (owner_in w)
unfolding depth_under
depth_same N zero = refl
depth_same N (suc o) = refl

-- ---- read links
pub read_link : (kind : ℕ → Kind) (dep : ℕ → ℕ) (xs : List ℕ) (x : ℕ) → In x (read_links kind dep xs) → readable (kind (dep x)) ≡ true
unfolding read_links
read_link kind dep [] x i = absurd i
read_link kind dep (y ∷ ys) x i = go (readable (kind (dep y))) refl (read_link kind dep ys x) i
  where
    go : (b : Bool) → readable (kind (dep y)) ≡ b → (In x (read_links kind dep ys) → readable (kind (dep x)) ≡ true)
        → In x (elim b [ true ↦ y ∷ read_links kind dep ys | false ↦ read_links kind dep ys ]) → readable (kind (dep x)) ≡ true
    go true e f (inl q) = subst (λ (z : ℕ). readable (kind (dep z)) ≡ true) (sym q) e
    go true e f (inr i) = f i
    go false e f i = f i

-- by kinds and in words
pub read_same : (N L xs : List ℕ) → ((x : ℕ) → In x xs → link L x DEP < get_or N COUNT 0)
    → read_links (λ n. kind_of (node N n KIND)) (λ x. link L x DEP) xs ≡ keep (λ (x : ℕ). readable_in N (link L x DEP)) xs
unfolding read_links keep
read_same N L [] h = refl
read_same N L (x ∷ xs) h =
    let r : List ℕ = read_links (λ n. kind_of (node N n KIND)) (λ x. link L x DEP) xs in
    ap (λ (b : Bool). elim b [ true ↦ x ∷ r | false ↦ r ]) (sym (readable_within N (link L x DEP) (h x (inl refl))))
    ∙ ap (λ (ys : List ℕ). elim (readable_in N (link L x DEP)) [ true ↦ x ∷ ys | false ↦ ys ]) (read_same N L xs (λ y i. h y (inr i)))

-- ---- the queue
entries_long : (N : List ℕ) (i n : ℕ) → length (entries N i n) ≡ n
unfolding entries
entries_long N i zero = refl
entries_long N i (suc n) = ap suc (entries_long N (suc i) n)

pub queue_long : (N : List ℕ) → length (queue_of N) ≡ queueLength N
unfolding queue_of
queue_long N = entries_long N 0 (queueLength N)

length_nil : (xs : List ℕ) → length xs ≡ 0 → xs ≡ []
length_nil [] e = refl
length_nil (x ∷ xs) e = absurd (omega arith)

pub queue_nil : (N : List ℕ) → get_or N QUEUE 0 ≡ 0 → queue_of N ≡ []
unfolding queueLength
queue_nil N e = length_nil (queue_of N) (queue_long N ∙ omega arith)
