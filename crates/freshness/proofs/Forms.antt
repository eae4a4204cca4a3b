-- Formulas: a value and what it reads hang only on what is read; only named nodes are read, and no more often than they are named. Assumes nothing.
use mathlib.Core.Path.{◌≡◌, refl, ap, ap₂, ◌∙◌}
use mathlib.Core.Logic.{inl, inr}
use mathlib.Core.Bool.{true, false}
use mathlib.Core.List.{List, [], ◌∷◌, ◌++◌}
use Prim.Native.Nat.{ℕ, ◌≤◌, ◌+◌}
use native.Mathlib.Omega.{arith}
use lib.ListN.{length, length-append}
use Rattle.values.specs.declared.Value.{Value}
use Rattle.values.specs.Values.{is_zero}
use Rattle.trees.specs.Trees.{Tree, constant, read, two, choose, chosen, worth, reads, names}
use Rattle.trees.proofs.Local.{Agree, local}
use Rattle.meaning.specs.WellFormed.{In}
use Rattle.freshness.specs.Afresh.{paired, readings}
use Rattle.meaning.proofs.Laws.{branch, in_left, in_right, in_cases}

agrees : (d e : ℕ → Value) (ns : List ℕ) → ((n : ℕ) → In n ns → d n ≡ e n) → Agree d e ns
agrees d e [] h = tt
agrees d e (n ∷ ns) h = (h n (inl refl), agrees d e ns (λ m i. h m (inr i)))

-- L0.1
pub locally : (t : Tree) (d e : ℕ → Value) → ((n : ℕ) → In n (reads t d) → d n ≡ e n) → (worth t d ≡ worth t e) × (reads t d ≡ reads t e)
locally t d e h = local d e t (agrees d e (reads t d) h)

-- L0.2: what is read is named
pub named : (t : Tree) (e : ℕ → Value) (n : ℕ) → In n (reads t e) → In n (names t)
unfolding reads names chosen
named (constant k) e n i = i
named (read m) e n i = i
named (two o a b) e n i =
    in_cases n (reads a e) (reads b e) i (λ j. in_left n (names a) (names b) (named a e n j)) (λ j. in_right n (names a) (names b) (named b e n j))
named (choose c a b) e n i =
    in_cases n (reads c e) (elim (is_zero (worth c e)) [ true ↦ reads b e | false ↦ reads a e ]) i
    (λ j. in_left n (names c) (names a ++ names b) (named c e n j))
    (λ j. in_right n (names c) (names a ++ names b)
    (branch (λ (ns : List ℕ). In n ns → In n (names a ++ names b)) (is_zero (worth c e))
    (λ w k. in_right n (names a) (names b) (named b e n k))
    (λ w k. in_left n (names a) (names b) (named a e n k)) j))

-- and at most as often as it is named
pub as_many : (t : Tree) (e : ℕ → Value) → length (reads t e) ≤ length (names t)
unfolding reads names chosen
as_many (constant k) e = omega arith
as_many (read m) e = omega arith
as_many (two o a b) e =
    let p = as_many a e in let q = as_many b e in
    omega (arith, length-append (reads a e) (reads b e), length-append (names a) (names b))
as_many (choose c a b) e =
    let p = as_many c e in let q = as_many a e in let r = as_many b e in
    let t : List ℕ = elim (is_zero (worth c e)) [ true ↦ reads b e | false ↦ reads a e ] in
    let w : length t ≤ length (names a) + length (names b) =
    branch (λ (ns : List ℕ). length ns ≤ length (names a) + length (names b)) (is_zero (worth c e)) (λ w. omega arith) (λ w. omega arith) in
    let g : length (reads (choose c a b) e) ≡ length (reads c e) + length t = length-append (reads c e) t in
    omega (arith, length-append (names c) (names a ++ names b), length-append (names a) (names b))

-- the record of a run over values that agree on what it reads
paired_same : (ns : List ℕ) (d e : ℕ → Value) → ((n : ℕ) → In n ns → d n ≡ e n) → paired d ns ≡ paired e ns
unfolding paired
paired_same [] d e h = refl
paired_same (n ∷ ns) d e h = ap₂ {A = ℕ × Value} ◌∷◌ (ap (λ (v : Value). (n, v)) (h n (inl refl))) (paired_same ns d e (λ m i. h m (inr i)))

pub readings_same : (t : Tree) (d e : ℕ → Value) → ((n : ℕ) → In n (reads t d) → d n ≡ e n) → readings t d ≡ readings t e
unfolding readings
readings_same t d e h = paired_same (reads t d) d e h ∙ ap (paired e) (locally t d e h).1

-- the nodes of a record
unfoldable pub firsts : List (ℕ × Value) → List ℕ
firsts [] = []
firsts (x ∷ xs) = x.0 ∷ firsts xs

pub firsts_paired : (e : ℕ → Value) (ns : List ℕ) → firsts (paired e ns) ≡ ns
unfolding firsts paired
firsts_paired e [] = refl
firsts_paired e (n ∷ ns) = ap (λ (x : List ℕ). n ∷ x) (firsts_paired e ns)

pub firsts_readings : (t : Tree) (e : ℕ → Value) → firsts (readings t e) ≡ reads t e
unfolding readings
firsts_readings t e = firsts_paired e (reads t e)

pub paired_join : (e : ℕ → Value) (ms ns : List ℕ) → paired e ms ++ paired e ns ≡ paired e (ms ++ ns)
unfolding paired
paired_join e [] ns = refl
paired_join e (m ∷ ms) ns = ap (λ (x : List (ℕ × Value)). (m, e m) ∷ x) (paired_join e ms ns)
