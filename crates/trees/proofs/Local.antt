-- A tree's worth hangs on what it reads: environments that agree there give the same value and the same reads. Assumes nothing.
use mathlib.Core.Path.{◌≡◌, refl, ap₂}
use mathlib.Core.Bool.{Bool, true, false}
use mathlib.Core.List.{List, [], ◌∷◌, ◌++◌}
use Prim.Native.Nat.{ℕ}
use Rattle.values.specs.declared.Value.{Value}
use Rattle.values.specs.Values.{is_zero}
use Rattle.trees.specs.Trees.{Tree, constant, read, two, choose, apply, chosen, worth, reads}

-- two environments agree on every node of a list
abbrev pub Agree : (ℕ → Value) → (ℕ → Value) → List ℕ → Type 0
Agree d e [] = Unit {0}
Agree d e (n ∷ ns) = (d n ≡ e n) × Agree d e ns

pub agree_left : (d e : ℕ → Value) (xs ys : List ℕ) → Agree d e (xs ++ ys) → Agree d e xs
agree_left d e [] ys h = tt
agree_left d e (x ∷ xs) ys h = (h.0, agree_left d e xs ys h.1)

pub agree_right : (d e : ℕ → Value) (xs ys : List ℕ) → Agree d e (xs ++ ys) → Agree d e ys
agree_right d e [] ys h = h
agree_right d e (x ∷ xs) ys h = agree_right d e xs ys h.1

-- of two branches, each of which keeps its value and its reads, the one that is chosen does
branches : (d e : ℕ → Value) (c c' : Value) → c ≡ c' → {v v' w w' : Value} {p p' q q' : List ℕ}
    → (Agree d e p → (v ≡ v') × (p ≡ p')) → (Agree d e q → (w ≡ w') × (q ≡ q')) → Agree d e (chosen c p q)
    → (chosen c v w ≡ chosen c' v' w') × (chosen c p q ≡ chosen c' p' q')
unfolding chosen
branches d e c c' s {v} {v'} {w} {w'} {p} {p'} {q} {q'} f g = rw (← s) (go (is_zero c))
  where
    go : (b : Bool) → Agree d e (elim b [ true ↦ q | false ↦ p ])
        → ◌≡◌ {A = Value} (elim b [ true ↦ w | false ↦ v ]) (elim b [ true ↦ w' | false ↦ v' ])
        × ◌≡◌ {A = List ℕ} (elim b [ true ↦ q | false ↦ p ]) (elim b [ true ↦ q' | false ↦ p' ])
    go true = g
    go false = f

pub local : (d e : ℕ → Value) (t : Tree) → Agree d e (reads t d) → (worth t d ≡ worth t e) × (reads t d ≡ reads t e)
unfolding worth reads
local d e (constant k) h = (refl, refl)
local d e (read n) h = (h.0, refl)
local d e (two o a b) h =
    let p = local d e a (agree_left d e (reads a d) (reads b d) h) in
    let q = local d e b (agree_right d e (reads a d) (reads b d) h) in
    (ap₂ (apply o) p.0 q.0, ap₂ ◌++◌ p.1 q.1)
local d e (choose c a b) h =
    let p = local d e c (agree_left d e (reads c d) _ h) in
    let q = branches d e (worth c d) (worth c e) p.0 (local d e a) (local d e b) (agree_right d e (reads c d) _ h) in
    (q.0, ap₂ ◌++◌ p.1 q.1)
