-- Demand 3: the fresh value of a node is its formula worked out anew from the last written values. It knows nothing of links, flags or queues.
use Rattle.std.specs.Prelude.{◌≡◌, ◌⊎◌, Bool, false, not, ◌||◌, List, [], ◌∷◌, ℕ, zero, suc}
use Rattle.values.specs.declared.Value.{Value}
use Rattle.values.specs.Values.{same}
use Rattle.trees.specs.Trees.{Tree, worth, reads}
use Rattle.meaning.specs.State.{St, Kind, signal, computed, effect, scope, Row, up}

-- k bounds how far down formulas are followed: they name lower numbers only
unfoldable pub afresh_n : (ℕ → Kind) → (ℕ → Tree) → (ℕ → Value) → ℕ → ℕ → Value
afresh_n kind form last zero n = last n
afresh_n kind form last (suc k) n =
    elim (kind n) [ signal ↦ last n | computed ↦ worth (form n) (afresh_n kind form last k) | effect ↦ worth (form n) (afresh_n kind form last k) | scope ↦ last n ]

unfoldable pub afresh_of : (ℕ → Kind) → (ℕ → Tree) → (ℕ → Value) → ℕ → Value
afresh_of kind form last n = afresh_n kind form last (suc n) n

-- the last written value of a signal is its pending one
abbrev pub afresh : St → ℕ → Value
afresh s = afresh_of s.kind s.form s.pend

-- what working a tree out reads: each node with its value, in order
unfoldable pub paired : (ℕ → Value) → List ℕ → List (ℕ × Value)
paired env [] = []
paired env (n ∷ ns) = (n, env n) ∷ paired env ns

unfoldable pub readings : Tree → (ℕ → Value) → List (ℕ × Value)
readings t env = paired env (reads t env)

-- what each effect's last run read, after these rows
unfoldable pub recorded : (ℕ → List (ℕ × Value)) → List Row → ℕ → List (ℕ × Value)
recorded ρ [] = ρ
recorded ρ (r ∷ rs) = recorded (up ρ r.who r.reads) rs

-- something that was read has another value in b than in a
unfoldable pub moved : (ℕ → Value) → (ℕ → Value) → List (ℕ × Value) → Bool
moved a b [] = false
moved a b (x ∷ xs) = not (same (a x.0) (b x.0)) || moved a b xs

-- f, but false of the effects that have run
unfoldable pub rested : (ℕ → Bool) → List Row → ℕ → Bool
rested f [] = f
rested f (r ∷ rs) = rested (up f r.who false) rs

-- the pair of d and v is one of these
abbrev pub Among : ℕ → Value → List (ℕ × Value) → Type 0
Among d v [] = ⊥
Among d v (x ∷ xs) = ((d ≡ x.0) × (v ≡ x.1)) ⊎ Among d v xs

-- something that was read now has another value
pub record Differs (record_of : List (ℕ × Value)) (now : ℕ → Value) : Type 0 where
  pub node : ℕ
  pub was : Value
  pub read : Among node was record_of
  pub new : now node ≡ was → ⊥
