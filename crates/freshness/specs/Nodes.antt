-- What accepted commands and their rows tell of the nodes: how many there are, kinds, formulas, owners, and which are gone. No engine's state is asked.
use Rattle.std.specs.Prelude.{Bool, false, ◌||◌, List, [], ◌∷◌, ℕ, zero, suc, eqb, pos, Option, None}
use Rattle.trees.specs.Trees.{Tree, constant}
use Rattle.meaning.specs.State.{Kind, signal, computed, effect, scope, Row, on, up}
use Rattle.meaning.specs.Words.{Command, make_signal, make_computed, make_effect, make_scope, set_to, add_to, read_of, dispose_of, batch_start, batch_end, node_of, owner_of, formula_of}

pub record Nodes : Type 0 where
  pub size : ℕ  -- nodes are 0 .. size - 1
  pub kind : ℕ → Kind
  pub form : ℕ → Tree
  pub owner : ℕ → Option ℕ
  pub gone : ℕ → Bool

abbrev pub no_nodes : Nodes
no_nodes = record { size = 0; kind = λ n. scope; form = λ n. constant (pos 0); owner = λ n. None; gone = λ n. false }

-- a new node has the next number
abbrev pub with_new : Nodes → Kind → Tree → Option ℕ → Nodes
with_new g k t o =
    let n = g.size in
    record { size = suc n; kind = up g.kind n k; form = up g.form n t; owner = up g.owner n o; gone = up g.gone n false }

-- x is the owner of y, or the owner's owner, ..; k bounds how far: an owner has a lower number
unfoldable pub owns_n : ℕ → (ℕ → Option ℕ) → ℕ → ℕ → Bool
owns_n zero owner x y = false
owns_n (suc k) owner x y = on (owner y) (λ o. eqb o x || owns_n k owner x o)

abbrev pub owns : (ℕ → Option ℕ) → ℕ → ℕ → Bool
owns owner x y = owns_n (suc y) owner x y

-- all that x owns is gone
abbrev pub stripped : Nodes → ℕ → Nodes
stripped g x = record { size = g.size; kind = g.kind; form = g.form; owner = g.owner; gone = λ n. g.gone n || owns g.owner x n }

-- x is gone, with all that it owns
abbrev pub disposed : Nodes → ℕ → Nodes
disposed g x = record { size = g.size; kind = g.kind; form = g.form; owner = g.owner; gone = λ n. g.gone n || (eqb n x || owns g.owner x n) }

-- what the command itself does
unfoldable pub changed : Command → Nodes → Nodes
changed (make_signal v) g = with_new g signal (constant (pos 0)) None
changed (make_computed cs) g = with_new g computed (formula_of cs) None
changed (make_effect o cs) g = with_new g effect (formula_of cs) (owner_of o)
changed (make_scope o) g = with_new g scope (constant (pos 0)) (owner_of o)
changed (set_to n v) g = g
changed (add_to n d) g = g
changed (read_of n) g = g
changed (dispose_of n) g = disposed g (node_of n)
changed batch_start g = g
changed batch_end g = g

-- and its runs, in their order: a run makes all gone that its effect owned
unfoldable pub ran : Nodes → List Row → Nodes
ran g [] = g
ran g (r ∷ rs) = ran (stripped g r.who) rs
