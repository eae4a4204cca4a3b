-- Document 01, "The engine and its edges": what is said of each node and of each link slot.
-- A column is a function of the number, and `up` changes it at one place.
use Rattle.std.specs.Prelude.{Bool, true, false, not, ◌&&◌, ◌||◌, List, [], ◌∷◌, ◌++◌, ℕ, zero, suc, ◌+◌, ◌%◌, ◌^◌, eqb, leb, pos, Option, None, Some}
use Rattle.flags.specs.declared.Named.{Named}
use Rattle.values.specs.declared.Value.{Value}
use Rattle.values.specs.Values.{value}
use Rattle.trees.specs.Trees.{Tree, constant}
pub use Rattle.meaning.specs.Flags.{f0, f1, f2, f5, f6, f17, f32, f33, f48, f49, with_pending, with_dirty, with_watching}

pub data Kind : Type 0 where
  signal computed effect scope : Kind

-- signals and computeds can be read
abbrev pub readable : Kind → Bool
readable k = elim k [ signal ↦ true | computed ↦ true | effect ↦ false | scope ↦ false ]

abbrev pub a_signal : Kind → Bool
a_signal k = elim k [ signal ↦ true | computed ↦ false | effect ↦ false | scope ↦ false ]

-- the place of a node in the order of dependency: today its number
abbrev pub rank : ℕ → ℕ
rank n = n

-- no flag at all: a computed that was never evaluated
abbrev pub bare : Named → Bool
bare f = not (f.mutable || (f.watching || (f.recursed_check || (f.recursed || (f.dirty || f.pending)))))

-- there is a value to take: of a signal always, of a computed once it was evaluated
abbrev pub has_value : Kind → Named → Bool
has_value k f = elim k [ signal ↦ true | computed ↦ not (bare f) | effect ↦ false | scope ↦ false ]

abbrev pub unclean : Named → Bool
unclean f = f.dirty || f.pending

-- a node in the middle of an evaluation, which no walk may meet
abbrev pub recursing : Named → Bool
recursing f = f.recursed_check || f.recursed

-- one run of an effect: its number, its value, and what it read, in order
pub record Row : Type 0 where
  pub who : ℕ
  pub worth : Value
  pub reads : List (ℕ × Value)

-- the capacities: nodes 1 to 1,024, link slots 1 to 8,192, cells 1 to 8,192
pub record Room : Type 0 where
  pub nodes : ℕ
  pub slots : ℕ
  pub cells : ℕ

abbrev pub within : ℕ → ℕ → Bool
within k most = leb 1 k && leb k most

abbrev pub capacities : Room → Bool
capacities r = within r.nodes 1024 && (within r.slots 8192 && within r.cells 8192)

pub record St : Type 0 where
  pub room : Room
  pub size : ℕ  -- nodes are 0 .. size - 1
  pub used : ℕ  -- formula cells, never reused
  pub kind : ℕ → Kind
  pub form : ℕ → Tree  -- of a computed or an effect; a constant otherwise
  pub owner : ℕ → Option ℕ
  pub gone : ℕ → Bool
  pub level : ℕ → ℕ  -- the height of a signal or a computed, the owner depth of an effect or a scope
  pub fl : ℕ → Named
  pub sto : ℕ → Value  -- stored: the current value of a signal, the value of a computed that has one
  pub pend : ℕ → Value  -- the pending value of a signal: the last written one
  pub done : ℕ → List ℕ  -- dependency links up to the cursor
  pub rest : ℕ → List ℕ  -- and after it
  pub subs : ℕ → List ℕ  -- subscriber links
  pub live : ℕ → Bool  -- of a slot; the next three speak of live slots
  pub dep : ℕ → ℕ
  pub sub : ℕ → ℕ
  pub ver : ℕ → ℕ
  pub free : List ℕ  -- the last freed first
  pub queue : List ℕ
  pub depth : ℕ
  pub cycle : ℕ
  pub log : List Row  -- the runs of the last accepted command
  pub stuck : Bool  -- an operation could not go on

-- p of what there is
abbrev pub on : {A : Type 0} → Option A → (A → Bool) → Bool
on None p = false
on (Some a) p = p a

-- a column with one place changed
unfoldable pub up {ℓ} : {A : Type ℓ} → (ℕ → A) → ℕ → A → ℕ → A
up f n v m = elim (eqb m n) [ true ↦ v | false ↦ f m ]

-- all dependency links of u
abbrev pub deps : St → ℕ → List ℕ
deps s u = s.done u ++ s.rest u

-- a u64 that wraps
abbrev pub raised : ℕ → ℕ
raised c = (c + 1) % 2 ^ 64

-- 0 .. n - 1 before l
unfoldable pub below : ℕ → List ℕ → List ℕ
below zero l = l
below (suc n) l = below n (n ∷ l)

abbrev pub nothing : Value
nothing = value (pos 0)

-- no nodes, all slots free, the lowest first, depth and cycle 0
unfoldable pub empty : Room → St
empty r = record { room = r; size = 0; used = 0; kind = λ n. scope; form = λ n. constant (pos 0); owner = λ n. None; gone = λ n. false; level = λ n. 0; fl = λ n. f0; sto = λ n. nothing; pend = λ n. nothing; done = λ n. []; rest = λ n. []; subs = λ n. []; live = λ l. false; dep = λ l. 0; sub = λ l. 0; ver = λ l. 0; free = below r.slots []; queue = []; depth = 0; cycle = 0; log = []; stuck = false }
