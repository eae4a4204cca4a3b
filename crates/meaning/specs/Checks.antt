-- The order of the dirty check, which document 01 leaves to the Rust (`check_dirty`): the plain depth-first look along dependency links, from the first on, up to one that has changed.
-- It has no budget and no stack.
use Rattle.std.specs.Prelude.{◌≡◌, Bool, true, false, List, [], ◌∷◌, ℕ}
use Rattle.meaning.specs.State.{St, deps, with_pending}
use Rattle.meaning.specs.Setters.{set_fl}
use Rattle.meaning.specs.Links.{several}
use Rattle.meaning.specs.Marks.{shallow}
use Rattle.meaning.specs.Reads.{ans, upd_w, fresh}

-- where the check is: at the links of u that are left, or at one dependency
pub data Place : Type 0 where
  along : ℕ → List ℕ → Place
  at : ℕ → Place

-- d has changed: its other subscribers, if there are any, that are pending are dirty
abbrev pub tells : St → ℕ → St
tells s d = elim (several (s.subs d)) [ true ↦ shallow s d | false ↦ s ]

-- from s to t; true: a dependency of u has changed, or d itself. U s d t b: an update of d goes from s to t, and b says whether its value changed
pub data Looked (U : St → ℕ → St → Bool → Type 0) : Place → St → St → Bool → Type 0 where
  -- no link is left, and nothing has changed
  ends : {s : St} {u : ℕ} → Looked U (along u []) s s false
  -- u is dirty already: nothing more is looked at
  knows : {s : St} {u l : ℕ} {ls : List ℕ} → (s.fl u).dirty ≡ true → Looked U (along u (l ∷ ls)) s s true
  -- what u owns is passed
  passes : {s t : St} {u l : ℕ} {ls : List ℕ} {b : Bool} → (s.fl u).dirty ≡ false → (s.fl (s.dep l)).mutable ≡ false → Looked U (along u ls) s t b → Looked U (along u (l ∷ ls)) s t b
  -- the first one has not changed: then the links after it
  goes_on : {s x t : St} {u l : ℕ} {ls : List ℕ} {b : Bool} → (s.fl u).dirty ≡ false → (s.fl (s.dep l)).mutable ≡ true → Looked U (at (s.dep l)) s x false
      → Looked U (along u ls) x t b → Looked U (along u (l ∷ ls)) s t b
  -- it has: the links after it are not looked at
  stops : {s x : St} {u l : ℕ} {ls : List ℕ} → (s.fl u).dirty ≡ false → (s.fl (s.dep l)).mutable ≡ true → Looked U (at (s.dep l)) s x true
      → Looked U (along u (l ∷ ls)) s (tells x (s.dep l)) true
  -- at a clean one there is nothing to do
  clean : {s : St} {d : ℕ} → (s.fl d).dirty ≡ false → (s.fl d).pending ≡ false → Looked U (at d) s s false
  -- a dirty one is updated
  updates : {s t : St} {d : ℕ} {b : Bool} → (s.fl d).dirty ≡ true → U s d t b → Looked U (at d) s t b
  -- a pending one: its own dependencies first; nothing has changed, and PENDING goes
  clears : {s x : St} {d : ℕ} → (s.fl d).dirty ≡ false → (s.fl d).pending ≡ true → Looked U (along d (deps s d)) s x false
      → Looked U (at d) s (set_fl x d (with_pending (x.fl d) false)) false
  -- or one has, and it is updated
  follows : {s x t : St} {d : ℕ} {b : Bool} → (s.fl d).dirty ≡ false → (s.fl d).pending ≡ true → Looked U (along d (deps s d)) s x true → U x d t b → Looked U (at d) s t b

-- an update as it is defined (Reads), whose budget was enough
abbrev pub Updated : St → ℕ → St → Bool → Type 0
Updated s d t b = (k : ℕ) × (upd_w (fresh k) (s.kind d) s d ≡ ans t b) × (t.stuck ≡ false)

-- the dirty check of u
abbrev pub Checks : St → ℕ → St → Bool → Type 0
Checks s u t b = Looked Updated (along u (deps s u)) s t b
