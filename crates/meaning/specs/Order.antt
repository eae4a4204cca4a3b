-- The order of a write: the plain depth-first walk over the subscriber links, and the climb over owners. Neither has a budget or a stack.
use Rattle.std.specs.Prelude.{◌≡◌, true, false, List, [], ◌∷◌, ◌++◌, reverse, ℕ, Option, Some}
use Rattle.flags.specs.declared.Named.{Named}
use Rattle.meaning.specs.State.{St, unclean, with_pending, up}
use Rattle.meaning.specs.Marks.{Marks, marks, calm}

-- e, its owner, the owner's owner, ..: an owner that watches, go on; else stop
pub data Climbed (owner : ℕ → Option ℕ) (f : ℕ → Named) : ℕ → List ℕ → Type 0 where
  stops : {e : ℕ} → ((o : ℕ) → owner e ≡ Some o → (f o).watching ≡ false) → Climbed owner f e (e ∷ [])
  climbs : {e : ℕ} {c : List ℕ} (o : ℕ) → owner e ≡ Some o → (f o).watching ≡ true → Climbed owner f o c → Climbed owner f e (e ∷ c)

-- u may be stale; if it watches, it is queued after its owners of the climb, the outermost first
abbrev pub pending_at : Marks → ℕ → ℕ → Named
pending_at m u = up m.fl u (with_pending (m.fl u) true)

pub data Marked (s : St) (m : Marks) (u : ℕ) : Marks → Type 0 where
  quiet : (m.fl u).watching ≡ false → Marked s m u (marks (pending_at m u) m.queue m.stuck)
  queues : (c : List ℕ) → (m.fl u).watching ≡ true → Climbed s.owner (pending_at m u) u c → Marked s m u (marks (calm c (pending_at m u)) (m.queue ++ reverse c) m.stuck)

-- from the marks m, the links one after the other, to the marks n: past what is not clean; what can be read is gone into, before the links after it
pub data Walked (s : St) : Marks → List ℕ → Marks → Type 0 where
  ends : {m : Marks} → Walked s m [] m
  passes : {m n : Marks} {w : List ℕ} (l : ℕ) → unclean (m.fl (s.sub l)) ≡ true → Walked s m w n → Walked s m (l ∷ w) n
  marks_one : {m x n : Marks} {w : List ℕ} (l : ℕ) → unclean (m.fl (s.sub l)) ≡ false → (m.fl (s.sub l)).mutable ≡ false → Marked s m (s.sub l) x
      → Walked s x w n → Walked s m (l ∷ w) n
  goes_in : {m x y n : Marks} {w : List ℕ} (l : ℕ) → unclean (m.fl (s.sub l)) ≡ false → (m.fl (s.sub l)).mutable ≡ true → Marked s m (s.sub l) x
      → Walked s x (s.subs (s.sub l)) y → Walked s y w n → Walked s m (l ∷ w) n
