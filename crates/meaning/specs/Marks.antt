-- Marking what may be stale: notify, propagate, shallow propagate. Each is a function of what it changes: flags, queue, stuck.
use Rattle.std.specs.Prelude.{Bool, true, false, not, ◌&&◌, ◌||◌, List, [], ◌∷◌, ◌++◌, reverse, ℕ, zero, suc, ◌+◌, leb, ltb, length, Option, None, Some}
use Rattle.flags.specs.declared.Named.{Named}
use Rattle.meaning.specs.State.{St, Kind, signal, computed, effect, scope, unclean, recursing, with_pending, with_dirty, with_watching, up}
use Rattle.meaning.specs.Setters.{with_fl, with_queue, with_stuck}
use Rattle.meaning.specs.Links.{several}

pub record Marks : Type 0 where
  pub fl : ℕ → Named
  pub queue : List ℕ
  pub stuck : Bool

abbrev pub marks : (ℕ → Named) → List ℕ → Bool → Marks
marks f q b = record { fl = f; queue = q; stuck = b }

abbrev pub marks_of : St → Marks
marks_of s = marks s.fl s.queue s.stuck

abbrev pub with_marks : St → Marks → St
with_marks s m = with_stuck (with_queue (with_fl s m.fl) m.queue) m.stuck

-- cannot go on where b holds
abbrev pub halt : Marks → Bool → Marks
halt m b = marks m.fl m.queue (m.stuck || b)

-- ---- notify
-- e, its owner, the owner's owner, .. as long as the next one is watching
unfoldable pub chain : ℕ → (ℕ → Option ℕ) → (ℕ → Named) → ℕ → List ℕ
chain zero ow f e = e ∷ []
chain (suc k) ow f e = e ∷ (elim (ow e) [ None ↦ [] | Some o ↦ elim (f o).watching [ true ↦ chain k ow f o | false ↦ [] ] ])

-- these watch no longer
unfoldable pub calm : List ℕ → (ℕ → Named) → ℕ → Named
calm [] f = f
calm (e ∷ c) f = calm c (up f e (with_watching (f e) false))

abbrev pub is_effect : Kind → Bool
is_effect k = elim k [ signal ↦ false | computed ↦ false | effect ↦ true | scope ↦ false ]

unfoldable pub effects : (ℕ → Kind) → List ℕ → Bool
effects k [] = true
effects k (e ∷ c) = is_effect (k e) && effects k c

-- owners first; stuck where the queue is full (a chain that does not end fills it), or what watches is no effect
unfoldable pub notify : St → Marks → ℕ → Marks
notify s m e =
    let c = chain s.room.nodes s.owner m.fl e in
    let q = m.queue ++ reverse c in
    marks (calm c m.fl) q (m.stuck || (ltb s.room.nodes (length q) || not (effects s.kind c)))

-- ---- propagate
-- u may be stale
unfoldable pub mark : St → Marks → ℕ → Marks
mark s m u =
    let t = marks (up m.fl u (with_pending (m.fl u) true)) m.queue m.stuck in
    elim (m.fl u).watching [ true ↦ notify s t u | false ↦ t ]

-- the stack of lists put aside holds at most as many as nodes
abbrev pub stack_full : St → List (List ℕ) → Bool
stack_full s st = leb s.room.nodes (length st)

-- w: the links to visit next; st: the lists put aside on the way down
unfoldable pub prop : St → ℕ → Marks → List ℕ → List (List ℕ) → Marks
prop s zero m w st = halt m true
prop s (suc k) m [] [] = m
prop s (suc k) m [] (w ∷ st) = prop s k m w st
prop s (suc k) m (l ∷ w) st =
    let u = s.sub l in
    let aside = prop s k (halt (mark s m u) (stack_full s st)) (s.subs u) (w ∷ st) in
    let down : Marks = elim (several (s.subs u)) [ true ↦ aside | false ↦ prop s k (mark s m u) (s.subs u ++ w) st ] in
    let unless_unclean : Marks = elim (m.fl u).mutable [ true ↦ down | false ↦ prop s k (mark s m u) w st ] in
    let unless_recursing : Marks = elim (unclean (m.fl u)) [ true ↦ prop s k m w st | false ↦ unless_unclean ] in
    elim (recursing (m.fl u)) [ true ↦ halt m true | false ↦ unless_recursing ]

-- each link is visited at most once, and puts at most one list aside
abbrev pub turns : St → ℕ
turns s = suc (s.room.slots + s.room.slots)

abbrev pub propagate : St → ℕ → St
propagate s d = with_marks s (prop s (turns s) (marks_of s) (s.subs d) [])

-- ---- shallow propagate
-- the pending subscribers are dirty
unfoldable pub soil : (ℕ → ℕ) → List ℕ → (ℕ → Named) → ℕ → Named
soil sub [] f = f
soil sub (l ∷ ls) f = soil sub ls (elim ((f (sub l)).pending && not (f (sub l)).dirty) [ true ↦ up f (sub l) (with_dirty (f (sub l)) true) | false ↦ f ])

-- one of them watches and would have to be notified: this never happens
unfoldable pub wakes : (ℕ → ℕ) → List ℕ → (ℕ → Named) → Bool
wakes sub [] f = false
wakes sub (l ∷ ls) f =
    let g = f (sub l) in
    (g.pending && (not g.dirty && (g.watching && not g.recursed_check))) || wakes sub ls f

abbrev pub shallow : St → ℕ → St
shallow s d = with_stuck (with_fl s (soil s.sub (s.subs d) s.fl)) (s.stuck || wakes s.sub (s.subs d) s.fl)
