-- Demand 3: what is asked of each call of a history.
use Rattle.std.specs.Prelude.{◌≡◌, ◌⊎◌, Bool, true, false, ◌&&◌, List, [], ◌∷◌, ℕ, ◌<◌, ◌^◌, ℤ, pos, Some}
use Rattle.values.specs.declared.Value.{Value}
use Rattle.values.specs.Values.{value}
use Rattle.trees.specs.Trees.{Tree, worth}
use Rattle.meaning.specs.State.{St, effect, signal, Room, capacities, Row, readable, nothing}
use Rattle.meaning.specs.WellFormed.{WellFormed}
use Rattle.meaning.specs.Words.{Command, make_signal, make_computed, make_effect, make_scope, set_to, add_to, read_of, dispose_of, batch_start, batch_end, command_of, node_of}
use Rattle.meaning.specs.Outcome.{flushes as flushesAt}
use Rattle.freshness.specs.Afresh.{afresh_of, readings, Among, Differs}
use Rattle.freshness.specs.Nodes.{Nodes, stripped, changed}
use Rattle.freshness.specs.History.{Call, Reply, seen, Engine, meant, Past, told, now, after, begin}

-- e has a row
abbrev pub HasRow : ℕ → List Row → Type 0
HasRow e [] = ⊥
HasRow e (r ∷ rs) = (e ≡ r.who) ⊎ HasRow e rs

-- no effect has two
abbrev pub NoTwo : List Row → Type 0
NoTwo [] = Unit {0}
NoTwo (r ∷ rs) = (HasRow r.who rs → ⊥) × NoTwo rs

abbrev pub LiveEffect : Nodes → ℕ → Type 0
LiveEffect g e = (e < g.size) × (g.kind e ≡ effect) × (g.gone e ≡ false)

-- each row is of an effect that is live then
abbrev pub LiveRows : Nodes → List Row → Type 0
LiveRows g [] = Unit {0}
LiveRows g (r ∷ rs) = LiveEffect g r.who × LiveRows (stripped g r.who) rs

-- each row is its effect's formula worked out afresh, with what that reads
abbrev pub FreshRows : (ℕ → Tree) → (ℕ → Value) → List Row → Type 0
FreshRows form φ [] = Unit {0}
FreshRows form φ (r ∷ rs) = (r.worth ≡ worth (form r.who) φ) × (r.reads ≡ readings (form r.who) φ) × FreshRows form φ rs

-- nobody has a row without cause, and who has cause and is live after it has one
abbrev pub Run : (ℕ → Type 0) → Nodes → List Row → Type 0
Run Cause g rs = ((e : ℕ) → HasRow e rs → Cause e) × ((e : ℕ) → LiveEffect g e → Cause e → HasRow e rs)

-- the same effects ran, in the same order
abbrev pub SameRuns : List Row → List Row → Type 0
SameRuns [] [] = Unit {0}
SameRuns [] (q ∷ qs) = ⊥
SameRuns (r ∷ rs) [] = ⊥
SameRuns (r ∷ rs) (q ∷ qs) = (r.who ≡ q.who) × SameRuns rs qs

-- a flush follows: a set or add at depth 0, also where nothing is queued, or an end at depth 1
abbrev pub flushes : Past → Command → Bool
flushes p k = flushesAt k p.depth

-- it closes a single write, or a batch that held only writes
abbrev pub closes : Past → Command → Bool
closes p k = flushes p k && p.writes

-- the fresh values after it
abbrev pub values_now : Past → ℕ → Value
values_now p = afresh_of p.nodes.kind p.nodes.form p.last

-- the value returned: a new node's number, what is read, or 0; size: before it; fresh: the fresh values after it
abbrev pub returned : ℕ → (ℕ → Value) → Command → Value
returned size fresh (make_signal v) = value (pos size)
returned size fresh (make_computed cs) = value (pos size)
returned size fresh (make_effect o cs) = value (pos size)
returned size fresh (make_scope o) = value (pos size)
returned size fresh (set_to n v) = nothing
returned size fresh (add_to n d) = nothing
returned size fresh (read_of n) = fresh (node_of n)
returned size fresh (dispose_of n) = nothing
returned size fresh batch_start = nothing
returned size fresh batch_end = nothing

-- of an accepted command k with the reply a; p: before it; q: after it
pub record RightRuns (p : Past) (k : Command) (a : Reply) (q : Past) : Type 0 where
  -- 1: reads and rows are fresh
  pub value : a.val ≡ returned p.nodes.size (values_now q) k
  pub rows : FreshRows q.nodes.form (values_now q) a.rows
  -- 2: no effect runs twice; what runs is live; a new effect runs at once; nothing else runs but in a flush
  pub once : NoTwo a.rows
  pub live : LiveRows (changed k p.nodes) a.rows
  pub made : (o : ℤ) (cs : List ℤ) → k ≡ make_effect o cs → (r : Row) × (r.who ≡ p.nodes.size) × (a.rows ≡ r ∷ [])
  pub none_else : ((o : ℤ) (cs : List ℤ) → k ≡ make_effect o cs → ⊥) → flushes p k ≡ false → a.rows ≡ []
  -- 3: what runs are the effects that read something in their last run that now has another value
  pub exactly : closes p k ≡ true → Run (λ e. Differs (p.reads e) (values_now q)) q.nodes a.rows
  -- 4: in any flush also those of which something was found stale since the batch began
  pub runs : flushes p k ≡ true → Run (λ e. (p.found e ≡ true) ⊎ Differs (p.reads e) (values_now q)) q.nodes a.rows

-- an engine is judged by its replies: no state is asked for it
pub record Right (p : Past) (c : Call) (a : Reply) (q : Past) : Type 0 where
  pub code : a.code ≡ (meant p.ours c).code  -- document 01's refusals
  -- and its order. The demand's own words fix who runs among the effects that are live after a flush; who runs among those that go in it, and the order, hang on the queue, which demand 2 fixes
  pub order : SameRuns a.rows (meant p.ours c).rows
  pub accepted : (k : Command) → command_of c.words ≡ Some k → a.code ≡ 0 → RightRuns p k a q
  pub refused : (a.code ≡ 0 → ⊥) → (a.val ≡ nothing) × (a.rows ≡ [])

-- replies to calls, whoever gave them: each is right after those before it, so long as there were fewer than 2 ^ 64 evaluations
unfoldable pub RightLog : Past → List Call → List Reply → Type 0
RightLog p [] [] = Unit {0}
RightLog p [] (a ∷ rest) = ⊥
RightLog p (c ∷ cs) [] = ⊥
RightLog p (c ∷ cs) (a ∷ rest) = let q = told p c a in (q.many < 2 ^ 64 → Right p c a q) × RightLog q cs rest

-- ---- what is asked of the engine's state
-- the read links of e go to exactly the nodes of its record
pub record Recorded (s : St) (e : ℕ) (xs : List (ℕ × Value)) : Type 0 where
  pub linked : (d : ℕ) (v : Value) → Among d v xs → (l : ℕ) × (s.live l ≡ true) × (s.dep l ≡ d) × (s.sub l ≡ e)
  pub read : (l : ℕ) → s.live l ≡ true → s.sub l ≡ e → readable (s.kind (s.dep l)) ≡ true → (v : Value) × Among (s.dep l) v xs

-- it agrees with what was told
pub record Agrees (s : St) (p : Past) : Type 0 where
  pub size : s.size ≡ p.nodes.size
  pub kind : s.kind ≡ p.nodes.kind
  pub form : s.form ≡ p.nodes.form
  pub owner : s.owner ≡ p.nodes.owner
  pub gone : (n : ℕ) → n < s.size → s.gone n ≡ p.nodes.gone n
  pub depth : s.depth ≡ p.depth
  pub pending : (n : ℕ) → n < s.size → s.kind n ≡ signal → s.pend n ≡ p.last n

-- after any call, inside a batch and after a refusal too
pub record Held (s : St) (p : Past) : Type 0 where
  -- document 01's tables at rest: a live slot is a link, in both lists
  pub formed : WellFormed s
  pub agrees : Agrees s p
  -- 5: the record of each live effect is not evictable
  pub records : (e : ℕ) → LiveEffect p.nodes e → Recorded s e (p.reads e)
  -- document 01's very state: no link, value or count of it is lost, also where no reply shows it
  pub ours : s ≡ p.ours

-- tables of any capacities; any history with fewer than 2 ^ 64 evaluations, and the call that follows it
unfoldable pub Demand3 : Engine → Type 0
Demand3 E =
    (r : Room) → capacities r ≡ true → (h : List Call) (c : Call) → let p = after E (begin r) h in let a = E p.st c in let q = (now E p c).past in
    q.many < 2 ^ 64 → Right p.past c (seen a) q × Held a.st q
