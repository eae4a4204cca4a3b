-- What holds between commands, and what a command leaves. Assumes nothing.
use Rattle.std.specs.Prelude.{Option, None, Some}
use mathlib.Core.Path.{◌≡◌, refl, sym, ap, ◌∙◌}
use mathlib.Core.Bool.{Bool, true, false, ◌&&◌, ◌||◌}
use mathlib.Core.List.{List, [], ◌∷◌}
use Prim.Native.Nat.{ℕ, suc, ◌+◌, ◌≤◌, ◌<◌}
use native.Mathlib.Omega.{arith}
use lib.Dec.{eqb}
use lib.IntN.{ℤ}
use borrow.Author.Tests.{eq-eqb}
use Rattle.values.specs.declared.Value.{Value}
use Rattle.meaning.specs.State.{St, effect, Row, f2, nothing, up}
use Rattle.meaning.specs.Setters.{set_fl}
use Rattle.meaning.specs.Reads.{evaluate}
use Rattle.meaning.specs.Engine.{logged, owned}
use Rattle.meaning.specs.Words.{Command, make_signal, make_computed, make_effect, make_scope, set_to, add_to, read_of, dispose_of, batch_start, batch_end}
use Rattle.meaning.specs.WellFormed.{Once, WellFormed}
use Rattle.freshness.specs.Afresh.{recorded, moved, rested}
use Rattle.freshness.specs.Nodes.{changed}
use Rattle.freshness.specs.History.{Course, depth_after, is_write}
use Rattle.freshness.specs.Right.{flushes, closes, returned, Agrees}
use Rattle.meaning.proofs.Laws.{clash, false≢true, up_same, up_other, up_by}
use Rattle.meaning.proofs.Rings.{evaluate_ring}
use Rattle.meaning.proofs.Still.{Given, given, Fixed, fixed, Still, link_still, renews_still}
use Rattle.meaning.proofs.Flush.{Lasting, lasting, whos}
use Rattle.meaning.proofs.Inside.{nobody}
use Rattle.freshness.proofs.Inv.{Inv}
use Rattle.freshness.proofs.Clean.{φ}
use Rattle.freshness.proofs.Flush.{Rowed}
use Rattle.freshness.proofs.Gone.{Passes, Shows}
use Rattle.freshness.proofs.Store.{Undirtied, Exactly, Exactly-or}

-- what holds between commands
pub record Sound (P : Course) : Type 0 where
  pub formed : WellFormed P.st
  pub goes : P.st.stuck ≡ false
  pub inv : Inv (given P.st) P.past.last P.past.reads nobody nobody P.st
  pub unwritten : (m : ℕ) → P.st.size ≤ m → P.past.last m ≡ nothing
  pub cycle : P.st.cycle ≤ P.past.many
  pub clean : P.past.writes ≡ true → Undirtied (given P.st) P.st
  pub found : (e : ℕ) → e < P.st.size → P.st.kind e ≡ effect → P.st.gone e ≡ false → (P.st.fl e).dirty ≡ P.past.found e
  pub agrees : Agrees P.st P.past
  pub ours : P.past.ours ≡ P.st

-- what a command leaves: last written values p, state t, value v, at most j evaluations
pub record Step (P : Course) (k : Command) (p : ℕ → Value) (g : Given) (t : St) (v : Value) (j : ℕ) : Type 0 where
  pub same : given t ≡ g
  pub keeps : Inv g p (recorded P.past.reads t.log) nobody nobody t
  pub fresh : Rowed g p t.log
  pub once : Once (whos t.log)
  pub spent : t.cycle ≤ P.st.cycle + j
  pub runs : flushes P.past k ≡ true → Exactly-or g p P.past.reads t.log P.past.found t
  pub exact : closes P.past k ≡ true → Exactly g p P.past.reads t.log t
  pub clean : P.past.writes ≡ true → is_write k ≡ true → (t.depth ≡ 0 → ⊥) → Undirtied g t
  pub found : (t.depth ≡ 0 → ⊥) → (e : ℕ) → e < g.size → g.kind e ≡ effect → t.gone e ≡ false → (t.fl e).dirty ≡ rested (λ n. P.past.found n || moved P.st.sto t.sto (P.past.reads n)) t.log e
  pub value : v ≡ returned P.past.nodes.size (φ g p) k
  pub unwritten : (m : ℕ) → g.size ≤ m → p m ≡ nothing
  pub shows : Shows g (changed k P.past.nodes)
  pub passes : Passes g (changed k P.past.nodes).gone t.log t.gone
  pub depth : t.depth ≡ depth_after k P.past.depth
  pub made : (o : ℤ) (cs : List ℤ) → k ≡ make_effect o cs → (r : Row) × (r.who ≡ P.past.nodes.size) × (t.log ≡ r ∷ [])
  pub silent : ((o : ℤ) (cs : List ℤ) → k ≡ make_effect o cs → ⊥) → flushes P.past k ≡ false → t.log ≡ []

-- ---- which command it is
abbrev pub code : Command → ℕ
code (make_signal v) = 1
code (make_computed cs) = 2
code (make_effect o cs) = 3
code (make_scope o) = 4
code (set_to n v) = 5
code (add_to n d) = 6
code (read_of n) = 7
code (dispose_of n) = 8
code batch_start = 9
code batch_end = 10

-- it is not c
pub not_it : {C : Type 0} (k c : Command) → eqb (code k) (code c) ≡ false → k ≡ c → C
not_it k c e q = clash (eq-eqb (code k) (code c) (ap code q)) e

pub and_last : (a b : Bool) → (a && b) ≡ true → b ≡ true
and_last true b y = y
and_last false b y = false≢true y

pub and_first : (a b : Bool) → (a && b) ≡ true → a ≡ true
and_first true b y = refl
and_first false b y = y

-- an owner's link leaves the log and the depth alone
pub owned_fixed : (s : St) (n : ℕ) (o : Option ℕ) → fixed (owned s n o) ≡ fixed s
owned_fixed s n None = refl
owned_fixed s n (Some q) = (link_still s n q 0).same

-- a first run leaves nodes and depth alone
pub evaluated_fixed : (x : St) (n : ℕ) → lasting (set_fl (logged (evaluate x n) n) n f2) ≡ lasting x
unfolding logged
evaluated_fixed x n = ap (λ (f : Fixed). let y : Lasting = record { nodes = f.nodes; pend = f.pend; depth = f.depth; queue = f.queue } in y) (evaluate_ring Still renews_still x n).same

-- a column of marks with a new place
pub up_agrees : (f h : ℕ → Bool) (n : ℕ) (v : Bool) → ((m : ℕ) → m < n → f m ≡ h m) → (m : ℕ) → m < suc n → up f n v m ≡ up h n v m
up_agrees f h n v e m lt =
    up_by f n v (λ (x : Bool). x ≡ up h n v m) m (λ q. sym (ap (up h n v) q ∙ up_same h n v)) (λ q. e m (less q) ∙ sym (up_other h n v m q))
  where
    less : (m ≡ n → ⊥) → m < n
    less q = omega arith
