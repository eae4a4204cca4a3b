-- Reading, the dirty check, updating and evaluation: one recursion, `fresh`, by rank.
use Rattle.std.specs.Prelude.{Bool, true, false, not, ◌&&◌, List, [], ◌∷◌, ◌++◌, ℕ, zero, suc, eqb}
use Rattle.values.specs.declared.Value.{Value}
use Rattle.values.specs.Values.{value, same, is_zero}
use Rattle.trees.specs.Trees.{Tree, constant, read, two, choose, apply}
use Rattle.meaning.specs.State.{St, Kind, signal, computed, effect, scope, f1, f5, bare, has_value, with_pending, raised, deps}
use Rattle.meaning.specs.Setters.{set_fl, set_sto, with_cycle}
use Rattle.meaning.specs.Links.{stop, provided, is_nil, several, link, purge, rewind}
use Rattle.meaning.specs.Marks.{shallow}

pub record Ans : Type 0 where
  pub st : St
  pub yes : Bool

pub record Out : Type 0 where
  pub st : St
  pub val : Value
  pub reads : List (ℕ × Value)

abbrev pub ans : St → Bool → Ans
ans s b = record { st = s; yes = b }

abbrev pub out : St → Value → List (ℕ × Value) → Out
out s v r = record { st = s; val = v; reads = r }

-- a formula worked out by a reader that may change the state: left to right, choose only the branch it takes
unfoldable pub eval_by : (St → ℕ → St) → Tree → St → Out
eval_by rd (constant k) s = out s (value k) []
eval_by rd (read n) s = let t = rd s n in out t (t.sto n) ((n, t.sto n) ∷ [])
eval_by rd (two o a b) s =
    let x = eval_by rd a s in
    let y = eval_by rd b x.st in
    out y.st (apply o x.val y.val) (x.reads ++ y.reads)
eval_by rd (choose c a b) s =
    let x = eval_by rd c s in
    let y : Out = elim (is_zero x.val) [ true ↦ eval_by rd b x.st | false ↦ eval_by rd a x.st ] in
    out y.st y.val (x.reads ++ y.reads)

-- ---- fr is `fresh`: bring a node up to date, and say whether its stored value changed
-- where it did, the pending subscribers are dirty
abbrev pub spread : Ans → ℕ → St
spread r n = elim r.yes [ true ↦ shallow r.st n | false ↦ r.st ]

-- n is brought up to date for one who takes its value: it must have one
unfoldable pub settle_w : (St → ℕ → Ans) → St → ℕ → St
settle_w fr s n = let t = spread (fr s n) n in provided (has_value (t.kind n) (t.fl n)) t

-- what a read of m by u does
abbrev pub read_w : (St → ℕ → Ans) → ℕ → St → ℕ → St
read_w fr u s m = let t = settle_w fr s m in link t m u t.cycle

abbrev pub evaluate_w : (St → ℕ → Ans) → St → ℕ → Out
evaluate_w fr s u = eval_by (read_w fr u) (s.form u) s

-- the first evaluation: the cycle is not raised
unfoldable pub first_w : (St → ℕ → Ans) → St → ℕ → St
first_w fr s n = let o = evaluate_w fr (set_fl s n f5) n in set_fl (set_sto o.st n o.val) n f1

-- a re-evaluation
unfoldable pub upd_computed : (St → ℕ → Ans) → St → ℕ → Ans
upd_computed fr s n =
    let o = evaluate_w fr (set_fl (rewind (with_cycle s (raised s.cycle)) n) n f5) n in
    ans (purge (set_fl (set_sto o.st n o.val) n f1) n) (not (same (s.sto n) o.val))

-- pending moves to current
unfoldable pub upd_signal : St → ℕ → Ans
upd_signal s n = ans (set_sto (set_fl s n f1) n (s.pend n)) (not (same (s.sto n) (s.pend n)))

unfoldable pub upd_w : (St → ℕ → Ans) → Kind → St → ℕ → Ans
upd_w fr k s n = elim k [ signal ↦ upd_signal s n | computed ↦ upd_computed fr s n | effect ↦ ans (stop s) false | scope ↦ ans (stop s) false ]

unfoldable pub same_slots : List ℕ → List ℕ → Bool
same_slots [] [] = true
same_slots [] (y ∷ ys) = false
same_slots (x ∷ xs) [] = false
same_slots (x ∷ xs) (y ∷ ys) = eqb x y && same_slots xs ys

-- the walk goes back up by the subscriber list of d: it must be what it was, and not empty
unfoldable pub steady : List ℕ → St → ℕ → St
steady was t d = provided (same_slots was (t.subs d) && not (is_nil was)) t

-- the dirty check of u along its dependency links
unfoldable pub check_on : (St → ℕ → Ans) → ℕ → St → List ℕ → Ans
check_on fr u s [] = ans s false
check_on fr u s (l ∷ ls) =
    let d = s.dep l in
    let r = fr s d in
    let t = steady (s.subs d) r.st d in
    let asked : Ans = elim r.yes [ true ↦ ans (elim (several (t.subs d)) [ true ↦ shallow t d | false ↦ t ]) true | false ↦ check_on fr u t ls ] in
    let unless_dirty : Ans = elim (s.fl d).mutable [ true ↦ asked | false ↦ check_on fr u s ls ] in
    elim (s.fl u).dirty [ true ↦ ans s true | false ↦ unless_dirty ]

-- stuck if there is nothing to check
unfoldable pub check_w : (St → ℕ → Ans) → St → ℕ → Ans
check_w fr s u = elim (is_nil (deps s u)) [ true ↦ ans (stop s) false | false ↦ check_on fr u s (deps s u) ]

unfoldable pub pending_w : (St → ℕ → Ans) → St → ℕ → Ans
pending_w fr s n =
    let c = check_w fr s n in
    elim c.yes [ true ↦ upd_w fr (s.kind n) c.st n | false ↦ ans (set_fl c.st n (with_pending (c.st.fl n) false)) false ]

-- never evaluated; dirty; pending; clean
unfoldable pub fresh_w : (St → ℕ → Ans) → St → ℕ → Ans
fresh_w fr s n =
    let unless_dirty : Ans = elim (s.fl n).pending [ true ↦ pending_w fr s n | false ↦ ans s false ] in
    let unless_bare : Ans = elim (s.fl n).dirty [ true ↦ upd_w fr (s.kind n) s n | false ↦ unless_dirty ] in
    elim (bare (s.fl n)) [ true ↦ ans (first_w fr s n) false | false ↦ unless_bare ]

unfoldable pub fresh : ℕ → St → ℕ → Ans
fresh zero s n = ans (stop s) false
fresh (suc k) s n = fresh_w (fresh k) s n

-- ranks are below the number of nodes
abbrev pub settle : St → ℕ → St
settle s n = settle_w (fresh s.size) s n

abbrev pub check : St → ℕ → Ans
check s u = check_w (fresh s.size) s u

abbrev pub evaluate : St → ℕ → Out
evaluate s u = evaluate_w (fresh s.size) s u
