-- How many evaluations a command makes: of formulas of computeds and effects. It follows the operations of Reads and Engine branch by branch.
use Rattle.std.specs.Prelude.{Bool, true, false, List, [], ◌∷◌, ℕ, zero, suc, ◌+◌, Option, None, Some}
use Rattle.values.specs.declared.Value.{Value}
use Rattle.values.specs.Values.{value, sum, same, is_zero}
use Rattle.trees.specs.Trees.{Tree, constant, read, two, choose}
use Rattle.meaning.specs.State.{St, Kind, signal, computed, effect, scope, f5, f6, f17, bare, raised, deps, nothing}
use Rattle.meaning.specs.Setters.{set_fl, set_pend, with_cycle, with_queue, with_depth}
use Rattle.meaning.specs.Links.{is_nil, rewind}
use Rattle.meaning.specs.Marks.{propagate}
use Rattle.meaning.specs.Reads.{Ans, eval_by, read_w, steady, check_w, fresh, check}
use Rattle.meaning.specs.Engine.{run, node, owned}
use Rattle.meaning.specs.Words.{Command, make_signal, make_computed, make_effect, make_scope, set_to, add_to, read_of, dispose_of, batch_start, batch_end, node_of, owner_of, formula_of}

-- rd reads a node, and c says how many evaluations that read makes
unfoldable pub in_formula : (St → ℕ → St) → (St → ℕ → ℕ) → Tree → St → ℕ
in_formula rd c (constant k) s = 0
in_formula rd c (read n) s = c s n
in_formula rd c (two o a b) s = in_formula rd c a s + in_formula rd c b (eval_by rd a s).st
in_formula rd c (choose x a b) s =
    let y = eval_by rd x s in
    in_formula rd c x s + (elim (is_zero y.val) [ true ↦ in_formula rd c b y.st | false ↦ in_formula rd c a y.st ])

-- ---- fr is `fresh`, c counts for it
unfoldable pub in_check_on : (St → ℕ → Ans) → (St → ℕ → ℕ) → ℕ → St → List ℕ → ℕ
in_check_on fr c u s [] = 0
in_check_on fr c u s (l ∷ ls) =
    elim (s.fl u).dirty [
      | true ↦ 0
      | false ↦ elim (s.fl (s.dep l)).mutable [
        | false ↦ in_check_on fr c u s ls
        | true ↦
            let d = s.dep l in
            let r = fr s d in
            c s d + (elim r.yes [ true ↦ 0 | false ↦ in_check_on fr c u (steady (s.subs d) r.st d) ls ])
      ]
    ]

unfoldable pub in_check : (St → ℕ → Ans) → (St → ℕ → ℕ) → St → ℕ → ℕ
in_check fr c s u = in_check_on fr c u s (deps s u)

unfoldable pub in_update : (St → ℕ → Ans) → (St → ℕ → ℕ) → Kind → St → ℕ → ℕ
in_update fr c signal s n = 0
in_update fr c computed s n = suc (in_formula (read_w fr n) c (s.form n) (set_fl (rewind (with_cycle s (raised s.cycle)) n) n f5))
in_update fr c effect s n = 0
in_update fr c scope s n = 0

unfoldable pub in_pending : (St → ℕ → Ans) → (St → ℕ → ℕ) → St → ℕ → ℕ
in_pending fr c s n = let k = check_w fr s n in in_check fr c s n + (elim k.yes [ true ↦ in_update fr c (s.kind n) k.st n | false ↦ 0 ])

-- ---- first evaluations count too, or only later ones
abbrev pub with_first : Bool → ℕ → ℕ
with_first all m = elim all [ true ↦ suc m | false ↦ m ]

module _ (all : Bool) where
  unfoldable pub count_first : (St → ℕ → Ans) → (St → ℕ → ℕ) → St → ℕ → ℕ
  count_first fr c s n = with_first all (in_formula (read_w fr n) c (s.form n) (set_fl s n f5))

  unfoldable pub count_fresh_w : (St → ℕ → Ans) → (St → ℕ → ℕ) → St → ℕ → ℕ
  count_fresh_w fr c s n =
      elim (bare (s.fl n)) [
        | true ↦ count_first fr c s n
        | false ↦ elim (s.fl n).dirty [
          | true ↦ in_update fr c (s.kind n) s n
          | false ↦ elim (s.fl n).pending [ true ↦ in_pending fr c s n | false ↦ 0 ]
        ]
      ]

  unfoldable pub count_fresh : ℕ → St → ℕ → ℕ
  count_fresh zero s n = 0
  count_fresh (suc k) s n = count_fresh_w (fresh k) (count_fresh k) s n

  abbrev pub count_read : St → ℕ → ℕ
  count_read s n = count_fresh s.size s n

  abbrev pub count_evaluation : St → ℕ → ℕ
  count_evaluation s u = in_formula (read_w (fresh s.size) u) (count_fresh s.size) (s.form u) s

  unfoldable pub count_rerun : St → ℕ → ℕ
  count_rerun s e = suc (count_evaluation (set_fl (rewind (with_cycle s (raised s.cycle)) e) e f6) e)

  unfoldable pub count_run : St → ℕ → ℕ
  count_run s e =
      elim (s.fl e).dirty [
        | true ↦ count_rerun s e
        | false ↦ elim (s.fl e).pending [
          | true ↦ let c = check s e in in_check (fresh s.size) (count_fresh s.size) s e + (elim c.yes [ true ↦ count_rerun c.st e | false ↦ 0 ])
          | false ↦ 0
        ]
      ]

  unfoldable pub count_flush_on : St → List ℕ → ℕ
  count_flush_on s [] = 0
  count_flush_on s (e ∷ q) = count_run (with_queue s q) e + count_flush_on (run (with_queue s q) e) q

  abbrev pub count_flush_at : St → ℕ → ℕ
  count_flush_at s zero = count_flush_on s s.queue
  count_flush_at s (suc d) = 0

  unfoldable pub count_store : St → ℕ → Value → ℕ
  count_store s n v =
      let t = set_fl (set_pend s n v) n f17 in
      elim (same (s.pend n) v) [ true ↦ 0 | false ↦ elim (is_nil (s.subs n)) [ true ↦ 0 | false ↦ count_flush_at (propagate t n) (propagate t n).depth ] ]

  unfoldable pub count_new_effect : St → Option ℕ → Tree → ℕ
  count_new_effect s o t = with_first all (count_evaluation (owned (node s effect t o f6 nothing) s.size o) s.size)

  abbrev pub count_end : St → ℕ → ℕ
  count_end s zero = 0
  count_end s (suc zero) = count_flush_on (with_depth s 0) s.queue
  count_end s (suc (suc d)) = 0

  unfoldable pub count_perform : St → Command → ℕ
  count_perform s (make_signal v) = 0
  count_perform s (make_computed cs) = 0
  count_perform s (make_effect o cs) = count_new_effect s (owner_of o) (formula_of cs)
  count_perform s (make_scope o) = 0
  count_perform s (set_to n v) = count_store s (node_of n) (value v)
  count_perform s (add_to n d) = count_store s (node_of n) (sum (s.sto (node_of n)) (value d))
  count_perform s (read_of n) = count_read s (node_of n)
  count_perform s (dispose_of n) = 0
  count_perform s batch_start = 0
  count_perform s batch_end = count_end s s.depth

-- all evaluations, and those that are not first ones
abbrev pub evaluations : St → Command → ℕ
evaluations = count_perform true

abbrev pub reevaluations : St → Command → ℕ
reevaluations = count_perform false
