-- Demand 3 over lists leaves no freedom below 2^64 evaluations: what is asked of a call is kept by one reply, and an engine that keeps it on any history replies as document 01's does, and leaves its state. Assumes nothing.
use Rattle.std.specs.Prelude.{Option, None, Some}
use mathlib.Core.Path.{◌≡◌, refl, sym, ap, ap₂, ◌∙◌, subst}
use mathlib.Core.Bool.{true}
use mathlib.Core.List.{List, [], ◌∷◌, ◌++◌}
use Prim.Native.Nat.{ℕ, zero, suc, ◌+◌, ◌<◌, ◌^◌}
use native.Mathlib.Omega.{arith}
use Rattle.values.specs.declared.Value.{Value}
use Rattle.trees.specs.Trees.{Tree, worth}
use Rattle.meaning.specs.State.{St, Row, Room, capacities, empty}
use Rattle.meaning.specs.Words.{Command, command_of}
use Rattle.meaning.specs.Commands.{Answer}
use Rattle.meaning.proofs.Performed.{known}
use Rattle.freshness.specs.Afresh.{afresh_of, readings}
use Rattle.freshness.specs.Nodes.{Nodes, stripped, changed, ran}
use Rattle.freshness.specs.History.{Call, Reply, seen, Engine, meant, in_call, replies, in_calls, Past, written, next, told, begun, Course, now, after, begin}
use Rattle.freshness.specs.Right.{FreshRows, SameRuns, values_now, returned, Right, RightLog, Held, Demand3}
use Rattle.freshness.proofs.History.{many_is, ours_is, demand3}

-- rows of the same effects, worked out afresh
rows_one : (form : ℕ → Tree) (φ : ℕ → Value) (rs qs : List Row) → SameRuns rs qs → FreshRows form φ rs → FreshRows form φ qs → rs ≡ qs
rows_one form φ [] [] o f g = refl
rows_one form φ [] (q ∷ qs) o f g = absurd o
rows_one form φ (r ∷ rs) [] o f g = absurd o
rows_one form φ (r ∷ rs) (q ∷ qs) o f g =
    let who : r.who ≡ q.who = o.0 in
    let worth : r.worth ≡ q.worth = f.0 ∙ ap (λ (n : ℕ). worth (form n) φ) who ∙ sym g.0 in
    let reads : r.reads ≡ q.reads = f.1 ∙ ap (λ (n : ℕ). readings (form n) φ) who ∙ sym g.1 in
    let rest = rows_one form φ rs qs o.1 f.2 g.2 in
    λ i. record { who = who i; worth = worth i; reads = reads i } ∷ rest i

-- runs compared with the same third
same_both : (rs qs ms : List Row) → SameRuns rs ms → SameRuns qs ms → SameRuns rs qs
same_both [] [] ms a b = tt
same_both [] (q ∷ qs) [] a b = b
same_both [] (q ∷ qs) (m ∷ ms) a b = a
same_both (r ∷ rs) [] [] a b = a
same_both (r ∷ rs) [] (m ∷ ms) a b = b
same_both (r ∷ rs) (q ∷ qs) [] a b = absurd a
same_both (r ∷ rs) (q ∷ qs) (m ∷ ms) a b = (a.0 ∙ sym b.0, same_both rs qs ms a.1 b.1)

-- ---- the rows tell nothing of kinds, formulas and last written values: so the fresh values are the same
ran_form : (g : Nodes) (rs : List Row) → (ran g rs).form ≡ g.form
unfolding ran
ran_form g [] = refl
ran_form g (r ∷ rs) = ran_form (stripped g r.who) rs

ran_kind : (g : Nodes) (rs : List Row) → (ran g rs).kind ≡ g.kind
unfolding ran
ran_kind g [] = refl
ran_kind g (r ∷ rs) = ran_kind (stripped g r.who) rs

record SameFresh (p q : Past) : Type 0 where
  pub form : p.nodes.form ≡ q.nodes.form
  pub values : values_now p ≡ values_now q

same_fresh : (p : Past) (s : St) (m n : ℕ) (rs qs : List Row) (o : Option Command) → SameFresh (next p s m n rs o) (next p s m n qs o)
unfolding next
same_fresh p s m (suc n) rs qs o = record { form = refl; values = refl }
same_fresh p s m zero rs qs None = record { form = refl; values = refl }
same_fresh p s m zero rs qs (Some k) =
    let g = changed k p.nodes in
    let f = ran_form g rs ∙ sym (ran_form g qs) in
    let d = ran_kind g rs ∙ sym (ran_kind g qs) in
    record { form = f; values = λ i. afresh_of (d i) (f i) (written p.nodes.size p.ours.sto k p.last) }

-- ---- one call
module _ (p : Past) (c : Call) (a b : Reply) (A : Right p c a (told p c a)) (B : Right p c b (told p c b)) where
  same_code : a.code ≡ b.code
  same_code = A.code ∙ sym B.code

  same_past : SameFresh (told p c b) (told p c a)
  same_past =
      let s = (meant p.ours c).st in
      let m = in_call p.ours c in
      let o = command_of c.words in
      subst (λ (n : ℕ). SameFresh (next p s m n b.rows o) (told p c a)) same_code (same_fresh p s m a.code b.rows a.rows o)

  same_rest : (z : ℕ) → a.code ≡ z → (a.val ≡ b.val) × (a.rows ≡ b.rows)
  same_rest (suc z) e =
      let d = same_code in
      let x = A.refused (λ h. omega arith) in
      let y = B.refused (λ h. omega arith) in
      (x.0 ∙ sym y.0, x.1 ∙ sym y.1)
  same_rest zero e =
      let k = known p.ours c.rows c.words (sym A.code ∙ e) in
      let x = A.accepted k.0 k.1 e in
      let y = B.accepted k.0 k.1 (sym same_code ∙ e) in
      let q = told p c a in
      let to_val : (ℕ → Value) → Value = λ φ. returned p.nodes.size φ k.0 in
      let fresh = subst (λ (φ : ℕ → Value). FreshRows q.nodes.form φ b.rows) same_past.values (subst (λ (f : ℕ → Tree). FreshRows f (values_now (told p c b)) b.rows) same_past.form y.rows) in (
        x.value ∙ sym (ap to_val same_past.values) ∙ sym y.value,
        rows_one q.nodes.form (values_now q) a.rows b.rows (same_both a.rows b.rows (meant p.ours c).rows A.order B.order) x.rows fresh,
      )

  -- what is asked of a call is kept by one reply
  pub one_right : a ≡ b
  one_right =
      let code = same_code in
      let x = same_rest a.code refl in
      λ i. record { code = code i; val = x.0 i; rows = x.1 i }

-- ---- any history
pub told_ours : (p : Past) (c : Call) (a : Reply) → (told p c a).ours ≡ (meant p.ours c).st
told_ours p c a = ours_is p (meant p.ours c).st (in_call p.ours c) a.code a.rows (command_of c.words)

pub told_many : (p : Past) (c : Call) (a : Reply) → (told p c a).many ≡ p.many + in_call p.ours c
told_many p c a = many_is p (meant p.ours c).st (in_call p.ours c) a.code a.rows (command_of c.words)

-- the evaluations so far, and those of these calls
abbrev pub up_to : Past → List Call → ℕ
up_to p h = p.many + in_calls p.ours h

pub up_to-told : (p : Past) (c : Call) (a : Reply) (h : List Call) → up_to (told p c a) h ≡ up_to p (c ∷ h)
unfolding in_calls
up_to-told p c a h =
    let m = told_many p c a in
    let e = ap (λ (s : St). in_calls s h) (told_ours p c a) in
    omega arith

-- two logs of the same calls
one_log : (h : List Call) (xs ys : List Reply) (p : Past) → RightLog p h xs → RightLog p h ys → up_to p h < 2 ^ 64 → xs ≡ ys
unfolding RightLog
one_log [] [] [] p A B few = refl
one_log [] [] (b ∷ ys) p A B few = absurd B
one_log [] (a ∷ xs) ys p A B few = absurd A
one_log (c ∷ h) [] ys p A B few = absurd A
one_log (c ∷ h) (a ∷ xs) [] p A B few = absurd B
one_log (c ∷ h) (a ∷ xs) (b ∷ ys) p A B few =
    let u = up_to-told p c a h in
    let v = up_to-told p c b h in
    let same = one_right p c a b (A.0 (omega arith)) (B.0 (omega arith)) in
    let rest = one_log h xs ys (told p c a) A.1 (subst (λ (x : Reply). RightLog (told p c x) h ys) (sym same) B.1) (omega arith) in
    ap₂ (λ (x : Reply) (zs : List Reply). x ∷ zs) same rest

-- an engine on its way, of which it is asked of any history
abbrev Asked : Engine → Course → Type 0
Asked E p = (h : List Call) (c : Call) → let x = after E p h in let a = E x.st c in let q = (now E x c).past in q.many < 2 ^ 64 → Right x.past c (seen a) q × Held a.st q

log_right : (E : Engine) (h : List Call) (p : Course) → Asked E p → RightLog p.past h (replies E p.st h)
unfolding replies after RightLog
log_right E [] p A = tt
log_right E (c ∷ h) p A = (λ few. (A [] c few).0, log_right E h (now E p c) (λ h' d. A (c ∷ h') d))

-- document 01's replies are right
pub meant_right : (r : Room) → capacities r ≡ true → (h : List Call) → RightLog (begun r) h (replies meant (empty r) h)
unfolding Demand3
meant_right r fits h = log_right meant h (begin r) (demand3 r fits)

-- NO WEAKER ENGINE. Whoever gave them, and whatever it keeps: replies that are all right are document 01's, one by one, the same codes, values and rows with what their runs read. From empty tables of any capacities; so long as these calls make fewer than 2^64 evaluations.
pub no_weaker_log : (r : Room) → capacities r ≡ true → (h : List Call) (xs : List Reply) → in_calls (empty r) h < 2 ^ 64 → RightLog (begun r) h xs → xs ≡ replies meant (empty r) h
no_weaker_log r fits h xs few A = one_log h xs (replies meant (empty r) h) (begun r) A (meant_right r fits h) (omega arith)

-- so an engine that keeps demand 3 replies to any calls as document 01's does
pub no_weaker : (E : Engine) → Demand3 E → (r : Room) → capacities r ≡ true → (h : List Call) → in_calls (empty r) h < 2 ^ 64 → replies E (empty r) h ≡ replies meant (empty r) h
unfolding Demand3
no_weaker E d r fits h few = no_weaker_log r fits h (replies E (empty r) h) few (log_right E h (begin r) (d r fits))

-- ---- and the state
-- where an engine stands in document 01's state, it answers as document 01's does, and leaves what that leaves
one_answer : (E : Engine) (p : Course) → Asked E p → Asked meant p → p.past.ours ≡ p.st → (c : Call) → p.past.many + in_call p.past.ours c < 2 ^ 64 → E p.st c ≡ meant p.st c
unfolding after
one_answer E p A B here c few =
    let a = E p.st c in
    let b = meant p.st c in
    let m = told_many p.past c (seen a) in
    let n = told_many p.past c (seen b) in
    let x = A [] c (omega arith) in
    let y = B [] c (omega arith) in
    let same = one_right p.past c (seen a) (seen b) x.0 y.0 in
    let st : a.st ≡ b.st = x.1.ours ∙ told_ours p.past c (seen a) ∙ ap (λ (s : St). (meant s c).st) here in
    λ i. record { st = st i; code = (same i).code; val = (same i).val; rows = (same i).rows }

same_answers : (E : Engine) (h : List Call) (c : Call) (p : Course) → Asked E p → Asked meant p → p.past.ours ≡ p.st → up_to p.past (h ++ c ∷ []) < 2 ^ 64 → E (after E p h).st c ≡ meant (after meant p h).st c
unfolding after in_calls
same_answers E [] c p A B here few = one_answer E p A B here c (omega arith)
same_answers E (d ∷ h) c p A B here few =
    let b = meant p.st d in
    let u = up_to-told p.past d (seen b) (h ++ c ∷ []) in
    let step : now E p d ≡ now meant p d = ap (λ (a : Answer). let x : Course = record { st = a.st; past = told p.past d (seen a) } in x) (one_answer E p A B here d (omega arith)) in
    let there : (now meant p d).past.ours ≡ b.st = told_ours p.past d (seen b) ∙ ap (λ (s : St). (meant s d).st) here in
    let rest = same_answers E h c (now meant p d) (subst (Asked E) step (λ h' k. A (d ∷ h') k)) (λ h' k. B (d ∷ h') k) there (omega arith) in
    subst (λ (x : Course). E (after E x h).st c ≡ meant (after meant (now meant p d) h).st c) (sym step) rest

-- NO OTHER ENGINE. One that keeps demand 3 is document 01's: after any history it answers any call with the same code, value and rows, and leaves the same state. From empty tables of any capacities; so long as these calls make fewer than 2^64 evaluations.
pub no_other_engine : (E : Engine) → Demand3 E → (r : Room) → capacities r ≡ true → (h : List Call) (c : Call) → in_calls (empty r) (h ++ c ∷ []) < 2 ^ 64 → E (after E (begin r) h).st c ≡ meant (after meant (begin r) h).st c
unfolding Demand3
no_other_engine E d r fits h c few = same_answers E h c (begin r) (d r fits) (demand3 r fits) refl (omega arith)
