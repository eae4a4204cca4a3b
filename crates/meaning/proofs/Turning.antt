-- A flush gives each queued effect its turn, in the queue's order, and who is live and dirty then has a row (specs/Turns). Assumes nothing.
use mathlib.Core.Path.{◌≡◌, refl, sym, ap, ◌∙◌, subst}
use mathlib.Core.Logic.{inl}
use mathlib.Core.Bool.{Bool, true, false}
use mathlib.Core.List.{List, [], ◌∷◌, ◌++◌, append_assoc, append-nil}
use Prim.Native.Nat.{ℕ}
use Rattle.values.specs.declared.Value.{Value}
use Rattle.meaning.specs.State.{St, Row, f2}
use Rattle.meaning.specs.Setters.{with_queue, set_fl}
use Rattle.meaning.specs.Reads.{check}
use Rattle.meaning.specs.Marks.{Marks, marks_of, with_marks}
use Rattle.meaning.specs.Engine.{rerun, run, flush_on}
use Rattle.meaning.specs.Words.{Command}
use Rattle.meaning.specs.WellFormed.{In}
use Rattle.meaning.specs.Moments.{Steps}
use Rattle.meaning.specs.Outcome.{Writes, sets, adds}
use Rattle.meaning.specs.Checks.{Checks}
use Rattle.meaning.specs.Order.{Walked}
use Rattle.meaning.specs.Turns.{InTurn, ends, gone, clean, unchanged, changed, dirty, wrote, FlushBegins, as_before, walks, batch}
use Rattle.meaning.proofs.Laws.{clash, false≢true, either, branch}
use Rattle.meaning.proofs.Rings.{check_ring, rerun_ring}
use Rattle.meaning.proofs.Still.{Given, Fixed, Still, renews_still}
use Rattle.meaning.proofs.Steps.{no_flag_no_run}
use Rattle.meaning.proofs.Flush.{run_queues_nothing, rerun_row, whos}
use Rattle.meaning.proofs.Inside.{nobody, Static, Inside}
use Rattle.meaning.proofs.Running.{run_inside}
use Rattle.meaning.proofs.Ordered.{walked_one}
use Rattle.meaning.proofs.Throughout.{unstuck}
use Rattle.meaning.proofs.Stepped.{runs}
use Rattle.meaning.proofs.Checking.{check_looks}
use Rattle.meaning.proofs.Enough.{checks_one}

-- the rest of the queue, from t on, with what the rows say
abbrev Rest : St → List ℕ → List Row → Type 0
Rest t q l = (rs : List Row) × (l ≡ t.log ++ rs) × InTurn t q (whos rs)

-- the turn of e: whatever the rest of the flush comes to, with it the flush comes to one row more, or to none more
record Turn (s : St) (e : ℕ) (q : List ℕ) (t : St) : Type 0 where
  pub comes : t.stuck ≡ false → (l : List Row) → Rest t q l → Rest s (e ∷ q) l

no_row : (s t : St) (e : ℕ) (q : List ℕ) → t.log ≡ s.log → (t.stuck ≡ false → (r : List ℕ) → InTurn t q r → InTurn s (e ∷ q) r) → Turn s e q t
no_row s t e q p step = record { comes = λ z l f. (f.0, f.1 ∙ ap (λ (x : List Row). x ++ f.0) p, step z (whos f.0) f.2) }

one_row : (s x : St) (e : ℕ) (q : List ℕ) → x.log ≡ s.log → ((rerun x e).stuck ≡ false → (r : List ℕ) → InTurn (rerun x e) q r → InTurn s (e ∷ q) (e ∷ r)) → Turn s e q (rerun x e)
unfolding whos
one_row s x e q p step =
    let w = rerun_row x e in
    record {
      comes = λ z l f. (
        w.0 ∷ f.0,
        f.1 ∙ ap (λ (y : List Row). y ++ f.0) (w.2 ∙ ap (λ (y : List Row). y ++ w.0 ∷ []) p) ∙ append_assoc s.log (w.0 ∷ []) f.0,
        subst (λ (n : ℕ). InTurn s (e ∷ q) (n ∷ whos f.0)) (sym w.1) (step z (whos f.0) f.2),
      );
    }

-- a live effect, by its flags; s' is s without it in the queue
live_turn : (s : St) (e : ℕ) (q : List ℕ) → s.gone e ≡ false → Turn s e q (run (with_queue s q) e)
unfolding run
live_turn s e q a =
    let s' = with_queue s q in
    let c = check s' e in
    let p : c.st.log ≡ s.log = ap (λ (f : Fixed). f.log) (check_ring Still renews_still s' e).same in
    let looks : c.st.stuck ≡ false → (b : Bool) → c.yes ≡ b → Checks s' e c.st b = λ z b y. subst (Checks s' e c.st) y (check_looks s.size s' e z) in
    branch (Turn s e q) (s.fl e).dirty (λ d. one_row s s' e q refl (λ z r f. dirty e a d f))
    (λ d. branch (Turn s e q) (s.fl e).pending
    (λ pd. branch (Turn s e q) c.yes
    (λ y. one_row s c.st e q p (λ z r f. changed e a d pd (looks (unstuck c.st (rerun c.st e) (rerun_ring Steps runs c.st e) z) true y) f))
    (λ y. no_row s (set_fl c.st e f2) e q p (λ z r f. unchanged e a d pd (looks z false y) f)))
    (λ pd. no_row s (set_fl s' e f2) e q refl (λ z r f. clean e a d pd f)))

-- a gone one has no flag
gone_turn : (s : St) (e : ℕ) (q : List ℕ) → s.gone e ≡ true → run (with_queue s q) e ≡ set_fl (with_queue s q) e f2 → Turn s e q (run (with_queue s q) e)
gone_turn s e q a p = subst (Turn s e q) (sym p) (no_row s (set_fl (with_queue s q) e f2) e q refl (λ z r f. gone e a f))

module _ (g : Given) (st : Static g) where
  -- the flush of a queue from tables that are well formed inside, and not stuck
  pub flush_in_turn : (q : List ℕ) (s : St) → Inside g nobody s → s.queue ≡ q → s.stuck ≡ false → Rest s q (flush_on s q).log
  unfolding flush_on whos
  flush_in_turn [] s i is z = ([], sym (append-nil s.log), ends)
  flush_in_turn (e ∷ q) s i is z =
      let here : In e s.queue = subst (In e) (sym is) (inl refl) in
      let x = i.effects e here in
      let r = run_inside g st e x.0 x.1 s q i is in
      let free = r.stuck ∙ z in
      let t : Turn s e q (run (with_queue s q) e) = either (s.gone e) (λ a. gone_turn s e q a (no_flag_no_run (with_queue s q) e ((i.rests e x.0 (λ y. y)).queued here a))) (λ a. live_turn s e q a) in
      t.comes free (flush_on s (e ∷ q)).log (flush_in_turn q (run (with_queue s q) e) r.inside (run_queues_nothing (with_queue s q) e) free)

-- ---- the specification tells one order, no two
pub in_turn_one : {s : St} {q r p : List ℕ} → InTurn s q r → InTurn s q p → r ≡ p
in_turn_one ends ends = refl
in_turn_one (gone e a f) (gone d b g) = in_turn_one f g
in_turn_one (gone e a f) (clean d b u v g) = clash a b
in_turn_one (gone e a f) (unchanged d b u v k g) = clash a b
in_turn_one (gone e a f) (changed d b u v k g) = clash a b
in_turn_one (gone e a f) (dirty d b u g) = clash a b
in_turn_one (clean e a u v f) (gone d b g) = clash b a
in_turn_one (clean e a u v f) (clean d b x y g) = in_turn_one f g
in_turn_one (clean e a u v f) (unchanged d b x y k g) = clash y v
in_turn_one (clean e a u v f) (changed d b x y k g) = clash y v
in_turn_one (clean e a u v f) (dirty d b x g) = clash x u
in_turn_one (unchanged e a u v h f) (gone d b g) = clash b a
in_turn_one (unchanged e a u v h f) (clean d b x y g) = clash v y
in_turn_one {p = p} (unchanged {q = q} e a u v h f) (unchanged d b x y k g) = in_turn_one f (subst (λ (z : St). InTurn (set_fl z e f2) q p) (sym (checks_one _ e _ _ false false h k).0) g)
in_turn_one (unchanged e a u v h f) (changed d b x y k g) = false≢true (checks_one _ e _ _ false true h k).1
in_turn_one (unchanged e a u v h f) (dirty d b x g) = clash x u
in_turn_one (changed e a u v h f) (gone d b g) = clash b a
in_turn_one (changed e a u v h f) (clean d b x y g) = clash v y
in_turn_one (changed e a u v h f) (unchanged d b x y k g) = false≢true (sym (checks_one _ e _ _ true false h k).1)
in_turn_one (changed {q = q} e a u v h f) (changed {r = r} d b x y k g) = ap (λ (l : List ℕ). e ∷ l) (in_turn_one f (subst (λ (z : St). InTurn (rerun z e) q r) (sym (checks_one _ e _ _ true true h k).0) g))
in_turn_one (changed e a u v h f) (dirty d b x g) = clash x u
in_turn_one (dirty e a u f) (gone d b g) = clash b a
in_turn_one (dirty e a u f) (clean d b x y g) = clash u x
in_turn_one (dirty e a u f) (unchanged d b x y k g) = clash u x
in_turn_one (dirty e a u f) (changed d b x y k g) = clash u x
in_turn_one (dirty e a u f) (dirty d b x g) = ap (λ (l : List ℕ). e ∷ l) (in_turn_one f g)

-- a command writes one value at one signal
writes_one : {s : St} {c : Command} {n : ℕ} {x : Value} → Writes s c n x → {m : ℕ} {y : Value} → Writes s c m y → (n ≡ m) × (x ≡ y)
writes_one (sets n v) (sets _ _) = (refl, refl)
writes_one (adds n v) (adds _ _) = (refl, refl)

-- a new value there is no old one
was_old : (s : St) {n m : ℕ} {x y : Value} → (n ≡ m) × (x ≡ y) → s.pend n ≡ x → s.pend m ≡ y
was_old s {y = y} p e = subst (λ (k : ℕ). s.pend k ≡ y) p.0 (e ∙ p.1)

written_one : (s : St) {n m : ℕ} {x y : Value} {a b : Marks} → (n ≡ m) × (x ≡ y) → Walked (wrote s n x) (marks_of (wrote s n x)) (s.subs n) a
    → Walked (wrote s m y) (marks_of (wrote s m y)) (s.subs m) b → with_marks (wrote s n x) a ≡ with_marks (wrote s m y) b
written_one s {n = n} {m = m} {x = x} {y = y} {a = a} {b = b} p h i = same n p.0 x p.1 h
  where
    same : (k : ℕ) → k ≡ m → (z : Value) → z ≡ y → Walked (wrote s k z) (marks_of (wrote s k z)) (s.subs k) a → with_marks (wrote s k z) a ≡ with_marks (wrote s m y) b
    same k q z r w = subst (λ (j : ℕ). Walked (wrote s j z) (marks_of (wrote s j z)) (s.subs j) a → with_marks (wrote s j z) a ≡ with_marks (wrote s m y) b) (sym q)
        (subst (λ (o : Value). Walked (wrote s m o) (marks_of (wrote s m o)) (s.subs m) a → with_marks (wrote s m o) a ≡ with_marks (wrote s m y) b) (sym r) (λ u. ap (with_marks (wrote s m y)) (walked_one u i))) w

pub begins_one : {s p q : St} {c : Command} → FlushBegins s c p → FlushBegins s c q → p ≡ q
begins_one {s = s} (as_before {n = n} a e) batch = elim a [ ]
begins_one {s = s} (walks {n = n} {m = m} a f h) batch = elim a [ ]
begins_one {s = s} batch (as_before {n = n} b f) = elim b [ ]
begins_one {s = s} batch (walks {n = n} {m = m} b f h) = elim b [ ]
begins_one (as_before a e) (as_before b f) = refl
begins_one {s = s} (as_before a e) (walks b f h) = absurd (f (was_old s (writes_one a b) e))
begins_one {s = s} (walks a f h) (as_before b e) = absurd (f (was_old s (writes_one b a) e))
begins_one {s = s} (walks a f h) (walks b g i) = written_one s (writes_one a b) h i
begins_one batch batch = refl
