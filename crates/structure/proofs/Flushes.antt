-- The flush over words is the flush over lists: the queue is walked in its order, each run writes its row after the last, and then the queue is empty. Assumes nothing.
use mathlib.Core.Path.{◌≡◌, refl, sym, ap, ◌∙◌, subst}
use mathlib.Core.Logic.{inl, inr}
use mathlib.Core.Bool.{Bool, true, false, ◌&&◌}
use mathlib.Core.List.{List, [], ◌∷◌, ◌++◌, append_assoc}
use Prim.Native.Nat.{ℕ, zero, suc, ◌+◌, ◌*◌, ◌^◌, ◌<◌, ◌≤◌}
use native.Mathlib.Omega.{arith}
use lib.Dec.{leb}
use lib.IntN.{ℤ}
use lib.ListN.{length, get_or, set, length-set, length-append, take, drop}
use lib.Seq.{get_or-set_same, get_or-set_other, get_or-append_seam}
use borrow.Author.Tests.{eqb-false, leb-true, lt-ltb, le-ltb}
use Rattle.queue.specs.Queue.{count, entry_at, emptied}
use Rattle.primitive.specs.Rows.{field}
use Rattle.primitive.specs.Words.{QUEUE, node_rows}
use Rattle.primitive.proofs.RowLaws.{field_after_header}
use Rattle.queue.proofs.QueueLaws.{get_or-queue, queue_emptied}
use Rattle.linking.specs.Table.{tab}
use Rattle.reading.specs.Tables.{State, state}
use Rattle.operating.specs.Log.{Ran, ran_to, rowed}
use Rattle.operating.proofs.RunLaws.{count_low}
use Rattle.operating.specs.Runs.{ran, ran_next, flushed_from, cleared, flushed}
use Rattle.meaning.specs.State.{St, Row, within}
use Rattle.meaning.specs.Setters.{with_queue}
use Rattle.meaning.specs.Engine.{run, flush_on, flush}
use Rattle.meaning.specs.WellFormed.{In}
use Rattle.meaning.proofs.Still.{Given}
use Rattle.meaning.proofs.Inside.{nobody, Static, Inside}
use Rattle.meaning.proofs.Flush.{run_queues_nothing, flush_runs, flush_empties}
use Rattle.meaning.proofs.Running.{run_inside}
use Rattle.structure.specs.Logged.{Logged}
use Rattle.structure.proofs.WordLaws.{queue_long}
use Rattle.structure.proofs.Complete.{both}
use Rattle.structure.proofs.Held.{keep_flags}
use Rattle.structure.proofs.Marked.{Kept, Marked, shows_marked, marked_shows}
use Rattle.structure.proofs.Steps.{Sees}
use Rattle.structure.proofs.LogRows.{Leaves, log_none, log_same, log_more}
use Rattle.structure.proofs.Runs.{Wrote, run_sees}

-- ---- the queue, and what a flush has done of it
module _ (x : State) (C : List ℤ) (s : St) where
  pub popped_sees : (before q : List ℕ) (e : ℕ) → s.queue ≡ e ∷ q → Sees before x C s → Sees (before ++ e ∷ []) x C (with_queue s q)
  popped_sees before q e is r =
      let k : before ++ s.queue ≡ (before ++ e ∷ []) ++ q = ap (λ (z : List ℕ). before ++ z) is ∙ sym (append_assoc before (e ∷ []) q) in
      record {
        lengths = r.lengths;
        registers = r.registers;
        kinds = r.kinds;
        flags = r.flags;
        values = r.values;
        forms = r.forms;
        slots = r.slots;
        deps = r.deps;
        subs = r.subs;
        free = r.free;
        queue = record { entries = r.queue.entries ∙ k; waiting = r.queue.waiting ∙ ap length k };
      }

  queue_count : (before : List ℕ) → Sees before x C s → count x.nodes ≡ length before + length s.queue
  queue_count before r = sym (queue_long x.nodes) ∙ ap length r.queue.entries ∙ length-append before s.queue

  -- the next entry
  next_entry : (before q : List ℕ) (e : ℕ) → s.queue ≡ e ∷ q → Sees before x C s → entry_at x.nodes (length before) ≡ e
  next_entry before q e is r =
      let n = queue_count before r in
      let k = ap length is in
      sym (get_or-queue x.nodes (length before) (omega arith)) ∙ ap (λ (z : List ℕ). get_or z (length before) 0) (r.queue.entries ∙ ap (λ (z : List ℕ). before ++ z) is) ∙ get_or-append_seam before e q 0

  -- the queue is emptied
  emptied_sees : (before : List ℕ) → s.queue ≡ [] → Sees before x C s → Sees [] (state (emptied x.nodes) x.links x.values) C s
  unfolding emptied
  emptied_sees before none r =
      let N = x.nodes in
      let e = r.lengths.of_nodes in
      let m = shows_marked before (tab N x.links) x.values C s r in
      let same : (n f : ℕ) → field 16 (set N QUEUE 0) n f ≡ field 16 N n f = λ n f. field_after_header 16 N n f 0 QUEUE (omega arith) in
      let kept : Kept N (set N QUEUE 0) = record {
        column = λ n f a b. same n f;
        header = λ i h a. get_or-set_other N QUEUE i 0 0 (eqb-false i QUEUE a);
        long = length-set N QUEUE 0;
      } in
      let marked : Marked [] (set N QUEUE 0) s s.fl s.queue = record {
        flags = keep_flags N (set N QUEUE 0) _ _ (λ n. same n 0) m.flags;
        queue = record { entries = queue_emptied N ∙ sym none; waiting = get_or-set_same N QUEUE 0 0 (omega arith) ∙ sym (ap length none) };
        heads = λ n h. same n 5 ∙ m.heads n h;
        long = length-set N QUEUE 0 ∙ m.long;
      } in
      marked_shows before [] (tab N x.links) (set N QUEUE 0) x.values C s s.fl s.queue s.stuck r kept marked

-- numbers of nodes are far below 2 ^ 63
pub nodes_few : (g : Given) → Static g → g.room.nodes ≤ 1024
nodes_few g st =
    let r = g.room in
    let a = both (within r.nodes 1024) (within r.slots 8192 && within r.cells 8192) st.room_within in
    leb-true r.nodes 1024 (both (leb 1 r.nodes) (leb r.nodes 1024) a.0).1

module _ (g : Given) (st : Static g) (C : List ℤ) (l : List ℤ) where
  -- a run writes its row after the last
  log_on : (e : ℕ) (s t : St) (m : List ℤ) (k : ℕ) (a : Ran) → e < 2 ^ 63 → Logged l s.log m k → length t.log * 2 ≤ length l → Wrote (drop (k * 2) m) e s a t → Logged l t.log (take (k * 2) m ++ a.log) (k + a.rows)
  log_on e s t m k a low w fit (inl z) =
      subst (λ (rs : List Row). Logged l rs (take (k * 2) m ++ a.log) (k + a.rows)) (sym z.2)
      (subst (λ (y : List ℤ). Logged l s.log (take (k * 2) m ++ y) (k + a.rows)) (sym z.0) (subst (λ (n : ℕ). Logged l s.log (take (k * 2) m ++ drop (k * 2) m) (k + n)) (sym z.1) (log_same l s.log m k w)))
  log_on e s t m k a low w fit (inr z) =
      let r : Row = z.0 in
      subst (λ (rs : List Row). Logged l rs (take (k * 2) m ++ a.log) (k + a.rows)) (sym z.4)
      (subst (λ (y : List ℤ). Logged l (s.log ++ r ∷ []) (take (k * 2) m ++ y) (k + a.rows)) (sym (z.2 ∙ ap (λ (n : ℕ). rowed (drop (k * 2) m) n r.worth) (sym z.1)))
      (subst (λ (n : ℕ). Logged l (s.log ++ r ∷ []) (take (k * 2) m ++ rowed (drop (k * 2) m) r.who r.worth) (k + n)) (sym z.3)
      (log_more l s.log m k w r (subst (λ (rs : List Row). length rs * 2 ≤ length l) z.4 fit) (subst (λ (n : ℕ). n < 2 ^ 63) (sym z.1) low))))

  abbrev Alike : Ran → St → Type 0
  Alike a t = ((ran : List ℕ) × Sees ran a.after C t) × Logged l t.log a.log a.rows

  -- entries from the first that did not run
  flush_turns : (q before : List ℕ) (k n : ℕ) (x : State) (m : List ℤ) (s : St) → Inside g nobody s → s.queue ≡ q → s.stuck ≡ false → length q ≤ k → Sees before x C s → Logged l s.log m n
      → length (flush_on s q).log * 2 ≤ length l → Alike (flushed_from C k (length before) (ran_to x m n)) (flush_on s q)
  unfolding flushed_from flush_on ran_next
  flush_turns [] before zero n x m s i is free h r w fit = ((before, r), w)
  flush_turns [] before (suc k) n x m s i is free h r w fit =
      let c = queue_count x C s before r in
      let z = ap length is in
      subst (λ (b : Bool). Alike (elim b [ true ↦ flushed_from C k (suc (length before)) (ran_next C (ran_to x m n) (entry_at x.nodes (length before))) | false ↦ ran_to x m n ]) s) (sym (le-ltb (length before) (count x.nodes) (omega arith))) ((before, r), w)
  flush_turns (e ∷ q) before zero n x m s i is free h r w fit = absurd (omega arith)
  flush_turns (e ∷ q) before (suc k) n x m s i is free h r w fit =
      let c = queue_count x C s before r in
      let z = ap length is in
      let y = i.effects e (subst (In e) (sym is) (inl refl)) in
      let low = y.0 in
      let t = run (with_queue s q) e in
      let p : Ran = ran C x (drop (n * 2) m) e in
      let v = run_sees g st C (before ++ e ∷ []) e y.0 y.1 s q i is free x (popped_sees x C s before q e is r) (drop (n * 2) m) in
      let j = run_inside g st e y.0 y.1 s q i is in
      let f = flush_runs q t in
      let fit' : length t.log * 2 ≤ length l = let a = ap length f.1 in let b = length-append t.log f.0 in omega arith in
      let few : e < 2 ^ 63 = let a = nodes_few g st in let b = st.nodes_fit in omega arith in
      let w' : Logged l t.log (take (n * 2) m ++ p.log) (n + p.rows) = log_on e s t m n p few w fit' v.1 in
      let next : ℕ → Ran = λ a. flushed_from C k (suc (length before)) (ran_next C (ran_to x m n) a) in
      let one : length (before ++ e ∷ []) ≡ suc (length before) = length-append before (e ∷ []) ∙ omega arith in
      subst (λ (b : Bool). Alike (elim b [ true ↦ next (entry_at x.nodes (length before)) | false ↦ ran_to x m n ]) (flush_on t q)) (sym (lt-ltb (length before) (count x.nodes) (omega arith)))
      (subst (λ (a : ℕ). Alike (next a) (flush_on t q)) (sym (next_entry x C s before q e is r))
      (subst (λ (a : ℕ). Alike (flushed_from C k a (ran_to p.after (take (n * 2) m ++ p.log) (n + p.rows))) (flush_on t q)) one
      (flush_turns q (before ++ e ∷ []) k (n + p.rows) p.after (take (n * 2) m ++ p.log) t j.inside (run_queues_nothing (with_queue s q) e) (j.stuck ∙ free) (omega arith) v.0 w' fit)))

  -- whatever budget is enough
  pub flush_within : (x : State) (s : St) → Inside g nobody s → s.stuck ≡ false → s.log ≡ [] → length (flush s).log * 2 ≤ length l → Sees [] x C s → (k : ℕ) → node_rows x.nodes ≤ k
      → Leaves l C (cleared (flushed_from C k 0 (ran_to x l 0))) (flush s)
  unfolding cleared
  flush_within x s i free blank fit r k many =
      let c = queue_count x C s [] r in
      let b = count_low x.nodes in
      let w : Logged l s.log l 0 = subst (λ (rs : List Row). Logged l rs l 0) (sym blank) (log_none l) in
      let f = flush_turns s.queue [] k 0 x l s i refl free (omega arith) r w fit in
      let a = flushed_from C k 0 (ran_to x l 0) in
      record { sees = emptied_sees a.after C (flush s) f.0.0 (flush_empties s) f.0.1; logs = f.1 }

  pub flush_sees : (x : State) (s : St) → Inside g nobody s → s.stuck ≡ false → s.log ≡ [] → length (flush s).log * 2 ≤ length l → Sees [] x C s → Leaves l C (flushed C x l) (flush s)
  unfolding flushed
  flush_sees x s i free blank fit r = flush_within x s i free blank fit r (node_rows x.nodes) (omega arith)
