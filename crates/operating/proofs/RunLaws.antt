-- The ways through a run, a flush, a write and a batch, one law each. Assumes nothing.
use mathlib.Core.Path.{◌≡◌, refl, sym, ap, ◌∙◌}
use mathlib.Core.Bool.{Bool, true, false}
use mathlib.Core.List.{List, ◌++◌, append-nil}
use Prim.Native.Nat.{ℕ, zero, suc, ◌+◌, ◌*◌, ◌-◌, ◌<◌, ◌≤◌}
use native.Mathlib.Omega.{arith}
use native.Mathlib.Numerals.{add-one}
use lib.Dec.{leb}
use lib.IntN.{ℤ}
use lib.ListN.{length, set, take, drop, length-drop, drop_of_length-le}
use lib.Seq.{take_all}
use borrow.Author.Tests.{eq-eqb, ne_eqb, lt-ltb, le-ltb, lt-leb, le-leb, leb-true}
use borrow.Rule.Slice.PartMut.{mid_of, put_mid}
use Rattle.primitive.specs.declared.slots.Slot.TheVariants.{At, Nothing}
use Rattle.values.specs.declared.Value.{Value}
use Rattle.primitive.specs.Slots.{slot_of}
use Rattle.values.specs.Values.{same, sum}
use Rattle.primitive.specs.Words.{DEPTH, node_rows}
use Rattle.queue.specs.Queue.{count, entry_at}
use Rattle.marking.specs.Fields.{flags_of, set_flags, watching, dirty, pending, has, subs}
use Rattle.marking.specs.Walks.{propagated}
use Rattle.reading.specs.Tables.{State, state, Told, told, Got, current_of, pending_of}
use Rattle.reading.specs.Read.{checked}
use Rattle.operating.specs.Log.{Ran, ran_to, rowed, rows_in, number_word}
use Rattle.operating.specs.Runs.{must_run, reran, ran, ran_next, flushed_from, flushed}
use Rattle.operating.specs.Batches.{depth_of, flushed_at, ended_batch}
use Rattle.operating.specs.Writes.{stored, announced, written, added}

-- ---- rows
pub no_row : (l : List ℤ) (e : ℕ) (v : Value) → length l < 2 → l ≡ rowed l e v
unfolding rowed
no_row l e v h = rw (lt-leb _ _ h, rowed)

pub no_rows : (l : List ℤ) → length l < 2 → 0 ≡ rows_in l
unfolding rows_in
no_rows l h = rw (lt-leb _ _ h, rows_in)

pub one_row : (l : List ℤ) (e : ℕ) (v : Value) → 2 ≤ length l → set (set l 0 (number_word e)) 1 v.word ≡ rowed l e v
unfolding rowed
one_row l e v h = rw (le-leb _ _ h, rowed)

rows_fit : (l : List ℤ) → rows_in l * 2 ≤ length l
unfolding rows_in
rows_fit l = go (leb 2 (length l)) refl
  where
    go : (b : Bool) → leb 2 (length l) ≡ b → rows_in l * 2 ≤ length l
    go true e = rw (e, rows_in) (leb-true _ _ e)
    go false e = rw (e, rows_in) (omega arith)

-- ---- whether an effect must run
module _ (ws : List ℤ) (s : State) (e : ℕ) {f : ℕ} (q : f ≡ flags_of s.nodes e) {y : Bool} (a : y ≡ has f dirty) where
  pub must_dirty : y ≡ true → told true s ≡ must_run ws s e
  unfolding must_run
  must_dirty p =
      let z : has (flags_of s.nodes e) dirty ≡ true = rw (← q) (sym a ∙ p) in
      rw (z, must_run)

  module _ (h : y ≡ false) {x : Bool} (b : x ≡ has f pending) where
    pub must_check : {t : Told} → x ≡ true → t ≡ checked ws s e → t ≡ must_run ws s e
    unfolding must_run
    must_check p g =
        let z : has (flags_of s.nodes e) dirty ≡ false = rw (← q) (sym a ∙ h) in
        let w : has (flags_of s.nodes e) pending ≡ true = rw (← q) (sym b ∙ p) in
        rw (z, w, must_run) g

    pub must_not : x ≡ false → told false s ≡ must_run ws s e
    unfolding must_run
    must_not p =
        let z : has (flags_of s.nodes e) dirty ≡ false = rw (← q) (sym a ∙ h) in
        let w : has (flags_of s.nodes e) pending ≡ false = rw (← q) (sym b ∙ p) in
        rw (z, w, must_run)

-- ---- a run
module _ (ws : List ℤ) (s : State) (l : List ℤ) (e : ℕ) (t : Told) (h : t ≡ must_run ws s e) where
  pub ran_once : {g : Got} {m : List ℤ} {k : ℕ} → t.changed ≡ true → g ≡ reran ws t.after e → k ≡ rows_in l → m ≡ rowed l e g.value → ran_to g.after m k ≡ ran ws s l e
  unfolding ran
  ran_once p q r o =
      let z : (must_run ws s e).changed ≡ true = rw (← h) p in
      rw (z, ran, ← h, ← q, r, o)

  pub ran_not : t.changed ≡ false → ran_to (state (set_flags t.after.nodes e watching) t.after.links t.after.values) l 0 ≡ ran ws s l e
  unfolding ran
  ran_not p =
      let z : (must_run ws s e).changed ≡ false = rw (← h) p in
      rw (z, ran, ← h)

pub ran_fits : (ws : List ℤ) (s : State) (l : List ℤ) (e : ℕ) → (ran ws s l e).rows * 2 ≤ length l
unfolding ran
ran_fits ws s l e = go (must_run ws s e).changed refl
  where
    go : (b : Bool) → (must_run ws s e).changed ≡ b → (ran ws s l e).rows * 2 ≤ length l
    go true q = rw (q, ran) (rows_fit l)
    go false q = rw (q, ran) (omega arith)

-- ---- the flush
-- a part from a to the end: what is lent, and the whole as it comes back
pub rest_of : (a : ℕ) (xs : List ℤ) → mid_of a (length xs - a) xs ≡ drop a xs
rest_of a xs = take_all (length xs - a) (drop a xs) (rw length-drop (omega arith))

pub put_rest : (a : ℕ) (xs ys : List ℤ) → a ≤ length xs → put_mid a (length xs - a) xs ys ≡ take a xs ++ ys
put_rest a xs ys h = ap (λ (z : List ℤ). take a xs ++ (ys ++ z)) (drop_of_length-le (drop a xs) {i = length xs - a} (rw length-drop (omega arith))) ∙ ap (λ (z : List ℤ). take a xs ++ z) (append-nil ys)

pub next_ran : (ws : List ℤ) (s t : State) (l m : List ℤ) (n k e : ℕ) → ran_to t m k ≡ ran ws s (drop (n * 2) l) e → ran_to t (take (n * 2) l ++ m) (n + k) ≡ ran_next ws (ran_to s l n) e
unfolding ran_next
next_ran ws s t l m n k e h = ap (λ (q : Ran). ran_to q.after (take (n * 2) l ++ q.log) (n + q.rows)) h

pub count_low : (N : List ℕ) → count N ≤ node_rows N - 1
unfolding count
count_low N = omega arith

pub flush_start : (ws : List ℤ) (k : ℕ) (r : Ran) → flushed_from ws (k - 0) 0 r ≡ flushed_from ws k 0 r
flush_start ws k r = ap (λ (j : ℕ). flushed_from ws j 0 r) (omega arith)

pub flush_step : (ws : List ℤ) (k i : ℕ) (r : Ran) → i < count r.after.nodes → i < k
    → flushed_from ws (k - i) i r ≡ flushed_from ws (k - (i + 1)) (i + 1) (ran_next ws r (entry_at r.after.nodes i))
unfolding flushed_from
flush_step ws k i r h g =
    let e : k - i ≡ suc (k - (i + 1)) = omega arith in
    rw (e, flushed_from, lt-ltb _ _ h, ← add-one i)

pub flush_done : (ws : List ℤ) (k i : ℕ) (r : Ran) → count r.after.nodes ≤ i → flushed_from ws k i r ≡ r
unfolding flushed_from
flush_done ws zero i r h = refl
flush_done ws (suc k) i r h = rw (le-ltb _ _ h, flushed_from)

at_zero : (ws : List ℤ) (s : State) (l : List ℤ) (d : ℕ) → d ≡ 0 → flushed ws s l ≡ flushed_at ws s l d
unfolding flushed_at
at_zero ws s l d h = rw (eq-eqb _ _ h, flushed_at)

at_more : (ws : List ℤ) (s : State) (l : List ℤ) (d : ℕ) → (d ≡ 0 → ⊥) → ran_to s l 0 ≡ flushed_at ws s l d
unfolding flushed_at
at_more ws s l d h = rw (ne_eqb _ _ h, flushed_at)

module _ (ws : List ℤ) (s : State) (l : List ℤ) (d : ℕ) (e : d ≡ depth_of s.nodes) where
  pub end_none : d ≡ 0 → ran_to s l 0 ≡ ended_batch ws s l
  unfolding ended_batch
  end_none h =
      let z : depth_of s.nodes ≡ 0 = omega arith in
      rw (eq-eqb _ _ z, ended_batch)

  -- one batch less
  abbrev less : State
  less = state (set s.nodes DEPTH (d - 1)) s.links s.values

  module _ (f : d ≡ 0 → ⊥) where
    end_some : flushed_at ws less l (d - 1) ≡ ended_batch ws s l
    unfolding ended_batch
    end_some =
        let z : depth_of s.nodes ≡ 0 → ⊥ = λ p. f (e ∙ p) in
        rw (ne_eqb _ _ z, ended_batch, ← e)

    pub end_last : {r : Ran} → d ≡ 1 → r ≡ flushed ws less l → r ≡ ended_batch ws s l
    end_last h g = g ∙ at_zero ws less l (d - 1) (omega arith) ∙ end_some

    pub end_inner : (d ≡ 1 → ⊥) → ran_to less l 0 ≡ ended_batch ws s l
    end_inner g = at_more ws less l (d - 1) (λ p. g (omega (arith, f))) ∙ end_some

-- ---- writes
module _ (ws : List ℤ) (s : State) (l : List ℤ) (n : ℕ) (v : Value) {p : Value} (a : p ≡ pending_of s.values n) {y : Bool} (b : y ≡ same p v) where
  pub write_same : y ≡ true → ran_to s l 0 ≡ written ws s l n v
  unfolding written
  write_same h =
      let z : same (pending_of s.values n) v ≡ true = rw (← a) (sym b ∙ h) in
      rw (z, written)

  module _ (h : y ≡ false) where
    pub write_alone : slot_of (subs (stored s n v).nodes n) ≡ Nothing → ran_to (stored s n v) l 0 ≡ written ws s l n v
    unfolding written announced
    write_alone g =
        let z : same (pending_of s.values n) v ≡ false = rw (← a) (sym b ∙ h) in
        rw (z, written, g, announced)

    module _ (x : ℕ) (g : slot_of (subs (stored s n v).nodes n) ≡ At x) (N : List ℕ) (q : N ≡ propagated (stored s n v).links (stored s n v).nodes x) where
      -- what depends on the signal is told
      abbrev heard : State
      heard = state N (stored s n v).links (stored s n v).values

      write_told : flushed_at ws heard l (depth_of N) ≡ written ws s l n v
      unfolding written announced
      write_told =
          let z : same (pending_of s.values n) v ≡ false = rw (← a) (sym b ∙ h) in
          rw (z, written, g, announced, ← q)

      pub write_flushed : {r : Ran} → depth_of N ≡ 0 → r ≡ flushed ws heard l → r ≡ written ws s l n v
      write_flushed d f = f ∙ at_zero ws heard l (depth_of N) d ∙ write_told

      pub write_batched : (depth_of N ≡ 0 → ⊥) → ran_to heard l 0 ≡ written ws s l n v
      write_batched d = at_more ws heard l (depth_of N) d ∙ write_told

pub add_written : (ws : List ℤ) (s : State) (l : List ℤ) (n : ℕ) (d : Value) {c v : Value} {r : Ran} → c ≡ current_of s.values n → v ≡ sum c d → r ≡ written ws s l n v → r ≡ added ws s l n d
unfolding added
add_written ws s l n d p q g = g ∙ ap (written ws s l n) (q ∙ ap (λ (x : Value). sum x d) p)
