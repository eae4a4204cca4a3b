-- The runs of a command fit the lent log, which keeps its length; so whoever reads a row for each run stays inside. Assumes nothing.
use mathlib.Core.Path.{◌≡◌, refl}
use mathlib.Core.Bool.{Bool, true, false}
use mathlib.Core.List.{List, ◌++◌}
use Prim.Native.Nat.{ℕ, zero, suc, ◌+◌, ◌*◌, ◌≤◌}
use native.Mathlib.Omega.{arith}
use lib.Dec.{eqb, ltb}
use lib.IntN.{ℤ}
use lib.ListN.{length, take, drop, length-set, length-take, length-drop, length-append}
use borrow.Author.Tests.{leb-true}
use Rattle.primitive.specs.declared.slots.Slot.{Slot}
use Rattle.primitive.specs.declared.slots.Slot.TheVariants.{At, Nothing}
use Rattle.values.specs.declared.Value.{Value}
use Rattle.values.specs.Values.{same}
use Rattle.queue.specs.Queue.{count, entry_at}
use Rattle.reading.specs.Tables.{State, pending_of}
use Rattle.operating.specs.Log.{Ran, ran_to, rowed, rows_in, fits_row}
use Rattle.operating.specs.Runs.{must_run, ran, ran_next, flushed_from, cleared, flushed}
use Rattle.operating.specs.Batches.{depth_of, flushed_at, ended_batch}
use Rattle.operating.specs.Writes.{announced, written, added}
use Rattle.operating.specs.Making.{new_effect}
use Rattle.refusing.specs.declared.commands.Command.{Command}
use Rattle.refusing.specs.declared.commands.Command.TheVariants as command
use Rattle.commanding.specs.Perform.{numbered, performed}
use Rattle.commanding.specs.Command.{refusal_in, answer, command_in}

-- the log is as long as l, and has room for the rows
record Inside (l : List ℤ) (r : Ran) : Type 0 where
  long : length r.log ≡ length l
  fit : r.rows * 2 ≤ length l

none_inside : (s : State) (l : List ℤ) → Inside l (ran_to s l 0)
none_inside s l = record { long = refl; fit = omega arith }

row_inside : (s : State) (l : List ℤ) (e : ℕ) (v : Value) → Inside l (ran_to s (rowed l e v) (rows_in l))
unfolding rowed rows_in
row_inside s l e v = go (fits_row l) refl
  where
    go : (b : Bool) → fits_row l ≡ b → Inside l (ran_to s (rowed l e v) (rows_in l))
    go true q = rw (q, rowed, rows_in) record { long = simp length-set; fit = leb-true 2 (length l) q }
    go false q = rw (q, rowed, rows_in) (none_inside s l)

module _ (ws : List ℤ) where
  ran_inside : (s : State) (l : List ℤ) (e : ℕ) → Inside l (ran ws s l e)
  unfolding ran
  ran_inside s l e = go (must_run ws s e).changed refl
    where
      go : (b : Bool) → (must_run ws s e).changed ≡ b → Inside l (ran ws s l e)
      go true q = rw (q, ran) (row_inside _ l e _)
      go false q = rw (q, ran) (none_inside _ l)

  next_inside : (l : List ℤ) (r : Ran) (e : ℕ) → Inside l r → Inside l (ran_next ws r e)
  unfolding ran_next
  next_inside l r e h =
      let at = r.rows * 2 in
      let q = ran ws r.after (drop at r.log) e in
      let one = ran_inside r.after (drop at r.log) e in
      let rest : length (drop at r.log) + at ≡ length l = omega (arith, length-drop at r.log, h.long, h.fit) in
      let parts : length (take at r.log ++ q.log) ≡ length (take at r.log) + length q.log = length-append (take at r.log) q.log in
      let front : length (take at r.log) ≡ at = omega (arith, length-take at r.log, h.long, h.fit) in
      record {
        long = omega (arith, parts, front, one.long, rest);
        fit = omega (arith, one.fit, rest);
      }

  from_inside : (k i : ℕ) (l : List ℤ) (r : Ran) → Inside l r → Inside l (flushed_from ws k i r)
  unfolding flushed_from
  from_inside zero i l r h = h
  from_inside (suc k) i l r h = go (ltb i (count r.after.nodes)) refl (from_inside k (suc i) l (ran_next ws r (entry_at r.after.nodes i)) (next_inside l r (entry_at r.after.nodes i) h))
    where
      go : (b : Bool) → ltb i (count r.after.nodes) ≡ b → Inside l (flushed_from ws k (suc i) (ran_next ws r (entry_at r.after.nodes i))) → Inside l (flushed_from ws (suc k) i r)
      go true q more = rw (q, flushed_from) more
      go false q more = rw (q, flushed_from) h

  flush_inside : (s : State) (l : List ℤ) → Inside l (flushed ws s l)
  unfolding flushed cleared
  flush_inside s l = let h = from_inside _ 0 l (ran_to s l 0) (none_inside s l) in record { long = h.long; fit = h.fit }

  at_inside : (s : State) (l : List ℤ) (d : ℕ) → Inside l (flushed_at ws s l d)
  unfolding flushed_at
  at_inside s l d = go (eqb d 0) refl
    where
      go : (b : Bool) → eqb d 0 ≡ b → Inside l (flushed_at ws s l d)
      go true q = rw (q, flushed_at) (flush_inside s l)
      go false q = rw (q, flushed_at) (none_inside s l)

  end_inside : (s : State) (l : List ℤ) → Inside l (ended_batch ws s l)
  unfolding ended_batch
  end_inside s l = go (eqb (depth_of s.nodes) 0) refl
    where
      go : (b : Bool) → eqb (depth_of s.nodes) 0 ≡ b → Inside l (ended_batch ws s l)
      go true q = rw (q, ended_batch) (none_inside s l)
      go false q = rw (q, ended_batch) (at_inside _ l _)

  told_inside : (s : State) (l : List ℤ) (x : Slot) → Inside l (announced ws s l x)
  unfolding announced
  told_inside s l Nothing = none_inside s l
  told_inside s l (At x) = at_inside _ l _

  written_inside : (s : State) (l : List ℤ) (n : ℕ) (v : Value) → Inside l (written ws s l n v)
  unfolding written
  written_inside s l n v = go (same (pending_of s.values n) v) refl
    where
      go : (b : Bool) → same (pending_of s.values n) v ≡ b → Inside l (written ws s l n v)
      go true q = rw (q, written) (none_inside s l)
      go false q = rw (q, written) (told_inside _ l _)

effect_inside : (s : State) (c l : List ℤ) (w : ℕ) (ws : List ℤ) → Inside l (new_effect s c l w ws).ran
unfolding new_effect
effect_inside s c l w ws = row_inside _ l _ _

done_inside : (s : State) (c l : List ℤ) (a : Command) (ws : List ℤ) → Inside l (performed s c l a ws).ran
unfolding performed numbered added
done_inside s c l (command.Signal k) ws = none_inside _ l
done_inside s c l command.Computed ws = none_inside _ l
done_inside s c l (command.Effect o) ws = effect_inside s c l _ ws
done_inside s c l (command.Scope o) ws = none_inside _ l
done_inside s c l (command.Set n k) ws = written_inside c s l _ _
done_inside s c l (command.Add n k) ws = written_inside c s l _ _
done_inside s c l (command.Read n) ws = none_inside _ l
done_inside s c l (command.Dispose n) ws = none_inside _ l
done_inside s c l command.Start ws = none_inside _ l
done_inside s c l command.End ws = end_inside c s l
done_inside s c l command.Unknown ws = none_inside _ l

module _ (n l : List ℕ) (v c g ws : List ℤ) where
  answer_inside : (r : ℕ) → (length (answer r n l v c g ws).log ≡ length g) × ((answer r n l v c g ws).runs * 2 ≤ length g)
  unfolding answer
  answer_inside zero = let h = done_inside _ c g _ _ in (h.long, h.fit)
  answer_inside (suc r) = (refl, omega arith)

  -- the log keeps its length
  pub log_long : length (command_in n l v c g ws).log ≡ length g
  unfolding command_in
  log_long = (answer_inside (refusal_in n l v c g ws)).0

  -- and has a row for each run
  pub runs_fit : (command_in n l v c g ws).runs * 2 ≤ length g
  unfolding command_in
  runs_fit = (answer_inside (refusal_in n l v c g ws)).1
