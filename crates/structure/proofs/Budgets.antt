-- Budgets, the stack and bounds of the word definitions never end a walk: on tables that show a well-formed state, at rest or in the midst of a command, each that is not smaller
-- than the definition's own leaves tables that show what the lists leave. Propagation writes flags and the queue alone, so these are what it leaves. Assumes nothing.
use mathlib.Core.Path.{◌≡◌}
use mathlib.Core.Bool.{true, false}
use mathlib.Core.List.{List, [], ◌∷◌, ◌++◌, reverse}
use Prim.Native.Nat.{ℕ, ◌+◌, ◌*◌, ◌<◌, ◌≤◌}
use lib.IntN.{ℤ}
use lib.ListN.{length, replicate}
use Rattle.flags.specs.declared.Named.{Named}
use Rattle.queue.specs.Queue.{count, reversed_from}
use Rattle.primitive.specs.Words.{SUB, DEPS, node, link, link_rows, node_rows}
use Rattle.linking.specs.Free.{slots}
use Rattle.linking.specs.Ring.{purged_by, disposed_by, unlinked_n}
use Rattle.linking.specs.Table.{Tab}
use Rattle.marking.specs.Fields.{next_sub_of}
use Rattle.marking.specs.Notify.{climbed}
use Rattle.marking.specs.Shallow.{shallow_from}
use Rattle.marking.specs.Walks.{place, walked}
use Rattle.trees.specs.Legal.{most_nesting}
use Rattle.reading.specs.Ring.{start_of, deps_by, evaluated_by, refreshed_by, ring_n}
use Rattle.reading.specs.Tables.{State, rank_of}
use Rattle.operating.specs.Log.{ran_to}
use Rattle.operating.specs.Runs.{flushed_from, cleared}
use Rattle.meaning.specs.State.{St, readable, unclean, deps}
use Rattle.meaning.specs.Engine.{flush}
use Rattle.meaning.specs.Links.{purge, dispose}
use Rattle.meaning.specs.Marks.{chain, calm, propagate, shallow}
use Rattle.meaning.specs.Reads.{settle, check, evaluate}
use Rattle.meaning.proofs.Still.{Given}
use Rattle.meaning.proofs.Inside.{Set, nobody, Static, Goes, Inside}
use Rattle.meaning.proofs.Frames.{Open}
use Rattle.meaning.proofs.Reading.{Above, During}
use Rattle.structure.specs.Rep.{has_form}
use Rattle.structure.proofs.Held.{Shows}
use Rattle.structure.proofs.Ring.{Strict}
use Rattle.structure.proofs.Dispose.{purge_within, dispose_within}
use Rattle.structure.proofs.Marked.{Marked}
use Rattle.structure.proofs.Notify.{Lives, notify_within}
use Rattle.structure.proofs.Shallow.{shallow_marks}
use Rattle.structure.proofs.Walk.{propagate_marks}
use Rattle.structure.proofs.Steps.{Sees, Tells}
use Rattle.structure.proofs.SecondRing.{refreshed_within, checked_within, evaluated_within}
use Rattle.structure.proofs.LogRows.{Leaves}
use Rattle.structure.proofs.Flushes.{flush_within}

pub record NeverUsedUp (g : Given) (st : Static g) : Type 1 where
  -- propagate: its turns, one for each row of the link table, and its stack of 1,024 words, which is never full
  pub turns_and_stack : (t : Tab) (W C : List ℤ) (s : St) (d x : ℕ) (ls : List ℕ) → Inside g nobody s → Shows [] t W C s → d < g.size → readable (g.kind d) ≡ true → unclean (s.fl d) ≡ true
      → s.stuck ≡ false → s.subs d ≡ x ∷ ls → (turns stack : ℕ) → link_rows t.links ≤ turns → s.room.nodes ≤ stack
      → Marked [] (walked t.links turns t.nodes (place x (next_sub_of t.links x) (replicate stack 0) 0)) s (propagate s d).fl (propagate s d).queue
  -- notify: the climb to the owners
  pub owners : (L : List ℕ) (s : St) (i : Inside g nobody s) (subs-are : (x : ℕ) → link L x SUB ≡ s.sub x) (f : ℕ → Named) (N q : List ℕ) (e : ℕ) → Lives g st L s i subs-are f e → Marked [] N s f q
      → length q + length (chain s.room.nodes g.owner f e) ≤ s.room.nodes → (turns : ℕ) → node_rows N ≤ turns
      → Marked [] (reversed_from (climbed L turns N e) (count N)) s (calm (chain s.room.nodes g.owner f e) f) (q ++ reverse (chain s.room.nodes g.owner f e))
  -- shallow propagation
  pub subscribers : (X : Set) (ran : List ℕ) (t : Tab) (W C : List ℤ) (s : St) (d : ℕ) → Inside g X s → Shows ran t W C s → d < s.size → (x : ℕ) (ls : List ℕ) → s.subs d ≡ x ∷ ls
      → (turns : ℕ) → link_rows t.links ≤ turns → Marked ran (shallow_from t.links turns t.nodes x) s (shallow s d).fl (shallow s d).queue
  -- the first ring: unlink, unwatched, dispose and purge
  pub purges : (X : Set) (ran : List ℕ) (W C : List ℤ) (u : ℕ) → u < g.size → X u → ((m : ℕ) → Strict g st u m → X m → ⊥) → (t : Tab) (s : St) → Inside g X s → Shows ran t W C s
      → (bound : ℕ) → slots t.links ≤ bound → Shows ran (purged_by (unlinked_n bound) bound t u) W C (purge s u)
  pub disposes : (ran : List ℕ) (W C : List ℤ) (t : Tab) (s : St) (x : ℕ) → Inside g nobody s → x < g.size → readable (g.kind x) ≡ false → Shows ran t W C s
      → (bound : ℕ) → slots t.links ≤ bound → Shows ran (disposed_by (unlinked_n bound) bound t x) W C (dispose s x)
  -- the second ring: reads, the dirty check and evaluation
  pub reads : (X : Set) (ran : List ℕ) (C : List ℤ) (x : State) (s : St) (n : ℕ) → Inside g X s → Open g st X s → n < g.size → readable (g.kind n) ≡ true → Above g st X n → s.stuck ≡ false → Sees ran x C s
      → (bound : ℕ) → rank_of n ≤ bound → Sees ran (refreshed_by C (ring_n C bound) x n) C (settle s n)
  pub checks : (X : Set) (ran : List ℕ) (C : List ℤ) (u : ℕ) → u < g.size → ((m : ℕ) → X m → readable (g.kind m) ≡ true → u ≤ m) → ((d : ℕ) → d < g.size → Goes g d u → X d → ⊥)
      → (x : State) (s : St) → Inside g X s → Open g st X s → s.stuck ≡ false → (deps s u ≡ [] → ⊥) → Sees ran x C s
      → (bound turns : ℕ) → rank_of u ≤ bound → link_rows x.links ≤ turns → Tells ran C (deps_by C (ring_n C bound) u turns x (node x.nodes u DEPS)) (check s u)
  pub evaluates : (X : Set) (ran : List ℕ) (C : List ℤ) (u : ℕ) → X u → u < g.size → has_form (g.kind u) ≡ true → ((m : ℕ) → X m → readable (g.kind m) ≡ true → u ≤ m)
      → (x : State) (s : St) → During g st X u s 0 s → s.stuck ≡ false → Sees ran x C s → (bound : ℕ) → rank_of u ≤ bound → (let e = evaluated_by C (ring_n C bound) u most_nesting x (start_of x u) in
      Sees ran e.after C (evaluate s u).st × (e.value ≡ (evaluate s u).val))
  -- the flush
  pub flushes : (C l : List ℤ) (x : State) (s : St) → Inside g nobody s → s.stuck ≡ false → s.log ≡ [] → length (flush s).log * 2 ≤ length l → Sees [] x C s
      → (turns : ℕ) → node_rows x.nodes ≤ turns → Leaves l C (cleared (flushed_from C turns 0 (ran_to x l 0))) (flush s)

pub never_used_up : (g : Given) (st : Static g) → NeverUsedUp g st
never_used_up g st = record {
  turns_and_stack = propagate_marks g st;
  owners = λ L s i subs-are f. notify_within g st L s i subs-are f;
  subscribers = λ X ran t W C s d i r h. shallow_marks g st X ran t W C s d i r h;
  purges = λ X ran W C. purge_within g st ran W C X;
  disposes = λ ran W C t s x i h q r. dispose_within g st ran W C t s x i h q r;
  reads = λ X ran C. refreshed_within g st ran C X;
  checks = λ X ran C. checked_within g st ran C X;
  evaluates = λ X ran C u xu h f above x s d free q b le. let r = evaluated_within g st ran C X u xu h f above x s d free q b le in (r.0, r.2);
  flushes = λ C l. flush_within g st C l;
}
