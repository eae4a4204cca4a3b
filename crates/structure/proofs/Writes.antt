-- Set and add over words are the list operations: the pending value, the walk over what depends on the signal, the flush outside of batches. Assumes nothing.
use mathlib.Core.Path.{◌≡◌, refl, sym, ap, ◌∙◌, subst}
use mathlib.Core.Bool.{Bool, true, false}
use mathlib.Core.List.{List, [], ◌∷◌}
use Prim.Native.Nat.{ℕ, zero, suc, ◌*◌, ◌<◌, ◌≤◌}
use native.Mathlib.Omega.{arith}
use lib.IntN.{ℤ}
use lib.ListN.{length}
use borrow.Author.Tests.{eq-eqb, ne_eqb}
use Rattle.values.specs.declared.Value.{Value}
use Rattle.flags.specs.Flags.{bit, named}
use Rattle.primitive.specs.Slots.{slot_of}
use Rattle.values.specs.Values.{same, sum}
use Rattle.linking.specs.Table.{tab}
use Rattle.marking.specs.Walks.{propagated}
use Rattle.reading.specs.Tables.{State, state, pending_of, set_pending}
use Rattle.operating.specs.Log.{Ran, ran_to}
use Rattle.operating.specs.Runs.{flushed}
use Rattle.operating.specs.Batches.{flushed_at}
use Rattle.operating.specs.Writes.{stored, announced, written, added}
use Rattle.meaning.specs.State.{St, signal, readable, a_signal, unclean, f17}
use Rattle.meaning.specs.Setters.{set_fl, set_pend}
use Rattle.meaning.specs.Links.{is_nil}
use Rattle.meaning.specs.Marks.{propagate}
use Rattle.meaning.specs.Engine.{flush, flush_at, store}
use Rattle.meaning.proofs.Laws.{provided_so, up_same}
use Rattle.meaning.proofs.Still.{Given}
use Rattle.meaning.proofs.Inside.{nobody, Static, Inside}
use Rattle.meaning.proofs.Walking.{propagate_inside, i_written}
use Rattle.structure.specs.Chains.{first_word}
use Rattle.structure.proofs.Held.{inside_held}
use Rattle.structure.proofs.Link.{both_ways}
use Rattle.structure.proofs.Stored.{flag_shows}
use Rattle.structure.proofs.Marked.{shows_marked}
use Rattle.structure.proofs.Walk.{propagate_shows}
use Rattle.structure.proofs.Steps.{Sees, pending_shows}
use Rattle.structure.proofs.LogRows.{Leaves, quiet_leaves}
use Rattle.structure.proofs.Flushes.{nodes_few, flush_sees}

module _ (g : Given) (st : Static g) (C : List ℤ) (l : List ℤ) where
  -- where the rows fit the lent log
  abbrev pub LeavesIf : Ran → St → Type 0
  LeavesIf a t = length t.log * 2 ≤ length l → Leaves l C a t

  -- only at depth 0
  pub flush_at_lem : (x : State) (s : St) (d : ℕ) → Inside g nobody s → s.stuck ≡ false → s.log ≡ [] → Sees [] x C s → LeavesIf (flushed_at C x l d) (flush_at s d)
  unfolding flushed_at
  flush_at_lem x s zero i q e r fit = subst (λ (b : Bool). Leaves l C (elim b [ true ↦ flushed C x l | false ↦ ran_to x l 0 ]) (flush s)) (sym (eq-eqb 0 0 refl)) (flush_sees g st C l x s i q e fit r)
  flush_at_lem x s (suc d) i q e r fit = subst (λ (b : Bool). Leaves l C (elim b [ true ↦ flushed C x l | false ↦ ran_to x l 0 ]) s) (sym (ne_eqb (suc d) 0 (λ e. omega arith))) (quiet_leaves l C x s e r)

  module _ (x : State) (s : St) (n : ℕ) (v : Value) (i : Inside g nobody s) (h : n < g.size) (kn : g.kind n ≡ signal) (free : s.stuck ≡ false) (blank : s.log ≡ []) (r : Sees [] x C s) where
    abbrev t : St
    t = set_fl (set_pend s n v) n f17

    it : Inside g nobody t
    it = i_written g st s n v i h kn

    low : n < s.size
    low = subst (λ (z : Given). n < z.size) (sym i.same) h

    few : s.room.nodes ≤ 1024
    few = subst (λ (z : Given). z.room.nodes ≤ 1024) (sym i.same) (nodes_few g st)

    stored_sees : Sees [] (stored x n v) C t
    unfolding stored named bit
    stored_sees =
        let w = inside_held g nobody s st i in
        flag_shows [] (tab x.nodes x.links) (set_pending x.values n v) C (set_pend s n v) n (record { lists = w.lists; fit = w.fit }) (pending_shows [] (tab x.nodes x.links) x.values C s n v w r low) low 17 f17 refl refl

    stale : unclean (t.fl n) ≡ true
    stale = ap unclean (up_same s.fl n f17)

    -- what depends on the signal is told
    abbrev onward : List ℕ → St
    onward ds = elim (is_nil ds) [ true ↦ t | false ↦ flush_at (propagate t n) (propagate t n).depth ]

    told : (ds : List ℕ) → s.subs n ≡ ds → LeavesIf (announced C (stored x n v) l (slot_of (first_word ds))) (onward ds)
    unfolding announced
    told [] e fit = quiet_leaves l C (stored x n v) t blank stored_sees
    told (y ∷ ds) e fit =
        let N = propagated (stored x n v).links (stored x n v).nodes y in
        let shown : Sees [] (state N (stored x n v).links (stored x n v).values) C (propagate t n) =
        propagate_shows g st (tab (stored x n v).nodes (stored x n v).links) (stored x n v).values C t n y ds it stored_sees h (ap readable kn) stale free few e in
        let p = propagate_inside g st t n it h (ap readable kn) stale in
        subst (λ (d : ℕ). Leaves l C (flushed_at C (state N (stored x n v).links (stored x n v).values) l d) (flush_at (propagate t n) (propagate t n).depth)) (sym shown.registers.depth)
        (flush_at_lem (state N (stored x n v).links (stored x n v).values) (propagate t n) (propagate t n).depth p.inside (p.stuck ∙ free) blank shown fit)

    pub store_leaves : LeavesIf (written C x l n v) (store s n v)
    unfolding written store
    store_leaves =
        provided_so (LeavesIf (written C x l n v)) (a_signal (s.kind n)) (ap (λ (z : Given). a_signal (z.kind n)) i.same ∙ ap a_signal kn)
        (both_ways LeavesIf (same (pending_of x.values n) v) (same (s.pend n) v) (ap (λ (z : Value). same z v) (r.values.pending n))
        (λ e fit. quiet_leaves l C x s blank r)
        (λ e. subst (λ (z : ℕ). LeavesIf (announced C (stored x n v) l (slot_of z)) (onward (s.subs n))) (sym ((shows_marked [] (tab (stored x n v).nodes (stored x n v).links) (stored x n v).values C t stored_sees).heads n low))
        (told (s.subs n) refl)))

  -- the current value + d
  pub add_leaves : (x : State) (s : St) (n : ℕ) (d : Value) → Inside g nobody s → n < g.size → g.kind n ≡ signal → s.stuck ≡ false → s.log ≡ [] → Sees [] x C s
      → LeavesIf (added C x l n d) (store s n (sum (s.sto n) d))
  unfolding added
  add_leaves x s n d i h kn free blank r =
      subst (λ (z : Value). LeavesIf (written C x l n (sum z d)) (store s n (sum (s.sto n) d))) (sym (r.values.current n)) (store_leaves x s n (sum (s.sto n) d) i h kn free blank r)
