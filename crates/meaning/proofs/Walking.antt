-- Propagate ends in time: each link is visited at most once, and a list is put aside only at a node that is marked then. A write keeps well-formedness and is not stuck. Assumes nothing.
use mathlib.Core.Path.{◌≡◌, refl, sym, ap, ap₂, ◌∙◌}
use mathlib.Core.Logic.{inl, inr}
use mathlib.Core.Bool.{Bool, true, false, ◌||◌}
use mathlib.Core.List.{List, [], ◌∷◌, ◌++◌}
use Prim.Native.Nat.{ℕ, zero, suc, ◌+◌, ◌≤◌, ◌<◌}
use native.Mathlib.Omega.{arith}
use lib.Dec.{eqb}
use lib.ListN.{length, length-append}
use borrow.Author.Tests.{eqb-true, eqb-false, lt-leb}
use Rattle.flags.specs.declared.Named.{Named}
use Rattle.values.specs.declared.Value.{Value}
use Rattle.values.specs.Values.{same}
use Rattle.lists.proofs.SumLaws.{sum_add}
use Rattle.meaning.specs.State.{St, signal, readable, a_signal, unclean, f17, up}
use Rattle.meaning.specs.Setters.{set_fl, set_pend}
use Rattle.meaning.specs.Links.{is_nil, several}
use Rattle.meaning.specs.Marks.{Marks, marks_of, with_marks, halt, notify, mark, stack_full, prop, turns, propagate}
use Rattle.meaning.specs.Engine.{flush_at, store}
use Rattle.meaning.specs.Reserve.{total}
use Rattle.meaning.specs.WellFormed.{In}
use Rattle.meaning.proofs.Laws.{clash, false≢true, either, branch, provided_so, or_false, or_last, up_same, in_cases}
use Rattle.meaning.proofs.Members.{most_below, gather, gather_length, gather_in, gather_once, total_spare}
use Rattle.meaning.proofs.Still.{Given}
use Rattle.meaning.proofs.Reached.{turn, mark_dirty, mark_here, mark_there}
use Rattle.meaning.proofs.Inside.{nobody, also, Static, Rests, Slots, Inside, widen, let_out, moves_read}
use Rattle.meaning.proofs.Dropping.{a_computed, flags_inside}
use Rattle.meaning.proofs.Frames.{others}
use Rattle.meaning.proofs.Running.{Goes_on, flush_inside}
use Rattle.meaning.proofs.Marking.{stuck_inside, no_recursing, mark_inside}

-- ---- what is left to do: links to visit, and lists put aside
abbrev pub work : List ℕ → List (List ℕ) → ℕ
work w [] = length w
work w (x ∷ st) = length w + suc (work x st)

work_append : (a w : List ℕ) (st : List (List ℕ)) → work (a ++ w) st ≡ length a + work w st
work_append a w [] = length-append a w
work_append a w (x ∷ st) = let e = length-append a w in omega arith

-- ---- what clean nodes may still add
abbrev pub unless : Bool → ℕ → ℕ
unless true k = 0
unless false k = k

abbrev pub clean_sum : (ℕ → Named) → (ℕ → ℕ) → ℕ → ℕ
clean_sum f c n = total (λ m. unless (unclean (f m)) (c m)) n

-- clean nodes become fewer with each mark
pub falls : (s : St) (m : Marks) (u n : ℕ) (c : ℕ → ℕ) → u < n → unclean (m.fl u) ≡ false → clean_sum (mark s m u).fl c n + c u ≤ clean_sum m.fl c n
falls s m u n c h e =
    total_spare (λ k. unless (unclean ((mark s m u).fl k)) (c k)) (λ k. unless (unclean (m.fl k)) (c k)) n u (c u) h
    (let a : unless (unclean ((mark s m u).fl u)) (c u) ≡ 0 = ap (λ (b : Bool). unless b (c u)) (or_last ((mark s m u).fl u).dirty _ (mark_here s m u u refl)) in
    let b : unless (unclean (m.fl u)) (c u) ≡ c u = ap (λ (b : Bool). unless b (c u)) e in
    omega arith)
    (λ k l. either (eqb k u)
    (λ q. let a : unless (unclean ((mark s m u).fl k)) (c k) ≡ 0 = ap (λ (b : Bool). unless b (c k)) (or_last ((mark s m u).fl k).dirty _ (mark_here s m u k (eqb-true k u q))) in omega arith)
    (λ q. let a = ap (λ (b : Bool). unless b (c k)) (ap₂ (λ (x y : Bool). x || y) (mark_dirty s m u k) (mark_there s m u k (eqb-false k u q))) in omega arith))

pub total_ones : (f : ℕ → ℕ) (n : ℕ) → ((m : ℕ) → f m ≤ 1) → total f n ≤ n
unfolding total
total_ones f zero h = omega arith
total_ones f (suc n) h = let a = total_ones f n h in let b = h n in omega arith

pub unless_most : (b : Bool) (k : ℕ) → unless b k ≤ k
unless_most true k = omega arith
unless_most false k = omega arith

module _ (g : Given) (st : Static g) (s : St) where
  -- a live read link
  abbrev Ok : ℕ → Type 0
  Ok l = (s.live l ≡ true) × (readable (g.kind (s.dep l)) ≡ true)

  abbrev AllOk : List (List ℕ) → Type 0
  AllOk [] = Unit {0}
  AllOk (w ∷ st) = ((l : ℕ) → In l w → Ok l) × AllOk st

  -- each subscriber link costs a visit, and perhaps a list put aside
  abbrev cost : ℕ → ℕ
  cost n = length (s.subs n) + length (s.subs n)

  abbrev one : ℕ → ℕ
  one n = 1

  record Kept (m : Marks) (t : Marks) : Type 0 where
    pub inside : Inside g nobody (with_marks s t)
    pub stuck : t.stuck ≡ m.stuck

  mark_kept : (m : Marks) (l : ℕ) → Inside g nobody (with_marks s m) → Ok l → unclean (m.fl (s.sub l)) ≡ false → Kept m (mark s m (s.sub l))
  unfolding mark notify
  mark_kept m l i ok d = let n = mark_inside g st (with_marks s m) i l ok.0 ok.1 d in record { inside = n.inside; stuck = n.stuck }

  some_several : (xs : List ℕ) → several xs ≡ true → 1 ≤ length xs
  some_several [] e = false≢true e
  some_several (x ∷ xs) e = omega arith

  prop_inside : (k : ℕ) (m : Marks) (w : List ℕ) (st' : List (List ℕ)) → Inside g nobody (with_marks s m) → ((l : ℕ) → In l w → Ok l) → AllOk st'
      → work w st' + clean_sum m.fl cost g.size < k → length st' + clean_sum m.fl one g.size ≤ g.size → Kept m (prop s k m w st')
  unfolding prop
  prop_inside zero m w st' i ok oks b c = absurd (omega arith)
  prop_inside (suc k) m [] [] i ok oks b c = record { inside = i; stuck = refl }
  prop_inside (suc k) m [] (w ∷ st') i ok oks b c = prop_inside k m w st' i oks.0 oks.1 (omega arith) (omega arith)
  prop_inside (suc k) m (l ∷ w) st' i ok oks b c =
      turn (Kept m) s k m l w st' (λ e. clash e (no_recursing g (with_marks s m) (s.sub l) r)) (λ e d. let wk = work_append (l ∷ []) w st' in prop_inside k m w st' i (λ x j. ok x (inr j)) oks (omega arith) c)
      (λ e d mu sv.
      let wk = work_append (l ∷ []) w st' in
      let fc = falls s m (s.sub l) g.size cost hu d in
      let fo = falls s m (s.sub l) g.size one hu d in
      let some = some_several (s.subs (s.sub l)) sv in
      stops (low fo) (kept d)
      (prop_inside k (halt (mark s m (s.sub l)) (stack_full s st')) (s.subs (s.sub l)) (w ∷ st') (stuck_inside g nobody (with_marks s (mark s m (s.sub l))) (halt (mark s m (s.sub l)) (stack_full s st')).stuck (kept d).inside) (oku mu) (λ y j. ok y (inr j), oks)
      (omega arith) (omega arith)))
      (λ e d mu sv.
      let wk = work_append (l ∷ []) w st' in
      let fc = falls s m (s.sub l) g.size cost hu d in
      let fo = falls s m (s.sub l) g.size one hu d in
      let wa = work_append (s.subs (s.sub l)) w st' in
      on (kept d) (prop_inside k (mark s m (s.sub l)) (s.subs (s.sub l) ++ w) st' (kept d).inside (λ y j. in_cases y (s.subs (s.sub l)) w j (oku mu y) (λ z. ok y (inr z))) oks (omega arith) (omega arith)))
      (λ e d mu.
      let wk = work_append (l ∷ []) w st' in
      let fc = falls s m (s.sub l) g.size cost hu d in
      let fo = falls s m (s.sub l) g.size one hu d in
      on (kept d) (prop_inside k (mark s m (s.sub l)) w st' (kept d).inside (λ y j. ok y (inr j)) oks (omega arith) (omega arith)))
    where
      hu : s.sub l < g.size
      hu = (i.lists.inside l (ok l (inl refl)).0).1

      r : Rests g (with_marks s m) (s.sub l)
      r = i.rests (s.sub l) hu (λ z. z)

      kept : unclean (m.fl (s.sub l)) ≡ false → Kept m (mark s m (s.sub l))
      kept d = mark_kept m l i (ok l (inl refl)) d

      oku : (m.fl (s.sub l)).mutable ≡ true → (x : ℕ) → In x (s.subs (s.sub l)) → Ok x
      oku mu x j = let y = i.lists.subs_live x (s.sub l) j in (y.0, ap (λ (z : ℕ). readable (g.kind z)) y.1 ∙ moves_read g m.queue s.dep s.sub (s.sub l) _ _ _ _ _ r mu)

      on : {t : Marks} → Kept m (mark s m (s.sub l)) → Kept (mark s m (s.sub l)) t → Kept m t
      on n x = record { inside = x.inside; stuck = x.stuck ∙ n.stuck }

      low : clean_sum (mark s m (s.sub l)).fl one g.size + one (s.sub l) ≤ clean_sum m.fl one g.size → stack_full s st' ≡ false
      low fo =
          let fit = st.nodes_fit in
          let rm : s.room.nodes ≡ g.room.nodes = ap (λ (z : Given). z.room.nodes) i.same in
          lt-leb s.room.nodes (length st') (omega arith)

      stops : {t : Marks} → stack_full s st' ≡ false → Kept m (mark s m (s.sub l)) → Kept (halt (mark s m (s.sub l)) (stack_full s st')) t → Kept m t
      stops q n x = record { inside = x.inside; stuck = x.stuck ∙ ap (λ (z : Bool). (mark s m (s.sub l)).stuck || z) q ∙ or_false (mark s m (s.sub l)).stuck ∙ n.stuck }

  -- after k turns, whatever is left to do
  prop_turns : (k : ℕ) (m : Marks) (w : List ℕ) (st' : List (List ℕ)) → Inside g nobody (with_marks s m) → ((l : ℕ) → In l w → Ok l) → AllOk st' → Inside g nobody (with_marks s (prop s k m w st'))
  unfolding prop
  prop_turns zero m w st' i ok oks = stuck_inside g nobody (with_marks s m) (m.stuck || true) i
  prop_turns (suc k) m [] [] i ok oks = i
  prop_turns (suc k) m [] (w ∷ st') i ok oks = prop_turns k m w st' i oks.0 oks.1
  prop_turns (suc k) m (l ∷ w) st' i ok oks =
      turn (λ x. Inside g nobody (with_marks s x)) s k m l w st' (λ e. clash e (no_recursing g (with_marks s m) (s.sub l) r)) (λ e d. prop_turns k m w st' i (λ x j. ok x (inr j)) oks)
      (λ e d mu sv. prop_turns k (halt (mark s m (s.sub l)) (stack_full s st')) (s.subs (s.sub l)) (w ∷ st')
      (stuck_inside g nobody (with_marks s (mark s m (s.sub l))) (halt (mark s m (s.sub l)) (stack_full s st')).stuck (kept d)) (oku mu) (λ y j. ok y (inr j), oks))
      (λ e d mu sv. prop_turns k (mark s m (s.sub l)) (s.subs (s.sub l) ++ w) st' (kept d) (λ y j. in_cases y (s.subs (s.sub l)) w j (oku mu y) (λ z. ok y (inr z))) oks)
      (λ e d mu. prop_turns k (mark s m (s.sub l)) w st' (kept d) (λ y j. ok y (inr j)) oks)
    where
      r : Rests g (with_marks s m) (s.sub l)
      r = i.rests (s.sub l) (i.lists.inside l (ok l (inl refl)).0).1 (λ z. z)

      kept : unclean (m.fl (s.sub l)) ≡ false → Inside g nobody (with_marks s (mark s m (s.sub l)))
      kept d = (mark_kept m l i (ok l (inl refl)) d).inside

      oku : (m.fl (s.sub l)).mutable ≡ true → (x : ℕ) → In x (s.subs (s.sub l)) → Ok x
      oku mu x j = let y = i.lists.subs_live x (s.sub l) j in (y.0, ap (λ (z : ℕ). readable (g.kind z)) y.1 ∙ moves_read g m.queue s.dep s.sub (s.sub l) _ _ _ _ _ r mu)

  pub propagate_turns : (d : ℕ) → Inside g nobody s → readable (g.kind d) ≡ true → (k : ℕ) → Inside g nobody (with_marks s (prop s k (marks_of s) (s.subs d) []))
  propagate_turns d i r k = prop_turns k (marks_of s) (s.subs d) [] i (λ l j. let x = i.lists.subs_live l d j in (x.0, ap (λ (z : ℕ). readable (g.kind z)) x.1 ∙ r)) tt

  -- ---- the budget
  subs_most : Slots g s → total (λ n. length (s.subs n)) g.size ≤ g.room.slots
  subs_most o =
      let a = gather_length s.subs g.size in
      let b = most_below g.room.slots (gather s.subs g.size)
      (gather_once s.subs g.size (λ m h. o.subs_once m) (λ x y l p q. sym (o.subs_live l x p).1 ∙ (o.subs_live l y q).1))
      (λ l j. let x = gather_in s.subs g.size l j in o.live_slot l (o.subs_live l x.0 x.2).0) in
      omega arith

  pub propagate_inside : (d : ℕ) → Inside g nobody s → d < g.size → readable (g.kind d) ≡ true → unclean (s.fl d) ≡ true → Goes_on g nobody s (propagate s d)
  propagate_inside d i h r un =
      let a = subs_most i.lists in
      let dbl = sum_add (λ n. length (s.subs n)) (λ n. length (s.subs n)) g.size in
      let here : unless (unclean (s.fl d)) (cost d) ≡ 0 = ap (λ (b : Bool). unless b (cost d)) un in
      let c : clean_sum s.fl cost g.size + cost d ≤ total cost g.size = total_spare (λ n. unless (unclean (s.fl n)) (cost n)) cost g.size d (cost d) h (omega arith) (λ n lt. unless_most (unclean (s.fl n)) (cost n)) in
      let e : s.room.slots ≡ g.room.slots = ap (λ (z : Given). z.room.slots) i.same in
      let o = total_ones (λ n. unless (unclean (s.fl n)) 1) g.size (λ n. unless_most (unclean (s.fl n)) 1) in
      let k = prop_inside (turns s) (marks_of s) (s.subs d) [] i
      (λ l j. let x = i.lists.subs_live l d j in (x.0, ap (λ (z : ℕ). readable (g.kind z)) x.1 ∙ r)) tt (omega arith) (omega arith) in
      record { inside = k.inside; stuck = k.stuck }

-- ---- a write
module _ (g : Given) (st : Static g) (s : St) (n : ℕ) (v : Value) (i : Inside g nobody s) (h : n < g.size) (kn : g.kind n ≡ signal) where
  abbrev written : St
  written = set_fl (set_pend s n v) n f17

  pub i_written : Inside g nobody written
  i_written =
      let it : Inside g (also nobody n) written =
      flags_inside g (also nobody n) (set_pend s n v) n (others g (also nobody n) s (widen g nobody (also nobody n) s (λ m z. absurd z) i) s.cycle s.sto (up s.pend n v) s.depth s.log s.stuck) (inr refl) f17 (λ q. refl) in
      let r = i.rests n h (λ z. z) in
      let w : Rests g written n = record {
        tail = r.tail;
        owned = r.owned;
        unowned = r.unowned;
        bare = r.bare;
        few = r.few;
        of_signal = λ k. inr (up_same s.fl n f17);
        of_computed = λ k. clash (ap a_computed k) (ap a_computed kn);
        of_effect = λ k a. clash (ap readable kn) (ap readable k);
        of_scope = λ k. clash (ap readable kn) (ap readable k);
        of_gone = λ k a. clash (ap readable kn) (ap readable k);
        queued = λ j a. clash a (i.gone_kind n h (ap readable kn));
      } in
      let_out g nobody written n it w

  pub i_propagated : Goes_on g nobody s (propagate written n)
  i_propagated =
      let w = propagate_inside g st written n i_written h (ap readable kn) (ap unclean (up_same s.fl n f17)) in
      record { inside = w.inside; stuck = w.stuck }

  flushed : (d : ℕ) → Goes_on g nobody s (flush_at (propagate written n) d)
  flushed zero = let p = propagate written n in let w = flush_inside g st p.queue p i_propagated.inside refl in record { inside = w.inside; stuck = w.stuck ∙ i_propagated.stuck }
  flushed (suc d) = i_propagated

  pub store_inside : Goes_on g nobody s (store s n v)
  unfolding store
  store_inside =
      provided_so (Goes_on g nobody s) (a_signal (s.kind n)) (ap (λ (z : Given). a_signal (z.kind n)) i.same ∙ ap a_signal kn)
      (branch (Goes_on g nobody s) (same (s.pend n) v) (λ e. record { inside = i; stuck = refl })
      (λ e. branch (Goes_on g nobody s) (is_nil (s.subs n)) (λ f. record { inside = i_written; stuck = refl }) (λ f. flushed s.depth)))
