-- The read links of a live effect change only in its own run or its disposal. Assumes nothing.
use Rattle.std.specs.Prelude.{Option, None, Some}
use mathlib.Core.Path.{◌≡◌, refl, sym, ap, ◌∙◌, subst}
use mathlib.Core.Bool.{true, false}
use mathlib.Core.List.{List, [], ◌++◌}
use Prim.Native.Nat.{ℕ, zero, suc, ◌<◌}
use lib.IntN.{ℤ, pos}
use borrow.Author.Tests.{not-true}
use Rattle.values.specs.declared.Value.{Value}
use Rattle.values.specs.Values.{value, same}
use Rattle.trees.specs.Trees.{constant}
use Rattle.meaning.specs.State.{St, signal, computed, effect, scope, Row, readable, f0, f1, f17, nothing}
use Rattle.meaning.specs.Setters.{with_log, with_depth, set_fl, set_pend}
use Rattle.meaning.specs.Links.{is_nil}
use Rattle.meaning.specs.Marks.{propagate}
use Rattle.meaning.specs.Engine.{flush, flush_at, store, new_signal, new_computed, new_scope, end_at}
use Rattle.meaning.specs.Words.{Command, make_signal, make_computed, make_effect, make_scope, set_to, add_to, read_of, dispose_of, batch_start, batch_end, command_of, node_of, owner_of, formula_of}
use Rattle.meaning.specs.Refusals.{Sight, sight_of, asks_of, a_signal, an_owner, unknown, wrong_node, gone_node, bad_formula, too_high, no_room, table, refusal}
use Rattle.meaning.specs.WellFormed.{In, read_links, WellFormed}
use Rattle.meaning.specs.Commands.{perform, perform_any, answer, command}
use Rattle.meaning.proofs.Laws.{false≢true, none_some, branch, provided_so}
use Rattle.meaning.proofs.Still.{Given, given}
use Rattle.meaning.proofs.Flush.{whos}
use Rattle.meaning.proofs.Refused.{NoneHolds, accepted_exactly}
use Rattle.meaning.proofs.Binding.{SameReads, ReadsStay, same_stay}
use Rattle.meaning.proofs.Inside.{nobody, Static, Inside, static, rest_inside}
use Rattle.meaning.proofs.Dropping.{dispose_inside}
use Rattle.meaning.proofs.Frames.{others}
use Rattle.meaning.proofs.Running.{read_inside, read_reads, flush_inside}
use Rattle.meaning.proofs.Walking.{i_propagated}
use Rattle.meaning.proofs.Made.{made}
use Rattle.meaning.proofs.Entered.{effect_reads}
use Rattle.meaning.proofs.Accepted.{logless, taken, is_signal, signal_fits, computed_fits, effect_fits, scope_fits}
use Rattle.meaning.proofs.Rows.{flush_rows_lem}

-- an effect e of s that is still live in t and has no row there keeps its read links
abbrev pub Bound : St → St → Type 0
Bound s t = (e : ℕ) → e < s.size → s.kind e ≡ effect → t.gone e ≡ false → (In e (whos t.log) → ⊥) → ReadsStay s t e

-- as a record: the two ways of a test are then compared by their states, not column by column
record Bounds (s t : St) : Type 0 where
  stay : Bound s t

module _ (s : St) (rows : ℕ) (w : WellFormed s) where
  abbrev v : Sight
  v = sight_of s rows

  wl : WellFormed (with_log s [])
  wl = logless s rows w

  abbrev g : Given
  g = given (with_log s [])

  st : Static g
  st = static (with_log s []) wl

  i : Inside g nobody (with_log s [])
  i = rest_inside (with_log s []) wl

  by_same : (t : St) → t.kind ≡ s.kind → ((e : ℕ) → e < s.size → s.kind e ≡ effect → t.gone e ≡ false → SameReads s.kind (with_log s []) t e) → Bound s t
  by_same t k h e lo ke a n = let r = same_stay s.kind (with_log s []) t e refl k (h e lo ke a) in record { links = r.links; ends = r.ends }

  -- a flush from a state with the links of s
  flushed : (x : St) → Inside g nobody x → x.log ≡ [] → x.dep ≡ s.dep → x.ver ≡ s.ver → x.done ≡ s.done → x.rest ≡ s.rest → Bound s (flush x)
  flushed x ix l d vr dn rs e lo ke a n =
      let f = flush_rows_lem g st x.queue x ix refl in
      let log_is : (flush x).log ≡ f.rows = f.logged ∙ ap (λ (z : List Row). z ++ f.rows) l in
      let r = f.reads e lo ke a (λ j. n (subst (λ (z : List Row). In e (whos z)) (sym log_is) j)) in
      let z : SameReads s.kind (with_log s []) (flush x) e = cols x.dep d x.ver vr x.done dn x.rest rs r.links r.ends in
      let y = same_stay s.kind (with_log s []) (flush x) e refl (kinds x ix) z in
      record { links = y.links; ends = y.ends }
    where
      kinds : (x : St) → Inside g nobody x → (flush x).kind ≡ s.kind
      kinds x ix = ap (λ (z : Given). z.kind) (flush_inside g st x.queue x ix refl).inside.same

      cols : (p : ℕ → ℕ) → p ≡ s.dep → (v : ℕ → ℕ) → v ≡ s.ver → (q : ℕ → List ℕ) → q ≡ s.done → (r : ℕ → List ℕ) → r ≡ s.rest
          → read_links s.kind (flush x).dep ((flush x).done e ++ (flush x).rest e) ≡ read_links s.kind p (q e ++ r e)
          → ((m : ℕ) → In m (read_links s.kind p (q e ++ r e)) → ((flush x).dep m ≡ p m) × ((flush x).ver m ≡ v m)) → SameReads s.kind (with_log s []) (flush x) e
      cols p ep v ev q eq r er ls es =
          let back : read_links s.kind p (q e ++ r e) ≡ read_links s.kind s.dep (s.done e ++ s.rest e) =
          ap (λ (z : ℕ → ℕ). read_links s.kind z (q e ++ r e)) ep ∙ ap (λ (z : ℕ → List ℕ). read_links s.kind s.dep (z e ++ r e)) eq ∙ ap (λ (z : ℕ → List ℕ). read_links s.kind s.dep (s.done e ++ z e)) er in
          record { links = ls ∙ back; ends = λ m j. let y = es m (subst (In m) (sym back) j) in (y.0 ∙ ap (λ (z : ℕ → ℕ). z m) ep, y.1 ∙ ap (λ (z : ℕ → ℕ). z m) ev) }

  stored : (n : ℕ) (x : Value) → (n < s.size) × (a_signal (s.kind n) ≡ true) → Bound s (store (with_log s []) n x)
  unfolding store
  stored n x k =
      (provided_so (Bounds s) (a_signal (s.kind n)) k.1
      (branch (Bounds s) (same (s.pend n) x) (λ e. record { stay = by_same _ refl (λ m lo ke a. record { links = refl; ends = λ l j. (refl, refl) }) })
      (λ e. branch (Bounds s) (is_nil (s.subs n)) (λ f. record { stay = by_same _ refl (λ m lo ke a. record { links = refl; ends = λ l j. (refl, refl) }) }) (λ f. go s.depth)))).stay
    where
      go : (d : ℕ) → Bounds s (flush_at (propagate (set_fl (set_pend (with_log s []) n x) n f17) n) d)
      go zero = record { stay = flushed (propagate (set_fl (set_pend (with_log s []) n x) n f17) n) (i_propagated g st (with_log s []) n x i k.0 (is_signal s rows w (s.kind n) k.1)).inside refl refl refl refl refl }
      go (suc d) = record { stay = by_same (propagate (set_fl (set_pend (with_log s []) n x) n f17) n) refl (λ m lo ke a. record { links = refl; ends = λ l j. (refl, refl) }) }

  ends_bound : (d : ℕ) → Bound s (end_at (with_log s []) d)
  ends_bound zero = by_same _ refl (λ m lo ke a. record { links = refl; ends = λ l j. (refl, refl) })
  ends_bound (suc zero) = flushed (with_depth (with_log s []) 0) (others g nobody (with_log s []) i s.cycle s.sto s.pend 0 [] s.stuck) refl refl refl refl refl
  ends_bound (suc (suc d)) = by_same _ refl (λ m lo ke a. record { links = refl; ends = λ l j. (refl, refl) })

  perform_bound : (c : Command) → NoneHolds (table true v (Some c)) → Bound s (perform (with_log s []) c).st
  unfolding table perform wrong_node gone_node bad_formula too_high no_room asks_of new_signal new_computed new_scope
  perform_bound (make_signal x) h = λ e lo ke a n. let r = (made (with_log s []) wl signal (constant (pos 0)) f1 (value x) refl None (signal_fits s rows w x h) (λ p q. none_some q)).reads e lo in record { links = r.links; ends = r.ends }
  perform_bound (make_computed cs) h = λ e lo ke a n. let r = (made (with_log s []) wl computed (formula_of cs) f0 nothing refl None (computed_fits s rows w cs h) (λ p q. none_some q)).reads e lo in record { links = r.links; ends = r.ends }
  perform_bound (make_effect o cs) h = λ e lo ke a n. let r = effect_reads (with_log s []) wl (owner_of o) (formula_of cs) (effect_fits s rows w o cs h) e lo ke in record { links = r.links; ends = r.ends }
  perform_bound (make_scope o) h = λ e lo ke a n. let r = (made (with_log s []) wl scope (constant (pos 0)) f0 nothing refl (owner_of o) (scope_fits s rows w o h) (λ p q. refl)).reads e lo in record { links = r.links; ends = r.ends }
  perform_bound (set_to n x) h = stored (node_of n) (value x) (taken s rows w a_signal n (h 2))
  perform_bound (add_to n d) h = stored (node_of n) _ (taken s rows w a_signal n (h 2))
  perform_bound (read_of n) h =
      let k = taken s rows w readable n (h 2) in
      let r = read_inside g st (with_log s []) (node_of n) i k.0 k.1 in
      by_same _ (ap (λ (z : Given). z.kind) r.inside.same) (λ e lo ke a. read_reads g st (with_log s []) (node_of n) i k.0 k.1 e ke)
  perform_bound (dispose_of n) h =
      let k = taken s rows w an_owner n (h 2) in
      let r = dispose_inside g st (with_log s []) (node_of n) i k.0 (not-true (readable (s.kind (node_of n))) k.1) in
      by_same _ (ap (λ (z : Given). z.kind) r.inside.same) r.reads
  perform_bound batch_start h = by_same _ refl (λ m lo ke a. record { links = refl; ends = λ l j. (refl, refl) })
  perform_bound batch_end h = ends_bound s.depth

  any_bound : (c : Option Command) → NoneHolds (table true v c) → Bound s (perform_any (with_log s []) c).st
  unfolding perform_any table unknown
  any_bound None h = false≢true (sym (h 1))
  any_bound (Some c) h = perform_bound c h

-- the read links of a live effect change only in its own run or its disposal
pub links_bound : (s : St) (rows : ℕ) (ws : List ℤ) → WellFormed s → (e : ℕ) → e < s.size → s.kind e ≡ effect → (command true s rows ws).st.gone e ≡ false → (In e (whos (command true s rows ws).rows) → ⊥)
    → ReadsStay s (command true s rows ws).st e
unfolding command answer
links_bound s rows ws w = go (refusal true (sight_of s rows) ws) (accepted_exactly true s rows ws).0
  where
    go : (r : ℕ) → ((answer r s ws).code ≡ 0 → NoneHolds (table true (sight_of s rows) (command_of ws))) → (e : ℕ) → e < s.size → s.kind e ≡ effect → (answer r s ws).st.gone e ≡ false → (In e (whos (answer r s ws).rows) → ⊥)
        → ReadsStay s (answer r s ws).st e
    go zero h = any_bound s rows w (command_of ws) (h refl)
    go (suc r) h = λ e lo ke a n. record { links = refl; ends = λ l j. (refl, refl) }
