-- The order of a command's rows, and the order of the dirty checks in it, from any well-formed tables (specs/Turns, specs/Checks). Assumes nothing.
use Rattle.std.specs.Prelude.{Some}
use mathlib.Core.Path.{◌≡◌, refl, sym, ap, ◌∙◌, subst}
use mathlib.Core.Bool.{Bool, true, false}
use mathlib.Core.List.{List, [], ◌++◌}
use Prim.Native.Nat.{ℕ, ◌<◌}
use lib.IntN.{ℤ}
use borrow.Author.Tests.{eqb-true}
use Rattle.values.specs.declared.Value.{Value}
use Rattle.values.specs.Values.{same}
use Rattle.values.proofs.ValueLaws.{same_yes, yes_same}
use Rattle.meaning.specs.State.{St, Row, signal, readable, unclean, has_value, f17}
use Rattle.meaning.specs.Setters.{with_log, with_depth}
use Rattle.meaning.specs.Marks.{marks_of, propagate, shallow}
use Rattle.meaning.specs.Reads.{spread, settle_w, fresh}
use Rattle.meaning.specs.Engine.{flush_on}
use Rattle.meaning.specs.Words.{Command, make_signal, make_computed, make_effect, make_scope, set_to, add_to, read_of, dispose_of, batch_start, batch_end, command_of, node_of}
use Rattle.meaning.specs.Refusals.{asks_of, wrong_node, table}
use Rattle.meaning.specs.WellFormed.{WellFormed}
use Rattle.meaning.specs.Commands.{perform, Answer, command}
use Rattle.meaning.specs.Outcome.{flushes, Writes, sets, adds}
use Rattle.meaning.specs.Checks.{at, Looked, Updated}
use Rattle.meaning.specs.Turns.{InTurn, ends, wrote, FlushBegins, as_before, walks, batch}
use Rattle.meaning.proofs.Laws.{clash, either, false≢true, up_same}
use Rattle.meaning.proofs.Still.{given}
use Rattle.meaning.proofs.Flush.{whos}
use Rattle.meaning.proofs.Performed.{performed, rows_are}
use Rattle.meaning.proofs.Inside.{nobody, Inside, static, rest_inside}
use Rattle.meaning.proofs.Frames.{others}
use Rattle.meaning.proofs.Walking.{i_propagated}
use Rattle.meaning.proofs.Accepted.{logless, taken, is_signal}
use Rattle.meaning.proofs.Moments.{flushing_whole}
use Rattle.meaning.proofs.Checking.{provided_free, fresh_looks}
use Rattle.meaning.proofs.Enough.{settled_free}
use Rattle.meaning.proofs.Turning.{flush_in_turn, in_turn_one, begins_one}
use Rattle.meaning.proofs.Promised.{same_write_is_nothing, write_flushes, end_runs_queue, walk_in_order, written_well_formed, nothing_stuck}

module _ (s : St) (rows : ℕ) (ws : List ℤ) (w : WellFormed s) (ok : (command true s rows ws).code ≡ 0) (free : s.stuck ≡ false) where
  abbrev ran : List ℕ
  ran = whos (command true s rows ws).rows

  wl : WellFormed (with_log s [])
  wl = logless s rows w

  -- where the command is the flush of the queue of p
  from : (p : St) → Inside (given s) nobody p → p.stuck ≡ false → p.log ≡ [] → (command true s rows ws).st ≡ flush_on p p.queue → InTurn p p.queue ran
  from p i z e q =
      let f = flush_in_turn (given s) (static s w) p.queue p i refl z in
      subst (λ (r : List Row). InTurn p p.queue (whos r)) (sym (rows_are s rows ws ok ∙ ap (λ (t : St). t.log) q ∙ f.1 ∙ ap (λ (l : List Row). l ++ f.0) e)) f.2

  abbrev Ordered : Command → Type 0
  Ordered c = (p : St) × FlushBegins s c p × InTurn p p.queue ran

  write_ordered : (c : Command) (n : ℕ) (x : Value) → command_of ws ≡ Some c → Writes s c n x → n < s.size → s.kind n ≡ signal → s.depth ≡ 0 → Ordered c
  unfolding whos
  write_ordered c n x is wr h k d = either (same (s.pend n) x) (λ e. nothing (same_yes (s.pend n) x e)) (λ e. walk (λ q. clash (yes_same (s.pend n) x q) e))
    where
      nothing : s.pend n ≡ x → Ordered c
      nothing e =
          let r = rows_are s rows ws ok ∙ ap (λ (t : St). t.log) (same_write_is_nothing s rows ws w ok c n x is wr e) in
          let q = w.queued.at_depth_0 d in
          (with_log s [], as_before wr e, subst (λ (l : List ℕ). InTurn (with_log s []) l ran) (sym q) (subst (λ (l : List Row). InTurn (with_log s []) [] (whos l)) (sym r) ends))

      walk : (s.pend n ≡ x → ⊥) → Ordered c
      walk e =
          let p = propagate (wrote s n x) n in
          let i = i_propagated (given s) (static s w) (with_log s []) n x (rest_inside (with_log s []) wl) h k in (
            p,
            walks {m = marks_of p} wr e (walk_in_order (wrote s n x) (written_well_formed (with_log s []) wl n x h k) n h (ap readable k) (ap unclean (up_same s.fl n f17)) free),
            from p i.inside (i.stuck ∙ free) refl (write_flushes s rows ws w ok c n x is wr e d ∙ flushing_whole p.queue p),
          )

  -- the rows of a command that flushes: of the queue as it stands when the flush begins, in its order, who is live and dirty at its turn
  pub rows_in_order : (c : Command) → command_of ws ≡ Some c → flushes c s.depth ≡ true → Ordered c
  unfolding table wrong_node asks_of
  rows_in_order (set_to n v) is f = let k = taken s rows w _ n ((performed s rows ws (set_to n v) is ok).1 2) in write_ordered (set_to n v) (node_of n) _ is (sets n v) k.0 (is_signal s rows w (s.kind (node_of n)) k.1) (eqb-true s.depth 0 f)
  rows_in_order (add_to n v) is f = let k = taken s rows w _ n ((performed s rows ws (add_to n v) is ok).1 2) in write_ordered (add_to n v) (node_of n) _ is (adds n v) k.0 (is_signal s rows w (s.kind (node_of n)) k.1) (eqb-true s.depth 0 f)
  rows_in_order batch_end is f =
      let p = with_depth (with_log s []) 0 in
      let d = eqb-true s.depth 1 f in
      (p, batch, from p (others (given s) nobody s (rest_inside s w) s.cycle s.sto s.pend 0 [] s.stuck) free refl (end_runs_queue s rows ws w ok is d ∙ flushing_whole s.queue p))
  rows_in_order (make_signal v) is f = false≢true f
  rows_in_order (make_computed cs) is f = false≢true f
  rows_in_order (make_effect o cs) is f = false≢true f
  rows_in_order (make_scope o) is f = false≢true f
  rows_in_order (read_of n) is f = false≢true f
  rows_in_order (dispose_of n) is f = false≢true f
  rows_in_order batch_start is f = false≢true f

  -- and no other rows, and no other order
  pub no_other_order : (c : Command) → command_of ws ≡ Some c → flushes c s.depth ≡ true → (p : St) (r : List ℕ) → FlushBegins s c p → InTurn p p.queue r → r ≡ ran
  no_other_order c is f p r b i = let o = rows_in_order c is f in in_turn_one i (subst (λ (x : St). InTurn x x.queue ran) (sym (begins_one b o.1)) o.2)

  -- a read of a node that has a value brings it up to date so, and if its value changed its pending subscribers are dirty
  pub read_in_order : (n : ℤ) → command_of ws ≡ Some (read_of n) → (s.fl (node_of n)).mutable ≡ true
      → (x : St) × (b : Bool) × Looked Updated (at (node_of n)) (with_log s []) x b × ((command true s rows ws).st ≡ elim b [ true ↦ shallow x (node_of n) | false ↦ x ])
  unfolding perform settle_w
  read_in_order n is m =
      let e = ap (λ (a : Answer). a.st) (performed s rows ws (read_of n) is ok).0 in
      let r = fresh s.size (with_log s []) (node_of n) in
      let x = spread r (node_of n) in
      let z = ap (λ (t : St). t.stuck) (sym e) ∙ nothing_stuck s rows ws w free in
      (r.st, r.yes, (fresh_looks s.size (with_log s []) (node_of n) m).looks (settled_free r (node_of n) z), e ∙ provided_free (has_value (x.kind (node_of n)) (x.fl (node_of n))) x z)
