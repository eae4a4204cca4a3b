-- V7: every accepted command keeps the clauses, with the last written values and the records that the history tells. Assumes nothing.
use Rattle.std.specs.Prelude.{Option, None, Some}
use mathlib.Core.Path.{◌≡◌, refl, sym, ap, ap₂, ◌∙◌, subst}
use mathlib.Core.Bool.{Bool, true, false, ◌||◌}
use mathlib.Core.List.{List, [], ◌∷◌, ◌++◌}
use Prim.Native.Nat.{ℕ, zero, suc, ◌+◌, ◌<◌, pred}
use native.Mathlib.Omega.{arith}
use lib.Dec.{eqb}
use lib.IntN.{pos}
use borrow.Author.Tests.{not-true, eqb-true, eqb-false, eq-eqb, ne_eqb}
use Rattle.flags.specs.declared.Named.{Named}
use Rattle.values.specs.declared.Value.{Value}
use Rattle.values.specs.Values.{value}
use Rattle.trees.specs.Trees.{constant, names}
use Rattle.meaning.specs.State.{St, Kind, signal, computed, effect, scope, Row, readable, f0, f1, f2, f6, nothing, up}
use Rattle.meaning.specs.Setters.{with_log, with_depth}
use Rattle.meaning.specs.Links.{dispose}
use Rattle.meaning.specs.Reads.{fresh, settle}
use Rattle.meaning.specs.Engine.{node, owned, flush, store, new_signal, new_computed, new_scope, new_effect, end_at}
use Rattle.meaning.specs.Words.{Command, make_signal, make_computed, make_effect, make_scope, set_to, add_to, read_of, dispose_of, batch_start, batch_end, node_of, owner_of, formula_of}
use Rattle.meaning.specs.Refusals.{sight_of, asks_of, a_signal, an_owner, wrong_node, gone_node, bad_formula, too_high, no_room, wrong_depth, table}
use Rattle.meaning.specs.Marks.{is_effect}
use Rattle.meaning.specs.WellFormed.{Once, WellFormed}
use Rattle.meaning.specs.Commands.{perform}
use Rattle.meaning.specs.Evaluations.{count_perform}
use Rattle.freshness.specs.Afresh.{recorded, moved, rested}
use Rattle.freshness.specs.Evaluations.{in_store, in_end, inPerform}
use Rattle.freshness.specs.Nodes.{Nodes, owns, changed}
use Rattle.freshness.specs.History.{Course, written, depth_after}
use Rattle.freshness.specs.Right.{flushes, returned, Agrees}
use Rattle.meaning.proofs.Laws.{clash, false≢true, either, or_false, none_some, up_same, up_other}
use Rattle.meaning.proofs.Rings.{dispose_ring, settle_ring}
use Rattle.meaning.proofs.Still.{Given, given, Fixed, Still, drops_still, renews_still}
use Rattle.meaning.proofs.Flush.{Lasting, whos}
use Rattle.meaning.proofs.Refused.{NoneHolds}
use Rattle.meaning.proofs.Inside.{nobody, Static, Inside}
use Rattle.meaning.proofs.Dropping.{dispose_inside}
use Rattle.meaning.proofs.Frames.{others}
use Rattle.meaning.proofs.Reading.{settle_inside}
use Rattle.meaning.proofs.Updating.{fresh_inside}
use Rattle.meaning.proofs.Running.{nobody_open, flush_inside}
use Rattle.meaning.proofs.Walking.{store_inside}
use Rattle.meaning.proofs.Making.{new_static}
use Rattle.meaning.proofs.Made.{made}
use Rattle.meaning.proofs.Disposed.{dispose_gone}
use Rattle.meaning.proofs.Accepted.{taken, is_signal, signal_fits, computed_fits, effect_fits, scope_fits, store_calm, flush_depth}
use Rattle.freshness.proofs.Inv.{Records, Inv, beside}
use Rattle.freshness.proofs.Clean.{φ}
use Rattle.freshness.proofs.Whole.{limit, read_fresh}
use Rattle.freshness.proofs.Purge.{dispose_spends}
use Rattle.freshness.proofs.Effect.{row_of}
use Rattle.freshness.proofs.Flush.{Rowed, flush_fresh}
use Rattle.freshness.proofs.Gone.{owns_higher, frame_gone, disposed_marks, Passes, passes_same, passes_alive, Shows}
use Rattle.freshness.proofs.Store.{Exactly, Exactly-or, exactly_as, exactly_clean, clean_exactly, flush_exact, undirtied, store_fresh}
use Rattle.freshness.proofs.Sound.{Sound, Step, not_it, code, and_first, and_last, owned_fixed, evaluated_fixed}
use Rattle.freshness.proofs.Made.{owned_quiet, plain_keeps, effect_fresh}
use Rattle.freshness.proofs.Dirt.{effect_stays, dirty_told}
use Rattle.freshness.proofs.Dispose.{dispose_keeps}
use Rattle.freshness.proofs.Between.{w as w-of, st as st-of, i as i-of, v as v-of, v₀ as v₀-of, calm as Calm-of, plainly, as_found, found_new, found_effect, shown as Shown-of, shown_new, gone_new as gone-new-of, number_is as number_of_lem, unsaid as unsaid-of}

module _ (P : Course) (so : Sound P) (rows : ℕ) where
  abbrev s : St
  s = with_log P.st []

  abbrev p : ℕ → Value
  p = P.past.last

  abbrev ρ : Records
  ρ = P.past.reads

  abbrev then : Command → ℕ → Value
  then k = written s.size s.sto k p

  abbrev now : Command → Nodes
  now k = changed k P.past.nodes

  abbrev g : Given
  g = given s

  ag : Agrees P.st P.past
  ag = so.agrees

  w : WellFormed s
  w = w-of P so rows

  st : Static g
  st = st-of P so rows

  i : Inside g nobody s
  i = i-of P so rows

  v : Inv g p ρ nobody nobody s
  v = v-of P so rows

  v₀ : Inv g s.pend ρ nobody nobody s
  v₀ = v₀-of P so rows

  calm : s.depth ≡ 0 → s.queue ≡ []
  calm = Calm-of P so rows

  shown : Shows g P.past.nodes
  shown = Shown-of P so rows

  gone_new : (m : ℕ) → m < suc s.size → up s.gone s.size false m ≡ up P.past.nodes.gone P.past.nodes.size false m
  gone_new = gone-new-of P so rows

  number_is : value (pos s.size) ≡ value (pos P.past.nodes.size)
  number_is = number_of_lem P so rows

  unsaid : up s.pend s.size nothing ≡ p
  unsaid = unsaid-of P so rows

  -- ---- a write
  writes : (k : Command) (n : ℕ) (x : Value) → then k ≡ up p n x → flushes P.past k ≡ eqb P.past.depth 0 → nothing ≡ returned P.past.nodes.size (φ g (then k)) k → eqb (code k) 3 ≡ false → Shows g (now k) → ((m : ℕ) → m < g.size → s.gone m ≡ (now k).gone m) → s.depth ≡ depth_after k P.past.depth
      → n < g.size → g.kind n ≡ signal → s.cycle + in_store s n x < limit → Step P k (then k) g (store s n x) nothing (in_store s n x)
  unfolding rested
  writes k n x q fl vl nm sh gn dp h kn fits =
      let t = store s n x in
      let r = store_fresh g st p ρ s n x i h kn v so.goes calm fits in
      let z = r.settled in
      let de = (store_calm s n x calm).0 in
      let ps : Passes g s.gone t.log t.gone = subst (λ (y : List Row). Passes g s.gone y t.gone) (sym z.logged) z.passes in
      let at_0 : flushes P.past k ≡ true → s.depth ≡ 0 = λ y. ag.depth ∙ eqb-true P.past.depth 0 (sym fl ∙ y) in
      let exact : s.depth ≡ 0 → Exactly g (then k) ρ t.log t =
      λ y. subst (λ (f : ℕ → Value). Exactly g f ρ t.log t) (sym q) (subst (λ (b : List Row). Exactly g (up p n x) ρ b t) (sym z.logged) (r.exact y)) in
      record {
        same = (store_inside g st s n x i h kn).inside.same;
        keeps = subst (λ (f : ℕ → Value). Inv g f (recorded ρ t.log) nobody nobody t) (sym q) (subst (λ (y : List Row). Inv g (up p n x) (recorded ρ y) nobody nobody t) (sym z.logged) z.keeps);
        fresh = subst (λ (f : ℕ → Value). Rowed g f t.log) (sym q) (subst (Rowed g (up p n x)) (sym z.logged) z.fresh);
        once = subst (λ (y : List Row). Once (whos y)) (sym z.logged) z.once;
        spent = z.spent;
        runs = λ y. clean_exactly g (then k) ρ t.log s t ps P.past.found (λ m a b c. sym (so.found m a b c) ∙ undirtied g st p ρ s i (calm (at_0 y)) m a b c) (exact (at_0 y));
        exact = λ y. exact (at_0 (and_first (flushes P.past k) P.past.writes y));
        clean = λ a b y m lt km am. r.dirty (λ e. y (de ∙ e)) m km ∙ so.clean a m lt km (passes_alive g t.log s.gone t.gone ps m lt am);
        found = λ y m lt km am.
            let nz : s.depth ≡ 0 → ⊥ = λ e. y (de ∙ e) in
            as_found P so rows t (λ d l. ap (λ (f : ℕ → Value). f d) (r.stored nz)) m lt km (passes_alive g t.log s.gone t.gone ps m lt am) (r.dirty nz m km)
            ∙ sym (ap (λ (b : List Row). rested (λ n. P.past.found n || moved s.sto t.sto (ρ n)) b m) (z.logged ∙ r.silent nz));
        value = vl;
        unwritten = λ m y. ap (λ (f : ℕ → Value). f m) q ∙ up_other p n x m (λ e. omega arith) ∙ so.unwritten m y;
        shows = sh;
        passes = passes_same g t.log s.gone (now k).gone t.gone gn ps;
        depth = de ∙ dp;
        made = λ o cs y. not_it k (make_effect o cs) nm y;
        silent = λ a f. z.logged ∙ r.silent (λ e. clash (fl ∙ eq-eqb P.past.depth 0 (sym ag.depth ∙ e)) f);
      }

  -- ---- the end of a batch
  ends : (d : ℕ) → s.depth ≡ d → (d ≡ 0 → ⊥) → s.cycle + in_end s d < limit → Step P batch_end p g (end_at s d) nothing (in_end s d)
  unfolding changed
  ends zero e ne fits = absurd (ne refl)
  ends (suc zero) e ne fits =
      let x = with_depth s 0 in
      let xi = others g nobody s i s.cycle s.sto s.pend 0 [] s.stuck in
      let xv = beside g p ρ nobody nobody s v s.queue 0 [] s.stuck in
      let f = flush_fresh g st p s.queue x ρ xi refl xv fits in
      let t = flush x in
      let runs = flush_exact g st p ρ s.queue x _ xi xv f in
      record {
        same = (flush_inside g st s.queue x xi refl).inside.same;
        keeps = subst (λ (y : List Row). Inv g p (recorded ρ y) nobody nobody t) (sym f.logged) f.keeps;
        fresh = subst (Rowed g p) (sym f.logged) f.fresh;
        once = subst (λ (y : List Row). Once (whos y)) (sym f.logged) f.once;
        spent = f.spent;
        runs = λ y. subst (λ (b : List Row). Exactly-or g p ρ b P.past.found t) (sym f.logged) (exactly_as g p ρ f.rows x t f.passes (λ m. (x.fl m).dirty) P.past.found so.found runs);
        exact = λ y. subst (λ (b : List Row). Exactly g p ρ b t) (sym f.logged)
            (exactly_clean g p ρ f.rows x t f.passes (λ m. (x.fl m).dirty) (so.clean (and_last (eqb P.past.depth 1) P.past.writes y)) runs);
        clean = λ a b y. absurd (y (flush_depth s.queue x));
        found = λ y. absurd (y (flush_depth s.queue x));
        value = refl;
        unwritten = so.unwritten;
        shows = shown;
        passes = passes_same g t.log s.gone P.past.nodes.gone t.gone ag.gone (subst (λ (y : List Row). Passes g s.gone y t.gone) (sym f.logged) f.passes);
        depth = flush_depth s.queue x ∙ ap pred (sym e ∙ ag.depth);
        made = λ o cs y. not_it batch_end (make_effect o cs) refl y;
        silent = λ a y. clash (eq-eqb P.past.depth 1 (sym ag.depth ∙ e)) y;
      }
  ends (suc (suc d)) e ne fits =
      plainly P so rows batch_end p g (with_depth s (suc d)) nothing (beside g p ρ nobody nobody s v s.queue (suc d) [] s.stuck) refl refl refl
      (ne_eqb P.past.depth 1 (λ q. let z = ag.depth in omega arith)) refl refl (λ a b y. so.clean a) so.unwritten shown ag.gone (ap pred (sym e ∙ ag.depth)) (λ m h ke a. as_found P so rows (with_depth s (suc d)) (λ z l. refl) m h ke a refl)

  pub stepped : (k : Command) → NoneHolds (table true (sight_of P.st rows) (Some k)) → s.cycle + inPerform s k < limit → (g' : Given) × Step P k (then k) g' (perform s k).st (perform s k).val (inPerform s k)
  unfolding table perform count_perform written changed wrong_node gone_node bad_formula too_high no_room wrong_depth asks_of names new_signal new_computed new_scope new_effect recorded rested whos
  stepped (make_signal x) h fits =
      let c = constant (pos 0) in
      let N = node s signal c None f1 (value x) in (
        given N,
        plainly P so rows (make_signal x) (then (make_signal x)) (given N) N _
            (subst (λ (f : ℕ → Value). Inv (given N) f ρ nobody nobody N) (ap (λ (f : ℕ → Value). up f s.size (value x)) v.last)
            (plain_keeps s w signal c f1 (value x) refl ρ v₀ None (signal_fits P.st rows so.formed x h) (λ q e. none_some e) (λ e. false≢true (sym (ap readable e))) (λ e. false≢true (sym (ap is_computed e)))))
            refl refl refl refl number_is refl (λ a b. false≢true b) (λ m y. up_other p s.size (value x) m (λ e. omega arith) ∙ so.unwritten m (omega arith))
            (shown_new P so rows signal c None f1 (value x)) gone_new ag.depth
            (found_new P so rows signal N (λ e. false≢true (sym (ap readable e))) (λ d f. (up_other s.sto s.size (value x) d f, up_other s.fl s.size f1 d f, up_other s.gone s.size false d f))),
      )
    where
      is_computed : Kind → Bool
      is_computed signal = true
      is_computed computed = false
      is_computed effect = false
      is_computed scope = false
  stepped (make_computed cs) h fits =
      let c = formula_of cs in
      let N = node s computed c None f0 nothing in (
        given N,
        plainly P so rows (make_computed cs) p (given N) N _
            (subst (λ (f : ℕ → Value). Inv (given N) f ρ nobody nobody N) unsaid
            (plain_keeps s w computed c f0 nothing refl ρ v₀ None (computed_fits P.st rows so.formed cs h) (λ q e. none_some e) (λ e. false≢true (sym (ap readable e))) (λ e. refl)))
            refl refl refl refl number_is refl (λ a b. false≢true b) (λ m y. so.unwritten m (omega arith)) (shown_new P so rows computed c None f0 nothing) gone_new ag.depth
            (found_new P so rows computed N (λ e. false≢true (sym (ap readable e))) (λ d f. (up_other s.sto s.size nothing d f, up_other s.fl s.size f0 d f, up_other s.gone s.size false d f))),
      )
  stepped (make_effect o cs) h fits =
      let c = formula_of cs in
      let ok = effect_fits P.st rows so.formed o cs h in
      let N = node s effect c (owner_of o) f6 nothing in
      let n = s.size in
      let x = owned N n (owner_of o) in
      let t = new_effect s (owner_of o) c in
      let m = made s w effect c f6 nothing refl (owner_of o) ok (λ q e. refl) in
      let r = effect_fresh s w ρ v₀ (owner_of o) c ok fits in
      let fx = owned_fixed N n (owner_of o) in
      let row = row_of (given N) p n in
      let lg : t.log ≡ row ∷ [] = r.row ∙ ap (λ (f : Fixed). f.log ++ row_of (given N) N.pend n ∷ []) fx ∙ ap (λ (f : ℕ → Value). row_of (given N) f n ∷ []) unsaid in
      let sp = r.moves.spent in
      let cy = (owned_quiet N n (owner_of o)).cycle in
      let ev = evaluated_fixed x n in
      let A = (now (make_effect o cs)).gone in
      let sts = new_static s w effect c (owner_of o) f6 nothing ok in
      let owned_none : (k : ℕ) → k < suc n → owns (given N).owner n k ≡ false = λ k lt. either (owns (given N).owner n k) (λ b. let z = owns_higher (given N) sts n k lt b in absurd (omega arith)) (λ b. b) in
      let after : (k : ℕ) → k < suc n → t.gone k ≡ (A k || owns (given N).owner n k) =
      λ k lt. r.spares k lt (owned_none k lt) ∙ ap (λ (f : ℕ → Bool). f k) (owned_quiet N n (owner_of o)).gone ∙ gone_new k lt ∙ sym (ap (λ (b : Bool). A k || b) (owned_none k lt) ∙ or_false (A k)) in (
        given N,
        record {
          same = ap (λ (f : Lasting). f.nodes) ev ∙ m.inside.same;
          keeps = subst (λ (y : List Row). Inv (given N) p (recorded ρ y) nobody nobody t) (sym lg)
              (subst (λ (f : ℕ → Value). Inv (given N) f (recorded ρ (row_of (given N) f n ∷ [])) nobody nobody t) unsaid r.keeps);
          fresh = subst (Rowed (given N) p) (sym lg) (refl, tt);
          once = subst (λ (y : List Row). Once (whos y)) (sym lg) ((λ z. z), tt);
          spent = omega arith;
          runs = λ z. false≢true z;
          exact = λ z. false≢true z;
          clean = λ a b. false≢true b;
          found = λ z e lt ke a.
              found_effect P so rows (owner_of o) c ok t n _ (up_same _ n f2) (λ k y b. r.spares k y (owned_none k y) ∙ b) r.moves e lt ke a
              ∙ sym (ap (λ (b : List Row). rested (λ k. P.past.found k || moved s.sto t.sto (ρ k)) b e) lg);
          value = number_is;
          unwritten = λ k z. so.unwritten k (omega arith);
          shows = shown_new P so rows effect c (owner_of o) f6 nothing;
          passes = subst (λ (y : List Row). Passes (given N) A y t.gone) (sym lg) (omega arith, up_same s.kind n effect, sym (gone_new n (omega arith)) ∙ up_same s.gone n false, after);
          depth = ap (λ (f : Lasting). f.depth) ev ∙ ap (λ (f : Fixed). f.depth) fx ∙ ag.depth;
          made = λ a b z. (row, ag.size, lg);
          silent = λ f z. absurd (f o cs refl);
        },
      )
  stepped (make_scope o) h fits =
      let c = constant (pos 0) in
      let ok = scope_fits P.st rows so.formed o h in
      let N = node s scope c (owner_of o) f0 nothing in
      let t = owned N s.size (owner_of o) in
      let m = made s w scope c f0 nothing refl (owner_of o) ok (λ q e. refl) in
      let fx = owned_fixed N s.size (owner_of o) in (
        given N,
        plainly P so rows (make_scope o) p (given N) t _
            (subst (λ (f : ℕ → Value). Inv (given N) f ρ nobody nobody t) unsaid (plain_keeps s w scope c f0 nothing refl ρ v₀ (owner_of o) ok (λ q e. refl) (λ e. false≢true (sym (ap is_scope e))) (λ e. refl)))
            m.inside.same (ap (λ (f : Fixed). f.log) fx) (owned_quiet N s.size (owner_of o)).cycle refl number_is refl (λ a b. false≢true b) (λ k z. so.unwritten k (omega arith))
            (shown_new P so rows scope c (owner_of o) f0 nothing) (λ k lt. ap (λ (f : ℕ → Bool). f k) (owned_quiet N s.size (owner_of o)).gone ∙ gone_new k lt) (ap (λ (f : Fixed). f.depth) fx ∙ ag.depth)
            (found_new P so rows scope t (λ e. false≢true (sym (ap is_scope e))) (λ d f. let u = owned_quiet N s.size (owner_of o) in (
              ap (λ (a : ℕ → Value). a d) u.sto ∙ up_other s.sto s.size nothing d f,
              ap (λ (a : ℕ → Named). a d) u.fl ∙ up_other s.fl s.size f0 d f,
              ap (λ (a : ℕ → Bool). a d) u.gone ∙ up_other s.gone s.size false d f,
            ))),
      )
    where
      is_scope : Kind → Bool
      is_scope signal = false
      is_scope computed = false
      is_scope effect = false
      is_scope scope = true
  stepped (set_to n x) h fits = let k = taken P.st rows so.formed a_signal n (h 2) in (g, writes (set_to n x) (node_of n) (value x) refl refl refl refl shown ag.gone ag.depth k.0 (is_signal P.st rows so.formed (s.kind (node_of n)) k.1) fits)
  stepped (add_to n x) h fits = let k = taken P.st rows so.formed a_signal n (h 2) in (g, writes (add_to n x) (node_of n) _ refl refl refl refl shown ag.gone ag.depth k.0 (is_signal P.st rows so.formed (s.kind (node_of n)) k.1) fits)
  stepped (read_of n) h fits =
      let k = taken P.st rows so.formed readable n (h 2) in
      let r = read_fresh g st p ρ s (node_of n) i k.0 k.1 v fits in
      let t = settle s (node_of n) in
      let q = (settle_ring Still renews_still s (node_of n)).same in
      let lg : t.log ≡ [] = ap (λ (f : Fixed). f.log) q in
      let se = settle_inside g st s.size (fresh s.size) (fresh_inside g st s.size) nobody s (node_of n) i (nobody_open g st s) k.0 k.1 (λ m x y. absurd x) k.0 in (
        g,
        record {
          same = se.inside.same;
          keeps = subst (λ (y : List Row). Inv g p (recorded ρ y) nobody nobody t) (sym lg) r.keeps;
          fresh = subst (Rowed g p) (sym lg) tt;
          once = subst (λ (y : List Row). Once (whos y)) (sym lg) tt;
          spent = r.moves.spent;
          runs = λ z. false≢true z;
          exact = λ z. false≢true z;
          clean = λ a b. false≢true b;
          found = λ z m lt km am.
              let al : s.gone m ≡ false = sym (frame_gone g st nobody nobody _ _ s t i se.inside se.frame m lt) ∙ am in
              dirty_told g st p ρ nobody s i v (λ y x. absurd x) _ _ _ t r.moves m lt km al (λ y. y) (λ y. clash (ap is_effect km) (ap is_effect y.0))
              ∙ ap (λ (b : Bool). b || moved s.sto t.sto (ρ m)) (so.found m lt km al) ∙ sym (ap (λ (b : List Row). rested (λ n. P.past.found n || moved s.sto t.sto (ρ n)) b m) lg);
          value = r.value;
          unwritten = so.unwritten;
          shows = shown;
          passes = subst (λ (y : List Row). Passes g P.past.nodes.gone y t.gone) (sym lg)
              (λ m lt. frame_gone g st nobody nobody _ _ s t i se.inside se.frame m lt ∙ ag.gone m lt);
          depth = ap (λ (f : Fixed). f.depth) q ∙ ag.depth;
          made = λ o cs z. not_it (read_of n) (make_effect o cs) refl z;
          silent = λ a b. lg;
        },
      )
  stepped (dispose_of n) h fits =
      let k = taken P.st rows so.formed an_owner n (h 2) in
      let x = node_of n in
      let rn = not-true (readable (s.kind x)) k.1 in
      let q = dispose_ring Still drops_still s x in
      let d = dispose_inside g st s x i k.0 rn in
      let t = dispose s x in
      let gone : (m : ℕ) → m < g.size → t.gone m ≡ (P.past.nodes.gone m || (eqb m x || owns P.past.nodes.owner x m)) =
      λ m lt. disposed_marks g st s t x d.inside (dispose_gone s x) q.gone d.others m lt ∙ ap₂ (λ (b : Bool) (f : ℕ → Option ℕ). b || (eqb m x || owns f x m)) (ag.gone m lt) ag.owner in (
        g,
        plainly P so rows (dispose_of n) p g t nothing (dispose_keeps g st p ρ s x i k.0 rn v) d.inside.same (ap (λ (f : Fixed). f.log) q.same) (dispose_spends s x).cycle refl refl refl (λ a b. false≢true b) so.unwritten
            (record { size = ag.size; kind = ag.kind; form = ag.form; owner = ag.owner }) gone (ap (λ (f : Fixed). f.depth) q.same ∙ ag.depth)
            (λ m lt km am. let sp = dispose_spends s x in let al = either (s.gone m) (λ b. clash (sp.gone m b) am) (λ b. b) in
            as_found P so rows t (λ e l. ap (λ (f : ℕ → Value). f e) sp.sto) m lt km al (ap (λ (z : Named). z.dirty) (effect_stays g (s.fl m) t d.inside m lt km am (sp.flags m)))),
      )
  stepped batch_start h fits =
      (g, plainly P so rows batch_start p g (with_depth s (suc s.depth)) nothing (beside g p ρ nobody nobody s v s.queue (suc s.depth) [] s.stuck) refl refl refl refl refl refl (λ a b y. so.clean a) so.unwritten shown ag.gone (ap suc ag.depth) (λ m h ke a. as_found P so rows (with_depth s (suc s.depth)) (λ z l. refl) m h ke a refl))
  stepped batch_end h fits = (g, ends s.depth refl (eqb-false s.depth 0 (h 7)) fits)
