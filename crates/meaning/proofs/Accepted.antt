-- From well-formed tables every command leaves well-formed tables and is not stuck. Assumes nothing.
use Rattle.std.specs.Prelude.{Option, None, Some, unwrap_or}
use mathlib.Core.Path.{◌≡◌, refl, sym, ap, ◌∙◌, subst}
use mathlib.Core.Logic.{◌⊎◌, inl, inr}
use mathlib.Core.Bool.{Bool, true, false, not, ◌&&◌, ◌||◌}
use mathlib.Core.List.{List, [], ◌∷◌}
use Prim.Native.Nat.{ℕ, zero, suc, ◌+◌, ◌≤◌, ◌<◌}
use native.Mathlib.Omega.{arith}
use lib.Dec.{leb, ltb}
use lib.IntN.{ℤ, pos, negsuc}
use borrow.Author.Tests.{leb-false, ltb-true, ltb-false, not-true, not-false, eqb-false}
use Rattle.values.specs.declared.Value.{Value}
use Rattle.values.specs.Values.{value, same}
use Rattle.trees.specs.Trees.{Tree, constant, size, nesting, names}
use Rattle.trees.specs.Legal.{most_cells, most_nesting}
use Rattle.meaning.specs.State.{St, Kind, signal, computed, effect, scope, Room, capacities, readable, on, f17, empty}
use Rattle.meaning.specs.Setters.{with_log, with_depth, with_queue, set_fl, set_pend}
use Rattle.meaning.specs.Links.{is_nil}
use Rattle.meaning.specs.Marks.{is_effect, propagate}
use Rattle.meaning.specs.Engine.{level_of, cells_of, run, flush_on, flush, flush_at, store, end_at}
use Rattle.meaning.specs.Words.{Command, make_signal, make_computed, make_effect, make_scope, set_to, add_to, read_of, dispose_of, batch_start, batch_end, command_of, node_of, owner_of, tree_of, formula_of}
use Rattle.meaning.specs.Reserve.{reserve, reserve_of}
use Rattle.meaning.specs.Refusals.{Sight, sight_of, asks_of, a_signal, an_owner, is_a, unknown, wrong_owner, wrong_node, is_gone, gone_node, all_readable, legal_cells, bad_formula, tree_in, too_high, full, no_room, wrong_depth, table, refusal, most_level, most_depth}
use Rattle.meaning.specs.WellFormed.{In, WellFormed}
use Rattle.meaning.specs.Commands.{perform, perform_any, answer, command}
use Rattle.meaning.specs.Cases.{after_all}
use Rattle.meaning.proofs.Laws.{false≢true, none_some, same_some, branch, provided_by, or_left, or_right}
use Rattle.meaning.proofs.Rings.{dispose_ring, settle_ring}
use Rattle.meaning.proofs.Still.{Given, given, Fixed, Still, drops_still, renews_still}
use Rattle.meaning.proofs.Flush.{Lasting, run_lasts, flush_empties}
use Rattle.meaning.proofs.Refused.{NoneHolds, accepted_exactly}
use Rattle.meaning.proofs.Formulas.{tree_exact}
use Rattle.meaning.proofs.Emptied.{empty_well_formed}
use Rattle.meaning.proofs.Batches.{start_well_formed, inner_end_well_formed}
use Rattle.meaning.proofs.Inside.{nobody, Static, Inside, static, rest_inside}
use Rattle.meaning.proofs.Dropping.{a_computed, dispose_inside}
use Rattle.meaning.proofs.Frames.{others}
use Rattle.meaning.proofs.Running.{Goes_on, read_inside, flush_inside}
use Rattle.meaning.proofs.Walking.{store_inside}
use Rattle.meaning.proofs.Making.{Fits}
use Rattle.meaning.proofs.Made.{Well, at_rest, signal_well, computed_well, scope_well}
use Rattle.meaning.proofs.Entered.{effect_well}

and_both : (a b : Bool) → a && b ≡ true → (a ≡ true) × (b ≡ true)
and_both true b e = (refl, e)
and_both false b e = false≢true e

-- ---- the depth, and the queue at depth 0
pub flush_depth : (q : List ℕ) (s : St) → (flush_on s q).depth ≡ s.depth
unfolding flush_on
flush_depth [] s = refl
flush_depth (e ∷ q) s = flush_depth q (run (with_queue s q) e) ∙ ap (λ (l : Lasting). l.depth) (run_lasts (with_queue s q) e)

-- at depth 0 the queue is empty
abbrev Calm : St → Type 0
Calm t = t.depth ≡ 0 → t.queue ≡ []

pub store_calm : (s : St) (n : ℕ) (v : Value) → Calm s → ((store s n v).depth ≡ s.depth) × Calm (store s n v)
unfolding store
store_calm s n v c =
    let P : St → Type 0 = λ t. (t.depth ≡ s.depth) × Calm t in
    let k = branch P (same (s.pend n) v) (λ e. (refl, c)) (λ e. branch P (is_nil (s.subs n)) (λ f. (refl, c)) (λ f. go s.depth refl)) in
    provided_by P (a_signal (s.kind n)) k k
  where
    go : (d : ℕ) → s.depth ≡ d → ((flush_at (propagate (set_fl (set_pend s n v) n f17) n) d).depth ≡ s.depth) × Calm (flush_at (propagate (set_fl (set_pend s n v) n f17) n) d)
    go zero e = let q = propagate (set_fl (set_pend s n v) n f17) n in (flush_depth q.queue q, λ z. flush_empties q)
    go (suc d) e = (refl, λ z. absurd (omega arith))

module _ (s : St) (rows : ℕ) (w : WellFormed s) where
  abbrev v : Sight
  v = sight_of s rows

  abbrev s' : St
  s' = with_log s []

  -- the log is no part of the tables
  pub logless : WellFormed (with_log s [])
  unfolding reserve
  logless = record { lists = w.lists; depends = w.depends; limits = w.limits; by_kind = w.by_kind; queued = w.queued }

  abbrev g : Given
  g = given s

  st : Static (given (with_log s []))
  st = static (with_log s []) logless

  i : Inside (given (with_log s [])) nobody (with_log s [])
  i = rest_inside (with_log s []) logless

  calm : Calm s
  calm = w.queued.at_depth_0

  -- what kept the depth and, at depth 0, has an empty queue is at rest again
  ended : (t : St) → Goes_on g nobody (with_log s []) t → t.depth ≡ s.depth → Calm t → Well (with_log s []) t
  ended t r d c = record { formed = at_rest g t st r.inside c (subst (λ (x : ℕ). x ≤ most_depth) (sym d) w.queued.depth_low); stuck = r.stuck }

  still_ended : (t : St) → Goes_on g nobody (with_log s []) t → Still (with_log s []) t → Well (with_log s []) t
  still_ended t r p =
      let q = ap (λ (f : Fixed). f.queue) p.same in
      let d = ap (λ (f : Fixed). f.depth) p.same in
      ended t r d (λ e. q ∙ calm (sym d ∙ e))

  -- ---- row 3: a known node of a kind that the command takes
  known : (p : Kind → Bool) (n : ℤ) → is_a v p n ≡ true → (node_of n < s.size) × (p (s.kind (node_of n)) ≡ true)
  unfolding is_a
  known p (pos n) e = go (ltb n s.size) refl e
    where
      go : (b : Bool) → ltb n s.size ≡ b → elim b [ true ↦ p (s.kind n) | false ↦ false ] ≡ true → (n < s.size) × (p (s.kind n) ≡ true)
      go true h f = (ltb-true n s.size h, f)
      go false h f = false≢true f
  known p (negsuc n) e = false≢true e

  -- ---- rows 3 to 7 leave room for a new node
  owner_fits : (o : ℤ) → wrong_owner v o ≡ false → is_gone v o ≡ false → (p : ℕ) → owner_of o ≡ Some p → (p < s.size) × (readable (s.kind p) ≡ false) × (s.gone p ≡ false)
  owner_fits (pos q) a b p e =
      let x = known an_owner (pos q) (not-false (is_a v an_owner (pos q)) a) in
      subst (λ (z : ℕ). (z < s.size) × (readable (s.kind z) ≡ false) × (s.gone z ≡ false)) (same_some e) (x.0, not-true (readable (s.kind q)) x.1, b)
  owner_fits (negsuc q) a b p e = none_some e

  readable_known : (ns : List ℕ) → all_readable v ns ≡ true → (m : ℕ) → In m ns → (m < s.size) × (readable (s.kind m) ≡ true)
  unfolding all_readable
  readable_known [] e m x'' = elim x'' [ ]
  readable_known (n ∷ ns) e m (inl q) = subst (λ (x : ℕ). (x < s.size) × (readable (s.kind x) ≡ true)) (sym q) (known readable (pos n) (and_both (is_a v readable (pos n)) (all_readable v ns) e).0)
  readable_known (n ∷ ns) e m (inr j) = readable_known ns (and_both (is_a v readable (pos n)) (all_readable v ns) e).1 m j

  -- the formula is legal
  record Legal (t : Tree) : Type 0 where
    pub known : (m : ℕ) → In m (names t) → (m < s.size) × (readable (s.kind m) ≡ true)
    pub few : size t ≤ most_cells
    pub shallow : nesting t ≤ most_nesting

  legal : (o : Option (List ℤ)) → on o (λ cs. not (legal_cells v cs)) ≡ false → Legal (tree_in o)
  unfolding size nesting names
  legal None e = record { known = λ m j. absurd j; few = omega arith; shallow = omega arith }
  legal (Some cs) e = go (tree_of cs) refl e
    where
      go : (o : Option Tree) → tree_of cs ≡ o → not (on o (λ t. all_readable v (names t))) ≡ false → Legal (unwrap_or o (constant (pos 0)))
      go None q a = false≢true (sym a)
      go (Some t) q a = let x = (tree_exact cs t).0 q in record { known = readable_known (names t) (not-false (all_readable v (names t)) a); few = x.few; shallow = x.shallow }

  fits : (k : Kind) (cs : Option (List ℤ)) (o : ℤ) → wrong_owner v o ≡ false → is_gone v o ≡ false → on cs (λ ws. not (legal_cells v ws)) ≡ false → ltb (most_level k) (level_of s.level k (tree_in cs) (owner_of o)) ≡ false → full v (Some k) (tree_in cs) (owner_of o) ≡ false
      → (readable k ≡ true → owner_of o ≡ None) → ((k ≡ signal) ⊎ (k ≡ scope) → names (tree_in cs) ≡ []) → Fits (with_log s []) k (tree_in cs) (owner_of o)
  unfolding reserve
  fits k cs o a b c d e un nm =
      let l = legal cs c in
      let t = tree_in cs in
      let x = leb s.room.nodes s.size in
      let y = ltb s.room.cells (s.used + cells_of k t) in
      let z = ltb s.room.slots (reserve s + reserve_of k false t (owner_of o)) in
      record {
        room = leb-false s.room.nodes s.size (or_left x (y || z) e);
        cells = ltb-false s.room.cells (s.used + cells_of k t) (or_left y z (or_right x (y || z) e));
        slots = ltb-false s.room.slots (reserve s + reserve_of k false t (owner_of o)) (or_right y z (or_right x (y || z) e));
        known = l.known;
        few = l.few;
        shallow = l.shallow;
        level = ltb-false (most_level k) (level_of s.level k t (owner_of o)) d;
        owner = owner_fits o a b;
        unowned = un;
        nameless = nm;
      }

  -- ---- command by command, where no row holds
  pub taken : (p : Kind → Bool) (n : ℤ) → not (is_a v p n) || false ≡ false → (node_of n < s.size) × (p (s.kind (node_of n)) ≡ true)
  taken p n e = known p n (not-false (is_a v p n) (or_left (not (is_a v p n)) false e))

  pub is_signal : (k : Kind) → a_signal k ≡ true → k ≡ signal
  is_signal signal e = refl
  is_signal computed e = false≢true e
  is_signal effect e = false≢true e
  is_signal scope e = false≢true e

  stored : (n : ℕ) (x : Value) → (n < s.size) × (a_signal (s.kind n) ≡ true) → Well (with_log s []) (store (with_log s []) n x)
  stored n x k = let c = store_calm (with_log s []) n x calm in ended _ (store_inside g st (with_log s []) n x i k.0 (is_signal (s.kind n) k.1)) c.0 c.1

  end_well : (d : ℕ) → s.depth ≡ d → (d ≡ 0 → ⊥) → Well (with_log s []) (end_at (with_log s []) d)
  end_well zero e h = absurd (h refl)
  end_well (suc zero) e h =
      let t = with_depth (with_log s []) 0 in
      let r = flush_inside g st s.queue t (others g nobody (with_log s []) i s.cycle s.sto s.pend 0 [] s.stuck) refl in
      let d = flush_depth s.queue t in
      record { formed = at_rest g (flush t) st r.inside (λ z. flush_empties t) (subst (λ (x : ℕ). x ≤ most_depth) (sym d) (omega arith)); stuck = r.stuck }
  end_well (suc (suc d)) e h = record { formed = subst (λ (x : ℕ). WellFormed (end_at (with_log s []) x)) e (inner_end_well_formed (with_log s []) d e logless); stuck = refl }

  -- the four makings
  pub signal_fits : (x : ℤ) → NoneHolds (table true v (Some (make_signal x))) → Fits (with_log s []) signal (constant (pos 0)) None
  unfolding table wrong_node gone_node bad_formula too_high no_room asks_of names
  signal_fits x h = fits signal None (negsuc 0) refl refl refl (h 5) (h 6) (λ r. refl) (λ r. refl)

  pub computed_fits : (cs : List ℤ) → NoneHolds (table true v (Some (make_computed cs))) → Fits (with_log s []) computed (formula_of cs) None
  unfolding table wrong_node gone_node bad_formula too_high no_room asks_of
  computed_fits cs h = fits computed (Some cs) (negsuc 0) refl refl (h 4) (h 5) (h 6) (λ r. refl) (λ r. not_plain r)
    where
      not_plain : (computed ≡ signal) ⊎ (computed ≡ scope) → names (formula_of cs) ≡ []
      not_plain (inl e) = false≢true (sym (ap a_computed e))
      not_plain (inr e) = false≢true (sym (ap a_computed e))

  pub effect_fits : (o : ℤ) (cs : List ℤ) → NoneHolds (table true v (Some (make_effect o cs))) → Fits (with_log s []) effect (formula_of cs) (owner_of o)
  unfolding table wrong_node gone_node bad_formula too_high no_room asks_of
  effect_fits o cs h = fits effect (Some cs) o (h 2) (h 3) (h 4) (h 5) (h 6) (λ r. false≢true r) (λ r. not_plain r)
    where
      not_plain : (effect ≡ signal) ⊎ (effect ≡ scope) → names (formula_of cs) ≡ []
      not_plain (inl e) = false≢true (sym (ap is_effect e))
      not_plain (inr e) = false≢true (sym (ap is_effect e))

  pub scope_fits : (o : ℤ) → NoneHolds (table true v (Some (make_scope o))) → Fits (with_log s []) scope (constant (pos 0)) (owner_of o)
  unfolding table wrong_node gone_node bad_formula too_high no_room asks_of names
  scope_fits o h = fits scope None o (h 2) (h 3) refl (h 5) (h 6) (λ r. false≢true r) (λ r. refl)

  perform_well : (c : Command) → NoneHolds (table true v (Some c)) → Well (with_log s []) (perform (with_log s []) c).st
  unfolding table perform wrong_node gone_node bad_formula too_high no_room wrong_depth asks_of names
  perform_well (make_signal x) h = signal_well (with_log s []) logless (value x) (signal_fits x h)
  perform_well (make_computed cs) h = computed_well (with_log s []) logless (formula_of cs) (computed_fits cs h)
  perform_well (make_effect o cs) h = effect_well (with_log s []) logless (owner_of o) (formula_of cs) (effect_fits o cs h)
  perform_well (make_scope o) h = scope_well (with_log s []) logless (owner_of o) (scope_fits o h)
  perform_well (set_to n x) h = stored (node_of n) (value x) (taken a_signal n (h 2))
  perform_well (add_to n d) h = stored (node_of n) _ (taken a_signal n (h 2))
  perform_well (read_of n) h =
      let k = taken readable n (h 2) in
      still_ended _ (read_inside g st (with_log s []) (node_of n) i k.0 k.1) (settle_ring Still renews_still (with_log s []) (node_of n))
  perform_well (dispose_of n) h =
      let k = taken an_owner n (h 2) in
      let r = dispose_inside g st (with_log s []) (node_of n) i k.0 (not-true (readable (s.kind (node_of n))) k.1) in
      still_ended _ (record { inside = r.inside; stuck = r.stuck }) (dispose_ring Still drops_still (with_log s []) (node_of n))
  perform_well batch_start h = record { formed = start_well_formed (with_log s []) (leb-false most_depth s.depth (h 7)) logless; stuck = refl }
  perform_well batch_end h = end_well s.depth refl (eqb-false s.depth 0 (h 7))

  -- ---- a command that is accepted is performed, and no row holds of it
  any_well : (c : Option Command) → NoneHolds (table true v c) → Well s (perform_any (with_log s []) c).st
  unfolding perform_any table unknown
  any_well None h = false≢true (sym (h 1))
  any_well (Some c) h = let r = perform_well c h in record { formed = r.formed; stuck = r.stuck }

-- from well-formed tables: well formed after it, and not stuck unless the state was so before
pub command_kept : (well : Bool) (s : St) (rows : ℕ) (ws : List ℤ) → WellFormed s → Well s (command well s rows ws).st
unfolding command answer table
command_kept well s rows ws w = go (refusal well (sight_of s rows) ws) (accepted_exactly well s rows ws).0
  where
    go : (r : ℕ) → ((answer r s ws).code ≡ 0 → NoneHolds (table well (sight_of s rows) (command_of ws))) → Well s (answer r s ws).st
    go zero h = any_well s rows w (command_of ws) (rightly well (h refl))
      where
        rightly : (b : Bool) → NoneHolds (table b (sight_of s rows) (command_of ws)) → NoneHolds (table true (sight_of s rows) (command_of ws))
        rightly true k = k
        rightly false k = false≢true (sym (k 0))
    go (suc r) h = record { formed = w; stuck = refl }

-- and so after any commands
pub script_kept : (rows : ℕ) (cs : List (List ℤ)) (s : St) → WellFormed s → Well s (after_all s rows cs)
unfolding after_all
script_kept rows [] s w = record { formed = w; stuck = refl }
script_kept rows (c ∷ cs) s w =
    let a = command_kept true s rows c w in
    let b = script_kept rows cs (command true s rows c).st a.formed in
    record { formed = b.formed; stuck = b.stuck ∙ a.stuck }

-- no history from empty tables is ever stuck
pub never_stuck : (r : Room) → capacities r ≡ true → (rows : ℕ) (cs : List (List ℤ)) → WellFormed (after_all (empty r) rows cs) × ((after_all (empty r) rows cs).stuck ≡ false)
unfolding empty
never_stuck r within rows cs = let a = script_kept rows cs (empty r) (empty_well_formed r within) in (a.formed, a.stuck)
