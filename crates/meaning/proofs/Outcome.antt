-- What an accepted command comes to: its rows fit the lent log and are of effects that may run, and who goes must go. Assumes nothing.
use Rattle.std.specs.Prelude.{Option, None, Some}
use mathlib.Core.Path.{◌≡◌, refl, sym, ap, ◌∙◌, subst}
use mathlib.Core.Logic.{◌⊎◌, inl, inr}
use mathlib.Core.Bool.{Bool, true, false, not, ◌&&◌}
use mathlib.Core.List.{List, [], ◌∷◌, ◌++◌}
use Prim.Native.Nat.{ℕ, zero, suc, ◌≤◌, ◌<◌}
use native.Mathlib.Omega.{arith}
use lib.IntN.{ℤ, pos, negsuc}
use lib.ListN.{length}
use borrow.Author.Tests.{eq-eqb, ltb-false, not-true}
use Rattle.values.specs.declared.Value.{Value}
use Rattle.values.specs.Values.{value, same}
use Rattle.lists.specs.Sum.{count}
use Rattle.trees.specs.Trees.{Tree, constant}
use Rattle.meaning.specs.State.{St, Kind, signal, effect, scope, Row, readable, f0, f6, f17, nothing, up}
use Rattle.meaning.specs.Setters.{with_log, with_depth, set_fl, set_pend}
use Rattle.meaning.specs.Links.{is_nil, dispose}
use Rattle.meaning.specs.Marks.{is_effect, propagate}
use Rattle.meaning.specs.Reads.{evaluate}
use Rattle.meaning.specs.Engine.{logged, flush, flush_at, store, node, owned, new_signal, new_computed, new_scope, entered, new_effect, end_at}
use Rattle.meaning.specs.Words.{Command, make_signal, make_computed, make_effect, make_scope, set_to, add_to, read_of, dispose_of, batch_start, batch_end, command_of, node_of, owner_of, formula_of}
use Rattle.meaning.specs.Refusals.{Sight, sight_of, a_signal, an_owner, asks_of, is_a, unknown, wrong_node, live_effects, flush_rows, few_rows, table, refusal}
use Rattle.meaning.specs.Owners.{Below}
use Rattle.meaning.specs.WellFormed.{In, Once, WellFormed}
use Rattle.meaning.specs.Commands.{perform, perform_any, Answer, answer, command, runs}
use Rattle.meaning.specs.Outcome.{first_row, flushes, MayRun, made, flushed, MustGo, disposed, owned as had}
use Rattle.meaning.proofs.Laws.{clash, false≢true, branch, provided_so, up_same, up_other}
use Rattle.meaning.proofs.Owning.{below_known}
use Rattle.meaning.proofs.Rings.{dispose_ring, settle_ring, evaluate_ring}
use Rattle.meaning.proofs.Still.{Given, given, Fixed, fixed, Still, link_still, drops_still, renews_still}
use Rattle.meaning.proofs.Flush.{whos, ran_once, ran_in}
use Rattle.meaning.proofs.Refused.{NoneHolds, accepted_exactly}
use Rattle.meaning.proofs.Performed.{performed}
use Rattle.meaning.proofs.Inside.{nobody, Inside, Static, static, rest_inside}
use Rattle.meaning.proofs.Dropping.{dispose_inside}
use Rattle.meaning.proofs.Frames.{others}
use Rattle.meaning.proofs.Running.{read_marks, flush_inside}
use Rattle.meaning.proofs.Walking.{i_propagated}
use Rattle.meaning.proofs.Entered.{owned_marks, effect_marks}
use Rattle.meaning.proofs.Accepted.{logless, taken, is_signal, effect_fits}
use Rattle.meaning.proofs.Rows.{flush_rows_lem, flush_few}

-- ---- a new effect has one row
owned_fixed : (x : St) (n : ℕ) (o : Option ℕ) → fixed (owned x n o) ≡ fixed x
owned_fixed x n None = refl
owned_fixed x n (Some p) = (link_still x n p 0).same

new_fixed : (s : St) (o : Option ℕ) (t : Tree) → fixed (evaluate (entered s o t) s.size).st ≡ fixed (node s effect t o f6 nothing)
new_fixed s o t = (evaluate_ring Still renews_still (entered s o t) s.size).same ∙ owned_fixed (node s effect t o f6 nothing) s.size o

pub new_row : (s : St) (o : Option ℕ) (t : Tree) → (new_effect s o t).log ≡ s.log ++ first_row s o t ∷ []
unfolding new_effect logged
new_row s o t = ap (λ (f : Fixed). f.log ++ first_row s o t ∷ []) (new_fixed s o t)

-- ---- the rows and marks that a command leaves
module _ (s : St) (rows : ℕ) (w : WellFormed s) where
  abbrev v : Sight
  v = sight_of s rows

  wl : WellFormed (with_log s [])
  wl = logless s rows w

  abbrev g : Given
  g = given (with_log s [])

  st : Static (given (with_log s []))
  st = static (with_log s []) wl

  i : Inside (given (with_log s [])) nobody (with_log s [])
  i = rest_inside (with_log s []) wl

  -- as few rows as it wants, no effect has two, each is of one that may run, and what it owned is gone; of what was there nothing else goes, and what is new is not gone
  pub record Told (c : Command) (t : St) : Type 0 where
    pub few : length t.log ≤ (asks_of c).rows v
    pub once : Once (whos t.log)
    pub whose : (e : ℕ) → In e (whos t.log) → MayRun s c e
    pub disposes : (e y : ℕ) → In e (whos t.log) → y < s.size → s.owner y ≡ Some e → t.gone y ≡ true
    pub goes : (n : ℕ) → n < s.size → readable (s.kind n) ≡ false → s.gone n ≡ false → t.gone n ≡ true → MustGo s c (whos t.log) n
    pub lives : (n : ℕ) → s.size ≤ n → n < t.size → t.gone n ≡ false

  -- ---- no row
  told_none : (c : Command) (t : St) → t.log ≡ [] → ((n : ℕ) → n < s.size → readable (s.kind n) ≡ false → s.gone n ≡ false → t.gone n ≡ true → MustGo s c (whos t.log) n)
      → ((n : ℕ) → s.size ≤ n → n < t.size → t.gone n ≡ false) → Told c t
  unfolding whos
  told_none c t e goes lives =
      let a = ap length e in
      let none_here : (m : ℕ) → In m (whos t.log) → ⊥ = λ m j. subst (λ (z : List Row). In m (whos z)) e j in
      record { few = omega arith; once = subst (λ (z : List Row). Once (whos z)) (sym e) tt; whose = λ m j. absurd (none_here m j); disposes = λ m y j. absurd (none_here m j); goes = goes; lives = lives }

  -- and no mark changes
  told_calm : (c : Command) (t : St) → t.log ≡ [] → t.size ≡ s.size → ((n : ℕ) → readable (s.kind n) ≡ false → t.gone n ≡ s.gone n) → Told c t
  told_calm c t e z m = told_none c t e (λ n h r a b. clash b (m n r ∙ a)) (λ n h l. absurd (omega arith))

  -- ---- a flush
  told_flush : (c : Command) (t : St) → Inside (given (with_log s [])) nobody t → t.log ≡ [] → t.size ≡ s.size → t.kind ≡ s.kind → t.gone ≡ s.gone
      → flushes c s.depth ≡ true → live_effects s ≤ (asks_of c).rows v → Told c (flush t)
  unfolding live_effects
  told_flush c t i l e k q fl few =
      let f = flush_rows_lem g st t.queue t i refl in
      let x = flush_few g st t i in
      let log_is : (flush t).log ≡ f.rows = f.logged ∙ ap (λ (z : List Row). z ++ f.rows) l in
      let a = ap length (x.1 ∙ ap (λ (z : List Row). z ++ x.0) l) in
      let b = x.2 in
      let n : count (λ m. is_effect (t.kind m) && not (t.gone m)) t.size ≡ count (λ m. is_effect (s.kind m) && not (s.gone m)) s.size =
      ap (λ (z : ℕ → Kind). count (λ m. is_effect (z m) && not (t.gone m)) t.size) k ∙ ap (λ (z : ℕ → Bool). count (λ m. is_effect (s.kind m) && not (z m)) t.size) q
      ∙ ap (count (λ m. is_effect (s.kind m) && not (s.gone m))) e in
      let row : (m : ℕ) → In m (whos (flush t).log) → In m (whos f.rows) = λ m j. subst (λ (z : List Row). In m (whos z)) log_is j in
      let was : (m : ℕ) → t.gone m ≡ s.gone m = λ m. ap (λ (z : ℕ → Bool). z m) q in
      let size : (flush t).size ≡ s.size = ap (λ (z : Given). z.size) (flush_inside g st t.queue t i refl).inside.same in
      record {
        few = omega arith;
        once = subst (λ (z : List Row). Once (whos z)) (sym log_is) (ran_once f.ran i.once);
        whose = λ m j. let y = i.effects m (ran_in m f.ran (row m j)) in flushed fl y.0 y.1 (sym (was m) ∙ f.lives m (row m j));
        disposes = λ m y j h o. f.disposed m y (row m j) h o;
        goes = λ m h r a b. let z = f.goes m h r (was m ∙ a) b in had z.0 (subst (λ (y : List Row). In z.0 (whos y)) (sym log_is) z.1) z.2;
        lives = λ m h y. absurd (omega arith);
      }

  wanted : (d : ℕ) → s.depth ≡ d → live_effects s ≤ flush_rows v d
  wanted d e = let a : flush_rows v d ≡ live_effects s = ap (λ (b : Bool). let z : ℕ = elim b [ true ↦ live_effects s | false ↦ 0 ] in z) (eq-eqb s.depth d e) in omega arith

  store_told : (c : Command) (n : ℕ) (x : Value) → n < s.size → s.kind n ≡ signal → (s.depth ≡ 0 → (flushes c s.depth ≡ true) × (live_effects s ≤ (asks_of c).rows v)) → Told c (store (with_log s []) n x)
  unfolding store
  store_told c n x h k at =
      provided_so (Told c) (a_signal (s.kind n)) (ap a_signal k)
      (branch (Told c) (same (s.pend n) x) (λ e. told_calm c _ refl refl (λ m r. refl))
      (λ e. branch (Told c) (is_nil (s.subs n)) (λ f. told_calm c _ refl refl (λ m r. refl)) (λ f. go s.depth refl)))
    where
      go : (d : ℕ) → s.depth ≡ d → Told c (flush_at (propagate (set_fl (set_pend (with_log s []) n x) n f17) n) d)
      go zero e = told_flush c (propagate (set_fl (set_pend (with_log s []) n x) n f17) n) (i_propagated g st (with_log s []) n x i h k).inside refl refl refl refl (at e).0 (at e).1
      go (suc d) e = told_calm c _ refl refl (λ m r. refl)

  end_told : (c : Command) (d : ℕ) → s.depth ≡ d → (s.depth ≡ 1 → (flushes c s.depth ≡ true) × (live_effects s ≤ (asks_of c).rows v)) → Told c (end_at (with_log s []) d)
  end_told c zero e at = told_calm c _ refl refl (λ m r. refl)
  end_told c (suc zero) e at = told_flush c (with_depth (with_log s []) 0) (others g nobody (with_log s []) i s.cycle s.sto s.pend 0 [] s.stuck) refl refl refl refl (at e).0 (at e).1
  end_told c (suc (suc d)) e at = told_calm c _ refl refl (λ m r. refl)

  -- ---- a new node: its mark is not set, and no other changes
  made_lives : (t : St) → t.size ≡ suc s.size → t.gone s.size ≡ false → (n : ℕ) → s.size ≤ n → n < t.size → t.gone n ≡ false
  made_lives t e m n h l = let q : n ≡ s.size = omega arith in ap t.gone q ∙ m

  told_made : (c : Command) (t : St) → t.log ≡ [] → t.size ≡ suc s.size → t.gone ≡ up s.gone s.size false → Told c t
  told_made c t e z m =
      told_none c t e (λ n h r a b. clash b (ap (λ (f : ℕ → Bool). f n) m ∙ up_other s.gone s.size false n (λ q. omega arith) ∙ a))
      (made_lives t z (ap (λ (f : ℕ → Bool). f s.size) m ∙ up_same s.gone s.size false))

  scope_told : (c : Command) (o : Option ℕ) → Told c (new_scope (with_log s []) o)
  unfolding new_scope
  scope_told c o =
      let x = node (with_log s []) scope (constant (pos 0)) o f0 nothing in
      let f = owned_fixed x s.size o in
      told_made c _ (ap (λ (z : Fixed). z.log) f) (ap (λ (z : Fixed). z.nodes.size) f) (owned_marks (with_log s []) wl x s.size o)

  effect_told : (o : ℤ) (cs : List ℤ) → NoneHolds (table true v (Some (make_effect o cs))) → Told (make_effect o cs) (new_effect (with_log s []) (owner_of o) (formula_of cs))
  unfolding whos new_effect logged asks_of
  effect_told o cs h =
      let x = with_log s [] in
      let t = new_effect x (owner_of o) (formula_of cs) in
      let l : t.log ≡ first_row x (owner_of o) (formula_of cs) ∷ [] = new_row x (owner_of o) (formula_of cs) in
      let a = ap length l in
      let here : (m : ℕ) → In m (whos t.log) → m ≡ s.size = λ m j. one m (subst (λ (z : List Row). In m (whos z)) l j) in
      let mark = effect_marks x wl (owner_of o) (formula_of cs) (effect_fits s rows w o cs h) in
      record {
        few = omega arith;
        once = subst (λ (z : List Row). Once (whos z)) (sym l) (λ j. j, tt);
        whose = λ m j. made o cs refl (here m j);
        disposes = λ m y j h q. let e = here m j in let z = w.depends.owner_lower y m h q in absurd (omega arith);
        goes = λ m h r a b. let ne : m ≡ s.size → ⊥ = λ q. omega arith in clash b (mark m (ap readable (up_other s.kind s.size effect m ne) ∙ r) ∙ up_other s.gone s.size false m ne ∙ a);
        lives = made_lives t (ap (λ (z : Fixed). z.nodes.size) (new_fixed x (owner_of o) (formula_of cs))) (mark s.size (ap readable (up_same s.kind s.size effect)) ∙ up_same s.gone s.size false);
      }
    where
      one : (m : ℕ) → In m (s.size ∷ []) → m ≡ s.size
      one m (inr x') = elim x' [ ]
      one m (inl q) = q

  -- ---- a dispose
  dispose_told : (x : ℕ) → x < s.size → readable (s.kind x) ≡ false → Told (dispose_of (pos x)) (dispose (with_log s []) x)
  dispose_told x h r =
      let d = dispose_inside g st (with_log s []) x i h r in
      let f = (dispose_ring Still drops_still (with_log s []) x).same in
      let z = ap (λ (y : Fixed). y.nodes.size) f in
      told_none (dispose_of (pos x)) _ (ap (λ (y : Fixed). y.log) f) (λ n l q a b. go n l a b (below_known s.owner s.size w.depends.owner_lower x n l)) (λ n l y. absurd (omega arith))
    where
      go : (n : ℕ) → n < s.size → s.gone n ≡ false → (dispose (with_log s []) x).gone n ≡ true → Below s.owner x n ⊎ (Below s.owner x n → ⊥) → MustGo s (dispose_of (pos x)) (whos (dispose (with_log s []) x).log) n
      go n l a b (inl p) = disposed x refl p
      go n l a b (inr f) = clash b ((dispose_inside g st (with_log s []) x i h r).others n l f ∙ a)

  perform_told : (c : Command) → NoneHolds (table true v (Some c)) → Told c (perform (with_log s []) c).st
  unfolding table perform new_signal new_computed wrong_node is_a asks_of
  perform_told (make_signal x) h = told_made (make_signal x) _ refl refl refl
  perform_told (make_computed cs) h = told_made (make_computed cs) _ refl refl refl
  perform_told (make_effect o cs) h = effect_told o cs h
  perform_told (make_scope o) h = scope_told (make_scope o) (owner_of o)
  perform_told (set_to n x) h = let k = taken s rows w a_signal n (h 2) in store_told (set_to n x) (node_of n) (value x) k.0 (is_signal s rows w (s.kind (node_of n)) k.1) (λ e. (eq-eqb s.depth 0 e, wanted 0 e))
  perform_told (add_to n d) h = let k = taken s rows w a_signal n (h 2) in store_told (add_to n d) (node_of n) _ k.0 (is_signal s rows w (s.kind (node_of n)) k.1) (λ e. (eq-eqb s.depth 0 e, wanted 0 e))
  perform_told (read_of n) h =
      let k = taken s rows w readable n (h 2) in
      let f = (settle_ring Still renews_still (with_log s []) (node_of n)).same in
      told_calm (read_of n) _ (ap (λ (y : Fixed). y.log) f) (ap (λ (y : Fixed). y.nodes.size) f) (read_marks g st (with_log s []) (node_of n) i k.0 k.1)
  perform_told (dispose_of (pos x)) h = let k = taken s rows w an_owner (pos x) (h 2) in dispose_told x k.0 (not-true (readable (s.kind x)) k.1)
  perform_told (dispose_of (negsuc x)) h = false≢true (sym (h 2))
  perform_told batch_start h = told_calm batch_start _ refl refl (λ m r. refl)
  perform_told batch_end h = end_told batch_end s.depth refl (λ e. (eq-eqb s.depth 1 e, wanted 1 e))

-- the rows of an accepted command, and who goes in it
pub command_told : (s : St) (rows : ℕ) (w : WellFormed s) (ws : List ℤ) (c : Command) → command_of ws ≡ Some c → (command true s rows ws).code ≡ 0 → Told s rows w c (command true s rows ws).st
command_told s rows w ws c q a =
    let p = performed s rows ws c q a in
    subst (Told s rows w c) (sym (ap (λ (z : Answer). z.st) p.0)) (perform_told s rows w c p.1)

module _ (s : St) (rows : ℕ) (w : WellFormed s) where
  any_few : (c : Option Command) → NoneHolds (table true (sight_of s rows) c) → length (perform_any (with_log s []) c).st.log ≤ rows
  unfolding perform_any table unknown few_rows
  any_few None h = false≢true (sym (h 1))
  any_few (Some c) h = let a = (perform_told s rows w c h).few in let b = ltb-false rows ((asks_of c).rows (sight_of s rows)) (h 8) in omega arith

-- the rows of a command fit the lent log
pub rows_fit : (s : St) (rows : ℕ) (ws : List ℤ) → WellFormed s → runs (command true s rows ws) ≤ rows
unfolding command answer
rows_fit s rows ws w = go (refusal true (sight_of s rows) ws) (accepted_exactly true s rows ws).0
  where
    go : (r : ℕ) → ((answer r s ws).code ≡ 0 → NoneHolds (table true (sight_of s rows) (command_of ws))) → runs (answer r s ws) ≤ rows
    go zero h = any_few s rows w (command_of ws) (h refl)
    go (suc r) h = omega arith
