-- An accepted command over words is the command over lists: one case each of the ten. Assumes nothing.
use Rattle.std.specs.Prelude.{Option, None, Some, unwrap_or}
use mathlib.Core.Path.{◌≡◌, refl, sym, ap, ◌∙◌, subst}
use mathlib.Core.Bool.{true, false, not}
use mathlib.Core.List.{List, []}
use Prim.Native.Nat.{ℕ, ◌*◌, ◌≤◌}
use native.Mathlib.Omega.{arith}
use lib.IntN.{ℤ, pos, negsuc}
use lib.ListN.{length, drop}
use borrow.Author.Tests.{leb-false, not-true}
use Rattle.values.specs.declared.Value.{Value}
use Rattle.values.specs.Values.{value}
use Rattle.trees.specs.Trees.{Tree, constant, written, names}
use Rattle.linking.specs.Table.{tab}
use Rattle.reading.specs.Tables.{State}
use Rattle.refusing.specs.Commands.{brief, told}
use Rattle.refusing.specs.Asked.{asked, from_asked, from_or, cells_from, formula_in}
use Rattle.reading.specs.Read.{read_of as readIn}
use Rattle.refusing.proofs.CommandLaws.{told_is}
use Rattle.operating.specs.Log.{ran_to, number_word}
use Rattle.operating.specs.Making.{Made, new_scope as newScopeW, new_effect as newEffectW}
use Rattle.commanding.specs.Perform.{Done, done, numbered, performed, owner_word}
use Rattle.meaning.specs.State.{St, scope, readable, f0, nothing}
use Rattle.meaning.specs.Setters.{with_log}
use Rattle.meaning.specs.Engine.{node, new_signal, new_computed, new_scope, new_effect}
use Rattle.meaning.specs.Words.{Command, make_signal, make_computed, make_effect, make_scope, set_to, add_to, read_of, dispose_of, batch_start, batch_end, command_of, node_of, owner_of, tree_of, formula_of}
use Rattle.meaning.specs.Refusals.{Sight, sight_of, on, a_signal, an_owner, most_depth, asks_of, wrong_node, gone_node, bad_formula, wrong_depth, legal_cells, all_readable, table}
use Rattle.meaning.specs.Commands.{Done as DoneL, back, number, perform}
use Rattle.meaning.specs.WellFormed.{WellFormed}
use Rattle.meaning.proofs.Laws.{false≢true}
use Rattle.meaning.proofs.Rings.{settle_ring, dispose_ring}
use Rattle.meaning.proofs.Still.{Given, given, Fixed, Still, drops_still, renews_still}
use Rattle.meaning.proofs.Inside.{nobody, Static, Inside, static, rest_inside}
use Rattle.meaning.proofs.Refused.{NoneHolds}
use Rattle.meaning.proofs.Formulas.{tree_exact}
use Rattle.meaning.proofs.Accepted.{logless, taken, is_signal, signal_fits, computed_fits, effect_fits, scope_fits}
use Rattle.structure.specs.Rep.{owner_word as word_of}
use Rattle.structure.proofs.Stated.{relogged}
use Rattle.structure.proofs.Dispose.{dispose_shows}
use Rattle.structure.proofs.Steps.{Sees}
use Rattle.structure.proofs.ReadSame.{ringed}
use Rattle.structure.proofs.LogRows.{Leaves, number_is, quiet_leaves}
use Rattle.structure.proofs.Flushes.{nodes_few}
use Rattle.structure.proofs.Writes.{store_leaves, add_leaves}
use Rattle.structure.proofs.Batch.{start_sees, end_leaves}
use Rattle.structure.proofs.Makings.{Makes, signal_makes, computed_makes, scope_makes}
use Rattle.structure.proofs.NewEffect.{owned_log, effect_leaves}

-- ---- the cells of a command
-- what follows the code, or the owner, is the formula
cells_in : Option Command → List ℤ
cells_in None = []
cells_in (Some (make_signal v)) = []
cells_in (Some (make_computed cs)) = cs
cells_in (Some (make_effect o cs)) = cs
cells_in (Some (make_scope o)) = []
cells_in (Some (set_to n v)) = []
cells_in (Some (add_to n d)) = []
cells_in (Some (read_of n)) = []
cells_in (Some (dispose_of n)) = []
cells_in (Some batch_start) = []
cells_in (Some batch_end) = []

computed_cells : (ws cs : List ℤ) → command_of ws ≡ Some (make_computed cs) → formula_in ws ≡ cs
unfolding formula_in cells_from brief asked told cells_in
computed_cells ws cs e =
    ap (λ (c : Option Command). drop (from_or (from_asked (asked (brief c))) (length ws)) ws) e ∙ sym (ap cells_in (sym e ∙ told_is ws ∙ ap (λ (c : Option Command). told (brief c) ws) e))

effect_cells : (ws cs : List ℤ) (o : ℤ) → command_of ws ≡ Some (make_effect o cs) → formula_in ws ≡ cs
unfolding formula_in cells_from brief asked told cells_in
effect_cells ws cs o e =
    ap (λ (c : Option Command). drop (from_or (from_asked (asked (brief c))) (length ws)) ws) e ∙ sym (ap cells_in (sym e ∙ told_is ws ∙ ap (λ (c : Option Command). told (brief c) ws) e))

-- legal cells write their formula out
legal_written : (v : Sight) (cs : List ℤ) → not (legal_cells v cs) ≡ false → cs ≡ written (formula_of cs)
legal_written v cs e = go (tree_of cs) refl e
  where
    go : (o : Option Tree) → tree_of cs ≡ o → not (on o (λ t. all_readable v (names t))) ≡ false → cs ≡ written (unwrap_or o (constant (pos 0)))
    go None q a = false≢true (sym a)
    go (Some t) q a = ((tree_exact cs t).0 q).spelt

-- an owner as a number and as a word
owner_is_word : (o : ℤ) → owner_word o ≡ word_of (owner_of o)
owner_is_word (pos n) = refl
owner_is_word (negsuc n) = refl

-- ---- what is done, and what the lists do
pub record Performs (l : List ℤ) (d : Done) (p : DoneL) : Type 0 where
  pub value : d.value ≡ p.val.word
  pub leaves : Leaves l d.cells d.ran p.st

module _ (x : State) (C l : List ℤ) (s : St) (rows : ℕ) (r : Sees [] x C s) (w : WellFormed s) (free : s.stuck ≡ false) where
  abbrev S : St
  S = with_log s []

  w_s : WellFormed S
  w_s = logless s rows w

  r_s : Sees [] x C S
  r_s = relogged [] x.nodes x.links x.values C s [] s.stuck r

  abbrev g : Given
  g = given S

  st : Static g
  st = static S w_s

  i : Inside g nobody S
  i = rest_inside S w_s

  -- a new node's number is the value
  number_told : (n : ℕ) → n ≡ s.size → number_word n ≡ pos s.size
  number_told n e = ap number_word e ∙ number_is s.size (let a = nodes_few g st in let b = st.nodes_fit in omega arith)

  numbers : (m : Made) (t : St) → t.log ≡ [] → Makes m S t → Performs l (numbered l m) (back t (number S))
  unfolding numbered
  numbers m t e k = record { value = number_told m.number k.number; leaves = quiet_leaves l m.cells m.after t e k.sees }

  -- nothing ran, and the value is 0
  stills : (y : State) (t : St) → Still S t → Sees [] y C t → Leaves l C (ran_to y l 0) t
  stills y t k z = quiet_leaves l C y t (ap (λ (f : Fixed). f.log) k.same) z

  module _ (ws : List ℤ) (fit : (c : Command) → command_of ws ≡ Some c → length (perform S c).st.log * 2 ≤ length l) where
    pub performs : (c : Command) → command_of ws ≡ Some c → NoneHolds (table true (sight_of s rows) (Some c)) → Performs l (performed x C l (brief (Some c)) (formula_in ws)) (perform S c)
    unfolding performed perform readIn brief table wrong_node gone_node bad_formula wrong_depth asks_of new_signal new_computed new_scope
    performs (make_signal v) e h = numbers _ _ refl (signal_makes x C S r_s (value v) (signal_fits s rows w v h))
    performs (make_computed cs) e h =
        let c = computed_cells ws cs e in
        numbers _ _ refl (computed_makes x C S r_s (formula_in ws) (formula_of cs) (c ∙ legal_written (sight_of s rows) cs (h 4)) (computed_fits s rows w cs h))
    performs (make_effect o cs) e h =
        let c = effect_cells ws cs o e in
        let t = formula_of cs in
        let k = effect_leaves x C S r_s w_s free refl (owner_of o) (formula_in ws) t (c ∙ legal_written (sight_of s rows) cs (h 4)) (effect_fits s rows w o cs h) l (fit (make_effect o cs) e) in
        subst (λ (z : ℕ). Performs l (made_effect z) (back (new_effect S (owner_of o) t) (number S))) (sym (owner_is_word o)) (record { value = number_told _ k.1; leaves = k.0 })
      where
        made_effect : ℕ → Done
        made_effect z = let k = newEffectW x C l z (formula_in ws) in done (number_word k.number) k.ran k.cells
    performs (make_scope o) e h =
        subst (λ (z : ℕ). Performs l (numbered l (newScopeW x C z)) (back (new_scope S (owner_of o)) (number S))) (sym (owner_is_word o))
        (numbers _ _ (owned_log (node S scope (constant (pos 0)) (owner_of o) f0 nothing) s.size (owner_of o)) (scope_makes x C S r_s w_s free (owner_of o) (scope_fits s rows w o h)))
    performs (set_to n v) e h =
        let k = taken s rows w a_signal n (h 2) in
        record { value = refl; leaves = store_leaves g st C l x S (node_of n) (value v) i k.0 (is_signal s rows w (s.kind (node_of n)) k.1) free refl r_s (fit (set_to n v) e) }
    performs (add_to n d) e h =
        let k = taken s rows w a_signal n (h 2) in
        record { value = refl; leaves = add_leaves g st C l x S (node_of n) (value d) i k.0 (is_signal s rows w (s.kind (node_of n)) k.1) free refl r_s (fit (add_to n d) e) }
    performs (read_of n) e h =
        let k = taken s rows w readable n (h 2) in
        let z = (ringed g st C).reads x S (node_of n) i k.0 k.1 free r_s in
        record { value = ap (λ (v : Value). v.word) (z.values.current (node_of n)); leaves = stills _ _ (settle_ring Still renews_still S (node_of n)) z }
    performs (dispose_of n) e h =
        let k = taken s rows w an_owner n (h 2) in
        record { value = refl; leaves = stills _ _ (dispose_ring Still drops_still S (node_of n)) (dispose_shows g st [] x.values C (tab x.nodes x.links) S (node_of n) i k.0 (not-true (readable (s.kind (node_of n))) k.1) r_s) }
    performs batch_start e h = record { value = refl; leaves = quiet_leaves l C _ _ refl (start_sees [] x C S r_s (leb-false most_depth s.depth (h 7))) }
    performs batch_end e h = record { value = refl; leaves = end_leaves g st C l x S i free refl r_s (fit batch_end e) }
