-- `order` says more than the demand's own words: in case 9 the reply of `early`, which `order` stops, keeps all else that is asked of it. Assumes nothing.
use mathlib.Core.Path.{◌≡◌, refl, sym, ap, ◌∙◌, subst}
use mathlib.Core.Logic.{inl, inr}
use mathlib.Core.Bool.{true}
use mathlib.Core.List.{[], ◌∷◌}
use Prim.Native.Nat.{ℕ, zero, suc}
use native.Mathlib.Omega.{arith}
use lib.IntN.{pos}
use Rattle.values.proofs.ValueLaws.{yes_same}
use Rattle.values.specs.Values.{value, sum, difference, minimum, maximum, less, clamp, same, same_number, is_zero}
use Rattle.trees.specs.Cells.{cell_of, codes, read_of, bare_of}
use Rattle.trees.specs.Trees.{apply, worth, reads, written, size, names}
use Rattle.meaning.specs.State.{up, below, empty}
use Rattle.meaning.specs.Links.{provided, remove, each, renew, spent, insert, link, cut, last_link, dispose_w, unwatched_w, unlink_n}
use Rattle.meaning.specs.Marks.{chain, calm, effects, is_effect, notify, mark, prop, soil, wakes}
use Rattle.meaning.specs.Reads.{eval_by, settle_w, first_w, upd_computed, upd_signal, upd_w, same_slots, steady, check_on, check_w, pending_w, fresh_w, fresh}
use Rattle.meaning.specs.Engine.{logged, rerun, run, flush_on, store, tallest, new_signal, new_computed, new_scope, new_effect}
use Rattle.meaning.specs.Words.{make_effect, batch_end, word, no_word, whole_cells, codes as commands, command_of, after as afterCells, grown, parse, tree_of}
use Rattle.meaning.specs.Reserve.{total, reserve}
use Rattle.meaning.specs.Refusals.{live_effects, asks_of, is_a, unknown, wrong_node, gone_node, all_readable, bad_formula, too_high, no_room, wrong_depth, few_rows, table as refusals, first, refusal}
use Rattle.meaning.specs.Commands.{perform, perform_any, answer, command}
use Rattle.freshness.specs.Afresh.{afresh_n, afresh_of, paired, readings, moved, recorded, Differs}
use Rattle.meaning.specs.Evaluations.{in_formula, in_update, in_check_on, in_check, in_pending, count_first, count_flush_on, count_fresh, count_fresh_w, count_new_effect, count_perform, count_rerun, count_run, count_store}
use Rattle.freshness.specs.Evaluations.{in_perform_any, in_answer}
use Rattle.meaning.specs.State.{Row, signal, nothing}
use Rattle.freshness.specs.Nodes.{Nodes, owns_n, changed, ran}
use Rattle.freshness.specs.History.{Reply, seen, meant, written as lastWritten, next, Past, Course, now, after, begin}
use Rattle.freshness.specs.Right.{HasRow, LiveEffect, LiveRows, FreshRows, flushes, values_now, RightRuns}
use Rattle.meaning.proofs.Laws.{false≢true, clash}
use Rattle.freshness.proofs.Sound.{not_it}
use Rattle.freshness.proofs.Used.{room}
use Rattle.freshness.proofs.Wrong.{case9, ends, early}

-- two effects have a row
each_row : (C : ℕ → Type 0) (x y : Row) → C x.who → C y.who → (e : ℕ) → HasRow e (x ∷ y ∷ []) → C e
each_row C x y cx cy e (inl z) = subst C (sym z) cx
each_row C x y cx cy e (inr (inr x3)) = elim x3 [ ]
each_row C x y cx cy e (inr (inl z)) = subst C (sym z) cy

-- four nodes, and two of them signals
each_has : (g : Nodes) (x y : Row) → g.size ≡ 4 → g.kind 0 ≡ signal → g.kind 1 ≡ signal → x.who ≡ 3 → y.who ≡ 2 → (e : ℕ) → LiveEffect g e → HasRow e (x ∷ y ∷ [])
each_has g x y n k₀ k₁ ex ey zero l = clash (ap is_effect l.1) (ap is_effect k₀)
each_has g x y n k₀ k₁ ex ey (suc zero) l = clash (ap is_effect l.1) (ap is_effect k₁)
each_has g x y n k₀ k₁ ex ey (suc (suc zero)) l = inr (inl (sym ey))
each_has g x y n k₀ k₁ ex ey (suc (suc (suc zero))) l = inl (sym ex)
each_has g x y n k₀ k₁ ex ey (suc (suc (suc (suc e)))) l = let h = l.0 in absurd (omega arith)

abbrev p : Course
p = after early (begin room) case9

abbrev q : Past
q = (now early p ends).past

abbrev a : Reply
a = seen (early p.st ends)

-- its rows: the owned effect, then its owner
abbrev x : Row
x = record { who = 3; worth = value (pos 9); reads = (1, value (pos 9)) ∷ [] }

abbrev y : Row
y = record { who = 2; worth = value (pos 4); reads = (0, value (pos 4)) ∷ [] }

-- what is computed of it
record Case9 : Type 0 where
  pub code : a.code ≡ 0
  pub due : (meant p.past.ours ends).code ≡ 0
  pub val : a.val ≡ nothing
  pub rows : a.rows ≡ x ∷ y ∷ []
  pub fresh : FreshRows q.nodes.form (values_now q) (x ∷ y ∷ [])
  pub live : LiveRows (changed batch_end p.past.nodes) (x ∷ y ∷ [])
  pub owned : Differs (p.past.reads 3) (values_now q)
  pub owner : Differs (p.past.reads 2) (values_now q)
  pub size : q.nodes.size ≡ 4
  pub first : q.nodes.kind 0 ≡ signal
  pub second : q.nodes.kind 1 ≡ signal
  pub flushed : flushes p.past batch_end ≡ true

of_case9 : Case9
unfolding sum difference minimum maximum less clamp same same_number is_zero cell_of codes read_of bare_of apply written size names up below empty provided remove each renew spent insert link cut last_link dispose_w unwatched_w unlink_n chain calm effects notify mark prop soil wakes eval_by settle_w first_w upd_computed upd_signal upd_w same_slots steady check_on check_w pending_w fresh_w fresh logged rerun run flush_on store tallest new_signal new_computed new_scope new_effect no_word word whole_cells commands command_of afterCells grown parse tree_of total reserve live_effects asks_of is_a unknown wrong_node gone_node all_readable bad_formula too_high no_room wrong_depth few_rows refusals first refusal perform perform_any answer command recorded in_formula count_first in_update in_check_on in_check in_pending count_fresh_w count_fresh count_rerun count_run count_flush_on count_store count_new_effect count_perform in_perform_any in_answer lastWritten next after afresh_n afresh_of paired readings moved owns_n changed ran reads worth
of_case9 = record {
  code = refl;
  due = refl;
  val = refl;
  rows = refl;
  fresh = (refl, refl, (refl, refl, tt));
  live = ((omega arith, refl, refl), ((omega arith, refl, refl), tt));
  owned = record { node = 1; was = value (pos 0); read = inl (refl, refl); new = λ e. false≢true (yes_same (value (pos 9)) (value (pos 0)) e) };
  owner = record { node = 0; was = value (pos 0); read = inl (refl, refl); new = λ e. false≢true (yes_same (value (pos 4)) (value (pos 0)) e) };
  size = refl;
  first = refl;
  second = refl;
  flushed = refl;
}

caused : (e : ℕ) → HasRow e (x ∷ y ∷ []) → Differs (p.past.reads e) (values_now q)
caused = each_row (λ e. Differs (p.past.reads e) (values_now q)) x y of_case9.owned of_case9.owner

has : (e : ℕ) → LiveEffect q.nodes e → HasRow e (x ∷ y ∷ [])
has = each_has q.nodes x y of_case9.size of_case9.first of_case9.second refl refl

right_runs : RightRuns p.past batch_end (record { code = 0; val = nothing; rows = x ∷ y ∷ [] }) q
right_runs = record {
  value = refl;
  rows = of_case9.fresh;
  once = (λ z. elim z [ inl e ↦ absurd (omega arith) | inr n ↦ n ], ((λ z. z), tt));
  live = of_case9.live;
  made = λ o cs e. not_it batch_end (make_effect o cs) refl e;
  none_else = λ n f. clash of_case9.flushed f;
  exactly = λ c. (caused, λ e l d. has e l);
  runs = λ f. (λ e h. inr (caused e h), λ e l d. has e l);
}

pub order_needed : (a.code ≡ (meant p.past.ours ends).code) × RightRuns p.past batch_end a q
order_needed =
    let as_told : a ≡ record { code = 0; val = nothing; rows = x ∷ y ∷ [] } = λ i. record { code = of_case9.code i; val = of_case9.val i; rows = of_case9.rows i } in
    (of_case9.code ∙ sym of_case9.due, subst (λ (z : Reply). RightRuns p.past batch_end z q) (sym as_told) right_runs)
