-- The theorem of demand 3 used on a closed history, its premise computed: it is not empty. Assumes nothing.
use mathlib.Core.Path.{◌≡◌, refl, sym}
use mathlib.Core.List.{List, [], ◌∷◌}
use Prim.Native.Nat.{ℕ}
use native.Mathlib.Omega.{arith}
use lib.IntN.{ℤ, pos, negsuc}
use Rattle.values.specs.Values.{value, sum, difference, minimum, maximum, less, clamp, same, same_number, is_zero}
use Rattle.trees.specs.Cells.{cell_of, codes, read_of, bare_of}
use Rattle.trees.specs.Trees.{apply, written, size, names}
use Rattle.meaning.specs.State.{up, below, empty}
use Rattle.meaning.specs.Links.{provided, remove, each, renew, spent, insert, link, cut, last_link, dispose_w, unwatched_w, unlink_n}
use Rattle.meaning.specs.Marks.{chain, calm, effects, notify, mark, prop, soil, wakes}
use Rattle.meaning.specs.Reads.{eval_by, settle_w, first_w, upd_computed, upd_signal, upd_w, same_slots, steady, check_on, check_w, pending_w, fresh_w, fresh}
use Rattle.meaning.specs.Engine.{logged, rerun, run, flush_on, store, tallest, new_signal, new_computed, new_scope, new_effect}
use Rattle.meaning.specs.Words.{word, no_word, whole_cells, codes as commands, command_of, after as afterCells, grown, parse, tree_of}
use Rattle.meaning.specs.Reserve.{total, reserve}
use Rattle.meaning.specs.Refusals.{live_effects, asks_of, is_a, unknown, wrong_node, gone_node, all_readable, bad_formula, too_high, no_room, wrong_depth, few_rows, table as refusals, first, refusal}
use Rattle.meaning.specs.Commands.{perform, perform_any, answer, command}
use Rattle.freshness.specs.Afresh.{recorded}
use Rattle.meaning.specs.Evaluations.{in_formula, in_update, in_check_on, in_check, in_pending, count_first, count_flush_on, count_fresh, count_fresh_w, count_new_effect, count_perform, count_rerun, count_run, count_store}
use Rattle.freshness.specs.Evaluations.{in_perform_any, in_answer}
use Rattle.meaning.specs.State.{Room}
use Rattle.freshness.specs.History.{Call, Reply, seen, meant, replies, in_calls, written as lastWritten, next, Past, Course, after, now, begin}
use Rattle.freshness.specs.Right.{Right, Agrees, Held, Demand3}
use Rattle.freshness.proofs.History.{demand3}

abbrev pub room : Room
room = record { nodes = 16; slots = 32; cells = 32 }

abbrev pub call : List ℤ → Call
call ws = record { rows = 4; words = ws }

-- signal 5; a computed that doubles it; an effect that reads both; a command that is refused; a batch that writes 3
abbrev history : List Call
history = call (pos 1 ∷ pos 5 ∷ []) ∷ call (pos 2 ∷ pos 3 ∷ pos 0 ∷ pos 2 ∷ pos 0 ∷ pos 2 ∷ pos 0 ∷ []) ∷ call (pos 3 ∷ negsuc 0 ∷ pos 3 ∷ pos 0 ∷ pos 2 ∷ pos 0 ∷ pos 2 ∷ pos 1 ∷ []) ∷ call (pos 99 ∷ []) ∷ call (pos 9 ∷ []) ∷ call (pos 5 ∷ pos 0 ∷ pos 3 ∷ []) ∷ []

-- its end
abbrev last : Call
last = call (pos 10 ∷ [])

-- four evaluations: the effect and the computed, twice
four : (now meant (after meant (begin room) history) last).past.many ≡ 4
unfolding sum difference minimum maximum less clamp same same_number is_zero cell_of codes read_of bare_of apply written size names up below empty provided remove each renew spent insert link cut last_link dispose_w unwatched_w unlink_n chain calm effects notify mark prop soil wakes eval_by settle_w first_w upd_computed upd_signal upd_w same_slots steady check_on check_w pending_w fresh_w fresh logged rerun run flush_on store tallest new_signal new_computed new_scope new_effect no_word word whole_cells commands command_of afterCells grown parse tree_of total reserve live_effects asks_of is_a unknown wrong_node gone_node all_readable bad_formula too_high no_room wrong_depth few_rows refusals first refusal perform perform_any answer command recorded in_formula count_first in_update in_check_on in_check in_pending count_fresh_w count_fresh count_rerun count_run count_flush_on count_store count_new_effect count_perform in_perform_any in_answer lastWritten next after
four = refl

abbrev before : Course
before = after meant (begin room) history

pub used : Right before.past last (seen (meant before.st last)) (now meant before last).past × Held (meant before.st last).st (now meant before last).past
unfolding Demand3
used = demand3 room refl history last (let e = four in omega arith)

-- the state after it agrees with no past but one in which 3 was last written to signal 0: a signal's last written value is pending
pub pends : (p : Past) → Agrees (meant before.st last).st p → p.last 0 ≡ value (pos 3)
unfolding sum difference minimum maximum less clamp same same_number is_zero cell_of codes read_of bare_of apply written size names up below empty provided remove each renew spent insert link cut last_link dispose_w unwatched_w unlink_n chain calm effects notify mark prop soil wakes eval_by settle_w first_w upd_computed upd_signal upd_w same_slots steady check_on check_w pending_w fresh_w fresh logged rerun run flush_on store tallest new_signal new_computed new_scope new_effect no_word word whole_cells commands command_of afterCells grown parse tree_of total reserve live_effects asks_of is_a unknown wrong_node gone_node all_readable bad_formula too_high no_room wrong_depth few_rows refusals first refusal perform perform_any answer command recorded in_formula count_first in_update in_check_on in_check in_pending count_fresh_w count_fresh count_rerun count_run count_flush_on count_store count_new_effect count_perform in_perform_any in_answer lastWritten next after
pends p a = let e : (meant before.st last).st.size ≡ 3 = refl in sym (a.pending 0 (omega arith) refl)

-- ---- the evaluations of a history with all ten commands
-- signals 5 and 1; a computed that chooses by the second between twice the first and the first; a read of it; a scope; an effect in it that reads it;
-- an add of 2; a batch that turns the choice and reads; the same write again; the scope disposed, twice; no command; a read
abbrev ten : List Call
ten = call (pos 1 ∷ pos 5 ∷ []) ∷ call (pos 1 ∷ pos 1 ∷ []) ∷ call (pos 2 ∷ pos 8 ∷ pos 0 ∷ pos 2 ∷ pos 1 ∷ pos 3 ∷ pos 0 ∷ pos 2 ∷ pos 0 ∷ pos 2 ∷ pos 0 ∷ pos 2 ∷ pos 0 ∷ [])
    ∷ call (pos 7 ∷ pos 2 ∷ []) ∷ call (pos 4 ∷ negsuc 0 ∷ []) ∷ call (pos 3 ∷ pos 3 ∷ pos 2 ∷ pos 2 ∷ [])
    ∷ call (pos 6 ∷ pos 0 ∷ pos 2 ∷ [])
    ∷ call (pos 9 ∷ []) ∷ call (pos 5 ∷ pos 1 ∷ pos 0 ∷ []) ∷ call (pos 7 ∷ pos 2 ∷ []) ∷ call (pos 10 ∷ [])
    ∷ call (pos 5 ∷ pos 1 ∷ pos 0 ∷ []) ∷ call (pos 8 ∷ pos 3 ∷ []) ∷ call (pos 8 ∷ pos 3 ∷ []) ∷ call (pos 99 ∷ []) ∷ call (pos 7 ∷ pos 2 ∷ []) ∷ []

abbrev codes_of : List Reply → List ℕ
codes_of [] = []
codes_of (a ∷ xs) = a.code ∷ codes_of xs

-- the computed four times: at its first read, at the add, at the read in the batch, and at the last read, since it had lost its subscriber; the effect three times. Two calls are refused
pub seven : (in_calls (empty room) ten ≡ 7) × (codes_of (replies meant (empty room) ten) ≡ 0 ∷ 0 ∷ 0 ∷ 0 ∷ 0 ∷ 0 ∷ 0 ∷ 0 ∷ 0 ∷ 0 ∷ 0 ∷ 0 ∷ 0 ∷ 4 ∷ 2 ∷ 0 ∷ [])
unfolding sum difference minimum maximum less clamp same same_number is_zero cell_of codes read_of bare_of apply written size names up below empty provided remove each renew spent insert link cut last_link dispose_w unwatched_w unlink_n chain calm effects notify mark prop soil wakes eval_by settle_w first_w upd_computed upd_signal upd_w same_slots steady check_on check_w pending_w fresh_w fresh logged rerun run flush_on store tallest new_signal new_computed new_scope new_effect no_word word whole_cells commands command_of afterCells grown parse tree_of total reserve live_effects asks_of is_a unknown wrong_node gone_node all_readable bad_formula too_high no_room wrong_depth few_rows refusals first refusal perform perform_any answer command recorded in_formula count_first in_update in_check_on in_check in_pending count_fresh_w count_fresh count_rerun count_run count_flush_on count_store count_new_effect count_perform in_perform_any in_answer replies in_calls
seven = (refl, refl)
