-- Which flush closes a batch that held only writes, what an add writes, and what goes in a flush: on closed histories, so that the definitions can't come to say less. Assumes nothing.
use mathlib.Core.Path.{◌≡◌, refl}
use mathlib.Core.Bool.{Bool, true, false}
use mathlib.Core.List.{List, [], ◌∷◌, ◌++◌}
use lib.IntN.{pos, negsuc}
use Rattle.values.specs.Values.{value, sum, difference, minimum, maximum, less, clamp, same, same_number, is_zero}
use Rattle.trees.specs.Cells.{cell_of, codes, read_of, bare_of}
use Rattle.trees.specs.Trees.{apply, written, size, names}
use Rattle.meaning.specs.State.{up, below, empty}
use Rattle.meaning.specs.Links.{provided, remove, each, renew, spent, insert, link, cut, last_link, dispose_w, unwatched_w, unlink_n}
use Rattle.meaning.specs.Marks.{chain, calm, effects, notify, mark, prop, soil, wakes}
use Rattle.meaning.specs.Reads.{eval_by, settle_w, first_w, upd_computed, upd_signal, upd_w, same_slots, steady, check_on, check_w, pending_w, fresh_w, fresh}
use Rattle.meaning.specs.Engine.{logged, rerun, run, flush_on, store, tallest, new_signal, new_computed, new_scope, new_effect}
use Rattle.meaning.specs.Words.{set_to, batch_end, word, no_word, whole_cells, codes as commands, command_of, after as afterCells, grown, parse, tree_of}
use Rattle.meaning.specs.Reserve.{total, reserve}
use Rattle.meaning.specs.Refusals.{live_effects, asks_of, is_a, unknown, wrong_node, gone_node, all_readable, bad_formula, too_high, no_room, wrong_depth, few_rows, table as refusals, first, refusal}
use Rattle.meaning.specs.Commands.{perform, perform_any, answer, command}
use Rattle.freshness.specs.Afresh.{recorded}
use Rattle.meaning.specs.Evaluations.{in_formula, in_update, in_check_on, in_check, in_pending, count_first, count_flush_on, count_fresh, count_fresh_w, count_new_effect, count_perform, count_rerun, count_run, count_store}
use Rattle.freshness.specs.Evaluations.{in_perform_any, in_answer}
use Rattle.freshness.specs.Nodes.{owns_n, changed, ran}
use Rattle.freshness.specs.History.{Call, meant, written as lastWritten, next, Past, after, begin}
use Rattle.freshness.specs.Right.{closes}
use Rattle.freshness.proofs.Used.{room, call}

-- signal 5; an effect that reads it; a batch begins and sets 3
abbrev begun : List Call
begun = call (pos 1 ∷ pos 5 ∷ []) ∷ call (pos 3 ∷ negsuc 0 ∷ pos 2 ∷ pos 0 ∷ []) ∷ call (pos 9 ∷ []) ∷ call (pos 5 ∷ pos 0 ∷ pos 3 ∷ []) ∷ []

-- an inner start, an add, an inner end, and a command that is refused
abbrev only_writes : List Call
only_writes = begun ++ call (pos 9 ∷ []) ∷ call (pos 6 ∷ pos 0 ∷ pos 2 ∷ []) ∷ call (pos 10 ∷ []) ∷ call (pos 99 ∷ []) ∷ []

-- a read; and then its end
abbrev with_a_read : List Call
with_a_read = begun ++ call (pos 7 ∷ pos 0 ∷ []) ∷ []

abbrev and_its_end : List Call
and_its_end = with_a_read ++ call (pos 10 ∷ []) ∷ []

abbrev past : List Call → Past
past h = (after meant (begin room) h).past

pub batches : (closes (past only_writes) batch_end ≡ true) × (closes (past with_a_read) batch_end ≡ false) × (closes (past and_its_end) (set_to (pos 0) (pos 7)) ≡ true)
unfolding sum difference minimum maximum less clamp same same_number is_zero cell_of codes read_of bare_of apply written size names up below empty provided remove each renew spent insert link cut last_link dispose_w unwatched_w unlink_n chain calm effects notify mark prop soil wakes eval_by settle_w first_w upd_computed upd_signal upd_w same_slots steady check_on check_w pending_w fresh_w fresh logged rerun run flush_on store tallest new_signal new_computed new_scope new_effect no_word word whole_cells commands command_of afterCells grown parse tree_of total reserve live_effects asks_of is_a unknown wrong_node gone_node all_readable bad_formula too_high no_room wrong_depth few_rows refusals first refusal perform perform_any answer command recorded in_formula count_first in_update in_check_on in_check in_pending count_fresh_w count_fresh count_rerun count_run count_flush_on count_store count_new_effect count_perform in_perform_any in_answer lastWritten next after
batches = (refl, refl, refl)

-- ---- what an add writes: current + d, whatever is pending
-- case 6: signal 0; set 0 5; add 0 1; and with a read after the set
abbrev case6 : List Call
case6 = call (pos 1 ∷ pos 0 ∷ []) ∷ call (pos 5 ∷ pos 0 ∷ pos 5 ∷ []) ∷ call (pos 6 ∷ pos 0 ∷ pos 1 ∷ []) ∷ []

abbrev case6_read : List Call
case6_read = call (pos 1 ∷ pos 0 ∷ []) ∷ call (pos 5 ∷ pos 0 ∷ pos 5 ∷ []) ∷ call (pos 7 ∷ pos 0 ∷ []) ∷ call (pos 6 ∷ pos 0 ∷ pos 1 ∷ []) ∷ []

-- an add of 2 in the batch above, to the 5 before it; and after a read, to the 3 set in it
abbrev add2 : Call
add2 = call (pos 6 ∷ pos 0 ∷ pos 2 ∷ [])

pub adds : ((past case6).last 0 ≡ value (pos 1)) × ((past case6_read).last 0 ≡ value (pos 6)) × ((past (begun ++ add2 ∷ [])).last 0 ≡ value (pos 7)) × ((past (with_a_read ++ add2 ∷ [])).last 0 ≡ value (pos 5))
unfolding sum difference minimum maximum less clamp same same_number is_zero cell_of codes read_of bare_of apply written size names up below empty provided remove each renew spent insert link cut last_link dispose_w unwatched_w unlink_n chain calm effects notify mark prop soil wakes eval_by settle_w first_w upd_computed upd_signal upd_w same_slots steady check_on check_w pending_w fresh_w fresh logged rerun run flush_on store tallest new_signal new_computed new_scope new_effect no_word word whole_cells commands command_of afterCells grown parse tree_of total reserve live_effects asks_of is_a unknown wrong_node gone_node all_readable bad_formula too_high no_room wrong_depth few_rows refusals first refusal perform perform_any answer command recorded in_formula count_first in_update in_check_on in_check in_pending count_fresh_w count_fresh count_rerun count_run count_flush_on count_store count_new_effect count_perform in_perform_any in_answer lastWritten next after
adds = (refl, refl, refl, refl)

-- ---- what goes in a flush: all that an effect which ran had owned
-- signals 0 and 1; effect 2 reads 0; scope 3 in it; effect 4 in the scope reads 1
abbrev owned : List Call
owned = call (pos 1 ∷ pos 0 ∷ []) ∷ call (pos 1 ∷ pos 0 ∷ []) ∷ call (pos 3 ∷ negsuc 0 ∷ pos 2 ∷ pos 0 ∷ []) ∷ call (pos 4 ∷ pos 2 ∷ []) ∷ call (pos 3 ∷ pos 3 ∷ pos 2 ∷ pos 1 ∷ []) ∷ []

-- set 0 1: effect 2 runs
abbrev owner_runs : List Call
owner_runs = owned ++ call (pos 5 ∷ pos 0 ∷ pos 1 ∷ []) ∷ []

-- a batch sets 1, then 0: effect 4 runs and finds 1, then effect 2 runs
abbrev both_run : List Call
both_run = owned ++ call (pos 9 ∷ []) ∷ call (pos 5 ∷ pos 1 ∷ pos 1 ∷ []) ∷ call (pos 5 ∷ pos 0 ∷ pos 1 ∷ []) ∷ call (pos 10 ∷ []) ∷ []

abbrev gone_at : Past → List Bool
gone_at p = p.nodes.gone 2 ∷ p.nodes.gone 3 ∷ p.nodes.gone 4 ∷ []

pub goes : (gone_at (past owned) ≡ false ∷ false ∷ false ∷ []) × (gone_at (past owner_runs) ≡ false ∷ true ∷ true ∷ []) × (gone_at (past both_run) ≡ false ∷ true ∷ true ∷ []) × ((past both_run).reads 4 ≡ (1, value (pos 1)) ∷ [])
unfolding sum difference minimum maximum less clamp same same_number is_zero cell_of codes read_of bare_of apply written size names up below empty provided remove each renew spent insert link cut last_link dispose_w unwatched_w unlink_n chain calm effects notify mark prop soil wakes eval_by settle_w first_w upd_computed upd_signal upd_w same_slots steady check_on check_w pending_w fresh_w fresh logged rerun run flush_on store tallest new_signal new_computed new_scope new_effect no_word word whole_cells commands command_of afterCells grown parse tree_of total reserve live_effects asks_of is_a unknown wrong_node gone_node all_readable bad_formula too_high no_room wrong_depth few_rows refusals first refusal perform perform_any answer command recorded in_formula count_first in_update in_check_on in_check in_pending count_fresh_w count_fresh count_rerun count_run count_flush_on count_store count_new_effect count_perform in_perform_any in_answer lastWritten next after owns_n changed ran
goes = (refl, refl, refl, refl)
