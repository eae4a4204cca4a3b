-- The twelve cases of document 01, computed over the definitions: one table under one theorem. Assumes nothing.
use mathlib.Core.Path.{refl}
use Rattle.values.specs.Values.{sum, difference, minimum, maximum, less, clamp, same, same_number, is_zero}
use Rattle.trees.specs.Cells.{cell_of, codes, read_of, bare_of}
use Rattle.trees.specs.Trees.{apply, written, size, names}
use Rattle.meaning.specs.State.{up, below, empty}
use Rattle.meaning.specs.Links.{provided, remove, each, renew, spent, insert, link, cut, last_link, dispose_w, unwatched_w, unlink_n}
use Rattle.meaning.specs.Marks.{chain, calm, effects, notify, mark, prop, soil, wakes}
use Rattle.meaning.specs.Reads.{eval_by, settle_w, first_w, upd_computed, upd_signal, upd_w, same_slots, steady, check_on, check_w, pending_w, fresh_w, fresh}
use Rattle.meaning.specs.Engine.{logged, rerun, run, flush_on, store, tallest, new_signal, new_computed, new_scope, new_effect}
use Rattle.meaning.specs.Words.{word, no_word, whole_cells, codes as commands, command_of, after, grown, parse, tree_of}
use Rattle.meaning.specs.Reserve.{total, reserve}
use Rattle.meaning.specs.Refusals.{live_effects, asks_of, is_a, unknown, wrong_node, gone_node, all_readable, bad_formula, too_high, no_room, wrong_depth, few_rows, table as refusals, first, refusal}
use Rattle.meaning.specs.Commands.{perform, perform_any, answer, command}
use Rattle.meaning.specs.Cases.{shown, answers, after_all, table, ends, Holds}

pub all_cases : Holds table
unfolding sum difference minimum maximum less clamp same same_number is_zero cell_of codes read_of bare_of apply written size names up below empty provided remove each renew spent insert link cut last_link dispose_w unwatched_w unlink_n chain calm effects notify mark prop soil wakes eval_by settle_w first_w upd_computed upd_signal upd_w same_slots steady check_on check_w pending_w fresh_w fresh logged rerun run flush_on store tallest new_signal new_computed new_scope new_effect no_word word whole_cells commands command_of after grown parse tree_of total reserve live_effects asks_of is_a unknown wrong_node gone_node all_readable bad_formula too_high no_room wrong_depth few_rows refusals first refusal perform perform_any answer command shown answers after_all ends Holds
all_cases = (refl, (refl, (refl, (refl, (refl, (refl, (refl, (refl, (refl, (refl, (refl, (refl, (refl, refl)))))))))))))
