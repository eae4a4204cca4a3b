-- What the cycle is for: two scripts whose answers would be others if a re-evaluation did not raise it. Assumes nothing.
use mathlib.Core.Path.{◌≡◌, refl}
use mathlib.Core.List.{[], ◌∷◌}
use lib.IntN.{pos}
use Rattle.values.specs.Values.{sum, difference, minimum, maximum, less, clamp, same, same_number, is_zero}
use Rattle.trees.specs.declared.cells.Op.TheVariants.{Sum}
use Rattle.trees.specs.Cells.{cell_of, codes, read_of, bare_of}
use Rattle.trees.specs.Trees.{Tree, read, two, choose, apply, written, size, names}
use Rattle.meaning.specs.State.{up, below, empty}
use Rattle.meaning.specs.Links.{provided, remove, each, renew, spent, insert, link, cut, last_link, dispose_w, unwatched_w, unlink_n}
use Rattle.meaning.specs.Marks.{chain, calm, effects, notify, mark, prop, soil, wakes}
use Rattle.meaning.specs.Reads.{eval_by, settle_w, first_w, upd_computed, upd_signal, upd_w, same_slots, steady, check_on, check_w, pending_w, fresh_w, fresh}
use Rattle.meaning.specs.Engine.{logged, rerun, run, flush_on, store, tallest, new_signal, new_computed, new_scope, new_effect}
use Rattle.meaning.specs.Words.{word, no_word, whole_cells, codes as commands, command_of, after, grown, parse, tree_of}
use Rattle.meaning.specs.Reserve.{total, reserve}
use Rattle.meaning.specs.Refusals.{live_effects, asks_of, is_a, unknown, wrong_node, gone_node, all_readable, bad_formula, too_high, no_room, wrong_depth, few_rows, table as refusals, first, refusal}
use Rattle.meaning.specs.Commands.{perform, perform_any, answer, command}
use Rattle.meaning.specs.Cases.{shown, answers, gives, runs, signal_w, computed_w, effect_w, set_w, read_w, unowned, Case, case, small, rows}

-- both branches read 0 and 2, each in its order: a link of the branch left behind must not pass for one of the branch taken
abbrev turned : Tree
turned = choose (read 1) (two Sum (read 0) (read 2)) (two Sum (read 2) (read 0))

-- else the last read is stale, 11: 1 5; 1 1; 1 6; 2 8 0 2 1 3 0 2 0 2 2 3 0 2 2 2 0; 7 3; 5 1 0; 7 3; 5 2 9; 7 3
abbrev computed_turns : Case
computed_turns = case (signal_w (pos 5) ∷ signal_w (pos 1) ∷ signal_w (pos 6) ∷ computed_w turned ∷ read_w 3 ∷ set_w 1 (pos 0) ∷ read_w 3 ∷ set_w 2 (pos 9) ∷ read_w 3 ∷ [])
    (gives (pos 0) ∷ gives (pos 1) ∷ gives (pos 2) ∷ gives (pos 3) ∷ gives (pos 11) ∷ gives (pos 0) ∷ gives (pos 11) ∷ gives (pos 0) ∷ gives (pos 14) ∷ [])

-- else the last set runs nothing: 1 5; 1 1; 1 6; 3 -1 8 0 2 1 3 0 2 0 2 2 3 0 2 2 2 0; 5 1 0; 5 2 9
abbrev effect_turns : Case
effect_turns = case (signal_w (pos 5) ∷ signal_w (pos 1) ∷ signal_w (pos 6) ∷ effect_w unowned turned ∷ set_w 1 (pos 0) ∷ set_w 2 (pos 9) ∷ [])
    (gives (pos 0) ∷ gives (pos 1) ∷ gives (pos 2) ∷ runs (pos 3) 3 (pos 11) ∷ runs (pos 0) 3 (pos 11) ∷ runs (pos 0) 3 (pos 14) ∷ [])

abbrev Answered : Case → Type 0
Answered c = answers (empty small) rows c.script ≡ c.told

pub turns_seen : Answered computed_turns × Answered effect_turns
unfolding sum difference minimum maximum less clamp same same_number is_zero cell_of codes read_of bare_of apply written size names up below empty provided remove each renew spent insert link cut last_link dispose_w unwatched_w unlink_n chain calm effects notify mark prop soil wakes eval_by settle_w first_w upd_computed upd_signal upd_w same_slots steady check_on check_w pending_w fresh_w fresh logged rerun run flush_on store tallest new_signal new_computed new_scope new_effect no_word word whole_cells commands command_of after grown parse tree_of total reserve live_effects asks_of is_a unknown wrong_node gone_node all_readable bad_formula too_high no_room wrong_depth few_rows refusals first refusal perform perform_any answer command shown answers
turns_seen = (refl, refl)
