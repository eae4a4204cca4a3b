-- Two sentences that are not so, each by a small script: why docs/DECISIONS.md 54 and 60 say it otherwise. Assumes nothing.
use mathlib.Core.Path.{◌≡◌, refl}
use mathlib.Core.Bool.{true}
use mathlib.Core.List.{[], ◌∷◌}
use Rattle.values.specs.Values.{sum, difference, minimum, maximum, less, clamp, same, same_number, is_zero}
use Rattle.trees.specs.Cells.{cell_of, codes, read_of, bare_of}
use Rattle.trees.specs.Trees.{apply, written, size, names}
use Rattle.meaning.specs.State.{up, below, empty}
use Rattle.meaning.specs.Links.{provided, remove, each, renew, spent, insert, link, cut, last_link, dispose_w, unwatched_w, unlink_n}
use Rattle.meaning.specs.Marks.{chain, calm, effects, notify, mark, prop, soil, wakes}
use Rattle.meaning.specs.Reads.{eval_by, settle_w, first_w, upd_computed, upd_signal, upd_w, same_slots, steady, check_on, check_w, pending_w, fresh_w, fresh}
use Rattle.meaning.specs.Engine.{logged, rerun, run, flush_on, store, tallest, new_signal, new_computed, new_scope, new_effect}
use Rattle.meaning.specs.Words.{word, no_word, whole_cells, codes as commands, command_of, after, grown, parse, tree_of}
use Rattle.meaning.specs.Reserve.{total, reserve}
use Rattle.meaning.specs.Refusals.{live_effects, asks_of, is_a, unknown, wrong_node, gone_node, all_readable, bad_formula, too_high, no_room, wrong_depth, few_rows, table as refusals, first, refusal}
use Rattle.meaning.specs.Commands.{perform, perform_any, answer, command}
use lib.IntN.{pos}
use Rattle.trees.specs.declared.cells.Op.TheVariants.{Sum}
use Rattle.trees.specs.Trees.{read, two}
use Rattle.meaning.specs.State.{St, f0, deps}
use Rattle.meaning.specs.Setters.{set_fl, set_gone}
use Rattle.meaning.specs.Links.{rewind, dispose}
use Rattle.meaning.specs.Reserve.{live_links}
use Rattle.meaning.specs.Moments.{here, later, marks_gone, Moment}
use Rattle.meaning.specs.Cases.{after_all, signal_w, computed_w, effect_w, set_w, unowned, small, rows}
use Rattle.meaning.specs.Played.{dep_ends}
use Rattle.meaning.proofs.Rings.{purging_ring}
use Rattle.meaning.proofs.Stepped.{drops}

-- ---- "live links are at most the reserve of the moment": between the gone mark of a disposal and its purge the node counts nothing, and has its links
-- a signal, and an effect that reads it: 1 0; 3 -1 2 0
abbrev before : St
before = after_all (empty small) rows (signal_w (pos 0) ∷ effect_w unowned (read 0) ∷ [])

-- in the disposal of the effect: 8 1
abbrev marked : St
marked = set_gone (set_fl (rewind before 1) 1 f0) 1 true

pub a_moment : Moment before (dispose before 1) marked
a_moment = record { reached = later here (marks_gone 1); left = purging_ring _ drops before 1 }

pub more_than_reserve : (live_links marked ≡ 1) × (reserve marked ≡ 0)
unfolding sum difference minimum maximum less clamp same same_number is_zero cell_of codes read_of bare_of apply written size names up below empty provided remove each renew spent insert link cut last_link dispose_w unwatched_w unlink_n chain calm effects notify mark prop soil wakes eval_by settle_w first_w upd_computed upd_signal upd_w same_slots steady check_on check_w pending_w fresh_w fresh logged rerun run flush_on store tallest new_signal new_computed new_scope new_effect no_word word whole_cells commands command_of after grown parse tree_of total reserve live_effects asks_of is_a unknown wrong_node gone_node all_readable bad_formula too_high no_room wrong_depth few_rows refusals first refusal perform perform_any answer command after_all
more_than_reserve = (refl, refl)

-- ---- "the links made in an evaluation bear the cycle that was raised for it": a read that evaluates again raises it once more
-- a signal, a computed that reads it, an effect that adds both, and a set: 1 0; 2 2 0; 3 -1 3 0 2 0 2 1; 5 0 7
abbrev rerun_once : St
rerun_once = after_all (empty small) rows (signal_w (pos 0) ∷ computed_w (read 0) ∷ effect_w unowned (two Sum (read 0) (read 1)) ∷ set_w 0 (pos 7) ∷ [])

-- the effect's rerun raised the cycle to 1, and its read of the computed to 2
pub two_versions : (rerun_once.cycle ≡ 2) × (dep_ends rerun_once (deps rerun_once 2) ≡ (0, 1) ∷ (1, 2) ∷ [])
unfolding sum difference minimum maximum less clamp same same_number is_zero cell_of codes read_of bare_of apply written size names up below empty provided remove each renew spent insert link cut last_link dispose_w unwatched_w unlink_n chain calm effects notify mark prop soil wakes eval_by settle_w first_w upd_computed upd_signal upd_w same_slots steady check_on check_w pending_w fresh_w fresh logged rerun run flush_on store tallest new_signal new_computed new_scope new_effect no_word word whole_cells commands command_of after grown parse tree_of total reserve live_effects asks_of is_a unknown wrong_node gone_node all_readable bad_formula too_high no_room wrong_depth few_rows refusals first refusal perform perform_any answer command after_all dep_ends
two_versions = (refl, refl)
