-- The theorem used on a closed history of words, its premise computed: it is not empty. An engine whose run count is invented fails it, one whose tables grow, and one that writes into a spare word where it refuses. Assumes nothing.
use mathlib.Core.Path.{◌≡◌, refl, sym, ap, ◌∙◌}
use mathlib.Core.Bool.{true}
use mathlib.Core.List.{List, [], ◌∷◌, ◌++◌}
use Prim.Native.Nat.{ℕ, ◌+◌, ◌*◌, ◌<◌, ◌^◌}
use native.Mathlib.Omega.{arith}
use lib.IntN.{ℤ, pos, negsuc}
use lib.ListN.{replicate, length, length-append, drop, get_or, set}
use Rattle.values.specs.Values.{value, sum, difference, minimum, maximum, less, clamp, same, same_number, is_zero}
use Rattle.trees.specs.Cells.{cell_of, codes, read_of, bare_of}
use Rattle.trees.specs.Trees.{apply, written, size, names}
use Rattle.meaning.specs.State.{up, below, empty}
use Rattle.meaning.specs.Links.{provided, remove, each, renew, spent, insert, link, cut, last_link, dispose_w, unwatched_w, unlink_n}
use Rattle.meaning.specs.Marks.{chain, calm, effects, notify, mark, prop, soil, wakes}
use Rattle.meaning.specs.Reads.{eval_by, settle_w, first_w, upd_computed, upd_signal, upd_w, same_slots, steady, check_on, check_w, pending_w, fresh_w, fresh}
use Rattle.meaning.specs.Engine.{logged, rerun, run, flush_on, store, tallest, new_signal, new_computed, new_scope, new_effect}
use Rattle.meaning.specs.Words.{word, no_word, whole_cells, codes as commands, command_of, after as afterCells, grown, parse, tree_of}
use Rattle.meaning.specs.Reserve.{total, reserve}
use Rattle.meaning.specs.Refusals.{live_effects, asks_of, is_a, unknown, wrong_node, gone_node, all_readable, bad_formula, too_high, no_room, wrong_depth, few_rows, table as refusals, first, refusal}
use Rattle.meaning.specs.Commands.{perform, perform_any, answer, command}
use Rattle.meaning.specs.Evaluations.{in_formula, in_update, in_check_on, in_check, in_pending, count_first, count_flush_on, count_fresh, count_fresh_w, count_new_effect, count_perform, count_rerun, count_run, count_store}
use Rattle.meaning.specs.State.{St, Row}
use Rattle.meaning.proofs.Laws.{false≢true}
use Rattle.counting.specs.Counts.{whole_rows, within_most, within_all, carry_in}
use Rattle.refusing.specs.Sight.{room_in}
use Rattle.operating.specs.Log.{row_words}
use Rattle.operating.specs.Emptying.{zeroed, emptying}
use Rattle.commanding.specs.Command.{Answered, answered}
use Rattle.freshness.specs.Evaluations.{in_perform_any, in_answer}
use Rattle.freshness.specs.History.{Reply, meant, replies, in_call, in_calls, Past, told, begun}
use Rattle.freshness.specs.Right.{Right, RightLog}
use Rattle.freshness.proofs.NoWeaker.{told_ours, told_many, no_weaker_log}
use Rattle.structure.specs.Logged.{words_of}
use Rattle.structure.specs.Histories.{Tables, cleared, left, Lent, answered_on, tables_after, state_after, Holds}
use Rattle.structure.proofs.Histories.{answers_same, history_same}
use Rattle.structure.proofs.Demand1.{refused_unchanged}
use Rattle.payouts.specs.OnTables.{TableEngine, call, calls, Seen, seen_on, left_on, Shows, HeldIn, AllRight, Demand3On}
use Rattle.payouts.proofs.OfCommand.{demand3_of_command}
use Rattle.payouts.proofs.NoWeaker.{no_weaker_on, no_other_tables}

-- two nodes, four link slots, two cells: words of any content, and then emptied
abbrev N : List ℕ
N = replicate 48 1

abbrev L : List ℕ
L = replicate 40 1

abbrev W : List ℤ
W = replicate 8 (pos 1)

abbrev C : List ℤ
C = replicate 4 (pos 1)

-- signal 5, with no log; an effect that reads it, with room for one run; a write of 7, with an odd word more
abbrev signal5 : Lent
signal5 = ([], pos 1 ∷ pos 5 ∷ [])

abbrev effect0 : Lent
effect0 = (pos 9 ∷ pos 9 ∷ [], pos 3 ∷ negsuc 0 ∷ pos 2 ∷ pos 0 ∷ [])

abbrev set7 : Lent
set7 = (pos 9 ∷ pos 9 ∷ pos 9 ∷ [], pos 5 ∷ pos 0 ∷ pos 7 ∷ [])

abbrev s₀ : St
s₀ = (begun (room_in N L C)).ours

abbrev s₁ : St
s₁ = (meant s₀ (call signal5)).st

abbrev s₂ : St
s₂ = (meant s₁ (call effect0)).st

-- effect 1 found 7 in node 0
abbrev found7 : List Row
found7 = record { who = 1; worth = value (pos 7); reads = (0, value (pos 7)) ∷ [] } ∷ []

-- two evaluations, the effect twice; and what the write runs
closed : (in_call s₀ (call signal5) + in_call s₁ (call effect0) + in_call s₂ (call set7) ≡ 2) × ((meant s₂ (call set7)).rows ≡ found7)
unfolding sum difference minimum maximum less clamp same same_number is_zero cell_of codes read_of bare_of apply written size names up below empty provided remove each renew spent insert link cut last_link dispose_w unwatched_w unlink_n chain calm effects notify mark prop soil wakes eval_by settle_w first_w upd_computed upd_signal upd_w same_slots steady check_on check_w pending_w fresh_w fresh logged rerun run flush_on store tallest new_signal new_computed new_scope new_effect no_word word whole_cells commands command_of afterCells grown parse tree_of total reserve live_effects asks_of is_a unknown wrong_node gone_node all_readable bad_formula too_high no_room wrong_depth few_rows refusals first refusal perform perform_any answer command in_formula count_first in_update in_check_on in_check in_pending count_fresh_w count_fresh count_rerun count_run count_flush_on count_store count_new_effect count_perform in_perform_any in_answer
closed = (refl, refl)

carries : carry_in N L W C ≡ true
unfolding carry_in whole_rows within_all within_most
carries = refl

-- ---- the write, on the tables that the two makings left: its words show a reply that is right, and no premise is left
abbrev before : Tables
before = tables_after (cleared (emptying N L W C)) (signal5 ∷ effect0 ∷ [])

pub record Tried (p : Past) (r : Reply) : Type 0 where
  pub ours : p.ours ≡ s₂
  pub shows : Shows set7.0 (answered_on before set7) r
  pub rows : r.rows ≡ found7
  pub log : (answered_on before set7).log ≡ pos 1 ∷ pos 7 ∷ pos 9 ∷ []
  pub right : Right p (call set7) r (told p (call set7) r)
  pub held : HeldIn (left (answered_on before set7)) (told p (call set7) r)

-- the rows of the last reply
abbrev last_rows : List Reply → List Row
last_rows [] = []
last_rows (a ∷ []) = a.rows
last_rows (a ∷ b ∷ xs) = last_rows (b ∷ xs)

pub used : (p : Past) × (r : Reply) × Tried p r
unfolding Demand3On AllRight tables_after RightLog replies in_calls
used =
    let x = demand3_of_command N L W C carries (signal5 ∷ effect0 ∷ set7 ∷ []) in
    let p₀ = begun (room_in N L C) in
    let p₁ = told p₀ (call signal5) x.0 in
    let p₂ = told p₁ (call effect0) x.2.0 in
    let r = x.2.2.0 in
    let o₁ : p₁.ours ≡ s₁ = told_ours p₀ (call signal5) x.0 in
    let o₂ : p₂.ours ≡ s₂ = told_ours p₁ (call effect0) x.2.0 ∙ ap (λ (s : St). (meant s (call effect0)).st) o₁ in
    let m₁ : p₁.many ≡ 0 + in_call s₀ (call signal5) = told_many p₀ (call signal5) x.0 in
    let m₂ : p₂.many ≡ p₁.many + in_call s₁ (call effect0) = told_many p₁ (call effect0) x.2.0 ∙ ap (λ (s : St). p₁.many + in_call s (call effect0)) o₁ in
    let m₃ : (told p₂ (call set7) r).many ≡ p₂.many + in_call s₂ (call set7) = told_many p₂ (call set7) r ∙ ap (λ (s : St). p₂.many + in_call s (call set7)) o₂ in
    let e = closed.0 in
    let few : (told p₂ (call set7) r).many < 2 ^ 64 = omega arith in
    let y = x.2.2.1 in
    let same = no_weaker_log (room_in N L C) refl (calls (signal5 ∷ effect0 ∷ set7 ∷ [])) (x.0 ∷ x.2.0 ∷ r ∷ []) (omega arith) (x.1.right, (x.2.1.right, (y.right, tt))) in
    let rows : r.rows ≡ found7 = ap last_rows same ∙ closed.1 in
    let log = y.shows.runs.words ∙ ap (λ (rs : List Row). words_of rs ++ drop (length rs * row_words) set7.0) rows in
    (p₂, r, record { ours = o₂; shows = y.shows; rows = rows; log = log; right = y.right few; held = y.held few })

-- ---- an engine whose run count is one more than the rows
abbrev invents : TableEngine
invents t c = let a = answered_on t c in answered a.code a.value (1 + a.runs) a.nodes a.links a.values a.cells a.log

abbrev first_runs : List Seen → ℕ
first_runs [] = 0
first_runs (a ∷ xs) = a.runs

pub not_invented : Demand3On invents → ⊥
unfolding seen_on in_calls
not_invented d =
    let n = closed.0 in
    let e = ap first_runs (no_weaker_on invents d N L W C carries (signal5 ∷ []) (omega arith)) in
    absurd (omega arith)

-- ---- an engine whose tables grow by a cell at each call
abbrev grows : TableEngine
grows t c = let a = answered_on t c in answered a.code a.value a.runs a.nodes a.links a.values (a.cells ++ pos 0 ∷ pos 0 ∷ []) a.log

pub not_grown : Demand3On grows → ⊥
unfolding left_on in_calls
not_grown d =
    let n = closed.0 in
    let t = cleared (emptying N L W C) in
    let e = (no_other_tables grows d N L W C carries (signal5 ∷ []) (omega arith)).of_cells in
    let f = (no_other_tables answered_on demand3_of_command N L W C carries (signal5 ∷ []) (omega arith)).of_cells in
    let g = length-append (answered_on t signal5).cells (pos 0 ∷ pos 0 ∷ []) in
    absurd (omega arith)

-- ---- an engine that is `command`, and writes 7 into a spare word of the values after each call, refused ones too
abbrev scribbles : TableEngine
scribbles t c = let a = answered_on t c in answered a.code a.value a.runs a.nodes a.links (set a.values 1 (pos 7)) a.cells a.log

-- no command: refused
abbrev nothing_said : Lent
nothing_said = ([], [])

no_command : (meant s₀ (call nothing_said)).code ≡ 2
unfolding sum difference minimum maximum less clamp same same_number is_zero cell_of codes read_of bare_of apply written size names up below empty provided remove each renew spent insert link cut last_link dispose_w unwatched_w unlink_n chain calm effects notify mark prop soil wakes eval_by settle_w first_w upd_computed upd_signal upd_w same_slots steady check_on check_w pending_w fresh_w fresh logged rerun run flush_on store tallest new_signal new_computed new_scope new_effect no_word word whole_cells commands command_of afterCells grown parse tree_of total reserve live_effects asks_of is_a unknown wrong_node gone_node all_readable bad_formula too_high no_room wrong_depth few_rows refusals first refusal perform perform_any answer command in_formula count_first in_update in_check_on in_check in_pending count_fresh_w count_fresh count_rerun count_run count_flush_on count_store count_new_effect count_perform in_perform_any in_answer
no_command = refl

blanked : (emptying N L W C).values ≡ replicate 8 (pos 0)
unfolding emptying carry_in whole_rows within_all within_most zeroed
blanked = refl

pub not_scribbled : Demand3On scribbles → ⊥
unfolding Demand3On AllRight tables_after state_after is_zero same same_number
not_scribbled d =
    let t = cleared (emptying N L W C) in
    let o : Holds t s₀ = history_same N L W C carries [] in
    let code : (answered_on t nothing_said).code ≡ 2 = (answers_same t s₀ nothing_said o).code ∙ no_command in
    let other : (answered_on t nothing_said).code ≡ 0 → ⊥ = λ z. absurd (omega arith) in
    let kept : (answered_on t nothing_said).values ≡ t.values = ap (λ (x : Answered). x.values) (refused_unchanged t.nodes t.links t.values t.cells [] [] other) in
    let asked : set (answered_on t nothing_said).values 1 (pos 7) ≡ t.values = ap (λ (x : Tables). x.values) ((d N L W C carries (nothing_said ∷ [])).1.refused other).0 in
    let zeros : set (replicate 8 (pos 0)) 1 (pos 7) ≡ replicate 8 (pos 0) = sym (ap (λ (v : List ℤ). set v 1 (pos 7)) (kept ∙ blanked)) ∙ asked ∙ blanked in
    false≢true (ap (λ (v : List ℤ). is_zero (value (get_or v 1 (pos 0)))) zeros)
