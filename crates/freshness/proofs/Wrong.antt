-- Engines that are not document 01's, and fail demand 3: each on a history of at most eight calls. Assumes nothing.
use Rattle.std.specs.Prelude.{Option, None, Some}
use mathlib.Core.Path.{◌≡◌, refl, sym, ap, ◌∙◌}
use mathlib.Core.Logic.{inl, inr}
use mathlib.Core.Bool.{Bool, true, false, not, ◌&&◌}
use mathlib.Core.List.{List, [], ◌∷◌, ◌++◌}
use Prim.Native.Nat.{ℕ, zero, suc, pred}
use native.Mathlib.Omega.{arith}
use lib.Dec.{eqb}
use lib.IntN.{pos, negsuc}
use lib.ListN.{length}
use Rattle.values.specs.declared.Value.{Value}
use Rattle.values.proofs.ValueLaws.{yes_same}
use Rattle.values.specs.Values.{value, sum, difference, minimum, maximum, less, clamp, same, same_number, is_zero}
use Rattle.trees.specs.Cells.{cell_of, codes, read_of, bare_of}
use Rattle.trees.specs.Trees.{apply, worth, reads, written, size, names}
use Rattle.meaning.specs.State.{up, below, empty}
use Rattle.meaning.specs.Links.{provided, remove, each, renew, spent, insert, link, cut, last_link, dispose_w, unwatched_w, unlink_n}
use Rattle.meaning.specs.Marks.{chain, calm, effects, notify, mark, prop, soil, wakes}
use Rattle.meaning.specs.Reads.{eval_by, settle_w, first_w, upd_computed, upd_signal, upd_w, same_slots, steady, check_on, check_w, pending_w, fresh_w, fresh}
use Rattle.meaning.specs.Engine.{logged, rerun, run, flush_on, store, tallest, new_signal, new_computed, new_scope, new_effect}
use Rattle.meaning.specs.Words.{Command, make_signal, make_effect, set_to, batch_end, read_of as readIt, word, no_word, whole_cells, codes as commands, command_of, after as afterCells, grown, parse, tree_of}
use Rattle.meaning.specs.Reserve.{total, reserve}
use Rattle.meaning.specs.Refusals.{live_effects, asks_of, is_a, unknown, wrong_node, gone_node, all_readable, bad_formula, too_high, no_room, wrong_depth, few_rows, table as refusals, first, refusal}
use Rattle.meaning.specs.Commands.{Answer, perform, perform_any, answer, command}
use Rattle.freshness.specs.Afresh.{afresh_n, afresh_of, afresh, paired, readings, moved, recorded, rested, Among}
use Rattle.meaning.specs.Evaluations.{in_formula, in_update, in_check_on, in_check, in_pending, count_first, count_flush_on, count_fresh, count_fresh_w, count_new_effect, count_perform, count_rerun, count_run, count_store}
use Rattle.freshness.specs.Evaluations.{in_perform_any, in_answer}
use Rattle.meaning.specs.State.{St, Room, Row, nothing}
use Rattle.meaning.specs.Setters.{with_depth, with_done, with_free, with_live, with_log, with_sto, with_subs, set_done, set_live, set_subs}
use Rattle.freshness.specs.Nodes.{owns_n, changed, ran}
use Rattle.freshness.specs.History.{Call, Reply, seen, Engine, meant, replies, written as lastWritten, next, after}
use Rattle.freshness.specs.Right.{returned, Demand3}
use Rattle.meaning.proofs.Laws.{false≢true, up_other, up_by}
use Rattle.freshness.proofs.Forms.{firsts, firsts_paired}
use Rattle.freshness.proofs.Sound.{not_it, and_first}
use Rattle.freshness.proofs.Used.{room}

-- signal 5; an effect that reads it; two writes to it; a read of it
abbrev signal5 : Call
signal5 = record { rows = 4; words = pos 1 ∷ pos 5 ∷ [] }

abbrev effect0 : Call
effect0 = record { rows = 4; words = pos 3 ∷ negsuc 0 ∷ pos 2 ∷ pos 0 ∷ [] }

abbrev set6 : Call
set6 = record { rows = 4; words = pos 5 ∷ pos 0 ∷ pos 6 ∷ [] }

abbrev set7 : Call
set7 = record { rows = 4; words = pos 5 ∷ pos 0 ∷ pos 7 ∷ [] }

abbrev read0 : Call
read0 = record { rows = 4; words = pos 7 ∷ pos 0 ∷ [] }

-- case 9: two signals, an effect over each, the second owned by the first; a batch that writes to both, the second first
abbrev signal0 : Call
signal0 = record { rows = 4; words = pos 1 ∷ pos 0 ∷ [] }

abbrev owned1 : Call
owned1 = record { rows = 4; words = pos 3 ∷ pos 2 ∷ pos 2 ∷ pos 1 ∷ [] }

abbrev begins : Call
begins = record { rows = 4; words = pos 9 ∷ [] }

abbrev set1_9 : Call
set1_9 = record { rows = 4; words = pos 5 ∷ pos 1 ∷ pos 9 ∷ [] }

abbrev set0_4 : Call
set0_4 = record { rows = 4; words = pos 5 ∷ pos 0 ∷ pos 4 ∷ [] }

abbrev pub ends : Call
ends = record { rows = 4; words = pos 10 ∷ [] }

abbrev pub case9 : List Call
case9 = signal0 ∷ signal0 ∷ effect0 ∷ owned1 ∷ begins ∷ set1_9 ∷ set0_4 ∷ []

-- case 30: in a batch that signal is set to 3 and back, with a read after each
abbrev set3 : Call
set3 = record { rows = 4; words = pos 5 ∷ pos 0 ∷ pos 3 ∷ [] }

abbrev set5 : Call
set5 = record { rows = 4; words = pos 5 ∷ pos 0 ∷ pos 5 ∷ [] }

abbrev case30 : List Call
case30 = signal5 ∷ effect0 ∷ begins ∷ set3 ∷ read0 ∷ set5 ∷ read0 ∷ []

-- a branch that turns: signals 1, 5 and 6; an effect that chooses by the first between the others; a write of 0 to the first
abbrev signal1 : Call
signal1 = record { rows = 4; words = pos 1 ∷ pos 1 ∷ [] }

abbrev signal6 : Call
signal6 = record { rows = 4; words = pos 1 ∷ pos 6 ∷ [] }

abbrev chooses : Call
chooses = record { rows = 4; words = pos 3 ∷ negsuc 0 ∷ pos 8 ∷ pos 0 ∷ pos 2 ∷ pos 0 ∷ pos 2 ∷ pos 1 ∷ pos 2 ∷ pos 2 ∷ [] }

abbrev set0 : Call
set0 = record { rows = 4; words = pos 5 ∷ pos 0 ∷ pos 0 ∷ [] }

-- case 12: signal 0, a computed that reads it; an effect that reads the signal, the computed, and the signal again
abbrev computed0 : Call
computed0 = record { rows = 4; words = pos 2 ∷ pos 2 ∷ pos 0 ∷ [] }

abbrev twice_0 : Call
twice_0 = record { rows = 4; words = pos 3 ∷ negsuc 0 ∷ pos 3 ∷ pos 0 ∷ pos 2 ∷ pos 0 ∷ pos 3 ∷ pos 0 ∷ pos 2 ∷ pos 1 ∷ pos 2 ∷ pos 0 ∷ [] }

-- ---- the engines: document 01's, with another answer
abbrev answers : ℕ → Value → List Row → Answer → Answer
answers c v rs a = record { st = a.st; code = c; val = v; rows = rs }

-- refuses everything
abbrev refuses : Engine
refuses s c = let a = meant s c in answers 2 nothing [] a

-- reads back 0
abbrev reads_0 : Engine
reads_0 s c = let a = meant s c in answers a.code nothing a.rows a

-- never runs a new effect, nor any other
abbrev mute : Engine
mute s c = let a = meant s c in answers a.code a.val [] a

-- has a row where nothing flushes
abbrev loud : Engine
loud s c = let a = meant s c in answers a.code a.val (record { who = 0; worth = nothing; reads = [] } ∷ []) a

-- settles only its first flush
abbrev settles_once : Engine
settles_once s c = let a = meant s c in answers a.code a.val (elim (eqb s.cycle 0) [ true ↦ a.rows | false ↦ [] ]) a

-- has each row twice
abbrev twice : Engine
twice s c = let a = meant s c in answers a.code a.val (a.rows ++ a.rows) a

-- turns the first two rows round
abbrev turned : List Row → List Row
turned [] = []
turned (r ∷ []) = r ∷ []
turned (r ∷ q ∷ rs) = q ∷ r ∷ rs

abbrev turns : Engine
turns s c = let a = meant s c in answers a.code a.val (turned a.rows) a

-- runs also what is due and goes in the flush, before its owner: t is after it
abbrev leaving : St → St → List ℕ → List Row
leaving s t [] = []
leaving s t (e ∷ q) =
    elim (t.gone e && (not (s.gone e) && moved s.sto (afresh t) (readings (s.form e) s.sto))) [ true ↦ record { who = e; worth = worth (t.form e) (afresh t); reads = readings (t.form e) (afresh t) } ∷ leaving s t q | false ↦ leaving s t q ]

abbrev pub early : Engine
early s c = let a = meant s c in answers a.code a.val (leaving s a.st s.queue ++ a.rows) a

-- drops the runs of a flush that find nothing but what was stored before it, as in case 30
abbrev differing : St → St → List Row → List Row
differing s t [] = []
differing s t (r ∷ rs) = elim (moved s.sto t.sto r.reads) [ true ↦ r ∷ differing s t rs | false ↦ differing s t rs ]

abbrev forgives : Engine
forgives s c = let a = meant s c in answers a.code a.val (elim (eqb s.size a.st.size) [ true ↦ differing s a.st a.rows | false ↦ a.rows ]) a

-- says that its runs read nothing
abbrev silent : List Row → List Row
silent [] = []
silent (r ∷ rs) = record { who = r.who; worth = r.worth; reads = [] } ∷ silent rs

abbrev lies : Engine
lies s c = let a = meant s c in answers a.code a.val (silent a.rows) a

-- answers a read by the value stored before it
abbrev stored : St → ℕ → Option Command → Value
stored s zero None = nothing
stored s zero (Some k) = returned s.size s.sto k
stored s (suc r) o = nothing

abbrev stale : Engine
stale s c = let a = meant s c in answers a.code (stored s a.code (command_of c.words)) a.rows a

-- ---- and with another state
abbrev leaves : St → Answer → Answer
leaves t a = record { st = t; code = a.code; val = a.val; rows = a.rows }

abbrev stores_nothing : Engine
stores_nothing s c = leaves s (meant s c)

-- its depth is always 7
abbrev deep : Engine
deep s c = let a = meant s c in leaves (with_depth a.st 7) a

-- loses its links
abbrev forgets : Engine
forgets s c = let a = meant s c in leaves (with_live a.st (λ l. false)) a

-- never lets go of a link
abbrev clings : Engine
clings s c = let a = meant s c in leaves (with_live a.st (λ l. true)) a

-- ---- and with another state that no reply shows: what it keeps after a call is read back before the next
pub record Hidden : Type 0 where
  pub keep : St → St
  pub back : St → St
  pub again : (s : St) → back (keep s) ≡ s
  pub begins : (r : Room) → back (empty r) ≡ empty r

abbrev pub behind : Hidden → Engine
behind o s c = let a = meant (o.back s) c in leaves (o.keep a.st) a

behind_replies : (o : Hidden) (h : List Call) (s t : St) → o.back t ≡ s → replies (behind o) t h ≡ replies meant s h
unfolding replies
behind_replies o [] s t e = refl
behind_replies o (c ∷ h) s t e =
    ap (λ (x : St). seen (meant x c) ∷ replies (behind o) (o.keep (meant x c).st) h) e
    ∙ ap (λ (xs : List Reply). seen (meant s c) ∷ xs) (behind_replies o h (meant s c).st (o.keep (meant s c).st) (o.again (meant s c).st))

-- each of them replies as document 01's engine does, to any calls
pub unseen : (o : Hidden) (r : Room) (h : List Call) → replies (behind o) (empty r) h ≡ replies meant (empty r) h
unseen o r h = behind_replies o h (empty r) (empty r) (o.begins r)

-- one place off
abbrev off : {A : Type 0} → A → (ℕ → A) → ℕ → A
off a f zero = a
off a f (suc n) = f n

-- keeps each list of subscribers one place off
abbrev pub off_subs : Hidden
unfolding empty
off_subs = record { keep = λ s. with_subs s (off [] s.subs); back = λ s. with_subs s (λ n. s.subs (suc n)); again = λ s. refl; begins = λ r. refl }

abbrev unstrung : Engine
unstrung = behind off_subs

-- keeps each stored value one place off
abbrev pub off_values : Hidden
unfolding empty
off_values = record { keep = λ s. with_sto s (off nothing s.sto); back = λ s. with_sto s (λ n. s.sto (suc n)); again = λ s. refl; begins = λ r. refl }

abbrev misplaced : Engine
misplaced = behind off_values

-- once it has a node, has room for one more than was lent
abbrev with_room : St → Room → St
with_room s x = record { room = x; size = s.size; used = s.used; kind = s.kind; form = s.form; owner = s.owner; gone = s.gone; level = s.level; fl = s.fl; sto = s.sto; pend = s.pend; done = s.done; rest = s.rest; subs = s.subs; live = s.live; dep = s.dep; sub = s.sub; ver = s.ver; free = s.free; queue = s.queue; depth = s.depth; cycle = s.cycle; log = s.log; stuck = s.stuck }

abbrev wider : ℕ → Room → Room
wider zero r = r
wider (suc n) r = record { nodes = suc r.nodes; slots = r.slots; cells = r.cells }

abbrev narrower : ℕ → Room → Room
narrower zero r = r
narrower (suc n) r = record { nodes = pred r.nodes; slots = r.slots; cells = r.cells }

pub narrower_wider : (n : ℕ) (r : Room) → narrower n (wider n r) ≡ r
narrower_wider zero r = refl
narrower_wider (suc n) r = refl

abbrev pub wide : Hidden
unfolding empty
wide = record { keep = λ s. with_room s (wider s.size s.room); back = λ s. with_room s (narrower s.size s.room); again = λ s. ap (with_room s) (narrower_wider s.size s.room); begins = λ r. refl }

abbrev roomy : Engine
roomy = behind wide

-- slot 3 is a second link of the pair of slot 0, as in case 12
abbrev doubled : St → Bool
doubled s = s.live 3 && (s.live 0 && (eqb (s.dep 3) (s.dep 0) && eqb (s.sub 3) (s.sub 0)))

-- loses it: it leaves both lists, and its slot is free. What the lists were is put aside in the state's log, which no command reads
abbrev aside : ℕ → List ℕ → Row
aside n ls = record { who = n; worth = nothing; reads = paired (λ l. nothing) ls }

abbrev lost : Bool → St → St
lost true s =
    let d = s.dep 3 in
    let u = s.sub 3 in
    with_log (with_free (set_live (set_subs (set_done s u (remove 3 (s.done u))) d (remove 3 (s.subs d))) 3 false) (3 ∷ s.free)) (aside 1 (s.done u) ∷ aside 0 (s.subs d) ∷ s.log)
lost false s = with_log s (aside 0 [] ∷ s.log)

abbrev but_first : List ℕ → List ℕ
but_first [] = []
but_first (x ∷ xs) = xs

abbrev put_back : List (ℕ × Value) → List Row → St → St
put_back ds [] s = s
put_back ds (q ∷ rs) s = with_log (with_free (set_live (set_subs (set_done s (s.sub 3) (firsts ds)) (s.dep 3) (firsts q.reads)) 3 true) (but_first s.free)) rs

abbrev found : List Row → St → St
found [] s = s
found (r ∷ rs) s = elim r.who [ zero ↦ with_log s rs | suc n ↦ put_back r.reads rs s ]

up_back : {A : Type 0} (f : ℕ → A) (n : ℕ) (v w : A) → f n ≡ w → up (up f n v) n w ≡ f
up_back f n v w e i m = up_by (up f n v) n w (λ x. x ≡ f m) m (λ z. sym e ∙ ap f (sym z)) (λ z. up_other f n v m z) i

pub found_lost : (b : Bool) (s : St) → (b ≡ true → s.live 3 ≡ true) → found (lost b s).log (lost b s) ≡ s
found_lost false s h = refl
found_lost true s h =
    let d = s.dep 3 in
    let u = s.sub 3 in
    let done = up_back s.done u (remove 3 (s.done u)) (firsts (paired (λ l. nothing) (s.done u))) (sym (firsts_paired (λ l. nothing) (s.done u))) in
    let subs = up_back s.subs d (remove 3 (s.subs d)) (firsts (paired (λ l. nothing) (s.subs d))) (sym (firsts_paired (λ l. nothing) (s.subs d))) in
    let live = up_back s.live 3 false true (h refl) in
    λ i. with_live (with_subs (with_done s (done i)) (subs i)) (live i)

abbrev pub one_of_two : Hidden
unfolding empty
one_of_two = record { keep = λ s. lost (doubled s) s; back = λ s. found s.log s; again = λ s. found_lost (doubled s) s (and_first (s.live 3) _); begins = λ r. refl }

abbrev forgets_second : Engine
forgets_second = behind one_of_two

longer : {C : Type 0} (r : Row) → [] ≡ r ∷ [] → C
longer r e = let z = ap (λ (x : List Row). length x) e in absurd (omega arith)

-- after the turn node 1 is not read
turned_away : (v : Value) → Among 1 v ((0, value (pos 0)) ∷ (2, value (pos 6)) ∷ []) → ⊥
turned_away v (inl e) = let z = e.0 in absurd (omega arith)
turned_away v (inr (inl e)) = let z = e.0 in absurd (omega arith)
turned_away v (inr (inr e)) = e

pub none_is_right : (Demand3 refuses → ⊥) × (Demand3 reads_0 → ⊥) × (Demand3 mute → ⊥) × (Demand3 loud → ⊥) × (Demand3 settles_once → ⊥) × (Demand3 stores_nothing → ⊥) × (Demand3 deep → ⊥) × (Demand3 forgets → ⊥) × (Demand3 twice → ⊥) × (Demand3 turns → ⊥) × (Demand3 early → ⊥) × (Demand3 unstrung → ⊥) × (Demand3 clings → ⊥) × (Demand3 misplaced → ⊥) × (Demand3 roomy → ⊥) × (Demand3 forgets_second → ⊥) × (Demand3 forgives → ⊥) × (Demand3 lies → ⊥) × (Demand3 stale → ⊥)
unfolding Demand3 sum difference minimum maximum less clamp same same_number is_zero cell_of codes read_of bare_of apply written size names up below empty provided remove each renew spent insert link cut last_link dispose_w unwatched_w unlink_n chain calm effects notify mark prop soil wakes eval_by settle_w first_w upd_computed upd_signal upd_w same_slots steady check_on check_w pending_w fresh_w fresh logged rerun run flush_on store tallest new_signal new_computed new_scope new_effect no_word word whole_cells commands command_of afterCells grown parse tree_of total reserve live_effects asks_of is_a unknown wrong_node gone_node all_readable bad_formula too_high no_room wrong_depth few_rows refusals first refusal perform perform_any answer command recorded in_formula count_first in_update in_check_on in_check in_pending count_fresh_w count_fresh count_rerun count_run count_flush_on count_store count_new_effect count_perform in_perform_any in_answer lastWritten next after afresh_n afresh_of paired readings moved owns_n changed ran reads worth rested
none_is_right = (
  λ d. let e : ◌≡◌ {A = ℕ} 2 0 = (d room refl [] signal5 (omega arith)).0.code in absurd (omega arith),
  λ d. let e : nothing ≡ value (pos 5) = ((d room refl (signal5 ∷ []) read0 (omega arith)).0.accepted (readIt (pos 0)) refl refl).value in false≢true (sym (ap is_zero e)),
  λ d. let e = ((d room refl (signal5 ∷ []) effect0 (omega arith)).0.accepted (make_effect (negsuc 0) (pos 2 ∷ pos 0 ∷ [])) refl refl).made (negsuc 0) (pos 2 ∷ pos 0 ∷ []) refl in longer e.0 e.2,
  λ d. let e = ((d room refl [] signal5 (omega arith)).0.accepted (make_signal (pos 5)) refl refl).none_else (λ o cs q. not_it (make_signal (pos 5)) (make_effect o cs) refl q) refl in longer _ (sym e),
  λ d. (((d room refl (signal5 ∷ effect0 ∷ set6 ∷ []) set7 (omega arith)).0.accepted (set_to (pos 0) (pos 7)) refl refl).exactly refl).1 1 (omega arith, refl, refl)
      (record { node = 0; was = value (pos 6); read = inl (refl, refl); new = λ e. false≢true (yes_same (value (pos 7)) (value (pos 6)) e) }),
  λ d. let e : ◌≡◌ {A = ℕ} 3 0 = (d room refl (signal5 ∷ []) read0 (omega arith)).0.code in absurd (omega arith),
  λ d. let e : ◌≡◌ {A = ℕ} 7 0 = (d room refl [] signal5 (omega arith)).1.agrees.depth in absurd (omega arith),
  λ d. let e = ((d room refl (signal5 ∷ []) effect0 (omega arith)).1.records 1 (omega arith, refl, refl)).linked 0 (value (pos 5)) (inl (refl, refl)) in false≢true e.1,
  λ d. ((d room refl (signal5 ∷ effect0 ∷ []) set6 (omega arith)).0.accepted (set_to (pos 0) (pos 6)) refl refl).once.0 (inl refl),
  λ d. let e : ◌≡◌ {A = ℕ} 2 1 = (d room refl (signal5 ∷ effect0 ∷ effect0 ∷ []) set6 (omega arith)).0.order.0 in absurd (omega arith),
  λ d. let e : ◌≡◌ {A = ℕ} 3 2 = (d room refl case9 ends (omega arith)).0.order.0 in absurd (omega arith),
  λ d. (d room refl (signal5 ∷ []) effect0 (omega arith)).1.formed.lists.live_in_subs 0 refl,
  λ d. let x = ((d room refl (signal1 ∷ signal5 ∷ signal6 ∷ chooses ∷ []) set0 (omega arith)).1.records 3 (omega arith, refl, refl)).read 1 refl refl refl in turned_away x.0 x.1,
  λ d. let e : nothing ≡ value (pos 5) = ap (λ (s : St). s.sto 0) (d room refl [] signal5 (omega arith)).1.ours in false≢true (sym (ap is_zero e)),
  λ d. let e : ◌≡◌ {A = ℕ} 17 16 = ap (λ (s : St). s.room.nodes) (d room refl [] signal5 (omega arith)).1.ours in absurd (omega arith),
  λ d. let e : false ≡ true = ap (λ (s : St). s.live 3) (d room refl (signal0 ∷ computed0 ∷ []) twice_0 (omega arith)).1.ours in false≢true e,
  λ d. (((d room refl case30 ends (omega arith)).0.accepted batch_end refl refl).runs refl).1 1 (omega arith, refl, refl) (inl refl),
  λ d. let e = ((d room refl (signal5 ∷ []) effect0 (omega arith)).0.accepted (make_effect (negsuc 0) (pos 2 ∷ pos 0 ∷ [])) refl refl).rows.1 in let z = ap (λ (x : List (ℕ × Value)). length x) e in absurd (omega arith),
  λ d. let e : value (pos 5) ≡ nothing = ((d room refl (signal5 ∷ begins ∷ set0 ∷ []) read0 (omega arith)).0.accepted (readIt (pos 0)) refl refl).value in false≢true (ap is_zero e),
)

-- ---- two that keep another state are seen by their rows too: after the turn and a write to what is no longer read
abbrev runs_of : List Reply → List ℕ
runs_of [] = []
runs_of (a ∷ xs) = length a.rows ∷ runs_of xs

abbrev turning : List Call
turning = signal1 ∷ signal5 ∷ signal6 ∷ chooses ∷ set0 ∷ set1_9 ∷ []

pub runs_differ : (runs_of (replies meant (empty room) turning) ≡ 0 ∷ 0 ∷ 0 ∷ 1 ∷ 1 ∷ 0 ∷ []) × (runs_of (replies forgets (empty room) turning) ≡ 0 ∷ 0 ∷ 0 ∷ 1 ∷ 1 ∷ 1 ∷ []) × (runs_of (replies deep (empty room) turning) ≡ 0 ∷ 0 ∷ 0 ∷ 1 ∷ 0 ∷ 0 ∷ [])
unfolding replies sum difference minimum maximum less clamp same same_number is_zero cell_of codes read_of bare_of apply written size names up below empty provided remove each renew spent insert link cut last_link dispose_w unwatched_w unlink_n chain calm effects notify mark prop soil wakes eval_by settle_w first_w upd_computed upd_signal upd_w same_slots steady check_on check_w pending_w fresh_w fresh logged rerun run flush_on store tallest new_signal new_computed new_scope new_effect no_word word whole_cells commands command_of afterCells grown parse tree_of total reserve live_effects asks_of is_a unknown wrong_node gone_node all_readable bad_formula too_high no_room wrong_depth few_rows refusals first refusal perform perform_any answer command recorded in_formula count_first in_update in_check_on in_check in_pending count_fresh_w count_fresh count_rerun count_run count_flush_on count_store count_new_effect count_perform in_perform_any in_answer
runs_differ = (refl, refl, refl)
