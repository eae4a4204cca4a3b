-- What demand 3 fixes on lent tables: an engine that keeps it answers and logs as `command` does, and leaves tables of document 01's state, alike to those of `command` in each word that says something. Assumes nothing.
use mathlib.Core.Path.{◌≡◌, refl, sym, ap₂, ◌∙◌, subst}
use mathlib.Core.Bool.{true}
use mathlib.Core.List.{List, [], ◌∷◌}
use Prim.Native.Nat.{ℕ, ◌/◌, ◌<◌, ◌^◌}
use native.Mathlib.Omega.{arith}
use lib.IntN.{ℤ}
use lib.ListN.{length}
use Rattle.counting.specs.Counts.{carry_in}
use Rattle.counting.proofs.Capacities.{carried}
use Rattle.refusing.specs.Sight.{room_in}
use Rattle.operating.specs.Log.{row_words}
use Rattle.operating.specs.Emptying.{emptying}
use Rattle.commanding.specs.Command.{Answered}
use Rattle.meaning.specs.State.{St, Room, empty}
use Rattle.meaning.proofs.Kept.{command_stays}
use Rattle.freshness.specs.History.{Reply, Past, told, begun, in_calls}
use Rattle.freshness.proofs.NoWeaker.{one_right, told_ours, told_many, up_to, up_to-told}
use Rattle.structure.specs.Rep.{Rep, Lengths}
use Rattle.structure.specs.Alike.{SameLengths, Alike}
use Rattle.structure.specs.Histories.{Tables, cleared, left, Lent, answered_on, meant_on, tables_after, state_after}
use Rattle.structure.proofs.Lossless.{same_lengths, loses_nothing}
use Rattle.structure.proofs.Histories.{history_same}
use Rattle.payouts.specs.OnTables.{TableEngine, call, calls, Seen, seen_of, seen_on, left_on, Stand, Shows, RightOn, AllRight, Demand3On}
use Rattle.payouts.proofs.OfCommand.{demand3_of_command}

-- one reply is right, whatever words show it, though what a run read is in no word
pub one_reply : (p : Past) (t u : Tables) (c : Lent) (a b : Answered) (r q : Reply) → RightOn p t c a r (told p (call c) r) → RightOn p u c b q (told p (call c) q) → (told p (call c) r).many < 2 ^ 64 → r ≡ q
one_reply p t u c a b r q R Q few =
    let m = told_many p (call c) r in
    let n = told_many p (call c) q in
    one_right p (call c) r q (R.right few) (Q.right (omega arith))

-- a reply is shown in one way
shown_one : (l : List ℤ) (a b : Answered) (r : Reply) → Shows l a r → Shows l b r → seen_of a ≡ seen_of b
shown_one l a b r A B =
    let code : a.code ≡ b.code = A.code ∙ sym B.code in
    let value : a.value ≡ b.value = A.value ∙ sym B.value in
    let runs : a.runs ≡ b.runs = A.runs.rows ∙ sym B.runs.rows in
    let log : a.log ≡ b.log = A.runs.words ∙ sym B.runs.words in
    λ i. record { code = code i; value = value i; runs = runs i; log = log i }

module _ (E F : TableEngine) where
  alike : (h : List Lent) (t u : Tables) (p : Past) → AllRight E p t h → AllRight F p u h → up_to p (calls h) < 2 ^ 64 → seen_on E t h ≡ seen_on F u h
  unfolding seen_on AllRight in_calls
  alike [] t u p A B few = refl
  alike (c ∷ h) t u p A B few =
      let r = A.0 in
      let e = up_to-told p (call c) r (calls h) in
      let same = one_reply p t u c (E t c) (F u c) r B.0 A.1 B.1 (omega arith) in
      let shows = subst (λ (x : Reply). Shows c.0 (F u c) x) (sym same) B.1.shows in
      let rest = alike h (left (E t c)) (left (F u c)) (told p (call c) r) A.2 (subst (λ (x : Reply). AllRight F (told p (call c) x) (left (F u c)) h) (sym same) B.2) (omega arith) in
      ap₂ (λ (x : Seen) (xs : List Seen). x ∷ xs) (shown_one c.0 (E t c) (F u c) r A.1.shows shows) rest

-- NO WEAKER ENGINE: one that keeps demand 3 answers any calls, one by one, as `command` does: the same code, value, run count and words of the log. On emptied tables of any lengths that carry capacities; so long as these calls make fewer than 2^64 evaluations.
pub no_weaker_on : (E : TableEngine) → Demand3On E → (N L : List ℕ) (W C : List ℤ) → carry_in N L W C ≡ true → (h : List Lent) → in_calls (empty (room_in N L C)) (calls h) < 2 ^ 64
    → let t = cleared (emptying N L W C) in seen_on E t h ≡ seen_on answered_on t h
unfolding Demand3On
no_weaker_on E d N L W C carry h few =
    let t = cleared (emptying N L W C) in
    alike E answered_on h t t (begun (room_in N L C)) (d N L W C carry h) (demand3_of_command N L W C carry h) (omega arith)

-- ---- and the tables
abbrev Represents : Tables → St → Type 0
Represents t s = Rep t.nodes t.links t.values t.cells s

stay_ours : (E : TableEngine) (h : List Lent) (t : Tables) (p : Past) → AllRight E p t h → up_to p (calls h) < 2 ^ 64 → Represents t p.ours → Represents (left_on E t h) (state_after p.ours h)
unfolding AllRight left_on state_after in_calls
stay_ours E [] t p A few o = o
stay_ours E (c ∷ h) t p A few o =
    let r = A.0 in
    let q = told p (call c) r in
    let e = up_to-told p (call c) r (calls h) in
    let m = told_many p (call c) r in
    let here = A.1.held (omega arith) in
    let there = subst (λ (s : St). Represents (left (E t c)) s) here.held.ours here.represents in
    subst (λ (s : St). Represents (left_on E (left (E t c)) h) (state_after s h)) (told_ours p (call c) r) (stay_ours E h (left (E t c)) q A.2 (omega arith) there)

-- a command leaves the room as it was
room_stays : (h : List Lent) (s : St) → (state_after s h).room ≡ s.room
unfolding state_after
room_stays [] s = refl
room_stays (c ∷ h) s = room_stays h (meant_on s c).st ∙ (command_stays true s (length c.0 / row_words) c.1).room

-- NO OTHER TABLES: those that an engine which keeps demand 3 leaves represent document 01's state after the same calls, and are as long as those that were lent.
pub no_other_tables : (E : TableEngine) → Demand3On E → (N L : List ℕ) (W C : List ℤ) → carry_in N L W C ≡ true → (h : List Lent) → in_calls (empty (room_in N L C)) (calls h) < 2 ^ 64
    → Stand (left_on E (cleared (emptying N L W C)) h) N L W C (state_after (empty (room_in N L C)) h)
unfolding Demand3On tables_after state_after empty
no_other_tables E d N L W C carry h few =
    let t = cleared (emptying N L W C) in
    let u = left_on E t h in
    let r = room_in N L C in
    let o = stay_ours E h t (begun r) (d N L W C carry h) (omega arith) (history_same N L W C carry []).represents in
    let long = subst (λ (x : Room). Lengths u.nodes u.links u.values u.cells x) (room_stays h (empty r)) o.lengths in
    let lent = carried N L W C carry in
    record {
      represent = o;
      of_nodes = long.of_nodes ∙ sym lent.node_rows_lem;
      of_links = long.of_links ∙ sym lent.link_rows_lem;
      of_values = long.of_values ∙ sym lent.value_words_lem;
      of_cells = long.of_cells ∙ sym lent.cells_long;
    }

-- ALIKE TABLES: those that an engine which keeps demand 3 leaves and those that `command` leaves after the same calls are as long, and agree in each word that says something (`Alike`).
-- Of the other words demand 3 asks, after accepted calls, no more than the state has of them (`jots_keeps`); the contract of `command` fixes them for it.
pub alike_tables : (E : TableEngine) → Demand3On E → (N L : List ℕ) (W C : List ℤ) → carry_in N L W C ≡ true → (h : List Lent) → in_calls (empty (room_in N L C)) (calls h) < 2 ^ 64
    → let t = left_on E (cleared (emptying N L W C)) h in let u = tables_after (cleared (emptying N L W C)) h in
    SameLengths t.nodes t.links t.values t.cells u.nodes u.links u.values u.cells × Alike t.nodes t.links t.values t.cells u.nodes u.links u.values u.cells
alike_tables E d N L W C carry h few =
    let t = left_on E (cleared (emptying N L W C)) h in
    let u = tables_after (cleared (emptying N L W C)) h in
    let s = state_after (empty (room_in N L C)) h in
    let r = (no_other_tables E d N L W C carry h few).represent in
    let o = history_same N L W C carry h in (
      same_lengths t.nodes t.links t.values t.cells u.nodes u.links u.values u.cells s r o.represents o.formed,
      loses_nothing t.nodes t.links t.values t.cells u.nodes u.links u.values u.cells s r o.represents o.formed,
    )
