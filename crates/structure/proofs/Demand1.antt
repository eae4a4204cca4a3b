-- DEMAND 1, of the words: "Any command on any lent tables gets an answer. Bad input is refused by one of nine numbers and changes nothing. Link room is reserved when a node is made, so no accepted command runs out of it." Assumes nothing.
-- N and L are the lent nodes and links, W and C the values and cells, G the log, ws the words of the command; all of them may be any words.
-- `command_in` is the answer of `command` and every word after it.
use mathlib.Core.Path.{◌≡◌, refl, sym, ap, ◌∙◌}
use mathlib.Core.Logic.{◌↔◌}
use mathlib.Core.Bool.{Bool, true, false, not}
use mathlib.Core.List.{List}
use Prim.Native.Nat.{ℕ, zero, suc, ◌≤◌, ◌/◌}
use native.Mathlib.Omega.{arith}
use borrow.Author.Tests.{not-true, not-false}
use lib.IntN.{ℤ}
use lib.ListN.{length}
use Rattle.counting.specs.Counts.{carry_in}
use Rattle.meaning.specs.State.{St, empty}
use Rattle.meaning.specs.Words.{command_of}
use Rattle.meaning.specs.Refusals.{sight_of, table, first, refusal}
use Rattle.meaning.specs.Commands.{command}
use Rattle.meaning.specs.WellFormed.{WellFormed}
use Rattle.meaning.proofs.Laws.{clash}
use Rattle.meaning.proofs.Promised.{nothing_stuck}
use Rattle.meaning.proofs.Refused.{FirstHolds, NoneHolds, first_below, first_exact, first_zero}
use Rattle.refusing.specs.Sight.{sight_in, room_in}
use Rattle.operating.specs.Log.{row_words}
use Rattle.operating.specs.Emptying.{emptied, emptying}
use Rattle.operating.proofs.EmptyLaws.{empty_done, empty_not}
use Rattle.commanding.specs.Tables.{well_formed_in}
use Rattle.commanding.specs.Command.{Answered, refused, refusal_in, answer, command_in}
use Rattle.structure.specs.Rep.{Rep}
use Rattle.structure.specs.Reading.{state_in}
use Rattle.structure.specs.SameAnswer.{SameAnswer}
use Rattle.structure.specs.Histories.{cleared, Lent, tables_after}
use Rattle.structure.proofs.Exact.{exactly, refusal_same, accepted_represents, accepted_well_formed}
use Rattle.structure.proofs.EmptyTables.{emptied_represents, emptied_accepted}
use Rattle.structure.proofs.Commands.{command_same}
use Rattle.structure.proofs.Histories.{emptied_stays}

module _ (N L : List ℕ) (W C G ws : List ℤ) where
  abbrev answered : Answered
  answered = command_in N L W C G ws

  -- document 01's table: whether each of its nine rows holds of these tables, this log and these words
  abbrev Rows : List Bool
  Rows = table (well_formed_in N L W C) (sight_in N L C (length G / row_words)) (command_of ws)

  code_first : answered.code ≡ first 1 Rows
  unfolding command_in answer refusal_in refusal
  code_first = go (refusal_in N L W C G ws)
    where
      go : (r : ℕ) → (answer r N L W C G ws).code ≡ r
      go zero = refl
      go (suc r) = refl

  -- any command on any lent tables gets an answer: 0, or one of nine numbers
  pub gets_an_answer : answered.code ≤ 9
  unfolding table
  gets_an_answer = let h = first_below 0 Rows in let e = code_first in omega arith

  -- a number is given exactly when its row holds and no lower one does: row i has number i + 1
  pub given_exactly : (i : ℕ) → (answered.code ≡ suc i) ↔ FirstHolds Rows i
  given_exactly i = (λ e. (first_exact Rows i).0 (sym code_first ∙ e), λ h. code_first ∙ (first_exact Rows i).1 h)

  pub accepted_exactly : (answered.code ≡ 0) ↔ NoneHolds Rows
  accepted_exactly = (λ e. (first_zero Rows).0 (sym code_first ∙ e), λ h. code_first ∙ (first_zero Rows).1 h)

  -- refused: value 0, runs 0, every lent word unchanged
  pub refused_unchanged : (answered.code ≡ 0 → ⊥) → answered ≡ refused answered.code N L W C G
  unfolding command_in answer
  refused_unchanged = go (refusal_in N L W C G ws)
    where
      go : (r : ℕ) → ((answer r N L W C G ws).code ≡ 0 → ⊥) → answer r N L W C G ws ≡ refused (answer r N L W C G ws).code N L W C G
      go zero h = absurd (h refl)
      go (suc r) h = refl

  -- row 1: the number 1 is given exactly when the tables represent no well-formed state
  pub tables_refused : (answered.code ≡ 1) ↔ (((s : St) × Rep N L W C s × WellFormed s) → ⊥)
  unfolding table
  tables_refused = (
    λ e p. clash ((exactly N L W C).1 p) (not-true (well_formed_in N L W C) ((given_exactly 0).0 e).0),
    λ h. (given_exactly 0).1 (go h (well_formed_in N L W C) refl, λ j l. absurd (omega arith)),
  )
    where
      go : (((s : St) × Rep N L W C s × WellFormed s) → ⊥) → (b : Bool) → well_formed_in N L W C ≡ b → not b ≡ true
      go h true e = absurd (h ((exactly N L W C).0 e))
      go h false e = refl

  -- rows 2 to 9: on tables that represent a well-formed state the number is the one that this state gives
  pub same_refusal : (s : St) → Rep N L W C s → WellFormed s → answered.code ≡ refusal true (sight_of s (length G / row_words)) ws
  unfolding refusal_in refusal
  same_refusal s r w = code_first ∙ refusal_same N L W C s r w G ws

  -- no accepted command runs out of link room: it does what it does over lists to the state that the tables represent, and there nothing is stuck.
  -- Over lists an operation that finds no slot free, or its reserve spent, is stuck, and stays so (`meaning`: `no_slot`, `no_reserve`, `command_sticks`)
  pub room_suffices : answered.code ≡ 0 → let a = command true (state_in N L W C) (length G / row_words) ws in SameAnswer G answered a × (a.st.stuck ≡ false)
  unfolding table
  room_suffices e =
      let ok = not-false (well_formed_in N L W C) (accepted_exactly.0 e 0) in
      let w = accepted_well_formed N L W C ok in
      let s = state_in N L W C in
      (command_same N L W C G ws s (accepted_represents N L W C ok) w refl, nothing_stuck s (length G / row_words) ws w refl)

-- emptying lent tables: lengths that carry no capacities are answered 1, and nothing is touched; else 0, and the tables represent the empty state and are well formed
module _ (n l : List ℕ) (v c : List ℤ) where
  pub emptying_refused : carry_in n l v c ≡ false → emptying n l v c ≡ emptied 1 n l v c
  emptying_refused e = sym (empty_not n l v c e)

  pub emptied_well_formed : carry_in n l v c ≡ true → let e = emptying n l v c in
      (e.code ≡ 0) × Rep e.nodes e.links e.values e.cells (empty (room_in n l c)) × (well_formed_in e.nodes e.links e.values e.cells ≡ true)
  emptied_well_formed h = (sym (ap (λ e. e.code) (empty_done n l v c h)), emptied_represents n l v c h, emptied_accepted n l v c h)

  -- tables that `empty` made stay well formed whatever commands come, each with its own lent log
  pub stay_well_formed : carry_in n l v c ≡ true → (cs : List Lent) → let t = tables_after (cleared (emptying n l v c)) cs in well_formed_in t.nodes t.links t.values t.cells ≡ true
  stay_well_formed h cs = emptied_stays n l v c h cs
