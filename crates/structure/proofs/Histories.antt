-- HISTORIES: whatever commands come, the words do what the lists do, and the tables stay well formed; those that `empty` made among them. Assumes nothing.
use mathlib.Core.Path.{◌≡◌, refl, ◌∙◌}
use mathlib.Core.Bool.{true}
use mathlib.Core.List.{List, [], ◌∷◌}
use Prim.Native.Nat.{ℕ, ◌/◌}
use lib.IntN.{ℤ}
use lib.ListN.{length}
use Rattle.counting.specs.Counts.{carry_in}
use Rattle.operating.specs.Log.{row_words}
use Rattle.operating.specs.Emptying.{emptying}
use Rattle.refusing.specs.Sight.{room_in}
use Rattle.meaning.specs.State.{St, empty}
use Rattle.meaning.proofs.Emptied.{empty_well_formed}
use Rattle.meaning.proofs.Accepted.{command_kept}
use Rattle.structure.specs.Reading.{state_in}
use Rattle.structure.specs.SameAnswer.{SameAnswer}
use Rattle.structure.specs.Histories.{Tables, cleared, left, Lent, answered_on, meant_on, tables_after, state_after, Accepted, Holds}
use Rattle.structure.proofs.Represents.{room_fits}
use Rattle.structure.proofs.Exact.{accepted_represents, accepted_well_formed, represented_accepted}
use Rattle.structure.proofs.EmptyTables.{emptied_represents}
use Rattle.structure.proofs.Commands.{command_same}

-- ---- one command
pub answers_same : (t : Tables) (s : St) (c : Lent) → Holds t s → SameAnswer c.0 (answered_on t c) (meant_on s c)
answers_same t s c h = command_same t.nodes t.links t.values t.cells c.0 c.1 s h.represents h.formed h.free

pub still_holds : (t : Tables) (s : St) (c : Lent) → Holds t s → Holds (left (answered_on t c)) (meant_on s c).st
still_holds t s c h =
    let k = command_kept true s (length c.0 / row_words) c.1 h.formed in
    record { represents = (answers_same t s c h).tables; formed = k.formed; free = k.stuck ∙ h.free }

-- ---- any commands
pub all_hold : (cs : List Lent) (t : Tables) (s : St) → Holds t s → Holds (tables_after t cs) (state_after s cs)
unfolding tables_after state_after
all_hold [] t s h = h
all_hold (c ∷ cs) t s h = all_hold cs (left (answered_on t c)) (meant_on s c).st (still_holds t s c h)

pub holds_accepted : (t : Tables) (s : St) → Holds t s → Accepted t
holds_accepted t s h = represented_accepted t.nodes t.links t.values t.cells s h.represents h.formed

pub accepted_holds : (t : Tables) → Accepted t → Holds t (state_in t.nodes t.links t.values t.cells)
accepted_holds t e = record { represents = accepted_represents t.nodes t.links t.values t.cells e; formed = accepted_well_formed t.nodes t.links t.values t.cells e; free = refl }

-- well-formed tables stay well formed
pub accepted_stays : (cs : List Lent) (t : Tables) → Accepted t → Accepted (tables_after t cs)
accepted_stays cs t e = let s = state_in t.nodes t.links t.values t.cells in holds_accepted (tables_after t cs) (state_after s cs) (all_hold cs t s (accepted_holds t e))

-- ---- from tables that `empty` made
module _ (N L : List ℕ) (W C : List ℤ) (carry : carry_in N L W C ≡ true) (cs : List Lent) where
  pub history_same : Holds (tables_after (cleared (emptying N L W C)) cs) (state_after (empty (room_in N L C)) cs)
  unfolding empty
  history_same = all_hold cs (cleared (emptying N L W C)) (empty (room_in N L C)) (record { represents = emptied_represents N L W C carry; formed = empty_well_formed (room_in N L C) (room_fits N L W C carry); free = refl })

  pub emptied_stays : Accepted (tables_after (cleared (emptying N L W C)) cs)
  emptied_stays = holds_accepted (tables_after (cleared (emptying N L W C)) cs) (state_after (empty (room_in N L C)) cs) history_same
