-- The test of `commanding` passes exactly the tables that represent a well-formed state, and then the refusals are those of that state. Assumes nothing.
use mathlib.Core.Path.{◌≡◌, sym, ap, ap₂, ◌∙◌, subst}
use mathlib.Core.Logic.{◌↔◌}
use mathlib.Core.Bool.{Bool, true, ◌&&◌}
use mathlib.Core.List.{List}
use Prim.Native.Nat.{ℕ, ◌≤◌, ◌/◌}
use native.Mathlib.Omega.{arith}
use lib.Dec.{leb}
use lib.IntN.{ℤ}
use lib.ListN.{length}
use borrow.Author.Tests.{leb-true}
use Rattle.counting.specs.Counts.{counted_in, most_nodes, reserve_in, live_effects_in, total as totalIn, reserve_of as reserveAt, effect_of as effectAt}
use Rattle.counting.proofs.Capacities.{carried}
use Rattle.telling.specs.Rules.{Described}
use Rattle.telling.specs.Whole.{described_in}
use Rattle.telling.proofs.Exact.{described_sound, described_complete}
use Rattle.resting.specs.AtRest.{Joined}
use Rattle.resting.specs.Joined.{joined_in}
use Rattle.resting.proofs.JoinedExact.{joined_sound, joined_complete}
use Rattle.meaning.specs.State.{within, St}
use Rattle.meaning.specs.Reserve.{reserve}
use Rattle.meaning.specs.Refusals.{Sight, live_effects, sight_of, refusal}
use Rattle.meaning.specs.WellFormed.{WellFormed}
use Rattle.refusing.specs.Sight.{sight_in}
use Rattle.operating.specs.Log.{row_words}
use Rattle.commanding.specs.Tables.{well_formed_in}
use Rattle.commanding.specs.Command.{refusal_in}
use Rattle.structure.specs.Rep.{Rep}
use Rattle.structure.specs.Reading.{state_in}
use Rattle.structure.proofs.Stated.{plain_rep, plain_well_formed, nodes_is, slots_is, cells_is, read_is}
use Rattle.structure.proofs.Represents.{read_rep}
use Rattle.structure.proofs.Counting.{reserve_is, effects_is}
use Rattle.structure.proofs.Sound.{read_well_formed}
use Rattle.structure.proofs.Complete.{both, is_described, is_joined}

module _ (N L : List ℕ) (W C : List ℤ) where
  few : Described N L W C → counted_in N ≤ most_nodes
  unfolding counted_in
  few d = let a = (carried N L W C d.carried).few_nodes in omega arith

  halves : well_formed_in N L W C ≡ true → Described N L W C × Joined N L C
  unfolding well_formed_in
  halves e =
      let p = both (described_in N L W C) (joined_in N L C) e in
      let d = described_sound N L W C p.0 in
      (d, joined_sound N L C (few d) p.1)

  -- THE TEST: tables that it passes represent the state that is read from them, which is well formed
  pub accepted_represents : well_formed_in N L W C ≡ true → Rep N L W C (state_in N L W C)
  accepted_represents e = let p = halves e in read_rep N L W C p.0 p.1

  pub accepted_well_formed : well_formed_in N L W C ≡ true → WellFormed (state_in N L W C)
  accepted_well_formed e = let p = halves e in read_well_formed N L W C p.0 p.1

  -- and it passes all tables that represent a well-formed state
  pub represented_accepted : (s : St) → Rep N L W C s → WellFormed s → well_formed_in N L W C ≡ true
  unfolding well_formed_in
  represented_accepted s r w =
      let q = sym (read_is N L W C s r w) in
      let rep = subst (λ (x : St). Rep N L W C x) q (plain_rep N L W C s r) in
      let wf = subst WellFormed q (plain_well_formed s w) in
      let d = is_described N L W C rep wf in
      ap₂ ◌&&◌ (described_complete N L W C d) (joined_complete N L C (few d) (is_joined N L W C rep wf))

  pub exactly : (well_formed_in N L W C ≡ true) ↔ ((s : St) × Rep N L W C s × WellFormed s)
  exactly = ((λ e. (state_in N L W C, accepted_represents e, accepted_well_formed e)), (λ p. represented_accepted p.0 p.1 p.2))

  -- THE REFUSALS
  module _ (s : St) (r : Rep N L W C s) (w : WellFormed s) where
    counted : counted_in N ≡ s.size
    unfolding counted_in
    counted = let a = r.registers.count in let b = w.limits.nodes_fit in omega (arith, nodes_is N L W C s r w)

    slots_few : s.room.slots ≤ 8192
    slots_few =
        let a = both (within s.room.nodes 1024) (within s.room.slots 8192 && within s.room.cells 8192) w.limits.room_within in
        let b = both (within s.room.slots 8192) (within s.room.cells 8192) a.1 in
        leb-true s.room.slots 8192 (both (leb 1 s.room.slots) (leb s.room.slots 8192) b.0).1

    reserve_same : reserve_in N ≡ reserve s
    unfolding reserve_in
    reserve_same =
        let e : totalIn (reserveAt N) (counted_in N) ≡ reserve s = ap (totalIn (reserveAt N)) counted ∙ reserve_is N L W C s r in
        let a = w.limits.reserve_fits in
        let b = slots_few in
        omega arith

    effects_same : live_effects_in N ≡ live_effects s
    unfolding live_effects_in
    effects_same = ap (totalIn (effectAt N)) counted ∙ effects_is N L W C s r

    -- what the refusals see in the tables is what they see in the state
    pub sight_same : (rows : ℕ) → sight_in N L C rows ≡ sight_of s rows
    sight_same rows = λ i. record {
      room = record { nodes = nodes_is N L W C s r w i; slots = slots_is N L W C s r w i; cells = cells_is N L W C s r w i };
      rows = rows;
      count = r.registers.count i;
      kind = λ n. r.kinds.kind n i;
      gone = λ n. r.kinds.gone n i;
      level = λ n. r.kinds.level n i;
      used = r.registers.used i;
      reserved = reserve_same i;
      effects = effects_same i;
      depth = r.registers.depth i;
    }

    pub refusal_same : (g ws : List ℤ) → refusal_in N L W C g ws ≡ refusal true (sight_of s (length g / row_words)) ws
    unfolding refusal_in
    refusal_same g ws = ap₂ (λ (b : Bool) (v : Sight). refusal b v ws) (represented_accepted s r w) (sight_same (length g / row_words))

  pub refusal_read : well_formed_in N L W C ≡ true → (g ws : List ℤ) → refusal_in N L W C g ws ≡ refusal true (sight_of (state_in N L W C) (length g / row_words)) ws
  refusal_read e = refusal_same (state_in N L W C) (accepted_represents e) (accepted_well_formed e)
