-- The ways through a step in a stream of many scripts, one law each. Assumes nothing.
use Prim.Native.Nat.{ℕ, ◌-◌, ◌≤◌, ◌<◌}
use mathlib.Core.Path.{◌≡◌, sym, ap, ◌∙◌}
use mathlib.Core.Bool.{Bool}
use mathlib.Core.List.{List}
use native.Mathlib.Omega.{arith}
use lib.IntN.{ℤ}
use lib.ListN.{length, take}
use borrow.Author.Tests.{le-ltb, lt-ltb}
use Rattle.operating.specs.Emptying.{Emptied, emptying}
use Rattle.packs.specs.Packs.{decided}
use Rattle.packs.specs.declared.Act.{Act}
use Rattle.packs.specs.declared.Act.TheVariants.{Turn, Script}
use Rattle.packs.specs.declared.Place.{Place}
use Rattle.script.specs.Turns.{Tables, Turned, turn_in}
use Rattle.script.specs.declared.packed.Step.{Step}
use Rattle.script.specs.declared.packed.Step.TheVariants as step
use Rattle.script.specs.Packed.{Played, played, played_by, empty_of, step_of, play_on, play_in}

module _ (t : Tables) (ws : List ℤ) (out w : List ℕ) (over : Bool) (place : Place) {a : Act} (decides : a ≡ decided w over place) where
  -- what is decided is done
  pub play_as : (x : Act) → a ≡ x → play_on t ws out w x ≡ play_in t ws out w over place
  unfolding play_in
  play_as x k = ap (play_on t ws out w) (sym k ∙ decides)

  pub play_stop : {n : ℕ} {last : Bool} → a ≡ Turn n last → length w < n → played step.Stop t ws out ≡ play_in t ws out w over place
  unfolding play_on
  play_stop {n} {last} k h =
      let p : played step.Stop t ws out ≡ play_on t ws out w (Turn n last) = rw (lt-ltb (length w) n h, play_on) in
      p ∙ play_as (Turn n last) k

  pub play_turn : {n : ℕ} {last : Bool} {s : Step} {x : Turned} → a ≡ Turn n last → n ≤ length w → s ≡ step_of x.turn → x ≡ turn_in t ws out (take n w) last → played s x.after x.words x.out ≡ play_in t ws out w over place
  unfolding play_on
  play_turn {n} {last} {s} {x} k h e y =
      let p : played_by (turn_in t ws out (take n w) last) ≡ play_on t ws out w (Turn n last) = rw (le-ltb (length w) n h, play_on) in
      ap (λ (z : Step). played z x.after x.words x.out) e ∙ ap played_by y ∙ p ∙ play_as (Turn n last) k

  pub play_next : {used : ℕ} {e : Emptied} → a ≡ Script used → e ≡ emptying t.nodes t.links t.values t.cells → played (step.Next used) (empty_of e t.log) ws out ≡ play_in t ws out w over place
  unfolding play_on
  play_next {used} {e} k h =
      ap (λ (x : Emptied). played (step.Next used) (empty_of x t.log) ws out) h ∙ play_as (Script used) k
