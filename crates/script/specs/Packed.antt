-- A step in a stream of many scripts: a turn on the part of the window that is the script's, or the next script on empty tables. Assumes nothing.
use Rattle.std.specs.Prelude.{ℕ, Bool, true, false, List, ltb, ℤ, length, take}
use Rattle.operating.specs.Emptying.{Emptied, emptying}
use Rattle.packs.specs.Packs.{decided}
use Rattle.packs.specs.declared.Act.{Act}
use Rattle.packs.specs.declared.Act.TheVariants as act
use Rattle.packs.specs.declared.Place.{Place}
use Rattle.script.specs.Turns.{Tables, tables, Turned, turn_in}
use Rattle.script.specs.declared.turns.Turn.{Turn}
use Rattle.script.specs.declared.turns.Turn.TheVariants as turn
use Rattle.script.specs.declared.packed.Step.{Step}
use Rattle.script.specs.declared.packed.Step.TheVariants as step

-- what a step comes to; and every lent word and byte after it
pub record Played : Type 0 where
  pub step : Step
  pub after : Tables
  pub words : List ℤ
  pub out : List ℕ

abbrev pub played : Step → Tables → List ℤ → List ℕ → Played
played s t ws out = record { step = s; after = t; words = ws; out = out }

unfoldable pub step_of : Turn → Step
step_of turn.More = step.Read
step_of (turn.Answered used bytes) = step.Answered used bytes
step_of (turn.Ended bytes) = step.Ended bytes

abbrev pub played_by : Turned → Played
played_by x = played (step_of x.turn) x.after x.words x.out

abbrev pub empty_of : Emptied → List ℤ → Tables
empty_of e log = tables e.nodes e.links e.values e.cells log

unfoldable pub play_on : Tables → List ℤ → List ℕ → List ℕ → Act → Played
play_on t ws out w act.Read = played step.Read t ws out
play_on t ws out w (act.Turn n last) = elim (ltb (length w) n) [ true ↦ played step.Stop t ws out | false ↦ played_by (turn_in t ws out (take n w) last) ]
play_on t ws out w (act.Script used) = played (step.Next used) (empty_of (emptying t.nodes t.links t.values t.cells) t.log) ws out
play_on t ws out w (act.Within used) = played (step.Within used) t ws out
play_on t ws out w (act.Past used) = played (step.Past used) t ws out
play_on t ws out w act.Stop = played step.Stop t ws out

unfoldable pub play_in : Tables → List ℤ → List ℕ → List ℕ → Bool → Place → Played
play_in t ws out w over place = play_on t ws out w (decided w over place)
