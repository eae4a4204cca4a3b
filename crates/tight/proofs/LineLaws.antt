-- A law by which reading a line was proved in an earlier form, and which a page names. No proof needs it today. Assumes nothing.
use Rattle.std.specs.Prelude.{None}
use mathlib.Core.Path.{◌≡◌}
use mathlib.Core.List.{List}
use Prim.Native.Nat.{ℕ, ◌≤◌}
use lib.ListN.{length, drop, drop_of_length-le}
use Rattle.spelling.specs.Numbers.{spelled}
use Rattle.spelling.specs.Lines.{pieces, ahead, each_spelled}
use Rattle.spelling.specs.Pairs.{count_from}

pub count_end_lem : (s : List ℕ) (at n : ℕ) → length s ≤ at → None ≡ count_from n (each_spelled (pieces 32 (drop at s)))
unfolding pieces each_spelled spelled ahead count_from
count_end_lem s at n h = rw (drop_of_length-le s h)
