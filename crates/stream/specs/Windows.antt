-- A window on the input: a buffer, of which the bytes from `at` up to `end` are read and not yet used. Assumes nothing.
use Rattle.std.specs.Prelude.{ℕ, ◌+◌, ◌-◌, ◌≤◌, ◌<◌, ◌≡◌, ◌++◌, Bool, true, List, Option, Some, length, get_or, take}
use Rattle.std.proofs.Math.Seq.{slice}

-- What is unread, as far as the buffer goes.
abbrev pub unread : List ℕ → ℕ → ℕ → List ℕ
unread buf at end = slice at end buf

-- What was unread stands at the front, and is n bytes.
pub record Front (before : List ℕ) (at end n : ℕ) (after : List ℕ) : Type 0 where
  pub long : n ≡ length (unread before at end)
  pub same : take n after ≡ unread before at end
  pub upto : n ≤ length after

-- No unread byte is lost: what was unread stands at the front, and what came stands behind it. Where the input is over, nothing came.
pub record Filled (before : List ℕ) (at end at' end' : ℕ) (over : Bool) (after : List ℕ) : Type 0 where
  pub front : at' ≡ 0
  pub kept : take (length (unread before at end)) after ≡ unread before at end
  pub more : length (unread before at end) ≤ end'
  pub within : end' ≤ length after
  pub last : over ≡ true → end' ≡ length (unread before at end)

-- Where room for 256 bytes was left, nothing was written; else all was sent, and the buffer is empty.
pub record Spilled (long at at' : ℕ) : Type 0 where
  pub kept : at + 256 ≤ long → at' ≡ at
  pub spilled : long < at + 256 → at' ≡ 0

-- Text found no room: what fits of it stands behind what was there, and the buffer is full. A buffer that says to be more than full stays as it is.
pub record Cut (before : List ℕ) (at : ℕ) (text : List ℕ) (at' : ℕ) (after : List ℕ) : Type 0 where
  pub fits : at ≤ length before → take (length before) after ≡ take at before ++ take (length before - at) text
  pub full : at ≤ length before → at' ≡ length before
  pub stays : length before < at → at' ≡ at
  pub same : length before < at → after ≡ before

-- Where a byte is unread it is the next, and nothing else changes.
pub record Taken (before : List ℕ) (at end : ℕ) (byte : Option ℕ) (at' end' : ℕ) (after : List ℕ) : Type 0 where
  pub first : at < end → at < length before → byte ≡ Some (get_or before at 0)
  pub past : at < end → at < length before → at' ≡ at + 1
  pub rest : at < end → at < length before → end' ≡ end
  pub same : at < end → at < length before → after ≡ before
