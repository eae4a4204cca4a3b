-- The climb of notify, turn by turn, as the code takes it. Assumes nothing.
use mathlib.Core.Path.{◌≡◌, ◌∙◌}
use mathlib.Core.Bool.{true, false}
use mathlib.Core.List.{List}
use Prim.Native.Nat.{ℕ, suc}
use Rattle.primitive.specs.Slots.{slot_of}
use Rattle.primitive.specs.declared.slots.Slot.{Slot}
use Rattle.primitive.specs.declared.slots.Slot.TheVariants.{At, Nothing}
use Rattle.marking.specs.Fields.{flags_of, subs, sub, watching, lacks}
use Rattle.marking.specs.Notify.{queued, owner_of, climbed}

pub climb_end : (L N : List ℕ) (e k : ℕ) → k ≡ 0 → climbed L k N e ≡ N
unfolding climbed
climb_end L N e k h = rw h

-- a turn queues e, which leaves M, and opens the word w of M's first subscriber link
module _ (L N : List ℕ) (e : ℕ) {k j : ℕ} (h : k ≡ suc j) {M : List ℕ} {w : ℕ} {o : Slot} (q : M ≡ queued N e) (p : w ≡ subs M e) (u : o ≡ slot_of w) where
  turned : climbed L k N e ≡ owner_of (climbed L j) L M o
  unfolding climbed
  turned = rw (h, u, p, q)

  pub climb_none : o ≡ Nothing → climbed L k N e ≡ M
  unfolding owner_of
  climb_none d = turned ∙ rw d

  module _ {s n f : ℕ} (d : o ≡ At s) (i : n ≡ sub L s) (g : f ≡ flags_of M n) where
    pub climb_stop : lacks f watching ≡ true → climbed L k N e ≡ M
    unfolding owner_of
    climb_stop t = turned ∙ rw (d, ← i, ← g, t, owner_of)

    pub climb_more : lacks f watching ≡ false → climbed L k N e ≡ climbed L j M n
    unfolding owner_of
    climb_more t = turned ∙ rw (d, ← i, ← g, t, owner_of, ← i)
