-- A stack with room: a pop gives back what was pushed, and what lies below stays. Assumes nothing.
use Rattle.std.specs.Prelude.{Some, option_map}
use mathlib.Core.Path.{◌≡◌, refl}
use mathlib.Core.List.{List}
use Prim.Native.Nat.{ℕ, zero, suc, ◌-◌, ◌<◌, ◌≤◌}
use native.Mathlib.Omega.{arith}
use lib.ListN.{length, get_or}
use lib.Seq.{get_or-set_same, get_or-set_other}
use borrow.Author.Tests.{lt-ltb, le-ltb}
use Rattle.stack.specs.Stack.{pushed, pushed_len, popped, top}

pub len_room : (s : List ℕ) (len : ℕ) → len < length s → pushed_len s len ≡ suc len
unfolding pushed_len
len_room s len h = rw (lt-ltb len (length s) h, pushed_len)

pub len_full : (s : List ℕ) (len : ℕ) → length s ≤ len → pushed_len s len ≡ len
unfolding pushed_len
len_full s len h = rw (le-ltb len (length s) h, pushed_len)

pub pop_pushed : (s : List ℕ) (len w : ℕ) → len < length s → popped (pushed s len w) (pushed_len s len) ≡ Some (w, len)
unfolding popped
pop_pushed s len w h = rw (len_room s len h, get_or-set_same s len w 0 h)

pub below_kept : (s : List ℕ) (len w i : ℕ) → i < len → get_or (pushed s len w) i 0 ≡ get_or s i 0
below_kept s len w i h = get_or-set_other s len i w 0 (λ e. omega arith)

-- the word on top is what is popped, and one less is in use
pub popped_top : (s : List ℕ) (len : ℕ) → popped s len ≡ option_map (λ w. (w, len - 1)) (top s len)
unfolding popped
popped_top s zero = refl
popped_top s (suc n) =
    let m : suc n - 1 ≡ n = omega arith in
    rw m
