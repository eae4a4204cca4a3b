-- The steps that evaluate nothing: each way through the refresh of a signal. Assumes nothing.
use mathlib.Core.Path.{◌≡◌, sym, ◌∙◌}
use mathlib.Core.Bool.{Bool, true, false}
use mathlib.Core.List.{List}
use Prim.Native.Nat.{ℕ}
use Rattle.marking.specs.Fields.{flags_of, dirty, has}
use Rattle.reading.specs.Tables.{State, state, Told}
use Rattle.reading.specs.Steps.{woken, updated_signal, waken_if, refreshed_signal}

module _ (s : State) (n : ℕ) {f : ℕ} (e : f ≡ flags_of s.nodes n) {y : Bool} (a : y ≡ has f dirty) where
  module _ (p : y ≡ true) (u : Told) (g : u ≡ updated_signal s n) where
    pub signal_changed : {N : List ℕ} → u.changed ≡ true → N ≡ woken u.after.links u.after.nodes n → state N u.after.links u.after.values ≡ refreshed_signal s n
    unfolding refreshed_signal waken_if
    signal_changed q w =
        let z : has (flags_of s.nodes n) dirty ≡ true = rw (← e) (sym a ∙ p) in
        rw (z, refreshed_signal, ← g, q, waken_if, ← g, w)

    pub signal_same : u.changed ≡ false → u.after ≡ refreshed_signal s n
    unfolding refreshed_signal waken_if
    signal_same q =
        let z : has (flags_of s.nodes n) dirty ≡ true = rw (← e) (sym a ∙ p) in
        rw (z, refreshed_signal, ← g, q, waken_if, ← g)

  pub signal_clean : y ≡ false → s ≡ refreshed_signal s n
  unfolding refreshed_signal
  signal_clean p =
      let z : has (flags_of s.nodes n) dirty ≡ false = rw (← e) (sym a ∙ p) in
      rw (z, refreshed_signal)
