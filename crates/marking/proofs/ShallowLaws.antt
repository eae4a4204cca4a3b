-- What shallow_propagate does at a subscriber, as the code does it, and its walk. Assumes nothing.
use Rattle.std.proofs.Common.{◌≡◌, ℕ, zero, suc, List, true, false, refl, sym, ◌∙◌}
use Rattle.std.specs.List.{fold}
use lib.Bits.{bit_or}
use Rattle.primitive.specs.Slots.{slot_of}
use Rattle.primitive.specs.declared.slots.Slot.{Slot}
use Rattle.primitive.specs.declared.slots.Slot.TheVariants.{At, Nothing}
use Rattle.primitive.specs.Walk.{along}
use Rattle.primitive.specs.Words.{NEXT-SUB}
use Rattle.marking.specs.Fields.{flags_of, set_flags, sub, next_sub_of, watching, recursed_checking, dirty, pending, changed, has_only}
use Rattle.marking.specs.Notify.{notified}
use Rattle.marking.specs.Shallow.{raised, dirtied, further, shallow_from}

-- f is the flag byte of node n
module _ (L N : List ℕ) (n : ℕ) {f : ℕ} (g : f ≡ flags_of N n) where
  pub dirty_not : has_only f changed pending ≡ false → N ≡ dirtied L N n
  unfolding dirtied
  dirty_not t = rw (← g, t, dirtied)

  module _ (t : has_only f changed pending ≡ true) {j : ℕ} {M : List ℕ} (i : j ≡ bit_or f dirty) (e : M ≡ set_flags N n j) where
    raises : dirtied L N n ≡ raised L N n f
    unfolding dirtied
    raises = rw (← g, t, dirtied, ← g)

    pub dirty_wakes : {K : List ℕ} → has_only f (bit_or watching recursed_checking) watching ≡ true → K ≡ notified L M n → K ≡ dirtied L N n
    unfolding raised
    dirty_wakes v q = q ∙ sym (raises ∙ rw (v, raised, ← i, ← e))

    pub dirty_rests : has_only f (bit_or watching recursed_checking) watching ≡ false → M ≡ dirtied L N n
    unfolding raised
    dirty_rests v = sym (raises ∙ rw (v, raised, ← i, ← e))

-- the walk marks each slot of a walk along NEXT_SUB in turn
pub shallow_walk : (L : List ℕ) (k : ℕ) (N : List ℕ) (s : ℕ) → fold (λ M x. dirtied L M (sub L x)) N (along L NEXT-SUB k (At s)) ≡ shallow_from L k N s
unfolding shallow_from further
shallow_walk L zero N s = refl
shallow_walk L (suc k) N s = go k (slot_of (next_sub_of L s)) (shallow_walk L k (dirtied L N (sub L s)))
  where
    go : (k : ℕ) (o : Slot) → ((x : ℕ) → fold (λ M x. dirtied L M (sub L x)) (dirtied L N (sub L s)) (along L NEXT-SUB k (At x)) ≡ shallow_from L k (dirtied L N (sub L s)) x)
        → fold (λ M x. dirtied L M (sub L x)) (dirtied L N (sub L s)) (along L NEXT-SUB k o) ≡ further (shallow_from L k) (dirtied L N (sub L s)) o
    go zero Nothing h = refl
    go (suc k) Nothing h = refl
    go k (At x) h = h x
