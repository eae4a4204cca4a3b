-- What the members of the two rings promise each other has one answer too: it says what they do at every budget that is enough, so at the least one. Assumes nothing.
use mathlib.Core.Path.{◌≡◌, sym, ◌∙◌}
use mathlib.Core.List.{List}
use Prim.Native.Nat.{ℕ, ◌≤◌}
use native.Mathlib.Omega.{arith}
use lib.IntN.{ℤ}
use Rattle.primitive.specs.declared.slots.Slot.{Slot}
use Rattle.linking.specs.Table.{Tab}
use Rattle.linking.specs.Free.{live}
use Rattle.linking.specs.Ring.{Unlinks, Runs, Unwatches, Disposes, Purges}
use Rattle.reading.specs.Tables.{rank_of}
use Rattle.reading.specs.Ring.{Ring, Enough}

pub unlinks_one : (t : Tab) (s sub : ℕ) (r r' : Slot) (u u' : Tab) → Unlinks t s sub r u → Unlinks t s sub r' u' → (r ≡ r') × (u ≡ u')
unlinks_one t s sub r r' u u' p q =
    let h : live t.links ≤ live t.links = omega arith in
    (p.next ∙ sym q.next, p.same (live t.links) h ∙ sym (q.same (live t.links) h))

runs_one : (t : Tab) (f : ℕ → Tab) (u u' : Tab) → Runs t f u → Runs t f u' → u ≡ u'
runs_one t f u u' p q =
    let h : live t.links ≤ live t.links = omega arith in
    p.same (live t.links) h ∙ sym (q.same (live t.links) h)

pub unwatches_one : (t : Tab) (n : ℕ) (u u' : Tab) → Unwatches t n u → Unwatches t n u' → u ≡ u'
unwatches_one t n u u' p q = runs_one t _ u u' p q

pub disposes_one : (t : Tab) (n : ℕ) (u u' : Tab) → Disposes t n u → Disposes t n u' → u ≡ u'
disposes_one t n u u' p q = runs_one t _ u u' p q

pub purges_one : (t : Tab) (n : ℕ) (u u' : Tab) → Purges t n u → Purges t n u' → u ≡ u'
purges_one t n u u' p q = runs_one t _ u u' p q

pub enough_one : {A : Type 0} (ws : List ℤ) (n : ℕ) (f : Ring → A) (a a' : A) → Enough ws n f a → Enough ws n f a' → a ≡ a'
enough_one ws n f a a' p q =
    let h : rank_of n ≤ rank_of n = omega arith in
    p (rank_of n) h ∙ sym (q (rank_of n) h)
