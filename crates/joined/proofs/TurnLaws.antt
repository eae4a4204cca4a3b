-- A word that was opened, by what the code finds. Assumes nothing.
use mathlib.Core.Path.{◌≡◌, sym, ap, ◌∙◌}
use Prim.Native.Nat.{ℕ, suc}
use Rattle.primitive.specs.Slots.{slot_of, word_of}
use Rattle.primitive.specs.declared.slots.Slot.{Slot}
use Rattle.primitive.specs.declared.slots.Slot.TheVariants.{At, Nothing}
use Rattle.primitive.proofs.SlotLaws.{word_slot}

pub at_slot : (w x : ℕ) {r : Slot} → r ≡ slot_of w → r ≡ At x → w ≡ suc x
at_slot w x e f = sym (word_slot w) ∙ ap word_of (sym e ∙ f)

pub at_nothing : (w : ℕ) {r : Slot} → r ≡ slot_of w → r ≡ Nothing → w ≡ 0
at_nothing w e f = sym (word_slot w) ∙ ap word_of (sym e ∙ f)
