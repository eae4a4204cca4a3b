-- The promise of each public function of `stack` has one answer, whatever the room. Assumes nothing.
use mathlib.Core.Path.{refl, sym, ◌∙◌}
use Prim.Native.Nat.{ℕ}
use mir.Syntax.{w64}
use mir.Val.{Fits}
use Rattle.tight.specs.OneAnswer.{OneAnswer}
use Rattle.stack.proofs.push.Kinds as slice_push_kinds
use Rattle.stack.proofs.push.Reads as slice_push
use Rattle.stack.proofs.pop.Kinds as slice_pop_kinds
use Rattle.stack.proofs.pop.Reads as slice_pop
use Rattle.stack.proofs.Stack.blank.Kinds as blank_kinds
use Rattle.stack.proofs.Stack.blank.Reads as blank
use Rattle.stack.proofs.Stack.push.Kinds as push_kinds
use Rattle.stack.proofs.Stack.push.Reads as push
use Rattle.stack.proofs.Stack.pop.Kinds as pop_kinds
use Rattle.stack.proofs.Stack.pop.Reads as pop

pub one_push : OneAnswer slice_push_kinds.ps slice_push_kinds.r slice_push.Learnt
one_push κs a x y v w p q =
    let e1 = p.0 ∙ sym q.0 in
    let e2 = p.1 ∙ sym q.1 in
    (λ i. e1 i, λ i. (e2 i, (tt, (tt, tt))))

pub one_pop : OneAnswer slice_pop_kinds.ps slice_pop_kinds.r slice_pop.Learnt
one_pop κs a x y v w p q = (p ∙ sym q, refl)

pub one_blank : (N : ℕ) (fits : Fits w64 N) → OneAnswer (blank_kinds.ps N fits) (blank_kinds.r N fits) (blank.Learnt N fits)
one_blank N fits κs a x y v w p q = (p ∙ sym q, refl)

pub one_stack_push : (N : ℕ) (fits : Fits w64 N) → OneAnswer (push_kinds.ps N fits) (push_kinds.r N fits) (push.Learnt N fits)
one_stack_push N fits κs a x y v w p q = (refl, λ i. ((p ∙ sym q) i, (tt, tt)))

pub one_stack_pop : (N : ℕ) (fits : Fits w64 N) → OneAnswer (pop_kinds.ps N fits) (pop_kinds.r N fits) (pop.Learnt N fits)
one_stack_pop N fits κs a x y v w p q =
    let e1 = p.0 ∙ sym q.0 in
    let e2 = p.1 ∙ sym q.1 in
    (e1, λ i. (e2 i, tt))
