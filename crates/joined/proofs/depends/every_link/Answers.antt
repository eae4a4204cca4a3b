-- `joined::depends::every_link` meets its contract. Assumes nothing.
use Rattle.joined.proofs.WalkTurns.{deps_end, deps_bad, deps_more}
use Rattle.lists.proofs.EachLaws.{along_out}
use mathlib.Core.Path.{sym, ◌∙◌}
use Prim.Native.Nat.{◌+◌, ◌-◌}
use native.Mathlib.Omega.{arith}
use Rattle.joined.proofs.depends.every_link.Goals as goal

pub returns-in_default : goal.returns-in_default
returns-in_default g c = λ p h. rw (← c.slot_room-slots.ensures) (sym (c.loop-link.invariant p h ∙ deps_end _ p _ _ c.open.ensures c.in_default.is))

pub returns-then-not-test : goal.returns-then-not-test
returns-then-not-test g c = λ p h.
    rw (← c.slot_room-slots.ensures) (sym (c.loop-link.invariant p h ∙ deps_bad _ p (c.slot_room-slots.result - c.loop-link._link) _ _ _ (omega arith) c.open.ensures c.in-At.is c.get.ensures (sym (h _ _ c.test.ensures) ∙ c.if-not-test.true)))

pub loop-link-preserved : goal.loop-link-preserved
loop-link-preserved g c = λ p h.
    c.loop-link.invariant p h ∙ deps_more _ p (c.slot_room-slots.result - c.loop-link._link) (c.slot_room-slots.result - (c.loop-link._link + 1)) _ _ _ _ (omega arith) c.open.ensures c.in-At.is c.get.ensures (sym (h _ _ c.test.ensures) ∙ c.if-not-test.false) c.get-at.ensures

pub returns : goal.returns
returns g c = λ p h. rw (← c.slot_room-slots.ensures) (sym (c.loop-link.invariant p h ∙ along_out _ _ (c.slot_room-slots.result - c.loop-link._link) _ (omega arith)))
