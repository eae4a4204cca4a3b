-- The promise of each public function of `reads` has one answer. Assumes nothing.
use mathlib.Core.Path.{refl, sym, ◌∙◌}
use Rattle.tight.specs.OneAnswer.{OneAnswer}
use Rattle.reads.proofs.cycle.cycle.Kinds as cycle-cycle-kinds
use Rattle.reads.proofs.cycle.cycle.Reads as cycle-cycle
use Rattle.reads.proofs.cycle.raise_cycle.Kinds as cycle-raise-cycle-kinds
use Rattle.reads.proofs.cycle.raise_cycle.Reads as cycle-raise-cycle
use Rattle.reads.proofs.places.current.Kinds as places-current-kinds
use Rattle.reads.proofs.places.current.Reads as places-current
use Rattle.reads.proofs.places.pending.Kinds as places-pending-kinds
use Rattle.reads.proofs.places.pending.Reads as places-pending
use Rattle.reads.proofs.places.keep_current.Kinds as places-keep-current-kinds
use Rattle.reads.proofs.places.keep_current.Reads as places-keep-current
use Rattle.reads.proofs.places.keep_pending.Kinds as places-keep-pending-kinds
use Rattle.reads.proofs.places.keep_pending.Reads as places-keep-pending
use Rattle.reads.proofs.rank.rank.Kinds as rank-rank-kinds
use Rattle.reads.proofs.rank.rank.Reads as rank-rank
use Rattle.reads.proofs.read.read.Kinds as read-read-kinds
use Rattle.reads.proofs.read.read.Reads as read-read
use Rattle.reads.proofs.read.check_dirty.Kinds as read-check-dirty-kinds
use Rattle.reads.proofs.read.check_dirty.Reads as read-check-dirty
use Rattle.reads.proofs.read.evaluate.Kinds as read-evaluate-kinds
use Rattle.reads.proofs.read.evaluate.Reads as read-evaluate

pub one_cycle_cycle : OneAnswer cycle-cycle-kinds.ps cycle-cycle-kinds.r cycle-cycle.Learnt
one_cycle_cycle κs a x y v w p q = (λ i. record { cycle = (p ∙ sym q) i }, refl)

pub one_cycle_raise_cycle : OneAnswer cycle-raise-cycle-kinds.ps cycle-raise-cycle-kinds.r cycle-raise-cycle.Learnt
one_cycle_raise_cycle κs a x y v w p q = (refl, λ i. ((p ∙ sym q) i, tt))

pub one_places_current : OneAnswer places-current-kinds.ps places-current-kinds.r places-current.Learnt
one_places_current κs a x y v w p q = (p ∙ sym q, refl)

pub one_places_pending : OneAnswer places-pending-kinds.ps places-pending-kinds.r places-pending.Learnt
one_places_pending κs a x y v w p q = (p ∙ sym q, refl)

pub one_places_keep_current : OneAnswer places-keep-current-kinds.ps places-keep-current-kinds.r places-keep-current.Learnt
one_places_keep_current κs a x y v w p q = (refl, λ i. ((p ∙ sym q) i, (tt, (tt, tt))))

pub one_places_keep_pending : OneAnswer places-keep-pending-kinds.ps places-keep-pending-kinds.r places-keep-pending.Learnt
one_places_keep_pending κs a x y v w p q = (refl, λ i. ((p ∙ sym q) i, (tt, (tt, tt))))

pub one_rank_rank : OneAnswer rank-rank-kinds.ps rank-rank-kinds.r rank-rank.Learnt
one_rank_rank κs a x y v w p q = (p ∙ sym q, refl)

pub one_read_read : OneAnswer read-read-kinds.ps read-read-kinds.r read-read.Learnt
one_read_read κs a x y v w p q =
    let e = p ∙ sym q in
    (λ i. (e i).value, λ i. ((e i).after.nodes, ((e i).after.links, ((e i).after.values, (tt, (tt, tt))))))

pub one_read_check_dirty : OneAnswer read-check-dirty-kinds.ps read-check-dirty-kinds.r read-check-dirty.Learnt
one_read_check_dirty κs a x y v w p q =
    let e = p ∙ sym q in
    (λ i. (e i).changed, λ i. ((e i).after.nodes, ((e i).after.links, ((e i).after.values, (tt, (tt, tt))))))

pub one_read_evaluate : OneAnswer read-evaluate-kinds.ps read-evaluate-kinds.r read-evaluate.Learnt
one_read_evaluate κs a x y v w p q =
    let e = p ∙ sym q in
    (λ i. (e i).value, λ i. ((e i).after.nodes, ((e i).after.links, ((e i).after.values, (tt, (tt, tt))))))
