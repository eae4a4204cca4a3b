-- The promise of each public function of `links` has one answer. Assumes nothing.
use mathlib.Core.Path.{refl, sym, ◌∙◌}
use Rattle.tight.specs.OneAnswer.{OneAnswer}
use Rattle.links.proofs.free.is_live.Kinds as free-is-live-kinds
use Rattle.links.proofs.free.is_live.Reads as free-is-live
use Rattle.links.proofs.free.live.Kinds as free-live-kinds
use Rattle.links.proofs.free.live.Reads as free-live
use Rattle.links.proofs.free.take.Kinds as free-take-kinds
use Rattle.links.proofs.free.take.Reads as free-take
use Rattle.links.proofs.free.release.Kinds as free-release-kinds
use Rattle.links.proofs.free.release.Reads as free-release
use Rattle.links.proofs.link.link.Kinds as link-link-kinds
use Rattle.links.proofs.link.link.Reads as link-link
use Rattle.links.proofs.unlink.unlink.Kinds as unlink-unlink-kinds
use Rattle.links.proofs.unlink.unlink.Reads as unlink-unlink
use Rattle.links.proofs.unlink.unwatched.Kinds as unlink-unwatched-kinds
use Rattle.links.proofs.unlink.unwatched.Reads as unlink-unwatched
use Rattle.links.proofs.unlink.dispose.Kinds as unlink-dispose-kinds
use Rattle.links.proofs.unlink.dispose.Reads as unlink-dispose
use Rattle.links.proofs.unlink.purge_deps.Kinds as unlink-purge-deps-kinds
use Rattle.links.proofs.unlink.purge_deps.Reads as unlink-purge-deps

pub one_free_is_live : OneAnswer free-is-live-kinds.ps free-is-live-kinds.r free-is-live.Learnt
one_free_is_live κs a x y v w p q = (p ∙ sym q, refl)

pub one_free_live : OneAnswer free-live-kinds.ps free-live-kinds.r free-live.Learnt
one_free_live κs a x y v w p q = (p ∙ sym q, refl)

pub one_free_take : OneAnswer free-take-kinds.ps free-take-kinds.r free-take.Learnt
one_free_take κs a x y v w p q =
    let e = p ∙ sym q in
    (λ i. (e i).word, λ i. ((e i).links, tt))

pub one_free_release : OneAnswer free-release-kinds.ps free-release-kinds.r free-release.Learnt
one_free_release κs a x y v w p q = (refl, λ i. ((p ∙ sym q) i, (tt, tt)))

pub one_link_link : OneAnswer link-link-kinds.ps link-link-kinds.r link-link.Learnt
one_link_link κs a x y v w p q =
    let e = p ∙ sym q in
    (refl, λ i. ((e i).nodes, ((e i).links, (tt, (tt, (tt, tt))))))

pub one_unlink_unlink : OneAnswer unlink-unlink-kinds.ps unlink-unlink-kinds.r unlink-unlink.Learnt
one_unlink_unlink κs a x y v w p q =
    let e = p ∙ sym q in
    (λ i. (e i).next, λ i. ((e i).tabs.nodes, ((e i).tabs.links, (tt, (tt, tt)))))

pub one_unlink_unwatched : OneAnswer unlink-unwatched-kinds.ps unlink-unwatched-kinds.r unlink-unwatched.Learnt
one_unlink_unwatched κs a x y v w p q =
    let e = p ∙ sym q in
    (refl, λ i. ((e i).nodes, ((e i).links, (tt, tt))))

pub one_unlink_dispose : OneAnswer unlink-dispose-kinds.ps unlink-dispose-kinds.r unlink-dispose.Learnt
one_unlink_dispose κs a x y v w p q =
    let e = p ∙ sym q in
    (refl, λ i. ((e i).nodes, ((e i).links, (tt, tt))))

pub one_unlink_purge_deps : OneAnswer unlink-purge-deps-kinds.ps unlink-purge-deps-kinds.r unlink-purge-deps.Learnt
one_unlink_purge_deps κs a x y v w p q =
    let e = p ∙ sym q in
    (refl, λ i. ((e i).nodes, ((e i).links, (tt, tt))))
