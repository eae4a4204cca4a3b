-- `links::link::link` meets its contract. Assumes nothing.
use Rattle.linking.proofs.LinkLaws.{link_kept, link_again, link_newest, link_made}
use Rattle.links.proofs.link.link.Goals as goal

pub returns-then-names : goal.returns-then-names
returns-then-names c =
    link_kept _ _ _ _ c.get-prev_dep.ensures c.names.ensures c.if-names.true

pub returns-then-names-2 : goal.returns-then-names-2
returns-then-names-2 c =
    link_again _ _ _ _ c.get-prev_dep.ensures c.names.ensures c.if-names.false c.next_dep-next_dep.ensures c.names-2.ensures c.if-names-2.true c.reuse.ensures

pub returns-then-is_newest : goal.returns-then-is_newest
returns-then-is_newest c =
    link_newest _ _ _ _ c.get-prev_dep.ensures c.names.ensures c.if-names.false c.next_dep-next_dep.ensures c.names-2.ensures c.if-names-2.false c.is_newest.ensures c.if-is_newest.true

pub returns : goal.returns
returns c =
    link_made _ _ _ _ c.get-prev_dep.ensures c.names.ensures c.if-names.false c.next_dep-next_dep.ensures c.names-2.ensures c.if-names-2.false c.is_newest.ensures c.if-is_newest.false c.get.ensures c.insert.ensures
