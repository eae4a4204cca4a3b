-- The ring of unlink, unwatched, dispose and purge_deps meets its contracts. The measure is the number of live links, and then the member's rank: a call falls
-- in rank, or comes after a slot was freed. Assumes nothing.
use Prim.Native.Nat.{ℕ, ◌+◌, ◌*◌, ◌≤◌}
use mathlib.Core.Path.{◌≡◌}
use lib.ListN.{length}
use Rattle.linking.specs.Free.{live}
use Rattle.linking.specs.Table.{tab}
use Rattle.linking.specs.Ring.{more}
use Rattle.linking.proofs.RingLaws.{Walking}
use Rattle.links.proofs.ring.+dispose_purge_deps_unlink_unwatched.Given as goal

abbrev pub decreases-dispose : goal.decreases-dispose
decreases-dispose l = live l.links.now * 4 + 2

abbrev pub decreases-purge_deps : goal.decreases-purge_deps
decreases-purge_deps l = live l.links.now * 4 + 1

abbrev pub decreases-unlink : goal.decreases-unlink
decreases-unlink l = live l.links.now * 4 + 0

abbrev pub decreases-unwatched : goal.decreases-unwatched
decreases-unwatched l = live l.links.now * 4 + 3

abbrev pub invariant-purge_deps-loop-dep : goal.invariant-purge_deps-loop-dep
invariant-purge_deps-loop-dep l =
    record {
      lens : (length l.nodes ≡ length l.initial.nodes) × (length l.links ≡ length l.initial.links);
      fewer : live l.links ≤ live l.initial.links;
      walk : (k : ℕ) → live l.initial.links ≤ k → Walking k (tab l.initial.nodes l.initial.links) l.initial.dep l.sub (tab l.nodes l.links) l.dep;
    }

abbrev pub decreases-purge_deps-loop-dep : goal.decreases-purge_deps-loop-dep
decreases-purge_deps-loop-dep l = live l.links + more l.dep
