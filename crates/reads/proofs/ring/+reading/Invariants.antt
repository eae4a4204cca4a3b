-- The cycle of calls `reads::ring::check_dependency`, `reads::ring::check_dirty`, `reads::ring::check_pending`, `reads::ring::dirty_by`, `reads::ring::evaluate`, `reads::ring::evaluate_choose`, `reads::ring::evaluate_first`, `reads::ring::evaluate_two`, `reads::ring::read_for`, `reads::ring::refresh`, `reads::ring::refresh_computed`, `reads::ring::refresh_pending`, `reads::ring::renew`, `reads::ring::settle`, `reads::ring::update`, `reads::ring::update_computed` meets its contracts. Assumes nothing.
use mathlib.Core.Path.{◌≡◌}
use lib.ListN.{length}
use Rattle.reading.specs.Tables.{state, rank_of}
use Rattle.reading.specs.Ring.{deps_by, ring_n}
use Prim.Native.Nat.{ℕ, ◌+◌, ◌-◌, ◌*◌, ◌≤◌}
use Rattle.reads.proofs.ring.+reading.Given as goal

abbrev pub decreases-check_dependency : goal.decreases-check_dependency
decreases-check_dependency l = rank_of l.m * 64 + 43

abbrev pub decreases-check_dirty : goal.decreases-check_dirty
decreases-check_dirty l = rank_of l.n * 64 + 41

abbrev pub decreases-check_pending : goal.decreases-check_pending
decreases-check_pending l = rank_of l.m * 64 + 42

abbrev pub decreases-dirty_by : goal.decreases-dirty_by
decreases-dirty_by l = rank_of l.n * 64 + 40

abbrev pub decreases-evaluate : goal.decreases-evaluate
decreases-evaluate l = rank_of l.n * 64 + l.depth * 2

abbrev pub decreases-evaluate_choose : goal.decreases-evaluate_choose
decreases-evaluate_choose l = rank_of l.n * 64 + (l.depth * 2 + 1)

abbrev pub decreases-evaluate_first : goal.decreases-evaluate_first
decreases-evaluate_first l = rank_of l.n * 64 + 33

abbrev pub decreases-evaluate_two : goal.decreases-evaluate_two
decreases-evaluate_two l = rank_of l.n * 64 + (l.depth * 2 + 1)

abbrev pub decreases-read_for : goal.decreases-read_for
decreases-read_for l = rank_of l.n * 64 + 1

abbrev pub decreases-refresh : goal.decreases-refresh
decreases-refresh l = rank_of l.n * 64 + 46

abbrev pub decreases-refresh_computed : goal.decreases-refresh_computed
decreases-refresh_computed l = rank_of l.n * 64 + 45

abbrev pub decreases-refresh_pending : goal.decreases-refresh_pending
decreases-refresh_pending l = rank_of l.n * 64 + 44

abbrev pub decreases-renew : goal.decreases-renew
decreases-renew l = rank_of l.n * 64 + 35

abbrev pub decreases-settle : goal.decreases-settle
decreases-settle l = rank_of l.m * 64 + 35

abbrev pub decreases-update : goal.decreases-update
decreases-update l = rank_of l.n * 64 + 34

abbrev pub decreases-update_computed : goal.decreases-update_computed
decreases-update_computed l = rank_of l.n * 64 + 33

abbrev pub invariant-check_dirty-loop : goal.invariant-check_dirty-loop
invariant-check_dirty-loop l =
    record {
      lens : (length l.nodes ≡ length l.initial.nodes) × (length l.links ≡ length l.initial.links) × (length l.values ≡ length l.initial.values);
      same : (k : ℕ) → rank_of l.n ≤ k
          → deps_by l.cells (ring_n l.cells k) l.n (l.end - l.counter) (state l.nodes l.links l.values) l.link ≡ deps_by l.cells (ring_n l.cells k) l.n l.end (state l.initial.nodes l.initial.links l.initial.values) l.initial.link;
    }
