-- Batches keep tables well formed: a start below depth 64, and an end that does not flush. Assumes nothing.
use mathlib.Core.Path.{◌≡◌, sym, subst}
use Prim.Native.Nat.{ℕ, suc, ◌≤◌, ◌<◌}
use native.Mathlib.Omega.{arith}
use Rattle.meaning.specs.State.{St}
use Rattle.meaning.specs.Setters.{with_depth}
use Rattle.meaning.specs.Engine.{start, end_at}
use Rattle.meaning.specs.Reserve.{reserve}
use Rattle.meaning.specs.Refusals.{most_depth}
use Rattle.meaning.specs.WellFormed.{WellFormed}

-- another depth inside a batch
deeper : (s : St) (d : ℕ) → suc d ≤ most_depth → WellFormed s → WellFormed (with_depth s (suc d))
unfolding reserve
deeper s d h w = record {
  lists = w.lists;
  depends = w.depends;
  limits = w.limits;
  by_kind = w.by_kind;
  queued = record {
    queue_once = w.queued.queue_once;
    queue_effects = w.queued.queue_effects;
    queue_gone = w.queued.queue_gone;
    at_depth_0 = λ e. absurd (omega arith);
    depth_low = h;
  };
}

pub start_well_formed : (s : St) → s.depth < most_depth → WellFormed s → WellFormed (start s)
start_well_formed s h w = deeper s s.depth (omega arith) w

pub inner_end_well_formed : (s : St) (d : ℕ) → s.depth ≡ suc (suc d) → WellFormed s → WellFormed (end_at s s.depth)
inner_end_well_formed s d e w =
    let l = w.queued.depth_low in
    subst (λ (x : ℕ). WellFormed (end_at s x)) (sym e) (deeper s d (omega arith) w)
