-- A command is made of steps, from where it begins to its end; and where it begins the live links and the reserve are under its bound. Assumes nothing.
use Rattle.std.specs.Prelude.{Option, None, Some}
use mathlib.Core.Path.{◌≡◌, refl, ◌∙◌}
use mathlib.Core.Bool.{Bool, true, false}
use mathlib.Core.List.{List, []}
use Prim.Native.Nat.{ℕ, zero, suc, ◌+◌, ◌≤◌}
use native.Mathlib.Omega.{arith}
use lib.IntN.{ℤ, pos}
use Rattle.flags.specs.declared.Named.{Named}
use Rattle.values.specs.declared.Value.{Value}
use Rattle.values.specs.Values.{value, same}
use Rattle.trees.specs.Trees.{Tree, constant}
use Rattle.meaning.specs.State.{St, Kind, signal, computed, effect, scope, a_signal, f0, f1, f6, f17, nothing}
use Rattle.meaning.specs.Setters.{with_log, with_depth, set_fl, set_pend}
use Rattle.meaning.specs.Links.{is_nil}
use Rattle.meaning.specs.Marks.{marks_of, turns, propagate}
use Rattle.meaning.specs.Reads.{evaluate}
use Rattle.meaning.specs.Engine.{logged, flush_on, flush_at, store, node, owned, new_signal, new_computed, new_scope, new_effect, end_at}
use Rattle.meaning.specs.Words.{Command, make_signal, make_computed, make_effect, make_scope, set_to, add_to, read_of, dispose_of, batch_start, batch_end, command_of, node_of, owner_of, formula_of}
use Rattle.meaning.specs.Reserve.{reserve_of, reserve}
use Rattle.meaning.specs.Refusals.{sight_of, asks_of, table, refusal}
use Rattle.meaning.specs.WellFormed.{WellFormed}
use Rattle.meaning.specs.Moments.{held, Step, unlinks, links, marks_gone, others, Steps, here, later, begun, reserve_from}
use Rattle.meaning.specs.Commands.{perform, perform_any, answer, command}
use Rattle.meaning.proofs.Laws.{branch, provided_by, or_first}
use Rattle.meaning.proofs.Rings.{Drops, Renews, Runs, dispose_ring, settle_ring, evaluate_ring, flush_ring, logged_ring}
use Rattle.meaning.proofs.Stuck.{prop_sticks}
use Rattle.meaning.proofs.Refused.{NoneHolds}
use Rattle.meaning.proofs.Making.{Fits, new_reserve}
use Rattle.meaning.proofs.Accepted.{logless, signal_fits, computed_fits, effect_fits, scope_fits}
use Rattle.meaning.proofs.Throughout.{Within, rest_within, steps_stick}

-- ---- made of steps
one : {s t : St} → Step s t → Steps s t
one p = later here p

on : {s t x : St} → Steps s t → Steps t x → Steps s x
on p here = p
on p (later q z) = later (on p q) z

-- other columns change, and not `stuck`
plain : (s t : St) → held t ≡ held s → t.stuck ≡ s.stuck → Steps s t
plain s t e k = one (others t e (λ z. k ∙ z))

pub drops : Drops Steps
drops = record {
  same = λ s. here;
  then = λ s t x p q. on p q;
  stops = λ s. one (others _ refl (λ e. refl));
  cuts = λ s l v. one (unlinks l v);
  bares = λ s x. one (marks_gone x);
  stales = λ s d. plain s _ refl refl;
}

renews : Renews Steps
renews = record {
  drops = drops;
  begins = λ s n f. plain s _ refl refl;
  flags = λ s n f. plain s _ refl refl;
  stores = λ s n v f. plain s _ refl refl;
  moves = λ s n. plain s _ refl refl;
  links = λ s n u v. one (links n u v);
  shallows = λ s n. one (others _ refl (or_first s.stuck _));
}

pub runs : Runs Steps
runs = record { renews = renews; logs = λ s l. plain s _ refl refl }

flush_steps : (q : List ℕ) (s : St) → Steps s (flush_on s q)
flush_steps = flush_ring Steps runs (λ s q. plain s _ refl refl)

flush_at-steps : (p : St) (d : ℕ) → Steps p (flush_at p d)
flush_at-steps p zero = flush_steps p.queue p
flush_at-steps p (suc d) = here

store_steps : (s : St) (n : ℕ) (v : Value) → Steps s (store s n v)
unfolding store
store_steps s n v =
    let t = set_fl (set_pend s n v) n f17 in
    let p = propagate t n in
    let written : Steps s t = plain s t refl refl in
    let marked : Steps t p = one (others p refl (prop_sticks t (turns t) (marks_of t) (t.subs n) [])) in
    let w = branch (Steps s) (same (s.pend n) v) (λ a. here)
    (λ a. branch (Steps s) (is_nil (s.subs n)) (λ b. written) (λ b. on written (on marked (flush_at-steps p p.depth)))) in
    provided_by (Steps s) (a_signal (s.kind n)) w (later w (others _ refl (λ e. refl)))

owned_steps : (s : St) (n : ℕ) (o : Option ℕ) → Steps s (owned s n o)
owned_steps s n None = here
owned_steps s n (Some o) = one (links n o 0)

end_steps : (s : St) (d : ℕ) → Steps s (end_at s d)
end_steps s zero = one (others _ refl (λ e. refl))
end_steps s (suc zero) = on (plain s (with_depth s 0) refl refl) (flush_steps s.queue (with_depth s 0))
end_steps s (suc (suc d)) = plain s _ refl refl

pub perform_steps : (s : St) (c : Command) → Steps (begun s c) (perform s c).st
unfolding perform new_signal new_computed new_scope new_effect
perform_steps s (make_signal v) = here
perform_steps s (make_computed cs) = here
perform_steps s (make_effect o cs) =
    let n = s.size in
    let b = owned (begun s (make_effect o cs)) n (owner_of o) in
    let r = evaluate b n in
    on (owned_steps _ n (owner_of o)) (on (evaluate_ring Steps renews b n) (on (logged_ring Steps runs r n) (plain (logged r n) _ refl refl)))
perform_steps s (make_scope o) = owned_steps _ s.size (owner_of o)
perform_steps s (set_to n v) = store_steps s (node_of n) _
perform_steps s (add_to n d) = store_steps s (node_of n) _
perform_steps s (read_of n) = settle_ring Steps renews s (node_of n)
perform_steps s (dispose_of n) = dispose_ring Steps drops s (node_of n)
perform_steps s batch_start = plain s _ refl refl
perform_steps s batch_end = end_steps s s.depth

-- ---- so what is stuck stays so
begun_stuck : (s : St) (c : Command) → (begun s c).stuck ≡ s.stuck
begun_stuck s (make_signal v) = refl
begun_stuck s (make_computed cs) = refl
begun_stuck s (make_effect o cs) = refl
begun_stuck s (make_scope o) = refl
begun_stuck s (set_to n v) = refl
begun_stuck s (add_to n d) = refl
begun_stuck s (read_of n) = refl
begun_stuck s (dispose_of n) = refl
begun_stuck s batch_start = refl
begun_stuck s batch_end = refl

any_sticks : (s : St) (c : Option Command) → s.stuck ≡ true → (perform_any s c).st.stuck ≡ true
unfolding perform_any
any_sticks s None e = refl
any_sticks s (Some c) e = steps_stick (begun s c) (perform s c).st (perform_steps s c) (begun_stuck s c ∙ e)

pub command_sticks : (well : Bool) (s : St) (rows : ℕ) (ws : List ℤ) → s.stuck ≡ true → (command well s rows ws).st.stuck ≡ true
unfolding command answer
command_sticks well s rows ws e = go (refusal well (sight_of s rows) ws)
  where
    go : (r : ℕ) → (answer r s ws).st.stuck ≡ true
    go zero = any_sticks (with_log s []) (command_of ws) e
    go (suc r) = e

-- ---- where a command begins
made_within : (s : St) (w : WellFormed s) (k : Kind) (t : Tree) (o : Option ℕ) (b : Named) (v : Value) → Fits s k t o → Within (reserve s + reserve_of k false t o) (node s k t o b v)
unfolding reserve
made_within s w k t o b v fits =
    let r = rest_within s w in
    let a = r.in_use in
    let e = new_reserve s w k t o b v fits in
    record { reserved = omega arith; in_use = omega arith; apart = r.apart; live_slot = r.live_slot; free_slot = r.free_slot }

abbrev Begins : St → Command → Type 0
Begins s c = Within (reserve_from s c) (begun (with_log s []) c) × (reserve_from s c ≤ s.room.slots)

module _ (s : St) (rows : ℕ) (w : WellFormed s) where
  w' : WellFormed (with_log s [])
  w' = logless s rows w

  -- no node is made
  stays : Within (reserve s + 0) (with_log s []) × (reserve s + 0 ≤ s.room.slots)
  unfolding reserve
  stays =
      let r = rest_within (with_log s []) w' in
      let a = r.in_use in
      let f = w.limits.reserve_fits in
      (record { reserved = omega arith; in_use = omega arith; apart = r.apart; live_slot = r.live_slot; free_slot = r.free_slot }, omega arith)

  makes : (k : Kind) (t : Tree) (o : Option ℕ) (b : Named) (v : Value) → Fits (with_log s []) k t o → Within (reserve s + reserve_of k false t o) (node (with_log s []) k t o b v) × (reserve s + reserve_of k false t o ≤ s.room.slots)
  unfolding reserve
  makes k t o b v fits = (made_within (with_log s []) w' k t o b v fits, fits.slots)

  pub begun_within : (c : Command) → NoneHolds (table true (sight_of s rows) (Some c)) → Begins s c
  unfolding asks_of
  begun_within (make_signal v) h = makes signal (constant (pos 0)) None f1 (value v) (signal_fits s rows w v h)
  begun_within (make_computed cs) h = makes computed (formula_of cs) None f0 nothing (computed_fits s rows w cs h)
  begun_within (make_effect o cs) h = makes effect (formula_of cs) (owner_of o) f6 nothing (effect_fits s rows w o cs h)
  begun_within (make_scope o) h = makes scope (constant (pos 0)) (owner_of o) f0 nothing (scope_fits s rows w o h)
  begun_within (set_to n v) h = stays
  begun_within (add_to n d) h = stays
  begun_within (read_of n) h = stays
  begun_within (dispose_of n) h = stays
  begun_within batch_start h = stays
  begun_within batch_end h = stays
