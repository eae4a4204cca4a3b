-- The cycle: raised once for each evaluation that is not a first one, whatever the formulas. Assumes nothing.
use Rattle.std.specs.Prelude.{Option, None, Some}
use mathlib.Core.Path.{◌≡◌, refl, ap, ◌∙◌}
use mathlib.Core.Bool.{false}
use mathlib.Core.List.{List, [], ◌∷◌}
use Prim.Native.Nat.{ℕ, zero, suc, ◌+◌, ◌<◌, ◌%◌, ◌^◌}
use native.Mathlib.Omega.{arith}
use Rattle.values.specs.declared.Value.{Value}
use Rattle.values.specs.Values.{same}
use Rattle.trees.specs.Trees.{Tree}
use Rattle.meaning.specs.State.{St, Row, computed, effect, a_signal, f6, f17, nothing, raised}
use Rattle.meaning.specs.Setters.{with_log, with_depth, set_fl, set_pend}
use Rattle.meaning.specs.Links.{is_nil, renew, insert, link, cut}
use Rattle.meaning.specs.Marks.{propagate}
use Rattle.meaning.specs.Reads.{first_w, upd_computed, fresh}
use Rattle.meaning.specs.Engine.{logged, rerun, flush_on, flush_at, store, node, owned, new_signal, new_computed, new_scope, new_effect, end_at}
use Rattle.meaning.specs.Words.{Command, make_signal, make_computed, make_effect, make_scope, set_to, add_to, read_of, dispose_of, batch_start, batch_end, node_of, owner_of, formula_of}
use Rattle.meaning.specs.Evaluations.{in_update, count_first, count_fresh, count_evaluation, count_rerun, count_flush_on, count_flush_at, count_store, count_new_effect, count_end, count_perform, reevaluations}
use Rattle.meaning.specs.Commands.{perform}
use Rattle.meaning.proofs.Laws.{branches, provided_by}
use Rattle.meaning.proofs.Rings.{link_ways, Drops, Counts, dispose_ring, first_count, computed_count, fresh_count, settle_count, evaluate_count, rerun_count, flush_count}

-- raised so many times
unfoldable pub raised_by : ℕ → ℕ → ℕ
raised_by zero c = c
raised_by (suc m) c = raised (raised_by m c)

raised_then : (a b c : ℕ) → raised_by b (raised_by a c) ≡ raised_by (a + b) c
unfolding raised_by
raised_then a zero c = let e : a ≡ a + 0 = omega arith in ap (λ (m : ℕ). raised_by m c) e
raised_then a (suc b) c = let e : suc (a + b) ≡ a + suc b = omega arith in ap raised (raised_then a b c) ∙ ap (λ (m : ℕ). raised_by m c) e

-- a sum that wraps
raised_wraps : (m c : ℕ) → c < 2 ^ 64 → raised_by m c ≡ (c + m) % 2 ^ 64
unfolding raised_by
raised_wraps zero c h = omega arith
raised_wraps (suc m) c h = let e = raised_wraps m c h in omega arith

-- ---- each step
abbrev Raised : ℕ → St → St → Type 0
Raised m s t = t.cycle ≡ raised_by m s.cycle

renew_cycle : (s : St) (u v : ℕ) (ls : List ℕ) → (renew s u v ls).cycle ≡ s.cycle
unfolding renew
renew_cycle s u v [] = refl
renew_cycle s u v (l ∷ ls) = refl

insert_cycle : (s : St) (d u v : ℕ) (ls : List ℕ) → (insert s d u v ls).cycle ≡ s.cycle
unfolding insert
insert_cycle s d u v [] = refl
insert_cycle s d u v (l ∷ ls) = refl

link_cycle : (s : St) (d u v : ℕ) → (link s d u v).cycle ≡ s.cycle
link_cycle s d u v = link_ways (λ t. t.cycle ≡ s.cycle) s d u v (λ a. refl) (λ b. renew_cycle s u v (s.rest u)) (λ c. refl) (insert_cycle s d u v s.free)

drops : Drops (Raised 0)
unfolding raised_by cut
drops = record { same = λ s. refl; then = λ s t x p q. q ∙ p; stops = λ s. refl; cuts = λ s l v. refl; bares = λ s x. refl; stales = λ s d. refl }

counts : Counts false Raised
unfolding raised_by
counts = record {
  drops = drops;
  then = λ a b s t x p q. q ∙ ap (raised_by b) p ∙ raised_then a b s.cycle;
  firsts = λ s n. refl;
  begins = λ s n f. refl;
  flags = λ s n f. refl;
  stores = λ s n v f. refl;
  moves = λ s n. refl;
  links = link_cycle;
  shallows = λ s n. refl;
}

logs : (s : St) (l : List Row) → Raised 0 s (with_log s l)
unfolding raised_by
logs s l = refl

-- ---- one evaluation: the cycle is raised before it, and then only by what its reads evaluate again
pub cycle_raised : (k : ℕ) (s : St) (n : ℕ) → (upd_computed (fresh k) s n).st.cycle ≡ raised_by (in_update (fresh k) (count_fresh false k) computed s n) s.cycle
cycle_raised k = computed_count false Raised counts (fresh k) (count_fresh false k) (fresh_count false Raised counts k)

pub cycle_raised_by_run : (s : St) (e : ℕ) → (rerun s e).cycle ≡ raised_by (count_rerun false s e) s.cycle
cycle_raised_by_run = rerun_count false Raised counts logs

-- and not before a first one
pub cycle_kept_at_first : (k : ℕ) (s : St) (n : ℕ) → (first_w (fresh k) s n).cycle ≡ raised_by (count_first false (fresh k) (count_fresh false k) s n) s.cycle
cycle_kept_at_first k = first_count false Raised counts (fresh k) (count_fresh false k) (fresh_count false Raised counts k)

-- ---- a command
flush_cycle : (q : List ℕ) (s : St) → Raised (count_flush_on false s q) s (flush_on s q)
unfolding raised_by
flush_cycle = flush_count false Raised counts logs (λ s q. refl)

flush_at-cycle : (p : St) (d : ℕ) → Raised (count_flush_at false p d) p (flush_at p d)
unfolding raised_by
flush_at-cycle p zero = flush_cycle p.queue p
flush_at-cycle p (suc d) = refl

store_cycle : (s : St) (n : ℕ) (v : Value) → Raised (count_store false s n v) s (store s n v)
unfolding store count_store raised_by
store_cycle s n v =
    let p = propagate (set_fl (set_pend s n v) n f17) n in
    let r = branches (λ (t : St) (m : ℕ). Raised m s t) (same (s.pend n) v) (λ a. refl)
    (λ a. branches (λ (t : St) (m : ℕ). Raised m s t) (is_nil (s.subs n)) (λ b. refl) (λ b. flush_at-cycle p p.depth)) in
    provided_by (Raised (count_store false s n v) s) (a_signal (s.kind n)) r r

end_cycle : (s : St) (d : ℕ) → Raised (count_end false s d) s (end_at s d)
unfolding raised_by
end_cycle s zero = refl
end_cycle s (suc zero) = flush_cycle s.queue (with_depth s 0)
end_cycle s (suc (suc d)) = refl

owned_cycle : (s : St) (n : ℕ) (o : Option ℕ) → (owned s n o).cycle ≡ s.cycle
owned_cycle s n None = refl
owned_cycle s n (Some o) = link_cycle s n o 0

effect_cycle : (s : St) (o : Option ℕ) (t : Tree) → Raised (count_new_effect false s o t) s (new_effect s o t)
unfolding new_effect count_new_effect logged
effect_cycle s o t =
    let a = node s effect t o f6 nothing in
    let b = owned a s.size o in
    evaluate_count false Raised counts b s.size ∙ ap (raised_by (count_evaluation false b s.size)) (owned_cycle a s.size o)

perform_cycle : (s : St) (c : Command) → Raised (reevaluations s c) s (perform s c).st
unfolding perform count_perform raised_by new_signal new_computed new_scope
perform_cycle s (make_signal v) = refl
perform_cycle s (make_computed cs) = refl
perform_cycle s (make_effect o cs) = effect_cycle s (owner_of o) (formula_of cs)
perform_cycle s (make_scope o) = owned_cycle _ s.size (owner_of o)
perform_cycle s (set_to n v) = store_cycle s (node_of n) _
perform_cycle s (add_to n d) = store_cycle s (node_of n) _
perform_cycle s (read_of n) = settle_count false Raised counts s (node_of n)
perform_cycle s (dispose_of n) = dispose_ring (Raised 0) drops s (node_of n)
perform_cycle s batch_start = refl
perform_cycle s batch_end = end_cycle s s.depth

-- the cycle is a u64 that wraps
pub perform_counts : (s : St) (c : Command) → s.cycle < 2 ^ 64 → (perform s c).st.cycle ≡ (s.cycle + reevaluations s c) % 2 ^ 64
perform_counts s c h = perform_cycle s c ∙ raised_wraps (reevaluations s c) s.cycle h
