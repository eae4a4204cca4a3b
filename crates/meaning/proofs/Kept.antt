-- What a command never changes: node and cell counts do not fall; kinds, formulas, owners, levels and gone marks, once given, stay. Assumes nothing.
use Rattle.std.specs.Prelude.{Option, None, Some}
use mathlib.Core.Path.{◌≡◌, refl, ap, ◌∙◌}
use mathlib.Core.Bool.{Bool, true, false}
use mathlib.Core.List.{List, []}
use Prim.Native.Nat.{ℕ, zero, suc, ◌+◌, ◌≤◌, ◌<◌}
use native.Mathlib.Omega.{arith}
use lib.IntN.{ℤ, pos}
use Rattle.flags.specs.declared.Named.{Named}
use Rattle.values.specs.declared.Value.{Value}
use Rattle.values.specs.Values.{value, sum, same}
use Rattle.trees.specs.Trees.{Tree, constant}
use Rattle.meaning.specs.State.{St, Kind, signal, computed, effect, scope, a_signal, f0, f1, f2, f6, f17, nothing}
use Rattle.meaning.specs.Setters.{with_log, with_depth, set_fl, set_pend}
use Rattle.meaning.specs.Links.{is_nil, link}
use Rattle.meaning.specs.Marks.{propagate}
use Rattle.meaning.specs.Reads.{evaluate}
use Rattle.meaning.specs.Engine.{logged, run, flush_on, flush_at, store, node, owned, new_signal, new_computed, new_scope, new_effect, end_at}
use Rattle.meaning.specs.Words.{Command, make_signal, make_computed, make_effect, make_scope, set_to, add_to, read_of, dispose_of, batch_start, batch_end, command_of, node_of, owner_of, formula_of}
use Rattle.meaning.specs.Refusals.{sight_of, refusal}
use Rattle.meaning.specs.Commands.{perform, perform_any, answer, command}
use Rattle.meaning.specs.Outcome.{made_by}
use Rattle.meaning.proofs.Laws.{branch, provided_by, up_other}
use Rattle.meaning.proofs.Rings.{Drops, Renews, Runs, weaker_drops, weaker_renews, dispose_ring, settle_ring, evaluate_ring, run_ring, flush_ring}
use Rattle.meaning.proofs.Still.{Given, given, Fixed, Still, link_still, drops_still, renews_still}

-- ---- what only the making of a node touches; and gone is for good
pub record Keeps (s t : St) : Type 0 where
  pub still : given t ≡ given s
  pub gone : (n : ℕ) → s.gone n ≡ true → t.gone n ≡ true

abbrev keeps : (s : St) → Keeps s s
keeps s = record { still = refl; gone = λ n e. e }

keeps_then : (s t x : St) → Keeps s t → Keeps t x → Keeps s x
keeps_then s t x p q = record { still = q.still ∙ p.still; gone = λ n e. q.gone n (p.gone n e) }

still_keeps : (s t : St) → Still s t → Keeps s t
still_keeps s t p = record { still = ap (λ (f : Fixed). f.nodes) p.same; gone = p.gone }

link_keeps : (s : St) (d u v : ℕ) → Keeps s (link s d u v)
link_keeps s d u v = still_keeps s _ (link_still s d u v)

drops : Drops Keeps
drops = weaker_drops Still Keeps still_keeps keeps_then drops_still

renews : Renews Keeps
renews = weaker_renews Still Keeps still_keeps keeps_then renews_still

runs : Runs Keeps
runs = record { renews = renews; logs = λ s l. record { still = refl; gone = λ n e. e } }

pub run_keeps : (s : St) (e : ℕ) → Keeps s (run s e)
run_keeps = run_ring Keeps runs

pub flush_on-keeps : (q : List ℕ) (s : St) → Keeps s (flush_on s q)
flush_on-keeps = flush_ring Keeps runs (λ s q. record { still = refl; gone = λ n e. e })

pub store_keeps : (s : St) (n : ℕ) (v : Value) → Keeps s (store s n v)
unfolding store
store_keeps s n v =
    let t = set_fl (set_pend s n v) n f17 in
    let p = propagate t n in
    let a : Keeps s p = record { still = refl; gone = λ n e. e } in
    let k = branch (Keeps s) (same (s.pend n) v) (λ e. keeps s)
    (λ e. branch (Keeps s) (is_nil (s.subs n)) (λ f. record { still = refl; gone = λ n e. e }) (λ f. keeps_then s p _ a (at p p.depth))) in
    provided_by (Keeps s) (a_signal (s.kind n)) k (record { still = k.still; gone = k.gone })
  where
    at : (p : St) (d : ℕ) → Keeps p (flush_at p d)
    at p zero = flush_on-keeps p.queue p
    at p (suc d) = keeps p

end_keeps : (s : St) (d : ℕ) → Keeps s (end_at s d)
end_keeps s zero = record { still = refl; gone = λ n e. e }
end_keeps s (suc zero) = let t = with_depth s 0 in keeps_then s t _ (record { still = refl; gone = λ n e. e }) (flush_on-keeps s.queue t)
end_keeps s (suc (suc d)) = record { still = refl; gone = λ n e. e }

sized : (s t : St) → Keeps s t → t.size ≡ s.size
sized s t k = ap (λ (g : Given). g.size) k.still

-- ---- what stays, node by node
pub record Stays (s t : St) : Type 0 where
  pub room : t.room ≡ s.room
  pub more : s.size ≤ t.size
  pub cells : s.used ≤ t.used
  pub kind : (n : ℕ) → n < s.size → t.kind n ≡ s.kind n
  pub form : (n : ℕ) → n < s.size → t.form n ≡ s.form n
  pub owner : (n : ℕ) → n < s.size → t.owner n ≡ s.owner n
  pub level : (n : ℕ) → n < s.size → t.level n ≡ s.level n
  pub gone : (n : ℕ) → n < s.size → s.gone n ≡ true → t.gone n ≡ true

kept_stays : (s t : St) → Keeps s t → Stays s t
kept_stays s t k =
    let e = sized s t k in
    let c : t.used ≡ s.used = ap (λ (g : Given). g.used) k.still in
    record {
      room = ap (λ (g : Given). g.room) k.still;
      more = omega arith;
      cells = omega arith;
      kind = λ n h. ap (λ (g : Given). g.kind n) k.still;
      form = λ n h. ap (λ (g : Given). g.form n) k.still;
      owner = λ n h. ap (λ (g : Given). g.owner n) k.still;
      level = λ n h. ap (λ (g : Given). g.level n) k.still;
      gone = λ n h. k.gone n;
    }

stays_then : (s t x : St) → Stays s t → Stays t x → Stays s x
stays_then s t x p q =
    let m = p.more in
    let l = q.more in
    let a = p.cells in
    let b = q.cells in
    record {
      room = q.room ∙ p.room;
      more = omega arith;
      cells = omega arith;
      kind = λ n h. q.kind n (omega arith) ∙ p.kind n h;
      form = λ n h. q.form n (omega arith) ∙ p.form n h;
      owner = λ n h. q.owner n (omega arith) ∙ p.owner n h;
      level = λ n h. q.level n (omega arith) ∙ p.level n h;
      gone = λ n h e. q.gone n (omega arith) (p.gone n h e);
    }

-- a new node changes nothing below it
node_stays : (s : St) (k : Kind) (t : Tree) (o : Option ℕ) (b : Named) (v : Value) → Stays s (node s k t o b v)
node_stays s k t o b v = record {
  room = refl;
  more = omega arith;
  cells = omega arith;
  kind = λ n h. up_other s.kind s.size k n (λ e. omega arith);
  form = λ n h. up_other s.form s.size t n (λ e. omega arith);
  owner = λ n h. up_other s.owner s.size o n (λ e. omega arith);
  level = λ n h. up_other s.level s.size _ n (λ e. omega arith);
  gone = λ n h e. up_other s.gone s.size false n (λ e. omega arith) ∙ e;
}

owned_keeps : (s : St) (n : ℕ) (o : Option ℕ) → Keeps s (owned s n o)
owned_keeps s n None = keeps s
owned_keeps s n (Some o) = link_keeps s n o 0

effect_keeps : (s : St) (o : Option ℕ) (t : Tree) → Keeps (node s effect t o f6 nothing) (new_effect s o t)
unfolding new_effect logged
effect_keeps s o t =
    let n = s.size in
    let a = node s effect t o f6 nothing in
    let b = owned a n o in
    let r = evaluate b n in
    let k : Keeps a r.st = keeps_then a b r.st (owned_keeps a n o) (evaluate_ring Keeps renews b n) in
    keeps_then a r.st (set_fl (logged r n) n f2) k (record { still = refl; gone = λ n e. e })

perform_stays : (s : St) (c : Command) → Stays s (perform s c).st
unfolding perform new_signal new_computed new_scope
perform_stays s (make_signal v) = node_stays s signal (constant (pos 0)) None f1 _
perform_stays s (make_computed cs) = node_stays s computed (formula_of cs) None f0 nothing
perform_stays s (make_effect o cs) = stays_then s _ _ (node_stays s effect (formula_of cs) (owner_of o) f6 nothing) (kept_stays _ _ (effect_keeps s (owner_of o) (formula_of cs)))
perform_stays s (make_scope o) =
    let a = node s scope (constant (pos 0)) (owner_of o) f0 nothing in
    stays_then s a _ (node_stays s scope (constant (pos 0)) (owner_of o) f0 nothing) (kept_stays a _ (owned_keeps a s.size (owner_of o)))
perform_stays s (set_to n v) = kept_stays s _ (store_keeps s (node_of n) _)
perform_stays s (add_to n d) = kept_stays s _ (store_keeps s (node_of n) _)
perform_stays s (read_of n) = kept_stays s _ (settle_ring Keeps renews s (node_of n))
perform_stays s (dispose_of n) = kept_stays s _ (dispose_ring Keeps drops s (node_of n))
perform_stays s batch_start = kept_stays s _ (record { still = refl; gone = λ n e. e })
perform_stays s batch_end = kept_stays s _ (end_keeps s s.depth)

-- one node more, or none
pub perform_makes : (s : St) (c : Command) → (perform s c).st.size ≡ s.size + made_by c
unfolding perform new_signal new_computed new_scope
perform_makes s (make_signal v) = omega arith
perform_makes s (make_computed cs) = omega arith
perform_makes s (make_effect o cs) = let e = sized _ _ (effect_keeps s (owner_of o) (formula_of cs)) in omega arith
perform_makes s (make_scope o) = let e = sized _ _ (owned_keeps (node s scope (constant (pos 0)) (owner_of o) f0 nothing) s.size (owner_of o)) in omega arith
perform_makes s (set_to n v) = let e = sized _ _ (store_keeps s (node_of n) (value v)) in omega arith
perform_makes s (add_to n d) = let e = sized _ _ (store_keeps s (node_of n) (sum (s.sto (node_of n)) (value d))) in omega arith
perform_makes s (read_of n) = let e = sized _ _ (settle_ring Keeps renews s (node_of n)) in omega arith
perform_makes s (dispose_of n) = let e = sized _ _ (dispose_ring Keeps drops s (node_of n)) in omega arith
perform_makes s batch_start = omega arith
perform_makes s batch_end = let e = sized _ _ (end_keeps s s.depth) in omega arith

any_stays : (s : St) (c : Option Command) → Stays s (perform_any s c).st
unfolding perform_any
any_stays s None = kept_stays s _ (record { still = refl; gone = λ n e. e })
any_stays s (Some c) = perform_stays s c

pub command_stays : (well : Bool) (s : St) (rows : ℕ) (ws : List ℤ) → Stays s (command well s rows ws).st
unfolding command answer
command_stays well s rows ws = go (refusal well (sight_of s rows) ws)
  where
    go : (r : ℕ) → Stays s (answer r s ws).st
    go zero = stays_then s (with_log s []) _ (kept_stays s (with_log s []) (record { still = refl; gone = λ n e. e })) (any_stays (with_log s []) (command_of ws))
    go (suc r) = kept_stays s s (keeps s)
