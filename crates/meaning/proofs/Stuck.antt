-- Stuck: where an operation cannot go on it says so; and what is stuck stays stuck. So "not stuck after a command" says that nothing in it was. Assumes nothing.
use Rattle.std.specs.Prelude.{None}
use mathlib.Core.Path.{◌≡◌, refl, ap, ◌∙◌}
use mathlib.Core.Bool.{Bool, true, false, not, ◌&&◌}
use mathlib.Core.List.{List, [], ◌∷◌, ◌++◌, reverse}
use Prim.Native.Nat.{ℕ, zero, suc}
use lib.Dec.{ltb}
use lib.ListN.{length}
use Rattle.flags.specs.declared.Named.{Named}
use Rattle.values.specs.declared.Value.{Value}
use Rattle.meaning.specs.State.{St, Kind, signal, computed, effect, scope, readable, a_signal, bare, has_value, unclean, recursing, deps}
use Rattle.meaning.specs.Links.{provided, is_nil, several, spent, insert, unlink_n}
use Rattle.meaning.specs.Marks.{Marks, halt, chain, is_effect, effects, notify, mark, stack_full, prop, wakes, shallow}
use Rattle.meaning.specs.Reads.{Ans, spread, settle_w, upd_w, same_slots, steady, check_w, fresh}
use Rattle.meaning.specs.Engine.{rerun, store, end_at}
use Rattle.meaning.specs.Words.{batch_end}
use Rattle.meaning.specs.Commands.{perform, perform_any}
use Rattle.meaning.proofs.Laws.{clash, branch, or_first, or_last}

-- ---- where
-- the test of an operation fails
fails : (b : Bool) (s : St) → b ≡ false → (provided b s).stuck ≡ true
unfolding provided
fails b s h = branch (λ (x : St). x.stuck ≡ true) b (λ e. clash e h) (λ e. refl)

-- no slot is free
pub no_slot : (s : St) (d u v : ℕ) → (insert s d u v []).stuck ≡ true
unfolding insert
no_slot s d u v = refl

-- the reserve is spent
pub no_reserve : (s : St) (d u v l : ℕ) (ls : List ℕ) → spent s ≡ true → (insert s d u v (l ∷ ls)).stuck ≡ true
unfolding insert
no_reserve s d u v l ls h = or_last s.stuck (spent s) h

-- a slot would be freed twice
pub freed_twice : (k : ℕ) (s : St) (l : ℕ) → s.live l ≡ false → (unlink_n (suc k) s l).stuck ≡ true
unfolding unlink_n
freed_twice k s l h = branch (λ (x : St). x.stuck ≡ true) (s.live l) (λ e. clash e h) (λ e. refl)

-- the budget of a ring or a walk ends
pub no_budget : (s : St) (n : ℕ) (m : Marks) (w : List ℕ) (st : List (List ℕ))
    → ((unlink_n zero s n).stuck ≡ true) × ((fresh zero s n).st.stuck ≡ true) × ((prop s zero m w st).stuck ≡ true)
unfolding unlink_n fresh prop
no_budget s n m w st = (refl, refl, or_last m.stuck true refl)

-- a RECURSED branch is entered
pub recursed_branch : (s : St) (k : ℕ) (m : Marks) (l : ℕ) (w : List ℕ) (st : List (List ℕ)) → recursing (m.fl (s.sub l)) ≡ true → (prop s (suc k) m (l ∷ w) st).stuck ≡ true
unfolding prop
recursed_branch s k m l w st h = branch (λ (x : Marks). x.stuck ≡ true) (recursing (m.fl (s.sub l))) (λ e. or_last m.stuck true refl) (λ e. clash h e)

-- the queue is full
pub queue_full : (s : St) (m : Marks) (e : ℕ) → ltb s.room.nodes (length (notify s m e).queue) ≡ true → (notify s m e).stuck ≡ true
unfolding notify
queue_full s m e h = or_last m.stuck _ (or_first _ (not (effects s.kind (chain s.room.nodes s.owner m.fl e))) h)

-- what would be pushed is no effect
pub no_effect : (s : St) (m : Marks) (e : ℕ) → effects s.kind (chain s.room.nodes s.owner m.fl e) ≡ false → (notify s m e).stuck ≡ true
unfolding notify
no_effect s m e h = or_last m.stuck _ (or_last (ltb s.room.nodes (length (m.queue ++ reverse (chain s.room.nodes s.owner m.fl e)))) _ (ap not h))

-- the subscriber list that the dirty check goes back up by has changed, or is empty
pub not_steady : (was : List ℕ) (t : St) (d : ℕ) → same_slots was (t.subs d) && not (is_nil was) ≡ false → (steady was t d).stuck ≡ true
unfolding steady
not_steady was t d h = fails _ t h

-- a panic of the Rust: an update of what is no signal and no computed; a check with no dependencies
pub no_update : (fr : St → ℕ → Ans) (s : St) (n : ℕ) → ((upd_w fr effect s n).st.stuck ≡ true) × ((upd_w fr scope s n).st.stuck ≡ true)
unfolding upd_w
no_update fr s n = (refl, refl)

pub no_dependencies : (fr : St → ℕ → Ans) (s : St) (u : ℕ) → is_nil (deps s u) ≡ true → (check_w fr s u).st.stuck ≡ true
unfolding check_w
no_dependencies fr s u h = branch (λ (x : Ans). x.st.stuck ≡ true) (is_nil (deps s u)) (λ e. refl) (λ e. clash h e)

-- and: the value of a computed that was never evaluated is taken; a node of another kind is read, written or run
pub no_value : (fr : St → ℕ → Ans) (s : St) (n : ℕ) → let t = spread (fr s n) n in t.kind n ≡ computed → bare (t.fl n) ≡ true → (settle_w fr s n).stuck ≡ true
unfolding settle_w
no_value fr s n k b = let t = spread (fr s n) n in fails _ t (ap (λ (z : Kind). has_value z (t.fl n)) k ∙ ap not b)

pub wrong_kind : (fr : St → ℕ → Ans) (s : St) (n : ℕ) (v : Value)
    → (readable ((spread (fr s n) n).kind n) ≡ false → (settle_w fr s n).stuck ≡ true) × (a_signal (s.kind n) ≡ false → (store s n v).stuck ≡ true) × (is_effect (s.kind n) ≡ false → (rerun s n).stuck ≡ true)
unfolding settle_w store rerun
wrong_kind fr s n v = (λ h. let t = spread (fr s n) n in fails _ t (unread (t.kind n) (t.fl n) h), λ h. fails _ _ h, λ h. fails _ _ h)
  where
    unread : (k : Kind) (f : Named) → readable k ≡ false → has_value k f ≡ false
    unread signal f q = q
    unread computed f q = clash refl q
    unread effect f q = refl
    unread scope f q = refl

-- an end at depth 0 (refused: `end_refused`), or words that are no command (refused by 2)
pub no_end : (s : St) → s.depth ≡ 0 → (perform s batch_end).st.stuck ≡ true
unfolding perform
no_end s e = ap (λ (d : ℕ). (end_at s d).stuck) e

pub no_command : (s : St) → (perform_any s None).st.stuck ≡ true
unfolding perform_any
no_command s = refl

-- a watching subscriber would have to be notified by shallow propagate
pub shallow_wakes : (s : St) (d : ℕ) → wakes s.sub (s.subs d) s.fl ≡ true → (shallow s d).stuck ≡ true
shallow_wakes s d h = or_last s.stuck _ h

-- ---- a walk that is stuck stays so; of whole commands `command_sticks` (Stepped) says it
mark_sticks : (s : St) (m : Marks) (u : ℕ) → m.stuck ≡ true → (mark s m u).stuck ≡ true
unfolding mark notify
mark_sticks s m u h = branch (λ (x : Marks). x.stuck ≡ true) (m.fl u).watching (λ e. or_first m.stuck _ h) (λ e. h)

pub prop_sticks : (s : St) (k : ℕ) (m : Marks) (w : List ℕ) (st : List (List ℕ)) → m.stuck ≡ true → (prop s k m w st).stuck ≡ true
unfolding prop
prop_sticks s zero m w st h = or_first m.stuck true h
prop_sticks s (suc k) m [] [] h = h
prop_sticks s (suc k) m [] (w ∷ st) h = prop_sticks s k m w st h
prop_sticks s (suc k) m (l ∷ w) st h =
    let u = s.sub l in
    let p : (mark s m u).stuck ≡ true = mark_sticks s m u h in
    branch (λ (x : Marks). x.stuck ≡ true) (recursing (m.fl u)) (λ a. or_first m.stuck true h)
    (λ a. branch (λ (x : Marks). x.stuck ≡ true) (unclean (m.fl u)) (λ b. prop_sticks s k m w st h)
    (λ b. branch (λ (x : Marks). x.stuck ≡ true) (m.fl u).mutable
    (λ c. branch (λ (x : Marks). x.stuck ≡ true) (several (s.subs u))
    (λ d. prop_sticks s k (halt (mark s m u) (stack_full s st)) (s.subs u) (w ∷ st) (or_first (mark s m u).stuck _ p))
    (λ d. prop_sticks s k (mark s m u) (s.subs u ++ w) st p))
    (λ c. prop_sticks s k (mark s m u) w st p)))

-- the stack is full where another list would be put aside
pub stack_full_lem : (s : St) (k : ℕ) (m : Marks) (l : ℕ) (w : List ℕ) (st : List (List ℕ)) → unclean (m.fl (s.sub l)) ≡ false → (m.fl (s.sub l)).mutable ≡ true → several (s.subs (s.sub l)) ≡ true
    → stack_full s st ≡ true → (prop s (suc k) m (l ∷ w) st).stuck ≡ true
unfolding prop
stack_full_lem s k m l w st cl mu sv h =
    let u = s.sub l in
    let P : Marks → Type 0 = λ x. x.stuck ≡ true in
    branch P (recursing (m.fl u)) (λ a. or_last m.stuck true refl)
    (λ a. branch P (unclean (m.fl u)) (λ b. clash b cl)
    (λ b. branch P (m.fl u).mutable
    (λ c. branch P (several (s.subs u))
    (λ d. prop_sticks s k (halt (mark s m u) (stack_full s st)) (s.subs u) (w ∷ st) (or_last (mark s m u).stuck _ h))
    (λ d. clash sv d))
    (λ c. clash mu c)))
