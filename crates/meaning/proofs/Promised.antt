-- What document 01 says of an accepted command, from any well-formed tables: the theorems to read. Their labour stands elsewhere. Assumes nothing.
-- Beside them: `command_kept`, `never_stuck` (Accepted), `command_stays` (Kept), `links_bound` (Bound), `given_exactly`, `end_refused`, `refused_unchanged` (Refused), `emptying_answers`, `empty_is` (Emptied), `rows_in_order` (InOrder), and the laws of Steps.
use Rattle.std.specs.Prelude.{Some}
use mathlib.Core.Path.{◌≡◌, refl, sym, ap, ◌∙◌, subst}
use mathlib.Core.Logic.{◌⊎◌, inl, ◌↔◌}
use mathlib.Core.Bool.{true, false}
use mathlib.Core.List.{List, [], ◌∷◌}
use Prim.Native.Nat.{ℕ, suc, ◌+◌, ◌≤◌, ◌<◌, ◌%◌, ◌^◌}
use native.Mathlib.Omega.{arith}
use lib.Dec.{leb, ltb}
use lib.IntN.{ℤ, pos}
use lib.ListN.{length, drop}
use borrow.Author.Tests.{leb-false, ltb-false}
use Rattle.values.specs.declared.Value.{Value}
use Rattle.meaning.specs.State.{St, Row, signal, computed, readable, deps, unclean, f0, f1, f2, f17, up}
use Rattle.meaning.specs.Setters.{with_queue, with_depth, with_log, set_fl, set_pend}
use Rattle.meaning.specs.Links.{several, link, cut, unlink}
use Rattle.meaning.specs.Marks.{Marks, marks_of, notify, prop, turns, propagate}
use Rattle.meaning.specs.Words.{Command, make_computed, make_effect, read_of, dispose_of, batch_start, batch_end, command_of, node_of, owner_of, formula_of}
use Rattle.meaning.specs.Reserve.{total, reserve_of, reserve, live_links}
use Rattle.meaning.specs.Refusals.{sight_of, asks_of, a_signal, wrong_node, table}
use Rattle.meaning.specs.WellFormed.{In, Once, WellFormed}
use Rattle.meaning.specs.Reach.{Reached}
use Rattle.meaning.specs.Order.{Walked}
use Rattle.meaning.specs.Owners.{Below}
use Rattle.meaning.specs.Engine.{store, new_computed, end_at}
use Rattle.meaning.specs.Moments.{flushing, Steps, here, later, links, Moment, begun, reserve_from}
use Rattle.meaning.specs.Evaluations.{reevaluations}
use Rattle.meaning.specs.Commands.{number, perform, Answer, command, runs}
use Rattle.meaning.specs.Outcome.{first_row, flushes, MayRun, made, flushed, MustGo, disposed, owned as had, Writes, sets, adds, made_by, value_of}
use Rattle.meaning.proofs.Laws.{clash, either, up_same}
use Rattle.meaning.proofs.Still.{given}
use Rattle.meaning.proofs.Flush.{whos}
use Rattle.meaning.proofs.Performed.{performed, known, rows_are}
use Rattle.meaning.proofs.Stuck.{stack_full_lem, queue_full}
use Rattle.meaning.proofs.Inside.{nobody, static, rest_inside}
use Rattle.meaning.proofs.Room.{room_at_rest}
use Rattle.meaning.proofs.Frames.{others}
use Rattle.meaning.proofs.Kept.{command_stays, perform_makes}
use Rattle.meaning.proofs.Walking.{i_written, i_propagated, propagate_turns, propagate_inside}
use Rattle.meaning.proofs.Made.{at_rest}
use Rattle.meaning.proofs.Refused.{NoneHolds}
use Rattle.meaning.proofs.Accepted.{taken, is_signal, command_kept}
use Rattle.meaning.proofs.Owning.{below_high}
use Rattle.meaning.proofs.Outcome.{new_row, command_told}
use Rattle.meaning.proofs.Moments.{flushing_queue, drop_once, gone_passed}
use Rattle.meaning.proofs.Marked.{marks_exactly}
use Rattle.meaning.proofs.Ordered.{in_order}
use Rattle.meaning.proofs.Disposed.{gone_below, below_stays, disposed as disposal, given_back, reserve_back}
use Rattle.meaning.proofs.Unwatched.{becomes_17, stays}
use Rattle.meaning.proofs.Throughout.{few_live, unstuck, linked_few, moment_within}
use Rattle.meaning.proofs.Stepped.{perform_steps, begun_within}
use Rattle.meaning.proofs.Cycle.{perform_counts}
use Rattle.meaning.proofs.Valued.{read_valued, Takes, read_takes}
use Rattle.meaning.proofs.Written.{perform_worth, writes_store, stores_nothing, stores_pending, stores_flush, stores_later, end_flushes}

-- n is gone, and has no links
abbrev pub Bare : St → ℕ → Type 0
Bare t n = (t.gone n ≡ true) × (deps t n ≡ []) × (t.subs n ≡ [])

-- ---- an accepted command
module _ (s : St) (rows : ℕ) (ws : List ℤ) (w : WellFormed s) (ok : (command true s rows ws).code ≡ 0) where
  abbrev a : Answer
  a = command true s rows ws

  abbrev t : St
  t = (command true s rows ws).st

  formed : WellFormed t
  formed = (command_kept true s rows ws w).formed

  told : (e : ℕ) → In e (whos a.rows) → In e (whos t.log)
  told e j = subst (λ (r : List Row). In e (whos r)) (rows_are s rows ws ok) j

  -- a new effect has at most 1 row, a set or add at depth 0 or an end at depth 1 at most as many as effects are live at entry, any other command none
  pub rows_few : (c : Command) → command_of ws ≡ Some c → runs a ≤ (asks_of c).rows (sight_of s rows)
  rows_few c q = subst (λ (r : List Row). length r ≤ (asks_of c).rows (sight_of s rows)) (sym (rows_are s rows ws ok)) (command_told s rows w ws c q ok).few

  -- no effect runs twice
  pub rows_once : Once (whos a.rows)
  rows_once = let k = known s rows ws ok in subst (λ (r : List Row). Once (whos r)) (sym (rows_are s rows ws ok)) (command_told s rows w ws k.0 k.1 ok).once

  -- each row is of the new effect, or of an effect live at entry in a command that flushes
  pub rows_whose : (c : Command) → command_of ws ≡ Some c → (e : ℕ) → In e (whos a.rows) → MayRun s c e
  rows_whose c q e j = (command_told s rows w ws c q ok).whose e (told e j)

  -- no effect runs that was gone
  pub rows_live : (e : ℕ) → In e (whos a.rows) → e < s.size → s.gone e ≡ false
  rows_live e j h = let k = known s rows ws ok in go (rows_whose k.0 k.1 e j)
    where
      go : {c : Command} → MayRun s c e → s.gone e ≡ false
      go (made o cs q z) = absurd (omega arith)
      go (flushed f l k g) = g

  -- a new effect has one row, of its number and its value, and its number is answered
  pub new_effect_runs : (o : ℤ) (cs : List ℤ) → command_of ws ≡ Some (make_effect o cs) → (a.rows ≡ first_row (with_log s []) (owner_of o) (formula_of cs) ∷ []) × (a.val ≡ number s)
  unfolding perform
  new_effect_runs o cs q = let p = (performed s rows ws (make_effect o cs) q ok).0 in (ap (λ (z : Answer). z.rows) p ∙ new_row (with_log s []) (owner_of o) (formula_of cs), ap (λ (z : Answer). z.val) p)

  -- where no effect is new and nothing is flushed there is no row
  pub no_rows : (c : Command) → command_of ws ≡ Some c → ((o : ℤ) (cs : List ℤ) → c ≡ make_effect o cs → ⊥) → flushes c s.depth ≡ false → a.rows ≡ []
  unfolding whos
  no_rows c q plain still = go a.rows (λ e j. none_may (rows_whose c q e j))
    where
      none_may : {e : ℕ} → MayRun s c e → ⊥
      none_may (made o cs z h) = plain o cs z
      none_may (flushed f l k g) = clash f still

      go : (rs : List Row) → ((e : ℕ) → In e (whos rs) → ⊥) → rs ≡ []
      go [] h = refl
      go (r ∷ rs) h = absurd (h r.who (inl refl))

  bare : (n : ℕ) → n < s.size → t.gone n ≡ true → Bare t n
  bare n h g = let m = (command_stays true s rows ws).more in let x = formed.depends.gone_bare n (omega arith) g in (g, x.0, x.1)

  all_below : (x y : ℕ) → t.gone x ≡ true → Below s.owner x y → y < s.size → Bare t y
  all_below x y g b h =
      let m = (command_stays true s rows ws).more in
      bare y h (gone_below t formed x y g (below_stays s t w (command_stays true s rows ws).owner x y h b) (omega arith))

  -- a rerun effect disposes everything it owns: e has run, n is below a node y that e owned
  pub rerun_disposes : (e y n : ℕ) → In e (whos a.rows) → s.owner y ≡ Some e → Below s.owner y n → y < s.size → n < s.size → Bare t n
  rerun_disposes e y n j q b h l =
      let k = known s rows ws ok in
      all_below y n ((command_told s rows w ws k.0 k.1 ok).disposes e y (told e j) h q) b l

  -- ---- a dispose of x
  module _ (x : ℕ) (is : command_of ws ≡ Some (dispose_of (pos x))) where
    -- x is gone, with all it owns
    pub gone_with_all : (n : ℕ) → Below s.owner x n → n < s.size → Bare t n
    gone_with_all n b h = all_below x n (disposal s rows w ws x is ok).gone b h

    -- nothing else goes
    pub nothing_else_goes : (n : ℕ) → (Below s.owner x n → ⊥) → n < s.size → t.gone n ≡ s.gone n
    nothing_else_goes n f h = (disposal s rows w ws x is ok).others n h f

    -- disposal gives the reserve back: that of each node which goes
    pub reserve_comes_back : reserve t + total (λ n. given_back (s.gone n) (t.gone n) (reserve_of (s.kind n) false (s.form n) (s.owner n))) s.size ≡ reserve s
    reserve_comes_back = reserve_back s t formed (disposal s rows w ws x is ok).keeps

  -- ---- a set or add, which writes x to the signal n
  module _ (c : Command) (n : ℕ) (x : Value) (is : command_of ws ≡ Some c) (wr : Writes s c n x) where
    stored : t ≡ store (with_log s []) n x
    stored = ap (λ (z : Answer). z.st) (performed s rows ws c is ok).0 ∙ writes_store s wr

    to_signal : s.kind n ≡ signal
    unfolding table wrong_node asks_of
    to_signal = go wr (performed s rows ws c is ok).1
      where
        go : {c : Command} {n : ℕ} {x : Value} → Writes s c n x → NoneHolds (table true (sight_of s rows) (Some c)) → s.kind n ≡ signal
        go (sets n v) h = is_signal s rows w (s.kind (node_of n)) (taken s rows w a_signal n (h 2)).1
        go (adds n v) h = is_signal s rows w (s.kind (node_of n)) (taken s rows w a_signal n (h 2)).1

    -- the old pending value: nothing happens
    pub same_write_is_nothing : s.pend n ≡ x → t ≡ with_log s []
    same_write_is_nothing e = stored ∙ stores_nothing (with_log s []) n x to_signal e

    -- another: it is pending after, and every other pending value as it was
    pub write_pends : (s.pend n ≡ x → ⊥) → t.pend ≡ up s.pend n x
    write_pends e = ap (λ (z : St). z.pend) stored ∙ stores_pending (with_log s []) n x to_signal e

    -- it is marked 17 and propagated from; that is all inside a batch
    pub write_waits : (s.pend n ≡ x → ⊥) → (d : ℕ) → s.depth ≡ suc d → t ≡ propagate (set_fl (set_pend (with_log s []) n x) n f17) n
    write_waits e d h = stored ∙ stores_later (with_log s []) n x to_signal e d h

    -- at depth 0 what is queued then runs, one after the other
    pub write_flushes : (s.pend n ≡ x → ⊥) → s.depth ≡ 0 → let p = propagate (set_fl (set_pend (with_log s []) n x) n f17) n in t ≡ flushing (length p.queue) p p.queue
    write_flushes e h = stored ∙ stores_flush (with_log s []) n x to_signal e h (w.queued.at_depth_0 h)

  -- and so at the end of the outermost batch
  pub end_runs_queue : command_of ws ≡ Some batch_end → s.depth ≡ 1 → t ≡ flushing (length s.queue) (with_depth (with_log s []) 0) s.queue
  unfolding perform
  end_runs_queue is h = ap (λ (z : Answer). z.st) (performed s rows ws batch_end is ok).0 ∙ end_flushes (with_log s []) h

  -- a start, and the end of an inner batch, change the depth and nothing else
  pub start_deepens : command_of ws ≡ Some batch_start → t ≡ with_depth (with_log s []) (suc s.depth)
  unfolding perform
  start_deepens is = ap (λ (z : Answer). z.st) (performed s rows ws batch_start is ok).0

  pub inner_end : command_of ws ≡ Some batch_end → (d : ℕ) → s.depth ≡ suc (suc d) → t ≡ with_depth (with_log s []) (suc d)
  unfolding perform
  inner_end is d h = ap (λ (z : Answer). z.st) (performed s rows ws batch_end is ok).0 ∙ ap (end_at (with_log s [])) h

  -- a new computed is not yet evaluated
  pub new_computed_waits : (cs : List ℤ) → command_of ws ≡ Some (make_computed cs) → t.fl s.size ≡ f0
  unfolding perform new_computed
  new_computed_waits cs is = ap (λ (z : Answer). z.st.fl s.size) (performed s rows ws (make_computed cs) is ok).0 ∙ up_same _ s.size f0

  -- ---- who goes
  -- of the nodes there were: what is disposed, and what effects with a row owned, with all below them; nothing else
  pub goes_exactly : (c : Command) → command_of ws ≡ Some c → (n : ℕ) → n < s.size → s.gone n ≡ false → (t.gone n ≡ true) ↔ MustGo s c (whos a.rows) n
  goes_exactly c q n h f = (λ g. subst (λ (r : List Row). MustGo s c (whos r) n) (sym (rows_are s rows ws ok)) ((command_told s rows w ws c q ok).goes n h (owns g) f g), go)
    where
      owns : t.gone n ≡ true → readable (s.kind n) ≡ false
      owns g = either (readable (s.kind n)) (λ r. clash g (let m = (command_stays true s rows ws).more in formed.depends.gone_kind n (omega arith) (ap readable ((command_stays true s rows ws).kind n h) ∙ r))) (λ r. r)

      go : MustGo s c (whos a.rows) n → t.gone n ≡ true
      go (disposed x e b) = (gone_with_all x (q ∙ ap Some e) n b h).0
      go (had e j p) = let l = below_high s.owner s.size w.depends.owner_lower p.0 n h p.2 in (rerun_disposes e p.0 n j p.1 p.2 (omega arith) h).0

  -- what is new is not gone
  pub new_lives : (n : ℕ) → s.size ≤ n → n < t.size → t.gone n ≡ false
  new_lives = let k = known s rows ws ok in (command_told s rows w ws k.0 k.1 ok).lives

  -- why a read is not stuck for want of a value: the node is clean then (flags 1; only flags 0 means no value), and its stored value is the answer. In a formula: `m_settled` (Reading)
  pub read_has_value : (n : ℤ) → command_of ws ≡ Some (read_of n) → (t.fl (node_of n) ≡ f1) × (a.val ≡ t.sto (node_of n))
  read_has_value n is = read_valued s rows w ws n is ok

  -- reading a signal that was written moves pending to current and, if that changed it, marks its pending subscribers dirty
  pub read_takes_pending : (n : ℤ) → command_of ws ≡ Some (read_of n) → s.kind (node_of n) ≡ signal → s.fl (node_of n) ≡ f17 → Takes s (node_of n) t
  read_takes_pending n is = read_takes s rows w ws n is ok

  -- the value is that of the table of commands, and the nodes are one more or as many
  pub answers_value : (c : Command) → command_of ws ≡ Some c → (a.val ≡ value_of s t c) × (t.size ≡ s.size + made_by c)
  answers_value c q =
      let p = (performed s rows ws c q ok).0 in (
        ap (λ (z : Answer). z.val) p ∙ perform_worth s c ∙ ap (λ (z : Answer). value_of s z.st c) (sym p),
        ap (λ (z : Answer). z.st.size) p ∙ perform_makes (with_log s []) c,
      )

  -- live links are at most the reserve, and that at most the slots: before and after the command (inside it: `room_at_every_moment`, `room_during`, `made_in_room`)
  pub room_kept : (live_links s ≤ reserve s) × (reserve s ≤ s.room.slots) × (live_links t ≤ reserve t) × (reserve t ≤ t.room.slots)
  room_kept = let x = room_at_rest s w in let y = room_at_rest t formed in (x.0, x.1, y.0, y.1)

  -- ---- every moment of it
  module _ (c : Command) (is : command_of ws ≡ Some c) where
    -- it is made of steps: from the empty log, with the node that it makes, to its end
    pub made_of_steps : Steps (begun (with_log s []) c) t
    made_of_steps = subst (λ (x : Answer). Steps (begun (with_log s []) c) x.st) (sym (performed s rows ws c is ok).0) (perform_steps (with_log s []) c)

    -- room at every moment: live links, and the reserve then, are at most the reserve at entry, with the node that the command makes, and that is at most the slots
    pub room_at_every_moment : s.stuck ≡ false → (x : St) → Moment (begun (with_log s []) c) t x → (live_links x ≤ reserve_from s c) × (reserve x ≤ reserve_from s c) × (reserve_from s c ≤ s.room.slots)
    room_at_every_moment e x m =
        let b = begun_within s rows w c (performed s rows ws c is ok).1 in
        let n = moment_within _ t x m ((command_kept true s rows ws w).stuck ∙ e) (reserve_from s c) b.0 in
        (few_live (reserve_from s c) x n, n.reserved, b.1)

    -- and right after a step that made a link, at most the reserve of that very moment
    pub room_where_made : s.stuck ≡ false → (x : St) (d u v : ℕ) → Steps (begun (with_log s []) c) x → Steps (link x d u v) t → live_links x < live_links (link x d u v)
        → live_links (link x d u v) ≤ reserve (link x d u v)
    room_where_made e x d u v p q more =
        let b = begun_within s rows w c (performed s rows ws c is ok).1 in
        let free = (command_kept true s rows ws w).stuck ∙ e in
        let y = link x d u v in
        let one : Steps x y = later here (links d u v) in
        linked_few x d u v (reserve_from s c) (moment_within _ y x (record { reached = p; left = one }) (unstuck y t q free) (reserve_from s c) b.0) (unstuck y t q free) more

    -- ---- the cycle: raised once for each evaluation of the command that is not a first one; it wraps
    pub cycle_counts : s.cycle < 2 ^ 64 → t.cycle ≡ (s.cycle + reevaluations (with_log s []) c) % 2 ^ 64
    cycle_counts h = ap (λ (x : Answer). x.st.cycle) (performed s rows ws c is ok).0 ∙ perform_counts (with_log s []) c h

-- ---- inside a command
module _ (s : St) (w : WellFormed s) where
  -- the queue holds each effect at most once, after any number k of turns of the walk from d
  pub walk_queues_once : (d : ℕ) → readable (s.kind d) ≡ true → (k : ℕ) → Once (prop s k (marks_of s) (s.subs d) []).queue
  walk_queues_once d r k = (propagate_turns (given s) (static s w) s d (rest_inside s w) r k).once

  -- what propagate marks is exactly what is reached by read links, from a node that is not clean
  pub marks_what_is_reached : (d : ℕ) → d < s.size → readable (s.kind d) ≡ true → unclean (s.fl d) ≡ true → (u : ℕ) → (((propagate s d).fl u).pending ≡ true) ↔ (((s.fl u).pending ≡ true) ⊎ Reached s d u)
  marks_what_is_reached d h r un = marks_exactly (given s) (static s w) s d (rest_inside s w) h r un

  -- and the order: it is the plain depth-first walk, which queues owners first (specs/Order; `Walked-one`: there is no other)
  pub walk_in_order : (d : ℕ) → d < s.size → readable (s.kind d) ≡ true → unclean (s.fl d) ≡ true → s.stuck ≡ false → Walked s (marks_of s) (s.subs d) (marks_of (propagate s d))
  walk_in_order d h r un e = in_order s (turns s) (marks_of s) (s.subs d) [] ((propagate_inside (given s) (static s w) s d (rest_inside s w) h r un).stuck ∙ e)

  -- where these walks start: signal n was written
  pub written_well_formed : (n : ℕ) (v : Value) → n < s.size → s.kind n ≡ signal → WellFormed (set_fl (set_pend s n v) n f17)
  written_well_formed n v h k = at_rest (given s) (set_fl (set_pend s n v) n f17) (static s w) (i_written (given s) (static s w) s n v (rest_inside s w) h k) w.queued.at_depth_0 w.queued.depth_low

  -- a computed that loses its last subscriber link l and has dependencies becomes 17 and drops them; without any it stays as it is
  pub unwatched_becomes_17 : (l : ℕ) → s.live l ≡ true → s.kind (s.dep l) ≡ computed → s.subs (s.dep l) ≡ l ∷ [] → (deps s (s.dep l) ≡ [] → ⊥) → ((unlink s l).fl (s.dep l) ≡ f17) × (deps (unlink s l) (s.dep l) ≡ [])
  unwatched_becomes_17 l = becomes_17 s w l

  pub unwatched_stays : (l : ℕ) → s.live l ≡ true → s.kind (s.dep l) ≡ computed → s.subs (s.dep l) ≡ l ∷ [] → deps s (s.dep l) ≡ [] → unlink s l ≡ cut s l
  unwatched_stays l = stays s w l

-- ---- inside a flush, after any number k of its runs
-- nothing is queued: the queue is what is left of it, so it holds each effect at most once
pub flush_queues_nothing : (s : St) (k : ℕ) → ((flushing k s s.queue).queue ≡ drop k s.queue) × (Once s.queue → Once (flushing k s s.queue).queue)
flush_queues_nothing s k = let e = flushing_queue k s.queue s refl in (e, λ o. subst Once (sym e) (drop_once k s.queue o))

-- a gone effect e still queued doesn't run; its flags become 2: in the flush of a batch's end
pub gone_passed_at_end : (s : St) (w : WellFormed s) (k e : ℕ) (q : List ℕ) → let x = flushing k (with_depth s 0) s.queue in
    x.queue ≡ e ∷ q → x.gone e ≡ true → flushing (suc k) (with_depth s 0) s.queue ≡ set_fl (with_queue x q) e f2
gone_passed_at_end s w k e q j g =
    gone_passed (given s) (static s w) k s.queue (with_depth s 0) (others (given s) nobody s (rest_inside s w) s.cycle s.sto s.pend 0 s.log s.stuck) refl e q j g

-- and in that of a write to signal n
pub gone_passed_at_write : (s : St) (w : WellFormed s) (n : ℕ) (v : Value) → n < s.size → s.kind n ≡ signal → (k e : ℕ) (q : List ℕ) → let p = propagate (set_fl (set_pend s n v) n f17) n in let x = flushing k p p.queue in
    x.queue ≡ e ∷ q → x.gone e ≡ true → flushing (suc k) p p.queue ≡ set_fl (with_queue x q) e f2
gone_passed_at_write s w n v h kn k e q j g =
    let p = propagate (set_fl (set_pend s n v) n f17) n in
    gone_passed (given s) (static s w) k p.queue p (i_propagated (given s) (static s w) s n v (rest_inside s w) h kn).inside refl e q j g

-- ---- what "not stuck" says
-- an accepted command is not stuck: so no ring and no walk ends before its work, no slot is missing and no reserve spent, and no queue or stack is full (`Stuck` says where an operation is stuck, `command_sticks` that it stays so)
pub nothing_stuck : (s : St) (rows : ℕ) (ws : List ℤ) → WellFormed s → s.stuck ≡ false → (command true s rows ws).st.stuck ≡ false
nothing_stuck s rows ws w e = (command_kept true s rows ws w).stuck ∙ e

-- the stack never holds more than the nodes: a walk that puts another list aside, and is not stuck
pub stack_bounded : (s : St) (k : ℕ) (m : Marks) (l : ℕ) (w : List ℕ) (st : List (List ℕ)) → unclean (m.fl (s.sub l)) ≡ false → (m.fl (s.sub l)).mutable ≡ true → several (s.subs (s.sub l)) ≡ true
    → (prop s (suc k) m (l ∷ w) st).stuck ≡ false → length (w ∷ st) ≤ s.room.nodes
stack_bounded s k m l w st cl mu sv h = either (leb s.room.nodes (length st)) (λ e. clash (stack_full_lem s k m l w st cl mu sv e) h) (λ e. let a = leb-false s.room.nodes (length st) e in omega arith)

-- nor does the queue, where a notify is not stuck
pub queue_bounded : (s : St) (m : Marks) (e : ℕ) → (notify s m e).stuck ≡ false → length (notify s m e).queue ≤ s.room.nodes
queue_bounded s m e h = either (ltb s.room.nodes (length (notify s m e).queue)) (λ q. clash (queue_full s m e q) h) (λ q. ltb-false s.room.nodes (length (notify s m e).queue) q)
