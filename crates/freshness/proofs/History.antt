-- Demand 3, proved of every history. Assumes nothing.
use Rattle.std.specs.Prelude.{Option, None, Some}
use mathlib.Core.Path.{◌≡◌, refl, sym, ap, ap₂, ◌∙◌, subst}
use mathlib.Core.Logic.{◌⊎◌, inl, inr}
use mathlib.Core.Bool.{true, false, ◌&&◌, ◌||◌}
use mathlib.Core.List.{List, [], ◌∷◌}
use Prim.Native.Nat.{ℕ, zero, suc, ◌+◌, ◌≤◌, ◌<◌, ◌^◌}
use native.Mathlib.Omega.{arith}
use lib.IntN.{ℤ}
use Rattle.values.specs.declared.Value.{Value}
use Rattle.trees.specs.Trees.{Tree}
use Rattle.meaning.specs.State.{St, Kind, effect, Room, Row, nothing, empty, capacities}
use Rattle.meaning.specs.Setters.{with_log}
use Rattle.meaning.specs.Words.{Command, command_of}
use Rattle.meaning.specs.Refusals.{sight_of, table, unknown, refusal}
use Rattle.meaning.specs.WellFormed.{In, Once}
use Rattle.meaning.specs.Commands.{Answer, accepted, perform, perform_any, answer, command}
use Rattle.freshness.specs.Afresh.{afresh_of, recorded, moved, rested, Among, Differs}
use Rattle.freshness.specs.Nodes.{changed, ran}
use Rattle.freshness.specs.Evaluations.{in_perform_any, in_answer, inPerform}
use Rattle.freshness.specs.History.{Call, seen, meant, in_call, Past, written, depth_after, is_write, writes_on, found_on, next, Course, now, after, begin}
use Rattle.freshness.specs.Right.{HasRow, NoTwo, LiveEffect, LiveRows, FreshRows, values_now, returned, Run, SameRuns, RightRuns, Right, Recorded, Agrees, Held, Demand3}
use Rattle.meaning.proofs.Laws.{false≢true, same_some}
use Rattle.meaning.proofs.Still.{Given, given}
use Rattle.meaning.proofs.Flush.{whos}
use Rattle.meaning.proofs.Refused.{NoneHolds, accepted_exactly}
use Rattle.meaning.proofs.Emptied.{empty_well_formed}
use Rattle.meaning.proofs.Inside.{static, rest_inside}
use Rattle.meaning.proofs.Made.{Well}
use Rattle.meaning.proofs.Accepted.{command_kept}
use Rattle.freshness.proofs.Forms.{firsts}
use Rattle.freshness.proofs.Inv.{ReadsBy}
use Rattle.freshness.proofs.Clean.{φ}
use Rattle.freshness.proofs.Flush.{Rowed}
use Rattle.freshness.proofs.Gone.{Shows, ran_shows, passes_told}
use Rattle.freshness.proofs.Store.{Undirtied, Runs, undirtied}
use Rattle.freshness.proofs.Sound.{and_first, and_last, Sound, Step}
use Rattle.freshness.proofs.Command.{stepped}

-- ---- the words of the statement
in_has : (e : ℕ) (rs : List Row) → In e (whos rs) → HasRow e rs
unfolding whos
in_has e [] i = i
in_has e (r ∷ rs) (inl q) = inl q
in_has e (r ∷ rs) (inr i) = inr (in_has e rs i)

has_in : (e : ℕ) (rs : List Row) → HasRow e rs → In e (whos rs)
unfolding whos
has_in e [] i = i
has_in e (r ∷ rs) (inl q) = inl q
has_in e (r ∷ rs) (inr i) = inr (has_in e rs i)

no_two : (rs : List Row) → Once (whos rs) → NoTwo rs
unfolding whos
no_two [] o = tt
no_two (r ∷ rs) o = (λ i. o.0 (has_in r.who rs i), no_two rs o.1)

same_runs : (rs : List Row) → SameRuns rs rs
same_runs [] = tt
same_runs (r ∷ rs) = (refl, same_runs rs)

fresh_rows : (g : Given) (p : ℕ → Value) (rs : List Row) → Rowed g p rs → FreshRows g.form (φ g p) rs
fresh_rows g p [] f = tt
fresh_rows g p (r ∷ rs) f = (ap (λ (x : Row). x.worth) f.0, ap (λ (x : Row). x.reads) f.0, fresh_rows g p rs f.1)

among_first : (d : ℕ) (v : Value) (xs : List (ℕ × Value)) → Among d v xs → In d (firsts xs)
unfolding firsts
among_first d v [] x' = elim x' [ ]
among_first d v (x ∷ xs) (inl e) = inl e.0
among_first d v (x ∷ xs) (inr i) = inr (among_first d v xs i)

first_among : (d : ℕ) (xs : List (ℕ × Value)) → In d (firsts xs) → (v : Value) × Among d v xs
unfolding firsts
first_among d [] x' = elim x' [ ]
first_among d (x ∷ xs) (inl e) = (x.1, inl (e, refl))
first_among d (x ∷ xs) (inr i) = let r = first_among d xs i in (r.0, inr r.1)

recorded_by : (s : St) (e : ℕ) (xs : List (ℕ × Value)) → ReadsBy s.kind s.live s.dep s.sub e (firsts xs) → Recorded s e xs
recorded_by s e xs r = record {
  linked = λ d v i. let l = r.all d (among_first d v xs i) in (l.slot, l.is_live, l.to, l.from);
  read = λ l lv q rd. first_among (s.dep l) xs (r.only (s.dep l) (record { slot = l; is_live = lv; to = refl; from = q }) rd);
}

pub many_is : (p : Past) (s : St) (m n : ℕ) (rs : List Row) (o : Option Command) → (next p s m n rs o).many ≡ p.many + m
unfolding next
many_is p s m (suc n) rs o = refl
many_is p s m zero rs None = refl
many_is p s m zero rs (Some k) = refl

pub ours_is : (p : Past) (s : St) (m n : ℕ) (rs : List Row) (o : Option Command) → (next p s m n rs o).ours ≡ s
unfolding next
ours_is p s m (suc n) rs o = refl
ours_is p s m zero rs None = refl
ours_is p s m zero rs (Some k) = refl

-- ---- one call, where the engine is document 01's
abbrev as_ours : Course → Course
as_ours p = record { st = p.st; past = record { ours = p.st; many = p.past.many; nodes = p.past.nodes; depth = p.past.depth; last = p.past.last; reads = p.past.reads; writes = p.past.writes; found = p.past.found } }

is_ours : (p : Course) → p.past.ours ≡ p.st → p ≡ as_ours p
is_ours p e = ap (λ (o : St). let x : Course = record { st = p.st; past = record { ours = o; many = p.past.many; nodes = p.past.nodes; depth = p.past.depth; last = p.past.last; reads = p.past.reads; writes = p.past.writes; found = p.past.found } } in x) e

-- what one call is asked
abbrev Good : Course → Call → Type 0
Good p c = (now meant p c).past.many < 2 ^ 64 → Sound (now meant p c) × Right p.past c (seen (meant p.st c)) (now meant p c).past × Held (meant p.st c).st (now meant p c).past

module _ (p₀ : Course) (so : Sound (as_ours p₀)) (c : Call) where
  abbrev p : Past
  p = (as_ours p₀).past

  abbrev s : St
  s = p₀.st

  abbrev ws : List ℤ
  ws = c.words

  -- what is asked of the answer, but for its code; and of the state
  abbrev Fine : Answer → Past → Type 0
  Fine a q = ((k : Command) → command_of ws ≡ Some k → a.code ≡ 0 → RightRuns p k (seen a) q) × ((a.code ≡ 0 → ⊥) → (a.val ≡ nothing) × (a.rows ≡ [])) × Held a.st q

  -- an accepted command k leaves t and v, after j evaluations
  module _ (k : Command) (e : command_of ws ≡ Some k) (t : St) (v : Value) (j : ℕ) (f : Well s t) where
    abbrev rs : List Row
    rs = t.log

    abbrev a : Answer
    a = record { st = t; code = 0; val = v; rows = rs }

    abbrev last : ℕ → Value
    last = written p.nodes.size s.sto k p.last

    abbrev q : Past
    q = record { ours = t; many = p.many + j; nodes = ran (changed k p.nodes) rs; depth = depth_after k p.depth; last = last; reads = recorded p.reads rs; writes = writes_on (depth_after k p.depth) (p.writes && is_write k); found = found_on (depth_after k p.depth) (rested (λ e. p.found e || moved s.sto t.sto (p.reads e)) rs) }

    module _ (r : Step (as_ours p₀) k last (given t) t v j) where
      shows : Shows (given t) q.nodes
      shows = ran_shows (given t) rs (changed k p.nodes) r.shows

      told_of : LiveRows (changed k p.nodes) rs × ((m : ℕ) → m < t.size → t.gone m ≡ q.nodes.gone m)
      told_of = passes_told (given t) rs (changed k p.nodes) t.gone r.shows r.passes

      agrees : Agrees t q
      agrees = record {
        size = shows.size;
        kind = shows.kind;
        form = shows.form;
        owner = shows.owner;
        gone = told_of.1;
        depth = r.depth;
        pending = λ n h y. ap (λ (g : ℕ → Value). g n) r.keeps.last;
      }

      pub sound_after : Sound (record { st = t; past = q })
      sound_after =
          let x = r.spent in
          let y = so.cycle in
          record {
            formed = f.formed;
            goes = f.stuck ∙ so.goes;
            inv = r.keeps;
            unwritten = r.unwritten;
            cycle = omega arith;
            clean = tidy (depth_after k p.depth) r.depth;
            found = marked (depth_after k p.depth) r.depth;
            agrees = agrees;
            ours = refl;
          }
        where
          rested_now : t.depth ≡ 0 → Undirtied (given t) t
          rested_now z = undirtied (given t) (static t f.formed) last (recorded p.reads rs) t (rest_inside t f.formed) (f.formed.queued.at_depth_0 z)

          marked : (d : ℕ) → t.depth ≡ d → (m : ℕ) → m < t.size → t.kind m ≡ effect → t.gone m ≡ false → (t.fl m).dirty ≡ found_on d (rested (λ e. p.found e || moved s.sto t.sto (p.reads e)) rs) m
          marked zero z m h km a = rested_now z m h km a
          marked (suc d) z m h km a = r.found (λ w. omega arith) m h km a

          tidy : (d : ℕ) → t.depth ≡ d → writes_on d (p.writes && is_write k) ≡ true → Undirtied (given t) t
          tidy zero z y = rested_now z
          tidy (suc d) z y = r.clean (and_first p.writes (is_write k) y) (and_last p.writes (is_write k) y) (λ w. omega arith)

      -- the fresh values, as they were told
      values : φ (given t) last ≡ values_now q
      values = ap₂ (λ (kd : ℕ → Kind) (fm : ℕ → Tree). afresh_of kd fm last) shows.kind shows.form

      alive : (m : ℕ) → LiveEffect q.nodes m → (m < t.size) × (t.kind m ≡ effect) × (t.gone m ≡ false)
      alive m lm = let z = shows.size in let y = lm.0 in let h : m < t.size = omega arith in (h, ap (λ (kd : ℕ → Kind). kd m) shows.kind ∙ lm.1, told_of.1 m h ∙ lm.2)

      right_runs : RightRuns p k (seen a) q
      right_runs = record {
        value = r.value ∙ ap (λ (g : ℕ → Value). returned p.nodes.size g k) values;
        rows = subst (λ (fm : ℕ → Tree). FreshRows fm (values_now q) rs) shows.form (subst (λ (g : ℕ → Value). FreshRows t.form g rs) values (fresh_rows (given t) last rs r.fresh));
        once = no_two rs r.once;
        live = told_of.0;
        made = r.made;
        none_else = r.silent;
        exactly = λ cl. run_as (λ (g : ℕ → Value) (e : ℕ). Differs (p.reads e) g) (r.exact cl);
        runs = λ fl. run_as (λ (g : ℕ → Value) (e : ℕ). (p.found e ≡ true) ⊎ Differs (p.reads e) g) (r.runs fl);
      }
        where
          run_as : (C : (ℕ → Value) → ℕ → Type 0) → Runs (C (φ (given t) last)) (given t) rs t → Run (C (values_now q)) q.nodes rs
          run_as C x =
              let y = subst (λ (g : ℕ → Value). Runs (C g) (given t) rs t) values x in
              (λ e b. y.0 e (has_in e rs b), λ e lm d. let l = alive e lm in in_has e rs (y.1 e l.0 l.1 l.2 d))

      pub fine_after : Fine a q
      fine_after = (
        λ k' z y. subst (λ (b : Command). RightRuns p b (seen a) q) (same_some (sym e ∙ z)) right_runs,
        λ z. absurd (z refl),
        record {
          formed = f.formed;
          agrees = agrees;
          records = λ m lm. let l = alive m lm in recorded_by t m (recorded p.reads rs m) (r.keeps.rec m l.0 l.1 l.2 (λ z. z));
          ours = refl;
        },
      )

  -- by refusal number and command
  abbrev then : ℕ → Option Command → Past
  then n o = next p (answer n s ws).st (in_answer n s ws) (answer n s ws).code (answer n s ws).rows o

  abbrev Goes : ℕ → Option Command → Type 0
  Goes n o = Sound (record { st = (answer n s ws).st; past = then n o }) × Fine (answer n s ws) (then n o)

  refuses : (n : ℕ) (o : Option Command) → Goes (suc n) o
  unfolding answer next in_answer
  refuses n o =
      let y = so.cycle in
      let ag = so.agrees in
      let same : Agrees s (then (suc n) o) = record { size = ag.size; kind = ag.kind; form = ag.form; owner = ag.owner; gone = ag.gone; depth = ag.depth; pending = ag.pending } in (
        record { formed = so.formed; goes = so.goes; inv = so.inv; unwritten = so.unwritten; cycle = omega arith; clean = so.clean; found = so.found; agrees = same; ours = refl },
        (
          λ k z w. absurd (omega arith),
          λ z. (refl, refl),
          record {
            formed = so.formed;
            agrees = same;
            records = λ m lm. let z = ag.size in let w = lm.0 in let h : m < s.size = omega arith in
                recorded_by s m (p.reads m) (so.inv.rec m h (ap (λ (kd : ℕ → Kind). kd m) ag.kind ∙ lm.1) (ag.gone m h ∙ lm.2) (λ z. z));
            ours = refl;
          },
        ),
      )

  accepts : (o : Option Command) → command_of ws ≡ o → NoneHolds (table true (sight_of s c.rows) o) → Well s (perform_any (with_log s []) o).st → p.many + in_perform_any (with_log s []) o < 2 ^ 64
      → let a = accepted (perform_any (with_log s []) o) in let q = next p a.st (in_perform_any (with_log s []) o) 0 a.rows o in Sound (record { st = a.st; past = q }) × Fine a q
  unfolding perform_any in_perform_any next table unknown
  accepts None e h f few = false≢true (sym (h 1))
  accepts (Some k) e h f few =
      let y = so.cycle in
      let r = stepped (as_ours p₀) so c.rows k h (omega arith) in
      let d = perform (with_log s []) k in
      let j = inPerform (with_log s []) k in
      let r' : Step (as_ours p₀) k (written p.nodes.size s.sto k p.last) (given d.st) d.st d.val j =
      subst (λ (n : ℕ). Step (as_ours p₀) k (written n s.sto k p.last) (given d.st) d.st d.val j) so.agrees.size
      (subst (λ (g : Given). Step (as_ours p₀) k (written s.size s.sto k p.last) g d.st d.val j) (sym r.1.same) r.1) in
      (sound_after k e d.st d.val j f r', fine_after k e d.st d.val j f r')

  called : (n : ℕ) → ((answer n s ws).code ≡ 0 → NoneHolds (table true (sight_of s c.rows) (command_of ws))) → Well s (answer n s ws).st → p.many + in_answer n s ws < 2 ^ 64 → Goes n (command_of ws)
  unfolding answer in_answer
  called zero h f few = accepts (command_of ws) refl (h refl) f few
  called (suc n) h f few = refuses n (command_of ws)

  of_ours : Good (as_ours p₀) c
  unfolding command
  of_ours few =
      let n = refusal true (sight_of s c.rows) ws in
      let r = called n (accepted_exactly true s c.rows ws).0 (command_kept true s c.rows ws so.formed)
      (subst (λ (b : ℕ). b < 2 ^ 64) (many_is p (meant s c).st (in_answer n s ws) (meant s c).code (meant s c).rows (command_of ws)) few) in
      (r.0, record { code = refl; order = same_runs (meant s c).rows; accepted = r.1.0; refused = r.1.1 }, r.1.2)

pub one_call : (p : Course) → Sound p → (c : Call) → Good p c
one_call p so c = subst (λ (z : Course). Sound z → Good z c) (sym (is_ours p so.ours)) (λ x. of_ours p x c) so

-- ---- any history
begin_sound : (r : Room) → capacities r ≡ true → Sound (begin r)
unfolding empty
begin_sound r fits = record {
  formed = empty_well_formed r fits;
  goes = refl;
  inv = record {
    last = refl;
    ver = λ l lv. false≢true lv;
    sig = λ n h k d. absurd (omega arith);
    mark = λ l lv. false≢true lv;
    val = λ n h. absurd (omega arith);
    seen = λ n h. absurd (omega arith);
    rec = λ n h. absurd (omega arith);
  };
  unwritten = λ m h. refl;
  cycle = omega arith;
  clean = λ z n h. absurd (omega arith);
  found = λ e h. absurd (omega arith);
  agrees = record { size = refl; kind = refl; form = refl; owner = refl; gone = λ n h. refl; depth = refl; pending = λ n h. absurd (omega arith) };
  ours = refl;
}

many_after : (p : Course) (c : Call) → (now meant p c).past.many ≡ p.past.many + in_call p.past.ours c
many_after p c = many_is p.past (meant p.past.ours c).st (in_call p.past.ours c) (meant p.st c).code (meant p.st c).rows (command_of c.words)

-- evaluations only add up
many_grows : (p : Course) (h : List Call) → p.past.many ≤ (after meant p h).past.many
unfolding after
many_grows p [] = omega arith
many_grows p (c ∷ h) = let a = many_grows (now meant p c) h in let b = many_after p c in omega arith

after_sound : (p : Course) (h : List Call) → Sound p → (after meant p h).past.many < 2 ^ 64 → Sound (after meant p h)
unfolding after
after_sound p [] so few = so
after_sound p (c ∷ h) so few = let a = many_grows (now meant p c) h in after_sound (now meant p c) h (one_call p so c (omega arith)).0 few

pub demand3 : Demand3 meant
unfolding Demand3
demand3 r fits h c few =
    let p = after meant (begin r) h in
    let b = many_after p c in
    let x = one_call p (after_sound (begin r) h (begin_sound r fits) (omega arith)) c few in
    (x.1, x.2)
