-- A flush runs live effects only, none twice, and what a run effect owned is gone, and nothing else: so its rows are at most the effects live at entry. Assumes nothing.
use Rattle.std.specs.Prelude.{Some}
use mathlib.Core.Path.{◌≡◌, refl, sym, ap, ap₂, ◌∙◌, subst}
use mathlib.Core.Logic.{◌⊎◌, inl, inr}
use mathlib.Core.Bool.{Bool, true, false, not, ◌&&◌}
use mathlib.Core.List.{List, [], ◌∷◌, ◌++◌, append_assoc, append-nil}
use Prim.Native.Nat.{ℕ, suc, ◌≤◌, ◌<◌}
use native.Mathlib.Omega.{arith}
use lib.ListN.{length, length-append}
use Rattle.values.specs.Values.{same}
use Rattle.lists.specs.Sum.{bit}
use Rattle.meaning.specs.State.{St, Kind, effect, Row, readable, f0}
use Rattle.meaning.specs.Setters.{with_queue}
use Rattle.meaning.specs.Marks.{is_effect}
use Rattle.meaning.specs.Engine.{run, flush_on, flush}
use Rattle.meaning.specs.Refusals.{live_effects}
use Rattle.meaning.specs.Owners.{Below, Owned}
use Rattle.meaning.specs.WellFormed.{In}
use Rattle.meaning.proofs.Laws.{clash, either}
use Rattle.meaning.proofs.Members.{most_marked}
use Rattle.meaning.proofs.Owning.{owned_known}
use Rattle.meaning.proofs.Steps.{no_flag_no_run}
use Rattle.meaning.proofs.Still.{Given}
use Rattle.meaning.proofs.Kept.{run_keeps, flush_on-keeps}
use Rattle.meaning.proofs.Flush.{Logs, run_logs, run_queues_nothing, Ran, end, quiet, ran, whos, ran_once, ran_in}
use Rattle.meaning.proofs.Inside.{nobody, Static, Inside}
use Rattle.meaning.proofs.Binding.{SameReads, reads_same, reads_then}
use Rattle.meaning.proofs.Running.{run_inside}

-- ---- the rows of a flush
module _ (g : Given) (st : Static g) where
  -- the rows of q, from s on, and their effects are live in s
  pub record Rows (s t : St) (q : List ℕ) : Type 0 where
    pub rows : List Row
    pub logged : t.log ≡ s.log ++ rows
    pub ran : Ran rows q
    pub lives : (e : ℕ) → In e (whos rows) → s.gone e ≡ false
    -- what they owned is gone
    pub disposed : (e y : ℕ) → In e (whos rows) → y < g.size → g.owner y ≡ Some e → t.gone y ≡ true
    -- and nothing else goes
    pub goes : (n : ℕ) → n < g.size → readable (g.kind n) ≡ false → s.gone n ≡ false → t.gone n ≡ true → (e : ℕ) × In e (whos rows) × Owned g.owner e n
    -- an effect that is still live and has no row keeps its read links
    pub reads : (m : ℕ) → m < g.size → g.kind m ≡ effect → t.gone m ≡ false → (In m (whos rows) → ⊥) → SameReads g.kind s t m

  pub flush_rows_lem : (q : List ℕ) (s : St) → Inside g nobody s → s.queue ≡ q → Rows s (flush_on s q) q
  unfolding flush_on whos
  flush_rows_lem [] s i is = record { rows = []; logged = sym (append-nil s.log); ran = end; lives = λ e j. absurd j; disposed = λ e y j. absurd j; goes = λ n h r a b. clash b a; reads = λ m h k a n. reads_same g.kind s m }
  flush_rows_lem (e ∷ q) s i is =
      let x = i.effects e (subst (In e) (sym is) (inl refl)) in
      let r = run_inside g st e x.0 x.1 s q i is in
      let t = run (with_queue s q) e in
      go r.reads r.disposed r.spared ((i.rests e x.0 (λ z. z)).queued (subst (In e) (sym is) (inl refl))) (run_logs (with_queue s q) e) (flush_rows_lem q t r.inside (run_queues_nothing (with_queue s q) e))
    where
      -- who is live after the run was so before
      before : (n : ℕ) → (run (with_queue s q) e).gone n ≡ false → s.gone n ≡ false
      before n a = either (s.gone n) (λ b. clash ((run_keeps (with_queue s q) e).gone n b) a) (λ b. b)

      -- who is live after the flush was so after the run
      after_run : (n : ℕ) → (flush_on (run (with_queue s q) e) q).gone n ≡ false → (run (with_queue s q) e).gone n ≡ false
      after_run n a = either ((run (with_queue s q) e).gone n) (λ b. clash ((flush_on-keeps q (run (with_queue s q) e)).gone n b) a) (λ b. b)

      go : ((m : ℕ) → m < g.size → g.kind m ≡ effect → (run (with_queue s q) e).gone m ≡ false → SameReads g.kind s (run (with_queue s q) e) m ⊎ ((m ≡ e) × ((run (with_queue s q) e).log ≡ s.log → ⊥)))
          → (((run (with_queue s q) e).log ≡ s.log → ⊥) → (y : ℕ) → y < g.size → g.owner y ≡ Some e → (run (with_queue s q) e).gone y ≡ true)
          → ((m : ℕ) → readable (g.kind m) ≡ false → (((run (with_queue s q) e).log ≡ s.log → ⊥) → Below g.owner e m × (m ≡ e → ⊥) → ⊥) → (run (with_queue s q) e).gone m ≡ s.gone m) → (s.gone e ≡ true → s.fl e ≡ f0) → Logs (with_queue s q) e (run (with_queue s q) e) → Rows (run (with_queue s q) e) (flush_on (run (with_queue s q) e) q) q → Rows s (flush_on (run (with_queue s q) e) q) (e ∷ q)
      go rd own spare calm (inl p) f = record {
        rows = f.rows;
        logged = f.logged ∙ ap (λ (l : List Row). l ++ f.rows) p;
        ran = quiet f.ran;
        lives = λ n j. before n (f.lives n j);
        disposed = f.disposed;
        goes = λ n h r a b. f.goes n h r (spare n r (λ z. absurd (z p)) ∙ a) b;
        reads = λ m h k a n. reads_then g.kind s _ _ m (only_same m (rd m h k (after_run m a))) (f.reads m h k a n);
      }
        where
          only_same : (m : ℕ) → SameReads g.kind s (run (with_queue s q) e) m ⊎ ((m ≡ e) × ((run (with_queue s q) e).log ≡ s.log → ⊥)) → SameReads g.kind s (run (with_queue s q) e) m
          only_same m (inl r) = r
          only_same m (inr z) = absurd (z.1 p)
      go rd own spare calm (inr p) f = record {
        rows = p.0 ∷ f.rows;
        logged = f.logged ∙ ap (λ (l : List Row). l ++ f.rows) p.2 ∙ append_assoc s.log (p.0 ∷ []) f.rows;
        ran = ran p.1 f.ran;
        lives = here;
        disposed = λ n y j h q. owned_by n y j h q;
        goes = λ n h r a b. either ((run (with_queue s q) e).gone n) (λ z. of_e n r a z (owned_known g.owner g.size st.owner_lower e n h)) (λ z. later n (f.goes n h r z b));
        reads = λ m h k a n. reads_then g.kind s _ _ m (other_same m (λ z. n (inl (z ∙ sym p.1))) (rd m h k (after_run m a))) (f.reads m h k a (λ j. n (inr j)));
      }
        where
          other_same : (m : ℕ) → (m ≡ e → ⊥) → SameReads g.kind s (run (with_queue s q) e) m ⊎ ((m ≡ e) × ((run (with_queue s q) e).log ≡ s.log → ⊥)) → SameReads g.kind s (run (with_queue s q) e) m
          other_same m ne (inl r) = r
          other_same m ne (inr z) = absurd (ne z.0)

          has_row : (run (with_queue s q) e).log ≡ s.log → ⊥
          has_row same =
              let b = ap length (sym same ∙ p.2) in
              let c = length-append s.log (p.0 ∷ []) in
              omega arith

          of_e : (n : ℕ) → readable (g.kind n) ≡ false → s.gone n ≡ false → (run (with_queue s q) e).gone n ≡ true → Owned g.owner e n ⊎ (Below g.owner e n × (n ≡ e → ⊥) → ⊥)
              → (d : ℕ) × In d (p.0.who ∷ whos f.rows) × Owned g.owner d n
          of_e n r a b (inl z) = (e, inl (sym p.1), z)
          of_e n r a b (inr z) = clash b (spare n r (λ w. z) ∙ a)

          later : (n : ℕ) → (d : ℕ) × In d (whos f.rows) × Owned g.owner d n → (d : ℕ) × In d (p.0.who ∷ whos f.rows) × Owned g.owner d n
          later n z = (z.0, inr z.1, z.2)

          -- a gone effect has no flag and does not run
          not_gone : s.gone e ≡ true → ⊥
          not_gone a = has_row (ap (λ (z : St). z.log) (no_flag_no_run (with_queue s q) e (calm a)))

          owned_by : (n y : ℕ) → In n (p.0.who ∷ whos f.rows) → y < g.size → g.owner y ≡ Some n → (flush_on (run (with_queue s q) e) q).gone y ≡ true
          owned_by n y (inl z) h o = (flush_on-keeps q (run (with_queue s q) e)).gone y (own has_row y h (o ∙ ap Some (z ∙ p.1)))
          owned_by n y (inr j) h o = f.disposed n y j h o

          here : (n : ℕ) → In n (p.0.who ∷ whos f.rows) → s.gone n ≡ false
          here n (inl z) = subst (λ (k : ℕ). s.gone k ≡ false) (sym (z ∙ p.1)) (either (s.gone e) (λ a. absurd (not_gone a)) (λ a. a))
          here n (inr j) = before n (f.lives n j)

whos_length : (rs : List Row) → length (whos rs) ≡ length rs
unfolding whos
whos_length [] = refl
whos_length (r ∷ rs) = ap suc (whos_length rs)

-- at most the effects live at entry
pub flush_few : (g : Given) (st : Static g) (s : St) → Inside g nobody s → (rs : List Row) × ((flush s).log ≡ s.log ++ rs) × (length rs ≤ live_effects s)
unfolding live_effects
flush_few g st s i =
    let f = flush_rows_lem g st s.queue s i refl in
    let rs = f.rows in
    let k : s.size ≡ g.size = ap (λ (z : Given). z.size) i.same in
    let a = most_marked (λ n. bit (is_effect (s.kind n) && not (s.gone n))) s.size (whos rs) (ran_once f.ran i.once)
    (λ e j. let x = i.effects e (ran_in e f.ran j) in
    let lo = x.0 in
    let one : bit (is_effect (s.kind e) && not (s.gone e)) ≡ 1 = ap₂ (λ (k : Kind) (b : Bool). bit (is_effect k && not b)) (ap (λ (z : Given). z.kind e) i.same ∙ x.1) (f.lives e j) in
    (omega arith, omega arith)) in
    let b = whos_length rs in
    (rs, f.logged, omega arith)
