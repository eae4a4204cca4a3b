-- What single steps do, read off the definitions: a run, unwatched, the gone mark. Assumes nothing.
use Rattle.std.specs.Prelude.{Option, None, Some}
use mathlib.Core.Path.{◌≡◌, refl, ap}
use mathlib.Core.Bool.{true, false}
use mathlib.Core.List.{List, [], ◌∷◌}
use Prim.Native.Nat.{ℕ, suc}
use Rattle.flags.specs.declared.Named.{Named}
use Rattle.meaning.specs.State.{St, effect, f0, f2, f6, f17, raised}
use Rattle.meaning.specs.Setters.{with_cycle, set_fl, set_gone}
use Rattle.meaning.specs.Links.{is_nil, head_of, each, cut, rewind, purge_w, last_link, dispose_w, unwatched_w, unlink_n, purge}
use Rattle.meaning.specs.Marks.{is_effect}
use Rattle.meaning.specs.Reads.{check, evaluate}
use Rattle.meaning.specs.Engine.{logged, rerun, run}
use Rattle.meaning.proofs.Laws.{clash, branch, provided_same, up_same}
use Rattle.meaning.proofs.Members.{is_nil-true, is_nil-false}

-- ---- a run
-- any run, by its cases
pub run_by : (P : St → Type 0) (s : St) (e : ℕ) → ((s.fl e).dirty ≡ true → P (rerun s e)) → ((s.fl e).pending ≡ true → (check s e).yes ≡ true → P (rerun (check s e).st e))
    → ((s.fl e).pending ≡ true → (check s e).yes ≡ false → P (set_fl (check s e).st e f2)) → ((s.fl e).pending ≡ false → P (set_fl s e f2)) → P (run s e)
unfolding run
run_by P s e a b c d = branch P (s.fl e).dirty a (λ x. branch P (s.fl e).pending (λ y. branch P (check s e).yes (b y) (c y)) d)

-- a rerun of an effect
pub rerun_is : (s : St) (e : ℕ) → s.kind e ≡ effect → rerun s e ≡ (let o = evaluate (set_fl (rewind (with_cycle s (raised s.cycle)) e) e f6) e in purge (set_fl (logged o e) e f2) e)
unfolding rerun
rerun_is s e k = provided_same _ _ (ap is_effect k)

-- an effect with no flag, as a gone one, does not run: its flags become 2
pub no_flag_no_run : (s : St) (e : ℕ) → s.fl e ≡ f0 → run s e ≡ set_fl s e f2
no_flag_no_run s e h =
    let d = ap (λ (f : Named). f.dirty) h in
    let p = ap (λ (f : Named). f.pending) h in
    run_by (λ (t : St). t ≡ set_fl s e f2) s e (λ x. clash x d) (λ x y. clash x p) (λ x y. clash x p) (λ x. refl)

-- its reads decide: a pending effect runs exactly if the check of them says so
pub reads_decide : (s : St) (e : ℕ) → (s.fl e).dirty ≡ false → (s.fl e).pending ≡ true
    → ((check s e).yes ≡ true → run s e ≡ rerun (check s e).st e) × ((check s e).yes ≡ false → run s e ≡ set_fl (check s e).st e f2)
reads_decide s e d p = (
  λ y. run_by (λ (t : St). t ≡ rerun (check s e).st e) s e (λ x. clash x d) (λ x z. refl) (λ x z. clash y z) (λ x. clash p x),
  λ y. run_by (λ (t : St). t ≡ set_fl (check s e).st e f2) s e (λ x. clash x d) (λ x z. clash z y) (λ x z. refl) (λ x. clash p x),
)

-- ---- unlink of the last subscriber link of a computed
-- by its two cases
last_by : (k : ℕ) (s : St) (l : ℕ) → s.live l ≡ true → (cut s l).subs (s.dep l) ≡ [] → ((cut s l).fl (s.dep l)).mutable ≡ true → (P : St → Type 0) → ((cut s l).done (s.dep l) ≡ [] → P (cut s l))
    → (((cut s l).done (s.dep l) ≡ [] → ⊥) → P (purge_w (unlink_n k) (set_fl (rewind (cut s l) (s.dep l)) (s.dep l) f17) (s.dep l))) → P (unlink_n (suc k) s l)
unfolding unlink_n unwatched_w
last_by k s l lv none_left mu P bare has =
    let c = cut s l in
    let d = s.dep l in
    branch P (s.live l)
    (λ a. branch P (is_nil (c.subs d))
    (λ b. branch P (c.fl d).mutable (λ m. branch P (is_nil (c.done d)) (λ e. bare (is_nil-true (c.done d) e)) (λ e. has (is_nil-false (c.done d) e))) (λ m. clash mu m))
    (λ b. clash (ap is_nil none_left) b))
    (λ a. clash lv a)

-- with dependencies it becomes 17, and they go
pub falls_by : (k : ℕ) (s : St) (l : ℕ) → s.live l ≡ true → (cut s l).subs (s.dep l) ≡ [] → ((cut s l).fl (s.dep l)).mutable ≡ true → ((cut s l).done (s.dep l) ≡ [] → ⊥)
    → unlink_n (suc k) s l ≡ purge_w (unlink_n k) (set_fl (rewind (cut s l) (s.dep l)) (s.dep l) f17) (s.dep l)
falls_by k s l lv none_left mu ne = last_by k s l lv none_left mu (λ (t : St). t ≡ purge_w (unlink_n k) (set_fl (rewind (cut s l) (s.dep l)) (s.dep l) f17) (s.dep l)) (λ e. absurd (ne e)) (λ e. refl)

-- without any it stays as it is: nothing happens but that the link goes
pub stays_by : (k : ℕ) (s : St) (l : ℕ) → s.live l ≡ true → (cut s l).subs (s.dep l) ≡ [] → ((cut s l).fl (s.dep l)).mutable ≡ true → (cut s l).done (s.dep l) ≡ [] → unlink_n (suc k) s l ≡ cut s l
stays_by k s l lv none_left mu bare = last_by k s l lv none_left mu (λ (t : St). t ≡ cut s l) (λ e. refl) (λ ne. absurd (ne bare))

-- ---- the gone mark: an unlink that keeps it leaves it to the end of a disposal
pub dispose_marks : (ul : St → ℕ → St) (s : St) (x : ℕ) → ((t : St) (l : ℕ) → t.gone x ≡ true → (ul t l).gone x ≡ true) → (dispose_w ul s x).gone x ≡ true
unfolding dispose_w last_link each
dispose_marks ul s x keeps =
    let a = set_gone (set_fl (rewind s x) x f0) x true in
    let t = purge_w ul a x in
    last t (head_of (t.subs x)) (all (a.rest x) a (up_same s.gone x true))
  where
    all : (ls : List ℕ) (t : St) → t.gone x ≡ true → (each ul t ls).gone x ≡ true
    all [] t e = e
    all (l ∷ ls) t e = all ls (ul t l) (keeps t l e)

    last : (t : St) (o : Option ℕ) → t.gone x ≡ true → (last_link ul t o).gone x ≡ true
    last t None e = e
    last t (Some l) e = keeps t l e
