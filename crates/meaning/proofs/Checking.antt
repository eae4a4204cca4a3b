-- A dirty check that is not stuck is the plain depth-first look along dependencies, up to the first that has changed (specs/Checks). Assumes nothing.
use mathlib.Core.Path.{◌≡◌, refl, sym, ap, ◌∙◌, subst}
use mathlib.Core.Bool.{Bool, true, false, not, ◌&&◌}
use mathlib.Core.List.{List, [], ◌∷◌}
use Prim.Native.Nat.{ℕ, zero, suc}
use Rattle.flags.specs.declared.Named.{Named}
use Rattle.meaning.specs.State.{St, Kind, deps, bare, with_pending}
use Rattle.meaning.specs.Setters.{set_fl}
use Rattle.meaning.specs.Links.{provided, is_nil, several}
use Rattle.meaning.specs.Reads.{Ans, ans, first_w, upd_w, same_slots, steady, check_on, check_w, pending_w, fresh_w, fresh}
use Rattle.meaning.specs.Moments.{Steps}
use Rattle.meaning.specs.Checks.{Place, along, at, tells, Looked, ends, knows, passes, goes_on, stops, clean, updates, clears, follows, Updated, Checks}
use Rattle.meaning.proofs.Laws.{clash, false≢true, branch, provided_by, or_first, or_left}
use Rattle.meaning.proofs.Rings.{upd_ring, check_on-ring, check_w-ring}
use Rattle.meaning.proofs.Still.{Still, Fixed, renews_still}
use Rattle.meaning.proofs.Throughout.{unstuck}
use Rattle.meaning.proofs.Stepped.{runs}

-- ---- single steps
pub provided_free : (b : Bool) (t : St) → (provided b t).stuck ≡ false → provided b t ≡ t
provided_free b t = provided_by (λ (x : St). x.stuck ≡ false → x ≡ t) b (λ z. refl) (λ z. clash refl z)

steady_free : (was : List ℕ) (t : St) (d : ℕ) → (steady was t d).stuck ≡ false → steady was t d ≡ t
unfolding steady
steady_free was t d = provided_free (same_slots was (t.subs d) && not (is_nil was)) t

pub tells_free : (t : St) (d : ℕ) → (tells t d).stuck ≡ false → t.stuck ≡ false
tells_free t d = branch (λ (x : St). x.stuck ≡ false → t.stuck ≡ false) (several (t.subs d)) (λ e z. or_left t.stuck _ z) (λ e z. z)

-- what moves has a flag
not_bare : (f : Named) → f.mutable ≡ true → bare f ≡ false
not_bare f e = ap not (or_first f.mutable _ e)

-- ---- what the check of u along its links comes to, and what one dependency d does, unless it is stuck
record Comes (u : ℕ) (ls : List ℕ) (s : St) (a : Ans) : Type 0 where
  pub looks : a.st.stuck ≡ false → Looked Updated (along u ls) s a.st a.yes

pub record Shows (d : ℕ) (s : St) (a : Ans) : Type 0 where
  pub looks : a.st.stuck ≡ false → Looked Updated (at d) s a.st a.yes

record Does (d : ℕ) (s : St) (a : Ans) : Type 0 where
  pub updates : a.st.stuck ≡ false → Updated s d a.st a.yes

abbrev pub Asked : ℕ → Type 0
Asked k = (s : St) (d : ℕ) → (s.fl d).mutable ≡ true → Shows d s (fresh k s d)

-- the first link of those that are left: t and b are what its dependency comes to, more and past what the links after it come to
one_link : (u l : ℕ) (ls : List ℕ) (s t : St) (b : Bool) (more past : Ans)
    → ((s.fl (s.dep l)).mutable ≡ true → t.stuck ≡ false → Looked Updated (at (s.dep l)) s t b) → Steps t more.st → Comes u ls t more → Comes u ls s past
    → Comes u (l ∷ ls) s (elim (s.fl u).dirty [ true ↦ ans s true | false ↦ elim (s.fl (s.dep l)).mutable [ true ↦ elim b [ true ↦ ans (tells t (s.dep l)) true | false ↦ more ] | false ↦ past ] ])
one_link u l ls s t b more past seen steps then beyond =
    branch (Comes u (l ∷ ls) s) (s.fl u).dirty (λ e. record { looks = λ z. knows e })
    (λ e. branch (Comes u (l ∷ ls) s) (s.fl (s.dep l)).mutable
    (λ m. branch (Comes u (l ∷ ls) s) b
    (λ y. record { looks = λ z. stops e m (subst (Looked Updated (at (s.dep l)) s t) y (seen m (tells_free t (s.dep l) z))) })
    (λ y. record { looks = λ z. goes_on e m (subst (Looked Updated (at (s.dep l)) s t) y (seen m (unstuck t more.st steps z))) (then.looks z) }))
    (λ m. record { looks = λ z. passes e m (beyond.looks z) }))

-- a dependency d, by its flags: c is what its own check comes to, now and later what an update of it comes to without and after that check
one_node : (s : St) (d : ℕ) (first c now later : Ans) → (s.fl d).mutable ≡ true → Does d s now → Steps c.st later.st → Comes d (deps s d) s c → Does d c.st later
    → Shows d s (elim (bare (s.fl d)) [ true ↦ first | false ↦ elim (s.fl d).dirty [ true ↦ now | false ↦ elim (s.fl d).pending [ true ↦ elim c.yes [ true ↦ later | false ↦ ans (set_fl c.st d (with_pending (c.st.fl d) false)) false ] | false ↦ ans s false ] ] ])
one_node s d first c now later m at_once steps checked after =
    branch (Shows d s) (bare (s.fl d)) (λ e. clash e (not_bare (s.fl d) m))
    (λ e. branch (Shows d s) (s.fl d).dirty (λ f. record { looks = λ z. updates f (at_once.updates z) })
    (λ f. branch (Shows d s) (s.fl d).pending
    (λ p. branch (Shows d s) c.yes
    (λ y. record { looks = λ z. follows f p (subst (Looked Updated (along d (deps s d)) s c.st) y (checked.looks (unstuck c.st later.st steps z))) (after.updates z) })
    (λ y. record { looks = λ z. clears f p (subst (Looked Updated (along d (deps s d)) s c.st) y (checked.looks z)) }))
    (λ p. record { looks = λ z. clean f p })))

-- ---- asked of the ring: it is made of steps, so what is stuck stays so, and kinds stay
record Ring : Type 0 where
  pub along_steps : (k u : ℕ) (ls : List ℕ) (s : St) → Steps s (check_on (fresh k) u s ls).st
  pub update_steps : (k : ℕ) (c : Kind) (s : St) (n : ℕ) → Steps s (upd_w (fresh k) c s n).st
  pub kinds : (k : ℕ) (s : St) (u n : ℕ) → (check_w (fresh k) s u).st.kind n ≡ s.kind n

module _ (ring : Ring) (k : ℕ) (asked : Asked k) where
  -- a dependency d, where the subscriber list that the walk goes back by is what it was
  looks_back : (was : List ℕ) (s : St) (d : ℕ) → (s.fl d).mutable ≡ true → (steady was (fresh k s d).st d).stuck ≡ false → Looked Updated (at d) s (steady was (fresh k s d).st d) (fresh k s d).yes
  looks_back was s d m z =
      let r = fresh k s d in
      let e = steady_free was r.st d z in
      subst (λ (x : St). Looked Updated (at d) s x r.yes) (sym e) ((asked s d m).looks (ap (λ (x : St). x.stuck) (sym e) ∙ z))

  looks_along : (u : ℕ) (ls : List ℕ) (s : St) → Comes u ls s (check_on (fresh k) u s ls)
  unfolding check_on
  looks_along u [] s = record { looks = λ z. ends }
  looks_along u (l ∷ ls) s =
      let d = s.dep l in
      let t = steady (s.subs d) (fresh k s d).st d in
      one_link u l ls s t (fresh k s d).yes (check_on (fresh k) u t ls) (check_on (fresh k) u s ls) (looks_back (s.subs d) s d) (ring.along_steps k u ls t) (looks_along u ls t) (looks_along u ls s)

  looks_whole : (s : St) (u : ℕ) → Comes u (deps s u) s (check_w (fresh k) s u)
  unfolding check_w
  looks_whole s u = branch (Comes u (deps s u) s) (is_nil (deps s u)) (λ e. record { looks = λ z. clash refl z }) (λ e. looks_along u (deps s u) s)

  looks_at : Asked (suc k)
  unfolding fresh fresh_w pending_w
  looks_at s d m =
      let c = check_w (fresh k) s d in
      one_node s d (ans (first_w (fresh k) s d) false) c (upd_w (fresh k) (s.kind d) s d) (upd_w (fresh k) (s.kind d) c.st d) m (record { updates = λ z. (k, refl, z) })
      (ring.update_steps k (s.kind d) c.st d) (looks_whole s d) (record { updates = λ z. (k, ap (λ (x : Kind). upd_w (fresh k) x c.st d) (ring.kinds k s d d), z) })

all_look : (ring : Ring) (k : ℕ) → Asked k
unfolding fresh
all_look ring zero = λ s d m. record { looks = λ z. clash refl z }
all_look ring (suc k) = looks_at ring k (all_look ring k)

-- ---- so it is, with any budget
the_ring : Ring
the_ring = record {
  along_steps = check_on-ring Steps runs.renews;
  update_steps = upd_ring Steps runs.renews;
  kinds = λ k s u n. ap (λ (f : Fixed). f.nodes.kind n) (check_w-ring Still renews_still k s u).same;
}

pub fresh_looks : (k : ℕ) → Asked k
fresh_looks = all_look the_ring

pub check_looks : (k : ℕ) (s : St) (u : ℕ) → (check_w (fresh k) s u).st.stuck ≡ false → Checks s u (check_w (fresh k) s u).st (check_w (fresh k) s u).yes
check_looks k s u = (looks_whole the_ring k (fresh_looks k) s u).looks

-- ---- the specification tells one check, no two, where an update comes to one end
abbrev pub OneEnd : (St → ℕ → St → Bool → Type 0) → Type 0
OneEnd U = (s : St) (d : ℕ) (t x : St) (b c : Bool) → U s d t b → U s d x c → (t ≡ x) × (b ≡ c)

module _ {U : St → ℕ → St → Bool → Type 0} (one : OneEnd U) where
  pub looked_one : {p : Place} {s t x : St} {b c : Bool} → Looked U p s t b → Looked U p s x c → (t ≡ x) × (b ≡ c)
  looked_one ends ends = (refl, refl)
  looked_one (knows e) (knows f) = (refl, refl)
  looked_one (knows e) (passes f m h) = clash e f
  looked_one (knows e) (goes_on f m h i) = clash e f
  looked_one (knows e) (stops f m h) = clash e f
  looked_one (passes e m h) (knows f) = clash f e
  looked_one (passes e m h) (passes f n i) = looked_one h i
  looked_one (passes e m h) (goes_on f n i j) = clash n m
  looked_one (passes e m h) (stops f n i) = clash n m
  looked_one (goes_on e m h i) (knows f) = clash f e
  looked_one (goes_on e m h i) (passes f n j) = clash m n
  looked_one {x = x} {c = c} (goes_on {u = u} {ls = ls} e m h i) (goes_on f n j k) = looked_one i (subst (λ (y : St). Looked U (along u ls) y x c) (sym (looked_one h j).0) k)
  looked_one (goes_on e m h i) (stops f n j) = false≢true (looked_one h j).1
  looked_one (stops e m h) (knows f) = clash f e
  looked_one (stops e m h) (passes f n i) = clash m n
  looked_one (stops e m h) (goes_on f n i j) = false≢true (sym (looked_one h i).1)
  looked_one {s = s} (stops {l = l} e m h) (stops f n i) = (ap (λ (y : St). tells y (s.dep l)) (looked_one h i).0, refl)
  looked_one (clean e p) (clean f q) = (refl, refl)
  looked_one (clean e p) (updates f v) = clash f e
  looked_one (clean e p) (clears f q h) = clash q p
  looked_one (clean e p) (follows f q h v) = clash q p
  looked_one (updates e v) (clean f p) = clash e f
  looked_one (updates e v) (updates f w) = one _ _ _ _ _ _ v w
  looked_one (updates e v) (clears f p h) = clash e f
  looked_one (updates e v) (follows f p h w) = clash e f
  looked_one (clears e p h) (clean f q) = clash p q
  looked_one (clears e p h) (updates f v) = clash f e
  looked_one (clears {d = d} e p h) (clears f q i) = (ap (λ (y : St). set_fl y d (with_pending (y.fl d) false)) (looked_one h i).0, refl)
  looked_one (clears e p h) (follows f q i v) = false≢true (looked_one h i).1
  looked_one (follows e p h v) (clean f q) = clash p q
  looked_one (follows e p h v) (updates f w) = clash f e
  looked_one (follows e p h v) (clears f q i) = false≢true (sym (looked_one h i).1)
  looked_one {x = x} {c = c} (follows {d = d} e p h v) (follows f q i w) = one _ d _ x _ c v (subst (λ (y : St). U y d x c) (sym (looked_one h i).0) w)
