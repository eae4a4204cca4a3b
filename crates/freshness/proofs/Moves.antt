-- What an operation does to values and DIRTY: a stored value stays or becomes the fresh one, below b; outside N DIRTY stays,
-- comes only where a dependency's stored value changed, and comes to what is pending where one did, but for a change in E; the cycle is raised at most k times. Assumes nothing.
use mathlib.Core.Path.{◌≡◌, refl, sym, ap, ◌∙◌, subst}
use mathlib.Core.Logic.{◌⊎◌, inl, inr}
use mathlib.Core.Bool.{true, false}
use Prim.Native.Nat.{ℕ, ◌+◌, ◌≤◌, ◌<◌}
use native.Mathlib.Omega.{arith}
use lib.Dec.{eqb}
use borrow.Author.Tests.{eqb-true, eqb-false}
use Rattle.flags.specs.declared.Named.{Named}
use Rattle.values.specs.declared.Value.{Value}
use Rattle.meaning.specs.State.{St, signal, readable}
use Rattle.meaning.specs.Marks.{soil, shallow}
use Rattle.meaning.specs.WellFormed.{In}
use Rattle.meaning.proofs.Laws.{clash, either}
use Rattle.meaning.proofs.Still.{Given}
use Rattle.meaning.proofs.Inside.{Set, nobody, only, Slots}
use Rattle.meaning.proofs.Frames.{Frame, was_link}
use Rattle.meaning.proofs.Soiling.{Turn, stays, turns, soil_turn}
use Rattle.freshness.proofs.Clean.{φ}
use Rattle.meaning.proofs.Soiling.{soil_here}

-- a dependency of u has another stored value
pub record Changed (g : Given) (s t : St) (u : ℕ) : Type 0 where
  pub link : ℕ
  pub live : s.live link ≡ true
  pub to : s.sub link ≡ u
  pub reads : readable (g.kind (s.dep link)) ≡ true
  pub new : t.sto (s.dep link) ≡ s.sto (s.dep link) → ⊥

pub record Moves (g : Given) (p : ℕ → Value) (N E : Set) (b k : ℕ) (s t : St) : Type 0 where
  pub moved : (m : ℕ) → (t.sto m ≡ s.sto m) ⊎ ((t.sto m ≡ φ g p m) × (m < b))
  pub soiled : (u : ℕ) → (N u → ⊥) → (g.kind u ≡ signal → ⊥) → (s.fl u).dirty ≡ false → (t.fl u).dirty ≡ true → Changed g s t u
  pub dirty : (u : ℕ) → (N u → ⊥) → (g.kind u ≡ signal → ⊥) → (s.fl u).dirty ≡ true → (t.fl u).dirty ≡ true
  pub touch : (l : ℕ) → s.live l ≡ true → (N (s.sub l) → ⊥) → (g.kind (s.sub l) ≡ signal → ⊥) → (E (s.dep l) → ⊥) → (s.fl (s.sub l)).pending ≡ true → (t.sto (s.dep l) ≡ s.sto (s.dep l)) ⊎ ((t.fl (s.sub l)).dirty ≡ true)
  pub later : s.cycle ≤ t.cycle
  pub spent : t.cycle ≤ s.cycle + k

-- a stored value that stayed, or became the fresh one
abbrev Fate : Given → (ℕ → Value) → ℕ → St → St → ℕ → Type 0
Fate g p b s t m = (t.sto m ≡ s.sto m) ⊎ ((t.sto m ≡ φ g p m) × (m < b))

module _ (g : Given) (p : ℕ → Value) (b : ℕ) (s t x : St) (a : (m : ℕ) → Fate g p b s t m) (q : (m : ℕ) → Fate g p b t x m) where
  -- changed once, it is fresh and changes no more
  kept : (m : ℕ) → (t.sto m ≡ s.sto m → ⊥) → Fate g p b s t m → Fate g p b t x m → x.sto m ≡ s.sto m → ⊥
  kept m n (inl y) z e = n y
  kept m n (inr y) (inl z) e = n (sym z ∙ e)
  kept m n (inr y) (inr z) e = n (y.0 ∙ sym z.0 ∙ e)

  new : (m : ℕ) → (x.sto m ≡ t.sto m → ⊥) → Fate g p b s t m → Fate g p b t x m → x.sto m ≡ s.sto m → ⊥
  new m n y (inl z) e = n z
  new m n (inl y) (inr z) e = n (e ∙ sym y)
  new m n (inr y) (inr z) e = n (z.0 ∙ sym y.0)

  -- a change on the way is one at the end
  pub changed_before : (u : ℕ) → Changed g s t u → Changed g s x u
  changed_before u w = record { link = w.link; live = w.live; to = w.to; reads = w.reads; new = kept (s.dep w.link) w.new (a (s.dep w.link)) (q (s.dep w.link)) }

  pub changed_after : (N : Set) (c : ℕ) → Slots g s → Slots g t → Frame g N c s t → (u : ℕ) → (N u → ⊥) → Changed g t x u → Changed g s x u
  changed_after N c sl tl f u h w =
      let y = was_link g N c s t sl tl f w.link u w.live w.to h in
      let e : t.dep w.link ≡ s.dep w.link = y.2 in
      record {
        link = w.link;
        live = y.0;
        to = y.1;
        reads = subst (λ (n : ℕ). readable (g.kind n) ≡ true) e w.reads;
        new = new (s.dep w.link) (subst (λ (n : ℕ). x.sto n ≡ t.sto n → ⊥) e w.new) (a (s.dep w.link)) (q (s.dep w.link));
      }

module _ (g : Given) (p : ℕ → Value) (N E : Set) (b : ℕ) where
  -- a step that changes flags in N and values in E
  pub moves_flags : (k : ℕ) (s t : St) → ((m : ℕ) → (t.sto m ≡ s.sto m) ⊎ ((t.sto m ≡ φ g p m) × (m < b))) → ((m : ℕ) → (E m → ⊥) → t.sto m ≡ s.sto m)
      → s.cycle ≤ t.cycle → t.cycle ≤ s.cycle + k
      → ((m : ℕ) → (N m → ⊥) → (g.kind m ≡ signal → ⊥) → t.fl m ≡ s.fl m) → Moves g p N E b k s t
  moves_flags k s t e₁ e₀ e₂ e₃ fs = record {
    moved = e₁;
    soiled = λ u h q a c. clash c (ap (λ (x : Named). x.dirty) (fs u h q) ∙ a);
    dirty = λ u h q a. ap (λ (x : Named). x.dirty) (fs u h q) ∙ a;
    touch = λ l lv h q e a. inl (e₀ (s.dep l) e);
    later = e₂;
    spent = e₃;
  }

  pub moves_same : (s : St) → Moves g p N E b 0 s s
  moves_same s = moves_flags 0 s s (λ m. inl refl) (λ m h. refl) (omega arith) (omega arith) (λ m h q. refl)

  pub moves_then : (c j k : ℕ) (s t x : St) → Slots g s → Slots g t → Frame g N c s t → Moves g p N E b j s t → Moves g p N E b k t x → Moves g p N E b (j + k) s x
  moves_then c j k s t x sl tl f a q =
      let h₁ = a.later in
      let h₂ = a.spent in
      let h₃ = q.later in
      let h₄ = q.spent in
      record {
        moved = λ m. both m (a.moved m) (q.moved m);
        soiled = λ u h z d e. either (t.fl u).dirty (λ w. changed_before g p b s t x a.moved q.moved u (a.soiled u h z d w)) (λ w. changed_after g p b s t x a.moved q.moved N c sl tl f u h (q.soiled u h z w e));
        dirty = λ u h z d. q.dirty u h z (a.dirty u h z d);
        touch = λ l lv h z e d. still l lv h z e d (a.touch l lv h z e d);
        later = omega arith;
        spent = omega arith;
      }
    where
      both : (m : ℕ) → (t.sto m ≡ s.sto m) ⊎ ((t.sto m ≡ φ g p m) × (m < b)) → (x.sto m ≡ t.sto m) ⊎ ((x.sto m ≡ φ g p m) × (m < b)) → (x.sto m ≡ s.sto m) ⊎ ((x.sto m ≡ φ g p m) × (m < b))
      both m y (inr z) = inr z
      both m (inl y) (inl z) = inl (z ∙ y)
      both m (inr y) (inl z) = inr (z ∙ y.0, y.1)

      still : (l : ℕ) → s.live l ≡ true → (N (s.sub l) → ⊥) → (g.kind (s.sub l) ≡ signal → ⊥) → (E (s.dep l) → ⊥) → (s.fl (s.sub l)).pending ≡ true → (t.sto (s.dep l) ≡ s.sto (s.dep l)) ⊎ ((t.fl (s.sub l)).dirty ≡ true)
          → (x.sto (s.dep l) ≡ s.sto (s.dep l)) ⊎ ((x.fl (s.sub l)).dirty ≡ true)
      still l lv h z e d (inr y) = inr (q.dirty (s.sub l) h z y)
      still l lv h z e d (inl y) =
          let w = f.links l lv h in
          let go : (x.sto (t.dep l) ≡ t.sto (t.dep l)) ⊎ ((x.fl (t.sub l)).dirty ≡ true) → (x.sto (s.dep l) ≡ s.sto (s.dep l)) ⊎ ((x.fl (s.sub l)).dirty ≡ true) =
          λ o. elim o [
            | inl c ↦ inl (subst (λ (n : ℕ). x.sto n ≡ t.sto n) w.1 c ∙ y)
            | inr c ↦ inr (subst (λ (n : ℕ). (x.fl n).dirty ≡ true) w.2 c)
          ] in
          go (q.touch l w.0 (λ n. h (subst N w.2 n)) (λ k. z (ap g.kind (sym w.2) ∙ k)) (λ n. e (subst E w.1 n))
          (subst (λ (n : ℕ). (t.fl n).pending ≡ true) (sym w.2) (f.pending (s.sub l) h z ∙ d)))

pub moves_wider : (g : Given) (p : ℕ → Value) (N M E F : Set) (b c j k : ℕ) (s t : St) → ((m : ℕ) → N m → M m) → ((m : ℕ) → E m → F m) → b ≤ c → j ≤ k → Moves g p N E b j s t → Moves g p M F c k s t
moves_wider g p N M E F b c j k s t h h' le lk f =
    let a = f.spent in
    record {
      moved = λ m. go m (f.moved m);
      soiled = λ u n. f.soiled u (λ z. n (h u z));
      dirty = λ u n. f.dirty u (λ z. n (h u z));
      touch = λ l lv n z e. f.touch l lv (λ y. n (h (s.sub l) y)) z (λ y. e (h' (s.dep l) y));
      later = f.later;
      spent = omega arith;
    }
  where
    go : (m : ℕ) → (t.sto m ≡ s.sto m) ⊎ ((t.sto m ≡ φ g p m) × (m < b)) → (t.sto m ≡ s.sto m) ⊎ ((t.sto m ≡ φ g p m) × (m < c))
    go m (inl e) = inl e
    go m (inr e) = let x = e.1 in inr (e.0, omega arith)

-- shallow propagation after what changed d
pub moves_shallow : (g : Given) (p : ℕ → Value) (N : Set) (c b k : ℕ) (s t : St) (d : ℕ) → Slots g s → Slots g t → Frame g N c s t → Moves g p N (only d) b k s t → readable (g.kind d) ≡ true → (t.sto d ≡ s.sto d → ⊥) → Moves g p N nobody b k s (shallow t d)
moves_shallow g p N c b k s t d sl tl f a r nw = record {
  moved = a.moved;
  soiled = λ u h z x y. came u h z x y (soil_turn t.sub (t.subs d) t.fl u);
  dirty = λ u h z x. stay u (a.dirty u h z x) (soil_turn t.sub (t.subs d) t.fl u);
  touch = λ l lv h z e x. either (eqb (s.dep l) d) (λ q. inr (here l lv h z x (eqb-true (s.dep l) d q))) (λ q. there l (a.touch l lv h z (eqb-false (s.dep l) d q) x));
  later = a.later;
  spent = a.spent;
}
  where
    stay : (u : ℕ) → (t.fl u).dirty ≡ true → Turn t.sub (t.subs d) (t.fl u) (soil t.sub (t.subs d) t.fl u) u → (soil t.sub (t.subs d) t.fl u).dirty ≡ true
    stay u x (stays e) = ap (λ (z : Named). z.dirty) e ∙ x
    stay u x (turns q w e l z y) = ap (λ (z : Named). z.dirty) e

    here : (l : ℕ) → s.live l ≡ true → (N (s.sub l) → ⊥) → (g.kind (s.sub l) ≡ signal → ⊥) → (s.fl (s.sub l)).pending ≡ true → s.dep l ≡ d → ((shallow t d).fl (s.sub l)).dirty ≡ true
    here l lv h z x q =
        let w = f.links l lv h in
        subst (λ (n : ℕ). ((shallow t d).fl n).dirty ≡ true) w.2
        (soil_here t.sub l (t.subs d) t.fl (subst (λ (n : ℕ). In l (t.subs n)) (w.1 ∙ q) (tl.live_in_subs l w.0))
        (subst (λ (n : ℕ). (t.fl n).pending ≡ true) (sym w.2) (f.pending (s.sub l) h z ∙ x)))

    there : (l : ℕ) → (t.sto (s.dep l) ≡ s.sto (s.dep l)) ⊎ ((t.fl (s.sub l)).dirty ≡ true) → (t.sto (s.dep l) ≡ s.sto (s.dep l)) ⊎ (((shallow t d).fl (s.sub l)).dirty ≡ true)
    there l (inl e) = inl e
    there l (inr e) = inr (stay (s.sub l) e (soil_turn t.sub (t.subs d) t.fl (s.sub l)))

    came : (u : ℕ) → (N u → ⊥) → (g.kind u ≡ signal → ⊥) → (s.fl u).dirty ≡ false → (soil t.sub (t.subs d) t.fl u).dirty ≡ true
        → Turn t.sub (t.subs d) (t.fl u) (soil t.sub (t.subs d) t.fl u) u → Changed g s (shallow t d) u
    came u h q x y (stays e) = let w = a.soiled u h q x (sym (ap (λ (z : Named). z.dirty) e) ∙ y) in record { link = w.link; live = w.live; to = w.to; reads = w.reads; new = w.new }
    came u h q x y (turns v w e l z o) =
        let lv = tl.subs_live l d z in
        let was = was_link g N c s t sl tl f l u lv.0 o h in
        let at : s.dep l ≡ d = sym was.2 ∙ lv.1 in
        record {
          link = l;
          live = was.0;
          to = was.1;
          reads = ap (λ (n : ℕ). readable (g.kind n)) at ∙ r;
          new = λ e. nw (subst (λ (n : ℕ). t.sto n ≡ s.sto n) at e);
        }

-- at most j evaluations, said better
pub moves_bound : (g : Given) (p : ℕ → Value) (N E : Set) (b j k : ℕ) (s t : St) → t.cycle ≤ s.cycle + j → Moves g p N E b k s t → Moves g p N E b j s t
moves_bound g p N E b j k s t h f = record { moved = f.moved; soiled = f.soiled; dirty = f.dirty; touch = f.touch; later = f.later; spent = h }

-- nobody reads d, or its value stayed
pub moves_lift : (g : Given) (p : ℕ → Value) (N : Set) (b k : ℕ) (s t : St) (d : ℕ) → ((l : ℕ) → s.live l ≡ true → (N (s.sub l) → ⊥) → s.dep l ≡ d → t.sto d ≡ s.sto d) → Moves g p N (only d) b k s t → Moves g p N nobody b k s t
moves_lift g p N b k s t d h f = record {
  moved = f.moved;
  soiled = f.soiled;
  dirty = f.dirty;
  touch = λ l lv n z e x. either (eqb (s.dep l) d) (λ q. let y = eqb-true (s.dep l) d q in inl (subst (λ (m : ℕ). t.sto m ≡ s.sto m) (sym y) (h l lv n y))) (λ q. f.touch l lv n z (eqb-false (s.dep l) d q) x);
  later = f.later;
  spent = f.spent;
}
