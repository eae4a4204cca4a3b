-- DIRTY is what the history tells: an effect is dirty exactly if something that its last run read took another stored value since. Assumes nothing.
use mathlib.Core.Path.{◌≡◌, refl, sym, ap, ap₂, ◌∙◌, subst}
use mathlib.Core.Logic.{◌⊎◌, inl, inr}
use mathlib.Core.Bool.{Bool, true, false, not, ◌||◌}
use mathlib.Core.List.{List, [], ◌∷◌}
use Prim.Native.Nat.{ℕ, ◌<◌}
use borrow.Author.Tests.{not-true}
use Rattle.flags.specs.declared.Named.{Named}
use Rattle.values.specs.declared.Value.{Value}
use Rattle.values.specs.Values.{same}
use Rattle.values.proofs.ValueLaws.{same_yes, same_no}
use Rattle.meaning.specs.State.{St, signal, effect, readable, unclean}
use Rattle.meaning.specs.WellFormed.{In}
use Rattle.freshness.specs.Afresh.{moved}
use Rattle.meaning.proofs.Laws.{clash, false≢true, either, or_first, or_last, or_one, or_false}
use Rattle.meaning.proofs.Still.{Given}
use Rattle.meaning.proofs.Inside.{Set, nobody, Static, Inside, own_still}
use Rattle.meaning.proofs.Dropping.{Fallen}
use Rattle.freshness.proofs.Forms.{firsts}
use Rattle.freshness.proofs.Inv.{Records, Linked, Inv}
use Rattle.freshness.proofs.Clean.{φ, dep_moves, clean}
use Rattle.freshness.proofs.Moves.{Moves}

-- ---- what was read and has another value
moved_at : (a b : ℕ → Value) (xs : List (ℕ × Value)) → moved a b xs ≡ true → (d : ℕ) × In d (firsts xs) × (a d ≡ b d → ⊥)
unfolding moved firsts
moved_at a b [] e = false≢true e
moved_at a b (x ∷ xs) e =
    let n = not (same (a x.0) (b x.0)) in
    either n (λ y. (x.0, inl refl, same_no (a x.0) (b x.0) (not-true (same (a x.0) (b x.0)) y)))
    (λ y. let r = moved_at a b xs (or_one n (moved a b xs) e y) in (r.0, inr r.1, r.2))

at_moved : (a b : ℕ → Value) (xs : List (ℕ × Value)) (d : ℕ) → In d (firsts xs) → (a d ≡ b d → ⊥) → moved a b xs ≡ true
unfolding moved firsts
at_moved a b [] d x'' f = elim x'' [ ]
at_moved a b (x ∷ xs) d (inl e) f =
    or_first (not (same (a x.0) (b x.0))) (moved a b xs) (either (same (a x.0) (b x.0))
    (λ y. absurd (f (subst (λ (n : ℕ). a n ≡ b n) (sym e) (same_yes (a x.0) (b x.0) y)))) (λ y. ap not y))
at_moved a b (x ∷ xs) d (inr i) f = or_last (not (same (a x.0) (b x.0))) (moved a b xs) (at_moved a b xs d i f)

pub moved_none : (a b : ℕ → Value) (xs : List (ℕ × Value)) → ((d : ℕ) → In d (firsts xs) → a d ≡ b d) → moved a b xs ≡ false
moved_none a b xs f = either (moved a b xs) (λ e. let r = moved_at a b xs e in absurd (r.2 (f r.0 r.1))) (λ e. e)

pub moved_same : (a c b : ℕ → Value) (xs : List (ℕ × Value)) → ((d : ℕ) → In d (firsts xs) → a d ≡ c d) → moved a b xs ≡ moved c b xs
unfolding moved firsts
moved_same a c b [] f = refl
moved_same a c b (x ∷ xs) f = ap₂ (λ (u : Value) (w : Bool). not (same u (b x.0)) || w) (f x.0 (inl refl)) (moved_same a c b xs (λ d i. f d (inr i)))

-- a live effect falls with nothing
pub effect_stays : (g : Given) (f : Named) (t : St) → Inside g nobody t → (m : ℕ) → m < g.size → g.kind m ≡ effect → t.gone m ≡ false → (t.fl m ≡ f) ⊎ Fallen t m → t.fl m ≡ f
effect_stays g f t i m h k a (inl e) = e
effect_stays g f t i m h k a (inr (inl e)) = clash e a
effect_stays g f t i m h k a (inr (inr e)) = clash (ap (λ (z : Named). z.mutable) e) (own_still g t.queue t.dep t.sub m _ _ _ _ _ (i.rests m h (λ w. w)) (ap readable k))

-- ---- an operation from s to t, for an effect e that it leaves alone; A: under way, none of which can be read
module _ (g : Given) (st : Static g) (p : ℕ → Value) (ρ : Records) (A : Set) (s : St) (i : Inside g A s) (v : Inv g p ρ A A s) (deaf : (m : ℕ) → A m → readable (g.kind m) ≡ false)
    (N : Set) (b k : ℕ) (t : St) (mv : Moves g p N nobody b k s t) (e : ℕ) (he : e < g.size) (ke : g.kind e ≡ effect) (a : s.gone e ≡ false) (na : A e → ⊥) (out : N e → ⊥) where
  ns : g.kind e ≡ signal → ⊥
  ns z = clash (ap readable z) (ap readable ke)

  -- what is not stored fresh is not clean, so e is pending
  pends : (d : ℕ) → Linked s d e → readable (g.kind d) ≡ true → (s.sto d ≡ φ g p d → ⊥) → (s.fl e).pending ≡ true
  pends d l rd old = either (unclean (s.fl d))
      (λ z. subst (λ (n : ℕ). (s.fl n).pending ≡ true) l.from (v.mark l.slot l.is_live (subst (λ (n : ℕ). readable (g.kind n) ≡ true) (sym l.to) rd) (λ y. na (subst A l.from y)) (subst (λ (n : ℕ). unclean (s.fl n) ≡ true) (sym l.to) z)))
      (λ z. absurd (old (clean g st p ρ A s i v d (subst (λ (n : ℕ). n < g.size) l.to (i.lists.inside l.slot l.is_live).0) (λ m y u. clash u (deaf m y)) rd (dep_moves g st p ρ A s i v d e l rd (λ y. clash rd (deaf d y))) z)))

  moves_dirty : (d : ℕ) → In d (firsts (ρ e)) → (s.sto d ≡ t.sto d → ⊥) → (t.fl e).dirty ≡ true
  moves_dirty d j f = go (mv.moved d)
    where
      l : Linked s d e
      l = (v.rec e he ke a na).all d j

      touched : (t.sto (s.dep l.slot) ≡ s.sto (s.dep l.slot)) ⊎ ((t.fl (s.sub l.slot)).dirty ≡ true) → (t.fl e).dirty ≡ true
      touched (inl z) = absurd (f (sym (subst (λ (n : ℕ). t.sto n ≡ s.sto n) l.to z)))
      touched (inr z) = subst (λ (n : ℕ). (t.fl n).dirty ≡ true) l.from z

      go : (t.sto d ≡ s.sto d) ⊎ ((t.sto d ≡ φ g p d) × (d < b)) → (t.fl e).dirty ≡ true
      go (inl z) = absurd (f (sym z))
      go (inr z) = touched (mv.touch l.slot l.is_live (λ y. out (subst N l.from y)) (λ y. ns (sym (ap g.kind l.from) ∙ y)) (λ y. y)
          (subst (λ (n : ℕ). (s.fl n).pending ≡ true) (sym l.from) (pends d l ((v.rec e he ke a na).can d j) (λ y. f (y ∙ sym z.0)))))

  dirty_moves : (s.fl e).dirty ≡ false → (t.fl e).dirty ≡ true → moved s.sto t.sto (ρ e) ≡ true
  dirty_moves nd d =
      let c = mv.soiled e out ns nd d in
      at_moved s.sto t.sto (ρ e) (s.dep c.link) ((v.rec e he ke a na).only (s.dep c.link) (record { slot = c.link; is_live = c.live; to = refl; from = c.to }) c.reads) (λ z. c.new (sym z))

  pub dirty_told : (t.fl e).dirty ≡ ((s.fl e).dirty || moved s.sto t.sto (ρ e))
  dirty_told = either (s.fl e).dirty
      (λ z. mv.dirty e out ns z ∙ sym (or_first (s.fl e).dirty (moved s.sto t.sto (ρ e)) z))
      (λ z. either (moved s.sto t.sto (ρ e))
      (λ y. let r = moved_at s.sto t.sto (ρ e) y in moves_dirty r.0 r.1 r.2 ∙ sym (or_last (s.fl e).dirty (moved s.sto t.sto (ρ e)) y))
      (λ y. either (t.fl e).dirty (λ x. clash (dirty_moves z x) y) (λ x. x) ∙ sym (ap (λ (c : Bool). (s.fl e).dirty || c) y ∙ or_false (s.fl e).dirty ∙ z)))
