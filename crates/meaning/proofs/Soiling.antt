-- Shallow propagation inside an operation: pending subscribers become dirty, and nobody that watches is among them. Assumes nothing.
use mathlib.Core.Path.{◌≡◌, refl, sym, ap, ◌∙◌, subst}
use mathlib.Core.Logic.{◌⊎◌, inl, inr}
use mathlib.Core.Bool.{Bool, true, false, not, ◌&&◌, ◌||◌}
use mathlib.Core.List.{List, [], ◌∷◌}
use Prim.Native.Nat.{ℕ, ◌≤◌, ◌<◌}
use native.Mathlib.Omega.{arith}
use Rattle.flags.specs.declared.Named.{Named}
use Rattle.meaning.specs.State.{St, signal, readable, f0, f1, f2, f17, with_dirty, up}
use Rattle.meaning.specs.Marks.{soil, wakes, shallow}
use Rattle.meaning.specs.WellFormed.{In, read_links, ComputedFlags, never, clean, stale, maybe, dirty, EffectFlags, watching, pushed, pending, dirty as soiled}
use Rattle.meaning.proofs.Laws.{clash, false≢true, branch, or_false, or_none, up_same, up_by}
use Rattle.meaning.proofs.Still.{Given}
use Rattle.meaning.proofs.Inside.{Set, AtRest, Rests, Inside}
use Rattle.meaning.proofs.Frames.{Soiled, Frame, was_link}

-- ---- one node
-- it stays, or it was pending and not dirty, and a link of the list leads to it
pub data Turn (sub : ℕ → ℕ) (ls : List ℕ) (f h : Named) (n : ℕ) : Type 0 where
  stays : h ≡ f → Turn sub ls f h n
  turns : f.pending ≡ true → f.dirty ≡ false → h ≡ with_dirty f true → (l : ℕ) → In l ls → sub l ≡ n → Turn sub ls f h n

and_left : (a b : Bool) → (a && b) ≡ true → a ≡ true
and_left true b e = refl
and_left false b e = e

and_not : (a b : Bool) → (a && not b) ≡ true → b ≡ false
and_not true true e = sym e
and_not true false e = refl
and_not false b e = false≢true e

pub soil_turn : (sub : ℕ → ℕ) (ls : List ℕ) (f : ℕ → Named) (n : ℕ) → Turn sub ls (f n) (soil sub ls f n) n
unfolding soil
soil_turn sub [] f n = stays refl
soil_turn sub (l ∷ ls) f n =
    branch (λ (g : ℕ → Named). Turn sub (l ∷ ls) (f n) (soil sub ls g n) n) ((f (sub l)).pending && not (f (sub l)).dirty)
    (λ e. hit _ e (up_by f (sub l) (with_dirty (f (sub l)) true) (λ (x : Named). ((n ≡ sub l) × (x ≡ with_dirty (f (sub l)) true)) ⊎ (x ≡ f n)) n (λ q. inl (q, refl)) (λ q. inr refl))
    (soil_turn sub ls (up f (sub l) (with_dirty (f (sub l)) true)) n))
    (λ e. more (soil_turn sub ls f n))
  where
    more : {h : Named} → Turn sub ls (f n) h n → Turn sub (l ∷ ls) (f n) h n
    more (stays e) = stays e
    more (turns a b c k i q) = turns a b c k (inr i) q

    hit : (h : Named) → ((f (sub l)).pending && not (f (sub l)).dirty) ≡ true → ((n ≡ sub l) × (up f (sub l) (with_dirty (f (sub l)) true) n ≡ with_dirty (f (sub l)) true)) ⊎ (up f (sub l) (with_dirty (f (sub l)) true) n ≡ f n)
        → Turn sub ls (up f (sub l) (with_dirty (f (sub l)) true) n) h n → Turn sub (l ∷ ls) (f n) h n
    hit h e (inl p) (stays q) =
        let at = ap f p.0 in
        turns (ap (λ (x : Named). x.pending) at ∙ and_left (f (sub l)).pending (not (f (sub l)).dirty) e) (ap (λ (x : Named). x.dirty) at ∙ and_not (f (sub l)).pending (f (sub l)).dirty e)
        (q ∙ p.1 ∙ sym (ap (λ (x : Named). with_dirty x true) at)) l (inl refl) (sym p.0)
    hit h e (inl p) (turns a b c k i q) = false≢true (sym b ∙ ap (λ (x : Named). x.dirty) p.1)
    hit h e (inr p) t = more (subst (λ (x : Named). Turn sub ls x h n) p t)

-- what is dirty stays so
pub turn_dirty : (sub : ℕ → ℕ) (ls : List ℕ) (f h : Named) (n : ℕ) → Turn sub ls f h n → f.dirty ≡ true → h.dirty ≡ true
turn_dirty sub ls f h n (stays e) d = ap (λ (x : Named). x.dirty) e ∙ d
turn_dirty sub ls f h n (turns a b e l i q) d = ap (λ (x : Named). x.dirty) e

and_one : (a b : Bool) → (a && not b) ≡ false → a ≡ true → b ≡ true
and_one true true e p = refl
and_one true false e p = sym e
and_one false b e p = false≢true p

-- a pending subscriber becomes dirty
pub soil_here : (sub : ℕ → ℕ) (l : ℕ) (ls : List ℕ) (f : ℕ → Named) → In l ls → (f (sub l)).pending ≡ true → (soil sub ls f (sub l)).dirty ≡ true
unfolding soil
soil_here sub l [] f x'' p = elim x'' [ ]
soil_here sub l (x ∷ ls) f (inl e) p =
    branch (λ (g : ℕ → Named). (soil sub ls g (sub l)).dirty ≡ true) ((f (sub x)).pending && not (f (sub x)).dirty)
    (λ t. turn_dirty sub ls _ _ (sub l) (soil_turn sub ls (up f (sub x) (with_dirty (f (sub x)) true)) (sub l))
    (subst (λ (k : ℕ). (up f (sub x) (with_dirty (f (sub x)) true) (sub k)).dirty ≡ true) (sym e) (ap (λ (z : Named). z.dirty) (up_same f (sub x) (with_dirty (f (sub x)) true)))))
    (λ t. turn_dirty sub ls _ _ (sub l) (soil_turn sub ls f (sub l))
    (subst (λ (k : ℕ). (f (sub k)).dirty ≡ true) (sym e) (and_one (f (sub x)).pending (f (sub x)).dirty t (subst (λ (k : ℕ). (f (sub k)).pending ≡ true) e p))))
soil_here sub l (x ∷ ls) f (inr i) p =
    branch (λ (g : ℕ → Named). (soil sub ls g (sub l)).dirty ≡ true) ((f (sub x)).pending && not (f (sub x)).dirty)
    (λ t. soil_here sub l ls (up f (sub x) (with_dirty (f (sub x)) true)) i
    (up_by f (sub x) (with_dirty (f (sub x)) true) (λ (z : Named). z.pending ≡ true) (sub l) (λ q. subst (λ (k : ℕ). (f k).pending ≡ true) q p) (λ q. p)))
    (λ t. soil_here sub l ls f i p)

wakes_none : (sub : ℕ → ℕ) (ls : List ℕ) (f : ℕ → Named) → ((l : ℕ) → In l ls → (f (sub l)).pending ≡ true → (f (sub l)).watching ≡ false) → wakes sub ls f ≡ false
unfolding wakes
wakes_none sub [] f h = refl
wakes_none sub (l ∷ ls) f h =
    or_none _ (wakes sub ls f) (quiet (f (sub l)).pending (f (sub l)).dirty (f (sub l)).watching (f (sub l)).recursed_check (h l (inl refl))) (wakes_none sub ls f (λ k i. h k (inr i)))
  where
    quiet : (p d w c : Bool) → (p ≡ true → w ≡ false) → (p && (not d && (w && not c))) ≡ false
    quiet true true w c k = refl
    quiet true false w c k = subst (λ (x : Bool). (x && not c) ≡ false) (sym (k refl)) refl
    quiet false d w c k = refl

module _ (g : Given) (X : Set) (s : St) (d : ℕ) (i : Inside g X s) where
  -- dirty and pending go together on computeds and effects with the same links
  computed_turn : (sub : ℕ → ℕ) (ls : List ℕ) (n : ℕ) (f h : Named) (links subs : List ℕ) → Turn sub ls f h n → ComputedFlags f links subs → ComputedFlags h links subs
  computed_turn sub ls n f h links subs (stays e) c = subst (λ (x : Named). ComputedFlags x links subs) (sym e) c
  computed_turn sub ls n f h links subs (turns p q e l j z) (never x a b) = clash p (ap (λ (x : Named). x.pending) x)
  computed_turn sub ls n f h links subs (turns p q e l j z) (clean x) = clash p (ap (λ (x : Named). x.pending) x)
  computed_turn sub ls n f h links subs (turns p q e l j z) (stale x a) = clash p (ap (λ (x : Named). x.pending) x)
  computed_turn sub ls n f h links subs (turns p q e l j z) (maybe x a) = dirty (e ∙ ap (λ (x : Named). with_dirty x true) x) a
  computed_turn sub ls n f h links subs (turns p q e l j z) (dirty x a) = false≢true (sym q ∙ ap (λ (x : Named). x.dirty) x)

  effect_turn : (sub : ℕ → ℕ) (ls : List ℕ) (n : ℕ) (f h : Named) (queue reads : List ℕ) → Turn sub ls f h n → EffectFlags n f queue reads → EffectFlags n h queue reads
  effect_turn sub ls n f h queue reads (stays e) c = subst (λ (x : Named). EffectFlags n x queue reads) (sym e) c
  effect_turn sub ls n f h queue reads (turns p q e l j z) (watching x a) = clash p (ap (λ (x : Named). x.pending) x)
  effect_turn sub ls n f h queue reads (turns p q e l j z) (pushed x a) = clash p (ap (λ (x : Named). x.pending) x)
  effect_turn sub ls n f h queue reads (turns p q e l j z) (pending x a b) = soiled (e ∙ ap (λ (x : Named). with_dirty x true) x) a b
  effect_turn sub ls n f h queue reads (turns p q e l j z) (soiled x a b) = false≢true (sym q ∙ ap (λ (x : Named). x.dirty) x)

  -- nothing else has PENDING
  turn_calm : (sub : ℕ → ℕ) (ls : List ℕ) (n : ℕ) (f h : Named) → f.pending ≡ false → Turn sub ls f h n → h ≡ f
  turn_calm sub ls n f h c (stays e) = e
  turn_calm sub ls n f h c (turns p q e l j z) = clash p c

  rests_turn : (sub : ℕ → ℕ) (ls : List ℕ) (n : ℕ) (h : Named) → Turn sub ls (s.fl n) h n → Rests g s n → AtRest g s.queue s.dep s.sub n h (s.gone n) (s.done n) (s.rest n) (s.subs n)
  rests_turn sub ls n h t r = record {
    tail = r.tail;
    owned = r.owned;
    unowned = r.unowned;
    bare = r.bare;
    few = r.few;
    of_signal = λ k. of_signal (r.of_signal k);
    of_computed = λ k. computed_turn sub ls n (s.fl n) h (s.done n) (s.subs n) t (r.of_computed k);
    of_effect = λ k a. effect_turn sub ls n (s.fl n) h s.queue (read_links g.kind s.dep (s.done n)) t (r.of_effect k a);
    of_scope = λ k. let e = r.of_scope k in calm (ap (λ (x : Named). x.pending) e) ∙ e;
    of_gone = λ k a. of_gone (r.of_gone k a);
    queued = λ j a. let e = r.queued j a in calm (ap (λ (x : Named). x.pending) e) ∙ e;
  }
    where
      calm : (s.fl n).pending ≡ false → h ≡ s.fl n
      calm c = turn_calm sub ls n (s.fl n) h c t

      of_signal : (s.fl n ≡ f1) ⊎ (s.fl n ≡ f17) → (h ≡ f1) ⊎ (h ≡ f17)
      of_signal (inl e) = inl (calm (ap (λ (x : Named). x.pending) e) ∙ e)
      of_signal (inr e) = inr (calm (ap (λ (x : Named). x.pending) e) ∙ e)

      of_gone : (s.fl n ≡ f0) ⊎ (s.fl n ≡ f2) → (h ≡ f0) ⊎ (h ≡ f2)
      of_gone (inl e) = inl (calm (ap (λ (x : Named). x.pending) e) ∙ e)
      of_gone (inr e) = inr (calm (ap (λ (x : Named). x.pending) e) ∙ e)

  abbrev turn : (n : ℕ) → Turn s.sub (s.subs d) (s.fl n) (soil s.sub (s.subs d) s.fl n) n
  turn n = soil_turn s.sub (s.subs d) s.fl n

  turn_quiet : (n : ℕ) (f h : Named) → Turn s.sub (s.subs d) f h n → (f.pending ≡ true → f.watching ≡ false) → h.pending ≡ true → h.watching ≡ false
  turn_quiet n f h (stays e) k p = ap (λ (x : Named). x.watching) e ∙ k (sym (ap (λ (x : Named). x.pending) e) ∙ p)
  turn_quiet n f h (turns a b e l j q) k p = ap (λ (x : Named). x.watching) e ∙ k a

  pub shallow_inside : Inside g X (shallow s d)
  shallow_inside = record {
    same = i.same;
    lists = i.lists;
    goes = i.goes;
    gone_kind = i.gone_kind;
    fits = i.fits;
    no_wake = λ n h. turn_quiet n (s.fl n) _ (turn n) (i.no_wake n h);
    once = i.once;
    effects = i.effects;
    rests = λ n h x. rests_turn s.sub (s.subs d) n _ (turn n) (i.rests n h x);
  }

  pub shallow_goes_on : (shallow s d).stuck ≡ s.stuck
  shallow_goes_on =
      ap (λ (b : Bool). s.stuck || b) (wakes_none s.sub (s.subs d) s.fl (λ l j. let x = i.lists.subs_live l d j in i.no_wake (s.sub l) (i.lists.inside l x.0).1))
      ∙ or_false s.stuck

  pub shallow_clean : (n : ℕ) → s.fl n ≡ f1 → (shallow s d).fl n ≡ f1
  shallow_clean n e = turn_calm s.sub (s.subs d) n (s.fl n) _ (ap (λ (x : Named). x.pending) e) (turn n) ∙ e

-- after what brought d up to date, if d was not clean before
pub shallow_frame : (g : Given) (X : Set) (N : Set) (c b : ℕ) (s t : St) (d : ℕ) → Inside g X s → Inside g X t → Frame g N c s t → c ≤ b → d < b → readable (g.kind d) ≡ true → (s.fl d ≡ f1 → ⊥) → Frame g N b s (shallow t d)
shallow_frame g X N c b s t d i j f le lt r nc = record {
  lists = f.lists;
  subs = λ m a. f.subs m (λ q. let x = a q in omega arith);
  gone = f.gone;
  links = f.links;
  ver = f.ver;
  held = λ l lv a e. shallow_clean g X t d j (s.dep l) (f.held l lv a e);
  pending = λ m a k. same_pending m (soil_turn t.sub (t.subs d) t.fl m) ∙ f.pending m a k;
  calm = λ m a k e. turn_calm g X t d j t.sub (t.subs d) m (t.fl m) _ (f.pending m a k ∙ e) (soil_turn t.sub (t.subs d) t.fl m) ∙ f.calm m a k e;
  sto = f.sto;
  soiled = λ u a k x y. came u a k x y (soil_turn t.sub (t.subs d) t.fl u);
  stuck = shallow_goes_on g X t d j ∙ f.stuck;
}
  where
    same_pending : (m : ℕ) → Turn t.sub (t.subs d) (t.fl m) (soil t.sub (t.subs d) t.fl m) m → (soil t.sub (t.subs d) t.fl m).pending ≡ (t.fl m).pending
    same_pending m (stays e) = ap (λ (x : Named). x.pending) e
    same_pending m (turns p q e l z w) = ap (λ (x : Named). x.pending) e

    lift : (u : ℕ) → Soiled g c s u → Soiled g b s u
    lift u z = let l = z.low in record { link = z.link; live = z.live; to = z.to; reads = z.reads; unclean = z.unclean; low = omega arith }

    came : (u : ℕ) → (N u → ⊥) → (g.kind u ≡ signal → ⊥) → (s.fl u).dirty ≡ false → (soil t.sub (t.subs d) t.fl u).dirty ≡ true
        → Turn t.sub (t.subs d) (t.fl u) (soil t.sub (t.subs d) t.fl u) u → Soiled g b s u
    came u a k x y (stays e) = lift u (f.soiled u a k x (sym (ap (λ (z : Named). z.dirty) e) ∙ y))
    came u a k x y (turns p q e l z w) =
        let lv = j.lists.subs_live l d z in
        let was = was_link g N c s t i.lists j.lists f l u lv.0 w a in
        let at : s.dep l ≡ d = sym was.2 ∙ lv.1 in
        record {
          link = l;
          live = was.0;
          to = was.1;
          reads = ap (λ (n : ℕ). readable (g.kind n)) at ∙ r;
          unclean = λ h. nc (subst (λ (n : ℕ). s.fl n ≡ f1) at h);
          low = subst (λ (n : ℕ). n < b) (sym at) lt;
        }
