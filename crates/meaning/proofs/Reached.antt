-- What propagate marks is exactly what is reached, if it is not stuck; and it changes no other flag but WATCHING. Assumes nothing.
use mathlib.Core.Path.{◌≡◌, refl, sym, ap, ◌∙◌, subst}
use mathlib.Core.Logic.{◌⊎◌, inl, inr, ◌↔◌}
use mathlib.Core.Bool.{Bool, true, false, ◌||◌}
use mathlib.Core.List.{List, [], ◌∷◌, ◌++◌, append_assoc}
use Prim.Native.Nat.{ℕ, zero, suc}
use lib.Dec.{eqb}
use borrow.Author.Tests.{eqb-true, eqb-false}
use Rattle.flags.specs.declared.Named.{Named}
use Rattle.meaning.specs.State.{St, unclean, recursing, with_pending, with_watching, up}
use Rattle.meaning.specs.Links.{several}
use Rattle.meaning.specs.Marks.{Marks, marks_of, halt, chain, calm, notify, mark, stack_full, prop, turns, propagate}
use Rattle.meaning.specs.WellFormed.{In}
use Rattle.meaning.specs.Reach.{Reached, near, far}
use Rattle.meaning.proofs.Laws.{clash, either, or_true, or_one, or_none, or_left, or_right, branch, up_other, up_by, in_left, in_right, in_cases}

-- ---- one turn of the walk, by its five ways
ways : (P : Marks → Type 0) (a b c d : Bool) (v w x y z : Marks) → (a ≡ true → P v) → (a ≡ false → b ≡ true → P w) → (a ≡ false → b ≡ false → c ≡ true → d ≡ true → P x) → (a ≡ false → b ≡ false → c ≡ true → d ≡ false → P y)
    → (a ≡ false → b ≡ false → c ≡ false → P z)
    → P (elim a [ true ↦ v | false ↦ elim b [ true ↦ w | false ↦ elim c [ true ↦ elim d [ true ↦ x | false ↦ y ] | false ↦ z ] ] ])
ways P true b c d v w x y z f g h i j = f refl
ways P false true c d v w x y z f g h i j = g refl refl
ways P false false true true v w x y z f g h i j = h refl refl refl refl
ways P false false true false v w x y z f g h i j = i refl refl refl refl
ways P false false false d v w x y z f g h i j = j refl refl refl

module _ (P : Marks → Type 0) (s : St) (k : ℕ) (m : Marks) (l : ℕ) (w : List ℕ) (st : List (List ℕ)) where
  abbrev there : Named
  there = m.fl (s.sub l)

  abbrev below : List ℕ
  below = s.subs (s.sub l)

  abbrev told : Marks
  told = mark s m (s.sub l)

  pub turn : (recursing there ≡ true → P (halt m true)) → (recursing there ≡ false → unclean there ≡ true → P (prop s k m w st))
      → (recursing there ≡ false → unclean there ≡ false → there.mutable ≡ true → several below ≡ true → P (prop s k (halt told (stack_full s st)) below (w ∷ st)))
      → (recursing there ≡ false → unclean there ≡ false → there.mutable ≡ true → several below ≡ false → P (prop s k told (below ++ w) st))
      → (recursing there ≡ false → unclean there ≡ false → there.mutable ≡ false → P (prop s k told w st)) → P (prop s (suc k) m (l ∷ w) st)
  unfolding prop
  turn = ways P (recursing there) (unclean there) there.mutable (several below) (halt m true) (prop s k m w st) (prop s k (halt told (stack_full s st)) below (w ∷ st)) (prop s k told (below ++ w) st) (prop s k told w st)

-- ---- marking changes WATCHING, and PENDING of the node marked
abbrev tone : Named → Named
tone f = with_watching f false

calm_tone : (c : List ℕ) (f : ℕ → Named) (n : ℕ) → tone (calm c f n) ≡ tone (f n)
unfolding calm
calm_tone [] f n = refl
calm_tone (e ∷ c) f n =
    calm_tone c (up f e (with_watching (f e) false)) n
    ∙ up_by f e (with_watching (f e) false) (λ (x : Named). tone x ≡ tone (f n)) n (λ q. ap (λ (k : ℕ). tone (f k)) (sym q)) (λ q. refl)

mark_tone : (s : St) (m : Marks) (u n : ℕ) → tone ((mark s m u).fl n) ≡ tone (up m.fl u (with_pending (m.fl u) true) n)
unfolding mark notify
mark_tone s m u n =
    let f = up m.fl u (with_pending (m.fl u) true) in
    branch (λ (x : Marks). tone (x.fl n) ≡ tone (f n)) (m.fl u).watching (λ e. calm_tone (chain s.room.nodes s.owner f u) f n) (λ e. refl)

module _ (s : St) (m : Marks) (u : ℕ) where
  abbrev marked : ℕ → Named
  marked = up m.fl u (with_pending (m.fl u) true)

  pub mark_dirty : (n : ℕ) → ((mark s m u).fl n).dirty ≡ (m.fl n).dirty
  mark_dirty n =
      ap (λ (f : Named). f.dirty) (mark_tone s m u n)
      ∙ up_by m.fl u (with_pending (m.fl u) true) (λ (x : Named). x.dirty ≡ (m.fl n).dirty) n (λ q. ap (λ (k : ℕ). (m.fl k).dirty) (sym q)) (λ q. refl)

  mark_mutable : (n : ℕ) → ((mark s m u).fl n).mutable ≡ (m.fl n).mutable
  mark_mutable n =
      ap (λ (f : Named). f.mutable) (mark_tone s m u n)
      ∙ up_by m.fl u (with_pending (m.fl u) true) (λ (x : Named). x.mutable ≡ (m.fl n).mutable) n (λ q. ap (λ (k : ℕ). (m.fl k).mutable) (sym q)) (λ q. refl)

  pub mark_here : (n : ℕ) → n ≡ u → ((mark s m u).fl n).pending ≡ true
  mark_here n q =
      ap (λ (f : Named). f.pending) (mark_tone s m u n)
      ∙ up_by m.fl u (with_pending (m.fl u) true) (λ (x : Named). x.pending ≡ true) n (λ p. refl) (λ p. absurd (p q))

  pub mark_there : (n : ℕ) → (n ≡ u → ⊥) → ((mark s m u).fl n).pending ≡ (m.fl n).pending
  mark_there n h = ap (λ (f : Named). f.pending) (mark_tone s m u n ∙ ap tone (up_other m.fl u (with_pending (m.fl u) true) n h))

  mark_more : (n : ℕ) → (m.fl n).pending ≡ true → ((mark s m u).fl n).pending ≡ true
  mark_more n e = either (eqb n u) (λ q. mark_here n (eqb-true n u q)) (λ q. mark_there n (eqb-false n u q) ∙ e)

-- ---- the links to visit next, then the lists put aside
abbrev pub all : List ℕ → List (List ℕ) → List ℕ
all w [] = w
all w (x ∷ st) = w ++ all x st

pub all_append : (a w : List ℕ) (st : List (List ℕ)) → all (a ++ w) st ≡ a ++ all w st
all_append a w [] = refl
all_append a w (x ∷ st) = append_assoc a w (all x st)

-- ---- on the way: f are the flags now, w the links still to visit
-- a link that the walk may come by
abbrev Front : St → ℕ → ℕ → Type 0
Front s d l = In l (s.subs d) ⊎ ((m : ℕ) × Reached s d m × ((s.fl m).mutable ≡ true) × In l (s.subs m))

abbrev Done : St → (ℕ → Named) → List ℕ → ℕ → Type 0
Done s f w l = In l w ⊎ (unclean (f (s.sub l)) ≡ true)

record Going (s : St) (d : ℕ) (f : ℕ → Named) (w : List ℕ) : Type 0 where
  pub dirt : (u : ℕ) → (f u).dirty ≡ (s.fl u).dirty
  pub mut : (u : ℕ) → (f u).mutable ≡ (s.fl u).mutable
  pub more : (u : ℕ) → (s.fl u).pending ≡ true → (f u).pending ≡ true
  pub only : (u : ℕ) → (f u).pending ≡ true → ((s.fl u).pending ≡ true) ⊎ Reached s d u
  pub from : (l : ℕ) → In l w → Front s d l
  pub by : (l : ℕ) → In l (s.subs d) → Done s f w l
  pub past : (l m : ℕ) → (f m).pending ≡ true → (s.fl m).pending ≡ false → (s.fl m).mutable ≡ true → In l (s.subs m) → Done s f w l

module _ (s : St) (d : ℕ) where
  -- a node that looks clean was clean
  was_clean : (f : ℕ → Named) (w : List ℕ) (u : ℕ) → Going s d f w → unclean (f u) ≡ false → unclean (s.fl u) ≡ false
  was_clean f w u g e = or_none (s.fl u).dirty (s.fl u).pending (sym (g.dirt u) ∙ or_left (f u).dirty (f u).pending e) (go (s.fl u).pending refl)
    where
      go : (b : Bool) → (s.fl u).pending ≡ b → b ≡ false
      go true q = clash (g.more u q) (or_right (f u).dirty (f u).pending e)
      go false q = refl

  reach : (u l : ℕ) → Front s d l → s.sub l ≡ u → unclean (s.fl u) ≡ false → Reached s d u
  reach u l (inl i) q e = near l i q e
  reach u l (inr p) q e = far l p.0 p.1 p.2 p.3 q e

  -- a link to what is marked already
  skip : (f : ℕ → Named) (l : ℕ) (w : List ℕ) → Going s d f (l ∷ w) → unclean (f (s.sub l)) ≡ true → Going s d f w
  skip f l w g e = record {
    dirt = g.dirt;
    mut = g.mut;
    more = g.more;
    only = g.only;
    from = λ k i. g.from k (inr i);
    by = λ k i. go k (g.by k i);
    past = λ k m a b c i. go k (g.past k m a b c i);
  }
    where
      go : (k : ℕ) → Done s f (l ∷ w) k → Done s f w k
      go k (inl (inl q)) = inr (subst (λ (x : ℕ). unclean (f (s.sub x)) ≡ true) (sym q) e)
      go k (inl (inr i)) = inl i
      go k (inr c) = inr c

  -- a link to what is clean: it is marked, and the walk goes on to what is new
  step : (m : Marks) (l : ℕ) (w new : List ℕ) → Going s d m.fl (l ∷ w) → unclean (m.fl (s.sub l)) ≡ false
      → ((k : ℕ) → In k new → ((s.fl (s.sub l)).mutable ≡ true) × In k (s.subs (s.sub l)))
      → ((k : ℕ) → (s.fl (s.sub l)).mutable ≡ true → In k (s.subs (s.sub l)) → In k new)
      → Going s d (mark s m (s.sub l)).fl (new ++ w)
  step m l w new g e has all = record {
    dirt = λ n. mark_dirty s m u n ∙ g.dirt n;
    mut = λ n. mark_mutable s m u n ∙ g.mut n;
    more = λ n h. mark_more s m u n (g.more n h);
    only = λ n h. either (eqb n u) (λ q. inr (subst (Reached s d) (sym (eqb-true n u q)) reached))
        (λ q. g.only n (sym (mark_there s m u n (eqb-false n u q)) ∙ h));
    from = λ k i. in_cases k new w i (λ j. inr (u, reached, (has k j).0, (has k j).1)) (λ j. g.from k (inr j));
    by = λ k i. go k (g.by k i);
    past = λ k n a b c i. either (eqb n u)
        (λ q. inl (in_left k new w (subst (λ (x : ℕ). (s.fl x).mutable ≡ true → In k (s.subs x) → In k new) (sym (eqb-true n u q)) (all k) c i)))
        (λ q. go k (g.past k n (sym (mark_there s m u n (eqb-false n u q)) ∙ a) b c i));
  }
    where
      u : ℕ
      u = s.sub l

      reached : Reached s d (s.sub l)
      reached = reach (s.sub l) l (g.from l (inl refl)) refl (was_clean m.fl (l ∷ w) (s.sub l) g e)

      dirt_on : (n : ℕ) → (m.fl n).dirty || (m.fl n).pending ≡ true → ((mark s m (s.sub l)).fl n).dirty || ((mark s m (s.sub l)).fl n).pending ≡ true
      dirt_on n h = at (m.fl n).dirty refl
        where
          at : (b : Bool) → (m.fl n).dirty ≡ b → ((mark s m (s.sub l)).fl n).dirty || ((mark s m (s.sub l)).fl n).pending ≡ true
          at true q = rw (mark_dirty s m (s.sub l) n ∙ q)
          at false q = rw (mark_more s m (s.sub l) n (or_one (m.fl n).dirty (m.fl n).pending h q)) (or_true ((mark s m (s.sub l)).fl n).dirty)

      go : (k : ℕ) → Done s m.fl (l ∷ w) k → Done s (mark s m (s.sub l)).fl (new ++ w) k
      go k (inl (inl q)) = inr (rw (mark_here s m (s.sub l) (s.sub k) (ap s.sub q)) (or_true ((mark s m (s.sub l)).fl (s.sub k)).dirty))
      go k (inl (inr i)) = inl (in_right k new w i)
      go k (inr c) = inr (dirt_on (s.sub k) c)

  -- ---- the walk
  abbrev Ends : Marks → Type 0
  Ends x = x.stuck ≡ false → Going s d x.fl []

  walk : (k : ℕ) (m : Marks) (w : List ℕ) (st : List (List ℕ)) → Going s d m.fl (all w st) → Ends (prop s k m w st)
  unfolding prop
  walk zero m w st g = λ z. clash (or_true m.stuck) z
  walk (suc k) m [] [] g = λ z. g
  walk (suc k) m [] (w ∷ st) g = walk k m w st g
  walk (suc k) m (l ∷ w) st g =
      turn Ends s k m l w st (λ e z. clash (or_true m.stuck) z) (λ e a. walk k m w st (skip m.fl l (all w st) h a))
      (λ e a b c. walk k (halt (mark s m (s.sub l)) (stack_full s st)) (s.subs (s.sub l)) (w ∷ st) (next a b))
      (λ e a b c. walk k (mark s m (s.sub l)) (s.subs (s.sub l) ++ w) st (subst (Going s d (mark s m (s.sub l)).fl) (sym (all_append (s.subs (s.sub l)) w st)) (next a b)))
      (λ e a b. walk k (mark s m (s.sub l)) w st (step m l (all w st) [] h a (λ x i. absurd i) (λ x c i. clash c (sym (h.mut (s.sub l)) ∙ b))))
    where
      h : Going s d m.fl (l ∷ all w st)
      h = subst (Going s d m.fl) (all_append (l ∷ []) w st) g

      next : unclean (m.fl (s.sub l)) ≡ false → (m.fl (s.sub l)).mutable ≡ true → Going s d (mark s m (s.sub l)).fl (s.subs (s.sub l) ++ all w st)
      next a b = step m l (all w st) (s.subs (s.sub l)) h a (λ x i. (sym (h.mut (s.sub l)) ∙ b, i)) (λ x c i. i)

  begin : Going s d s.fl (s.subs d)
  begin = record {
    dirt = λ u. refl;
    mut = λ u. refl;
    more = λ u e. e;
    only = λ u e. inl e;
    from = λ l i. inl i;
    by = λ l i. inl i;
    past = λ l m a b c i. clash a b;
  }

  clean_before : (u : ℕ) → Reached s d u → unclean (s.fl u) ≡ false
  clean_before u (near l i q e) = e
  clean_before u (far l m r c i q e) = e

  -- nothing is left to visit: what is reached is marked
  reached_marked : (f : ℕ → Named) → Going s d f [] → (u : ℕ) → Reached s d u → (f u).pending ≡ true
  reached_marked f g u (near l i q e) = seen (g.by l i)
    where
      seen : Done s f [] l → (f u).pending ≡ true
      seen (inl x'') = elim x'' [ ]
      seen (inr c) = or_one (f u).dirty (f u).pending (subst (λ (x : ℕ). unclean (f x) ≡ true) q c) (g.dirt u ∙ or_left (s.fl u).dirty (s.fl u).pending e)
  reached_marked f g u (far l m r c i q e) =
      seen (g.past l m (reached_marked f g m r) (or_right (s.fl m).dirty (s.fl m).pending (clean_before m r)) c i)
    where
      seen : Done s f [] l → (f u).pending ≡ true
      seen (inl x'') = elim x'' [ ]
      seen (inr c) = or_one (f u).dirty (f u).pending (subst (λ (x : ℕ). unclean (f x) ≡ true) q c) (g.dirt u ∙ or_left (s.fl u).dirty (s.fl u).pending e)

  module _ (goes : (propagate s d).stuck ≡ false) where
    ended : Going s d (propagate s d).fl []
    ended = walk (turns s) (marks_of s) (s.subs d) [] begin goes

    pub marks_reached : (u : ℕ) → (((propagate s d).fl u).pending ≡ true) ↔ (((s.fl u).pending ≡ true) ⊎ Reached s d u)
    marks_reached u = (ended.only u, back)
      where
        back : ((s.fl u).pending ≡ true) ⊎ Reached s d u → ((propagate s d).fl u).pending ≡ true
        back (inl e) = ended.more u e
        back (inr r) = reached_marked (propagate s d).fl ended u r

    pub marks_no_other : (u : ℕ) → (((propagate s d).fl u).dirty ≡ (s.fl u).dirty) × (((propagate s d).fl u).mutable ≡ (s.fl u).mutable)
    marks_no_other u = (ended.dirt u, ended.mut u)
