-- What propagate marks is exactly what is reached by read links, from any well-formed tables: it is never stuck, and does not look at the mark of being so. Assumes nothing.
use mathlib.Core.Path.{◌≡◌, refl, sym, ap, ◌∙◌, subst}
use mathlib.Core.Logic.{◌⊎◌, inl, inr, ◌↔◌}
use mathlib.Core.Bool.{Bool, true, false, ◌||◌}
use mathlib.Core.List.{List, [], ◌∷◌, ◌++◌}
use Prim.Native.Nat.{ℕ, zero, suc, ◌<◌}
use Rattle.flags.specs.declared.Named.{Named}
use Rattle.meaning.specs.State.{St, readable, unclean, recursing}
use Rattle.meaning.specs.Setters.{with_stuck}
use Rattle.meaning.specs.Links.{several}
use Rattle.meaning.specs.Marks.{Marks, marks, marks_of, halt, notify, mark, stack_full, prop, turns, propagate}
use Rattle.meaning.specs.Reach.{Reached, near, far}
use Rattle.meaning.proofs.Laws.{branches}
use Rattle.meaning.proofs.Still.{Given}
use Rattle.meaning.proofs.Reached.{marks_reached}
use Rattle.meaning.proofs.Inside.{nobody, Static, Inside}
use Rattle.meaning.proofs.Marking.{stuck_inside}
use Rattle.meaning.proofs.Walking.{propagate_inside}

-- the same flags; a record, so that the ways of a test are compared by name
record SameFl (x y : Marks) : Type 0 where
  flags : x.fl ≡ y.fl

module _ (s : St) (c : Bool) where
  abbrev t : St
  t = with_stuck s c

  -- t marks as s does, but for the mark of being stuck
  abbrev Alike : Marks → Marks → Type 0
  Alike m n = (b : Bool) × (n ≡ marks m.fl m.queue b)

  mark_alike : (m : Marks) (u : ℕ) (b : Bool) → Alike (mark s m u) (mark (with_stuck s c) (marks m.fl m.queue b) u)
  unfolding mark notify
  mark_alike m u b = branches Alike (m.fl u).watching (λ e. (_, refl)) (λ e. (b, refl))

  prop_alike : (k : ℕ) (m : Marks) (w : List ℕ) (st : List (List ℕ)) (b : Bool) → SameFl (prop (with_stuck s c) k (marks m.fl m.queue b) w st) (prop s k m w st)
  unfolding prop
  prop_alike zero m w st b = record { flags = refl }
  prop_alike (suc k) m [] [] b = record { flags = refl }
  prop_alike (suc k) m [] (w ∷ st) b = prop_alike k m w st b
  prop_alike (suc k) m (l ∷ w) st b =
      let u = s.sub l in
      let n = mark_alike m u b in
      branches SameFl (recursing (m.fl u)) (λ e. record { flags = refl })
      (λ e. branches SameFl (unclean (m.fl u)) (λ a. prop_alike k m w st b)
      (λ a. branches SameFl (m.fl u).mutable
      (λ d. branches SameFl (several (s.subs u))
      (λ f. subst (λ (z : Marks). SameFl (prop (with_stuck s c) k (halt z (stack_full s st)) (s.subs u) (w ∷ st)) (prop s k (halt (mark s m u) (stack_full s st)) (s.subs u) (w ∷ st))) (sym n.1)
      (prop_alike k (halt (mark s m u) (stack_full s st)) (s.subs u) (w ∷ st) (n.0 || stack_full s st)))
      (λ f. subst (λ (z : Marks). SameFl (prop (with_stuck s c) k z (s.subs u ++ w) st) (prop s k (mark s m u) (s.subs u ++ w) st)) (sym n.1) (prop_alike k (mark s m u) (s.subs u ++ w) st n.0)))
      (λ d. subst (λ (z : Marks). SameFl (prop (with_stuck s c) k z w st) (prop s k (mark s m u) w st)) (sym n.1) (prop_alike k (mark s m u) w st n.0))))

  reached_there : (d u : ℕ) → Reached (with_stuck s c) d u → Reached s d u
  reached_there d u (near l i q e) = near l i q e
  reached_there d u (far l m r a i q e) = far l m (reached_there d m r) a i q e

  reached_here : (d u : ℕ) → Reached s d u → Reached (with_stuck s c) d u
  reached_here d u (near l i q e) = near l i q e
  reached_here d u (far l m r a i q e) = far l m (reached_here d m r) a i q e

-- from a node that is not clean, as one that was written
pub marks_exactly : (g : Given) (st : Static g) (s : St) (d : ℕ) → Inside g nobody s → d < g.size → readable (g.kind d) ≡ true → unclean (s.fl d) ≡ true
    → (u : ℕ) → (((propagate s d).fl u).pending ≡ true) ↔ (((s.fl u).pending ≡ true) ⊎ Reached s d u)
marks_exactly g st s d i h r un u =
    let t = with_stuck s false in
    let w = propagate_inside g st t d (stuck_inside g nobody s false i) h r un in
    let m = marks_reached t d w.stuck u in
    let e : ((propagate t d).fl u).pending ≡ ((propagate s d).fl u).pending = ap (λ (f : ℕ → Named). (f u).pending) (prop_alike s false (turns s) (marks_of s) (s.subs d) [] false).flags in
    (λ p. there (m.0 (e ∙ p)), λ p. sym e ∙ m.1 (here p))
  where
    there : ((s.fl u).pending ≡ true) ⊎ Reached (with_stuck s false) d u → ((s.fl u).pending ≡ true) ⊎ Reached s d u
    there (inl q) = inl q
    there (inr q) = inr (reached_there s false d u q)

    here : ((s.fl u).pending ≡ true) ⊎ Reached s d u → ((s.fl u).pending ≡ true) ⊎ Reached (with_stuck s false) d u
    here (inl q) = inl q
    here (inr q) = inr (reached_here s false d u q)
