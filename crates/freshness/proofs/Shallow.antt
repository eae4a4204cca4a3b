-- (d): shallow propagation. The subscribers of d were exempt; all of them outside A are pending; now they are dirty, and nobody but A is exempt. Assumes nothing.
use mathlib.Core.Path.{◌≡◌, sym, ap, ◌∙◌, subst}
use mathlib.Core.Logic.{inl, inr}
use mathlib.Core.Bool.{true, false}
use mathlib.Core.List.{List}
use Prim.Native.Nat.{ℕ}
use Rattle.flags.specs.declared.Named.{Named}
use Rattle.values.specs.declared.Value.{Value}
use Rattle.meaning.specs.State.{St, unclean}
use Rattle.meaning.specs.Marks.{shallow}
use Rattle.meaning.specs.WellFormed.{In}
use Rattle.meaning.proofs.Laws.{clash, either, or_last}
use Rattle.meaning.proofs.Still.{Given}
use Rattle.meaning.proofs.Inside.{Set, Slots}
use Rattle.meaning.proofs.Soiling.{Turn, stays, turns, soil_turn, turn_dirty, soil_here}
use Rattle.freshness.proofs.Inv.{Records, union, Linked, Inv}

-- what a turn leaves: PENDING and MUTABLE
module _ (sub : ℕ → ℕ) (ls : List ℕ) (f h : Named) (n : ℕ) where
  turn_pending : Turn sub ls f h n → h.pending ≡ f.pending
  turn_pending (stays e) = ap (λ (x : Named). x.pending) e
  turn_pending (turns a b e l i q) = ap (λ (x : Named). x.pending) e

  turn_mutable : Turn sub ls f h n → h.mutable ≡ f.mutable
  turn_mutable (stays e) = ap (λ (x : Named). x.mutable) e
  turn_mutable (turns a b e l i q) = ap (λ (x : Named). x.mutable) e

  -- unclean after it, unclean before it
  turn_unclean : Turn sub ls f h n → unclean h ≡ true → unclean f ≡ true
  turn_unclean (stays e) u = ap unclean (sym e) ∙ u
  turn_unclean (turns a b e l i q) u = or_last f.dirty f.pending a

module _ (g : Given) (p : ℕ → Value) (ρ : Records) (X A : Set) (s : St) (sl : Slots g s) (d : ℕ) (marked : (u : ℕ) → Linked s d u → (A u → ⊥) → (s.fl u).pending ≡ true) where
  abbrev T : Set
  T u = Linked s d u

  turn : (u : ℕ) → Turn s.sub (s.subs d) (s.fl u) ((shallow s d).fl u) u
  turn u = soil_turn s.sub (s.subs d) s.fl u

  -- not dirty afterwards: no subscriber of d, or in A
  outside : (u : ℕ) → (A u → ⊥) → ((shallow s d).fl u).dirty ≡ false → union A T u → ⊥
  outside u na q (inl a) = na a
  outside u na q (inr l) =
      clash (subst (λ (x : ℕ). ((shallow s d).fl x).dirty ≡ true) l.from
      (soil_here s.sub l.slot (s.subs d) s.fl (subst (λ (x : ℕ). In l.slot (s.subs x)) l.to (sl.live_in_subs l.slot l.is_live))
      (subst (λ (x : ℕ). (s.fl x).pending ≡ true) (sym l.from) (marked u l na)))) q

  was_clean : (u : ℕ) → ((shallow s d).fl u).dirty ≡ false → (s.fl u).dirty ≡ false
  was_clean u q = either (s.fl u).dirty (λ e. clash (turn_dirty s.sub (s.subs d) (s.fl u) ((shallow s d).fl u) u (turn u) e) q) (λ e. e)

  pub shallow_settles : Inv g p ρ X (union A T) s → Inv g p ρ X A (shallow s d)
  shallow_settles i = record {
    last = i.last;
    ver = i.ver;
    sig = λ n h k q. i.sig n h k (was_clean n q);
    mark = λ l lv rd na un.
        turn_pending s.sub (s.subs d) (s.fl (s.sub l)) ((shallow s d).fl (s.sub l)) (s.sub l) (turn (s.sub l)) ∙ either (s.fl (s.sub l)).pending (λ e. e)
        (λ e. i.mark l lv rd (not_both (s.sub l) na e) (turn_unclean s.sub (s.subs d) (s.fl (s.dep l)) ((shallow s d).fl (s.dep l)) (s.dep l) (turn (s.dep l)) un));
    val = λ c h k na mu q. i.val c h k (outside c na q) (sym (turn_mutable s.sub (s.subs d) (s.fl c) ((shallow s d).fl c) c (turn c)) ∙ mu) (was_clean c q);
    seen = λ e h k gn na q. i.seen e h k gn (outside e na q) (was_clean e q);
    rec = i.rec;
  }
    where
      not_both : (u : ℕ) → (A u → ⊥) → (s.fl u).pending ≡ false → union A T u → ⊥
      not_both u na q (inl a) = na a
      not_both u na q (inr l) = clash (marked u l na) q
