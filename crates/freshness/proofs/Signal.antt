-- What bringing a node up to date leaves, and (c) for a signal: the pending value becomes the current one. If it changed, the subscribers are exempt, and all of them outside X are pending. Assumes nothing.
use mathlib.Core.Path.{◌≡◌, refl, sym, ap, ◌∙◌, subst}
use mathlib.Core.Logic.{◌⊎◌, inl, inr}
use mathlib.Core.Bool.{Bool, true, false, not}
use Prim.Native.Nat.{ℕ, suc, ◌<◌}
use native.Mathlib.Omega.{arith}
use lib.Dec.{eqb}
use borrow.Author.Tests.{eqb-true, eqb-false}
use Rattle.flags.specs.declared.Named.{Named}
use Rattle.values.specs.declared.Value.{Value}
use Rattle.values.specs.Values.{same}
use Rattle.values.proofs.ValueLaws.{same_yes, yes_same}
use Rattle.meaning.specs.State.{St, signal, computed, effect, readable, unclean, bare, f1, up}
use Rattle.meaning.specs.Reads.{Ans, upd_signal}
use Rattle.meaning.proofs.Laws.{clash, either, up_same, up_other, up_by}
use Rattle.meaning.proofs.Still.{Given}
use Rattle.meaning.proofs.Inside.{Set, only, Static, Inside}
use Rattle.meaning.proofs.Dropping.{a_computed}
use Rattle.meaning.proofs.Frames.{Low}
use Rattle.freshness.proofs.Phi.{at_signal}
use Rattle.freshness.proofs.Inv.{Records, union, Linked, Inv, dirty_unclean, right_moves, seen_moves}
use Rattle.freshness.proofs.Clean.{φ, lower}
use Rattle.freshness.proofs.Moves.{Moves, moves_flags}

-- the subscribers of d, if the answer is yes
abbrev pub Touched : St → ℕ → Bool → Set
Touched s d b u = (b ≡ true) × Linked s d u

-- k evaluations at most
pub record Fine (g : Given) (p : ℕ → Value) (ρ : Records) (X : Set) (k : ℕ) (s : St) (n : ℕ) (r : Ans) : Type 0 where
  pub keeps : Inv g p ρ X (union X (Touched r.st n r.yes)) r.st
  pub value : r.st.sto n ≡ φ g p n
  pub changed : r.yes ≡ true → s.sto n ≡ φ g p n → ⊥
  pub stays : r.yes ≡ false → bare (s.fl n) ≡ false → s.sto n ≡ φ g p n
  pub marked : (u : ℕ) → Touched r.st n r.yes u → (X u → ⊥) → (r.st.fl u).pending ≡ true
  pub moves : Moves g p (Low g (suc n)) (only n) (suc n) k s r.st

pub fine_as : {g : Given} {p : ℕ → Value} {ρ : Records} {X : Set} (j k : ℕ) {s : St} {n : ℕ} {r : Ans} → j ≡ k → Fine g p ρ X j s n r → Fine g p ρ X k s n r
fine_as {g} {p} {ρ} {X} j k {s} {n} {r} e f = subst (λ (z : ℕ). Fine g p ρ X z s n r) e f

-- the answer of an update that compares
pub told_changed : (v w x : Value) → w ≡ x → not (same v w) ≡ true → v ≡ x → ⊥
told_changed v w x e a q = clash (yes_same v w (q ∙ sym e)) (go (same v w) a)
  where
    go : (b : Bool) → not b ≡ true → b ≡ false
    go true e = sym e
    go false e = refl

pub told_same : (v w x : Value) → w ≡ x → not (same v w) ≡ false → v ≡ x
told_same v w x e a = same_yes v w (go (same v w) a) ∙ e
  where
    go : (b : Bool) → not b ≡ false → b ≡ true
    go true e = refl
    go false e = sym e

module _ (g : Given) (st : Static g) (p : ℕ → Value) (ρ : Records) (X : Set) (s : St) (n : ℕ) (i : Inside g X s) (v : Inv g p ρ X X s) (h : n < g.size) (sg : g.kind n ≡ signal) where
  not_computed : (c : ℕ) → g.kind c ≡ computed → c ≡ n → ⊥
  not_computed c k q = clash (ap a_computed (sym (ap g.kind q) ∙ k)) (ap a_computed sg)

  not_effect : (c : ℕ) → g.kind c ≡ effect → c ≡ n → ⊥
  not_effect c k q = clash (ap readable sg) (ap readable (sym (ap g.kind q) ∙ k))

  not_sub : (l : ℕ) → s.live l ≡ true → s.sub l ≡ n → ⊥
  not_sub l lv q = (i.goes l lv).of_signal (ap g.kind q ∙ sg)

  flags : (m : ℕ) → (m ≡ n → ⊥) → up s.fl n f1 m ≡ s.fl m
  flags m f = up_other s.fl n f1 m f

  fresh : s.pend n ≡ φ g p n
  fresh = ap (λ (f : ℕ → Value). f n) v.last ∙ sym (at_signal g.kind g.form p g.size (lower g st) n sg)

  -- a node that is not touched reads what it read
  untouched : (u m : ℕ) → Linked s m u → (union X (Touched s n (not (same (s.sto n) (s.pend n)))) u → ⊥) → up s.sto n (s.pend n) m ≡ s.sto m
  untouched u m l free =
      up_by s.sto n (s.pend n) (λ (x : Value). x ≡ s.sto m) m
      (λ q. either (same (s.sto n) (s.pend n))
      (λ e. sym (same_yes (s.sto n) (s.pend n) e) ∙ ap s.sto (sym q))
      (λ e. absurd (free (inr (ap not e, subst (λ (x : ℕ). Linked s x u) q l)))))
      (λ q. refl)

  pub signal_updates : (s.fl n).dirty ≡ true → Fine g p ρ X 0 s n (upd_signal s n)
  unfolding upd_signal
  signal_updates di = record {
    keeps = record {
      last = v.last;
      ver = v.ver;
      sig = λ m lt k d. either (eqb m n)
          (λ e. let q = eqb-true m n e in subst (λ (x : ℕ). up s.sto n (s.pend n) x ≡ p x) (sym q) (up_same s.sto n (s.pend n) ∙ ap (λ (f : ℕ → Value). f n) v.last))
          (λ e. let f = eqb-false m n e in up_other s.sto n (s.pend n) m f ∙ v.sig m lt k (ap (λ (x : Named). x.dirty) (sym (flags m f)) ∙ d));
      mark = λ l lv r na un. ap (λ (x : Named). x.pending) (flags (s.sub l) (not_sub l lv)) ∙ either (eqb (s.dep l) n)
          (λ e. let q = eqb-true (s.dep l) n e in
          v.mark l lv r (λ a. na (inl a)) (subst (λ (x : ℕ). unclean (s.fl x) ≡ true) (sym q) (dirty_unclean (s.fl n) di)))
          (λ e. v.mark l lv r (λ a. na (inl a)) (ap unclean (sym (flags (s.dep l) (eqb-false (s.dep l) n e))) ∙ un));
      val = λ c lt k na mu d.
          let f = not_computed c k in
          let right = v.val c lt k (λ a. na (inl a)) (ap (λ (x : Named). x.mutable) (sym (flags c f)) ∙ mu) (ap (λ (x : Named). x.dirty) (sym (flags c f)) ∙ d) in
          right_moves g.kind s.live s.dep s.sub (g.form c) s.sto (up s.sto n (s.pend n)) c (λ m t. untouched c m (right.reads.all m t) na)
          (up_other s.sto n (s.pend n) c f) right;
      seen = λ e lt k gn na d.
          let f = not_effect e k in
          seen_moves (g.form e) s.sto (up s.sto n (s.pend n)) (ρ e) (λ m t. untouched e m ((v.rec e lt k gn (λ a. na (inl a))).all m t) na)
          (v.seen e lt k gn (λ a. na (inl a)) (ap (λ (x : Named). x.dirty) (sym (flags e f)) ∙ d));
      rec = v.rec;
    };
    value = up_same s.sto n (s.pend n) ∙ fresh;
    changed = told_changed (s.sto n) (s.pend n) (φ g p n) fresh;
    stays = λ a b. told_same (s.sto n) (s.pend n) (φ g p n) fresh a;
    marked = λ u t na.
        let l = t.1 in
        subst (λ (x : ℕ). (up s.fl n f1 x).pending ≡ true) l.from
        (ap (λ (x : Named). x.pending) (flags (s.sub l.slot) (not_sub l.slot l.is_live))
        ∙ v.mark l.slot l.is_live (subst (λ (x : ℕ). readable (g.kind x) ≡ true) (sym l.to) (ap readable sg)) (λ a. na (subst X l.from a))
        (subst (λ (x : ℕ). unclean (s.fl x) ≡ true) (sym l.to) (dirty_unclean (s.fl n) di)));
    moves = moves_flags g p (Low g (suc n)) (only n) (suc n) 0 s _
        (λ m. up_by s.sto n (s.pend n) (λ (x : Value). (x ≡ s.sto m) ⊎ ((x ≡ φ g p m) × (m < suc n))) m (λ q. inr (fresh ∙ ap (φ g p) (sym q), omega arith)) (λ q. inl refl))
        (λ m q. up_other s.sto n (s.pend n) m q) (omega arith) (omega arith) (λ m a q. flags m (λ e. q (ap g.kind e ∙ sg)));
  }
