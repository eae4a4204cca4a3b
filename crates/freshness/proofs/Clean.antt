-- CC: a clean node's stored value is its fresh value. Q: a quiet effect's record is that of the fresh values. Assumes nothing.
use mathlib.Core.Path.{◌≡◌, refl, sym, ap, ◌∙◌, subst}
use mathlib.Core.Bool.{true, false}
use mathlib.Core.List.{List}
use Prim.Native.Nat.{ℕ, zero, suc, ◌<◌}
use native.Mathlib.Omega.{arith}
use Rattle.values.specs.declared.Value.{Value}
use Rattle.trees.specs.Trees.{reads, names}
use Rattle.meaning.specs.State.{St, Kind, signal, computed, effect, scope, readable, unclean}
use Rattle.meaning.specs.WellFormed.{In}
use Rattle.freshness.specs.Afresh.{afresh_of, readings}
use Rattle.meaning.proofs.Laws.{clash, either}
use Rattle.meaning.proofs.Still.{Given}
use Rattle.meaning.proofs.Inside.{Set, Static, Inside, read_moves}
use Rattle.meaning.proofs.Reading.{Above}
use Rattle.freshness.proofs.Forms.{locally, named, firsts, firsts_readings}
use Rattle.freshness.proofs.Phi.{at_computed, at_signal}
use Rattle.freshness.proofs.Inv.{Records, Linked, Inv, not_dirty, not_pending, seen_moves}

-- the fresh values
abbrev pub φ : Given → (ℕ → Value) → ℕ → Value
φ g p = afresh_of g.kind g.form p

pub lower : (g : Given) → Static g → (n m : ℕ) → n < g.size → In m (names (g.form n)) → m < n
lower g st n m h i = (st.names_lower n m h i).1

module _ (g : Given) (st : Static g) (p : ℕ → Value) (ρ : Records) (A : Set) (s : St) (i : Inside g A s) (v : Inv g p ρ A A s) where
  -- Mark, the other way round: below a node that is not pending all is clean
  pub dep_clean : (d u : ℕ) → Linked s d u → readable (g.kind d) ≡ true → (A u → ⊥) → (s.fl u).pending ≡ false → unclean (s.fl d) ≡ false
  dep_clean d u l rd na q =
      either (unclean (s.fl d))
      (λ e. clash (subst (λ (x : ℕ). (s.fl x).pending ≡ true) l.from
      (v.mark l.slot l.is_live (subst (λ (x : ℕ). readable (g.kind x) ≡ true) (sym l.to) rd) (λ a. na (subst A l.from a))
      (subst (λ (x : ℕ). unclean (s.fl x) ≡ true) (sym l.to) e))) q)
      (λ e. e)

  -- what is read by a link has MUTABLE
  pub dep_moves : (d u : ℕ) → Linked s d u → readable (g.kind d) ≡ true → (A d → ⊥) → (s.fl d).mutable ≡ true
  dep_moves d u l rd na =
      let h = (i.lists.inside l.slot l.is_live).0 in
      let hd : d < g.size = subst (λ (x : ℕ). x < g.size) l.to h in
      read_moves g s.queue s.dep s.sub d _ _ _ _ _ (i.rests d hd na) l.slot (subst (λ (x : ℕ). In l.slot (s.subs x)) l.to (i.lists.live_in_subs l.slot l.is_live)) rd

  -- CC, by number
  clean_below : (k n : ℕ) → n < k → n < g.size → Above g st A n → readable (g.kind n) ≡ true → (s.fl n).mutable ≡ true → unclean (s.fl n) ≡ false → s.sto n ≡ φ g p n
  clean_below zero n r h ab rd mu cl = absurd (omega arith)
  clean_below (suc k) n r h ab rd mu cl = go (g.kind n) refl (λ m. clean_below k m)
    where
      not_in : A n → ⊥
      not_in a = let x = ab n a rd in omega arith

      go : (x : Kind) → g.kind n ≡ x → ((m : ℕ) → m < k → m < g.size → Above g st A m → readable (g.kind m) ≡ true → (s.fl m).mutable ≡ true → unclean (s.fl m) ≡ false → s.sto m ≡ φ g p m) → s.sto n ≡ φ g p n
      go signal e ih = v.sig n h e (not_dirty (s.fl n) cl) ∙ sym (at_signal g.kind g.form p g.size (lower g st) n e)
      go computed e ih =
          let right = v.val n h e not_in mu (not_dirty (s.fl n) cl) in
          let each : (m : ℕ) → In m (reads (g.form n) s.sto) → s.sto m ≡ φ g p m =
          λ m t.
          let l = right.reads.all m t in
          let low = st.names_lower n m h (named (g.form n) s.sto m t) in
          let lt = low.1 in
          let ab' : Above g st A m = λ a x y. let z = ab a x y in omega arith in
          ih m (omega arith) (omega arith) ab' low.0
          (dep_moves m n l low.0 (λ a. let z = ab m a low.0 in omega arith)) (dep_clean m n l low.0 not_in (not_pending (s.fl n) cl)) in
          right.value ∙ (locally (g.form n) s.sto (φ g p) each).0 ∙ sym (at_computed g.kind g.form p g.size (lower g st) n h e)
      go effect e ih = clash rd (ap readable e)
      go scope e ih = clash rd (ap readable e)

  pub clean : (n : ℕ) → n < g.size → Above g st A n → readable (g.kind n) ≡ true → (s.fl n).mutable ≡ true → unclean (s.fl n) ≡ false → s.sto n ≡ φ g p n
  clean n = clean_below (suc n) n (omega arith)

-- Q
pub quiet : (g : Given) (st : Static g) (p : ℕ → Value) (ρ : Records) (A : Set) (s : St) → Inside g A s → Inv g p ρ A A s → (e : ℕ) → e < g.size → g.kind e ≡ effect → s.gone e ≡ false → (A e → ⊥) → ((m : ℕ) → A m → readable (g.kind m) ≡ true → ⊥) → unclean (s.fl e) ≡ false
    → ρ e ≡ readings (g.form e) (φ g p)
quiet g st p ρ A s i v e h k gn na none q =
    let told = v.seen e h k gn na (not_dirty (s.fl e) q) in
    seen_moves (g.form e) s.sto (φ g p) (ρ e)
    (λ m j.
    let l = (v.rec e h k gn na).all m j in
    let t = subst (λ (ns : List ℕ). In m ns) (ap firsts told ∙ firsts_readings (g.form e) s.sto) j in
    let low = st.names_lower e m h (named (g.form e) s.sto m t) in
    let lt = low.1 in
    sym (clean g st p ρ A s i v m (omega arith) (λ a x y. absurd (none a x y)) low.0
    (dep_moves g st p ρ A s i v m e l low.0 (λ a. none m a low.0)) (dep_clean g st p ρ A s i v m e l low.0 na (not_pending (s.fl e) q))))
    told
