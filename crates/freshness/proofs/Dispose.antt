-- Disposal keeps the clauses: values stay, computeds keep their links or fall, effects that are left keep their read links. Assumes nothing.
use mathlib.Core.Path.{◌≡◌, refl, sym, ap, ap₂, ◌∙◌, subst}
use mathlib.Core.Logic.{◌⊎◌, inl, inr}
use mathlib.Core.Bool.{true, false}
use mathlib.Core.List.{List, [], ◌++◌}
use Prim.Native.Nat.{ℕ, ◌<◌}
use native.Mathlib.Omega.{arith}
use Rattle.flags.specs.declared.Named.{Named}
use Rattle.values.specs.declared.Value.{Value}
use Rattle.meaning.specs.State.{St, computed, effect, readable, unclean, deps}
use Rattle.meaning.specs.Links.{dispose}
use Rattle.meaning.specs.WellFormed.{In}
use Rattle.freshness.specs.Afresh.{readings}
use Rattle.meaning.proofs.Laws.{clash, either}
use Rattle.meaning.proofs.Members.{nil_none, reads_in, reads_sub}
use Rattle.meaning.proofs.Still.{Given}
use Rattle.meaning.proofs.Binding.{SameLists}
use Rattle.meaning.proofs.Inside.{nobody, Static, Inside, own_still}
use Rattle.meaning.proofs.Dropping.{Fallen, dispose_inside}
use Rattle.freshness.proofs.Inv.{Records, Linked, RightBy, Inv, right_relink}
use Rattle.freshness.proofs.Purge.{Spent, dispose_spends, stands}

module _ (g : Given) (st : Static g) (p : ℕ → Value) (ρ : Records) (s : St) (x : ℕ) (i : Inside g nobody s) (h : x < g.size) (r : readable (g.kind x) ≡ false) (v : Inv g p ρ nobody nobody s) where
  abbrev t : St
  t = dispose s x

  j : Inside g nobody t
  j = (dispose_inside g st s x i h r).inside

  z : Spent s t
  z = dispose_spends s x

  dep_at : (l : ℕ) → t.dep l ≡ s.dep l
  dep_at l = ap (λ (f : ℕ → ℕ). f l) z.dep

  sub_at : (l : ℕ) → t.sub l ≡ s.sub l
  sub_at l = ap (λ (f : ℕ → ℕ). f l) z.sub

  back : (m d : ℕ) → Linked t d m → Linked s d m
  back m d l = record { slot = l.slot; is_live = z.fewer l.slot l.is_live; to = sym (dep_at l.slot) ∙ l.to; from = sym (sub_at l.slot) ∙ l.from }

  fore : (m : ℕ) → SameLists s t m → (d : ℕ) → Linked s d m → Linked t d m
  fore m same d l =
      let a : In l.slot (deps s m) = subst (λ (n : ℕ). In l.slot (deps s n)) l.from (i.lists.live_in_deps l.slot l.is_live) in
      let b : deps t m ≡ deps s m = ap₂ (λ (y u : List ℕ). y ++ u) same.0 same.1 in
      let c = j.lists.deps_live l.slot m (subst (In l.slot) (sym b) a) in
      record { slot = l.slot; is_live = c.0; to = dep_at l.slot ∙ l.to; from = c.1 }

  alive_before : (m : ℕ) → t.gone m ≡ false → s.gone m ≡ false
  alive_before m a = either (s.gone m) (λ q. clash (z.gone m q) a) (λ q. q)

  -- what can be read and is not dirty is as it was
  risen : {C : Type 0} (m : ℕ) → m < g.size → readable (g.kind m) ≡ true → (t.fl m).dirty ≡ false → Fallen t m → C
  risen m lt rm d (inl a) = clash a (j.gone_kind m lt rm)
  risen m lt rm d (inr a) = clash (ap (λ (f : Named). f.dirty) a) d

  flags_at_lem : (m : ℕ) → m < g.size → readable (g.kind m) ≡ true → (t.fl m).dirty ≡ false → t.fl m ≡ s.fl m
  flags_at_lem m lt rm d = go (z.flags m)
    where
      go : (t.fl m ≡ s.fl m) ⊎ Fallen t m → t.fl m ≡ s.fl m
      go (inl e) = e
      go (inr f) = risen m lt rm d f

  -- an effect that is left has its flags
  lives : {C : Type 0} (e : ℕ) → e < g.size → g.kind e ≡ effect → t.gone e ≡ false → Fallen t e → C
  lives e lt k a (inl b) = clash b a
  lives e lt k a (inr b) = clash (ap (λ (f : Named). f.mutable) b) (own_still g t.queue t.dep t.sub e _ _ _ _ _ (j.rests e lt (λ y. y)) (ap readable k))

  effect_flags_lem : (e : ℕ) → e < g.size → g.kind e ≡ effect → t.gone e ≡ false → t.fl e ≡ s.fl e
  effect_flags_lem e lt k a = go (z.flags e)
    where
      go : (t.fl e ≡ s.fl e) ⊎ Fallen t e → t.fl e ≡ s.fl e
      go (inl q) = q
      go (inr f) = lives e lt k a f

  pub dispose_keeps : Inv g p ρ nobody nobody (dispose s x)
  dispose_keeps = record {
    last = z.pend ∙ v.last;
    ver = λ l lv. let a = v.ver l (z.fewer l lv) in let b = ap (λ (f : ℕ → ℕ). f l) z.ver in let c = z.cycle in omega arith;
    sig = λ n lt k d. ap (λ (f : ℕ → Value). f n) z.sto ∙ v.sig n lt k (ap (λ (f : Named). f.dirty) (sym (flags_at_lem n lt (ap readable k) d)) ∙ d);
    mark = λ l lv rd na un.
        let rd' = subst (λ (n : ℕ). readable (g.kind n) ≡ true) (dep_at l) rd in
        let m = v.mark l (z.fewer l lv) rd' (λ y. y) (was_unclean l lv rd un) in
        sub_flags l lv (subst (λ (n : ℕ). (s.fl n).pending ≡ true) (sym (sub_at l)) m);
    val = λ c lt k na mu d.
        let e = flags_at_lem c lt (ap readable k) d in
        let same = lists_at c lt k d in
        subst (λ (f : ℕ → Value). RightBy g.kind t.live t.dep t.sub (g.form c) f c) (sym z.sto)
        (right_relink g.kind s.live t.live s.dep t.dep s.sub t.sub c (fore c same) (back c) (g.form c) s.sto
        (v.val c lt k na (ap (λ (f : Named). f.mutable) (sym e) ∙ mu) (ap (λ (f : Named). f.dirty) (sym e) ∙ d)));
    seen = λ e lt k gn na d. v.seen e lt k (alive_before e gn) na (ap (λ (f : Named). f.dirty) (sym (effect_flags_lem e lt k gn)) ∙ d) ∙ ap (readings (g.form e)) (sym z.sto);
    rec = λ e lt k gn nx. let q = v.rec e lt k (alive_before e gn) nx in
        record { all = λ d y. kept e lt k gn d (q.all d y) (q.can d y); only = λ d l rd. q.only d (back e d l) rd; can = q.can };
  }
    where
      lists_at : (c : ℕ) → c < g.size → g.kind c ≡ computed → (t.fl c).dirty ≡ false → SameLists s t c
      lists_at c lt k d = go ((dispose_inside g st s x i h r).left c (ap readable k)).1
        where
          go : SameLists s t c ⊎ Fallen t c → SameLists s t c
          go (inl e) = e
          go (inr f) = risen c lt (ap readable k) d f

      was_unclean : (l : ℕ) → t.live l ≡ true → readable (g.kind (t.dep l)) ≡ true → unclean (t.fl (t.dep l)) ≡ true → unclean (s.fl (s.dep l)) ≡ true
      was_unclean l lv rd un = go ((dispose_inside g st s x i h r).left (t.dep l) rd).0
        where
          go : (t.fl (t.dep l) ≡ s.fl (t.dep l)) ⊎ (t.subs (t.dep l) ≡ []) → unclean (s.fl (s.dep l)) ≡ true
          go (inl e) = subst (λ (n : ℕ). unclean (s.fl n) ≡ true) (dep_at l) (ap unclean (sym e) ∙ un)
          go (inr e) = absurd (nil_none (t.subs (t.dep l)) l e (j.lists.live_in_subs l lv))

      sub_flags : (l : ℕ) → t.live l ≡ true → (s.fl (t.sub l)).pending ≡ true → (t.fl (t.sub l)).pending ≡ true
      sub_flags l lv m = go (z.flags (t.sub l))
        where
          go : (t.fl (t.sub l) ≡ s.fl (t.sub l)) ⊎ Fallen t (t.sub l) → (t.fl (t.sub l)).pending ≡ true
          go (inl e) = ap (λ (f : Named). f.pending) e ∙ m
          go (inr f) = absurd (stands g nobody t j l (t.sub l) lv refl (λ y. y) f)

      kept : (e : ℕ) → e < g.size → g.kind e ≡ effect → t.gone e ≡ false → (d : ℕ) → Linked s d e → readable (g.kind d) ≡ true → Linked t d e
      kept e lt k gn d l rd =
          let same = (dispose_inside g st s x i h r).reads e lt k gn in
          let a = reads_in g.kind s.dep l.slot (deps s e) (subst (λ (n : ℕ). In l.slot (deps s n)) l.from (i.lists.live_in_deps l.slot l.is_live)) (subst (λ (n : ℕ). readable (g.kind n) ≡ true) (sym l.to) rd) in
          let b = j.lists.deps_live l.slot e (reads_sub g.kind t.dep l.slot (deps t e) (subst (In l.slot) (sym same.links) a)) in
          record { slot = l.slot; is_live = b.0; to = dep_at l.slot ∙ l.to; from = b.1 }
