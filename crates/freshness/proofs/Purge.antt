-- V2: a purge of an exempt node keeps the clauses. The exempt set may shrink by nodes that keep all their links or fall (A before, B after). Assumes nothing.
use mathlib.Core.Path.{◌≡◌, refl, sym, ap, ap₂, ◌∙◌, subst}
use mathlib.Core.Logic.{◌⊎◌, inl, inr}
use mathlib.Core.Bool.{Bool, true, false}
use mathlib.Core.List.{List, [], ◌++◌, append-nil}
use Prim.Native.Nat.{ℕ, ◌<◌}
use native.Mathlib.Omega.{arith}
use Rattle.flags.specs.declared.Named.{Named}
use Rattle.values.specs.declared.Value.{Value}
use Rattle.meaning.specs.State.{St, Kind, signal, computed, effect, scope, readable, unclean, deps, f0, f17, up}
use Rattle.meaning.specs.Links.{cut, purge, dispose}
use Rattle.freshness.specs.Afresh.{readings}
use Rattle.meaning.specs.WellFormed.{In, ComputedFlags, never, clean, stale, maybe, dirty}
use Rattle.meaning.proofs.Laws.{clash, either, up_other, up_by}
use Rattle.meaning.proofs.Members.{nil_none}
use Rattle.meaning.proofs.Rings.{Drops, purge_ring, dispose_ring}
use Rattle.meaning.proofs.Still.{Given}
use Rattle.meaning.proofs.Binding.{SameLists}
use Rattle.meaning.proofs.Inside.{Set, Rests, Inside, own_still}
use Rattle.meaning.proofs.Dropping.{Fallen}
use Rattle.freshness.proofs.Inv.{Records, Linked, RightBy, Inv, reads_relink, right_relink}

-- ---- what the first ring leaves of every node and link: values, versions, the cycle; flags, but for what falls
pub record Spent (s t : St) : Type 0 where
  pub sto : t.sto ≡ s.sto
  pub pend : t.pend ≡ s.pend
  pub ver : t.ver ≡ s.ver
  pub dep : t.dep ≡ s.dep
  pub sub : t.sub ≡ s.sub
  pub cycle : t.cycle ≡ s.cycle
  pub fewer : (l : ℕ) → t.live l ≡ true → s.live l ≡ true
  pub gone : (m : ℕ) → s.gone m ≡ true → t.gone m ≡ true
  pub flags : (m : ℕ) → (t.fl m ≡ s.fl m) ⊎ Fallen t m

plain : (s t : St) → t.sto ≡ s.sto → t.pend ≡ s.pend → t.ver ≡ s.ver → t.dep ≡ s.dep → t.sub ≡ s.sub → t.cycle ≡ s.cycle → ((l : ℕ) → t.live l ≡ true → s.live l ≡ true) → ((m : ℕ) → s.gone m ≡ true → t.gone m ≡ true) → ((m : ℕ) → (t.fl m ≡ s.fl m) ⊎ Fallen t m) → Spent s t
plain s t a b c y z d e f h = record { sto = a; pend = b; ver = c; dep = y; sub = z; cycle = d; fewer = e; gone = f; flags = h }

spends : Drops Spent
unfolding cut
spends = record {
  same = λ s. plain s s refl refl refl refl refl refl (λ l a. a) (λ m a. a) (λ m. inl refl);
  then = λ s t x p q. record {
    sto = q.sto ∙ p.sto;
    pend = q.pend ∙ p.pend;
    ver = q.ver ∙ p.ver;
    dep = q.dep ∙ p.dep;
    sub = q.sub ∙ p.sub;
    cycle = q.cycle ∙ p.cycle;
    fewer = λ l a. p.fewer l (q.fewer l a);
    gone = λ m a. q.gone m (p.gone m a);
    flags = λ m. both s t x m (q.gone m) (p.flags m) (q.flags m);
  };
  stops = λ s. plain s _ refl refl refl refl refl refl (λ l a. a) (λ m a. a) (λ m. inl refl);
  cuts = λ s l v. plain s _ refl refl refl refl refl refl (λ k a. up_by s.live l false (λ (b : Bool). b ≡ true → s.live k ≡ true) k (λ q z. clash z refl) (λ q z. z) a) (λ m a. a) (λ m. inl refl);
  bares = λ s x. plain s _ refl refl refl refl refl refl (λ l a. a) (λ m a. up_by s.gone x true (λ (b : Bool). b ≡ true) m (λ q. refl) (λ q. a))
      (λ m. either_at s x m);
  stales = λ s d. plain s _ refl refl refl refl refl refl (λ l a. a) (λ m a. a)
      (λ m. up_by s.fl d f17 (λ (f : Named). (f ≡ s.fl m) ⊎ ((s.gone m ≡ true) ⊎ (f ≡ f17))) m (λ q. inr (inr refl)) (λ q. inl refl));
}
  where
    both : (s t x : St) (m : ℕ) → (t.gone m ≡ true → x.gone m ≡ true) → (t.fl m ≡ s.fl m) ⊎ Fallen t m → (x.fl m ≡ t.fl m) ⊎ Fallen x m → (x.fl m ≡ s.fl m) ⊎ Fallen x m
    both s t x m h a (inr z) = inr z
    both s t x m h (inl a) (inl z) = inl (z ∙ a)
    both s t x m h (inr (inl a)) (inl z) = inr (inl (h a))
    both s t x m h (inr (inr a)) (inl z) = inr (inr (z ∙ a))

    either_at : (s : St) (x m : ℕ) → (up s.fl x f0 m ≡ s.fl m) ⊎ ((up s.gone x true m ≡ true) ⊎ (up s.fl x f0 m ≡ f17))
    either_at s x m = up_by s.gone x true (λ (b : Bool). (up s.fl x f0 m ≡ s.fl m) ⊎ ((b ≡ true) ⊎ (up s.fl x f0 m ≡ f17))) m (λ q. inr (inl refl)) (λ q. inl (up_other s.fl x f0 m q))

pub purge_spends : (s : St) (u : ℕ) → Spent s (purge s u)
purge_spends = purge_ring Spent spends

pub dispose_spends : (s : St) (x : ℕ) → Spent s (dispose s x)
dispose_spends = dispose_ring Spent spends

-- ---- who has a link has not fallen
pub stands : (g : Given) (X : Set) (t : St) (i : Inside g X t) (l m : ℕ) → t.live l ≡ true → t.sub l ≡ m → (X m → ⊥) → Fallen t m → ⊥
stands g X t i l m lv e nx f =
    let h : m < g.size = subst (λ (x : ℕ). x < g.size) e (i.lists.inside l lv).1 in
    let r = i.rests m h nx in
    let j : In l (deps t m) = subst (λ (x : ℕ). In l (deps t x)) e (i.lists.live_in_deps l lv) in
    let k : In l (t.done m) = subst (In l) (ap (λ (x : List ℕ). t.done m ++ x) r.tail ∙ append-nil (t.done m)) j in
    go r k f (g.kind m) refl
  where
    at : In l (t.done m) → t.fl m ≡ f17 → ComputedFlags (t.fl m) (t.done m) (t.subs m) → ⊥
    at k z (never x y w) = nil_none (t.done m) l y k
    at k z (clean x) = clash (ap (λ (f : Named). f.dirty) z) (ap (λ (f : Named). f.dirty) x)
    at k z (stale x y) = nil_none (t.done m) l y k
    at k z (maybe x y) = clash (ap (λ (f : Named). f.dirty) z) (ap (λ (f : Named). f.dirty) x)
    at k z (dirty x y) = clash (ap (λ (f : Named). f.pending) x) (ap (λ (f : Named). f.pending) z)

    go : Rests g t m → In l (t.done m) → Fallen t m → (x : Kind) → g.kind m ≡ x → ⊥
    go r k (inl a) x q = nil_none (t.done m) l (r.bare a).0 k
    go r k (inr a) signal q = (i.goes l lv).of_signal (ap g.kind e ∙ q)
    go r k (inr a) computed q = at k a (r.of_computed q)
    go r k (inr a) effect q = clash (ap (λ (f : Named). f.mutable) a) (own_still g t.queue t.dep t.sub m _ _ _ _ _ r (ap readable q))
    go r k (inr a) scope q = clash (ap (λ (f : Named). f.mutable) a) (own_still g t.queue t.dep t.sub m _ _ _ _ _ r (ap readable q))

-- ---- V2, of any step from s to t that only takes links away: of E, which is exempt after it, and of nodes that fall
module _ (g : Given) (p : ℕ → Value) (ρ : Records) (X A B E : Set) (s t : St) (more : (m : ℕ) → X m → B m) (mine : (m : ℕ) → E m → X m)
    (i : Inside g X s) (j : Inside g X t) (z : Spent s t) (ends : (t.dep ≡ s.dep) × (t.sub ≡ s.sub)) (fate : (m : ℕ) → (t.fl m ≡ s.fl m) ⊎ (t.subs m ≡ [])) (sp : (m : ℕ) → (E m → ⊥) → SameLists s t m ⊎ Fallen t m)
    (less : (m : ℕ) → (B m → ⊥) → ((l : ℕ) → s.live l ≡ true → s.sub l ≡ m → t.live l ≡ true) → A m → ⊥) (v : Inv g p ρ X A s) where
  dep_at : (l : ℕ) → t.dep l ≡ s.dep l
  dep_at l = ap (λ (f : ℕ → ℕ). f l) ends.0

  sub_at : (l : ℕ) → t.sub l ≡ s.sub l
  sub_at l = ap (λ (f : ℕ → ℕ). f l) ends.1

  -- links of a node whose lists are the same
  alive : (m : ℕ) → SameLists s t m → (l : ℕ) → s.live l ≡ true → s.sub l ≡ m → t.live l ≡ true
  alive m same l lv e =
      let a : In l (deps s m) = subst (λ (x : ℕ). In l (deps s x)) e (i.lists.live_in_deps l lv) in
      let b : deps t m ≡ deps s m = ap₂ (λ (x y : List ℕ). x ++ y) same.0 same.1 in
      (j.lists.deps_live l m (subst (In l) (sym b) a)).0

  fore : (m : ℕ) → SameLists s t m → (d : ℕ) → Linked s d m → Linked t d m
  fore m same d l = record { slot = l.slot; is_live = alive m same l.slot l.is_live l.from; to = dep_at l.slot ∙ l.to; from = sub_at l.slot ∙ l.from }

  back : (m d : ℕ) → Linked t d m → Linked s d m
  back m d l = record { slot = l.slot; is_live = z.fewer l.slot l.is_live; to = sym (dep_at l.slot) ∙ l.to; from = sym (sub_at l.slot) ∙ l.from }

  -- not fallen: as it was
  stay : {C : Type 0} (m : ℕ) → (E m → ⊥) → (Fallen t m → ⊥) → (t.fl m ≡ s.fl m → SameLists s t m → C) → C
  stay {C = C} m ne nf f = one (z.flags m) (sp m ne)
    where
      one : (t.fl m ≡ s.fl m) ⊎ Fallen t m → SameLists s t m ⊎ Fallen t m → C
      one (inr a) b = absurd (nf a)
      one (inl a) (inr b) = absurd (nf b)
      one (inl a) (inl b) = f a b

  off : (m : ℕ) → (B m → ⊥) → E m → ⊥
  off m nb e = nb (more m (mine m e))

  alive_gone : (m : ℕ) → t.gone m ≡ false → s.gone m ≡ false
  alive_gone m a = either (s.gone m) (λ q. clash (z.gone m q) a) (λ q. q)

  pub drops_keep : Inv g p ρ X B t
  drops_keep = record {
    last = z.pend ∙ v.last;
    ver = λ l lv. let a = v.ver l (z.fewer l lv) in let b = ap (λ (f : ℕ → ℕ). f l) z.ver in let c = z.cycle in omega arith;
    sig = λ n h k d. ap (λ (f : ℕ → Value). f n) z.sto ∙ v.sig n h k (quiet n h k d (z.flags n));
    mark = λ l lv r nb un.
        let m = s.sub l in
        let nb' : B m → ⊥ = λ b. nb (subst B (sym (sub_at l)) b) in
        stay m (off m nb') (stands g X t j l m lv (sub_at l) (λ x. nb' (more m x)))
        (λ e same. subst (λ (x : ℕ). (t.fl x).pending ≡ true) (sym (sub_at l))
        (ap (λ (x : Named). x.pending) e ∙ v.mark l (z.fewer l lv) (subst (λ (x : ℕ). readable (g.kind x) ≡ true) (dep_at l) r) (less m nb' (alive m same)) (was_unclean l lv un)));
    val = λ c h k nb mu d.
        stay c (off c nb) (risen c h k d)
        (λ e same. subst (λ (f : ℕ → Value). RightBy g.kind t.live t.dep t.sub (g.form c) f c) (sym z.sto)
        (right_relink g.kind s.live t.live s.dep t.dep s.sub t.sub c (fore c same) (back c) (g.form c) s.sto
        (v.val c h k (less c nb (alive c same)) (ap (λ (x : Named). x.mutable) (sym e) ∙ mu) (ap (λ (x : Named). x.dirty) (sym e) ∙ d))));
    seen = λ e h k gn nb d.
        stay e (off e nb) (lives e h k gn (λ x. nb (more e x)))
        (λ q same. v.seen e h k (alive_gone e gn) (less e nb (alive e same)) (ap (λ (x : Named). x.dirty) (sym q) ∙ d) ∙ ap (readings (g.form e)) (sym z.sto));
    rec = λ e h k gn nx.
        stay e (λ q. nx (mine e q)) (lives e h k gn nx)
        (λ q same. reads_relink g.kind s.live t.live s.dep t.dep s.sub t.sub e (fore e same) (back e) _ (v.rec e h k (alive_gone e gn) nx));
  }
    where
      quiet : (n : ℕ) → n < g.size → g.kind n ≡ signal → (t.fl n).dirty ≡ false → (t.fl n ≡ s.fl n) ⊎ Fallen t n → (s.fl n).dirty ≡ false
      quiet n h k d (inl e) = ap (λ (x : Named). x.dirty) (sym e) ∙ d
      quiet n h k d (inr (inl a)) = clash a (j.gone_kind n h (ap readable k))
      quiet n h k d (inr (inr a)) = clash (ap (λ (x : Named). x.dirty) a) d

      risen : (c : ℕ) → c < g.size → g.kind c ≡ computed → (t.fl c).dirty ≡ false → Fallen t c → ⊥
      risen c h k d (inl a) = clash a (j.gone_kind c h (ap readable k))
      risen c h k d (inr a) = clash (ap (λ (x : Named). x.dirty) a) d

      lives : (e : ℕ) → e < g.size → g.kind e ≡ effect → t.gone e ≡ false → (X e → ⊥) → Fallen t e → ⊥
      lives e h k gn nx (inl a) = clash a gn
      lives e h k gn nx (inr a) = clash (ap (λ (f : Named). f.mutable) a) (own_still g t.queue t.dep t.sub e _ _ _ _ _ (j.rests e h nx) (ap readable k))

      was_unclean : (l : ℕ) → t.live l ≡ true → unclean (t.fl (t.dep l)) ≡ true → unclean (s.fl (s.dep l)) ≡ true
      was_unclean l lv un = go (fate (t.dep l))
        where
          go : (t.fl (t.dep l) ≡ s.fl (t.dep l)) ⊎ (t.subs (t.dep l) ≡ []) → unclean (s.fl (s.dep l)) ≡ true
          go (inl e) = subst (λ (x : ℕ). unclean (s.fl x) ≡ true) (dep_at l) (ap unclean (sym e) ∙ un)
          go (inr e) = absurd (nil_none (t.subs (t.dep l)) l e (j.lists.live_in_subs l lv))
