-- V6: a new node keeps the clauses; a new effect runs at once, over the fresh values. Assumes nothing.
use Rattle.std.specs.Prelude.{Option, None, Some}
use mathlib.Core.Path.{◌≡◌, refl, sym, ap, ◌∙◌, subst}
use mathlib.Core.Logic.{inl, inr}
use mathlib.Core.Bool.{true, false}
use mathlib.Core.List.{List, [], ◌∷◌, ◌++◌}
use Prim.Native.Nat.{ℕ, suc, ◌+◌, ◌≤◌, ◌<◌}
use native.Mathlib.Omega.{arith}
use lib.Dec.{eqb}
use lib.ListN.{length}
use borrow.Author.Tests.{eqb-true, eqb-false}
use Rattle.flags.specs.declared.Named.{Named}
use Rattle.values.specs.declared.Value.{Value}
use Rattle.trees.specs.Trees.{Tree, reads, names}
use Rattle.meaning.specs.State.{St, Kind, computed, effect, readable, unclean, f2, f6, nothing, up}
use Rattle.meaning.specs.Setters.{set_fl}
use Rattle.meaning.specs.Links.{head_of, last_of, goes_to, is_from, renew, insert, link}
use Rattle.meaning.specs.Reads.{eval_by, read_w, fresh}
use Rattle.meaning.specs.Engine.{logged, node, owned, new_effect}
use Rattle.meaning.specs.WellFormed.{In, read_links, WellFormed}
use Rattle.freshness.specs.Afresh.{readings}
use Rattle.meaning.specs.Evaluations.{count_new_effect}
use Rattle.freshness.specs.Evaluations.{in_formula, in_fresh, in_new_effect}
use Rattle.meaning.proofs.Laws.{clash, either, branch, up_same, up_other, up_by}
use Rattle.meaning.proofs.Still.{Given, given}
use Rattle.meaning.proofs.Inside.{Set, nobody, also}
use Rattle.meaning.proofs.Making.{Fits, G, new_static, kind_new}
use Rattle.meaning.proofs.Made.{made}
use Rattle.meaning.proofs.Frames.{frame_same}
use Rattle.meaning.proofs.Reading.{Near}
use Rattle.freshness.proofs.Forms.{named, readings_same, firsts}
use Rattle.freshness.proofs.Inv.{Records, LinkedBy, Linked, ReadsBy, RightBy, Inv, right_moves, right_relink, Evaluated}
use Rattle.freshness.proofs.Link.{Quiet, link_quiet}
use Rattle.freshness.proofs.Moves.{moves_same, moves_wider}
use Rattle.freshness.proofs.Whole.{limit}
use Rattle.freshness.proofs.Effect.{Reran, reran_as, first_fresh}

-- ---- a link to what cannot be read
module _ (g : Given) (p : ℕ → Value) (ρ : Records) (X A : Set) (s : St) (n u : ℕ) (own : readable (g.kind n) ≡ false) (no-computed : g.kind u ≡ computed → ⊥) (i : Inv g p ρ X A s) where
  renewed : (ls : List ℕ) → Inv g p ρ X A (renew s u 0 ls)
  unfolding renew
  renewed [] = record { last = i.last; ver = i.ver; sig = i.sig; mark = i.mark; val = i.val; seen = i.seen; rec = i.rec }
  renewed (l ∷ ls) = record {
    last = i.last;
    ver = λ k lv. up_by s.ver l 0 (λ (x : ℕ). x ≤ s.cycle) k (λ q. omega arith) (λ q. i.ver k lv);
    sig = i.sig;
    mark = i.mark;
    val = i.val;
    seen = i.seen;
    rec = i.rec;
  }

  inserted : (ls : List ℕ) → ((l : ℕ) → In l ls → s.live l ≡ false) → Inv g p ρ X A (insert s n u 0 ls)
  unfolding insert
  inserted [] dead = record { last = i.last; ver = i.ver; sig = i.sig; mark = i.mark; val = i.val; seen = i.seen; rec = i.rec }
  inserted (l ∷ ls) dead = record {
    last = i.last;
    ver = λ k lv. up_by s.ver l 0 (λ (x : ℕ). x ≤ s.cycle) k (λ q. omega arith) (λ q. i.ver k (sym (up_other s.live l true k q) ∙ lv));
    sig = i.sig;
    mark = λ k lv rd na un. either (eqb k l)
        (λ e. clash rd (ap (λ (x : ℕ). readable (g.kind x)) (ap (up s.dep l n) (eqb-true k l e) ∙ up_same s.dep l n) ∙ own))
        (λ e. let f = eqb-false k l e in
        let a = up_other s.sub l u k f in
        let b = up_other s.dep l n k f in
        subst (λ (x : ℕ). (s.fl x).pending ≡ true) (sym a)
        (i.mark k (sym (up_other s.live l true k f) ∙ lv) (subst (λ (x : ℕ). readable (g.kind x) ≡ true) b rd) (λ z. na (subst A (sym a) z)) (subst (λ (x : ℕ). unclean (s.fl x) ≡ true) b un)));
    val = λ c h k na mu d. right_relink g.kind s.live _ s.dep _ s.sub _ c (fore c) (λ d' z. back c d' z (λ q. no-computed (ap g.kind (sym (from_new z q)) ∙ k))) (g.form c) s.sto (i.val c h k na mu d);
    seen = i.seen;
    rec = λ e h k gn nx. let r = i.rec e h k gn nx in
        record { all = λ d j. fore e d (r.all d j); only = λ d z rd. r.only d (back e d z (λ q. clash rd (ap (λ (x : ℕ). readable (g.kind x)) (sym z.to ∙ ap (up s.dep l n) q ∙ up_same s.dep l n) ∙ own))) rd; can = r.can };
  }
    where
      fore : (c d : ℕ) → Linked s d c → LinkedBy (up s.live l true) (up s.dep l n) (up s.sub l u) d c
      fore c d k =
          let f : k.slot ≡ l → ⊥ = λ q. clash k.is_live (ap s.live q ∙ dead l (inl refl)) in
          record { slot = k.slot; is_live = up_other s.live l true k.slot f ∙ k.is_live; to = up_other s.dep l n k.slot f ∙ k.to; from = up_other s.sub l u k.slot f ∙ k.from }

      from_new : {c d : ℕ} (k : LinkedBy (up s.live l true) (up s.dep l n) (up s.sub l u) d c) → k.slot ≡ l → c ≡ u
      from_new k q = sym k.from ∙ ap (up s.sub l u) q ∙ up_same s.sub l u

      back : (c d : ℕ) (k : LinkedBy (up s.live l true) (up s.dep l n) (up s.sub l u) d c) → (k.slot ≡ l → ⊥) → Linked s d c
      back c d k f =
          record { slot = k.slot; is_live = sym (up_other s.live l true k.slot f) ∙ k.is_live; to = sym (up_other s.dep l n k.slot f) ∙ k.to; from = sym (up_other s.sub l u k.slot f) ∙ k.from }

  owned_link_lem : ((l : ℕ) → In l s.free → s.live l ≡ false) → Inv g p ρ X A (link s n u 0)
  unfolding link
  owned_link_lem dead =
      branch (Inv g p ρ X A) (goes_to s (last_of (s.done u)) n) (λ e. i)
      (λ e. branch (Inv g p ρ X A) (goes_to s (head_of (s.rest u)) n) (λ f. renewed (s.rest u))
      (λ f. branch (Inv g p ρ X A) (is_from s (last_of (s.subs n)) u 0) (λ z. i) (λ z. inserted s.free dead)))

-- ---- the new node n
module _ (s : St) (w : WellFormed s) (k : Kind) (t : Tree) (b : Named) (v : Value) (calm : b.pending ≡ false) (ρ : Records) (inv : Inv (given s) s.pend ρ nobody nobody s) where
  abbrev n : ℕ
  n = s.size

  module _ (o : Option ℕ) (fits : Fits s k t o) where
    abbrev N : St
    N = node s k t o b v

    abbrev g : Given
    g = given N

    below : (l : ℕ) → s.live l ≡ true → (s.dep l < n) × (s.sub l < n)
    below = w.lists.inside

    old : {A : Type 0} (f : ℕ → A) (x : A) (m : ℕ) → m < n → up f n x m ≡ f m
    old f x m h = up_other f n x m (λ q. omega arith)

    at_n : (m : ℕ) → m < suc n → (m ≡ n → ⊥) → m < n
    at_n m h f = omega (arith, f)

    -- what an old formula reads is old
    sto_old : (c : ℕ) → c < n → (m : ℕ) → In m (reads (s.form c) s.sto) → N.sto m ≡ s.sto m
    sto_old c h m j = let x = (w.limits.names_lower c m h (named (s.form c) s.sto m j)).1 in old s.sto v m (omega arith)

    reads_old : (u : ℕ) (ns : List ℕ) → ReadsBy s.kind s.live s.dep s.sub u ns → ReadsBy g.kind s.live s.dep s.sub u ns
    reads_old u ns r = record { all = r.all; only = λ d l rd. r.only d l (sym (ap readable (old s.kind k d (low d l))) ∙ rd); can = λ d y. ap readable (old s.kind k d (low d (r.all d y))) ∙ r.can d y }
      where
        low : (d : ℕ) → LinkedBy s.live s.dep s.sub d u → d < n
        low d l = subst (λ (x : ℕ). x < n) l.to (below l.slot l.is_live).0

    new_keeps : Inv g N.pend ρ (also nobody n) (also nobody n) N
    new_keeps = record {
      last = refl;
      ver = inv.ver;
      sig = λ m h q d. either (eqb m n)
          (λ e. let z = eqb-true m n e in ap (up s.sto n v) z ∙ up_same s.sto n v ∙ sym (ap (up s.pend n v) z ∙ up_same s.pend n v))
          (λ e. let z = eqb-false m n e in let lt = at_n m h z in
          up_other s.sto n v m z ∙ inv.sig m lt (sym (old s.kind k m lt) ∙ q) (ap (λ (x : Named). x.dirty) (sym (up_other s.fl n b m z)) ∙ d) ∙ sym (up_other s.pend n v m z));
      mark = λ l lv rd na un.
          let lo = below l lv in
          ap (λ (x : Named). x.pending) (old s.fl b (s.sub l) lo.1)
          ∙ inv.mark l lv (sym (ap readable (old s.kind k (s.dep l) lo.0)) ∙ rd) (λ z. z) (ap unclean (sym (old s.fl b (s.dep l) lo.0)) ∙ un);
      val = λ c h q na mu d.
          let z : c ≡ n → ⊥ = λ e. na (inr e) in
          let lt = at_n c h z in
          let fl = old s.fl b c lt in
          let r = inv.val c lt (sym (old s.kind k c lt) ∙ q) (λ y. y) (ap (λ (x : Named). x.mutable) (sym fl) ∙ mu) (ap (λ (x : Named). x.dirty) (sym fl) ∙ d) in
          let r' = right_moves s.kind s.live s.dep s.sub (s.form c) s.sto N.sto c (sto_old c lt) (old s.sto v c lt) r in
          subst (λ (f : Tree). RightBy g.kind s.live s.dep s.sub f N.sto c) (sym (old s.form t c lt)) (record { value = r'.value; reads = reads_old c _ r'.reads });
      seen = λ e h q gn na d.
          let z : e ≡ n → ⊥ = λ y. na (inr y) in
          let lt = at_n e h z in
          let told = inv.seen e lt (sym (old s.kind k e lt) ∙ q) (sym (old s.gone false e lt) ∙ gn) (λ y. y) (ap (λ (x : Named). x.dirty) (sym (old s.fl b e lt)) ∙ d) in
          subst (λ (f : Tree). ρ e ≡ readings f N.sto) (sym (old s.form t e lt))
          (told ∙ readings_same (s.form e) s.sto N.sto (λ m j. sym (sto_old e lt m j)));
      rec = λ e h q gn nx.
          let lt = at_n e h (λ y. nx (inr y)) in
          reads_old e (firsts (ρ e)) (inv.rec e lt (sym (old s.kind k e lt) ∙ q) (sym (old s.gone false e lt) ∙ gn) (λ y. y));
    }

  -- with its owner's link
  pub owned_keeps : (o : Option ℕ) (fits : Fits s k t o) → ((q : ℕ) → o ≡ Some q → readable k ≡ false) → Inv (given (node s k t o b v)) (node s k t o b v).pend ρ (also nobody n) (also nobody n) (owned (node s k t o b v) n o)
  owned_keeps None fits h = new_keeps None fits
  owned_keeps (Some q) fits h =
      let ok = fits.owner q refl in
      let lo = ok.0 in
      owned_link_lem (given (node s k t (Some q) b v)) (node s k t (Some q) b v).pend ρ (also nobody n) (also nobody n) (node s k t (Some q) b v) n q
      (ap readable (up_same s.kind n k) ∙ h q refl) (λ z. clash (ap readable (sym (up_other s.kind n k q (λ y. omega arith)) ∙ z)) ok.1) (new_keeps (Some q) fits)
      (λ l j. (w.lists.free_not_live l j).0)

  -- a node that is no effect, and no computed with a value, asks nothing more
  pub plain_keeps : (o : Option ℕ) (fits : Fits s k t o) → ((q : ℕ) → o ≡ Some q → readable k ≡ false) → (k ≡ effect → ⊥) → (k ≡ computed → b.mutable ≡ false) → Inv (given (node s k t o b v)) (node s k t o b v).pend ρ nobody nobody (owned (node s k t o b v) n o)
  plain_keeps o fits h ne nm =
      let x = owned (node s k t o b v) n o in
      let m = made s w k t b v calm o fits h in
      let j = owned_keeps o fits h in
      let kn : (c : ℕ) → c ≡ n → (node s k t o b v).kind c ≡ k = λ c q. kind_new s w k t o b v fits c q in
      record {
        last = j.last;
        ver = j.ver;
        sig = j.sig;
        mark = λ l lv rd na un. either (eqb (x.sub l) n)
            (λ e. absurd (no_links x m.done m.rest l (subst (λ (z : ℕ). In l (x.done z ++ x.rest z)) (eqb-true (x.sub l) n e) (m.inside.lists.live_in_deps l lv))))
            (λ e. j.mark l lv rd (off (x.sub l) (eqb-false (x.sub l) n e)) un);
        val = λ c lt q na mu d. either (eqb c n)
            (λ e. let z = eqb-true c n e in clash (ap (λ (f : Named). f.mutable) (sym (ap x.fl z ∙ m.flag)) ∙ mu) (nm (sym (kn c z) ∙ q)))
            (λ e. j.val c lt q (off c (eqb-false c n e)) mu d);
        seen = λ e lt q gn na d. j.seen e lt q gn (off e (λ z. ne (sym (kn e z) ∙ q))) d;
        rec = λ e lt q gn nx. j.rec e lt q gn (off e (λ z. ne (sym (kn e z) ∙ q)));
      }
    where
      off : (m : ℕ) → (m ≡ n → ⊥) → also nobody n m → ⊥
      off m f (inl x') = elim x' [ ]
      off m f (inr q) = f q

      no_links : (x : St) → x.done n ≡ [] → x.rest n ≡ [] → (l : ℕ) → In l (x.done n ++ x.rest n) → ⊥
      no_links x e f l j = subst (λ (xs : List ℕ). In l xs) f (subst (λ (xs : List ℕ). In l (xs ++ x.rest n)) e j)

-- an owner's link leaves flags, values, gone marks and the cycle alone
pub owned_quiet : (s : St) (n : ℕ) (o : Option ℕ) → Quiet s (owned s n o)
owned_quiet s n None = record { fl = refl; sto = refl; cycle = refl; gone = refl }
owned_quiet s n (Some q) = link_quiet s n q 0

-- ---- a new effect
pub effect_fresh : (s : St) (w : WellFormed s) (ρ : Records) → Inv (given s) s.pend ρ nobody nobody s → (o : Option ℕ) (t : Tree) (fits : Fits s effect t o) → s.cycle + in_new_effect s o t < limit
    → Reran (given (node s effect t o f6 nothing)) (node s effect t o f6 nothing).pend ρ s.size (in_new_effect s o t) (owned (node s effect t o f6 nothing) s.size o) (new_effect s o t)
unfolding new_effect count_new_effect read_links
effect_fresh s w ρ inv o t fits =
    let n = s.size in
    let x = owned (node s effect t o f6 nothing) n o in
    let m = made s w effect t f6 nothing refl o fits (λ q e. refl) in
    let g = G s w effect t o f6 nothing fits in
    let st = new_static s w effect t o f6 nothing fits in
    let kn = kind_new s w effect t o f6 nothing fits n refl in
    let left = subst (λ (z : List ℕ). length (read_links g.kind x.dep z) ≤ length (names (g.form n))) (sym m.rest) (omega arith) in
    let e : x.form n ≡ g.form n = ap (λ (z : Given). z.form n) m.inside.same in
    let cyc : x.cycle ≡ s.cycle = (owned_quiet (node s effect t o f6 nothing) n o).cycle in
    subst (λ (f : Tree). s.cycle + suc (in_formula (read_w (fresh x.size) n) (in_fresh x.size) f x) < limit
    → Reran g (node s effect t o f6 nothing).pend ρ n (suc (in_formula (read_w (fresh x.size) n) (in_fresh x.size) f x)) x (set_fl (logged (eval_by (read_w (fresh x.size) n) f x) n) n f2))
    (sym e)
    (λ ok. reran_as (1 + in_formula (read_w (fresh x.size) n) (in_fresh x.size) (g.form n) x) (suc (in_formula (read_w (fresh x.size) n) (in_fresh x.size) (g.form n) x)) (omega arith)
    (first_fresh g st (node s effect t o f6 nothing).pend ρ n (omega arith) kn x x m.inside m.owns m.inside (frame_same g (Near g st n) n x) m.done left
    (owned_keeps s w effect t f6 nothing refl ρ inv o fits (λ q z. refl)) x.cycle 1
    (subst (λ (d : List ℕ). Evaluated d (x.rest n) x.dep x.ver x.cycle []) (sym m.done)
    (subst (λ (r : List ℕ). Evaluated [] r x.dep x.ver x.cycle []) (sym m.rest) (record { covers = λ d z. absurd z; only = λ l z. absurd z; since = λ l z. absurd z; older = λ l z. absurd z })))
    (omega arith) (moves_wider g (node s effect t o f6 nothing).pend (Near g st n) (Near g st n) nobody nobody n n 0 1 x x (λ a z. z) (λ a z. z) (omega arith) (omega arith) (moves_same g (node s effect t o f6 nothing).pend (Near g st n) nobody n x)) refl (omega arith) m.rest))
