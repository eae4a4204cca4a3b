-- V1: a link made by a read inside an evaluation of u. The clauses stay, since u is exempt; the links up to the cursor are what was read. Assumes nothing.
use Rattle.std.specs.Prelude.{Option, None, Some}
use mathlib.Core.Path.{◌≡◌, refl, sym, ap, ◌∙◌, subst}
use mathlib.Core.Logic.{◌⊎◌, inl, inr}
use mathlib.Core.Bool.{Bool, true, false, ◌&&◌}
use mathlib.Core.List.{List, [], ◌∷◌, ◌++◌}
use Prim.Native.Nat.{ℕ, ◌≤◌, ◌<◌}
use native.Mathlib.Omega.{arith}
use lib.Dec.{eqb}
use borrow.Author.Tests.{eqb-true, eqb-false}
use Rattle.flags.specs.declared.Named.{Named}
use Rattle.values.specs.declared.Value.{Value}
use Rattle.meaning.specs.State.{St, readable, unclean, up}
use Rattle.meaning.specs.Links.{head_of, last_of, goes_to, is_from, renew, insert, link}
use Rattle.meaning.specs.WellFormed.{In, Once}
use Rattle.meaning.proofs.Laws.{false≢true, clash, either, branch, none_some, same_some, up_same, up_other, up_by, in_left, in_right, in_cases}
use Rattle.meaning.proofs.Members.{once_right}
use Rattle.meaning.proofs.Still.{Given}
use Rattle.meaning.proofs.Inside.{Set, nobody, Slots}
use Rattle.freshness.proofs.Inv.{Records, LinkedBy, Linked, Inv, reads_relink, right_relink, Evaluated, Evaluating}
use Rattle.freshness.proofs.Moves.{Moves, moves_flags}

module _ (g : Given) (p : ℕ → Value) (ρ : Records) (X A : Set) (s : St) (n u v : ℕ) (under : X u) (mine : A u) (old : v ≤ s.cycle) (i : Inv g p ρ X A s) where
  renew_keeps : (ls : List ℕ) → Inv g p ρ X A (renew s u v ls)
  unfolding renew
  renew_keeps [] = record { last = i.last; ver = i.ver; sig = i.sig; mark = i.mark; val = i.val; seen = i.seen; rec = i.rec }
  renew_keeps (l ∷ ls) = record {
    last = i.last;
    ver = λ k lv. up_by s.ver l v (λ (x : ℕ). x ≤ s.cycle) k (λ q. old) (λ q. i.ver k lv);
    sig = i.sig;
    mark = i.mark;
    val = i.val;
    seen = i.seen;
    rec = i.rec;
  }

  insert_keeps : (ls : List ℕ) → ((l : ℕ) → In l ls → s.live l ≡ false) → Inv g p ρ X A (insert s n u v ls)
  unfolding insert
  insert_keeps [] dead = record { last = i.last; ver = i.ver; sig = i.sig; mark = i.mark; val = i.val; seen = i.seen; rec = i.rec }
  insert_keeps (l ∷ ls) dead = record {
    last = i.last;
    ver = λ k lv. up_by s.ver l v (λ (x : ℕ). x ≤ s.cycle) k (λ q. old) (λ q. i.ver k (sym (up_other s.live l true k q) ∙ lv));
    sig = i.sig;
    mark = λ k lv rd na un. either (eqb k l)
        (λ e. absurd (na (subst A (sym (ap (up s.sub l u) (eqb-true k l e) ∙ up_same s.sub l u)) mine)))
        (λ e. let f = eqb-false k l e in
        let a = up_other s.sub l u k f in
        let b = up_other s.dep l n k f in
        subst (λ (x : ℕ). (s.fl x).pending ≡ true) (sym a)
        (i.mark k (sym (up_other s.live l true k f) ∙ lv) (subst (λ (x : ℕ). readable (g.kind x) ≡ true) b rd) (λ z. na (subst A (sym a) z)) (subst (λ (x : ℕ). unclean (s.fl x) ≡ true) b un)));
    val = λ c h k na mu d. right_relink g.kind s.live _ s.dep _ s.sub _ c (fore c) (back c (λ q. na (subst A (sym q) mine))) (g.form c) s.sto (i.val c h k na mu d);
    seen = i.seen;
    rec = λ e h k gn nx. reads_relink g.kind s.live _ s.dep _ s.sub _ e (fore e) (back e (λ q. nx (subst X (sym q) under))) _ (i.rec e h k gn nx);
  }
    where
      fore : (c d : ℕ) → Linked s d c → LinkedBy (up s.live l true) (up s.dep l n) (up s.sub l u) d c
      fore c d k =
          let f : k.slot ≡ l → ⊥ = λ q. clash k.is_live (ap s.live q ∙ dead l (inl refl)) in
          record { slot = k.slot; is_live = up_other s.live l true k.slot f ∙ k.is_live; to = up_other s.dep l n k.slot f ∙ k.to; from = up_other s.sub l u k.slot f ∙ k.from }

      back : (c : ℕ) → (c ≡ u → ⊥) → (d : ℕ) → LinkedBy (up s.live l true) (up s.dep l n) (up s.sub l u) d c → Linked s d c
      back c na d k =
          let f : k.slot ≡ l → ⊥ = λ q. na (sym k.from ∙ ap (up s.sub l u) q ∙ up_same s.sub l u) in
          record { slot = k.slot; is_live = sym (up_other s.live l true k.slot f) ∙ k.is_live; to = sym (up_other s.dep l n k.slot f) ∙ k.to; from = sym (up_other s.sub l u k.slot f) ∙ k.from }

  pub link_keeps : ((l : ℕ) → In l s.free → s.live l ≡ false) → Inv g p ρ X A (link s n u v)
  unfolding link
  link_keeps dead =
      branch (Inv g p ρ X A) (goes_to s (last_of (s.done u)) n) (λ e. i)
      (λ e. branch (Inv g p ρ X A) (goes_to s (head_of (s.rest u)) n) (λ f. renew_keeps (s.rest u))
      (λ f. branch (Inv g p ρ X A) (is_from s (last_of (s.subs n)) u v) (λ z. i) (λ z. insert_keeps s.free dead)))

-- ---- what was read
in_one : (n : ℕ) (ms : List ℕ) (m : ℕ) → In n (ms ++ m ∷ []) → (In n ms ⊎ (n ≡ m))
in_one n ms m i = in_cases n ms (m ∷ []) i inl (λ j. last j)
  where
    last : In n (m ∷ []) → In n ms ⊎ (n ≡ m)
    last (inr x') = elim x' [ ]
    last (inl e) = inr e

-- the last of a list is in it
last_in : (xs : List ℕ) (l : ℕ) → last_of xs ≡ Some l → In l xs
last_in [] l e = none_some e
last_in (x ∷ xs) l e = go (last_of xs) (λ z. last_in xs l z) e
  where
    go : (o : Option ℕ) → (o ≡ Some l → In l xs) → (elim o as (λ (z : Option ℕ). Option ℕ) [ None ↦ Some x | Some y ↦ Some y ]) ≡ Some l → In l (x ∷ xs)
    go None f q = inl (sym (same_some q))
    go (Some y) f q = inr (f q)

module _ (dn rs : List ℕ) (dep ver : ℕ → ℕ) (start n v : ℕ) (ns : List ℕ) (r : Evaluated dn rs dep ver start ns) (late : start ≤ v) where
  -- rules 1 and 3: Some link up to the cursor goes to n
  again : (l : ℕ) → In l dn → dep l ≡ n → Evaluated dn rs dep ver start (ns ++ n ∷ [])
  again l i e = record {
    covers = λ d j. elim (in_one d ns n j) [ inl k ↦ r.covers d k | inr q ↦ record { slot = l; within = i; to = e ∙ sym q } ];
    only = λ k j. in_left (dep k) ns (n ∷ []) (r.only k j);
    since = r.since;
    older = r.older;
  }

  -- rules 2 and 4: one more link, to n, stamped v; the other links are as they were
  more : (l : ℕ) (rs' : List ℕ) (dep' ver' : ℕ → ℕ) → dep' l ≡ n → ver' l ≡ v
      → ((k : ℕ) → In k dn → (dep' k ≡ dep k) × (start ≤ ver' k)) → ((k : ℕ) → In k rs' → ver' k < start)
      → Evaluated (dn ++ l ∷ []) rs' dep' ver' start (ns ++ n ∷ [])
  more l rs' dep' ver' a q f h = record {
    covers = λ d j. elim (in_one d ns n j) [
      | inl k ↦ let c = r.covers d k in record { slot = c.slot; within = in_left c.slot dn (l ∷ []) c.within; to = (f c.slot c.within).0 ∙ c.to }
      | inr e ↦ record { slot = l; within = in_right l dn (l ∷ []) (inl refl); to = a ∙ sym e }
    ];
    only = λ k j. elim (in_one k dn l j) [
      | inl i ↦ in_left (dep' k) ns (n ∷ []) (subst (λ (x : ℕ). In x ns) (sym (f k i).0) (r.only k i))
      | inr e ↦ in_right (dep' k) ns (n ∷ []) (inl (ap dep' e ∙ a))
    ];
    since = λ k j. elim (in_one k dn l j) [ inl i ↦ (f k i).1 | inr e ↦ let h = ap ver' e ∙ q in omega arith ];
    older = h;
  }

module _ (g : Given) (s : St) (n u v start : ℕ) (ns : List ℕ) (o : Slots g s) (free-left : s.free ≡ [] → ⊥) (late : start ≤ v) (r : Evaluating s u start ns) where
  abbrev Goal : St → Type 0
  Goal t = Evaluating t u start (ns ++ n ∷ [])

  -- a link of u is not the free slot
  dead : (l k : ℕ) (ls : List ℕ) → s.free ≡ l ∷ ls → In k (s.done u ++ s.rest u) → k ≡ l → ⊥
  dead l k ls e j q = clash (ap s.live (sym q) ∙ (o.deps_live k u j).0) (o.free_not_live l (subst (In l) (sym e) (inl refl))).0

  rule1 : (x : Option ℕ) → last_of (s.done u) ≡ x → goes_to s x n ≡ true → Goal s
  rule1 None a e = false≢true e
  rule1 (Some l) a e = again (s.done u) (s.rest u) s.dep s.ver start n v ns r late l (last_in (s.done u) l a) (eqb-true (s.dep l) n e)

  rule2 : (ls : List ℕ) → s.rest u ≡ ls → goes_to s (head_of ls) n ≡ true → Goal (renew s u v ls)
  unfolding renew
  rule2 [] a e = false≢true e
  rule2 (l ∷ ls) a e =
      let apart : (In l ls → ⊥) × Once ls = subst Once a (once_right (s.done u) (s.rest u) (o.deps_once u)) in
      let m = more (s.done u) (s.rest u) s.dep s.ver start n v ns r late l ls s.dep (up s.ver l v) (eqb-true (s.dep l) n e) (up_same s.ver l v)
      (λ k i. (refl, up_by s.ver l v (λ (x : ℕ). start ≤ x) k (λ q. late) (λ q. r.since k i)))
      (λ k i. subst (λ (x : ℕ). x < start) (sym (up_other s.ver l v k (λ q. apart.0 (subst (λ (x : ℕ). In x ls) q i)))) (r.older k (subst (λ (x : List ℕ). In k x) (sym a) (inr i)))) in
      subst (λ (x : List ℕ). Evaluated x (up s.rest u ls u) s.dep (up s.ver l v) start (ns ++ n ∷ [])) (sym (up_same s.done u (s.done u ++ l ∷ [])))
      (subst (λ (x : List ℕ). Evaluated (s.done u ++ l ∷ []) x s.dep (up s.ver l v) start (ns ++ n ∷ [])) (sym (up_same s.rest u ls)) m)

  rule3 : (x : Option ℕ) → last_of (s.subs n) ≡ x → is_from s x u v ≡ true → Goal s
  rule3 None a e = false≢true e
  rule3 (Some l) a e =
      let w = o.subs_live l n (last_in (s.subs n) l a) in
      let hv = eqb-true (s.ver l) v (and_left (eqb (s.ver l) v) (eqb (s.sub l) u) e) in
      let hu = eqb-true (s.sub l) u (and_right (eqb (s.ver l) v) (eqb (s.sub l) u) e) in
      in_cases l (s.done u) (s.rest u) (subst (λ (x : ℕ). In l (s.done x ++ s.rest x)) hu (o.live_in_deps l w.0))
      (λ i. again (s.done u) (s.rest u) s.dep s.ver start n v ns r late l i w.1)
      (λ i. let z = r.older l i in absurd (omega arith))
    where
      and_left : (a b : Bool) → (a && b) ≡ true → a ≡ true
      and_left true b q = refl
      and_left false b q = q

      and_right : (a b : Bool) → (a && b) ≡ true → b ≡ true
      and_right true b q = q
      and_right false b q = false≢true q

  rule4 : (ls : List ℕ) → s.free ≡ ls → Goal (insert s n u v ls)
  unfolding insert
  rule4 [] a = absurd (free-left a)
  rule4 (l ∷ ls) a =
      let m = more (s.done u) (s.rest u) s.dep s.ver start n v ns r late l (s.rest u) (up s.dep l n) (up s.ver l v) (up_same s.dep l n) (up_same s.ver l v)
      (λ k i. let f = dead l k ls a (in_left k (s.done u) (s.rest u) i) in (up_other s.dep l n k f, subst (λ (x : ℕ). start ≤ x) (sym (up_other s.ver l v k f)) (r.since k i)))
      (λ k i. subst (λ (x : ℕ). x < start) (sym (up_other s.ver l v k (dead l k ls a (in_right k (s.done u) (s.rest u) i)))) (r.older k i)) in
      subst (λ (x : List ℕ). Evaluated x (s.rest u) (up s.dep l n) (up s.ver l v) start (ns ++ n ∷ [])) (sym (up_same s.done u (s.done u ++ l ∷ []))) m

  pub link_reads : Goal (link s n u v)
  unfolding link
  link_reads =
      branch Goal (goes_to s (last_of (s.done u)) n) (rule1 (last_of (s.done u)) refl)
      (λ e. branch Goal (goes_to s (head_of (s.rest u)) n) (rule2 (s.rest u) refl)
      (λ f. branch Goal (is_from s (last_of (s.subs n)) u v) (rule3 (last_of (s.subs n)) refl) (λ z. rule4 s.free refl)))

-- ---- a link changes no flag, no value and no mark of being gone
pub record Quiet (s t : St) : Type 0 where
  pub fl : t.fl ≡ s.fl
  pub sto : t.sto ≡ s.sto
  pub cycle : t.cycle ≡ s.cycle
  pub gone : t.gone ≡ s.gone

abbrev quiet : (s t : St) → t.fl ≡ s.fl → t.sto ≡ s.sto → t.cycle ≡ s.cycle → t.gone ≡ s.gone → Quiet s t
quiet s t a b c d = record { fl = a; sto = b; cycle = c; gone = d }

renew_quiet : (s : St) (u v : ℕ) (ls : List ℕ) → Quiet s (renew s u v ls)
unfolding renew
renew_quiet s u v [] = quiet s _ refl refl refl refl
renew_quiet s u v (l ∷ ls) = quiet s _ refl refl refl refl

insert_quiet : (s : St) (d u v : ℕ) (ls : List ℕ) → Quiet s (insert s d u v ls)
unfolding insert
insert_quiet s d u v [] = quiet s _ refl refl refl refl
insert_quiet s d u v (l ∷ ls) = quiet s _ refl refl refl refl

pub link_quiet : (s : St) (d u v : ℕ) → Quiet s (link s d u v)
unfolding link
link_quiet s d u v =
    branch (Quiet s) (goes_to s (last_of (s.done u)) d) (λ e. quiet s s refl refl refl refl)
    (λ e. branch (Quiet s) (goes_to s (head_of (s.rest u)) d) (λ f. renew_quiet s u v (s.rest u))
    (λ f. branch (Quiet s) (is_from s (last_of (s.subs d)) u v) (λ z. quiet s s refl refl refl refl) (λ z. insert_quiet s d u v s.free)))

pub link_moves : (g : Given) (p : ℕ → Value) (N : Set) (b : ℕ) (s : St) (d u v : ℕ) → Moves g p N nobody b 0 s (link s d u v)
link_moves g p N b s d u v =
    let q = link_quiet s d u v in
    let c = q.cycle in
    moves_flags g p N nobody b 0 s (link s d u v)
    (λ m. inl (ap (λ (f : ℕ → Value). f m) q.sto)) (λ m h. ap (λ (f : ℕ → Value). f m) q.sto) (omega arith) (omega arith) (λ m h k. ap (λ (f : ℕ → Named). f m) q.fl)
