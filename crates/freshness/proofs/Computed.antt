-- (c) for a computed, from the end of its evaluation on: the value is stored, the flag is clean, old links go. Then only X and, if the value changed, the subscribers are exempt. Assumes nothing.
use mathlib.Core.Path.{◌≡◌, refl, sym, ap, ◌∙◌, subst}
use mathlib.Core.Logic.{◌⊎◌, inl, inr}
use mathlib.Core.Bool.{Bool, true, false, not}
use mathlib.Core.List.{List, [], ◌++◌, append-nil}
use Prim.Native.Nat.{ℕ, ◌<◌}
use lib.Dec.{eqb}
use borrow.Author.Tests.{eqb-true, eqb-false}
use Rattle.flags.specs.declared.Named.{Named}
use Rattle.values.specs.declared.Value.{Value}
use Rattle.values.specs.Values.{same}
use Rattle.values.proofs.ValueLaws.{same_yes}
use Rattle.trees.specs.Trees.{worth, reads}
use Rattle.meaning.specs.State.{St, computed, effect, readable, unclean, deps, f1, up}
use Rattle.meaning.specs.Setters.{set_fl, set_sto}
use Rattle.meaning.specs.WellFormed.{In}
use Rattle.meaning.proofs.Laws.{clash, either, up_same, up_other, up_by, in_left}
use Rattle.meaning.proofs.Members.{nil_none}
use Rattle.meaning.proofs.Still.{Given}
use Rattle.meaning.proofs.Binding.{SameLists}
use Rattle.meaning.proofs.Inside.{Set, also, only, Inside}
use Rattle.meaning.proofs.Dropping.{a_computed, Fallen}
use Rattle.freshness.proofs.Forms.{locally}
use Rattle.freshness.proofs.Inv.{Records, union, Linked, ReadsBy, RightBy, Inv, right_moves, seen_moves, Evaluating}
use Rattle.freshness.proofs.Clean.{φ}
use Rattle.freshness.proofs.Signal.{Touched}
use Rattle.freshness.proofs.Purge.{Spent, drops_keep}

module _ (g : Given) (p : ℕ → Value) (ρ : Records) (X : Set) (x : St) (c : ℕ) (hc : c < g.size) (cm : g.kind c ≡ computed) (v : Value) (start : ℕ)
    (value : v ≡ worth (g.form c) (φ g p))
    (ev : Evaluating x c start (reads (g.form c) (φ g p)))
    (read : (d : ℕ) → In d (reads (g.form c) (φ g p)) → (x.fl d ≡ f1) × (x.sto d ≡ φ g p d) × (d ≡ c → ⊥))
    (i : Inv g p ρ (also X c) (also X c) x) where
  -- stored and clean
  abbrev y : St
  y = set_fl (set_sto x c v) c f1

  abbrev yes : Bool
  yes = not (same (x.sto c) v)

  abbrev sto' : ℕ → Value
  sto' = up x.sto c v

  flags : (m : ℕ) → (m ≡ c → ⊥) → y.fl m ≡ x.fl m
  flags m f = up_other x.fl c f1 m f

  not_c : (B : Set) (m : ℕ) → (union (also X c) B m → ⊥) → m ≡ c → ⊥
  not_c B m na q = na (inl (inr q))

  untouched : (u m : ℕ) → Linked x m u → (union (also X c) (Touched x c yes) u → ⊥) → sto' m ≡ x.sto m
  untouched u m l free =
      up_by x.sto c v (λ (w : Value). w ≡ x.sto m) m
      (λ q. either (same (x.sto c) v)
      (λ e. sym (same_yes (x.sto c) v e) ∙ ap x.sto (sym q))
      (λ e. absurd (free (inr (ap not e, subst (λ (k : ℕ). Linked x k u) q l)))))
      (λ q. refl)

  stored : Inv g p ρ (also X c) (union (also X c) (Touched x c yes)) y
  stored = record {
    last = i.last;
    ver = i.ver;
    sig = λ m h k d.
        let f : m ≡ c → ⊥ = λ q. clash (ap a_computed cm) (ap a_computed (sym (ap g.kind q) ∙ k)) in
        up_other x.sto c v m f ∙ i.sig m h k (ap (λ (w : Named). w.dirty) (sym (flags m f)) ∙ d);
    mark = λ l lv rd na un. either (eqb (x.dep l) c)
        (λ e. clash un (ap unclean (ap y.fl (eqb-true (x.dep l) c e) ∙ up_same x.fl c f1)))
        (λ e. ap (λ (w : Named). w.pending) (flags (x.sub l) (not_c (Touched x c yes) (x.sub l) na))
        ∙ i.mark l lv rd (λ a. na (inl a)) (ap unclean (sym (flags (x.dep l) (eqb-false (x.dep l) c e))) ∙ un));
    val = λ m h k na mu d.
        let f = not_c (Touched x c yes) m na in
        let right = i.val m h k (λ a. na (inl a)) (ap (λ (w : Named). w.mutable) (sym (flags m f)) ∙ mu) (ap (λ (w : Named). w.dirty) (sym (flags m f)) ∙ d) in
        right_moves g.kind x.live x.dep x.sub (g.form m) x.sto sto' m (λ j t. untouched m j (right.reads.all j t) na) (up_other x.sto c v m f) right;
    seen = λ e h k gn na d.
        let f = not_c (Touched x c yes) e na in
        seen_moves (g.form e) x.sto sto' (ρ e) (λ j t. untouched e j ((i.rec e h k gn (λ a. na (inl a))).all j t) na)
        (i.seen e h k gn (λ a. na (inl a)) (ap (λ (w : Named). w.dirty) (sym (flags e f)) ∙ d));
    rec = i.rec;
  }

  module _ (t : St) (yi : Inside g (also X c) y) (ti : Inside g (also X c) t) (z : Spent y t) (ends : (t.dep ≡ x.dep) × (t.sub ≡ x.sub))
      (fate : (m : ℕ) → (t.fl m ≡ y.fl m) ⊎ (t.subs m ≡ [])) (sp : (m : ℕ) → (m ≡ c → ⊥) → SameLists y t m ⊎ Fallen t m) (done : t.done c ≡ x.done c) (rest : t.rest c ≡ []) where
    -- after the purge, with the subscribers that are left
    abbrev T : Set
    T u = Touched t c yes u

    dep_at : (l : ℕ) → t.dep l ≡ x.dep l
    dep_at l = ap (λ (f : ℕ → ℕ). f l) ends.0

    sub_at : (l : ℕ) → t.sub l ≡ x.sub l
    sub_at l = ap (λ (f : ℕ → ℕ). f l) ends.1

    purged : Inv g p ρ (also X c) (union (also X c) T) t
    purged =
        drops_keep g p ρ (also X c) (union (also X c) (Touched x c yes)) (union (also X c) T) (only c) y t (λ m. inl) (λ m. inr) yi ti z ends fate sp less stored
      where
        less : (m : ℕ) → (union (also X c) T m → ⊥) → ((l : ℕ) → x.live l ≡ true → x.sub l ≡ m → t.live l ≡ true) → union (also X c) (Touched x c yes) m → ⊥
        less m nb keep (inl a) = nb (inl a)
        less m nb keep (inr w) =
            let l = w.1 in
            nb (inr (w.0, record { slot = l.slot; is_live = keep l.slot l.is_live l.from; to = dep_at l.slot ∙ l.to; from = sub_at l.slot ∙ l.from }))

    -- the links of c are those up to the cursor
    own : (l : ℕ) → t.live l ≡ true → t.sub l ≡ c → In l (x.done c)
    own l lv e =
        let a : In l (deps t c) = subst (λ (m : ℕ). In l (deps t m)) e (ti.lists.live_in_deps l lv) in
        let b : deps t c ≡ x.done c = ap (λ (w : List ℕ). t.done c ++ w) rest ∙ append-nil (t.done c) ∙ done in
        subst (In l) b a

    kept : (l : ℕ) → In l (x.done c) → (t.live l ≡ true) × (t.sub l ≡ c)
    kept l j = ti.lists.deps_live l c (in_left l (t.done c) (t.rest c) (subst (In l) (sym done) j))

    right : RightBy g.kind t.live t.dep t.sub (g.form c) t.sto c
    right =
        let q = locally (g.form c) (φ g p) sto' (λ d j. sym (up_other x.sto c v d (read d j).2 ∙ (read d j).1)) in
        subst (λ (f : ℕ → Value). RightBy g.kind t.live t.dep t.sub (g.form c) f c) (sym z.sto) (record {
          value = up_same x.sto c v ∙ value ∙ q.0;
          reads = subst (λ (ns : List ℕ). ReadsBy g.kind t.live t.dep t.sub c ns) q.1 (record {
            all = λ d j. let k = ev.covers d j in let w = kept k.slot k.within in record { slot = k.slot; is_live = w.0; to = dep_at k.slot ∙ k.to; from = w.1 };
            only = λ d l rd. subst (λ (e : ℕ). In e (reads (g.form c) (φ g p))) (sym (dep_at l.slot) ∙ l.to) (ev.only l.slot (own l.slot l.is_live l.from));
            can = λ d j. let k = ev.covers d j in let w = kept k.slot k.within in
                subst (λ (e : ℕ). readable (g.kind e) ≡ true) (dep_at k.slot ∙ k.to) ((ti.goes k.slot w.0).of_computed (ap g.kind w.1 ∙ cm));
          });
        })

    -- what c reads is clean
    clean_dep : (l : ℕ) → t.live l ≡ true → t.sub l ≡ c → unclean (t.fl (t.dep l)) ≡ false
    clean_dep l lv q = go (fate (t.dep l))
      where
        go : (t.fl (t.dep l) ≡ y.fl (t.dep l)) ⊎ (t.subs (t.dep l) ≡ []) → unclean (t.fl (t.dep l)) ≡ false
        go (inl e) = let r = read (x.dep l) (ev.only l (own l lv q)) in ap unclean (e ∙ ap y.fl (dep_at l) ∙ flags (x.dep l) r.2 ∙ r.0)
        go (inr e) = absurd (nil_none (t.subs (t.dep l)) l e (ti.lists.live_in_subs l lv))

    pub computed_ends : Inv g p ρ X (union X T) t
    computed_ends =
        let j = purged in
        record {
          last = j.last;
          ver = j.ver;
          sig = j.sig;
          mark = λ l lv rd na un. either (eqb (t.sub l) c)
              (λ e. clash un (clean_dep l lv (eqb-true (t.sub l) c e)))
              (λ e. j.mark l lv rd (wider (t.sub l) na (eqb-false (t.sub l) c e)) un);
          val = λ m h k na mu d. either (eqb m c)
              (λ e. subst (λ (b : ℕ). RightBy g.kind t.live t.dep t.sub (g.form b) t.sto b) (sym (eqb-true m c e)) right)
              (λ e. j.val m h k (wider m na (eqb-false m c e)) mu d);
          seen = λ m h k gn na d. j.seen m h k gn (wider m na (other m k)) d;
          rec = λ m h k gn nx. j.rec m h k gn (under m nx (other m k));
        }
      where
        other : (m : ℕ) → g.kind m ≡ effect → m ≡ c → ⊥
        other m k q = clash (ap readable cm) (ap readable (sym (ap g.kind q) ∙ k))

        under : (m : ℕ) → (X m → ⊥) → (m ≡ c → ⊥) → also X c m → ⊥
        under m nx f (inl a) = nx a
        under m nx f (inr q) = f q

        wider : (m : ℕ) → (union X T m → ⊥) → (m ≡ c → ⊥) → union (also X c) T m → ⊥
        wider m na f (inl (inl a)) = na (inl a)
        wider m na f (inl (inr q)) = f q
        wider m na f (inr w) = na (inr w)
