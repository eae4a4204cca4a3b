-- The first ring inside an operation: unlink, unwatched, dispose and purge keep well-formedness, are not stuck, and touch only what lies under them. Assumes nothing.
use Rattle.std.specs.Prelude.{Option, None, Some}
use mathlib.Core.Path.{◌≡◌, refl, sym, ap, ap₂, ◌∙◌, subst, fun_ext}
use mathlib.Core.Logic.{◌⊎◌, inl, inr}
use mathlib.Core.Bool.{Bool, true, false}
use mathlib.Core.List.{List, [], ◌∷◌, ◌++◌}
use Prim.Native.Nat.{ℕ, zero, suc, ◌+◌, ◌≤◌, ◌<◌}
use native.Mathlib.Omega.{arith}
use lib.Dec.{eqb}
use lib.ListN.{length}
use borrow.Author.Tests.{eqb-true, eqb-false}
use Rattle.flags.specs.declared.Named.{Named}
use Rattle.trees.specs.Trees.{names}
use Rattle.meaning.specs.State.{St, Kind, signal, computed, effect, scope, readable, deps, f0, f17, up}
use Rattle.meaning.specs.Setters.{set_fl, set_gone}
use Rattle.meaning.specs.Links.{is_nil, head_of, remove, each, cut, rewind, purge_w, last_link, dispose_w, unwatched_w, unlink_n, budget, purge, dispose}
use Rattle.meaning.specs.Reserve.{reserve_of}
use Rattle.meaning.specs.Owners.{Below}
use Rattle.meaning.specs.WellFormed.{In, Once, Lists, read_links, ComputedFlags, never, clean, stale, maybe, dirty, EffectFlags}
use Rattle.meaning.proofs.Laws.{clash, false≢true, either, none_some, branch, up_same, up_other, up_by, in_right}
use Rattle.meaning.proofs.Members.{remove_in, in_remove, remove_absent, remove_head, remove_once, remove_append, none_nil, nil_none, is_nil-true, is_nil-false, append_is_nil, once_right, once_apart, most_below, total-least, reads_remove}
use Rattle.meaning.proofs.Still.{Given}
use Rattle.meaning.proofs.Binding.{SameLists, SameReads, reads_then, reads_lists}
use Rattle.meaning.proofs.Steps.{falls_by}
use Rattle.meaning.proofs.Inside.{Set, nobody, also, only, Static, Goes, AtRest, Rests, Slots, reserve_least, Inside, widen, let_out, at_same, own_still, read_moves, moves_read, Under, under_same, under_then, goes_under, never_back, owner_owns}

-- ---- a link is cut
module _ (g : Given) (X : Set) (s : St) (l : ℕ) (i : Inside g X s) (lv : s.live l ≡ true) where
  abbrev o : Slots g s
  o = i.lists

  cut_deps : (v : ℕ) → deps (cut s l) v ≡ remove l (deps s v)
  unfolding cut
  cut_deps v =
      either (eqb v (s.sub l))
      (λ e. let q = eqb-true v (s.sub l) e in
      subst (λ (z : ℕ). up s.done (s.sub l) (remove l (s.done (s.sub l))) z ++ up s.rest (s.sub l) (remove l (s.rest (s.sub l))) z ≡ remove l (s.done z ++ s.rest z)) (sym q)
      (ap₂ (λ (x y : List ℕ). x ++ y) (up_same s.done (s.sub l) (remove l (s.done (s.sub l)))) (up_same s.rest (s.sub l) (remove l (s.rest (s.sub l))))
      ∙ remove_append l (s.done (s.sub l)) (s.rest (s.sub l))))
      (λ e. let q = eqb-false v (s.sub l) e in
      ap₂ (λ (x y : List ℕ). x ++ y) (up_other s.done (s.sub l) (remove l (s.done (s.sub l))) v q) (up_other s.rest (s.sub l) (remove l (s.rest (s.sub l))) v q)
      ∙ sym (remove_absent l (deps s v) (λ j. q (sym (o.deps_live l v j).1))))

  cut_subs : (m : ℕ) → (cut s l).subs m ≡ remove l (s.subs m)
  unfolding cut
  cut_subs m =
      up_by s.subs (s.dep l) (remove l (s.subs (s.dep l))) (λ (x : List ℕ). x ≡ remove l (s.subs m)) m (λ q. ap (λ (z : ℕ). remove l (s.subs z)) (sym q))
      (λ q. sym (remove_absent l (s.subs m) (λ j. q (sym (o.subs_live l m j).1))))

  -- it was the only one
  pub nobody_left : s.subs (s.dep l) ≡ l ∷ [] → (cut s l).subs (s.dep l) ≡ []
  nobody_left one = cut_subs (s.dep l) ∙ ap (remove l) one ∙ remove_head l [] (λ j. j)

  still_live : (k : ℕ) → up s.live l false k ≡ true → (k ≡ l → ⊥) × (s.live k ≡ true)
  still_live k = up_by s.live l false (λ (b : Bool). b ≡ true → (k ≡ l → ⊥) × (s.live k ≡ true)) k (λ q e. false≢true e) (λ q e. (q, e))

  kept_live : (k : ℕ) → (k ≡ l → ⊥) → s.live k ≡ true → up s.live l false k ≡ true
  kept_live k q e = up_other s.live l false k q ∙ e

  cut_slots : Slots g (cut s l)
  unfolding cut
  cut_slots = record {
    free_not_live = λ k. freed k;
    free_or_live = λ k h. up_by s.live l false (λ (b : Bool). b ≡ false → In k (l ∷ s.free)) k (λ q e. inl q) (λ q e. inr (o.free_or_live k h e));
    free_once = (λ j. clash lv (o.free_not_live l j).0, o.free_once);
    live_slot = λ k e. o.live_slot k (still_live k e).1;
    live_in_subs = λ k e. let x = still_live k e in subst (In k) (sym (cut_subs (s.dep k))) (in_remove k l (s.subs (s.dep k)) (o.live_in_subs k x.1) x.0);
    subs_live = λ k m j. let x = remove_in k l (s.subs m) (subst (In k) (cut_subs m) j) in let y = o.subs_live k m x.0 in (kept_live k x.1 y.0, y.1);
    subs_once = λ m. subst Once (sym (cut_subs m)) (remove_once l (s.subs m) (o.subs_once m));
    live_in_deps = λ k e. let x = still_live k e in subst (In k) (sym (cut_deps (s.sub k))) (in_remove k l (deps s (s.sub k)) (o.live_in_deps k x.1) x.0);
    deps_live = λ k v j. let x = remove_in k l (deps s v) (subst (In k) (cut_deps v) j) in let y = o.deps_live k v x.0 in (kept_live k x.1 y.0, y.1);
    deps_once = λ v. subst Once (sym (cut_deps v)) (remove_once l (deps s v) (o.deps_once v));
    tail_last = λ v. refl;
    inside = λ k e. o.inside k (still_live k e).1;
  }
    where
      freed : (k : ℕ) → In k (l ∷ s.free) → (up s.live l false k ≡ false) × (k < g.room.slots)
      freed k (inl q) = (up_by s.live l false (λ (b : Bool). b ≡ false) k (λ e. refl) (λ e. absurd (e q)), subst (λ (z : ℕ). z < g.room.slots) (sym q) (o.live_slot l lv))
      freed k (inr j) = let x = o.free_not_live k j in (up_by s.live l false (λ (b : Bool). b ≡ false) k (λ e. refl) (λ e. x.0), x.1)

  -- its subscriber is under way, its dependency is taken in
  pub cut_inside : X (s.sub l) → Inside g (also X (s.dep l)) (cut s l)
  unfolding cut
  cut_inside xu = record {
    same = i.same;
    lists = cut_slots;
    goes = λ k e. i.goes k (still_live k e).1;
    gone_kind = i.gone_kind;
    fits = i.fits;
    no_wake = i.no_wake;
    once = i.once;
    effects = i.effects;
    rests = λ n h f.
        let a : n ≡ s.sub l → ⊥ = λ q. f (inl (subst X (sym q) xu)) in
        let b : n ≡ s.dep l → ⊥ = λ q. f (inr q) in
        at_same g s.queue s.dep s.sub n _ _ _ _ _ _ _ _ _ _ refl refl
        (up_other s.done (s.sub l) (remove l (s.done (s.sub l))) n a) (up_other s.rest (s.sub l) (remove l (s.rest (s.sub l))) n a)
        (up_other s.subs (s.dep l) (remove l (s.subs (s.dep l))) n b) (i.rests n h (λ x. f (inl x)));
  }

-- ---- nodes under way
module _ (g : Given) (X : Set) (s : St) (n : ℕ) (i : Inside g X s) (xn : X n) where
  off : (m : ℕ) → (X m → ⊥) → m ≡ n → ⊥
  off m f q = f (subst X (sym q) xn)

  pub flags_inside : (f : Named) → (f.pending ≡ true → f.watching ≡ false) → Inside g X (set_fl s n f)
  flags_inside f h = record {
    same = i.same;
    lists = i.lists;
    goes = i.goes;
    gone_kind = i.gone_kind;
    fits = i.fits;
    no_wake = λ m l. up_by s.fl n f (λ (x : Named). x.pending ≡ true → x.watching ≡ false) m (λ q. h) (λ q. i.no_wake m l);
    once = i.once;
    effects = i.effects;
    rests = λ m l x. at_same g s.queue s.dep s.sub m _ _ _ _ _ _ _ _ _ _ (up_other s.fl n f m (off m x)) refl refl refl refl (i.rests m l x);
  }

  rewind_deps : (v : ℕ) → deps (rewind s n) v ≡ deps s v
  rewind_deps v =
      either (eqb v n)
      (λ e. subst (λ (z : ℕ). up s.done n [] z ++ up s.rest n (s.done n ++ s.rest n) z ≡ s.done z ++ s.rest z) (sym (eqb-true v n e))
      (ap₂ (λ (x y : List ℕ). x ++ y) (up_same s.done n []) (up_same s.rest n (s.done n ++ s.rest n))))
      (λ e. let q = eqb-false v n e in ap₂ (λ (x y : List ℕ). x ++ y) (up_other s.done n [] v q) (up_other s.rest n (s.done n ++ s.rest n) v q))

  pub rewind_inside : Inside g X (rewind s n)
  rewind_inside = record {
    same = i.same;
    lists = subst (λ (f : ℕ → List ℕ). Lists g.room.slots g.size s.free s.live s.dep s.sub f (λ v. []) s.subs) (sym (fun_ext rewind_deps)) i.lists;
    goes = i.goes;
    gone_kind = i.gone_kind;
    fits = i.fits;
    no_wake = i.no_wake;
    once = i.once;
    effects = i.effects;
    rests = λ m l x. at_same g s.queue s.dep s.sub m _ _ _ _ _ _ _ _ _ _ refl refl (up_other s.done n [] m (off m x)) (up_other s.rest n (s.done n ++ s.rest n) m (off m x)) refl (i.rests m l x);
  }

  less_reserved : (m : ℕ) → reserve_of (g.kind m) (up s.gone n true m) (g.form m) (g.owner m) ≤ reserve_of (g.kind m) (s.gone m) (g.form m) (g.owner m)
  less_reserved m = up_by s.gone n true (λ (b : Bool). reserve_of (g.kind m) b (g.form m) (g.owner m) ≤ reserve_of (g.kind m) (s.gone m) (g.form m) (g.owner m)) m
      (λ q. reserve_least (g.kind m) (s.gone m) (g.form m) (g.owner m)) (λ q. omega arith)

  pub gone_inside : readable (g.kind n) ≡ false → Inside g X (set_gone s n true)
  gone_inside r = record {
    same = i.same;
    lists = i.lists;
    goes = i.goes;
    gone_kind = λ m l q. up_by s.gone n true (λ (b : Bool). b ≡ false) m (λ e. clash q (ap (λ (z : ℕ). readable (g.kind z)) e ∙ r)) (λ e. i.gone_kind m l q);
    fits =
        let a = total-least (λ m. reserve_of (g.kind m) (up s.gone n true m) (g.form m) (g.owner m)) (λ m. reserve_of (g.kind m) (s.gone m) (g.form m) (g.owner m)) g.size (λ m h. less_reserved m) in
        let b = i.fits in
        omega arith;
    no_wake = i.no_wake;
    once = i.once;
    effects = i.effects;
    rests = λ m l x. at_same g s.queue s.dep s.sub m _ _ _ _ _ _ _ _ _ _ refl (up_other s.gone n true m (off m x)) refl refl refl (i.rests m l x);
  }

-- ---- what the ring leaves alone: everything but N, and the lists of u
pub record Dropped (N : Set) (u : ℕ) (s t : St) : Type 0 where
  pub dep : t.dep ≡ s.dep
  pub sub : t.sub ≡ s.sub
  pub ver : t.ver ≡ s.ver
  pub lists : (m : ℕ) → (N m → ⊥) → (m ≡ u → ⊥) → (t.done m ≡ s.done m) × (t.rest m ≡ s.rest m)
  pub flags : (m : ℕ) → (N m → ⊥) → (t.fl m ≡ s.fl m) × (t.gone m ≡ s.gone m)
  pub fate : (m : ℕ) → (t.fl m ≡ s.fl m) ⊎ (t.subs m ≡ [])
  pub subs : (m : ℕ) → (N m → ⊥) → t.subs m ≡ s.subs m
  pub fewer : (l m : ℕ) → In l (t.subs m) → In l (s.subs m)
  pub free : length s.free ≤ length t.free
  pub stuck : t.stuck ≡ s.stuck

dropped_same : (N : Set) (u : ℕ) (s : St) → Dropped N u s s
dropped_same N u s = record {
  dep = refl;
  sub = refl;
  ver = refl;
  lists = λ m a b. (refl, refl);
  flags = λ m a. (refl, refl);
  fate = λ m. inl refl;
  subs = λ m a. refl;
  fewer = λ l m j. j;
  free = omega arith;
  stuck = refl;
}

dropped_wider : (N M : Set) (u v : ℕ) (s t : St) → ((m : ℕ) → N m → M m) → ((M u → ⊥) → u ≡ v) → Dropped N u s t → Dropped M v s t
dropped_wider N M u v s t h e p = record {
  dep = p.dep;
  sub = p.sub;
  ver = p.ver;
  lists = λ m a b. p.lists m (λ x. a (h m x)) (λ q. b (q ∙ e (λ x. a (subst M (sym q) x))));
  flags = λ m a. p.flags m (λ x. a (h m x));
  fate = p.fate;
  subs = λ m a. p.subs m (λ x. a (h m x));
  fewer = p.fewer;
  free = p.free;
  stuck = p.stuck;
}

dropped_then : (N : Set) (u : ℕ) (s t x : St) → Dropped N u s t → Dropped N u t x → Dropped N u s x
dropped_then N u s t x p q =
    let a = p.free in
    let b = q.free in
    record {
      dep = q.dep ∙ p.dep;
      sub = q.sub ∙ p.sub;
      ver = q.ver ∙ p.ver;
      lists = λ m f h. ((q.lists m f h).0 ∙ (p.lists m f h).0, (q.lists m f h).1 ∙ (p.lists m f h).1);
      flags = λ m f. ((q.flags m f).0 ∙ (p.flags m f).0, (q.flags m f).1 ∙ (p.flags m f).1);
      fate = λ m. go m (p.fate m) (q.fate m);
      subs = λ m f. q.subs m f ∙ p.subs m f;
      fewer = λ l m j. p.fewer l m (q.fewer l m j);
      free = omega arith;
      stuck = q.stuck ∙ p.stuck;
    }
  where
    go : (m : ℕ) → (t.fl m ≡ s.fl m) ⊎ (t.subs m ≡ []) → (x.fl m ≡ t.fl m) ⊎ (x.subs m ≡ []) → (x.fl m ≡ s.fl m) ⊎ (x.subs m ≡ [])
    go m a (inr e) = inr e
    go m (inl c) (inl e) = inl (e ∙ c)
    go m (inr c) (inl e) = inr (none_nil (x.subs m) (λ l j. nil_none (t.subs m) l c (q.fewer l m j)))

-- a node of N without subscribers changes flags, mark and lists
dropped_reset : (N : Set) (u n : ℕ) (s : St) (f : Named) (b : ℕ → Bool) → N n → s.subs n ≡ [] → ((m : ℕ) → (m ≡ n → ⊥) → b m ≡ s.gone m)
    → (t : St) → t.dep ≡ s.dep → t.sub ≡ s.sub → t.ver ≡ s.ver → t.subs ≡ s.subs → t.free ≡ s.free → t.stuck ≡ s.stuck → t.fl ≡ up s.fl n f → t.gone ≡ b
    → t.done ≡ up s.done n [] → t.rest ≡ up s.rest n (s.done n ++ s.rest n) → Dropped N u s t
dropped_reset N u n s f b nn none_here same t e₁ e₂ ev e₃ e₄ e₅ e₆ e₇ e₈ e₉ =
    let z = ap length e₄ in
    record {
      dep = e₁;
      sub = e₂;
      ver = ev;
      lists = λ m a c. (ap (λ (x : ℕ → List ℕ). x m) e₈ ∙ up_other s.done n [] m (away m a), ap (λ (x : ℕ → List ℕ). x m) e₉ ∙ up_other s.rest n (s.done n ++ s.rest n) m (away m a));
      flags = λ m a. (ap (λ (x : ℕ → Named). x m) e₆ ∙ up_other s.fl n f m (away m a), ap (λ (x : ℕ → Bool). x m) e₇ ∙ same m (away m a));
      fate = λ m. either (eqb m n) (λ e. inr (ap (λ (x : ℕ → List ℕ). x m) e₃ ∙ ap s.subs (eqb-true m n e) ∙ none_here)) (λ e. inl (ap (λ (x : ℕ → Named). x m) e₆ ∙ up_other s.fl n f m (eqb-false m n e)));
      subs = λ m a. ap (λ (x : ℕ → List ℕ). x m) e₃;
      fewer = λ l m j. subst (λ (x : ℕ → List ℕ). In l (x m)) e₃ j;
      free = omega arith;
      stuck = e₅;
    }
  where
    away : (m : ℕ) → (N m → ⊥) → m ≡ n → ⊥
    away m a q = a (subst N (sym q) nn)

-- ---- whose links the ring leaves alone: all but those of E, and of nodes that fall, which are gone or have flags 17
abbrev pub Fallen : St → ℕ → Type 0
Fallen t m = (t.gone m ≡ true) ⊎ (t.fl m ≡ f17)

pub record Spares (E : Set) (s t : St) : Type 0 where
  pub safe : (m : ℕ) → (E m → ⊥) → SameLists s t m ⊎ Fallen t m
  pub fallen : (m : ℕ) → Fallen s m → Fallen t m

spares_same : (E : Set) (s : St) → Spares E s s
spares_same E s = record { safe = λ m h. inl (refl, refl); fallen = λ m f. f }

spares_then : (E : Set) (s t x : St) → Spares E s t → Spares E t x → Spares E s x
spares_then E s t x p q = record { safe = λ m h. go m (p.safe m h) (q.safe m h); fallen = λ m f. q.fallen m (p.fallen m f) }
  where
    go : (m : ℕ) → SameLists s t m ⊎ Fallen t m → SameLists t x m ⊎ Fallen x m → SameLists s x m ⊎ Fallen x m
    go m (inl a) (inl b) = inl (b.0 ∙ a.0, b.1 ∙ a.1)
    go m (inl a) (inr f) = inr f
    go m (inr f) b = inr (q.fallen m f)

-- a node that has fallen may lose its links
spares_over : (s t x : St) (n : ℕ) → Spares nobody s t → Fallen t n → Spares (only n) t x → Spares nobody s x
spares_over s t x n p f q = record { safe = λ m h. either (eqb m n) (λ e. inr (q.fallen m (subst (Fallen t) (sym (eqb-true m n e)) f))) (λ e. go m (p.safe m h) (q.safe m (eqb-false m n e))); fallen = λ m z. q.fallen m (p.fallen m z) }
  where
    go : (m : ℕ) → SameLists s t m ⊎ Fallen t m → SameLists t x m ⊎ Fallen x m → SameLists s x m ⊎ Fallen x m
    go m (inl a) (inl b) = inl (b.0 ∙ a.0, b.1 ∙ a.1)
    go m (inl a) (inr z) = inr z
    go m (inr z) b = inr (q.fallen m z)

-- one node falls
spares_reset : (s t : St) (n : ℕ) → ((m : ℕ) → (m ≡ n → ⊥) → SameLists s t m × (t.fl m ≡ s.fl m) × (t.gone m ≡ s.gone m)) → Fallen t n → Spares nobody s t
spares_reset s t n same f = record {
  safe = λ m h. either (eqb m n) (λ e. inr (subst (Fallen t) (sym (eqb-true m n e)) f)) (λ e. inl (same m (eqb-false m n e)).0);
  fallen = λ m z. either (eqb m n) (λ e. subst (Fallen t) (sym (eqb-true m n e)) f) (λ e. keep m (same m (eqb-false m n e)) z);
}
  where
    keep : (m : ℕ) → SameLists s t m × (t.fl m ≡ s.fl m) × (t.gone m ≡ s.gone m) → Fallen s m → Fallen t m
    keep m p (inl a) = inl (p.2 ∙ a)
    keep m p (inr a) = inr (p.1 ∙ a)

abbrev head_or : List ℕ → ℕ
head_or [] = 0
head_or (x ∷ xs) = x

abbrev pub a_computed : Kind → Bool
a_computed signal = false
a_computed computed = true
a_computed effect = false
a_computed scope = false

-- ---- a gone node without links
pub rests_gone : (g : Given) (queue : List ℕ) (dep sub : ℕ → ℕ) (n : ℕ) (f : Named) (b : Bool) (done rest subs : List ℕ)
    → readable (g.kind n) ≡ false → f ≡ f0 → b ≡ true → done ≡ [] → rest ≡ [] → subs ≡ [] → AtRest g queue dep sub n f b done rest subs
unfolding read_links
rests_gone g queue dep sub n f b done rest subs r e₁ e₂ e₃ e₄ e₅ = record {
  tail = e₄;
  owned = λ o a q. clash e₂ a;
  unowned = λ a q. e₅;
  bare = λ a. (e₃, e₅);
  few = subst (λ (x : List ℕ). length (read_links g.kind dep x) ≤ length (names (g.form n))) (sym e₃) (omega arith);
  of_signal = λ k. clash (ap readable k) r;
  of_computed = λ k. clash (ap readable k) r;
  of_effect = λ k a. clash e₂ a;
  of_scope = λ k. e₁;
  of_gone = λ k a. inl e₁;
  queued = λ j a. e₁;
}

module _ (g : Given) (st : Static g) where
  abbrev Strict : ℕ → Set
  Strict u m = Under g u m × (m ≡ u → ⊥)

  pub record Unlinked (X : Set) (s : St) (l : ℕ) (t : St) : Type 0 where
    pub inside : Inside g X t
    pub dropped : Dropped (Under g (s.dep l)) (s.sub l) s t
    pub spares : Spares (only (s.sub l)) s t
    pub done : t.done (s.sub l) ≡ remove l (s.done (s.sub l))
    pub rest : t.rest (s.sub l) ≡ remove l (s.rest (s.sub l))

  pub record Purged (X : Set) (s : St) (u : ℕ) (t : St) : Type 0 where
    pub inside : Inside g X t
    pub dropped : Dropped (Strict u) u s t
    pub spares : Spares (only u) s t
    pub done : t.done u ≡ s.done u
    pub rest : t.rest u ≡ []

  -- ul frees slots for k links at least
  abbrev Unlinks : ℕ → (St → ℕ → St) → Type 1
  Unlinks k ul = (X : Set) (s : St) (l : ℕ) → Inside g X s → s.live l ≡ true → X (s.sub l) → ((m : ℕ) → Under g (s.dep l) m → X m → ⊥)
      → g.room.slots ≤ k + length s.free → Unlinked X s l (ul s l)

  module _ (k : ℕ) (ul : St → ℕ → St) (uls : Unlinks k ul) where
    purge_all : (X : Set) (u : ℕ) → X u → ((m : ℕ) → Strict u m → X m → ⊥) → (ls : List ℕ) (s : St) → Inside g X s → s.rest u ≡ ls → g.room.slots ≤ k + length s.free → Purged X s u (each ul s ls)
    unfolding each
    purge_all X u xu apart [] s i e b = record { inside = i; dropped = dropped_same (Strict u) u s; spares = spares_same (only u) s; done = refl; rest = e }
    purge_all X u xu apart (l ∷ ls) s i e b =
        let in_deps : In l (deps s u) = in_right l (s.done u) (s.rest u) (subst (In l) (sym e) (inl refl)) in
        let lu = i.lists.deps_live l u in_deps in
        let su : s.sub l ≡ u = lu.1 in
        let dl = (i.lists.inside l lu.0).0 in
        let go = subst (λ (z : ℕ). Goes g (s.dep l) z) su (i.goes l lu.0) in
        let below : (m : ℕ) → Under g (s.dep l) m → Strict u m = λ m p. (under_then g st u (s.dep l) m (goes_under g st (s.dep l) u dl go) p, λ q. never_back g st (s.dep l) u dl go (subst (Under g (s.dep l)) q p)) in
        let r = uls X s l i lu.0 (subst X (sym su) xu) (λ m p. apart m (below m p)) b in
        let t = ul s l in
        let one : Once (s.done u ++ s.rest u) = i.lists.deps_once u in
        let ones : Once (l ∷ ls) = subst Once e (once_right (s.done u) (s.rest u) one) in
        let rest_now : t.rest u ≡ ls = subst (λ (z : ℕ). t.rest z ≡ remove l (s.rest z)) su r.rest ∙ ap (remove l) e ∙ remove_head l ls ones.0 in
        let done_now : t.done u ≡ s.done u =
        subst (λ (z : ℕ). t.done z ≡ remove l (s.done z)) su r.done
        ∙ remove_absent l (s.done u) (λ j. once_apart (s.done u) (s.rest u) one l j (subst (In l) (sym e) (inl refl))) in
        let fr = r.dropped.free in
        let n = purge_all X u xu apart ls t r.inside rest_now (omega arith) in
        record {
          inside = n.inside;
          dropped = dropped_then (Strict u) u s t _ (dropped_wider (Under g (s.dep l)) (Strict u) (s.sub l) u s t below (λ x. su) r.dropped) n.dropped;
          spares = spares_then (only u) s t _ (subst (λ (z : ℕ). Spares (only z) s t) su r.spares) n.spares;
          done = n.done ∙ done_now;
          rest = n.rest;
        }

    -- x has no subscriber: it goes with all it owns
    dispose_bare : (X : Set) (s : St) (x v : ℕ) → Inside g (also X x) s → x < g.size → readable (g.kind x) ≡ false → s.subs x ≡ [] → ((m : ℕ) → Under g x m → X m → ⊥)
        → g.room.slots ≤ k + length s.free → Inside g X (dispose_w ul s x) × Dropped (Under g x) v s (dispose_w ul s x) × Spares nobody s (dispose_w ul s x)
    unfolding dispose_w last_link
    dispose_bare X s x v i h r e apart b =
        let a = set_gone (set_fl (rewind s x) x f0) x true in
        let ia : Inside g (also X x) a = gone_inside g (also X x) (set_fl (rewind s x) x f0) x (flags_inside g (also X x) (rewind s x) x (rewind_inside g (also X x) s x i (inr refl)) (inr refl) f0 (λ q. refl)) (inr refl) r in
        let p = purge_all (also X x) x (inr refl) (away) (a.rest x) a ia refl b in
        let t = purge_w ul a x in
        let d = p.dropped in
        let outside : Strict x x → ⊥ = λ z. z.1 refl in
        let bare : t.subs x ≡ [] = d.subs x outside ∙ e in
        let flag : t.fl x ≡ f0 = (d.flags x outside).0 ∙ up_same s.fl x f0 in
        let gone : t.gone x ≡ true = (d.flags x outside).1 ∙ up_same s.gone x true in
        let done : t.done x ≡ [] = p.done ∙ up_same s.done x [] in
        let it : Inside g X t = let_out g X t x p.inside (rests_gone g t.queue t.dep t.sub x (t.fl x) (t.gone x) (t.done x) (t.rest x) (t.subs x) r flag gone done p.rest bare) in
        let first : Dropped (Under g x) v s a = dropped_reset (Under g x) v x s f0 (up s.gone x true) (under_same g st x) e (λ m q. up_other s.gone x true m q) a refl refl refl refl refl refl refl refl refl refl in
        let then : Dropped (Under g x) v a t = dropped_wider (Strict x) (Under g x) x v a t (λ m z. z.0) (λ z. absurd (z (under_same g st x))) d in
        let begins : Spares nobody s a = spares_reset s a x (λ m q. ((up_other s.done x [] m q, up_other s.rest x (s.done x ++ s.rest x) m q), up_other s.fl x f0 m q, up_other s.gone x true m q)) (inl (up_same s.gone x true)) in
        let spared : Spares nobody s t = spares_over s a t x begins (inl (up_same s.gone x true)) p.spares in
        subst (λ (q : List ℕ). Inside g X (last_link ul t (head_of q)) × Dropped (Under g x) v s (last_link ul t (head_of q)) × Spares nobody s (last_link ul t (head_of q))) (sym bare) (it, dropped_then (Under g x) v s a t first then, spared)
      where
        away : (m : ℕ) → Strict x m → also X x m → ⊥
        away m p (inl q) = apart m p.0 q
        away m p (inr q) = p.1 q

    signal_bare : (s : St) (i : Slots g s) → ((l : ℕ) → s.live l ≡ true → Goes g (s.dep l) (s.sub l)) → (n : ℕ) → g.kind n ≡ signal → deps s n ≡ []
    signal_bare s i goes n e = none_nil (deps s n) (λ l j. let x = i.deps_live l n j in (goes l x.0).of_signal (ap g.kind x.1 ∙ e))

    -- d has lost its last subscriber; before, it was at rest, with flags f, and had one
    unwatched_inside : (X : Set) (s : St) (d v l : ℕ) (before : List ℕ) → Inside g (also X d) s → d < g.size → s.subs d ≡ [] → In l before
        → AtRest g s.queue s.dep s.sub d (s.fl d) (s.gone d) (s.done d) (s.rest d) before
        → ((m : ℕ) → Under g d m → X m → ⊥) → g.room.slots ≤ k + length s.free → Inside g X (unwatched_w ul s d) × Dropped (Under g d) v s (unwatched_w ul s d) × Spares nobody s (unwatched_w ul s d)
    unfolding unwatched_w read_links
    unwatched_inside X s d v l before i h e has r apart b =
        branch (λ (x : St). Inside g X x × Dropped (Under g d) v s x × Spares nobody s x) (s.fl d).mutable
        (λ m. let rd = moves_read g s.queue s.dep s.sub d _ _ _ _ _ r m in
        branch (λ (x : St). Inside g X x × Dropped (Under g d) v s x × Spares nobody s x) (is_nil (s.done d))
        (λ z. (let_out g X s d i (stays rd), dropped_same (Under g d) v s, spares_same nobody s))
        (λ z. falls rd (is_nil-false (s.done d) z)))
        (λ m. dispose_bare X s d v i h (owns m) e apart b)
      where
        computed_stays : ComputedFlags (s.fl d) (s.done d) before → ComputedFlags (s.fl d) (s.done d) (s.subs d)
        computed_stays (never x y z) = absurd (nil_none before l z has)
        computed_stays (clean x) = clean x
        computed_stays (stale x y) = stale x y
        computed_stays (maybe x y) = maybe x y
        computed_stays (dirty x y) = dirty x y

        stays : readable (g.kind d) ≡ true → Rests g s d
        stays rd = record {
          tail = r.tail;
          owned = λ o a q. none_some (sym (st.owner_kind d h rd) ∙ q);
          unowned = λ a q. e;
          bare = λ a. clash a (i.gone_kind d h rd);
          few = r.few;
          of_signal = r.of_signal;
          of_computed = λ q. computed_stays (r.of_computed q);
          of_effect = λ q a. clash rd (ap readable q);
          of_scope = r.of_scope;
          of_gone = r.of_gone;
          queued = r.queued;
        }

        owns : (s.fl d).mutable ≡ false → readable (g.kind d) ≡ false
        owns m = either (readable (g.kind d)) (λ q. clash (read_moves g s.queue s.dep s.sub d _ _ _ _ _ r l has q) m) (λ q. q)

        is_a_computed : readable (g.kind d) ≡ true → (s.done d ≡ [] → ⊥) → g.kind d ≡ computed
        is_a_computed rd ne = go (g.kind d) refl
          where
            go : (x : Kind) → g.kind d ≡ x → g.kind d ≡ computed
            go signal q = absurd (ne (append_is_nil (s.done d) (s.rest d) (signal_bare s i.lists i.goes d q)).0)
            go computed q = q
            go effect q = clash rd (ap readable q)
            go scope q = clash rd (ap readable q)

        away : (m : ℕ) → Strict d m → also X d m → ⊥
        away m p (inl q) = apart m p.0 q
        away m p (inr q) = p.1 q

        falls : readable (g.kind d) ≡ true → (s.done d ≡ [] → ⊥) → Inside g X (purge_w ul (set_fl (rewind s d) d f17) d) × Dropped (Under g d) v s (purge_w ul (set_fl (rewind s d) d f17) d) × Spares nobody s (purge_w ul (set_fl (rewind s d) d f17) d)
        falls rd ne =
            let a = set_fl (rewind s d) d f17 in
            let ia : Inside g (also X d) a = flags_inside g (also X d) (rewind s d) d (rewind_inside g (also X d) s d i (inr refl)) (inr refl) f17 (λ q. refl) in
            let p = purge_all (also X d) d (inr refl) away (a.rest d) a ia refl b in
            let t = purge_w ul a d in
            let dr = p.dropped in
            let outside : Strict d d → ⊥ = λ z. z.1 refl in
            let done : t.done d ≡ [] = p.done ∙ up_same s.done d [] in
            let flag : t.fl d ≡ f17 = (dr.flags d outside).0 ∙ up_same s.fl d f17 in
            let kd = is_a_computed rd ne in
            let rt : Rests g t d = record {
              tail = p.rest;
              owned = λ o x q. none_some (sym (st.owner_kind d h rd) ∙ q);
              unowned = λ x q. clash rd x;
              bare = λ x. clash x (p.inside.gone_kind d h rd);
              few = subst (λ (z : List ℕ). length (read_links g.kind t.dep z) ≤ length (names (g.form d))) (sym done) (omega arith);
              of_signal = λ q. clash (ap (λ (z : Kind). a_computed z) kd) (ap a_computed q);
              of_computed = λ q. stale flag done;
              of_effect = λ q x. clash rd (ap readable q);
              of_scope = λ q. clash rd (ap readable q);
              of_gone = λ q x. clash rd (ap readable q);
              queued = λ j x. clash x (p.inside.gone_kind d h rd);
            } in
            let first : Dropped (Under g d) v s a = dropped_reset (Under g d) v d s f17 s.gone (under_same g st d) e (λ m q. refl) a refl refl refl refl refl refl refl refl refl refl in
            let then : Dropped (Under g d) v a t = dropped_wider (Strict d) (Under g d) d v a t (λ m z. z.0) (λ z. absurd (z (under_same g st d))) dr in
            let down : Fallen a d = inr (up_same s.fl d f17) in
            let begins : Spares nobody s a = spares_reset s a d (λ m q. ((up_other s.done d [] m q, up_other s.rest d (s.done d ++ s.rest d) m q), up_other s.fl d f17 m q, refl)) down in
            (let_out g X t d p.inside rt, dropped_then (Under g d) v s a t first then, spares_over s a t d begins down p.spares)

  -- ---- the recursion
  module _ (X : Set) (s : St) (l : ℕ) (i : Inside g X s) (lv : s.live l ≡ true) (xu : X (s.sub l)) (apart : (m : ℕ) → Under g (s.dep l) m → X m → ⊥) where
    free_most : length s.free < g.room.slots
    free_most =
        let a : suc (length s.free) ≤ g.room.slots = most_below g.room.slots (l ∷ s.free) (λ j. clash lv (i.lists.free_not_live l j).0, i.lists.free_once) low in
        omega arith
      where
        low : (x : ℕ) → In x (l ∷ s.free) → x < g.room.slots
        low x (inl q) = subst (λ (z : ℕ). z < g.room.slots) (sym q) (i.lists.live_slot l lv)
        low x (inr j) = (i.lists.free_not_live x j).1

    cut_dropped : Dropped (Under g (s.dep l)) (s.sub l) s (cut s l)
    unfolding cut
    cut_dropped = record {
      dep = refl;
      sub = refl;
      ver = refl;
      lists = λ m a b. (up_other s.done (s.sub l) (remove l (s.done (s.sub l))) m b, up_other s.rest (s.sub l) (remove l (s.rest (s.sub l))) m b);
      flags = λ m a. (refl, refl);
      fate = λ m. inl refl;
      subs = λ m a. up_other s.subs (s.dep l) (remove l (s.subs (s.dep l))) m (λ q. a (subst (Under g (s.dep l)) (sym q) (under_same g st (s.dep l))));
      fewer = λ k m j. (remove_in k l (s.subs m) (subst (In k) (cut_subs g X s l i lv m) j)).0;
      free = omega arith;
      stuck = refl;
    }

    cut_free : length (cut s l).free ≡ suc (length s.free)
    unfolding cut
    cut_free = refl

    not_own : s.dep l ≡ s.sub l → ⊥
    not_own q = never_back g st (s.dep l) (s.sub l) (i.lists.inside l lv).0 (i.goes l lv) (subst (Under g (s.dep l)) q (under_same g st (s.dep l)))

    cut_done : ((cut s l).done (s.sub l) ≡ remove l (s.done (s.sub l))) × ((cut s l).rest (s.sub l) ≡ remove l (s.rest (s.sub l)))
    unfolding cut
    cut_done = (up_same s.done (s.sub l) (remove l (s.done (s.sub l))), up_same s.rest (s.sub l) (remove l (s.rest (s.sub l))))

    -- the dependency as it was, but for its subscribers
    was : AtRest g (cut s l).queue (cut s l).dep (cut s l).sub (s.dep l) ((cut s l).fl (s.dep l)) ((cut s l).gone (s.dep l)) ((cut s l).done (s.dep l)) ((cut s l).rest (s.dep l)) (s.subs (s.dep l))
    unfolding cut
    was =
        at_same g s.queue s.dep s.sub (s.dep l) _ _ _ _ _ _ _ _ _ _ refl refl (up_other s.done (s.sub l) (remove l (s.done (s.sub l))) (s.dep l) not_own) (up_other s.rest (s.sub l) (remove l (s.rest (s.sub l))) (s.dep l) not_own) refl
        (i.rests (s.dep l) (i.lists.inside l lv).0 (apart (s.dep l) (under_same g st (s.dep l))))

    -- another subscriber is left: what can be read
    left : ((cut s l).subs (s.dep l) ≡ [] → ⊥) → Rests g (cut s l) (s.dep l)
    left ne = record {
      tail = was.tail;
      owned = λ o a q. absurd (ne (alone o a q));
      unowned = λ a q. absurd (nil_none (s.subs (s.dep l)) l (was.unowned a q) (i.lists.live_in_subs l lv));
      bare = λ a. absurd (nil_none (s.subs (s.dep l)) l (was.bare a).1 (i.lists.live_in_subs l lv));
      few = was.few;
      of_signal = was.of_signal;
      of_computed = λ q. go (was.of_computed q);
      of_effect = was.of_effect;
      of_scope = was.of_scope;
      of_gone = was.of_gone;
      queued = was.queued;
    }
      where
        alone : (o : ℕ) → (cut s l).gone (s.dep l) ≡ false → g.owner (s.dep l) ≡ Some o → (cut s l).subs (s.dep l) ≡ []
        alone o a q =
            let x = was.owned o a q in
            none_nil ((cut s l).subs (s.dep l)) (λ k j.
            let y = remove_in k l (s.subs (s.dep l)) (subst (In k) (cut_subs g X s l i lv (s.dep l)) j) in
            y.1 (same k (subst (In k) x.1 y.0) ∙ sym (same l (subst (In l) x.1 (i.lists.live_in_subs l lv)))))
          where
            same : {a : ℕ} (k : ℕ) → In k (a ∷ []) → k ≡ a
            same k (inr x') = elim x' [ ]
            same k (inl e) = e

        go : ComputedFlags ((cut s l).fl (s.dep l)) ((cut s l).done (s.dep l)) (s.subs (s.dep l)) → ComputedFlags ((cut s l).fl (s.dep l)) ((cut s l).done (s.dep l)) ((cut s l).subs (s.dep l))
        go (never x y z) = absurd (nil_none (s.subs (s.dep l)) l z (i.lists.live_in_subs l lv))
        go (clean x) = clean x
        go (stale x y) = stale x y
        go (maybe x y) = maybe x y
        go (dirty x y) = dirty x y

    cut_spares : Spares (only (s.sub l)) s (cut s l)
    unfolding cut
    cut_spares = record { safe = λ m h. inl (up_other s.done (s.sub l) (remove l (s.done (s.sub l))) m h, up_other s.rest (s.sub l) (remove l (s.rest (s.sub l))) m h); fallen = λ m f. f }

    unlinked : (t : St) → Inside g X t × Dropped (Under g (s.dep l)) (s.dep l) (cut s l) t × Spares nobody (cut s l) t → Unlinked X s l t
    unlinked t p =
        let far : Under g (s.dep l) (s.sub l) → ⊥ = never_back g st (s.dep l) (s.sub l) (i.lists.inside l lv).0 (i.goes l lv) in
        let keeps = p.1.lists (s.sub l) far (λ q. not_own (sym q)) in
        let then = dropped_wider (Under g (s.dep l)) (Under g (s.dep l)) (s.dep l) (s.sub l) (cut s l) t (λ m z. z) (λ z. absurd (z (under_same g st (s.dep l)))) p.1 in
        record {
          inside = p.0;
          dropped = dropped_then (Under g (s.dep l)) (s.sub l) s (cut s l) t cut_dropped then;
          spares = spares_then (only (s.sub l)) s (cut s l) t cut_spares (record { safe = λ m h. p.2.safe m (λ z. z); fallen = p.2.fallen });
          done = keeps.0 ∙ cut_done.0;
          rest = keeps.1 ∙ cut_done.1;
        }

  pub unlink_inside : (k : ℕ) → Unlinks k (unlink_n k)
  unfolding unlink_n
  unlink_inside zero X s l i lv xu apart b = let a = free_most X s l i lv xu apart in absurd (omega arith)
  unlink_inside (suc k) X s l i lv xu apart b =
      let d = s.dep l in
      let c = cut s l in
      let ic = cut_inside g X s l i lv xu in
      let fc = cut_free X s l i lv xu apart in
      let in_time : g.room.slots ≤ k + length c.free = omega arith in
      branch (Unlinked X s l) (s.live l)
      (λ v. branch (Unlinked X s l) (is_nil (c.subs d))
      (λ e. unlinked X s l i lv xu apart (unwatched_w (unlink_n k) c d)
      (unwatched_inside k (unlink_n k) (unlink_inside k) X c d d l (s.subs d) ic (i.lists.inside l lv).0 (is_nil-true (c.subs d) e) (i.lists.live_in_subs l lv) (was X s l i lv xu apart) apart in_time))
      (λ e. unlinked X s l i lv xu apart c (let_out g X c d ic (left X s l i lv xu apart (is_nil-false (c.subs d) e)), dropped_same (Under g d) d c, spares_same nobody c)))
      (λ v. clash lv v)

  -- ---- a computed d that loses its last subscriber link l: with dependencies it becomes 17 and drops them
  module _ (k : ℕ) (X : Set) (s : St) (l : ℕ) (i : Inside g X s) (lv : s.live l ≡ true) (xu : X (s.sub l)) (apart : (m : ℕ) → Under g (s.dep l) m → X m → ⊥) (b : g.room.slots ≤ suc k + length s.free) where
    pub unwatched_drops : s.subs (s.dep l) ≡ l ∷ [] → (s.fl (s.dep l)).mutable ≡ true → (s.done (s.dep l) ≡ [] → ⊥)
        → ((unlink_n (suc k) s l).fl (s.dep l) ≡ f17) × ((unlink_n (suc k) s l).done (s.dep l) ≡ []) × ((unlink_n (suc k) s l).rest (s.dep l) ≡ [])
    unfolding cut
    unwatched_drops one mu ne =
        let d = s.dep l in
        let c = cut s l in
        let a = set_fl (rewind c d) d f17 in
        let fc = cut_free X s l i lv xu apart in
        let ia : Inside g (also X d) a = flags_inside g (also X d) (rewind c d) d (rewind_inside g (also X d) c d (cut_inside g X s l i lv xu) (inr refl)) (inr refl) f17 (λ q. refl) in
        let p = purge_all k (unlink_n k) (unlink_inside k) (also X d) d (inr refl) away (a.rest d) a ia refl (room fc) in
        let t = purge_w (unlink_n k) a d in
        let outside : Strict d d → ⊥ = λ z. z.1 refl in
        let same : unlink_n (suc k) s l ≡ t = falls_by k s l lv (nobody_left g X s l i lv one) (moves mu) (λ q. ne (sym left ∙ q)) in
        subst (λ (z : St). (z.fl d ≡ f17) × (z.done d ≡ []) × (z.rest d ≡ [])) (sym same)
        ((p.dropped.flags d outside).0 ∙ up_same c.fl d f17, p.done ∙ up_same c.done d [], p.rest)
      where
        away : (m : ℕ) → Strict (s.dep l) m → also X (s.dep l) m → ⊥
        away m p (inl q) = apart m p.0 q
        away m p (inr q) = p.1 q

        left : (cut s l).done (s.dep l) ≡ s.done (s.dep l)
        left = up_other s.done (s.sub l) (remove l (s.done (s.sub l))) (s.dep l) (not_own X s l i lv xu apart)

        moves : (s.fl (s.dep l)).mutable ≡ true → ((cut s l).fl (s.dep l)).mutable ≡ true
        moves e = e

        room : length (cut s l).free ≡ suc (length s.free) → g.room.slots ≤ k + length (set_fl (rewind (cut s l) (s.dep l)) (s.dep l) f17).free
        room e = omega arith

  -- ---- purge
  pub purge_inside : (X : Set) (s : St) (u : ℕ) → Inside g X s → X u → ((m : ℕ) → Strict u m → X m → ⊥) → Purged X s u (purge s u)
  purge_inside X s u i xu apart =
      let e : s.room.slots ≡ g.room.slots = ap (λ (z : Given). z.room.slots) i.same in
      purge_all (budget s) (unlink_n (budget s)) (unlink_inside (budget s)) X u xu apart (s.rest u) s i refl (omega arith)

  -- ---- an effect that is still live keeps its read links
  not_fallen : (X : Set) (t : St) (e : ℕ) {C : Type 0} → Inside g X t → e < g.size → g.kind e ≡ effect → (X e → ⊥) → t.gone e ≡ false → Fallen t e → C
  not_fallen X t e i h k x a (inl b) = clash b a
  not_fallen X t e i h k x a (inr m) = clash (ap (λ (z : Named). z.mutable) m) (own_still g t.queue t.dep t.sub e _ _ _ _ _ (i.rests e h x) (ap readable k))

  pub purge_reads : (X : Set) (s t : St) (u e : ℕ) → Purged X s u t → e < g.size → g.kind e ≡ effect → (X e → ⊥) → (e ≡ u → ⊥) → t.gone e ≡ false → SameReads g.kind s t e
  purge_reads X s t u e p h k x ne a = go (p.spares.safe e ne)
    where
      go : SameLists s t e ⊎ Fallen t e → SameReads g.kind s t e
      go (inl l) = reads_lists g.kind s t e l (λ n j. (ap (λ (z : ℕ → ℕ). z n) p.dropped.dep, ap (λ (z : ℕ → ℕ). z n) p.dropped.ver))
      go (inr f) = not_fallen X t e p.inside h k x a f

  -- ---- dispose, at rest: x loses what it owns and reads, then the link to its owner
  module _ (s : St) (x : ℕ) (i : Inside g nobody s) (h : x < g.size) (r : readable (g.kind x) ≡ false) where
    abbrev X : Set
    X = also nobody x

    abbrev K : ℕ
    K = s.room.slots

    in_time : (t : St) → g.room.slots ≤ K + length t.free
    in_time t = let e : s.room.slots ≡ g.room.slots = ap (λ (z : Given). z.room.slots) i.same in omega arith

    abbrev begun : St
    begun = set_gone (set_fl (rewind s x) x f0) x true

    abbrev emptied : St
    emptied = purge_w (unlink_n (suc K)) begun x

    i_begun : Inside g X begun
    i_begun = gone_inside g X (set_fl (rewind s x) x f0) x (flags_inside g X (rewind s x) x (rewind_inside g X s x (widen g nobody X s (λ n z. absurd z) i) (inr refl)) (inr refl) f0 (λ q. refl)) (inr refl) r

    away : (m : ℕ) → Strict x m → X m → ⊥
    away m p (inl x'') = elim x'' [ ]
    away m p (inr q) = p.1 q

    purged : Purged X begun x emptied
    purged =
        let b = in_time begun in
        purge_all (suc K) (unlink_n (suc K)) (unlink_inside (suc K)) X x (inr refl) away (begun.rest x) begun i_begun refl (omega arith)

    outside : Strict x x → ⊥
    outside z = z.1 refl

    -- other nodes keep their links, or fall
    spared : Spares nobody s emptied
    spared =
        let down : Fallen begun x = inl (up_same s.gone x true) in
        let begins : Spares nobody s begun = spares_reset s begun x (λ m q. ((up_other s.done x [] m q, up_other s.rest x (s.done x ++ s.rest x) m q), up_other s.fl x f0 m q, up_other s.gone x true m q)) down in
        spares_over s begun emptied x begins down purged.spares

    dep_same : emptied.dep ≡ s.dep
    dep_same = purged.dropped.dep

    ver_same : emptied.ver ≡ s.ver
    ver_same = purged.dropped.ver

    same_subs : emptied.subs x ≡ s.subs x
    same_subs = purged.dropped.subs x outside

    flag : emptied.fl x ≡ f0
    flag = (purged.dropped.flags x outside).0 ∙ up_same s.fl x f0

    gone_now : emptied.gone x ≡ true
    gone_now = (purged.dropped.flags x outside).1 ∙ up_same s.gone x true

    no_deps : emptied.done x ≡ []
    no_deps = purged.done ∙ up_same s.done x []

    was_resting : Rests g s x
    was_resting = i.rests x h (λ z. z)

    -- effects that are still live keep their read links
    abbrev Kept : St → Type 0
    Kept z = (m : ℕ) → m < g.size → g.kind m ≡ effect → z.gone m ≡ false → SameReads g.kind s z m

    -- what can be read keeps its flags or has lost its subscribers, and keeps its links or falls
    abbrev Left : St → Type 0
    Left z = (m : ℕ) → readable (g.kind m) ≡ true → ((z.fl m ≡ s.fl m) ⊎ (z.subs m ≡ [])) × (SameLists s z m ⊎ Fallen z m)

    left_emptied : Left emptied
    left_emptied m rm = (go (purged.dropped.fate m), spared.safe m (λ z. z))
      where
        go : (emptied.fl m ≡ up s.fl x f0 m) ⊎ (emptied.subs m ≡ []) → (emptied.fl m ≡ s.fl m) ⊎ (emptied.subs m ≡ [])
        go (inl e) = inl (e ∙ up_other s.fl x f0 m (λ q. clash rm (ap (λ (z : ℕ). readable (g.kind z)) q ∙ r)))
        go (inr e) = inr e

    -- the owner's link, alone in its list
    module _ (l : ℕ) (ls : List ℕ) (e : emptied.subs x ≡ l ∷ ls) where
      linked : (emptied.live l ≡ true) × (emptied.dep l ≡ x)
      linked = purged.inside.lists.subs_live l x (subst (In l) (sym e) (inl refl))

      abbrev t : St
      t = emptied

      abbrev p : ℕ
      p = emptied.sub l

      goes_up : Goes g x p
      goes_up = subst (λ (z : ℕ). Goes g z p) linked.1 (purged.inside.goes l linked.0)

      p_owns : readable (g.kind p) ≡ false
      p_owns = owner_owns g st x p goes_up r

      p_low : p < g.size
      p_low = (purged.inside.lists.inside l linked.0).1

      p_other : p ≡ x → ⊥
      p_other q = never_back g st x p h goes_up (subst (Under g x) (sym q) (under_same g st x))

      abbrev Y : Set
      Y = also X p

      i_cut : Inside g Y (cut t l)
      i_cut = widen g (also Y (t.dep l)) Y (cut t l) in_y (cut_inside g Y t l (widen g X Y t (λ n z. inl z) purged.inside) linked.0 (inr refl))
        where
          in_y : (n : ℕ) → also Y (t.dep l) n → Y n
          in_y n (inl y) = y
          in_y n (inr q) = inl (inr (q ∙ linked.1))

      p_rests : Rests g t p
      p_rests = purged.inside.rests p p_low (λ z. not_x z)
        where
          not_x : X p → ⊥
          not_x (inl x'') = elim x'' [ ]
          not_x (inr q) = p_other q

      not_read : readable (g.kind (t.dep l)) ≡ false
      not_read = ap (λ (z : ℕ). readable (g.kind z)) linked.1 ∙ r

      reads_stay : read_links g.kind t.dep (remove l (t.done p)) ≡ read_links g.kind t.dep (t.done p)
      reads_stay = reads_remove g.kind t.dep l (t.done p) not_read

      p_after : AtRest g t.queue t.dep t.sub p (t.fl p) (t.gone p) (remove l (t.done p)) (remove l (t.rest p)) (t.subs p)
      unfolding remove
      p_after =
          let w = p_rests in
          record {
            tail = ap (remove l) w.tail;
            owned = w.owned;
            unowned = w.unowned;
            bare = λ a. (ap (remove l) (w.bare a).0, (w.bare a).1);
            few = subst (λ (z : List ℕ). length z ≤ length (names (g.form p))) (sym reads_stay) w.few;
            of_signal = λ k. clash (ap readable k) p_owns;
            of_computed = λ k. clash (ap readable k) p_owns;
            of_effect = λ k a. subst (EffectFlags p (t.fl p) t.queue) (sym reads_stay) (w.of_effect k a);
            of_scope = w.of_scope;
            of_gone = w.of_gone;
            queued = w.queued;
          }

      i_left : Inside g X (cut t l)
      unfolding cut
      i_left =
          let_out g X (cut t l) p i_cut
          (at_same g t.queue t.dep t.sub p _ _ _ _ _ _ _ _ _ _ refl refl
          (up_same t.done p (remove l (t.done p))) (up_same t.rest p (remove l (t.rest p)))
          (up_other t.subs (t.dep l) (remove l (t.subs (t.dep l))) p (λ q. p_other (q ∙ linked.1))) p_after)

      alone : (cut t l).subs x ≡ []
      alone =
          cut_subs g X t l purged.inside linked.0 x
          ∙ none_nil (remove l (t.subs x)) (λ k j. let y = remove_in k l (t.subs x) j in y.1 (one k y.0 ∙ sym (one l (subst (In l) (sym e) (inl refl)))))
        where
          same : {a : ℕ} (k : ℕ) → In k (a ∷ []) → k ≡ a
          same {a = a} k (inr x'') = elim x'' [ ]
          same k (inl q) = q

          first : (k : ℕ) → In k (s.subs x) → (gn : Bool) → s.gone x ≡ gn → (ow : Option ℕ) → g.owner x ≡ ow → k ≡ head_or (s.subs x)
          first k j true a ow b = absurd (nil_none (s.subs x) k (was_resting.bare a).1 j)
          first k j false a None b = absurd (nil_none (s.subs x) k (was_resting.unowned r b) j)
          first k j false a (Some o) b = let w = was_resting.owned o a b in same k (subst (In k) w.1 j) ∙ sym (ap head_or w.1)

          one : (k : ℕ) → In k (t.subs x) → k ≡ head_or (s.subs x)
          one k j = first k (subst (In k) same_subs j) (s.gone x) refl (g.owner x) refl

      -- the owner keeps its read links
      cut_reads : (m : ℕ) → SameReads g.kind t (cut t l) m
      unfolding cut
      cut_reads m = record { links = ap (read_links g.kind t.dep) (cut_deps g X t l purged.inside linked.0 m) ∙ reads_remove g.kind t.dep l (deps t m) not_read; ends = λ k j. (refl, refl) }

      fallen_cut : (m : ℕ) → Fallen t m → Fallen (cut t l) m
      unfolding cut
      fallen_cut m f = f

      after : (z : St) → Inside g nobody z → Spares nobody (cut t l) z → z.dep ≡ (cut t l).dep → z.ver ≡ (cut t l).ver → Kept z
      after z i' sp e ev m h k a = go (spared.safe m (λ w. w)) (sp.safe m (λ w. w))
        where
          go : SameLists s t m ⊎ Fallen t m → SameLists (cut t l) z m ⊎ Fallen z m → SameReads g.kind s z m
          go (inl p) (inl q) =
              reads_then g.kind s t z m (reads_lists g.kind s t m p (λ n j. (ap (λ (w : ℕ → ℕ). w n) dep_same, ap (λ (w : ℕ → ℕ). w n) ver_same)))
              (reads_then g.kind t (cut t l) z m (cut_reads m) (reads_lists g.kind (cut t l) z m q (λ n j. (ap (λ (w : ℕ → ℕ). w n) e, ap (λ (w : ℕ → ℕ). w n) ev))))
          go (inl p) (inr f) = not_fallen nobody z m i' h k (λ w. w) a f
          go (inr f) q = not_fallen nobody z m i' h k (λ w. w) a (sp.fallen m (fallen_cut m f))

      left_after : (z : St) (N : Set) (u : ℕ) → Dropped N u (cut t l) z → Spares nobody (cut t l) z → Left z
      unfolding cut
      left_after z N u dr sp m rm = (fate (left_emptied m rm).0 (dr.fate m), lists (left_emptied m rm).1 (sp.safe m (λ w. w)))
        where
          m_other : m ≡ p → ⊥
          m_other q = clash rm (ap (λ (w : ℕ). readable (g.kind w)) q ∙ p_owns)

          fate : (t.fl m ≡ s.fl m) ⊎ (t.subs m ≡ []) → (z.fl m ≡ t.fl m) ⊎ (z.subs m ≡ []) → (z.fl m ≡ s.fl m) ⊎ (z.subs m ≡ [])
          fate a (inr e) = inr e
          fate (inl a) (inl e) = inl (e ∙ a)
          fate (inr a) (inl e) = inr (none_nil (z.subs m) (λ k j. nil_none (t.subs m) k a (remove_in k l (t.subs m) (subst (In k) (cut_subs g X t l purged.inside linked.0 m) (dr.fewer k m j))).0))

          lists : SameLists s t m ⊎ Fallen t m → SameLists (cut t l) z m ⊎ Fallen z m → SameLists s z m ⊎ Fallen z m
          lists (inl a) (inl b) = inl (b.0 ∙ up_other t.done p (remove l (t.done p)) m m_other ∙ a.0, b.1 ∙ up_other t.rest p (remove l (t.rest p)) m m_other ∙ a.1)
          lists (inl a) (inr f) = inr f
          lists (inr f) b = inr (sp.fallen m f)

      -- what the last link of x leaves; a record, so that the ways of a test are compared by name
      record Ended (z : St) : Type 0 where
        inside : Inside g nobody z
        stuck : z.stuck ≡ t.stuck
        reads : Kept z
        others : (m : ℕ) → (Under g x m → ⊥) → z.gone m ≡ t.gone m
        left : Left z

      gone_too : Ended (unlink_n (suc K) t l)
      unfolding unlink_n unwatched_w cut
      gone_too =
          let d = t.dep l in
          let c = cut t l in
          branch Ended (t.live l)
          (λ a. branch Ended (is_nil (c.subs d))
          (λ q. subst (λ (y : ℕ). Ended (unwatched_w (unlink_n K) c y)) (sym linked.1)
          (branch Ended (c.fl x).mutable (λ m. clash m (ap (λ (z : Named). z.mutable) flag))
          (λ m. let w = dispose_bare K (unlink_n K) (unlink_inside K) nobody c x x i_left h r alone (λ n y z. z) (in_time c) in
          record { inside = w.0; stuck = w.1.stuck; reads = after _ w.0 w.2 w.1.dep w.1.ver; others = λ m f. (w.1.flags m f).1; left = left_after _ _ _ w.1 w.2 })))
          (λ q. absurd (is_nil-false (c.subs d) q (subst (λ (y : ℕ). c.subs y ≡ []) (sym linked.1) alone))))
          (λ a. clash linked.0 a)

    -- well-formed and not stuck; effects that are still live keep their read links; nothing is gone but x and what it owns; what can be read keeps flags and lists, or lost its last subscriber
    pub record Disposed (t : St) : Type 0 where
      pub inside : Inside g nobody t
      pub stuck : t.stuck ≡ s.stuck
      pub reads : Kept t
      pub others : (m : ℕ) → m < g.size → (Below g.owner x m → ⊥) → t.gone m ≡ s.gone m
      pub left : Left t

    -- what is not owned by x keeps its mark
    spared_marks : (t : St) → Inside g nobody t → ((m : ℕ) → (Under g x m → ⊥) → t.gone m ≡ s.gone m) → (m : ℕ) → m < g.size → (Below g.owner x m → ⊥) → t.gone m ≡ s.gone m
    spared_marks t j same m lo f = either (readable (g.kind m)) (λ e. j.gone_kind m lo e ∙ sym (i.gone_kind m lo e)) (λ e. same m (λ u. f (u.owned e)))

    marks_emptied : (m : ℕ) → (Under g x m → ⊥) → emptied.gone m ≡ s.gone m
    marks_emptied m f = (purged.dropped.flags m (λ z. f z.0)).1 ∙ up_other s.gone x true m (λ q. f (subst (Under g x) (sym q) (under_same g st x)))

    pub dispose_inside : Disposed (dispose s x)
    unfolding dispose_w last_link
    dispose_inside = go (emptied.subs x) refl
      where
        go : (ls : List ℕ) → emptied.subs x ≡ ls → Disposed (last_link (unlink_n (suc K)) emptied (head_of ls))
        go [] e =
            let it : Inside g nobody emptied =
            let_out g nobody emptied x purged.inside
            (rests_gone g emptied.queue emptied.dep emptied.sub x (emptied.fl x) (emptied.gone x) (emptied.done x) (emptied.rest x) (emptied.subs x) r flag gone_now no_deps purged.rest e) in
            record {
              inside = it;
              stuck = purged.dropped.stuck;
              reads = λ m h k a. first m (not_fallen nobody emptied m it h k (λ w. w) a) (spared.safe m (λ w. w));
              others = spared_marks emptied it marks_emptied;
              left = left_emptied;
            }
          where
            first : (m : ℕ) → (Fallen emptied m → SameReads g.kind s emptied m) → SameLists s emptied m ⊎ Fallen emptied m → SameReads g.kind s emptied m
            first m f (inl p) = reads_lists g.kind s emptied m p (λ n j. (ap (λ (w : ℕ → ℕ). w n) dep_same, ap (λ (w : ℕ → ℕ). w n) ver_same))
            first m f (inr z) = f z
        go (l ∷ ls) e =
            let w = gone_too l ls e in
            record {
              inside = w.inside;
              stuck = w.stuck ∙ purged.dropped.stuck;
              reads = w.reads;
              others = spared_marks (unlink_n (suc K) emptied l) w.inside (λ m f. w.others m f ∙ marks_emptied m f);
              left = w.left;
            }
