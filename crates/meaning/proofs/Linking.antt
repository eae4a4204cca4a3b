-- Linking inside an operation: the next old link is taken over, or a new one is put into a free slot. Assumes nothing.
use mathlib.Core.Path.{◌≡◌, refl, sym, ap, ap₂, ◌∙◌, subst, fun_ext}
use mathlib.Core.Logic.{◌⊎◌, inl, inr}
use mathlib.Core.Bool.{true, false}
use mathlib.Core.List.{List, [], ◌∷◌, ◌++◌, append_assoc}
use Prim.Native.Nat.{ℕ, ◌≤◌, ◌<◌}
use lib.Dec.{eqb}
use lib.ListN.{length}
use borrow.Author.Tests.{eqb-true, eqb-false}
use Rattle.trees.specs.Trees.{names}
use Rattle.meaning.specs.State.{St, deps, up}
use Rattle.meaning.specs.Links.{renew, insert}
use Rattle.meaning.specs.WellFormed.{In, Once, Lists, read_links, EffectFlags}
use Rattle.meaning.proofs.Laws.{clash, either, up_same, up_other, up_by, in_left, in_right, in_cases}
use Rattle.meaning.proofs.Members.{once_both, once_left, once_right, once_apart, reads_agree}
use Rattle.meaning.proofs.Still.{Given}
use Rattle.meaning.proofs.Inside.{Set, also, Goes, AtRest, Slots, Inside, at_same}

-- the ends of the links in its lists agree
pub at_ends : (g : Given) (queue : List ℕ) (dep dep' sub sub' : ℕ → ℕ) (n : ℕ) (s : St) → ((l : ℕ) → In l (s.done n) → dep' l ≡ dep l) → ((l : ℕ) → In l (s.subs n) → sub' l ≡ sub l)
    → AtRest g queue dep sub n (s.fl n) (s.gone n) (s.done n) (s.rest n) (s.subs n) → AtRest g queue dep' sub' n (s.fl n) (s.gone n) (s.done n) (s.rest n) (s.subs n)
at_ends g queue dep dep' sub sub' n s h k r =
    let e : read_links g.kind dep' (s.done n) ≡ read_links g.kind dep (s.done n) = reads_agree g.kind dep dep' (s.done n) h in
    record {
      tail = r.tail;
      owned = λ o a q. let x = r.owned o a q in (x.0, x.1, k x.0 (subst (In x.0) (sym x.1) (inl refl)) ∙ x.2);
      unowned = r.unowned;
      bare = r.bare;
      few = subst (λ (z : List ℕ). length z ≤ length (names (g.form n))) (sym e) r.few;
      of_signal = r.of_signal;
      of_computed = r.of_computed;
      of_effect = λ q a. subst (EffectFlags n (s.fl n) queue) (sym e) (r.of_effect q a);
      of_scope = r.of_scope;
      of_gone = r.of_gone;
      queued = r.queued;
    }

-- ---- the next old link is taken over
module _ (g : Given) (X : Set) (s : St) (u v l : ℕ) (ls : List ℕ) (i : Inside g X s) (xu : X u) (e : s.rest u ≡ l ∷ ls) where
  renew_deps : (w : ℕ) → deps (renew s u v (l ∷ ls)) w ≡ deps s w
  unfolding renew
  renew_deps w =
      either (eqb w u)
      (λ q. subst (λ (z : ℕ). up s.done u (s.done u ++ l ∷ []) z ++ up s.rest u ls z ≡ s.done z ++ s.rest z) (sym (eqb-true w u q))
      (ap₂ (λ (x y : List ℕ). x ++ y) (up_same s.done u (s.done u ++ l ∷ [])) (up_same s.rest u ls) ∙ append_assoc (s.done u) (l ∷ []) ls ∙ ap (λ (x : List ℕ). s.done u ++ x) (sym e)))
      (λ q. let f = eqb-false w u q in ap₂ (λ (x y : List ℕ). x ++ y) (up_other s.done u (s.done u ++ l ∷ []) w f) (up_other s.rest u ls w f))

  pub renew_inside : Inside g X (renew s u v (l ∷ ls))
  unfolding renew
  renew_inside = record {
    same = i.same;
    lists = subst (λ (f : ℕ → List ℕ). Lists g.room.slots g.size s.free s.live s.dep s.sub f (λ v. []) s.subs) (sym (fun_ext renew_deps)) i.lists;
    goes = i.goes;
    gone_kind = i.gone_kind;
    fits = i.fits;
    no_wake = i.no_wake;
    once = i.once;
    effects = i.effects;
    rests = λ m h x.
        let f : m ≡ u → ⊥ = λ q. x (subst X (sym q) xu) in
        at_same g s.queue s.dep s.sub m _ _ _ _ _ _ _ _ _ _ refl refl (up_other s.done u (s.done u ++ l ∷ []) m f) (up_other s.rest u ls m f) refl (i.rests m h x);
  }

-- ---- a new link in slot l, the first free one; both ends are under way
module _ (g : Given) (X : Set) (s : St) (d u v l : ℕ) (ls : List ℕ) (i : Inside g X s) (e : s.free ≡ l ∷ ls) (go : Goes g d u) (hd : d < g.size) (hu : u < g.size) where
  abbrev t : St
  t = insert s d u v (l ∷ ls)

  abbrev o : Slots g s
  o = i.lists

  dead : (s.live l ≡ false) × (l < g.room.slots)
  dead = o.free_not_live l (subst (In l) (sym e) (inl refl))

  -- a link that was live is another one
  pub other : (k : ℕ) → s.live k ≡ true → k ≡ l → ⊥
  other k lv q = clash lv (ap s.live q ∙ dead.0)

  subs_more : (k w : ℕ) → In k (s.subs w) → In k (t.subs w)
  unfolding insert
  subs_more k w j = up_by s.subs d (s.subs d ++ l ∷ []) (λ (x : List ℕ). In k x) w (λ q. in_left k (s.subs d) (l ∷ []) (subst (λ (z : ℕ). In k (s.subs z)) q j)) (λ q. j)

  subs_less : (k w : ℕ) → In k (t.subs w) → In k (s.subs w) ⊎ ((k ≡ l) × (w ≡ d))
  unfolding insert
  subs_less k w = up_by s.subs d (s.subs d ++ l ∷ []) (λ (x : List ℕ). In k x → In k (s.subs w) ⊎ ((k ≡ l) × (w ≡ d))) w
      (λ q j. in_cases k (s.subs d) (l ∷ []) j (λ a. inl (subst (λ (z : ℕ). In k (s.subs z)) (sym q) a)) (λ a. inr (one a, q))) (λ q j. inl j)
    where
      one : In k (l ∷ []) → k ≡ l
      one (inr x') = elim x' [ ]
      one (inl q) = q

  deps_at : deps t u ≡ (s.done u ++ l ∷ []) ++ s.rest u
  unfolding insert
  deps_at = ap (λ (x : List ℕ). x ++ s.rest u) (up_same s.done u (s.done u ++ l ∷ []))

  deps_off : (w : ℕ) → (w ≡ u → ⊥) → deps t w ≡ deps s w
  unfolding insert
  deps_off w f = ap (λ (x : List ℕ). x ++ s.rest w) (up_other s.done u (s.done u ++ l ∷ []) w f)

  deps_cases : {C : Type 0} (w : ℕ) → (w ≡ u → C) → ((w ≡ u → ⊥) → C) → C
  deps_cases w f h = either (eqb w u) (λ q. f (eqb-true w u q)) (λ q. h (eqb-false w u q))

  deps_more : (k w : ℕ) → In k (deps s w) → In k (deps t w)
  deps_more k w j =
      deps_cases w
      (λ q. subst (λ (z : ℕ). In k (deps t z)) (sym q) (subst (In k) (sym deps_at)
      (in_cases k (s.done u) (s.rest u) (subst (λ (z : ℕ). In k (deps s z)) q j) (λ a. in_left k (s.done u ++ l ∷ []) (s.rest u) (in_left k (s.done u) (l ∷ []) a)) (λ a. in_right k (s.done u ++ l ∷ []) (s.rest u) a))))
      (λ q. subst (In k) (sym (deps_off w q)) j)

  new_in_deps : In l (deps t u)
  new_in_deps = subst (In l) (sym deps_at) (in_left l (s.done u ++ l ∷ []) (s.rest u) (in_right l (s.done u) (l ∷ []) (inl refl)))

  new_in_subs : In l (t.subs d)
  unfolding insert
  new_in_subs = subst (In l) (sym (up_same s.subs d (s.subs d ++ l ∷ []))) (in_right l (s.subs d) (l ∷ []) (inl refl))

  deps_less : (k w : ℕ) → In k (deps t w) → In k (deps s w) ⊎ ((k ≡ l) × (w ≡ u))
  deps_less k w j =
      deps_cases w
      (λ q. in_cases k (s.done u ++ l ∷ []) (s.rest u) (subst (In k) deps_at (subst (λ (z : ℕ). In k (deps t z)) q j))
      (λ a. in_cases k (s.done u) (l ∷ []) a (λ b. inl (subst (λ (z : ℕ). In k (deps s z)) (sym q) (in_left k (s.done u) (s.rest u) b))) (λ b. inr (one b, q)))
      (λ a. inl (subst (λ (z : ℕ). In k (deps s z)) (sym q) (in_right k (s.done u) (s.rest u) a))))
      (λ q. inl (subst (In k) (deps_off w q) j))
    where
      one : In k (l ∷ []) → k ≡ l
      one (inr x') = elim x' [ ]
      one (inl q) = q

  dep_new : (k : ℕ) → k ≡ l → t.dep k ≡ d
  unfolding insert
  dep_new k q = ap (up s.dep l d) q ∙ up_same s.dep l d

  dep_old : (k : ℕ) → (k ≡ l → ⊥) → t.dep k ≡ s.dep k
  unfolding insert
  dep_old k q = up_other s.dep l d k q

  sub_new : (k : ℕ) → k ≡ l → t.sub k ≡ u
  unfolding insert
  sub_new k q = ap (up s.sub l u) q ∙ up_same s.sub l u

  sub_old : (k : ℕ) → (k ≡ l → ⊥) → t.sub k ≡ s.sub k
  unfolding insert
  sub_old k q = up_other s.sub l u k q

  live_new : (k : ℕ) → k ≡ l → t.live k ≡ true
  unfolding insert
  live_new k q = ap (up s.live l true) q ∙ up_same s.live l true

  live_old : (k : ℕ) → s.live k ≡ true → t.live k ≡ true
  unfolding insert
  live_old k a = up_other s.live l true k (other k a) ∙ a

  live_by : {C : Type 0} (k : ℕ) → t.live k ≡ true → (k ≡ l → C) → (s.live k ≡ true → (k ≡ l → ⊥) → C) → C
  unfolding insert
  live_by k a f h = either (eqb k l) (λ q. f (eqb-true k l q)) (λ q. let n = eqb-false k l q in h (sym (up_other s.live l true k n) ∙ a) n)

  not_in_deps : (w : ℕ) → In l (deps s w) → ⊥
  not_in_deps w j = other l (o.deps_live l w j).0 refl

  not_in_subs : (w : ℕ) → In l (s.subs w) → ⊥
  not_in_subs w j = other l (o.subs_live l w j).0 refl

  insert_slots : Slots g t
  unfolding insert
  insert_slots = record {
    free_not_live = freed;
    free_or_live = taken;
    free_once = free_ones.1;
    live_slot = λ k a. live_by k a (λ q. subst (λ (z : ℕ). z < g.room.slots) (sym q) dead.1) (λ b n. o.live_slot k b);
    live_in_subs = λ k a. live_by k a (λ q. subst (λ (z : ℕ). In k (t.subs z)) (sym (dep_new k q)) (subst (λ (z : ℕ). In z (t.subs d)) (sym q) new_in_subs))
        (λ b n. subst (λ (z : ℕ). In k (t.subs z)) (sym (dep_old k n)) (subs_more k (s.dep k) (o.live_in_subs k b)));
    subs_live = λ k w j. at_subs k w (subs_less k w j);
    subs_once = once_subs;
    live_in_deps = λ k a. live_by k a (λ q. subst (λ (z : ℕ). In k (deps t z)) (sym (sub_new k q)) (subst (λ (z : ℕ). In z (deps t u)) (sym q) new_in_deps))
        (λ b n. subst (λ (z : ℕ). In k (deps t z)) (sym (sub_old k n)) (deps_more k (s.sub k) (o.live_in_deps k b)));
    deps_live = λ k w j. at_deps k w (deps_less k w j);
    deps_once = once_deps;
    tail_last = λ w. refl;
    inside = λ k a. live_by k a (λ q. (subst (λ (z : ℕ). z < g.size) (sym (dep_new k q)) hd, subst (λ (z : ℕ). z < g.size) (sym (sub_new k q)) hu))
        (λ b n. (subst (λ (z : ℕ). z < g.size) (sym (dep_old k n)) (o.inside k b).0, subst (λ (z : ℕ). z < g.size) (sym (sub_old k n)) (o.inside k b).1));
  }
    where
      free_ones : Once (l ∷ ls)
      free_ones = subst Once e o.free_once

      freed : (k : ℕ) → In k ls → (t.live k ≡ false) × (k < g.room.slots)
      freed k j =
          let x = o.free_not_live k (subst (In k) (sym e) (inr j)) in
          (dead_still k (λ q. free_ones.0 (subst (λ (z : ℕ). In z ls) q j)) x.0, x.1)
        where
          dead_still : (k : ℕ) → (k ≡ l → ⊥) → s.live k ≡ false → up s.live l true k ≡ false
          dead_still k n a = up_other s.live l true k n ∙ a

      taken : (k : ℕ) → k < g.room.slots → t.live k ≡ false → In k ls
      taken k h a = either (eqb k l) (λ q. clash (live_new k (eqb-true k l q)) a) (λ q. let n = eqb-false k l q in later n (subst (In k) e (o.free_or_live k h (sym (up_other s.live l true k n) ∙ a))))
        where
          later : (k ≡ l → ⊥) → In k (l ∷ ls) → In k ls
          later n (inl q) = absurd (n q)
          later n (inr j) = j

      at_subs : (k w : ℕ) → In k (s.subs w) ⊎ ((k ≡ l) × (w ≡ d)) → (t.live k ≡ true) × (t.dep k ≡ w)
      at_subs k w (inl j) = let x = o.subs_live k w j in (live_old k x.0, dep_old k (other k x.0) ∙ x.1)
      at_subs k w (inr p) = (live_new k p.0, dep_new k p.0 ∙ sym p.1)

      at_deps : (k w : ℕ) → In k (deps s w) ⊎ ((k ≡ l) × (w ≡ u)) → (t.live k ≡ true) × (t.sub k ≡ w)
      at_deps k w (inl j) = let x = o.deps_live k w j in (live_old k x.0, sub_old k (other k x.0) ∙ x.1)
      at_deps k w (inr p) = (live_new k p.0, sub_new k p.0 ∙ sym p.1)

      last : (xs : List ℕ) → Once xs → (In l xs → ⊥) → Once (xs ++ l ∷ [])
      last xs a n = once_both xs (l ∷ []) a (λ j. j, tt) (λ x j k. at x j k)
        where
          at : (x : ℕ) → In x xs → In x (l ∷ []) → ⊥
          at x j (inr x'') = elim x'' [ ]
          at x j (inl q) = n (subst (λ (z : ℕ). In z xs) q j)

      once_subs : (w : ℕ) → Once (t.subs w)
      once_subs w = up_by s.subs d (s.subs d ++ l ∷ []) Once w (λ q. last (s.subs d) (o.subs_once d) (not_in_subs d)) (λ q. o.subs_once w)

      once_deps : (w : ℕ) → Once (deps t w)
      once_deps w =
          deps_cases w
          (λ q. subst (λ (z : ℕ). Once (deps t z)) (sym q) (subst Once (sym deps_at)
          (once_both (s.done u ++ l ∷ []) (s.rest u) (last (s.done u) (once_left (s.done u) (s.rest u) (o.deps_once u)) (λ j. not_in_deps u (in_left l (s.done u) (s.rest u) j)))
          (once_right (s.done u) (s.rest u) (o.deps_once u))
          (λ x j k. in_cases x (s.done u) (l ∷ []) j (λ a. once_apart (s.done u) (s.rest u) (o.deps_once u) x a k) (λ a. at x a k)))))
          (λ q. subst Once (sym (deps_off w q)) (o.deps_once w))
        where
          at : (x : ℕ) → In x (l ∷ []) → In x (s.rest u) → ⊥
          at x (inr x3) k = elim x3 [ ]
          at x (inl q) k = not_in_deps u (in_right l (s.done u) (s.rest u) (subst (λ (z : ℕ). In z (s.rest u)) q k))

  pub insert_inside : Inside g (also (also X d) u) t
  unfolding insert
  insert_inside = record {
    same = i.same;
    lists = insert_slots;
    goes = λ k a. live_by k a (λ q. subst (λ (z : ℕ). Goes g z (up s.sub l u k)) (sym (dep_new k q)) (subst (Goes g d) (sym (sub_new k q)) go))
        (λ b n. subst (λ (z : ℕ). Goes g z (up s.sub l u k)) (sym (dep_old k n)) (subst (Goes g (s.dep k)) (sym (sub_old k n)) (i.goes k b)));
    gone_kind = i.gone_kind;
    fits = i.fits;
    no_wake = i.no_wake;
    once = i.once;
    effects = i.effects;
    rests = λ m h x.
        let a : m ≡ u → ⊥ = λ q. x (inr q) in
        let b : m ≡ d → ⊥ = λ q. x (inl (inr q)) in
        at_same g s.queue (up s.dep l d) (up s.sub l u) m _ _ _ _ _ _ _ _ _ _ refl refl (up_other s.done u (s.done u ++ l ∷ []) m a) refl (up_other s.subs d (s.subs d ++ l ∷ []) m b)
        (at_ends g s.queue s.dep (up s.dep l d) s.sub (up s.sub l u) m s
        (λ k j. up_other s.dep l d k (λ q. not_in_deps m (in_left l (s.done m) (s.rest m) (subst (λ (z : ℕ). In z (s.done m)) q j))))
        (λ k j. up_other s.sub l u k (λ q. not_in_subs m (subst (λ (z : ℕ). In z (s.subs m)) q j))) (i.rests m h (λ z. x (inl (inl z)))));
  }
