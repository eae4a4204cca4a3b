-- A walk that is not stuck is the plain depth-first one, and queues owners first (specs/Order). Assumes nothing.
use Rattle.std.specs.Prelude.{Option, None, Some}
use mathlib.Core.Path.{◌≡◌, refl, sym, ap, ◌∙◌, subst}
use mathlib.Core.Bool.{Bool, true, false, not, ◌||◌}
use mathlib.Core.List.{List, [], ◌∷◌, ◌++◌, reverse}
use Prim.Native.Nat.{ℕ, zero, suc, ◌≤◌}
use native.Mathlib.Omega.{arith}
use lib.Dec.{ltb}
use lib.ListN.{length, length-append, length-reverse}
use borrow.Author.Tests.{ltb-false}
use Rattle.flags.specs.declared.Named.{Named}
use Rattle.meaning.specs.State.{St, unclean, recursing}
use Rattle.meaning.specs.Links.{several}
use Rattle.meaning.specs.Marks.{Marks, marks, halt, chain, calm, effects, notify, mark, stack_full, prop}
use Rattle.meaning.specs.Order.{Climbed, stops, climbs, pending_at, Marked, quiet, queues, Walked, ends, passes, marks_one, goes_in}
use Rattle.meaning.proofs.Laws.{clash, either, branch, none_some, same_some, or_true, or_left, or_right, or_false}
use Rattle.meaning.proofs.Reached.{all, all_append}
use Rattle.meaning.proofs.Stuck.{prop_sticks}

-- ---- the climb: a chain that is within its budget is whole
chain_exact : (ow : ℕ → Option ℕ) (f : ℕ → Named) (k e : ℕ) → length (chain k ow f e) ≤ k → Climbed ow f e (chain k ow f e)
unfolding chain
chain_exact ow f zero e h = absurd (omega arith)
chain_exact ow f (suc k) e h = go (λ o l. chain_exact ow f k o l) (ow e) refl h
  where
    go : ((o : ℕ) → length (chain k ow f o) ≤ k → Climbed ow f o (chain k ow f o)) → (p : Option ℕ) → ow e ≡ p
        → length (e ∷ (elim p [ None ↦ [] | Some o ↦ elim (f o).watching [ true ↦ chain k ow f o | false ↦ [] ] ])) ≤ suc k
        → Climbed ow f e (e ∷ (elim p [ None ↦ [] | Some o ↦ elim (f o).watching [ true ↦ chain k ow f o | false ↦ [] ] ]))
    go rec None q l = stops (λ o z. none_some (sym q ∙ z))
    go rec (Some o) q l =
        branch (λ (c : List ℕ). length (e ∷ c) ≤ suc k → Climbed ow f e (e ∷ c)) (f o).watching
        (λ a z. climbs o q a (rec o (omega arith)))
        (λ a z. stops (λ x y. ap (λ (n : ℕ). (f n).watching) (sym (same_some (sym q ∙ y))) ∙ a)) l

-- ---- a mark that is not stuck
pub mark_exact : (s : St) (m : Marks) (u : ℕ) → (mark s m u).stuck ≡ false → Marked s m u (mark s m u)
unfolding mark notify
mark_exact s m u =
    let f = pending_at m u in
    let c = chain s.room.nodes s.owner f u in
    branch (λ (x : Marks). x.stuck ≡ false → Marked s m u x) (m.fl u).watching
    (λ a z. let late = ltb s.room.nodes (length (m.queue ++ reverse c)) || not (effects s.kind c) in
    let fits = ltb-false s.room.nodes (length (m.queue ++ reverse c)) (or_left (ltb s.room.nodes (length (m.queue ++ reverse c))) (not (effects s.kind c)) (or_right m.stuck late z)) in
    let p = length-append m.queue (reverse c) in
    let q = length-reverse c in
    subst (λ (b : Bool). Marked s m u (marks (calm c f) (m.queue ++ reverse c) b)) (sym (ap (λ (b : Bool). m.stuck || b) (or_right m.stuck late z) ∙ or_false m.stuck))
    (queues c a (chain_exact s.owner f s.room.nodes u (omega arith))))
    (λ a z. quiet a)

-- ---- the walk
walked_split : (s : St) (a : List ℕ) {b : List ℕ} {m n : Marks} → Walked s m (a ++ b) n → (x : Marks) × Walked s m a x × Walked s x b n
walked_split s [] {m = m} w = (m, ends, w)
walked_split s (x ∷ a) (passes l e w) = let r = walked_split s a w in (r.0, passes l e r.1, r.2)
walked_split s (x ∷ a) (marks_one l e u k w) = let r = walked_split s a w in (r.0, marks_one l e u k r.1, r.2)
walked_split s (x ∷ a) (goes_in l e u k v w) = let r = walked_split s a w in (r.0, goes_in l e u k v r.1, r.2)

module _ (s : St) where
  -- what is not stuck was not
  was_free : (k : ℕ) (m : Marks) (w : List ℕ) (st : List (List ℕ)) → (prop s k m w st).stuck ≡ false → m.stuck ≡ false
  was_free k m w st z = either m.stuck (λ e. clash (prop_sticks s k m w st e) z) (λ e. e)

  -- the marks before and after a list is put aside
  room_aside : (m : Marks) (b : Bool) → (halt m b).stuck ≡ false → halt m b ≡ m
  room_aside m b z = ap (marks m.fl m.queue) (ap (λ (c : Bool). m.stuck || c) (or_right m.stuck b z) ∙ or_false m.stuck)

  -- w, then the lists put aside
  pub in_order : (k : ℕ) (m : Marks) (w : List ℕ) (st : List (List ℕ)) → (prop s k m w st).stuck ≡ false → Walked s m (all w st) (prop s k m w st)
  unfolding prop
  in_order zero m w st z = clash (or_true m.stuck) z
  in_order (suc k) m [] [] z = ends
  in_order (suc k) m [] (w ∷ st) z = in_order k m w st z
  in_order (suc k) m (l ∷ w) st z =
      let u = s.sub l in
      let P : Marks → Type 0 = λ x. x.stuck ≡ false → Walked s m (l ∷ all w st) x in
      let n = mark s m u in
      let into : (n.stuck ≡ false) → unclean (m.fl u) ≡ false → (m.fl u).mutable ≡ true → (x : Marks) → Walked s n (s.subs u ++ all w st) x → Walked s m (l ∷ all w st) x =
      λ fr a b x v. let r = walked_split s (s.subs u) v in goes_in l a b (mark_exact s m u fr) r.1 r.2 in
      subst (λ (a : List ℕ). Walked s m a (prop s (suc k) m (l ∷ w) st)) (sym (all_append (l ∷ []) w st))
      (branch P (recursing (m.fl u)) (λ e z. clash (or_true m.stuck) z)
      (λ e. branch P (unclean (m.fl u)) (λ a z. passes l a (in_order k m w st z))
      (λ a. branch P (m.fl u).mutable
      (λ b. branch P (several (s.subs u))
      (λ c z. let h = halt n (stack_full s st) in
      let same = room_aside n (stack_full s st) (was_free k h (s.subs u) (w ∷ st) z) in
      into (or_left n.stuck (stack_full s st) (was_free k h (s.subs u) (w ∷ st) z)) a b _ (subst (λ (y : Marks). Walked s y (s.subs u ++ all w st) (prop s k h (s.subs u) (w ∷ st))) same (in_order k h (s.subs u) (w ∷ st) z)))
      (λ c z. into (was_free k n (s.subs u ++ w) st z) a b _ (subst (λ (y : List ℕ). Walked s n y (prop s k n (s.subs u ++ w) st)) (all_append (s.subs u) w st) (in_order k n (s.subs u ++ w) st z))))
      (λ b z. marks_one l a b (mark_exact s m u (was_free k n w st z)) (in_order k n w st z)))) z)

-- ---- the specification tells one walk, no two
climbed_one : {ow : ℕ → Option ℕ} {f : ℕ → Named} {e : ℕ} {c d : List ℕ} → Climbed ow f e c → Climbed ow f e d → c ≡ d
climbed_one (stops h) (stops k) = refl
climbed_one (stops h) (climbs o q a k) = clash a (h o q)
climbed_one (climbs o q a h) (stops k) = clash a (k o q)
climbed_one {ow = ow} {f = f} {e = e} (climbs o q a h) (climbs {c = d} p r b k) =
    ap (λ (x : List ℕ). e ∷ x) (climbed_one h (subst (λ (x : ℕ). Climbed ow f x d) (same_some (sym r ∙ q)) k))

marked_same : {s : St} {m : Marks} {u : ℕ} {x : Marks} → Marked s m u x → {y : Marks} → Marked s m u y → x ≡ y
marked_same (quiet a) (quiet b) = refl
marked_same (quiet a) (queues d b k) = clash b a
marked_same (queues c a h) (quiet b) = clash a b
marked_same {m = m} {u = u} (queues c a h) (queues d b k) = ap (λ (z : List ℕ). marks (calm z (pending_at m u)) (m.queue ++ reverse z) m.stuck) (climbed_one h k)

marked_one : {s : St} {m x y : Marks} {u : ℕ} → Marked s m u x → Marked s m u y → x ≡ y
marked_one a b = marked_same a b

pub walked_one : {s : St} {m x y : Marks} {w : List ℕ} → Walked s m w x → Walked s m w y → x ≡ y
walked_one ends ends = refl
walked_one (passes l a h) (passes k b i) = walked_one h i
walked_one (passes l a h) (marks_one k b c d i) = clash a b
walked_one (passes l a h) (goes_in k b c d i j) = clash a b
walked_one (marks_one l a c d h) (passes k b i) = clash b a
walked_one {s = s} {y = y} (marks_one {w = w} l a c d h) (marks_one k b e f i) = walked_one h (subst (λ (z : Marks). Walked s z w y) (marked_one f d) i)
walked_one (marks_one l a c d h) (goes_in k b e f i j) = clash e c
walked_one (goes_in l a c d h g) (passes k b i) = clash b a
walked_one (goes_in l a c d h g) (marks_one k b e f i) = clash c e
walked_one {s = s} {y = y} (goes_in {w = w} l a c d h g) (goes_in {y = v} k b e f i j) =
    walked_one g (subst (λ (z : Marks). Walked s z w y) (sym (walked_one h (subst (λ (z : Marks). Walked s z (s.subs (s.sub l)) v) (marked_one f d) i))) j)
