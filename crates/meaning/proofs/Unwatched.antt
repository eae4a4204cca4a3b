-- Unlink of the last subscriber link of a computed, at rest: with dependencies it becomes 17 and drops them, without any it stays as it is. Assumes nothing.
use mathlib.Core.Path.{◌≡◌, refl, sym, ap, ap₂, ◌∙◌, subst}
use mathlib.Core.Logic.{inr}
use mathlib.Core.Bool.{true}
use mathlib.Core.List.{List, [], ◌∷◌, ◌++◌}
use Prim.Native.Nat.{ℕ}
use native.Mathlib.Omega.{arith}
use Rattle.meaning.specs.State.{St, computed, readable, deps, f17}
use Rattle.meaning.specs.Links.{remove, cut, unlink}
use Rattle.meaning.specs.WellFormed.{WellFormed}
use Rattle.meaning.proofs.Laws.{up_by}
use Rattle.meaning.proofs.Members.{append_is_nil}
use Rattle.meaning.proofs.Steps.{stays_by}
use Rattle.meaning.proofs.Still.{given}
use Rattle.meaning.proofs.Inside.{nobody, also, static, Inside, widen, rest_inside, read_moves, Under, never_back}
use Rattle.meaning.proofs.Dropping.{nobody_left, unwatched_drops}

module _ (s : St) (w : WellFormed s) (l : ℕ) (lv : s.live l ≡ true) (c : s.kind (s.dep l) ≡ computed) (last : s.subs (s.dep l) ≡ l ∷ []) where
  abbrev d : ℕ
  d = s.dep l

  i : Inside (given s) nobody s
  i = rest_inside s w

  moves : (s.fl (s.dep l)).mutable ≡ true
  moves = read_moves (given s) s.queue s.dep s.sub d _ _ _ _ _ (i.rests d (i.lists.inside l lv).0 (λ z. z)) l (i.lists.live_in_subs l lv) (ap readable c)

  pub becomes_17 : (deps s (s.dep l) ≡ [] → ⊥) → ((unlink s l).fl (s.dep l) ≡ f17) × (deps (unlink s l) (s.dep l) ≡ [])
  becomes_17 ne =
      let X = also nobody (s.sub l) in
      let r = unwatched_drops (given s) (static s w) s.room.slots X s l (widen (given s) nobody X s (λ n z. absurd z) i) lv (inr refl) away (omega arith) last moves (λ q. ne (ap₂ (λ (x y : List ℕ). x ++ y) q (w.lists.tail_last d))) in
      (r.0, ap₂ (λ (x y : List ℕ). x ++ y) r.1 r.2)
    where
      away : (m : ℕ) → Under (given s) (s.dep l) m → also nobody (s.sub l) m → ⊥
      away m p (mathlib.Core.Logic.inl x') = elim x' [ ]
      away m p (inr q) = never_back (given s) (static s w) (s.dep l) (s.sub l) (i.lists.inside l lv).0 (i.goes l lv) (subst (Under (given s) (s.dep l)) q p)

  pub stays : deps s (s.dep l) ≡ [] → unlink s l ≡ cut s l
  unfolding cut remove
  stays e = stays_by s.room.slots s l lv (nobody_left (given s) nobody s l i lv last) moves (none_left (append_is_nil (s.done (s.dep l)) (s.rest (s.dep l)) e).0)
    where
      none_left : s.done (s.dep l) ≡ [] → (cut s l).done (s.dep l) ≡ []
      none_left q = up_by s.done (s.sub l) (remove l (s.done (s.sub l))) (λ (x : List ℕ). x ≡ []) (s.dep l) (λ z. ap (λ (n : ℕ). remove l (s.done n)) (sym z) ∙ ap (remove l) q) (λ z. q)
