-- The dirty check over words is the check over lists, given that asking one dependency is. Assumes nothing.
use mathlib.Core.Path.{◌≡◌, refl, sym, ap, ◌∙◌, subst}
use mathlib.Core.Bool.{Bool, true, false}
use mathlib.Core.Logic.{inl}
use mathlib.Core.List.{List, [], ◌∷◌, ◌++◌, append_assoc}
use Prim.Native.Nat.{ℕ, zero, suc, ◌<◌, ◌≤◌}
use native.Mathlib.Omega.{arith}
use lib.Dec.{ltb}
use lib.IntN.{ℤ}
use lib.ListN.{length}
use Rattle.primitive.specs.Words.{DEPS, NEXT-DEP, link, link_rows, node}
use Rattle.linking.specs.Table.{tab}
use Rattle.marking.specs.Fields.{flags_of, dirty, has}
use Rattle.reading.specs.Tables.{State, Told, told, rank_of}
use Rattle.reading.specs.Ring.{Ring, dependency_by, dirty_by, onward, deps_by}
use Rattle.meaning.specs.State.{St, deps}
use Rattle.meaning.specs.Links.{is_nil, several}
use Rattle.meaning.specs.Marks.{shallow}
use Rattle.meaning.specs.Reads.{Ans, ans, steady, check_on, check_w}
use Rattle.meaning.specs.WellFormed.{In}
use Rattle.meaning.proofs.Laws.{branch, in_right}
use Rattle.meaning.proofs.Members.{is_nil-true}
use Rattle.structure.specs.Chains.{first_word, Chain}
use Rattle.structure.specs.Rep.{word_at}
use Rattle.structure.proofs.Chained.{chain_at}
use Rattle.structure.proofs.Lens.{ptr}
use Rattle.structure.proofs.CutOut.{next_of_chain}
use Rattle.structure.proofs.FlagBytes.{has_dirty}
use Rattle.structure.proofs.Steps.{Sees, Tells, flags_are}

abbrev pick : Bool → Told → Told → Told
pick b x y = elim b [ true ↦ x | false ↦ y ]

-- u asks its dependency links ds; fr is what asks one dependency over lists, r the ring over words. P holds all along
module _ (ws : List ℤ) (r : Ring) (u : ℕ) (fr : St → ℕ → Ans) (ran : List ℕ) (C : List ℤ) (P : St → Type 0) (ds : List ℕ) where
  -- after dependency d was asked: its subscriber list is what it was, and others than u are told of a change
  abbrev pub asked : St → ℕ → St
  asked s d = steady (s.subs d) (fr s d).st d

  abbrev pub told_others : St → ℕ → St
  told_others s d = elim (several ((asked s d).subs d)) [ true ↦ shallow (asked s d) d | false ↦ asked s d ]

  -- asking d over words is asking it over lists
  pub record Asks (x : State) (s : St) (d : ℕ) : Type 0 where
    pub same : (dependency_by ws r x d).changed ≡ (fr s d).yes
    pub changed : (fr s d).yes ≡ true → Sees ran (dependency_by ws r x d).after C (told_others s d)
    pub unchanged : (fr s d).yes ≡ false → Sees ran (dependency_by ws r x d).after C (asked s d) × P (asked s d)

  module _ (lists : (s : St) → P s → deps s u ≡ ds) (low : (s : St) → P s → u < s.size)
      (lower : (s : St) (l : ℕ) → P s → In l ds → ltb (s.dep l) u ≡ (s.fl (s.dep l)).mutable)
      (asks : (x : State) (s : St) (l : ℕ) → In l ds → P s → Sees ran x C s → (s.fl u).dirty ≡ false → (s.fl (s.dep l)).mutable ≡ true → Asks x s (s.dep l)) where
    module _ (x : State) (s : St) (q : Sees ran x C s) (p : P s) where
      dirty_is : has (flags_of x.nodes u) dirty ≡ (s.fl u).dirty
      dirty_is = ap (λ (z : ℕ). has z dirty) (flags_are ran x C s u q (low s p)) ∙ has_dirty (s.fl u)

      already : (d : ℕ) → (s.fl u).dirty ≡ true → dirty_by ws r x u d ≡ told true x
      unfolding dirty_by
      already d e = ap (λ (b : Bool). pick b (told true x) (pick (ltb (rank_of d) (rank_of u)) (dependency_by ws r x d) (told false x))) (dirty_is ∙ e)

      by_rank : (d : ℕ) (b : Bool) → (s.fl u).dirty ≡ false → ltb d u ≡ b → dirty_by ws r x u d ≡ pick b (dependency_by ws r x d) (told false x)
      unfolding dirty_by rank_of
      by_rank d b e f =
          ap (λ (c : Bool). pick c (told true x) (pick (ltb d u) (dependency_by ws r x d) (told false x))) (dirty_is ∙ e) ∙ ap (λ (c : Bool). pick c (dependency_by ws r x d) (told false x)) f

    check_turns : (ls before : List ℕ) (j : ℕ) (x : State) (s : St) → ds ≡ before ++ ls → length ls ≤ j → P s → Sees ran x C s → Tells ran C (deps_by ws r u j x (first_word ls)) (check_on fr u s ls)
    unfolding deps_by check_on onward
    check_turns [] before zero x s e few p q = (refl, q)
    check_turns [] before (suc j) x s e few p q = (refl, q)
    check_turns (l ∷ ls) before zero x s e few p q = absurd (omega arith)
    check_turns (l ∷ ls) before (suc j) x s e few p q =
        let d = s.dep l in
        let i : In l ds = subst (In l) (sym e) (in_right l before (l ∷ ls) (inl refl)) in
        let e' : ds ≡ (before ++ l ∷ []) ++ ls = e ∙ sym (append_assoc before (l ∷ []) ls) in
        let next : link x.links l NEXT-DEP ≡ first_word ls =
        next_of_chain (tab x.nodes x.links) NEXT-DEP u DEPS l before ls (subst (Chain (ptr (tab x.nodes x.links) NEXT-DEP u DEPS) 0) (lists s p ∙ e) (q.deps.next u (low s p))) in
        let go : State → Told = λ y. deps_by ws r u j y (first_word ls) in
        let word : Told → Told = λ t. pick t.changed (told true t.after) (go t.after) in
        let Goal : Ans → Type 0 = λ b. Tells ran C (word (dirty_by ws r x u d)) b in
        let more = check_turns ls (before ++ l ∷ []) j x s e' (omega arith) p q in
        subst (λ (z : ℕ). Tells ran C (pick (dirty_by ws r x u z).changed (told true (dirty_by ws r x u z).after) (deps_by ws r u j (dirty_by ws r x u z).after (link x.links l NEXT-DEP))) (check_on fr u s (l ∷ ls))) (sym (q.slots.dep l))
        (subst (λ (z : ℕ). Tells ran C (pick (dirty_by ws r x u d).changed (told true (dirty_by ws r x u d).after) (deps_by ws r u j (dirty_by ws r x u d).after z)) (check_on fr u s (l ∷ ls))) (sym next)
        (branch Goal (s.fl u).dirty
        (λ f. subst (λ (t : Told). Tells ran C (word t) (ans s true)) (sym (already x s q p d f)) (refl, q))
        (λ f. branch Goal (s.fl d).mutable
        (λ m. subst (λ (t : Told). Tells ran C (word t) (on_list s ls d (fr s d).yes)) (sym (by_rank x s q p d true f (lower s l p i ∙ m))) (turn j ls x s d (asks x s l i p q f m) (λ a b. check_turns ls (before ++ l ∷ []) j (dependency_by ws r x d).after (asked s d) e' (omega arith) a b)))
        (λ m. subst (λ (t : Told). Tells ran C (word t) (check_on fr u s ls)) (sym (by_rank x s q p d false f (lower s l p i ∙ m))) more))))
      where
        on_list : St → List ℕ → ℕ → Bool → Ans
        on_list s ls d b = elim b [ true ↦ ans (told_others s d) true | false ↦ check_on fr u (asked s d) ls ]

        turn : (j : ℕ) (ls : List ℕ) (x : State) (s : St) (d : ℕ) → Asks x s d
            → (P (asked s d) → Sees ran (dependency_by ws r x d).after C (asked s d) → Tells ran C (deps_by ws r u j (dependency_by ws r x d).after (first_word ls)) (check_on fr u (asked s d) ls))
            → Tells ran C (pick (dependency_by ws r x d).changed (told true (dependency_by ws r x d).after) (deps_by ws r u j (dependency_by ws r x d).after (first_word ls))) (on_list s ls d (fr s d).yes)
        turn j ls x s d a h =
            subst (λ (b : Bool). Tells ran C (pick b (told true (dependency_by ws r x d).after) (deps_by ws r u j (dependency_by ws r x d).after (first_word ls))) (on_list s ls d (fr s d).yes)) (sym a.same)
            (at (fr s d).yes refl)
          where
            at : (b : Bool) → (fr s d).yes ≡ b → Tells ran C (pick b (told true (dependency_by ws r x d).after) (deps_by ws r u j (dependency_by ws r x d).after (first_word ls))) (on_list s ls d b)
            at true e = (refl, a.changed e)
            at false e = h (a.unchanged e).1 (a.unchanged e).0

    -- there is something to check; whatever budget is enough
    pub check_sim : (x : State) (s : St) → P s → Sees ran x C s → (ds ≡ [] → ⊥) → length ds ≤ s.room.slots → (j : ℕ) → link_rows x.links ≤ j → Tells ran C (deps_by ws r u j x (node x.nodes u DEPS)) (check_w fr s u)
    unfolding check_w word_at
    check_sim x s p q some few j many =
        let e = lists s p in
        let rows = q.lengths.of_links in
        let n = ap length e in
        let head : node x.nodes u DEPS ≡ first_word (deps s u) = chain_at (word_at x.nodes x.links NEXT-DEP u DEPS) 0 [] (deps s u) (q.deps.next u (low s p)) in
        branch (Tells ran C (deps_by ws r u j x (node x.nodes u DEPS))) (is_nil (deps s u))
        (λ z. absurd (some (sym e ∙ is_nil-true (deps s u) z)))
        (λ z. subst (λ (y : ℕ). Tells ran C (deps_by ws r u j x y) (check_on fr u s (deps s u))) (sym head)
        (check_turns (deps s u) [] j x s (sym e) (omega arith) p q))
