-- The word tests of one node pass exactly where its lines of the second, third and fourth bullets hold, of tables whose lists are well formed. Assumes nothing.
use mathlib.Core.Path.{◌≡◌, refl, sym, ap, ◌∙◌, subst}
use mathlib.Core.Logic.{◌⊎◌, inl, inr, ⊎_elim}
use mathlib.Core.Bool.{Bool, true, false, not}
use mathlib.Core.List.{List, [], ◌∷◌}
use Prim.Native.Nat.{ℕ, zero, suc, ◌<◌, ◌≤◌}
use native.Mathlib.Omega.{arith}
use lib.Dec.{eqb, ltb, leb}
use lib.ListN.{length}
use borrow.Author.Tests.{eq-eqb, ne_eqb, eqb-true, eqb-false, ltb-true, lt-ltb, leb-true, le-leb, not-true}
use Rattle.primitive.specs.Rows.{field}
use Rattle.trees.specs.Legal.{readable_in}
use Rattle.lists.specs.Each.{both, either, pick}
use Rattle.lists.proofs.SumLaws.{clash}
use Rattle.lists.proofs.EachLaws.{both_true, true_both, either_true, true_either, pick_true, all_map, along_sound, along_complete, tally_keep}
use Rattle.counting.specs.Counts.{counted_in, slot_room}
use Rattle.resting.specs.Depends.{reads_kind, owns_kind, may_on, owner_is, may_depend, depends_on, depends_at, only_to, owned_on, owned_at}
use Rattle.resting.specs.Named.{reads_from}
use Rattle.resting.specs.Flagged.{signal_flags, computed_flags, effect_flags, gone_flags, flags_on}
use Rattle.resting.specs.Joined.{flagged_at}
use Rattle.resting.specs.AtRest.{subs_of, deps_of, read_links_of, Listed, Linked, May, Depends, Owned, Few, Flagged, FlaggedAt}
use Rattle.resting.specs.AtRest.{signal_clean, signal_set, computed_never, computed_clean, computed_bare, computed_pending, computed_dirty}
use Rattle.resting.specs.AtRest.{effect_watching, effect_queued, effect_pending, effect_dirty, gone_queued, gone_done, scope_still}

-- ---- what depends on what
two_kinds : (kind a b : ℕ) → either (eqb kind a) (eqb kind b) ≡ true → (kind ≡ a) ⊎ (kind ≡ b)
two_kinds kind a b e = ⊎_elim (λ q. inl (eqb-true kind a q)) (λ q. inr (eqb-true kind b q)) (either_true (eqb kind a) (eqb kind b) e)

kinds_two : (kind a b : ℕ) → (kind ≡ a) ⊎ (kind ≡ b) → either (eqb kind a) (eqb kind b) ≡ true
kinds_two kind a b s = true_either (eqb kind a) (eqb kind b) (⊎_elim (λ q. inl (eq-eqb kind a q)) (λ q. inr (eq-eqb kind b q)) s)

owner_yes : (w n : ℕ) → owner_is w n ≡ true → w ≡ suc n
unfolding owner_is
owner_yes zero n e = absurd (clash false e refl)
owner_yes (suc o) n e = ap suc (eqb-true o n e)

yes_owner : (w n : ℕ) → w ≡ suc n → owner_is w n ≡ true
unfolding owner_is
yes_owner w n e = rw e (eq-eqb n n refl)

module _ (t : List ℕ) (n d : ℕ) where
  may_sound : may_depend t n d ≡ true → May t n d
  unfolding may_depend
  may_sound e = at (readable_in t d) refl
    where
      at : (b : Bool) → readable_in t d ≡ b → May t n d
      at true q =
          let r = both_true (reads_kind (field 16 t n 1)) (ltb d n) (rw q at e) in
          record { read = λ _. (two_kinds (field 16 t n 1) 2 3 r.0, ltb-true d n r.1); own = λ f. absurd (clash (readable_in t d) q f) }
      at false q =
          let r = both_true (owns_kind (field 16 t n 1)) (owner_is (field 16 t d 10) n) (rw q at e) in
          record { read = λ f. absurd (clash (readable_in t d) f q); own = λ _. (two_kinds (field 16 t n 1) 3 4 r.0, owner_yes (field 16 t d 10) n r.1) }

  may_complete : May t n d → may_depend t n d ≡ true
  unfolding may_depend
  may_complete m = at (readable_in t d) refl
    where
      at : (b : Bool) → readable_in t d ≡ b → may_on (readable_in t d) (field 16 t n 1) (ltb d n) (owner_is (field 16 t d 10) n) ≡ true
      at true q = let r = m.read q in rw q (true_both _ _ (kinds_two (field 16 t n 1) 2 3 r.0) (lt-ltb d n r.1))
      at false q = let r = m.own q in rw q (true_both _ _ (kinds_two (field 16 t n 1) 3 4 r.0) (yes_owner (field 16 t d 10) n r.1))

module _ (t l : List ℕ) (n : ℕ) where
  pub depends_sound : depends_at t l n ≡ true → Depends t l n
  unfolding depends_at depends_on
  depends_sound e =
      all_map (λ (x : ℕ). may_depend t n (field 8 l x 1) ≡ true) (λ (x : ℕ). May t n (field 8 l x 1)) (deps_of t l n) (λ x. may_sound t n (field 8 l x 1))
      (along_sound (λ (x : ℕ). field 8 l x 6) (λ (x : ℕ). may_depend t n (field 8 l x 1)) (slot_room l) (field 16 t n 3) e)

  pub depends_complete : Depends t l n → depends_at t l n ≡ true
  unfolding depends_at depends_on
  depends_complete a =
      along_complete (λ (x : ℕ). field 8 l x 6) (λ (x : ℕ). may_depend t n (field 8 l x 1)) (slot_room l) (field 16 t n 3)
      (all_map (λ (x : ℕ). May t n (field 8 l x 1)) (λ (x : ℕ). may_depend t n (field 8 l x 1) ≡ true) (deps_of t l n) (λ x. may_complete t n (field 8 l x 1)) a)

-- ---- a list and its head
module _ (l : List ℕ) (own prev next n tail : ℕ) where
  none : (p w : ℕ) (xs : List ℕ) → Listed l own prev next n p w xs tail → w ≡ 0 → xs ≡ []
  none p w [] c e = refl
  none p w (x ∷ xs) c e = absurd (omega (arith, c.0, e))

  none_head : (p w : ℕ) (xs : List ℕ) → Listed l own prev next n p w xs tail → xs ≡ [] → w ≡ 0
  none_head p w xs c e = (subst (λ (ys : List ℕ). Listed l own prev next n p w ys tail) e c).0

  single : (w x : ℕ) (xs : List ℕ) → Listed l own prev next n 0 w xs tail → w ≡ suc x → field 8 l x next ≡ 0 → xs ≡ x ∷ []
  single w x [] c e z = absurd (omega (arith, c.0, e))
  single w x (y ∷ ys) c e z =
      let i : y ≡ x = omega (arith, c.0, e) in
      let o : field 8 l y next ≡ 0 = rw i z in
      let r : ys ≡ [] = none (suc y) (field 8 l y next) ys c.4 o in
      rw (r, i)

  single_head : (w x : ℕ) (xs : List ℕ) → Listed l own prev next n 0 w xs tail → xs ≡ x ∷ [] → (w ≡ suc x) × (field 8 l x next ≡ 0)
  single_head w x xs c e = let d = subst (λ (ys : List ℕ). Listed l own prev next n 0 w ys tail) e c in (d.0, d.4.0)

-- ---- owned, unowned and gone nodes
only_sound : (l : List ℕ) (o subs : ℕ) → owned_on l (suc o) subs ≡ true → (x : ℕ) × (subs ≡ suc x) × (field 8 l x 4 ≡ 0) × (field 8 l x 2 ≡ o)
unfolding owned_on only_to
only_sound l o zero e = absurd (clash false e refl)
only_sound l o (suc x) e = let r = both_true (eqb (field 8 l x 4) 0) (eqb (field 8 l x 2) o) e in (x, refl, eqb-true _ _ r.0, eqb-true _ _ r.1)

only_complete : (l : List ℕ) (o subs x : ℕ) → subs ≡ suc x → field 8 l x 4 ≡ 0 → field 8 l x 2 ≡ o → owned_on l (suc o) subs ≡ true
unfolding owned_on only_to
only_complete l o subs x e f g = rw e (true_both _ _ (eq-eqb _ _ f) (eq-eqb _ _ g))

alone_sound : (l : List ℕ) (subs : ℕ) → owned_on l 0 subs ≡ true → subs ≡ 0
unfolding owned_on
alone_sound l subs e = eqb-true subs 0 e

alone_complete : (l : List ℕ) (subs : ℕ) → subs ≡ 0 → owned_on l 0 subs ≡ true
unfolding owned_on
alone_complete l subs e = eq-eqb subs 0 e

module _ (t l : List ℕ) (wf : Linked t l) (n : ℕ) (known : n < counted_in t) where
  no_subs : field 16 t n 5 ≡ 0 → subs_of t l n ≡ []
  no_subs e = none l 1 3 4 n _ 0 _ _ (wf.subs n known) e

  subs_no : subs_of t l n ≡ [] → field 16 t n 5 ≡ 0
  subs_no e = none_head l 1 3 4 n _ 0 _ _ (wf.subs n known) e

  no_deps : field 16 t n 3 ≡ 0 → deps_of t l n ≡ []
  no_deps e = none l 2 5 6 n _ 0 _ _ (wf.deps n known) e

  deps_no : deps_of t l n ≡ [] → field 16 t n 3 ≡ 0
  deps_no e = none_head l 2 5 6 n _ 0 _ _ (wf.deps n known) e

  pub owned_sound : owned_at t l n ≡ true → Owned t l n
  unfolding owned_at
  owned_sound e =
      record {
        owned = λ r g o w. one o (rw w at (lives r g));
        unowned = λ r g w. no_subs (alone_sound l _ (rw w at (lives r g)));
        gone = λ r g. let b = both_true (eqb (field 16 t n 5) 0) _ (rw (r, ne_eqb (field 16 t n 2) 0 g) at e) in (no_subs (eqb-true _ _ b.0), no_deps (eqb-true _ _ b.1));
      }
    where
      lives : readable_in t n ≡ false → field 16 t n 2 ≡ 0 → owned_on l (field 16 t n 10) (field 16 t n 5) ≡ true
      lives r g = rw (r, eq-eqb (field 16 t n 2) 0 g) at e

      one : (o : ℕ) → owned_on l (suc o) (field 16 t n 5) ≡ true → (x : ℕ) × (subs_of t l n ≡ x ∷ []) × (field 8 l x 2 ≡ o)
      one o h = let r = only_sound l o (field 16 t n 5) h in (r.0, single l 1 3 4 n _ _ r.0 _ (wf.subs n known) r.1 r.2, r.3)

  pub owned_complete : Owned t l n → owned_at t l n ≡ true
  unfolding owned_at
  owned_complete a = at (readable_in t n) refl (eqb (field 16 t n 2) 0) refl (field 16 t n 10) refl
    where
      at : (r : Bool) → readable_in t n ≡ r → (g : Bool) → eqb (field 16 t n 2) 0 ≡ g → (w : ℕ) → field 16 t n 10 ≡ w
          → pick (readable_in t n) true (pick (eqb (field 16 t n 2) 0) (owned_on l (field 16 t n 10) (field 16 t n 5)) (both (eqb (field 16 t n 5) 0) (eqb (field 16 t n 3) 0))) ≡ true
      at true r g q w e = rw r
      at false r false q w e = let p = a.gone r (eqb-false _ _ q) in rw (r, q) (true_both _ _ (eq-eqb _ _ (subs_no p.0)) (eq-eqb _ _ (deps_no p.1)))
      at false r true q zero e = rw (r, q, e) (alone_complete l _ (subs_no (a.unowned r (eqb-true _ _ q) e)))
      at false r true q (suc o) e =
          let p = a.owned r (eqb-true _ _ q) o e in
          let s = single_head l 1 3 4 n _ _ p.0 _ (wf.subs n known) p.1 in
          rw (r, q, e) (only_complete l o (field 16 t n 5) p.0 s.0 s.1 p.2)

-- ---- flags: first over plain numbers, of which the heads are 0 where the lists are empty
module _ (kind gone f d s r : ℕ) (deps subs reads : List ℕ)
    (no-d : d ≡ 0 → deps ≡ []) (d-no : deps ≡ [] → d ≡ 0)
    (no-s : s ≡ 0 → subs ≡ []) (s-no : subs ≡ [] → s ≡ 0)
    (no-r : r ≡ 0 → reads ≡ []) (r-no : reads ≡ [] → r ≡ 0) where
  abbrev State : Type 0
  State = Flagged kind gone f deps subs reads

  is : (a b : ℕ) → eqb a b ≡ true → a ≡ b
  is a b e = eqb-true a b e

  some : (a : ℕ) (xs : List ℕ) → (xs ≡ [] → a ≡ 0) → not (eqb a 0) ≡ true → xs ≡ [] → ⊥
  some a xs h e q = eqb-false a 0 (not-true (eqb a 0) e) (h q)

  computed_sound : kind ≡ 2 → computed_flags f d s ≡ true → State
  unfolding computed_flags
  computed_sound k e =
      pick_true (eqb f 0) _ _ e
      (λ p a. pick_true (eqb d 0) _ _ a (λ x y. computed_never k (is f 0 p) (no-d (is d 0 x)) (no-s (is s 0 y))) (λ x y. absurd (clash false y refl)))
      (λ _ a. pick_true (eqb f 1) _ _ a (λ p _. computed_clean k (is f 1 p))
      (λ _ a. pick_true (eqb f 17) _ _ a (λ p x. computed_bare k (is f 17 p) (no-d (is d 0 x)))
      (λ _ a. pick_true (eqb f 33) _ _ a (λ p x. computed_pending k (is f 33 p) (some d deps d-no x))
      (λ _ a. pick_true (eqb f 49) _ _ a (λ p x. computed_dirty k (is f 49 p) (some d deps d-no x))
      (λ _ a. absurd (clash false a refl))))))

  effect_sound : kind ≡ 3 → gone ≡ 0 → effect_flags f r ≡ true → State
  unfolding effect_flags
  effect_sound k g e =
      pick_true (eqb f 2) _ _ e (λ p _. effect_watching k g (is f 2 p))
      (λ _ a. pick_true (eqb f 0) _ _ a (λ p _. effect_queued k g (is f 0 p))
      (λ _ a. pick_true (eqb f 32) _ _ a (λ p x. effect_pending k g (is f 32 p) (some r reads r-no x))
      (λ _ a. pick_true (eqb f 48) _ _ a (λ p x. effect_dirty k g (is f 48 p) (some r reads r-no x))
      (λ _ a. absurd (clash false a refl)))))

  flags_sound : flags_on kind gone f d s r ≡ true → State
  unfolding flags_on signal_flags gone_flags
  flags_sound e =
      pick_true (eqb kind 1) _ _ e
      (λ k a. pick_true (eqb f 1) _ _ a (λ p _. signal_clean (is kind 1 k) (is f 1 p)) (λ _ p. signal_set (is kind 1 k) (is f 17 p)))
      (λ _ a. pick_true (eqb kind 2) _ _ a (λ k b. computed_sound (is kind 2 k) b)
      (λ _ a. pick_true (eqb kind 3) _ _ a
      (λ k b. pick_true (eqb gone 0) _ _ b (λ g x. effect_sound (is kind 3 k) (is gone 0 g) x)
      (λ g x. pick_true (eqb f 0) _ _ x (λ p _. gone_queued (is kind 3 k) (eqb-false gone 0 g) (is f 0 p)) (λ _ p. gone_done (is kind 3 k) (eqb-false gone 0 g) (is f 2 p))))
      (λ _ a. pick_true (eqb kind 4) _ _ a (λ k p. scope_still (is kind 4 k) (is f 0 p)) (λ _ a. absurd (clash false a refl)))))

  flags_complete : State → flags_on kind gone f d s r ≡ true
  unfolding flags_on signal_flags computed_flags effect_flags gone_flags
  flags_complete (signal_clean k p) = rw (k, p)
  flags_complete (signal_set k p) = rw (k, p)
  flags_complete (computed_never k p a b) = rw (k, p, d-no a, s-no b)
  flags_complete (computed_clean k p) = rw (k, p)
  flags_complete (computed_bare k p a) = rw (k, p, d-no a)
  flags_complete (computed_pending k p a) = rw (k, p, ne_eqb d 0 (λ z. a (no-d z)))
  flags_complete (computed_dirty k p a) = rw (k, p, ne_eqb d 0 (λ z. a (no-d z)))
  flags_complete (effect_watching k g p) = rw (k, g, p)
  flags_complete (effect_queued k g p) = rw (k, g, p)
  flags_complete (effect_pending k g p a) = rw (k, g, p, ne_eqb r 0 (λ z. a (no-r z)))
  flags_complete (effect_dirty k g p a) = rw (k, g, p, ne_eqb r 0 (λ z. a (no-r z)))
  flags_complete (gone_queued k g p) = rw (k, p, ne_eqb gone 0 g)
  flags_complete (gone_done k g p) = rw (k, p, ne_eqb gone 0 g)
  flags_complete (scope_still k p) = rw (k, p)

length_none : (xs : List ℕ) → length xs ≡ 0 → xs ≡ []
length_none [] e = refl
length_none (x ∷ xs) e = absurd (omega (arith, e))

-- how many read links there are
reads_length : (t l : List ℕ) (n : ℕ) → reads_from t l (field 16 t n 3) ≡ length (read_links_of t l n)
unfolding reads_from
reads_length t l n = tally_keep (λ (x : ℕ). field 8 l x 6) (λ (x : ℕ). readable_in t (field 8 l x 1)) (slot_room l) (field 16 t n 3)

module _ (t l : List ℕ) (wf : Linked t l) (n : ℕ) (known : n < counted_in t) where
  pub flagged_sound : flagged_at t l n ≡ true → Few t l n × FlaggedAt t l n
  unfolding flagged_at
  flagged_sound e =
      let b = both_true (leb (reads_from t l (field 16 t n 3)) (field 16 t n 9)) _ e in
      let q = reads_length t l n in (
        omega (arith, q, leb-true (reads_from t l (field 16 t n 3)) (field 16 t n 9) b.0),
        flags_sound _ _ _ _ _ _ _ _ _ (no_deps t l wf n known) (deps_no t l wf n known) (no_subs t l wf n known) (subs_no t l wf n known) (λ z. length_none _ (sym q ∙ z)) (λ z. q ∙ ap length z) b.1,
      )

  pub flagged_complete : Few t l n → FlaggedAt t l n → flagged_at t l n ≡ true
  unfolding flagged_at
  flagged_complete a b =
      let q = reads_length t l n in
      let i : reads_from t l (field 16 t n 3) ≤ field 16 t n 9 = omega (arith, q, a) in
      true_both _ _ (le-leb _ _ i)
      (flags_complete _ _ _ _ _ _ _ _ _ (no_deps t l wf n known) (deps_no t l wf n known) (no_subs t l wf n known) (subs_no t l wf n known) (λ z. length_none _ (sym q ∙ z)) (λ z. q ∙ ap length z) b)
