-- What the Boolean loops mean: every number, every slot of a list, and how many of them. Assumes nothing.
use Rattle.std.specs.Prelude.{map, ◌++◌, ◌&&◌, cond}
use Rattle.std.specs.List.{list_all, range_with_len, fold, count_by}
use Rattle.std.proofs.lemmas.List.FromFn.{map-range_with_len_more}
use Rattle.std.proofs.lemmas.List.Folds.{list_all-append, list_all-map}
use mathlib.Core.Path.{◌≡◌, refl, sym, ap, ◌∙◌}
use mathlib.Core.Logic.{◌⊎◌, inl, inr}
use mathlib.Core.Bool.{Bool, true, false}
use mathlib.Core.List.{List, [], ◌∷◌}
use Prim.Native.Nat.{ℕ, zero, suc, ◌+◌, ◌-◌, ◌<◌, ◌≤◌}
use native.Mathlib.Omega.{arith}
use lib.Dec.{eqb}
use lib.ListN.{length}
use borrow.Author.Tests.{ne_eqb, eqb-true, eqb-false}
use Rattle.lists.specs.Sum.{bit, count, occ, All, sum, count}
use Rattle.lists.specs.Walk.{slots}
use Rattle.lists.specs.Each.{both, either, pick, every, along, tally, keep}
use Rattle.lists.proofs.SumLaws.{bit_true, bit_false, clash, occ_cons, sum_same, sum_occ, occ_none}

pub both_true : (a b : Bool) → both a b ≡ true → (a ≡ true) × (b ≡ true)
both_true true b e = (refl, e)
both_true false b e = absurd (clash false e refl)

pub true_both : (a b : Bool) → a ≡ true → b ≡ true → both a b ≡ true
true_both a b p q = rw (p, q)

pub all_map : (R S : ℕ → Type 0) (xs : List ℕ) → ((x : ℕ) → R x → S x) → All R xs → All S xs
all_map R S [] f a = tt
all_map R S (x ∷ xs) f a = (f x a.0, all_map R S xs f a.1)

pub all_zip : (R S U : ℕ → Type 0) (xs : List ℕ) → ((x : ℕ) → R x → S x → U x) → All R xs → All S xs → All U xs
all_zip R S U [] f a b = tt
all_zip R S U (x ∷ xs) f a b = (f x a.0 b.0, all_zip R S U xs f a.1 b.1)

pub either_true : (a b : Bool) → either a b ≡ true → (a ≡ true) ⊎ (b ≡ true)
either_true true b e = inl refl
either_true false b e = inr e

pub true_either : (a b : Bool) → (a ≡ true) ⊎ (b ≡ true) → either a b ≡ true
true_either true b s = refl
true_either false b (inl e) = absurd (clash false e refl)
true_either false b (inr e) = e

-- by the branch that was taken
pub pick_true : {C : Type 0} (b x y : Bool) → pick b x y ≡ true → (b ≡ true → x ≡ true → C) → (b ≡ false → y ≡ true → C) → C
pick_true true x y e f g = f refl e
pick_true false x y e f g = g refl e

pub cond_true : (a b : Bool) → elim a [ true ↦ b | false ↦ false ] ≡ true → (a ≡ true) × (b ≡ true)
cond_true true b e = (refl, e)
cond_true false b e = absurd (let z : ◌≡◌ {A = ℕ} 0 1 = ap bit e in omega arith)

pub true_cond : (a b : Bool) → a ≡ true → b ≡ true → elim a [ true ↦ b | false ↦ false ] ≡ true
true_cond true b p q = q
true_cond false b p q = p

module _ (p : ℕ → Bool) where
  pub keep_yes : (x : ℕ) (xs : List ℕ) → p x ≡ true → keep p (x ∷ xs) ≡ x ∷ keep p xs
  unfolding keep
  keep_yes x xs e = rw (e, keep)

  pub keep_no : (x : ℕ) (xs : List ℕ) → p x ≡ false → keep p (x ∷ xs) ≡ keep p xs
  unfolding keep
  keep_no x xs e = rw (e, keep)

  pub keep_nil : keep p [] ≡ []
  unfolding keep
  keep_nil = refl

  pub keep_all : (R : ℕ → Type 0) (xs : List ℕ) → All R xs → All R (keep p xs)
  unfolding keep
  keep_all R [] a = tt
  keep_all R (x ∷ xs) a = at (keep_all R xs a.1) (p x)
    where
      at : All R (keep p xs) → (b : Bool) → All R (elim b [ true ↦ x ∷ keep p xs | false ↦ keep p xs ])
      at r true = (a.0, r)
      at r false = r

  pub keep_is : (xs : List ℕ) → All (λ (x : ℕ). p x ≡ true) (keep p xs)
  keep_is [] = rw keep_nil tt
  keep_is (x ∷ xs) = at (keep_is xs) (p x) refl
    where
      at : All (λ (y : ℕ). p y ≡ true) (keep p xs) → (b : Bool) → p x ≡ b → All (λ (y : ℕ). p y ≡ true) (keep p (x ∷ xs))
      at r true e = rw (keep_yes x xs e) (e, r)
      at r false e = rw (keep_no x xs e) r

  pub keep_occ : (y : ℕ) (xs : List ℕ) → p y ≡ true → occ y (keep p xs) ≡ occ y xs
  keep_occ y [] h = rw keep_nil refl
  keep_occ y (x ∷ xs) h = at (keep_occ y xs h) (p x) refl
    where
      at : occ y (keep p xs) ≡ occ y xs → (b : Bool) → p x ≡ b → occ y (keep p (x ∷ xs)) ≡ occ y (x ∷ xs)
      at r true e = rw (keep_yes x xs e) (omega (arith, occ_cons y x (keep p xs), occ_cons y x xs))
      at r false e =
          let n : y ≡ x → ⊥ = λ i. clash (p x) (ap p (sym i) ∙ h) e in
          rw (keep_no x xs e) (omega (arith, occ_cons y x xs, bit_false (eqb y x) (ne_eqb y x n)))

  -- as many are kept as there are numbers below n that satisfy q, where each of these stands once and no other is kept
  pub keep_count : (q : ℕ → Bool) (n : ℕ) (xs : List ℕ) → ((x : ℕ) → q x ≡ true → p x ≡ true) → All (λ (x : ℕ). x < n) xs
      → All (λ (x : ℕ). q x ≡ true) (keep p xs) → ((x : ℕ) → occ x xs ≤ 1) → ((x : ℕ) → x < n → q x ≡ true → occ x xs ≡ 1) → length (keep p xs) ≡ count q n
  keep_count q n xs i low is once all =
      sym (sum_occ (keep p xs) n (keep_all (λ (x : ℕ). x < n) xs low)) ∙ sum_same _ _ n (λ x h. at x h (q x) refl)
    where
      at : (x : ℕ) → x < n → (b : Bool) → q x ≡ b → occ x (keep p xs) ≡ bit (q x)
      at x h true e = keep_occ x xs (i x e) ∙ all x h e ∙ sym (bit_true (q x) e)
      at x h false e = occ_none (λ (y : ℕ). q y ≡ true) x (keep p xs) is (λ t. clash (q x) t e) ∙ sym (bit_false (q x) e)

pub every_sound : (p : ℕ → Bool) (n : ℕ) → every p n ≡ true → (k : ℕ) → k < n → p k ≡ true
unfolding every
every_sound p zero e k h = absurd (omega arith)
every_sound p (suc n) e k h = let r = cond_true (p n) (every p n) e in at r.0 (every_sound p n r.1 k) (eqb k n) refl
  where
    at : p n ≡ true → (k < n → p k ≡ true) → (c : Bool) → eqb k n ≡ c → p k ≡ true
    at top rest true q = ap p (eqb-true k n q) ∙ top
    at top rest false q = let f : k ≡ n → ⊥ = eqb-false k n q in rest (omega arith)

pub every_complete : (p : ℕ → Bool) (n : ℕ) → ((k : ℕ) → k < n → p k ≡ true) → every p n ≡ true
unfolding every
every_complete p zero h = refl
every_complete p (suc n) h = true_cond (p n) (every p n) (h n (omega arith)) (every_complete p n (λ k l. h k (omega arith)))

module _ (next : ℕ → ℕ) (p : ℕ → Bool) where
  pub along_sound : (b w : ℕ) → along next p b w ≡ true → All (λ (x : ℕ). p x ≡ true) (slots next b w)
  unfolding along slots
  along_sound zero w e = tt
  along_sound (suc b) zero e = tt
  along_sound (suc b) (suc x) e = let r = cond_true (p x) (along next p b (next x)) e in (r.0, along_sound b (next x) r.1)

  pub along_complete : (b w : ℕ) → All (λ (x : ℕ). p x ≡ true) (slots next b w) → along next p b w ≡ true
  unfolding along slots
  along_complete zero w a = refl
  along_complete (suc b) zero a = refl
  along_complete (suc b) (suc x) a = true_cond (p x) (along next p b (next x)) a.0 (along_complete b (next x) a.1)

  pub tally_keep : (b w : ℕ) → tally next p b w ≡ length (keep p (slots next b w))
  unfolding tally slots
  tally_keep zero w = ap length (sym (keep_nil p))
  tally_keep (suc b) zero = ap length (sym (keep_nil p))
  tally_keep (suc b) (suc x) = at (tally_keep b (next x)) (p x) refl
    where
      at : tally next p b (next x) ≡ length (keep p (slots next b (next x))) → (c : Bool) → p x ≡ c
          → bit (p x) + tally next p b (next x) ≡ length (keep p (x ∷ slots next b (next x)))
      at i true e = rw (keep_yes p x (slots next b (next x)) e) (omega (arith, i, bit_true (p x) e))
      at i false e = rw (keep_no p x (slots next b (next x)) e) (omega (arith, i, bit_false (p x) e))

-- ---- the ways through one turn of the code

-- ---- chains over the numbers below n
fold_more : (g : ℕ → ℕ → ℕ) (z a n : ℕ) → fold g z (range_with_len a (suc n)) ≡ g (fold g z (range_with_len a n)) (a + n)
fold_more g z a zero = ap (g z) (omega arith)
fold_more g z a (suc n) =
    let e : a + 1 + n ≡ a + suc n = omega arith in
    fold_more g (g z a) (a + 1) n ∙ ap (g (fold g (g z a) (range_with_len (a + 1) n))) e

-- ---- the ways through one turn of a loop from the last number down
module _ (p : ℕ → Bool) where
  pub every_end : (k : ℕ) → k ≤ 0 → every p k ≡ true
  unfolding every
  every_end zero h = refl
  every_end (suc k) h = absurd (omega arith)

  pub every_bad : (k : ℕ) → 0 < k → p (k - 1) ≡ false → every p k ≡ false
  unfolding every
  every_bad zero h e = absurd (omega arith)
  every_bad (suc k) h e =
      let m : suc k - 1 ≡ k = omega arith in
      let f : p k ≡ false = rw m at e in
      rw (f, every)

  pub every_more : (k : ℕ) → 0 < k → p (k - 1) ≡ true → every p k ≡ every p (k - 1)
  unfolding every
  every_more zero h e = absurd (omega arith)
  every_more (suc k) h e =
      let m : suc k - 1 ≡ k = omega arith in
      let f : p k ≡ true = rw m at e in
      rw (m, f, every)

pub all_every : (p : ℕ → Bool) (n : ℕ) → list_all p (range_with_len 0 n) ≡ every p n
unfolding every
all_every p zero = refl
all_every p (suc n) =
    let e : n + 1 ≡ suc n = omega arith in
    let more : map p (range_with_len 0 (suc n)) ≡ map p (range_with_len 0 n) ++ (p n ∷ []) = ap (λ (m : ℕ). map p (range_with_len 0 m)) (sym e) ∙ map-range_with_len_more p 0 n n (omega arith) in
    let here : list_all (λ b. b) (map p (range_with_len 0 n)) ≡ every p n = list_all-map (λ b. b) p (range_with_len 0 n) ∙ all_every p n in
    sym (list_all-map (λ b. b) p (range_with_len 0 (suc n))) ∙ ap (list_all (λ b. b)) more ∙ list_all-append (λ b. b) (map p (range_with_len 0 n)) (p n ∷ []) ∙ rw here (both_ways (every p n) (p n))
  where
    both_ways : (a b : Bool) → (a && (b && true)) ≡ elim b [ true ↦ a | false ↦ false ]
    both_ways true true = refl
    both_ways true false = refl
    both_ways false true = refl
    both_ways false false = refl

pub count_range : (p : ℕ → Bool) (n : ℕ) → count_by p (range_with_len 0 n) ≡ count p n
unfolding sum
count_range p zero = refl
count_range p (suc n) =
    let e : 0 + n ≡ n = omega arith in
    rw (fold_more (λ k x. k + cond (p x) 1 0) 0 0 n, e, count_range p n, cond_bit (p n))
  where
    cond_bit : (b : Bool) → cond b 1 0 ≡ bit b
    cond_bit true = refl
    cond_bit false = refl

module _ (next : ℕ → ℕ) (p : ℕ → Bool) where
  pub along_out : (b w : ℕ) → b ≤ 0 → along next p b w ≡ true
  unfolding along
  along_out zero w h = refl
  along_out (suc b) w h = absurd (omega arith)

  pub along_end : (b w : ℕ) → w ≡ 0 → along next p b w ≡ true
  unfolding along
  along_end zero w e = refl
  along_end (suc b) w e = rw e

  pub along_bad : (b w x : ℕ) → 0 < b → w ≡ suc x → p x ≡ false → along next p b w ≡ false
  unfolding along
  along_bad zero w x h i e = absurd (omega arith)
  along_bad (suc b) w x h i e = rw i (rw (e, along))

  pub along_more : (b c w x v : ℕ) → b ≡ suc c → w ≡ suc x → p x ≡ true → v ≡ next x → along next p b w ≡ along next p c v
  unfolding along
  along_more b c w x v h i e q = rw (h, i, q) (rw (e, along))

  pub tally_out : (b w c n : ℕ) → b ≤ 0 → c + tally next p b w ≡ n → c ≡ n
  unfolding tally
  tally_out zero w c n h e = omega (arith, e)
  tally_out (suc b) w c n h e = absurd (omega arith)

  pub tally_end : (b w c n : ℕ) → w ≡ 0 → c + tally next p b w ≡ n → c ≡ n
  unfolding tally
  tally_end b zero c n i e = at b e
    where
      at : (b : ℕ) → c + tally next p b zero ≡ n → c ≡ n
      at zero e = omega (arith, e)
      at (suc b) e = omega (arith, e)
  tally_end b (suc x) c n i e = absurd (omega arith)

  pub tally_yes : (b d w x v c n : ℕ) → b ≡ suc d → w ≡ suc x → v ≡ next x → p x ≡ true → c + tally next p b w ≡ n → (c + 1) + tally next p d v ≡ n
  unfolding tally
  tally_yes b d w x v c n h i q f e = let g = rw (h, i, tally, f) at e in rw q (omega (arith, g))

  pub tally_no : (b d w x v c n : ℕ) → b ≡ suc d → w ≡ suc x → v ≡ next x → p x ≡ false → c + tally next p b w ≡ n → c + tally next p d v ≡ n
  unfolding tally
  tally_no b d w x v c n h i q f e = let g = rw (h, i, tally, f) at e in rw q (omega (arith, g))
