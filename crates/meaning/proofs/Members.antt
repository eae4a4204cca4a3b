-- Lists of numbers: taking one out, members, lengths; at most n different numbers lie below n. Assumes nothing.
use mathlib.Core.Path.{◌≡◌, refl, sym, ap, ap₂, ◌∙◌, subst}
use mathlib.Core.Logic.{◌⊎◌, inl, inr}
use mathlib.Core.Bool.{Bool, true, false}
use mathlib.Core.List.{List, [], ◌∷◌, ◌++◌}
use Prim.Native.Nat.{ℕ, zero, suc, ◌+◌, ◌≤◌, ◌<◌}
use native.Mathlib.Omega.{arith}
use lib.Dec.{eqb}
use lib.ListN.{length, length-append}
use borrow.Author.Tests.{eq-eqb, ne_eqb, eqb-true, eqb-false}
use Rattle.meaning.specs.State.{Kind, readable}
use Rattle.meaning.specs.Links.{remove, is_nil}
use Rattle.meaning.specs.Reserve.{total}
pub use Rattle.lists.proofs.SumLaws.{sum_le as total-least}
use Rattle.meaning.specs.WellFormed.{In, Once, read_links}
use Rattle.meaning.proofs.Laws.{clash, false≢true, either, branch, in_left, in_right, in_cases}

-- ---- one taken out
pub remove_in : (x l : ℕ) (xs : List ℕ) → In x (remove l xs) → In x xs × (x ≡ l → ⊥)
unfolding remove
remove_in x l [] i = absurd i
remove_in x l (y ∷ ys) i =
    branch (λ (z : List ℕ). In x z → In x (y ∷ ys) × (x ≡ l → ⊥)) (eqb y l) (λ e j. let r = remove_in x l ys j in (inr r.0, r.1)) (λ e. go (eqb-false y l e) (λ j. remove_in x l ys j)) i
  where
    go : (y ≡ l → ⊥) → (In x (remove l ys) → In x ys × (x ≡ l → ⊥)) → In x (y ∷ remove l ys) → In x (y ∷ ys) × (x ≡ l → ⊥)
    go f h (inl q) = (inl q, λ e. f (sym q ∙ e))
    go f h (inr i) = let r = h i in (inr r.0, r.1)

pub in_remove : (x l : ℕ) (xs : List ℕ) → In x xs → (x ≡ l → ⊥) → In x (remove l xs)
unfolding remove
in_remove x l [] i h = elim i [ ]
in_remove x l (y ∷ ys) i h =
    let rec : In x ys → In x (remove l ys) = λ j. in_remove x l ys j h in
    branch (λ (z : List ℕ). In x z) (eqb y l) (λ e. other rec (eqb-true y l e) i) (λ e. both rec i)
  where
    other : (In x ys → In x (remove l ys)) → y ≡ l → In x (y ∷ ys) → In x (remove l ys)
    other f q (inl e) = absurd (h (e ∙ q))
    other f q (inr j) = f j

    both : (In x ys → In x (remove l ys)) → In x (y ∷ ys) → In x (y ∷ remove l ys)
    both f (inl e) = inl e
    both f (inr j) = inr (f j)

pub remove_absent : (l : ℕ) (xs : List ℕ) → (In l xs → ⊥) → remove l xs ≡ xs
unfolding remove
remove_absent l [] h = refl
remove_absent l (x ∷ xs) h = rw (ne_eqb x l (λ e. h (inl (sym e))), remove, remove_absent l xs (λ i. h (inr i)))

pub remove_head : (l : ℕ) (xs : List ℕ) → (In l xs → ⊥) → remove l (l ∷ xs) ≡ xs
unfolding remove
remove_head l xs h = rw (eq-eqb l l refl, remove, remove_absent l xs h)

pub remove_once : (l : ℕ) (xs : List ℕ) → Once xs → Once (remove l xs)
unfolding remove
remove_once l [] o = tt
remove_once l (x ∷ xs) o = branch Once (eqb x l) (λ e. remove_once l xs o.1) (λ e. (λ i. o.0 (remove_in x l xs i).0, remove_once l xs o.1))

pub remove_append : (l : ℕ) (xs ys : List ℕ) → remove l xs ++ remove l ys ≡ remove l (xs ++ ys)
unfolding remove
remove_append l [] ys = refl
remove_append l (x ∷ xs) ys = go (remove_append l xs ys) (eqb x l) refl
  where
    go : remove l xs ++ remove l ys ≡ remove l (xs ++ ys) → (b : Bool) → eqb x l ≡ b → remove l (x ∷ xs) ++ remove l ys ≡ remove l (x ∷ (xs ++ ys))
    go h true e = rw (e, remove, h)
    go h false e = rw (e, remove, ← h)

pub remove_shorter : (l : ℕ) (xs : List ℕ) → length (remove l xs) ≤ length xs
unfolding remove
remove_shorter l [] = omega arith
remove_shorter l (x ∷ xs) =
    let h = remove_shorter l xs in
    branch (λ (z : List ℕ). length z ≤ suc (length xs)) (eqb x l) (λ e. omega arith) (λ e. omega arith)

pub remove_takes : (l : ℕ) (xs : List ℕ) → In l xs → length (remove l xs) < length xs
unfolding remove
remove_takes l [] x' = elim x' [ ]
remove_takes l (x ∷ xs) (inl e) =
    let h = remove_shorter l xs in
    branch (λ (z : List ℕ). length z < suc (length xs)) (eqb x l) (λ q. omega arith) (λ q. absurd (eqb-false x l q (sym e)))
remove_takes l (x ∷ xs) (inr i) =
    let h = remove_takes l xs i in
    branch (λ (z : List ℕ). length z < suc (length xs)) (eqb x l) (λ e. omega arith) (λ e. omega arith)

-- ---- no members
pub none_nil : (xs : List ℕ) → ((x : ℕ) → In x xs → ⊥) → xs ≡ []
none_nil [] h = refl
none_nil (x ∷ xs) h = absurd (h x (inl refl))

pub nil_none : (xs : List ℕ) (x : ℕ) → xs ≡ [] → In x xs → ⊥
nil_none [] x e i = i
nil_none (y ∷ ys) x e i = let z : ◌≡◌ {A = ℕ} (length (y ∷ ys)) 0 = ap length e in absurd (omega arith)

pub is_nil-true : (xs : List ℕ) → is_nil xs ≡ true → xs ≡ []
is_nil-true [] e = refl
is_nil-true (x ∷ xs) e = false≢true e

pub is_nil-false : (xs : List ℕ) → is_nil xs ≡ false → xs ≡ [] → ⊥
is_nil-false [] e q = false≢true (sym e)
is_nil-false (x ∷ xs) e q = let z : ◌≡◌ {A = ℕ} (length (x ∷ xs)) 0 = ap length q in absurd (omega arith)

pub append_is_nil : (xs ys : List ℕ) → xs ++ ys ≡ [] → (xs ≡ []) × (ys ≡ [])
append_is_nil [] ys e = (refl, e)
append_is_nil (x ∷ xs) ys e = let z : ◌≡◌ {A = ℕ} (length (x ∷ (xs ++ ys))) 0 = ap length e in absurd (omega arith)

-- ---- a member or not
pub in_or_not : (n : ℕ) (c : List ℕ) → In n c ⊎ (In n c → ⊥)
in_or_not n [] = inr (λ i. i)
in_or_not n (x ∷ c) = either (eqb n x) (λ e. inl (inl (eqb-true n x e))) (λ e. go (eqb-false n x e) (in_or_not n c))
  where
    go : (n ≡ x → ⊥) → In n c ⊎ (In n c → ⊥) → In n (x ∷ c) ⊎ (In n (x ∷ c) → ⊥)
    go h (inl i) = inl (inr i)
    go h (inr f) = inr (neither h f)
      where
        neither : (n ≡ x → ⊥) → (In n c → ⊥) → In n (x ∷ c) → ⊥
        neither h f (inl e) = h e
        neither h f (inr i) = f i

-- ---- once
pub once_both : (xs ys : List ℕ) → Once xs → Once ys → ((x : ℕ) → In x xs → In x ys → ⊥) → Once (xs ++ ys)
once_both [] ys a b h = b
once_both (x ∷ xs) ys a b h = (λ i. in_cases x xs ys i a.0 (h x (inl refl)), once_both xs ys a.1 b (λ y i j. h y (inr i) j))

pub once_left : (xs ys : List ℕ) → Once (xs ++ ys) → Once xs
once_left [] ys o = tt
once_left (x ∷ xs) ys o = (λ i. o.0 (in_left x xs ys i), once_left xs ys o.1)

pub once_right : (xs ys : List ℕ) → Once (xs ++ ys) → Once ys
once_right [] ys o = o
once_right (x ∷ xs) ys o = once_right xs ys o.1

pub once_apart : (xs ys : List ℕ) → Once (xs ++ ys) → (x : ℕ) → In x xs → In x ys → ⊥
once_apart [] ys o x x5 j = elim x5 [ ]
once_apart (y ∷ xs) ys o x (inl e) j = o.0 (in_right y xs ys (subst (λ (z : ℕ). In z ys) e j))
once_apart (y ∷ xs) ys o x (inr i) j = once_apart xs ys o.1 x i j

-- ---- different numbers below n
once_less : (n : ℕ) (ys : List ℕ) → Once ys → length ys ≤ suc (length (remove n ys))
unfolding remove
once_less n [] q = omega arith
once_less n (y ∷ ys) q =
    branch (λ (z : List ℕ). suc (length ys) ≤ suc (length z)) (eqb y n)
    (λ e. let a = ap length (remove_absent n ys (subst (λ (z : ℕ). In z ys → ⊥) (eqb-true y n e) q.0)) in omega arith)
    (λ e. let a = once_less n ys q.1 in omega arith)

pub most_below : (n : ℕ) (xs : List ℕ) → Once xs → ((x : ℕ) → In x xs → x < n) → length xs ≤ n
most_below zero xs o h = let e = ap length (none_nil xs (λ x i. let a = h x i in absurd (omega arith))) in omega arith
most_below (suc n) xs o h =
    let a = once_less n xs o in
    let b = most_below n (remove n xs) (remove_once n xs o) (λ x i. let p = h x (remove_in x n xs i).0 in let q = (remove_in x n xs i).1 in omega (arith, q)) in
    omega arith

pub all_below : (n : ℕ) (xs : List ℕ) → ((x : ℕ) → x < n → In x xs) → n ≤ length xs
all_below zero xs h = omega arith
all_below (suc n) xs h =
    let a = all_below n (remove n xs) (λ x l. in_remove x n xs (h x (omega arith)) (λ e. omega arith)) in
    let b = remove_takes n xs (h n (omega arith)) in
    omega arith

-- ---- the lists of 0 .. n - 1, one after the other
unfoldable pub gather : (ℕ → List ℕ) → ℕ → List ℕ
gather f zero = []
gather f (suc n) = gather f n ++ f n

pub gather_length : (f : ℕ → List ℕ) (n : ℕ) → length (gather f n) ≡ total (λ m. length (f m)) n
unfolding gather total
gather_length f zero = refl
gather_length f (suc n) = length-append (gather f n) (f n) ∙ ap (λ (x : ℕ). x + length (f n)) (gather_length f n)

pub in_gather : (f : ℕ → List ℕ) (n x m : ℕ) → m < n → In x (f m) → In x (gather f n)
unfolding gather
in_gather f zero x m h i = absurd (omega arith)
in_gather f (suc n) x m h i =
    either (eqb m n) (λ e. in_right x (gather f n) (f n) (subst (λ (k : ℕ). In x (f k)) (eqb-true m n e) i))
    (λ e. let q = eqb-false m n e in in_left x (gather f n) (f n) (in_gather f n x m (omega (arith, q)) i))

pub gather_in : (f : ℕ → List ℕ) (n x : ℕ) → In x (gather f n) → (m : ℕ) × (m < n) × In x (f m)
unfolding gather
gather_in f zero x i = absurd i
gather_in f (suc n) x i = in_cases x (gather f n) (f n) i (λ j. let r = gather_in f n x j in let a = r.1 in (r.0, omega arith, r.2)) (λ j. (n, omega arith, j))

pub gather_once : (f : ℕ → List ℕ) (n : ℕ) → ((m : ℕ) → m < n → Once (f m)) → ((a b x : ℕ) → In x (f a) → In x (f b) → a ≡ b) → Once (gather f n)
unfolding gather
gather_once f zero o d = tt
gather_once f (suc n) o d =
    once_both (gather f n) (f n) (gather_once f n (λ m h. o m (omega arith)) d) (o n (omega arith))
    (λ x i j. let r = gather_in f n x i in let a = r.1 in let e : r.0 ≡ n = d r.0 n x r.2 j in absurd (omega arith))

-- ---- sums
pub total_both : (f g h : ℕ → ℕ) (n : ℕ) → ((m : ℕ) → m < n → f m + g m ≡ h m) → total f n + total g n ≡ total h n
unfolding total
total_both f g h zero e = refl
total_both f g h (suc n) e = let a = total_both f g h n (λ m l. e m (omega arith)) in let b = e n (omega arith) in omega arith

-- at u there is k to spare
pub total_spare : (f g : ℕ → ℕ) (n u k : ℕ) → u < n → f u + k ≤ g u → ((m : ℕ) → m < n → f m ≤ g m) → total f n + k ≤ total g n
unfolding total
total_spare f g zero u k l e h = absurd (omega arith)
total_spare f g (suc n) u k l e h =
    either (eqb u n)
    (λ q. let p = eqb-true u n q in
    let a : total f n ≤ total g n = total-least f g n (λ m j. h m (omega arith)) in
    let b : f n + k ≤ g n = subst (λ (x : ℕ). f x + k ≤ g x) p e in
    omega arith)
    (λ q. let p = eqb-false u n q in
    let a : total f n + k ≤ total g n = total_spare f g n u k (omega (arith, p)) e (λ m j. h m (omega arith)) in
    let b = h n (omega arith) in
    omega arith)

-- different places where there is something
pub most_marked : (c : ℕ → ℕ) (n : ℕ) (xs : List ℕ) → Once xs → ((x : ℕ) → In x xs → (x < n) × (1 ≤ c x)) → length xs ≤ total c n
unfolding total
most_marked c zero xs o h = let e = ap length (none_nil xs (λ x i. let a = (h x i).0 in absurd (omega arith))) in omega arith
most_marked c (suc n) xs o h =
    let a = once_less n xs o in
    let b = most_marked c n (remove n xs) (remove_once n xs o) (λ x i. let r = remove_in x n xs i in let p = h x r.0 in let u = p.0 in let q = r.1 in (omega (arith, q), p.1)) in
    go a b (in_or_not n xs)
  where
    go : length xs ≤ suc (length (remove n xs)) → length (remove n xs) ≤ total c n → In n xs ⊎ (In n xs → ⊥) → length xs ≤ total c n + c n
    go a b (inl i) = let d = (h n i).1 in omega arith
    go a b (inr f) = let e = ap length (remove_absent n xs f) in omega arith

-- and all places where there is one are in the list
pub all_marked : (c : ℕ → ℕ) (n : ℕ) (xs : List ℕ) → ((x : ℕ) → x < n → (c x ≡ 0) ⊎ ((c x ≡ 1) × In x xs)) → total c n ≤ length xs
unfolding total
all_marked c zero xs h = omega arith
all_marked c (suc n) xs h =
    go (h n (omega arith)) (λ ys k. all_marked c n ys (λ x l. k x (omega arith) (h x (omega arith))))
  where
    keep : (x : ℕ) → x < n → (c x ≡ 0) ⊎ ((c x ≡ 1) × In x xs) → (c x ≡ 0) ⊎ ((c x ≡ 1) × In x (remove n xs))
    keep x l (inl e) = inl e
    keep x l (inr p) = inr (p.0, in_remove x n xs p.1 (λ e. omega arith))

    go : (c n ≡ 0) ⊎ ((c n ≡ 1) × In n xs)
        → ((ys : List ℕ) → ((x : ℕ) → x < n → (c x ≡ 0) ⊎ ((c x ≡ 1) × In x xs) → (c x ≡ 0) ⊎ ((c x ≡ 1) × In x ys)) → total c n ≤ length ys) → total c n + c n ≤ length xs
    go (inl e) rec = let a = rec xs (λ x l p. p) in omega arith
    go (inr p) rec = let a = rec (remove n xs) keep in let b = remove_takes n xs p.1 in let e = p.0 in omega arith

-- ---- the read links of a list
module _ (kind : ℕ → Kind) (dep : ℕ → ℕ) where
  pub reads_few : (ls : List ℕ) → length (read_links kind dep ls) ≤ length ls
  unfolding read_links
  reads_few [] = omega arith
  reads_few (l ∷ ls) =
      let h = reads_few ls in
      branch (λ (z : List ℕ). length z ≤ suc (length ls)) (readable (kind (dep l))) (λ e. omega arith) (λ e. omega arith)

  pub reads_append : (xs ys : List ℕ) → read_links kind dep (xs ++ ys) ≡ read_links kind dep xs ++ read_links kind dep ys
  unfolding read_links
  reads_append [] ys = refl
  reads_append (x ∷ xs) ys = go (reads_append xs ys) (readable (kind (dep x))) refl
    where
      go : read_links kind dep (xs ++ ys) ≡ read_links kind dep xs ++ read_links kind dep ys → (b : Bool) → readable (kind (dep x)) ≡ b → read_links kind dep (x ∷ (xs ++ ys)) ≡ read_links kind dep (x ∷ xs) ++ read_links kind dep ys
      go h true e = rw (e, read_links, h)
      go h false e = rw (e, read_links, h)

  pub reads_in : (x : ℕ) (xs : List ℕ) → In x xs → readable (kind (dep x)) ≡ true → In x (read_links kind dep xs)
  unfolding read_links
  reads_in x [] i r = elim i [ ]
  reads_in x (y ∷ ys) i r =
      let rec : In x ys → In x (read_links kind dep ys) = λ j. reads_in x ys j r in
      branch (λ (z : List ℕ). In x z) (readable (kind (dep y))) (λ e. both rec i) (λ e. other rec e i)
    where
      both : (In x ys → In x (read_links kind dep ys)) → In x (y ∷ ys) → In x (y ∷ read_links kind dep ys)
      both f (inl q) = inl q
      both f (inr j) = inr (f j)

      other : (In x ys → In x (read_links kind dep ys)) → readable (kind (dep y)) ≡ false → In x (y ∷ ys) → In x (read_links kind dep ys)
      other f e (inl q) = clash (subst (λ (z : ℕ). readable (kind (dep z)) ≡ true) q r) e
      other f e (inr j) = f j

  pub reads_sub : (x : ℕ) (xs : List ℕ) → In x (read_links kind dep xs) → In x xs
  unfolding read_links
  reads_sub x [] i = elim i [ ]
  reads_sub x (y ∷ ys) i =
      let rec : In x (read_links kind dep ys) → In x ys = λ j. reads_sub x ys j in
      branch (λ (z : List ℕ). In x z → In x (y ∷ ys)) (readable (kind (dep y))) (λ e. both rec) (λ e j. inr (rec j)) i
    where
      both : (In x (read_links kind dep ys) → In x ys) → In x (y ∷ read_links kind dep ys) → In x (y ∷ ys)
      both f (inl q) = inl q
      both f (inr j) = inr (f j)

  -- a link that is no read link goes: the read links stay
  pub reads_remove : (l : ℕ) (xs : List ℕ) → readable (kind (dep l)) ≡ false → read_links kind dep (remove l xs) ≡ read_links kind dep xs
  unfolding read_links remove
  reads_remove l [] r = refl
  reads_remove l (x ∷ xs) r = go (reads_remove l xs r) (eqb x l) refl (readable (kind (dep x))) refl
    where
      go : read_links kind dep (remove l xs) ≡ read_links kind dep xs → (b : Bool) → eqb x l ≡ b → (c : Bool) → readable (kind (dep x)) ≡ c → read_links kind dep (remove l (x ∷ xs)) ≡ read_links kind dep (x ∷ xs)
      go h true e true f = clash f (subst (λ (z : ℕ). readable (kind (dep z)) ≡ false) (sym (eqb-true x l e)) r)
      go h true e false f = rw (e, remove, read_links, f, h)
      go h false e true f = rw (e, remove, read_links, f, h)
      go h false e false f = rw (e, remove, read_links, f, h)

-- the ends of the links in a list agree
pub reads_agree : (kind : ℕ → Kind) (f g : ℕ → ℕ) (ls : List ℕ) → ((l : ℕ) → In l ls → g l ≡ f l) → read_links kind g ls ≡ read_links kind f ls
unfolding read_links
reads_agree kind f g [] h = refl
reads_agree kind f g (l ∷ ls) h =
    let r : List ℕ → ℕ → List ℕ = λ x d. elim (readable (kind d)) [ true ↦ l ∷ x | false ↦ x ] in
    ap₂ r (reads_agree kind f g ls (λ m i. h m (inr i))) (h l (inl refl))
