-- The queue as a list: a push puts an entry behind the last, a clear leaves none, and a reversal from s turns the entries from s on and no other.
-- Assumes nothing.
use mathlib.Core.Path.{◌≡◌, refl, sym, ap, ap₂, ◌∙◌, subst}
use mathlib.Core.List.{List, [], ◌∷◌, ◌++◌, reverse, reverse-cons}
use Prim.Native.Nat.{ℕ, zero, suc, ◌+◌, ◌*◌, ◌-◌, ◌/◌, ◌<◌, ◌≤◌, min}
use native.Mathlib.Decide.{ℕ_discrete, dec_lt}
use native.Mathlib.Nat.{zero-add}
use native.Mathlib.Numerals.{add-one}
use native.Mathlib.Omega.{arith}
use lib.ListN.{length, get_or, set, take, drop, length-set, length-append, length-take, length-drop, length-reverse, get_or-append}
use lib.Seq.{ext_get_or, get_or-set_same, get_or_at, get_or-take, get_or-drop, get_or-append-add}
use borrow.Author.Tests.{lt-ltb, le-ltb}
use Rattle.primitive.specs.Rows.{has_field, set_field}
use Rattle.queue.specs.Queue.{count, entry_at, pushed, emptied, swapped, reversed, reversed_from, entries, queue_of}
use Rattle.primitive.proofs.RowLaws.{same_field, other_record, length-set_field, header_kept, field_after_header}

-- ---- as the code takes them
pub count_le : (t : List ℕ) → count t ≤ length t
unfolding count
count_le t = omega arith

count_room : (t : List ℕ) → count t * 16 ≤ length t - 16
unfolding count
count_room t = omega arith

pub pushed_full : (t : List ℕ) (e : ℕ) → length t / 16 ≤ suc (count t) → pushed t e ≡ t
unfolding pushed
pushed_full t e h = rw (le-ltb (suc (count t)) (length t / 16) h, pushed)

pub pushed_room : (t : List ℕ) (e : ℕ) → suc (count t) < length t / 16 → pushed t e ≡ set (set_field 16 t (count t) 12 e) 12 (suc (count t))
unfolding pushed
pushed_room t e h = rw (lt-ltb (suc (count t)) (length t / 16) h, pushed)

pub reversed_done : (t : List ℕ) (lo hi : ℕ) → hi ≤ lo → reversed t lo hi ≡ t
unfolding reversed
reversed_done t lo zero h = refl
reversed_done t lo (suc hi) h = rw (le-ltb lo (suc hi) h, reversed)

reversed_suc : (t : List ℕ) (lo hi : ℕ) → lo < suc hi → reversed t lo (suc hi) ≡ reversed (swapped t lo hi) (suc lo) hi
unfolding reversed
reversed_suc t lo hi h = rw (lt-ltb lo (suc hi) h, reversed)

pub reversed_more : (t : List ℕ) (lo hi : ℕ) → lo < hi → reversed t lo hi ≡ reversed (swapped t lo (hi - 1)) (lo + 1) (hi - 1)
reversed_more t lo zero h = absurd (omega arith)
reversed_more t lo (suc hi) h = let e : suc hi - 1 ≡ hi = omega arith in rw (add-one lo, e) (reversed_suc t lo hi h)

-- ---- entries
length_entries : (t : List ℕ) (s n : ℕ) → length (entries t s n) ≡ n
unfolding entries
length_entries t s zero = refl
length_entries t s (suc n) = ap suc (length_entries t (suc s) n)

get_or-entries : (t : List ℕ) (s n i : ℕ) → i < n → get_or (entries t s n) i 0 ≡ entry_at t (s + i)
unfolding entries
get_or-entries t s zero i h = absurd (omega arith)
get_or-entries t s (suc n) zero h = ap (entry_at t) (omega arith)
get_or-entries t s (suc n) (suc i) h = get_or-entries t (suc s) n i (omega arith) ∙ ap (entry_at t) (omega arith)

-- a list of the queue's length whose elements are the entries is the queue
is_queue : (t l : List ℕ) → length l ≡ count t → ((i : ℕ) → i < count t → entry_at t i ≡ get_or l i 0) → queue_of t ≡ l
unfolding queue_of
is_queue t l h p =
    ext_get_or 0 (entries t 0 (count t)) l (length_entries t 0 (count t) ∙ sym h)
    (λ i k.
    let j : i < count t = omega (arith, length_entries t 0 (count t)) in
    get_or-entries t 0 (count t) i j ∙ ap (entry_at t) (zero-add i) ∙ p i j)

pub get_or-queue : (t : List ℕ) (i : ℕ) → i < count t → get_or (queue_of t) i 0 ≡ entry_at t i
unfolding queue_of
get_or-queue t i h = get_or-entries t 0 (count t) i h ∙ ap (entry_at t) (zero-add i)

length_queue : (t : List ℕ) → length (queue_of t) ≡ count t
unfolding queue_of
length_queue t = length_entries t 0 (count t)

-- ---- a clear
count_emptied : (t : List ℕ) → count (emptied t) ≡ 0
unfolding count emptied
count_emptied t = go (dec_lt 12 (length t))
  where
    go : Dec (12 < length t) → min (get_or (set t 12 0) 12 0) (length (set t 12 0) / 16 - 1) ≡ 0
    go (yes h) = omega (arith, get_or-set_same t 12 0 0 h)
    go (no h) = omega (arith, length-set t 12 0)

pub queue_emptied : (t : List ℕ) → queue_of (emptied t) ≡ []
queue_emptied t = is_queue (emptied t) [] (sym (count_emptied t)) (λ i h. absurd (omega (arith, count_emptied t)))

-- ---- entries after a store
stored_entry : (t : List ℕ) (i v : ℕ) → suc i * 16 + 12 < length t → entry_at (set_field 16 t i 12 v) i ≡ v
unfolding entry_at has_field
stored_entry t i v h = same_field 16 t i 12 v refl h

other_entry : (t : List ℕ) (i m v : ℕ) → (m ≡ i → ⊥) → entry_at (set_field 16 t i 12 v) m ≡ entry_at t m
unfolding entry_at
other_entry t i m v d = other_record 16 t i m 12 12 v d

-- ---- a push
module _ (t : List ℕ) (e : ℕ) (room : suc (count t) < length t / 16) where
  after : List ℕ
  after = set (set_field 16 t (count t) 12 e) 12 (suc (count t))

  count_after : count after ≡ suc (count t)
  unfolding count after
  count_after =
      let l : length after ≡ length t = length-set (set_field 16 t (count t) 12 e) 12 (suc (count t)) ∙ length-set_field 16 t (count t) 12 e in
      let w : get_or after 12 0 ≡ suc (count t) = get_or-set_same (set_field 16 t (count t) 12 e) 12 (suc (count t)) 0 (omega (arith, length-set_field 16 t (count t) 12 e)) in
      rw (l, w) (omega arith)

  entry_after : (i : ℕ) → entry_at after i ≡ entry_at (set_field 16 t (count t) 12 e) i
  unfolding entry_at after
  entry_after i = field_after_header 16 (set_field 16 t (count t) 12 e) i 12 (suc (count t)) 12 (omega arith)

  pub queue_pushed : queue_of (pushed t e) ≡ queue_of t ++ (e ∷ [])
  unfolding after
  queue_pushed = ap queue_of (pushed_room t e room) ∙ is_queue after (queue_of t ++ (e ∷ [])) long (λ i h. at i h (ℕ_discrete i (count t)))
    where
      long : length (queue_of t ++ (e ∷ [])) ≡ count after
      long = length-append (queue_of t) (e ∷ []) ∙ omega (arith, length_queue t, count_after)

      at : (i : ℕ) → i < count after → Dec (i ≡ count t) → entry_at after i ≡ get_or (queue_of t ++ (e ∷ [])) i 0
      at i h (yes s) =
          entry_after i ∙ ap (entry_at (set_field 16 t (count t) 12 e)) s ∙ stored_entry t (count t) e (omega arith)
          ∙ sym (get_or_at (queue_of t) e [] 0 i (length_queue t ∙ sym s))
      at i h (no d) =
          let k : i < count t = omega (arith, count_after) in
          entry_after i ∙ other_entry t (count t) i e d ∙ sym (get_or-queue t i k)
          ∙ sym (get_or-append (queue_of t) (e ∷ []) 0 i (omega (arith, length_queue t)))

-- ---- two entries change places
module _ (t : List ℕ) (i j : ℕ) where
  swapped_second : suc j * 16 + 12 < length t → entry_at (swapped t i j) j ≡ entry_at t i
  unfolding swapped
  swapped_second h =
      stored_entry (set_field 16 t i 12 (entry_at t j)) j (entry_at t i) (omega (arith, length-set_field 16 t i 12 (entry_at t j)))

  swapped_first : suc i * 16 + 12 < length t → suc j * 16 + 12 < length t → entry_at (swapped t i j) i ≡ entry_at t j
  unfolding swapped
  swapped_first h k = go (ℕ_discrete i j)
    where
      go : Dec (i ≡ j) → entry_at (swapped t i j) i ≡ entry_at t j
      go (yes e) = ap (entry_at (swapped t i j)) e ∙ swapped_second k ∙ ap (entry_at t) e
      go (no d) =
          other_entry (set_field 16 t i 12 (entry_at t j)) j i (entry_at t i) d
          ∙ stored_entry t i (entry_at t j) h

  swapped_other : (m : ℕ) → (m ≡ i → ⊥) → (m ≡ j → ⊥) → entry_at (swapped t i j) m ≡ entry_at t m
  unfolding swapped
  swapped_other m di dj =
      other_entry (set_field 16 t i 12 (entry_at t j)) j m (entry_at t i) dj
      ∙ other_entry t i m (entry_at t j) di

  pub length_swapped : length (swapped t i j) ≡ length t
  unfolding swapped
  length_swapped =
      length-set_field 16 (set_field 16 t i 12 (entry_at t j)) j 12 (entry_at t i)
      ∙ length-set_field 16 t i 12 (entry_at t j)

  word_swapped : get_or (swapped t i j) 12 0 ≡ get_or t 12 0
  unfolding swapped
  word_swapped =
      header_kept 16 (set_field 16 t i 12 (entry_at t j)) j 12 (entry_at t i) 12 (omega arith)
      ∙ header_kept 16 t i 12 (entry_at t j) 12 (omega arith)

-- ---- a reversal: every swap keeps the length and the count
kept : (R : List ℕ → Type 0) → ((t : List ℕ) (i j : ℕ) → R t → R (swapped t i j)) → (hi : ℕ) (t : List ℕ) (lo : ℕ) → R t → R (reversed t lo hi)
kept R step zero t lo r = subst R (sym (reversed_done t lo zero (omega arith))) r
kept R step (suc hi) t lo r = go (kept R step hi (swapped t lo hi) (suc lo) (step t lo hi r)) (dec_lt lo (suc hi))
  where
    go : R (reversed (swapped t lo hi) (suc lo) hi) → Dec (lo < suc hi) → R (reversed t lo (suc hi))
    go more (yes h) = subst R (sym (reversed_suc t lo hi h)) more
    go more (no h) = subst R (sym (reversed_done t lo (suc hi) (omega arith))) r

length_reversed : (t : List ℕ) (lo hi : ℕ) → length (reversed t lo hi) ≡ length t
length_reversed t lo hi = kept (λ (u : List ℕ). length u ≡ length t) (λ u i j r. length_swapped u i j ∙ r) hi t lo refl

word_reversed : (t : List ℕ) (lo hi : ℕ) → get_or (reversed t lo hi) 12 0 ≡ get_or t 12 0
word_reversed t lo hi = kept (λ (u : List ℕ). get_or u 12 0 ≡ get_or t 12 0) (λ u i j r. word_swapped u i j ∙ r) hi t lo refl

pub count_reversed : (t : List ℕ) (lo hi : ℕ) → count (reversed t lo hi) ≡ count t
unfolding count
count_reversed t lo hi = ap₂ (λ (x y : ℕ). min x (y / 16 - 1)) (word_reversed t lo hi) (length_reversed t lo hi)

-- entries before lo and from hi on stay
outside : (hi : ℕ) (t : List ℕ) (lo i : ℕ) → (lo ≤ i → i < hi → ⊥) → entry_at (reversed t lo hi) i ≡ entry_at t i
outside zero t lo i out = ap (λ (u : List ℕ). entry_at u i) (reversed_done t lo zero (omega arith))
outside (suc hi) t lo i out = go (dec_lt lo (suc hi)) (outside hi (swapped t lo hi) (suc lo) i (λ p q. out (omega arith) (omega arith)))
  where
    go : Dec (lo < suc hi) → entry_at (reversed (swapped t lo hi) (suc lo) hi) i ≡ entry_at (swapped t lo hi) i → entry_at (reversed t lo (suc hi)) i ≡ entry_at t i
    go (yes h) more =
        ap (λ (u : List ℕ). entry_at u i) (reversed_suc t lo hi h) ∙ more
        ∙ swapped_other t lo hi i (λ e. out (omega arith) (omega arith)) (λ e. out (omega arith) (omega arith))
    go (no h) more = ap (λ (u : List ℕ). entry_at u i) (reversed_done t lo (suc hi) (omega arith))

-- between them entry i is the one as far from hi as i is from lo
mirrored : (hi : ℕ) (t : List ℕ) (lo i : ℕ) → hi * 16 ≤ length t - 16 → lo ≤ i → i < hi → entry_at (reversed t lo hi) i ≡ entry_at t (lo + hi - suc i)
mirrored zero t lo i room l h = absurd (omega arith)
mirrored (suc hi) t lo i room l h =
    ap (λ (u : List ℕ). entry_at u i) (reversed_suc t lo hi (omega arith))
    ∙ go (ℕ_discrete i lo) (ℕ_discrete i hi) (mirrored hi (swapped t lo hi) (suc lo) i (omega (arith, length_swapped t lo hi)))
  where
    go : Dec (i ≡ lo) → Dec (i ≡ hi)
        → (suc lo ≤ i → i < hi → entry_at (reversed (swapped t lo hi) (suc lo) hi) i ≡ entry_at (swapped t lo hi) (suc lo + hi - suc i))
        → entry_at (reversed (swapped t lo hi) (suc lo) hi) i ≡ entry_at t (lo + suc hi - suc i)
    go (yes e) d more =
        outside hi (swapped t lo hi) (suc lo) i (λ p q. omega arith)
        ∙ ap (entry_at (swapped t lo hi)) e ∙ swapped_first t lo hi (omega arith) (omega arith) ∙ ap (entry_at t) (omega arith)
    go (no d) (yes e) more =
        outside hi (swapped t lo hi) (suc lo) i (λ p q. omega arith)
        ∙ ap (entry_at (swapped t lo hi)) e ∙ swapped_second t lo hi (omega arith) ∙ ap (entry_at t) (omega arith)
    go (no d) (no e) more =
        more (omega arith) (omega arith)
        ∙ swapped_other t lo hi (suc lo + hi - suc i) (λ k. omega arith) (λ k. omega arith) ∙ ap (entry_at t) (omega arith)

get_d_reverse : (l : List ℕ) (i : ℕ) → i < length l → get_or (reverse l) i 0 ≡ get_or l (length l - suc i) 0
get_d_reverse [] i h = absurd (omega arith)
get_d_reverse (x ∷ xs) i h = ap (λ (r : List ℕ). get_or r i 0) (reverse-cons x xs) ∙ go (ℕ_discrete i (length xs)) (get_d_reverse xs i)
  where
    go : Dec (i ≡ length xs) → (i < length xs → get_or (reverse xs) i 0 ≡ get_or xs (length xs - suc i) 0)
        → get_or (reverse xs ++ (x ∷ [])) i 0 ≡ get_or (x ∷ xs) (suc (length xs) - suc i) 0
    go (yes e) more =
        let z : suc (length xs) - suc i ≡ 0 = omega arith in
        get_or_at (reverse xs) x [] 0 i (length-reverse xs ∙ sym e) ∙ rw z
    go (no d) more =
        let z : suc (length xs) - suc i ≡ suc (length xs - suc i) = omega arith in
        get_or-append (reverse xs) (x ∷ []) 0 i (omega (arith, length-reverse xs)) ∙ more (omega arith) ∙ rw z

-- the entries from s on, last first, and those before it as they were
pub queue_reversed : (t : List ℕ) (s : ℕ) → queue_of (reversed_from t s) ≡ take s (queue_of t) ++ reverse (drop s (queue_of t))
unfolding reversed_from
queue_reversed t s =
    is_queue (reversed t s (count t)) (take s (queue_of t) ++ reverse (drop s (queue_of t))) long (λ i h. at i h (dec_lt i s))
  where
    n : length (queue_of t) ≡ count t
    n = length_queue t

    long : length (take s (queue_of t) ++ reverse (drop s (queue_of t))) ≡ count (reversed t s (count t))
    long =
        length-append (take s (queue_of t)) (reverse (drop s (queue_of t)))
        ∙ omega (arith, n, count_reversed t s (count t), length-take s (queue_of t), length-reverse (drop s (queue_of t)), length-drop s (queue_of t))

    at : (i : ℕ) → i < count (reversed t s (count t)) → Dec (i < s)
        → entry_at (reversed t s (count t)) i ≡ get_or (take s (queue_of t) ++ reverse (drop s (queue_of t))) i 0
    at i h (yes l) =
        let k : i < count t = omega (arith, count_reversed t s (count t)) in
        outside (count t) t s i (λ p q. omega arith)
        ∙ sym (get_or-queue t i k) ∙ sym (get_or-take s (queue_of t) i 0 l)
        ∙ sym (get_or-append (take s (queue_of t)) (reverse (drop s (queue_of t))) 0 i (omega (arith, n, length-take s (queue_of t))))
    at i h (no l) =
        let k : i < count t = omega (arith, count_reversed t s (count t)) in
        let d : length (drop s (queue_of t)) ≡ count t - s = length-drop s (queue_of t) ∙ ap (λ (x : ℕ). x - s) n in
        let b : length (take s (queue_of t)) + (i - s) ≡ i = omega (arith, n, length-take s (queue_of t)) in
        let j : s + (length (drop s (queue_of t)) - suc (i - s)) ≡ s + count t - suc i = omega arith in
        mirrored (count t) t s i (count_room t) (omega arith) k
        ∙ sym (get_or-queue t (s + count t - suc i) (omega arith)) ∙ ap (λ (x : ℕ). get_or (queue_of t) x 0) (sym j)
        ∙ sym (get_or-drop s (queue_of t) (length (drop s (queue_of t)) - suc (i - s)) 0)
        ∙ sym (get_d_reverse (drop s (queue_of t)) (i - s) (omega arith))
        ∙ sym (get_or-append-add (take s (queue_of t)) (reverse (drop s (queue_of t))) (i - s) 0)
        ∙ ap (λ (x : ℕ). get_or (take s (queue_of t) ++ reverse (drop s (queue_of t))) x 0) b
