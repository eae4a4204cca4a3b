-- Emptied tables represent the empty state of their room, and so the test passes them. Assumes nothing.
use mathlib.Core.Path.{◌≡◌, refl, sym, ap, ◌∙◌, subst}
use mathlib.Core.Logic.{◌⊎◌, inl, inr}
use mathlib.Core.Bool.{Bool, true, false}
use mathlib.Core.List.{List, [], ◌∷◌}
use Prim.Native.Nat.{ℕ, zero, suc, ◌+◌, ◌*◌, ◌%◌, ◌≤◌, ◌<◌}
use native.Mathlib.Decide.{ℕ_discrete, dec_lt}
use native.Mathlib.Omega.{arith}
use lib.Dec.{eqb}
use lib.IntN.{ℤ, pos}
use lib.ListN.{length, get_or, set, length-set, get_or-eq_default}
use lib.Seq.{get_or-set_same, get_or-set_other}
use Rattle.flags.specs.Flags.{bit as bit_at, named}
use Rattle.primitive.specs.Rows.{has_field, field}
use Rattle.values.specs.Values.{value, value_at}
use Rattle.primitive.specs.Words.{NODE, LINK, COUNT, USED, DEPTH, QUEUE, FREE, CYCLE, FLAGS, KIND, GONE, OWNER, LEVEL, VERSION, DEP, SUB, LIVE, NEXT-DEP, node, link, set_link}
use Rattle.primitive.proofs.RowLaws.{length-set_field, header_kept, field_after_header, same_field, other_field, other_record}
use Rattle.counting.specs.Counts.{slot_room, carry_in}
use Rattle.counting.proofs.Capacities.{carried}
use Rattle.linking.specs.Free.{is_live_slot}
use Rattle.reading.specs.Tables.{current_of, pending_of, cycle_of}
use Rattle.operating.specs.Emptying.{Emptied, zeroed, blank, freed, emptying}
use Rattle.operating.proofs.EmptyLaws.{empty_done}
use Rattle.meaning.specs.State.{below, empty}
use Rattle.meaning.specs.WellFormed.{In}
use Rattle.meaning.proofs.Emptied.{empty_well_formed}
use Rattle.refusing.specs.Sight.{kind_of, room_in}
use Rattle.commanding.specs.Tables.{well_formed_in}
use Rattle.structure.specs.Chains.{Chain}
use Rattle.structure.specs.Rep.{free_at, Lengths, Rep}
use Rattle.structure.proofs.ChainLaws.{chain_move}
use Rattle.structure.proofs.WordLaws.{zero_mark, queue_nil}
use Rattle.structure.proofs.Represents.{room_fits}
use Rattle.structure.proofs.Exact.{represented_accepted}

-- ---- tables of one word
module _ {ℓ} {A : Type ℓ} (z : A) where
  set_at : (t : List A) (k : ℕ) → get_or (set t k z) k z ≡ z
  set_at t k = go (dec_lt k (length t))
    where
      go : Dec (k < length t) → get_or (set t k z) k z ≡ z
      go (yes h) = get_or-set_same t k z z h
      go (no h) = get_or-eq_default (set t k z) z {n = k} (omega (arith, length-set t k z))

  set_keeps : (t : List A) (k i : ℕ) → get_or t i z ≡ z → get_or (set t k z) i z ≡ z
  set_keeps t k i e = go (ℕ_discrete i k)
    where
      go : Dec (i ≡ k) → get_or (set t k z) i z ≡ z
      go (yes q) = subst (λ (m : ℕ). get_or (set t k z) m z ≡ z) (sym q) (set_at t k)
      go (no f) = get_or-set_other t k i z z f ∙ e

  zeroed_at : (k : ℕ) (t : List A) (i : ℕ) → (i < k) ⊎ (get_or t i z ≡ z) → get_or (zeroed z t k) i z ≡ z
  unfolding zeroed
  zeroed_at zero t i (inl h) = absurd (omega arith)
  zeroed_at zero t i (inr e) = e
  zeroed_at (suc k) t i (inl h) = zeroed_at k (set t k z) i (go (ℕ_discrete i k))
    where
      go : Dec (i ≡ k) → (i < k) ⊎ (get_or (set t k z) i z ≡ z)
      go (yes q) = inr (subst (λ (m : ℕ). get_or (set t k z) m z ≡ z) (sym q) (set_at t k))
      go (no f) = inl (omega arith)
  zeroed_at (suc k) t i (inr e) = zeroed_at k (set t k z) i (inr (set_keeps t k i e))

  blank_at : (t : List A) (i : ℕ) → get_or (blank z t) i z ≡ z
  blank_at t i = zeroed_at (length t) t i (go (dec_lt i (length t)))
    where
      go : Dec (i < length t) → (i < length t) ⊎ (get_or t i z ≡ z)
      go (yes h) = inl h
      go (no h) = inr (get_or-eq_default t z {n = i} (omega arith))

  zeroed_long : (k : ℕ) (t : List A) → length (zeroed z t k) ≡ length t
  unfolding zeroed
  zeroed_long zero t = refl
  zeroed_long (suc k) t = zeroed_long k (set t k z) ∙ length-set t k z

blank_field : (w : ℕ) (t : List ℕ) (n f : ℕ) → field w (blank 0 t) n f ≡ 0
unfolding field
blank_field w t n f = go (has_field w f)
  where
    go : (b : Bool) → ◌≡◌ {A = ℕ} (elim b [ true ↦ get_or (blank 0 t) (suc n * w + f) 0 | false ↦ 0 ]) 0
    go true = blank_at 0 t (suc n * w + f)
    go false = refl

-- ---- the free list
-- one slot more
put : List ℕ → ℕ → List ℕ
put l k = set (set_link l k NEXT-DEP (get_or l FREE 0)) FREE (suc k)

put_long : (l : List ℕ) (k : ℕ) → length (put l k) ≡ length l
unfolding put
put_long l k = length-set (set_link l k NEXT-DEP (get_or l FREE 0)) FREE (suc k) ∙ length-set_field LINK l k NEXT-DEP (get_or l FREE 0)

put_field : (l : List ℕ) (k x f : ℕ) → eqb f NEXT-DEP ≡ false → link (put l k) x f ≡ link l x f
unfolding put
put_field l k x f e = field_after_header LINK (set_link l k NEXT-DEP (get_or l FREE 0)) x f (suc k) FREE (omega arith) ∙ other_field LINK l k x NEXT-DEP f (get_or l FREE 0) e

put_cycle : (l : List ℕ) (k : ℕ) → get_or (put l k) CYCLE 0 ≡ get_or l CYCLE 0
unfolding put
put_cycle l k =
    get_or-set_other (set_link l k NEXT-DEP (get_or l FREE 0)) FREE CYCLE (suc k) 0 (λ e. omega arith)
    ∙ header_kept LINK l k NEXT-DEP (get_or l FREE 0) CYCLE (omega arith)

-- it is the first, before those that were there
put_free : (l : List ℕ) (k : ℕ) (xs : List ℕ) → suc (suc k) * LINK ≤ length l → ((x : ℕ) → In x xs → k < x) → Chain (free_at l) 0 xs → Chain (free_at (put l k)) 0 (k ∷ xs)
unfolding put free_at has_field
put_free l k xs h low c =
    let m = set_link l k NEXT-DEP (get_or l FREE 0) in
    let e : length m ≡ length l = length-set_field LINK l k NEXT-DEP (get_or l FREE 0) in (
      get_or-set_same m FREE (suc k) 0 (omega arith),
      chain_move (free_at l) (free_at (put l k)) 0 (suc k) xs
          (field_after_header LINK m k NEXT-DEP (suc k) FREE (omega arith) ∙ same_field LINK l k NEXT-DEP (get_or l FREE 0) refl (omega arith))
          (λ x i. let b = low x i in field_after_header LINK m x NEXT-DEP (suc k) FREE (omega arith) ∙ other_record LINK l k x NEXT-DEP NEXT-DEP (get_or l FREE 0) (λ q. omega arith)) c,
    )

freed_long : (k : ℕ) (l : List ℕ) → length (freed l k) ≡ length l
unfolding freed put
freed_long zero l = refl
freed_long (suc k) l = freed_long k (put l k) ∙ put_long l k

freed_field : (k : ℕ) (l : List ℕ) (x f : ℕ) → eqb f NEXT-DEP ≡ false → link (freed l k) x f ≡ link l x f
unfolding freed put
freed_field zero l x f e = refl
freed_field (suc k) l x f e = freed_field k (put l k) x f e ∙ put_field l k x f e

freed_cycle : (k : ℕ) (l : List ℕ) → get_or (freed l k) CYCLE 0 ≡ get_or l CYCLE 0
unfolding freed put
freed_cycle zero l = refl
freed_cycle (suc k) l = freed_cycle k (put l k) ∙ put_cycle l k

freed_free : (k : ℕ) (l xs : List ℕ) → suc k * LINK ≤ length l → ((x : ℕ) → In x xs → k ≤ x) → Chain (free_at l) 0 xs → Chain (free_at (freed l k)) 0 (below k xs)
unfolding freed put below
freed_free zero l xs h low c = c
freed_free (suc k) l xs h low c =
    let e = put_long l k in
    freed_free k (put l k) (k ∷ xs) (omega arith) above (put_free l k xs h (λ x i. let b = low x i in omega arith) c)
  where
    above : (x : ℕ) → In x (k ∷ xs) → k ≤ x
    above x (inl e) = omega arith
    above x (inr i) = let b = low x i in omega arith

-- ---- all of them
module _ (n l : List ℕ) (v c : List ℤ) (carry : carry_in n l v c ≡ true) where
  abbrev N : List ℕ
  N = blank 0 n

  abbrev L : List ℕ
  L = freed (blank 0 l) (slot_room l)

  abbrev W : List ℤ
  W = blank (pos 0) v

  abbrev C : List ℤ
  C = blank (pos 0) c

  slot_word : (x f : ℕ) → eqb f NEXT-DEP ≡ false → link L x f ≡ 0
  slot_word x f e = freed_field (slot_room l) (blank 0 l) x f e ∙ blank_field LINK l x f

  free_list : Chain (free_at L) 0 (below (slot_room l) [])
  unfolding free_at
  free_list =
      let a = (carried n l v c carry).link_rows_lem in
      let b = zeroed_long 0 (length l) l in
      freed_free (slot_room l) (blank 0 l) [] (omega arith) (λ x i. absurd i) (blank_at 0 l FREE)

  lengths : Lengths N L W C (room_in n l c)
  lengths =
      let s = carried n l v c carry in
      record {
        of_nodes = zeroed_long 0 (length n) n ∙ s.node_rows_lem;
        of_links = freed_long (slot_room l) (blank 0 l) ∙ zeroed_long 0 (length l) l ∙ s.link_rows_lem;
        of_values = zeroed_long (pos 0) (length v) v ∙ s.value_words_lem;
        of_cells = zeroed_long (pos 0) (length c) c ∙ s.cells_long;
      }

  blank_rep : Rep N L W C (empty (room_in n l c))
  unfolding empty kind_of named bit_at is_live_slot current_of pending_of value_at cycle_of
  blank_rep = record {
    lengths = lengths;
    registers = record { count = blank_at 0 n COUNT; used = blank_at 0 n USED; depth = blank_at 0 n DEPTH; cycle = freed_cycle (slot_room l) (blank 0 l) ∙ blank_at 0 l CYCLE };
    kinds = record {
      kind = λ m. ap kind_of (blank_field NODE n m KIND);
      gone = λ m. zero_mark (node N m GONE) (blank_field NODE n m GONE);
      owner = λ m. blank_field NODE n m OWNER;
      level = λ m. blank_field NODE n m LEVEL;
      kind_word_lem = λ m h. absurd (omega arith);
      gone_word = λ m h. absurd (omega arith);
    };
    flags = record { flags = λ m. ap (λ (f : ℕ). named (f % 256)) (blank_field NODE n m FLAGS); flag_word = λ m h. absurd (omega arith) };
    values = record { current = λ m. ap value (blank_at (pos 0) v _); pending = λ m. ap value (blank_at (pos 0) v _) };
    forms = record { spelt = λ m h e. absurd (omega arith); without = λ m h e. absurd (omega arith); past = λ m h. refl };
    slots = record {
      live = λ x. zero_mark (link L x LIVE) (slot_word x LIVE refl);
      dep = λ x. slot_word x DEP refl;
      sub = λ x. slot_word x SUB refl;
      ver = λ x. slot_word x VERSION refl;
    };
    deps = record { next = λ m h. absurd (omega arith); prev = λ m h. absurd (omega arith); tail = λ m h. absurd (omega arith) };
    subs = record { next = λ m h. absurd (omega arith); prev = λ m h. absurd (omega arith); tail = λ m h. absurd (omega arith) };
    free = free_list;
    queue = record { entries = queue_nil N (blank_at 0 n QUEUE); waiting = blank_at 0 n QUEUE };
  }

  abbrev after : Emptied
  after = emptying n l v c

  -- what `empty` leaves is the empty state of document 01
  pub emptied_represents : Rep after.nodes after.links after.values after.cells (empty (room_in n l c))
  emptied_represents = subst (λ (e : Emptied). Rep e.nodes e.links e.values e.cells (empty (room_in n l c))) (empty_done n l v c carry) blank_rep

  pub emptied_accepted : well_formed_in after.nodes after.links after.values after.cells ≡ true
  emptied_accepted =
      represented_accepted after.nodes after.links after.values after.cells (empty (room_in n l c)) emptied_represents
      (empty_well_formed (room_in n l c) (room_fits n l v c carry))
