-- What the walks leave alone. Whatever holds over a store of a node's flags, of a queue entry and of the queue's length holds over every walk:
-- so lengths stay, and so do all columns but the flags and the queue, and row 0 but the queue's length. Assumes nothing.
use mathlib.Core.Path.{◌≡◌, refl, ◌∙◌}
use mathlib.Core.Bool.{Bool, true, false}
use mathlib.Core.List.{List}
use Prim.Native.Nat.{ℕ, zero, suc, ◌<◌, ◌/◌}
use native.Mathlib.Omega.{arith}
use lib.Bits.{bit_or}
use lib.Dec.{eqb, ltb}
use lib.ListN.{length, get_or, set, length-set}
use lib.Seq.{get_or-set_other}
use borrow.Author.Tests.{eqb-false}
use Rattle.queue.specs.Queue.{count, entry_at, pushed, swapped, reversed, reversed_from}
use Rattle.primitive.specs.Rows.{field, set_field}
use Rattle.primitive.specs.Slots.{slot_of}
use Rattle.primitive.specs.declared.slots.Slot.{Slot}
use Rattle.primitive.specs.declared.slots.Slot.TheVariants.{At, Nothing}
use Rattle.primitive.proofs.RowLaws.{length-set_field, other_field, header_kept, field_after_header}
use Rattle.primitive.specs.Words.{node_rows, link_rows}
use Rattle.marking.specs.Fields.{flags_of, set_flags, subs, sub, next_sub_of, watching, recursed_checking, pending, changed, has, lacks, has_only}
use Rattle.marking.specs.Notify.{queued, owner_of, climbed, notified}
use Rattle.marking.specs.Visits.{Visit, visit, after, stored, reached}
use Rattle.marking.specs.Visits.Visit.{Skip, Mark}
use Rattle.marking.specs.Walks.{Place, place, Rest, below, down, back, along, onward, turn, walked, propagated}
use Rattle.marking.specs.Shallow.{raised, dirtied, further, shallow_from, shallow}

module _ (R : List ℕ → List ℕ → Type 0) (same : (N : List ℕ) → R N N) (then : (A B C : List ℕ) → R A B → R B C → R A C)
    (flags : (N : List ℕ) (n f : ℕ) → R N (set_flags N n f)) (entry : (N : List ℕ) (i e : ℕ) → R N (set_field 16 N i 12 e))
    (size : (N : List ℕ) (n : ℕ) → R N (set N 12 n)) where
  -- ---- two ways, and a slot or nothing
  either : (b : Bool) (N A B : List ℕ) → R N A → R N B → R N (elim b [ true ↦ A | false ↦ B ])
  either true N A B p q = p
  either false N A B p q = q

  -- ---- the queue
  over_pushed : (N : List ℕ) (e : ℕ) → R N (pushed N e)
  unfolding pushed
  over_pushed N e =
      let M = set_field 16 N (count N) 12 e in
      either (ltb (suc (count N)) (length N / 16)) N (set M 12 (suc (count N))) N (then N M _ (entry N (count N) e) (size M (suc (count N)))) (same N)

  over_swapped : (N : List ℕ) (i j : ℕ) → R N (swapped N i j)
  unfolding swapped
  over_swapped N i j = let M = set_field 16 N i 12 (entry_at N j) in then N M _ (entry N i (entry_at N j)) (entry M j (entry_at N i))

  over_reversed : (hi : ℕ) (N : List ℕ) (lo : ℕ) → R N (reversed N lo hi)
  unfolding reversed
  over_reversed zero N lo = same N
  over_reversed (suc hi) N lo =
      let M = swapped N lo hi in
      either (ltb lo (suc hi)) N (reversed M (suc lo) hi) N (then N M _ (over_swapped N lo hi) (over_reversed hi M (suc lo))) (same N)

  -- ---- notify
  over_queued : (N : List ℕ) (e : ℕ) → R N (queued N e)
  unfolding queued
  over_queued N e = then N (set_flags N e _) _ (flags N e _) (over_pushed _ e)

  over_owner : (p : List ℕ → ℕ → List ℕ) → ((N : List ℕ) (e : ℕ) → R N (p N e)) → (L N : List ℕ) (o : Slot) → R N (owner_of p L N o)
  unfolding owner_of
  over_owner p h L N Nothing = same N
  over_owner p h L N (At s) = either (lacks (flags_of N (sub L s)) watching) N N (p N (sub L s)) (same N) (h N (sub L s))

  over_climbed : (L : List ℕ) (k : ℕ) (N : List ℕ) (e : ℕ) → R N (climbed L k N e)
  unfolding climbed
  over_climbed L zero N e = same N
  over_climbed L (suc k) N e =
      let M = queued N e in
      then N M _ (over_queued N e) (over_owner (climbed L k) (over_climbed L k) L M (slot_of (subs M e)))

  pub over_notified : (L N : List ℕ) (e : ℕ) → R N (notified L N e)
  unfolding notified reversed_from
  over_notified L N e = let M = climbed L (node_rows N) N e in then N M _ (over_climbed L (node_rows N) N e) (over_reversed (count M) M (count N))

  -- ---- propagate
  over_stored : (N : List ℕ) (n : ℕ) (v : Visit) → R N (stored N n v)
  unfolding stored
  over_stored N n Skip = same N
  over_stored N n (Mark f g) = flags N n f

  over_reached : (L N : List ℕ) (s n : ℕ) → R N (reached L N s n)
  unfolding reached
  over_reached L N s n =
      let M = stored N n (visit L N s n) in
      let h = over_stored N n (visit L N s n) in
      either (has (after (visit L N s n)) watching) N (notified L M n) M (then N M _ h (over_notified L M n)) h

  module _ (p : Rest) (h : (N : List ℕ) (w : Place) → R N (p N w)) (L : List ℕ) where
    over_back : (N A : List ℕ) (len : ℕ) → R N (back p L N A len)
    unfolding back
    over_back N A zero = same N
    over_back N A (suc n) = go (slot_of (get_or A n 0)) (over_back N A n)
      where
        go : (o : Slot) → R N (back p L N A n) → R N (elim o [ At x ↦ p N (place x (next_sub_of L x) A n) | Nothing ↦ back p L N A n ])
        go (At x) m = h N (place x (next_sub_of L x) A n)
        go Nothing m = m

    over_along : (N : List ℕ) (w : Place) (o : Slot) → R N (along p L N w o)
    unfolding along
    over_along N w (At x) = h N (place x (next_sub_of L x) w.stack w.len)
    over_along N w Nothing = over_back N w.stack w.len

    over_onward : (N : List ℕ) (w : Place) (o : Slot) → R N (onward p L N w o)
    unfolding onward
    over_onward N w (At x) = h N (down L w x)
    over_onward N w Nothing = over_along N w (slot_of w.next)

  over_walked : (L : List ℕ) (k : ℕ) (N : List ℕ) (w : Place) → R N (walked L k N w)
  unfolding walked turn
  over_walked L zero N w = same N
  over_walked L (suc k) N w =
      let n = sub L w.link in
      let M = reached L N w.link n in
      then N M _ (over_reached L N w.link n) (over_onward (walked L k) (over_walked L k) L M w (below M n (after (visit L N w.link n))))

  pub over_propagated : (L N : List ℕ) (s : ℕ) → R N (propagated L N s)
  unfolding propagated
  over_propagated L N s = over_walked L (link_rows L) N _

  -- ---- shallow_propagate
  over_dirtied : (L N : List ℕ) (n : ℕ) → R N (dirtied L N n)
  unfolding dirtied raised
  over_dirtied L N n =
      let M = set_flags N n _ in
      let h = flags N n _ in
      either (has_only (flags_of N n) changed pending) N _ N (either (has_only (flags_of N n) (bit_or watching recursed_checking) watching) N (notified L M n) M (then N M _ h (over_notified L M n)) h) (same N)

  over_further : (p : List ℕ → ℕ → List ℕ) → ((N : List ℕ) (s : ℕ) → R N (p N s)) → (N : List ℕ) (o : Slot) → R N (further p N o)
  unfolding further
  over_further p h N (At x) = h N x
  over_further p h N Nothing = same N

  over-shallow_from : (L : List ℕ) (k : ℕ) (N : List ℕ) (s : ℕ) → R N (shallow_from L k N s)
  unfolding shallow_from
  over-shallow_from L zero N s = same N
  over-shallow_from L (suc k) N s =
      let M = dirtied L N (sub L s) in
      then N M _ (over_dirtied L N (sub L s)) (over_further (shallow_from L k) (over-shallow_from L k) M (slot_of (next_sub_of L s)))

  pub over_shallow : (L N : List ℕ) (s : ℕ) → R N (shallow L N s)
  unfolding shallow
  over_shallow L N s = over-shallow_from L (link_rows L) N s

-- ---- a fact of a table that single stores keep, kept by the three
pub record Kept (F : List ℕ → ℕ) : Type 0 where
  pub flags : (N : List ℕ) (n f : ℕ) → F (set_flags N n f) ≡ F N
  pub entry : (N : List ℕ) (i e : ℕ) → F (set_field 16 N i 12 e) ≡ F N
  pub size : (N : List ℕ) (n : ℕ) → F (set N 12 n) ≡ F N

module _ (F : List ℕ → ℕ) (k : Kept F) (L N : List ℕ) (s : ℕ) where
  kept_notified : F (notified L N s) ≡ F N
  kept_notified = over_notified (λ (A B : List ℕ). F B ≡ F A) (λ A. refl) (λ A B C p q. q ∙ p) k.flags k.entry k.size L N s

  kept_propagated : F (propagated L N s) ≡ F N
  kept_propagated = over_propagated (λ (A B : List ℕ). F B ≡ F A) (λ A. refl) (λ A B C p q. q ∙ p) k.flags k.entry k.size L N s

  kept_shallow : F (shallow L N s) ≡ F N
  kept_shallow = over_shallow (λ (A B : List ℕ). F B ≡ F A) (λ A. refl) (λ A B C p q. q ∙ p) k.flags k.entry k.size L N s

-- ---- the length
long : Kept length
long =
    record {
      flags = λ N n f. length-set_field 16 N n 0 f;
      entry = λ N i e. length-set_field 16 N i 12 e;
      size = λ N n. length-set N 12 n;
    }

-- ---- a column but the flags and the queue
column : (n f : ℕ) → eqb f 0 ≡ false → eqb f 12 ≡ false → Kept (λ (N : List ℕ). field 16 N n f)
column n f a b =
    record {
      flags = λ N m g. other_field 16 N m n 0 f g a;
      entry = λ N i e. other_field 16 N i n 12 f e b;
      size = λ N m. field_after_header 16 N n f m 12 (omega arith);
    }

-- ---- a word of row 0 but the queue's length
header : (i : ℕ) → i < 16 → eqb i 12 ≡ false → Kept (λ (N : List ℕ). get_or N i 0)
header i h b =
    record {
      flags = λ N m g. header_kept 16 N m 0 g i h;
      entry = λ N j e. header_kept 16 N j 12 e i h;
      size = λ N m. get_or-set_other N 12 i m 0 (eqb-false i 12 b);
    }

module _ (L N : List ℕ) (s : ℕ) where
  pub length_notified : length (notified L N s) ≡ length N
  length_notified = kept_notified length long L N s

  pub length_propagated : length (propagated L N s) ≡ length N
  length_propagated = kept_propagated length long L N s

  pub length_shallow : length (shallow L N s) ≡ length N
  length_shallow = kept_shallow length long L N s

  module _ (n f : ℕ) (a : eqb f 0 ≡ false) (b : eqb f 12 ≡ false) where
    pub column_notified : field 16 (notified L N s) n f ≡ field 16 N n f
    column_notified = kept_notified (λ (N : List ℕ). field 16 N n f) (column n f a b) L N s

    pub column_propagated : field 16 (propagated L N s) n f ≡ field 16 N n f
    column_propagated = kept_propagated (λ (N : List ℕ). field 16 N n f) (column n f a b) L N s

    pub column_shallow : field 16 (shallow L N s) n f ≡ field 16 N n f
    column_shallow = kept_shallow (λ (N : List ℕ). field 16 N n f) (column n f a b) L N s

  module _ (i : ℕ) (h : i < 16) (b : eqb i 12 ≡ false) where
    pub header_notified : get_or (notified L N s) i 0 ≡ get_or N i 0
    header_notified = kept_notified (λ (N : List ℕ). get_or N i 0) (header i h b) L N s

    pub header_propagated : get_or (propagated L N s) i 0 ≡ get_or N i 0
    header_propagated = kept_propagated (λ (N : List ℕ). get_or N i 0) (header i h b) L N s

    pub header_shallow : get_or (shallow L N s) i 0 ≡ get_or N i 0
    header_shallow = kept_shallow (λ (N : List ℕ). get_or N i 0) (header i h b) L N s
