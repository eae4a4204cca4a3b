-- Propagate over words, with its stack of words, is propagate over lists. For any turns and any stack that are enough. Assumes nothing.
use Rattle.std.specs.Prelude.{Option}
use mathlib.Core.Path.{◌≡◌, refl, sym, ap, ◌∙◌, subst}
use mathlib.Core.Bool.{Bool, true, false, not}
use mathlib.Core.Logic.{◌⊎◌, inl, inr}
use mathlib.Core.List.{List, [], ◌∷◌, ◌++◌, reverse}
use Prim.Native.Nat.{ℕ, zero, suc, ◌+◌, ◌<◌, ◌≤◌}
use native.Mathlib.Omega.{arith}
use lib.Bits.{bit_or}
use lib.IntN.{ℤ}
use lib.ListN.{length, get_or, set, replicate, length-append, length-set, length-replicate, length-reverse}
use lib.Seq.{get_or-set_same}
use Rattle.flags.specs.declared.Named.{Named}
use Rattle.primitive.specs.declared.slots.Slot.TheVariants.{At, Nothing}
use Rattle.primitive.specs.Slots.{slot_of}
use Rattle.stack.specs.Stack.{pushed, pushed_len}
use Rattle.primitive.specs.Words.{SUB, link, link_rows}
use Rattle.stack.proofs.StackLaws.{len_room, below_kept}
use Rattle.linking.specs.Table.{Tab, tab}
use Rattle.marking.specs.Fields.{flags_of, set_flags, subs, next_sub_of, mutable, watching, pending, busy, changed, has, lacks}
use Rattle.marking.specs.Notify.{notified}
use Rattle.marking.specs.Valid.{valid_link}
use Rattle.marking.specs.Visits.{Visit, visit, after, stored, reached}
use Rattle.marking.specs.Visits.Visit.{Skip, Mark}
use Rattle.marking.specs.Walks.{Place, place, Rest, below, down, back, along, onward, turn, walked, propagated}
use Rattle.marking.proofs.AtRest.{visit_at_rest}
use Rattle.marking.proofs.Kept.{length_propagated, column_propagated, header_propagated}
use Rattle.meaning.specs.State.{St, Kind, signal, computed, effect, scope, up, readable, unclean, recursing, with_pending, f1, f17}
use Rattle.meaning.specs.Links.{several}
use Rattle.meaning.specs.Marks.{Marks, marks, marks_of, with_marks, halt, chain, calm, notify, mark, prop, stack_full, turns, propagate}
use Rattle.meaning.specs.Played.{byte}
use Rattle.meaning.specs.Reserve.{total}
use Rattle.meaning.specs.WellFormed.{In, ComputedFlags, never, clean, stale, maybe, dirty}
use Rattle.meaning.proofs.Laws.{clash, either, branch, or_true, in_cases}
use Rattle.meaning.proofs.Members.{most_below, total_spare, gather, gather_length, gather_once, gather_in, nil_none}
use Rattle.meaning.proofs.Still.{Given}
use Rattle.meaning.proofs.Inside.{nobody, Static, Inside, moves_read}
use Rattle.meaning.proofs.Marking.{stuck_inside, no_recursing, mark_inside}
use Rattle.meaning.proofs.Walking.{unless, unless_most, total_ones, clean_sum, falls, propagate_inside}
use Rattle.structure.specs.Chains.{first_word}
use Rattle.structure.proofs.Held.{Shows}
use Rattle.structure.proofs.Link.{both_ways}
use Rattle.structure.proofs.FlagBytes.{byte_low, lacks_busy, lacks_changed, has_watching, has_mutable, or_pending}
use Rattle.structure.proofs.Marked.{Marked, Along, subs_along, flag_is, mark_flag, shows_marked, marked_shows}
use Rattle.structure.proofs.Notify.{Lives, notify_sim}

-- ---- the words put aside, the last first, are the lists put aside
abbrev Aside : List ℕ → List ℕ → ℕ → List (List ℕ) → Type 0
Aside L A len [] = len ≡ 0
Aside L A len (w ∷ st) = (n : ℕ) × (len ≡ suc n) × (get_or A n 0 ≡ first_word w) × Along L w × Aside L A n st

aside_long : (L A : List ℕ) (len : ℕ) (st : List (List ℕ)) → Aside L A len st → len ≡ length st
aside_long L A len [] a = a
aside_long L A len (w ∷ st) a = a.1 ∙ ap suc (aside_long L A a.0 st a.4)

aside_frame : (L A B : List ℕ) (len : ℕ) (st : List (List ℕ)) → ((i : ℕ) → i < len → get_or B i 0 ≡ get_or A i 0) → Aside L A len st → Aside L B len st
aside_frame L A B len [] h a = a
aside_frame L A B len (w ∷ st) h a =
    let e = a.1 in
    (a.0, a.1, h a.0 (omega arith) ∙ a.2, a.3, aside_frame L A B a.0 st (λ i k. h i (omega arith)) a.4)

-- the node table against a state with other marks
into : (s : St) (m : Marks) {N : List ℕ} {f : ℕ → Named} {q : List ℕ} → Marked [] N s f q → Marked [] N (with_marks s m) f q
into s m k = record { flags = k.flags; queue = k.queue; heads = k.heads; long = k.long }

from : (s : St) (m : Marks) {N : List ℕ} {f : ℕ → Named} {q : List ℕ} → Marked [] N (with_marks s m) f q → Marked [] N s f q
from s m k = record { flags = k.flags; queue = k.queue; heads = k.heads; long = k.long }

-- links that are still to visit
abbrev lengths : List (List ℕ) → ℕ
lengths [] = 0
lengths (w ∷ st) = length w + lengths st

module _ (g : Given) (st : Static g) (L : List ℕ) (s : St) (subs-are : (x : ℕ) → link L x SUB ≡ s.sub x) (alongs : (d : ℕ) → d < s.size → Along L (s.subs d)) where
  -- a live read link
  abbrev Ok : ℕ → Type 0
  Ok l = (s.live l ≡ true) × (readable (g.kind (s.dep l)) ≡ true)

  abbrev AllOk : List (List ℕ) → Type 0
  AllOk [] = Unit {0}
  AllOk (w ∷ ws) = ((l : ℕ) → In l w → Ok l) × AllOk ws

  abbrev sum : (ℕ → Named) → ℕ
  sum f = clean_sum f (λ n. length (s.subs n)) g.size

  abbrev left : (ℕ → Named) → ℕ
  left f = clean_sum f (λ n. 1) g.size

  -- ---- one mark
  module _ (N : List ℕ) (m : Marks) (i : Inside g nobody (with_marks s m)) (k : Marked [] N s m.fl m.queue) (l : ℕ) (ok : Ok l) (calm-now : unclean (m.fl (s.sub l)) ≡ false) where
    abbrev u : ℕ
    u = s.sub l

    u_low : u < g.size
    u_low = (i.lists.inside l ok.0).1

    u_low' : u < s.size
    u_low' = subst (λ (z : Given). u < z.size) (sym i.same) u_low

    fit : s.size ≤ s.room.nodes
    fit = subst (λ (z : Given). z.size ≤ z.room.nodes) (sym i.same) st.nodes_fit

    abbrev m₁ : Marks
    m₁ = marks (up m.fl u (with_pending (m.fl u) true)) m.queue m.stuck

    after_mark : Inside g nobody (with_marks s (mark s m u))
    unfolding mark notify
    after_mark = (mark_inside g st (with_marks s m) i l ok.0 ok.1 calm-now).inside

    u_alive : s.gone u ≡ false
    u_alive = either (s.gone u) (λ a. absurd (None a)) (λ a. a)
      where
        None : s.gone u ≡ true → ⊥
        None a =
            let r = i.rests u u_low (λ z. z) in
            in_cases l (s.done u) (s.rest u) (i.lists.live_in_deps l ok.0) (λ z. nil_none (s.done u) l (r.bare a).0 z) (λ z. nil_none (s.rest u) l r.tail z)

    abbrev M₁ : List ℕ
    M₁ = set_flags N u (bit_or (flags_of N u) pending)

    k₁ : Marked [] M₁ s m₁.fl m.queue
    k₁ = mark_flag [] N s m.fl m.queue k u (bit_or (flags_of N u) pending) (with_pending (m.fl u) true) u_low' fit (ap (λ (z : ℕ). bit_or z pending) (flag_is [] N s m.fl m.queue k u u_low') ∙ or_pending (m.fl u))

    watched : (m.fl u).watching ≡ true → Lives g st L (with_marks s m) i subs-are m₁.fl u
    watched w = record {
      low = u_low;
      owns = either (readable (g.kind u)) (λ q. clash w (reads_sleep q)) (λ q. q);
      alive = u_alive;
    }
      where
        of_signal : (m.fl u ≡ f1) ⊎ (m.fl u ≡ f17) → (m.fl u).watching ≡ false
        of_signal (inl e) = ap (λ (z : Named). z.watching) e
        of_signal (inr e) = ap (λ (z : Named). z.watching) e

        of_computed : ComputedFlags (m.fl u) (s.done u) (s.subs u) → (m.fl u).watching ≡ false
        of_computed (never e x y) = ap (λ (z : Named). z.watching) e
        of_computed (clean e) = ap (λ (z : Named). z.watching) e
        of_computed (stale e x) = ap (λ (z : Named). z.watching) e
        of_computed (maybe e x) = ap (λ (z : Named). z.watching) e
        of_computed (dirty e x) = ap (λ (z : Named). z.watching) e

        go : (d : Kind) → g.kind u ≡ d → readable (g.kind u) ≡ true → (m.fl u).watching ≡ false
        go signal e q = of_signal ((i.rests u u_low (λ z. z)).of_signal e)
        go computed e q = of_computed ((i.rests u u_low (λ z. z)).of_computed e)
        go effect e q = clash q (ap readable e)
        go scope e q = clash q (ap readable e)

        reads_sleep : readable (g.kind u) ≡ true → (m.fl u).watching ≡ false
        reads_sleep q = go (g.kind u) refl q

    abbrev c : List ℕ
    c = chain s.room.nodes s.owner m₁.fl u

    -- the queue has room for all of them
    room : (m.fl u).watching ≡ true → length m.queue + length c ≤ s.room.nodes
    unfolding mark notify
    room w =
        let by : Bool → Marks = λ b. elim b [ true ↦ notify s m₁ u | false ↦ m₁ ] in
        let e : (mark s m u).queue ≡ m.queue ++ reverse c = ap (λ (b : Bool). (by b).queue) w in
        let a = most_below g.size (mark s m u).queue after_mark.once (λ n j. (after_mark.effects n j).0) in
        let b = ap length e ∙ length-append m.queue (reverse c) in
        let d = length-reverse c in
        let f = fit in
        let z : s.size ≡ g.size = ap (λ (z : Given). z.size) i.same in
        omega arith

    mark_sim : Marked [] (elim (has (flags_of N u) watching) [ true ↦ notified L M₁ u | false ↦ M₁ ]) s (mark s m u).fl (mark s m u).queue
    unfolding mark notify
    mark_sim = both_ways (λ (x : List ℕ) (y : Marks). Marked [] x s y.fl y.queue) (has (flags_of N u) watching) (m.fl u).watching (ap (λ (z : ℕ). has z watching) (flag_is [] N s m.fl m.queue k u u_low') ∙ has_watching (m.fl u))
        (λ w. wakes w (room w))
        (λ w. k₁)
      where
        owner_is_word : g.owner ≡ s.owner
        owner_is_word = sym (ap (λ (z : Given). z.owner) i.same)

        wakes : (m.fl u).watching ≡ true → length m.queue + length c ≤ s.room.nodes → Marked [] (notified L M₁ u) s (calm c m₁.fl) (m.queue ++ reverse c)
        wakes w rm =
            subst (λ (o : ℕ → Option ℕ). length m.queue + length (chain s.room.nodes o m₁.fl u) ≤ s.room.nodes
            → Marked [] (notified L M₁ u) s (calm (chain s.room.nodes o m₁.fl u) m₁.fl) (m.queue ++ reverse (chain s.room.nodes o m₁.fl u))) owner_is_word
            (λ r. from s m (notify_sim g st L (with_marks s m) i subs-are m₁.fl M₁ m.queue u (watched w) (into s m k₁) r)) rm

  -- ---- the walk
  abbrev Sum : List ℕ → List (List ℕ) → (ℕ → Named) → ℕ
  Sum w ws f = length w + lengths ws + sum f

  -- from the slot l on, with w to come next
  abbrev FromSlot : ℕ → Type 0
  FromSlot k = (N : List ℕ) (m : Marks) (l : ℕ) (w : List ℕ) (ws : List (List ℕ)) (A : List ℕ) (len j : ℕ) → Inside g nobody (with_marks s m) → Marked [] N s m.fl m.queue
      → ((x : ℕ) → In x (l ∷ w) → Ok x) → AllOk ws → Along L w → Aside L A len ws → s.room.nodes ≤ length A → suc (Sum w ws m.fl) ≤ j → length ws + left m.fl ≤ g.size
      → (prop s k m (l ∷ w) ws).stuck ≡ false → Marked [] (walked L j N (place l (first_word w) A len)) s (prop s k m (l ∷ w) ws).fl (prop s k m (l ∷ w) ws).queue

  -- along the list w, or back
  abbrev FromList : ℕ → Type 0
  FromList k = (N : List ℕ) (m : Marks) (w : List ℕ) (ws : List (List ℕ)) (A : List ℕ) (a b len j : ℕ) → Inside g nobody (with_marks s m) → Marked [] N s m.fl m.queue
      → ((x : ℕ) → In x w → Ok x) → AllOk ws → Along L w → Aside L A len ws → s.room.nodes ≤ length A → Sum w ws m.fl ≤ j → length ws + left m.fl ≤ g.size
      → (prop s k m w ws).stuck ≡ false → Marked [] (along (walked L j) L N (place a b A len) (slot_of (first_word w))) s (prop s k m w ws).fl (prop s k m w ws).queue

  list_step : (k : ℕ) → FromSlot (suc k) → FromList k → FromList (suc k)
  unfolding prop along back
  list_step k slot list N m [] [] A a b len j i mk ok oks al sd long sum low stuck =
      subst (λ (z : ℕ). Marked [] (back (walked L j) L N A z) s m.fl m.queue) (sym sd) mk
  list_step k slot list N m [] (w ∷ ws) A a b len j i mk ok oks al sd long sum low stuck =
      subst (λ (z : ℕ). Marked [] (back (walked L j) L N A z) s (prop s k m w ws).fl (prop s k m w ws).queue) (sym sd.1)
      (pop w sd.2 (list N m w ws A a b sd.0 j i mk oks.0 oks.1 sd.3 sd.4 long (omega arith) (omega arith) stuck))
    where
      pop : (w : List ℕ) → get_or A sd.0 0 ≡ first_word w → Marked [] (along (walked L j) L N (place a b A sd.0) (slot_of (first_word w))) s (prop s k m w ws).fl (prop s k m w ws).queue
          → Marked [] (back (walked L j) L N A (suc sd.0)) s (prop s k m w ws).fl (prop s k m w ws).queue
      pop [] e h = subst (λ (z : ℕ). Marked [] (elim (slot_of z) [ At x ↦ walked L j N (place x (next_sub_of L x) A sd.0) | Nothing ↦ back (walked L j) L N A sd.0 ]) s (prop s k m [] ws).fl (prop s k m [] ws).queue) (sym e) h
      pop (x ∷ w) e h = subst (λ (z : ℕ). Marked [] (elim (slot_of z) [ At x ↦ walked L j N (place x (next_sub_of L x) A sd.0) | Nothing ↦ back (walked L j) L N A sd.0 ]) s (prop s k m (x ∷ w) ws).fl (prop s k m (x ∷ w) ws).queue) (sym e) h
  list_step k slot list N m (l ∷ w) ws A a b len j i mk ok oks al sd long sum low stuck =
      subst (λ (z : ℕ). Marked [] (walked L j N (place l z A len)) s (prop s (suc k) m (l ∷ w) ws).fl (prop s (suc k) m (l ∷ w) ws).queue) (sym al.0)
      (slot N m l w ws A len j i mk ok oks al.1 sd long (omega arith) low stuck)

  -- ---- one turn
  module _ (k : ℕ) (slot : FromSlot k) (list : FromList k) (N : List ℕ) (m : Marks) (l : ℕ) (w : List ℕ) (ws : List (List ℕ)) (A : List ℕ) (len j : ℕ)
      (i : Inside g nobody (with_marks s m)) (mk : Marked [] N s m.fl m.queue) (ok : (x : ℕ) → In x (l ∷ w) → Ok x) (oks : AllOk ws) (al : Along L w) (sd : Aside L A len ws) (long : s.room.nodes ≤ length A)
      (enough : Sum w ws m.fl ≤ j) (deep : length ws + left m.fl ≤ g.size) where
    abbrev v : ℕ
    v = s.sub l

    abbrev p : Rest
    p = walked L j

    abbrev pl : Place
    pl = place l (first_word w) A len

    abbrev f : ℕ
    f = flags_of N v

    v_low : v < g.size
    v_low = (i.lists.inside l (ok l (inl refl)).0).1

    v_low' : v < s.size
    v_low' = subst (λ (z : Given). v < z.size) (sym i.same) v_low

    f_is : f ≡ byte (m.fl v)
    f_is = flag_is [] N s m.fl m.queue mk v v_low'

    calm_node : recursing (m.fl v) ≡ false
    calm_node = no_recursing g (with_marks s m) v (i.rests v v_low (λ z. z))

    visit_is : visit L N l v ≡ elim (lacks f changed) [ true ↦ Mark (bit_or f pending) f | false ↦ Skip ]
    unfolding visit
    visit_is =
        visit_at_rest f (valid_link L N l v) (subst (λ (z : ℕ). z < 256) (sym f_is) (byte_low (m.fl v)))
        (ap (λ (z : ℕ). lacks z busy) f_is ∙ lacks_busy (m.fl v) ∙ ap not calm_node)

    changed_is : lacks f changed ≡ not (unclean (m.fl v))
    changed_is = ap (λ (z : ℕ). lacks z changed) f_is ∙ lacks_changed (m.fl v)

    -- a turn by what the visit says
    abbrev reach : Visit → List ℕ
    reach x = elim (has (after x) watching) [ true ↦ notified L (stored N v x) v | false ↦ stored N v x ]

    turn_by : (x : Visit) → visit L N l v ≡ x → turn p L N pl v ≡ onward p L (reach x) pl (below (reach x) v (after x))
    unfolding turn reached
    turn_by x e = ap (λ (y : Visit). onward p L (reach y) pl (below (reach y) v (after y))) e

    skip_is : unclean (m.fl v) ≡ true → turn p L N pl v ≡ along p L N pl (slot_of (first_word w))
    unfolding after stored has below onward
    skip_is d = turn_by Skip (visit_is ∙ ap (λ (b : Bool). elim b [ true ↦ Mark (bit_or f pending) f | false ↦ Skip ]) (changed_is ∙ ap not d))

    abbrev M : List ℕ
    M = elim (has f watching) [ true ↦ notified L (set_flags N v (bit_or f pending)) v | false ↦ set_flags N v (bit_or f pending) ]

    mark_is : unclean (m.fl v) ≡ false → turn p L N pl v ≡ onward p L M pl (below M v f)
    unfolding after stored
    mark_is d = turn_by (Mark (bit_or f pending) f) (visit_is ∙ ap (λ (b : Bool). elim b [ true ↦ Mark (bit_or f pending) f | false ↦ Skip ]) (changed_is ∙ ap not d))

    mutable_is : has f mutable ≡ (m.fl v).mutable
    mutable_is = ap (λ (z : ℕ). has z mutable) f_is ∙ has_mutable (m.fl v)

    module _ (d : unclean (m.fl v) ≡ false) where
      abbrev m' : Marks
      m' = mark s m v

      mk' : Marked [] M s m'.fl m'.queue
      mk' = mark_sim N m i mk l (ok l (inl refl)) d

      i' : Inside g nobody (with_marks s m')
      i' = after_mark N m i mk l (ok l (inl refl)) d

      fewer : sum m'.fl + length (s.subs v) ≤ sum m.fl
      fewer = falls s m v g.size (λ n. length (s.subs n)) v_low d

      one_less : left m'.fl + 1 ≤ left m.fl
      one_less = falls s m v g.size (λ n. 1) v_low d

      flat : (prop s k m' w ws).stuck ≡ false → Marked [] (along p L M pl (slot_of (first_word w))) s (prop s k m' w ws).fl (prop s k m' w ws).queue
      flat q =
          let a = fewer in
          let b = one_less in
          list M m' w ws A l (first_word w) len j i' mk' (λ x y. ok x (inr y)) oks al sd long (omega arith) (omega arith) q

      module _ (mu : (m.fl v).mutable ≡ true) where
        reads : readable (g.kind v) ≡ true
        reads = moves_read g m.queue s.dep s.sub v _ _ _ _ _ (i.rests v v_low (λ z. z)) mu

        oku : (x : ℕ) → In x (s.subs v) → Ok x
        oku x y = let z = i.lists.subs_live x v y in (z.0, ap (λ (n : ℕ). readable (g.kind n)) z.1 ∙ reads)

        abbrev R : List ℕ → Marks
        R ds = elim (several ds) [ true ↦ prop s k (halt m' (stack_full s ws)) ds (w ∷ ws) | false ↦ prop s k m' (ds ++ w) ws ]

        stacked : len < length A
        stacked =
            let a = aside_long L A len ws sd in
            let b = one_less in
            let c = st.nodes_fit in
            let e : s.room.nodes ≡ g.room.nodes = ap (λ (z : Given). z.room.nodes) i.same in
            omega arith

        descend : (ds : List ℕ) → s.subs v ≡ ds → (R ds).stuck ≡ false → Marked [] (onward p L M pl (slot_of (first_word ds))) s (R ds).fl (R ds).queue
        unfolding onward down
        descend [] e q = flat q
        descend (x ∷ []) e q =
            let z : next_sub_of L x ≡ 0 = (subst (Along L) e (alongs v v_low')).0 in
            let a = fewer in
            let b = one_less in
            let n = ap length e in
            subst (λ (y : ℕ). Marked [] (p M (elim (slot_of y) [ At n ↦ place x (next_sub_of L x) (pushed A len (first_word w)) (pushed_len A len) | Nothing ↦ place x (first_word w) A len ])) s (prop s k m' (x ∷ w) ws).fl (prop s k m' (x ∷ w) ws).queue) (sym z)
            (slot M m' x w ws A len j i' mk' (first e) oks al sd long (omega arith) (omega arith) q)
          where
            first : s.subs v ≡ x ∷ [] → (y : ℕ) → In y (x ∷ w) → Ok y
            first e y (inl o) = oku y (subst (In y) (sym e) (inl o))
            first e y (inr o) = ok y (inr o)
        descend (x ∷ y ∷ ds) e q =
            let z : next_sub_of L x ≡ suc y = (subst (Along L) e (alongs v v_low')).0 in
            let a = fewer in
            let b = one_less in
            let n = ap length e in
            let h = halt m' (stack_full s ws) in
            subst (λ (o : ℕ). Marked [] (p M (elim (slot_of o) [ At n ↦ place x o (pushed A len (first_word w)) (pushed_len A len) | Nothing ↦ place x (first_word w) A len ])) s (prop s k h (x ∷ y ∷ ds) (w ∷ ws)).fl (prop s k h (x ∷ y ∷ ds) (w ∷ ws)).queue) (sym z)
            (subst (λ (o : ℕ). Marked [] (p M (place x (suc y) (pushed A len (first_word w)) o)) s (prop s k h (x ∷ y ∷ ds) (w ∷ ws)).fl (prop s k h (x ∷ y ∷ ds) (w ∷ ws)).queue) (sym (len_room A len stacked))
            (slot M h x (y ∷ ds) (w ∷ ws) (set A len (first_word w)) (suc len) j (stuck_inside g nobody (with_marks s m') h.stuck i') mk' (λ o c. oku o (subst (In o) (sym e) c)) ((λ o c. ok o (inr c)), oks) (subst (Along L) e (alongs v v_low')).1
            (len, refl, get_or-set_same A len (first_word w) 0 stacked, al, aside_frame L A (set A len (first_word w)) len ws (λ o c. below_kept A len (first_word w) o c) sd)
            (subst (λ (z : ℕ). s.room.nodes ≤ z) (sym (length-set A len (first_word w))) long) (omega arith) (omega arith) q))

    turned : (prop s (suc k) m (l ∷ w) ws).stuck ≡ false → Marked [] (turn p L N pl v) s (prop s (suc k) m (l ∷ w) ws).fl (prop s (suc k) m (l ∷ w) ws).queue
    unfolding prop below onward
    turned =
        let Goal : Marks → Type 0 = λ x. x.stuck ≡ false → Marked [] (turn p L N pl v) s x.fl x.queue in
        -- the ways of each test are named: finding them by comparing is dear
        let pushes : Marks = elim (several (s.subs v)) [ true ↦ prop s k (halt (mark s m v) (stack_full s ws)) (s.subs v) (w ∷ ws) | false ↦ prop s k (mark s m v) (s.subs v ++ w) ws ] in
        let marked : Marks = elim (m.fl v).mutable [ true ↦ pushes | false ↦ prop s k (mark s m v) w ws ] in
        branch Goal (recursing (m.fl v)) {x = halt m true} {y = elim (unclean (m.fl v)) [ true ↦ prop s k m w ws | false ↦ marked ]} (λ e q. clash e calm_node)
        (λ e. branch Goal (unclean (m.fl v)) {x = prop s k m w ws} {y = marked}
        (λ d q. subst (λ (z : List ℕ). Marked [] z s (prop s k m w ws).fl (prop s k m w ws).queue) (sym (skip_is d)) (list N m w ws A l (first_word w) len j i mk (λ x y. ok x (inr y)) oks al sd long enough deep q))
        (λ d. branch Goal (m.fl v).mutable {x = pushes} {y = prop s k (mark s m v) w ws}
        (λ mu q. subst (λ (z : List ℕ). Marked [] z s (R d mu (s.subs v)).fl (R d mu (s.subs v)).queue) (sym (mark_is d ∙ way_down mu d)) (descend d mu (s.subs v) refl q))
        (λ mu q. subst (λ (z : List ℕ). Marked [] z s (prop s k (mark s m v) w ws).fl (prop s k (mark s m v) w ws).queue) (sym (mark_is d ∙ no_way mu)) (flat d q))))
      where
        way_down : (m.fl v).mutable ≡ true → (d : unclean (m.fl v) ≡ false) → onward p L M pl (below M v f) ≡ onward p L M pl (slot_of (first_word (s.subs v)))
        way_down mu d =
            ap (λ (b : Bool). onward p L M pl (elim b [ true ↦ slot_of (subs M v) | false ↦ Nothing ])) (mutable_is ∙ mu) ∙ ap (λ (z : ℕ). onward p L M pl (slot_of z)) ((mk' d).heads v v_low')

        no_way : (m.fl v).mutable ≡ false → onward p L M pl (below M v f) ≡ along p L M pl (slot_of (first_word w))
        no_way mu = ap (λ (b : Bool). onward p L M pl (elim b [ true ↦ slot_of (subs M v) | false ↦ Nothing ])) (mutable_is ∙ mu)

  slot_step : (k : ℕ) → FromSlot k → FromList k → FromSlot (suc k)
  unfolding walked
  slot_step k slot list N m l w ws A len zero i mk ok oks al sd long enough deep q = absurd (omega arith)
  slot_step k slot list N m l w ws A len (suc j) i mk ok oks al sd long enough deep q =
      subst (λ (z : ℕ). Marked [] (turn (walked L j) L N (place l (first_word w) A len) z) s (prop s (suc k) m (l ∷ w) ws).fl (prop s (suc k) m (l ∷ w) ws).queue) (sym (subs-are l))
      (turned k slot list N m l w ws A len j i mk ok oks al sd long (omega arith) deep q)

  -- no turn is left: the list walk would be stuck
  none_left : (m : Marks) (w : List ℕ) (ws : List (List ℕ)) {P : Type 0} → (prop s 0 m w ws).stuck ≡ false → P
  unfolding prop
  none_left m w ws q = clash (or_true m.stuck) q

  both_walks : (k : ℕ) → FromSlot k × FromList k
  both_walks zero = (
    (λ N m l w ws A len j i mk ok oks al sd long enough deep q. none_left m (l ∷ w) ws q),
    (λ N m w ws A a b len j i mk ok oks al sd long enough deep q. none_left m w ws q),
  )
  both_walks (suc k) = let r = both_walks k in let z = slot_step k r.0 r.1 in (z, list_step k z r.1)

-- ---- the bounds at the start
-- whatever budget and stack are enough, the walk leaves the marks of the lists
pub propagate_marks : (g : Given) (st : Static g) (t : Tab) (W C : List ℤ) (s : St) (d x : ℕ) (ls : List ℕ) → Inside g nobody s → Shows [] t W C s → d < g.size → readable (g.kind d) ≡ true → unclean (s.fl d) ≡ true
    → s.stuck ≡ false → s.subs d ≡ x ∷ ls → (j a : ℕ) → link_rows t.links ≤ j → s.room.nodes ≤ a
    → Marked [] (walked t.links j t.nodes (place x (next_sub_of t.links x) (replicate a 0) 0)) s (propagate s d).fl (propagate s d).queue
propagate_marks g st t W C s d x ls i r h rd un free e j a many deep =
    let L = t.links in
    let N = t.nodes in
    let o = i.lists in
    let size_is : s.size ≡ g.size = ap (λ (z : Given). z.size) i.same in
    let slots_is : s.room.slots ≡ g.room.slots = ap (λ (z : Given). z.room.slots) i.same in
    let al : (n : ℕ) → n < s.size → Along L (s.subs n) = λ n h. subs_along [] N L W C s n r h in
    let low : d < s.size = subst (λ (z : Given). d < z.size) (sym i.same) h in
    let own : Along L (x ∷ ls) = subst (Along L) e (al d low) in
    let y = gather_length s.subs g.size in
    let b = most_below g.room.slots (gather s.subs g.size)
    (gather_once s.subs g.size (λ m h. o.subs_once m) (λ y z l p q. sym (o.subs_live l y p).1 ∙ (o.subs_live l z q).1))
    (λ l j. let y = gather_in s.subs g.size l j in o.live_slot l (o.subs_live l y.0 y.2).0) in
    let here : unless (unclean (s.fl d)) (length (s.subs d)) ≡ 0 = ap (λ (z : Bool). unless z (length (s.subs d))) un in
    let c : clean_sum s.fl (λ n. length (s.subs n)) g.size + length (s.subs d) ≤ total (λ n. length (s.subs n)) g.size =
    total_spare (λ n. unless (unclean (s.fl n)) (length (s.subs n))) (λ n. length (s.subs n)) g.size d (length (s.subs d)) h (omega arith) (λ n lt. unless_most (unclean (s.fl n)) (length (s.subs n))) in
    let one = total_ones (λ n. unless (unclean (s.fl n)) 1) g.size (λ n. unless_most (unclean (s.fl n)) 1) in
    let n = ap length e in
    let rows = r.lengths.of_links in
    let stuck : (propagate s d).stuck ≡ false = (propagate_inside g st s d i h rd un).stuck ∙ free in
    let tall : s.room.nodes ≤ length {A = ℕ} (replicate a 0) = subst (λ (z : ℕ). s.room.nodes ≤ z) (sym (length-replicate {A = ℕ} a 0)) deep in
    let m = (both_walks g st L s r.slots.sub al (turns s)).0 N (marks_of s) x ls [] (replicate a 0) 0 j i (shows_marked [] t W C s r)
    (λ l j. let y = o.subs_live l d (subst (In l) (sym e) j) in (y.0, ap (λ (z : ℕ). readable (g.kind z)) y.1 ∙ rd)) tt own.1 refl tall (omega arith) (omega arith)
    (subst (λ (z : List ℕ). (prop s (turns s) (marks_of s) z []).stuck ≡ false) e stuck) in
    subst (λ (z : List ℕ). Marked [] (walked L j N (place x (next_sub_of L x) (replicate a 0) 0)) s (prop s (turns s) (marks_of s) z []).fl (prop s (turns s) (marks_of s) z []).queue) (sym e)
    (subst (λ (z : ℕ). Marked [] (walked L j N (place x z (replicate a 0) 0)) s (prop s (turns s) (marks_of s) (x ∷ ls) []).fl (prop s (turns s) (marks_of s) (x ∷ ls) []).queue) (sym own.0) m)

pub propagate_shows : (g : Given) (st : Static g) (t : Tab) (W C : List ℤ) (s : St) (d x : ℕ) (ls : List ℕ) → Inside g nobody s → Shows [] t W C s → d < g.size → readable (g.kind d) ≡ true → unclean (s.fl d) ≡ true
    → s.stuck ≡ false → s.room.nodes ≤ 1024 → s.subs d ≡ x ∷ ls → Shows [] (tab (propagated t.links t.nodes x) t.links) W C (propagate s d)
unfolding propagated
propagate_shows g st t W C s d x ls i r h rd un free few e =
    let L = t.links in
    let N = t.nodes in
    marked_shows [] [] t (walked L (link_rows L) N (place x (next_sub_of L x) (replicate 1024 0) 0)) W C s (propagate s d).fl (propagate s d).queue (propagate s d).stuck r
    (record { column = λ n f a b. column_propagated L N x n f a b; header = λ n h b. header_propagated L N x n h b; long = length_propagated L N x })
    (propagate_marks g st t W C s d x ls i r h rd un free e (link_rows L) 1024 (omega arith) few)
