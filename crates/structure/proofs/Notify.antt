-- Notify over words is notify over lists: an effect and its watching owners are pushed, and the new part is turned round. Assumes nothing.
use Rattle.std.specs.Prelude.{Option, None, Some}
use mathlib.Core.Path.{◌≡◌, refl, sym, ap, ap₂, ◌∙◌, subst}
use mathlib.Core.Bool.{Bool, true, false, not}
use mathlib.Core.Logic.{inl}
use mathlib.Core.List.{List, [], ◌∷◌, ◌++◌, reverse, append_assoc, append-nil}
use Prim.Native.Nat.{ℕ, zero, suc, ◌+◌, ◌/◌, ◌%◌, ◌<◌, ◌≤◌}
use native.Mathlib.Omega.{arith}
use lib.Dec.{eqb, ltb}
use lib.ListN.{length-reverse, length, get_or, take, drop, length-append, length-set}
use lib.Seq.{get_or-set_same}
use Rattle.flags.specs.declared.Named.{Named}
use Rattle.primitive.specs.declared.slots.Slot.{Slot}
use Rattle.primitive.specs.declared.slots.Slot.TheVariants.{At, Nothing}
use Rattle.flags.specs.Flags.{named}
use Rattle.queue.specs.Queue.{count, entry_at, pushed, swapped, reversed, reversed_from}
use Rattle.primitive.specs.Slots.{slot_of}
use Rattle.primitive.specs.Words.{QUEUE, FLAGS, SUB, SUBS, node, link, set_node, node_rows}
use Rattle.primitive.proofs.RowLaws.{other_field, length-set_field, header_kept, field_after_header}
use Rattle.queue.proofs.QueueLaws.{pushed_room, queue_pushed, queue_reversed}
use Rattle.marking.specs.Fields.{flags_of, set_flags, sub, subs, watching, lacks, without}
use Rattle.marking.specs.Notify.{queued, owner_of, climbed, notified}
use Rattle.meaning.specs.State.{St, up, deps, readable, with_watching}
use Rattle.meaning.specs.Marks.{chain, calm}
use Rattle.meaning.specs.WellFormed.{In}
use Rattle.meaning.proofs.Laws.{branch, either, up_other, in_cases}
use Rattle.meaning.proofs.Members.{nil_none}
use Rattle.meaning.proofs.Still.{Given}
use Rattle.meaning.proofs.Inside.{nobody, Static, Goes, Inside, owner_owns}
use Rattle.structure.specs.Chains.{first_word}
use Rattle.structure.specs.Rep.{Queues}
use Rattle.structure.proofs.FlagBytes.{without_watching, lacks_watching}
use Rattle.structure.proofs.Marked.{Marked, flag_is, mark_flag}

-- ---- what a store to the queue leaves: flags and heads
abbrev Other : List ℕ → List ℕ → Type 0
Other N M = (n f : ℕ) → eqb f QUEUE ≡ false → node M n f ≡ node N n f

swap_other : (N : List ℕ) (i j : ℕ) → Other N (swapped N i j)
unfolding swapped
swap_other N i j n f e = other_field 16 (set_node N i QUEUE (entry_at N j)) j n QUEUE f (entry_at N i) e ∙ other_field 16 N i n QUEUE f (entry_at N j) e

turn_other : (hi : ℕ) (N : List ℕ) (lo : ℕ) → Other N (reversed N lo hi) × (length (reversed N lo hi) ≡ length N) × (get_or (reversed N lo hi) QUEUE 0 ≡ get_or N QUEUE 0)
unfolding reversed swapped
turn_other zero N lo = ((λ n f e. refl), refl, refl)
turn_other (suc hi) N lo =
    branch (λ (M : List ℕ). Other N M × (length M ≡ length N) × (get_or M QUEUE 0 ≡ get_or N QUEUE 0)) (ltb lo (suc hi))
    (λ b. let r = turn_other hi (swapped N lo hi) (suc lo) in
    let a = set_node N lo QUEUE (entry_at N hi) in (
      (λ n f e. r.0 n f e ∙ swap_other N lo hi n f e),
      r.1 ∙ length-set_field 16 a hi QUEUE (entry_at N lo) ∙ length-set_field 16 N lo QUEUE (entry_at N hi),
      r.2 ∙ header_kept 16 a hi QUEUE (entry_at N lo) QUEUE (omega arith) ∙ header_kept 16 N lo QUEUE (entry_at N hi) QUEUE (omega arith),
    ))
    (λ b. ((λ n f e. refl), refl, refl))

-- ---- lists
take_join : (q c : List ℕ) → take (length q) (q ++ c) ≡ q
take_join [] c = refl
take_join (x ∷ q) c = ap (λ (z : List ℕ). x ∷ z) (take_join q c)

drop_join : (q c : List ℕ) → drop (length q) (q ++ c) ≡ c
drop_join [] c = refl
drop_join (x ∷ q) c = drop_join q c

module _ (s : St) where
  -- other words of the table the same, and this queue
  queue_marked : (N M : List ℕ) (f : ℕ → Named) (p q : List ℕ) → Other N M → length M ≡ length N → Queues M [] q → Marked [] N s f p → Marked [] M s f q
  queue_marked N M f p q o e k m = record {
    flags = record { flags = λ n. ap (λ (z : ℕ). named (z % 256)) (o n FLAGS refl) ∙ m.flags.flags n; flag_word = λ n h. o n FLAGS refl ∙ m.flags.flag_word n h };
    queue = k;
    heads = λ n h. o n SUBS refl ∙ m.heads n h;
    long = e ∙ m.long;
  }

  module _ (N : List ℕ) (f : ℕ → Named) (q : List ℕ) (m : Marked [] N s f q) where
    count_is : length q ≤ s.room.nodes → count N ≡ length q
    unfolding count
    count_is h = let a = m.queue.waiting in let b = m.long in omega arith

    push_marked : (e : ℕ) → length q < s.room.nodes → Marked [] (pushed N e) s f (q ++ e ∷ [])
    push_marked e h =
        let b = m.long in
        let c = count_is (omega arith) in
        let room : suc (count N) < length N / 16 = omega arith in
        let is = pushed_room N e room in
        let a = set_node N (count N) QUEUE e in
        let long : length (pushed N e) ≡ length N = ap length is ∙ length-set a QUEUE (suc (count N)) ∙ length-set_field 16 N (count N) QUEUE e in
        queue_marked N (pushed N e) f q (q ++ e ∷ [])
        (λ n g d. ap (λ (z : List ℕ). node z n g) is ∙ field_after_header 16 a n g (suc (count N)) QUEUE (omega arith) ∙ other_field 16 N (count N) n QUEUE g e d)
        long
        (record {
          entries = queue_pushed N e room ∙ ap (λ (z : List ℕ). z ++ e ∷ []) m.queue.entries;
          waiting = ap (λ (z : List ℕ). get_or z QUEUE 0) is
              ∙ get_or-set_same a QUEUE (suc (count N)) 0 (let z = length-set_field 16 N (count N) QUEUE e in omega arith)
              ∙ (let z = length-append q (e ∷ []) in omega arith);
        })
        m

    turn_marked : (p c : List ℕ) → q ≡ p ++ c → length p ≤ s.room.nodes → Marked [] (reversed_from N (length p)) s f (p ++ reverse c)
    unfolding reversed_from
    turn_marked p c e h =
        let r = turn_other (count N) N (length p) in
        queue_marked N (reversed N (length p) (count N)) f q (p ++ reverse c) r.0 r.1
        (record {
          entries = queue_reversed N (length p) ∙ ap (λ (z : List ℕ). take (length p) z ++ reverse (drop (length p) z)) (m.queue.entries ∙ e) ∙ ap₂ (λ (x y : List ℕ). x ++ reverse y) (take_join p c) (drop_join p c);
          waiting = r.2 ∙ m.queue.waiting ∙ ap length e ∙ length-append p c ∙ ap (λ (z : ℕ). length p + z) (sym (length_rev c)) ∙ sym (length-append p (reverse c));
        })
        m
      where
        length_rev : (c : List ℕ) → length (reverse c) ≡ length c
        length_rev c = length-reverse c

-- ---- the climb
module _ (g : Given) (st : Static g) (L : List ℕ) (s : St) (i : Inside g nobody s) (subs-are : (x : ℕ) → link L x SUB ≡ s.sub x) (f₀ : ℕ → Named) where
  low_at : (n : ℕ) → n < g.size → n < s.size
  low_at n h = subst (λ (z : Given). n < z.size) (sym i.same) h

  fit : s.size ≤ s.room.nodes
  fit = subst (λ (z : Given). z.size ≤ z.room.nodes) (sym i.same) st.nodes_fit

  -- a live effect or scope: the only subscriber link leads to its owner
  pub record Lives (e : ℕ) : Type 0 where
    pub low : e < g.size
    pub owns : readable (g.kind e) ≡ false
    pub alive : s.gone e ≡ false

  module _ (e o : ℕ) (v : Lives e) (w : g.owner e ≡ Some o) where
    abbrev link_up : (l : ℕ) × (s.subs e ≡ l ∷ []) × (s.sub l ≡ o)
    link_up = (i.rests e v.low (λ z. z)).owned o v.alive w

    o_lower : o < e
    o_lower = st.owner_lower e o v.low w

    o_lives : Lives o
    o_lives =
        let l = link_up.0 in
        let lv = i.lists.subs_live l e (subst (In l) (sym link_up.1) (inl refl)) in
        let lo = o_lower in
        let le = v.low in
        let go : Goes g e o = subst (λ (z : ℕ). Goes g e z) link_up.2 (subst (λ (z : ℕ). Goes g z (s.sub l)) lv.1 (i.goes l lv.0)) in
        let there : In l (deps s o) = subst (λ (z : ℕ). In l (deps s z)) link_up.2 (i.lists.live_in_deps l lv.0) in
        let h : o < g.size = omega arith in
        record {
          low = h;
          owns = owner_owns g st e o go v.owns;
          alive = either (s.gone o) (λ a. absurd (gone_none h a l there)) (λ a. a);
        }
      where
        gone_none : o < g.size → s.gone o ≡ true → (l : ℕ) → In l (deps s o) → ⊥
        gone_none h a l j =
            let r = i.rests o h (λ z. z) in
            in_cases l (s.done o) (s.rest o) j (λ z. nil_none (s.done o) l (r.bare a).0 z) (λ z. nil_none (s.rest o) l r.tail z)

  queued_marked : (N : List ℕ) (f : ℕ → Named) (q : List ℕ) (e : ℕ) → e < s.size → Marked [] N s f q → length q < s.room.nodes → Marked [] (queued N e) s (up f e (with_watching (f e) false)) (q ++ e ∷ [])
  unfolding queued
  queued_marked N f q e h m room =
      push_marked s (set_flags N e (without (flags_of N e) watching)) (up f e (with_watching (f e) false)) q
      (mark_flag [] N s f q m e (without (flags_of N e) watching) (with_watching (f e) false) h fit (ap (λ (z : ℕ). without z watching) (flag_is [] N s f q m e h) ∙ without_watching (f e))) e room

  abbrev onward : Bool → ℕ → ℕ → List ℕ
  onward b k o = elim b [ true ↦ chain k g.owner f₀ o | false ↦ [] ]

  abbrev above : ℕ → Option ℕ → List ℕ
  above k w = elim w [ None ↦ [] | Some o ↦ elim (f₀ o).watching [ true ↦ chain k g.owner f₀ o | false ↦ [] ] ]

  -- what is left of the climb, from the owner w of e
  abbrev Climbs : ℕ → Type 0
  Climbs k = (N : List ℕ) (f : ℕ → Named) (q : List ℕ) (e : ℕ) → Lives e → ((n : ℕ) → n < e → f n ≡ f₀ n) → Marked [] N s f q → length q + length (chain k g.owner f₀ e) ≤ s.room.nodes
      → Marked [] (climbed L (suc k) N e) s (calm (chain k g.owner f₀ e) f) (q ++ chain k g.owner f₀ e)

  owner_sim : (k : ℕ) (p : List ℕ → ℕ → List ℕ) → ((N : List ℕ) (f : ℕ → Named) (q : List ℕ) (e : ℕ) → Lives e → ((n : ℕ) → n < e → f n ≡ f₀ n) → Marked [] N s f q
      → length q + length (chain k g.owner f₀ e) ≤ s.room.nodes → Marked [] (p N e) s (calm (chain k g.owner f₀ e) f) (q ++ chain k g.owner f₀ e))
      → (M : List ℕ) (f : ℕ → Named) (q : List ℕ) (e : ℕ) (v : Lives e) → ((n : ℕ) → n < e → f n ≡ f₀ n) → Marked [] M s f q → (w : Option ℕ) → g.owner e ≡ w
      → length q + length (above k w) ≤ s.room.nodes → Marked [] (owner_of p L M (slot_of (subs M e))) s (calm (above k w) f) (q ++ above k w)
  unfolding owner_of calm
  owner_sim k p h M f q e v agree m None w room =
      subst (λ (z : ℕ). Marked [] (owner_of p L M (slot_of z)) s f (q ++ [])) (sym (m.heads e (low_at e v.low) ∙ ap first_word ((i.rests e v.low (λ z. z)).unowned v.owns w)))
      (subst (Marked [] M s f) (sym (append-nil q)) m)
  owner_sim k p h M f q e v agree m (Some o) w room =
      let l = link_up e o v w in
      let lives = o_lives e o v w in
      let lower = o_lower e o v w in
      let same : f o ≡ f₀ o = agree o (o_lower e o v w) in
      subst (λ (z : ℕ). Marked [] (owner_of p L M (slot_of z)) s (calm (above k (Some o)) f) (q ++ above k (Some o))) (sym (m.heads e (low_at e v.low) ∙ ap first_word l.1))
      (subst (λ (z : ℕ). Marked [] (elim (lacks (flags_of M z) watching) [ true ↦ M | false ↦ p M z ]) s (calm (above k (Some o)) f) (q ++ above k (Some o))) (sym (subs-are l.0 ∙ l.2))
      (watch (f₀ o).watching refl (ap (λ (z : ℕ). lacks z watching) (flag_is [] M s f q m o (low_at o lives.low)) ∙ lacks_watching (f o) ∙ ap (λ (z : Named). not z.watching) same) lives
      (λ n c. agree n (less n o e c lower)) room))
    where
      less : (n o e : ℕ) → n < o → o < e → n < e
      less n o e a b = omega arith

      watch : (b : Bool) → (f₀ o).watching ≡ b → lacks (flags_of M o) watching ≡ not (f₀ o).watching → Lives o → ((n : ℕ) → n < o → f n ≡ f₀ n) → length q + length (above k (Some o)) ≤ s.room.nodes
          → Marked [] (elim (lacks (flags_of M o) watching) [ true ↦ M | false ↦ p M o ]) s (calm (above k (Some o)) f) (q ++ above k (Some o))
      watch true x y lv ag rm =
          subst (λ (z : Bool). Marked [] (elim z [ true ↦ M | false ↦ p M o ]) s (calm (above k (Some o)) f) (q ++ above k (Some o))) (sym (y ∙ ap not x))
          (subst (λ (z : Bool). length q + length (onward z k o) ≤ s.room.nodes
          → Marked [] (p M o) s (calm (onward z k o) f) (q ++ onward z k o)) (sym x) (λ rm. h M f q o lv ag m rm) rm)
      watch false x y lv ag rm =
          subst (λ (z : Bool). Marked [] (elim z [ true ↦ M | false ↦ p M o ]) s (calm (above k (Some o)) f) (q ++ above k (Some o))) (sym (y ∙ ap not x))
          (subst (λ (z : Bool). Marked [] M s (calm (onward z k o) f) (q ++ onward z k o)) (sym x)
          (subst (Marked [] M s f) (sym (append-nil q)) m))

  climb_sim : (k : ℕ) → Climbs k
  unfolding climbed chain calm owner_of
  climb_sim zero N f q e v agree m room =
      let z = length-append q (e ∷ []) in
      let mk = queued_marked N f q e (low_at e v.low) m (omega arith) in
      stops (queued N e) (slot_of (subs (queued N e) e)) mk
    where
      stops : (M : List ℕ) (o : Slot) → Marked [] M s (up f e (with_watching (f e) false)) (q ++ e ∷ []) → Marked [] (owner_of (climbed L zero) L M o) s (up f e (with_watching (f e) false)) (q ++ e ∷ [])
      stops M Nothing mk = mk
      stops M (At x) mk = branch (λ (z : List ℕ). Marked [] z s (up f e (with_watching (f e) false)) (q ++ e ∷ [])) (lacks (flags_of M (sub L x)) watching) (λ b. mk) (λ b. mk)
  climb_sim (suc k) N f q e v agree m room =
      let c = above k (g.owner e) in
      let z = length-append q (e ∷ []) in
      let mk = queued_marked N f q e (low_at e v.low) m (omega arith) in
      subst (Marked [] (owner_of (climbed L (suc k)) L (queued N e) (slot_of (subs (queued N e) e))) s (calm c (up f e (with_watching (f e) false)))) (append_assoc q (e ∷ []) c)
      (owner_sim k (climbed L (suc k)) (climb_sim k) (queued N e) (up f e (with_watching (f e) false)) (q ++ e ∷ []) e v
      (λ n h. up_other f e (with_watching (f e) false) n (λ y. omega arith) ∙ agree n h) mk (g.owner e) refl (omega arith))

  -- a chain that ends by itself
  chain_more : (k j e : ℕ) → k ≤ j → length (chain k g.owner f₀ e) ≤ k → chain j g.owner f₀ e ≡ chain k g.owner f₀ e
  unfolding chain
  chain_more zero j e le h = absurd (omega arith)
  chain_more (suc k) zero e le h = absurd (omega arith)
  chain_more (suc k) (suc j) e le h = ap (λ (xs : List ℕ). e ∷ xs) (go (λ o c. chain_more k j o (omega arith) c) (g.owner e) (omega arith))
    where
      at : (b : Bool) (o : ℕ) → (length (chain k g.owner f₀ o) ≤ k → chain j g.owner f₀ o ≡ chain k g.owner f₀ o) → length (onward b k o) ≤ k → onward b j o ≡ onward b k o
      at true o r c = r c
      at false o r c = refl

      go : ((o : ℕ) → length (chain k g.owner f₀ o) ≤ k → chain j g.owner f₀ o ≡ chain k g.owner f₀ o) → (w : Option ℕ) → length (above k w) ≤ k → above j w ≡ above k w
      go r None c = refl
      go r (Some o) c = at (f₀ o).watching o (r o) c

  -- ---- the whole, whatever budget is enough
  pub notify_within : (N : List ℕ) (q : List ℕ) (e : ℕ) → Lives e → Marked [] N s f₀ q → length q + length (chain s.room.nodes g.owner f₀ e) ≤ s.room.nodes → (j : ℕ) → node_rows N ≤ j
      → Marked [] (reversed_from (climbed L j N e) (count N)) s (calm (chain s.room.nodes g.owner f₀ e) f₀) (q ++ reverse (chain s.room.nodes g.owner f₀ e))
  notify_within N q e v m room zero many = absurd (let b = m.long in omega arith)
  notify_within N q e v m room (suc j) many =
      let k = s.room.nodes in
      let c = chain k g.owner f₀ e in
      let b = m.long in
      let same : chain j g.owner f₀ e ≡ c = chain_more k j e (omega arith) (omega arith) in
      let climbs : Marked [] (climbed L (suc j) N e) s (calm c f₀) (q ++ c) =
      subst (λ (z : List ℕ). Marked [] (climbed L (suc j) N e) s (calm z f₀) (q ++ z)) same
      (climb_sim j N f₀ q e v (λ n h. refl) m (subst (λ (z : List ℕ). length q + length z ≤ s.room.nodes) (sym same) room)) in
      subst (λ (z : ℕ). Marked [] (reversed_from (climbed L (suc j) N e) z) s (calm c f₀) (q ++ reverse c)) (sym (count_is s N f₀ q m (omega arith)))
      (turn_marked s (climbed L (suc j) N e) (calm c f₀) (q ++ c) climbs q c refl (omega arith))

  pub notify_sim : (N : List ℕ) (q : List ℕ) (e : ℕ) → Lives e → Marked [] N s f₀ q → length q + length (chain s.room.nodes g.owner f₀ e) ≤ s.room.nodes
      → Marked [] (notified L N e) s (calm (chain s.room.nodes g.owner f₀ e) f₀) (q ++ reverse (chain s.room.nodes g.owner f₀ e))
  unfolding notified
  notify_sim N q e v m room = notify_within N q e v m room (node_rows N) (omega arith)
