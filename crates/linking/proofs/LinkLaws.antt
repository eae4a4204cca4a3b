-- The four ways of link, as the code finds them; link where no slot is free; what link leaves alone. Assumes nothing.
use mathlib.Core.Path.{◌≡◌, refl, sym, ap, ◌∙◌}
use mathlib.Core.Bool.{Bool, true, false}
use Prim.Native.Nat.{ℕ}
use native.Mathlib.Omega.{arith}
use lib.ListN.{get_or}
use Rattle.primitive.specs.Slots.{slot_of}
use Rattle.primitive.specs.declared.slots.Slot.{Slot}
use Rattle.primitive.specs.declared.slots.Slot.TheVariants.{At, Nothing}
use Rattle.linking.specs.declared.link.LinkInit.{LinkInit}
use Rattle.linking.specs.Free.{taken, taken_on}
use Rattle.linking.specs.Neighbours.{next_dep_of}
use Rattle.linking.specs.Link.{names, newest, written, made, made_on, set_back, set_back_on, joined, inserted, inserted_on, reused, reused_on, init_of, linked}
use Rattle.primitive.specs.Words.{FREE, LIVE, VERSION, DEP, SUB, PREV-SUB, NEXT-SUB, PREV-DEP, NEXT-DEP, DEPS, DEPS-TAIL, SUBS, SUBS-TAIL, node}
use Rattle.linking.specs.Table.{Tab, tab}
use Rattle.linking.proofs.Untouched.{Untouched, untouched_refl, then, by_node, by_link, by_head, by_beside}

-- ---- the four ways
module _ (t : Tab) (dep sub version : ℕ) {p : ℕ} {a : Bool} (tail : p ≡ node t.nodes sub DEPS-TAIL) (named : a ≡ names t.links p dep) where
  at_tail : {b : Bool} → a ≡ b → names t.links (node t.nodes sub DEPS-TAIL) dep ≡ b
  at_tail h = ap (λ (x : ℕ). names t.links x dep) (sym tail) ∙ sym named ∙ h

  pub link_kept : a ≡ true → t ≡ linked t dep sub version
  unfolding linked init_of
  link_kept h = rw (at_tail h, linked)

  module _ (past : a ≡ false) {n : ℕ} {b : Bool} (after : n ≡ next_dep_of t sub p) (next : b ≡ names t.links n dep) where
    follows : n ≡ next_dep_of t sub (node t.nodes sub DEPS-TAIL)
    follows = after ∙ ap (next_dep_of t sub) tail

    at_next : {c : Bool} → b ≡ c → names t.links (next_dep_of t sub (node t.nodes sub DEPS-TAIL)) dep ≡ c
    at_next h = ap (λ (x : ℕ). names t.links x dep) (sym follows) ∙ sym next ∙ h

    pub link_again : b ≡ true → {u : Tab} → u ≡ reused t sub version n → u ≡ linked t dep sub version
    unfolding linked init_of
    link_again h e = rw (at_tail past, at_next h, linked) (e ∙ ap (reused t sub version) follows)

    module _ (more : b ≡ false) {c : Bool} (new : c ≡ newest t dep sub version) where
      pub link_newest : c ≡ true → t ≡ linked t dep sub version
      unfolding linked init_of
      link_newest h = rw (at_tail past, at_next more, sym new ∙ h, linked)

      pub link_made : c ≡ false → {q : ℕ} {u : Tab} → q ≡ node t.nodes dep SUBS-TAIL
          → u ≡ inserted t (record { version = version; dep = dep; sub = sub; prev_dep = p; next_dep = n; prev_sub = q })
          → u ≡ linked t dep sub version
      unfolding linked init_of
      link_made h last e =
          rw (at_tail past, at_next more, sym new ∙ h, linked) (e ∙ rw (tail, last, follows))

-- ---- no slot is free: nothing at all changes
pub inserted_full : (t : Tab) (i : LinkInit) → get_or t.links FREE 0 ≡ 0 → inserted t i ≡ t
unfolding inserted made taken
inserted_full t i e = rw (e, taken)

-- ---- what link leaves alone
pub taken_untouched : (t : Tab) → Untouched t (tab t.nodes (taken t.links).links)
unfolding taken
taken_untouched t = go (slot_of (get_or t.links FREE 0))
  where
    go : (o : Slot) → Untouched t (tab t.nodes (taken_on o t.links).links)
    go Nothing = untouched_refl t
    go (At s) = then (by_link t s LIVE _) (by_head _ _)

written_untouched : (t : Tab) (s : ℕ) (i : LinkInit) → Untouched t (tab t.nodes (written t.links s i))
unfolding written
written_untouched t s i =
    let a = then (then (by_link t s VERSION i.version) (by_link _ s DEP i.dep)) (by_link _ s SUB i.sub) in
    let b = then (by_link _ s PREV-SUB i.prev_sub) (by_link _ s NEXT-SUB 0) in
    then (then a b) (then (by_link _ s PREV-DEP i.prev_dep) (by_link _ s NEXT-DEP i.next_dep))

made_untouched : (t : Tab) (i : LinkInit) → Untouched t (tab t.nodes (made t.links i).links)
unfolding made
made_untouched t i = go (slot_of (taken t.links).word)
  where
    go : (o : Slot) → Untouched t (tab t.nodes (made_on o (taken t.links) i).links)
    go Nothing = taken_untouched t
    go (At s) = then (taken_untouched t) (written_untouched (tab t.nodes (taken t.links).links) s i)

back_untouched : (t : Tab) (next w : ℕ) → Untouched t (tab t.nodes (set_back t.links next w))
unfolding set_back
back_untouched t next w = go (slot_of next)
  where
    go : (o : Slot) → Untouched t (tab t.nodes (set_back_on o t.links w))
    go Nothing = untouched_refl t
    go (At s) = by_link t s PREV-DEP w

joined_untouched : (t : Tab) (w : ℕ) (i : LinkInit) → Untouched t (joined t w i)
unfolding joined
joined_untouched t w i =
    let a = then (by_node t i.dep SUBS-TAIL w (omega arith) refl) (by_node _ i.sub DEPS-TAIL w (omega arith) refl) in
    let b = then (by_beside _ i.prev_dep NEXT-DEP i.sub DEPS w (omega arith) refl) (by_beside _ i.prev_sub NEXT-SUB i.dep SUBS w (omega arith) refl) in
    then (then a (back_untouched _ i.next_dep w)) b

inserted_untouched : (t : Tab) (i : LinkInit) → Untouched t (inserted t i)
unfolding inserted
inserted_untouched t i = go (slot_of (made t.links i).word)
  where
    go : (o : Slot) → Untouched t (inserted_on o t.nodes (made t.links i) i)
    go Nothing = made_untouched t i
    go (At s) = then (made_untouched t i) (joined_untouched (tab t.nodes (made t.links i).links) (made t.links i).word i)

reused_untouched : (t : Tab) (sub version w : ℕ) → Untouched t (reused t sub version w)
unfolding reused
reused_untouched t sub version w = go (slot_of w)
  where
    go : (o : Slot) → Untouched t (reused_on o t sub version w)
    go Nothing = untouched_refl t
    go (At s) = then (by_link t s VERSION _) (by_node _ sub DEPS-TAIL w (omega arith) refl)

pub linked_untouched : (t : Tab) (dep sub version : ℕ) → Untouched t (linked t dep sub version)
unfolding linked
linked_untouched t dep sub version =
    let i = init_of t dep sub version in
    branch (names t.links i.prev_dep dep) (untouched_refl t)
    (branch (names t.links i.next_dep dep) (reused_untouched t sub version i.next_dep)
    (branch (newest t dep sub version) (untouched_refl t) (inserted_untouched t i)))
  where
    branch : (b : Bool) {x y : Tab} → Untouched t x → Untouched t y → Untouched t (elim b [ true ↦ x | false ↦ y ])
    branch true p q = p
    branch false p q = q
