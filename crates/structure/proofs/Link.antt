-- The words of `linked` are the lists of `link`: all four outcomes. Assumes nothing.
use Rattle.std.specs.Prelude.{Option, None, Some}
use mathlib.Core.Path.{◌≡◌, refl, sym, ap, ap₂, ◌∙◌, subst}
use mathlib.Core.Bool.{Bool, true, false, not, ◌&&◌}
use mathlib.Core.Logic.{inl, inr}
use mathlib.Core.List.{List, [], ◌∷◌, ◌++◌, append_assoc}
use Prim.Native.Nat.{ℕ, zero, suc, ◌<◌}
use native.Mathlib.Omega.{arith}
use lib.Dec.{eqb}
use lib.IntN.{ℤ}
use borrow.Author.Tests.{eqb-true, eqb-false}
use Rattle.primitive.specs.Rows.{has_field}
use Rattle.primitive.specs.Slots.{slot_of}
use Rattle.primitive.specs.Words.{VERSION, DEP, SUB, PREV-DEP, NEXT-DEP, DEPS, DEPS-TAIL, PREV-SUB, NEXT-SUB, SUBS, SUBS-TAIL, LIVE, FREE, FLAGS, GONE, node, link, set_node, set_link}
use Rattle.primitive.proofs.RowLaws.{other_record, other_field, header_kept}
use Rattle.linking.specs.Free.{is_live_slot}
use Rattle.linking.specs.Link.{names, newest_on, newest, reused, init_of, linked}
use Rattle.linking.specs.Neighbours.{next_dep_of}
use Rattle.linking.specs.Table.{Tab, tab}
use Rattle.linking.proofs.Untouched.{Untouched, then, by_node, by_link}
use Rattle.meaning.specs.State.{St, up, deps}
use Rattle.meaning.specs.Links.{head_of, last_of, goes_to, is_from, renew, link as link_of}
use Rattle.meaning.specs.WellFormed.{In}
use Rattle.meaning.proofs.Laws.{false≢true, either, up_same, up_other, up_by}
use Rattle.structure.specs.Chains.{first_word, last_word, Chain, Back}
use Rattle.structure.specs.Rep.{word_at, free_at}
use Rattle.structure.proofs.Chained.{last_join, chain_ext, back_ext}
use Rattle.structure.proofs.Lens.{ptr, LinkIn, node_same, link_same}
use Rattle.structure.proofs.Held.{Held, Shows, node_within, link_in, keep_flags, same_lengths, same_registers, same_kinds, same_forms, same_queue}
use Rattle.structure.proofs.Insert.{after_cursor, insert_shows}

-- ---- two choices by tests that agree
pub both_ways {ℓ κ ι} : {A : Type ℓ} {B : Type κ} (R : A → B → Type ι) (b c : Bool) → b ≡ c → {x y : A} {p q : B} → (c ≡ true → R x p) → (c ≡ false → R y q)
    → R (elim b [ true ↦ x | false ↦ y ]) (elim c [ true ↦ p | false ↦ q ])
both_ways R b true e {x} {y} {p} {q} f g = subst (λ (z : Bool). R (elim z [ true ↦ x | false ↦ y ]) p) (sym e) (f refl)
both_ways R b false e {x} {y} {p} {q} f g = subst (λ (z : Bool). R (elim z [ true ↦ x | false ↦ y ]) q) (sym e) (g refl)

-- ---- the tests
-- the word of a slot or of nothing
abbrev word_of : ℕ → Option ℕ → ℕ
word_of p None = p
word_of p (Some x) = suc x

last_is : (p : ℕ) (xs : List ℕ) → last_word p xs ≡ word_of p (last_of xs)
last_is p [] = refl
last_is p (x ∷ xs) = last_is (suc x) xs ∙ go (last_of xs)
  where
    go : (o : Option ℕ) → word_of (suc x) o ≡ word_of p (elim o [ None ↦ Some x | Some y ↦ Some y ])
    go None = refl
    go (Some y) = refl

first_is : (xs : List ℕ) → first_word xs ≡ word_of 0 (head_of xs)
first_is [] = refl
first_is (x ∷ xs) = refl

names_is : (L : List ℕ) (s : St) (d : ℕ) → ((x : ℕ) → link L x DEP ≡ s.dep x) → (o : Option ℕ) → names L (word_of 0 o) d ≡ goes_to s o d
unfolding names
names_is L s d h None = refl
names_is L s d h (Some x) = ap (λ (z : ℕ). eqb z d) (h x)

newest_is : (t : Tab) (s : St) (d u v : ℕ) → ((x : ℕ) → link t.links x VERSION ≡ s.ver x) → ((x : ℕ) → link t.links x SUB ≡ s.sub x) → (o : Option ℕ)
    → node t.nodes d SUBS-TAIL ≡ word_of 0 o → newest t d u v ≡ is_from s o u v
unfolding newest
newest_is t s d u v h k None e = ap (λ (z : ℕ). newest_on (slot_of z) t.links u v) e
newest_is t s d u v h k (Some x) e =
    ap (λ (z : ℕ). newest_on (slot_of z) t.links u v) e ∙ ap (λ (z : ℕ). elim (eqb z v) [ true ↦ eqb (link t.links x SUB) u | false ↦ false ]) (h x)
    ∙ ap (λ (z : ℕ). elim (eqb (s.ver x) v) [ true ↦ eqb z u | false ↦ false ]) (k x) ∙ go (eqb (s.ver x) v)
  where
    go : (b : Bool) → elim b [ true ↦ eqb (s.sub x) u | false ↦ false ] ≡ (b && eqb (s.sub x) u)
    go true = refl
    go false = refl

-- ---- the next old link is taken over
module _ (ran : List ℕ) (t : Tab) (W C : List ℤ) (s : St) (u v l : ℕ) (ls : List ℕ) (w : Held s) (r : Shows ran t W C s) (u_low : u < s.size) (e : s.rest u ≡ l ∷ ls) where
  T : Tab
  T = tab (set_node t.nodes u DEPS-TAIL (suc l)) (set_link t.links l VERSION v)

  same_deps : (n : ℕ) → deps s n ≡ up s.done u (s.done u ++ l ∷ []) n ++ up s.rest u ls n
  same_deps n =
      either (eqb n u)
      (λ q. subst (λ (m : ℕ). s.done m ++ s.rest m ≡ up s.done u (s.done u ++ l ∷ []) m ++ up s.rest u ls m) (sym (eqb-true n u q))
      (ap (λ (z : List ℕ). s.done u ++ z) e ∙ sym (append_assoc (s.done u) (l ∷ []) ls)
      ∙ sym (ap₂ (λ (x y : List ℕ). x ++ y) (up_same s.done u (s.done u ++ l ∷ [])) (up_same s.rest u ls))))
      (λ q. let ne = eqb-false n u q in sym (ap₂ (λ (x y : List ℕ). x ++ y) (up_other s.done u (s.done u ++ l ∷ []) n ne) (up_other s.rest u ls n ne)))

  ptr_kept : (f n g x : ℕ) → eqb f VERSION ≡ false → eqb g DEPS-TAIL ≡ false → ptr T f n g x ≡ ptr t f n g x
  unfolding T word_at
  ptr_kept f n g zero p q = other_field 16 t.nodes u n DEPS-TAIL g (suc l) q
  ptr_kept f n g (suc x) p q = other_field 8 t.links l x VERSION f v p

  link_kept : (x f : ℕ) → eqb f VERSION ≡ false → link T.links x f ≡ link t.links x f
  unfolding T
  link_kept x f p = other_field 8 t.links l x VERSION f v p

  node_kept : (n g : ℕ) → eqb g DEPS-TAIL ≡ false → node T.nodes n g ≡ node t.nodes n g
  unfolding T
  node_kept n g q = other_field 16 t.nodes u n DEPS-TAIL g (suc l) q

  free_kept : (x : ℕ) → free_at T.links x ≡ free_at t.links x
  unfolding T free_at
  free_kept zero = header_kept 8 t.links l VERSION v FREE (omega arith)
  free_kept (suc x) = other_field 8 t.links l x VERSION NEXT-DEP v refl

  untouched : Untouched t T
  unfolding T
  untouched = then (by_node t u DEPS-TAIL (suc l) (omega arith) refl) (by_link (tab (set_node t.nodes u DEPS-TAIL (suc l)) t.links) l VERSION v)

  l_in : LinkIn t.links l
  l_in = link_in t.nodes t.links W C s l r.lengths (w.lists.live_slot l (w.lists.deps_live l u (there (s.done u))).0)
    where
      there : (xs : List ℕ) → In l (xs ++ s.rest u)
      there [] = subst (In l) (sym e) (inl refl)
      there (x ∷ xs) = inr (there xs)

  cursor' : (n : ℕ) → n < s.size → node T.nodes n DEPS-TAIL ≡ last_word 0 (up s.done u (s.done u ++ l ∷ []) n)
  unfolding T has_field
  cursor' n h = up_by s.done u (s.done u ++ l ∷ []) (λ (xs : List ℕ). node T.nodes n DEPS-TAIL ≡ last_word 0 xs) n
      (λ q. subst (λ (m : ℕ). node T.nodes m DEPS-TAIL ≡ last_word 0 (s.done u ++ l ∷ [])) (sym q)
      (node_same t.nodes u DEPS-TAIL (suc l) refl (node_within t.nodes t.links W C s u r.lengths w.fit u_low) ∙ sym (last_join 0 l (s.done u) [])))
      (λ ne. other_record 16 t.nodes u n DEPS-TAIL DEPS-TAIL (suc l) ne ∙ r.deps.tail n h)

  ver' : (x : ℕ) → link T.links x VERSION ≡ up s.ver l v x
  unfolding T has_field
  ver' x = up_by s.ver l v (λ (z : ℕ). link T.links x VERSION ≡ z) x
      (λ q. ap (λ (z : ℕ). link T.links z VERSION) q ∙ link_same t.links l VERSION v refl l_in)
      (λ ne. other_record 8 t.links l x VERSION VERSION v ne ∙ r.slots.ver x)

  live' : (x : ℕ) → is_live_slot T.links x ≡ s.live x
  unfolding is_live_slot
  live' x = ap (λ (z : ℕ). not (eqb z 0)) (link_kept x LIVE refl) ∙ r.slots.live x

  renew_rep : Shows ran T W C (renew s u v (l ∷ ls))
  unfolding renew
  renew_rep = record {
    lengths = same_lengths t T untouched W C s.room r.lengths;
    registers = same_registers t T untouched _ _ _ _ r.registers;
    kinds = same_kinds t T untouched _ _ _ _ _ (λ n. node_kept n GONE refl) r.kinds;
    flags = keep_flags t.nodes T.nodes _ _ (λ n. node_kept n FLAGS refl) r.flags;
    values = r.values;
    forms = same_forms t T untouched C _ _ _ r.forms;
    slots = record {
      live = live';
      dep = λ x. link_kept x DEP refl ∙ r.slots.dep x;
      sub = λ x. link_kept x SUB refl ∙ r.slots.sub x;
      ver = ver';
    };
    deps = record {
      next = λ n h. subst (Chain (ptr T NEXT-DEP n DEPS) 0) (same_deps n) (chain_ext (ptr t NEXT-DEP n DEPS) (ptr T NEXT-DEP n DEPS) 0 (deps s n) (λ x. ptr_kept NEXT-DEP n DEPS x refl refl) (r.deps.next n h));
      prev = λ n h. subst (Back (λ x. link T.links x PREV-DEP) 0) (same_deps n) (back_ext (λ x. link t.links x PREV-DEP) (λ x. link T.links x PREV-DEP) 0 (deps s n) (λ x. link_kept x PREV-DEP refl) (r.deps.prev n h));
      tail = cursor';
    };
    subs = record {
      next = λ n h. chain_ext (ptr t NEXT-SUB n SUBS) (ptr T NEXT-SUB n SUBS) 0 (s.subs n) (λ x. ptr_kept NEXT-SUB n SUBS x refl refl) (r.subs.next n h);
      prev = λ n h. back_ext (λ x. link t.links x PREV-SUB) (λ x. link T.links x PREV-SUB) 0 (s.subs n) (λ x. link_kept x PREV-SUB refl) (r.subs.prev n h);
      tail = λ n h. node_kept n SUBS-TAIL refl ∙ r.subs.tail n h;
    };
    free = chain_ext (free_at t.links) (free_at T.links) 0 s.free free_kept r.free;
    queue = same_queue t T untouched ran _ r.queue;
  }

renew_shows : (ran : List ℕ) (t : Tab) (W C : List ℤ) (s : St) (d u v : ℕ) → Held s → Shows ran t W C s → u < s.size → goes_to s (head_of (s.rest u)) d ≡ true
    → Shows ran (reused t u v (first_word (s.rest u))) W C (renew s u v (s.rest u))
unfolding reused T
renew_shows ran t W C s d u v w r hu g = go (s.rest u) refl g
  where
    go : (ls : List ℕ) → s.rest u ≡ ls → goes_to s (head_of ls) d ≡ true → Shows ran (reused t u v (first_word ls)) W C (renew s u v ls)
    go [] e g = false≢true g
    go (l ∷ ls) e g = renew_rep ran t W C s u v l ls w r hu e

-- ---- link: room is asked only where a slot is taken
pub link_shows : (ran : List ℕ) (t : Tab) (W C : List ℤ) (s : St) (d u v : ℕ) → Held s → Shows ran t W C s → d < s.size → u < s.size
    → (goes_to s (last_of (s.done u)) d ≡ false → goes_to s (head_of (s.rest u)) d ≡ false → is_from s (last_of (s.subs d)) u v ≡ false → s.free ≡ [] → ⊥)
    → Shows ran (linked t d u v) W C (link_of s d u v)
unfolding linked init_of link_of
link_shows ran t W C s d u v w r hd hu room =
    let a : node t.nodes u DEPS-TAIL ≡ last_word 0 (s.done u) = r.deps.tail u hu in
    let b : next_dep_of t u (node t.nodes u DEPS-TAIL) ≡ first_word (s.rest u) = after_cursor ran t W C s u r hu in
    let c : node t.nodes d SUBS-TAIL ≡ last_word 0 (s.subs d) = r.subs.tail d hd in
    let R : Tab → St → Type 0 = λ x y. Shows ran x W C y in
    both_ways R (names t.links (node t.nodes u DEPS-TAIL) d) (goes_to s (last_of (s.done u)) d) (ap (λ (z : ℕ). names t.links z d) (a ∙ last_is 0 (s.done u)) ∙ names_is t.links s d r.slots.dep (last_of (s.done u)))
    (λ p. r)
    (λ p. both_ways R (names t.links (next_dep_of t u (node t.nodes u DEPS-TAIL)) d) (goes_to s (head_of (s.rest u)) d) (ap (λ (z : ℕ). names t.links z d) (b ∙ first_is (s.rest u)) ∙ names_is t.links s d r.slots.dep (head_of (s.rest u)))
    (λ q. subst (λ (z : ℕ). R (reused t u v z) (renew s u v (s.rest u))) (sym b) (renew_shows ran t W C s d u v w r hu q))
    (λ q. both_ways R (newest t d u v) (is_from s (last_of (s.subs d)) u v) (newest_is t s d u v r.slots.ver r.slots.sub (last_of (s.subs d)) (c ∙ last_is 0 (s.subs d)))
    (λ o. r)
    (λ o. insert_shows ran t W C s d u v w r hd hu (room p q o))))
