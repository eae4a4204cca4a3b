-- One turn of each walk along the lists, by what the code finds. Assumes nothing.
use Rattle.std.specs.Prelude.{Some, None}
use Rattle.std.specs.Bool.{then_some}
use mathlib.Core.Path.{◌≡◌, refl, sym, ap, ◌∙◌}
use mathlib.Core.Bool.{Bool, true, false}
use mathlib.Core.List.{List}
use Prim.Native.Nat.{ℕ, zero, suc, ◌-◌, ◌<◌, ◌≤◌}
use native.Mathlib.Omega.{arith}
use lib.Dec.{eqb}
use Rattle.primitive.specs.Rows.{field}
use Rattle.primitive.specs.Slots.{slot_of}
use Rattle.primitive.specs.declared.slots.Slot.{Slot}
use Rattle.primitive.specs.declared.slots.Slot.TheVariants.{At, Nothing}
use Rattle.lists.specs.Walk.{run, runs}
use Rattle.lists.specs.Each.{along}
use Rattle.lists.proofs.WalkLaws.{run_done, run_wrong, run_out, run_bad, run_more, run_blind}
use Rattle.lists.proofs.EachLaws.{along_end, along_bad, along_more}
use Rattle.resting.specs.declared.linked.Side.{Side}
use Rattle.resting.specs.Linked.{fits, spare, walk, walks, frees}
use Rattle.joined.proofs.TurnLaws.{at_slot, at_nothing}

module _ (l : List ℕ) (s : Side) (n tail b p w : ℕ) where
  pub walk_done : w ≡ 0 → then_some (eqb p tail) b ≡ walk l s n tail b p w
  unfolding walk
  walk_done e = go (eqb p tail) refl
    where
      go : (c : Bool) → eqb p tail ≡ c → then_some c b ≡ run (λ (x : ℕ). field 8 l x s.next) (λ (p x : ℕ). fits l s n p x) (λ (p : ℕ). eqb p tail) b p w
      go true f = sym (run_done _ _ _ b p w e f)
      go false f = sym (run_wrong _ _ _ b p w e f)

  module _ (x : ℕ) (h : w ≡ suc x) where
    pub walk_out : (1 ≤ b → ⊥) → walk l s n tail b p w ≡ None
    unfolding walk
    walk_out g = run_out _ _ _ b p w (λ z. omega arith) (let z : b ≡ 0 = grind arith in z)

    pub walk_bad : 1 ≤ b → fits l s n p x ≡ false → walk l s n tail b p w ≡ None
    unfolding walk
    walk_bad g e = let q : w - 1 ≡ x = omega arith in run_bad _ (λ (p x : ℕ). fits l s n p x) _ b p w (λ z. omega arith) (λ z. omega arith) (rw q e)

    pub walk_more : (c v : ℕ) → 1 ≤ b → c ≡ b - 1 → fits l s n p x ≡ true → v ≡ field 8 l x s.next → walk l s n tail b p w ≡ walk l s n tail c w v
    unfolding walk
    walk_more c v g f e r =
        let q : w - 1 ≡ x = omega arith in
        let turn = run_more (λ (x : ℕ). field 8 l x s.next) (λ (p x : ℕ). fits l s n p x) (λ (p : ℕ). eqb p tail) b p w (λ z. omega arith) (λ z. omega arith) (rw q e) in
        rw (r, f) (rw q at turn)

module _ (l : List ℕ) (b w : ℕ) where
  pub frees_done : w ≡ 0 → frees l b w ≡ Some b
  unfolding frees
  frees_done e = run_done _ _ _ b 0 w e refl

  module _ (x : ℕ) (h : w ≡ suc x) where
    pub frees_out : (1 ≤ b → ⊥) → frees l b w ≡ None
    unfolding frees
    frees_out g = run_out _ _ _ b 0 w (λ z. omega arith) (let z : b ≡ 0 = grind arith in z)

    pub frees_bad : 1 ≤ b → spare l x ≡ false → frees l b w ≡ None
    unfolding frees
    frees_bad g e = let q : w - 1 ≡ x = omega arith in run_bad _ (λ (p x : ℕ). spare l x) _ b 0 w (λ z. omega arith) (λ z. omega arith) (rw q e)

    pub frees_more : (c v : ℕ) → 1 ≤ b → c ≡ b - 1 → spare l x ≡ true → v ≡ field 8 l x 6 → frees l b w ≡ frees l c v
    unfolding frees
    frees_more c v g f e r =
        let q : w - 1 ≡ x = omega arith in
        let turn = run_more (λ (x : ℕ). field 8 l x 6) (λ (p x : ℕ). spare l x) (λ (p : ℕ). true) b 0 w (λ z. omega arith) (λ z. omega arith) (rw q e) in
        rw (r, f) (rw q at turn ∙ run_blind _ (spare l) (b - 1) w 0 _)

module _ (t l : List ℕ) (s : Side) where
  pub walks_end : (n b : ℕ) → n ≤ 0 → walks t l s n b ≡ Some b
  unfolding walks runs
  walks_end zero b h = refl
  walks_end (suc n) b h = absurd (omega arith)

  module _ (n k b head tail : ℕ) (e : n ≡ suc k) (f : head ≡ field 16 t k s.head) (g : tail ≡ field 16 t k s.tail) where
    pub walks_bad : walk l s k tail b 0 head ≡ None → walks t l s n b ≡ None
    unfolding walks runs walk
    walks_bad h = rw e (rw (rw (f, g) at h))

    pub walks_more : (m : ℕ) → walk l s k tail b 0 head ≡ Some m → walks t l s n b ≡ walks t l s k m
    unfolding walks runs walk
    walks_more m h = rw e (rw (rw (f, g) at h))

-- a dependency list, each link of which is to pass a test of the node that it goes to
module _ (l : List ℕ) (test : ℕ → Bool) where
  abbrev pub deps : ℕ → ℕ → Bool
  deps b w = along (λ (x : ℕ). field 8 l x 6) (λ (x : ℕ). test (field 8 l x 1)) b w

  pub deps_end : (b w : ℕ) {r : Slot} → r ≡ slot_of w → r ≡ Nothing → deps b w ≡ true
  deps_end b w o f = along_end _ _ b w (at_nothing w o f)

  pub deps_bad : (b w x d : ℕ) {r : Slot} → 0 < b → r ≡ slot_of w → r ≡ At x → d ≡ field 8 l x 1 → test d ≡ false → deps b w ≡ false
  deps_bad b w x d h o f g e = along_bad (λ (x : ℕ). field 8 l x 6) (λ (x : ℕ). test (field 8 l x 1)) b w x h (at_slot w x o f) (ap test (sym g) ∙ e)

  pub deps_more : (b c w x d v : ℕ) {r : Slot} → b ≡ suc c → r ≡ slot_of w → r ≡ At x → d ≡ field 8 l x 1 → test d ≡ true → v ≡ field 8 l x 6 → deps b w ≡ deps c v
  deps_more b c w x d v h o f g e j =
      along_more (λ (x : ℕ). field 8 l x 6) (λ (x : ℕ). test (field 8 l x 1)) b c w x v h (at_slot w x o f) (ap test (sym g) ∙ e) j
