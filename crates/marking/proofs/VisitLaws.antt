-- The five branches of a visit, as the code takes them, and what comes of a visit. Assumes nothing.
use mathlib.Core.Path.{◌≡◌, ◌∙◌}
use mathlib.Core.Bool.{true, false}
use mathlib.Core.List.{List}
use Prim.Native.Nat.{ℕ}
use lib.Bits.{bit_and, bit_or}
use Rattle.marking.specs.Fields.{flags_of, set_flags, none, mutable, watching, recursed_checking, recursed, pending, busy, changed, marked, has, lacks, without}
use Rattle.marking.specs.Notify.{notified}
use Rattle.marking.specs.Valid.{valid_link}
use Rattle.marking.specs.Visits.{Visit, visit_of, visit, after, stored, reached}
use Rattle.marking.specs.Visits.Visit.{Skip, Mark}

-- f is the flag byte of node n, and v whether slot s is a valid link of it
module _ (L N : List ℕ) (s n : ℕ) {f : ℕ} (g : f ≡ flags_of N n) where
  seen : visit L N s n ≡ visit_of f (valid_link L N s n)
  unfolding visit
  seen = rw (← g)

  pub visit_clean : lacks f marked ≡ true → visit L N s n ≡ Mark (bit_or f pending) f
  unfolding visit_of
  visit_clean a = seen ∙ rw (a, visit_of)

  module _ (a : lacks f marked ≡ false) where
    pub visit_marked : lacks f busy ≡ true → visit L N s n ≡ Skip
    unfolding visit_of
    visit_marked b = seen ∙ rw (a, visit_of, b)

    module _ (b : lacks f busy ≡ false) where
      pub visit_recursed : lacks f recursed_checking ≡ true → visit L N s n ≡ Mark (bit_or (without f recursed) pending) f
      unfolding visit_of
      visit_recursed c = seen ∙ rw (a, visit_of, b, c)

      module _ (c : lacks f recursed_checking ≡ false) where
        pub visit_changed : lacks f changed ≡ false → visit L N s n ≡ Skip
        unfolding visit_of
        visit_changed d = seen ∙ rw (a, visit_of, b, c, d)

        pub visit_stray : lacks f changed ≡ true → valid_link L N s n ≡ false → visit L N s n ≡ Skip
        unfolding visit_of
        visit_stray d v = seen ∙ rw (a, visit_of, b, c, d, v)

        pub visit_valid : lacks f changed ≡ true → valid_link L N s n ≡ true → visit L N s n ≡ Mark (bit_or f (bit_or recursed pending)) (bit_and f mutable)
        unfolding visit_of
        visit_valid d v = seen ∙ rw (a, visit_of, b, c, d, v)

-- what is left of a visit, and what it stores
module _ (N : List ℕ) (n : ℕ) {d : Visit} {r : ℕ} {M : List ℕ} where
  pub skips : d ≡ Skip → r ≡ none → M ≡ N → (r ≡ after d) × (M ≡ stored N n d)
  unfolding after stored
  skips e p q = rw e (p, q)

  pub marks : {x y : ℕ} → d ≡ Mark x y → r ≡ y → M ≡ set_flags N n x → (r ≡ after d) × (M ≡ stored N n d)
  unfolding after stored
  marks e p q = rw e (p, q)

-- f is what a visit leaves, and M what it makes of the tables
module _ (L N : List ℕ) (s n : ℕ) {f : ℕ} {M : List ℕ} (g : f ≡ after (visit L N s n)) (e : M ≡ stored N n (visit L N s n)) where
  pub reach_wakes : has f watching ≡ true → reached L N s n ≡ notified L M n
  unfolding reached
  reach_wakes t = rw (← g, t, reached, ← e)

  pub reach_rests : has f watching ≡ false → reached L N s n ≡ M
  unfolding reached
  reach_rests t = rw (← g, t, reached, ← e)
