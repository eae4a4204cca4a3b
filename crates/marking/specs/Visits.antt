-- What propagate does at a subscriber: the Rust's five branches over the flag byte, then notify.
use Rattle.std.specs.Prelude.{ℕ, Bool, true, false, ◌&&◌, List}
use Rattle.std.specs.Int.Bits.{bit_and, bit_or}
use Rattle.marking.specs.Fields.{flags_of, set_flags, none, mutable, watching, recursed_checking, recursed, pending, busy, changed, marked, has, lacks, without}
use Rattle.marking.specs.Notify.{notified}
use Rattle.marking.specs.Valid.{valid_link}

pub data Visit : Type 0 where
  -- nothing is stored, and no flags are left
  Skip : Visit
  -- the flags that are stored, and those that are left to decide what follows
  Mark : ℕ → ℕ → Visit

-- f is the flag byte, v whether the link is valid
unfoldable pub visit_of : ℕ → Bool → Visit
visit_of f v =
    elim (lacks f marked) [
      | true ↦ Mark (bit_or f pending) f
      | false ↦ elim (lacks f busy) [
        | true ↦ Skip
        | false ↦ elim (lacks f recursed_checking) [
          | true ↦ Mark (bit_or (without f recursed) pending) f
          | false ↦ elim (lacks f changed && v) [
            | true ↦ Mark (bit_or f (bit_or recursed pending)) (bit_and f mutable)
            | false ↦ Skip
          ]
        ]
      ]
    ]

unfoldable pub visit : List ℕ → List ℕ → ℕ → ℕ → Visit
visit L N s n = visit_of (flags_of N n) (valid_link L N s n)

-- the flags that are left
unfoldable pub after : Visit → ℕ
after Skip = none
after (Mark f g) = g

unfoldable pub stored : List ℕ → ℕ → Visit → List ℕ
stored N n Skip = N
stored N n (Mark f g) = set_flags N n f

-- visited, and notified where the flags that are left have WATCHING
unfoldable pub reached : List ℕ → List ℕ → ℕ → ℕ → List ℕ
reached L N s n =
    let v : Visit = visit L N s n in
    elim (has (after v) watching) [ true ↦ notified L (stored N n v) n | false ↦ stored N n v ]
