-- The words of nodes and links that the walks look at, and the bits of the flag byte by name. N is a node table, L a link table.
use Rattle.std.specs.Prelude.{ℕ, ◌-◌, ◌%◌, Bool, not, List, eqb}
use Rattle.std.specs.Int.Bits.{bit_and, bit_or}
use Rattle.primitive.specs.Words.{FLAGS, DEPS-TAIL, SUBS, SUB, NEXT-SUB, PREV-DEP, node, set_node, link}

-- words of a node
abbrev pub flags_of : List ℕ → ℕ → ℕ
flags_of N n = node N n FLAGS % 256

abbrev pub set_flags : List ℕ → ℕ → ℕ → List ℕ
set_flags N n f = set_node N n FLAGS f

abbrev pub deps_tail : List ℕ → ℕ → ℕ
deps_tail N n = node N n DEPS-TAIL

abbrev pub subs : List ℕ → ℕ → ℕ
subs N n = node N n SUBS

-- words of a link
abbrev pub sub : List ℕ → ℕ → ℕ
sub L s = link L s SUB

abbrev pub next_sub_of : List ℕ → ℕ → ℕ
next_sub_of L s = link L s NEXT-SUB

abbrev pub prev_dep_of : List ℕ → ℕ → ℕ
prev_dep_of L s = link L s PREV-DEP

-- bits of the flag byte
abbrev pub none : ℕ
none = 0

abbrev pub mutable : ℕ
mutable = 1

abbrev pub watching : ℕ
watching = 2

abbrev pub recursed_checking : ℕ
recursed_checking = 4

abbrev pub recursed : ℕ
recursed = 8

abbrev pub dirty : ℕ
dirty = 16

abbrev pub pending : ℕ
pending = 32

-- bits that are tested together
abbrev pub busy : ℕ
busy = bit_or recursed_checking recursed

abbrev pub changed : ℕ
changed = bit_or dirty pending

abbrev pub marked : ℕ
marked = bit_or busy changed

-- f has a bit of m
unfoldable pub has : ℕ → ℕ → Bool
has f m = not (eqb (bit_and f m) 0)

-- f has no bit of m
unfoldable pub lacks : ℕ → ℕ → Bool
lacks f m = eqb (bit_and f m) 0

-- of the bits of m, f has j and no other
unfoldable pub has_only : ℕ → ℕ → ℕ → Bool
has_only f m j = eqb (bit_and f m) j

-- f without the bits of m
abbrev pub without : ℕ → ℕ → ℕ
without f m = bit_and f (255 - m)
