-- Document 01, "Flags and tables at rest": the six named bits of the flag byte.
use Rattle.std.specs.Prelude.{ℕ, ◌/◌, ◌%◌, ◌^◌, Bool, eqb}
use Rattle.flags.specs.declared.Named.{Named}

-- bit k of a byte
unfoldable pub bit : ℕ → ℕ → Bool
bit k f = eqb (f / 2 ^ k % 2) 1

-- MUTABLE 1, WATCHING 2, RECURSED_CHECK 4, RECURSED 8, DIRTY 16, PENDING 32
unfoldable pub named : ℕ → Named
named f =
    record {
      mutable = bit 0 f;
      watching = bit 1 f;
      recursed_check = bit 2 f;
      recursed = bit 3 f;
      dirty = bit 4 f;
      pending = bit 5 f;
    }
