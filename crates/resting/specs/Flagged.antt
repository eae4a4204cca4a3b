-- Document 01, "Flags and tables at rest", fourth bullet: the flags that a node may have, by kind. deps and subs are the heads of its lists, reads the number of its read links.
use Rattle.std.specs.Prelude.{ℕ, Bool, true, false, not, eqb}
use Rattle.primitive.specs.Words.{SIGNAL, COMPUTED, EFFECT, SCOPE}
use Rattle.lists.specs.Each.{pick}

-- signal 1 or 17
unfoldable pub signal_flags : ℕ → Bool
signal_flags f = pick (eqb f 1) true (eqb f 17)

-- computed 0 (no links), 1, 17 (no dependencies), 33 or 49 (at least one)
unfoldable pub computed_flags : ℕ → ℕ → ℕ → Bool
computed_flags f deps subs =
    pick (eqb f 0) (pick (eqb deps 0) (eqb subs 0) false)
    (pick (eqb f 1) true
    (pick (eqb f 17) (eqb deps 0)
    (pick (eqb f 33) (not (eqb deps 0))
    (pick (eqb f 49) (not (eqb deps 0))
    false))))

-- live effect 2, 0, or with a read link 32 or 48; the queue tells 2 from the others
unfoldable pub effect_flags : ℕ → ℕ → Bool
effect_flags f reads =
    pick (eqb f 2) true
    (pick (eqb f 0) true
    (pick (eqb f 32) (not (eqb reads 0))
    (pick (eqb f 48) (not (eqb reads 0))
    false)))

-- gone effect 0 or 2
unfoldable pub gone_flags : ℕ → Bool
gone_flags f = pick (eqb f 0) true (eqb f 2)

-- scope 0
unfoldable pub flags_on : ℕ → ℕ → ℕ → ℕ → ℕ → ℕ → Bool
flags_on kind gone f deps subs reads =
    pick (eqb kind SIGNAL) (signal_flags f)
    (pick (eqb kind COMPUTED) (computed_flags f deps subs)
    (pick (eqb kind EFFECT) (pick (eqb gone 0) (effect_flags f reads) (gone_flags f))
    (pick (eqb kind SCOPE) (eqb f 0)
    false)))
