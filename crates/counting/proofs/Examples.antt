-- Document 01, "Reserve", computed on small tables: a signal, a computed of two read cells, a live effect of one read cell, a live owned scope. Assumes nothing.
use mathlib.Core.Path.{◌≡◌, refl}
use mathlib.Core.List.{List}
use Prim.Native.Nat.{ℕ, ◌+◌, ◌*◌}
use lib.ListN.{set, replicate}
use Rattle.primitive.specs.Rows.{has_field, field}
use Rattle.primitive.specs.Words.{COUNT, KIND, GONE, READS, OWNER, SIGNAL, COMPUTED, EFFECT, SCOPE}
use Rattle.counting.specs.Counts.{counted_in, total, reserve_of, reserve_in, effect_of, live_effects_in}

abbrev word : List ℕ → ℕ → ℕ → ℕ → List ℕ
word t n f v = set t ((n + 1) * 16 + f) v

abbrev four : List ℕ
four =
    word
    (word (word (word (word (word (word (set (replicate 80 0) COUNT 4) 0 KIND SIGNAL) 1 KIND COMPUTED) 1 READS 2) 2 KIND EFFECT) 2 READS 1) 3 KIND SCOPE)
    3 OWNER 3

pub record Reserves : Type 0 where
  pub computed : reserve_of four 1 ≡ 4
  pub effect : reserve_of four 2 ≡ 2
  -- a live owned scope counts 1
  pub scope : reserve_of four 3 ≡ 1
  pub all : reserve_in four ≡ 7
  -- what is gone counts nothing, and so the reserve comes back
  pub gone : reserve_in (word four 2 GONE 1) ≡ 5
  pub live : (live_effects_in four ≡ 1) × (live_effects_in (word four 2 GONE 1) ≡ 0)

-- three nodes are three, also where there are rows for four; and no more are counted than there are rows for
pub record Counts : Type 0 where
  pub said : counted_in (set four COUNT 3) ≡ 3
  pub most : counted_in (set four COUNT 9) ≡ 4

pub reserves : Reserves
unfolding counted_in total reserve_of reserve_in effect_of live_effects_in has_field field
reserves = record { computed = refl; effect = refl; scope = refl; all = refl; gone = refl; live = (refl, refl) }

pub counts : Counts
unfolding counted_in
counts = record { said = refl; most = refl }
