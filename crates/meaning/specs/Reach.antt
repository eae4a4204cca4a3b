-- What a write reaches: from the subscribers of d on, along the subscriber links of what can be read, through nodes that were clean.
use Rattle.std.specs.Prelude.{◌≡◌, true, false, ℕ}
use Rattle.meaning.specs.State.{St, unclean}
use Rattle.meaning.specs.WellFormed.{In}

pub data Reached (s : St) (d : ℕ) : ℕ → Type 0 where
  near : {u : ℕ} (l : ℕ) → In l (s.subs d) → s.sub l ≡ u → unclean (s.fl u) ≡ false → Reached s d u
  far : {u : ℕ} (l m : ℕ) → Reached s d m → (s.fl m).mutable ≡ true → In l (s.subs m) → s.sub l ≡ u → unclean (s.fl u) ≡ false → Reached s d u
