-- The reply to many commands, long enough and not; the call that writes it. Assumes nothing.
use mathlib.Core.Path.{◌≡◌, refl, ap, ◌∙◌}
use mathlib.Core.List.{List, [], ◌∷◌, ◌++◌}
use Prim.Native.Nat.{ℕ, ◌<◌, ◌≤◌}
use lib.IntN.{ℤ}
use native.Mathlib.Omega.{arith}
use lib.ListN.{length, set, drop}
use borrow.Author.Tests.{le-leb, lt-leb}
use Rattle.operating.specs.Log.{number_word}
use Rattle.sequencing.specs.Series.{Ended, series_in}
use Rattle.hosting.specs.Calls.{reply_words, no_reply}
use Rattle.hosting.specs.Many.{called_many, many_replied, ended_in, calls_in}

module _ (y : List ℤ) (why used done rows : ℕ) where
  pub without_reply : length y < reply_words → y ≡ many_replied y why used done rows
  unfolding many_replied
  without_reply h = rw (lt-leb _ _ h, many_replied)

  pub many_reply : reply_words ≤ length y → set (set (set (set y 0 (number_word why)) 1 (number_word used)) 2 (number_word done)) 3 (number_word rows) ≡ many_replied y why used done rows
  unfolding many_replied
  many_reply h = rw (le-leb _ _ h, many_replied)

  -- the four words in front of the others
  pub front_many : reply_words ≤ length y → (number_word why ∷ number_word used ∷ number_word done ∷ number_word rows ∷ []) ++ drop 4 y ≡ many_replied y why used done rows
  front_many h = go y (omega (arith, h)) ∙ many_reply h
    where
      go : (xs : List ℤ) → 4 ≤ length xs → (number_word why ∷ number_word used ∷ number_word done ∷ number_word rows ∷ []) ++ drop 4 xs ≡ set (set (set (set xs 0 (number_word why)) 1 (number_word used)) 2 (number_word done)) 3 (number_word rows)
      go [] i = absurd (omega (arith, i))
      go (x ∷ []) i = absurd (omega (arith, i))
      go (x ∷ z ∷ []) i = absurd (omega (arith, i))
      go (x ∷ z ∷ w ∷ []) i = absurd (omega (arith, i))
      go (x ∷ z ∷ w ∷ v ∷ rest) i = refl

module _ (n l : List ℕ) (v c rows list answers y : List ℤ) where
  pub not_done : length y < reply_words → called_many no_reply n l v c rows answers y ≡ calls_in n l v c rows list answers y
  unfolding calls_in
  not_done h = rw (lt-leb _ _ h, calls_in)

  -- the series ended so, and that is put into the reply
  pub calls_done : (e : Ended) → reply_words ≤ length y → e ≡ series_in n l v c rows list answers → ended_in y e ≡ calls_in n l v c rows list answers y
  unfolding calls_in
  calls_done e h q = ap (ended_in y) q ∙ rw (le-leb _ _ h, calls_in)
