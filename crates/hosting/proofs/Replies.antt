-- A reply that is long enough and one that is not; the call that writes it. Assumes nothing.
use mathlib.Core.Path.{◌≡◌, refl, ◌∙◌}
use mathlib.Core.List.{List, [], ◌∷◌, ◌++◌}
use Prim.Native.Nat.{ℕ, ◌<◌, ◌≤◌}
use lib.IntN.{ℤ}
use native.Mathlib.Omega.{arith}
use lib.ListN.{length, set, drop}
use borrow.Author.Tests.{le-leb, lt-leb}
use Rattle.operating.specs.Log.{number_word}
use Rattle.commanding.specs.Command.{Answered, command_in}
use Rattle.hosting.specs.Calls.{reply_words, no_reply, called, replied, answered_in, call_in}

pub short_reply : (y : List ℤ) (code : ℕ) (value : ℤ) (runs : ℕ) → length y < reply_words → y ≡ replied y code value runs
unfolding replied
short_reply y code value runs h = rw (lt-leb _ _ h, replied)

pub whole_reply : (y : List ℤ) (code : ℕ) (value : ℤ) (runs : ℕ) → reply_words ≤ length y → set (set (set y 0 (number_word code)) 1 value) 2 (number_word runs) ≡ replied y code value runs
unfolding replied
whole_reply y code value runs h = rw (le-leb _ _ h, replied)

-- the three words in front of the others
pub front_reply : (y : List ℤ) (code : ℕ) (value : ℤ) (runs : ℕ) → reply_words ≤ length y → (number_word code ∷ value ∷ number_word runs ∷ []) ++ drop 3 y ≡ replied y code value runs
front_reply y code value runs h = go y (omega (arith, h)) ∙ whole_reply y code value runs h
  where
    go : (xs : List ℤ) → 3 ≤ length xs → (number_word code ∷ value ∷ number_word runs ∷ []) ++ drop 3 xs ≡ set (set (set xs 0 (number_word code)) 1 value) 2 (number_word runs)
    go [] i = absurd (omega (arith, i))
    go (x ∷ []) i = absurd (omega (arith, i))
    go (x ∷ z ∷ []) i = absurd (omega (arith, i))
    go (x ∷ z ∷ w ∷ rest) i = refl

module _ (n l : List ℕ) (v c g ws y : List ℤ) where
  pub not_called : length y < reply_words → called no_reply n l v c g y ≡ call_in n l v c g ws y
  unfolding call_in
  not_called h = rw (lt-leb _ _ h, call_in)

  pub is_called : reply_words ≤ length y → answered_in y (command_in n l v c g ws) ≡ call_in n l v c g ws y
  unfolding call_in
  is_called h = rw (le-leb _ _ h, call_in)

  -- the command's answer a, put into the reply
  pub call_done : (a : Answered) → reply_words ≤ length y → a ≡ command_in n l v c g ws → answered_in y a ≡ call_in n l v c g ws y
  call_done a h e = rw (e) (is_called h)
