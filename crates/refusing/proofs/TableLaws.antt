-- The rows in number order: the first that holds is given. Assumes nothing.
use Rattle.std.specs.Prelude.{Option, None, Some}
use mathlib.Core.Path.{◌≡◌, refl, sym, ap, ◌∙◌}
use mathlib.Core.Bool.{Bool, true, false}
use mathlib.Core.List.{List, [], ◌∷◌}
use Prim.Native.Nat.{ℕ, zero, suc}
use native.Mathlib.Omega.{arith}
use lib.IntN.{ℤ}
use Rattle.meaning.specs.Words.{command_of}
use Rattle.meaning.specs.Refusals.{first, table, refusal}
use Rattle.refusing.specs.declared.refusal.Refusal.{Refusal}
use Rattle.refusing.specs.declared.refusal.Refusal.TheVariants.{WrongTables, UnknownCommand, WrongNode, GoneNode, BadFormula, TooHigh, NoRoom, WrongDepth, FewRows}
use Rattle.refusing.specs.Numbers.{refused_as}
use Rattle.refusing.specs.Sight.{sight_in, rows_in}
use Rattle.refusing.proofs.Sights.{wrong_sees, gone_sees, bad_sees, high_sees, room_sees, depth_sees, rows_see}

-- no refusal has the number 0
pub number_some : (r : Refusal) → refused_as (Some r) ≡ 0 → ⊥
number_some WrongTables e = absurd (omega arith)
number_some UnknownCommand e = absurd (omega arith)
number_some WrongNode e = absurd (omega arith)
number_some GoneNode e = absurd (omega arith)
number_some BadFormula e = absurd (omega arith)
number_some TooHigh e = absurd (omega arith)
number_some NoRoom e = absurd (omega arith)
number_some WrongDepth e = absurd (omega arith)
number_some FewRows e = absurd (omega arith)

-- a number has one refusal
refusal_of : ℕ → Option Refusal
refusal_of zero = None
refusal_of (suc zero) = Some WrongTables
refusal_of (suc (suc zero)) = Some UnknownCommand
refusal_of (suc (suc (suc zero))) = Some WrongNode
refusal_of (suc (suc (suc (suc zero)))) = Some GoneNode
refusal_of (suc (suc (suc (suc (suc zero))))) = Some BadFormula
refusal_of (suc (suc (suc (suc (suc (suc zero)))))) = Some TooHigh
refusal_of (suc (suc (suc (suc (suc (suc (suc zero))))))) = Some NoRoom
refusal_of (suc (suc (suc (suc (suc (suc (suc (suc zero)))))))) = Some WrongDepth
refusal_of (suc (suc (suc (suc (suc (suc (suc (suc (suc n))))))))) = Some FewRows

number_back : (r : Option Refusal) → refusal_of (refused_as r) ≡ r
unfolding refusal_of
number_back None = refl
number_back (Some WrongTables) = refl
number_back (Some UnknownCommand) = refl
number_back (Some WrongNode) = refl
number_back (Some GoneNode) = refl
number_back (Some BadFormula) = refl
number_back (Some TooHigh) = refl
number_back (Some NoRoom) = refl
number_back (Some WrongDepth) = refl
number_back (Some FewRows) = refl

pub same_refusal : (r s : Option Refusal) → refused_as r ≡ refused_as s → r ≡ s
same_refusal r s e = sym (number_back r) ∙ ap refusal_of e ∙ number_back s

-- ---- rows 5 to 7 by themselves
module _ (a b c : Bool) where
  pub making_5 : a ≡ true → 5 ≡ first 5 (a ∷ b ∷ c ∷ [])
  unfolding first
  making_5 e = rw e

  pub making_6 : a ≡ false → b ≡ true → 6 ≡ first 5 (a ∷ b ∷ c ∷ [])
  unfolding first
  making_6 e f = rw (e, f)

  pub making_7 : a ≡ false → b ≡ false → c ≡ true → 7 ≡ first 5 (a ∷ b ∷ c ∷ [])
  unfolding first
  making_7 e f g = rw (e, f, g)

  pub making_0 : a ≡ false → b ≡ false → c ≡ false → 0 ≡ first 5 (a ∷ b ∷ c ∷ [])
  unfolding first
  making_0 e f g = rw (e, f, g)

-- and before others
making_more : (a b c : Bool) (ys : List Bool) {r : ℕ} → r ≡ first 5 (a ∷ b ∷ c ∷ []) → (r ≡ 0 → ⊥) → r ≡ first 5 (a ∷ b ∷ c ∷ ys)
unfolding first
making_more true b c ys e h = e
making_more false true c ys e h = e
making_more false false true ys e h = e
making_more false false false ys e h = absurd (h e)

making_none : (a b c : Bool) (ys : List Bool) {r : ℕ} → r ≡ first 5 (a ∷ b ∷ c ∷ []) → r ≡ 0 → first 5 (a ∷ b ∷ c ∷ ys) ≡ first 8 ys
unfolding first
making_none true b c ys e h = absurd (omega arith)
making_none false true c ys e h = absurd (omega arith)
making_none false false true ys e h = absurd (omega arith)
making_none false false false ys e h = refl

-- ---- all rows
module _ (b₂ b₃ b₄ b₅ b₆ b₇ b₈ b₉ : Bool) where
  abbrev given : ℕ
  given = first 2 (b₂ ∷ b₃ ∷ b₄ ∷ b₅ ∷ b₆ ∷ b₇ ∷ b₈ ∷ b₉ ∷ [])

  pub given_2 : b₂ ≡ true → 2 ≡ given
  unfolding first
  given_2 e = rw e

  pub given_3 : b₂ ≡ false → b₃ ≡ true → 3 ≡ given
  unfolding first
  given_3 e f = rw (e, f)

  pub given_4 : b₂ ≡ false → b₃ ≡ false → b₄ ≡ true → 4 ≡ given
  unfolding first
  given_4 e f g = rw (e, f, g)

  module _ (e : b₂ ≡ false) (f : b₃ ≡ false) (g : b₄ ≡ false) {r : ℕ} (made : r ≡ first 5 (b₅ ∷ b₆ ∷ b₇ ∷ [])) where
    late : given ≡ first 5 (b₅ ∷ b₆ ∷ b₇ ∷ b₈ ∷ b₉ ∷ [])
    unfolding first
    late = rw (e, f, g)

    pub given_made : (r ≡ 0 → ⊥) → r ≡ given
    given_made h = making_more b₅ b₆ b₇ (b₈ ∷ b₉ ∷ []) made h ∙ sym late

    module _ (z : r ≡ 0) where
      last : first 8 (b₈ ∷ b₉ ∷ []) ≡ given
      last = sym (late ∙ making_none b₅ b₆ b₇ (b₈ ∷ b₉ ∷ []) made z)

      pub given_8 : b₈ ≡ true → 8 ≡ given
      unfolding first
      given_8 h = rw (h, first) at last

      pub given_9 : b₈ ≡ false → b₉ ≡ true → 9 ≡ given
      unfolding first
      given_9 h k = rw (h, k) at last

      pub given_0 : b₈ ≡ false → b₉ ≡ false → 0 ≡ given
      unfolding first
      given_0 h k = rw (h, k) at last

module _ (nodes links : List ℕ) (cells : List ℤ) (rows : ℕ) where
  pub rows_are : (ws : List ℤ) → refusal true (sight_in nodes links cells rows) ws ≡ first 2 (rows_in nodes links cells rows (command_of ws))
  unfolding refusal table first
  rows_are ws =
      rw (
        wrong_sees nodes links cells rows (command_of ws),
        gone_sees nodes links cells rows (command_of ws),
        bad_sees nodes links cells rows (command_of ws),
        high_sees nodes links cells rows (command_of ws),
        room_sees nodes links cells rows (command_of ws),
        depth_sees nodes links cells rows (command_of ws),
        rows_see nodes links cells rows (command_of ws),
      )
