-- `series::list::head` meets its contract. Assumes nothing.
use borrow.Author.Rules.{rules}
use mathlib.Core.Path.{◌≡◌, refl}
use mir.Syntax.{w64}
use mir.Val.{to_z, of_z}
use mir.Facts.{to_z-of_z}
use lib.IntN.{pos}
use lib.ListN.{get_or}
use native.Mathlib.Omega.{arith}
use Rattle.sequencing.proofs.ListLaws.{none_left, is_below, is_inside, is_beyond}
use Rattle.series.proofs.list.head.Goals as goal

pub returns-in-empty : goal.returns-in-empty
returns-in-empty c = none_left _ (omega (arith, c.in-empty.len_below))

pub returns-in-Some : goal.returns-in-Some
returns-in-Some c =
    let p : to_z w64 (of_z w64 (get_or c.args.list.now 0 (pos 0))) ≡ get_or c.args.list.now 0 (pos 0) = to_z-of_z {w = w64} (search rules) in
    is_inside c.args.list.now refl (rw p at c.natural.ensures) (λ e. omega (arith, c.in-len1-up.len_at_least, e)) _ c.in-Some.is (search rules)

pub returns-in_default : goal.returns-in_default
returns-in_default c =
    let p : to_z w64 (of_z w64 (get_or c.args.list.now 0 (pos 0))) ≡ get_or c.args.list.now 0 (pos 0) = to_z-of_z {w = w64} (search rules) in
    is_beyond c.args.list.now refl (rw p at c.natural.ensures) (λ e. omega (arith, c.in-len1-up.len_at_least, e)) _ c.in-Some.is (search rules)

pub returns-in_default-2 : goal.returns-in_default-2
returns-in_default-2 c =
    let p : to_z w64 (of_z w64 (get_or c.args.list.now 0 (pos 0))) ≡ get_or c.args.list.now 0 (pos 0) = to_z-of_z {w = w64} (search rules) in
    is_below c.args.list.now refl (rw p at c.natural.ensures) (λ e. omega (arith, c.in-len1-up.len_at_least, e)) c.in_default.is
