-- The promise of each public function of `flags` has one answer. Assumes nothing.
use mathlib.Core.Path.{refl, sym, ◌∙◌}
use Rattle.tight.specs.OneAnswer.{OneAnswer}
use Rattle.flags.proofs.Flags.of_word.Kinds as of-word-kinds
use Rattle.flags.proofs.Flags.of_word.Reads as of_word
use Rattle.flags.proofs.Flags.is_zero.Kinds as is-zero-kinds
use Rattle.flags.proofs.Flags.is_zero.Reads as is_zero
use Rattle.flags.proofs.Flags.is_nonzero.Kinds as is-nonzero-kinds
use Rattle.flags.proofs.Flags.is_nonzero.Reads as is-nonzero
use Rattle.flags.proofs.Flags.join.Kinds as join-kinds
use Rattle.flags.proofs.Flags.join.Reads as join
use Rattle.flags.proofs.Flags.mask.Kinds as mask-kinds
use Rattle.flags.proofs.Flags.mask.Reads as mask
use Rattle.flags.proofs.Flags.clear.Kinds as clear-kinds
use Rattle.flags.proofs.Flags.clear.Reads as clear
use Rattle.flags.proofs.Flags.has.Kinds as has-kinds
use Rattle.flags.proofs.Flags.has.Reads as has
use Rattle.flags.proofs.Flags.has_all.Kinds as has-all-kinds
use Rattle.flags.proofs.Flags.has_all.Reads as has-all
use Rattle.flags.proofs.Flags.names.Kinds as names-kinds
use Rattle.flags.proofs.Flags.names.Reads as names
use Rattle.flags.proofs.U64FromFlags.from.Kinds as word-kinds
use Rattle.flags.proofs.U64FromFlags.from.Reads as word
use Rattle.flags.proofs.FlagsPartialEq.eq.Kinds as same_kinds
use Rattle.flags.proofs.FlagsPartialEq.eq.Reads as same

pub one_of_word : OneAnswer of-word-kinds.ps of-word-kinds.r of_word.Learnt
one_of_word κs a x y v w p q = (λ i. record { bits = (p ∙ sym q) i }, refl)

pub one_is_zero : OneAnswer is-zero-kinds.ps is-zero-kinds.r is_zero.Learnt
one_is_zero κs a x y v w p q = (p ∙ sym q, refl)

pub one_is_nonzero : OneAnswer is-nonzero-kinds.ps is-nonzero-kinds.r is-nonzero.Learnt
one_is_nonzero κs a x y v w p q = (p ∙ sym q, refl)

pub one_join : OneAnswer join-kinds.ps join-kinds.r join.Learnt
one_join κs a x y v w p q = (λ i. record { bits = (p ∙ sym q) i }, refl)

pub one_mask : OneAnswer mask-kinds.ps mask-kinds.r mask.Learnt
one_mask κs a x y v w p q = (λ i. record { bits = (p ∙ sym q) i }, refl)

pub one_clear : OneAnswer clear-kinds.ps clear-kinds.r clear.Learnt
one_clear κs a x y v w p q = (λ i. record { bits = (p ∙ sym q) i }, refl)

pub one_names : OneAnswer names-kinds.ps names-kinds.r names.Learnt
one_names κs a x y v w p q = (p ∙ sym q, refl)

pub one_has : OneAnswer has-kinds.ps has-kinds.r has.Learnt
one_has κs a x y v w p q = (p ∙ sym q, refl)

pub one_has_all : OneAnswer has-all-kinds.ps has-all-kinds.r has-all.Learnt
one_has_all κs a x y v w p q = (p ∙ sym q, refl)

-- u64::from
pub one_word_lem : OneAnswer word-kinds.ps word-kinds.r word.Learnt
one_word_lem κs a x y v w p q = (p ∙ sym q, refl)

-- the derived ==
pub one_same : OneAnswer same_kinds.ps same_kinds.r same.Learnt
one_same κs a x y v w p q = (p ∙ sym q, refl)
