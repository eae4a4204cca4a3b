-- Flags by name and by their byte: what the tests and the stores of the walks do to the byte, they do to the names. Each law is tried on all 64. Assumes nothing.
use mathlib.Core.Path.{◌≡◌, refl, sym}
use mathlib.Core.Bool.{Bool, true, false, not, ◌&&◌}
use Prim.Native.Nat.{ℕ, ◌%◌, ◌<◌}
use lib.Bits.{bit_or}
use lib.Dec.{eqb, ltb}
use borrow.Author.Tests.{eqb-true, ltb-true}
use Rattle.flags.specs.declared.Named.{Named}
use Rattle.flags.specs.Flags.{bit, named}
use Rattle.flags.proofs.FlagLaws.{names_all}
use Rattle.marking.specs.Fields.{mutable, watching, recursed_checking, dirty, pending, busy, changed, has, lacks, has_only, without}
use Rattle.meaning.specs.State.{bare, unclean, recursing, with_pending, with_dirty, with_watching}
use Rattle.meaning.specs.Played.{byte}
use Rattle.meaning.proofs.Laws.{false≢true}

abbrev flags : Bool → Bool → Bool → Bool → Bool → Bool → Named
flags m w c r d p = record { mutable = m; watching = w; recursed_check = c; recursed = r; dirty = d; pending = p }

-- ---- all 64
abbrev both : (Bool → Bool) → Bool
both q = q true && q false

abbrev all : (Named → Bool) → Bool
all p = both (λ a. both (λ b. both (λ c. both (λ d. both (λ e. both (λ f. p (flags a b c d e f)))))))

first : (a b : Bool) → (a && b) ≡ true → a ≡ true
first true b e = refl
first false b e = e

second : (a b : Bool) → (a && b) ≡ true → b ≡ true
second true b e = e
second false b e = false≢true e

both_at : (q : Bool → Bool) → both q ≡ true → (b : Bool) → q b ≡ true
both_at q e true = first (q true) (q false) e
both_at q e false = second (q true) (q false) e

all_at : (p : Named → Bool) → all p ≡ true → (F : Named) → p F ≡ true
all_at p e F =
    let a = both_at (λ a. both (λ b. both (λ c. both (λ d. both (λ e. both (λ f. p (flags a b c d e f))))))) e F.mutable in
    let b = both_at (λ b. both (λ c. both (λ d. both (λ e. both (λ f. p (flags F.mutable b c d e f)))))) a F.watching in
    let c = both_at (λ c. both (λ d. both (λ e. both (λ f. p (flags F.mutable F.watching c d e f))))) b F.recursed_check in
    let d = both_at (λ d. both (λ e. both (λ f. p (flags F.mutable F.watching F.recursed_check d e f)))) c F.recursed in
    let g = both_at (λ e. both (λ f. p (flags F.mutable F.watching F.recursed_check F.recursed e f))) d F.dirty in
    both_at (λ f. p (flags F.mutable F.watching F.recursed_check F.recursed F.dirty f)) g F.pending

-- the same truth
abbrev alike : Bool → Bool → Bool
alike true b = b
alike false b = not b

alike_same : (a b : Bool) → alike a b ≡ true → a ≡ b
alike_same true true e = refl
alike_same true false e = sym e
alike_same false true e = e
alike_same false false e = refl

truth : (p q : Named → Bool) → all (λ F. alike (p F) (q F)) ≡ true → (F : Named) → p F ≡ q F
truth p q e F = alike_same (p F) (q F) (all_at (λ F. alike (p F) (q F)) e F)

number : (p q : Named → ℕ) → all (λ F. eqb (p F) (q F)) ≡ true → (F : Named) → p F ≡ q F
number p q e F = eqb-true (p F) (q F) (all_at (λ F. eqb (p F) (q F)) e F)

-- ---- the byte
pub byte_low : (F : Named) → byte F < 256
byte_low F = ltb-true (byte F) 256 (all_at (λ F. ltb (byte F) 256) refl F)

pub byte_mod : (F : Named) → byte F % 256 ≡ byte F
byte_mod = number (λ F. byte F % 256) byte refl

pub named_byte : (F : Named) → named (byte F % 256) ≡ F
unfolding bit
named_byte F =
    sym (names_all (byte F % 256)
    (truth (λ F. F.mutable) (λ F. bit 0 (byte F % 256)) refl F) (truth (λ F. F.watching) (λ F. bit 1 (byte F % 256)) refl F) (truth (λ F. F.recursed_check) (λ F. bit 2 (byte F % 256)) refl F)
    (truth (λ F. F.recursed) (λ F. bit 3 (byte F % 256)) refl F) (truth (λ F. F.dirty) (λ F. bit 4 (byte F % 256)) refl F) (truth (λ F. F.pending) (λ F. bit 5 (byte F % 256)) refl F))

-- ---- tests
pub lacks_busy : (F : Named) → lacks (byte F) busy ≡ not (recursing F)
unfolding lacks
lacks_busy = truth (λ F. lacks (byte F) busy) (λ F. not (recursing F)) refl

pub lacks_changed : (F : Named) → lacks (byte F) changed ≡ not (unclean F)
unfolding lacks
lacks_changed = truth (λ F. lacks (byte F) changed) (λ F. not (unclean F)) refl

pub lacks_watching : (F : Named) → lacks (byte F) watching ≡ not F.watching
unfolding lacks
lacks_watching = truth (λ F. lacks (byte F) watching) (λ F. not F.watching) refl

pub has_mutable : (F : Named) → has (byte F) mutable ≡ F.mutable
unfolding has
has_mutable = truth (λ F. has (byte F) mutable) (λ F. F.mutable) refl

pub has_watching : (F : Named) → has (byte F) watching ≡ F.watching
unfolding has
has_watching = truth (λ F. has (byte F) watching) (λ F. F.watching) refl

pub has_dirty : (F : Named) → has (byte F) dirty ≡ F.dirty
unfolding has
has_dirty = truth (λ F. has (byte F) dirty) (λ F. F.dirty) refl

pub has_pending : (F : Named) → has (byte F) pending ≡ F.pending
unfolding has
has_pending = truth (λ F. has (byte F) pending) (λ F. F.pending) refl

-- pending and not dirty
pub only_pending : (F : Named) → has_only (byte F) changed pending ≡ (F.pending && not F.dirty)
unfolding has_only
only_pending = truth (λ F. has_only (byte F) changed pending) (λ F. F.pending && not F.dirty) refl

-- it watches and is not being checked
pub only_watching : (F : Named) → has_only (byte F) (bit_or watching recursed_checking) watching ≡ (F.watching && not F.recursed_check)
unfolding has_only
only_watching = truth (λ F. has_only (byte F) (bit_or watching recursed_checking) watching) (λ F. F.watching && not F.recursed_check) refl

pub is_stale : (F : Named) → has_only (byte F) 17 17 ≡ (F.mutable && F.dirty)
unfolding has_only
is_stale = truth (λ F. has_only (byte F) 17 17) (λ F. F.mutable && F.dirty) refl

pub is_unsure : (F : Named) → has_only (byte F) 33 33 ≡ (F.mutable && F.pending)
unfolding has_only
is_unsure = truth (λ F. has_only (byte F) 33 33) (λ F. F.mutable && F.pending) refl

pub is_bare : (F : Named) → eqb (byte F) 0 ≡ bare F
is_bare = truth (λ F. eqb (byte F) 0) bare refl

-- ---- stores
pub or_pending : (F : Named) → bit_or (byte F) pending ≡ byte (with_pending F true)
or_pending = number (λ F. bit_or (byte F) pending) (λ F. byte (with_pending F true)) refl

pub or_dirty : (F : Named) → bit_or (byte F) dirty ≡ byte (with_dirty F true)
or_dirty = number (λ F. bit_or (byte F) dirty) (λ F. byte (with_dirty F true)) refl

pub without_watching : (F : Named) → without (byte F) watching ≡ byte (with_watching F false)
without_watching = number (λ F. without (byte F) watching) (λ F. byte (with_watching F false)) refl

pub without_pending : (F : Named) → without (byte F) pending ≡ byte (with_pending F false)
without_pending = number (λ F. without (byte F) pending) (λ F. byte (with_pending F false)) refl
