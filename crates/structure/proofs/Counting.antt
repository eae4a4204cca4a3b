-- What is counted from tables is counted from the state that they represent, so the refusals see the same. Assumes nothing.
use mathlib.Core.Path.{◌≡◌, sym, ap, ap₂, ◌∙◌}
use mathlib.Core.Bool.{Bool}
use mathlib.Core.List.{List}
use Prim.Native.Nat.{ℕ, ◌<◌}
use lib.IntN.{ℤ}
use Rattle.primitive.specs.Words.{KIND, READS, node}
use Rattle.counting.specs.Counts.{total as totalIn, reserve_of as reserveAt, effect_of as effectAt}
use Rattle.meaning.specs.State.{St, Kind, signal, computed, effect, scope}
use Rattle.meaning.specs.Reserve.{reserve, reserve_of}
use Rattle.meaning.specs.Refusals.{live_effects}
use Rattle.refusing.specs.Sight.{kind_of}
use Rattle.refusing.proofs.Counted.{TellsReads, reserve_same, effect_same, total_same}
use Rattle.structure.specs.Rep.{has_form, Rep}

module _ (N L : List ℕ) (W C : List ℤ) (s : St) (r : Rep N L W C s) where
  tells : (n : ℕ) → n < s.size → (k : Kind) → s.kind n ≡ k → TellsReads k (node N n READS) (s.form n)
  tells n h signal e = tt
  tells n h computed e = (r.forms.spelt n h (ap has_form e)).counted
  tells n h effect e = (r.forms.spelt n h (ap has_form e)).counted
  tells n h scope e = tt

  reserves : (n : ℕ) → n < s.size → reserveAt N n ≡ reserve_of (s.kind n) (s.gone n) (s.form n) (s.owner n)
  reserves n h =
      reserve_same N n (s.form n) (s.owner n) (tells n h (kind_of (node N n KIND)) (sym (r.kinds.kind n))) (r.kinds.owner n)
      ∙ ap₂ (λ (k : Kind) (g : Bool). reserve_of k g (s.form n) (s.owner n)) (r.kinds.kind n) (r.kinds.gone n)

  pub reserve_is : totalIn (reserveAt N) s.size ≡ reserve s
  unfolding reserve
  reserve_is = total_same (reserveAt N) (λ n. reserve_of (s.kind n) (s.gone n) (s.form n) (s.owner n)) s.size reserves

  pub effects_is : totalIn (effectAt N) s.size ≡ live_effects s
  unfolding live_effects
  effects_is = total_same (effectAt N) _ s.size (λ n h. effect_same N n ∙ rw (r.kinds.kind n, r.kinds.gone n))
