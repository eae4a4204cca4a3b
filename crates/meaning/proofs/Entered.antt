-- A new effect runs at once: this keeps well-formedness, is not stuck, and leaves the read links of other effects and every mark alone. Assumes nothing.
use Rattle.std.specs.Prelude.{Option, None, Some}
use mathlib.Core.Path.{◌≡◌, refl, sym, ap, ◌∙◌, subst}
use mathlib.Core.Bool.{Bool, false}
use mathlib.Core.List.{List}
use Prim.Native.Nat.{ℕ, ◌≤◌, ◌<◌}
use native.Mathlib.Omega.{arith}
use lib.ListN.{length}
use Rattle.trees.specs.Trees.{Tree, names}
use Rattle.meaning.specs.State.{St, effect, readable, f2, f6, nothing, up}
use Rattle.meaning.specs.Setters.{set_fl}
use Rattle.meaning.specs.Reads.{eval_by, read_w, fresh, evaluate}
use Rattle.meaning.specs.Engine.{logged, node, owned, entered, new_effect}
use Rattle.meaning.specs.WellFormed.{In, read_links, WellFormed}
use Rattle.meaning.proofs.Laws.{up_other}
use Rattle.meaning.proofs.Rings.{evaluate_ring}
use Rattle.meaning.proofs.Still.{Given, Fixed, Still, renews_still, link_marks}
use Rattle.meaning.proofs.Binding.{SameReads, ReadsStay, stay_then, same_stay}
use Rattle.meaning.proofs.Inside.{nobody, Static}
use Rattle.meaning.proofs.Frames.{frame_same}
use Rattle.meaning.proofs.Reading.{Near}
use Rattle.meaning.proofs.Running.{Goes_on, f_went, first_run, first_reads}
use Rattle.meaning.proofs.Making.{Fits, G, kind_new, new_static, not_queued}
use Rattle.meaning.proofs.Made.{Made, made, Well, ended}

module _ (s : St) (w : WellFormed s) where
  -- no mark changes where an owner is linked
  pub owned_marks : (x : St) (n : ℕ) (o : Option ℕ) → (owned x n o).gone ≡ x.gone
  owned_marks x n None = refl
  owned_marks x n (Some p) = link_marks x n p 0

  -- ---- a new effect, and its first run
  module _ (o : Option ℕ) (t : Tree) (fits : Fits s effect t o) where
    abbrev n : ℕ
    n = s.size

    abbrev x : St
    x = entered s o t

    abbrev g : Given
    g = G s w effect t o f6 nothing fits

    abbrev st : Static g
    st = new_static s w effect t o f6 nothing fits

    d : Made s w effect t f6 nothing refl o fits x
    d = made s w effect t f6 nothing refl o fits (λ p e. refl)

    kn : g.kind n ≡ effect
    kn = kind_new s w effect t o f6 nothing fits n refl

    left : length (read_links g.kind x.dep (x.rest n)) ≤ length (names (g.form n))
    unfolding read_links
    left = subst (λ (z : List ℕ). length (read_links g.kind x.dep z) ≤ length (names (g.form n))) (sym d.rest) (omega arith)

    still : Still x (evaluate x n).st
    still = evaluate_ring Still renews_still x n

    -- a fact of the run, in which the formula is taken from what was given
    as_run : (P : St → Type 0) → P (set_fl (logged (eval_by (read_w (fresh x.size) n) (g.form n) x) n) n f2) → P (new_effect s o t)
    unfolding new_effect
    as_run P r = subst (λ (f : Tree). P (set_fl (logged (eval_by (read_w (fresh x.size) n) f x) n) n f2)) (sym (ap (λ (z : Given). z.form n) d.inside.same)) r

    pub effect_reads : (m : ℕ) → m < s.size → s.kind m ≡ effect → ReadsStay s (new_effect s o t) m
    unfolding new_effect logged
    effect_reads m h km =
        let ok : x.kind ≡ g.kind = ap (λ (z : Given). z.kind) d.inside.same in
        let r = first_reads g st n (omega arith) kn x x d.inside d.owns d.inside (frame_same g (Near g st n) n x) d.done left m (up_other s.kind n effect m (λ q. omega arith) ∙ km) (λ q. omega arith) in
        stay_then s x (new_effect s o t) m (d.reads m h) (same_stay g.kind x (new_effect s o t) m ok (ap (λ (f : Fixed). f.nodes.kind) still.same ∙ ok) (as_run (λ (y : St). SameReads g.kind x y m) r))

    -- no mark changes but its own
    pub effect_marks : (m : ℕ) → readable (up s.kind s.size effect m) ≡ false → (new_effect s o t).gone m ≡ up s.gone s.size false m
    unfolding logged
    effect_marks m r =
        as_run (λ (y : St). y.gone m ≡ x.gone m) ((f_went g st n (omega arith) kn x x d.inside d.owns d.inside (frame_same g (Near g st n) n x) d.done left).gone m r)
        ∙ ap (λ (z : ℕ → Bool). z m) (owned_marks (node s effect t o f6 nothing) n o)

    pub effect_well : Well s (new_effect s o t)
    unfolding new_effect logged
    effect_well =
        let nq : In n x.queue → ⊥ = λ j. not_queued s w effect t o f6 nothing fits (subst (In n) d.queue j) in
        let r = first_run g st n (omega arith) kn x x d.inside d.owns d.inside (frame_same g (Near g st n) n x) d.done left d.rest nq in
        let z : Goes_on g nobody x (new_effect s o t) = as_run (Goes_on g nobody x) r in
        ended s w effect t o f6 nothing fits (new_effect s o t) z.inside (z.stuck ∙ d.stuck) (ap (λ (f : Fixed). f.queue) still.same ∙ d.queue) (ap (λ (f : Fixed). f.depth) still.same ∙ d.depth)
