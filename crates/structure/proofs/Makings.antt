-- The making of nodes over words is the making of nodes over lists: a signal, a computed, a scope, and an effect up to its run. Assumes nothing.
use Rattle.std.specs.Prelude.{Option, None, Some}
use mathlib.Core.Path.{◌≡◌, refl, sym, ap, ◌∙◌, subst, fun_ext}
use mathlib.Core.Bool.{false}
use mathlib.Core.List.{List, []}
use Prim.Native.Nat.{ℕ, suc, min}
use native.Mathlib.Omega.{arith}
use lib.IntN.{ℤ, pos}
use Rattle.flags.specs.declared.Named.{Named}
use Rattle.values.specs.declared.Value.{Value}
use Rattle.primitive.specs.Slots.{slot_of}
use Rattle.values.specs.Values.{value}
use Rattle.primitive.specs.declared.kinds.Kind.{Kind as NodeKind}
use Rattle.primitive.specs.declared.kinds.Kind.TheVariants.{Signal, Computed, Effect, Scope}
use Rattle.primitive.specs.Words.{LEVEL, node as word}
use Rattle.trees.specs.Trees.{Tree, constant, written, names}
use Rattle.trees.specs.Names.{tallest, tallest_in, height_in, most_height}
use Rattle.trees.proofs.Ends.{all_named-written}
use Rattle.counting.specs.Depths.{depth_under}
use Rattle.linking.specs.Table.{tab}
use Rattle.reading.specs.Tables.{State}
use Rattle.operating.specs.declared.making.Sort.{Sort}
use Rattle.operating.specs.Making.{Made, made, make, owned_by, owned, sort, bits, owned_sort, new_signal, new_computed, new_scope}
use Rattle.operating.specs.Runs.{running}
use Rattle.meaning.specs.State.{St, Kind, signal, computed, effect, scope, readable, f0, f1, f6, nothing}
use Rattle.meaning.specs.Engine.{tallest as tallestOf, height_of, depth_under as depthUnderOf, node, owned as ownedL, new_signal as signalL, new_computed as computedL, new_scope as scopeL}
use Rattle.meaning.specs.WellFormed.{WellFormed}
use Rattle.meaning.proofs.Laws.{false≢true}
use Rattle.meaning.proofs.Inside.{nobody, also}
use Rattle.meaning.proofs.Making.{Fits, G, new_static, new_inside}
use Rattle.meaning.proofs.Made.{made as madeL}
use Rattle.structure.specs.Rep.{owner_word}
use Rattle.structure.proofs.WordLaws.{owner_back, tallest_same, depth_same}
use Rattle.structure.proofs.Held.{inside_held}
use Rattle.structure.proofs.Link.{link_shows}
use Rattle.structure.proofs.Steps.{Sees}
use Rattle.structure.proofs.Evaluation.{slot_found}
use Rattle.structure.proofs.NewNode.{Says, make_is, make_sees}

-- the tables after a making represent the state after it, and its number is the next one
pub record Makes (m : Made) (s t : St) : Type 0 where
  pub sees : Sees [] m.after m.cells t
  pub number : m.number ≡ s.size

module _ (x : State) (C : List ℤ) (s : St) (r : Sees [] x C s) where
  made_as : (k : Sort) (ws : List ℤ) (v : Value) (K : Kind) (t : Tree) (o : Option ℕ) (b : Named) → Fits s K t o → Says s k ws K t o b → Makes (make x C k ws v) s (node s K t o b v)
  made_as k ws v K t o b fits says =
      let e = make_is [] x C s k ws v K t o b r fits says in
      subst (λ (m : Made). Makes m s (node s K t o b v)) (sym e) (record { sees = make_sees [] x C s k ws v K t o b r fits says; number = refl })

  pub signal_makes : (v : Value) → Fits s signal (constant (pos 0)) None → Makes (new_signal x C v) s (signalL s v)
  unfolding new_signal signalL
  signal_makes v fits = made_as (sort Signal (bits 1) 0 0) [] v signal (constant (pos 0)) None f1 fits (record { kind = refl; flags = refl; owner = refl; level = refl; written = λ e. false≢true e; without = λ e. (refl, refl) })

  -- heights and owner depths are the same
  levels : (λ (n : ℕ). word x.nodes n LEVEL) ≡ s.level
  levels = fun_ext r.kinds.level

  height_is : (t : Tree) → height_in x.nodes (written t) ≡ height_of s.level t
  unfolding height_in tallest_in
  height_is t = ap suc (ap (tallest x.nodes) (all_named-written t) ∙ tallest_same x.nodes (names t) ∙ ap (λ (f : ℕ → ℕ). tallestOf f (names t)) levels)

  depth_is : (o : Option ℕ) → depth_under x.nodes (owner_word o) ≡ depthUnderOf s.level o
  depth_is o = depth_same x.nodes (owner_word o) ∙ ap (depthUnderOf (λ (n : ℕ). word x.nodes n LEVEL)) (owner_back o) ∙ ap (λ (f : ℕ → ℕ). depthUnderOf f o) levels

  pub computed_makes : (ws : List ℤ) (t : Tree) → ws ≡ written t → Fits s computed t None → Makes (new_computed x C ws) s (computedL s t)
  unfolding new_computed computedL
  computed_makes ws t e fits =
      let h : height_in x.nodes ws ≡ height_of s.level t = ap (height_in x.nodes) e ∙ height_is t in
      let low = fits.level in
      made_as (sort Computed (bits 0) 0 (min (suc most_height) (height_in x.nodes ws))) ws (value (pos 0)) computed t None f0 fits
      (record { kind = refl; flags = refl; owner = refl; level = omega arith; written = λ q. e; without = λ q. false≢true (sym q) })

  -- ---- with an owner
  module _ (w : WellFormed s) (free : s.stuck ≡ false) (o : Option ℕ) where
    -- the owner depends on it
    owned_sees : (K : Kind) (t : Tree) (b : Named) (calm : b.pending ≡ false) (fits : Fits s K t o) → readable K ≡ false → (y : State) (C' : List ℤ) → Sees [] y C' (node s K t o b nothing)
        → Sees [] (owned y s.size (owner_word o)) C' (ownedL (node s K t o b nothing) s.size o)
    unfolding owned
    owned_sees K t b calm fits q y C' z = go o refl
      where
        go : (p : Option ℕ) → o ≡ p → Sees [] (owned_by y s.size (slot_of (owner_word p))) C' (ownedL (node s K t o b nothing) s.size p)
        go None e = z
        go (Some p) e =
            let N : St = node s K t o b nothing in
            let st = new_static s w K t o b nothing fits in
            let i = new_inside s w K t o b nothing fits calm in
            let low = (fits.owner p e).0 in
            let k : (ownedL N s.size (Some p)).stuck ≡ false = subst (λ (a : Option ℕ). (ownedL N s.size a).stuck ≡ false) e ((madeL s w K t b nothing calm o fits (λ a h. q)).stuck ∙ free) in
            link_shows [] (tab y.nodes y.links) y.values C' N s.size p 0 (inside_held (G s w K t o b nothing fits) (also nobody s.size) N st i) z (omega arith) (omega arith) (slot_found N s.size p 0 k)

    -- a new node with the link to its owner
    abbrev pub with_owner : Made → Made
    with_owner m = made m.number (owned m.after m.number (owner_word o)) m.cells

    owned_makes : (k : NodeKind) (f : ℕ) (ws : List ℤ) (K : Kind) (t : Tree) (b : Named) → b.pending ≡ false → (fits : Fits s K t o) → readable K ≡ false → Says s (owned_sort x k f (owner_word o)) ws K t o b
        → Makes (with_owner (make x C (owned_sort x k f (owner_word o)) ws (value (pos 0)))) s (ownedL (node s K t o b nothing) s.size o)
    owned_makes k f ws K t b calm fits q says =
        let m = make x C (owned_sort x k f (owner_word o)) ws (value (pos 0)) in
        let d = made_as (owned_sort x k f (owner_word o)) ws (value (pos 0)) K t o b fits says in
        record {
          sees = subst (λ (z : ℕ). Sees [] (owned m.after z (owner_word o)) m.cells (ownedL (node s K t o b nothing) s.size o)) (sym d.number) (owned_sees K t b calm fits q m.after m.cells d.sees);
          number = d.number;
        }

    pub scope_makes : Fits s scope (constant (pos 0)) o → Makes (new_scope x C (owner_word o)) s (scopeL s o)
    unfolding new_scope scopeL
    scope_makes fits =
        let e = depth_is o in
        let low = fits.level in
        owned_makes Scope 0 [] scope (constant (pos 0)) f0 refl fits refl (record { kind = refl; flags = refl; owner = refl; level = omega arith; written = λ q. false≢true q; without = λ q. (refl, refl) })

    -- an effect, before its run
    pub effect_makes : (ws : List ℤ) (t : Tree) → ws ≡ written t → Fits s effect t o
        → Makes (with_owner (make x C (owned_sort x Effect running (owner_word o)) ws (value (pos 0)))) s (ownedL (node s effect t o f6 nothing) s.size o)
    effect_makes ws t q fits =
        let e = depth_is o in
        let low = fits.level in
        owned_makes Effect running ws effect t f6 refl fits refl (record { kind = refl; flags = refl; owner = refl; level = omega arith; written = λ z. q; without = λ z. false≢true (sym z) })
