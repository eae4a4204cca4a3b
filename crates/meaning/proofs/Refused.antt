-- Each refusal number is given exactly when its row holds and no lower number applies; a refused command changes nothing. Assumes nothing.
use Rattle.std.specs.Prelude.{Option, Some}
use mathlib.Core.Path.{◌≡◌, refl, sym, ap, ◌∙◌, subst}
use mathlib.Core.Logic.{◌⊎◌, inl, inr, ◌↔◌}
use mathlib.Core.Bool.{Bool, true, false, not}
use mathlib.Core.List.{List, [], ◌∷◌}
use Prim.Native.Nat.{ℕ, zero, suc, ◌+◌, ◌<◌, ◌≤◌}
use native.Mathlib.Omega.{arith}
use lib.Dec.{leb}
use lib.IntN.{ℤ}
use lib.ListN.{length, get_or}
use borrow.Author.Tests.{eq-eqb, not-true}
use Rattle.meaning.specs.State.{St, nothing}
use Rattle.meaning.specs.Words.{Command, batch_start, batch_end, command_of}
use Rattle.meaning.specs.Refusals.{sight_of, asks_of, most_depth, unknown, wrong_node, gone_node, bad_formula, too_high, no_room, wrong_depth, table, first, refusal}
use Rattle.meaning.specs.WellFormed.{WellFormed}
use Rattle.meaning.specs.Commands.{runs, answer, command}
use Rattle.meaning.proofs.Laws.{false≢true, clash}

-- row i of the table holds, and no row before it
abbrev pub FirstHolds : List Bool → ℕ → Type 0
FirstHolds bs i = (get_or bs i false ≡ true) × ((j : ℕ) → j < i → get_or bs j false ≡ false)

abbrev pub NoneHolds : List Bool → Type 0
NoneHolds bs = (j : ℕ) → get_or bs j false ≡ false

-- no number past the last row
pub first_below : (n : ℕ) (bs : List Bool) → first (suc n) bs ≤ n + length bs
unfolding first
first_below n [] = omega arith
first_below n (true ∷ bs) = omega arith
first_below n (false ∷ bs) = omega (arith, first_below (suc n) bs)

-- ---- one law over any list of rows
first_given : (bs : List Bool) (n i : ℕ) → FirstHolds bs i → first (suc n) bs ≡ suc (n + i)
unfolding first
first_given [] n i h = false≢true h.0
first_given (true ∷ bs) n zero h = omega arith
first_given (true ∷ bs) n (suc i) h = false≢true (sym (h.1 0 (omega arith)))
first_given (false ∷ bs) n zero h = false≢true h.0
first_given (false ∷ bs) n (suc i) h =
    let e : first (suc (suc n)) bs ≡ suc (suc n + i) = first_given bs (suc n) i (h.0, λ j l. h.1 (suc j) (omega arith)) in
    let f : suc (suc n + i) ≡ suc (n + suc i) = omega arith in
    e ∙ f

first_none : (bs : List Bool) (n : ℕ) → NoneHolds bs → first (suc n) bs ≡ 0
unfolding first
first_none [] n h = refl
first_none (true ∷ bs) n h = false≢true (sym (h 0))
first_none (false ∷ bs) n h = first_none bs (suc n) (λ j. h (suc j))

none_more : (bs : List Bool) → NoneHolds bs → (j : ℕ) → get_or (false ∷ bs) j false ≡ false
none_more bs h zero = refl
none_more bs h (suc j) = h j

first_more : (bs : List Bool) (i : ℕ) → FirstHolds bs i → FirstHolds (false ∷ bs) (suc i)
first_more bs i h = (h.0, go)
  where
    go : (j : ℕ) → j < suc i → get_or (false ∷ bs) j false ≡ false
    go zero l = refl
    go (suc j) l = h.1 j (omega arith)

-- no row holds, or there is a first one
found : (bs : List Bool) → NoneHolds bs ⊎ ((i : ℕ) × FirstHolds bs i)
found [] = inl (λ j. refl)
found (true ∷ bs) = inr (0, (refl, λ j l. absurd (omega arith)))
found (false ∷ bs) = go (found bs)
  where
    go : NoneHolds bs ⊎ ((i : ℕ) × FirstHolds bs i) → NoneHolds (false ∷ bs) ⊎ ((i : ℕ) × FirstHolds (false ∷ bs) i)
    go (inl h) = inl (none_more bs h)
    go (inr p) = inr (suc p.0, first_more bs p.0 p.1)

pub first_exact : (bs : List Bool) (i : ℕ) → (first 1 bs ≡ suc i) ↔ FirstHolds bs i
first_exact bs i = (λ e. go e (found bs), λ h. let g = first_given bs 0 i h in omega arith)
  where
    go : first 1 bs ≡ suc i → NoneHolds bs ⊎ ((k : ℕ) × FirstHolds bs k) → FirstHolds bs i
    go e (inl h) = let z = first_none bs 0 h in absurd (omega arith)
    go e (inr p) =
        let g = first_given bs 0 p.0 p.1 in
        let q : p.0 ≡ i = omega arith in
        subst (FirstHolds bs) q p.1

pub first_zero : (bs : List Bool) → (first 1 bs ≡ 0) ↔ NoneHolds bs
first_zero bs = (λ e. go e (found bs), first_none bs 0)
  where
    go : first 1 bs ≡ 0 → NoneHolds bs ⊎ ((k : ℕ) × FirstHolds bs k) → NoneHolds bs
    go e (inl h) = h
    go e (inr p) = let g = first_given bs 0 p.0 p.1 in absurd (omega arith)

-- ---- the nine rows
module _ (well : Bool) (s : St) (rows : ℕ) (ws : List ℤ) where
  abbrev Rows : List Bool
  Rows = table well (sight_of s rows) (command_of ws)

  code_is : (command well s rows ws).code ≡ refusal well (sight_of s rows) ws
  unfolding command answer
  code_is = go (refusal well (sight_of s rows) ws)
    where
      go : (r : ℕ) → (answer r s ws).code ≡ r
      go zero = refl
      go (suc r) = refl

  -- refusal i + 1 is given exactly when row i holds and none before it does
  pub given_exactly : (i : ℕ) → ((command well s rows ws).code ≡ suc i) ↔ FirstHolds Rows i
  unfolding refusal
  given_exactly i = (λ e. (first_exact Rows i).0 (sym code_is ∙ e), λ h. code_is ∙ (first_exact Rows i).1 h)

  -- a command is accepted exactly when no row holds
  pub accepted_exactly : ((command well s rows ws).code ≡ 0) ↔ NoneHolds Rows
  unfolding refusal
  accepted_exactly = (λ e. (first_zero Rows).0 (sym code_is ∙ e), λ h. code_is ∙ (first_zero Rows).1 h)

  -- 1 is given exactly when the tables are not well formed, by whatever tells so
  pub not_well_formed : (well ≡ true) ↔ WellFormed s → ((command well s rows ws).code ≡ 1) ↔ (WellFormed s → ⊥)
  unfolding table
  not_well_formed tells = (
    λ e w. clash (tells.1 w) (not-true well ((given_exactly 0).0 e).0),
    λ h. (given_exactly 0).1 (go h well refl, λ j l. absurd (omega arith)),
  )
    where
      go : (WellFormed s → ⊥) → (b : Bool) → well ≡ b → not b ≡ true
      go h true e = absurd (h (tells.0 e))
      go h false e = refl

  -- of a start or an end only the depth is asked
  abbrev batch : Bool → Command
  batch true = batch_start
  batch false = batch_end

  by_depth : well ≡ true → (b : Bool) → command_of ws ≡ Some (batch b) → wrong_depth (sight_of s rows) (batch b) ≡ true → (command well s rows ws).code ≡ 8
  unfolding table unknown wrong_node gone_node bad_formula too_high no_room wrong_depth asks_of
  by_depth a b q e = (given_exactly 7).1 (subst (λ (o : Option Command). FirstHolds (table well (sight_of s rows) o) 7) (sym q) (e, λ j l. before b j l))
    where
      before : (b : Bool) (j : ℕ) → j < 7 → get_or (table well (sight_of s rows) (Some (batch b))) j false ≡ false
      before b zero l = ap not a
      before true (suc zero) l = refl
      before true (suc (suc zero)) l = refl
      before true (suc (suc (suc zero))) l = refl
      before true (suc (suc (suc (suc zero)))) l = refl
      before true (suc (suc (suc (suc (suc zero))))) l = refl
      before true (suc (suc (suc (suc (suc (suc zero)))))) l = refl
      before false (suc zero) l = refl
      before false (suc (suc zero)) l = refl
      before false (suc (suc (suc zero))) l = refl
      before false (suc (suc (suc (suc zero)))) l = refl
      before false (suc (suc (suc (suc (suc zero))))) l = refl
      before false (suc (suc (suc (suc (suc (suc zero)))))) l = refl
      before b (suc (suc (suc (suc (suc (suc (suc j))))))) l = absurd (omega arith)

  -- an end at depth 0 is refused by 8: over lists it would be stuck (`no_end`)
  pub end_refused : well ≡ true → command_of ws ≡ Some batch_end → s.depth ≡ 0 → (command well s rows ws).code ≡ 8
  unfolding wrong_depth asks_of
  end_refused a q e = by_depth a false q (eq-eqb s.depth 0 e)

  -- and a start at depth 64
  pub start_refused : well ≡ true → command_of ws ≡ Some batch_start → s.depth ≡ most_depth → (command well s rows ws).code ≡ 8
  unfolding wrong_depth asks_of
  start_refused a q e = by_depth a true q (ap (leb most_depth) e)

  -- refused: value 0, runs 0, everything unchanged
  pub refused_unchanged : ((command well s rows ws).code ≡ 0 → ⊥)
      → ((command well s rows ws).st ≡ s) × ((command well s rows ws).val ≡ nothing) × (runs (command well s rows ws) ≡ 0)
  unfolding command answer
  refused_unchanged = go (refusal well (sight_of s rows) ws)
    where
      go : (r : ℕ) → ((answer r s ws).code ≡ 0 → ⊥) → ((answer r s ws).st ≡ s) × ((answer r s ws).val ≡ nothing) × (runs (answer r s ws) ≡ 0)
      go zero h = absurd (h refl)
      go (suc r) h = (refl, refl, refl)
