-- The evaluation of a computed and the update of a node over words are those over lists, given that bringing nodes of lower rank up to date is. Assumes nothing.
use mathlib.Core.Path.{◌≡◌, refl, sym, ap, ◌∙◌, subst}
use mathlib.Core.Logic.{inr}
use mathlib.Core.Bool.{true, false, not}
use mathlib.Core.List.{List, []}
use Prim.Native.Nat.{ℕ, ◌<◌, ◌≤◌}
use native.Mathlib.Omega.{arith}
use lib.Dec.{eqb}
use lib.IntN.{ℤ}
use Rattle.flags.specs.declared.Named.{Named}
use Rattle.values.specs.declared.Value.{Value}
use Rattle.values.specs.Values.{same}
use Rattle.primitive.specs.Words.{SIGNAL, COMPUTED}
use Rattle.trees.specs.Legal.{most_nesting}
use Rattle.trees.proofs.Laid.{Laid}
use Rattle.reading.specs.Tables.{State, state, Told, told, Evaluated}
use Rattle.reading.specs.Steps.{updated_signal, begun_first, begun, finished_first, finished}
use Rattle.reading.specs.Ring.{Ring, start_of, evaluated_by, updated_computed_by, first_by, updated_by}
use Rattle.meaning.specs.State.{St, Kind, signal, computed, effect, scope, readable, f0, f1, f5, up}
use Rattle.meaning.specs.Setters.{set_fl, set_sto}
use Rattle.meaning.specs.Links.{purge}
use Rattle.meaning.specs.Reads.{Ans, Out, settle_w, evaluate_w, first_w, upd_computed, upd_signal, upd_w}
use Rattle.meaning.proofs.Laws.{clash, up_same}
use Rattle.meaning.proofs.Still.{Given}
use Rattle.meaning.proofs.Inside.{Set, also, Static, Inside}
use Rattle.meaning.proofs.Dropping.{flags_inside}
use Rattle.meaning.proofs.Frames.{others, Open}
use Rattle.meaning.proofs.Reading.{Above, Freshens, reads_of, During}
use Rattle.meaning.proofs.Updating.{also_above, purge_apart, begun_at_first, begun_update, first_begins, update_begins}
use Rattle.structure.specs.Rep.{kind_word, has_form, Spelt}
use Rattle.structure.proofs.WordLaws.{spelt_laid}
use Rattle.structure.proofs.Held.{inside_held}
use Rattle.structure.proofs.Ring.{low_at}
use Rattle.structure.proofs.Steps.{Sees, Tells, begun_first_sees, begun_sees, finished_first_sees, finished_sees, signal_sees}
use Rattle.structure.proofs.Evaluation.{evaluation_sim}

module _ (g : Given) (st : Static g) where
  pub kind_in : (X : Set) (s : St) (n : ℕ) (c : Kind) → Inside g X s → g.kind n ≡ c → s.kind n ≡ c
  kind_in X s n c i k = ap (λ (z : Given). z.kind n) i.same ∙ k

  -- fr that does for k does for fewer
  pub freshens_less : (j k : ℕ) (fr : St → ℕ → Ans) → j ≤ k → Freshens g st k fr → Freshens g st j fr
  freshens_less j k fr le f X s n i o h r ab lt = f X s n i o h r ab (omega arith)

  module _ (ran : List ℕ) (C : List ℤ) where
    -- r over words brings nodes of a rank below k up to date as fr does over lists
    abbrev pub Refreshes : ℕ → Ring → (St → ℕ → Ans) → Type 1
    Refreshes k r fr = (X : Set) (x : State) (s : St) (m : ℕ) → Inside g X s → Open g st X s → m < g.size → readable (g.kind m) ≡ true → Above g st X m → m < k → s.stuck ≡ false → Sees ran x C s
        → Sees ran (r.refresh x m) C (settle_w fr s m)

    -- the formula of a node stands at its first cell
    pub form_laid : (X : Set) (x : State) (s : St) (n : ℕ) → Inside g X s → n < g.size → has_form (g.kind n) ≡ true → Sees ran x C s → Laid C (g.form n) (start_of x n)
    form_laid X x s n i h k q =
        let a = q.registers.used in
        let b = q.lengths.of_cells in
        let c : s.used ≤ s.room.cells = subst (λ (z : Given). z.used ≤ z.room.cells) (sym i.same) st.cells_fit in
        let w : Spelt x.nodes C n (s.form n) = q.forms.spelt n (low_at g st X s n i h) (ap (λ (z : Given). has_form (z.kind n)) i.same ∙ k) in
        subst (λ (z : Given). Laid C (z.form n) (start_of x n)) i.same (spelt_laid x.nodes C n (omega arith) (s.form n) w)

    -- ---- the evaluation of a computed n, at rest in s, from s₁, where its flags are 5
    module _ (n : ℕ) (r : Ring) (fr : St → ℕ → Ans) (frs : Freshens g st n fr) (lower : Refreshes n r fr) (X : Set) (h : n < g.size) (kn : g.kind n ≡ computed) (ab : Above g st X n) where
      module _ (j : ℕ) (laid : Laid C (g.form n) j) (y : State) (s₁ : St) (d : During g st (also X n) n s₁ 0 s₁) (own : s₁.fl n ≡ f5) (free : s₁.stuck ≡ false) (q₁ : Sees ran y C s₁) where
        abbrev words : Evaluated
        words = evaluated_by C r n most_nesting y j

        abbrev lists : Out
        lists = evaluate_w fr s₁ n

        went : Sees ran words.after C lists.st × During g st (also X n) n s₁ (reads_of g st n) lists.st × (words.value ≡ lists.val)
        went = evaluation_sim g st n fr frs r ran C lower (also X n) n (inr refl) h (also_above g st X n kn ab) s₁ d.inside (omega arith) free C j y s₁ laid d q₁

        flags_stay : lists.st.fl n ≡ f5
        flags_stay = went.1.calm (ap (λ (z : Named). z.pending) own) ∙ own

        low_after : n < lists.st.size
        low_after = low_at g st (also X n) lists.st n went.1.inside h

        abbrev stored : St
        stored = set_fl (set_sto lists.st n lists.val) n f1

        i_stored : Inside g (also X n) stored
        i_stored =
            let t = lists.st in
            flags_inside g (also X n) (set_sto t n lists.val) n (others g (also X n) t went.1.inside t.cycle (up t.sto n lists.val) t.pend t.depth t.log t.stuck) (inr refl) f1 (λ z. refl)

        ends_first : Sees ran (finished_first words.after n words.value) C stored
        ends_first =
            subst (λ (v : Value). Sees ran (finished_first words.after n v) C stored) (sym went.2)
            (finished_first_sees ran words.after C lists.st n (inside_held g (also X n) lists.st st went.1.inside) went.0 low_after lists.val flags_stay)

        ends : ((finished words.after n words.value).changed ≡ not (same (s₁.sto n) lists.val)) × Sees ran (finished words.after n words.value).after C (purge stored n)
        ends =
            let w = finished_sees ran words.after C lists.st n (inside_held g (also X n) lists.st st went.1.inside) went.0 low_after g st (also X n) lists.val flags_stay h (inr refl) (purge_apart g st X n kn ab) i_stored in
            subst (λ (v : Value). ((finished words.after n v).changed ≡ not (same (s₁.sto n) lists.val)) × Sees ran (finished words.after n v).after C (purge stored n)) (sym went.2)
            (w.1 ∙ ap (λ (v : Value). not (same v lists.val)) went.1.sto, w.0)

      module _ (x : State) (s : St) (i : Inside g X s) (o : Open g st X s) (free : s.stuck ≡ false) (q : Sees ran x C s) where
        abbrev low : n < s.size
        low = low_at g st X s n i h

        laid : Laid C (g.form n) (start_of x n)
        laid = form_laid X x s n i h (ap has_form kn) q

        pub first_sim : s.fl n ≡ f0 → s.done n ≡ [] → s.rest n ≡ [] → Sees ran (first_by C r x n) C (first_w fr s n)
        unfolding first_by first_w
        first_sim e d t =
            ends_first (start_of x n) laid (state (begun_first x.nodes n) x.links x.values) (begun_at_first g st n fr frs X s n i o h ab (omega arith))
            (first_begins g st n fr frs X s n i o h ab (omega arith) kn e d t) (up_same s.fl n f5) free (begun_first_sees ran x C s n (inside_held g X s st i) q low)

        pub update_sim : (s.fl n ≡ f1 → ⊥) → Tells ran C (updated_computed_by C r x n) (upd_computed fr s n)
        unfolding updated_computed_by upd_computed
        update_sim un =
            ends (start_of x n) laid (begun x n) (begun_update g st n fr frs X s n i o h ab (omega arith))
            (update_begins g st n fr frs X s n i o h ab (omega arith) kn un) (up_same s.fl n f5) free (begun_sees ran x C s n (inside_held g X s st i) q low)

    -- ---- the update of a signal or a computed
    module _ (n : ℕ) (r : Ring) (fr : St → ℕ → Ans) (frs : Freshens g st n fr) (lower : Refreshes n r fr) (X : Set) (x : State) (s : St) (i : Inside g X s) (o : Open g st X s) (h : n < g.size)
        (rn : readable (g.kind n) ≡ true) (ab : Above g st X n) (free : s.stuck ≡ false) (q : Sees ran x C s) where
      abbrev by_word : ℕ → Told
      by_word z = elim (eqb z SIGNAL) [ true ↦ updated_signal x n | false ↦ elim (eqb z COMPUTED) [ true ↦ updated_computed_by C r x n | false ↦ told false x ] ]

      pub updated_sim : (s.fl n ≡ f1 → ⊥) → (c : Kind) → g.kind n ≡ c → Tells ran C (updated_by C r x n) (upd_w fr c s n)
      unfolding updated_by upd_w
      updated_sim un signal e =
          let w = signal_sees ran x C s n (inside_held g X s st i) q (low_at g st X s n i h) in
          subst (λ (z : ℕ). Tells ran C (by_word z) (upd_signal s n)) (sym (q.kinds.kind_word_lem n (low_at g st X s n i h) ∙ ap kind_word (kind_in X s n signal i e))) (w.1, w.0)
      updated_sim un computed e =
          subst (λ (z : ℕ). Tells ran C (by_word z) (upd_computed fr s n)) (sym (q.kinds.kind_word_lem n (low_at g st X s n i h) ∙ ap kind_word (kind_in X s n computed i e)))
          (update_sim n r fr frs lower X h e ab x s i o free q un)
      updated_sim un effect e = clash rn (ap readable e)
      updated_sim un scope e = clash rn (ap readable e)
