-- Bringing a node up to date over words is bringing it up to date over lists, given nodes of lower rank, and the check of the node's own dependencies. Assumes nothing.
use mathlib.Core.Path.{◌≡◌, refl, sym, ap, ◌∙◌, subst}
use mathlib.Core.Logic.{◌⊎◌, inl, inr}
use mathlib.Core.Bool.{true, false}
use mathlib.Core.List.{List, []}
use Prim.Native.Nat.{ℕ, ◌<◌}
use native.Mathlib.Omega.{arith}
use lib.Dec.{eqb}
use lib.IntN.{ℤ}
use Rattle.flags.specs.declared.Named.{Named}
use Rattle.flags.specs.Flags.{bit, named}
use Rattle.primitive.specs.Words.{SIGNAL, COMPUTED}
use Rattle.linking.specs.Table.{tab}
use Rattle.marking.specs.Fields.{flags_of, set_flags, dirty, pending, has, without}
use Rattle.reading.specs.Tables.{State, state, Told, told}
use Rattle.reading.specs.Steps.{woken_others, updated_signal, waken_if, refreshed_signal}
use Rattle.reading.specs.Ring.{Ring, checked_by, updated_computed_by, first_by, renewed_by, surely_by, refreshed_computed_by, refreshed_by}
use Rattle.meaning.specs.State.{St, Kind, signal, computed, effect, scope, readable, bare, deps, f1, f17, f33, with_pending}
use Rattle.meaning.specs.Setters.{set_fl}
use Rattle.meaning.specs.Links.{several}
use Rattle.meaning.specs.Marks.{shallow}
use Rattle.meaning.specs.Played.{byte}
use Rattle.meaning.specs.Reads.{Ans, ans, spread, first_w, upd_computed, upd_signal, upd_w, check_w, pending_w, fresh_w}
use Rattle.meaning.specs.WellFormed.{ComputedFlags, never, clean, stale, maybe, dirty as soiled}
use Rattle.meaning.proofs.Laws.{clash}
use Rattle.meaning.proofs.Members.{append_is_nil}
use Rattle.meaning.proofs.Still.{Given}
use Rattle.meaning.proofs.Inside.{Set, Static, Inside}
use Rattle.meaning.proofs.Frames.{Open}
use Rattle.meaning.proofs.Reading.{Above, Freshens}
use Rattle.meaning.proofs.Updating.{n_off, update_inside, signal_inside, n_checked, n_open, n_unclean, n_cleared}
use Rattle.structure.specs.Rep.{kind_word}
use Rattle.structure.proofs.Held.{inside_held}
use Rattle.structure.proofs.Link.{both_ways}
use Rattle.structure.proofs.Ring.{low_at}
use Rattle.structure.proofs.Stored.{flag_shows}
use Rattle.structure.proofs.Shallow.{woken_shows, others_shows}
use Rattle.structure.proofs.Steps.{Sees, Tells, flags_are, signal_sees}
use Rattle.structure.proofs.Updates.{kind_in, Refreshes, first_sim, update_sim}

-- where one of them asks, it wakes the others
abbrev pub shared : Ans → ℕ → Ans
shared a n = elim a.yes [ true ↦ ans (elim (several (a.st.subs n)) [ true ↦ shallow a.st n | false ↦ a.st ]) true | false ↦ ans a.st false ]

module _ (g : Given) (st : Static g) (ran : List ℕ) (C : List ℤ) where
  pub wakes_sees : (X : Set) (t : Told) (a : Ans) (n : ℕ) → Inside g X a.st → n < g.size → Tells ran C t a → Sees ran (waken_if t n) C (spread a n)
  unfolding waken_if
  wakes_sees X t a n i h w =
      both_ways (λ (p : State) (z : St). Sees ran p C z) t.changed a.yes w.0
      (λ c. woken_shows g st X ran (tab t.after.nodes t.after.links) t.after.values C a.st n i w.1 (low_at g st X a.st n i h))
      (λ c. w.1)

  pub others_tell : (X : Set) (t : Told) (a : Ans) (n : ℕ) → Inside g X a.st → n < g.size → Tells ran C t a
      → Tells ran C (elim t.changed [ true ↦ told true (state (woken_others t.after.links t.after.nodes n) t.after.links t.after.values) | false ↦ told false t.after ]) (shared a n)
  others_tell X t a n i h w =
      both_ways (Tells ran C) t.changed a.yes w.0
      (λ c. (refl, others_shows g st X ran (tab t.after.nodes t.after.links) t.after.values C a.st n i w.1 (low_at g st X a.st n i h)))
      (λ c. (refl, w.1))

  module _ (n : ℕ) (r : Ring) (fr : St → ℕ → Ans) (frs : Freshens g st n fr) (lower : Refreshes g st ran C n r fr) (X : Set) (x : State) (s : St) (i : Inside g X s) (o : Open g st X s) (h : n < g.size)
      (ab : Above g st X n) (free : s.stuck ≡ false) (q : Sees ran x C s) where
    abbrev low : n < s.size
    low = low_at g st X s n i h

    -- what the list operation does, by the flags
    abbrev pub by : Kind → Named → Ans
    by c f =
        elim (bare f) [
          | true ↦ ans (first_w fr s n) false
          | false ↦ elim f.dirty [
            | true ↦ upd_w fr c s n
            | false ↦ elim f.pending [ true ↦ pending_w fr s n | false ↦ ans s false ]
          ]
        ]

    pub fresh_by : (c : Kind) → g.kind n ≡ c → fresh_w fr s n ≡ by c (s.fl n)
    unfolding fresh_w
    fresh_by c k = ap (λ (z : Kind). by z (s.fl n)) (kind_in g st X s n c i k)

    -- ---- a signal
    module _ (kn : g.kind n ≡ signal) where
      signal_word : ℕ → State
      signal_word f = elim (has f dirty) [ true ↦ waken_if (updated_signal x n) n | false ↦ x ]

      signal_by : (s.fl n ≡ f1) ⊎ (s.fl n ≡ f17) → Sees ran (signal_word (byte (s.fl n))) C (spread (by signal (s.fl n)) n)
      unfolding signal_word has upd_w
      signal_by (inl e) = subst (λ (f : Named). Sees ran (signal_word (byte f)) C (spread (by signal f) n)) (sym e) q
      signal_by (inr e) =
          let w = signal_sees ran x C s n (inside_held g X s st i) q low in
          let f = signal_inside g st n fr frs X s n i o h ab (omega arith) kn (λ z. clash (ap (λ (y : Named). y.dirty) e) (ap (λ (y : Named). y.dirty) z)) in
          subst (λ (f : Named). Sees ran (signal_word (byte f)) C (spread (by signal f) n)) (sym e) (wakes_sees X (updated_signal x n) (upd_signal s n) n f.inside h (w.1, w.0))

      signal_sim : Sees ran (refreshed_signal x n) C (spread (fresh_w fr s n) n)
      unfolding refreshed_signal signal_word
      signal_sim =
          subst (λ (a : Ans). Sees ran (signal_word (flags_of x.nodes n)) C (spread a n)) (sym (fresh_by signal kn))
          (subst (λ (z : ℕ). Sees ran (signal_word z) C (spread (by signal (s.fl n)) n)) (sym (flags_are ran x C s n q low))
          (signal_by ((i.rests n h (n_off g st n fr frs X s n i o h ab (omega arith) (ap readable kn))).of_signal kn)))

    -- ---- a computed
    module _ (kn : g.kind n ≡ computed) where
      renewed : (y : State) (t : St) → Inside g X t → Open g st X t → t.stuck ≡ false → (t.fl n ≡ f1 → ⊥) → Sees ran y C t → Sees ran (renewed_by C r y n) C (spread (upd_computed fr t n) n)
      unfolding renewed_by
      renewed y t j p fr' un z =
          wakes_sees X (updated_computed_by C r y n) (upd_computed fr t n) n (update_inside g st n fr frs X t n j p h ab (omega arith) kn un).inside h
          (update_sim g st ran C n r fr frs lower X h kn ab y t j p fr' z un)

      -- the check has said no, and PENDING goes
      module _ (pd : (s.fl n).pending ≡ true) (ne : deps s n ≡ [] → ⊥) (c : Told) (w : Tells ran C c (check_w fr s n)) where
        abbrev rn : readable (g.kind n) ≡ true
        rn = ap readable kn

        abbrev t : St
        t = (check_w fr s n).st

        pub i_check : Inside g X t
        i_check = (n_checked g st n fr frs X s n i o h rn ab (omega arith) kn pd ne).inside

        pub o_check : Open g st X t
        o_check = n_open g st n fr frs X s n i o h rn ab (omega arith) kn pd ne

        pub free_check : t.stuck ≡ false
        free_check = (n_checked g st n fr frs X s n i o h rn ab (omega arith) kn pd ne).frame.stuck ∙ free

        pub un_check : t.fl n ≡ f1 → ⊥
        un_check = n_unclean g st n fr frs X s n i o h rn ab (omega arith) kn pd ne

        pub cleared_check : (check_w fr s n).yes ≡ false → with_pending (t.fl n) false ≡ f1
        cleared_check = n_cleared g st n fr frs X s n i o h rn ab (omega arith) kn pd ne

        pub pending_goes : (z : ℕ) → z ≡ 1 → (check_w fr s n).yes ≡ false → Sees ran (state (set_flags c.after.nodes n z) c.after.links c.after.values) C (set_fl t n (with_pending (t.fl n) false))
        unfolding named bit
        pending_goes z e same =
            subst (λ (f : Named). Sees ran (state (set_flags c.after.nodes n z) c.after.links c.after.values) C (set_fl t n f)) (sym (cleared_check same))
            (subst (λ (f : ℕ). Sees ran (state (set_flags c.after.nodes n f) c.after.links c.after.values) C (set_fl t n f1)) (sym e)
            (flag_shows ran (tab c.after.nodes c.after.links) c.after.values C t n (inside_held g X t st i_check) w.1 (low_at g st X t n i_check h) 1 f1 refl refl))

      module _ (checks : (s.fl n).pending ≡ true → (deps s n ≡ [] → ⊥) → Tells ran C (checked_by C r x n) (check_w fr s n)) where
        surely : s.fl n ≡ f33 → (s.done n ≡ [] → ⊥) → Sees ran (surely_by C r x n 33) C (spread (pending_w fr s n) n)
        unfolding surely_by pending_w upd_w
        surely e some =
            let pd : (s.fl n).pending ≡ true = ap (λ (z : Named). z.pending) e in
            let ne : deps s n ≡ [] → ⊥ = λ z. some (append_is_nil (s.done n) (s.rest n) z).0 in
            let c = checked_by C r x n in
            let w = checks pd ne in
            let k = check_w fr s n in
            both_ways (λ (y : State) (a : Ans). Sees ran y C (spread a n)) c.changed k.yes w.0
            (λ e. subst (λ (z : Kind). Sees ran (renewed_by C r c.after n) C (spread (upd_w fr z k.st n) n)) (sym (kind_in g st X s n computed i kn))
            (renewed c.after k.st (i_check pd ne c w) (o_check pd ne c w) (free_check pd ne c w) (un_check pd ne c w) w.1))
            (λ e. pending_goes pd ne c w (without 33 pending) refl e)

        computed_word : ℕ → State
        computed_word f =
            elim (has f dirty) [
              | true ↦ renewed_by C r x n
              | false ↦ elim (has f pending) [ true ↦ surely_by C r x n f | false ↦ elim (eqb f 0) [ true ↦ first_by C r x n | false ↦ x ] ]
            ]

        abbrev Goal : Named → Type 0
        Goal f = Sees ran (computed_word (byte f)) C (spread (by computed f) n)

        computed_by : ComputedFlags (s.fl n) (s.done n) (s.subs n) → s.rest n ≡ [] → Goal (s.fl n)
        unfolding computed_word has upd_w
        computed_by (never e d u) t = subst Goal (sym e) (first_sim g st ran C n r fr frs lower X h kn ab x s i o free q e d t)
        computed_by (clean e) t = subst Goal (sym e) q
        computed_by (stale e d) t = subst Goal (sym e) (renewed x s i o free (λ z. clash (ap (λ (y : Named). y.dirty) e) (ap (λ (y : Named). y.dirty) z)) q)
        computed_by (maybe e d) t = subst Goal (sym e) (surely e d)
        computed_by (soiled e d) t = subst Goal (sym e) (renewed x s i o free (λ z. clash (ap (λ (y : Named). y.dirty) e) (ap (λ (y : Named). y.dirty) z)) q)

        computed_sim : Sees ran (refreshed_computed_by C r x n) C (spread (fresh_w fr s n) n)
        unfolding refreshed_computed_by computed_word
        computed_sim =
            let a = i.rests n h (n_off g st n fr frs X s n i o h ab (omega arith) (ap readable kn)) in
            subst (λ (a : Ans). Sees ran (computed_word (flags_of x.nodes n)) C (spread a n)) (sym (fresh_by computed kn))
            (subst (λ (z : ℕ). Sees ran (computed_word z) C (spread (by computed (s.fl n)) n)) (sym (flags_are ran x C s n q low)) (computed_by (a.of_computed kn) a.tail))

    -- ---- either
    module _ (checks : g.kind n ≡ computed → (s.fl n).pending ≡ true → (deps s n ≡ [] → ⊥) → Tells ran C (checked_by C r x n) (check_w fr s n)) where
      by_kind : ℕ → State
      by_kind z = elim (eqb z SIGNAL) [ true ↦ refreshed_signal x n | false ↦ elim (eqb z COMPUTED) [ true ↦ refreshed_computed_by C r x n | false ↦ x ] ]

      pub refresh_sim : (c : Kind) → g.kind n ≡ c → readable c ≡ true → Sees ran (refreshed_by C r x n) C (spread (fresh_w fr s n) n)
      unfolding refreshed_by by_kind
      refresh_sim signal k e = subst (λ (z : ℕ). Sees ran (by_kind z) C (spread (fresh_w fr s n) n)) (sym (q.kinds.kind_word_lem n low ∙ ap kind_word (kind_in g st X s n signal i k))) (signal_sim k)
      refresh_sim computed k e = subst (λ (z : ℕ). Sees ran (by_kind z) C (spread (fresh_w fr s n) n)) (sym (q.kinds.kind_word_lem n low ∙ ap kind_word (kind_in g st X s n computed i k))) (computed_sim k (checks k))
      refresh_sim effect k e = clash e refl
      refresh_sim scope k e = clash e refl
