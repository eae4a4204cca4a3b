-- Asking a dependency over words is asking it over lists, given nodes of lower rank; and so is the check of all dependencies, given that asking each is. Assumes nothing.
use mathlib.Core.Path.{◌≡◌, refl, sym, ap, ap₂, ◌∙◌, subst}
use mathlib.Core.Logic.{◌⊎◌, inl, inr}
use mathlib.Core.Bool.{Bool, true, false}
use mathlib.Core.List.{List, [], ◌++◌}
use Prim.Native.Nat.{ℕ, suc, ◌<◌, ◌≤◌}
use native.Mathlib.Omega.{arith}
use lib.Dec.{ltb}
use lib.IntN.{ℤ}
use borrow.Author.Tests.{lt-ltb, le-ltb}
use Rattle.flags.specs.declared.Named.{Named}
use Rattle.marking.specs.Fields.{flags_of, pending, has_only, without}
use Rattle.reading.specs.Tables.{State, Told, told}
use Rattle.primitive.specs.Words.{DEPS, link_rows, node}
use Rattle.reading.specs.Ring.{Ring, updated_by, settled_by, pending_by, dependency_by, deps_by}
use Rattle.meaning.specs.State.{St, Kind, signal, computed, effect, scope, readable, deps, f1, f17, f33}
use Rattle.meaning.specs.Links.{several}
use Rattle.meaning.specs.Marks.{shallow}
use Rattle.meaning.specs.Played.{byte}
use Rattle.meaning.specs.Reads.{Ans, ans, steady, upd_w, check_w, pending_w, fresh_w}
use Rattle.meaning.specs.WellFormed.{In, ComputedFlags, never, clean, stale, maybe, dirty}
use Rattle.meaning.proofs.Laws.{clash, either}
use Rattle.meaning.proofs.Members.{append_is_nil, nil_none, most_below}
use Rattle.meaning.proofs.Still.{Given}
use Rattle.meaning.proofs.Inside.{Set, Static, Goes, Rests, Inside, own_still, read_moves, moves_read}
use Rattle.meaning.proofs.Frames.{Low, Open, open_frame}
use Rattle.meaning.proofs.Reading.{Above, Freshened, Freshens}
use Rattle.meaning.proofs.Updating.{steady_same, n_off, upd_inside}
use Rattle.structure.proofs.Held.{inside_held}
use Rattle.structure.proofs.Link.{both_ways}
use Rattle.structure.proofs.Ring.{low_at}
use Rattle.structure.proofs.FlagBytes.{without_pending}
use Rattle.structure.proofs.Steps.{Sees, Tells, flags_are}
use Rattle.structure.proofs.Check.{Asks, check_sim}
use Rattle.structure.proofs.Updates.{Refreshes, updated_sim}
use Rattle.structure.proofs.Renewals.{shared, others_tell, by, fresh_by, i_check, o_check, free_check, un_check, cleared_check, pending_goes}

module _ (g : Given) (st : Static g) (ran : List ℕ) (C : List ℤ) where
  -- r over words asks nodes of a rank below k as fr does over lists
  abbrev pub Answers : ℕ → Ring → (St → ℕ → Ans) → Type 1
  Answers k r fr = (X : Set) (x : State) (s : St) (d : ℕ) → Inside g X s → Open g st X s → d < g.size → readable (g.kind d) ≡ true → Above g st X d → d < k → s.stuck ≡ false → (s.fl d).mutable ≡ true → Sees ran x C s
      → Tells ran C (dependency_by C r x d) (shared (fr s d) d)

  -- ---- one dependency
  module _ (n : ℕ) (r : Ring) (fr : St → ℕ → Ans) (frs : Freshens g st n fr) (lower : Refreshes g st ran C n r fr) (X : Set) (x : State) (s : St) (i : Inside g X s) (o : Open g st X s) (h : n < g.size)
      (ab : Above g st X n) (free : s.stuck ≡ false) (q : Sees ran x C s) (rn : readable (g.kind n) ≡ true)
      (checks : g.kind n ≡ computed → (s.fl n).pending ≡ true → (deps s n ≡ [] → ⊥) → Tells ran C (r.check x n) (check_w fr s n)) where
    settles : (y : State) (t : St) (c : Kind) → g.kind n ≡ c → Inside g X t → Open g st X t → t.stuck ≡ false → (t.fl n ≡ f1 → ⊥) → Sees ran y C t → Tells ran C (settled_by C r y n) (shared (upd_w fr c t n) n)
    unfolding settled_by
    settles y t c k j p e un z =
        others_tell g st ran C X (updated_by C r y n) (upd_w fr c t n) n (upd_inside g st n fr frs X t n j p h ab (omega arith) rn un c k).inside h
        (updated_sim g st ran C n r fr frs lower X y t j p h rn ab e z un c k)

    asks_pending : (kn : g.kind n ≡ computed) → s.fl n ≡ f33 → (s.done n ≡ [] → ⊥) → Tells ran C (pending_by C r x n) (shared (pending_w fr s n) n)
    unfolding pending_by pending_w
    asks_pending kn e some =
        let pd : (s.fl n).pending ≡ true = ap (λ (z : Named). z.pending) e in
        let ne : deps s n ≡ [] → ⊥ = λ z. some (append_is_nil (s.done n) (s.rest n) z).0 in
        let c = r.check x n in
        let w = checks kn pd ne in
        let k = check_w fr s n in
        let t = k.st in
        let it : Inside g X t = i_check g st ran C n r fr frs lower X x s i o h ab free q kn pd ne c w in
        both_ways (λ (y : Told) (a : Ans). Tells ran C y (shared a n)) c.changed k.yes w.0
        (λ z. settles c.after t (s.kind n) (sym (ap (λ (y : Given). y.kind n) i.same)) it (o_check g st ran C n r fr frs lower X x s i o h ab free q kn pd ne c w)
        (free_check g st ran C n r fr frs lower X x s i o h ab free q kn pd ne c w) (un_check g st ran C n r fr frs lower X x s i o h ab free q kn pd ne c w) w.1)
        (λ z. let flag = cleared_check g st ran C n r fr frs lower X x s i o h ab free q kn pd ne c w z in
        let one : without (flags_of c.after.nodes n) pending ≡ 1 = ap (λ (y : ℕ). without y pending) (flags_are ran c.after C t n w.1 (low_at g st X t n it h)) ∙ without_pending (t.fl n) ∙ ap byte flag in
        (refl, pending_goes g st ran C n r fr frs lower X x s i o h ab free q kn pd ne c w (without (flags_of c.after.nodes n) pending) one z))

    by_flags : ℕ → Told
    by_flags f = elim (has_only f 17 17) [ true ↦ settled_by C r x n | false ↦ elim (has_only f 33 33) [ true ↦ pending_by C r x n | false ↦ told false x ] ]

    abbrev Goal : Kind → Named → Type 0
    Goal c f = Tells ran C (by_flags (byte f)) (shared (by g st ran C n r fr frs lower X x s i o h ab free q c f) n)

    unclean : (s.fl n).dirty ≡ true → s.fl n ≡ f1 → ⊥
    unclean e z = clash e (ap (λ (y : Named). y.dirty) z)

    of_signal : g.kind n ≡ signal → (s.fl n ≡ f1) ⊎ (s.fl n ≡ f17) → Goal signal (s.fl n)
    unfolding by_flags has_only
    of_signal k (inl e) = subst (Goal signal) (sym e) (refl, q)
    of_signal k (inr e) = subst (Goal signal) (sym e) (settles x s signal k i o free (unclean (ap (λ (y : Named). y.dirty) e)) q)

    of_computed : g.kind n ≡ computed → (s.fl n).mutable ≡ true → ComputedFlags (s.fl n) (s.done n) (s.subs n) → Goal computed (s.fl n)
    unfolding by_flags has_only
    of_computed k m (never e d u) = clash m (ap (λ (y : Named). y.mutable) e)
    of_computed k m (clean e) = subst (Goal computed) (sym e) (refl, q)
    of_computed k m (stale e d) = subst (Goal computed) (sym e) (settles x s computed k i o free (unclean (ap (λ (y : Named). y.dirty) e)) q)
    of_computed k m (maybe e d) = subst (Goal computed) (sym e) (asks_pending k e d)
    of_computed k m (dirty e d) = subst (Goal computed) (sym e) (settles x s computed k i o free (unclean (ap (λ (y : Named). y.dirty) e)) q)

    by_kind : (s.fl n).mutable ≡ true → Rests g s n → (c : Kind) → g.kind n ≡ c → Goal c (s.fl n)
    by_kind m a signal k = of_signal k (a.of_signal k)
    by_kind m a computed k = of_computed k m (a.of_computed k)
    by_kind m a effect k = clash rn (ap readable k)
    by_kind m a scope k = clash rn (ap readable k)

    pub ask_sim : (s.fl n).mutable ≡ true → Tells ran C (dependency_by C r x n) (shared (fresh_w fr s n) n)
    unfolding dependency_by by_flags
    ask_sim m =
        subst (λ (a : Ans). Tells ran C (by_flags (flags_of x.nodes n)) (shared a n)) (sym (fresh_by g st ran C n r fr frs lower X x s i o h ab free q (g.kind n) refl))
        (subst (λ (z : ℕ). Tells ran C (by_flags z) (shared (by g st ran C n r fr frs lower X x s i o h ab free q (g.kind n) (s.fl n)) n)) (sym (flags_are ran x C s n q (low_at g st X s n i h)))
        (by_kind m (i.rests n h (n_off g st n fr frs X s n i o h ab (omega arith) rn)) (g.kind n) refl))

  -- ---- all dependencies of u
  module _ (u : ℕ) (r : Ring) (fr : St → ℕ → Ans) (frs : Freshens g st u fr) (answers : Answers u r fr) (X : Set) (hu : u < g.size)
      (above : (m : ℕ) → X m → readable (g.kind m) ≡ true → u ≤ m) (apart : (d : ℕ) → d < g.size → Goes g d u → X d → ⊥) where
    -- all along
    record Mid (ds : List ℕ) (s : St) : Type 0 where
      pub inside : Inside g X s
      pub opened : Open g st X s
      pub free : s.stuck ≡ false
      pub lists : deps s u ≡ ds

    module _ (ds : List ℕ) (s : St) (l : ℕ) (p : Mid ds s) (j : In l ds) where
      abbrev d : ℕ
      d = s.dep l

      lv : (s.live l ≡ true) × (s.sub l ≡ u)
      lv = p.inside.lists.deps_live l u (subst (In l) (sym p.lists) j)

      hd : d < g.size
      hd = (p.inside.lists.inside l lv.0).0

      gd : Goes g d u
      gd = subst (Goes g d) lv.1 (p.inside.goes l lv.0)

      rests : Rests g s d
      rests = p.inside.rests d hd (apart d hd gd)

      held : In l (s.subs d)
      held = p.inside.lists.live_in_subs l lv.0

      -- only what u owns is of higher rank, and that has no MUTABLE
      lower : ltb d u ≡ (s.fl d).mutable
      lower = either (readable (g.kind d))
          (λ e. lt-ltb d u (gd.lower e) ∙ sym (read_moves g s.queue s.dep s.sub d _ _ _ _ _ rests l held e))
          (λ e. let z = st.owner_lower d u hd (gd.owned e) in le-ltb d u (omega arith) ∙ sym (own_still g s.queue s.dep s.sub d _ _ _ _ _ rests e))

      module _ (m : (s.fl d).mutable ≡ true) where
        rd : readable (g.kind d) ≡ true
        rd = moves_read g s.queue s.dep s.sub d _ _ _ _ _ rests m

        d_low : d < u
        d_low = gd.lower rd

        ab : Above g st X d
        ab n xn e = let z = above n xn e in let y = d_low in omega arith

        freshened : Freshened g st X s d (fr s d)
        freshened = frs X s d p.inside p.opened hd rd ab d_low

        -- what is asked stays subscribed to as it was
        steady_is : steady (s.subs d) (fr s d).st d ≡ (fr s d).st
        steady_is = steady_same (s.subs d) (fr s d).st d (freshened.frame.subs d (λ z. omega arith)) (λ z. nil_none (s.subs d) l z held)

        u_far : Low g (suc d) u → ⊥
        u_far z = let a = z.1 in let b = d_low in omega arith

        X-far : (n : ℕ) → X n → Low g (suc d) n → ⊥
        X-far n xn z = let a = above n xn (ap readable z.0) in let b = z.1 in let c = d_low in omega arith

        mid_after : Mid ds (fr s d).st
        mid_after =
            let f = freshened.frame in
            record {
              inside = freshened.inside;
              opened = open_frame g st X (Low g (suc d)) d s (fr s d).st p.inside freshened.inside f X-far p.opened;
              free = f.stuck ∙ p.free;
              lists = ap₂ (λ (a b : List ℕ). a ++ b) (f.lists u u_far).0 (f.lists u u_far).1 ∙ p.lists;
            }

        abbrev others : St → St
        others t = elim (several (t.subs d)) [ true ↦ shallow t d | false ↦ t ]

        asks : (x : State) → Sees ran x C s → Asks C r u fr ran C (Mid ds) ds x s d
        asks x q =
            let a = fr s d in
            let w = answers X x s d p.inside p.opened hd rd ab d_low p.free m q in
            let pick : Bool → Ans = λ b. elim b [ true ↦ ans (others a.st) true | false ↦ ans a.st false ] in
            record {
              same = either a.yes (λ e. w.0 ∙ ap (λ (b : Bool). (pick b).yes) e ∙ sym e) (λ e. w.0 ∙ ap (λ (b : Bool). (pick b).yes) e ∙ sym e);
              changed = λ e. subst (λ (t : St). Sees ran (dependency_by C r x d).after C (others t)) (sym steady_is) (subst (λ (b : Bool). Sees ran (dependency_by C r x d).after C (pick b).st) e w.1);
              unchanged = λ e. subst (λ (t : St). Sees ran (dependency_by C r x d).after C t × Mid ds t) (sym steady_is) (subst (λ (b : Bool). Sees ran (dependency_by C r x d).after C (pick b).st) e w.1, mid_after);
            }

    pub check_tells : (x : State) (s : St) → Inside g X s → Open g st X s → s.stuck ≡ false → (deps s u ≡ [] → ⊥) → Sees ran x C s → (j : ℕ) → link_rows x.links ≤ j
        → Tells ran C (deps_by C r u j x (node x.nodes u DEPS)) (check_w fr s u)
    check_tells x s i o free some q j many =
        let w = inside_held g X s st i in
        check_sim C r u fr ran C (Mid (deps s u)) (deps s u) (λ t p. p.lists) (λ t p. low_at g st X t u p.inside hu) (λ t l p j. lower (deps s u) t l p j) (λ y t l j p z e m. asks (deps s u) t l p j m y z)
        x s (record { inside = i; opened = o; free = free; lists = refl }) q some
        (most_below s.room.slots (deps s u) (w.lists.deps_once u) (λ l j. w.lists.live_slot l (w.lists.deps_live l u j).0)) j many
