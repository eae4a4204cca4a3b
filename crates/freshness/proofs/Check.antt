-- (a) settle and (e) check, from (c') for the nodes that they ask. Assumes nothing.
use mathlib.Core.Path.{◌≡◌, refl, sym, ap, ap₂, ◌∙◌, subst}
use mathlib.Core.Logic.{◌⊎◌, inl, inr}
use mathlib.Core.Bool.{true, false}
use mathlib.Core.List.{List, [], ◌∷◌, ◌++◌, append_assoc, append-nil}
use Prim.Native.Nat.{ℕ, suc, ◌+◌, ◌≤◌, ◌<◌}
use native.Mathlib.Omega.{arith}
use Rattle.flags.specs.declared.Named.{Named}
use Rattle.values.specs.declared.Value.{Value}
use Rattle.meaning.specs.State.{St, signal, readable, bare, deps, f1}
use Rattle.meaning.specs.Links.{is_nil, several}
use Rattle.meaning.specs.Marks.{shallow}
use Rattle.meaning.specs.Reads.{Ans, ans, settle_w, steady, check_on, check_w}
use Rattle.meaning.specs.WellFormed.{In}
use Rattle.freshness.specs.Evaluations.{in_check_on, in_check}
pub use Rattle.meaning.proofs.Laws.{branches}
use Rattle.meaning.proofs.Laws.{clash, false≢true, either, branch, in_left, in_right, in_cases}
use Rattle.meaning.proofs.Members.{nil_none, is_nil-true}
use Rattle.meaning.proofs.Still.{Given}
use Rattle.meaning.proofs.Inside.{Set, nobody, also, only, Static, Goes, Inside, read_moves, moves_read}
use Rattle.meaning.proofs.Frames.{Low, Frame, frame_wider, Open, open_frame}
use Rattle.meaning.proofs.Reading.{Above, Freshened, Freshens, settle_spreads, Near}
use Rattle.meaning.proofs.Updating.{steady_same}
use Rattle.freshness.proofs.Inv.{Records, union, Linked, Inv, exempt}
use Rattle.freshness.proofs.Shallow.{shallow_settles}
use Rattle.freshness.proofs.Moves.{Changed, Moves, changed_before, changed_after, moves_same, moves_then, moves_wider, moves_shallow, moves_lift}
use Rattle.freshness.proofs.Signal.{Touched, Fine}
use Rattle.freshness.proofs.Step.{Settles}

-- everybody is exempt
abbrev pub everybody : Set
everybody n = Unit {0}

-- one link only
single : (xs : List ℕ) (a b : ℕ) → several xs ≡ false → In a xs → In b xs → a ≡ b
single (x ∷ []) a b e (inl p) (inr x12) = elim x12 [ ]
single (x ∷ []) a b e (inr x12) j = elim x12 [ ]
single [] a b e i j = elim i [ ]
single (x ∷ []) a b e (inl p) (inl q) = p ∙ sym q
single (x ∷ y ∷ xs) a b e i j = false≢true (sym e)

module _ (g : Given) (st : Static g) (p : ℕ → Value) (ρ : Records) (X : Set) where
  module _ (k : ℕ) (s : St) (n : ℕ) (r : Ans) (fd : Freshened g st X s n r) (fine : Fine g p ρ X k s n r) where
    -- if nothing changed, nobody but X is exempt
    unchanged : r.yes ≡ false → Inv g p ρ X X r.st
    unchanged e = exempt g p ρ X X (union X (Touched r.st n r.yes)) X r.st (λ m z. z) (λ m. go m) fine.keeps
      where
        go : (m : ℕ) → union X (Touched r.st n r.yes) m → X m
        go m (inl a) = a
        go m (inr t) = clash t.0 e

    changed : r.yes ≡ true → Inv g p ρ X X (shallow r.st n)
    changed e =
        shallow_settles g p ρ X X r.st fd.inside.lists n (λ u l. fine.marked u (e, l))
        (exempt g p ρ X X (union X (Touched r.st n r.yes)) (union X (Linked r.st n)) r.st (λ m z. z) (λ m. go m) fine.keeps)
      where
        go : (m : ℕ) → union X (Touched r.st n r.yes) m → union X (Linked r.st n) m
        go m (inl a) = inl a
        go m (inr t) = inr t.1

    differs : r.yes ≡ true → r.st.sto n ≡ s.sto n → ⊥
    differs e q = fine.changed e (sym q ∙ fine.value)

    -- a node that is read has a value already
    not_bare : Inside g X s → (l : ℕ) → s.live l ≡ true → s.dep l ≡ n → readable (g.kind n) ≡ true → (X n → ⊥) → bare (s.fl n) ≡ false
    not_bare i l lv e rn nx =
        let h : n < g.size = subst (λ (x : ℕ). x < g.size) e (i.lists.inside l lv).0 in
        let m = read_moves g s.queue s.dep s.sub n _ _ _ _ _ (i.rests n h nx) l (subst (λ (x : ℕ). In l (s.subs x)) e (i.lists.live_in_subs l lv)) rn in
        go (s.fl n) m
      where
        go : (f : Named) → f.mutable ≡ true → bare f ≡ false
        go f m = rw m refl

    lifted : Inside g X s → readable (g.kind n) ≡ true → (X n → ⊥) → r.yes ≡ false → Moves g p (Low g (suc n)) nobody (suc n) k s r.st
    lifted i rn nx e =
        moves_lift g p (Low g (suc n)) (suc n) k s r.st n (λ l lv h q. fine.value ∙ sym (fine.stays e (not_bare i l lv q rn nx))) fine.moves

  -- (a)
  pub settles_of : (k j : ℕ) (fr : St → ℕ → Ans) → Freshens g st k fr → (s : St) (n : ℕ) → Inside g X s → Open g st X s → n < g.size → readable (g.kind n) ≡ true → Above g st X n → n < k → Fine g p ρ X j s n (fr s n) → Settles g p ρ X j s n (settle_w fr s n)
  settles_of k j fr frs s n i o h rn ab lt fine =
      let r = fr s n in
      let fd = frs X s n i o h rn ab lt in
      let nx : X n → ⊥ = λ x. let a = ab n x rn in omega arith in
      subst (Settles g p ρ X j s n) (sym (settle_spreads g st k fr frs X s n i o h rn ab lt))
      (branch (Settles g p ρ X j s n) r.yes
      (λ e. record {
        keeps = changed j s n r fd fine e;
        value = fine.value;
        moves = moves_shallow g p (Low g (suc n)) n (suc n) j s r.st n i.lists fd.inside.lists fd.frame fine.moves rn (differs j s n r fd fine e);
      })
      (λ e. record { keeps = unchanged j s n r fd fine e; value = fine.value; moves = lifted j s n r fd fine i rn nx e }))

  -- (e)
  pub record Checks (k : ℕ) (s : St) (u : ℕ) (a : Ans) : Type 0 where
    pub stale : a.yes ≡ true → Inv g p ρ X (also X u) a.st
    pub same : a.yes ≡ false → Inv g p ρ X X a.st
    pub clean : a.yes ≡ false → (l : ℕ) → In l (deps s u) → readable (g.kind (s.dep l)) ≡ true → a.st.fl (s.dep l) ≡ f1
    pub changed : a.yes ≡ true → ((s.fl u).dirty ≡ true) ⊎ Changed g s a.st u
    pub moves : Moves g p (Low g u) everybody u k s a.st
    pub round : Moves g p (Near g st u) nobody u k s a.st
    pub calm : a.yes ≡ false → Moves g p (Low g u) nobody u k s a.st

  module _ (k : ℕ) (fr : St → ℕ → Ans) (frs : Freshens g st k fr) (c : St → ℕ → ℕ) (end : ℕ) (u : ℕ) (hu : u < g.size) (le : u ≤ k) (above : (m : ℕ) → X m → readable (g.kind m) ≡ true → u ≤ m) (apart : (d : ℕ) → d < g.size → Goes g d u → X d → ⊥)
      (fines : (t : St) (n : ℕ) → n < u → Inside g X t → Open g st X t → readable (g.kind n) ≡ true → Inv g p ρ X X t → t.cycle + c t n < end → Fine g p ρ X (c t n) t n (fr t n)) where
    off : (m : ℕ) → X m → Low g u m → ⊥
    off m x z = let a = above m x (ap readable z.0) in let b = z.1 in omega arith

    to_near : (j : ℕ) (s t : St) → Moves g p (Low g u) nobody u j s t → Moves g p (Near g st u) nobody u j s t
    to_near j s t m = moves_wider g p (Low g u) (Near g st u) nobody nobody u u j j s t (λ n z. inl z) (λ n z. z) (omega arith) (omega arith) m

    to_all : (j : ℕ) (s t : St) → Moves g p (Low g u) nobody u j s t → Moves g p (Low g u) everybody u j s t
    to_all j s t m = moves_wider g p (Low g u) (Low g u) nobody everybody u u j j s t (λ n z. z) (λ n z. tt) (omega arith) (omega arith) m

    one : {b : ℕ} (j : ℕ) → In j (b ∷ []) → j ≡ b
    one {b = b} j (inr x') = elim x' [ ]
    one j (inl q) = q

    -- u was not dirty in s: if it is in t, or a read of it changes from t to x, one has changed from s to x
    came : (s t x : St) (j b : ℕ) → Inside g X s → Inside g X t → Frame g (Low g u) u s t → Moves g p (Low g u) nobody u j s t → Moves g p (Low g u) everybody u b t x → (g.kind u ≡ signal → ⊥) → (s.fl u).dirty ≡ false
        → ((t.fl u).dirty ≡ true) ⊎ Changed g t x u → ((s.fl u).dirty ≡ true) ⊎ Changed g s x u
    came s t x j b i ti wide m₁ m₂ ns q (inl o) = inr (changed_before g p u s t x m₁.moved m₂.moved u (m₁.soiled u (λ z. let a = z.1 in omega arith) ns q o))
    came s t x j b i ti wide m₁ m₂ ns q (inr o) = inr (changed_after g p u s t x m₁.moved m₂.moved (Low g u) u i.lists ti.lists wide u (λ z. let a = z.1 in omega arith) o)

    -- u is dirty already
    soiled : (s : St) → Inv g p ρ X X s → (s.fl u).dirty ≡ true → Checks 0 s u (ans s true)
    soiled s v q = record {
      stale = λ z. exempt g p ρ X X X (also X u) s (λ m y. y) (λ m y. inl y) v;
      same = λ z. false≢true (sym z);
      clean = λ z. false≢true (sym z);
      changed = λ z. inl q;
      moves = moves_same g p (Low g u) everybody u s;
      round = moves_same g p (Near g st u) nobody u s;
      calm = λ z. moves_same g p (Low g u) nobody u s;
    }

    -- a link l of u to d
    module _ (s : St) (i : Inside g X s) (l d : ℕ) (lin : In l (deps s u)) (to : s.dep l ≡ d) where
      lives : (s.live l ≡ true) × (s.sub l ≡ u)
      lives = i.lists.deps_live l u lin

      hd : d < g.size
      hd = subst (λ (x : ℕ). x < g.size) to (i.lists.inside l lives.0).0

      gd : Goes g d u
      gd = subst (λ (x : ℕ). Goes g x u) to (subst (Goes g (s.dep l)) lives.1 (i.goes l lives.0))

      nx : X d → ⊥
      nx = apart d hd gd

      has : In l (s.subs d)
      has = subst (λ (x : ℕ). In l (s.subs x)) to (i.lists.live_in_subs l lives.0)

      -- to what can be read: d was asked, and answered a
      module _ (r : readable (g.kind d) ≡ true) (a : Ans) (fd : Freshened g st X s d a) where
        abbrev t : St
        t = a.st

        u_far : Low g (suc d) u → ⊥
        u_far z = let y = z.1 in let x = gd.lower r in omega arith

        low : (n : ℕ) → Low g (suc d) n → Low g u n
        low n z = let y = z.1 in let x = gd.lower r in (z.0, omega arith)

        wide : Frame g (Low g u) u s t
        wide = let x = gd.lower r in frame_wider g (Low g (suc d)) (Low g u) d u s t low (omega arith) fd.frame

        subs_same : t.subs d ≡ s.subs d
        subs_same = fd.frame.subs d (λ z. omega arith)

        steadily : steady (s.subs d) t d ≡ t
        steadily = steady_same (s.subs d) t d subs_same (λ z. nil_none (s.subs d) l z has)

        deps_same : deps t u ≡ deps s u
        deps_same = let x = fd.frame.lists u u_far in ap₂ (λ (x z : List ℕ). x ++ z) x.0 x.1

        link_same : (j : ℕ) → In j (deps s u) → (t.dep j ≡ s.dep j) × (t.sub j ≡ s.sub j)
        link_same j z = let w = i.lists.deps_live j u z in let x = fd.frame.links j w.0 (λ x. u_far (subst (Low g (suc d)) w.1 x)) in (x.1, x.2)

        -- those that were looked at are clean still, and d now is
        still_clean : (passed ls : List ℕ) → deps s u ≡ passed ++ l ∷ ls → ((j : ℕ) → In j passed → readable (g.kind (s.dep j)) ≡ true → s.fl (s.dep j) ≡ f1) → (j : ℕ) → In j (passed ++ l ∷ []) → readable (g.kind (t.dep j)) ≡ true → t.fl (t.dep j) ≡ f1
        still_clean passed ls e pass j z b =
            in_cases j passed (l ∷ []) z
            (λ x. let jn : In j (deps s u) = subst (In j) (sym e) (in_left j passed (l ∷ ls) x) in
            let jv = i.lists.deps_live j u jn in
            let dj = (link_same j jn).0 in
            subst (λ (n : ℕ). t.fl n ≡ f1) (sym dj) (fd.frame.held j jv.0 (λ n. u_far (subst (Low g (suc d)) jv.1 n)) (pass j x (subst (λ (n : ℕ). readable (g.kind n) ≡ true) dj b))))
            (λ x. subst (λ (n : ℕ). t.fl n ≡ f1) (sym (ap t.dep (one j x) ∙ (link_same l lin).0 ∙ to)) fd.clean)

        new_at : (x : St) → (x.sto d ≡ s.sto d → ⊥) → Changed g s x u
        new_at x nw = record { link = l; live = lives.0; to = lives.1; reads = subst (λ (n : ℕ). readable (g.kind n) ≡ true) (sym to) r; new = λ z. nw (subst (λ (n : ℕ). x.sto n ≡ s.sto n) to z) }

        module _ (j : ℕ) (fine : Fine g p ρ X j s d a) where
          -- d has another value, and other subscribers: they are marked
          stale_many : a.yes ≡ true → Checks (j + 0) s u (ans (shallow t d) true)
          stale_many y =
              let x = gd.lower r in
              let nw = differs j s d a fd fine y in
              let m₁ = moves_wider g p (Low g (suc d)) (Low g u) nobody nobody (suc d) u j (j + 0) s (shallow t d) low (λ n w. w) (omega arith) (omega arith) (moves_shallow g p (Low g (suc d)) d (suc d) j s t d i.lists fd.inside.lists fd.frame fine.moves r nw) in
              record {
                stale = λ w. exempt g p ρ X X X (also X u) (shallow t d) (λ n x. x) (λ n x. inl x) (changed j s d a fd fine y);
                same = λ w. false≢true (sym w);
                clean = λ w. false≢true (sym w);
                changed = λ w. inr (new_at (shallow t d) nw);
                moves = to_all (j + 0) s (shallow t d) m₁;
                round = to_near (j + 0) s (shallow t d) m₁;
                calm = λ w. m₁;
              }

          -- and no other: l is the one link to d, before and after
          alone : several (t.subs d) ≡ false → (k : ℕ) → In k (s.subs d) → k ≡ l
          alone z k w = single (s.subs d) k l (subst (λ (x : List ℕ). several x ≡ false) subs_same z) w has

          only_u : several (t.subs d) ≡ false → (m : ℕ) → union X (Touched t d a.yes) m → also X u m
          only_u z m (inl w) = inl w
          only_u z m (inr w) =
              let k = w.1 in
              let at : k.slot ≡ l = alone z k.slot (subst (In k.slot) subs_same (subst (λ (n : ℕ). In k.slot (t.subs n)) k.to (fd.inside.lists.live_in_subs k.slot k.is_live))) in
              inr (sym k.from ∙ ap t.sub at ∙ (link_same l lin).1 ∙ lives.1)

          stale_alone : a.yes ≡ true → several (t.subs d) ≡ false → Checks (j + 0) s u (ans t true)
          stale_alone y z =
              let x = gd.lower r in
              let nw = differs j s d a fd fine y in
              record {
                stale = λ w. exempt g p ρ X X (union X (Touched t d a.yes)) (also X u) t (λ n x. x) (only_u z) fine.keeps;
                same = λ w. false≢true (sym w);
                clean = λ w. false≢true (sym w);
                changed = λ w. inr (new_at t nw);
                moves = moves_wider g p (Low g (suc d)) (Low g u) (only d) everybody (suc d) u j (j + 0) s t low (λ n w. tt) (omega arith) (omega arith) fine.moves;
                round = moves_lift g p (Near g st u) u (j + 0) s t d
                    (λ k kv h w. absurd (h (inr (ap s.sub (alone z k (subst (λ (n : ℕ). In k (s.subs n)) w (i.lists.live_in_subs k kv))) ∙ lives.1))))
                    (moves_wider g p (Low g (suc d)) (Near g st u) (only d) (only d) (suc d) u j (j + 0) s t (λ n w. inl (low n w)) (λ n w. w) (omega arith) (omega arith) fine.moves);
                calm = λ w. false≢true (sym w);
              }

          -- d has the value that it had: what is found after it is found
          goes_on : a.yes ≡ false → (s.fl u).dirty ≡ false → (rest : ℕ) (b : Ans) → Checks rest t u b → Checks (j + rest) s u b
          goes_on y q rest b w =
              let lo = gd.lower r in
              let m₁ : Moves g p (Low g u) nobody u j s t = moves_wider g p (Low g (suc d)) (Low g u) nobody nobody (suc d) u j j s t low (λ n w. w) (omega arith) (omega arith) (lifted j s d a fd fine i r nx y) in
              record {
                stale = w.stale;
                same = w.same;
                clean = λ z k kn h. subst (λ (n : ℕ). b.st.fl n ≡ f1) (link_same k kn).0 (w.clean z k (subst (In k) (sym deps_same) kn) (subst (λ (n : ℕ). readable (g.kind n) ≡ true) (sym (link_same k kn).0) h));
                changed = λ z. came s t b.st j rest i fd.inside wide m₁ w.moves gd.of_signal q (w.changed z);
                moves = moves_then g p (Low g u) everybody u u j rest s t b.st i.lists fd.inside.lists wide (to_all j s t m₁) w.moves;
                round = moves_then g p (Near g st u) nobody u u j rest s t b.st i.lists fd.inside.lists (frame_wider g (Low g u) (Near g st u) u u s t (λ n z. inl z) (omega arith) wide) (to_near j s t m₁) w.round;
                calm = λ z. moves_then g p (Low g u) nobody u u j rest s t b.st i.lists fd.inside.lists wide m₁ (w.calm z);
              }

    pub check_keeps : (ls passed : List ℕ) (s : St) → Inside g X s → Open g st X s → deps s u ≡ passed ++ ls → ((l : ℕ) → In l passed → readable (g.kind (s.dep l)) ≡ true → s.fl (s.dep l) ≡ f1) → Inv g p ρ X X s
        → s.cycle + in_check_on fr c u s ls < end → Checks (in_check_on fr c u s ls) s u (check_on fr u s ls)
    unfolding check_on in_check_on
    check_keeps [] passed s i o e pass v = λ fits. record {
      stale = λ q. false≢true q;
      same = λ q. v;
      clean = λ q l j r. pass l (subst (In l) (e ∙ append-nil passed) j) r;
      changed = λ q. false≢true q;
      moves = moves_same g p (Low g u) everybody u s;
      round = moves_same g p (Near g st u) nobody u s;
      calm = λ q. moves_same g p (Low g u) nobody u s;
    }
    check_keeps (l ∷ ls) passed s i o e pass v =
        let P : Ans → ℕ → Type 0 = λ a b. s.cycle + b < end → Checks b s u a in
        let lin : In l (deps s u) = subst (In l) (sym e) (in_right l passed (l ∷ ls) (inl refl)) in
        let d = s.dep l in
        let low : d < g.size = hd s i l d lin refl in
        let out : X d → ⊥ = nx s i l d lin refl in
        let rd = i.rests d low out in
        let next : deps s u ≡ (passed ++ l ∷ []) ++ ls = e ∙ sym (append_assoc passed (l ∷ []) ls) in
        branches P (s.fl u).dirty (λ q fits. soiled s v q)
        (λ q. branches P (s.fl d).mutable
        (λ m. let r : readable (g.kind d) ≡ true = moves_read g s.queue s.dep s.sub d _ _ _ _ _ rd m in
        let lo = (gd s i l d lin refl).lower r in
        let a = fr s d in
        let fd = frs X s d i o low r (λ n x y. let z = above n x y in omega arith) (omega arith) in
        subst (λ (x : St). P (elim a.yes [ true ↦ ans (elim (several (x.subs d)) [ true ↦ shallow x d | false ↦ x ]) true | false ↦ check_on fr u x ls ]) (c s d + (elim a.yes [ true ↦ 0 | false ↦ in_check_on fr c u x ls ]))) (sym (steadily s i l d lin refl r a fd))
        (branches (λ (x : Ans) (b : ℕ). P x (c s d + b)) a.yes
        (λ y fits. let fine = fines s d lo i o r v (omega arith) in
        branch (λ (x : St). Checks (c s d + 0) s u (ans x true)) (several (a.st.subs d)) (λ z. stale_many s i l d lin refl r a fd (c s d) fine y) (λ z. stale_alone s i l d lin refl r a fd (c s d) fine y z))
        (λ y fits. let fine = fines s d lo i o r v (omega arith) in
        let sp = fine.moves.spent in
        goes_on s i l d lin refl r a fd (c s d) fine y q (in_check_on fr c u a.st ls) (check_on fr u a.st ls)
        (check_keeps ls (passed ++ l ∷ []) a.st fd.inside (open_frame g st X (Low g u) u s a.st i fd.inside (wide s i l d lin refl r a fd) off o) (deps_same s i l d lin refl r a fd ∙ next) (still_clean s i l d lin refl r a fd passed ls e pass)
        (unchanged (c s d) s d a fd fine y) (omega arith)))))
        (λ m. let own : readable (g.kind d) ≡ false = either (readable (g.kind d)) (λ r. clash (read_moves g s.queue s.dep s.sub d _ _ _ _ _ rd l (has s i l d lin refl) r) m) (λ r. r) in
        check_keeps ls (passed ++ l ∷ []) s i o next
        (λ j z b. in_cases j passed (l ∷ []) z (λ w. pass j w b) (λ w. clash (subst (λ (n : ℕ). readable (g.kind (s.dep n)) ≡ true) (one j w) b) own)) v))

    pub check_fine : (s : St) → Inside g X s → Open g st X s → (deps s u ≡ [] → ⊥) → Inv g p ρ X X s → s.cycle + in_check fr c s u < end → Checks (in_check fr c s u) s u (check_w fr s u)
    unfolding check_w in_check
    check_fine s i o ne v fits =
        branch (Checks (in_check_on fr c u s (deps s u)) s u) (is_nil (deps s u)) (λ e. absurd (ne (is_nil-true (deps s u) e)))
        (λ e. check_keeps (deps s u) [] s i o refl (λ l j. absurd j) v fits)
