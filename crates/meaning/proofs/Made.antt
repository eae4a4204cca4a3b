-- A new node, linked to its owner, keeps well-formedness and is not stuck: signals, computeds and scopes. Assumes nothing.
use Rattle.std.specs.Prelude.{Option, None, Some}
use mathlib.Core.Path.{◌≡◌, refl, sym, ap, ap₂, ◌∙◌, subst}
use mathlib.Core.Logic.{inl, inr}
use mathlib.Core.Bool.{Bool, true, false, ◌||◌}
use mathlib.Core.List.{List, [], ◌∷◌, ◌++◌, append-nil}
use Prim.Native.Nat.{ℕ, ◌≤◌, ◌<◌}
use native.Mathlib.Omega.{arith}
use lib.Dec.{eqb}
use lib.IntN.{pos}
use lib.ListN.{length}
use borrow.Author.Tests.{eqb-true, eqb-false}
use Rattle.flags.specs.declared.Named.{Named}
use Rattle.values.specs.declared.Value.{Value}
use Rattle.trees.specs.Trees.{Tree, constant, names}
use Rattle.meaning.specs.State.{St, Kind, signal, computed, effect, scope, readable, deps, f0, f1, nothing, up}
use Rattle.meaning.specs.Links.{head_of, last_of, goes_to, is_from, spent, insert, link}
use Rattle.meaning.specs.Marks.{is_effect}
use Rattle.meaning.specs.Engine.{node, owned, new_signal, new_computed, new_scope}
use Rattle.meaning.specs.Reserve.{reserve_of}
use Rattle.meaning.specs.Refusals.{most_depth}
use Rattle.meaning.specs.WellFormed.{In, read_links, never, EffectFlags, WellFormed}
use Rattle.meaning.proofs.Laws.{clash, false≢true, either, branch, or_false, none_some, same_some, up_same, up_other, in_left}
use Rattle.meaning.proofs.Members.{reads_append, reads_agree, reads_sub}
use Rattle.meaning.proofs.Still.{Given, given}
use Rattle.meaning.proofs.Binding.{ReadsStay, stay_then}
use Rattle.meaning.proofs.Inside.{nobody, also, Static, Goes, AtRest, Rests, Inside, let_out, widen, at_same, inside_rest}
use Rattle.meaning.proofs.Dropping.{a_computed}
use Rattle.meaning.proofs.Room.{owner_links, spends, Paid, rests_paid, slot_left}
use Rattle.meaning.proofs.Linking.{at_ends, insert_inside}
use Rattle.meaning.proofs.Frames.{rests_clean}
use Rattle.meaning.proofs.Running.{Owns}
use Rattle.meaning.proofs.Making.{Fits, G, deps_new, gone_new, subs_new, kind_new, fl_new, owner_new, done_new, new_static, new_inside, new_reads}

-- nobody is under way any more
pub at_rest : (g : Given) (t : St) → Static g → Inside g nobody t → (t.depth ≡ 0 → t.queue ≡ []) → t.depth ≤ most_depth → WellFormed t
at_rest g t st i e l = inside_rest t (subst Static (sym i.same) st) (subst (λ (z : Given). Inside z nobody t) (sym i.same) i) e l

module _ (s : St) (w : WellFormed s) (k : Kind) (t : Tree) (b : Named) (v : Value) (calm : b.pending ≡ false) where
  -- the new node with its owner's link
  pub record Made (o : Option ℕ) (fits : Fits s k t o) (x : St) : Type 0 where
    pub inside : Inside (G s w k t o b v fits) (also nobody s.size) x
    pub stuck : x.stuck ≡ s.stuck
    pub owns : Owns (G s w k t o b v fits) (new_static s w k t o b v fits) x s.size
    pub done : x.done s.size ≡ []
    pub rest : x.rest s.size ≡ []
    pub flag : x.fl s.size ≡ b
    pub queue : x.queue ≡ s.queue
    pub depth : x.depth ≡ s.depth
    pub reads : (m : ℕ) → m < s.size → ReadsStay s x m

  unowned_made : (fits : Fits s k t None) → Made None fits (node s k t None b v)
  unowned_made fits =
      let d = done_new s w k t None b v fits in
      record {
        inside = new_inside s w k t None b v fits calm;
        stuck = refl;
        owns = record {
          owned = λ p q. none_some (sym (owner_new s w k t None b v fits s.size refl) ∙ q);
          unowned = λ q. subs_new s w k t None b v fits s.size refl;
          alive = gone_new s w k t None b v fits s.size refl;
        };
        done = d.0;
        rest = d.1;
        flag = fl_new s w k t None b v fits s.size refl;
        queue = refl;
        depth = refl;
        reads = new_reads s w k t None b v fits;
      }

  module _ (p : ℕ) (fits : Fits s k t (Some p)) (rk : readable k ≡ false) where
    abbrev n : ℕ
    n = s.size

    abbrev M : St
    M = node s k t (Some p) b v

    abbrev g : Given
    g = given M

    st : Static g
    st = new_static s w k t (Some p) b v fits

    i : Inside g (also nobody n) M
    i = new_inside s w k t (Some p) b v fits calm

    owner_ok : (p < n) × (readable (s.kind p) ≡ false) × (s.gone p ≡ false)
    owner_ok = fits.owner p refl

    low : p < g.size
    low = let a = owner_ok.0 in omega arith

    rn : readable (g.kind n) ≡ false
    rn = ap readable (kind_new s w k t (Some p) b v fits n refl) ∙ rk

    other : p ≡ n → ⊥
    other q = let a = owner_ok.0 in omega arith

    rp : readable (g.kind p) ≡ false
    rp = ap readable (up_other s.kind n k p other) ∙ owner_ok.1

    alive_p : M.gone p ≡ false
    alive_p = up_other s.gone n false p other ∙ owner_ok.2

    goes_up : Goes g n p
    goes_up = record {
      of_signal = λ q. clash (ap readable q) rp;
      of_computed = λ q. clash (ap readable q) rp;
      of_scope = λ q. rn;
      lower = λ q. clash q rn;
      named = λ q. clash q rn;
      owned = λ q. owner_new s w k t (Some p) b v fits n refl;
    }

    p_rests : Rests g M p
    p_rests = i.rests p low off
      where
        off : also nobody n p → ⊥
        off (inl x') = elim x' [ ]
        off (inr q) = other q

    -- ---- there is a slot
    own_most : length (owner_links (g.kind n) (M.subs n)) ≡ 0
    own_most = ap (λ (x : Bool). length {A = ℕ} (elim x as (λ (y : Bool). List ℕ) [ true ↦ [] | false ↦ M.subs n ])) rn ∙ ap length (subs_new s w k t (Some p) b v fits n refl)

    no_reads : length (read_links g.kind M.dep (deps M n)) ≡ 0
    unfolding read_links
    no_reads = ap (λ (x : List ℕ). length (read_links g.kind M.dep x)) (deps_new s w k t (Some p) b v fits n refl)

    spends_now : (c : Kind) → k ≡ c → spends g M n ≡ reserve_of c false (g.form n) (Some p)
    spends_now c e =
        ap₂ (λ (x : Kind) (y : Bool). reserve_of x y (g.form n) (g.owner n)) (kind_new s w k t (Some p) b v fits n refl ∙ e) (gone_new s w k t (Some p) b v fits n refl)
        ∙ ap (λ (z : Option ℕ). reserve_of c false (g.form n) z) (owner_new s w k t (Some p) b v fits n refl)

    one_more : 1 ≤ spends g M n
    one_more = go k refl
      where
        go : (c : Kind) → k ≡ c → 1 ≤ spends g M n
        go signal e = clash (ap readable e) rk
        go computed e = clash (ap readable e) rk
        go effect e = let x = spends_now effect e in omega arith
        go scope e = let x = spends_now scope e in omega arith

    all_paid : (m : ℕ) → m < g.size → Paid g M m
    all_paid m h = either (eqb m n)
        (λ e. let x = no_reads in let y = own_most in
        let q : Paid g M n = record { enough = omega arith } in
        subst (Paid g M) (sym (eqb-true m n e)) q)
        (λ e. rests_paid g st (also nobody n) M m i h (i.rests m h (off (eqb-false m n e))))
      where
        off : {m : ℕ} → (m ≡ n → ⊥) → also nobody n m → ⊥
        off f (inl x') = elim x' [ ]
        off f (inr q) = f q

    unspent : (M.stuck || spent M) ≡ s.stuck
    unspent = let x = no_reads in let y = own_most in let z = one_more in ap (λ (q : Bool). s.stuck || q) (slot_left g st (also nobody n) M n i (omega arith) (omega arith) all_paid).1 ∙ or_false s.stuck

    -- ---- the link
    inserted : (ls : List ℕ) → s.free ≡ ls → Made (Some p) fits (insert M n p 0 ls)
    unfolding insert read_links
    inserted [] e = let x = no_reads in let y = own_most in let z = one_more in absurd ((slot_left g st (also nobody n) M n i (omega arith) (omega arith) all_paid).0 e)
    inserted (l ∷ ls) e =
        let x = insert M n p 0 (l ∷ ls) in
        let hn : n < g.size = omega arith in
        let j = insert_inside g (also nobody n) M n p 0 l ls i e goes_up hn low in
        let dead : s.live l ≡ false = (i.lists.free_not_live l (subst (In l) (sym e) (inl refl))).0 in
        let away : (c : ℕ) → s.live c ≡ true → c ≡ l → ⊥ = λ c lv q. clash lv (ap s.live q ∙ dead) in
        let r = p_rests in
        let ends = at_ends g M.queue M.dep x.dep M.sub x.sub p M
        (λ c z. up_other s.dep l n c (away c (i.lists.deps_live c p (in_left c (M.done p) (M.rest p) z)).0))
        (λ c z. up_other s.sub l p c (away c (i.lists.subs_live c p z).0)) r in
        let reads : read_links g.kind x.dep (M.done p ++ l ∷ []) ≡ read_links g.kind x.dep (M.done p) =
        reads_append g.kind x.dep (M.done p) (l ∷ []) ∙ ap (λ (z : List ℕ). read_links g.kind x.dep (M.done p) ++ z) not_read ∙ append-nil (read_links g.kind x.dep (M.done p)) in
        let rt : AtRest g M.queue x.dep x.sub p (M.fl p) (M.gone p) (M.done p ++ l ∷ []) (M.rest p) (M.subs p) = record {
          tail = ends.tail;
          owned = ends.owned;
          unowned = ends.unowned;
          bare = λ a. clash a alive_p;
          few = subst (λ (z : List ℕ). length z ≤ length (names (g.form p))) (sym reads) ends.few;
          of_signal = ends.of_signal;
          of_computed = λ q. clash (ap readable q) rp;
          of_effect = λ q a. subst (EffectFlags p (M.fl p) M.queue) (sym reads) (ends.of_effect q a);
          of_scope = ends.of_scope;
          of_gone = ends.of_gone;
          queued = ends.queued;
        } in
        let rp_now : Rests g x p = at_same g M.queue x.dep x.sub p _ _ _ _ _ _ _ _ _ _ refl refl (up_same M.done p (M.done p ++ l ∷ [])) refl (up_other M.subs n (M.subs n ++ l ∷ []) p other) rt in
        let subs_now : x.subs n ≡ l ∷ [] = up_same M.subs n (M.subs n ++ l ∷ []) ∙ ap (λ (z : List ℕ). z ++ l ∷ []) (subs_new s w k t (Some p) b v fits n refl) in
        let d = done_new s w k t (Some p) b v fits in
        let agree : (m : ℕ) → read_links g.kind x.dep (deps M m) ≡ read_links g.kind s.dep (deps M m) =
        λ m. reads_agree g.kind s.dep x.dep (deps M m) (λ c z. up_other s.dep l n c (away c (i.lists.deps_live c m z).0)) in
        let done_p : deps M p ≡ M.done p = ap (λ (z : List ℕ). M.done p ++ z) r.tail ∙ append-nil (M.done p) in
        let longer : deps x p ≡ M.done p ++ l ∷ [] = ap₂ (λ (y z : List ℕ). y ++ z) (up_same M.done p (M.done p ++ l ∷ [])) r.tail ∙ append-nil (M.done p ++ l ∷ []) in
        let reads_now : (m : ℕ) → read_links g.kind x.dep (deps x m) ≡ read_links g.kind s.dep (deps M m) =
        λ m. either (eqb m p)
        (λ q. subst (λ (z : ℕ). read_links g.kind x.dep (deps x z) ≡ read_links g.kind s.dep (deps M z)) (sym (eqb-true m p q))
        (ap (read_links g.kind x.dep) longer ∙ reads ∙ ap (read_links g.kind x.dep) (sym done_p) ∙ agree p))
        (λ q. ap (λ (z : List ℕ). read_links g.kind x.dep (z ++ M.rest m)) (up_other M.done p (M.done p ++ l ∷ []) m (eqb-false m p q)) ∙ agree m) in
        record {
          inside = let_out g (also nobody n) x p (widen g (also (also (also nobody n) n) p) (also (also nobody n) p) x in_x j) rp_now;
          stuck = unspent;
          owns = record {
            owned = λ q z. (l, subs_now, up_same s.sub l p ∙ same_some (sym (owner_new s w k t (Some p) b v fits n refl) ∙ z));
            unowned = λ z. none_some (sym z ∙ owner_new s w k t (Some p) b v fits n refl);
            alive = gone_new s w k t (Some p) b v fits n refl;
          };
          done = up_other M.done p (M.done p ++ l ∷ []) n (λ q. other (sym q)) ∙ d.0;
          rest = d.1;
          flag = fl_new s w k t (Some p) b v fits n refl;
          queue = refl;
          depth = refl;
          reads = λ m h. stay_then s M x m (new_reads s w k t (Some p) b v fits m h)
              (record { links = reads_now m; ends = λ c z. let far = away c (i.lists.deps_live c m (reads_sub g.kind s.dep c (deps M m) z)).0 in (up_other s.dep l n c far, up_other s.ver l 0 c far) });
        }
      where
        in_x : (m : ℕ) → also (also (also nobody n) n) p m → also (also nobody n) p m
        in_x m (inl (inl z)) = inl z
        in_x m (inl (inr q)) = inl (inr q)
        in_x m (inr q) = inr q

        not_read : read_links g.kind (up s.dep l n) (l ∷ []) ≡ []
        not_read = rw (up_same s.dep l n, read_links, rn)

    link_made : Made (Some p) fits (link M n p 0)
    unfolding link
    link_made =
        branch (Made (Some p) fits) (goes_to M (last_of (M.done p)) n) (λ e. absurd (not_last (M.done p) (λ l j. j) e))
        (λ e. branch (Made (Some p) fits) (goes_to M (head_of (M.rest p)) n) (λ q. absurd (not_head (M.rest p) p_rests.tail q))
        (λ q. branch (Made (Some p) fits) (is_from M (last_of (M.subs n)) p 0) (λ z. absurd (not_from (M.subs n) (subs_new s w k t (Some p) b v fits n refl) z)) (λ z. inserted s.free refl)))
      where
        last_in : (xs : List ℕ) (l : ℕ) → last_of xs ≡ Some l → In l xs
        last_in [] l e = none_some e
        last_in (x ∷ xs) l e = go (last_of xs) refl e (λ m. last_in xs m)
          where
            go : (o : Option ℕ) → last_of xs ≡ o → ◌≡◌ {A = Option ℕ} (elim o [ None ↦ Some x | Some y ↦ Some y ]) (Some l) → ((m : ℕ) → last_of xs ≡ Some m → In m xs) → In l (x ∷ xs)
            go None q z rec = inl (sym (same_some z))
            go (Some y) q z rec = inr (rec l (q ∙ z))

        not_last : (xs : List ℕ) → ((l : ℕ) → In l xs → In l (M.done p)) → goes_to M (last_of xs) n ≡ true → ⊥
        not_last xs sub e = go (last_of xs) refl e
          where
            go : (o : Option ℕ) → last_of xs ≡ o → goes_to M o n ≡ true → ⊥
            go None q z = false≢true z
            go (Some l) q z =
                let lv = i.lists.deps_live l p (in_left l (M.done p) (M.rest p) (sub l (last_in xs l q))) in
                let a = (w.lists.inside l lv.0).0 in
                let c = eqb-true (s.dep l) n z in
                omega arith

        not_head : (xs : List ℕ) → xs ≡ [] → goes_to M (head_of xs) n ≡ true → ⊥
        not_head [] e z = false≢true z
        not_head (x ∷ xs) e z = let y = ap length e in omega arith

        not_from : (xs : List ℕ) → xs ≡ [] → is_from M (last_of xs) p 0 ≡ true → ⊥
        not_from [] e z = false≢true z
        not_from (x ∷ xs) e z = let y = ap length e in omega arith

  pub made : (o : Option ℕ) (fits : Fits s k t o) → ((p : ℕ) → o ≡ Some p → readable k ≡ false) → Made o fits (owned (node s k t o b v) s.size o)
  made None fits h = unowned_made fits
  made (Some p) fits h = link_made p fits (h p refl)

-- ---- commands 1 to 4
-- well formed, and not stuck unless it was
pub record Well (s t : St) : Type 0 where
  pub formed : WellFormed t
  pub stuck : t.stuck ≡ s.stuck

module _ (s : St) (w : WellFormed s) where
  at_depth : (x : St) → x.queue ≡ s.queue → x.depth ≡ s.depth → (x.depth ≡ 0 → x.queue ≡ []) × (x.depth ≤ most_depth)
  at_depth x q d = (λ e. q ∙ w.queued.at_depth_0 (sym d ∙ e), subst (λ (z : ℕ). z ≤ most_depth) (sym d) w.queued.depth_low)

  pub ended : (k : Kind) (t : Tree) (o : Option ℕ) (b : Named) (v : Value) (fits : Fits s k t o) (x : St) → Inside (G s w k t o b v fits) nobody x → x.stuck ≡ s.stuck → x.queue ≡ s.queue → x.depth ≡ s.depth → Well s x
  ended k t o b v fits x i e q d = let z = at_depth x q d in record { formed = at_rest (G s w k t o b v fits) x (new_static s w k t o b v fits) i z.0 z.1; stuck = e }

  pub signal_well : (v : Value) → Fits s signal (constant (pos 0)) None → Well s (new_signal s v)
  unfolding new_signal read_links
  signal_well v fits =
      let m = made s w signal (constant (pos 0)) f1 v refl None fits (λ p e. none_some e) in
      let x = node s signal (constant (pos 0)) None f1 v in
      let g = G s w signal (constant (pos 0)) None f1 v fits in
      let st = new_static s w signal (constant (pos 0)) None f1 v fits in
      let kn = kind_new s w signal (constant (pos 0)) None f1 v fits s.size refl in
      ended signal (constant (pos 0)) None f1 v fits x
      (let_out g nobody x s.size m.inside
      (rests_clean g st x.queue x.dep x.sub s.size _ _ _ _ _ (omega arith) (ap readable kn) m.flag m.owns.alive m.rest
      (subst (λ (z : List ℕ). length (read_links g.kind x.dep z) ≤ length (names (g.form s.size))) (sym m.done) (omega arith))))
      m.stuck m.queue m.depth

  pub computed_well : (t : Tree) → Fits s computed t None → Well s (new_computed s t)
  unfolding new_computed read_links
  computed_well t fits =
      let m = made s w computed t f0 nothing refl None fits (λ p e. none_some e) in
      let x = node s computed t None f0 nothing in
      let g = G s w computed t None f0 nothing fits in
      let st = new_static s w computed t None f0 nothing fits in
      let kn = kind_new s w computed t None f0 nothing fits s.size refl in
      let rn = ap readable kn in
      let bare = m.owns.unowned (st.owner_kind s.size (omega arith) rn) in
      let r : Rests g x s.size = record {
        tail = m.rest;
        owned = λ o a q. m.owns.owned o q;
        unowned = λ a q. m.owns.unowned q;
        bare = λ a. clash a m.owns.alive;
        few = subst (λ (z : List ℕ). length (read_links g.kind x.dep z) ≤ length (names (g.form s.size))) (sym m.done) (omega arith);
        of_signal = λ q. clash (ap a_computed kn) (ap a_computed q);
        of_computed = λ q. never m.flag m.done bare;
        of_effect = λ q a. clash rn (ap readable q);
        of_scope = λ q. clash rn (ap readable q);
        of_gone = λ q a. clash rn (ap readable q);
        queued = λ j a. m.flag;
      } in
      ended computed t None f0 nothing fits x (let_out g nobody x s.size m.inside r) m.stuck m.queue m.depth

  pub scope_well : (o : Option ℕ) → Fits s scope (constant (pos 0)) o → Well s (new_scope s o)
  unfolding new_scope read_links
  scope_well o fits =
      let c = constant (pos 0) in
      let m = made s w scope c f0 nothing refl o fits (λ p e. refl) in
      let x = owned (node s scope c o f0 nothing) s.size o in
      let g = G s w scope c o f0 nothing fits in
      let kn = kind_new s w scope c o f0 nothing fits s.size refl in
      let rn = ap readable kn in
      let r : Rests g x s.size = record {
        tail = m.rest;
        owned = λ p a q. m.owns.owned p q;
        unowned = λ a q. m.owns.unowned q;
        bare = λ a. clash a m.owns.alive;
        few = subst (λ (z : List ℕ). length (read_links g.kind x.dep z) ≤ length (names (g.form s.size))) (sym m.done) (omega arith);
        of_signal = λ q. clash (ap readable q) rn;
        of_computed = λ q. clash (ap readable q) rn;
        of_effect = λ q a. clash (ap is_effect q) (ap is_effect kn);
        of_scope = λ q. m.flag;
        of_gone = λ q a. inl m.flag;
        queued = λ j a. m.flag;
      } in
      ended scope c o f0 nothing fits x (let_out g nobody x s.size m.inside r) m.stuck m.queue m.depth
