-- (b): one read inside an evaluation of u, and then the whole evaluation, from (a) for lower nodes. Assumes nothing.
use mathlib.Core.Path.{◌≡◌, sym, ap, ◌∙◌, subst}
use mathlib.Core.Logic.{◌⊎◌, inl, inr}
use mathlib.Core.Bool.{true}
use mathlib.Core.List.{List, [], ◌∷◌, ◌++◌}
use Prim.Native.Nat.{ℕ, suc, ◌+◌, ◌≤◌, ◌<◌}
use native.Mathlib.Omega.{arith}
use lib.ListN.{length, length-append}
use Rattle.flags.specs.declared.Named.{Named}
use Rattle.values.specs.declared.Value.{Value}
use Rattle.trees.specs.Trees.{names}
use Rattle.meaning.specs.State.{St, readable, f1}
use Rattle.meaning.specs.Links.{link}
use Rattle.meaning.specs.Reads.{Ans, eval_by, settle_w, read_w}
use Rattle.meaning.specs.WellFormed.{In}
use Rattle.freshness.specs.Evaluations.{in_formula}
use Rattle.meaning.proofs.Laws.{in_left, in_right, in_cases}
use Rattle.meaning.proofs.Still.{Given}
use Rattle.meaning.proofs.Inside.{Set, nobody, Static, Inside}
use Rattle.meaning.proofs.Frames.{Low, Open}
use Rattle.meaning.proofs.Reading.{Freshens, Near, reads_of, During, during_open, m_settled, settle_during, read_during, slot_free}
use Rattle.freshness.proofs.Inv.{Records, Inv, Evaluated, Evaluating}
use Rattle.freshness.proofs.Clean.{φ}
use Rattle.freshness.proofs.Moves.{Moves, moves_then, moves_wider}
use Rattle.freshness.proofs.Eval.{Went, evaluates}
use Rattle.freshness.proofs.Link.{link_keeps, link_reads, link_quiet, link_moves}

-- (a), of settle
pub record Settles (g : Given) (p : ℕ → Value) (ρ : Records) (X : Set) (k : ℕ) (s : St) (n : ℕ) (t : St) : Type 0 where
  pub keeps : Inv g p ρ X X t
  pub value : t.sto n ≡ φ g p n
  pub moves : Moves g p (Low g (suc n)) nobody (suc n) k s t

-- the links of an evaluation, seen from another state
evaluated_moves : (dn rs : List ℕ) (dep dep' ver ver' : ℕ → ℕ) (start : ℕ) (ns : List ℕ)
    → ((l : ℕ) → In l (dn ++ rs) → (dep' l ≡ dep l) × (ver' l ≡ ver l)) → Evaluated dn rs dep ver start ns → Evaluated dn rs dep' ver' start ns
evaluated_moves dn rs dep dep' ver ver' start ns h r = record {
  covers = λ d i. let c = r.covers d i in record { slot = c.slot; within = c.within; to = (h c.slot (in_left c.slot dn rs c.within)).0 ∙ c.to };
  only = λ l i. subst (λ (x : ℕ). In x ns) (sym (h l (in_left l dn rs i)).0) (r.only l i);
  since = λ l i. subst (λ (x : ℕ). start ≤ x) (sym (h l (in_left l dn rs i)).1) (r.since l i);
  older = λ l i. subst (λ (x : ℕ). x < start) (sym (h l (in_right l dn rs i)).1) (r.older l i);
}

module _ (g : Given) (st : Static g) (p : ℕ → Value) (ρ : Records) (k : ℕ) (fr : St → ℕ → Ans) (frs : Freshens g st k fr) (c : St → ℕ → ℕ) (end : ℕ)
    (X : Set) (u : ℕ) (xu : X u) (hu : u < g.size) (above : (m : ℕ) → X m → readable (g.kind m) ≡ true → u ≤ m) (le : u ≤ k) (s₀ : St) (i₀ : Inside g X s₀) (start : ℕ)
    (settles : (n : ℕ) → n < u → (t : St) → Inside g X t → Open g st X t → Inv g p ρ X X t → readable (g.kind n) ≡ true → t.cycle + c t n < end → Settles g p ρ X (c t n) t n (settle_w fr t n)) where
  -- what holds while u is evaluated, after the nodes ms have been read
  pub record Midway (t : St) (ms : List ℕ) : Type 0 where
    pub base : During g st X u s₀ (length ms) t
    pub inv : Inv g p ρ X X t
    pub ev : Evaluating t u start ms
    pub late : start ≤ t.cycle
    pub read : (d : ℕ) → In d ms → (t.fl d ≡ f1) × (t.sto d ≡ φ g p d)
    pub much : ℕ
    pub moves : Moves g p (Near g st u) nobody u much s₀ t

  one_read : (n : ℕ) → In n (names (g.form u)) → (t : St) (ms : List ℕ) → length ms < reads_of g st u → t.cycle + c t n < end → Midway t ms
      → Midway (read_w fr u t n) (ms ++ n ∷ []) × ((read_w fr u t n).sto n ≡ φ g p n) × ((read_w fr u t n).cycle ≤ t.cycle + c t n)
  one_read n named t ms room fits m =
      let low = st.names_lower u n hu named in
      let lt = low.1 in
      let i = length ms in
      let x = settle_w fr t n in
      let w = m_settled g st X u xu hu above s₀ i₀ n named k fr frs le i t m.base room in
      let wd = settle_during g st X u xu hu above s₀ i₀ n named k fr frs le i t m.base room in
      let a = settles n lt t m.base.inside (during_open g st X u xu hu above s₀ i₀ i t m.base (omega arith)) m.inv low.0 fits in
      let far : Low g (suc n) u → ⊥ = λ z. let y = z.1 in omega arith in
      let lists = w.frame.lists u far in
      let same : (l : ℕ) → In l (t.done u ++ t.rest u) → (x.dep l ≡ t.dep l) × (x.ver l ≡ t.ver l) =
      λ l j. let o = m.base.inside.lists.deps_live l u j in
      let off : Low g (suc n) (t.sub l) → ⊥ = λ z. far (subst (Low g (suc n)) o.1 z) in
      ((w.frame.links l o.0 off).1, w.frame.ver l o.0 off) in
      let ev : Evaluating x u start ms =
      subst (λ (d : List ℕ). Evaluated d (x.rest u) x.dep x.ver start ms) (sym lists.0)
      (subst (λ (r : List ℕ). Evaluated (t.done u) r x.dep x.ver start ms) (sym lists.1)
      (evaluated_moves (t.done u) (t.rest u) t.dep x.dep t.ver x.ver start ms same m.ev)) in
      let h₁ = a.moves.later in
      let h₂ = m.late in
      let h₃ = a.moves.spent in
      let late : start ≤ x.cycle = omega arith in
      let y = link x n u x.cycle in
      let q = link_quiet x n u x.cycle in
      let h₄ = q.cycle in
      let near : (z : ℕ) → Low g (suc n) z → Near g st u z = λ z v. let b = v.1 in inl (v.0, omega arith) in
      let x-moves = moves_wider g p (Low g (suc n)) (Near g st u) nobody nobody (suc n) u (c t n) (c t n) t x near (λ z v. v) (omega arith) (omega arith) a.moves in
      let to-x = moves_then g p (Near g st u) nobody u u m.much (c t n) s₀ t x i₀.lists m.base.inside.lists m.base.frame m.moves x-moves in
      let to-y = moves_then g p (Near g st u) nobody u u (m.much + c t n) 0 s₀ x y i₀.lists w.inside.lists wd.frame to-x (link_moves g p (Near g st u) u x n u x.cycle) in
      let here : y.sto n ≡ φ g p n = ap (λ (f : ℕ → Value). f n) q.sto ∙ a.value in
      let len : suc i ≡ length (ms ++ n ∷ []) = let z = length-append ms (n ∷ []) in omega arith in
      let old : (d : ℕ) → In d ms → (y.fl d ≡ f1) × (y.sto d ≡ φ g p d) =
      λ d j.
      let r = m.read d j in
      let e = m.ev.covers d j in
      let o = m.base.inside.lists.deps_live e.slot u (in_left e.slot (t.done u) (t.rest u) e.within) in
      let off : Low g (suc n) (t.sub e.slot) → ⊥ = λ z. far (subst (Low g (suc n)) o.1 z) in
      let held : x.fl d ≡ f1 = subst (λ (z : ℕ). x.fl z ≡ f1) e.to (w.frame.held e.slot o.0 off (subst (λ (z : ℕ). t.fl z ≡ f1) (sym e.to) r.0)) in
      (ap (λ (f : ℕ → Named). f d) q.fl ∙ held, ap (λ (f : ℕ → Value). f d) q.sto ∙ kept d t x r.1 (a.moves.moved d)) in (
        record {
          base = subst (λ (j : ℕ). During g st X u s₀ j y) len (read_during g st X u xu hu above s₀ i₀ n named k fr frs le i t m.base room);
          inv = link_keeps g p ρ X X x n u x.cycle xu xu (omega arith) a.keeps (λ l j. (w.inside.lists.free_not_live l j).0);
          ev = link_reads g x n u x.cycle start ms w.inside.lists (slot_free g st X u xu hu above s₀ i₀ n named i x x.cycle wd room w.clean) late ev;
          late = omega arith;
          read = λ d j. in_cases d ms (n ∷ []) j (old d) (last d y (ap (λ (f : ℕ → Named). f n) q.fl ∙ w.clean) here);
          much = m.much + c t n + 0;
          moves = to-y;
        },
        here,
        omega arith,
      )
    where
      kept : (d : ℕ) (t x : St) → t.sto d ≡ φ g p d → (x.sto d ≡ t.sto d) ⊎ ((x.sto d ≡ φ g p d) × (d < suc n)) → x.sto d ≡ φ g p d
      kept d t x e (inl z) = z ∙ e
      kept d t x e (inr z) = z.0

      last : (d : ℕ) (y : St) → y.fl n ≡ f1 → y.sto n ≡ φ g p n → In d (n ∷ []) → (y.fl d ≡ f1) × (y.sto d ≡ φ g p d)
      last d y f h (inr x') = elim x' [ ]
      last d y f h (inl e) = (ap y.fl e ∙ f, ap y.sto e ∙ h ∙ ap (φ g p) (sym e))

  -- (b): the value is the formula's over the fresh values, the record what was read; and all that held holds
  pub evaluated : s₀.cycle + in_formula (read_w fr u) c (g.form u) s₀ < end → Midway s₀ [] → Went Midway (g.form u) (φ g p) [] s₀ (in_formula (read_w fr u) c (g.form u) s₀) (eval_by (read_w fr u) (g.form u) s₀)
  evaluated fits m = evaluates Midway (φ g p) (read_w fr u) c (reads_of g st u) end (g.form u) s₀ [] one_read (omega arith) fits m
