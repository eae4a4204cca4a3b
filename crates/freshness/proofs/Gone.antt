-- Which nodes are gone: a run takes all that its effect owns and nothing else, a disposal the node too; what the rows tell is what the state says. Assumes nothing.
use Rattle.std.specs.Prelude.{Option, None, Some}
use mathlib.Core.Path.{◌≡◌, refl, sym, ap, ap₂, ◌∙◌, subst}
use mathlib.Core.Logic.{inl, inr}
use mathlib.Core.Bool.{Bool, true, false, ◌||◌}
use mathlib.Core.List.{List, [], ◌∷◌, ◌++◌}
use Prim.Native.Nat.{ℕ, zero, suc, ◌≤◌, ◌<◌}
use native.Mathlib.Omega.{arith}
use lib.Dec.{eqb}
use borrow.Author.Tests.{eqb-true, eqb-false}
use Rattle.meaning.specs.State.{St, Kind, effect, Row, readable, deps, on}
use Rattle.meaning.specs.WellFormed.{In}
use Rattle.meaning.specs.Owners.{Below, itself, through}
use Rattle.freshness.specs.Nodes.{Nodes, owns_n, owns, stripped, ran}
use Rattle.freshness.specs.Right.{LiveRows}
use Rattle.meaning.proofs.Laws.{clash, false≢true, either, or_first, or_last, or_one, or_false, or_left, or_right}
use Rattle.meaning.proofs.Members.{nil_none}
use Rattle.meaning.proofs.Still.{Given}
use Rattle.meaning.proofs.Flush.{whos}
use Rattle.meaning.proofs.Inside.{Set, nobody, Static, Inside, Under}
use Rattle.meaning.proofs.Frames.{Frame}

-- ---- owners
owner_below : (owner : ℕ → Option ℕ) (k x y : ℕ) → owns_n k owner x y ≡ true → (o : ℕ) × (owner y ≡ Some o) × Below owner x o
unfolding owns_n
owner_below owner zero x y e = false≢true e
owner_below owner (suc k) x y e = go (owner_below owner k x) (owner y) refl e
  where
    go : ((o : ℕ) → owns_n k owner x o ≡ true → (p : ℕ) × (owner o ≡ Some p) × Below owner x p) → (p : Option ℕ) → owner y ≡ p → on p (λ o. eqb o x || owns_n k owner x o) ≡ true → (o : ℕ) × (owner y ≡ Some o) × Below owner x o
    go f None q z = false≢true z
    go f (Some o) q z = (o, q, either (eqb o x) (λ a. itself (eqb-true o x a)) (λ a. let r = f o (or_one (eqb o x) (owns_n k owner x o) z a) in through r.0 r.2 r.1))

module _ (g : Given) (st : Static g) where
  below_owner : (k x y : ℕ) → y < g.size → y < k → Below g.owner x y → (y ≡ x → ⊥) → owns_n k g.owner x y ≡ true
  unfolding owns_n
  below_owner zero x y h f b ne = absurd (omega arith)
  below_owner (suc k) x y h f (itself e) ne = absurd (ne e)
  below_owner (suc k) x y h f (through o b q) ne =
      let lo = st.owner_lower y o h q in
      ap (λ (p : Option ℕ). on p (λ z. eqb z x || owns_n k g.owner x z)) q
      ∙ either (eqb o x) (λ a. or_first (eqb o x) (owns_n k g.owner x o) a) (λ a. or_last (eqb o x) (owns_n k g.owner x o) (below_owner k x o (omega arith) (omega arith) b (eqb-false o x a)))

  -- what x owns is below it, and has a higher number
  pub below_owns : (x y : ℕ) → y < g.size → Below g.owner x y → (y ≡ x → ⊥) → owns g.owner x y ≡ true
  below_owns x y h b ne = below_owner (suc y) x y h (omega arith) b ne

  below_higher : (x y : ℕ) → y < g.size → Below g.owner x y → x ≤ y
  below_higher x y h (itself e) = omega arith
  below_higher x y h (through o b q) = let lo = st.owner_lower y o h q in let r = below_higher x o (omega arith) b in omega arith

  pub owns_higher : (x y : ℕ) → y < g.size → owns g.owner x y ≡ true → x < y
  owns_higher x y h e =
      let b = owner_below g.owner (suc y) x y e in
      let lo = st.owner_lower y b.0 h b.1 in
      let r = below_higher x b.0 (omega arith) b.2 in
      omega arith

  -- ---- what goes with its owner
  module _ (t : St) (i : Inside g nobody t) where
    child_gone : (y o : ℕ) → y < g.size → g.owner y ≡ Some o → t.gone o ≡ true → t.gone y ≡ true
    child_gone y o h q a =
        let lo = st.owner_lower y o h q in
        either (t.gone y) (λ z. z) (λ z.
        let c = (i.rests y h (λ w. w)).owned o z q in
        let lv = i.lists.subs_live c.0 y (subst (In c.0) (sym c.1) (inl refl)) in
        let r = i.rests o (omega arith) (λ w. w) in
        absurd (nil_none (deps t o) c.0 (ap₂ (λ (u v : List ℕ). u ++ v) (r.bare a).0 r.tail) (subst (λ (n : ℕ). In c.0 (deps t n)) c.2 (i.lists.live_in_deps c.0 lv.0))))

    -- all that x owns is gone, if what it owns directly is
    owned_by : (x : ℕ) → ((y : ℕ) → y < g.size → g.owner y ≡ Some x → t.gone y ≡ true) → (y o : ℕ) → y < g.size → g.owner y ≡ Some o → Below g.owner x o → t.gone y ≡ true
    owned_by x own y o h q (itself e) = own y h (q ∙ ap Some e)
    owned_by x own y o h q (through p b z) = let lo = st.owner_lower y o h q in child_gone y o h q (owned_by x own o p (omega arith) z b)

    pub owns_gone : (x : ℕ) → ((y : ℕ) → y < g.size → g.owner y ≡ Some x → t.gone y ≡ true) → (y : ℕ) → y < g.size → owns g.owner x y ≡ true → t.gone y ≡ true
    owns_gone x own y h e = let b = owner_below g.owner (suc y) x y e in owned_by x own y b.0 h b.1 b.2

    pub gone_owns : (x : ℕ) → t.gone x ≡ true → (y : ℕ) → y < g.size → owns g.owner x y ≡ true → t.gone y ≡ true
    gone_owns x a = owns_gone x (λ y h q. child_gone y x h q a)

  -- a frame takes nobody
  pub frame_gone : (X Y N : Set) (c : ℕ) (s t : St) → Inside g X s → Inside g Y t → Frame g N c s t → (m : ℕ) → m < g.size → t.gone m ≡ s.gone m
  frame_gone X Y N c s t i j f m h = either (readable (g.kind m)) (λ r. j.gone_kind m h r ∙ sym (i.gone_kind m h r)) (λ r. f.gone m r)

  -- nor does a purge, of what x does not own
  pub strictly_owned : (x m : ℕ) → m < g.size → readable (g.kind m) ≡ false → owns g.owner x m ≡ false → Under g x m × (m ≡ x → ⊥) → ⊥
  strictly_owned x m h r f u = clash (below_owns x m h (u.0.owned r) u.1) f

  -- a disposal takes x and what it owns
  pub disposed_marks : (s t : St) (x : ℕ) → Inside g nobody t → t.gone x ≡ true → ((m : ℕ) → s.gone m ≡ true → t.gone m ≡ true) → ((m : ℕ) → m < g.size → (Below g.owner x m → ⊥) → t.gone m ≡ s.gone m)
      → (m : ℕ) → m < g.size → t.gone m ≡ (s.gone m || (eqb m x || owns g.owner x m))
  disposed_marks s t x i a keeps others m h =
      either (eqb m x || owns g.owner x m)
      (λ e. taken e ∙ sym (or_last (s.gone m) (eqb m x || owns g.owner x m) e))
      (λ e. others m h (spared e) ∙ sym (ap (λ (b : Bool). s.gone m || b) e ∙ or_false (s.gone m)))
    where
      taken : (eqb m x || owns g.owner x m) ≡ true → t.gone m ≡ true
      taken e = either (eqb m x) (λ z. ap t.gone (eqb-true m x z) ∙ a) (λ z. gone_owns t i x a m h (or_one (eqb m x) (owns g.owner x m) e z))

      spared : (eqb m x || owns g.owner x m) ≡ false → Below g.owner x m → ⊥
      spared e b = clash (below_owns x m h b (eqb-false m x (or_left (eqb m x) (owns g.owner x m) e))) (or_right (eqb m x) (owns g.owner x m) e)

-- ---- the runs of a flush: each effect is live then, and takes what it owns. a: gone before; b: gone after
abbrev pub Passes : Given → (ℕ → Bool) → List Row → (ℕ → Bool) → Type 0
Passes g a [] b = (m : ℕ) → m < g.size → b m ≡ a m
Passes g a (r ∷ rs) b = (r.who < g.size) × (g.kind r.who ≡ effect) × (a r.who ≡ false) × Passes g (λ m. a m || owns g.owner r.who m) rs b

pub passes_same : (g : Given) (rs : List Row) (a c b : ℕ → Bool) → ((m : ℕ) → m < g.size → a m ≡ c m) → Passes g a rs b → Passes g c rs b
passes_same g [] a c b e p = λ m h. p m h ∙ e m h
passes_same g (r ∷ rs) a c b e p = (
  p.0,
  p.1,
  sym (e r.who p.0) ∙ p.2,
  passes_same g rs (λ m. a m || owns g.owner r.who m) (λ m. c m || owns g.owner r.who m) b (λ m h. ap (λ (z : Bool). z || owns g.owner r.who m) (e m h)) p.3,
)

-- who has a row was live before it, and so was who is live after it
pub row_alive : (g : Given) (rs : List Row) (a b : ℕ → Bool) → Passes g a rs b → (e : ℕ) → In e (whos rs) → (e < g.size) × (g.kind e ≡ effect) × (a e ≡ false)
unfolding whos
row_alive g [] a b p e x'' = elim x'' [ ]
row_alive g (r ∷ rs) a b p e (inl q) = subst (λ (n : ℕ). (n < g.size) × (g.kind n ≡ effect) × (a n ≡ false)) (sym q) (p.0, p.1, p.2)
row_alive g (r ∷ rs) a b p e (inr i) =
    let x = row_alive g rs (λ m. a m || owns g.owner r.who m) b p.3 e i in
    (x.0, x.1, or_left (a e) (owns g.owner r.who e) x.2)

pub passes_alive : (g : Given) (rs : List Row) (a b : ℕ → Bool) → Passes g a rs b → (e : ℕ) → e < g.size → b e ≡ false → a e ≡ false
passes_alive g [] a b p e h z = sym (p e h) ∙ z
passes_alive g (r ∷ rs) a b p e h z = or_left (a e) (owns g.owner r.who e) (passes_alive g rs (λ m. a m || owns g.owner r.who m) b p.3 e h z)

-- ---- what was told of the nodes
pub record Shows (g : Given) (G : Nodes) : Type 0 where
  pub size : g.size ≡ G.size
  pub kind : g.kind ≡ G.kind
  pub form : g.form ≡ G.form
  pub owner : g.owner ≡ G.owner

pub ran_shows : (g : Given) (rs : List Row) (G : Nodes) → Shows g G → Shows g (ran G rs)
unfolding ran
ran_shows g [] G w = w
ran_shows g (r ∷ rs) G w = ran_shows g rs (stripped G r.who) (record { size = w.size; kind = w.kind; form = w.form; owner = w.owner })

pub passes_told : (g : Given) (rs : List Row) (G : Nodes) (b : ℕ → Bool) → Shows g G → Passes g G.gone rs b → LiveRows G rs × ((m : ℕ) → m < g.size → b m ≡ (ran G rs).gone m)
unfolding ran
passes_told g [] G b w p = (tt, p)
passes_told g (r ∷ rs) G b w p =
    let n = r.who in
    let z = w.size in
    let lt = p.0 in
    let q = passes_told g rs (stripped G n) b (record { size = w.size; kind = w.kind; form = w.form; owner = w.owner })
    (passes_same g rs (λ m. G.gone m || owns g.owner n m) (λ m. G.gone m || owns G.owner n m) b (λ m h. ap (λ (f : ℕ → Option ℕ). G.gone m || owns f n m) w.owner) p.3) in
    (((omega arith, ap (λ (f : ℕ → Kind). f n) (sym w.kind) ∙ p.1, p.2), q.0), q.1)
