-- Between two commands: what is known of the state before one, and of a step that runs nothing. Assumes nothing.
use Rattle.std.specs.Prelude.{Option}
use mathlib.Core.Path.{◌≡◌, refl, sym, ap, ap₂, ◌∙◌, subst, fun_ext}
use mathlib.Core.Logic.{inl, inr}
use mathlib.Core.Bool.{Bool, true, false, ◌||◌}
use mathlib.Core.List.{List, []}
use Prim.Native.Nat.{ℕ, suc, ◌≤◌, ◌<◌}
use native.Mathlib.Omega.{arith}
use lib.Dec.{eqb}
use lib.IntN.{pos}
use borrow.Author.Tests.{eqb-true, eqb-false}
use Rattle.flags.specs.declared.Named.{Named}
use Rattle.values.specs.declared.Value.{Value}
use Rattle.values.specs.Values.{value}
use Rattle.trees.specs.Trees.{Tree}
use Rattle.meaning.specs.State.{St, Kind, effect, Row, readable, f2, f6, nothing, up}
use Rattle.meaning.specs.Setters.{with_log}
use Rattle.meaning.specs.Engine.{node, owned}
use Rattle.meaning.specs.Words.{Command, make_effect}
use Rattle.meaning.specs.WellFormed.{In, Once, WellFormed}
use Rattle.freshness.specs.Afresh.{recorded, moved, rested}
use Rattle.freshness.specs.Nodes.{Nodes, with_new, changed}
use Rattle.freshness.specs.History.{Course, written, depth_after, is_write}
use Rattle.freshness.specs.Right.{flushes, returned, Agrees}
use Rattle.meaning.proofs.Laws.{clash, either, or_false, up_same, up_other, up_by}
use Rattle.meaning.proofs.Still.{Given, given}
use Rattle.meaning.proofs.Flush.{whos}
use Rattle.meaning.proofs.Inside.{nobody, also, Static, Inside, static, rest_inside}
use Rattle.meaning.proofs.Making.{Fits, new_static}
use Rattle.meaning.proofs.Made.{made}
use Rattle.meaning.proofs.Accepted.{logless}
use Rattle.freshness.proofs.Forms.{firsts}
use Rattle.freshness.proofs.Inv.{Records, Inv, beside}
use Rattle.freshness.proofs.Clean.{φ}
use Rattle.freshness.proofs.Moves.{Moves}
use Rattle.freshness.proofs.Effect.{Aside}
use Rattle.freshness.proofs.Flush.{Rowed}
use Rattle.freshness.proofs.Gone.{Passes, Shows}
use Rattle.freshness.proofs.Store.{Undirtied}
use Rattle.freshness.proofs.Sound.{Sound, Step, not_it, code, and_first, up_agrees}
use Rattle.freshness.proofs.Made.{owned_quiet, owned_keeps}
use Rattle.freshness.proofs.Dirt.{moved_none, moved_same, dirty_told}

module _ (P : Course) (so : Sound P) (rows : ℕ) where
  abbrev s : St
  s = with_log P.st []

  abbrev p : ℕ → Value
  p = P.past.last

  abbrev ρ : Records
  ρ = P.past.reads

  -- the last written values after k
  abbrev then : Command → ℕ → Value
  then k = written s.size s.sto k p

  abbrev now : Command → Nodes
  now k = changed k P.past.nodes

  ag : Agrees P.st P.past
  ag = so.agrees

  pub w : WellFormed s
  w = logless P.st rows so.formed

  abbrev g : Given
  g = given s

  pub st : Static g
  st = static s w

  pub i : Inside g nobody s
  i = rest_inside s w

  pub v : Inv g p ρ nobody nobody s
  v = beside g p ρ nobody nobody P.st so.inv P.st.queue P.st.depth [] P.st.stuck

  -- over the pending values
  pub v₀ : Inv g s.pend ρ nobody nobody s
  v₀ = subst (λ (f : ℕ → Value). Inv g f ρ nobody nobody s) (sym v.last) v

  pub calm : s.depth ≡ 0 → s.queue ≡ []
  calm = so.formed.queued.at_depth_0

  -- ---- a step that runs nothing
  pub plainly : (k : Command) (p' : ℕ → Value) (g' : Given) (t : St) (x : Value) → Inv g' p' ρ nobody nobody t → given t ≡ g' → t.log ≡ [] → t.cycle ≡ s.cycle → flushes P.past k ≡ false → x ≡ returned P.past.nodes.size (φ g' p') k → eqb (code k) 3 ≡ false
      → (P.past.writes ≡ true → is_write k ≡ true → (t.depth ≡ 0 → ⊥) → Undirtied g' t) → ((m : ℕ) → g'.size ≤ m → p' m ≡ nothing)
      → Shows g' (now k) → ((m : ℕ) → m < g'.size → t.gone m ≡ (now k).gone m) → t.depth ≡ depth_after k P.past.depth
      → ((e : ℕ) → e < g'.size → g'.kind e ≡ effect → t.gone e ≡ false → (t.fl e).dirty ≡ (P.past.found e || moved s.sto t.sto (ρ e))) → Step P k p' g' t x 0
  unfolding recorded rested whos
  plainly k p' g' t x y e l c nf vl nm u un sh gn d fo = record {
    same = e;
    keeps = subst (λ (z : List Row). Inv g' p' (recorded ρ z) nobody nobody t) (sym l) y;
    fresh = subst (Rowed g' p') (sym l) tt;
    once = subst (λ (z : List Row). Once (whos z)) (sym l) tt;
    spent = omega arith;
    runs = λ z. clash z nf;
    exact = λ z. clash (and_first (flushes P.past k) P.past.writes z) nf;
    clean = u;
    found = λ z m h ke a. fo m h ke a ∙ sym (ap (λ (r : List Row). rested (λ n. P.past.found n || moved s.sto t.sto (ρ n)) r m) l);
    value = vl;
    unwritten = un;
    shows = sh;
    passes = subst (λ (z : List Row). Passes g' (now k).gone z t.gone) (sym l) gn;
    depth = d;
    made = λ o cs z. not_it k (make_effect o cs) nm z;
    silent = λ z f. l;
  }

  -- ---- what is stored and who is dirty stays, of the nodes that there were
  in_record : (e : ℕ) → e < s.size → s.kind e ≡ effect → s.gone e ≡ false → (d : ℕ) → In d (firsts (ρ e)) → d < s.size
  in_record e h ke a d j = let l = (v.rec e h ke a (λ z. z)).all d j in subst (λ (n : ℕ). n < s.size) l.to (i.lists.inside l.slot l.is_live).0

  pub as_found : (t : St) → ((d : ℕ) → d < s.size → t.sto d ≡ s.sto d) → (e : ℕ) → e < s.size → s.kind e ≡ effect → s.gone e ≡ false → (t.fl e).dirty ≡ (s.fl e).dirty → (t.fl e).dirty ≡ (P.past.found e || moved s.sto t.sto (ρ e))
  as_found t same e h ke a d =
      d ∙ so.found e h ke a ∙ sym (ap (λ (b : Bool). P.past.found e || b) (moved_none s.sto t.sto (ρ e) (λ m j. sym (same m (in_record e h ke a m j)))) ∙ or_false (P.past.found e))

  less : (e : ℕ) → e < suc s.size → (e ≡ s.size → ⊥) → e < s.size
  less e h f = omega arith

  -- a new node is no effect
  pub found_new : (k : Kind) (t : St) → (k ≡ effect → ⊥) → ((d : ℕ) → (d ≡ s.size → ⊥) → (t.sto d ≡ s.sto d) × (t.fl d ≡ s.fl d) × (t.gone d ≡ s.gone d))
      → (e : ℕ) → e < suc s.size → up s.kind s.size k e ≡ effect → t.gone e ≡ false → (t.fl e).dirty ≡ (P.past.found e || moved s.sto t.sto (ρ e))
  found_new k t ne same e h ke a = either (eqb e s.size)
      (λ z. absurd (ne (sym (ap (up s.kind s.size k) (eqb-true e s.size z) ∙ up_same s.kind s.size k) ∙ ke)))
      (λ z. let f = eqb-false e s.size z in let w = same e f in
      as_found t (λ d lt. (same d (λ q. omega arith)).0) e (less e h f) (sym (up_other s.kind s.size k e f) ∙ ke) (sym w.2 ∙ a) (ap (λ (x : Named). x.dirty) w.1))

  -- or it is one that has just run
  module _ (o : Option ℕ) (c : Tree) (ok : Fits s effect c o) where
    abbrev N : St
    N = node s effect c o f6 nothing

    abbrev n : ℕ
    n = s.size

    abbrev x : St
    x = owned N n o

    abbrev found_effect_type : St → Type 0
    found_effect_type t = (e : ℕ) → e < suc n → up s.kind n effect e ≡ effect → t.gone e ≡ false → (t.fl e).dirty ≡ up (λ m. P.past.found m || moved s.sto t.sto (ρ m)) n false e

    pub found_effect : (t : St) (b k : ℕ) → t.fl n ≡ f2 → ((m : ℕ) → m < suc n → x.gone m ≡ true → t.gone m ≡ true) → Moves (given N) N.pend (Aside (given N) n t) nobody b k x t → found_effect_type t
    found_effect t b k fn kp mv e h ke a = either (eqb e n)
        (λ z. let q = eqb-true e n z in ap (λ (f : Named). f.dirty) (ap t.fl q ∙ fn) ∙ sym (ap (up (λ m. P.past.found m || moved s.sto t.sto (ρ m)) n false) q ∙ up_same (λ m. P.past.found m || moved s.sto t.sto (ρ m)) n false))
        (λ z.
        let ne = eqb-false e n z in
        let lt = less e h ne in
        let u = owned_quiet N n o in
        let km : s.kind e ≡ effect = sym (up_other s.kind n effect e ne) ∙ ke in
        let ax : x.gone e ≡ false = either (x.gone e) (λ y. clash (kp e h y) a) (λ y. y) in
        let am : s.gone e ≡ false = sym (ap (λ (f : ℕ → Bool). f e) u.gone ∙ up_other s.gone n false e ne) ∙ ax in
        let sto : (d : ℕ) → In d (firsts (ρ e)) → x.sto d ≡ s.sto d = λ d j. let l = in_record e lt km am d j in ap (λ (f : ℕ → Value). f d) u.sto ∙ up_other s.sto n nothing d (λ y. omega arith) in
        dirty_told (given N) (new_static s w effect c o f6 nothing ok) N.pend ρ (also nobody n) x (made s w effect c f6 nothing refl o ok (λ q y. refl)).inside (owned_keeps s w effect c f6 nothing refl ρ v₀ o ok (λ q y. refl)) deaf
        (Aside (given N) n t) b k t mv e h ke ax (off ne) (out ne)
        ∙ ap₂ (λ (y f : Bool). y || f) (ap (λ (f : ℕ → Named). (f e).dirty) u.fl ∙ ap (λ (f : Named). f.dirty) (up_other s.fl n f6 e ne) ∙ so.found e lt km am) (moved_same x.sto s.sto t.sto (ρ e) sto)
        ∙ sym (up_other (λ m. P.past.found m || moved s.sto t.sto (ρ m)) n false e ne))
      where
        deaf : (m : ℕ) → also nobody n m → readable (up s.kind n effect m) ≡ false
        deaf m (inl x'') = elim x'' [ ]
        deaf m (inr q) = ap readable (ap (up s.kind n effect) q ∙ up_same s.kind n effect)

        off : (e ≡ n → ⊥) → also nobody n e → ⊥
        off ne (inl x'') = elim x'' [ ]
        off ne (inr q) = ne q

        out : (e ≡ n → ⊥) → Aside (given N) n t e → ⊥
        out ne (inl y) = y (h, ke)
        out ne (inr (inl y)) = ne y
        out ne (inr (inr y)) = clash y a

  -- ---- the nodes as they were
  pub shown : Shows g P.past.nodes
  shown = record { size = ag.size; kind = ag.kind; form = ag.form; owner = ag.owner }

  -- and with a new one
  pub shown_new : (k : Kind) (c : Tree) (o : Option ℕ) (f : Named) (x : Value) → Shows (given (node s k c o f x)) (with_new P.past.nodes k c o)
  shown_new k c o f x = record {
    size = ap suc ag.size;
    kind = ap₂ (λ (h : ℕ → Kind) (n : ℕ). up h n k) ag.kind ag.size;
    form = ap₂ (λ (h : ℕ → Tree) (n : ℕ). up h n c) ag.form ag.size;
    owner = ap₂ (λ (h : ℕ → Option ℕ) (n : ℕ). up h n o) ag.owner ag.size;
  }

  pub gone_new : (m : ℕ) → m < suc s.size → up s.gone s.size false m ≡ up P.past.nodes.gone P.past.nodes.size false m
  gone_new m h = up_agrees s.gone P.past.nodes.gone s.size false ag.gone m h ∙ ap (λ (n : ℕ). up P.past.nodes.gone n false m) ag.size

  pub number_is : value (pos s.size) ≡ value (pos P.past.nodes.size)
  number_is = ap (λ (n : ℕ). value (pos n)) ag.size

  -- nothing was written to a node that is new
  pub unsaid : up s.pend s.size nothing ≡ p
  unsaid = ap (λ (f : ℕ → Value). up f s.size nothing) v.last ∙ fun_ext (λ m. up_by p s.size nothing (λ (x : Value). x ≡ p m) m (λ q. sym (so.unwritten m (omega arith))) (λ q. refl))
