-- The test passes exactly the tables that keep the rules. Assumes nothing.
use mathlib.Core.Path.{◌≡◌, refl, sym, ap, ◌∙◌, subst}
use mathlib.Core.Bool.{Bool, true, false, ◌&&◌}
use mathlib.Core.List.{List, [], ◌∷◌}
use Prim.Native.Nat.{ℕ, zero, suc, ◌+◌, ◌*◌, ◌/◌, ◌<◌, ◌≤◌}
use native.Mathlib.Omega.{arith}
use lib.Dec.{T, eqb, leb, ltb}
use lib.IntN.{ℤ}
use lib.ListN.{length, get_or, take, drop, length-take, length-drop}
use borrow.Author.Tests.{eqb-true, eq-eqb, leb-true, le-leb, ltb-true, ltb-false, lt-ltb}
use Rattle.primitive.specs.Words.{START, CELLS, READS, OWNER, LEVEL, COUNT, USED, KIND, GONE, SIGNAL, COMPUTED, EFFECT, SCOPE, node}
use Rattle.trees.specs.Trees.{Tree, size, names, written}
use Rattle.trees.specs.Legal.{legal_in}
use Rattle.trees.specs.Names.{all_named, read_cells, tallest, tallest_in, height_in, most_height}
use Rattle.trees.proofs.Ends.{all_named-written, read_cells_lem}
use Rattle.trees.proofs.Exact.{legal_sound, legal_complete}
use Rattle.trees.proofs.Written.{size_some, length_written}
use Rattle.counting.specs.Counts.{node_room, slot_room, cell_room, carry_in, reserve_in}
use Rattle.telling.specs.Formulas.{lower_rank, own_cells, all_lower, reads_lower, formula_in}
use Rattle.counting.specs.Depths.{most_owner_depth, depth_under}
use Rattle.telling.specs.Levels.{level_kept}
use Rattle.telling.specs.Nodes.{row, stands_alone, signal_in, computed_in, scope_in, effect_in, node_in, nodes_in}
use Rattle.telling.specs.Rules.{AllLower, HasFormula, SignalRow, ComputedRow, ScopeRow, NodeRow, a_signal_row, a_computed_row, an_effect, a_scope, Described}
use Rattle.telling.specs.Whole.{used_cells, described_in}

both : (b c : Bool) → (b && c) ≡ true → (b ≡ true) × (c ≡ true)
both true c e = (refl, e)
both false c e = absurd (subst T (sym e) tt)

and : {b c : Bool} → b ≡ true → c ≡ true → (b && c) ≡ true
and e f = rw (e, f)

-- ---- formulas
lower_sound : (ms : List ℕ) (n : ℕ) → all_lower ms n ≡ true → AllLower ms n
unfolding all_lower lower_rank
lower_sound [] n e = tt
lower_sound (m ∷ ms) n e = let p = both (ltb m n) (all_lower ms n) e in (ltb-true m n p.0, lower_sound ms n p.1)

lower_complete : (ms : List ℕ) (n : ℕ) → AllLower ms n → all_lower ms n ≡ true
unfolding all_lower lower_rank
lower_complete [] n h = refl
lower_complete (m ∷ ms) n h = and (lt-ltb m n h.0) (lower_complete ms n h.1)

module _ (nodes : List ℕ) (used : List ℤ) (n : ℕ) where
  -- the cells that were found are as many as the row says, and lie inside; where they do not, none are found
  own_long : (t : Tree) → own_cells nodes used n ≡ written t → (node nodes n START + node nodes n CELLS ≤ length used / 2) × (size t ≡ node nodes n CELLS)
  unfolding own_cells
  own_long t e = go (leb (node nodes n START + node nodes n CELLS) (length used / 2)) refl e
    where
      go : (b : Bool) → leb (node nodes n START + node nodes n CELLS) (length used / 2) ≡ b
          → elim b [ true ↦ take (node nodes n CELLS * 2) (drop (node nodes n START * 2) used) | false ↦ [] ] ≡ written t
          → (node nodes n START + node nodes n CELLS ≤ length used / 2) × (size t ≡ node nodes n CELLS)
      go true h f =
          let i = leb-true (node nodes n START + node nodes n CELLS) (length used / 2) h in
          let l = ap length f ∙ length_written t in (
            i,
            omega (arith, i, l, length-take (node nodes n CELLS * 2) (drop (node nodes n START * 2) used), length-drop (node nodes n START * 2) used),
          )
      go false h f = let l = ap length f ∙ length_written t in absurd (omega (arith, l, size_some t))

  formula_sound : formula_in nodes (own_cells nodes used n) n ≡ true → HasFormula nodes used n
  unfolding formula_in reads_lower
  formula_sound e =
      let ws = own_cells nodes used n in
      let p = both (legal_in nodes ws) (all_lower (all_named ws) n && eqb (node nodes n READS) (read_cells ws)) e in
      let q = both (all_lower (all_named ws) n) (eqb (node nodes n READS) (read_cells ws)) p.1 in
      let l = legal_sound nodes ws p.0 in
      let s = l.1.spelt in
      let o = own_long l.0 s in
      record {
        tree = l.0;
        inside = o.0;
        long = o.1;
        formula = l.1;
        lower = lower_sound (names l.0) n (subst (λ (ms : List ℕ). all_lower ms n ≡ true) (ap all_named s ∙ all_named-written l.0) q.0);
        counted = eqb-true (node nodes n READS) (read_cells ws) q.1 ∙ ap read_cells s ∙ read_cells_lem l.0;
      }

  formula_complete : HasFormula nodes used n → formula_in nodes (own_cells nodes used n) n ≡ true
  unfolding formula_in reads_lower
  formula_complete h =
      let ws = own_cells nodes used n in
      let s = h.formula.spelt in
      and (legal_complete nodes ws (h.tree, h.formula))
      (and (subst (λ (ms : List ℕ). all_lower ms n ≡ true) (sym (ap all_named s ∙ all_named-written h.tree)) (lower_complete (names h.tree) n h.lower))
      (eq-eqb (node nodes n READS) (read_cells ws) (h.counted ∙ sym (ap read_cells s ∙ read_cells_lem h.tree))))

  -- the height that the cells give is the tree's
  height_of_own : (t : Tree) → own_cells nodes used n ≡ written t → height_in nodes (own_cells nodes used n) ≡ suc (tallest nodes (names t))
  unfolding height_in tallest_in
  height_of_own t e = ap (λ (ms : List ℕ). suc (tallest nodes ms)) (ap all_named e ∙ all_named-written t)

-- ---- rows
module _ (nodes : List ℕ) (n : ℕ) where
  kept_sound : (level most : ℕ) → level_kept nodes n level most ≡ true → (node nodes n LEVEL ≡ level) × (node nodes n LEVEL ≤ most)
  unfolding level_kept
  kept_sound level most e =
      let p = both (leb level most) (eqb (node nodes n LEVEL) level) e in
      let q = eqb-true (node nodes n LEVEL) level p.1 in
      let l = leb-true level most p.0 in (q, omega arith)

  kept_complete : (level most : ℕ) → node nodes n LEVEL ≡ level → node nodes n LEVEL ≤ most → level_kept nodes n level most ≡ true
  unfolding level_kept
  kept_complete level most q l = and (le-leb level most (omega arith)) (eq-eqb (node nodes n LEVEL) level q)

  alone_sound : stands_alone nodes n ≡ true → (node nodes n GONE ≡ 0) × (node nodes n OWNER ≡ 0)
  unfolding stands_alone
  alone_sound e = let p = both (eqb (node nodes n GONE) 0) (eqb (node nodes n OWNER) 0) e in (eqb-true _ _ p.0, eqb-true _ _ p.1)

  alone_complete : node nodes n GONE ≡ 0 → node nodes n OWNER ≡ 0 → stands_alone nodes n ≡ true
  unfolding stands_alone
  alone_complete g o = and (eq-eqb _ _ g) (eq-eqb _ _ o)

  signal_sound : signal_in nodes n ≡ true → SignalRow nodes n
  unfolding signal_in
  signal_sound e =
      let p = both (stands_alone nodes n) (eqb (node nodes n LEVEL) 0) e in
      let q = alone_sound p.0 in
      record { not_gone = q.0; unowned = q.1; level = eqb-true _ _ p.1 }

  signal_complete : SignalRow nodes n → signal_in nodes n ≡ true
  unfolding signal_in
  signal_complete s = and (alone_complete s.not_gone s.unowned) (eq-eqb _ _ s.level)

  scope_sound : scope_in nodes n ≡ true → ScopeRow nodes n
  unfolding scope_in
  scope_sound e =
      let kept = level_kept nodes n (depth_under nodes (node nodes n OWNER)) most_owner_depth in
      let p = both (leb (node nodes n GONE) 1) (leb (node nodes n OWNER) n && kept) e in
      let q = both (leb (node nodes n OWNER) n) kept p.1 in
      let l = kept_sound (depth_under nodes (node nodes n OWNER)) most_owner_depth q.1 in
      record { gone_mark = leb-true _ _ p.0; owner_lower = leb-true _ _ q.0; level = l.0; level_low = l.1 }

  scope_complete : ScopeRow nodes n → scope_in nodes n ≡ true
  unfolding scope_in
  scope_complete s = and (le-leb _ _ s.gone_mark) (and (le-leb _ _ s.owner_lower) (kept_complete _ most_owner_depth s.level s.level_low))

module _ (nodes : List ℕ) (used : List ℤ) where
  module _ (n : ℕ) where
    computed_sound : computed_in nodes used n ≡ true → ComputedRow nodes used n
    unfolding computed_in
    computed_sound e =
        let ws = own_cells nodes used n in
        let p = both (stands_alone nodes n) (formula_in nodes ws n && level_kept nodes n (height_in nodes ws) most_height) e in
        let q = both (formula_in nodes ws n) (level_kept nodes n (height_in nodes ws) most_height) p.1 in
        let a = alone_sound nodes n p.0 in
        let f = formula_sound nodes used n q.0 in
        let l = kept_sound nodes n (height_in nodes ws) most_height q.1 in
        record { not_gone = a.0; unowned = a.1; has = f; level = l.0 ∙ height_of_own nodes used n f.tree f.formula.spelt; level_low = l.1 }

    computed_complete : ComputedRow nodes used n → computed_in nodes used n ≡ true
    unfolding computed_in
    computed_complete c =
        let f = c.has in
        and (alone_complete nodes n c.not_gone c.unowned)
        (and (formula_complete nodes used n f)
        (kept_complete nodes n _ most_height (c.level ∙ sym (height_of_own nodes used n f.tree f.formula.spelt)) c.level_low))

    row_sound : node_in nodes used n ≡ true → NodeRow nodes used n
    unfolding node_in effect_in
    row_sound e = go (eqb (node nodes n KIND) SIGNAL) (eqb (node nodes n KIND) COMPUTED) (eqb (node nodes n KIND) EFFECT) (eqb (node nodes n KIND) SCOPE) refl refl refl refl e
      where
        go : (s c f o : Bool) → eqb (node nodes n KIND) SIGNAL ≡ s → eqb (node nodes n KIND) COMPUTED ≡ c → eqb (node nodes n KIND) EFFECT ≡ f → eqb (node nodes n KIND) SCOPE ≡ o
            → row s (signal_in nodes n) (row c (computed_in nodes used n) (row f (effect_in nodes used n) (row o (scope_in nodes n) false))) ≡ true → NodeRow nodes used n
        go true c f o k₁ k₂ k₃ k₄ h = a_signal_row (eqb-true _ _ k₁) (signal_sound nodes n h)
        go false true f o k₁ k₂ k₃ k₄ h = a_computed_row (eqb-true _ _ k₂) (computed_sound h)
        go false false true o k₁ k₂ k₃ k₄ h =
            let p = both (scope_in nodes n) (formula_in nodes (own_cells nodes used n) n) h in
            an_effect (eqb-true _ _ k₃) (scope_sound nodes n p.0) (formula_sound nodes used n p.1)
        go false false false true k₁ k₂ k₃ k₄ h = a_scope (eqb-true _ _ k₄) (scope_sound nodes n h)
        go false false false false k₁ k₂ k₃ k₄ h = absurd (subst T (sym h) tt)

    row_complete : NodeRow nodes used n → node_in nodes used n ≡ true
    unfolding node_in effect_in
    row_complete (a_signal_row k s) = rw k (signal_complete nodes n s)
    row_complete (a_computed_row k c) = rw k (computed_complete c)
    row_complete (an_effect k s f) = rw k (and (scope_complete nodes n s) (formula_complete nodes used n f))
    row_complete (a_scope k s) = rw k (scope_complete nodes n s)

  rows_sound : (k : ℕ) → nodes_in nodes used k ≡ true → (n : ℕ) → n < k → node_in nodes used n ≡ true
  unfolding nodes_in
  rows_sound zero e n h = absurd (omega arith)
  rows_sound (suc k) e n h = let p = both (node_in nodes used k) (nodes_in nodes used k) e in at (rows_sound k p.1 n) p.0 (ltb n k) refl
    where
      at : (n < k → node_in nodes used n ≡ true) → node_in nodes used k ≡ true → (b : Bool) → ltb n k ≡ b → node_in nodes used n ≡ true
      at below last true t = below (ltb-true n k t)
      at below last false t = let q : n ≡ k = omega (arith, ltb-false n k t) in rw q last

  rows_complete : (k : ℕ) → ((n : ℕ) → n < k → node_in nodes used n ≡ true) → nodes_in nodes used k ≡ true
  unfolding nodes_in
  rows_complete zero h = refl
  rows_complete (suc k) h = and (h k (omega arith)) (rows_complete k (λ n l. h n (omega arith)))

-- ---- the whole
module _ (nodes links : List ℕ) (values cells : List ℤ) where
  pub described_sound : described_in nodes links values cells ≡ true → Described nodes links values cells
  unfolding described_in
  described_sound e =
      let used = used_cells nodes cells in
      let count = get_or nodes COUNT 0 in
      let last = leb (reserve_in nodes) (slot_room links) in
      let p = both (carry_in nodes links values cells) (leb count (node_room nodes) && (leb (get_or nodes USED 0) (cell_room cells) && (nodes_in nodes used count && last))) e in
      let q = both (leb count (node_room nodes)) (leb (get_or nodes USED 0) (cell_room cells) && (nodes_in nodes used count && last)) p.1 in
      let r = both (leb (get_or nodes USED 0) (cell_room cells)) (nodes_in nodes used count && last) q.1 in
      let s = both (nodes_in nodes used count) last r.1 in
      record {
        carried = p.0;
        nodes_fit = leb-true _ _ q.0;
        cells_fit = leb-true _ _ r.0;
        rows = λ n h. row_sound nodes used n (rows_sound nodes used count s.0 n h);
        reserve_fits = leb-true _ _ s.1;
      }

  pub described_complete : Described nodes links values cells → described_in nodes links values cells ≡ true
  unfolding described_in
  described_complete d =
      and d.carried
      (and (le-leb _ _ d.nodes_fit)
      (and (le-leb _ _ d.cells_fit)
      (and (rows_complete nodes (used_cells nodes cells) (get_or nodes COUNT 0) (λ n h. row_complete nodes (used_cells nodes cells) n (d.rows n h))) (le-leb _ _ d.reserve_fits))))
