-- A new effect with its first run, over words and over lists: its row is the first of the log. Assumes nothing.
use Rattle.std.specs.Prelude.{Option, None, Some}
use mathlib.Core.Path.{◌≡◌, refl, sym, ap, ◌∙◌, subst}
use mathlib.Core.Bool.{false}
use mathlib.Core.List.{List, [], ◌∷◌, ◌++◌}
use Prim.Native.Nat.{ℕ, ◌+◌, ◌*◌, ◌^◌, ◌<◌, ◌≤◌}
use native.Mathlib.Omega.{arith}
use lib.IntN.{ℤ, pos}
use lib.ListN.{length}
use Rattle.values.specs.declared.Value.{Value}
use Rattle.values.specs.Values.{value}
use Rattle.primitive.specs.declared.kinds.Kind.TheVariants.{Effect}
use Rattle.trees.specs.Trees.{Tree, written, names}
use Rattle.reading.specs.Tables.{State, state}
use Rattle.reading.specs.Read.{evaluated_for}
use Rattle.operating.specs.Log.{Ran, ran_to, rowed, rows_in}
use Rattle.operating.specs.Runs.{running, ended_run}
use Rattle.operating.specs.Making.{Made, make, owned_sort, new_effect}
use Rattle.meaning.specs.State.{St, effect, Row, f2, f6, nothing}
use Rattle.meaning.specs.Setters.{set_fl}
use Rattle.meaning.specs.Reads.{eval_by, read_w, fresh, evaluate}
use Rattle.meaning.specs.Engine.{logged, node, owned as ownedL, new_effect as effectL}
use Rattle.meaning.specs.WellFormed.{read_links, WellFormed}
use Rattle.meaning.proofs.Rings.{evaluate_ring}
use Rattle.meaning.proofs.Still.{Given, Fixed, Still, link_still, renews_still}
use Rattle.meaning.proofs.Inside.{Static, Inside}
use Rattle.meaning.proofs.Frames.{frame_same}
use Rattle.meaning.proofs.Reading.{Near}
use Rattle.meaning.proofs.Running.{Run, begin, i_ended}
use Rattle.meaning.proofs.Making.{Fits, G, kind_new, new_static}
use Rattle.meaning.proofs.Made.{Made as MadeL, made as madeL}
use Rattle.structure.specs.Logged.{Logged}
use Rattle.structure.specs.Rep.{owner_word}
use Rattle.structure.proofs.Stated.{relogged}
use Rattle.structure.proofs.Held.{inside_held}
use Rattle.structure.proofs.Steps.{Sees}
use Rattle.structure.proofs.ReadSame.{ringed}
use Rattle.structure.proofs.LogRows.{Leaves, log_none, log_more}
use Rattle.structure.proofs.Runs.{ended_sees}
use Rattle.structure.proofs.Flushes.{nodes_few}
use Rattle.structure.proofs.Makings.{Makes, with_owner, effect_makes}

pub owned_log : (s : St) (n : ℕ) (o : Option ℕ) → (ownedL s n o).log ≡ s.log
owned_log s n None = refl
owned_log s n (Some p) = ap (λ (f : Fixed). f.log) (link_still s n p 0).same

module _ (x : State) (C : List ℤ) (s : St) (r : Sees [] x C s) (w : WellFormed s) (free : s.stuck ≡ false) (blank : s.log ≡ []) (o : Option ℕ)
    (ws : List ℤ) (t : Tree) (spelt : ws ≡ written t) (fits : Fits s effect t o) where
  abbrev n : ℕ
  n = s.size

  abbrev g : Given
  g = G s w effect t o f6 nothing fits

  abbrev st : Static g
  st = new_static s w effect t o f6 nothing fits

  -- the new effect, before its run, over lists and over words
  abbrev X : St
  X = ownedL (node s effect t o f6 nothing) n o

  m : MadeL s w effect t f6 nothing refl o fits X
  m = madeL s w effect t f6 nothing refl o fits (λ p e. refl)

  abbrev Y : Made
  Y = with_owner x C s r w free o (make x C (owned_sort x Effect running (owner_word o)) ws (value (pos 0)))

  y : Makes Y s X
  y = effect_makes x C s r w free o ws t spelt fits

  hn : n < g.size
  hn = omega arith

  kn : g.kind n ≡ effect
  kn = kind_new s w effect t o f6 nothing fits n refl

  left : length (read_links g.kind X.dep (X.rest n)) ≤ length (names (g.form n))
  unfolding read_links
  left = subst (λ (z : List ℕ). length (read_links g.kind X.dep z) ≤ length (names (g.form n))) (sym m.rest) (omega arith)

  worked : Sees [] (evaluated_for Y.cells Y.after n).after Y.cells (evaluate X n).st × ((evaluated_for Y.cells Y.after n).value ≡ (evaluate X n).val) × ((evaluate X n).st.fl n ≡ f6)
  worked = (ringed g st Y.cells).evaluates [] Y.after X n hn kn (begin g st n hn kn X X m.inside m.owns m.inside (frame_same g (Near g st n) n X) m.done left) (m.stuck ∙ free) m.flag y.sees

  abbrev O : St
  O = logged (evaluate X n) n

  ends : Inside g (Run g st n) (set_fl O n f2)
  ends = subst (λ (f : Tree). Inside g (Run g st n) (set_fl (logged (eval_by (read_w (fresh X.size) n) f X) n) n f2)) (sym (ap (λ (z : Given). z.form n) m.inside.same))
      (i_ended g st n hn kn X X m.inside m.owns m.inside (frame_same g (Near g st n) n X) m.done left)

  ended : Sees [] (state (ended_run (evaluated_for Y.cells Y.after n).after.nodes n) (evaluated_for Y.cells Y.after n).after.links (evaluated_for Y.cells Y.after n).after.values) Y.cells (set_fl O n f2)
  unfolding logged
  ended =
      let z = (evaluated_for Y.cells Y.after n).after in
      let h = inside_held g (Run g st n) (set_fl O n f2) st ends in
      ended_sees [] z Y.cells O n (record { lists = h.lists; fit = h.fit }) (relogged [] z.nodes z.links z.values Y.cells (evaluate X n).st O.log (evaluate X n).st.stuck worked.0)
      (subst (λ (k : Given). n < k.size) (sym ends.same) hn) worked.2

  abbrev row : Row
  row = record { who = n; worth = (evaluate X n).val; reads = (evaluate X n).reads }

  log_is : O.log ≡ row ∷ []
  unfolding logged
  log_is = ap (λ (z : List Row). z ++ row ∷ []) (ap (λ (f : Fixed). f.log) (evaluate_ring Still renews_still X n).same ∙ owned_log (node s effect t o f6 nothing) n o ∙ blank)

  logs : (l : List ℤ) → length (row ∷ []) * 2 ≤ length l → Logged l O.log (rowed l n (evaluated_for Y.cells Y.after n).value) (rows_in l)
  logs l fit =
      let few : n < 2 ^ 63 = let a = nodes_few g st in let b = st.nodes_fit in let c = hn in omega arith in
      subst (λ (rs : List Row). Logged l rs (rowed l n (evaluated_for Y.cells Y.after n).value) (rows_in l)) (sym log_is)
      (subst (λ (v : Value). Logged l (row ∷ []) (rowed l n v) (rows_in l)) (sym worked.1)
      (subst (λ (k : ℕ). Logged l (row ∷ []) (rowed l n row.worth) k) (let e : 0 + rows_in l ≡ rows_in l = omega arith in e) (log_more l [] l 0 (log_none l) row fit few)))

  pub effect_leaves : (l : List ℤ) → length (effectL s o t).log * 2 ≤ length l → Leaves l (new_effect x C l (owner_word o) ws).cells (new_effect x C l (owner_word o) ws).ran (effectL s o t) × ((new_effect x C l (owner_word o) ws).number ≡ n)
  unfolding new_effect effectL
  effect_leaves l fit =
      let e = y.number in
      let v : ℕ → Ran = λ k. let a = evaluated_for Y.cells Y.after k in ran_to (state (ended_run a.after.nodes k) a.after.links a.after.values) (rowed l k a.value) (rows_in l) in
      (subst (λ (k : ℕ). Leaves l Y.cells (v k) (set_fl O n f2)) (sym e) (record { sees = ended; logs = logs l (subst (λ (rs : List Row). length rs * 2 ≤ length l) log_is fit) }), e)
