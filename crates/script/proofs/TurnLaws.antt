-- The ways through a turn, one law each. Assumes nothing.
use mathlib.Core.Path.{◌≡◌, refl, ap, ◌∙◌}
use mathlib.Core.Bool.{Bool, true, false}
use mathlib.Core.List.{List, ◌++◌}
use Prim.Native.Nat.{ℕ, zero, suc, ◌+◌, ◌-◌, ◌≤◌}
use native.Mathlib.Omega.{arith}
use lib.IntN.{ℤ}
use lib.ListN.{length, take, drop, length-append}
use lib.Seq.{take-append_seam}
use Rattle.commanding.specs.Command.{command_in}
use Rattle.commanding.specs.Command.{Answered as Answer}
use Rattle.spelling.specs.declared.lines.Found.{Found}
use Rattle.spelling.specs.declared.lines.Found.TheVariants.{Short, Unreadable, Pair}
use Rattle.spelling.specs.Buffers.{Buffer, buffer, put}
use Rattle.spelling.specs.Lines.{short, unreadable, pair, reading}
use Rattle.spelling.specs.Pairs.{taken, held, pair_in}
use Rattle.spelling.specs.Answers.{answer, unreadable_answer}
use Rattle.spelling.proofs.PairLaws.{found_short, found_unreadable, found_pair, held_pair}
use Rattle.spelling.proofs.OutputLaws.{pair_behind}
use Rattle.script.specs.declared.turns.Turn.TheVariants.{More, Answered, Ended}
use Rattle.script.specs.Turns.{Tables, tables, stepped, turned, waiting, turn_on, turn_in}

module _ (t : Tables) (ws : List ℤ) (out w : List ℕ) (over : Bool) where
  -- ---- no whole pair yet
  module _ (e : held (length ws) (reading w) ≡ short) where
    pub turn_none : over ≡ true → length w ≡ 0 → turned (Ended 0) t ws out ≡ turn_in t ws out w over
    unfolding turn_in turn_on put
    turn_none o z = rw (e, o, z)

    pub turn_cut : {after : List ℕ} {k : ℕ} → over ≡ true → (length w ≡ 0 → ⊥) → buffer after k ≡ put (buffer out 0) unreadable_answer → turned (Ended k) t ws after ≡ turn_in t ws out w over
    unfolding turn_in turn_on
    turn_cut {after} {k} o z b = rw (e, o) (go (length w) z)
      where
        go : (n : ℕ) → (n ≡ 0 → ⊥) → turned (Ended k) t ws after ≡ waiting t ws out true n
        go zero p = absurd (p refl)
        go (suc n) p = ap (λ (x : Buffer ℕ). turned (Ended x.next) t ws x.held) b

    pub turn_more : over ≡ false → turned More t ws out ≡ turn_in t ws out w over
    unfolding turn_in turn_on
    turn_more o = rw (e, o)

  pub turn_unreadable : {after : List ℕ} {k : ℕ} → held (length ws) (reading w) ≡ unreadable → buffer after k ≡ put (buffer out 0) unreadable_answer → turned (Ended k) t ws after ≡ turn_in t ws out w over
  unfolding turn_in turn_on
  turn_unreadable e b = rw e (ap (λ (x : Buffer ℕ). turned (Ended x.next) t ws x.held) b)

  -- ---- a pair
  pub turn_pair : (zs : List ℤ) (rest : List ℕ) {a : Answer} {after : List ℕ} {k : ℕ} → held (length ws) (reading w) ≡ pair zs rest → a ≡ command_in t.nodes t.links t.values t.cells t.log zs → buffer after k ≡ put (buffer out 0) (answer a.code a.value a.runs a.log) → turned (Answered (length w - length rest) k) (tables a.nodes a.links a.values a.cells a.log) (zs ++ drop (length zs) ws) after ≡ turn_in t ws out w over
  unfolding turn_in turn_on stepped
  turn_pair zs rest {a} {after} {k} e c b = rw (e, ← c) (ap (λ (x : Buffer ℕ). turned (Answered (length w - length rest) x.next) (tables a.nodes a.links a.values a.cells a.log) (zs ++ drop (length zs) ws) x.held) b)

-- ---- as the code finds it
module _ (t : Tables) (ws : List ℤ) (out w : List ℕ) (over : Bool) {f : Found} {after : List ℤ} (found : taken f after ≡ pair_in w ws) where
  pub none_found : f ≡ Short → over ≡ true → length w ≡ 0 → turned (Ended 0) t after out ≡ turn_in t ws out w over
  none_found k o z =
      let g = found_short w ws found k in
      ap (λ (a : List ℤ). turned (Ended 0) t a out) g.1 ∙ turn_none t ws out w over g.0 o z

  pub cut_found : {after-out : List ℕ} {b : ℕ} → f ≡ Short → over ≡ true → (length w ≡ 0 → ⊥) → buffer after-out b ≡ put (buffer out 0) unreadable_answer → turned (Ended b) t after after-out ≡ turn_in t ws out w over
  cut_found {after-out} {b} k o z q =
      let g = found_short w ws found k in
      ap (λ (a : List ℤ). turned (Ended b) t a after-out) g.1 ∙ turn_cut t ws out w over g.0 o z q

  pub more_found : f ≡ Short → over ≡ false → turned More t after out ≡ turn_in t ws out w over
  more_found k o =
      let g = found_short w ws found k in
      ap (λ (a : List ℤ). turned More t a out) g.1 ∙ turn_more t ws out w over g.0 o

  pub unreadable_found : {after-out : List ℕ} {b : ℕ} → f ≡ Unreadable → buffer after-out b ≡ put (buffer out 0) unreadable_answer → turned (Ended b) t after after-out ≡ turn_in t ws out w over
  unreadable_found {after-out} {b} k q =
      let g = found_unreadable w ws found k in
      ap (λ (a : List ℤ). turned (Ended b) t a after-out) g.1 ∙ turn_unreadable t ws out w over g.0 q

module _ (w : List ℕ) (ws : List ℤ) {f : Found} {after : List ℤ} (found : taken f after ≡ pair_in w ws) (left n : ℕ) (k : f ≡ Pair left n) where
  -- its words are those in front
  pub words_inside : n ≤ length after
  words_inside =
      let p = found_pair w ws found left n k in
      omega (arith, p.4, ap length p.5, length-append p.0 (drop (length p.0) ws))

  pub left_inside : left ≤ length w
  left_inside =
      let p = found_pair w ws found left n k in
      let h = held_pair (length ws) (reading w) p.0 p.1 p.2 in
      omega (arith, p.3, (pair_behind w p.0 p.1 h.0).0)

  pub turn_found : (t : Tables) (out : List ℕ) (over : Bool) {a : Answer} {after-out : List ℕ} {b : ℕ} → a ≡ command_in t.nodes t.links t.values t.cells t.log (take n after) → buffer after-out b ≡ put (buffer out 0) (answer a.code a.value a.runs a.log) → turned (Answered (length w - left) b) (tables a.nodes a.links a.values a.cells a.log) after after-out ≡ turn_in t ws out w over
  turn_found t out over {a} {after-out} {b} c o =
      let p = found_pair w ws found left n k in
      let zs = p.0 in
      let m : n ≡ length zs = omega (arith, p.4) in
      let x : take n after ≡ zs = ap (λ (j : ℕ). take j after) m ∙ ap (take (length zs)) p.5 ∙ take-append_seam zs (drop (length zs) ws) in
      let c' : a ≡ command_in t.nodes t.links t.values t.cells t.log zs = c ∙ ap (λ (l : List ℤ). command_in t.nodes t.links t.values t.cells t.log l) x in
      ap (λ (j : ℕ). turned (Answered (length w - j) b) (tables a.nodes a.links a.values a.cells a.log) after after-out) p.3
      ∙ ap (λ (l : List ℤ). turned (Answered (length w - length p.1) b) (tables a.nodes a.links a.values a.cells a.log) l after-out) p.5
      ∙ turn_pair t ws out w over zs p.1 p.2 c' o
