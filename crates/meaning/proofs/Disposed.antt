-- Disposal: what is gone is gone with all it owns, and has no links; nothing else goes; the reserve of what goes comes back. Assumes nothing.
use Rattle.std.specs.Prelude.{Option, Some}
use mathlib.Core.Path.{◌≡◌, refl, sym, ap, ◌∙◌, subst}
use mathlib.Core.Logic.{inl}
use mathlib.Core.Bool.{Bool, true, false}
use mathlib.Core.List.{List, []}
use Prim.Native.Nat.{ℕ, ◌+◌, ◌<◌}
use native.Mathlib.Omega.{arith}
use lib.IntN.{ℤ, pos}
use borrow.Author.Tests.{not-true}
use Rattle.trees.specs.Trees.{Tree}
use Rattle.meaning.specs.State.{St, Kind, signal, computed, effect, scope, readable, deps}
use Rattle.meaning.specs.Setters.{with_log}
use Rattle.meaning.specs.Links.{unlink_n, budget, dispose}
use Rattle.meaning.specs.Words.{dispose_of, command_of}
use Rattle.meaning.specs.Reserve.{total, reserve_of, reserve}
use Rattle.meaning.specs.Refusals.{sight_of, an_owner, asks_of, wrong_node, table}
use Rattle.meaning.specs.WellFormed.{In, WellFormed}
use Rattle.meaning.specs.Owners.{Below, itself, through}
use Rattle.meaning.specs.Commands.{perform, Answer, command}
use Rattle.meaning.proofs.Laws.{clash, either}
use Rattle.meaning.proofs.Members.{nil_none, total_both}
use Rattle.meaning.proofs.Steps.{dispose_marks}
use Rattle.meaning.proofs.Rings.{unlink_ring, dispose_ring}
use Rattle.meaning.proofs.Still.{Given, given, Still, drops_still}
use Rattle.meaning.proofs.Refused.{NoneHolds}
use Rattle.meaning.proofs.Performed.{performed}
use Rattle.meaning.proofs.Inside.{static, rest_inside}
use Rattle.meaning.proofs.Dropping.{dispose_inside}
use Rattle.meaning.proofs.Kept.{Keeps}
use Rattle.meaning.proofs.Accepted.{logless, taken}

-- x is gone
pub dispose_gone : (s : St) (x : ℕ) → (dispose s x).gone x ≡ true
dispose_gone s x = dispose_marks (unlink_n (budget s)) s x (λ t l e. (unlink_ring Still drops_still (budget s) t l).gone x e)

-- an owner that is gone has nothing live below it
pub gone_below : (s : St) → WellFormed s → (x y : ℕ) → s.gone x ≡ true → Below s.owner x y → y < s.size → s.gone y ≡ true
gone_below s w x y a (itself e) h = ap s.gone e ∙ a
gone_below s w x y a (through o b q) h =
    let lo = w.depends.owner_lower y o h q in
    let ao = gone_below s w x o a b (omega arith) in
    either (s.gone y) (λ z. z) (λ z.
    let c = w.depends.one_owner y o h z q in
    let lv = w.lists.subs_live c.0 y (subst (In c.0) (sym c.1) (inl refl)) in
    absurd (nil_none (deps s o) c.0 (w.depends.gone_bare o (omega arith) ao).0 (subst (λ (n : ℕ). In c.0 (deps s n)) c.2 (w.lists.live_in_deps c.0 lv.0))))

-- who is owned by whom stays
pub below_stays : (s t : St) → WellFormed s → ((n : ℕ) → n < s.size → t.owner n ≡ s.owner n) → (x y : ℕ) → y < s.size → Below s.owner x y → Below t.owner x y
below_stays s t w same x y h (itself e) = itself e
below_stays s t w same x y h (through o b q) = let lo = w.depends.owner_lower y o h q in through o (below_stays s t w same x o (omega arith) b) (same y h ∙ q)

-- ---- an accepted dispose
module _ (s : St) (rows : ℕ) (w : WellFormed s) (ws : List ℤ) (x : ℕ) (is : command_of ws ≡ Some (dispose_of (pos x))) (a : (command true s rows ws).code ≡ 0) where
  pub record Goes (t : St) : Type 0 where
    pub gone : t.gone x ≡ true
    pub others : (m : ℕ) → m < s.size → (Below s.owner x m → ⊥) → t.gone m ≡ s.gone m
    pub keeps : Keeps s t

  pub disposed : Goes (command true s rows ws).st
  unfolding table perform wrong_node asks_of
  disposed =
      let p = performed s rows ws (dispose_of (pos x)) is a in
      subst Goes (sym (ap (λ (z : Answer). z.st) p.0)) (now p.1)
    where
      now : NoneHolds (table true (sight_of s rows) (Some (dispose_of (pos x)))) → Goes (perform (with_log s []) (dispose_of (pos x))).st
      now h =
          let wl = logless s rows w in
          let k = taken s rows w an_owner (pos x) (h 2) in
          let r = dispose_inside (given (with_log s [])) (static (with_log s []) wl) (with_log s []) x (rest_inside (with_log s []) wl) k.0 (not-true (readable (s.kind x)) k.1) in
          record { gone = dispose_gone (with_log s []) x; others = r.others; keeps = record { still = r.inside.same; gone = (dispose_ring Still drops_still (with_log s []) x).gone } }

-- ---- the reserve
-- what a node gives back: all it counted, if it goes
abbrev pub given_back : Bool → Bool → ℕ → ℕ
given_back true now k = 0
given_back false true k = k
given_back false false k = 0

-- the reserve of a node before: that after it, and what it gave back
node_back : (k : Kind) (b c : Bool) (t : Tree) (o : Option ℕ) → (readable k ≡ true → c ≡ false) → (b ≡ true → c ≡ true) → reserve_of k c t o + given_back b c (reserve_of k false t o) ≡ reserve_of k b t o
node_back signal true c t o r g = omega arith
node_back signal false true t o r g = omega arith
node_back signal false false t o r g = omega arith
node_back computed true c t o r g = omega arith
node_back computed false true t o r g = clash refl (r refl)
node_back computed false false t o r g = omega arith
node_back effect true true t o r g = omega arith
node_back effect true false t o r g = clash (g refl) refl
node_back effect false true t o r g = omega arith
node_back effect false false t o r g = omega arith
node_back scope true true t o r g = omega arith
node_back scope true false t o r g = clash (g refl) refl
node_back scope false true t o r g = omega arith
node_back scope false false t o r g = omega arith

pub reserve_back : (s t : St) → WellFormed t → Keeps s t → reserve t + total (λ n. given_back (s.gone n) (t.gone n) (reserve_of (s.kind n) false (s.form n) (s.owner n))) s.size ≡ reserve s
unfolding reserve
reserve_back s t w k =
    let e : given t ≡ given s = k.still in
    let size : t.size ≡ s.size = ap (λ (g : Given). g.size) e in
    let now : total (λ n. reserve_of (t.kind n) (t.gone n) (t.form n) (t.owner n)) t.size ≡ total (λ n. reserve_of (s.kind n) (t.gone n) (s.form n) (s.owner n)) s.size =
    ap (λ (g : Given). total (λ n. reserve_of (g.kind n) (t.gone n) (g.form n) (g.owner n)) g.size) e in
    let sum : total (λ n. reserve_of (s.kind n) (t.gone n) (s.form n) (s.owner n)) s.size + total (λ n. given_back (s.gone n) (t.gone n) (reserve_of (s.kind n) false (s.form n) (s.owner n))) s.size ≡ total (λ n. reserve_of (s.kind n) (s.gone n) (s.form n) (s.owner n)) s.size =
    total_both _ _ _ s.size (λ m h. node_back (s.kind m) (s.gone m) (t.gone m) (s.form m) (s.owner m)
    (λ r. w.depends.gone_kind m (omega arith) (ap (λ (g : Given). readable (g.kind m)) e ∙ r)) (k.gone m)) in
    omega arith
