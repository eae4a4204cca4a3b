-- `joined::named::read_links` meets its contract. Assumes nothing.
use Rattle.lists.specs.Each.{tally}
use Rattle.primitive.specs.Rows.{field}
use Rattle.trees.specs.Legal.{readable_in}
use mathlib.Core.Path.{◌≡◌}
use Prim.Native.Nat.{ℕ, ◌+◌, ◌-◌, ◌≤◌}
use Rattle.joined.proofs.named.read_links.Given as goal

abbrev pub invariant-loop-link : goal.invariant-loop-link
invariant-loop-link l = (l.count + tally (λ (x : ℕ). field 8 l.links x 6) (λ (x : ℕ). readable_in l.nodes (field 8 l.links x 1)) (l.slots - l._link) l.at ≡ tally (λ (x : ℕ). field 8 l.links x 6) (λ (x : ℕ). readable_in l.nodes (field 8 l.links x 1)) l.slots l.w) × (l.count ≤ l._link)
