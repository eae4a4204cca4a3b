-- Document 01, "Reserve": the links that live nodes may come to need.
use Rattle.std.specs.Prelude.{Bool, true, false, ℕ, ◌+◌, ◌*◌, length, Option, None, Some}
unfoldable pub use Rattle.lists.specs.Sum.{sum as total}
use Rattle.lists.specs.Sum.{count}
use Rattle.trees.specs.Trees.{Tree, names}
use Rattle.meaning.specs.State.{St, Kind, signal, computed, effect, scope}

-- an owned node counts 1 more
abbrev pub owned_link : Option ℕ → ℕ
owned_link o = elim o [ None ↦ 0 | Some p ↦ 1 ]

-- twice the number of read cells: on a rerun old links stay until the purge
abbrev pub reserve_for : Tree → Option ℕ → ℕ
reserve_for t o = 2 * length (names t) + owned_link o

-- a gone node counts nothing
abbrev pub unless_gone : Bool → ℕ → ℕ
unless_gone g k = elim g [ true ↦ 0 | false ↦ k ]

abbrev pub reserve_of : Kind → Bool → Tree → Option ℕ → ℕ
reserve_of k g t o = elim k [ signal ↦ 0 | computed ↦ reserve_for t None | effect ↦ unless_gone g (reserve_for t o) | scope ↦ unless_gone g (owned_link o) ]

unfoldable pub reserve : St → ℕ
reserve s = total (λ n. reserve_of (s.kind n) (s.gone n) (s.form n) (s.owner n)) s.size

-- the number of live links
abbrev pub live_links : St → ℕ
live_links s = count s.live s.room.slots
