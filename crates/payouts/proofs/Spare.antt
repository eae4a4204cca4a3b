-- What demand 3 leaves free on lent tables: an engine that writes any word v into a spare word of the values after each accepted call keeps it. Assumes nothing.
use mathlib.Core.Path.{◌≡◌, refl, ap, ◌∙◌, subst, sym}
use mathlib.Core.List.{List}
use Prim.Native.Nat.{ℕ, zero, suc, ◌*◌, ◌+◌, ◌<◌}
use native.Mathlib.Omega.{arith}
use lib.IntN.{ℤ, pos}
use lib.ListN.{get_or, set, length, length-set}
use lib.Seq.{get_or-set_same, get_or-set_other}
use Rattle.values.specs.Values.{value, value_at}
use Rattle.reading.specs.Tables.{current_of, pending_of}
use Rattle.commanding.specs.Command.{Answered, answered}
use Rattle.meaning.specs.State.{St}
use Rattle.structure.specs.Rep.{Rep}
use Rattle.structure.specs.Histories.{Tables, Lent, answered_on}
use Rattle.payouts.specs.OnTables.{TableEngine, Unchanged, Demand3On}
use Rattle.payouts.proofs.OfCommand.{like_command, command_unchanged}

-- word 1 of the values is spare: it is in no value
spare : (v : ℤ) (W : List ℤ) (n : ℕ) → value_at (set W 1 v) n ≡ value_at W n
unfolding value_at
spare v W n = ap value (get_or-set_other W 1 (n * 2) v (pos 0) (λ z. omega arith))

spare_rep : (v : ℤ) (N L : List ℕ) (W C : List ℤ) (s : St) → Rep N L W C s → Rep N L (set W 1 v) C s
unfolding current_of pending_of
spare_rep v N L W C s r = record {
  lengths = record { of_nodes = r.lengths.of_nodes; of_links = r.lengths.of_links; of_values = length-set W 1 v ∙ r.lengths.of_values; of_cells = r.lengths.of_cells };
  registers = r.registers;
  kinds = r.kinds;
  flags = r.flags;
  values = record { current = λ n. spare v W (n * 2) ∙ r.values.current n; pending = λ n. spare v W (n * 2 + 1) ∙ r.values.pending n };
  forms = r.forms;
  slots = r.slots;
  deps = r.deps;
  subs = r.subs;
  free = r.free;
  queue = r.queue;
}

abbrev jotted : ℤ → ℕ → List ℤ → List ℤ
jotted v zero W = set W 1 v
jotted v (suc r) W = W

-- `command`, which also writes v there where it accepts
abbrev pub jots : ℤ → TableEngine
jots v t c = let a = answered_on t c in answered a.code a.value a.runs a.nodes a.links (jotted v a.code a.values) a.cells a.log

still : (v : ℤ) (r : ℕ) (N L : List ℕ) (W C : List ℤ) (s : St) → Rep N L W C s → Rep N L (jotted v r W) C s
still v zero N L W C s h = spare_rep v N L W C s h
still v (suc r) N L W C s h = h

kept : (v : ℤ) (r : ℕ) (W : List ℤ) → (r ≡ 0 → ⊥) → jotted v r W ≡ W
kept v zero W f = absurd (f refl)
kept v (suc r) W f = refl

pub jots_keeps : (v : ℤ) → Demand3On (jots v)
jots_keeps v = like_command (jots v) (λ t c. let a = answered_on t c in record {
  shown = refl;
  holds = λ s o. record { represents = still v a.code a.nodes a.links a.values a.cells s o.represents; formed = o.formed; free = o.free };
  refused = λ f.
      let e : jots v t c ≡ a = ap (λ (W : List ℤ). answered a.code a.value a.runs a.nodes a.links W a.cells a.log) (kept v a.code a.values f) in
      subst (λ (x : Answered). Unchanged t c x) (sym e) (command_unchanged t c f);
})

-- and v stands there, whatever it is
pub jots_there : (v : ℤ) (t : Tables) (c : Lent) → (answered_on t c).code ≡ 0 → 1 < length (answered_on t c).values → get_or (jots v t c).values 1 (pos 0) ≡ v
jots_there v t c e h = ap (λ (r : ℕ). get_or (jotted v r (answered_on t c).values) 1 (pos 0)) e ∙ get_or-set_same (answered_on t c).values 1 v (pos 0) h
