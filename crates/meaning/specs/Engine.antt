-- Document 01, "Values, writes, flush", and the making of nodes.
use Rattle.std.specs.Prelude.{true, false, List, [], ◌∷◌, ◌++◌, ℕ, zero, suc, ◌+◌, max, pos, Option, None, Some}
use Rattle.flags.specs.declared.Named.{Named}
use Rattle.values.specs.declared.Value.{Value}
use Rattle.values.specs.Values.{same}
use Rattle.trees.specs.Trees.{Tree, constant, size, names}
use Rattle.meaning.specs.State.{St, Kind, signal, computed, effect, scope, a_signal, f0, f1, f2, f6, f17, nothing, raised}
use Rattle.meaning.specs.Setters.{set_kind, set_form, set_owner, set_gone, set_level, set_fl, set_sto, set_pend, set_done, set_rest, set_subs, with_size, with_used, with_queue, with_depth, with_cycle, with_log}
use Rattle.meaning.specs.Links.{stop, provided, is_nil, link, purge, rewind}
use Rattle.meaning.specs.Marks.{is_effect, propagate}
use Rattle.meaning.specs.Reads.{Out, check, evaluate}

-- ---- runs
-- one log row more
unfoldable pub logged : Out → ℕ → St
logged o e = with_log o.st (o.st.log ++ record { who = e; worth = o.val; reads = o.reads } ∷ [])

-- only an effect runs; what it owns is disposed by the purge
unfoldable pub rerun : St → ℕ → St
rerun s e =
    let o = evaluate (set_fl (rewind (with_cycle s (raised s.cycle)) e) e f6) e in
    provided (is_effect (s.kind e)) (purge (set_fl (logged o e) e f2) e)

-- its reads decide; a gone effect has flags 0 and does not run
unfoldable pub run : St → ℕ → St
run s e =
    let c = check s e in
    let checked : St = elim c.yes [ true ↦ rerun c.st e | false ↦ set_fl c.st e f2 ] in
    let unless_dirty : St = elim (s.fl e).pending [ true ↦ checked | false ↦ set_fl s e f2 ] in
    elim (s.fl e).dirty [ true ↦ rerun s e | false ↦ unless_dirty ]

unfoldable pub flush_on : St → List ℕ → St
flush_on s [] = s
flush_on s (e ∷ q) = flush_on (run (with_queue s q) e) q

abbrev pub flush : St → St
flush s = flush_on s s.queue

-- only at depth 0
abbrev pub flush_at : St → ℕ → St
flush_at s zero = flush s
flush_at s (suc d) = s

-- ---- writes, to signals only: nothing happens where the new value is the old pending one
unfoldable pub store : St → ℕ → Value → St
store s n v =
    let t = set_fl (set_pend s n v) n f17 in
    let p = propagate t n in
    let written : St = elim (is_nil (s.subs n)) [ true ↦ t | false ↦ flush_at p p.depth ] in
    let stored : St = elim (same (s.pend n) v) [ true ↦ s | false ↦ written ] in
    provided (a_signal (s.kind n)) stored

-- ---- heights and owner depths
unfoldable pub tallest : (ℕ → ℕ) → List ℕ → ℕ
tallest h [] = 0
tallest h (n ∷ ns) = max (h n) (tallest h ns)

-- the height of a computed: 1 + the greatest height its formula names (1 if none)
abbrev pub height_of : (ℕ → ℕ) → Tree → ℕ
height_of h t = suc (tallest h (names t))

-- unowned 1; owned, owner's + 1
abbrev pub depth_under : (ℕ → ℕ) → Option ℕ → ℕ
depth_under h None = 1
depth_under h (Some o) = suc (h o)

abbrev pub level_of : (ℕ → ℕ) → Kind → Tree → Option ℕ → ℕ
level_of h k t o = elim k [ signal ↦ 0 | computed ↦ height_of h t | effect ↦ depth_under h o | scope ↦ depth_under h o ]

-- ---- the cells that a new node takes
abbrev pub cells_of : Kind → Tree → ℕ
cells_of k t = elim k [ signal ↦ 0 | computed ↦ size t | effect ↦ size t | scope ↦ 0 ]

-- ---- a new node has the next number
abbrev pub bare_node : St → ℕ → St
bare_node s n = set_subs (set_rest (set_done (set_gone s n false) n []) n []) n []

abbrev pub node : St → Kind → Tree → Option ℕ → Named → Value → St
node s k t o b v =
    let n = s.size in
    with_used (with_size (set_pend (set_sto (set_fl (set_level (set_owner (set_form (set_kind (bare_node s n) n k) n t) n o) n (level_of s.level k t o)) n b) n v) n v) (suc n)) (s.used + cells_of k t)

-- its owner depends on it
abbrev pub owned : St → ℕ → Option ℕ → St
owned s n None = s
owned s n (Some o) = link s n o 0

unfoldable pub new_signal : St → Value → St
new_signal s v = node s signal (constant (pos 0)) None f1 v

unfoldable pub new_computed : St → Tree → St
new_computed s t = node s computed t None f0 nothing

unfoldable pub new_scope : St → Option ℕ → St
new_scope s o = owned (node s scope (constant (pos 0)) o f0 nothing) s.size o

-- a new effect, about to run
abbrev pub entered : St → Option ℕ → Tree → St
entered s o t = owned (node s effect t o f6 nothing) s.size o

-- it runs at once, and the cycle is not raised
unfoldable pub new_effect : St → Option ℕ → Tree → St
new_effect s o t = let n = s.size in let r = evaluate (entered s o t) n in set_fl (logged r n) n f2

-- ---- batches; an end at depth 0 is refused
abbrev pub start : St → St
start s = with_depth s (suc s.depth)

abbrev pub end_at : St → ℕ → St
end_at s zero = stop s
end_at s (suc zero) = flush (with_depth s 0)
end_at s (suc (suc d)) = with_depth s (suc d)
