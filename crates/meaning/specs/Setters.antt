-- The state with one column changed, and with one place of a column changed. Written by tools/setters-meaning.py.
use Rattle.std.specs.Prelude.{Bool, List, ℕ, Option}
use Rattle.flags.specs.declared.Named.{Named}
use Rattle.values.specs.declared.Value.{Value}
use Rattle.trees.specs.Trees.{Tree}
use Rattle.meaning.specs.State.{St, Kind, Row, up}

abbrev pub with_size : St → ℕ → St
with_size s x = record { room = s.room; size = x; used = s.used; kind = s.kind; form = s.form; owner = s.owner; gone = s.gone; level = s.level; fl = s.fl; sto = s.sto; pend = s.pend; done = s.done; rest = s.rest; subs = s.subs; live = s.live; dep = s.dep; sub = s.sub; ver = s.ver; free = s.free; queue = s.queue; depth = s.depth; cycle = s.cycle; log = s.log; stuck = s.stuck }

abbrev pub with_used : St → ℕ → St
with_used s x = record { room = s.room; size = s.size; used = x; kind = s.kind; form = s.form; owner = s.owner; gone = s.gone; level = s.level; fl = s.fl; sto = s.sto; pend = s.pend; done = s.done; rest = s.rest; subs = s.subs; live = s.live; dep = s.dep; sub = s.sub; ver = s.ver; free = s.free; queue = s.queue; depth = s.depth; cycle = s.cycle; log = s.log; stuck = s.stuck }

abbrev pub with_kind : St → (ℕ → Kind) → St
with_kind s x = record { room = s.room; size = s.size; used = s.used; kind = x; form = s.form; owner = s.owner; gone = s.gone; level = s.level; fl = s.fl; sto = s.sto; pend = s.pend; done = s.done; rest = s.rest; subs = s.subs; live = s.live; dep = s.dep; sub = s.sub; ver = s.ver; free = s.free; queue = s.queue; depth = s.depth; cycle = s.cycle; log = s.log; stuck = s.stuck }

abbrev pub with_form : St → (ℕ → Tree) → St
with_form s x = record { room = s.room; size = s.size; used = s.used; kind = s.kind; form = x; owner = s.owner; gone = s.gone; level = s.level; fl = s.fl; sto = s.sto; pend = s.pend; done = s.done; rest = s.rest; subs = s.subs; live = s.live; dep = s.dep; sub = s.sub; ver = s.ver; free = s.free; queue = s.queue; depth = s.depth; cycle = s.cycle; log = s.log; stuck = s.stuck }

abbrev pub with_owner : St → (ℕ → Option ℕ) → St
with_owner s x = record { room = s.room; size = s.size; used = s.used; kind = s.kind; form = s.form; owner = x; gone = s.gone; level = s.level; fl = s.fl; sto = s.sto; pend = s.pend; done = s.done; rest = s.rest; subs = s.subs; live = s.live; dep = s.dep; sub = s.sub; ver = s.ver; free = s.free; queue = s.queue; depth = s.depth; cycle = s.cycle; log = s.log; stuck = s.stuck }

abbrev pub with_gone : St → (ℕ → Bool) → St
with_gone s x = record { room = s.room; size = s.size; used = s.used; kind = s.kind; form = s.form; owner = s.owner; gone = x; level = s.level; fl = s.fl; sto = s.sto; pend = s.pend; done = s.done; rest = s.rest; subs = s.subs; live = s.live; dep = s.dep; sub = s.sub; ver = s.ver; free = s.free; queue = s.queue; depth = s.depth; cycle = s.cycle; log = s.log; stuck = s.stuck }

abbrev pub with_level : St → (ℕ → ℕ) → St
with_level s x = record { room = s.room; size = s.size; used = s.used; kind = s.kind; form = s.form; owner = s.owner; gone = s.gone; level = x; fl = s.fl; sto = s.sto; pend = s.pend; done = s.done; rest = s.rest; subs = s.subs; live = s.live; dep = s.dep; sub = s.sub; ver = s.ver; free = s.free; queue = s.queue; depth = s.depth; cycle = s.cycle; log = s.log; stuck = s.stuck }

abbrev pub with_fl : St → (ℕ → Named) → St
with_fl s x = record { room = s.room; size = s.size; used = s.used; kind = s.kind; form = s.form; owner = s.owner; gone = s.gone; level = s.level; fl = x; sto = s.sto; pend = s.pend; done = s.done; rest = s.rest; subs = s.subs; live = s.live; dep = s.dep; sub = s.sub; ver = s.ver; free = s.free; queue = s.queue; depth = s.depth; cycle = s.cycle; log = s.log; stuck = s.stuck }

abbrev pub with_sto : St → (ℕ → Value) → St
with_sto s x = record { room = s.room; size = s.size; used = s.used; kind = s.kind; form = s.form; owner = s.owner; gone = s.gone; level = s.level; fl = s.fl; sto = x; pend = s.pend; done = s.done; rest = s.rest; subs = s.subs; live = s.live; dep = s.dep; sub = s.sub; ver = s.ver; free = s.free; queue = s.queue; depth = s.depth; cycle = s.cycle; log = s.log; stuck = s.stuck }

abbrev pub with_pend : St → (ℕ → Value) → St
with_pend s x = record { room = s.room; size = s.size; used = s.used; kind = s.kind; form = s.form; owner = s.owner; gone = s.gone; level = s.level; fl = s.fl; sto = s.sto; pend = x; done = s.done; rest = s.rest; subs = s.subs; live = s.live; dep = s.dep; sub = s.sub; ver = s.ver; free = s.free; queue = s.queue; depth = s.depth; cycle = s.cycle; log = s.log; stuck = s.stuck }

abbrev pub with_done : St → (ℕ → List ℕ) → St
with_done s x = record { room = s.room; size = s.size; used = s.used; kind = s.kind; form = s.form; owner = s.owner; gone = s.gone; level = s.level; fl = s.fl; sto = s.sto; pend = s.pend; done = x; rest = s.rest; subs = s.subs; live = s.live; dep = s.dep; sub = s.sub; ver = s.ver; free = s.free; queue = s.queue; depth = s.depth; cycle = s.cycle; log = s.log; stuck = s.stuck }

abbrev pub with_rest : St → (ℕ → List ℕ) → St
with_rest s x = record { room = s.room; size = s.size; used = s.used; kind = s.kind; form = s.form; owner = s.owner; gone = s.gone; level = s.level; fl = s.fl; sto = s.sto; pend = s.pend; done = s.done; rest = x; subs = s.subs; live = s.live; dep = s.dep; sub = s.sub; ver = s.ver; free = s.free; queue = s.queue; depth = s.depth; cycle = s.cycle; log = s.log; stuck = s.stuck }

abbrev pub with_subs : St → (ℕ → List ℕ) → St
with_subs s x = record { room = s.room; size = s.size; used = s.used; kind = s.kind; form = s.form; owner = s.owner; gone = s.gone; level = s.level; fl = s.fl; sto = s.sto; pend = s.pend; done = s.done; rest = s.rest; subs = x; live = s.live; dep = s.dep; sub = s.sub; ver = s.ver; free = s.free; queue = s.queue; depth = s.depth; cycle = s.cycle; log = s.log; stuck = s.stuck }

abbrev pub with_live : St → (ℕ → Bool) → St
with_live s x = record { room = s.room; size = s.size; used = s.used; kind = s.kind; form = s.form; owner = s.owner; gone = s.gone; level = s.level; fl = s.fl; sto = s.sto; pend = s.pend; done = s.done; rest = s.rest; subs = s.subs; live = x; dep = s.dep; sub = s.sub; ver = s.ver; free = s.free; queue = s.queue; depth = s.depth; cycle = s.cycle; log = s.log; stuck = s.stuck }

abbrev pub with_dep : St → (ℕ → ℕ) → St
with_dep s x = record { room = s.room; size = s.size; used = s.used; kind = s.kind; form = s.form; owner = s.owner; gone = s.gone; level = s.level; fl = s.fl; sto = s.sto; pend = s.pend; done = s.done; rest = s.rest; subs = s.subs; live = s.live; dep = x; sub = s.sub; ver = s.ver; free = s.free; queue = s.queue; depth = s.depth; cycle = s.cycle; log = s.log; stuck = s.stuck }

abbrev pub with_sub : St → (ℕ → ℕ) → St
with_sub s x = record { room = s.room; size = s.size; used = s.used; kind = s.kind; form = s.form; owner = s.owner; gone = s.gone; level = s.level; fl = s.fl; sto = s.sto; pend = s.pend; done = s.done; rest = s.rest; subs = s.subs; live = s.live; dep = s.dep; sub = x; ver = s.ver; free = s.free; queue = s.queue; depth = s.depth; cycle = s.cycle; log = s.log; stuck = s.stuck }

abbrev pub with_ver : St → (ℕ → ℕ) → St
with_ver s x = record { room = s.room; size = s.size; used = s.used; kind = s.kind; form = s.form; owner = s.owner; gone = s.gone; level = s.level; fl = s.fl; sto = s.sto; pend = s.pend; done = s.done; rest = s.rest; subs = s.subs; live = s.live; dep = s.dep; sub = s.sub; ver = x; free = s.free; queue = s.queue; depth = s.depth; cycle = s.cycle; log = s.log; stuck = s.stuck }

abbrev pub with_free : St → List ℕ → St
with_free s x = record { room = s.room; size = s.size; used = s.used; kind = s.kind; form = s.form; owner = s.owner; gone = s.gone; level = s.level; fl = s.fl; sto = s.sto; pend = s.pend; done = s.done; rest = s.rest; subs = s.subs; live = s.live; dep = s.dep; sub = s.sub; ver = s.ver; free = x; queue = s.queue; depth = s.depth; cycle = s.cycle; log = s.log; stuck = s.stuck }

abbrev pub with_queue : St → List ℕ → St
with_queue s x = record { room = s.room; size = s.size; used = s.used; kind = s.kind; form = s.form; owner = s.owner; gone = s.gone; level = s.level; fl = s.fl; sto = s.sto; pend = s.pend; done = s.done; rest = s.rest; subs = s.subs; live = s.live; dep = s.dep; sub = s.sub; ver = s.ver; free = s.free; queue = x; depth = s.depth; cycle = s.cycle; log = s.log; stuck = s.stuck }

abbrev pub with_depth : St → ℕ → St
with_depth s x = record { room = s.room; size = s.size; used = s.used; kind = s.kind; form = s.form; owner = s.owner; gone = s.gone; level = s.level; fl = s.fl; sto = s.sto; pend = s.pend; done = s.done; rest = s.rest; subs = s.subs; live = s.live; dep = s.dep; sub = s.sub; ver = s.ver; free = s.free; queue = s.queue; depth = x; cycle = s.cycle; log = s.log; stuck = s.stuck }

abbrev pub with_cycle : St → ℕ → St
with_cycle s x = record { room = s.room; size = s.size; used = s.used; kind = s.kind; form = s.form; owner = s.owner; gone = s.gone; level = s.level; fl = s.fl; sto = s.sto; pend = s.pend; done = s.done; rest = s.rest; subs = s.subs; live = s.live; dep = s.dep; sub = s.sub; ver = s.ver; free = s.free; queue = s.queue; depth = s.depth; cycle = x; log = s.log; stuck = s.stuck }

abbrev pub with_log : St → List Row → St
with_log s x = record { room = s.room; size = s.size; used = s.used; kind = s.kind; form = s.form; owner = s.owner; gone = s.gone; level = s.level; fl = s.fl; sto = s.sto; pend = s.pend; done = s.done; rest = s.rest; subs = s.subs; live = s.live; dep = s.dep; sub = s.sub; ver = s.ver; free = s.free; queue = s.queue; depth = s.depth; cycle = s.cycle; log = x; stuck = s.stuck }

abbrev pub with_stuck : St → Bool → St
with_stuck s x = record { room = s.room; size = s.size; used = s.used; kind = s.kind; form = s.form; owner = s.owner; gone = s.gone; level = s.level; fl = s.fl; sto = s.sto; pend = s.pend; done = s.done; rest = s.rest; subs = s.subs; live = s.live; dep = s.dep; sub = s.sub; ver = s.ver; free = s.free; queue = s.queue; depth = s.depth; cycle = s.cycle; log = s.log; stuck = x }

abbrev pub set_kind : St → ℕ → Kind → St
set_kind s n v = with_kind s (up s.kind n v)

abbrev pub set_form : St → ℕ → Tree → St
set_form s n v = with_form s (up s.form n v)

abbrev pub set_owner : St → ℕ → Option ℕ → St
set_owner s n v = with_owner s (up s.owner n v)

abbrev pub set_gone : St → ℕ → Bool → St
set_gone s n v = with_gone s (up s.gone n v)

abbrev pub set_level : St → ℕ → ℕ → St
set_level s n v = with_level s (up s.level n v)

abbrev pub set_fl : St → ℕ → Named → St
set_fl s n v = with_fl s (up s.fl n v)

abbrev pub set_sto : St → ℕ → Value → St
set_sto s n v = with_sto s (up s.sto n v)

abbrev pub set_pend : St → ℕ → Value → St
set_pend s n v = with_pend s (up s.pend n v)

abbrev pub set_done : St → ℕ → List ℕ → St
set_done s n v = with_done s (up s.done n v)

abbrev pub set_rest : St → ℕ → List ℕ → St
set_rest s n v = with_rest s (up s.rest n v)

abbrev pub set_subs : St → ℕ → List ℕ → St
set_subs s n v = with_subs s (up s.subs n v)

abbrev pub set_live : St → ℕ → Bool → St
set_live s n v = with_live s (up s.live n v)

abbrev pub set_dep : St → ℕ → ℕ → St
set_dep s n v = with_dep s (up s.dep n v)

abbrev pub set_sub : St → ℕ → ℕ → St
set_sub s n v = with_sub s (up s.sub n v)

abbrev pub set_ver : St → ℕ → ℕ → St
set_ver s n v = with_ver s (up s.ver n v)
