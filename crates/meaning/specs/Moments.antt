-- A command on the way: after k runs of its flush; and at every moment, which is between any two of its steps.
use Rattle.std.specs.Prelude.{◌≡◌, Bool, true, false, List, [], ◌∷◌, ℕ, zero, suc, ◌+◌, pos, Option, None, Some}
use Rattle.values.specs.Values.{value}
use Rattle.trees.specs.Trees.{Tree, constant}
use Rattle.meaning.specs.State.{St, Room, Kind, signal, computed, effect, scope, f0, f1, f6, nothing}
use Rattle.meaning.specs.Setters.{with_queue, set_fl, set_gone}
use Rattle.meaning.specs.Reserve.{reserve_of, reserve}
use Rattle.meaning.specs.Links.{link, cut, rewind}
use Rattle.meaning.specs.Engine.{run, node}
use Rattle.meaning.specs.Words.{Command, make_signal, make_computed, make_effect, make_scope, set_to, add_to, read_of, dispose_of, batch_start, batch_end, owner_of, formula_of}
use Rattle.meaning.specs.Refusals.{asks_of, tree_in}

unfoldable pub flushing : ℕ → St → List ℕ → St
flushing zero s q = s
flushing (suc k) s [] = s
flushing (suc k) s (e ∷ q) = flushing k (run (with_queue s q) e) q

-- ---- every moment
-- what links and reserve are read off
pub record Held : Type 0 where
  pub room : Room
  pub size : ℕ
  pub kind : ℕ → Kind
  pub form : ℕ → Tree
  pub owner : ℕ → Option ℕ
  pub gone : ℕ → Bool
  pub live : ℕ → Bool
  pub free : List ℕ

abbrev pub held : St → Held
held s = record { room = s.room; size = s.size; kind = s.kind; form = s.form; owner = s.owner; gone = s.gone; live = s.live; free = s.free }

-- a live link goes; link makes at most one; a node is marked gone; or other columns change. What was stuck stays so
pub data Step (s : St) : St → Type 0 where
  unlinks : (l : ℕ) → s.live l ≡ true → Step s (cut s l)
  links : (d u v : ℕ) → Step s (link s d u v)
  marks_gone : (x : ℕ) → Step s (set_gone (set_fl (rewind s x) x f0) x true)
  others : (t : St) → held t ≡ held s → (s.stuck ≡ true → t.stuck ≡ true) → Step s t

pub data Steps (s : St) : St → Type 0 where
  here : Steps s s
  later : {t x : St} → Steps s t → Step t x → Steps s x

-- x lies on a way of steps from s to t
pub record Moment (s t x : St) : Type 0 where
  pub reached : Steps s x
  pub left : Steps x t

-- where the steps of a command begin: the node that it makes is there, without links
abbrev pub begun : St → Command → St
begun s (make_signal v) = node s signal (constant (pos 0)) None f1 (value v)
begun s (make_computed cs) = node s computed (formula_of cs) None f0 nothing
begun s (make_effect o cs) = node s effect (formula_of cs) (owner_of o) f6 nothing
begun s (make_scope o) = node s scope (constant (pos 0)) (owner_of o) f0 nothing
begun s (set_to n v) = s
begun s (add_to n d) = s
begun s (read_of n) = s
begun s (dispose_of n) = s
begun s batch_start = s
begun s batch_end = s

-- the reserve at entry, with the node that the command makes
abbrev pub wanted : Option Kind → Tree → Option ℕ → ℕ
wanted None t o = 0
wanted (Some k) t o = reserve_of k false t o

abbrev pub reserve_from : St → Command → ℕ
reserve_from s c = reserve s + wanted (asks_of c).makes (tree_in (asks_of c).cells) (owner_of (asks_of c).owner)
