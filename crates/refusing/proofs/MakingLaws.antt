-- Rows 5 to 7, by what the code finds on its way. Assumes nothing.
use Rattle.std.specs.Prelude.{Option, Some, None, unwrap_or, is_some}
use mathlib.Core.Path.{◌≡◌, refl, sym, ap, ap₂, ◌∙◌}
use mathlib.Core.Bool.{Bool, true, false, not, ◌||◌}
use mathlib.Core.List.{List, []}
use Prim.Native.Nat.{ℕ, suc, ◌+◌, ◌*◌, ◌-◌, ◌/◌, ◌<◌, ◌≤◌, min}
use native.Mathlib.Decide.{dec_lt}
use native.Mathlib.Omega.{arith}
use lib.Dec.{leb, ltb}
use lib.IntN.{ℤ, pos}
use lib.ListN.{length, get_or, take, drop, length-drop, drop_of_length-le}
use lib.Seq.{take_all}
use borrow.Author.Tests.{lt-ltb, le-ltb, lt-leb, le-leb}
use Rattle.primitive.specs.Words.{COUNT, USED, LEVEL, node}
use Rattle.trees.specs.Trees.{Tree, constant, size}
use Rattle.trees.specs.Cells.{natural_of}
use Rattle.trees.specs.Legal.{legal_in}
use Rattle.trees.specs.Names.{named, all_named, read_cells, height_in}
use Rattle.trees.proofs.CellLaws.{natural_neg}
use Rattle.counting.specs.Counts.{top, node_room, slot_room, cell_room, reserve_in}
use Rattle.meaning.specs.State.{Kind, signal, computed, effect, scope}
use Rattle.meaning.specs.Words.{owner_of, formula_of, command_of}
use Rattle.meaning.specs.Engine.{depth_under, cells_of}
use Rattle.meaning.specs.Reserve.{owned_link, reserve_for, reserve_of}
use Rattle.meaning.specs.Refusals.{Sight, most_height, most_owner_depth, on, bad_formula, tree_in, too_high, full, no_room}
use Rattle.refusing.specs.declared.commands.Command.{Command}
use Rattle.refusing.specs.Sight.{kind_of, nodes_alone, sight_in}
use Rattle.refusing.specs.Commands.{brief}
use Rattle.refusing.specs.declared.asks.Asks.{Asks}
use Rattle.refusing.specs.declared.asks.Asks.TheVariants.{Names, Makes, Nothing}
use Rattle.primitive.specs.declared.kinds.Kind.{Kind as Made}
use Rattle.primitive.specs.declared.kinds.Kind.TheVariants as kind
use Rattle.refusing.specs.Asked.{asked, kind_asked, owner_or, owner_asked, from_asked, cells_asked, over, illegal, from_or, cells_from, formula_in}
use Rattle.refusing.proofs.CommandLaws.{each}
use Rattle.refusing.proofs.AskLaws.{bad_row, high_row, room_row}
use Rattle.refusing.proofs.Formulas.{legal_same, tree_size, tree_reads, tree_height}

-- ---- where the cells begin
pub from_is : (ws : List ℤ) {a : Asks} → a ≡ asked (brief (command_of ws)) → from_or (from_asked a) (length ws) ≡ cells_from ws
unfolding cells_from
from_is ws told = ap (λ (x : Asks). from_or (from_asked x) (length ws)) told

module _ (ws : List ℤ) {a : Asks} (told : a ≡ asked (brief (command_of ws))) where
  pub from_given : {r : ℕ} → r ≡ unwrap_or (from_asked a) (length ws) → r ≡ cells_from ws
  from_given {r} e = e ∙ go (from_asked a) ∙ from_is ws told
    where
      go : (f : Option ℕ) → unwrap_or f (length ws) ≡ from_or f (length ws)
      go None = refl
      go (Some n) = refl

-- the part of the words from there on
pub part_is : (ws : List ℤ) {k : ℕ} → k ≡ cells_from ws → take (length ws - k) (drop k ws) ≡ formula_in ws
unfolding formula_in
part_is ws {k} e = take_all (length ws - k) (drop k ws) (omega (arith, length-drop k ws)) ∙ ap (λ (n : ℕ). drop n ws) e

-- by the record
formula_by : (ws : List ℤ) (a : Asks) → a ≡ asked (brief (command_of ws)) → formula_in ws ≡ drop (from_or (from_asked a) (length ws)) ws
unfolding formula_in cells_from
formula_by ws a told = ap (λ (x : Asks). drop (from_or (from_asked x) (length ws)) ws) (sym told)

-- no new node
pub makes_none : (a : Asks) → ((k : Made) (o : Option ℤ) (f : Option ℕ) → a ≡ Makes k o f → ⊥) → kind_asked a ≡ None
makes_none (Names n t e) h = refl
makes_none (Makes k o f) h = absurd (h k o f refl)
makes_none Nothing h = refl

from_none : (a : Asks) → ((k : Made) (o : Option ℤ) (f : Option ℕ) → a ≡ Makes k o f → ⊥) → from_asked a ≡ None
from_none (Names n t e) h = refl
from_none (Makes k o f) h = absurd (h k o f refl)
from_none Nothing h = refl

-- ---- 5
module _ (nodes : List ℕ) (ws : List ℤ) where
  some_cells : (f : Option ℕ) {r : Bool} → is_some f ≡ true → r ≡ legal_in nodes (drop (from_or f (length ws)) ws) → not r ≡ illegal (nodes_alone nodes) (cells_asked f ws)
  some_cells None h e = cc
  some_cells (Some k) h e = ap not (e ∙ legal_same nodes (drop k ws))

  no_cells : (f : Option ℕ) → is_some f ≡ false → false ≡ illegal (nodes_alone nodes) (cells_asked f ws)
  no_cells None h = refl
  no_cells (Some k) h = cc

  module _ (a : Asks) (told : a ≡ asked (brief (command_of ws))) where
    pub bad_none : ((k : Made) (o : Option ℤ) (f : Option ℕ) → a ≡ Makes k o f → ⊥) → false ≡ on (command_of ws) (bad_formula (nodes_alone nodes))
    bad_none h = ap (λ (f : Option ℕ). illegal (nodes_alone nodes) (cells_asked f ws)) (sym (from_none a h)) ∙ bad_row (nodes_alone nodes) ws a told

    module _ {k : Made} {o : Option ℤ} {f : Option ℕ} (makes : a ≡ Makes k o f) where
      pub bad_some : {r : Bool} → is_some f ≡ true → r ≡ legal_in nodes (formula_in ws) → not r ≡ on (command_of ws) (bad_formula (nodes_alone nodes))
      bad_some h e =
          some_cells f h (e ∙ ap (legal_in nodes) (formula_by ws a told ∙ ap (λ (a : Asks). drop (from_or (from_asked a) (length ws)) ws) makes))
          ∙ ap (λ (a : Asks). illegal (nodes_alone nodes) (cells_asked (from_asked a) ws)) (sym makes) ∙ bad_row (nodes_alone nodes) ws a told

      pub bad_bare : is_some f ≡ false → false ≡ on (command_of ws) (bad_formula (nodes_alone nodes))
      bad_bare h = no_cells f h ∙ ap (λ (a : Asks). illegal (nodes_alone nodes) (cells_asked (from_asked a) ws)) (sym makes) ∙ bad_row (nodes_alone nodes) ws a told

-- ---- 6
capped : (x : ℕ) → ltb most_height (min (suc most_height) x) ≡ ltb most_height x
capped x = go (dec_lt most_height x)
  where
    go : Dec (most_height < x) → ltb most_height (min (suc most_height) x) ≡ ltb most_height x
    go (yes h) = lt-ltb most_height (min (suc most_height) x) (omega arith) ∙ sym (lt-ltb most_height x h)
    go (no h) = le-ltb most_height (min (suc most_height) x) (omega arith) ∙ sym (le-ltb most_height x (omega arith))

-- the owner depth is 1 more than the owner's
deeper : (x : ℕ) → leb most_owner_depth x ≡ ltb most_owner_depth (suc x)
deeper x = go (dec_lt x most_owner_depth)
  where
    go : Dec (x < most_owner_depth) → leb most_owner_depth x ≡ ltb most_owner_depth (suc x)
    go (yes h) = lt-leb most_owner_depth x h ∙ sym (le-ltb most_owner_depth (suc x) (omega arith))
    go (no h) = le-leb most_owner_depth x (omega arith) ∙ sym (lt-ltb most_owner_depth (suc x) (omega arith))

module _ (nodes : List ℕ) where
  abbrev height : ℕ → ℕ
  height n = node nodes n LEVEL

  module _ (z : ℤ) {r : Option ℕ} (found : r ≡ natural_of z) where
    pub deep_none : r ≡ None → false ≡ ltb most_owner_depth (depth_under height (owner_of z))
    deep_none e = natural_neg z found (λ (x : ℤ). false ≡ ltb most_owner_depth (depth_under height (owner_of x))) e (λ n. refl)

  module _ (ws : List ℤ) where
    abbrev Over : Command → Bool
    Over b = over (nodes_alone nodes) (kind_asked (asked b)) (tree_in (cells_asked (from_asked (asked b)) ws)) (owner_of (owner_asked (asked b)))

    abbrev cells_of_b : Command → List ℤ
    cells_of_b b = drop (from_or (from_asked (asked b)) (length ws)) ws

    over_computed : (b : Command) {k : Made} {o : Option ℤ} {f : Option ℕ} → asked b ≡ Makes k o f → k ≡ kind.Computed → illegal (nodes_alone nodes) (cells_asked (from_asked (asked b)) ws) ≡ false
        → ltb most_height (height_in nodes (cells_of_b b)) ≡ Over b
    unfolding asked kind_of
    over_computed b {k} {o} {f} =
        each
        (λ (b : Command). asked b ≡ Makes k o f → k ≡ kind.Computed → illegal (nodes_alone nodes) (cells_asked (from_asked (asked b)) ws) ≡ false
        → ltb most_height (height_in nodes (cells_of_b b)) ≡ Over b)
        (λ w m e. cc) (λ m e l. ap (ltb most_height) (tree_height nodes (drop 1 ws) l)) (λ w m e. cc) (λ w m e. cc)
        (λ n k m. cc) (λ n k m. cc) (λ n m. cc) (λ n m. cc) (λ m. cc) (λ m. cc) (λ m. cc) b

    abbrev Deep : ℤ → Bool
    Deep z = ltb most_owner_depth (depth_under height (owner_of z))

    over_other : (b : Command) {k : Made} {o : Option ℤ} {f : Option ℕ} → asked b ≡ Makes k o f → (k ≡ kind.Computed → ⊥) → Deep (owner_or o) ≡ Over b
    unfolding asked kind_of
    over_other b {k} {o} {f} =
        each (λ (b : Command). asked b ≡ Makes k o f → (k ≡ kind.Computed → ⊥) → Deep (owner_or o) ≡ Over b)
        (λ w m h. ap Deep (sym (ap owner_asked m))) (λ m h. absurd (h cc)) (λ w m h. ap Deep (sym (ap owner_asked m))) (λ w m h. ap Deep (sym (ap owner_asked m)))
        (λ n k m. cc) (λ n k m. cc) (λ n m. cc) (λ n m. cc) (λ m. cc) (λ m. cc) (λ m. cc) b

    module _ (a : Asks) (told : a ≡ asked (brief (command_of ws))) where
      b : Command
      b = brief (command_of ws)

      pub high_computed : {h : ℕ} {k : Made} {o : Option ℤ} {f : Option ℕ} → a ≡ Makes k o f → k ≡ kind.Computed → on (command_of ws) (bad_formula (nodes_alone nodes)) ≡ false
          → h ≡ min (suc most_height) (height_in nodes (formula_in ws)) → ltb most_height h ≡ on (command_of ws) (too_high (nodes_alone nodes))
      unfolding b
      high_computed m c bad e =
          ap (ltb most_height) e ∙ capped (height_in nodes (formula_in ws)) ∙ ap (λ (cs : List ℤ). ltb most_height (height_in nodes cs)) (formula_by ws (asked b) refl)
          ∙ over_computed b (sym told ∙ m) c (bad_row (nodes_alone nodes) ws (asked b) refl ∙ bad)
          ∙ high_row (nodes_alone nodes) ws (asked b) refl

      pub high_other : {r : Bool} {k : Made} {o : Option ℤ} {f : Option ℕ} → a ≡ Makes k o f → (k ≡ kind.Computed → ⊥) → r ≡ Deep (owner_or o)
          → r ≡ on (command_of ws) (too_high (nodes_alone nodes))
      unfolding b
      high_other m h e = e ∙ over_other b (sym told ∙ m) h ∙ high_row (nodes_alone nodes) ws (asked b) refl

      pub high_none : ((k : Made) (o : Option ℤ) (f : Option ℕ) → a ≡ Makes k o f → ⊥) → false ≡ on (command_of ws) (too_high (nodes_alone nodes))
      high_none h = ap (λ (k : Option Kind). over (nodes_alone nodes) k (tree_in (cells_asked (from_asked a) ws)) (owner_of (owner_asked a))) (sym (makes_none a h)) ∙ high_row (nodes_alone nodes) ws a told

-- ---- 7
-- a sum that stops far above a capacity passes it where the plain sum does
stopped : (room x : ℕ) → room < top → ltb room (min top x) ≡ ltb room x
stopped room x h = go (dec_lt room x)
  where
    go : Dec (room < x) → ltb room (min top x) ≡ ltb room x
    go (yes l) = lt-ltb room (min top x) (omega arith) ∙ sym (lt-ltb room x l)
    go (no l) = le-ltb room (min top x) (omega arith) ∙ sym (le-ltb room x (omega arith))

-- no cells at all
all_dropped : (ws : List ℤ) → drop (length ws) ws ≡ []
all_dropped ws = drop_of_length-le ws {i = length ws} (omega arith)

no_reads : read_cells [] ≡ 0
unfolding read_cells all_named named
no_reads = refl

module _ (z : ℤ) {r : Option ℕ} (found : r ≡ natural_of z) (cs : List ℤ) where
  pub slots_none : {n s : ℕ} → r ≡ None → n ≡ read_cells cs → s ≡ min top (n + n) → s ≡ min top (2 * read_cells cs + owned_link (owner_of z))
  slots_none {n} {s} e f g = natural_neg z found (λ (x : ℤ). s ≡ min top (2 * read_cells cs + owned_link (owner_of x))) e (λ k. omega arith)

module _ (nodes links : List ℕ) (cells ws : List ℤ) where
  abbrev v : Sight
  v = sight_in nodes links cells 0

  abbrev Full : Command → Bool
  Full b = full v (kind_asked (asked b)) (tree_in (cells_asked (from_asked (asked b)) ws)) (owner_of (owner_asked (asked b)))

  -- the three ways to lack room: for n cells and m slots
  abbrev Lacks : ℕ → ℕ → Bool
  Lacks n m = leb (node_room nodes) (get_or nodes COUNT 0) || (ltb (cell_room cells) (get_or nodes USED 0 + n) || ltb (slot_room links) (reserve_in nodes + m))

  lacks : (k : Kind) (t : Tree) (o : Option ℕ) {n m : ℕ} → n ≡ cells_of k t → m ≡ reserve_of k false t o → Lacks n m ≡ full v (Some k) t o
  lacks k t o e f = ap₂ Lacks e f

  abbrev cells_in : Command → List ℤ
  cells_in b = drop (from_or (from_asked (asked b)) (length ws)) ws

  none_left : {cs : List ℤ} → cs ≡ [] → length cs / 2 ≡ 0
  none_left e = ap (λ (x : List ℤ). length x / 2) e

  none_read : {cs : List ℤ} (o : Option ℕ) → cs ≡ [] → 2 * read_cells cs + owned_link o ≡ owned_link o
  none_read o e = let z = ap read_cells e ∙ no_reads in omega arith

  -- a computed or an effect takes what its tree does
  with_cells : (k : Kind) (from : ℕ) (o : Option ℕ) → cells_of k (formula_of (drop from ws)) ≡ size (formula_of (drop from ws))
      → reserve_of k false (formula_of (drop from ws)) o ≡ reserve_for (formula_of (drop from ws)) o → illegal (nodes_alone nodes) (Some (drop from ws)) ≡ false
      → Lacks (length (drop from ws) / 2) (2 * read_cells (drop from ws) + owned_link o) ≡ full v (Some k) (formula_of (drop from ws)) o
  with_cells k from o n r l =
      lacks k (formula_of (drop from ws)) o (sym (n ∙ tree_size nodes (drop from ws) l))
      (sym (r ∙ ap (λ (x : ℕ). 2 * x + owned_link o) (tree_reads nodes (drop from ws) l)))

  full_some : (b : Command) {k : Made} {o : Option ℤ} {f : Option ℕ} → asked b ≡ Makes k o f → illegal (nodes_alone nodes) (cells_asked (from_asked (asked b)) ws) ≡ false
      → Lacks (length (cells_in b) / 2) (2 * read_cells (cells_in b) + owned_link (owner_of (owner_asked (asked b)))) ≡ Full b
  unfolding asked kind_of
  full_some b {k} {o} {f} =
      each
      (λ (b : Command). asked b ≡ Makes k o f → illegal (nodes_alone nodes) (cells_asked (from_asked (asked b)) ws) ≡ false
      → Lacks (length (cells_in b) / 2) (2 * read_cells (cells_in b) + owned_link (owner_of (owner_asked (asked b)))) ≡ Full b)
      (λ k h l. lacks signal (constant (pos 0)) None (none_left (all_dropped ws)) (none_read None (all_dropped ws)))
      (λ h l. with_cells computed 1 None refl refl l)
      (λ o h l. with_cells effect 2 (owner_of o) refl refl l)
      (λ o h l. lacks scope (constant (pos 0)) (owner_of o) (none_left (all_dropped ws)) (none_read (owner_of o) (all_dropped ws)))
      (λ n k h. cc) (λ n k h. cc) (λ n h. cc) (λ n h. cc) (λ h. cc) (λ h. cc) (λ h. cc) b

  -- the cells and the slots that a new node with this owner takes
  abbrev cells_for : ℕ
  cells_for = length (formula_in ws) / 2

  abbrev slots_for : ℤ → ℕ
  slots_for o = 2 * read_cells (formula_in ws) + owned_link (owner_of o)

  module _ (a : Asks) (told : a ≡ asked (brief (command_of ws))) where
    pub room_none : ((k : Made) (o : Option ℤ) (f : Option ℕ) → a ≡ Makes k o f → ⊥) → false ≡ on (command_of ws) (no_room v)
    room_none h = ap (λ (k : Option Kind). full v k (tree_in (cells_asked (from_asked a) ws)) (owner_of (owner_asked a))) (sym (makes_none a h)) ∙ room_row v ws a told

    module _ {k : Made} {own : Option ℤ} {f : Option ℕ} (makes : a ≡ Makes k own f) (good : on (command_of ws) (bad_formula (nodes_alone nodes)) ≡ false) where
      room_some : Lacks cells_for (slots_for (owner_or own)) ≡ on (command_of ws) (no_room v)
      room_some =
          ap₂ (λ (cs : List ℤ) (o : ℤ). Lacks (length cs / 2) (2 * read_cells cs + owned_link (owner_of o))) (formula_by ws (asked (brief (command_of ws))) refl) (sym (ap owner_asked makes) ∙ ap owner_asked told)
          ∙ full_some (brief (command_of ws)) (sym told ∙ makes) (bad_row (nodes_alone nodes) ws (asked (brief (command_of ws))) refl ∙ good)
          ∙ room_row v ws (asked (brief (command_of ws))) refl

      -- the three ways, tried in order
      module _ {x y : ℕ} (rows : x ≡ node_room nodes) (count : y ≡ get_or nodes COUNT 0) where
        pub lacks_nodes : x ≤ y → true ≡ on (command_of ws) (no_room v)
        lacks_nodes h = lack ∙ room_some
          where
            lack : true ≡ Lacks cells_for (slots_for (owner_or own))
            lack = rw (le-leb (node_room nodes) (get_or nodes COUNT 0) (omega arith))

        module _ (h : y < x) {p u s : ℕ} (room : p ≡ cell_room cells) (used : u ≡ get_or nodes USED 0) (sum : s ≡ min top (u + cells_for)) where
          pub lacks_cells : p < s → true ≡ on (command_of ws) (no_room v)
          lacks_cells l = lack ∙ room_some
            where
              lack : true ≡ Lacks cells_for (slots_for (owner_or own))
              lack =
                  let d : get_or nodes COUNT 0 < node_room nodes = omega arith in
                  let e : cell_room cells < get_or nodes USED 0 + cells_for = omega arith in
                  rw (lt-leb (node_room nodes) (get_or nodes COUNT 0) d, lt-ltb (cell_room cells) (get_or nodes USED 0 + cells_for) e)

          pub lacks_slots : s ≤ p → p < top → {q o z t : ℕ} → q ≡ slot_room links → q < top → o ≡ reserve_in nodes → z ≡ min top (slots_for (owner_or own)) → t ≡ min top (o + z)
              → ltb q t ≡ on (command_of ws) (no_room v)
          lacks_slots l low {q} {o} {z} {t} slots far reserve new all = lack ∙ room_some
            where
              lack : ltb q t ≡ Lacks cells_for (slots_for (owner_or own))
              lack =
                  let d : get_or nodes COUNT 0 < node_room nodes = omega arith in
                  let e : get_or nodes USED 0 + cells_for ≤ cell_room cells = omega arith in
                  let f : t ≡ min top (reserve_in nodes + slots_for (owner_or own)) = omega arith in
                  rw (lt-leb (node_room nodes) (get_or nodes COUNT 0) d, le-ltb (cell_room cells) (get_or nodes USED 0 + cells_for) e)
                  (ap₂ ltb slots f ∙ stopped (slot_room links) (reserve_in nodes + slots_for (owner_or own)) (omega arith))
