-- What the code's record says is what `meaning` asks; each row of the table by that record. Assumes nothing.
use Rattle.std.specs.Prelude.{Option, None, Some}
use mathlib.Core.Path.{◌≡◌, refl, sym, ap, ◌∙◌}
use mathlib.Core.Bool.{Bool, true, false, not, ◌&&◌, ◌||◌}
use mathlib.Core.List.{List}
use Prim.Native.Nat.{ℕ}
use lib.IntN.{ℤ}
use Rattle.meaning.specs.Words.{Command as Meant, owner_of, command_of}
use Rattle.meaning.specs.Refusals.{Sight, Asks as Meanings, asks_of, on, is_a, wrong_owner, wrong_node, is_gone, gone_node, bad_formula, tree_in, too_high, full, no_room}
use Rattle.refusing.specs.declared.commands.Command.{Command}
use Rattle.primitive.specs.declared.kinds.Kind.{Kind as Made}
use Rattle.refusing.specs.declared.asks.Takes.{Takes}
use Rattle.refusing.specs.declared.asks.Asks.{Asks}
use Rattle.refusing.specs.declared.asks.Asks.TheVariants.{Names, Makes, Nothing}
use Rattle.refusing.specs.Sight.{kind_of}
use Rattle.refusing.specs.Commands.{brief, told}
use Rattle.refusing.specs.Asked.{taken, asked, node_asked, takes_asked, ends_asked, kind_asked, owner_asked, from_asked, cells_asked, seen, asks_about, wrong_named, over, illegal}
use Rattle.refusing.proofs.CommandLaws.{each, told_is}

asks_same : (b : Command) (ws : List ℤ) → asks_about (told b ws) ≡ seen (asked b) (told b ws) ws
unfolding told asked asks_of kind_of
asks_same b ws = each (λ (b : Command). asks_about (told b ws) ≡ seen (asked b) (told b ws) ws) (λ k. refl) refl (λ o. refl) (λ o. refl) (λ n k. refl) (λ n k. refl) (λ n. refl) (λ n. refl) refl refl refl b

pub asks_are : (ws : List ℤ) → asks_about (command_of ws) ≡ seen (asked (brief (command_of ws))) (command_of ws) ws
asks_are ws =
    ap asks_about (told_is ws) ∙ asks_same (brief (command_of ws)) ws ∙ ap (λ (c : Option Meant). seen (asked (brief (command_of ws))) c ws) (sym (told_is ws))

-- ---- the rows by what is asked; nothing is asked of an unknown command
module _ (v : Sight) where
  wrong_on : (c : Option Meant) → on c (wrong_node v) ≡ (wrong_named v (asks_about c).takes (asks_about c).node || wrong_owner v (asks_about c).owner)
  unfolding wrong_node
  wrong_on None = refl
  wrong_on (Some c) = refl

  gone_on : (c : Option Meant) → on c (gone_node v) ≡ (((asks_about c).ends && on (asks_about c).node (is_gone v)) || is_gone v (asks_about c).owner)
  unfolding gone_node
  gone_on None = refl
  gone_on (Some c) = refl

  bad_on : (c : Option Meant) → on c (bad_formula v) ≡ illegal v (asks_about c).cells
  unfolding bad_formula
  bad_on None = refl
  bad_on (Some c) = refl

  high_on : (c : Option Meant) → on c (too_high v) ≡ over v (asks_about c).makes (tree_in (asks_about c).cells) (owner_of (asks_about c).owner)
  unfolding too_high
  high_on None = refl
  high_on (Some c) = refl

  room_on : (c : Option Meant) → on c (no_room v) ≡ full v (asks_about c).makes (tree_in (asks_about c).cells) (owner_of (asks_about c).owner)
  unfolding no_room
  room_on None = refl
  room_on (Some c) = refl

  module _ (ws : List ℤ) (a : Asks) (told : a ≡ asked (brief (command_of ws))) where
    asks_a : asks_about (command_of ws) ≡ seen a (command_of ws) ws
    asks_a = asks_are ws ∙ ap (λ (x : Asks). seen x (command_of ws) ws) (sym told)

    pub wrong_row : (wrong_named v (takes_asked a) (node_asked a) || wrong_owner v (owner_asked a)) ≡ on (command_of ws) (wrong_node v)
    wrong_row = sym (wrong_on (command_of ws) ∙ ap (λ (m : Meanings). wrong_named v m.takes m.node || wrong_owner v m.owner) asks_a)

    pub gone_row : ((ends_asked a && on (node_asked a) (is_gone v)) || is_gone v (owner_asked a)) ≡ on (command_of ws) (gone_node v)
    gone_row = sym (gone_on (command_of ws) ∙ ap (λ (m : Meanings). (m.ends && on m.node (is_gone v)) || is_gone v m.owner) asks_a)

    pub bad_row : illegal v (cells_asked (from_asked a) ws) ≡ on (command_of ws) (bad_formula v)
    bad_row = sym (bad_on (command_of ws) ∙ ap (λ (m : Meanings). illegal v m.cells) asks_a)

    pub high_row : over v (kind_asked a) (tree_in (cells_asked (from_asked a) ws)) (owner_of (owner_asked a)) ≡ on (command_of ws) (too_high v)
    high_row = sym (high_on (command_of ws) ∙ ap (λ (m : Meanings). over v m.makes (tree_in m.cells) (owner_of m.owner)) asks_a)

    pub room_row : full v (kind_asked a) (tree_in (cells_asked (from_asked a) ws)) (owner_of (owner_asked a)) ≡ on (command_of ws) (no_room v)
    room_row = sym (room_on (command_of ws) ∙ ap (λ (m : Meanings). full v m.makes (tree_in m.cells) (owner_of m.owner)) asks_a)

    -- by its cases
    pub wrong_names : {n : ℤ} {t : Takes} {e r : Bool} → a ≡ Names n t e → r ≡ is_a v (taken t) n → not r ≡ on (command_of ws) (wrong_node v)
    wrong_names {n} {t} {e} {r} i q = go r q ∙ rw i at wrong_row
      where
        go : (r : Bool) → r ≡ is_a v (taken t) n → not r ≡ (not (is_a v (taken t) n) || false)
        go true q = rw (← q)
        go false q = rw (← q)

    pub wrong_makes : {k : Made} {o : ℤ} {f : Option ℕ} {r : Bool} → a ≡ Makes k (Some o) f → r ≡ wrong_owner v o → r ≡ on (command_of ws) (wrong_node v)
    wrong_makes i q = q ∙ rw i at wrong_row

    pub wrong_none : {k : Made} {f : Option ℕ} → a ≡ Makes k None f → false ≡ on (command_of ws) (wrong_node v)
    wrong_none i = rw i at wrong_row

    pub wrong_nothing : a ≡ Nothing → false ≡ on (command_of ws) (wrong_node v)
    wrong_nothing i = rw i at wrong_row

    pub gone_names : {n : ℤ} {t : Takes} {e r : Bool} → a ≡ Names n t e → e ≡ true → r ≡ is_gone v n → r ≡ on (command_of ws) (gone_node v)
    gone_names {n} {t} {e} {r} i y q = go r q ∙ rw (i, y) at gone_row
      where
        go : (r : Bool) → r ≡ is_gone v n → r ≡ ((true && is_gone v n) || false)
        go true q = rw (← q)
        go false q = rw (← q)

    pub gone_spared : {n : ℤ} {t : Takes} {e : Bool} → a ≡ Names n t e → e ≡ false → e ≡ on (command_of ws) (gone_node v)
    gone_spared i y = y ∙ rw (i, y) at gone_row

    pub gone_makes : {k : Made} {o : ℤ} {f : Option ℕ} {r : Bool} → a ≡ Makes k (Some o) f → r ≡ is_gone v o → r ≡ on (command_of ws) (gone_node v)
    gone_makes i q = q ∙ rw i at gone_row

    pub gone_none : {k : Made} {f : Option ℕ} → a ≡ Makes k None f → false ≡ on (command_of ws) (gone_node v)
    gone_none i = rw i at gone_row

    pub gone_nothing : a ≡ Nothing → false ≡ on (command_of ws) (gone_node v)
    gone_nothing i = rw i at gone_row
