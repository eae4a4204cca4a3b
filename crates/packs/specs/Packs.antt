-- Many scripts in one stream, as oracle/README.md sets it out. A window is what was read and not yet used; `over` says that no more will come.
-- Assumes nothing.
use Rattle.std.specs.Prelude.{ℕ, ◌+◌, ◌-◌, Bool, true, false, Option, None, Some, List, eqb, ltb, length, get_or, drop}
use Rattle.std.specs.List.{position_or_len}
use Rattle.packs.specs.declared.Mark.{Mark}
use Rattle.packs.specs.declared.Mark.TheVariants.{Unknown, Other, Plain, Cut}
use Rattle.packs.specs.declared.Act.{Act}
use Rattle.packs.specs.declared.Act.TheVariants.{Read, Turn, Script, Within, Past, Stop}
use Rattle.packs.specs.declared.Place.{Place}
use Rattle.packs.specs.declared.Place.TheVariants.{Open, InLine, AtLine}

-- The index of the first n, or the length where there is none.
abbrev pub index_of : ℕ → List ℕ → ℕ
index_of n xs = position_or_len (λ x. eqb x n) xs

-- Behind the first newline.
abbrev pub line_of : List ℕ → Option ℕ
line_of w = elim (ltb (index_of 10 w) (length w)) [ true ↦ Some (index_of 10 w + 1) | false ↦ None ]

-- The line that a window begins with: `%`, `%` and three letters, or another. It cannot always be told before more is read.
abbrev pub letters_in : List ℕ → Mark
letters_in w = elim (ltb (length w) 5) [ true ↦ Unknown | false ↦ elim (eqb (get_or w 4 0) 10) [ true ↦ Cut | false ↦ Other ] ]

abbrev pub percent_in : List ℕ → Mark
percent_in w = elim (ltb (length w) 2) [ true ↦ Unknown | false ↦ elim (eqb (get_or w 1 0) 10) [ true ↦ Plain | false ↦ letters_in w ] ]

abbrev pub mark_of : List ℕ → Mark
mark_of w = elim (eqb (length w) 0) [ true ↦ Unknown | false ↦ elim (eqb (get_or w 0 0) 37) [ true ↦ percent_in w | false ↦ Other ] ]

-- No pair is longer than two lines of 4,096 bytes and their newlines.
abbrev pub most_bytes : ℕ
most_bytes = 8194

-- No whole pair is there: more is read, unless nothing comes or no pair can come of it.
abbrev pub unended_in : List ℕ → Bool → Act
unended_in w over = elim over [ true ↦ Turn (length w) true | false ↦ elim (ltb most_bytes (length w)) [ true ↦ Turn (length w) false | false ↦ Read ] ]

-- A pair ends at `two`; the newline there is no part of it where `%cut` follows.
abbrev pub pair_in : Bool → ℕ → Mark → Act
pair_in over two Unknown = elim over [ true ↦ Turn two false | false ↦ Read ]
pair_in over two Other = Turn two false
pair_in over two Plain = Turn two false
pair_in over two Cut = Turn (two - 1) true

-- A line of the script ends at `one`, and the script goes on there.
abbrev pub second_in : List ℕ → Bool → ℕ → Act
second_in w over one = elim (line_of (drop one w)) [ None ↦ unended_in w over | Some n ↦ pair_in over (one + n) (mark_of (drop (one + n) w)) ]

-- A line ends at `one`: where the script ends there too, it ends in the middle of a pair.
abbrev pub first_in : List ℕ → Bool → ℕ → Mark → Act
first_in w over one Unknown = unended_in w over
first_in w over one Other = second_in w over one
first_in w over one Plain = Turn one true
first_in w over one Cut = Turn (one - 1) true

abbrev pub open_in : List ℕ → Bool → Mark → Act
open_in w over Unknown = unended_in w over
open_in w over Other = elim (line_of w) [ None ↦ unended_in w over | Some n ↦ first_in w over n (mark_of (drop n w)) ]
open_in w over Plain = Script 2
open_in w over Cut = Script 5

-- What is left of a script whose answers are over: the rest of a line, and then the line that follows the script or another.
abbrev pub rest_in : List ℕ → Bool → Act
rest_in w over = elim (line_of w) [ Some n ↦ Past n | None ↦ elim over [ true ↦ Stop | false ↦ elim (eqb (length w) 0) [ true ↦ Read | false ↦ Within (length w) ] ] ]

abbrev pub line_in : Bool → Mark → Act
line_in over Unknown = elim over [ true ↦ Stop | false ↦ Read ]
line_in over Other = Within 0
line_in over Plain = Script 2
line_in over Cut = Script 5

unfoldable pub decided : List ℕ → Bool → Place → Act
decided w over Open = open_in w over (mark_of w)
decided w over InLine = rest_in w over
decided w over AtLine = line_in over (mark_of w)
