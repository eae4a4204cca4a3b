-- DEMAND 3 OF `command`: on tables that `empty` made, of any lengths that carry capacities, whatever commands come, each with a lent log of any length
-- and any words, each call's code, value and log rows are right, and the tables hold what was told, so long as there were fewer than 2^64 evaluations; and a refused call changes no word. Assumes nothing else.
use mathlib.Core.Path.{◌≡◌, refl, sym, ap, ◌∙◌, subst}
use mathlib.Core.Bool.{true}
use mathlib.Core.List.{List, [], ◌∷◌, ◌++◌}
use Rattle.refusing.specs.Sight.{room_in}
use Rattle.operating.specs.Emptying.{emptying}
use Rattle.commanding.specs.Command.{Answered}
use Rattle.meaning.specs.State.{St, Room, capacities}
use Rattle.freshness.specs.History.{Call, seen, meant, Course, now, after, begin}
use Rattle.freshness.specs.Right.{Demand3}
use Rattle.freshness.proofs.History.{demand3}
use Rattle.structure.specs.Logged.{Logged}
use Rattle.structure.specs.Histories.{Tables, cleared, left, Lent, answered_on, tables_after, state_after, Holds}
use Rattle.structure.proofs.Represents.{room_fits}
use Rattle.structure.proofs.Histories.{answers_same, still_holds, history_same}
use Rattle.structure.proofs.Demand1.{refused_unchanged}
use Rattle.payouts.specs.OnTables.{TableEngine, call, Seen, seen_of, Unchanged, AllRight, Demand3On}

-- one call more
after_more : (p : Course) (h : List Call) (c : Call) → after meant p (h ++ c ∷ []) ≡ now meant (after meant p h) c
unfolding after
after_more p [] c = refl
after_more p (d ∷ h) c = after_more (now meant p d) h c

-- the answer a to the call c on the tables t is that of `command` in all that is seen and in what its tables hold; where it is refused, in every word
pub record Like (t : Tables) (c : Lent) (a : Answered) : Type 0 where
  pub shown : seen_of a ≡ seen_of (answered_on t c)
  pub holds : (s : St) → Holds (left (answered_on t c)) s → Holds (left a) s
  pub refused : (a.code ≡ 0 → ⊥) → Unchanged t c a

module _ (E : TableEngine) (like : (t : Tables) (c : Lent) → Like t c (E t c)) (r : Room) (fits : capacities r ≡ true) where
  abbrev at : List Call → Course
  at h = after meant (begin r) h

  -- the calls cs after the history h
  from_here : (cs : List Lent) (h : List Call) (t : Tables) → Holds t (at h).st → AllRight E (at h).past t cs
  unfolding AllRight Demand3
  from_here [] h t o = tt
  from_here (c ∷ cs) h t o =
      let same = answers_same t (at h).st c o in
      let shown = (like t c).shown in
      let next = sym (after_more (begin r) h (call c)) in
      let a = meant (at h).st (call c) in
      let o' : Holds (left (E t c)) a.st = (like t c).holds a.st (still_holds t (at h).st c o) in (
        seen a,
        record {
          shows = record {
            code = ap (λ (x : Seen). x.code) shown ∙ same.code;
            value = ap (λ (x : Seen). x.value) shown ∙ same.value;
            runs = subst (λ (x : Seen). Logged c.0 a.rows x.log x.runs) (sym shown) same.runs;
          };
          right = λ few. (demand3 r fits h (call c) few).0;
          held = λ few. record { state = a.st; represents = o'.represents; held = (demand3 r fits h (call c) few).1 };
          refused = (like t c).refused;
        },
        subst (λ (x : Course). AllRight E x.past (left (E t c)) cs) (sym next) (from_here cs (h ++ call c ∷ []) (left (E t c)) (subst (λ (x : Course). Holds (left (E t c)) x.st) next o')),
      )

-- whoever is like `command` keeps demand 3
pub like_command : (E : TableEngine) → ((t : Tables) (c : Lent) → Like t c (E t c)) → Demand3On E
unfolding Demand3On after tables_after state_after
like_command E like N L W C carry h = from_here E like (room_in N L C) (room_fits N L W C carry) h [] (cleared (emptying N L W C)) (history_same N L W C carry [])

pub command_unchanged : (t : Tables) (c : Lent) → ((answered_on t c).code ≡ 0 → ⊥) → Unchanged t c (answered_on t c)
command_unchanged t c f = subst (λ (x : Answered). Unchanged t c x) (sym (refused_unchanged t.nodes t.links t.values t.cells c.0 c.1 f)) (refl, refl)

pub demand3_of_command : Demand3On answered_on
demand3_of_command = like_command answered_on (λ t c. record { shown = refl; holds = λ s o. o; refused = command_unchanged t c })
