-- Tables that the test passes represent the state that is read from them. Assumes nothing.
use mathlib.Core.Path.{◌≡◌, refl, sym, ap, ap₂, ◌∙◌, subst}
use mathlib.Core.Bool.{Bool, true, false, ◌&&◌}
use mathlib.Core.List.{List, append-nil}
use Prim.Native.Nat.{ℕ, ◌*◌, ◌%◌, ◌≤◌, ◌<◌}
use native.Mathlib.Omega.{arith}
use lib.IntN.{ℤ, pos}
use lib.ListN.{length, get_or}
use borrow.Author.Tests.{lt-ltb, le-ltb, le-leb}
use Rattle.flags.specs.Flags.{bit as bit_at, named}
use Rattle.queue.specs.Queue.{count, queue_of}
use Rattle.primitive.specs.Words.{COUNT, USED, QUEUE, FLAGS, KIND, GONE, DEPS, DEPS-TAIL, SUBS, SUBS-TAIL, OWNER, DEP, SUB, PREV-SUB, NEXT-SUB, PREV-DEP, NEXT-DEP, FREE, node, link}
use Rattle.trees.specs.Trees.{Tree, constant}
use Rattle.counting.specs.Counts.{carry_in, counted_in}
use Rattle.counting.proofs.Capacities.{carried}
use Rattle.telling.specs.Formulas.{own_cells}
use Rattle.telling.specs.Rules.{HasFormula, NodeRow, a_signal_row, a_computed_row, an_effect, a_scope, Described}
use Rattle.telling.specs.Whole.{used_cells}
use Rattle.resting.specs.AtRest.{subs_of, deps_of, free_of, Flagged, signal_clean, signal_set, computed_never, computed_clean, computed_bare, computed_pending, computed_dirty, effect_watching, effect_queued, effect_pending, effect_dirty, gone_queued, gone_done, scope_still, Joined}
use Rattle.meaning.specs.State.{capacities, signal, computed, effect, scope, deps}
use Rattle.meaning.specs.Played.{byte}
use Rattle.meaning.specs.Words.{formula_of}
use Rattle.meaning.proofs.Laws.{false≢true}
use Rattle.refusing.specs.Sight.{room_in, kind_of}
use Rattle.structure.specs.Chains.{Chain, Back, last_word}
use Rattle.structure.specs.Rep.{kind_word, has_form, word_at, free_at, Lengths, Kinds, Spelt, Forms, Rep}
use Rattle.structure.specs.Reading.{of_node, or_constant, form_in, state_in}
use Rattle.structure.proofs.ChainLaws.{listed_next, listed_prev, listed_tail, free_next}
use Rattle.structure.proofs.WordLaws.{says_kind, kind_word_lem, mark_word, owner_word_lem, of_a_node, used_cells_lem, formula_of_written, queue_long}

-- ---- flags that occur are the byte of the six bits
flag_says : (w k : ℕ) → w ≡ k → byte (named (k % 256)) ≡ k → w ≡ byte (named (w % 256))
flag_says w k e p = e ∙ sym (ap (λ (x : ℕ). byte (named (x % 256))) e ∙ p)

flag_word : (kind gone f : ℕ) (ds ss rs : List ℕ) → Flagged kind gone f ds ss rs → f ≡ byte (named (f % 256))
unfolding named bit_at
flag_word kind gone f ds ss rs (signal_clean k e) = flag_says f 1 e refl
flag_word kind gone f ds ss rs (signal_set k e) = flag_says f 17 e refl
flag_word kind gone f ds ss rs (computed_never k e a b) = flag_says f 0 e refl
flag_word kind gone f ds ss rs (computed_clean k e) = flag_says f 1 e refl
flag_word kind gone f ds ss rs (computed_bare k e a) = flag_says f 17 e refl
flag_word kind gone f ds ss rs (computed_pending k e a) = flag_says f 33 e refl
flag_word kind gone f ds ss rs (computed_dirty k e a) = flag_says f 49 e refl
flag_word kind gone f ds ss rs (effect_watching k g e) = flag_says f 2 e refl
flag_word kind gone f ds ss rs (effect_queued k g e) = flag_says f 0 e refl
flag_word kind gone f ds ss rs (effect_pending k g e a) = flag_says f 32 e refl
flag_word kind gone f ds ss rs (effect_dirty k g e a) = flag_says f 48 e refl
flag_word kind gone f ds ss rs (gone_queued k g e) = flag_says f 0 e refl
flag_word kind gone f ds ss rs (gone_done k g e) = flag_says f 2 e refl
flag_word kind gone f ds ss rs (scope_still k e) = flag_says f 0 e refl

-- the capacities that the lengths carry
pub room_fits : (N L : List ℕ) (W C : List ℤ) → carry_in N L W C ≡ true → capacities (room_in N L C) ≡ true
room_fits N L W C e =
    let z = carried N L W C e in
    ap₂ ◌&&◌ (ap₂ ◌&&◌ (le-leb _ _ z.some_nodes) (le-leb _ _ z.few_nodes))
    (ap₂ ◌&&◌ (ap₂ ◌&&◌ (le-leb _ _ z.some_slots) (le-leb _ _ z.few_slots)) (ap₂ ◌&&◌ (le-leb _ _ z.some_cells) (le-leb _ _ z.few_cells)))

module _ (N L : List ℕ) (W C : List ℤ) (d : Described N L W C) where
  pub counted : counted_in N ≡ get_or N COUNT 0
  unfolding counted_in
  counted = omega (arith, d.nodes_fit)

  pub known : (n : ℕ) → n < get_or N COUNT 0 → n < counted_in N
  known n h = omega (arith, counted)

  pub fit : get_or N USED 0 * 2 ≤ length C
  fit = omega (arith, d.cells_fit)

  -- ---- rows
  row_kind : (n : ℕ) → NodeRow N (used_cells N C) n → node N n KIND ≡ kind_word (kind_of (node N n KIND))
  row_kind n (a_signal_row k s) = kind_word_lem signal (node N n KIND) k
  row_kind n (a_computed_row k c) = kind_word_lem computed (node N n KIND) k
  row_kind n (an_effect k s f) = kind_word_lem effect (node N n KIND) k
  row_kind n (a_scope k s) = kind_word_lem scope (node N n KIND) k

  row_gone : (n : ℕ) → NodeRow N (used_cells N C) n → node N n GONE ≤ 1
  row_gone n (a_signal_row k s) = omega (arith, s.not_gone)
  row_gone n (a_computed_row k c) = omega (arith, c.not_gone)
  row_gone n (an_effect k s f) = s.gone_mark
  row_gone n (a_scope k s) = s.gone_mark

  -- a computed or an effect has a formula
  pub row_form : (n : ℕ) → NodeRow N (used_cells N C) n → has_form (kind_of (node N n KIND)) ≡ true → HasFormula N (used_cells N C) n
  row_form n (a_signal_row k s) e = false≢true (sym (ap has_form (says_kind signal (node N n KIND) k)) ∙ e)
  row_form n (a_computed_row k c) e = c.has
  row_form n (an_effect k s f) e = f
  row_form n (a_scope k s) e = false≢true (sym (ap has_form (says_kind scope (node N n KIND) k)) ∙ e)

  -- ---- formulas
  pub form_at : (n : ℕ) → n < get_or N COUNT 0 → form_in N C n ≡ or_constant (has_form (kind_of (node N n KIND))) (formula_of (own_cells N (used_cells N C) n))
  unfolding form_in
  form_at n h = rw (lt-ltb n (get_or N COUNT 0) h, form_in)

  pub form_tree : (n : ℕ) → n < get_or N COUNT 0 → has_form (kind_of (node N n KIND)) ≡ true → (f : HasFormula N (used_cells N C) n) → form_in N C n ≡ f.tree
  form_tree n h e f =
      let g = f.formula in
      form_at n h ∙ ap (λ (b : Bool). or_constant b (formula_of (own_cells N (used_cells N C) n))) e
      ∙ formula_of_written (own_cells N (used_cells N C) n) f.tree (record { spelt = g.spelt; few = g.few; shallow = g.shallow })

  pub form_none : (n : ℕ) → n < get_or N COUNT 0 → has_form (kind_of (node N n KIND)) ≡ false → form_in N C n ≡ constant (pos 0)
  form_none n h e = form_at n h ∙ ap (λ (b : Bool). or_constant b (formula_of (own_cells N (used_cells N C) n))) e

  pub form_spelt : (n : ℕ) (f : HasFormula N (used_cells N C) n) → Spelt N C n f.tree
  form_spelt n f = record { inside = let i = f.inside in omega (arith, used_cells_lem N C n fit); long = f.long; words = f.formula.spelt; counted = f.counted }

  form_past : (n : ℕ) → get_or N COUNT 0 ≤ n → form_in N C n ≡ constant (pos 0)
  unfolding form_in
  form_past n h = rw (le-ltb n (get_or N COUNT 0) h, form_in)

  forms : Forms N C (get_or N COUNT 0) (λ n. kind_of (node N n KIND)) (λ n. form_in N C n)
  forms = record {
    spelt = λ n h e. let f = row_form n (d.rows n h) e in subst (λ (t : Tree). Spelt N C n t) (sym (form_tree n h e f)) (form_spelt n f);
    without = form_none;
    past = form_past;
  }

  lengths : Lengths N L W C (state_in N L W C).room
  lengths = let s = carried N L W C d.carried in record { of_nodes = s.node_rows_lem; of_links = s.link_rows_lem; of_values = s.value_words_lem; of_cells = s.cells_long }

  kinds : Kinds N (get_or N COUNT 0) (state_in N L W C).kind (state_in N L W C).gone (state_in N L W C).owner (state_in N L W C).level
  kinds = record {
    kind = λ n. refl;
    gone = λ n. refl;
    owner = λ n. owner_word_lem (node N n OWNER);
    level = λ n. refl;
    kind_word_lem = λ n h. row_kind n (d.rows n h);
    gone_word = λ n h. mark_word (node N n GONE) (row_gone n (d.rows n h));
  }

  module _ (j : Joined N L C) where
    -- ---- lists
    pub deps_at : (n : ℕ) → n < get_or N COUNT 0 → deps (state_in N L W C) n ≡ deps_of N L n
    deps_at n h = append-nil (of_node N n (deps_of N L n)) ∙ of_a_node N n (deps_of N L n) h

    next_dep_lem : (n : ℕ) → n < get_or N COUNT 0 → Chain (word_at N L NEXT-DEP n DEPS) 0 (deps_of N L n)
    unfolding word_at
    next_dep_lem n h = listed_next L SUB PREV-DEP NEXT-DEP n (word_at N L NEXT-DEP n DEPS) (λ x. refl) 0 (node N n DEPS) (deps_of N L n) (node N n DEPS-TAIL) refl (j.linked.deps n (known n h))

    next_sub : (n : ℕ) → n < get_or N COUNT 0 → Chain (word_at N L NEXT-SUB n SUBS) 0 (subs_of N L n)
    unfolding word_at
    next_sub n h = listed_next L DEP PREV-SUB NEXT-SUB n (word_at N L NEXT-SUB n SUBS) (λ x. refl) 0 (node N n SUBS) (subs_of N L n) (node N n SUBS-TAIL) refl (j.linked.subs n (known n h))

    free : Chain (free_at L) 0 (free_of L)
    unfolding free_at
    free = free_next L (free_at L) (λ x. refl) 0 (get_or L FREE 0) (free_of L) refl j.linked.free

    waiting : get_or N QUEUE 0 ≡ length (queue_of N)
    unfolding count counted_in
    waiting = omega (arith, queue_long N, j.queued.long)

    pub read_rep : Rep N L W C (state_in N L W C)
    read_rep = record {
      lengths = lengths;
      registers = record { count = refl; used = refl; depth = refl; cycle = refl };
      kinds = kinds;
      flags = record {
        flags = λ n. refl;
        flag_word = λ n h. flag_word (node N n KIND) (node N n GONE) (node N n FLAGS) _ _ _ (j.flagged n (known n h));
      };
      values = record { current = λ n. refl; pending = λ n. refl };
      forms = forms;
      slots = record { live = λ x. refl; dep = λ x. refl; sub = λ x. refl; ver = λ x. refl };
      deps = record {
        next = λ n h. subst (λ (xs : List ℕ). Chain (word_at N L NEXT-DEP n DEPS) 0 xs) (sym (deps_at n h)) (next_dep_lem n h);
        prev = λ n h. subst (λ (xs : List ℕ). Back (λ (x : ℕ). link L x PREV-DEP) 0 xs) (sym (deps_at n h))
            (listed_prev L SUB PREV-DEP NEXT-DEP n 0 (node N n DEPS) (deps_of N L n) (node N n DEPS-TAIL) (j.linked.deps n (known n h)));
        tail = λ n h. listed_tail L SUB PREV-DEP NEXT-DEP n 0 (node N n DEPS) (deps_of N L n) (node N n DEPS-TAIL) (j.linked.deps n (known n h))
            ∙ ap (last_word 0) (sym (of_a_node N n (deps_of N L n) h));
      };
      subs = record {
        next = λ n h. subst (λ (xs : List ℕ). Chain (word_at N L NEXT-SUB n SUBS) 0 xs) (sym (of_a_node N n (subs_of N L n) h)) (next_sub n h);
        prev = λ n h. subst (λ (xs : List ℕ). Back (λ (x : ℕ). link L x PREV-SUB) 0 xs) (sym (of_a_node N n (subs_of N L n) h))
            (listed_prev L DEP PREV-SUB NEXT-SUB n 0 (node N n SUBS) (subs_of N L n) (node N n SUBS-TAIL) (j.linked.subs n (known n h)));
        tail = λ n h. listed_tail L DEP PREV-SUB NEXT-SUB n 0 (node N n SUBS) (subs_of N L n) (node N n SUBS-TAIL) (j.linked.subs n (known n h))
            ∙ ap (last_word 0) (sym (of_a_node N n (subs_of N L n) h));
      };
      free = free;
      queue = record { entries = refl; waiting = waiting };
    }
