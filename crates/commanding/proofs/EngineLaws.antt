-- The ways through the decision and the answer, one law each. Assumes nothing.
use Rattle.std.specs.Prelude.{Option, Some, None}
use mathlib.Core.Path.{◌≡◌, refl, sym, ap, ◌∙◌, subst}
use mathlib.Core.Bool.{Bool, true, false}
use mathlib.Core.List.{List}
use Prim.Native.Nat.{ℕ, zero, suc, ◌+◌, ◌/◌, ◌^◌, ◌<◌}
use native.Mathlib.Numerals.{add-one}
use lib.IntN.{ℤ, pos}
use lib.ListN.{length}
use mir.Syntax.{w64}
use mir.Val.{SFits}
use Rattle.trees.specs.Cells.{natural_of}
use Rattle.trees.proofs.CellLaws.{natural_pos, natural_neg}
use Rattle.telling.specs.Whole.{described_in}
use Rattle.resting.specs.Joined.{joined_in}
use Rattle.values.specs.declared.Value.{Value}
use Rattle.values.specs.Values.{value}
use Rattle.linking.specs.Table.{Tab, tab}
use Rattle.linking.specs.Ring.{disposed}
use Rattle.reading.specs.Tables.{State, state, Got}
use Rattle.reading.specs.Read.{read_of}
use Rattle.meaning.specs.Words.{command_of, node_of}
use Rattle.meaning.specs.Refusals.{table, first, refusal}
use Rattle.refusing.specs.declared.commands.Command.{Command}
use Rattle.refusing.specs.declared.commands.Command.TheVariants.{Signal, Computed, Effect, Scope, Set, Add, Read, Dispose, Start, End, Unknown}
use Rattle.refusing.specs.Sight.{sight_in}
use Rattle.refusing.specs.Commands.{brief}
use Rattle.refusing.specs.Asked.{formula_in}
use Rattle.operating.specs.Log.{Ran, ran_to, number_word}
use Rattle.operating.specs.Batches.{started, ended_batch}
use Rattle.operating.specs.Writes.{written, added}
use Rattle.operating.specs.Making.{Made, new_signal, new_computed, new_scope, Started, new_effect}
use Rattle.commanding.specs.Tables.{well_formed_in}
use Rattle.commanding.specs.Perform.{Done, done, owner_word, numbered, performed}
use Rattle.commanding.specs.Command.{Answered, accepted, refused, refusal_on, refusal_in, answer, command_on, command_in}

-- ---- numbers of nodes and owners
module _ (k : ℤ) {r : Option ℕ} (found : r ≡ natural_of k) where
  pub node_is : (n : ℕ) → r ≡ Some n → n ≡ node_of k
  node_is n e = sym (ap node_of (natural_pos k found n e))

  pub owner_is_word : (n : ℕ) → r ≡ Some n → n + 1 ≡ owner_word k
  owner_is_word n e = add-one n ∙ sym (ap owner_word (natural_pos k found n e))

  pub owner_none : r ≡ None → 0 ≡ owner_word k
  owner_none e = natural_neg k found (λ (z : ℤ). 0 ≡ owner_word z) e (λ n. refl)

  pub owner_low : SFits w64 k → (n : ℕ) → r ≡ Some n → n < 2 ^ 63
  owner_low f n e = (subst (SFits w64) (natural_pos k found n e) f).sfits

-- ---- the test
module _ (n l : List ℕ) (v c : List ℤ) {d : Bool} (e : d ≡ described_in n l v c) where
  pub described_so : {j : Bool} → d ≡ true → j ≡ joined_in n l c → j ≡ well_formed_in n l v c
  unfolding well_formed_in
  described_so h g = let z : described_in n l v c ≡ true = sym e ∙ h in rw (z, well_formed_in) g

-- ---- the decision
module _ (n l : List ℕ) (c g ws : List ℤ) (b : Bool) where
  pub decided : {r : ℕ} → b ≡ true → r ≡ refusal true (sight_in n l c (length g / 2)) ws → r ≡ refusal_on b n l c g ws
  decided h q = rw h q

  pub not_tables : b ≡ false → 1 ≡ refusal_on b n l c g ws
  unfolding refusal table first
  not_tables h = rw h

pub refusal_tested : (n l : List ℕ) (v c g ws : List ℤ) (b : Bool) {r : ℕ} → b ≡ well_formed_in n l v c → r ≡ refusal_on b n l c g ws → r ≡ refusal_in n l v c g ws
unfolding refusal_in
refusal_tested n l v c g ws b e q = q ∙ ap (λ (b : Bool). refusal_on b n l c g ws) e

-- ---- the answer
module _ (n l : List ℕ) (v c g ws : List ℤ) (b : Bool) {r : ℕ} (e : r ≡ refusal_on b n l c g ws) where
  refused_by : (k : ℕ) → (k ≡ 0 → ⊥) → refused k n l v c g ≡ answer k n l v c g ws
  unfolding answer
  refused_by zero f = absurd (f refl)
  refused_by (suc k) f = refl

  pub command_refused : (r ≡ 0 → ⊥) → refused r n l v c g ≡ command_on b n l v c g ws
  command_refused f = refused_by r f ∙ ap (λ (k : ℕ). answer k n l v c g ws) e

  pub command_done : {d : Done} → r ≡ 0 → d ≡ performed (state n l v) c g (brief (command_of ws)) (formula_in ws) → accepted d ≡ command_on b n l v c g ws
  unfolding answer
  command_done h q = ap accepted q ∙ ap (λ (k : ℕ). answer k n l v c g ws) (sym h ∙ e)

-- the test decides whether they are well formed
pub command_tested : (n l : List ℕ) (v c g ws : List ℤ) (b : Bool) {a : Answered} → b ≡ well_formed_in n l v c → a ≡ command_on b n l v c g ws → a ≡ command_in n l v c g ws
unfolding command_in refusal_in
command_tested n l v c g ws b e q = q ∙ ap (λ (b : Bool). command_on b n l v c g ws) e

-- ---- doing: a law a command
numbered_by : (l : List ℤ) {m o : Made} {x : ℤ} → m ≡ o → x ≡ number_word m.number → done x (ran_to m.after l 0) m.cells ≡ numbered l o
unfolding numbered
numbered_by l {m} p q = rw (← p, numbered, q)

module _ (s : State) (c l ws : List ℤ) {a : Command} {x : ℤ} where
  pub signal_by : {k : ℤ} {v : Value} {m : Made} → a ≡ Signal k → v ≡ value k → m ≡ new_signal s c v → x ≡ number_word m.number → done x (ran_to m.after l 0) m.cells ≡ performed s c l a ws
  unfolding performed
  signal_by h p q r = rw (h, ← p) (numbered_by l q r)

  pub computed_by : {m : Made} → a ≡ Computed → m ≡ new_computed s c ws → x ≡ number_word m.number → done x (ran_to m.after l 0) m.cells ≡ performed s c l a ws
  unfolding performed
  computed_by h q r = rw h (numbered_by l q r)

  pub effect_by : {o : ℤ} {w : ℕ} {e : Started} → a ≡ Effect o → w ≡ owner_word o → e ≡ new_effect s c l w ws → x ≡ number_word e.number → done x e.ran e.cells ≡ performed s c l a ws
  unfolding performed
  effect_by h p q r = rw (h, ← p, ← q, r)

  pub scope_by : {o : ℤ} {w : ℕ} {m : Made} → a ≡ Scope o → w ≡ owner_word o → m ≡ new_scope s c w → x ≡ number_word m.number → done x (ran_to m.after l 0) m.cells ≡ performed s c l a ws
  unfolding performed
  scope_by h p q r = rw (h, ← p) (numbered_by l q r)

  pub read_by : {k : ℤ} {n : ℕ} {g : Got} → a ≡ Read k → n ≡ node_of k → g ≡ read_of c s n → x ≡ g.value.word → done x (ran_to g.after l 0) c ≡ performed s c l a ws
  unfolding performed
  read_by h p q r = rw (h, ← p, ← q, r)

module _ (s : State) (c l ws : List ℤ) {a : Command} where
  pub set_by : {j k : ℤ} {n : ℕ} {v : Value} {r : Ran} → a ≡ Set j k → n ≡ node_of j → v ≡ value k → r ≡ written c s l n v → done (pos 0) r c ≡ performed s c l a ws
  unfolding performed
  set_by h p q e = rw (h, ← p, ← q, ← e)

  pub add_by : {j k : ℤ} {n : ℕ} {v : Value} {r : Ran} → a ≡ Add j k → n ≡ node_of j → v ≡ value k → r ≡ added c s l n v → done (pos 0) r c ≡ performed s c l a ws
  unfolding performed
  add_by h p q e = rw (h, ← p, ← q, ← e)

  pub dispose_by : {j : ℤ} {n : ℕ} {t : Tab} → a ≡ Dispose j → n ≡ node_of j → t ≡ disposed (tab s.nodes s.links) n → done (pos 0) (ran_to (state t.nodes t.links s.values) l 0) c ≡ performed s c l a ws
  unfolding performed
  dispose_by h p q = rw (h, ← p, ← q)

  pub start_by : {n : List ℕ} → a ≡ Start → n ≡ started s.nodes → done (pos 0) (ran_to (state n s.links s.values) l 0) c ≡ performed s c l a ws
  unfolding performed
  start_by h p = rw (h, ← p)

  pub end_by : {r : Ran} → a ≡ End → r ≡ ended_batch c s l → done (pos 0) r c ≡ performed s c l a ws
  unfolding performed
  end_by h p = rw (h, ← p)

  pub unknown_by : a ≡ Unknown → done (pos 0) (ran_to s l 0) c ≡ performed s c l a ws
  unfolding performed
  unknown_by h = rw h
