-- `engine::perform::perform` meets its contract. Assumes nothing.
use borrow.Author.Rules.{rules}
use mir.Syntax.{w64}
use mir.Val.{to_z, of_z}
use mir.Facts.{to_z-of_z}
use mathlib.Core.Path.{◌≡◌, ap, ◌∙◌}
use Rattle.values.specs.Values.{value}
use Rattle.meaning.specs.Words.{node_of}
use Rattle.commanding.specs.Perform.{owner_word}
use Rattle.commanding.proofs.EngineLaws.{signal_by, computed_by, effect_by, scope_by, set_by, add_by, read_by, dispose_by, start_by, end_by, unknown_by}
use Rattle.engine.proofs.perform.perform.Goals as goal

pub returns-in-Signal : goal.returns-in-Signal
returns-in-Signal c =
    let k : to_z w64 (of_z w64 c.in-Signal.k) ≡ c.in-Signal.k = to_z-of_z {w = w64} (search rules) in
    let n : to_z w64 (of_z w64 c.number_word.result) ≡ c.number_word.result = to_z-of_z {w = w64} (search rules) in
    signal_by _ _ _ _ c.in-Signal.is (c.of.ensures ∙ ap value k) (c.new_signal-n.ensures c.args.links.now) (n ∙ c.number_word.ensures)

pub returns-in-Computed : goal.returns-in-Computed
returns-in-Computed c =
    let n : to_z w64 (of_z w64 c.number_word-in-Computed.result) ≡ c.number_word-in-Computed.result = to_z-of_z {w = w64} (search rules) in
    computed_by _ _ _ _ c.in-Computed.is (c.new_computed-n.ensures c.args.links.now) (n ∙ c.number_word-in-Computed.ensures)

pub returns-in-Effect : goal.returns-in-Effect
returns-in-Effect c =
    let o : to_z w64 (of_z w64 c.in-Effect.o) ≡ c.in-Effect.o = to_z-of_z {w = w64} (search rules) in
    let n : to_z w64 (of_z w64 c.number_word-in-Effect.result) ≡ c.number_word-in-Effect.result = to_z-of_z {w = w64} (search rules) in
    effect_by _ _ _ _ c.in-Effect.is (c.owner_word.ensures ∙ ap owner_word o) c.new_effect-e.ensures (n ∙ c.number_word-in-Effect.ensures)

pub returns-in-Scope : goal.returns-in-Scope
returns-in-Scope c =
    let o : to_z w64 (of_z w64 c.in-Scope.o) ≡ c.in-Scope.o = to_z-of_z {w = w64} (search rules) in
    let n : to_z w64 (of_z w64 c.number_word-in-Scope.result) ≡ c.number_word-in-Scope.result = to_z-of_z {w = w64} (search rules) in
    scope_by _ _ _ _ c.in-Scope.is (c.owner_word-in-Scope.ensures ∙ ap owner_word o) c.new_scope-n.ensures (n ∙ c.number_word-in-Scope.ensures)

pub returns-in-Set : goal.returns-in-Set
returns-in-Set c =
    let n : to_z w64 (of_z w64 c.in-Set.n) ≡ c.in-Set.n = to_z-of_z {w = w64} (search rules) in
    let k : to_z w64 (of_z w64 c.in-Set.k) ≡ c.in-Set.k = to_z-of_z {w = w64} (search rules) in
    set_by _ _ _ _ c.in-Set.is (c.node_of.ensures ∙ ap node_of n) (c.of-in-Set.ensures ∙ ap value k) c.set-runs.ensures

pub returns-in-Add : goal.returns-in-Add
returns-in-Add c =
    let n : to_z w64 (of_z w64 c.in-Add.n) ≡ c.in-Add.n = to_z-of_z {w = w64} (search rules) in
    let k : to_z w64 (of_z w64 c.in-Add.k) ≡ c.in-Add.k = to_z-of_z {w = w64} (search rules) in
    add_by _ _ _ _ c.in-Add.is (c.node_of-in-Add.ensures ∙ ap node_of n) (c.of-in-Add.ensures ∙ ap value k) c.add-runs.ensures

pub returns-in-Read : goal.returns-in-Read
returns-in-Read c =
    let n : to_z w64 (of_z w64 c.in-Read.n) ≡ c.in-Read.n = to_z-of_z {w = w64} (search rules) in
    let v : to_z w64 (of_z w64 c.read-v.result.word) ≡ c.read-v.result.word = to_z-of_z {w = w64} (search rules) in
    read_by _ _ _ _ c.in-Read.is (c.node_of-in-Read.ensures ∙ ap node_of n) c.read-v.ensures v

pub returns-in-Dispose : goal.returns-in-Dispose
returns-in-Dispose c =
    let n : to_z w64 (of_z w64 c.in-Dispose.n) ≡ c.in-Dispose.n = to_z-of_z {w = w64} (search rules) in
    dispose_by _ _ _ _ c.in-Dispose.is (c.node_of-in-Dispose.ensures ∙ ap node_of n) c.dispose.ensures

pub returns-in-Start : goal.returns-in-Start
returns-in-Start c =
    start_by _ _ _ _ c.in-Start.is c.start_batch.ensures

pub returns-in-End : goal.returns-in-End
returns-in-End c =
    end_by _ _ _ _ c.in-End.is c.end_batch-runs.ensures

pub returns-in-Unknown : goal.returns-in-Unknown
returns-in-Unknown c =
    unknown_by _ _ _ _ c.in-Unknown.is
