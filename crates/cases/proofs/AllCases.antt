-- The twelve cases of document 01, computed over the definitions that `command` cites: one table under one theorem. And the script that wrong engines are tried on. Assumes nothing.
use mathlib.Core.Path.{◌≡◌, refl}
use Rattle.meaning.specs.Cases.{table, small, rows}
use Rattle.cases.specs.Scripts.{empty_tables}
use Rattle.cases.specs.Table.{Holds}
use Rattle.cases.specs.Wrong.{numbers, tried, tried_numbers}
use Rattle.flags.specs.Flags as flags-flags
use Rattle.queue.specs.Queue as queue-queue
use Rattle.primitive.specs.Rows as primitive-rows
use Rattle.stack.specs.Stack as stack-stack
use Rattle.values.specs.Values as values-values
use Rattle.trees.specs.Cells as formula-cells
use Rattle.trees.specs.Legal as formula-legal
use Rattle.trees.specs.Names as formula-names
use Rattle.trees.specs.Trees as formula-trees
use Rattle.linking.specs.Free as links-free
use Rattle.linking.specs.Link as links-link
use Rattle.linking.specs.Neighbours as links-neighbours
use Rattle.linking.specs.Ring as links-ring
use Rattle.marking.specs.Fields as marks-fields
use Rattle.marking.specs.Notify as marks-notify
use Rattle.marking.specs.Shallow as marks-shallow
use Rattle.marking.specs.Valid as marks-valid
use Rattle.marking.specs.Visits as marks-visits
use Rattle.marking.specs.Walks as marks-walks
use Rattle.reading.specs.Read as reads-read
use Rattle.reading.specs.Ring as reads-ring
use Rattle.reading.specs.Steps as reads-steps
use Rattle.reading.specs.Tables as reads-tables
use Rattle.counting.specs.Counts as counts-counts
use Rattle.counting.specs.Depths as counts-depths
use Rattle.telling.specs.Formulas as described-formulas
use Rattle.telling.specs.Levels as described-levels
use Rattle.telling.specs.Nodes as described-nodes
use Rattle.telling.specs.Whole as described-whole
use Rattle.lists.specs.Each as lists-each
use Rattle.lists.specs.Once as lists-once
use Rattle.lists.specs.Sum as lists-sum
use Rattle.lists.specs.Walk as lists-walk
use Rattle.resting.specs.Blank as joined-blank
use Rattle.resting.specs.Depends as joined-depends
use Rattle.resting.specs.Flagged as joined-flagged
use Rattle.resting.specs.Joined as joined-joined
use Rattle.resting.specs.Linked as joined-linked
use Rattle.resting.specs.Named as joined-named
use Rattle.resting.specs.Queued as joined-queued
use Rattle.meaning.specs.Engine as meaning-engine
use Rattle.meaning.specs.Refusals as meaning-refusals
use Rattle.meaning.specs.Words as meaning-words
use Rattle.refusing.specs.Asked as refusals-asked
use Rattle.refusing.specs.Commands as refusals-commands
use Rattle.refusing.specs.Sight as refusals-sight
use Rattle.operating.specs.Batches as operations-batches
use Rattle.operating.specs.Emptying as operations-emptying
use Rattle.operating.specs.Log as operations-log
use Rattle.operating.specs.Making as operations-making
use Rattle.operating.specs.Runs as operations-runs
use Rattle.operating.specs.Writes as operations-writes
use Rattle.commanding.specs.Command as engine-command
use Rattle.commanding.specs.Perform as engine-perform
use Rattle.commanding.specs.Tables as engine-tables
use Rattle.cases.specs.Scripts as cases-scripts
use Rattle.cases.specs.Table as cases-table
use Rattle.cases.specs.Wrong as cases-wrong

computed : Holds table × (numbers rows (empty_tables small) tried ≡ tried_numbers)
unfolding flags-flags.bit queue-queue.count queue-queue.entry_at queue-queue.pushed queue-queue.emptied queue-queue.swapped queue-queue.reversed queue-queue.reversed_from queue-queue.entries queue-queue.queue_of primitive-rows.has_field primitive-rows.field primitive-rows.set_field stack-stack.pushed_len values-values.clamp values-values.sum values-values.difference values-values.minimum values-values.maximum values-values.less values-values.same_number values-values.same values-values.is_zero values-values.value_at values-values.set_value formula-cells.bare_of formula-cells.read_of formula-cells.codes formula-cells.cell_of formula-cells.arity_of formula-cells.name_of formula-cells.cell_at formula-cells.settled formula-cells.end_of formula-legal.read_kind formula-legal.readable_in formula-legal.known_in formula-legal.takes_in formula-legal.in_turn formula-legal.one_at formula-legal.legal_in formula-names.named formula-names.all_named formula-names.read_cells formula-names.tallest formula-names.tallest_in formula-names.height_in formula-trees.written formula-trees.size formula-trees.names formula-trees.apply links-free.is_live_slot links-free.live_below links-free.live links-free.taken links-free.released links-link.names links-link.newest links-link.written links-link.made links-link.set_back links-link.joined links-link.inserted links-link.reused links-link.init_of links-link.linked links-neighbours.next_dep_of links-neighbours.set_beside links-ring.is_only links-ring.is_mutable links-ring.reset links-ring.retired links-ring.mended links-ring.cut_out links-ring.next_of links-ring.walked links-ring.purged_by links-ring.disposed_by links-ring.unwatched_by links-ring.unlinked_by links-ring.unlinked_n links-ring.disposed links-ring.purged marks-fields.has marks-fields.lacks marks-fields.has_only marks-notify.queued marks-notify.owner_of marks-notify.climbed marks-notify.notified marks-shallow.raised marks-shallow.dirtied marks-shallow.further marks-shallow.shallow_from marks-shallow.shallow marks-valid.valid_at marks-valid.valid_from marks-valid.valid_link marks-visits.visit_of marks-visits.visit marks-visits.after marks-visits.stored marks-visits.reached marks-walks.below marks-walks.down marks-walks.back marks-walks.along marks-walks.onward marks-walks.turn marks-walks.walked marks-walks.propagated reads-read.refreshed reads-read.read_of reads-read.checked reads-read.evaluated_for reads-ring.read_by reads-ring.two_by reads-ring.choose_by reads-ring.cell_by reads-ring.evaluated_by reads-ring.updated_computed_by reads-ring.first_by reads-ring.updated_by reads-ring.settled_by reads-ring.pending_by reads-ring.dependency_by reads-ring.dirty_by reads-ring.onward reads-ring.deps_by reads-ring.checked_by reads-ring.renewed_by reads-ring.surely_by reads-ring.refreshed_computed_by reads-ring.refreshed_by reads-ring.ring_n reads-steps.woken reads-steps.woken_others reads-steps.updated_signal reads-steps.waken_if reads-steps.refreshed_signal reads-steps.begun_first reads-steps.begun reads-steps.finished_first reads-steps.finished reads-steps.linked_to reads-tables.rank_of reads-tables.current_of reads-tables.pending_of reads-tables.set_current reads-tables.set_pending reads-tables.cycle_of reads-tables.raised counts-counts.within_most counts-counts.whole_rows counts-counts.within_all counts-counts.carry_in counts-counts.counted_in counts-counts.total counts-counts.reserve_of counts-counts.reserve_in counts-counts.effect_of counts-counts.live_effects_in counts-depths.depth_under described-formulas.lower_rank described-formulas.own_cells described-formulas.all_lower described-formulas.reads_lower described-formulas.formula_in described-levels.level_kept described-nodes.stands_alone described-nodes.signal_in described-nodes.computed_in described-nodes.scope_in described-nodes.effect_in described-nodes.node_in described-nodes.nodes_in described-whole.described_in lists-each.every lists-each.along lists-each.tally lists-once.scan lists-once.stamp lists-sum.sum lists-walk.run lists-walk.runs joined-blank.blank joined-depends.owner_is joined-depends.may_depend joined-depends.depends_on joined-depends.depends_at joined-depends.only_to joined-depends.owned_on joined-depends.owned_at joined-flagged.signal_flags joined-flagged.computed_flags joined-flagged.effect_flags joined-flagged.gone_flags joined-flagged.flags_on joined-joined.flagged_at joined-joined.rests_at joined-joined.rest_in joined-joined.joined_in joined-linked.is_live_slot joined-linked.fits joined-linked.spare joined-linked.walks joined-linked.frees joined-linked.linked_in joined-named.reads_from joined-named.names_of joined-named.stamp_node joined-named.stamped joined-named.links_stamped joined-named.named_from joined-named.named_in joined-queued.waits_on joined-queued.may_wait joined-queued.lives joined-queued.due joined-queued.scanned joined-queued.idle joined-queued.queued_in meaning-engine.tallest meaning-refusals.asks_of meaning-refusals.unknown meaning-refusals.is_a meaning-refusals.wrong_node meaning-refusals.gone_node meaning-refusals.all_readable meaning-refusals.bad_formula meaning-refusals.too_high meaning-refusals.no_room meaning-refusals.wrong_depth meaning-refusals.few_rows meaning-refusals.table meaning-refusals.first meaning-refusals.refusal meaning-words.word meaning-words.no_word meaning-words.whole_cells meaning-words.codes meaning-words.command_of meaning-words.after meaning-words.grown meaning-words.parse meaning-words.tree_of refusals-asked.asked refusals-asked.cells_from refusals-asked.formula_in refusals-commands.brief refusals-sight.kind_of operations-batches.started operations-batches.flushed_at operations-batches.ended_batch operations-emptying.zeroed operations-emptying.freed operations-emptying.emptying operations-log.number_word operations-log.rowed operations-log.rows_in operations-making.set_all operations-making.described operations-making.laid operations-making.valued operations-making.has_room operations-making.make operations-making.owned operations-making.new_signal operations-making.new_computed operations-making.new_scope operations-making.new_effect operations-runs.begun_run operations-runs.ended_run operations-runs.finished_run operations-runs.reran operations-runs.must_run operations-runs.ran operations-runs.ran_next operations-runs.flushed_from operations-runs.cleared operations-runs.flushed operations-writes.stored operations-writes.announced operations-writes.written operations-writes.added engine-command.refusal_in engine-command.answer engine-command.command_in engine-perform.numbered engine-perform.performed engine-tables.well_formed_in cases-scripts.empty_tables cases-scripts.answered cases-scripts.rows_of cases-scripts.answers cases-scripts.after_all cases-table.between cases-table.Holds cases-wrong.numbers
computed = ((refl, (refl, (refl, (refl, (refl, (refl, (refl, (refl, (refl, (refl, (refl, (refl, (refl, (refl, refl)))))))))))))), refl)

pub all_cases : Holds table
all_cases = computed.0

pub tried_numbers_lem : numbers rows (empty_tables small) tried ≡ tried_numbers
tried_numbers_lem = computed.1
