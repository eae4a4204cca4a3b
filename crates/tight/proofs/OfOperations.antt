-- The promise of each public function of `operations` has one answer. Assumes nothing.
use mathlib.Core.Path.{refl, sym, ◌∙◌}
use Rattle.tight.specs.OneAnswer.{OneAnswer}
use Rattle.operations.proofs.batches.depth.Kinds as batches-depth-kinds
use Rattle.operations.proofs.batches.depth.Reads as batches-depth
use Rattle.operations.proofs.batches.start_batch.Kinds as batches-start-batch-kinds
use Rattle.operations.proofs.batches.start_batch.Reads as batches-start-batch
use Rattle.operations.proofs.batches.end_batch.Kinds as batches-end-batch-kinds
use Rattle.operations.proofs.batches.end_batch.Reads as batches-end-batch
use Rattle.operations.proofs.emptying.empty.Kinds as emptying-empty-kinds
use Rattle.operations.proofs.emptying.empty.Reads as emptying-empty
use Rattle.operations.proofs.log.number_word.Kinds as log-number-word-kinds
use Rattle.operations.proofs.log.number_word.Reads as log-number-word
use Rattle.operations.proofs.log.write_row.Kinds as log-write-row-kinds
use Rattle.operations.proofs.log.write_row.Reads as log-write-row
use Rattle.operations.proofs.runs.end_run.Kinds as runs-end-run-kinds
use Rattle.operations.proofs.runs.end_run.Reads as runs-end-run
use Rattle.operations.proofs.runs.run.Kinds as runs-run-kinds
use Rattle.operations.proofs.runs.run.Reads as runs-run
use Rattle.operations.proofs.runs.flush.Kinds as runs-flush-kinds
use Rattle.operations.proofs.runs.flush.Reads as runs-flush
use Rattle.operations.proofs.writes.set.Kinds as writes-set-kinds
use Rattle.operations.proofs.writes.set.Reads as writes-set
use Rattle.operations.proofs.writes.add.Kinds as writes-add-kinds
use Rattle.operations.proofs.writes.add.Reads as writes-add

pub one_batches_depth : OneAnswer batches-depth-kinds.ps batches-depth-kinds.r batches-depth.Learnt
one_batches_depth κs a x y v w p q = (p ∙ sym q, refl)

pub one_batches_start_batch : OneAnswer batches-start-batch-kinds.ps batches-start-batch-kinds.r batches-start-batch.Learnt
one_batches_start_batch κs a x y v w p q = (refl, λ i. ((p ∙ sym q) i, tt))

pub one_batches_end_batch : OneAnswer batches-end-batch-kinds.ps batches-end-batch-kinds.r batches-end-batch.Learnt
one_batches_end_batch κs a x y v w p q =
    let e = p ∙ sym q in
    (λ i. (e i).rows, λ i. ((e i).after.nodes, ((e i).after.links, ((e i).after.values, (tt, ((e i).log, tt))))))

pub one_emptying_empty : OneAnswer emptying-empty-kinds.ps emptying-empty-kinds.r emptying-empty.Learnt
one_emptying_empty κs a x y v w p q =
    let e = p ∙ sym q in
    (λ i. (e i).code, λ i. ((e i).nodes, ((e i).links, ((e i).values, ((e i).cells, tt)))))

pub one_log_number_word : OneAnswer log-number-word-kinds.ps log-number-word-kinds.r log-number-word.Learnt
one_log_number_word κs a x y v w p q = (p ∙ sym q, refl)

pub one_log_write_row : OneAnswer log-write-row-kinds.ps log-write-row-kinds.r log-write-row.Learnt
one_log_write_row κs a x y v w p q =
    let e1 = p.0 ∙ sym q.0 in
    let e2 = p.1 ∙ sym q.1 in
    (λ i. e1 i, λ i. (e2 i, (tt, (tt, tt))))

pub one_runs_end_run : OneAnswer runs-end-run-kinds.ps runs-end-run-kinds.r runs-end-run.Learnt
one_runs_end_run κs a x y v w p q = (refl, λ i. ((p ∙ sym q) i, (tt, tt)))

pub one_runs_run : OneAnswer runs-run-kinds.ps runs-run-kinds.r runs-run.Learnt
one_runs_run κs a x y v w p q =
    let e = p ∙ sym q in
    (λ i. (e i).rows, λ i. ((e i).after.nodes, ((e i).after.links, ((e i).after.values, (tt, ((e i).log, (tt, tt)))))))

pub one_runs_flush : OneAnswer runs-flush-kinds.ps runs-flush-kinds.r runs-flush.Learnt
one_runs_flush κs a x y v w p q =
    let e = p ∙ sym q in
    (λ i. (e i).rows, λ i. ((e i).after.nodes, ((e i).after.links, ((e i).after.values, (tt, ((e i).log, tt))))))

pub one_writes_set : OneAnswer writes-set-kinds.ps writes-set-kinds.r writes-set.Learnt
one_writes_set κs a x y v w p q =
    let e = p ∙ sym q in
    (λ i. (e i).rows, λ i. ((e i).after.nodes, ((e i).after.links, ((e i).after.values, (tt, ((e i).log, (tt, (tt, tt))))))))

pub one_writes_add : OneAnswer writes-add-kinds.ps writes-add-kinds.r writes-add.Learnt
one_writes_add κs a x y v w p q =
    let e = p ∙ sym q in
    (λ i. (e i).rows, λ i. ((e i).after.nodes, ((e i).after.links, ((e i).after.values, (tt, ((e i).log, (tt, (tt, tt))))))))
