-- The promise of each public function of `host` has one answer. Assumes nothing.
use mathlib.Core.Path.{refl, sym, ◌∙◌}
use Rattle.tight.specs.OneAnswer.{OneAnswer}
use Rattle.host.proofs.calls.simmer_empty.Kinds as calls-simmer-empty-kinds
use Rattle.host.proofs.calls.simmer_empty.Reads as calls-simmer-empty
use Rattle.host.proofs.calls.simmer_command.Kinds as calls-simmer-command-kinds
use Rattle.host.proofs.calls.simmer_command.Reads as calls-simmer-command
use Rattle.host.proofs.calls.simmer_commands.Kinds as calls-simmer-commands-kinds
use Rattle.host.proofs.calls.simmer_commands.Reads as calls-simmer-commands
use Rattle.host.proofs.sizes.simmer_node_words.Kinds as sizes-simmer-node-words-kinds
use Rattle.host.proofs.sizes.simmer_node_words.Reads as sizes-simmer-node-words
use Rattle.host.proofs.sizes.simmer_link_words.Kinds as sizes-simmer-link-words-kinds
use Rattle.host.proofs.sizes.simmer_link_words.Reads as sizes-simmer-link-words
use Rattle.host.proofs.sizes.simmer_value_words.Kinds as sizes-simmer-value-words-kinds
use Rattle.host.proofs.sizes.simmer_value_words.Reads as sizes-simmer-value-words
use Rattle.host.proofs.sizes.simmer_cell_words.Kinds as sizes-simmer-cell-words-kinds
use Rattle.host.proofs.sizes.simmer_cell_words.Reads as sizes-simmer-cell-words
use Rattle.host.proofs.sizes.simmer_log_words.Kinds as sizes-simmer-log-words-kinds
use Rattle.host.proofs.sizes.simmer_log_words.Reads as sizes-simmer-log-words

pub one_calls_simmer_empty : OneAnswer calls-simmer-empty-kinds.ps calls-simmer-empty-kinds.r calls-simmer-empty.Learnt
one_calls_simmer_empty κs a x y v w p q =
    let e = p ∙ sym q in
    (λ i. (e i).code, λ i. ((e i).nodes, ((e i).links, ((e i).values, ((e i).cells, tt)))))

pub one_calls_simmer_command : OneAnswer calls-simmer-command-kinds.ps calls-simmer-command-kinds.r calls-simmer-command.Learnt
one_calls_simmer_command κs a x y v w p q =
    let e = p ∙ sym q in
    (λ i. (e i).answer, λ i. ((e i).nodes, ((e i).links, ((e i).values, ((e i).cells, ((e i).log, (tt, ((e i).reply, tt))))))))

pub one_calls_simmer_commands : OneAnswer calls-simmer-commands-kinds.ps calls-simmer-commands-kinds.r calls-simmer-commands.Learnt
one_calls_simmer_commands κs a x y v w p q =
    let e = p ∙ sym q in
    (λ i. (e i).answer, λ i. ((e i).nodes, ((e i).links, ((e i).values, ((e i).cells, ((e i).rows, (tt, ((e i).answers, ((e i).reply, tt)))))))))

pub one_sizes_simmer_node_words : OneAnswer sizes-simmer-node-words-kinds.ps sizes-simmer-node-words-kinds.r sizes-simmer-node-words.Learnt
one_sizes_simmer_node_words κs a x y v w p q = (p ∙ sym q, refl)

pub one_sizes_simmer_link_words : OneAnswer sizes-simmer-link-words-kinds.ps sizes-simmer-link-words-kinds.r sizes-simmer-link-words.Learnt
one_sizes_simmer_link_words κs a x y v w p q = (p ∙ sym q, refl)

pub one_sizes_simmer_value_words : OneAnswer sizes-simmer-value-words-kinds.ps sizes-simmer-value-words-kinds.r sizes-simmer-value-words.Learnt
one_sizes_simmer_value_words κs a x y v w p q = (p ∙ sym q, refl)

pub one_sizes_simmer_cell_words : OneAnswer sizes-simmer-cell-words-kinds.ps sizes-simmer-cell-words-kinds.r sizes-simmer-cell-words.Learnt
one_sizes_simmer_cell_words κs a x y v w p q = (p ∙ sym q, refl)

pub one_sizes_simmer_log_words : OneAnswer sizes-simmer-log-words-kinds.ps sizes-simmer-log-words-kinds.r sizes-simmer-log-words.Learnt
one_sizes_simmer_log_words κs a x y v w p q = (p ∙ sym q, refl)
