-- Document 01, "Capacities": the words that tables of given capacities take; 0 for a number that is no capacity.
use Rattle.std.specs.Prelude.{ℕ, ◌+◌, ◌*◌}
use Rattle.primitive.specs.Words.{NODE, LINK}
use Rattle.counting.specs.Counts.{row, most_nodes, most_slots, most_cell_room, within_most}
use Rattle.operating.specs.Log.{row_words}

-- n records and `header` more, of `each` words, where n is 1 to `most`
unfoldable pub words_for : ℕ → ℕ → ℕ → ℕ → ℕ
words_for most header each n = row (within_most most n) ((header + n) * each) 0

abbrev pub node_words_of : ℕ → ℕ
node_words_of = words_for most_nodes 1 NODE

abbrev pub link_words_of : ℕ → ℕ
link_words_of = words_for most_slots 1 LINK

-- two values a node, each of two words
abbrev pub value_words_of : ℕ → ℕ
value_words_of = words_for most_nodes 0 4

abbrev pub cell_words_of : ℕ → ℕ
cell_words_of = words_for most_cell_room 0 2

-- no command wants more rows than there are nodes
abbrev pub log_words_of : ℕ → ℕ
log_words_of = words_for most_nodes 0 row_words
