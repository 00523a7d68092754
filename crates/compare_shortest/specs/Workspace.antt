-- The tables and arrays that a search is handed.
use Rattle.std.specs.Prelude.{◌≡◌, List, ℕ, ◌≤◌, length}
use Rattle.compare_shortest.specs.Seen.{Clear}

-- the table D of the graph, the table H of hits, whether each node has been seen, and places for the nodes, the root once more, and one that does not count
pub record Ready (D H seen places : List ℕ) (L : ℕ) : Type 0 where
  pub table_size : length D ≡ 4096
  pub hits_size : length H ≡ 256
  pub seen_size : length seen ≡ 65536
  pub places_size : length places ≡ 65538
  pub letters : L ≤ 16
  pub clear : Clear seen

-- the same with another table and other places
pub ready_inner : {P D H seen outer inner : List ℕ} {L : ℕ} → Ready P H seen outer L → length D ≡ 4096 → length inner ≡ 65538 → Ready D H seen inner L
ready_inner R t i = record { table_size = t; hits_size = R.hits_size; seen_size = R.seen_size; places_size = i; letters = R.letters; clear = R.clear }
