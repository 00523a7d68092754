-- A place as one number: its depth, its edge and its node.
use Rattle.std.specs.Prelude.{◌≡◌, List, ℕ, ◌+◌, ◌*◌, ◌/◌, ◌%◌, ◌<◌}
use Rattle.std.proofs.Common.{arith}
use Rattle.compare_shortest.specs.Graph.{at}
use Rattle.compare_shortest.specs.Search.{Places}

abbrev pub pack : ℕ → ℕ → ℕ → ℕ
pack node edge depth = (depth * 1048576 + edge) * 65536 + node

abbrev pub node_of : ℕ → ℕ
node_of p = p % 65536

abbrev pub edge_of : ℕ → ℕ
edge_of p = p / 65536 % 1048576

abbrev pub depth_of : ℕ → ℕ
depth_of p = p / 65536 / 1048576

pub node_pack : (c e d : ℕ) → c < 65536 → node_of (pack c e d) ≡ c
node_pack c e d h = omega arith

pub edge_pack : (c e d : ℕ) → c < 65536 → e < 1048576 → edge_of (pack c e d) ≡ e
edge_pack c e d h g = omega arith

pub depth_pack : (c e d : ℕ) → c < 65536 → e < 1048576 → depth_of (pack c e d) ≡ d
depth_pack c e d h g = omega arith

-- the places that an array holds
abbrev pub view : List ℕ → Places
view places = record { node = λ k. node_of (at places k); edge = λ k. edge_of (at places k); depth = λ k. depth_of (at places k) }
