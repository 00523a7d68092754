-- The graphs that are searched. A node is a number below 65536: 256 times a pair of states, and a set of marks below 256. A table has, at 16 times
-- a pair and a letter, 256 times the next pair, and the marks of the step.
use Rattle.std.specs.Prelude.{◌≡◌, ◌≢◌, List, [], ℕ, ◌+◌, ◌*◌, ◌/◌, ◌%◌, ◌<◌, get_or}
use Rattle.std.proofs.Common.{arith}
use Rattle.std.specs.Int.Bits.{bit_or}
use Rattle.std.proofs.lemmas.Nat.{or_lt}
use Rattle.meaning.specs.Walk.{run}
use Rattle.meaning.specs.Agreement.{Over}

abbrev pub at : List ℕ → ℕ → ℕ
at xs i = get_or xs i 0

-- the next pair, and the marks met so far
unfoldable pub succ : List ℕ → ℕ → ℕ → ℕ
succ D c l = bit_or (at D (c / 256 * 16 + l)) (c % 256)

-- each entry is a node
abbrev pub Nodes : List ℕ → Type 0
Nodes D = (i : ℕ) → at D i < 65536

pub succ_lt : (D : List ℕ) → Nodes D → (c l : ℕ) → succ D c l < 65536
unfolding succ
succ_lt D s c l = or_lt 16 (at D (c / 256 * 16 + l)) (c % 256) (s (c / 256 * 16 + l)) (omega arith)

-- c has the pair p, and marks at which H is not 0
abbrev pub Hit : List ℕ → ℕ → ℕ → Type 0
Hit H p c = (c / 256 ≡ p) × (at H (c % 256) ≢ 0)

-- a word, not empty, that leads from v to a hit with the pair of v
pub record HitLoop (D H : List ℕ) (L v : ℕ) (y : List ℕ) : Type 0 where
  pub over : Over L y
  pub some : y ≢ []
  pub hit : Hit H (v / 256) (run (succ D) v y)

-- a word from the root to a node by the table P, and a loop there by the table D
pub record HitLasso (P D H : List ℕ) (L root : ℕ) (x y : List ℕ) : Type 0 where
  pub over : Over L x
  pub loop : HitLoop D H L (run (succ P) root x) y
