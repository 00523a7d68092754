-- The first of several places that is the place of a hit.
use Rattle.std.specs.Prelude.{◌≡◌, List, ℕ, ◌+◌, ◌≤◌, ◌<◌}
use Rattle.std.proofs.Common.{subst, arith, below_more}
use Rattle.compare_shortest.specs.Graph.{at, Hit}
use Rattle.compare_shortest.specs.Packing.{node_of}

-- r is the first place of a hit with the pair v from m on, or n
pub record First (places H : List ℕ) (v m n r : ℕ) : Type 0 where
  pub low : m ≤ r
  pub high : r ≤ n
  pub before : (k : ℕ) → m ≤ k → k < r → ¬ Hit H v (node_of (at places k))
  pub found : r < n → Hit H v (node_of (at places r))

-- no node has the pair 256
pub first_nowhere : {places H : List ℕ} {m n : ℕ} → m ≤ n → First places H 256 m n n
first_nowhere g = record { low = g; high = omega arith; before = λ k a b h. omega (arith, h.0); found = λ h. absurd (omega arith) }

-- no place from m to k - 1 is that of a hit
pub record Missed (places H : List ℕ) (v m n k : ℕ) : Type 0 where
  pub low : m ≤ k
  pub high : k ≤ n
  pub before : (j : ℕ) → m ≤ j → j < k → ¬ Hit H v (node_of (at places j))

pub missed_none : {places H : List ℕ} {v m n : ℕ} → m ≤ n → Missed places H v m n m
missed_none g = record { low = omega arith; high = g; before = λ j a b. absurd (omega arith) }

module _ {places H : List ℕ} {v m n k : ℕ} (M : Missed places H v m n k) where
  pub missed_more : {c : ℕ} → k < n → c ≡ node_of (at places k) → ¬ Hit H v c → Missed places H v m n (k + 1)
  missed_more g z miss = record {
    low = omega (arith, M.low);
    high = omega arith;
    before = λ j a b. below_more (λ i. m ≤ i → ¬ Hit H v (node_of (at places i))) k (λ i b a. M.before i a b) (λ a. subst (λ c. ¬ Hit H v c) z miss) j b a;
  }

  pub first_here : {c : ℕ} → c ≡ node_of (at places k) → Hit H v c → First places H v m n k
  first_here e hit = record { low = M.low; high = M.high; before = M.before; found = λ g. subst (Hit H v) e hit }

  pub first_none : n ≤ k → First places H v m n n
  first_none g = record { low = omega (arith, M.low); high = omega arith; before = λ j a b. M.before j a (omega arith); found = λ z. absurd (omega arith) }
