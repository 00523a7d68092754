-- The condition that is written of an acceptance has at most 447 bytes: 16 sets of marks of at most 27 bytes each, and what joins them.
use Rattle.std.specs.Prelude.{Bool, true, false, cond, List, [], ◌∷◌, ℕ, zero, suc, ◌-◌, ◌^◌, ◌≤◌, ◌<◌, eqb, length}
use Rattle.std.proofs.Common.{arith, length-append}
use Rattle.meaning.specs.BitSet.{has}
use Rattle.meaning.specs.Counting.{each}
use Rattle.bits.specs.Powers.{power_le}
use Rattle.automaton.specs.Bytes.{bytes}
use Rattle.hoa_text.specs.Written.{decimal, separated, inf_of, condition_of, fin_of, set_text, marks_text, accepted, condition_text}
use Rattle.hoa_text.specs.Lengths.{cond_le, digit_le, total, total_each, separated_le}

inf_le : (i : ℕ) → i < 10 → length (inf_of i) ≤ 6
inf_le i h = omega (arith, length-append (decimal i) (bytes ")"), digit_le i h)

fin_le : (i : ℕ) → i < 10 → length (fin_of i) ≤ 6
fin_le i h = omega (arith, length-append (decimal i) (bytes ")"), digit_le i h)

-- as many texts as there are sets, each for one of them
product_le : (m : ℕ) (f : ℕ → List ℕ) → m ≤ 4 → ((i : ℕ) → i < m → length (f i) ≤ 6) → length (separated "&" (each m (λ i. f i ∷ []))) ≤ 27
unfolding total
product_le m f h g = omega (arith, separated_le "&" (each m (λ i. f i ∷ [])), total_each 1 7 m (λ i. f i ∷ []) (λ i l. omega (arith, g i l)))

marks_le : (m x : ℕ) → m ≤ 4 → length (marks_text m x) ≤ 27
marks_le m x h = product_le m (set_text x) h (λ i l. cond_le (has x i) (inf_of i) (fin_of i) 6 (inf_le i (omega arith)) (fin_le i (omega arith)))

all_le : (m : ℕ) → m ≤ 4 → length (condition_of m) ≤ 27
all_le zero h = omega arith
all_le (suc m) h = product_le (suc m) inf_of h (λ i l. inf_le i (omega arith))

sum_le : (m a : ℕ) → m ≤ 4 → length (separated "|" (accepted m a (2 ^ m))) ≤ 447
unfolding total
sum_le m a h = omega (arith, power_le h, separated_le "|" (accepted m a (2 ^ m)), total_each 1 28 (2 ^ m) (λ x. cond (has a x) (marks_text m x ∷ []) []) (λ x l. one x (has a x)))
  where
    one : (x : ℕ) (b : Bool) → total 1 (cond b (marks_text m x ∷ []) []) ≤ 28
    one x true = omega (arith, marks_le m x h)
    one x false = omega arith

pub condition_length : (m a : ℕ) → m ≤ 4 → length (condition_text m a) ≤ 447
condition_length m a h =
    cond_le (eqb a (2 ^ (2 ^ m - 1))) _ _ 447 (omega (arith, all_le m h))
    (cond_le (eqb a (2 ^ (2 ^ m) - 1)) _ _ 447 (omega arith)
    (cond_le (eqb a 0) _ _ 447 (omega arith) (sum_le m a h)))
