-- Laws of lengths: of a choice, of pieces by counting, of numbers, and of texts with another between them.
use Rattle.std.specs.Prelude.{◌≡◌, Bool, true, false, cond, List, [], ◌∷◌, ◌++◌, ℕ, zero, suc, ◌+◌, ◌*◌, ◌-◌, ◌≤◌, ◌<◌, length, ltb}
use Prim.Native.String.{String}
use Rattle.std.proofs.Common.{arith, length-append, lt-ltb}
use Rattle.meaning.specs.Counting.{each}
use Rattle.automaton.specs.Bytes.{bytes}
use Rattle.hoa_text.specs.Written.{decimal, followed, separated}

pub cond_le : (b : Bool) (x y : List ℕ) (c : ℕ) → length x ≤ c → length y ≤ c → length (cond b x y) ≤ c
cond_le true x y c h g = h
cond_le false x y c h g = g

pub each_le : (n c : ℕ) (f : ℕ → List ℕ) → ((i : ℕ) → i < n → length (f i) ≤ c) → length (each n f) ≤ c * n
each_le zero c f h = omega arith
each_le (suc n) c f h = omega (arith, length-append (each n f) (f n), each_le n c f (λ i g. h i (omega arith)), h n (omega arith))

pub decimal_le : (n : ℕ) → length (decimal n) ≤ 2
decimal_le n = cond_le (ltb n 10) _ _ 2 (omega arith) (omega arith)

pub digit_le : (n : ℕ) → n < 10 → length (decimal n) ≤ 1
digit_le n h = rw (lt-ltb n 10 h) (omega arith)

-- the lengths together, and c more for each text
unfoldable pub total : ℕ → List (List ℕ) → ℕ
total c [] = 0
total c (u ∷ us) = length u + c + total c us

total_append : (c : ℕ) (us vs : List (List ℕ)) → total c (us ++ vs) ≡ total c us + total c vs
unfolding total
total_append c [] vs = omega arith
total_append c (u ∷ us) vs = omega (arith, total_append c us vs)

pub total_each : (c d n : ℕ) (f : ℕ → List (List ℕ)) → ((i : ℕ) → i < n → total c (f i) ≤ d) → total c (each n f) ≤ d * n
unfolding total
total_each c d zero f h = omega arith
total_each c d (suc n) f h = omega (arith, total_append c (each n f) (f n), total_each c d n f (λ i g. h i (omega arith)), h n (omega arith))

followed_le : (w : String) (us : List (List ℕ)) → length (followed w us) ≤ total (length (bytes w)) us
unfolding total
followed_le w [] = omega arith
followed_le w (u ∷ us) = omega (arith, length-append (bytes w) (u ++ followed w us), length-append u (followed w us), followed_le w us)

-- one w less than there are texts
pub separated_le : (w : String) (us : List (List ℕ)) → length (separated w us) ≤ total (length (bytes w)) us - length (bytes w)
unfolding total
separated_le w [] = omega arith
separated_le w (u ∷ us) = omega (arith, length-append u (followed w us), followed_le w us)
