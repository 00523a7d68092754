-- What the functions' loops and branches know, over plain numbers and lists.
use mathlib.Core.Path.{◌≡◌, refl, sym, ap, ◌∙◌, subst}
use mathlib.Core.Logic.{◌≢◌}
use mathlib.Core.List.{List}
use Prim.Native.Nat.{ℕ, zero, suc, ◌+◌, ◌-◌, ◌*◌, ◌^◌, ◌≤◌, ◌<◌}
use native.Mathlib.Nat.{zero-mul, one-mul, mul-one, add-mul, mul-add}
use native.Mathlib.Omega.{arith}
use borrow.Author.Tests.{lt-ltb, le-ltb}
use lib.Arith.{lt_of_le-ne}
use lib.ListN.{length}
use Rattle.decimal.specs.Decimal.{digits, places, decimal}
use Rattle.decimal.specs.Digits.{decimal_length}
use Rattle.decimal.specs.Wrote.{Wrote, WroteIfRoom}
use Rattle.decimal.specs.Writing.{wrote_roomy, wrote_short}

-- ---- one digit, by taking a power away

-- in so many turns the power was taken away d times, and does not go more often into the rest than turns are left
pub record Taken (n power turn d rest : ℕ) : Type 0 where
  pub whole : n ≡ d * power + rest
  pub less : rest < power * (10 - turn)
  pub count : d ≤ turn

pub taken_none : (n power : ℕ) → n < power * 10 → Taken n power 0 0 n
taken_none n power h = record { whole = omega (arith, zero-mul power); less = h; count = omega arith }

-- once more, where it goes
pub taken_once : {n power turn d rest : ℕ} → Taken n power turn d rest → {c s : ℕ} → turn < 9 → power ≤ rest → c ≡ d + 1 → s ≡ rest - power → Taken n power (turn + 1) c s
taken_once {n} {power} {turn} {d} {rest} t {c} {s} h g p q =
    let e : 10 - turn ≡ 10 - (turn + 1) + 1 = omega arith in
    record {
      whole = omega (arith, t.whole, ap (λ (k : ℕ). k * power) p, add-mul d 1 power, one-mul power);
      less = omega (arith, subst (λ (k : ℕ). rest < power * k) e t.less, mul-add power (10 - (turn + 1)) 1, mul-one power);
      count = omega (arith, t.count);
    }

pub taken_enough : {n power turn d rest : ℕ} → Taken n power turn d rest → {c s : ℕ} → turn < 9 → rest < power → c ≡ d → s ≡ rest → Taken n power (turn + 1) c s
taken_enough {power = power} {turn = turn} {rest = rest} t {c} {s} h g p q =
    let e : 10 - (turn + 1) ≡ 8 - turn + 1 = omega arith in
    let l : s < power * (8 - turn + 1) = omega (arith, mul-add power (8 - turn) 1, mul-one power) in
    record { whole = omega (arith, t.whole, ap (λ (k : ℕ). k * power) p); less = subst (λ (k : ℕ). s < power * k) (sym e) l; count = omega (arith, t.count) }

pub taken_all : {n power turn d rest : ℕ} → Taken n power turn d rest → turn ≡ 9 → (n ≡ d * power + rest) × (rest < power)
taken_all {power = power} {rest = rest} t e = (t.whole, subst (λ (k : ℕ). rest < k) (ap (λ (k : ℕ). power * (10 - k)) e ∙ mul-one power) t.less)

-- ---- the last arm of a match on 0, 1, ..

-- k is none of the numbers below n
abbrev pub Misses : ℕ → ℕ → Type 0
Misses zero k = Unit
Misses (suc n) k = Misses n k × (k ≢ n)

pub misses_past : (n : ℕ) (k : ℕ) → Misses n k → n ≤ k
misses_past zero k m = omega arith
misses_past (suc n) k (m, h) = lt_of_le-ne (misses_past n k m) (λ e. h (sym e))

pub last_arm : (k : ℕ) → Misses 19 k → k < 20 → 19 ≡ k
last_arm k m h = omega (arith, misses_past 19 k m)

-- ---- the count of digits

pub places_here : (k c n : ℕ) → n < 10 ^ c → places k c n ≡ c
places_here zero c n h = refl
places_here (suc k) c n h = rw (lt-ltb n (10 ^ c) h)

pub places_past : (k c n : ℕ) → 0 < k → 10 ^ c ≤ n → places k c n ≡ places (k - 1) (c + 1) n
places_past zero c n g h = elim g [ ]
places_past (suc k) c n g h = let e : k ≡ suc k - 1 = omega arith in rw (le-ltb n (10 ^ c) h) (ap (λ j. places j (c + 1) n) e)

-- ---- the whole number

-- no room: nothing is written
pub wrote_nothing : (n at : ℕ) (d : List ℕ) (count : ℕ) → count ≡ places 19 1 n → length d < at + count → WroteIfRoom d at (decimal n) d at
wrote_nothing n at d count e h = wrote_short d at (decimal n) (omega (arith, decimal_length n, e))

pub wrote_decimal : (n at : ℕ) {d : List ℕ} {count : ℕ} {f : List ℕ} {r : ℕ} → count ≡ places 19 1 n → Wrote d at (digits count n) f r
    → WroteIfRoom d at (decimal n) f r
unfolding decimal
wrote_decimal n at {d} {count} {f} {r} e p = wrote_roomy (subst (λ k. Wrote d at (digits k n) f r) e p)
