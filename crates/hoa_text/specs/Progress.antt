-- How many tokens a reader leaves: laws of its parts.
use Rattle.std.specs.Prelude.{◌≡◌, Bool, true, ℕ, suc, ◌≤◌, ◌<◌}
use Rattle.std.proofs.Common.{sym, true≢false, arith}
use Rattle.std.proofs.Math.Option.{Option, none, some}
use Rattle.meaning.specs.TestLaws.{on_cond}
use Rattle.refusals.specs.declared.Refusal.TheVariants.{Form}
use Rattle.hoa_text.specs.Basics.{option}
use Rattle.hoa_text.specs.Tokens.{Token, Stream, stands, over, broken}
use Rattle.hoa_text.specs.Grammar.{next, rest, at, gives, refuses, Parsed, then, due, expect, size, onward}
use Rattle.hoa_text.specs.Repetition.{Every, every_then, every_onward, Fewer}

-- ---- the next token

pub rest_size : (s : Stream) → size (rest s) ≤ size s
rest_size (stands o t s) = omega arith
rest_size (over o) = omega arith
rest_size (broken q o) = omega arith

pub next_size : (p : Token → Bool) (s : Stream) → next p s ≡ true → size (rest s) < size s
next_size p (stands o t s) e = omega arith
next_size p (over o) e = absurd (true≢false (sym e))
next_size p (broken q o) e = absurd (true≢false (sym e))

-- ---- fewer than n tokens are left

abbrev pub Leaves : {A : Type 0} → ℕ → Parsed A → Type 0
Leaves n x = Every (λ y. size y.1 < n) x

pub leaves_more : {A : Type 0} (m n : ℕ) (x : Parsed A) → m ≤ n → Leaves m x → Leaves n x
leaves_more m n (gives y) h g = omega arith
leaves_more m n (refuses r) h g = tt

-- what reads behind the next token
pub rest_leaves : {A : Type 0} (n : ℕ) (s : Stream) (x : Parsed A) → size s ≤ n → Leaves (size (rest s)) x → Leaves n x
rest_leaves n s x h g = leaves_more (size (rest s)) n x (omega (arith, rest_size s)) g

pub most_leaves : {A : Type 0} (s : Stream) (x : Parsed A) → Leaves (size s) x → Leaves (suc (size s)) x
most_leaves s x h = leaves_more (size s) (suc (size s)) x (omega arith) h

pub then_leaves : {A B : Type 0} (n : ℕ) (x : Parsed A) (k : A → Stream → Parsed B)
    → Leaves n x → ((a : A) (s : Stream) → Leaves (suc (size s)) (k a s)) → Leaves n (then x k)
then_leaves n x k h g = every_then (λ a u. size u < n) (λ y. size y.1 < n) x k h (λ a u e. leaves_more (suc (size u)) n (k a u) e (g a u))

pub due_leaves : {A : Type 0} (f : Token → Option A) (s : Stream) → Leaves (size s) (due f s)
due_leaves {A} f (stands o t s) = go (f t)
  where
    go : (x : Option A) → Leaves (suc (size s)) (option x (refuses (Form o)) (λ a. gives (a, s)))
    go none = tt
    go (some a) = omega arith
due_leaves f (over o) = tt
due_leaves f (broken q o) = tt

pub expect_leaves : {A : Type 0} (n : ℕ) (p : Token → Bool) (s : Stream) (k : Stream → Parsed A) → Leaves n (k (rest s)) → Leaves n (expect p s k)
expect_leaves n p s k h = on_cond (Leaves n) (next p s) (k (rest s)) (refuses (Form (at s))) (λ e. h) (λ e. tt)

-- a turn that goes on
pub onward_fewer : {A : Type 0} (B : Type 0) (n : ℕ) (x : Parsed A) → Leaves n x → Every (Fewer n) (onward {B = B} x)
onward_fewer B n x g = every_onward (λ b u. size u < n) (λ y. Unit {0}) x g

-- behind its first token
pub onward_behind : {A : Type 0} (B : Type 0) (s : Stream) (x : Parsed A) → Leaves (size (rest s)) x → Every (Fewer (size s)) (onward {B = B} x)
onward_behind B s x g = onward_fewer B (size s) x (rest_leaves (size s) s x (omega arith) g)
