-- The rest of a buffer, the buffer after the rest was written, and what is told of the calls that fill it.
use mathlib.Core.Path.{◌≡◌, sym, subst}
use mathlib.Core.List.{List, ◌++◌}
use Prim.Native.Nat.{ℕ, ◌+◌, ◌-◌, ◌≤◌, ◌<◌}
use native.Mathlib.Omega.{arith}
use lib.ListN.{length, take, drop, length-append, length-take, length-drop}
use Rattle.std.specs.Prelude.{Option, Some, None, Result, Ok, Err}
use Rattle.console_read.specs.Counts.{ReadOnce, InputRead}
use Rattle.console_read.specs.Reading.{read_fails, read_ends, read_more}

module _ (xs : List ℕ) (a : ℕ) (h : a ≤ length xs) where
  pub rest_length : length (take (length xs - a) (drop a xs)) ≡ length xs - a
  rest_length = simp (length-take, length-drop) (omega arith)

  pub same_length : (p : List ℕ) → length p ≡ length (take (length xs - a) (drop a xs)) → length (take a xs ++ (p ++ drop (length xs - a) (drop a xs))) ≡ length xs
  same_length p e = simp (length-append, length-take, length-drop) (omega (arith, e, rest_length))

-- whatever is told of the calls from `filled` on is told of all
abbrev pub Begun : ℕ → ℕ → Type 0
Begun size filled = (r : Result ℕ ℕ) → InputRead size filled r → InputRead size 0 r

module _ (xs : List ℕ) (a : ℕ) (h : a < length xs) (p : List ℕ) (e : length p ≡ length (take (length xs - a) (drop a xs)))
    (b : Begun (length xs) a) where
  abbrev after : List ℕ
  after = take a xs ++ (p ++ drop (length xs - a) (drop a xs))

  abbrev rest : List ℕ
  rest = take (length xs - a) (drop a xs)

  kept : length after ≡ length xs
  kept = same_length xs a (omega arith) p e

  once : {g : Option ℕ} → ReadOnce (length rest) g → ReadOnce (length xs - a) g
  once {g} o = subst (λ n. ReadOnce n g) (rest_length xs a (omega arith)) o

  pub breaks : ReadOnce (length rest) None → InputRead (length after) 0 (Err a)
  breaks o = subst (λ n. InputRead n 0 (Err a)) (sym kept) (b _ (read_fails h (once o)))

  pub stops : {k : ℕ} → ReadOnce (length rest) (Some k) → k ≡ 0 → InputRead (length after) 0 (Ok a)
  stops o q = subst (λ n. InputRead n 0 (Ok a)) (sym kept) (b _ (read_ends h (subst (λ k. ReadOnce (length xs - a) (Some k)) q (once o))))

  pub goes_on : {k : ℕ} → ReadOnce (length rest) (Some k) → ¬ (k ≡ 0) → Begun (length after) (a + k)
  goes_on {k} o q = subst (λ n. Begun n (a + k)) (sym kept) (λ r i. b r (read_more h (once o) q i))
