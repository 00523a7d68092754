-- The operators of a formula: each turn takes a token.
use Rattle.std.specs.Prelude.{◌≡◌, ◌&&◌, ◌||◌, ℕ, zero, suc, ◌≤◌, ◌<◌, ltb}
use Prim.Native.String.{String}
use Rattle.std.proofs.Common.{arith}
use Rattle.meaning.specs.TestLaws.{on_cond}
use Rattle.hoa_text.specs.Tokens.{Stream}
use Rattle.hoa_text.specs.Grammar.{number_of, is_word, is_sign, next, rest, at, gives, Parsed, then, due, Turn, again, turn, size, repeat}
use Rattle.hoa_text.specs.Formulas.{Formula, Atoms, propositions, sets, conjunction, disjunction, number_given, declared, parsed_set, named, atom, operation, operands, conjunctions, disjunctions, negated, closed, negates, unary, deepest, label, acceptance_formula}
use Rattle.hoa_text.specs.Repetition.{Every, every_then, Both, every_both, every_repeat, Shrinks, repeat_turn}
use Rattle.hoa_text.specs.Progress.{rest_size, next_size, Leaves, rest_leaves, then_leaves, due_leaves, expect_leaves}

number_leaves : (n o i : ℕ) (s : Stream) → Leaves (suc (size s)) (number_given n o i s)
number_leaves n o i s = on_cond (Leaves (suc (size s))) (ltb i n) _ _ (λ e. omega arith) (λ e. tt)

declared_leaves : (n : ℕ) (s : Stream) → Leaves (size s) (declared n s)
declared_leaves n s = then_leaves (size s) (due number_of s) (number_given n (at s)) (due_leaves number_of s) (number_leaves n (at s))

closed_leaves : (f : Formula) (s : Stream) → Leaves (suc (size s)) (closed f s)
closed_leaves f s = expect_leaves (suc (size s)) (is_sign ")") s (λ u. gives (f, u)) (omega (arith, rest_size s))

-- what reads behind the next token, and then as k does
behind_leaves : (s : Stream) (x : Parsed Formula) (k : Formula → Stream → Parsed Formula)
    → Leaves (size (rest s)) x → ((f : Formula) (u : Stream) → Leaves (suc (size u)) (k f u)) → Leaves (size s) (then x k)
behind_leaves s x k h g = then_leaves (size s) x k (rest_leaves (size s) s x (omega arith) h) g

negated_leaves : (f : Formula) (s : Stream) → Leaves (suc (size s)) (negated f s)
negated_leaves f s = omega arith

set_leaves : (m : ℕ) (s : Stream) → Leaves (size s) (parsed_set m s)
set_leaves m s =
    expect_leaves (size s) (is_sign "(") s (λ u. then (declared m u) closed)
    (behind_leaves s (declared m (rest s)) closed (declared_leaves m (rest s)) closed_leaves)

named_leaves : (a : Atoms) (s : Stream) → Leaves (size s) (named a s)
named_leaves (propositions k) s = declared_leaves k s
named_leaves (sets m) s =
    on_cond (Leaves (size s)) (next (is_word "Inf") s) _ _ (λ e. rest_leaves (size s) s (parsed_set m (rest s)) (omega arith) (set_leaves m (rest s)))
    (λ e. on_cond (Leaves (size s)) (next (is_word "Fin") s) _ _ (λ e. behind_leaves s (parsed_set m (rest s)) negated (set_leaves m (rest s)) negated_leaves) (λ e. tt))

atom_leaves : (a : Atoms) (s : Stream) → Leaves (size s) (atom a s)
atom_leaves a s =
    on_cond (Leaves (size s)) (next (is_word "t") s) _ _ (next_size (is_word "t") s)
    (λ e. on_cond (Leaves (size s)) (next (is_word "f") s) _ _ (next_size (is_word "f") s) (λ e. named_leaves a s))

-- a reader that takes a token
abbrev Takes : (Stream → Parsed Formula) → Type 0
Takes operand = (s : Stream) → Leaves (size s) (operand s)

-- a turn leaves fewer than n tokens, and the last one no more than n
abbrev Within : ℕ → Turn Formula (Formula × Stream) → Type 0
Within n x = Both (λ f u. size u < n) (λ y. size y.1 ≤ n) x

module _ (w : String) (join : Formula → Formula → Formula) (operand : Stream → Parsed Formula) (h : Takes operand) where
  operation_within : (n : ℕ) (f : Formula) (s : Stream) → size s ≤ n → Every (Within n) (operation w join operand f s)
  operation_within n f s hn =
      on_cond (Every (Within n)) (next (is_sign w) s) _ _
      (λ e. every_then (λ g u. size u < size (rest s)) (Within n) (operand (rest s)) (λ g u. gives (again (join f g) u)) (h (rest s))
      (λ g u l. omega (arith, rest_size s)))
      (λ e. hn)

  operation_shrinks : Shrinks (operation w join operand)
  operation_shrinks f s =
      every_both (λ g u. size u < size s) (λ g u. size u < size s) (λ y. size y.1 ≤ size s) (λ y. Unit {0}) (operation w join operand f s)
      (λ g u l. l) (λ y l. tt) (operation_within (size s) f s (omega arith))

  operands_take : Takes (operands w join operand)
  operands_take s = then_leaves (size s) (operand s) (repeat (operation w join operand)) (h s) further
    where
      step : (n : ℕ) (g : Formula) (v : Stream) → size v ≤ n → Every (Both (λ f u. size u ≤ n) (λ y. size y.1 < suc n)) (operation w join operand g v)
      step n g v l =
          every_both (λ f u. size u < n) (λ f u. size u ≤ n) (λ y. size y.1 ≤ n) (λ y. size y.1 < suc n) (operation w join operand g v)
          (λ f u l. omega arith) (λ y l. omega arith) (operation_within n g v l)

      further : (f : Formula) (u : Stream) → Leaves (suc (size u)) (repeat (operation w join operand) f u)
      further f u = every_repeat (operation w join operand) (λ g v. size v ≤ size u) (λ y. size y.1 < suc (size u)) (step (size u)) f u (omega arith)

conjunctions_take : (operand : Stream → Parsed Formula) → Takes operand → Takes (conjunctions operand)
conjunctions_take operand h s = operands_take "&" conjunction operand h s

disjunctions_take : (operand : Stream → Parsed Formula) → Takes operand → Takes (disjunctions operand)
disjunctions_take operand h s = operands_take "|" disjunction (conjunctions operand) (conjunctions_take operand h) s

unary_takes : (d : ℕ) (a : Atoms) → Takes (unary d a)
unary_takes zero a s = on_cond (Leaves (size s)) ((negates a && next (is_sign "!") s) || next (is_sign "(") s) _ _ (λ e. tt) (λ e. atom_leaves a s)
unary_takes (suc d) a s =
    on_cond (Leaves (size s)) (negates a && next (is_sign "!") s) _ _ (λ e. behind_leaves s (unary d a (rest s)) negated (unary_takes d a (rest s)) negated_leaves)
    (λ e. on_cond (Leaves (size s)) (next (is_sign "(") s) _ _
    (λ e. behind_leaves s (disjunctions (unary d a) (rest s)) closed (disjunctions_take (unary d a) (unary_takes d a) (rest s)) closed_leaves)
    (λ e. atom_leaves a s))

-- a whole formula
formula_leaves : (a : Atoms) (s : Stream) → Leaves (size s) (disjunctions (unary deepest a) s)
formula_leaves a s = disjunctions_take (unary deepest a) (unary_takes deepest a) s

pub label_leaves : (k : ℕ) (s : Stream) → Leaves (size s) (label k s)
label_leaves k s = formula_leaves (propositions k) s

pub acceptance_leaves : (m : ℕ) (s : Stream) → Leaves (size s) (acceptance_formula m s)
acceptance_leaves m s = formula_leaves (sets m) s

-- ---- no bound is met

pub and_shrinks : (d : ℕ) (a : Atoms) → Shrinks (operation "&" conjunction (unary d a))
and_shrinks d a = operation_shrinks "&" conjunction (unary d a) (unary_takes d a)

pub and_turn : (d : ℕ) (a : Atoms) (f : Formula) (s : Stream)
    → repeat (operation "&" conjunction (unary d a)) f s ≡ turn (operation "&" conjunction (unary d a) f s) (repeat (operation "&" conjunction (unary d a)))
and_turn d a f s = repeat_turn (operation "&" conjunction (unary d a)) (and_shrinks d a) f s

pub or_shrinks : (d : ℕ) (a : Atoms) → Shrinks (operation "|" disjunction (conjunctions (unary d a)))
or_shrinks d a = operation_shrinks "|" disjunction (conjunctions (unary d a)) (conjunctions_take (unary d a) (unary_takes d a))

pub or_turn : (d : ℕ) (a : Atoms) (f : Formula) (s : Stream)
    → repeat (operation "|" disjunction (conjunctions (unary d a))) f s
    ≡ turn (operation "|" disjunction (conjunctions (unary d a)) f s) (repeat (operation "|" disjunction (conjunctions (unary d a))))
or_turn d a f s = repeat_turn (operation "|" disjunction (conjunctions (unary d a))) (or_shrinks d a) f s
