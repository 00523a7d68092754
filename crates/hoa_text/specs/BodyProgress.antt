-- The body: each state and each edge takes a token.
use Rattle.std.specs.Prelude.{◌≡◌, Bool, cond, ◌||◌, ℕ, suc, ◌≤◌, ◌^◌, leb, ltb, eqb, length}
use Rattle.std.proofs.Math.Option.{Option, none, some}
use Rattle.std.proofs.Common.{arith}
use Rattle.std.specs.Int.Bits.{bit_or}
use Rattle.meaning.specs.TestLaws.{on_cond}
use Rattle.refusals.specs.declared.Refusal.{Refusal}
use Rattle.refusals.specs.declared.Refusal.TheVariants.{Form, Undeclared}
use Rattle.hoa_text.specs.Basics.{option, is_some}
use Rattle.hoa_text.specs.Tokens.{Stream, stands, over, broken}
use Rattle.hoa_text.specs.Grammar.{number_of, quoted_of, is_item, is_sign, next, rest, at, gives, refuses, Parsed, due, onward, turn, size, repeat}
use Rattle.hoa_text.specs.Formulas.{Formula, holds, label}
use Rattle.hoa_text.specs.Header.{Header}
use Rattle.hoa_text.specs.Body.{Current, Table, letters, marks, marked, with_state, unquoted, state_marked, state_given, state_item, with_edge, second_edge, marks_given, destination_given, unlabelled, label_given, edge, with_label, without_label, labelled_edge, listed_edge, body_read}
use Rattle.hoa_text.specs.Repetition.{Every, Fewer, Shrinks, repeat_turn}
use Rattle.hoa_text.specs.Progress.{rest_size, Leaves, leaves_more, rest_leaves, most_leaves, then_leaves, due_leaves, expect_leaves, onward_fewer, onward_behind}
use Rattle.hoa_text.specs.FormulaProgress.{label_leaves}

-- ---- marks

marks_leaves : (n m : ℕ) (s : Stream) → Leaves (size s) (marks n m s)
marks_leaves n m (stands o t s) = go (number_of t) (λ i. marks_leaves n (bit_or m (2 ^ i)) s)
  where
    more : ℕ → Parsed ℕ
    more i = cond (ltb i n) (marks n (bit_or m (2 ^ i)) s) (refuses (Undeclared o))

    go : (x : Option ℕ) → ((i : ℕ) → Leaves (size s) (marks n (bit_or m (2 ^ i)) s))
        → Leaves (suc (size s)) (option x (cond (is_sign "}" t) (gives (m, s)) (refuses (Form o))) more)
    go none h = on_cond (Leaves (suc (size s))) (is_sign "}" t) _ _ (λ e. omega arith) (λ e. tt)
    go (some i) h = on_cond (Leaves (suc (size s))) (ltb i n) _ _ (λ e. most_leaves s (marks n (bit_or m (2 ^ i)) s) (h i)) (λ e. tt)
marks_leaves n m (over o) = tt
marks_leaves n m (broken q o) = tt

marked_leaves : (n : ℕ) (s : Stream) → Leaves (suc (size s)) (marked n s)
marked_leaves n s =
    on_cond (Leaves (suc (size s))) (next (is_sign "{") s) _ _
    (λ e. rest_leaves (suc (size s)) s (marks n 0 (rest s)) (omega arith) (marks_leaves n 0 (rest s))) (λ e. omega arith)

-- ---- a state

unquoted_size : (s : Stream) → size (unquoted s) ≤ size s
unquoted_size s = on_cond (λ u. size u ≤ size s) (next (λ t. is_some (quoted_of t)) s) (rest s) s (λ e. rest_size s) (λ e. omega arith)

state_marked_leaves : (h : Header) (t : Table) (p : ℕ) (s : Stream) → Leaves (suc (size s)) (state_marked h t p s)
state_marked_leaves h t p s =
    leaves_more (suc (size (unquoted s))) (suc (size s)) (state_marked h t p s) (omega (arith, unquoted_size s))
    (then_leaves (suc (size (unquoted s))) (marked h.sets (unquoted s)) (λ m u. gives (with_state t p m, u))
    (marked_leaves h.sets (unquoted s)) (λ m u. omega arith))

state_item_leaves : (h : Header) (t : Table) (s : Stream) → Leaves (size s) (state_item h t s)
state_item_leaves h t s = then_leaves (size s) (due number_of s) (state_given h t (at s)) (due_leaves number_of s) given
  where
    given : (p : ℕ) (u : Stream) → Leaves (suc (size u)) (state_given h t (at s) p u)
    given p u =
        on_cond (Leaves (suc (size u))) (ltb p h.states) _ _
        (λ e. on_cond (Leaves (suc (size u))) (t.named p) _ _ (λ e. tt) (λ e. state_marked_leaves h t p u)) (λ e. tt)

-- ---- an edge

module _ (h : Header) (t : Table) where
  module _ (c : Current) (f : ℕ → Bool) where
    marks_given_leaves : (d m : ℕ) (s : Stream) → Leaves (suc (size s)) (marks_given h t c f d m s)
    marks_given_leaves d m s = go (second_edge h t c.state f)
      where
        go : (x : Option Refusal) → Leaves (suc (size s)) (option x (gives (with_edge h t c f d m, s)) refuses)
        go none = omega arith
        go (some r) = tt

    destination_given_leaves : (o d : ℕ) (s : Stream) → Leaves (suc (size s)) (destination_given h t c f o d s)
    destination_given_leaves o d s =
        on_cond (Leaves (suc (size s))) (ltb d h.states) _ _
        (λ e. then_leaves (suc (size s)) (marked h.sets s) (marks_given h t c f d) (marked_leaves h.sets s) (marks_given_leaves d)) (λ e. tt)

    unlabelled_leaves : (s : Stream) → Leaves (size s) (unlabelled h t c f s)
    unlabelled_leaves s =
        then_leaves (size s) (due number_of s) (destination_given h t c f (at s)) (due_leaves number_of s) (destination_given_leaves (at s))

  label_given_leaves : (c : Current) (f : Formula) (s : Stream) → Leaves (suc (size s)) (label_given h t c f s)
  label_given_leaves c f s =
      expect_leaves (suc (size s)) (is_sign "]") s (unlabelled h t c (holds f))
      (rest_leaves (suc (size s)) s (unlabelled h t c (holds f) (rest s)) (omega arith) (unlabelled_leaves c (holds f) (rest s)))

  edge_leaves : (c : Current) (s : Stream) → Leaves (size s) (edge h t c s)
  edge_leaves c s = then_leaves (size s) (label (length h.names) s) (label_given h t c) (label_leaves (length h.names) s) (label_given_leaves c)

  labelled_edge_leaves : (c : Current) (s : Stream) → Leaves (size s) (labelled_edge h t s c)
  labelled_edge_leaves c s =
      on_cond (Leaves (size s)) (eqb c.listed 0) _ _
      (λ e. rest_leaves (size s) s (edge h t (with_label c) (rest s)) (omega arith) (edge_leaves (with_label c) (rest s))) (λ e. tt)

  listed_edge_leaves : (c : Current) (s : Stream) → Leaves (size s) (listed_edge h t s c)
  listed_edge_leaves c s =
      on_cond (Leaves (size s)) (c.labelled || leb (letters h) c.listed) _ _
      (λ e. tt) (λ e. unlabelled_leaves (without_label c) (λ l. eqb l c.listed) s)

-- ---- no bound is met

pub body_shrinks : (h : Header) → Shrinks (body_read h)
unfolding body_read
body_shrinks h t s =
    on_cond (Every (Fewer (size s))) (next (is_item "State") s) _ _
    (λ e. onward_behind (Table × Stream) s (state_item h t (rest s)) (state_item_leaves h t (rest s)))
    (λ e. on_cond (Every (Fewer (size s))) (next (is_sign "[") s) _ _ (λ e. edged t.current (labelled_edge h t s) (λ c. labelled_edge_leaves h t c s))
    (λ e. on_cond (Every (Fewer (size s))) (next (λ x. is_some (number_of x)) s) _ _ (λ e. edged t.current (listed_edge h t s) (λ c. listed_edge_leaves h t c s))
    (λ e. on_cond (Every (Fewer (size s))) (next (is_sign "--END--") s) _ _ (λ e. tt) (λ e. tt))))
  where
    edged : (x : Option Current) (f : Current → Parsed Table) → ((c : Current) → Leaves (size s) (f c))
        → Every (Fewer (size s)) (onward {B = Table × Stream} (option x (refuses (Form (at s))) f))
    edged none f g = tt
    edged (some c) f g = onward_fewer (Table × Stream) (size s) (f c) (g c)

pub body_turn : (h : Header) (t : Table) (s : Stream) → repeat (body_read h) t s ≡ turn (body_read h t s) (repeat (body_read h))
body_turn h t s = repeat_turn (body_read h) (body_shrinks h) t s
