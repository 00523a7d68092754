-- The header: each item takes a token.
use Rattle.std.specs.Prelude.{◌≡◌, true, false, ◌&&◌, List, [], ◌∷◌, ◌++◌, ℕ, zero, suc, ◌≤◌, ◌<◌, ltb, leb, length}
use Rattle.std.proofs.Math.Option.{Option, none, some}
use Rattle.std.proofs.Common.{arith}
use Rattle.meaning.specs.TestLaws.{on_cond}
use Rattle.automaton.specs.Value.{printable}
use Rattle.hoa_text.specs.Basics.{option}
use Rattle.hoa_text.specs.Tokens.{Stream, stands, over, broken}
use Rattle.hoa_text.specs.Grammar.{number_of, quoted_of, item_of, is_item, is_sign, next, rest, at, Result, Parsed, due, onward, Turn, turn, size, repeat}
use Rattle.hoa_text.specs.Header.{Items, Header, all_bytes, among, once, states_given, states_item, start_given, start_item, name_given, naming, names_read, names_given, names_item, sets_read, sets_given, sets_item, plain, skipped, small, opening, opened, item_read}
use Rattle.hoa_text.specs.Formulas.{acceptance_formula}
use Rattle.hoa_text.specs.Repetition.{Every, every_after, Fewer, Shrinks, repeat_turn}
use Rattle.hoa_text.specs.Progress.{next_size, Leaves, most_leaves, then_leaves, due_leaves, onward_behind}
use Rattle.hoa_text.specs.FormulaProgress.{acceptance_leaves}

-- ---- the items

states_item_leaves : (h : Items) (s : Stream) → Leaves (size s) (states_item h s)
states_item_leaves h s =
    then_leaves (size s) (due number_of s) (states_given h (at s)) (due_leaves number_of s)
    (λ n u. on_cond (Leaves (suc (size u))) (ltb 0 n && leb n 16) _ _ (λ e. omega arith) (λ e. tt))

start_item_leaves : (h : Items) (s : Stream) → Leaves (size s) (start_item h s)
start_item_leaves h s = then_leaves (size s) (due number_of s) (start_given h (at s)) (due_leaves number_of s) (λ q u. omega arith)

name_leaves : {A : Type 0} (n : ℕ) (ws : List (List ℕ)) (o : ℕ) (w : List ℕ) (x : Parsed A) → Leaves n x → Leaves n (name_given ws o w x)
name_leaves n ws o w x h =
    on_cond (Leaves n) (all_bytes printable w) _ _
    (λ e. on_cond (Leaves n) (ltb 0 (length w) && leb (length w) 16) _ _ (λ e. on_cond (Leaves n) (among w ws) _ _ (λ e. tt) (λ e. h)) (λ e. tt)) (λ e. tt)

naming_leaves : (n : ℕ) (ws : List (List ℕ)) (s : Stream) → Leaves (suc (size s)) (naming n ws s)
naming_leaves zero ws s = omega arith
naming_leaves (suc n) ws s =
    then_leaves (suc (size s)) (due quoted_of s) (λ w u. name_given ws (at s) w (naming n (ws ++ (w ∷ [])) u)) (most_leaves s (due quoted_of s) (due_leaves quoted_of s))
    (λ w u. name_leaves (suc (size u)) ws (at s) w (naming n (ws ++ (w ∷ [])) u) (naming_leaves n (ws ++ (w ∷ [])) u))

names_item_leaves : (h : Items) (s : Stream) → Leaves (size s) (names_item h s)
names_item_leaves h s =
    then_leaves (size s) (due number_of s) (names_given h (at s)) (due_leaves number_of s)
    (λ k u. on_cond (Leaves (suc (size u))) (leb k 4) _ _
    (λ e. then_leaves (suc (size u)) (naming k [] u) (names_read h) (naming_leaves k [] u) (λ ws v. omega arith)) (λ e. tt))

sets_item_leaves : (h : Items) (s : Stream) → Leaves (size s) (sets_item h s)
sets_item_leaves h s =
    then_leaves (size s) (due number_of s) (sets_given h (at s)) (due_leaves number_of s)
    (λ m u. on_cond (Leaves (suc (size u))) (leb m 4) _ _
    (λ e. then_leaves (suc (size u)) (acceptance_formula m u) (sets_read h m) (most_leaves u (acceptance_formula m u) (acceptance_leaves m u)) (λ f v. omega arith)) (λ e. tt))

skipped_size : (s : Stream) → size (skipped s) ≤ size s
skipped_size (stands o t s) =
    on_cond (λ u. size u ≤ suc (size s)) (plain t) (skipped s) (stands o t s) (λ e. omega (arith, skipped_size s)) (λ e. omega arith)
skipped_size (over o) = omega arith
skipped_size (broken q o) = omega arith

-- ---- no bound is met

item_fewer : {A : Type 0} (x : Option A) (read : Stream → Parsed Items) → ((u : Stream) → Leaves (size u) (read u))
    → (s : Stream) → Every (Fewer (size s)) (onward {B = Header × Stream} (once x (at s) (read (rest s))))
item_fewer none read g s = onward_behind (Header × Stream) s (read (rest s)) (g (rest s))
item_fewer (some a) read g s = tt

other_fewer : (s : Stream) → next (λ t. option (item_of t) false small) s ≡ true → size (skipped (rest s)) < size s
other_fewer s e = omega (arith, next_size (λ t. option (item_of t) false small) s e, skipped_size (rest s))

pub item_shrinks : Shrinks item_read
unfolding item_read
item_shrinks h s =
    let P : Result (Turn Items (Header × Stream)) → Type 0 = Every (Fewer (size s)) in
    on_cond P (next (is_item "States") s) _ _ (λ e. item_fewer h.states (states_item h) (states_item_leaves h) s)
    (λ e. on_cond P (next (is_item "Start") s) _ _ (λ e. item_fewer h.start (start_item h) (start_item_leaves h) s)
    (λ e. on_cond P (next (is_item "AP") s) _ _ (λ e. item_fewer h.names (names_item h) (names_item_leaves h) s)
    (λ e. on_cond P (next (is_item "Acceptance") s) _ _ (λ e. item_fewer h.accepting (sets_item h) (sets_item_leaves h) s)
    (λ e. on_cond P (next (λ t. option (item_of t) false small) s) _ _ (other_fewer s)
    (λ e. on_cond P (next (is_sign "--BODY--") s) _ _ (λ e. every_after (Fewer (size s)) (opening h (at s) (rest s)) opened (λ g u. tt)) (λ e. tt))))))

pub items_turn : (h : Items) (s : Stream) → repeat item_read h s ≡ turn (item_read h s) (repeat item_read)
items_turn h s = repeat_turn item_read item_shrinks h s
