-- The first word that shows a difference keeps the documents' bounds, and they fit the buffers.
use Rattle.std.specs.Prelude.{◌≡◌, List, ℕ, suc, ◌+◌, ◌*◌, ◌≤◌, ◌<◌, length}
use Rattle.std.proofs.Common.{le_trans, mul-le-mul_left, mul-le-mul_right, arith}
use Rattle.meaning.specs.FirstWord.{FirstWord, Precedes}
use Rattle.meaning.specs.Decision.{Difference, ShowsWithin}
use Rattle.meaning.proofs.Decided.{shows_any}
use Rattle.meaning.proofs.FirstWordLaws.{first_difference, first_word_short, first_of_short}
use Rattle.automaton.specs.declared.Automaton.{Automaton}
use Rattle.automaton.specs.Value.{Valid}
use Rattle.automaton.specs.View.{view}
use Rattle.automaton.specs.ViewLaws.{view_comparable}
use Rattle.compare.specs.Compared.{prefix_room, loop_room}

module _ {a b : Automaton} (va : Valid a) (vb : Valid b) (same : a.propositions ≡ b.propositions) where
  abbrev N : ℕ
  N = a.states * b.states

  abbrev M : ℕ
  M = suc (a.sets + b.sets) * N

  N-le : N ≤ prefix_room
  N-le = le_trans (mul-le-mul_left a.states vb.states_le) (mul-le-mul_right 16 va.states_le)

  M-le : M ≤ loop_room
  M-le =
      let m : suc (a.sets + b.sets) ≤ 9 = omega (arith, va.sets_le, vb.sets_le) in
      let room : 9 * 256 ≤ loop_room = omega arith in
      le_trans (mul-le-mul_left (suc (a.sets + b.sets)) N-le) (le_trans (mul-le-mul_right 256 m) room)

  within : ShowsWithin (view a) (view b) M
  within = shows_any (view_comparable va vb same)

  -- "With N the product of the two state counts, prefix ≤ N - 1 ..", and "The loop bound becomes (the sum of both set counts + 1)N"
  pub word_bounds : {x y : List ℕ} → FirstWord (view a) (view b) x y
      → (length x < a.states * b.states) × (length y ≤ suc (a.sets + b.sets) * (a.states * b.states))
  word_bounds = first_word_short (view_comparable va vb same) M within

  pub word_fits : {x y : List ℕ} → FirstWord (view a) (view b) x y → (length x < prefix_room) × (length y ≤ loop_room)
  word_fits F = let (hx, hy) = word_bounds F in (le_trans hx N-le, le_trans hy M-le)

  -- so the first of the differences that fit the buffers is the first of all
  pub first_fitting : (p l : ℕ) → prefix_room ≤ p → loop_room ≤ l → (x y : List ℕ) → Difference (view a) (view b) x y
      → ((u v : List ℕ) → Difference (view a) (view b) u v → length u ≤ p → length v ≤ l → Precedes x y u v) → FirstWord (view a) (view b) x y
  first_fitting p l hp hl x y d first =
      let C = view_comparable va vb same in
      first_difference C x y d (first_of_short C M within p l (omega (arith, N-le)) (le_trans M-le hl) x y first)
