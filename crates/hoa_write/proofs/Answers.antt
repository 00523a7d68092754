-- The writer's answer, case by case, and the text from its parts.
use mathlib.Core.Path.{◌≡◌, refl, sym, ap, ◌∙◌}
use mathlib.Core.Logic.{◌↔◌}
use mathlib.Core.Bool.{Bool, true, false, true≢false}
use mathlib.Core.List.{List, ◌++◌, append_assoc}
use Prim.Native.Nat.{ℕ, ◌+◌, ◌≤◌, ◌<◌}
use native.Mathlib.Omega.{arith}
use lib.ListN.{length, drop, length-append}
use Rattle.std.specs.Prelude.{Ok, Err}
use Rattle.meaning.specs.Counting.{each}
use Rattle.automaton.specs.declared.Automaton.{Automaton}
use Rattle.refusals.specs.declared.Refusal.TheVariants.{Outside, Short}
use Rattle.automaton.specs.Value.{Valid}
use Rattle.decimal.specs.Wrote.{Wrote}
use Rattle.hoa_text.specs.Written.{text, hoa_line, states_line, start_line, names_part, acceptance_line, body_line, state_lines, end_line}
use Rattle.hoa_write.specs.Answer.{hoa_room, Answered}

-- ---- the text

module _ (a : Automaton) where
  abbrev pub sizes_text : List ℕ
  sizes_text = hoa_line ++ (states_line a ++ start_line a)

  abbrev pub names_text : List ℕ
  names_text = names_part a ++ acceptance_line a

  abbrev pub body_text : List ℕ
  body_text = body_line ++ (each a.states (state_lines a) ++ end_line)

  pub text_is : (sizes_text ++ names_text) ++ body_text ≡ text a
  unfolding text
  text_is = parts hoa_line (states_line a) (start_line a) (names_part a) (acceptance_line a) body_text
    where
      parts : (h q s n c b : List ℕ) → ((h ++ (q ++ s)) ++ (n ++ c)) ++ b ≡ h ++ (q ++ (s ++ (n ++ (c ++ b))))
      parts h q s n c b = simp append_assoc

  pub text_length : length (text a) ≡ length sizes_text + length names_text + length body_text
  text_length = ap length (sym text_is) ∙ length-append (sizes_text ++ names_text) body_text ∙ ap (λ n. n + length body_text) (length-append sizes_text names_text)

-- ---- the answer

module _ (a : Automaton) (out : List ℕ) where
  pub short_answer : length out < hoa_room → Answered a out out (Err (Short hoa_room (length out)))
  short_answer h = record { short = λ g. (refl, refl, refl); outside = λ g. absurd (omega arith); written = λ g. absurd (omega arith) }

  module _ (h : hoa_room ≤ length out) where
    pub outside_answer : {r : Bool} → (r ≡ true) ↔ Valid a → r ≡ false → Answered a out out (Err Outside)
    outside_answer {r} e t = record {
      short = λ g. absurd (omega arith);
      outside = λ _ _. (refl, refl, refl);
      written = λ _ v. absurd (true≢false (sym (e.1 v) ∙ t));
    }

    pub text_answer : {after : List ℕ} {n : ℕ} → Valid a → Wrote out 0 (text a) after n → Answered a out after (Ok n)
    text_answer {after} {n} v w =
        let e : n ≡ length (text a) = omega (arith, w.next) in
        record {
          short = λ g. absurd (omega arith);
          outside = λ _ g. absurd (g v);
          written = λ _ _. (ap (λ k. Ok k) e, w.is ∙ ap (λ k. text a ++ drop k out) e, refl);
        }
