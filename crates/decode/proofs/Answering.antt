-- The decoder's answer, by what the reader says at the end of the text.
use Rattle.std.specs.Prelude.{Result, Ok, Err}
use mathlib.Core.Path.{◌≡◌, refl, sym, ap, ◌∙◌, subst}
use mathlib.Core.List.{List}
use Prim.Native.Nat.{ℕ, ◌≤◌}
use native.Mathlib.Omega.{arith}
use lib.ListN.{length}
use Rattle.automaton.specs.declared.Automaton.{Automaton}
use Rattle.refusals.specs.declared.Refusal.{Refusal}
use Rattle.refusals.specs.declared.Refusal.TheVariants.{Outside, Dimensions}
use Rattle.automaton.specs.Value.{Valid}
use Rattle.clause_sizes.specs.declared.Target.{Target}
use Rattle.clause_sizes.specs.Targets.{Proper}
use Rattle.compare.specs.Compared.{prefix_room, loop_room}
use Rattle.solver_text.specs.declared.Reader.{Reader}
use Rattle.solver_text.specs.declared.Reply.{Reply}
use Rattle.solver_text.specs.Calls.{Called}
use Rattle.decode.specs.declared.Decoded.{Decoded}
use Rattle.decode.specs.Answers.{returned, whole, Untouched, ByVerdict, Decodes}

-- what an answer returns is told by the answer
pub untouched : {p l : List ℕ} {x y : Result Decoded Refusal} → x ≡ y → Untouched p p l l x y (returned y)
untouched e = (e, refl, refl, ap returned e)

-- ---- the call

clash : {P : Type 0} {u : Unit {0}} (f : Refusal) → ◌≡◌ {A = Result (Unit {0}) Refusal} (Ok u) (Err f) → P
clash f e = let z : ◌≡◌ {A = ℕ} 0 1 = cc in absurd (omega arith)

module _ (a : Automaton) (τ : Target) (r : Reader) (p l : List ℕ) where
  module _ (hp : prefix_room ≤ length p) where
    module _ (hl : loop_room ≤ length l) {y : Reply} (c : Called a τ r (whole a τ r) y) where
      -- the reader turns something down
      pub refused_answer : {x : Result Decoded Refusal} (f : Refusal) → y.answer ≡ Err f → x ≡ Err f → Decodes p p l l x a τ r
      refused_answer {x} f h e = record {
        short_prefix = λ g. absurd (omega arith);
        short_loop = λ _ g. absurd (omega arith);
        automaton = λ _ _ k. untouched (same Outside (c.automaton k));
        state = λ _ _ k. untouched (same Outside (c.state k));
        dimensions = λ _ _ v s k. untouched (same (Dimensions τ.states τ.sets) (c.sizes v s k));
        acceptance = λ _ _ v s d k. untouched (same Outside (c.acceptance v s d k));
        text = λ d g k. untouched (turned g (sym h ∙ ap (λ z. z.answer) (c.text d.valid d.in_range d.sizes) ∙ k));
        accepted = λ d k. clash f (sym k ∙ sym (ap (λ z. z.answer) (c.text d.valid d.in_range d.sizes)) ∙ h);
      }
        where
          turned : (g : Refusal) → ◌≡◌ {A = Result (Unit {0}) Refusal} (Err f) (Err g) → x ≡ Err g
          turned g k = let d : f ≡ g = cc in e ∙ ap (λ z. Err z) d

          same : (g : Refusal) → y ≡ record { answer = Err g; reader = r } → x ≡ Err g
          same g k = turned g (sym h ∙ ap (λ z. z.answer) k)

      -- or not
      pub accepted_answer : {p' l' : List ℕ} {x : Result Decoded Refusal} {u : Unit {0}} → y.answer ≡ Ok u → (Valid a → Proper τ → ByVerdict p p' l l' x a τ y.reader)
          → Decodes p p' l l' x a τ r
      accepted_answer {p'} {l'} {x} {u} h t = record {
        short_prefix = λ g. absurd (omega arith);
        short_loop = λ _ g. absurd (omega arith);
        automaton = λ _ _ k. clash Outside (sym h ∙ ap (λ z. z.answer) (c.automaton k));
        state = λ _ _ k. clash Outside (sym h ∙ ap (λ z. z.answer) (c.state k));
        dimensions = λ _ _ v s k. clash (Dimensions τ.states τ.sets) (sym h ∙ ap (λ z. z.answer) (c.sizes v s k));
        acceptance = λ _ _ v s d k. clash Outside (sym h ∙ ap (λ z. z.answer) (c.acceptance v s d k));
        text = λ d g k. clash g (sym h ∙ ap (λ z. z.answer) (c.text d.valid d.in_range d.sizes) ∙ k);
        accepted = λ d k. subst (λ z. ByVerdict p p' l l' x a τ z.reader) (c.text d.valid d.in_range d.sizes) (t d.valid d.sizes);
      }
