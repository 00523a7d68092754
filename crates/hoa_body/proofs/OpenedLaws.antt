-- Laws of what the header hands over: its counts.
use mathlib.Core.Path.{◌≡◌, sym, ap, ◌∙◌}
use Prim.Native.Nat.{ℕ, ◌^◌, min}
use lib.ListN.{length}
use Rattle.automaton.specs.declared.Automaton.{Automaton}
use Rattle.bits.specs.Powers.{power_is}
use Rattle.hoa_text.specs.Header.{Header}
use Rattle.hoa_text.specs.Body.{letters}
use Rattle.hoa_body.specs.Answers.{Bounded, Opens}

module _ (a : Automaton) (h : Header) (o : Opens a h) where
  pub states_are : h.states ≡ a.states
  states_are = sym (ap (λ a. a.states) o)

  pub propositions_are : length h.names ≡ a.propositions
  propositions_are = sym (ap (λ a. a.propositions) o)

  pub sets_are : h.sets ≡ a.sets
  sets_are = sym (ap (λ a. a.sets) o)

  pub letters_are : (n : ℕ) → Bounded a → n ≡ 2 ^ min a.propositions 4 → letters h ≡ n
  letters_are n b e = ap (λ k. 2 ^ k) propositions_are ∙ sym (power_is b.propositions_le e)
