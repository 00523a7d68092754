-- Laws of states: the number, the quoted text, the marks.
use mathlib.Core.Path.{◌≡◌, sym, ap, ◌∙◌, subst}
use mathlib.Core.Bool.{true, false}
use mathlib.Core.List.{List}
use Rattle.std.proofs.Common.{Result, Ok, Err}
use Prim.Native.Nat.{ℕ, ◌+◌, ◌≤◌, ◌<◌}
use native.Mathlib.Omega.{arith}
use borrow.Author.Tests.{lt-ltb, le-ltb}
use Rattle.meaning.specs.BitSet.{has}
use Rattle.automaton.specs.declared.Automaton.{Automaton}
use Rattle.refusals.specs.declared.Refusal.{Refusal}
use Rattle.refusals.specs.declared.Refusal.TheVariants.{Undeclared, Body}
use Rattle.hoa_text.specs.Tokens.{Stream, left}
use Rattle.hoa_text.specs.Grammar.{gives, Parsed, then, onward}
use Rattle.hoa_text.specs.Header.{Header}
use Rattle.hoa_text.specs.Body.{Table, marked, with_state, unquoted, state_marked, state_given, state_item}
use Rattle.hoa_tokens.specs.declared.Token.TheVariants.{Number, Quoted}
use Rattle.hoa_tokens.specs.Answers.{Reads}
use Rattle.hoa_marks.specs.declared.MarksRead.{MarksRead}
use Rattle.hoa_marks.specs.Answers.{MarksAnswer}
use Rattle.hoa_marks.proofs.MarkLaws.{then_refused, then_read}
use Rattle.hoa_body.specs.declared.parts.Part.{Part}
use Rattle.hoa_body.specs.declared.parts.Part.TheVariants.{State}
use Rattle.hoa_body.specs.Answers.{Bounded}
use Rattle.hoa_body.specs.Parts.{BodyTurn, PartMeans}
use Rattle.hoa_body.specs.States.{StateAnswer, StateMarkedAnswer, Unquoted}
use Rattle.hoa_body.proofs.OpenedLaws.{states_are, sets_are}

-- ---- a quoted text

pub behind_quoted : (s : List ℕ) (i o e : ℕ) → Reads s i (Quoted o e) → Unquoted s i (e + 1)
behind_quoted s i o e h = record { is = sym (ap unquoted h.is); from = omega (arith, h.lies.from, h.lies.longer); to = h.lies.to }

-- ---- the marks behind it

abbrev with_marks : Table → ℕ → ℕ → Stream → Parsed Table
with_marks t p m u = gives (with_state t p m, u)

module _ (s : List ℕ) (i m p o : ℕ) (few : m ≤ 4) (x : Unquoted s i o) where
  given : (h : Header) (t : Table) → state_marked h t p (left s i) ≡ then (marked h.sets (left s o)) (with_marks t p)
  given h t = ap (λ u. then (marked h.sets u) (with_marks t p)) (sym x.is)

  pub marks_refused : (r : Refusal) → MarksAnswer s o m (Err r) → StateMarkedAnswer s i m p (Err r)
  marks_refused r y = record { lies = λ b l. tt; means = λ h t k. ap onward (given h t ∙ then_refused s o m h.sets few k (with_marks t p) r y) }

  pub marks_read : (r : MarksRead) → p < 16 → MarksAnswer s o m (Ok r) → StateMarkedAnswer s i m p (Ok (State p r.marks r.end))
  marks_read r l y = record {
    lies = λ b k. (l, record { from = omega (arith, x.from, (y.is few).from); to = (y.is few).to x.to });
    means = λ h t k. ap onward (given h t ∙ then_read s o m h.sets few k (with_marks t p) r y);
  }

-- ---- the number

abbrev state_turn : Parsed Table → BodyTurn
state_turn x = onward x

module _ (s : List ℕ) (i : ℕ) (a : Automaton) (named : ℕ) where
  module _ (o v e : ℕ) (k : Reads s i (Number o v e)) where
    numbered : (h : Header) (t : Table) → state_turn (state_item h t (left s i)) ≡ state_turn (state_given h t o v (left s e))
    numbered h t = ap (λ u. state_turn (state_item h t u)) k.is

    pub state_undeclared : a.states ≤ v → StateAnswer s i a named (Err (Undeclared o))
    state_undeclared l = record {
      lies = tt;
      means = λ h t c m. let n = states_are a h c in numbered h t ∙ rw (le-ltb v h.states (omega arith));
    }

    module _ (hv : v < a.states) (bounded : Bounded a) where
      pub state_twice : has named v ≡ true → StateAnswer s i a named (Err (Body o v))
      state_twice b = record {
        lies = tt;
        means = λ h t c m.
            let n = states_are a h c in
            numbered h t ∙ rw (lt-ltb v h.states (omega arith), sym (m v (omega (arith, bounded.states_le))) ∙ b);
      }

      pub state_first : has named v ≡ false → (r : Result Part Refusal) → StateMarkedAnswer s e a.sets v r → StateAnswer s i a named r
      state_first b r x = record {
        lies = x.lies i (omega (arith, k.lies.from, k.lies.longer));
        means = λ h t c m.
            let n = states_are a h c in
            subst (λ y. PartMeans h t s y r)
            (sym (numbered h t ∙ rw (lt-ltb v h.states (omega arith), sym (m v (omega (arith, bounded.states_le))) ∙ b)))
            (x.means h t (sets_are a h c));
      }
