-- Laws of the body: one part after another, up to `--END--`.
use mathlib.Core.Path.{◌≡◌, refl, ◌∙◌}
use mathlib.Core.List.{List}
use Rattle.std.proofs.Common.{Result}
use Prim.Native.Nat.{ℕ}
use Rattle.automaton.specs.declared.Automaton.{Automaton}
use Rattle.refusals.specs.declared.Refusal.{Refusal}
use Rattle.hoa_text.specs.Grammar.{gives, refuses, again, done, repeat}
use Rattle.hoa_text.specs.Header.{Header}
use Rattle.hoa_text.specs.Body.{Table, no_states, body_read, body}
use Rattle.hoa_text.specs.Repetition.{repeat_again, repeat_done, repeat_refuses}
use Rattle.hoa_text.specs.BodyProgress.{body_shrinks}
use Rattle.hoa_text.specs.Tokens.{left}
use Rattle.hoa_body.specs.declared.BodyRead.{BodyRead}
use Rattle.hoa_body.specs.declared.Table as Code
use Rattle.hoa_body.specs.Answers.{Bounded, Holds, Ends, BodyOf, BodyAnswer}

-- what was read from b up to i is the table u, and the rest of the body follows
pub record Turned (h : Header) (s : List ℕ) (b : ℕ) (u : Code.Table) (i : ℕ) : Type 0 where
  pub table : Table
  pub holds : Holds h table u
  pub is : body h (left s b) ≡ repeat (body_read h) table (left s i)

pub not_turned : (h : Header) (s : List ℕ) (b : ℕ) (u : Code.Table) → Holds h no_states u → Turned h s b u b
not_turned h s b u g = record { table = no_states; holds = g; is = refl }

module _ (h : Header) (s : List ℕ) (b : ℕ) (u : Code.Table) (i : ℕ) (x : Turned h s b u i) where
  pub turned : (t : Table) (v : Code.Table) (e : ℕ) → body_read h x.table (left s i) ≡ gives (again t (left s e)) → Holds h t v → Turned h s b v e
  turned t v e y g = record { table = t; holds = g; is = x.is ∙ repeat_again (body_read h) (body_shrinks h) x.table (left s i) y }

  pub turned_ended : (e : ℕ) → body_read h x.table (left s i) ≡ gives (done (x.table, left s e)) → Ends h s (body h (left s b)) u e
  turned_ended e y = record { table = x.table; is = x.is ∙ repeat_done (body_read h) (body_shrinks h) x.table (left s i) y; holds = x.holds }

  pub turned_refused : (r : Refusal) → body_read h x.table (left s i) ≡ refuses r → body h (left s b) ≡ refuses r
  turned_refused r y = x.is ∙ repeat_refuses (body_read h) (body_shrinks h) x.table (left s i) y

-- ---- the counts

pub body_read_lem : (s : List ℕ) (i : ℕ) (a : Automaton) → Bounded a → (r : Result BodyRead Refusal) → BodyOf s i a r → BodyAnswer s i a r
body_read_lem s i a b r x = record { is = λ b. x; outside = λ n. absurd (n b) }
