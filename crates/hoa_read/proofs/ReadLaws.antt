-- Laws of the whole text: its length, its header, its body.
use mathlib.Core.Path.{◌≡◌, refl, sym, ap, ◌∙◌}
use mathlib.Core.List.{List}
use Prim.Native.Nat.{ℕ, ◌≤◌, ◌<◌}
use native.Mathlib.Omega.{arith}
use borrow.Author.Tests.{le-leb, lt-leb}
use lib.ListN.{length}
use Rattle.automaton.specs.declared.Automaton.{Automaton}
use Rattle.refusals.specs.declared.Refusal.{Refusal}
use Rattle.refusals.specs.declared.Refusal.TheVariants.{Size}
use Rattle.hoa_text.specs.Tokens.{tokens, left}
use Rattle.hoa_text.specs.Grammar.{Result, gives, refuses, then}
use Rattle.hoa_text.specs.Header.{Header, header}
use Rattle.hoa_text.specs.Body.{body}
use Rattle.hoa_text.specs.Reading.{ended, reading, read}
use Rattle.hoa_text.specs.HeaderFits.{HeaderFits}
use Rattle.hoa_header.specs.Answers.{Opened}
use Rattle.hoa_header.specs.Fits.{opened_fits}
use Rattle.std.proofs.Common.{Result as Reading, Ok, Err}
use Rattle.hoa_body.specs.declared.BodyRead.{BodyRead}
use Rattle.hoa_body.specs.Answers.{Bounded, Opens, BodyOf}
use Rattle.hoa_read.specs.Missing.{EndedAnswer}
use Rattle.hoa_read.specs.Told.{told, returned, fault}

-- ---- document 01's number and values

pub returned_told : (x : Result Automaton) → returned (told x) ≡ fault x
returned_told (gives a) = refl
returned_told (refuses f) = refl

pub told_number : (x : Result Automaton) (r : Reading Automaton Refusal) → r ≡ told x → returned r ≡ fault x
told_number x r e = ap returned e ∙ returned_told x

-- ---- the body

-- what is read of it, then what is judged of the whole text
module _ (s : List ℕ) (i : ℕ) (a : Automaton) where
  pub body_ended : (x : BodyRead) → BodyOf s i a (Ok x) → (r : Reading Automaton Refusal) → EndedAnswer s x.end a x.table r
      → (h : Header) → Opens a h → r ≡ told (then (body h (left s i)) (ended h))
  body_ended x g r y h o = let z = g h o in y h z.table o z.holds ∙ ap (λ w. told (then w (ended h))) (sym z.is)

  pub body_refused : (f : Refusal) → BodyOf s i a (Err f) → (h : Header) → Opens a h → Err f ≡ told (then (body h (left s i)) (ended h))
  body_refused f x h o = ap (λ w. told (then w (ended h))) (sym (x h o))

-- ---- the text

opened_bounded : (a : Automaton) (h : Header) → HeaderFits h → Opens a h → Bounded a
opened_bounded a h f o = record {
  states_le = omega (arith, ap (λ a. a.states) o, f.states_le);
  propositions_le = omega (arith, ap (λ a. a.propositions) o, f.names_fit.count_le);
  sets_le = omega (arith, ap (λ a. a.sets) o, f.sets_le);
}

module _ (s : List ℕ) where
  pub read_long : 65536 < length s → Err (Size 65536) ≡ told (read s)
  unfolding read
  read_long h = rw (lt-leb (length s) 65536 h)

  module _ (h : length s ≤ 65536) where
    short : reading (tokens s) ≡ read s
    unfolding read
    short = rw (le-leb (length s) 65536 h)

    pub read_refused : (x : Refusal) → header (tokens s) ≡ refuses x → Err x ≡ told (read s)
    read_refused x e = ap told (ap (λ y. then y (λ h u. then (body h u) (ended h))) (sym e) ∙ short)

    module _ (a : Automaton) (e : ℕ) (o : Opened s (header (tokens s)) a e) where
      pub read_bounded : Bounded a
      read_bounded = opened_bounded a o.header (opened_fits s a e o) o.automaton

      pub read_opened : (r : Reading Automaton Refusal) → ((h : Header) → Opens a h → r ≡ told (then (body h (left s e)) (ended h))) → r ≡ told (read s)
      read_opened r k = k o.header o.automaton ∙ ap told (ap (λ y. then y (λ h u. then (body h u) (ended h))) (sym o.is) ∙ short)
