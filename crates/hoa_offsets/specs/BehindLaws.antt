-- What the offset behind a sign says of the tokens: the sign w, of the one byte b, stands next from i on, or it does not.
use Rattle.std.specs.Prelude.{◌≡◌, refl, true, false, List, [], ◌∷◌, ℕ, ◌-◌, Some, None}
use Rattle.std.proofs.Common.{ap, ◌∙◌, eq-eqb}
use Prim.Native.String.{String}
use Rattle.automaton.specs.Bytes.{bytes}
use Rattle.hoa_text.specs.Basics.{option, same}
use Rattle.hoa_text.specs.Tokens.{Stream, left}
use Rattle.hoa_text.specs.Grammar.{sign_of, is_sign, next, rest, at}
use Rattle.hoa_offsets.specs.Behind.{is_sign_of, Behind}

module _ (w : String) (b : ℕ) (spelled : bytes w ≡ b ∷ []) (s : List ℕ) (i : ℕ) where
  tested : (u : Stream) → next (is_sign w) u ≡ next (is_sign_of b) u
  tested u = ap (λ v. next (λ t. option (sign_of t) false (same v)) u) spelled

  pub absent : Behind s i b None → next (is_sign w) (left s i) ≡ false
  absent h = tested (left s i) ∙ h

  module _ (e : ℕ) (h : Behind s i b (Some e)) where
    pub present : next (is_sign w) (left s i) ≡ true
    present = tested (left s i) ∙ ap (next (is_sign_of b)) h.is ∙ rw (eq-eqb b b refl)

    pub behind_it : rest (left s i) ≡ left s e
    behind_it = ap rest h.is

    pub its_offset : at (left s i) ≡ e - 1
    its_offset = ap at h.is
