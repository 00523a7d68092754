-- A pattern filled byte by byte.
use mathlib.Core.Path.{◌≡◌, refl, sym, ap, ◌∙◌, subst}
use mathlib.Core.Bool.{Bool, true, false, cond, ◌||◌}
use mathlib.Core.List.{List, [], ◌∷◌, ◌++◌, append_assoc, append-nil}
use Prim.Native.Char.{code}
use Prim.Native.Nat.{ℕ, ◌+◌, ◌≤◌, ◌<◌}
use native.Mathlib.Omega.{arith}
use lib.Dec.{eqb}
use native.Mathlib.Numerals.{add-one}
use lib.ListN.{length, get_or, take, drop}
use lib.Seq.{take-suc, take_all, drop-cons}
use Rattle.refusals.specs.declared.Code.{Code}
use Rattle.decimal.specs.Decimal.{decimal}
use Rattle.decimal.specs.Digits.{decimal_at_most_20}
use Rattle.decimal.specs.Wrote.{Wrote, WroteIfRoom}
use Rattle.decimal.specs.Writing.{wrote_none, wrote_then, wrote_length}
use Rattle.console_places.specs.declared.Place.{Place}
use Rattle.console_sentences.specs.Sentences.{shown, filled}
use Rattle.console_sentences.specs.Patterns.{cost, most}

module _ (c : Code) (p : Place) where
  pub shown_at_most : (b : ℕ) → length (shown c p b) ≤ cost b
  shown_at_most b = go (eqb b (code "@")) (eqb b (code "~")) (eqb b (code "#")) (eqb b (code "$"))
    where
      go : (w x y z : Bool)
          → length (cond w (decimal p.line) (cond x (decimal p.column) (cond y (decimal c.first) (cond z (decimal c.second) (b ∷ [])))))
          ≤ cond (w || (x || (y || z))) 20 1
      go true x y z = decimal_at_most_20 p.line
      go false true y z = decimal_at_most_20 p.column
      go false false true z = decimal_at_most_20 c.first
      go false false false true = decimal_at_most_20 c.second
      go false false false false = omega arith

  filled_append : (u v : List ℕ) → filled c p (u ++ v) ≡ filled c p u ++ filled c p v
  filled_append [] v = refl
  filled_append (b ∷ u) v = ap (λ w. shown c p b ++ w) (filled_append u v) ∙ sym (append_assoc (shown c p b) (filled c p u) (filled c p v))

  module _ (s d : List ℕ) where
    -- d is the buffer before, e is it now; the first i bytes are filled
    pub record Going (i : ℕ) (e : List ℕ) (at : ℕ) : Type 0 where
      pub wrote : Wrote d 0 (filled c p (take i s)) e at
      pub room : at + most (drop i s) ≤ length d

    pub going_first : most s ≤ length d → Going 0 d 0
    going_first h = record { wrote = wrote_none d 0 (omega arith); room = omega arith }

    pub going_on : (i : ℕ) {e f : List ℕ} {at r : ℕ} → Going i e at → i < length s → WroteIfRoom e at (shown c p (get_or s i 0)) f r → Going (i + 1) f r
    going_on i {e} {f} {at} {r} g h w =
        let b = get_or s i 0 in
        let here : drop i s ≡ b ∷ drop (i + 1) s = rw (add-one, drop-cons s i 0 h) in
        let room : at + length (shown c p b) + most (drop (i + 1) s) ≤ length d = omega (arith, g.room, ap most here, shown_at_most b) in
        let written : Wrote e at (shown c p b) f r = w.roomy (omega (arith, room, wrote_length g.wrote)) in
        let more : take (i + 1) s ≡ take i s ++ (b ∷ []) = rw (add-one, take-suc s i 0 h) in
        record {
          wrote =
              subst (λ l. Wrote d 0 l f r)
              (ap (λ l. filled c p (take i s) ++ l) (sym (append-nil (shown c p b))) ∙ sym (filled_append (take i s) (b ∷ [])) ∙ ap (filled c p) (sym more))
              (wrote_then g.wrote written);
          room = omega (arith, written.next, room);
        }

    pub all_filled : (i : ℕ) {e : List ℕ} {at : ℕ} → Going i e at → length s ≤ i → Wrote d 0 (filled c p s) e at
    all_filled i {e} {at} g h = subst (λ l. Wrote d 0 (filled c p l) e at) (take_all i s h) g.wrote
