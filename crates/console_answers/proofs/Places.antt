-- The place of a refusal's offset in the text, from the place at which the last piece begins.
use mathlib.Core.Path.{◌≡◌, refl, sym, ap, ◌∙◌}
use mathlib.Core.Logic.{inl, inr}
use mathlib.Core.Bool.{cond}
use mathlib.Core.List.{List, [], ◌++◌, append-nil}
use Prim.Native.Nat.{ℕ, ◌-◌, ◌≤◌, ◌<◌}
use native.Mathlib.Decide.{ℕ_discrete}
use native.Mathlib.Omega.{arith}
use borrow.Author.Tests.{le-ltb}
use lib.ListN.{length, take, drop, take-append-drop, length-drop}
use lib.Seq.{length-take-le, take-take, take-length, take-nil, take-append-le}
use Rattle.std.specs.Prelude.{Option, Some, None}
use Rattle.console_places.specs.declared.Place.{Place}
use Rattle.console_places.specs.Places.{first, after, place_of, back, within}
use Rattle.console_places.specs.PlaceLaws.{place_counts, after_append, within_piece, within_line}
use Rattle.console_answers.proofs.Offsets.{From}

same_byte : (x y : Option ℕ) → Dec (x ≡ y)
same_byte None None = yes refl
same_byte None (Some b) = no (λ e. cc)
same_byte (Some a) None = no (λ e. cc)
same_byte (Some a) (Some b) = go (ℕ_discrete a b)
  where
    go : Dec (a ≡ b) → Dec (Some a ≡ Some b)
    go (yes e) = yes (ap (λ n. Some n) e)
    go (no n) = no (λ e. n cc)

-- two places are the same, unless they are not
pub place_stable : (p q : Place) → ¬ ¬ (p ≡ q) → p ≡ q
place_stable p q h =
    go (ℕ_discrete p.offset q.offset) (ℕ_discrete p.line q.line) (ℕ_discrete p.column q.column) (same_byte p.byte q.byte)
  where
    go : Dec (p.offset ≡ q.offset) → Dec (p.line ≡ q.line) → Dec (p.column ≡ q.column) → Dec (p.byte ≡ q.byte) → p ≡ q
    go (yes o) (yes l) (yes c) (yes b) = λ i. record { offset = o i; line = l i; column = c i; byte = b i }
    go (no o) l c b = absurd (h (λ e. o (ap (λ x. x.offset) e)))
    go (yes o) (no l) c b = absurd (h (λ e. l (ap (λ x. x.line) e)))
    go (yes o) (yes l) (no c) b = absurd (h (λ e. c (ap (λ x. x.column) e)))
    go (yes o) (yes l) (yes c) (no b) = absurd (h (λ e. b (ap (λ x. x.byte) e)))

-- the filled part of a buffer is not empty
pub piece_some : (n room : ℕ) (xs u : List ℕ) → u ≡ take n xs → n ≤ room → room ≡ length xs → ¬ (n ≡ 0) → (0 < length u) × (length u ≤ room)
piece_some n room xs u e h l k = let t = length-take-le n xs (omega (arith, h, l)) in (omega (arith, ap length e, t), omega (arith, ap length e, t, h))

-- behind a text
pub place_end : (t : List ℕ) → place_of t (length t) ≡ after first t
place_end t = ap (after first) (take-length t)

pub place_more : (t u : List ℕ) → place_of (t ++ u) (length (t ++ u)) ≡ after (after first t) u
place_more t u = place_end (t ++ u) ∙ after_append first t u

-- the piece u comes behind the text t, and the offset lies in it or on the line on which it begins
pub from_within : (t u : List ℕ) (o : ℕ) → length t ≤ 4294967295 → From t o → within (after first t) u o ≡ place_of (t ++ u) o
from_within t u o h (inl g) = within_piece t u o (omega arith) g
from_within t u o h (inr (g, f)) =
    let e : take o t ++ drop o t ≡ t = take-append-drop o t in
    let k : length (take o t) ≡ o = length-take-le o t (omega arith) in
    let l : within (after first (take o t ++ drop o t)) u (length (take o t)) ≡ after first (take o t) =
    within_line (take o t) (drop o t) u f (omega (arith, length-drop o t)) (omega (arith, length-drop o t, k)) in
    sym (λ i. within (after first (e i)) u (k i)) ∙ l ∙ ap (after first) (sym (take-append-le o t u (omega arith)))

-- nothing comes behind the text t
pub from_end : (t : List ℕ) (o : ℕ) → length t ≤ 4294967295 → From t o → within (after first t) [] o ≡ place_of t o
from_end t o h f = from_within t [] o h f ∙ ap (λ x. place_of x o) (append-nil t)

-- the place of an offset, once more
pub within_again : (t : List ℕ) (o : ℕ) → o ≤ length t → o ≤ 4294967295 → within (place_of t o) [] o ≡ place_of t o
within_again t o h g =
    let k : length (take o t) ≡ o = length-take-le o t h in
    let same : take o (take o t) ≡ take o t = take-take o o t (omega arith) in
    let counts = ap (λ p. p.offset) (place_counts (take o t) o (omega (arith, k))) in
    let e : (place_of t o).offset ≡ o = ap (λ x. (after first x).offset) (sym same) ∙ counts ∙ ap length same ∙ k in
    ap (λ b. cond b (back (place_of t o) o) (after (place_of t o) (take (o - (place_of t o).offset) []))) (le-ltb o (place_of t o).offset (omega (arith, e)))
    ∙ ap (after (place_of t o)) (take-nil (o - (place_of t o).offset))
