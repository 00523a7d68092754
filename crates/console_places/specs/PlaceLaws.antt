-- Laws of places: lines and columns by counting line feeds, and a text that comes in pieces.
use Rattle.std.specs.Prelude.{◌≡◌, refl, Bool, true, false, cond, List, [], ◌∷◌, ◌++◌, ℕ, ◌+◌, ◌-◌, ◌^◌, ◌≤◌, ◌<◌, ltb, eqb, length, take, None}
use Rattle.std.proofs.Common.{sym, ap, ◌∙◌, arith, lt-ltb, le-ltb, length-take, length-append}
use Rattle.std.proofs.Math.Seq.{take-append-add}
use Rattle.console_places.specs.declared.Place.{Place}
use Rattle.console_places.specs.Places.{first, more, next, after, place_of, back, within}

-- how many line feeds there are
abbrev pub feeds : List ℕ → ℕ
feeds [] = 0
feeds (b ∷ s) = cond (eqb b 10) 1 0 + feeds s

-- bytes behind the last line feed; k stand before the text
abbrev pub since : ℕ → List ℕ → ℕ
since k [] = k
since k (b ∷ s) = since (cond (eqb b 10) 0 (k + 1)) s

abbrev pub place : ℕ → ℕ → ℕ → Place
place o l c = record { offset = o; line = l; column = c; byte = None }

-- as long as the numbers have 64 bits: so many bytes, so many line feeds, and so many bytes behind the last of them
after_counts : (o l k : ℕ) (s : List ℕ) → o + length s < 2 ^ 64 → l + length s < 2 ^ 64 → k + 1 + length s < 2 ^ 64
    → after (place o l (k + 1)) s ≡ place (o + length s) (l + feeds s) (since k s + 1)
after_counts o l k [] h g f =
    let p : o ≡ o + 0 = omega arith in
    let q : l ≡ l + 0 = omega arith in
    λ i. place (p i) (q i) (k + 1)
after_counts o l k (b ∷ s) h g f = go (eqb b 10) (λ o l k. after_counts o l k s)
  where
    go : (t : Bool)
        → ((o l k : ℕ) → o + length s < 2 ^ 64 → l + length s < 2 ^ 64 → k + 1 + length s < 2 ^ 64
        → after (place o l (k + 1)) s ≡ place (o + length s) (l + feeds s) (since k s + 1))
        → after (cond t (place (more o) (more l) 1) (place (more o) l (more (k + 1)))) s
        ≡ place (o + length (b ∷ s)) (l + (cond t 1 0 + feeds s)) (since (cond t 0 (k + 1)) s + 1)
    go true counts =
        let x : more o ≡ o + 1 = omega arith in
        let y : more l ≡ l + 1 = omega arith in
        let p : o + 1 + length s ≡ o + length (b ∷ s) = omega arith in
        let q : l + 1 + feeds s ≡ l + (1 + feeds s) = omega arith in
        (λ i. after (place (x i) (y i) 1) s) ∙ counts (o + 1) (l + 1) 0 (omega arith) (omega arith) (omega arith)
        ∙ (λ i. place (p i) (q i) (since 0 s + 1))
    go false counts =
        let x : more o ≡ o + 1 = omega arith in
        let y : more (k + 1) ≡ k + 1 + 1 = omega arith in
        let p : o + 1 + length s ≡ o + length (b ∷ s) = omega arith in
        let q : l + feeds s ≡ l + (0 + feeds s) = omega arith in
        (λ i. after (place (x i) l (y i)) s) ∙ counts (o + 1) l (k + 1) (omega arith) (omega arith) (omega arith)
        ∙ (λ i. place (p i) (q i) (since (k + 1) s + 1))

-- the line is 1 and the line feeds before the offset, the column 1 and the bytes since the last of them
pub place_counts : (s : List ℕ) (o : ℕ) → length s + 2 ≤ 2 ^ 64
    → place_of s o ≡ place (length (take o s)) (1 + feeds (take o s)) (since 0 (take o s) + 1)
place_counts s o g =
    let e : 0 + length (take o s) ≡ length (take o s) = omega arith in
    after_counts 0 1 0 (take o s) (omega (arith, length-take o s)) (omega (arith, length-take o s)) (omega (arith, length-take o s))
    ∙ (λ i. place (e i) (1 + feeds (take o s)) (since 0 (take o s) + 1))

-- ---- pieces

pub after_append : (p : Place) (s t : List ℕ) → after p (s ++ t) ≡ after (after p s) t
after_append p [] t = refl
after_append p (b ∷ s) t = after_append (next p b) s t

take_past : (t s : List ℕ) (o : ℕ) → length t ≤ o → take o (t ++ s) ≡ t ++ take (o - length t) s
take_past t s o h =
    let e : o ≡ length t + (o - length t) = omega arith in
    ap (λ n. take n (t ++ s)) e ∙ take-append-add t s (o - length t)

-- the offset behind a text is its length
after_offset : (t : List ℕ) → length t + 2 ≤ 2 ^ 64 → (after first t).offset ≡ length t
after_offset t h =
    let e : 0 + length t ≡ length t = omega arith in
    ap (λ p. p.offset) (after_counts 0 1 0 t (omega arith) (omega arith) (omega arith)) ∙ e

-- the piece s comes behind the text t: an offset in the piece
pub within_piece : (t s : List ℕ) (o : ℕ) → length t + 2 ≤ 2 ^ 64 → length t ≤ o → within (after first t) s o ≡ place_of (t ++ s) o
within_piece t s o h g =
    let e = after_offset t h in
    let f : ltb o (after first t).offset ≡ false = le-ltb o (after first t).offset (omega (arith, e)) in
    ap (λ b. cond b (back (after first t) o) (after (after first t) (take (o - (after first t).offset) s))) f
    ∙ ap (λ n. after (after first t) (take (o - n) s)) e
    ∙ sym (ap (after first) (take_past t s o g) ∙ after_append first t (take (o - length t) s))

pub feeds_append : (s t : List ℕ) → feeds (s ++ t) ≡ feeds s + feeds t
feeds_append [] t = omega arith
feeds_append (b ∷ s) t = omega (arith, feeds_append s t)

since_append : (k : ℕ) (s t : List ℕ) → since k (s ++ t) ≡ since (since k s) t
since_append k [] t = refl
since_append k (b ∷ s) t = since_append (cond (eqb b 10) 0 (k + 1)) s t

since_line : (k : ℕ) (s : List ℕ) → feeds s ≡ 0 → since k s ≡ k + length s
since_line k [] h = omega arith
since_line k (b ∷ s) h = go (eqb b 10) h (λ k. since_line k s)
  where
    go : (t : Bool) → cond t 1 0 + feeds s ≡ 0 → ((k : ℕ) → feeds s ≡ 0 → since k s ≡ k + length s) → since (cond t 0 (k + 1)) s ≡ k + length (b ∷ s)
    go true e line = absurd (omega arith)
    go false e line = omega (arith, line (k + 1) (omega arith))

-- an offset before the piece, with no line feed from there to the piece
pub within_line : (t u s : List ℕ) → feeds u ≡ 0 → 0 < length u → length t + length u + 2 ≤ 2 ^ 64 → within (after first (t ++ u)) s (length t) ≡ after first t
within_line t u s e k h =
    let n = length-append t u in
    let p = after_counts 0 1 0 (t ++ u) (omega (arith, n)) (omega (arith, n)) (omega (arith, n)) in
    let q = after_counts 0 1 0 t (omega arith) (omega arith) (omega arith) in
    let o : (after first (t ++ u)).offset ≡ length t + length u = omega (arith, ap (λ p. p.offset) p, n) in
    let x : length t ≡ 0 + length t = omega arith in
    let y : (after first (t ++ u)).line ≡ 1 + feeds t = omega (arith, ap (λ p. p.line) p, feeds_append t u) in
    let z : (after first (t ++ u)).column - ((after first (t ++ u)).offset - length t) ≡ since 0 t + 1 =
    omega (arith, o, ap (λ p. p.column) p, since_append 0 t u, since_line (since 0 t) u e) in
    ap (λ b. cond b (back (after first (t ++ u)) (length t)) (after (after first (t ++ u)) (take (length t - (after first (t ++ u)).offset) s)))
    (lt-ltb (length t) (after first (t ++ u)).offset (omega (arith, o)))
    ∙ (λ i. place (x i) (y i) (z i)) ∙ sym q
