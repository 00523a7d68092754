-- Quoted texts at an offset.
use Rattle.std.specs.Prelude.{◌≡◌, refl, ◌≢◌, Bool, true, false, List, [], ◌∷◌, ◌++◌, ℕ, suc, ◌+◌, ◌≤◌, ◌<◌, eqb, length, get_or, drop}
use Rattle.std.proofs.Common.{sym, ap, ◌∙◌, append_assoc, append-nil, arith, ne_eqb, drop-cons}
use Rattle.std.proofs.Math.Option.{Option, none, some, map}
use Rattle.std.proofs.Math.Seq.{slice, slice_empty, length-slice, drop-length}
use Rattle.hoa_text.specs.Tokens.{quoted, in_quotes, string, piece, stands, broken, left}
use Rattle.hoa_text.specs.Numbers.{slice_more}
use Rattle.hoa_text.specs.Offsets.{inside, piece_at, left_token, left_cut}

-- From i on, behind the opening quote, up to a: no quote ended the text. The byte at a is carried by a backslash, or not.
pub record InQuotes (s : List ℕ) (i a : ℕ) (carried : Bool) : Type 0 where
  pub from : i ≤ a
  pub to : a ≤ length s
  pub is : in_quotes false (drop i s) ≡ map (λ w. slice i a s ++ w) (in_quotes carried (drop a s))

pub quotes_open : (s : List ℕ) (i : ℕ) → i ≤ length s → InQuotes s i i false
quotes_open s i h = record {
  from = omega arith;
  to = h;
  is = sym (ap (λ u. map (λ w. u ++ w) (in_quotes false (drop i s))) (slice_empty i s) ∙ unchanged (in_quotes false (drop i s)));
}
  where
    unchanged : (x : Option (List ℕ)) → map (λ w. w) x ≡ x
    unchanged none = refl
    unchanged (some w) = refl

-- ---- one more byte inside

map_more : (u : List ℕ) (b : ℕ) (x : Option (List ℕ)) → map (λ w. u ++ w) (map (λ w. b ∷ w) x) ≡ map (λ w. (u ++ (b ∷ [])) ++ w) x
map_more u b none = refl
map_more u b (some w) = ap some (sym (append_assoc u (b ∷ []) w))

module _ (s : List ℕ) (i a : ℕ) (l : a < length s) where
  one_more : (carried further : Bool) → InQuotes s i a carried
      → in_quotes carried (drop a s) ≡ map (λ w. get_or s a 0 ∷ w) (in_quotes further (drop (suc a) s)) → InQuotes s i (a + 1) further
  one_more carried further h e =
      let n : suc a ≡ a + 1 = omega arith in
      record {
        from = omega (arith, h.from);
        to = omega arith;
        is =
            h.is ∙ ap (map (λ w. slice i a s ++ w)) e ∙ map_more (slice i a s) (get_or s a 0) (in_quotes further (drop (suc a) s))
            ∙ ap (λ u. map (λ w. u ++ w) (in_quotes further (drop (suc a) s))) (sym (slice_more s i a h.from l))
            ∙ ap (λ k. map (λ w. slice i (a + 1) s ++ w) (in_quotes further (drop k s))) n;
      }

  pub quotes_carried : InQuotes s i a true → InQuotes s i (a + 1) false
  quotes_carried h = one_more true false h (ap (in_quotes true) (drop-cons s a 0 l))

  pub quotes_more : InQuotes s i a false → get_or s a 0 ≢ 34 → InQuotes s i (a + 1) (eqb (get_or s a 0) 92)
  quotes_more h q = one_more false (eqb (get_or s a 0) 92) h (ap (in_quotes false) (drop-cons s a 0 l) ∙ rw (ne_eqb (get_or s a 0) 34 q))

-- ---- the whole

module _ (s : List ℕ) (i : ℕ) (h : get_or s i 0 ≡ 34) where
  begun : i < length s
  begun = inside s i (omega arith)

  strung : piece_at s i ≡ string (in_quotes false (drop (i + 1) s))
  strung = let a : suc i ≡ i + 1 = omega arith in ap (λ b. piece b (drop (suc i) s)) h ∙ ap (λ k. string (in_quotes false (drop k s))) a

  pub left_quoted : (e : ℕ) → InQuotes s (i + 1) e false → get_or s e 0 ≡ 34 → left s i ≡ stands i (quoted (slice (i + 1) e s)) (left s (e + 1))
  left_quoted e g q =
      let w = slice (i + 1) e s in
      let l : e < length s = inside s e (omega arith) in
      let ends : in_quotes false (drop e s) ≡ some [] = ap (in_quotes false) (drop-cons s e 0 l) ∙ rw q in
      let all : in_quotes false (drop (i + 1) s) ≡ some w = g.is ∙ ap (map (λ v. w ++ v)) ends ∙ ap some (append-nil w) in
      left_token s i begun (e + 1) (length w + 1) (quoted w) (strung ∙ ap string all) (omega (arith, g.from, length-slice (i + 1) e s g.to)) (omega arith)

  -- the text's end cuts it off
  pub left_unquoted : (carried : Bool) → InQuotes s (i + 1) (length s) carried → left s i ≡ broken i (length s)
  left_unquoted carried g =
      let w = slice (i + 1) (length s) s in
      let open-end : in_quotes false (drop (i + 1) s) ≡ none = g.is ∙ ap (λ r. map (λ v. w ++ v) (in_quotes carried r)) (drop-length s) in
      left_cut s i begun (strung ∙ ap string open-end)
