-- Numbers, words, item names and ANAMEs at an offset: runs of bytes.
use Rattle.std.specs.Prelude.{◌≡◌, ◌≢◌, ◌⊎◌, Bool, true, false, cond, ◌||◌, List, [], ◌∷◌, ℕ, zero, suc, ◌+◌, ◌-◌, ◌≤◌, ◌<◌, leb, eqb, length, get_or, drop}
use Rattle.std.proofs.Common.{sym, ap, ◌∙◌, subst, inl, inr, arith, ne_eqb, eqb-true, leb-true, le-leb, drop_of_length-le, drop-cons, get_or-drop}
use Rattle.std.proofs.Math.Decide.{dec_lt}
use Rattle.std.proofs.lemmas.Bool.{lt-leb}
use Rattle.std.proofs.Math.Seq.{slice, slice-cons, slice_empty, length-slice}
use Rattle.meaning.specs.TestLaws.{and_left, or_cases}
use Rattle.hoa_text.specs.Tokens.{between, blank, digit, opens_word, in_word, word, item, unread, token, run, numeral, identifier, alias, piece, stands, broken, left}
use Rattle.hoa_text.specs.Offsets.{inside, piece_at, left_token, left_stray}
use Rattle.hoa_text.specs.Numbers.{digit_from}

-- ---- runs

-- the bytes from i up to e are as p says, and that at e is not
pub record Run (p : ℕ → Bool) (s : List ℕ) (i e : ℕ) : Type 0 where
  pub from : i ≤ e
  pub to : e ≤ length s
  pub within : (j : ℕ) → i ≤ j → j < e → p (get_or s j 0) ≡ true
  pub ends : p (get_or s e 0) ≡ false

run_is : {p : ℕ → Bool} {s : List ℕ} {i e : ℕ} → Run p s i e → run p (drop i s) ≡ slice i e s
run_is {p} {s} {i} {e} h = go (e - i) i (omega (arith, h.from)) h.within
  where
    here : (k : ℕ) (b : Bool) → k < length s → p (get_or s k 0) ≡ b → run p (drop k s) ≡ cond b (get_or s k 0 ∷ run p (drop (suc k) s)) []
    here k b l q = ap (run p) (drop-cons s k 0 l) ∙ ap (λ b. cond b (get_or s k 0 ∷ run p (drop (suc k) s)) []) q

    stops : (k : ℕ) → k ≡ e → Dec (k < length s) → run p (drop k s) ≡ slice k e s
    stops k q (yes l) = here k false l (ap (λ m. p (get_or s m 0)) q ∙ h.ends) ∙ sym (slice_empty e s) ∙ ap (λ m. slice m e s) (sym q)
    stops k q (no l) = ap (run p) (drop_of_length-le s {i = k} (omega arith)) ∙ sym (slice_empty e s) ∙ ap (λ m. slice m e s) (sym q)

    go : (n k : ℕ) → e ≡ k + n → ((j : ℕ) → k ≤ j → j < e → p (get_or s j 0) ≡ true) → run p (drop k s) ≡ slice k e s
    go zero k q g = stops k (omega arith) (dec_lt k (length s))
    go (suc n) k q g =
        let l : k < e = omega arith in
        here k true (omega (arith, h.to)) (g k (omega arith) l)
        ∙ ap {B = List ℕ} (λ r. get_or s k 0 ∷ r) (go n (suc k) (omega arith) (λ j a b. g j (omega arith) b)) ∙ sym (slice-cons k e s 0 l h.to)

-- behind the byte at i
module _ {p : ℕ → Bool} (s : List ℕ) (i e : ℕ) (g : Run p s (i + 1) e) where
  tail_is : run p (drop (suc i) s) ≡ slice (suc i) e s
  tail_is = let a : i + 1 ≡ suc i = omega arith in subst (λ k. run p (drop k s) ≡ slice k e s) a (run_is g)

  tail_length : length (slice (suc i) e s) ≡ e - suc i
  tail_length = length-slice (suc i) e s g.to

  all_of_it : get_or s i 0 ∷ slice (suc i) e s ≡ slice i e s
  all_of_it = sym (slice-cons i e s 0 (omega (arith, g.from)) g.to)

  behind_it : get_or (drop (suc i) s) (length (slice (suc i) e s)) 0 ≡ get_or s e 0
  behind_it =
      let n : suc i + (e - suc i) ≡ e = omega (arith, g.from) in
      ap (λ k. get_or (drop (suc i) s) k 0) tail_length ∙ get_or-drop (suc i) s (e - suc i) 0 ∙ ap (λ k. get_or s k 0) n

-- ---- numbers

not_blank : (b : ℕ) → 33 ≤ b → blank b ≡ false
not_blank b h = rw (ne_eqb b 32 (omega arith), ne_eqb b 9 (omega arith), ne_eqb b 10 (omega arith), ne_eqb b 13 (omega arith))

pub digit_blank : (b : ℕ) → digit b ≡ true → blank b ≡ false
digit_blank b h = not_blank b (omega (arith, digit_from b h))

pub left_number : (s : List ℕ) (i e : ℕ) → digit (get_or s i 0) ≡ true → Run digit s (i + 1) e → left s i ≡ stands i (numeral (slice i e s)) (left s e)
left_number s i e h g =
    left_token s i (inside s i (omega (arith, digit_from (get_or s i 0) h))) e (length (slice (suc i) e s)) (numeral (slice i e s))
    (rw (digit_blank (get_or s i 0) h, h, tail_is s i e g) (ap (λ v. token (numeral v) (length (slice (suc i) e s))) (all_of_it s i e g)))
    (omega (arith, g.from, tail_length s i e g)) g.to

-- ---- words and item names

pub word_from : (b : ℕ) → opens_word b ≡ true → 65 ≤ b
word_from b h = go (or_cases (between "A" "Z" b) (between "a" "z" b || eqb b 95) h)
  where
    small : (between "a" "z" b ≡ true) ⊎ (eqb b 95 ≡ true) → 65 ≤ b
    small (inl e) = omega (arith, leb-true 97 b (and_left (leb 97 b) (leb b 122) e))
    small (inr e) = omega (arith, eqb-true b 95 e)

    go : (between "A" "Z" b ≡ true) ⊎ ((between "a" "z" b || eqb b 95) ≡ true) → 65 ≤ b
    go (inl e) = leb-true 65 b (and_left (leb 65 b) (leb b 90) e)
    go (inr e) = small (or_cases (between "a" "z" b) (eqb b 95) e)

word_blank : (b : ℕ) → opens_word b ≡ true → blank b ≡ false
word_blank b h = not_blank b (omega (arith, word_from b h))

word_digit : (b : ℕ) → opens_word b ≡ true → digit b ≡ false
word_digit b h = rw (le-leb 48 b (omega (arith, word_from b h)), lt-leb b 57 (omega (arith, word_from b h)))

module _ (s : List ℕ) (i e : ℕ) (h : opens_word (get_or s i 0) ≡ true) (g : Run in_word s (i + 1) e) where
  starts : i < length s
  starts = inside s i (omega (arith, word_from (get_or s i 0) h))

  spelled : piece_at s i ≡ identifier (get_or s i 0) (slice (suc i) e s) (get_or s e 0)
  spelled =
      rw (word_blank (get_or s i 0) h, word_digit (get_or s i 0) h, h, tail_is s i e g) (ap (identifier (get_or s i 0) (slice (suc i) e s)) (behind_it s i e g))

  pub left_word : get_or s e 0 ≢ 58 → left s i ≡ stands i (word (slice i e s)) (left s e)
  left_word q =
      left_token s i starts e (length (slice (suc i) e s)) (word (slice i e s))
      (spelled ∙ rw (ne_eqb (get_or s e 0) 58 q) (ap (λ w. token (word w) (length (slice (suc i) e s))) (all_of_it s i e g)))
      (omega (arith, g.from, tail_length s i e g)) g.to

  pub left_item : get_or s e 0 ≡ 58 → left s i ≡ stands i (item (slice i e s)) (left s (e + 1))
  left_item q =
      let l : e < length s = inside s e (omega arith) in
      left_token s i starts (e + 1) (length (slice (suc i) e s) + 1) (item (slice i e s))
      (spelled ∙ ap (identifier (get_or s i 0) (slice (suc i) e s)) q ∙ ap (λ w. token (item w) (length (slice (suc i) e s) + 1)) (all_of_it s i e g))
      (omega (arith, g.from, tail_length s i e g)) (omega arith)

-- ---- ANAME

module _ (s : List ℕ) (i e : ℕ) (h : get_or s i 0 ≡ 64) (g : Run in_word s (i + 1) e) where
  called : piece_at s i ≡ alias (slice (suc i) e s)
  called = ap (λ b. piece b (drop (suc i) s)) h ∙ ap alias (tail_is s i e g)

  pub left_alias : i + 1 < e → left s i ≡ stands i unread (left s e)
  left_alias l =
      let w : slice (suc i) e s ≡ get_or s (suc i) 0 ∷ slice (suc (suc i)) e s = slice-cons (suc i) e s 0 (omega arith) g.to in
      left_token s i (inside s i (omega arith)) e (length (slice (suc i) e s)) unread
      (called ∙ ap alias w ∙ ap (λ v. token unread (length v)) (sym w)) (omega (arith, g.from, tail_length s i e g)) g.to

  -- an `@` alone
  pub left_at : e ≡ i + 1 → left s i ≡ broken i i
  left_at q =
      let a : suc i ≡ e = omega arith in
      left_stray s i (inside s i (omega arith)) (called ∙ ap alias (ap (λ k. slice k e s) a ∙ slice_empty e s))
