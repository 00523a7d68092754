-- Laws of the tokens at an offset.
use mathlib.Core.Path.{◌≡◌, refl, sym, ap, ◌∙◌, subst}
use mathlib.Core.Logic.{◌≢◌, inl, inr, ⊎_elim}
use mathlib.Core.Bool.{Bool, true, false, not, ◌&&◌, ◌||◌, true≢false, false≢true}
use mathlib.Core.List.{List, [], ◌∷◌}
use Prim.Native.Nat.{ℕ, ◌+◌, ◌-◌, ◌*◌, ◌≤◌, ◌<◌, min}
use native.Mathlib.Decide.{dec_lt}
use native.Mathlib.Omega.{arith}
use borrow.Author.Tests.{ne_eqb, eq-eqb, eqb-true}
use lib.Dec.{eqb}
use lib.ListN.{length, get_or, drop, length-drop, get_or-eq_default}
use lib.Seq.{slice, slice_empty}
use Rattle.std.specs.List.{starts_with}
use Rattle.std.specs.Prelude.{nat_eq}
use Rattle.meaning.specs.TestLaws.{and_right, or_cases}
use Rattle.automaton.specs.Bytes.{bytes}
use Rattle.hoa_text.specs.Basics.{is_some, begins}
use Rattle.hoa_text.specs.Tokens.{blank, digit, opens_word, in_word, sign, token, leading_zero, value, piece, left}
use Rattle.hoa_text.specs.Grammar.{number_of, next}
use Rattle.hoa_text.specs.Offsets.{inside, left_over, left_blank}
use Rattle.hoa_text.proofs.Values.{value_next}
use Rattle.hoa_text.specs.Numbers.{leads_zero, one_digit, digit_from}
use Rattle.hoa_text.specs.RunOffsets.{Run, word_from, left_number, left_word, left_item, left_alias, left_at}
use Rattle.hoa_text.specs.QuotedOffsets.{InQuotes, quotes_carried, quotes_more, left_quoted, left_unquoted}
use Rattle.hoa_text.specs.SignOffsets.{left_mark, left_body, left_end, left_abort, left_dash, opens_sign, OpensNone, left_none}
use Rattle.hoa_tokens.specs.declared.Token.{Token}
use Rattle.hoa_tokens.specs.declared.Token.TheVariants.{Word, Item, Number, Quoted, Sign, Body, End, Abort, Unread, Over, Broken}
use Rattle.hoa_tokens.specs.Answers.{Within, Longest, Ends, Spelled, Lies, Reads, NumberHere, Skipped}
use Rattle.hoa_tokens.specs.Kinds.{Digits, Other}

pub past : (s : List ℕ) (i : ℕ) → length s ≤ i → 0 ≡ get_or s i 0
past s i h = sym (get_or-eq_default s 0 h)

-- ---- blanks

pub record Passed (s : List ℕ) (i e : ℕ) : Type 0 where
  pub from : i ≤ e
  pub is : left s i ≡ left s e

pub passed_none : (s : List ℕ) (i : ℕ) → Passed s i i
passed_none s i = record { from = omega arith; is = refl }

pub passed_more : {s : List ℕ} {i e : ℕ} → Passed s i e → e < length s → blank (get_or s e 0) ≡ true → Passed s i (e + 1)
passed_more {s} {i} {e} h l b = record { from = omega (arith, h.from); is = h.is ∙ left_blank s e l b }

pub skipped : {s : List ℕ} {i e : ℕ} → Passed s i e → blank (get_or s e 0) ≡ false → Skipped s i e
skipped h b = record { from = h.from; is = h.is; ends = b }

pub skipped_end : {s : List ℕ} {i e n : ℕ} → Passed s i e → length s ≤ e → e ≡ n → Skipped s i n
skipped_end {s} {i} {e} h l q = subst (Skipped s i) q (skipped h (ap blank (sym (past s e l))))

-- ---- runs

pub record Scanned (p : ℕ → Bool) (s : List ℕ) (i e : ℕ) : Type 0 where
  pub from : i ≤ e
  pub to : e ≤ length s
  pub within : (j : ℕ) → i ≤ j → j < e → p (get_or s j 0) ≡ true

module _ {p : ℕ → Bool} {s : List ℕ} {i : ℕ} where
  pub scanned_none : i ≤ length s → Scanned p s i i
  scanned_none h = record { from = omega arith; to = h; within = λ j a b. absurd (omega arith) }

  pub scanned_more : {e : ℕ} → Scanned p s i e → e < length s → p (get_or s e 0) ≡ true → Scanned p s i (e + 1)
  scanned_more {e} h l q = record { from = omega (arith, h.from); to = omega arith; within = λ j a b. go j a b (dec_lt j e) }
    where
      go : (j : ℕ) → i ≤ j → j < e + 1 → Dec (j < e) → p (get_or s j 0) ≡ true
      go j a b (yes k) = h.within j a k
      go j a b (no k) = let m : e ≡ j = omega arith in subst (λ n. p (get_or s n 0) ≡ true) m q

  pub scanned_run : {e : ℕ} → Scanned p s i e → p (get_or s e 0) ≡ false → Run p s i e
  scanned_run h q = record { from = h.from; to = h.to; within = h.within; ends = q }

  pub scanned_end : {e : ℕ} → Scanned p s i e → length s ≤ e → p 0 ≡ false → Run p s i (length s)
  scanned_end {e} h l q = let m : e ≡ length s = omega (arith, h.to) in subst (Run p s i) m (scanned_run h (ap p (sym (past s e l)) ∙ q))

-- ---- numbers

pub digit_inside : (s : List ℕ) (i : ℕ) → digit (get_or s i 0) ≡ true → i < length s
digit_inside s i h = inside s i (omega (arith, digit_from (get_or s i 0) h))

pub no_digits : (s : List ℕ) (i : ℕ) → 0 ≡ value (slice i i s)
no_digits s i = sym (ap value (slice_empty i s))

pub one_more_digit : (s : List ℕ) (i e v w : ℕ) → i ≤ e → e < length s → v ≡ value (slice i e s) → w ≡ min (v * 10 + (get_or s e 0 - 48)) 255 → w ≡ value (slice i (e + 1) s)
one_more_digit s i e v w h l a b = b ∙ ap (λ n. min (n * 10 + (get_or s e 0 - 48)) 255) a ∙ sym (value_next s i e h l)

module _ (s : List ℕ) (i v e : ℕ) (h : digit (get_or s i 0) ≡ true) (d : Digits s i v e) where
  starts : i < length s
  starts = digit_inside s i h

  pub longer : i < e
  longer = go (dec_lt i e)
    where
      go : Dec (i < e) → i < e
      go (yes l) = l
      go (no l) = let m : e ≡ i = omega (arith, d.run.from) in absurd (true≢false (sym h ∙ subst (λ n. digit (get_or s n 0) ≡ false) m d.run.ends))

  tail : Run digit s (i + 1) e
  tail = record { from = omega (arith, longer); to = d.run.to; within = λ j a b. d.run.within j (omega arith) b; ends = d.run.ends }

  longest : Longest digit s i i e
  longest = record { from = omega arith; longer = longer; to = d.run.to; within = d.run.within; ends = d.run.ends }

  pub zero_leads : get_or s i 0 ≡ 48 → i + 1 < e → Reads s i (Unread i e)
  zero_leads z l =
      record { is = left_number s i e h tail ∙ rw (leads_zero s i e l d.run.to, z); lies = inl longest }

  is_number : leading_zero (slice i e s) ≡ false → Reads s i (Number i v e)
  is_number z = record { is = left_number s i e h tail ∙ rw (z, d.is); lies = longest }

  pub zero_alone : e ≤ i + 1 → Reads s i (Number i v e)
  zero_alone l = let m : i + 1 ≡ e = omega (arith, longer) in is_number (subst (λ n. leading_zero (slice i n s) ≡ false) m (one_digit s i starts))

  pub no_zero : get_or s i 0 ≢ 48 → Reads s i (Number i v e)
  no_zero z = go (dec_lt (i + 1) e)
    where
      go : Dec (i + 1 < e) → Reads s i (Number i v e)
      go (yes l) = is_number (leads_zero s i e l d.run.to ∙ ne_eqb (get_or s i 0) 48 z)
      go (no l) = zero_alone (omega arith)

-- ---- a number right there, or none

module _ (s : List ℕ) (i : ℕ) where
  none_is : (v : ℕ) → ((w f : ℕ) → ¬ Reads s i (Number i w f)) → NumberHere s i v i
  none_is v n = record { is = λ m. absurd (m refl); none = λ e. n }

  pub past_here : (v : ℕ) → length s ≤ i → NumberHere s i v i
  past_here v l = none_is v (λ w f h. omega (arith, h.lies.longer, h.lies.to))

module _ (s : List ℕ) (i v e : ℕ) (d : Digits s i v e) where
  opens_here : e ≢ i → digit (get_or s i 0) ≡ true
  opens_here n = d.run.within i (omega arith) (omega (arith, d.run.from))

  no_digit_here : e ≡ i → (w f : ℕ) → ¬ Reads s i (Number i w f)
  no_digit_here m w f h = true≢false (sym (h.lies.within i (omega arith) h.lies.longer) ∙ subst (λ n. digit (get_or s n 0) ≡ false) m d.run.ends)

  pub led_here : get_or s i 0 ≡ 48 → i + 1 < e → NumberHere s i 0 i
  led_here z l =
      none_is s i 0 (λ w f h. false≢true (ap (next (λ t. is_some (number_of t))) (sym (zero_leads s i v e (opens_here (λ m. absurd (omega arith))) d z l).is ∙ h.is)))

  pub zero_here : e ≤ i + 1 → NumberHere s i v e
  zero_here l = record { is = λ n. zero_alone s i v e (opens_here n) d l; none = no_digit_here }

  pub number_here : get_or s i 0 ≢ 48 → NumberHere s i v e
  number_here z = record { is = λ n. no_zero s i v e (opens_here n) d z; none = no_digit_here }

-- ---- words

module _ (s : List ℕ) (i e : ℕ) (g : Run in_word s (i + 1) e) where
  pub is_item_lem : opens_word (get_or s i 0) ≡ true → get_or s e 0 ≡ 58 → Reads s i (Item i e)
  is_item_lem h q =
      let l : e < length s = inside s e (omega arith) in
      record { is = left_item s i e h g q; lies = record { from = omega arith; longer = omega (arith, g.from); to = omega arith; last = q } }

  pub is_word : opens_word (get_or s i 0) ≡ true → get_or s e 0 ≢ 58 → Reads s i (Word i e)
  is_word h q = record {
    is = left_word s i e h g q;
    lies = record { from = omega arith; longer = omega (arith, g.from); to = g.to; within = λ j a b. go j a b (dec_lt i j); ends = g.ends };
  }
    where
      go : (j : ℕ) → i ≤ j → j < e → Dec (i < j) → in_word (get_or s j 0) ≡ true
      go j a b (yes l) = g.within j (omega arith) b
      go j a b (no l) = let m : i ≡ j = omega arith in subst (λ n. in_word (get_or s n 0) ≡ true) m (rw h)

  pub is_alias : get_or s i 0 ≡ 64 → e ≢ i + 1 → Reads s i (Unread i e)
  is_alias h q =
      record {
        is = left_alias s i e h g (omega (arith, g.from));
        lies = inr (record {
          from = omega arith;
          opens = h;
          name = record { from = omega arith; longer = omega (arith, g.from); to = g.to; within = g.within; ends = g.ends };
        });
      }

  pub at_alone : get_or s i 0 ≡ 64 → e ≡ i + 1 → Reads s i (Broken i i)
  at_alone h q = record { is = left_at s i e h g q; lies = omega arith }

pub word_inside : (s : List ℕ) (i : ℕ) → opens_word (get_or s i 0) ≡ true → i < length s
word_inside s i h = inside s i (omega (arith, word_from (get_or s i 0) h))

-- ---- quoted texts

pub quotes_step : {s : List ℕ} {i a : ℕ} (c d : Bool) → InQuotes s i a c → a < length s → (not c && eqb (get_or s a 0) 34) ≡ false → d ≡ (not c && eqb (get_or s a 0) 92)
    → InQuotes s i (a + 1) d
quotes_step {s} {i} {a} true d h l q e = subst (InQuotes s i (a + 1)) (sym e) (quotes_carried s i a l h)
quotes_step {s} {i} {a} false d h l q e =
    subst (InQuotes s i (a + 1)) (sym e) (quotes_more s i a l h (λ m. true≢false (sym (eq-eqb (get_or s a 0) 34 m) ∙ q)))

pub quotes_close : {s : List ℕ} {i a : ℕ} (c : Bool) → get_or s i 0 ≡ 34 → InQuotes s (i + 1) a c → (not c && eqb (get_or s a 0) 34) ≡ true → Reads s i (Quoted i a)
quotes_close true h g q = absurd (false≢true q)
quotes_close {s} {i} {a} false h g q =
    let z : get_or s a 0 ≡ 34 = eqb-true (get_or s a 0) 34 q in
    let l : a < length s = inside s a (omega arith) in
    record { is = left_quoted s i h a g z; lies = record { from = omega arith; longer = omega (arith, g.from); to = omega arith; last = z } }

pub quotes_cut : {s : List ℕ} {i a : ℕ} (c : Bool) → get_or s i 0 ≡ 34 → InQuotes s (i + 1) a c → length s ≤ a → Reads s i (Broken i (length s))
quotes_cut {s} {i} {a} c h g l =
    let m : a ≡ length s = omega (arith, g.to) in
    record { is = left_unquoted s i h c (subst (λ n. InQuotes s (i + 1) n c) m g); lies = omega arith }

-- ---- the words of the body

pub begins_taken : (w s : List ℕ) → begins w s ≡ starts_with nat_eq s w
begins_taken [] s = refl
begins_taken (a ∷ w) [] = refl
begins_taken (a ∷ w) (b ∷ s) = ap (λ x. eqb a b && x) (begins_taken w s)

begins_length : (w s : List ℕ) → begins w s ≡ true → length w ≤ length s
begins_length [] s h = omega arith
begins_length (a ∷ w) [] h = absurd (true≢false (sym h))
begins_length (a ∷ w) (b ∷ s) h = omega (arith, begins_length w s (and_right (eqb a b) (begins w s) h))

module _ (s : List ℕ) (i : ℕ) (h : get_or s i 0 ≡ 45) where
  room : (w : List ℕ) → begins w (drop i s) ≡ true → i + length w ≤ length s
  room w b = omega (arith, inside s i (omega arith), begins_length w (drop i s) b, length-drop i s)

  pub is_body : begins (bytes "--BODY--") (drop i s) ≡ true → Reads s i (Body i)
  is_body b = record { is = left_body s i b; lies = record { from = omega arith; longer = omega arith; to = room (bytes "--BODY--") b; is = b } }

  pub is_end : begins (bytes "--END--") (drop i s) ≡ true → Reads s i (End i)
  is_end b = record { is = left_end s i b; lies = record { from = omega arith; longer = omega arith; to = room (bytes "--END--") b; is = b } }

  pub is_abort : begins (bytes "--ABORT--") (drop i s) ≡ true → Reads s i (Abort i)
  is_abort b = record { is = left_abort s i b; lies = record { from = omega arith; longer = omega arith; to = room (bytes "--ABORT--") b; is = b } }

  pub is_no_word : begins (bytes "--BODY--") (drop i s) ≡ false → begins (bytes "--END--") (drop i s) ≡ false → begins (bytes "--ABORT--") (drop i s) ≡ false
      → Reads s i (Broken i i)
  is_no_word b e a = record { is = left_dash s i h b e a; lies = omega arith }

-- ---- other bytes

sign_piece : (b : ℕ) (r : List ℕ) → opens_sign b ≡ true → b ≢ 45 → piece b r ≡ token (sign (b ∷ [])) 0
sign_piece b r h n =
    or (eqb 33 b) (sign_at 33 refl) (or (eqb 38 b) (sign_at 38 refl) (or (eqb 124 b) (sign_at 124 refl) (or (eqb 40 b) (sign_at 40 refl)
    (or (eqb 41 b) (sign_at 41 refl) (or (eqb 91 b) (sign_at 91 refl) (or (eqb 93 b) (sign_at 93 refl) (or (eqb 123 b) (sign_at 123 refl)
    (or (eqb 125 b) (sign_at 125 refl) (λ e. absurd (n (sym (eqb-true 45 b e)))))))))))) h
  where
    or : {P : Type 0} (a : Bool) {c : Bool} → (a ≡ true → P) → (c ≡ true → P) → (a || c) ≡ true → P
    or a {c} f g e = ⊎_elim f g (or_cases a c e)

    sign_at : (m : ℕ) → piece m r ≡ token (sign (m ∷ [])) 0 → eqb m b ≡ true → piece b r ≡ token (sign (b ∷ [])) 0
    sign_at m p e = subst (λ x. piece x r ≡ token (sign (x ∷ [])) 0) (eqb-true m b e) p

module _ (s : List ℕ) (i b : ℕ) (o : Other s i b) where
  pub opens_name : opens_word b ≡ true → opens_word (get_or s i 0) ≡ true
  opens_name h = ap opens_word (sym o.is) ∙ h

  pub is_sign_lem : opens_sign b ≡ true → Reads s i (Sign i b)
  is_sign_lem h = record {
    is = left_mark b (λ r. sign_piece b r h o.no_dash) s i o.inside (sym o.is);
    lies = record { from = omega arith; longer = omega arith; to = omega (arith, o.inside) };
  }

  pub is_none : opens_word b ≡ false → opens_sign b ≡ false → Reads s i (Broken i i)
  is_none h g = record {
    is = left_none s i o.inside (subst OpensNone o.is (record {
      no_blank = o.no_blank;
      no_digit = o.no_digit;
      no_word = h;
      no_quote = o.no_quote;
      no_at = o.no_at;
      no_sign = g;
    }));
    lies = omega arith;
  }

-- ---- behind blanks

within_before : {s : List ℕ} {i e o n : ℕ} → i ≤ e → Within s e o n → Within s i o n
within_before h w = record { from = omega (arith, w.from); longer = w.longer; to = w.to }

longest_before : {p : ℕ → Bool} {s : List ℕ} {i e o n : ℕ} → i ≤ e → Longest p s e o n → Longest p s i o n
longest_before h w = record { from = omega (arith, w.from); longer = w.longer; to = w.to; within = w.within; ends = w.ends }

ends_before : {b : ℕ} {s : List ℕ} {i e o n : ℕ} → i ≤ e → Ends b s e o n → Ends b s i o n
ends_before h w = record { from = omega (arith, w.from); longer = w.longer; to = w.to; last = w.last }

spelled_before : {v s : List ℕ} {i e o n : ℕ} → i ≤ e → Spelled v s e o n → Spelled v s i o n
spelled_before h w = record { from = omega (arith, w.from); longer = w.longer; to = w.to; is = w.is }

lies_before : (s : List ℕ) (i e : ℕ) (t : Token) → i ≤ e → Lies s e t → Lies s i t
lies_before s i e (Word o n) h l = longest_before h l
lies_before s i e (Item o n) h l = ends_before h l
lies_before s i e (Number o v n) h l = longest_before h l
lies_before s i e (Quoted o n) h l = ends_before h l
lies_before s i e (Sign o b) h l = within_before h l
lies_before s i e (Body o) h l = spelled_before h l
lies_before s i e (End o) h l = spelled_before h l
lies_before s i e (Abort o) h l = spelled_before h l
lies_before s i e (Unread o n) h (inl l) = inl (longest_before h l)
lies_before s i e (Unread o n) h (inr l) = inr (record { from = omega (arith, l.from); opens = l.opens; name = l.name })
lies_before s i e (Over o) h l = omega arith
lies_before s i e (Broken o r) h l = omega arith

pub reads_before : {s : List ℕ} {i e : ℕ} (t : Token) → Skipped s i e → Reads s e t → Reads s i t
reads_before {s} {i} {e} t h r = record { is = h.is ∙ r.is; lies = lies_before s i e t h.from r.lies }

pub reads_over : {s : List ℕ} {i e : ℕ} → Skipped s i e → length s ≤ e → Reads s i (Over e)
reads_over {s} {i} {e} h l = record { is = h.is ∙ left_over s e l; lies = h.from }
