-- The offset that a reader carries counts the bytes of a text that is not refused. A refusal's offset lies in the last piece, or before it on the line on which
-- the piece begins.
use mathlib.Core.Path.{◌≡◌, refl, sym, ap, ◌∙◌, subst}
use mathlib.Core.Logic.{◌⊎◌, inl, inr}
use mathlib.Core.Bool.{Bool, true, false, true≢false, false≢true}
use mathlib.Core.List.{List, [], ◌∷◌, ◌++◌, append-nil, append_assoc}
use Prim.Native.Nat.{ℕ, ◌+◌, ◌≤◌, ◌<◌}
use native.Mathlib.Decide.{dec_lt}
use native.Mathlib.Omega.{arith}
use borrow.Author.Tests.{leb-true, eqb-false, ne_eqb}
use lib.Dec.{ltb, leb, eqb}
use lib.ListN.{length, drop, length-append}
use lib.Seq.{drop-append_seam, drop-append-le}
use Rattle.meaning.specs.TestLaws.{and_left}
use Rattle.console_places.specs.PlaceLaws.{feeds, feeds_append}
use Rattle.solver_text.specs.declared.Reader.{Reader}
use Rattle.solver_scan.specs.declared.Scan.{Scan}
use Rattle.solver_scan.specs.declared.Place.{Place}
use Rattle.solver_scan.specs.declared.Place.TheVariants.{Start, Comment, AfterS, BeforeWord, Word, AfterWord, AfterToken, BeforeToken, AfterMinus, Digits, Ended, BadForm, BadLiteral}
use Rattle.solver_scan.specs.SolverText.{blank, digit, digit19, word, unstated, satisfiable, literal_of}
use Rattle.solver_scan.specs.Scanning.{bad, at_start, in_comment, afterS, before_word, spelt, follows, turns, next_letter, word_done, in_word, after_word, after_token, first_byte, token_byte, before_token, past_minus, in_digits, place_step, refused_at, at_limit, scan_byte, judge, judge_word, scan_end_at}
use Rattle.solver_literals.specs.Giving.{fits}
use Rattle.solver_text.specs.Machine.{unfitting, ending, in_literal, ends_literal, landed, step, run, end_at, end, fresh}
use Rattle.solver_scan.specs.Cases.{by, either, either_way}
use Rattle.solver_agreement.specs.Staying.{refused_byte, refused_run}

-- ---- lines

-- the offset o lies in the text t, on its last line
abbrev pub OnLine : List ℕ → ℕ → Type 0
OnLine t o = (o < length t) × (feeds (drop o t) ≡ 0)

-- the offset of a refusal that no byte of t alone brings
abbrev pub From : List ℕ → ℕ → Type 0
From t o = (length t ≤ o) ⊎ OnLine t o

module _ (t : List ℕ) (b : ℕ) where
  length_more : length (t ++ (b ∷ [])) ≡ length t + 1
  length_more = length-append t (b ∷ [])

  line_begins : eqb b 10 ≡ false → OnLine (t ++ (b ∷ [])) (length t)
  line_begins e = (omega (arith, length_more), ap feeds (drop-append_seam t (b ∷ [])) ∙ rw e)

  line_goes_on : (o : ℕ) → eqb b 10 ≡ false → OnLine t o → OnLine (t ++ (b ∷ [])) o
  line_goes_on o e (h, f) =
      let g : feeds (b ∷ []) ≡ 0 = rw e in
      (omega (arith, length_more), omega (arith, ap feeds (drop-append-le o t (b ∷ []) (omega arith)), feeds_append (drop o t) (b ∷ []), f, g))

  from_less : (o : ℕ) → From (t ++ (b ∷ [])) o → From t o
  from_less o (inl h) = inl (omega (arith, length_more))
  from_less o (inr (h, f)) = go (dec_lt o (length t))
    where
      go : Dec (o < length t) → From t o
      go (yes l) = inr (l, omega (arith, ap feeds (drop-append-le o t (b ∷ []) (omega arith)), feeds_append (drop o t) (b ∷ []), f))
      go (no l) = inl (omega arith)

-- ---- what a reader's offset says of the text t that was read

-- a literal is being read
unfoldable pub literal : Place → Bool
literal Start = false
literal Comment = false
literal AfterS = false
literal BeforeWord = false
literal Word = false
literal AfterWord = false
literal AfterToken = false
literal BeforeToken = false
literal AfterMinus = true
literal Digits = true
literal Ended = false
literal BadForm = false
literal BadLiteral = false

unrefused : (p : Place) → literal p ≡ true → refused_at p ≡ false
unfolding literal refused_at
unrefused Start e = refl
unrefused Comment e = refl
unrefused AfterS e = refl
unrefused BeforeWord e = refl
unrefused Word e = refl
unrefused AfterWord e = refl
unrefused AfterToken e = refl
unrefused BeforeToken e = refl
unrefused AfterMinus e = refl
unrefused Digits e = refl
unrefused Ended e = refl
unrefused BadForm e = absurd (false≢true e)
unrefused BadLiteral e = absurd (false≢true e)

pub record Counted (t : List ℕ) (s : Scan) : Type 0 where
  pub limit : s.at ≤ 4294967295
  pub inside : s.at ≤ length t
  pub all : refused_at s.place ≡ false → s.at ≡ length t
  pub line : literal s.place ≡ true → OnLine t s.from

pub fresh_counted : Counted [] fresh.scan
unfolding literal
fresh_counted = record { limit = omega arith; inside = omega arith; all = λ e. refl; line = λ e. absurd (false≢true e) }

-- ---- one byte behind t

record Next (t : List ℕ) (b : ℕ) (x : Scan) : Type 0 where
  counted : Counted (t ++ (b ∷ [])) x
  from : refused_at x.place ≡ true → From t x.at

digit_no_feed : (b : ℕ) → digit19 b ≡ true → eqb b 10 ≡ false
unfolding digit19
digit_no_feed b e = ne_eqb b 10 (λ k. absurd (omega (arith, k, leb-true 49 b (and_left (leb 49 b) (leb b 57) e))))

module _ (t : List ℕ) (s : Scan) (b : ℕ) (h : Counted t s) (o : refused_at s.place ≡ false) where
  fails : Next t b (bad s)
  unfolding refused_at literal
  fails = record {
    counted = record {
      limit = h.limit;
      inside = omega (arith, h.inside, length_more t b);
      all = λ e. absurd (true≢false e);
      line = λ e. absurd (false≢true e);
    };
    from = λ e. inl (omega (arith, h.all o));
  }

  unfits : OnLine t s.from → Next t b (unfitting s)
  unfolding refused_at literal
  unfits (l, f) = record {
    counted = record {
      limit = omega (arith, l, h.all o, h.limit);
      inside = omega (arith, l, length_more t b);
      all = λ e. absurd (true≢false e);
      line = λ e. absurd (false≢true e);
    };
    from = λ e. inr (l, f);
  }

  module _ (small : s.at < 4294967295) where
    literal_on : {x : Scan} → x.at ≡ s.at + 1 → refused_at x.place ≡ false → (literal x.place ≡ true → OnLine (t ++ (b ∷ [])) x.from) → Next t b x
    literal_on e f g = record {
      counted = record {
        limit = omega (arith, e, small);
        inside = omega (arith, e, h.inside, length_more t b);
        all = λ _. omega (arith, e, h.all o, length_more t b);
        line = g;
      };
      from = λ k. absurd (true≢false (sym k ∙ f));
    }

    on : {x : Scan} → x.at ≡ s.at + 1 → refused_at x.place ≡ false → literal x.place ≡ false → Next t b x
    on e f g = literal_on e f (λ k. absurd (true≢false (sym k ∙ g)))

    by_place : (p : Place) → s.place ≡ p → Next t b (place_step p s b)
    unfolding refused_at literal place_step at_start in_comment afterS before_word next_letter word_done in_word after_word after_token first_byte token_byte before_token past_minus in_digits
    by_place p e = go p e
      where
        N : Scan → Type 0
        N x = Next t b x

        go : (p : Place) → s.place ≡ p → N (place_step p s b)
        go Start e =
            either_way N (eqb b 10) (on refl refl refl)
            (either_way N (eqb b 99) (on refl refl refl)
            (either_way N (eqb b 115) (either_way N (unstated s.verdict) (on refl refl refl) fails) (either_way N (eqb b 118) (on refl refl refl) fails)))
        go Comment e = either_way N (eqb b 10) (on refl refl refl) (either_way N (ltb b 256) (on refl refl refl) fails)
        go AfterS e = either_way N (blank b) (on refl refl refl) fails
        go BeforeWord e =
            either_way N (blank b) (on refl refl refl)
            (either_way N (eqb b 83) (on refl refl refl) (either_way N (eqb b 85) (on refl refl refl) fails))
        go Word e =
            either_way N (blank b) (either_way N (spelt s.verdict s.letters) (on refl refl refl) fails)
            (either_way N (eqb b 10) (either_way N (spelt s.verdict s.letters) (on refl refl refl) fails)
            (either_way N (follows (word s.verdict) s.letters b) (on refl refl refl)
            (either_way N (turns s.verdict s.letters b) (on refl refl refl) fails)))
        go AfterWord e = either_way N (blank b) (on refl refl refl) (either_way N (eqb b 10) (on refl refl refl) fails)
        go AfterToken e = either_way N (blank b) (on refl refl refl) (either_way N (eqb b 10) (on refl refl refl) fails)
        go BeforeToken e =
            either_way N (blank b) (on refl refl refl)
            (either N (eqb b 10) (λ _. on refl refl refl)
            (λ k.
            let begins : OnLine (t ++ (b ∷ [])) s.at = subst (OnLine (t ++ (b ∷ []))) (sym (h.all o)) (line_begins t b k) in
            either_way N s.closed fails
            (either_way N (eqb b 45) (literal_on refl refl (λ _. begins))
            (either_way N (eqb b 48) (on refl refl refl) (either_way N (digit19 b) (literal_on refl refl (λ _. begins)) fails)))))
        go AfterMinus e =
            let f : OnLine t s.from = h.line (ap literal e) in
            either N (digit19 b) (λ d. literal_on refl refl (λ _. line_goes_on t b s.from (digit_no_feed b d) f)) (λ _. fails)
        go Digits e =
            let f : OnLine t s.from = h.line (ap literal e) in
            either_way N (blank b) (on refl refl refl)
            (either N (eqb b 10) (λ _. on refl refl refl)
            (λ k. either_way N (digit b) (literal_on refl refl (λ _. line_goes_on t b s.from k f)) fails))
        go Ended e = fails
        go BadForm e = absurd (true≢false (sym (ap refused_at e) ∙ o))
        go BadLiteral e = absurd (true≢false (sym (ap refused_at e) ∙ o))

-- a literal is read there
in_literal_lem : (p : Place) → in_literal p ≡ true → literal p ≡ true
unfolding in_literal literal
in_literal_lem Start h = absurd (false≢true h)
in_literal_lem Comment h = absurd (false≢true h)
in_literal_lem AfterS h = absurd (false≢true h)
in_literal_lem BeforeWord h = absurd (false≢true h)
in_literal_lem Word h = absurd (false≢true h)
in_literal_lem AfterWord h = absurd (false≢true h)
in_literal_lem AfterToken h = absurd (false≢true h)
in_literal_lem BeforeToken h = absurd (false≢true h)
in_literal_lem AfterMinus h = refl
in_literal_lem Digits h = refl
in_literal_lem Ended h = absurd (false≢true h)
in_literal_lem BadForm h = absurd (false≢true h)
in_literal_lem BadLiteral h = absurd (false≢true h)

module _ (last kept : ℕ) where
  step_next : (t : List ℕ) (r : Reader) (b : ℕ) → Counted t r.scan → refused_at r.scan.place ≡ false
      → Next t b (step last kept r.scan r.named b).scan
  unfolding step landed ends_literal ending scan_byte at_limit
  step_next t r b h o =
      let s = r.scan in
      let N : Scan → Type 0 = λ x. Next t b x in
      let next : N (scan_byte s b) =
      either N (eqb s.at 4294967295) (λ _. either N (refused_at s.place) (λ e. absurd (true≢false (sym e ∙ o))) (λ _. fails t s b h o))
      (λ e. let k = eqb-false s.at 4294967295 e in by_place t s b h o (omega (arith, h.limit)) s.place refl) in
      either (λ (x : Reader). N x.scan) (ends_literal s.place (scan_byte s b).place)
      (λ e. either_way N (fits last kept (literal_of s.minus s.value) r.named) next
      (unfits t s b h o (h.line (in_literal_lem s.place (and_left (in_literal s.place) _ e)))))
      (λ _. next)

  -- ---- a piece u behind t

  step_counted : (t : List ℕ) (r : Reader) (b : ℕ) → Counted t r.scan → Counted (t ++ (b ∷ [])) (step last kept r.scan r.named b).scan
  step_counted t r b h =
      by (refused_at r.scan.place)
      (λ e. subst (λ x. Counted (t ++ (b ∷ [])) x.scan) (sym (refused_byte last kept r e b)) (record {
        limit = h.limit;
        inside = omega (arith, h.inside, length_more t b);
        all = λ f. absurd (true≢false (sym e ∙ f));
        line = λ f. absurd (true≢false (sym e ∙ unrefused r.scan.place f));
      }))
      (λ e. (step_next t r b h e).counted)

  pub run_counted : (t : List ℕ) (r : Reader) (u : List ℕ) → Counted t r.scan → Counted (t ++ u) (run last kept r u).scan
  run_counted t r [] h = subst (λ x. Counted x r.scan) (sym (append-nil t)) h
  run_counted t r (b ∷ u) h =
      let q : Reader = step last kept r.scan r.named b in
      subst (λ x. Counted x (run last kept q u).scan) (append_assoc t (b ∷ []) u) (run_counted (t ++ (b ∷ [])) q u (step_counted t r b h))

  pub run_from : (t : List ℕ) (r : Reader) (u : List ℕ) → Counted t r.scan → refused_at r.scan.place ≡ false
      → refused_at (run last kept r u).scan.place ≡ true → From t (run last kept r u).scan.at
  run_from t r [] h o k = absurd (true≢false (sym k ∙ o))
  run_from t r (b ∷ u) h o k =
      let q : Reader = step last kept r.scan r.named b in
      let n : Next t b q.scan = step_next t r b h o in
      by (refused_at q.scan.place)
      (λ e. subst (λ x. From t x.scan.at) (sym (refused_run last kept q e u)) (n.from e))
      (λ e. from_less t b _ (run_from (t ++ (b ∷ [])) q u n.counted e k))

  -- ---- the end of the text t

  pub end_from : (t : List ℕ) (r : Reader) → Counted t r.scan → refused_at r.scan.place ≡ false → From t (end last kept r).scan.at
  unfolding judge judge_word ending end_at in_literal scan_end_at literal
  end_from t r h o = go r.scan.place refl
    where
      s : Scan
      s = r.scan

      S : Scan → Type 0
      S x = From t x.at

      here : From t r.scan.at
      here = inl (omega (arith, h.all o))

      judged : From t (judge r.scan).at
      judged =
          either_way S (unstated s.verdict) here
          (either_way S (satisfiable s.verdict) (either_way S s.closed here here) (either_way S s.listed here here))

      go : (p : Place) → r.scan.place ≡ p → From t (end_at p last kept r.scan r.named).scan.at
      go Start e = judged
      go Comment e = judged
      go AfterS e = here
      go BeforeWord e = here
      go Word e = either_way S (spelt s.verdict s.letters) judged here
      go AfterWord e = judged
      go AfterToken e = judged
      go BeforeToken e = judged
      go AfterMinus e = here
      go Digits e =
          either_way S (fits last kept (literal_of s.minus s.value) r.named) judged (inr (h.line (ap literal e)))
      go Ended e = here
      go BadForm e = here
      go BadLiteral e = here
