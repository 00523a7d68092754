-- THE READER SAYS OF EVERY TEXT WHAT ITS LINES SAY: by induction on the unread text, of which `rest` says what the definition makes of it.
use Rattle.std.specs.Prelude.{◌≡◌, Bool, ◌⊎◌, ℕ, ◌+◌, ◌-◌, ◌*◌, ◌≤◌, ◌<◌, leb, ℤ}
use Rattle.std.proofs.Math.Path.{refl, ap}
use Rattle.std.proofs.Common.{sym, subst, ◌∙◌, inl, inr, ⊎_elim, arith}
use Rattle.std.proofs.Math.Bool.{true, false}
use mathlib.Core.List.{List, [], ◌∷◌}
use borrow.Author.Tests.{lt-ltb, lt-leb, eqb-true, leb-true, leb-false}
use Rattle.std.proofs.Math.Dec.{ltb, eqb}
use Rattle.std.proofs.Math.IntN.{nat_abs}
use Rattle.refusals.specs.declared.Refusal.{Refusal}
use Rattle.refusals.specs.declared.Refusal.TheVariants.{SolverForm, Literal}
use Rattle.solver_text.specs.declared.Reader.{Reader}
use Rattle.solver_scan.specs.declared.Scan.{Scan}
use Rattle.solver_scan.specs.declared.Place.{Place}
use Rattle.solver_scan.specs.declared.Place.TheVariants.{Start, Comment, AfterS, BeforeWord, Word, AfterWord, AfterToken, BeforeToken, AfterMinus, Digits, Ended, BadForm, BadLiteral}
use Rattle.solver_scan.specs.declared.Verdict.{Verdict}
use Rattle.solver_scan.specs.declared.Verdict.TheVariants.{Unstated, Satisfiable, Unsatisfiable, Unknown}
use Rattle.solver_scan.specs.SolverText.{Seen, Outcome, gives, refused, form, unfit, followed, lf, blank, digit, digit19, split, past, nothing, skipped, word, unstated, satisfiable, with_verdict, spelled, verdicts, blanks, verdict_line, literal_of, mentioned, settled, digits, number, token, tokens, line, judged, lines, fenced, outcome}
use Rattle.solver_scan.specs.Scanning.{scan, at_start, in_comment, afterS, before_word, spelt, follows, turns, next_letter, word_done, in_word, after_word, after_token, first_byte, token_byte, before_token, past_minus, grow, in_digits, place_step, refused_at, at_limit, judge, judge_word, scan_byte, scan_end_at}
use Rattle.solver_text.specs.Machine.{at_rest, unfitting, ending, step, run, end_at, end, fresh, in_literal, separated, ends_literal, landed}
use Rattle.solver_scan.specs.Cases.{by}
use Rattle.solver_agreement.specs.Staying.{refused_run}
use Rattle.solver_literals.specs.Giving.{fits, given}
use Rattle.solver_literals.specs.Literals.{abs_literal, held_yes, held_past}
use Rattle.solver_agreement.specs.Landing.{limit_step}
use Rattle.solver_agreement.specs.Spelling.{left, complete_left, spelled_left, follows_none, turns_none}
use Rattle.solver_agreement.specs.Table.{table, table_new, table_other, table_free, table_fresh}

-- ---- what a reader holds, once the text has ended

pub data Result : Type 0 where
  result : Verdict → List ℕ → Result
  failure : Refusal → Result
  unended : Result

abbrev pub result_at : Place → Scan → List ℕ → Result
result_at Start s t = unended
result_at Comment s t = unended
result_at AfterS s t = unended
result_at BeforeWord s t = unended
result_at Word s t = unended
result_at AfterWord s t = unended
result_at AfterToken s t = unended
result_at BeforeToken s t = unended
result_at AfterMinus s t = unended
result_at Digits s t = unended
result_at Ended s t = result s.verdict t
result_at BadForm s t = failure (SolverForm s.at)
result_at BadLiteral s t = failure (Literal s.at)

abbrev pub result_of : Reader → Result
result_of r = result_at r.scan.place r.scan r.named

-- what it should hold by the definition
abbrev pub expected : ℕ → Outcome → Result
expected kept (gives s) = result s.verdict (table kept s.literals)
expected kept (refused x) = failure x

-- ---- small laws of the definition

abbrev pub seen : Verdict → Bool → Bool → List ℤ → Seen
seen v l c ls = record { verdict = v; listed = l; closed = c; literals = ls }

assoc : (x : Outcome) (f k : Seen → Outcome) → followed (followed x f) k ≡ followed x (λ q. followed (f q) k)
assoc (gives s) f k = refl
assoc (refused x) f k = refl

-- a token of an s line, or more blanks
abbrev gapped : ℕ → Seen → List ℕ → List (List ℕ) → Outcome
gapped e s [] ks = verdict_line e s ks
gapped e s (b ∷ u) ks = followed (spelled e (λ v. gives (with_verdict s v)) verdicts (b ∷ u)) (λ r. blanks (past e (b ∷ u)) r ks)

verdict_gapped : (e : ℕ) (s : Seen) (k : List ℕ) (ks : List (List ℕ)) → gapped (e + 1) s k ks ≡ verdict_line e s (k ∷ ks)
verdict_gapped e s [] ks = refl
verdict_gapped e s (b ∷ u) ks = refl

-- blanks and the line's end are told apart from all else
blank_is : (b : ℕ) → blank b ≡ true → (b ≡ 32) ⊎ (b ≡ 9)
unfolding blank
blank_is b e = by (eqb b 32) (λ h. inl (eqb-true b 32 h)) (λ h. inr (eqb-true b 9 (rw h at e)))

lf_not_blank : (b : ℕ) → eqb b 10 ≡ true → blank b ≡ false
unfolding blank
lf_not_blank b e = rw (eqb-true b 10 e)

lf_not_19 : (b : ℕ) → eqb b 10 ≡ true → digit19 b ≡ false
unfolding digit19
lf_not_19 b e = rw (eqb-true b 10 e)

blank_not_19 : (b : ℕ) → blank b ≡ true → digit19 b ≡ false
unfolding digit19
blank_not_19 b e = ⊎_elim (λ h. rw h) (λ h. rw h) (blank_is b e)

-- a number, and the number that the reader has for it
abbrev Alike : ℕ → ℕ → Type 0
Alike v w = (v ≡ w) ⊎ ((200000000 < v) × (200000000 < w))

alike_grow : (v w d : ℕ) → Alike v w → Alike (v * 10 + d) (grow w d)
unfolding grow
alike_grow v w d (inl e) =
    by (leb w 200000000) (λ h. rw h (inl (ap (λ x. x * 10 + d) e))) (λ h. let k : 200000000 < w = leb-false w 200000000 h in rw h (inr (omega arith, k)))
alike_grow v w d (inr e) = let k : 200000000 < w = e.1 in let j : 200000000 < v = e.0 in rw (lt-leb w 200000000 k) (inr (omega arith, k))

module _ (last kept : ℕ) where
  nothing_tokens : (o : ℕ) (s : Seen) (u : List ℕ) (ks : List (List ℕ))
      → nothing o u (tokens last kept o s ks) ≡ followed (nothing o u (gives s)) (λ r. tokens last kept (past o u) r ks)
  nothing_tokens o s [] ks = refl
  nothing_tokens o s (b ∷ u) ks = refl

  -- the lines after the one that ends where q has its first LF
  abbrev onward : ℕ → List ℕ → Outcome → Outcome
  onward a q y = followed y (λ z. lines last kept (past a (split lf q).0) z (split lf q).1)

  -- the tokens after the one that ends at the first blank of the line
  abbrev more : ℕ → List ℕ → Outcome → Outcome
  more a q y = let d = split blank (split lf q).0 in onward a q (followed y (λ z. tokens last kept (past a d.0) z d.1))

  -- what the text gives of which q is still to be read, by the place
  unfoldable pub rest : Place → ℕ → Verdict → ℕ → Bool → Bool → ℕ → Bool → ℕ → List ℤ → List ℕ → Outcome
  rest Start a v n l c f g x ls q = onward a q (line last kept a (seen v l c ls) (split lf q).0)
  rest Comment a v n l c f g x ls q = onward a q (skipped a (seen v l c ls) (split lf q).0)
  rest AfterS a v n l c f g x ls q = let d = split blank (split lf q).0 in onward a q (nothing a d.0 (verdict_line a (seen v l c ls) d.1))
  rest BeforeWord a v n l c f g x ls q = let d = split blank (split lf q).0 in onward a q (gapped a (seen v l c ls) d.0 d.1)
  rest Word a v n l c f g x ls q =
      let d = split blank (split lf q).0 in
      onward a q (followed (spelled a (λ y. gives (seen y l c ls)) (left v n) d.0) (λ z. blanks (past a d.0) z d.1))
  rest AfterWord a v n l c f g x ls q = let d = split blank (split lf q).0 in onward a q (nothing a d.0 (blanks a (seen v l c ls) d.1))
  rest AfterToken a v n l c f g x ls q = let d = split blank (split lf q).0 in onward a q (nothing a d.0 (tokens last kept a (seen v l c ls) d.1))
  rest BeforeToken a v n l c f g x ls q = more a q (token last kept a (seen v l c ls) (split blank (split lf q).0).0)
  rest AfterMinus a v n l c f g x ls q = more a q (number last kept a f g (seen v l c ls) (split blank (split lf q).0).0)
  rest Digits a v n l c f g x ls q = more a q (digits last kept a f g x (seen v l c ls) (split blank (split lf q).0).0)
  rest Ended a v n l c f g x ls q = nothing a q (gives (seen v l c ls))
  rest BadForm a v n l c f g x ls q = form a
  rest BadLiteral a v n l c f g x ls q = unfit a

  -- what the reader holds at the end of the text
  unfoldable pub final_result : Reader → Result
  final_result r = result_of (end last kept r)

  module _ (small : last ≤ 200000000) (room : kept ≤ 5120) where
    -- ---- a literal ends

    settle_literal : (F : Reader → Result) (K : Seen → Outcome) (s next : Scan) (ls : List ℤ)
        → F (at_rest (unfitting s) (table kept ls)) ≡ failure (Literal s.from)
        → ((us : List ℤ) → F (at_rest next (table kept us)) ≡ expected kept (K (seen s.verdict s.listed s.closed us)))
        → F (ending last kept s next (table kept ls))
        ≡ expected kept (followed (settled last kept s.from (literal_of s.minus s.value) (seen s.verdict s.listed s.closed ls)) K)
    unfolding ending fits given settled
    settle_literal F K s next ls nay yea =
        let l = literal_of s.minus s.value in
        by (ltb last (nat_abs l)) (λ h. rw h nay)
        (λ h. by (leb (nat_abs l) kept)
        (λ k.
        let i : nat_abs l ≤ kept = leb-true (nat_abs l) kept k in
        let o = held_yes kept (nat_abs l) i (omega arith) in
        by (mentioned (nat_abs l) ls) (λ m. rw (h, o, k, table_free kept room ls (nat_abs l) i, m) nay)
        (λ m. rw (h, o, k, table_free kept room ls (nat_abs l) i, m) (ap (λ t. F (at_rest next t)) (table_new kept room l ls i m) ∙ yea (l ∷ ls))))
        (λ k.
        let i : kept < nat_abs l = leb-false (nat_abs l) kept k in
        rw (h, held_past kept (nat_abs l) i, k) (ap (λ t. F (at_rest next t)) (table_other kept room l ls i) ∙ yea (l ∷ ls))))

    -- both numbers are past the last variable
    settle_beyond : (F : Reader → Result) (K : Seen → Outcome) (s next : Scan) (x : ℕ) (ls : List ℤ) → 200000000 < x → 200000000 < s.value
        → F (at_rest (unfitting s) (table kept ls)) ≡ failure (Literal s.from)
        → F (ending last kept s next (table kept ls)) ≡ expected kept (followed (settled last kept s.from (literal_of s.minus x) (seen s.verdict s.listed s.closed ls)) K)
    unfolding ending fits given settled
    settle_beyond F K s next x ls h k nay =
        let i : ltb last (nat_abs (literal_of s.minus x)) ≡ true = lt-ltb last (nat_abs (literal_of s.minus x)) (omega (arith, abs_literal s.minus x)) in
        let j : ltb last (nat_abs (literal_of s.minus s.value)) ≡ true = lt-ltb last (nat_abs (literal_of s.minus s.value)) (omega (arith, abs_literal s.minus s.value)) in
        rw (i, j) nay

    settle_then : (F : Reader → Result) (K : Seen → Outcome) (s next : Scan) (x : ℕ) (ls : List ℤ) → Alike x s.value
        → F (at_rest (unfitting s) (table kept ls)) ≡ failure (Literal s.from)
        → ((us : List ℤ) → F (at_rest next (table kept us)) ≡ expected kept (K (seen s.verdict s.listed s.closed us)))
        → F (ending last kept s next (table kept ls)) ≡ expected kept (followed (settled last kept s.from (literal_of s.minus x) (seen s.verdict s.listed s.closed ls)) K)
    settle_then F K s next x ls (inl e) nay yea =
        settle_literal F K s next ls nay yea
        ∙ ap (λ y. expected kept (followed (settled last kept s.from (literal_of s.minus y) (seen s.verdict s.listed s.closed ls)) K)) (sym e)
    settle_then F K s next x ls (inr e) nay yea = settle_beyond F K s next x ls e.0 e.1 nay

    -- ---- a refused text stays refused

    form_stays : (r : List ℕ) (a : ℕ) (v : Verdict) (n : ℕ) (l c : Bool) (f : ℕ) (g : Bool) (w : ℕ) (t : List ℕ)
        → final_result (run last kept (at_rest (scan BadForm a v n l c f g w) t) r) ≡ failure (SolverForm a)
    unfolding final_result end_at in_literal scan_end_at refused_at
    form_stays r a v n l c f g w t = ap final_result (refused_run last kept (at_rest (scan BadForm a v n l c f g w) t) refl r)

    literal_stays : (r : List ℕ) (a : ℕ) (v : Verdict) (n : ℕ) (l c : Bool) (f : ℕ) (g : Bool) (w : ℕ) (t : List ℕ)
        → final_result (run last kept (at_rest (scan BadLiteral a v n l c f g w) t) r) ≡ failure (Literal a)
    unfolding final_result end_at in_literal scan_end_at refused_at
    literal_stays r a v n l c f g w t = ap final_result (refused_run last kept (at_rest (scan BadLiteral a v n l c f g w) t) refl r)

    -- ---- one byte b, where it is not byte 4,294,967,295, and then the text r, of which the definition sees q

    abbrev Claim : ℕ → List ℕ → List ℕ → Type 0
    Claim a r q = (p : Place) (v : Verdict) (n : ℕ) (l c : Bool) (f : ℕ) (g : Bool) (x w : ℕ) (ls : List ℤ) → Alike x w
        → final_result (run last kept (at_rest (scan p a v n l c f g w) (table kept ls)) r) ≡ expected kept (rest p a v n l c f g x ls q)

    module _ (b : ℕ) (r q : List ℕ) (a : ℕ) (here : eqb a 4294967295 ≡ false) (ih : Claim (a + 1) r q) (v : Verdict) (n : ℕ) (l : Bool) (f : ℕ) (g : Bool) (x w : ℕ) (ls : List ℤ)
        (alike : Alike x w) where
      abbrev Step : Place → Bool → Type 0
      Step p c = final_result (run last kept (step last kept (scan p a v n l c f g w) (table kept ls) b) r) ≡ expected kept (rest p a v n l c f g x ls (b ∷ q))

      abbrev Fails : Bool → Type 0
      Fails c = final_result (run last kept (at_rest (scan BadForm a v n l c f g w) (table kept ls)) r) ≡ failure (SolverForm a)

      fail : (c : Bool) → Fails c
      fail c = form_stays r a v n l c f g w (table kept ls)

      at_start_lem : (c : Bool) → Step Start c
      unfolding step landed ends_literal in_literal separated scan_byte place_step at_start rest
      at_start_lem c =
          rw here
          (by (eqb b 10) (λ e. rw e (ih Start v n l c f g x w ls alike))
          (λ e. by (eqb b 99) (λ k. rw (e, k) (ih Comment v n l c f g x w ls alike))
          (λ k. by (eqb b 115) (λ i. by (unstated v) (λ j. rw (e, k, i, j) (ih AfterS v n l c f g x w ls alike)) (λ j. rw (e, k, i, j) (fail c)))
          (λ i. by (eqb b 118) (λ j. rw (e, k, i, j) (ih AfterToken v n true c f g x w ls alike)) (λ j. rw (e, k, i, j) (fail c))))))

      in_comment_lem : (c : Bool) → Step Comment c
      unfolding step landed ends_literal in_literal separated scan_byte place_step in_comment rest
      in_comment_lem c =
          rw here
          (by (eqb b 10) (λ e. rw e (ih Start v n l c f g x w ls alike))
          (λ e. by (ltb b 256) (λ k. rw (e, k) (ih Comment v n l c f g x w ls alike)) (λ k. rw (e, k) (fail c))))

      after_s : (c : Bool) → Step AfterS c
      unfolding step landed ends_literal in_literal separated scan_byte place_step afterS rest
      after_s c =
          let d = split blank (split lf q).0 in
          rw here
          (by (eqb b 10) (λ e. rw (e, lf_not_blank b e) (fail c))
          (λ e. by (blank b) (λ k. rw (e, k, ← verdict_gapped a (seen v l c ls) d.0 d.1) (ih BeforeWord v n l c f g x w ls alike)) (λ k. rw (e, k) (fail c))))

      before_word_lem : (c : Bool) → Step BeforeWord c
      unfolding step landed ends_literal in_literal separated scan_byte place_step before_word rest
      before_word_lem c =
          let d = split blank (split lf q).0 in
          rw here
          (by (eqb b 10) (λ e. rw (e, lf_not_blank b e, eqb-true b 10 e) (fail c))
          (λ e. by (blank b) (λ k. rw (e, k, ← verdict_gapped a (seen v l c ls) d.0 d.1) (ih BeforeWord v n l c f g x w ls alike))
          (λ k. by (eqb b 83) (λ i. let j : eqb b 85 ≡ false = rw (eqb-true b 83 i) in rw (e, k, i, j) (ih Word Satisfiable 1 l c f g x w ls alike))
          (λ i. by (eqb b 85) (λ j. rw (e, k, i, j) (ih Word Unsatisfiable 1 l c f g x w ls alike)) (λ j. rw (e, k, i, j) (fail c))))))

      in_word_lem : (c : Bool) → Step Word c
      unfolding step landed ends_literal in_literal separated scan_byte place_step in_word word_done next_letter rest
      in_word_lem c =
          let y : Verdict → Outcome = λ z. gives (seen z l c ls) in
          let d = split blank (split lf q).0 in
          rw here
          (by (eqb b 10)
          (λ e. rw (e, lf_not_blank b e, complete_left a y v n) (by (spelt v n) (λ k. rw k (ih Start v n l c f g x w ls alike)) (λ k. rw k (fail c))))
          (λ e. by (blank b)
          (λ k. rw (e, k, complete_left a y v n) (by (spelt v n) (λ i. rw i (ih AfterWord v n l c f g x w ls alike)) (λ i. rw i (fail c))))
          (λ k. rw (e, k, spelled_left a y v n b d.0)
          (by (follows (word v) n b) (λ i. rw i (ih Word v (n + 1) l c f g x w ls alike))
          (λ i. by (turns v n b) (λ j. rw (i, j) (ih Word Unknown 3 l c f g x w ls alike)) (λ j. rw (i, j) (fail c)))))))

      after_word_lem : (c : Bool) → Step AfterWord c
      unfolding step landed ends_literal in_literal separated scan_byte place_step after_word rest
      after_word_lem c =
          rw here
          (by (eqb b 10) (λ e. rw (e, lf_not_blank b e) (ih Start v n l c f g x w ls alike))
          (λ e. by (blank b) (λ k. rw (e, k) (ih AfterWord v n l c f g x w ls alike)) (λ k. rw (e, k) (fail c))))

      after_token_lem : (c : Bool) → Step AfterToken c
      unfolding step landed ends_literal in_literal separated scan_byte place_step after_token rest
      after_token_lem c =
          rw here
          (by (eqb b 10) (λ e. rw (e, lf_not_blank b e) (ih Start v n l c f g x w ls alike))
          (λ e. by (blank b) (λ k. rw (e, k) (ih BeforeToken v n l c f g x w ls alike)) (λ k. rw (e, k) (fail c))))

      before_token_lem : (c : Bool) → Step BeforeToken c
      unfolding step landed ends_literal in_literal separated scan_byte place_step before_token token_byte first_byte rest
      before_token_lem true =
          rw here
          (by (eqb b 10) (λ e. rw (e, lf_not_blank b e) (ih Start v n l true f g x w ls alike))
          (λ e. by (blank b) (λ k. rw (e, k) (ih BeforeToken v n l true f g x w ls alike)) (λ k. rw (e, k) (fail true))))
      before_token_lem false =
          let d = split blank (split lf q).0 in
          let close : Outcome → Result = λ y. expected kept (followed y (λ z. lines last kept (past (a + 1) (split lf q).0) z (split lf q).1)) in
          rw here
          (by (eqb b 10) (λ e. rw (e, lf_not_blank b e) (ih Start v n l false f g x w ls alike))
          (λ e. by (blank b) (λ k. rw (e, k) (ih BeforeToken v n l false f g x w ls alike))
          (λ k. by (eqb b 45) (λ i. rw (e, k, i) (ih AfterMinus v n l false a true 0 0 ls (inl refl)))
          (λ i. by (eqb b 48) (λ j. rw (e, k, i, j) (ih AfterToken v n l true f g x w ls alike ∙ ap close (nothing_tokens (a + 1) (seen v l true ls) d.0 d.1)))
          (λ j. by (digit19 b) (λ m. rw (e, k, i, j, m) (ih Digits v n l false a false (b - 48) (b - 48) ls (inl refl))) (λ m. rw (e, k, i, j, m) (fail false)))))))

      after_minus : (c : Bool) → Step AfterMinus c
      unfolding step landed ends_literal in_literal separated scan_byte place_step past_minus rest
      after_minus c =
          rw here
          (by (eqb b 10) (λ e. rw (e, lf_not_19 b e) (fail c))
          (λ e. by (blank b) (λ k. rw (e, k, blank_not_19 b k) (fail c))
          (λ k. by (digit19 b) (λ i. rw (e, k, i) (ih Digits v n l c f g (b - 48) (b - 48) ls (inl refl))) (λ i. rw (e, k, i) (fail c)))))

      in_digits_lem : (c : Bool) → Step Digits c
      unfolding step landed ends_literal in_literal separated scan_byte place_step in_digits rest
      in_digits_lem c =
          let k = split lf q in
          let d = split blank k.0 in
          let s = scan Digits a v n l c f g w in
          let F : Reader → Result = λ z. final_result (run last kept z r) in
          let spent = literal_stays r f v n l c f g w (table kept ls) in
          rw here
          (by (eqb b 10)
          (λ e.
          let K : Seen → Outcome = λ y. followed (tokens last kept a y []) (λ z. lines last kept a z (k.0 ∷ k.1)) in
          rw (e, lf_not_blank b e)
          (settle_then F K s (scan Start (a + 1) v n l c f g w) x ls alike spent (λ us. ih Start v n l c f g x w us alike)
          ∙ ap (expected kept) (sym (assoc (settled last kept f (literal_of g x) (seen v l c ls)) (λ y. tokens last kept a y []) (λ z. lines last kept a z (k.0 ∷ k.1))))))
          (λ e. by (blank b)
          (λ j.
          let M : Seen → Outcome = λ z. lines last kept (past (a + 1) k.0) z k.1 in
          let K : Seen → Outcome = λ y. followed (tokens last kept a y (d.0 ∷ d.1)) M in
          rw (e, j)
          (settle_then F K s (scan BeforeToken (a + 1) v n l c f g w) x ls alike spent (λ us. ih BeforeToken v n l c f g x w us alike)
          ∙ ap (expected kept) (sym (assoc (settled last kept f (literal_of g x) (seen v l c ls)) (λ y. tokens last kept a y (d.0 ∷ d.1)) M))))
          (λ j. by (digit b) (λ i. rw (e, j, i) (ih Digits v n l c f g (x * 10 + (b - 48)) (grow w (b - 48)) ls (alike_grow x w (b - 48) alike))) (λ i. rw (e, j, i) (fail c)))))

      after_end : (c : Bool) → Step Ended c
      unfolding step landed ends_literal in_literal separated scan_byte place_step rest
      after_end c = rw here (fail c)

    -- ---- byte 4,294,967,295

    at_limit_lem : (r : List ℕ) (a : ℕ) (p : Place) (v : Verdict) (n : ℕ) (l c : Bool) (f : ℕ) (g : Bool) (x w : ℕ) (ls : List ℤ)
        → final_result (run last kept (at_rest (at_limit p (scan p a v n l c f g w)) (table kept ls)) r) ≡ expected kept (rest p a v n l c f g x ls (256 ∷ []))
    unfolding at_limit refused_at rest blank digit digit19
    at_limit_lem r a Start v n l c f g x w ls = form_stays r a v n l c f g w (table kept ls)
    at_limit_lem r a Comment v n l c f g x w ls = form_stays r a v n l c f g w (table kept ls)
    at_limit_lem r a AfterS v n l c f g x w ls = form_stays r a v n l c f g w (table kept ls)
    at_limit_lem r a BeforeWord v n l c f g x w ls = form_stays r a v n l c f g w (table kept ls)
    at_limit_lem r a Word v n l c f g x w ls =
        rw (spelled_left a (λ z. gives (seen z l c ls)) v n 256 [], follows_none v n, turns_none v n) (form_stays r a v n l c f g w (table kept ls))
    at_limit_lem r a AfterWord v n l c f g x w ls = form_stays r a v n l c f g w (table kept ls)
    at_limit_lem r a AfterToken v n l c f g x w ls = form_stays r a v n l c f g w (table kept ls)
    at_limit_lem r a BeforeToken v n l true f g x w ls = form_stays r a v n l true f g w (table kept ls)
    at_limit_lem r a BeforeToken v n l false f g x w ls = form_stays r a v n l false f g w (table kept ls)
    at_limit_lem r a AfterMinus v n l c f g x w ls = form_stays r a v n l c f g w (table kept ls)
    at_limit_lem r a Digits v n l c f g x w ls = form_stays r a v n l c f g w (table kept ls)
    at_limit_lem r a Ended v n l c f g x w ls = form_stays r a v n l c f g w (table kept ls)
    at_limit_lem r a BadForm v n l c f g x w ls = form_stays r a v n l c f g w (table kept ls)
    at_limit_lem r a BadLiteral v n l c f g x w ls = literal_stays r a v n l c f g w (table kept ls)

    -- ---- the end of the text

    judge_same : (p : Place) (a : ℕ) (v : Verdict) (n : ℕ) (l c : Bool) (f : ℕ) (g : Bool) (w : ℕ) (ls : List ℤ)
        → result_of (at_rest (judge (scan p a v n l c f g w)) (table kept ls)) ≡ expected kept (judged last kept a (seen v l c ls))
    unfolding judge judged
    judge_same p a v n true true f g w ls = by (unstated v) (λ e. rw e) (λ e. by (satisfiable v) (λ k. rw (e, k)) (λ k. rw (e, k)))
    judge_same p a v n true false f g w ls = by (unstated v) (λ e. rw e) (λ e. by (satisfiable v) (λ k. rw (e, k)) (λ k. rw (e, k)))
    judge_same p a v n false true f g w ls = by (unstated v) (λ e. rw e) (λ e. by (satisfiable v) (λ k. rw (e, k)) (λ k. rw (e, k)))
    judge_same p a v n false false f g w ls = by (unstated v) (λ e. rw e) (λ e. by (satisfiable v) (λ k. rw (e, k)) (λ k. rw (e, k)))

    at_end : (p : Place) (a : ℕ) (v : Verdict) (n : ℕ) (l c : Bool) (f : ℕ) (g : Bool) (x w : ℕ) (ls : List ℤ) → Alike x w
        → final_result (at_rest (scan p a v n l c f g w) (table kept ls)) ≡ expected kept (rest p a v n l c f g x ls [])
    unfolding final_result end_at in_literal scan_end_at judge_word rest
    at_end Start a v n l c f g x w ls alike = judge_same Start a v n l c f g w ls
    at_end Comment a v n l c f g x w ls alike = judge_same Comment a v n l c f g w ls
    at_end AfterS a v n l c f g x w ls alike = refl
    at_end BeforeWord a v n l c f g x w ls alike = refl
    at_end Word a v n l c f g x w ls alike =
        rw (complete_left a (λ z. gives (seen z l c ls)) v n) (by (spelt v n) (λ e. rw e (judge_same Word a v n l c f g w ls)) (λ e. rw e))
    at_end AfterWord a v n l c f g x w ls alike = judge_same AfterWord a v n l c f g w ls
    at_end AfterToken a v n l c f g x w ls alike = judge_same AfterToken a v n l c f g w ls
    at_end BeforeToken a v n l c f g x w ls alike = judge_same BeforeToken a v n l c f g w ls
    at_end AfterMinus a v n l c f g x w ls alike = refl
    at_end Digits a v n l c f g x w ls alike =
        let s = scan Digits a v n l c f g w in
        let K : Seen → Outcome = λ y. followed (tokens last kept a y []) (λ z. lines last kept a z []) in
        settle_then result_of K s (judge s) x ls alike refl (λ us. judge_same Digits a v n l c f g w us)
        ∙ ap (expected kept) (sym (assoc (settled last kept f (literal_of g x) (seen v l c ls)) (λ y. tokens last kept a y []) (λ z. lines last kept a z [])))
    at_end Ended a v n l c f g x w ls alike = refl
    at_end BadForm a v n l c f g x w ls alike = refl
    at_end BadLiteral a v n l c f g x w ls alike = refl

    -- ---- every text, from every place

    fenced_here : (a b : ℕ) (r : List ℕ) → eqb a 4294967295 ≡ false → b ∷ fenced (a + 1) r ≡ fenced a (b ∷ r)
    fenced_here a b r e = rw e

    fenced_limit : (a b : ℕ) (r : List ℕ) → eqb a 4294967295 ≡ true → 256 ∷ [] ≡ fenced a (b ∷ r)
    fenced_limit a b r e = rw e

    one_byte : (b : ℕ) (r : List ℕ) (a : ℕ) → Claim (a + 1) r (fenced (a + 1) r) → Claim a (b ∷ r) (fenced a (b ∷ r))
    unfolding rest
    one_byte b r a ih p v n l c f g x w ls alike = by (eqb a 4294967295) stops goes
      where
        s : Scan
        s = scan p a v n l c f g w

        goal : List ℕ → Type 0
        goal q = final_result (run last kept (step last kept s (table kept ls) b) r) ≡ expected kept (rest p a v n l c f g x ls q)

        stops : eqb a 4294967295 ≡ true → goal (fenced a (b ∷ r))
        stops e = subst goal (fenced_limit a b r e) (ap (λ z. final_result (run last kept z r)) (limit_step last kept b s (table kept ls) e) ∙ at_limit_lem r a p v n l c f g x w ls)

        goes : eqb a 4294967295 ≡ false → goal (fenced a (b ∷ r))
        goes e = subst goal (fenced_here a b r e) (by_place p)
          where
            q : List ℕ
            q = fenced (a + 1) r

            by_place : (p : Place) → final_result (run last kept (step last kept (scan p a v n l c f g w) (table kept ls) b) r) ≡ expected kept (rest p a v n l c f g x ls (b ∷ q))
            by_place Start = at_start_lem b r q a e ih v n l f g x w ls alike c
            by_place Comment = in_comment_lem b r q a e ih v n l f g x w ls alike c
            by_place AfterS = after_s b r q a e ih v n l f g x w ls alike c
            by_place BeforeWord = before_word_lem b r q a e ih v n l f g x w ls alike c
            by_place Word = in_word_lem b r q a e ih v n l f g x w ls alike c
            by_place AfterWord = after_word_lem b r q a e ih v n l f g x w ls alike c
            by_place AfterToken = after_token_lem b r q a e ih v n l f g x w ls alike c
            by_place BeforeToken = before_token_lem b r q a e ih v n l f g x w ls alike c
            by_place AfterMinus = after_minus b r q a e ih v n l f g x w ls alike c
            by_place Digits = in_digits_lem b r q a e ih v n l f g x w ls alike c
            by_place Ended = after_end b r q a e ih v n l f g x w ls alike c
            by_place BadForm = form_stays (b ∷ r) a v n l c f g w (table kept ls)
            by_place BadLiteral = literal_stays (b ∷ r) a v n l c f g w (table kept ls)

    claim : (r : List ℕ) (a : ℕ) → Claim a r (fenced a r)
    claim [] a p v n l c f g x w ls alike = at_end p a v n l c f g x w ls alike
    claim (b ∷ r) a p v n l c f g x w ls alike = one_byte b r a (claim r (a + 1)) p v n l c f g x w ls alike

    -- a fresh reader, at the end of a text, holds what the definition gives of it
    pub agrees : (text : List ℕ) → result_of (end last kept (run last kept fresh text)) ≡ expected kept (outcome last kept text)
    unfolding final_result rest outcome
    agrees text =
        ap (λ t. final_result (run last kept (at_rest (scan Start 0 Unstated 0 false false 0 false 0) t) text)) (sym (table_fresh kept))
        ∙ claim text 0 Start Unstated 0 false false 0 false 0 0 [] (inl refl)
