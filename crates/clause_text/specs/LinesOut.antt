-- THE FILE'S LINES, over every list of calls for lines and for batches from the fresh position.
use Rattle.std.specs.Prelude.{◌≡◌, refl, ℕ, ◌≤◌, ℤ, length, take, drop, Option, Some, None, Result, Ok, Err}
use Rattle.std.specs.Option.{unwrap_or}
use Rattle.std.proofs.Common.{sym, ap, ap₂, ◌∙◌, subst, ⊎_elim, arith, take-append-drop}
use mathlib.Core.List.Memᴰ
use mathlib.Core.List.{List, [], ◌∷◌, ◌++◌, append_assoc, Memᴰ, cons≢nil}
use Rattle.automaton.specs.declared.Automaton.{Automaton}
use Rattle.automaton.specs.Value.{Valid}
use Rattle.refusals.specs.declared.Refusal.{Refusal}
use Rattle.decimal.specs.Writing.{wrote_front}
use Rattle.clause_sizes.specs.declared.Target.{Target}
use Rattle.clause_sizes.specs.Targets.{Proper, task, numbers}
use Rattle.clause_list.specs.Next.{Found, clauses_from}
use Rattle.clause_list.specs.Following.{First, next_first, from_start, position_of}
use Rattle.clause_step.specs.declared.Handed.{Handed}
use Rattle.clause_step.specs.Step.{Accepted, Ended, position_after, found_from, fresh_position, last_position}
use Rattle.clause_step.specs.Range.{positions_le, stays_in_range}
use Rattle.clause_step.specs.Refusals.{turned_down_short, Stays, refused_from}
use Rattle.clause_words.specs.Text.{line_text, lines_text}
use Rattle.clause_line.specs.Line.{LineFound}
use Rattle.clause_line.specs.LineLength.{left_line_le}
use Rattle.clause_text.specs.Answers.{Batch, BatchFound}
use Rattle.clause_text.specs.Batches.{TextStepped, TextCall, TextCalls, bytes, all_bytes, LinesOut}

-- the lines of clauses and of those after them
pub lines_append : (bs cs : List (List ℤ)) → lines_text (bs ++ cs) ≡ lines_text bs ++ lines_text cs
lines_append [] cs = refl
lines_append (b ∷ bs) cs = ap (λ t. line_text b ++ t) (lines_append bs cs) ∙ sym (append_assoc (line_text b) (lines_text bs) (lines_text cs))

module _ (a : Automaton) (τ : Target) where
  abbrev rest : ℕ → List (List ℤ)
  rest = clauses_from (task a τ) (numbers a τ)

  abbrev left_from : ℕ → List ℕ
  left_from x = lines_text (rest x)

  batch_lines : {x : ℕ} {d e : List ℕ} {k y : ℕ} → Batch a τ x d e k y → take k e ++ left_from y ≡ left_from x
  batch_lines {x} f =
      ap₂ (λ t cs. t ++ lines_text cs) (wrote_front f.lines.text) f.lines.next
      ∙ sym (lines_append (take f.lines.count (rest x)) (drop f.lines.count (rest x))) ∙ ap lines_text (take-append-drop f.lines.count (rest x))

  -- one call for a batch: what it writes, and what is left after it
  batch_left : (x : ℕ) (b : Option ℕ) (y : ℕ) (d e : List ℕ) → BatchFound a τ x d e b y → take (unwrap_or b 0) e ++ left_from y ≡ left_from x
  batch_left x (Some k) y d e (f, some) = batch_lines f
  batch_left x None y d e f = batch_lines f

  -- and one for a line
  first_is : (x : ℕ) {f : Found} → found_from a τ x ≡ f → First (task a τ) (numbers a τ) (rest x) f
  first_is x e = subst (First (task a τ) (numbers a τ) (rest x)) e (next_first (task a τ) (numbers a τ) x)

  line_left : (x : ℕ) (b : Option ℕ) (y : ℕ) (d e : List ℕ) → LineFound a τ x d e b y → take (unwrap_or b 0) e ++ left_from y ≡ left_from x
  line_left x (Some k) y d e (c, f, w) = ap (λ t. t ++ left_from y) (wrote_front w) ∙ ap lines_text (sym (first_is x f))
  line_left x None y d e (f, w) = let (now-none, then-none) = first_is x f in ap lines_text (then-none ∙ sym now-none)

  one_call : (x : ℕ) (d e : List ℕ) (r : Result Handed Refusal) → TextStepped a τ x d e r → bytes r e ++ left_from (position_after x r) ≡ left_from x
  one_call x d e (Ok h) = ⊎_elim (λ l. line_left x h.written h.position d e l.1) (λ b. batch_left x h.written h.position d e b.1)
  one_call x d e (Err f) = λ s. refl

  -- after "ended" nothing is left, and nothing was
  batch_ended : (x : ℕ) (y : ℕ) (d e : List ℕ) → Accepted 80 (length d) a τ x → BatchFound a τ x d e None y → left_from x ≡ []
  batch_ended x y d e ok f = sym (batch_lines f) ∙ none
    where
      -- a line has at most 80 bytes, and so many there are
      none : left_from y ≡ []
      none = ⊎_elim (λ g. ap lines_text g) (λ g. absurd (omega (arith, ok.room, g.long, left_line_le ok.valid ok.proper y g.next))) f.stop

  ended_left : (x : ℕ) (d e : List ℕ) (r : Result Handed Refusal) → TextStepped a τ x d e r → Ended r → left_from x ≡ []
  ended_left x d e (Ok h) s q =
      ⊎_elim (λ (ok, l). ap lines_text (first_is x (subst (λ b. LineFound a τ x d e b h.position) q l).0).0)
      (λ (ok, b). batch_ended x h.position d e ok (subst (λ b. BatchFound a τ x d e b h.position) q b)) s
  ended_left x d e (Err f) s q = absurd q

  abbrev after_all : ℕ → List TextCall → ℕ
  after_all x [] = x
  after_all x (c ∷ cs) = after_all (position_after x c.result) cs

  calls_lines : (x : ℕ) (cs : List TextCall) → TextCalls a τ x cs → all_bytes cs ++ left_from (after_all x cs) ≡ left_from x
  calls_lines x [] k = refl
  calls_lines x (c ∷ cs) (e, s, k) =
      append_assoc (bytes c.result c.after) (all_bytes cs) (left_from (after_all (position_after x c.result) cs))
      ∙ ap (λ t. bytes c.result c.after ++ t) (calls_lines (position_after x c.result) cs k)
      ∙ one_call x c.before c.after c.result s

  -- where nothing is left, nothing is written any more
  nothing_more : (s t : List ℕ) → s ++ t ≡ [] → s ≡ []
  nothing_more [] t e = refl
  nothing_more (x ∷ s) t e = absurd (cons≢nil e)

  calls_whole : (x : ℕ) (cs : List TextCall) → TextCalls a τ x cs → (c : TextCall) → Memᴰ c cs → Ended c.result → all_bytes cs ≡ left_from x
  calls_whole x [] k c j q = absurd (Memᴰ.not-nil j)
  calls_whole x (b ∷ bs) (e, s, k) c j q =
      ⊎_elim
      (λ g.
      let none = ended_left x b.before b.after b.result s (subst (λ c. Ended c.result) g q) in
      nothing_more (all_bytes (b ∷ bs)) _ (calls_lines x (b ∷ bs) (e, s, k) ∙ none) ∙ sym none)
      (λ j. ap (λ t. bytes b.result b.after ++ t) (calls_whole (position_after x b.result) bs k c j q)
      ∙ one_call x b.before b.after b.result s)
      (Memᴰ.cases_cons j)

  -- one call, for the lemma on refusals
  module _ (v : Valid a) (i : Proper τ) where
    batch_stays : (x : ℕ) (d e : List ℕ) (b : Option ℕ) (y : ℕ) → x ≤ last_position → BatchFound a τ x d e b y → y ≤ last_position
    batch_stays x d e (Some k) y h (f, some) = f.lines.within last_position (positions_le v i) h
    batch_stays x d e None y h f = f.lines.within last_position (positions_le v i) h

    found_stays : (x : ℕ) {f : Found} → x ≤ last_position → found_from a τ x ≡ f → position_of (task a τ) (numbers a τ) f ≤ last_position
    found_stays x h e = subst (λ f. position_of (task a τ) (numbers a τ) f ≤ last_position) e (stays_in_range v i x h)

    line_stays : (x : ℕ) (d e : List ℕ) (b : Option ℕ) (y : ℕ) → x ≤ last_position → LineFound a τ x d e b y → y ≤ last_position
    line_stays x d e (Some k) y h (c, f, w) = found_stays x h f
    line_stays x d e None y h (f, w) = found_stays x h f

    stays : (x : ℕ) (d e : List ℕ) (r : Result Handed Refusal) → x ≤ last_position → TextStepped a τ x d e r → Stays 80 x d e r
    stays x d e (Ok r) h = ⊎_elim (λ l. line_stays x d e r.written r.position h l.1) (λ b. batch_stays x d e r.written r.position h b.1)
    stays x d e (Err f) h = ⊎_elim (λ (t, w). (turned_down_short v i h t, w)) (λ (t, w). (turned_down_short v i h t, w))

pub lines_out : {a : Automaton} {τ : Target} → Valid a → Proper τ → (cs : List TextCall) → TextCalls a τ fresh_position cs → LinesOut a τ cs
lines_out {a} {τ} v i cs k =
    let start = ap lines_text (from_start (task a τ) (numbers a τ)) in
    record {
      left = lines_text (clauses_from (task a τ) (numbers a τ) (after_all a τ fresh_position cs));
      begins = calls_lines a τ fresh_position cs k ∙ start;
      whole = λ c j q. calls_whole a τ fresh_position cs k c j q ∙ start;
      refused = refused_from (stays a τ v i) fresh_position cs (omega arith) k;
    }
