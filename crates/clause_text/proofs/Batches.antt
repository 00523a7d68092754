-- The next line, and lines one after another.
use mathlib.Core.Path.{◌≡◌, refl, sym, ap, ◌∙◌, subst, subst₂}
use mathlib.Core.Bool.{true, false, ◌&&◌, true≢false}
use mathlib.Core.Logic.{◌≢◌, ◌⊎◌, inl, inr}
use mathlib.Core.List.{List, [], ◌∷◌, ◌++◌, append-nil}
use Prim.Native.Nat.{ℕ, ◌+◌, ◌≤◌, ◌<◌}
use native.Mathlib.Decide.{dec_lt, ℕ_discrete}
use native.Mathlib.Omega.{arith}
use borrow.Author.Tests.{eq-eqb, eqb-true}
use lib.Dec.{eqb}
use lib.IntN.{ℤ}
use lib.ListN.{length, take, drop, length-append, length-drop}
use lib.Seq.{take-add, drop-drop, length-take-le}
use Rattle.std.specs.Prelude.{Option, Some, None}
use Rattle.meaning.specs.TestLaws.{and_true, and_left, and_right}
use Rattle.encoding.specs.Variables.{Task, Var}
use Rattle.encoding.specs.Positions.{positions}
use Rattle.decimal.specs.Wrote.{Wrote, WroteIfRoom}
use Rattle.decimal.specs.Writing.{wrote_none, wrote_then, wrote_length, wrote_front}
use Rattle.clause_list.specs.Next.{Found, handed, ended, next_clause, clauses_from}
use Rattle.clause_list.specs.Following.{First, next_first, position_of, next_le, After, next_after}
use Rattle.clause_list.specs.Handing.{HandsAt}
use Rattle.clause_text.specs.declared.batch.Filled.{Filled}
use Rattle.clause_words.specs.Text.{line_text, lines_text}
use Rattle.clause_words.specs.Written.{LineIfRoom}
use Rattle.clause_text.specs.Filling.{Lines, Longer}
use Rattle.clause_text.specs.NextLine.{NextLine, written, nothing, long, Further}
use Rattle.clause_text.specs.LinesOut.{lines_append}

-- ---- the next line

-- a clause was found, and its k literals stand at the start of the buffer
pub record FoundClause (f : Found) (e : List ℤ) (k y : ℕ) : Type 0 where
  pub clause : List ℤ
  pub found : f ≡ handed clause y
  pub front : take k e ≡ clause
  pub room : k ≤ length e

pub hands_clause : (f : Found) (d e : List ℤ) (y : ℕ) {r : Option ℕ} {k : ℕ} → r ≡ Some k → HandsAt f d e y r → FoundClause f e k y
hands_clause f d e y {k} q h = go (subst (HandsAt f d e y) q h)
  where
    go : HandsAt f d e y (Some k) → FoundClause f e k y
    go (c, q, w, h) = record { clause = c; found = q; front = wrote_front w; room = omega (arith, w.room, wrote_length w) }

pub hands_nothing : (f : Found) (d e : List ℤ) (y : ℕ) {r : Option ℕ} → r ≡ None → HandsAt f d e y r → f ≡ ended y
hands_nothing f d e y q h = (subst (HandsAt f d e y) q h).0

pub line_some : (c : List ℤ) → 1 ≤ length (line_text c)
line_some [] = omega arith
line_some (x ∷ c) = simp length-append (omega arith)

-- its line was written where there is room
module _ {f : Found} {e : List ℤ} {k y : ℕ} (c : FoundClause f e k y) (size : length e ≡ 8) (from : ℕ) {d : List ℕ} {at : ℕ} {b : List ℕ} {end : ℕ}
    (l : LineIfRoom d at (take k e) b end) where
  at_line : WroteIfRoom d at (line_text c.clause) b end
  at_line = (subst (λ t. LineIfRoom d at t b end) c.front l).line (omega (arith, ap length c.front, length-take-le k e c.room, c.room, size))

  pub next_written : end ≢ at → NextLine f from d at b (record { end = end; position = y })
  next_written n = go (dec_lt (length d) (at + length (line_text c.clause)))
    where
      go : Dec (length d < at + length (line_text c.clause)) → NextLine f from d at b (record { end = end; position = y })
      go (yes g) = absurd (n (at_line.short g).1)
      go (no g) = written c.clause c.found (at_line.roomy (omega (arith, g)))

  pub next_long : end ≡ at → NextLine f from d at b (record { end = end; position = from })
  next_long q = go (dec_lt (length d) (at + length (line_text c.clause)))
    where
      go : Dec (length d < at + length (line_text c.clause)) → NextLine f from d at b (record { end = end; position = from })
      go (yes g) = long c.clause y c.found g (at_line.short g).0 q refl
      go (no g) = absurd (omega (arith, (at_line.roomy (omega (arith, g))).next, line_some c.clause))

-- ---- lines after lines

-- neither the end nor the position has moved
pub both_same : {a b x y : ℕ} → (eqb a b && eqb x y) ≡ true → (a ≡ b) × (x ≡ y)
both_same {a} {b} {x} {y} h = (eqb-true a b (and_left (eqb a b) (eqb x y) h), eqb-true x y (and_right (eqb a b) (eqb x y) h))

module _ (T : Task) (num : Var → ℕ) where
  pub lines_none : (x : ℕ) (d : List ℕ) (at : ℕ) → at ≤ length d → Lines T num x d at d at x
  lines_none x d at h = record { count = 0; there = omega arith; text = wrote_none d at h; next = refl; within = λ bound b l. l }

module _ {T : Task} {num : Var → ℕ} {x : ℕ} {d : List ℕ} {at : ℕ} {e : List ℕ} {k y : ℕ} (s : Lines T num x d at e k y) where
  pub lines_then : {b : List ℕ} {j v : ℕ} → Lines T num y e k b j v → Lines T num x d at b j v
  lines_then {b} {j} {v} t =
      let cs = clauses_from T num x in
      record {
        count = s.count + t.count;
        there = omega (arith, s.there, t.there, ap length s.next ∙ length-drop s.count cs);
        text = subst (λ l. Wrote d at l b j)
            (ap (λ r. lines_text (take s.count cs) ++ lines_text (take t.count r)) s.next ∙ sym (lines_append (take s.count cs) (take t.count (drop s.count cs)))
            ∙ ap lines_text (sym (take-add s.count t.count cs)))
            (wrote_then s.text t.text);
        next = t.next ∙ ap (drop t.count) s.next ∙ drop-drop t.count s.count cs;
        within = λ bound h l. t.within bound h (s.within bound h l);
      }

  pub lines_room : k ≤ length e
  lines_room = omega (arith, s.text.room, wrote_length s.text)

  -- where nothing more is written
  pub lines_filled : {b : List ℕ} {j v : ℕ} → Further T num y e k b j v → j ≡ k → v ≡ y → Lines T num x d at b k y × ((clauses_from T num y ≡ []) ⊎ Longer T num (length d) k y)
  lines_filled {b} {j} {v} f q p = (
    subst₂ (λ i w. Lines T num x d at b i w) q p (lines_then f.lines),
    subst₂ (λ size w. (clauses_from T num w ≡ []) ⊎ Longer T num size k w) (wrote_length s.text) p (f.stop q p),
  )

  -- the position rises where not both it and the end stay
  pub further_less : {b : List ℕ} {j v : ℕ} → Further T num y e k b j v → (eqb j k && eqb v y) ≡ false → (y < v) × (y < positions T num)
  further_less {b} {j} {v} f h = go (ℕ_discrete v y) (dec_lt y (positions T num))
    where
      go : Dec (v ≡ y) → Dec (y < positions T num) → (y < v) × (y < positions T num)
      go (yes p) d = absurd (true≢false (sym (and_true (eq-eqb j k (f.still p)) (eq-eqb v y p)) ∙ h))
      go (no p) (yes l) = (omega (arith, f.onward), l)
      go (no p) (no l) = absurd (omega (arith, f.onward, f.lines.within y (omega arith) (omega arith)))

-- ---- the next line, as one line more

module _ (T : Task) (num : Var → ℕ) (x : ℕ) where
  first_here : {f : Found} → next_clause T num x ≡ f → First T num (clauses_from T num x) f
  first_here q = subst (First T num (clauses_from T num x)) q (next_first T num x)

  after_here : {f : Found} → next_clause T num x ≡ f → After T num x f
  after_here q = subst (After T num x) q (next_after T num x)

  within_here : {f : Found} → next_clause T num x ≡ f → (bound : ℕ) → positions T num ≤ bound → x ≤ bound → position_of T num f ≤ bound
  within_here q bound h l = subst (λ f. position_of T num f ≤ bound) q (next_le T num bound x h l)

  one_line : {d : List ℕ} {at : ℕ} {e : List ℕ} {k y : ℕ} (c : List ℤ) → next_clause T num x ≡ handed c y → Wrote d at (line_text c) e k → Lines T num x d at e k y
  one_line {d} {at} {e} {k} {y} c q w =
      let f = first_here q in
      record {
        count = 1;
        there = omega (arith, ap length f);
        text = subst (λ t. Wrote d at t e k) (sym (append-nil (line_text c)) ∙ ap (λ cs. lines_text (take 1 cs)) (sym f)) w;
        next = ap (drop 1) (sym f);
        within = within_here q;
      }

  -- the same clauses follow from another position
  no_line : (d : List ℕ) (at : ℕ) {y : ℕ} → at ≤ length d → next_clause T num x ≡ ended y → Lines T num x d at d at y
  no_line d at h q =
      let (now-none, then-none) = first_here q in
      record { count = 0; there = omega arith; text = wrote_none d at h; next = then-none ∙ sym now-none; within = within_here q }

  pub line_further : {d : List ℕ} {at : ℕ} {e : List ℕ} {r : Filled} → at ≤ length d → NextLine (next_clause T num x) x d at e r
      → Further T num x d at e r.end r.position
  line_further h (written c q w) =
      let l = after_here q in
      record { lines = one_line c q w; onward = omega arith; still = λ p. absurd (omega arith); stop = λ n p. absurd (omega arith) }
  line_further {d} {at} {r} h (nothing q w n) =
      record {
        lines = subst₂ (λ e k. Lines T num x d at e k r.position) (sym w) (sym n) (no_line d at h q);
        onward = after_here q;
        still = λ p. n;
        stop = λ i p. inl (first_here q).1;
      }
  line_further {d} {at} {r} h (long c y q l w n p) =
      subst₂ (λ e k. Further T num x d at e k r.position) (sym w) (sym n)
      (subst (λ v. Further T num x d at d at v) (sym p)
      (record { lines = lines_none T num x d at h; onward = omega arith; still = λ p. refl; stop = λ i p. inr (record { clause = c; others = clauses_from T num y; next = first_here q; long = l }) }))
