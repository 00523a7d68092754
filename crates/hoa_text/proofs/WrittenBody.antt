-- The body that is written of an automaton is read back as its table.
use Rattle.std.specs.Prelude.{◌≡◌, refl, Bool, false, cond, ◌&&◌, ◌||◌, ℕ, zero, suc, ◌+◌, ◌^◌, ◌≤◌, ◌<◌, ltb, eqb, length}
use Rattle.std.proofs.Common.{sym, ◌∙◌, subst, arith, lt-ltb, le-ltb, eq-eqb, ne_eqb}
use Rattle.std.proofs.Math.Path.{ap}
use Rattle.std.proofs.Math.Bool.{and-false}
use mathlib.Core.List.{List, [], ◌∷◌, ◌++◌, append_assoc}
use Rattle.std.proofs.Math.Option.{Option, none, some}
use Rattle.std.proofs.Math.Decide.{dec_lt, ℕ_discrete}
use Rattle.std.specs.Int.Bits.{bit_or, or_zero_l}
use Rattle.meaning.specs.Counting.{each}
use Rattle.meaning.specs.CountingLaws.{each_length}
use Rattle.automaton.specs.declared.Automaton.{Automaton}
use Rattle.refusals.specs.declared.Refusal.TheVariants.{Undeclared, Body, SecondEdge}
use Rattle.automaton.specs.Value.{Valid, destination, mark_set, name}
use Rattle.automaton.specs.Value as Value
use Rattle.automaton.specs.Bytes.{bytes}
use Rattle.hoa_text.specs.Basics.{option, is_some}
use Rattle.hoa_text.specs.Tokens.{over, lex}
use Rattle.hoa_text.specs.Grammar.{quoted_of, is_sign, next, rest, at, gives, refuses, then, again, repeat, onward}
use Rattle.hoa_text.specs.Formulas.{Formula, holds, label}
use Rattle.hoa_text.specs.Header.{Header}
use Rattle.hoa_text.specs.Body.{Edge, Current, Table, no_states, letters, marks, marked, with_state, state_marked, state_given, with_edge, second_edge, marks_given, destination_given, label_given, with_label, body_read, body}
use Rattle.hoa_text.specs.Written.{decimal, marks_of, label_of, edge_line, state_line, state_lines, end_line}
use Rattle.hoa_text.specs.Repetition.{repeat_again, repeat_done}
use Rattle.hoa_text.specs.BodyProgress.{body_shrinks}
use Rattle.hoa_text.proofs.WrittenTokens.{SomeOffset, Reads, first_byte, due_number}
use Rattle.hoa_text.proofs.WrittenFormulas.{formula_of, holds_formula}
use Rattle.hoa_text.proofs.WrittenLabels.{label_read}
use Rattle.hoa_text.proofs.WrittenMarks.{marks_front, marks_read}
use Rattle.hoa_text.specs.First.{none_first}

-- ---- what follows a line of the body: neither a brace nor a quoted text

record Apart (s : List ℕ) : Type 0 where
  no_brace : (i : ℕ) → next (is_sign "{") (lex s 0 i) ≡ false
  no_quote : (i : ℕ) → next (λ t. is_some (quoted_of t)) (lex s 0 i) ≡ false

each_apart : (f : ℕ → List ℕ) → ((i : ℕ) (r : List ℕ) → Apart (f i ++ r)) → (n : ℕ) (r : List ℕ) → Apart r → Apart (each n f ++ r)
each_apart f h zero r a = a
each_apart f h (suc n) r a = subst Apart (sym (append_assoc (each n f) (f n) r)) (each_apart f h n (f n ++ r) (h n r))

edge_apart : (a : Automaton) (q l : ℕ) (r : List ℕ) → Apart (edge_line a q l ++ r)
edge_apart a q l r = record { no_brace = λ i. refl; no_quote = λ i. refl }

state_apart : (a : Automaton) (q : ℕ) (r : List ℕ) → Apart (state_lines a q ++ r)
state_apart a q r = record { no_brace = λ i. refl; no_quote = λ i. refl }

end_apart : Apart end_line
end_apart = record { no_brace = λ i. refl; no_quote = λ i. refl }

-- ---- the header and the table of an automaton

abbrev pub header_of : Automaton → Header
header_of a = record { states = a.states; start = a.start; names = each a.propositions (λ i. name a i ∷ []); sets = a.sets; acceptance = a.acceptance }

-- its letters, as the reader counts them
abbrev letters_of : Automaton → ℕ
letters_of a = letters (header_of a)

abbrev edge_of : Automaton → ℕ → ℕ → Edge
edge_of a q l = record { destination = destination a q l; marks = mark_set a q l }

-- the states below q are read, and of q the letters below l
abbrev reached : Automaton → ℕ → ℕ → ℕ → ℕ → Bool
reached a q l p i = ltb i (letters_of a) && (ltb p q || (eqb p q && ltb i l))

abbrev entry : Automaton → ℕ → ℕ → ℕ → ℕ → Option Edge
entry a q l p i = cond (reached a q l p i) (some (edge_of a p i)) none

-- and the states below c are named
abbrev pub filled : Automaton → ℕ → ℕ → ℕ → Option Current → Table
filled a c q l x = record { named = λ p. ltb p c; edge = entry a q l; current = x }

-- the state q, once its letters below l are read: a written state has no marks, and its edges have labels
abbrev within : ℕ → ℕ → Current
within q l = record { state = q; shared = 0; labelled = ltb 0 l; listed = 0 }

-- the state before q
abbrev pub before : Automaton → ℕ → Option Current
before a zero = none
before a (suc q) = some (within q (letters_of a))

next_ltb : (i l : ℕ) → (i ≡ l → ⊥) → ltb i (suc l) ≡ ltb i l
next_ltb i l ne = go (dec_lt i l)
  where
    go : Dec (i < l) → ltb i (suc l) ≡ ltb i l
    go (yes e) = lt-ltb i (suc l) (omega arith) ∙ sym (lt-ltb i l e)
    go (no e) = le-ltb i (suc l) (omega arith) ∙ sym (le-ltb i l (omega arith))

module _ (a : Automaton) (v : Valid a) where
  count : length (header_of a).names ≡ a.propositions
  count = each_length a.propositions (name a)

  same_letters : letters_of a ≡ Value.letters a
  same_letters = ap (λ k. 2 ^ k) count

  -- ---- an edge

  module _ (c q l : ℕ) (hq : q < a.states) (hl : l < letters_of a) where
    abbrev f : Formula
    f = formula_of a.propositions l

    abbrev t : Table
    t = filled a c q l (some (within q l))

    -- the state, with this edge counted
    abbrev counted : Current
    counted = with_label (within q l)

    alone : (i : ℕ) → i < letters_of a → holds f i ≡ eqb i l
    alone i hi = holds_formula a.propositions l i (omega (arith, same_letters)) (omega (arith, same_letters))

    -- it is the first for its letter
    no_second : second_edge (header_of a) t q (holds f) ≡ none
    no_second = none_first (letters_of a) _ (λ i hi. go i hi (ℕ_discrete i l))
      where
        go : (i : ℕ) → i < letters_of a → Dec (i ≡ l) → cond (holds f i && is_some (entry a q l q i)) (some (SecondEdge q i)) none ≡ none
        go i hi (yes e) = rw (alone i hi, eq-eqb i l e, lt-ltb i (letters_of a) hi, le-ltb q q (omega arith), eq-eqb q q refl, le-ltb i l (omega arith))
        go i hi (no e) = rw (alone i hi, ne_eqb i l e)

    one_filled : with_edge (header_of a) t counted (holds f) (destination a q l) (mark_set a q l) ≡ filled a c q (suc l) (some (within q (suc l)))
    one_filled = λ z. record {
      named = λ p. ltb p c;
      edge = λ p i. cell p i (ℕ_discrete p q) (dec_lt i (letters_of a)) (ℕ_discrete i l) z;
      current = some (record { state = q; shared = 0; labelled = sym (lt-ltb 0 (suc l) (omega arith)) z; listed = 0 });
    }
      where
        joined : Edge
        joined = record { destination = destination a q l; marks = bit_or 0 (mark_set a q l) }

        cell : (p i : ℕ) → Dec (p ≡ q) → Dec (i < letters_of a) → Dec (i ≡ l)
            → cond (eqb p q && (ltb i (letters_of a) && holds f i)) (some joined) (entry a q l p i) ≡ entry a q (suc l) p i
        cell p i (no d) e g = rw (ne_eqb p q d)
        cell p i (yes d) (no e) g = rw (eq-eqb p q d, le-ltb i (letters_of a) (omega arith))
        cell p i (yes d) (yes e) (yes g) =
            rw (eq-eqb p q d, lt-ltb i (letters_of a) e, le-ltb p q (omega arith), alone i e, eq-eqb i l g, lt-ltb i (suc l) (omega arith), or_zero_l (mark_set a q l), d, g)
        cell p i (yes d) (yes e) (no g) = rw (eq-eqb p q d, lt-ltb i (letters_of a) e, le-ltb p q (omega arith), alone i e, ne_eqb i l g, next_ltb i l g)

    edge_read : (r : List ℕ) → Apart r
        → Reads (body_read (header_of a) t) (edge_line a q l ++ r) (λ u. gives (again (filled a c q (suc l) (some (within q (suc l)))) u)) r
    unfolding body_read
    edge_read r apart o =
        let h = header_of a in
        let d = destination a q l in
        let m = mark_set a q l in
        let y = marks_of a.sets m ++ (10 ∷ r) in
        let w = label_of a.propositions l ++ (93 ∷ 32 ∷ (decimal d ++ y)) in
        let e : edge_line a q l ++ r ≡ 91 ∷ w = simp append_assoc in
        let letter : l < Value.letters a = omega (arith, same_letters) in
        let hd : d < a.states = v.destination_lt q l hq letter in
        let k₁ = label_read a.propositions l v.propositions_le (32 ∷ (decimal d ++ y)) (o + 1) in
        let u = lex (decimal d ++ y) 0 (k₁.offset + 1 + 1) in
        let k₂ = due_number d (omega (arith, v.states_le)) y (marks_front a.sets m v.sets_le r) (k₁.offset + 1 + 1) in
        let k₃ = marks_read a.sets m v.sets_le (v.marks_lt q l hq letter) r apart.no_brace k₂.offset in
        let s = lex r 0 k₃.offset in
        record {
          offset = k₃.offset;
          is =
              ap (λ z. body_read h t (lex z 0 o)) e
              ∙ ap (λ k. onward (then (label k (lex w 0 (o + 1))) (label_given h t counted))) count
              ∙ ap (λ x. onward (then x (label_given h t counted))) k₁.is
              ∙ ap (λ x. onward (then x (destination_given h t counted (holds f) (at u)))) k₂.is
              ∙ ap (λ b. onward (cond b (then (marked h.sets (lex y 0 k₂.offset)) (marks_given h t counted (holds f) d)) (refuses (Undeclared (at u)))))
              (lt-ltb d h.states hd)
              ∙ ap (λ x. onward (then x (marks_given h t counted (holds f) d))) k₃.is
              ∙ ap (λ x. onward (option x (gives (with_edge h t counted (holds f) d m, s)) refuses)) no_second
              ∙ ap (λ x. gives (again x s)) one_filled;
        }

  -- ---- all edges of a state

  abbrev Goes : Table → List ℕ → Table → List ℕ → Type 0
  Goes t s u r = Reads (repeat (body_read (header_of a)) t) s (repeat (body_read (header_of a)) u) r

  edges_read : (c q : ℕ) → q < a.states → (n : ℕ) → n ≤ letters_of a → (r : List ℕ) → Apart r
      → Goes (filled a c q 0 (some (within q 0))) (each n (edge_line a q) ++ r) (filled a c q n (some (within q n))) r
  edges_read c q hq zero hn r apart o = record { offset = o; is = refl }
  edges_read c q hq (suc n) hn r apart o =
      let s = edge_line a q n ++ r in
      let ih = edges_read c q hq n (omega arith) s (edge_apart a q n r) o in
      let k = edge_read c q n hq hn r apart ih.offset in
      record {
        offset = k.offset;
        is = ap (λ w. repeat (body_read (header_of a)) (filled a c q 0 (some (within q 0))) (lex w 0 o)) (append_assoc (each n (edge_line a q)) (edge_line a q n) r) ∙ ih.is
            ∙ repeat_again (body_read (header_of a)) (body_shrinks (header_of a)) (filled a c q n (some (within q n))) (lex s 0 ih.offset) k.is;
      }

  -- ---- a state

  state_filled : (q : ℕ) (x : Option Current) → with_state (filled a q q 0 x) q 0 ≡ filled a (suc q) q 0 (some (within q 0))
  state_filled q x = λ z. record { named = λ p. one p (ℕ_discrete p q) z; edge = entry a q 0; current = some (within q 0) }
    where
      one : (p : ℕ) → Dec (p ≡ q) → (eqb p q || ltb p q) ≡ ltb p (suc q)
      one p (yes e) = rw (eq-eqb p q e, lt-ltb p (suc q) (omega arith))
      one p (no e) = rw (ne_eqb p q e, next_ltb p q e)

  state_read : (q : ℕ) → q < a.states → (x : Option Current) (r : List ℕ) → Apart r
      → Reads (body_read (header_of a) (filled a q q 0 x)) (state_line q ++ r) (λ u. gives (again (filled a (suc q) q 0 (some (within q 0))) u)) r
  unfolding body_read
  state_read q hq x r apart o =
      let h = header_of a in
      let t = filled a q q 0 x in
      let b = o + 1 + 1 + 1 + 1 + 1 + 1 + 1 in
      let e : state_line q ++ r ≡ bytes "State: " ++ (decimal q ++ (10 ∷ r)) = simp append_assoc in
      let k = due_number q (omega (arith, v.states_le)) (10 ∷ r) (first_byte 10 r refl) b in
      let o₁ = at (lex (decimal q ++ (10 ∷ r)) 0 b) in
      let s = lex r 0 (k.offset + 1) in
      record {
        offset = k.offset + 1;
        is =
            ap (λ w. body_read h t (lex w 0 o)) e
            ∙ ap (λ y. onward (then y (state_given h t o₁))) k.is
            ∙ ap (λ y. onward (cond y (cond (ltb q q) (refuses (Body o₁ q)) (state_marked h t q s)) (refuses (Undeclared o₁)))) (lt-ltb q h.states hq)
            ∙ ap (λ y. onward (cond y (refuses (Body o₁ q)) (state_marked h t q s))) (le-ltb q q (omega arith))
            ∙ ap (λ y. onward (then (marked h.sets (cond y (rest s) s)) (λ m u. gives (with_state t q m, u)))) (apart.no_quote (k.offset + 1))
            ∙ ap (λ y. onward (then (cond y (marks h.sets 0 (rest s)) (gives (0, s))) (λ m u. gives (with_state t q m, u)))) (apart.no_brace (k.offset + 1))
            ∙ ap (λ y. gives (again y s)) (state_filled q x);
      }

  -- with all its letters read, the next state is due
  row_filled : (q : ℕ) (x : Option Current) → filled a (suc q) q (letters_of a) x ≡ filled a (suc q) (suc q) 0 x
  row_filled q x = λ z. record {
    named = λ p. ltb p (suc q);
    edge = λ p i. cond (go p i (dec_lt i (letters_of a)) (ℕ_discrete p q) z) (some (edge_of a p i)) none;
    current = x;
  }
    where
      go : (p i : ℕ) → Dec (i < letters_of a) → Dec (p ≡ q) → reached a q (letters_of a) p i ≡ reached a (suc q) 0 p i
      go p i (no d) e = rw (le-ltb i (letters_of a) (omega arith))
      go p i (yes d) (yes e) = rw (lt-ltb i (letters_of a) d, eq-eqb p q e, le-ltb p q (omega arith), lt-ltb p (suc q) (omega arith))
      go p i (yes d) (no e) = rw (lt-ltb i (letters_of a) d, ne_eqb p q e, next_ltb p q e, le-ltb i 0 (omega arith), and-false (eqb p (suc q)))

  state_lines_read : (q : ℕ) → q < a.states → (x : Option Current) (r : List ℕ) → Apart r
      → Goes (filled a q q 0 x) (state_lines a q ++ r) (filled a (suc q) (suc q) 0 (before a (suc q))) r
  state_lines_read q hq x r apart o =
      let edges = each (Value.letters a) (edge_line a q) in
      let k = state_read q hq x (edges ++ r) (each_apart (edge_line a q) (edge_apart a q) (Value.letters a) r apart) o in
      let g = edges_read (suc q) q hq (Value.letters a) (omega (arith, same_letters)) r apart k.offset in
      record {
        offset = g.offset;
        is = ap (λ w. repeat (body_read (header_of a)) (filled a q q 0 x) (lex w 0 o)) (append_assoc (state_line q) edges r)
            ∙ repeat_again (body_read (header_of a)) (body_shrinks (header_of a)) (filled a q q 0 x) (lex (state_line q ++ (edges ++ r)) 0 o) k.is
            ∙ g.is ∙ ap (λ n. repeat (body_read (header_of a)) (filled a (suc q) q n (some (within q n))) (lex r 0 g.offset)) (sym same_letters)
            ∙ ap (λ t. repeat (body_read (header_of a)) t (lex r 0 g.offset)) (row_filled q (before a (suc q)));
      }

  -- ---- the body

  states_read : (n : ℕ) → n ≤ a.states → (r : List ℕ) → Apart r → Goes (filled a 0 0 0 none) (each n (state_lines a) ++ r) (filled a n n 0 (before a n)) r
  states_read zero hn r apart o = record { offset = o; is = refl }
  states_read (suc n) hn r apart o =
      let ih = states_read n (omega arith) (state_lines a n ++ r) (state_apart a n r) o in
      let k = state_lines_read n hn (before a n) r apart ih.offset in
      record {
        offset = k.offset;
        is = ap (λ w. repeat (body_read (header_of a)) (filled a 0 0 0 none) (lex w 0 o)) (append_assoc (each n (state_lines a)) (state_lines a n) r) ∙ ih.is ∙ k.is;
      }

  none_filled : no_states ≡ filled a 0 0 0 none
  none_filled = λ z. record { named = λ p. sym (le-ltb p 0 (omega arith)) z; edge = λ p i. cell p i z; current = none }
    where
      cell : (p i : ℕ) → none ≡ entry a 0 0 p i
      cell p i = rw (le-ltb p 0 (omega arith), le-ltb i 0 (omega arith), and-false (eqb p 0), and-false (ltb i (letters_of a)))

  pub body_read_lem : (o : ℕ) → SomeOffset (body (header_of a) (lex (each a.states (state_lines a) ++ end_line) 0 o))
      (λ i. gives (filled a a.states a.states 0 (before a a.states), over i))
  unfolding body_read
  body_read_lem o =
      let h = header_of a in
      let full = filled a a.states a.states 0 (before a a.states) in
      let k = states_read a.states (omega arith) end_line end_apart o in
      record {
        offset = k.offset + 1 + 1 + 1 + 1 + 1 + 1 + 1 + 1;
        is = ap (λ t. repeat (body_read h) t (lex (each a.states (state_lines a) ++ end_line) 0 o)) none_filled ∙ k.is
            ∙ repeat_done (body_read h) (body_shrinks h) full (lex end_line 0 k.offset) refl;
      }
