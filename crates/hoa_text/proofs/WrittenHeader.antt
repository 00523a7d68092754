-- The header that is written of an automaton is read back.
use Rattle.std.specs.Prelude.{◌≡◌, refl, true, false, cond, ℕ, zero, suc, ◌+◌, ◌^◌, ◌≤◌, ◌<◌, ltb, leb, length}
use Rattle.std.proofs.Common.{sym, ◌∙◌, subst, lt-ltb, le-leb, eq-eqb, ne_eqb}
use Rattle.std.proofs.Math.Path.{ap}
use mathlib.Core.List.{List, [], ◌∷◌, ◌++◌, append_assoc}
use Rattle.std.proofs.Math.Option.{Option, none, some}
use Rattle.std.proofs.Math.Decide.{ℕ_discrete}
use native.Mathlib.Omega.{arith}
use Rattle.meaning.specs.BitSet.{has}
use Rattle.meaning.specs.MarkSets.{set_of_same, set_of_has}
use Rattle.meaning.specs.TestLaws.{and_true}
use Rattle.meaning.specs.Counting.{each}
use Rattle.meaning.specs.CountingLaws.{each_length, each_at}
use Rattle.automaton.specs.declared.Automaton.{Automaton}
use Rattle.refusals.specs.declared.Refusal.TheVariants.{Size, Undeclared}
use Rattle.automaton.specs.Value.{Valid, name}
use Rattle.automaton.specs.Bytes.{bytes}
use Rattle.hoa_text.specs.Basics.{option}
use Rattle.hoa_text.specs.Tokens.{lex}
use Rattle.hoa_text.specs.Grammar.{at, Result, gives, refuses, then, again, done, repeat, onward}
use Rattle.hoa_text.specs.Formulas.{holds, acceptance_formula}
use Rattle.hoa_text.specs.Header.{Accepting, Items, Header, among, states_given, start_given, name_given, naming, names_read, names_given, sets_read, sets_given, no_items, opened, item_read, header}
use Rattle.hoa_text.specs.Written.{decimal, hoa_line, states_line, start_line, quoted_name, names_line, names_part, condition_text, acceptance_line, body_line}
use Rattle.hoa_text.specs.Repetition.{repeat_again, repeat_done}
use Rattle.hoa_text.specs.HeaderProgress.{item_shrinks}
use Rattle.hoa_text.specs.Names.{not_among, name_length_lem, name_printable}
use Rattle.hoa_text.proofs.WrittenTokens.{SomeOffset, Reads, NoDigit, first_byte, due_number, quoted_read}
use Rattle.hoa_text.proofs.WrittenAcceptance.{body_apart, condition_read_back}
use Rattle.hoa_text.proofs.WrittenBody.{header_of}

abbrev after : Option ℕ → Option (ℕ × ℕ) → Option (List (List ℕ)) → Option Accepting → Items
after w x y z = record { states = w; start = x; names = y; accepting = z }

-- ---- names

names_front : (a : Automaton) (n : ℕ) (r : List ℕ) → NoDigit r → NoDigit (each n (quoted_name a) ++ r)
names_front a zero r d = d
names_front a (suc n) r d =
    subst NoDigit (sym (append_assoc (each n (quoted_name a)) (quoted_name a n) r)) (names_front a n (quoted_name a n ++ r) (first_byte 32 _ refl))

module _ (a : Automaton) (v : Valid a) where
  abbrev names : ℕ → List (List ℕ)
  names n = each n (λ i. name a i ∷ [])

  module _ (j : ℕ) (h : j < a.propositions) where
    new : among (name a j) (names j) ≡ false
    new = not_among (name a j) (names j) λ i g e.
        let l : i < j = omega (arith, each_length j (name a)) in
        v.no_two_alike i j l h (sym (each_at [] j (name a) i l) ∙ e)

    -- nothing is wrong with it
    name_taken : {B : Type 0} (o : ℕ) (x : Result B) → name_given (names j) o (name a j) x ≡ x
    name_taken o x =
        let some_bytes : ltb 0 (length (name a j)) ≡ true = lt-ltb 0 (length (name a j)) (omega (arith, name_length_lem a v j h, v.name_some j h)) in
        let most_bytes : leb (length (name a j)) 16 ≡ true = le-leb (length (name a j)) 16 (omega (arith, name_length_lem a v j h, v.name_le j h)) in
        rw (name_printable a v j h, some_bytes, most_bytes, new)

    name_read : (n : ℕ) (r : List ℕ) → Reads (naming (suc n) (names j)) (quoted_name a j ++ r) (naming n (names (suc j))) r
    name_read n r o =
        let w = name a j in
        let e : quoted_name a j ++ r ≡ 32 ∷ 34 ∷ (w ++ (34 ∷ r)) = simp append_assoc in
        let k = quoted_read w r (name_printable a v j h) (o + 1) in
        record {
          offset = k.offset;
          is =
              ap (λ u. naming (suc n) (names j) (lex u 0 o)) e
              ∙ ap (naming (suc n) (names j)) k.is
              ∙ name_taken (o + 1) (naming n (names (suc j)) (lex r 0 k.offset));
        }

  naming_read : (j : ℕ) → j ≤ a.propositions → (n : ℕ) (r : List ℕ) → Reads (naming (j + n) []) (each j (quoted_name a) ++ r) (naming n (names j)) r
  naming_read zero h n r o = let e : 0 + n ≡ n = omega arith in record { offset = o; is = ap (λ m. naming m [] (lex r 0 o)) e }
  naming_read (suc j) h n r o =
      let e : suc j + n ≡ j + suc n = omega arith in
      let ih = naming_read j (omega arith) (suc n) (quoted_name a j ++ r) o in
      let k = name_read j h n r ih.offset in
      record {
        offset = k.offset;
        is = ap (λ m. naming m [] (lex (each (suc j) (quoted_name a) ++ r) 0 o)) e
            ∙ ap (λ u. naming (j + suc n) [] (lex u 0 o)) (append_assoc (each j (quoted_name a)) (quoted_name a j) r) ∙ ih.is ∙ k.is;
      }

  -- ---- the lines, one after another

  states_read : (r : List ℕ) → Reads (item_read no_items) (states_line a ++ r) (λ u. gives (again (after (some a.states) none none none) u)) r
  unfolding item_read
  states_read r o =
      let e : states_line a ++ r ≡ bytes "States: " ++ (decimal a.states ++ (10 ∷ r)) = simp append_assoc in
      let b = o + 1 + 1 + 1 + 1 + 1 + 1 + 1 + 1 in
      let o₁ = at (lex (decimal a.states ++ (10 ∷ r)) 0 b) in
      let k = due_number a.states (omega (arith, v.states_le)) (10 ∷ r) (first_byte 10 r refl) b in
      record {
        offset = k.offset + 1;
        is =
            ap (λ w. item_read no_items (lex w 0 o)) e
            ∙ ap (λ x. onward (then x (states_given no_items o₁))) k.is
            ∙ ap (λ t. onward (cond t (gives (after (some a.states) none none none, lex r 0 (k.offset + 1))) (refuses (Size o₁))))
            (and_true (lt-ltb 0 a.states (omega (arith, v.start_lt))) (le-leb a.states 16 v.states_le));
      }

  -- the start, with the offset of its number
  record StartRead (r : List ℕ) (o : ℕ) : Type 0 where
    number_at : ℕ
    offset : ℕ
    is : item_read (after (some a.states) none none none) (lex (start_line a ++ r) 0 o)
        ≡ gives (again (after (some a.states) (some (a.start, number_at)) none none) (lex r 0 offset))

  start_read : (r : List ℕ) (o : ℕ) → StartRead r o
  unfolding item_read
  start_read r o =
      let h = after (some a.states) none none none in
      let e : start_line a ++ r ≡ bytes "Start: " ++ (decimal a.start ++ (10 ∷ r)) = simp append_assoc in
      let b = o + 1 + 1 + 1 + 1 + 1 + 1 + 1 in
      let o₁ = at (lex (decimal a.start ++ (10 ∷ r)) 0 b) in
      let k = due_number a.start (omega (arith, v.start_lt, v.states_le)) (10 ∷ r) (first_byte 10 r refl) b in
      record { number_at = o₁; offset = k.offset + 1; is = ap (λ w. item_read h (lex w 0 o)) e ∙ ap (λ x. onward (then x (start_given h o₁))) k.is }

  names_line_read : (w : Option ℕ) (x : Option (ℕ × ℕ)) (r : List ℕ)
      → Reads (item_read (after w x none none)) (names_line a ++ r) (λ u. gives (again (after w x (some (names a.propositions)) none) u)) r
  unfolding item_read
  names_line_read w x r o =
      let k = a.propositions in
      let h = after w x none none in
      let y = each k (quoted_name a) ++ (10 ∷ r) in
      let e : names_line a ++ r ≡ bytes "AP: " ++ (decimal k ++ y) = simp append_assoc in
      let z : k ≡ k + 0 = omega arith in
      let b = o + 1 + 1 + 1 + 1 in
      let o₁ = at (lex (decimal k ++ y) 0 b) in
      let c = due_number k (omega (arith, v.propositions_le)) y (names_front a k (10 ∷ r) (first_byte 10 r refl)) b in
      let g = naming_read k (omega arith) 0 (10 ∷ r) c.offset in
      record {
        offset = g.offset + 1;
        is =
            ap (λ s. item_read h (lex s 0 o)) e
            ∙ ap (λ t. onward (then t (names_given h o₁))) c.is
            ∙ ap (λ t. onward (cond t (then (naming k [] (lex y 0 c.offset)) (names_read h)) (refuses (Size o₁)))) (le-leb k 4 v.propositions_le)
            ∙ ap (λ m. onward (then (naming m [] (lex y 0 c.offset)) (names_read h))) z
            ∙ ap (λ t. onward (then t (names_read h))) g.is;
      }

  -- the names, where there are any
  record NamesRead (w : Option ℕ) (x : Option (ℕ × ℕ)) (r : List ℕ) (o : ℕ) : Type 0 where
    given : Option (List (List ℕ))
    offset : ℕ
    are : option given [] (λ ws. ws) ≡ names a.propositions
    is : repeat item_read (after w x none none) (lex (names_part a ++ r) 0 o) ≡ repeat item_read (after w x given none) (lex r 0 offset)

  names_read_lem : (w : Option ℕ) (x : Option (ℕ × ℕ)) (r : List ℕ) (o : ℕ) → NamesRead w x r o
  names_read_lem w x r o = go (ℕ_discrete a.propositions 0)
    where
      go : Dec (a.propositions ≡ 0) → NamesRead w x r o
      go (yes e) = record {
        given = none;
        offset = o;
        are = ap names (sym e);
        is = ap (λ t. repeat item_read (after w x none none) (lex (cond t [] (names_line a) ++ r) 0 o)) (eq-eqb a.propositions 0 e);
      }
      go (no e) =
          let k = names_line_read w x r o in
          record {
            given = some (names a.propositions);
            offset = k.offset;
            are = refl;
            is = ap (λ t. repeat item_read (after w x none none) (lex (cond t [] (names_line a) ++ r) 0 o)) (ne_eqb a.propositions 0 e)
                ∙ repeat_again item_read item_shrinks (after w x none none) (lex (names_line a ++ r) 0 o) k.is;
          }

-- ---- acceptance, in front of the body

abbrev accepting_of : Automaton → Accepting
accepting_of a = record { sets = a.sets; acceptance = a.acceptance }

acceptance_read : (a : Automaton) → Valid a → (w : Option ℕ) (x : Option (ℕ × ℕ)) (y : Option (List (List ℕ))) (r : List ℕ)
    → Reads (item_read (after w x y none)) (acceptance_line a ++ (body_line ++ r)) (λ u. gives (again (after w x y (some (accepting_of a))) u)) (body_line ++ r)
unfolding item_read
acceptance_read a v w x y r o =
    let m = a.sets in
    let i = after w x y none in
    let t : List ℕ = 10 ∷ (body_line ++ r) in
    let s = condition_text m a.acceptance ++ t in
    let e : acceptance_line a ++ (body_line ++ r) ≡ bytes "Acceptance: " ++ (decimal m ++ (32 ∷ s)) = simp append_assoc in
    let b = o + 1 + 1 + 1 + 1 + 1 + 1 + 1 + 1 + 1 + 1 + 1 + 1 in
    let o₁ = at (lex (decimal m ++ (32 ∷ s)) 0 b) in
    let k = due_number m (omega (arith, v.sets_le)) (32 ∷ s) (first_byte 32 s refl) b in
    let g = condition_read_back m a.acceptance v.sets_le v.sets_owned t (body_apart r) in
    let c = g.is (k.offset + 1) in
    record {
      offset = c.offset + 1;
      is =
          ap (λ u. item_read i (lex u 0 o)) e
          ∙ ap (λ t. onward (then t (sets_given i o₁))) k.is
          ∙ ap (λ t. onward (cond t (then (acceptance_formula m (lex s 0 (k.offset + 1))) (sets_read i m)) (refuses (Size o₁)))) (le-leb m 4 v.sets_le)
          ∙ ap (λ t. onward (then t (sets_read i m))) c.is
          ∙ ap (λ z. gives (again (after w x y (some (record { sets = m; acceptance = z }))) (lex (body_line ++ r) 0 (c.offset + 1))))
          (set_of_same (2 ^ m) (holds g.formula) (has a.acceptance) g.says ∙ set_of_has (2 ^ m) a.acceptance v.sets_owned);
    }

-- ---- the header

opening_read : (a : Automaton) → Valid a → (p : ℕ) (y : Option (List (List ℕ))) → option y [] (λ ws. ws) ≡ (header_of a).names → (r : List ℕ)
    → Reads (item_read (after (some a.states) (some (a.start, p)) y (some (accepting_of a)))) (body_line ++ r) (λ u. gives (done (header_of a, u))) r
unfolding item_read
opening_read a v p y e r o =
    let g : List (List ℕ) → Header = λ ws. record { states = a.states; start = a.start; names = ws; sets = a.sets; acceptance = a.acceptance } in
    let i = o + 1 + 1 + 1 + 1 + 1 + 1 + 1 + 1 + 1 in
    record {
      offset = i;
      is = ap (λ b. then (cond b (gives (g (option y [] (λ ws. ws)), lex r 0 i)) (refuses (Undeclared p))) opened) (lt-ltb a.start a.states v.start_lt)
          ∙ ap (λ ws. gives (done (g ws, lex r 0 i))) e;
    }

pub header_read : (a : Automaton) → Valid a → (r : List ℕ)
    → SomeOffset (header (lex (hoa_line ++ (states_line a ++ (start_line a ++ (names_part a ++ (acceptance_line a ++ (body_line ++ r)))))) 0 0))
    (λ i. gives (header_of a, lex r 0 i))
header_read a v r =
    let r₅ = body_line ++ r in
    let r₄ = acceptance_line a ++ r₅ in
    let r₃ = names_part a ++ r₄ in
    let r₂ = start_line a ++ r₃ in
    let n = some a.states in
    let k₁ = states_read a v r₂ 8 in
    let k₂ = start_read a v r₃ k₁.offset in
    let q : Option (ℕ × ℕ) = some (a.start, k₂.number_at) in
    let k₃ = names_read_lem a v n q r₄ k₂.offset in
    let k₄ = acceptance_read a v n q k₃.given r k₃.offset in
    let k₅ = opening_read a v k₂.number_at k₃.given k₃.are r k₄.offset in
    record {
      offset = k₅.offset;
      is =
          repeat_again item_read item_shrinks no_items (lex (states_line a ++ r₂) 0 8) k₁.is
          ∙ repeat_again item_read item_shrinks (after n none none none) (lex r₂ 0 k₁.offset) k₂.is
          ∙ k₃.is
          ∙ repeat_again item_read item_shrinks (after n q k₃.given none) (lex r₄ 0 k₃.offset) k₄.is
          ∙ repeat_done item_read item_shrinks (after n q k₃.given (some (accepting_of a))) (lex r₅ 0 k₄.offset) k₅.is;
    }
