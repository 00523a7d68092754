-- The marks that are written of a transition are read back as its set of marks.
use Rattle.std.specs.Prelude.{◌≡◌, refl, Bool, true, false, cond, List, [], ◌∷◌, ◌++◌, ◌⊎◌, ℕ, zero, suc, ◌+◌, ◌*◌, ◌/◌, ◌%◌, ◌^◌, ◌≤◌, ◌<◌, eqb, length}
use Rattle.std.proofs.Common.{sym, ap, ◌∙◌, subst, true≢false, append_assoc, append-nil, inl, inr, mod-lt, mod-eq_of_lt, zero-mul, one-mul, arith, lt-ltb, eq-eqb, ne_eqb, length-append, pow_pos}
use Rattle.std.proofs.lemmas.Bool.{false≢true}
use Rattle.std.proofs.Math.Decide.{ℕ_discrete}
use Rattle.std.proofs.Math.Nat.{mod-one}
use Rattle.std.specs.Int.Bits.{bit_or, or_shifted_r}
use Rattle.meaning.specs.BitSet.{has, digit as bit}
use Rattle.meaning.specs.BitSetLaws.{low}
use Rattle.refusals.specs.declared.Refusal.TheVariants.{Undeclared}
use Rattle.automaton.specs.Bytes.{bytes}
use Rattle.hoa_text.specs.Tokens.{lex}
use Rattle.hoa_text.specs.Grammar.{is_sign, next, rest, gives, refuses}
use Rattle.hoa_text.specs.Body.{marks, marked}
use Rattle.hoa_text.specs.Written.{decimal, separated, members, marks_of}
use Rattle.hoa_text.proofs.WrittenTokens.{SomeOffset, Reads, NoDigit, first_byte, number_read}
use Rattle.hoa_text.proofs.WrittenFormulas.{separated_more}

-- ---- the sets below j

low_without : (m j d : ℕ) → m / 2 ^ j % 2 ≡ d → bit d ≡ false → m % 2 ^ suc j ≡ m % 2 ^ j
low_without m j zero e h = low m j ∙ ap (λ a. a * 2 ^ j + m % 2 ^ j) e ∙ omega (arith, zero-mul (2 ^ j))
low_without m j (suc d) e h = absurd (true≢false h)

low_with : (m j d : ℕ) → m / 2 ^ j % 2 ≡ d → d < 2 → bit d ≡ true → bit_or (m % 2 ^ j) (2 ^ j) ≡ m % 2 ^ suc j
low_with m j zero e l h = absurd (false≢true h)
low_with m j (suc zero) e l h =
    ap (bit_or (m % 2 ^ j)) (sym (one-mul (2 ^ j))) ∙ or_shifted_r 1 j (m % 2 ^ j) (mod-lt m (pow_pos j)) ∙ ap (λ a. a * 2 ^ j + m % 2 ^ j) (sym e) ∙ sym (low m j)
low_with m j (suc (suc d)) e l h = absurd (omega arith)

-- ---- the marks below j

module _ (n m : ℕ) (small : n ≤ 4) where
  mark_read : (a j : ℕ) → j < n → (s : List ℕ) → NoDigit s → Reads (marks n a) (decimal j ++ s) (marks n (bit_or a (2 ^ j))) s
  mark_read a j h s e o =
      let k = number_read j (omega arith) s e o in
      record {
        offset = k.offset;
        is = ap (marks n a) k.is ∙ ap (λ x. cond x (marks n (bit_or a (2 ^ j)) (lex s 0 k.offset)) (refuses (Undeclared o))) (lt-ltb j n h);
      }

  -- they are read as the set a
  abbrev AsSet : ℕ → List (List ℕ) → Type 0
  AsSet a us = (s : List ℕ) → NoDigit s → Reads (marks n 0) (separated " " us ++ s) (marks n a) s

  abbrev NoneOrSome : ℕ → List (List ℕ) → Type 0
  NoneOrSome a us = ((us ≡ []) × (a ≡ 0)) ⊎ ((0 < length us) × AsSet a us)

  one_more : (j : ℕ) → j < n → (a : ℕ) (us : List (List ℕ)) → NoneOrSome a us → AsSet (bit_or a (2 ^ j)) (us ++ (decimal j ∷ []))
  one_more j h a us (inl (e, z)) s d o =
      let k = mark_read 0 j h s d o in
      record {
        offset = k.offset;
        is = ap (λ vs. marks n 0 (lex (separated " " (vs ++ (decimal j ∷ [])) ++ s) 0 o)) e
            ∙ ap (λ u. marks n 0 (lex (u ++ s) 0 o)) (append-nil (decimal j)) ∙ k.is
            ∙ ap (λ x. marks n (bit_or x (2 ^ j)) (lex s 0 k.offset)) (sym z);
      }
  one_more j h a us (inr (l, g)) s d o =
      let f = g (32 ∷ (decimal j ++ s)) (first_byte 32 (decimal j ++ s) refl) o in
      let k = mark_read a j h s d (f.offset + 1) in
      record {
        offset = k.offset;
        is = ap (λ u. marks n 0 (lex (u ++ s) 0 o)) (separated_more " " us (decimal j) l)
            ∙ ap (λ u. marks n 0 (lex u 0 o)) (append_assoc (separated " " us) (32 ∷ decimal j) s) ∙ f.is ∙ k.is;
      }

  members_read : (j : ℕ) → j ≤ n → NoneOrSome (m % 2 ^ j) (members j m)
  members_read zero h = inl (refl, mod-one m)
  members_read (suc j) h = go (has m j) refl (members_read j (omega arith))
    where
      go : (x : Bool) → has m j ≡ x → NoneOrSome (m % 2 ^ j) (members j m) → NoneOrSome (m % 2 ^ suc j) (members j m ++ cond x (decimal j ∷ []) [])
      go true e ih =
          let a : bit_or (m % 2 ^ j) (2 ^ j) ≡ m % 2 ^ suc j = low_with m j (m / 2 ^ j % 2) refl (mod-lt (m / 2 ^ j) (omega arith)) e in
          let us = members j m ++ (decimal j ∷ []) in
          inr (omega (arith, length-append (members j m) (decimal j ∷ [])), subst (λ x. AsSet x us) a (one_more j (omega arith) (m % 2 ^ j) (members j m) ih))
      go false e ih =
          let a : m % 2 ^ j ≡ m % 2 ^ suc j = sym (low_without m j (m / 2 ^ j % 2) refl e) in
          subst (λ us. NoneOrSome (m % 2 ^ suc j) us) (sym (append-nil (members j m))) (subst (λ x. NoneOrSome x (members j m)) a ih)

  -- ---- all of them, at the end of a line

  abbrev braced : List ℕ
  braced = bytes " {" ++ (separated " " (members n m) ++ bytes "}")

  pub marks_front : (r : List ℕ) → NoDigit (marks_of n m ++ (10 ∷ r))
  marks_front r = go (eqb m 0)
    where
      go : (x : Bool) → NoDigit (cond x [] braced ++ (10 ∷ r))
      go true = first_byte 10 r refl
      go false = first_byte 32 _ refl

  braced_read : m < 2 ^ n → (m ≡ 0 → ⊥) → (r : List ℕ) → Reads (marked n) (braced ++ (10 ∷ r)) (λ u. gives (m, u)) r
  braced_read h ne r o = go (members_read n (omega arith))
    where
      go : NoneOrSome (m % 2 ^ n) (members n m) → SomeOffset (marked n (lex (braced ++ (10 ∷ r)) 0 o)) (λ i. gives (m, lex r 0 i))
      go (inl (e, z)) = absurd (ne (sym (mod-eq_of_lt h) ∙ z))
      go (inr (l, g)) =
          let k = g (125 ∷ 10 ∷ r) (first_byte 125 (10 ∷ r) refl) (o + 1 + 1) in
          record {
            offset = k.offset + 1 + 1;
            is = ap (λ u. marks n 0 (lex u 0 (o + 1 + 1))) (append_assoc (separated " " (members n m)) (bytes "}") (10 ∷ r)) ∙ k.is
                ∙ ap (λ x. gives (x, lex r 0 (k.offset + 1 + 1))) (mod-eq_of_lt h);
          }

  pub marks_read : m < 2 ^ n → (r : List ℕ) → ((i : ℕ) → next (is_sign "{") (lex r 0 i) ≡ false) → Reads (marked n) (marks_of n m ++ (10 ∷ r)) (λ u. gives (m, u)) r
  marks_read h r apart o = go (ℕ_discrete m 0)
    where
      go : Dec (m ≡ 0) → SomeOffset (marked n (lex (marks_of n m ++ (10 ∷ r)) 0 o)) (λ i. gives (m, lex r 0 i))
      go (yes e) = record {
        offset = o + 1;
        is = ap (λ x. marked n (lex (cond x [] braced ++ (10 ∷ r)) 0 o)) (eq-eqb m 0 e)
            ∙ ap (λ x. cond x (marks n 0 (rest (lex r 0 (o + 1)))) (gives (0, lex r 0 (o + 1)))) (apart (o + 1))
            ∙ ap (λ x. gives (x, lex r 0 (o + 1))) (sym e);
      }
      go (no e) =
          let k = braced_read h e r o in
          record { offset = k.offset; is = ap (λ x. marked n (lex (cond x [] braced ++ (10 ∷ r)) 0 o)) (ne_eqb m 0 e) ∙ k.is }
