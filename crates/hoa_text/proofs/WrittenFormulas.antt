-- The product of literals that is written of a letter, or of a set of marks, is read back as a formula that holds of it alone.
use Rattle.std.specs.Prelude.{◌≡◌, refl, Bool, true, false, cond, not, List, [], ◌∷◌, ◌++◌, ℕ, zero, suc, ◌+◌, ◌^◌, ◌<◌, eqb, length}
use Rattle.std.proofs.Common.{sym, ap, ◌∙◌, subst, append_assoc, append-nil, not-suc-le-zero, arith, eq-eqb, ne_eqb}
use Prim.Native.String.{String}
use Rattle.std.proofs.Math.Decide.{ℕ_discrete}
use Rattle.std.proofs.lemmas.Bool.{not-true}
use Rattle.meaning.specs.BitSet.{has}
use Rattle.meaning.specs.BitSetLaws.{has_same}
use Rattle.meaning.specs.TestLaws.{and_true, and_left, and_right}
use Rattle.meaning.specs.Counting.{each}
use Rattle.meaning.specs.CountingLaws.{each_length}
use Rattle.automaton.specs.Bytes.{bytes}
use Rattle.hoa_text.specs.Tokens.{Stream, lex}
use Rattle.hoa_text.specs.Grammar.{is_sign, next, gives, Parsed, then, again, repeat}
use Rattle.hoa_text.specs.Formulas.{Formula, Atoms, proposition, top, negation, conjunction, disjunction, holds, operation, conjunctions, disjunctions, unary}
use Rattle.hoa_text.specs.Written.{followed, separated}
use Rattle.hoa_text.specs.Repetition.{repeat_again, repeat_done}
use Rattle.hoa_text.specs.FormulaProgress.{and_shrinks, or_shrinks}
use Rattle.hoa_text.proofs.WrittenTokens.{Reads}

-- ---- texts with a text between them

followed_more : (w : String) (us : List (List ℕ)) (u : List ℕ) → followed w (us ++ (u ∷ [])) ≡ followed w us ++ (bytes w ++ u)
followed_more w [] u = ap (λ v. bytes w ++ v) (append-nil u)
followed_more w (v ∷ us) u = ap (λ x. bytes w ++ (v ++ x)) (followed_more w us u) ∙ sym (simp append_assoc)

pub separated_more : (w : String) (us : List (List ℕ)) (u : List ℕ) → 0 < length us → separated w (us ++ (u ∷ [])) ≡ separated w us ++ (bytes w ++ u)
separated_more w [] u h = absurd (not-suc-le-zero h)
separated_more w (v ∷ us) u h = ap (λ x. v ++ x) (followed_more w us u) ∙ sym (append_assoc v (followed w us) (bytes w ++ u))

-- f 0, f 1, .., with one more behind them
one_more_separated : (w : String) (f : ℕ → List ℕ) (j : ℕ) (s : List ℕ)
    → separated w (each (suc (suc j)) (λ i. f i ∷ [])) ++ s ≡ separated w (each (suc j) (λ i. f i ∷ [])) ++ (bytes w ++ (f (suc j) ++ s))
one_more_separated w f j s =
    let us = each (suc j) (λ i. f i ∷ []) in
    ap (λ u. u ++ s) (separated_more w us (f (suc j)) (omega (arith, each_length (suc j) f)))
    ∙ append_assoc (separated w us) (bytes w ++ f (suc j)) s ∙ ap (λ u. separated w us ++ u) (append_assoc (bytes w) (f (suc j)) s)

-- ---- the formula of a letter, or of a set of marks

abbrev pub literal_formula : ℕ → ℕ → Formula
literal_formula l i = cond (has l i) (proposition i) (negation (proposition i))

abbrev pub formula_of : ℕ → ℕ → Formula
formula_of zero l = top
formula_of (suc zero) l = literal_formula l 0
formula_of (suc (suc k)) l = conjunction (formula_of (suc k) l) (literal_formula l (suc k))

literal_same : (l i j : ℕ) → holds (literal_formula l j) i ≡ true → has i j ≡ has l j
literal_same l i j h = go (has l j) h
  where
    go : (b : Bool) → holds (cond b (proposition j) (negation (proposition j))) i ≡ true → has i j ≡ b
    go true h = h
    go false h = not-true (has i j) h

literal_own : (l j : ℕ) → holds (literal_formula l j) l ≡ true
literal_own l j = go (has l j) refl
  where
    go : (b : Bool) → has l j ≡ b → holds (cond b (proposition j) (negation (proposition j))) l ≡ true
    go true e = e
    go false e = ap not e

formula_same : (k l i : ℕ) → holds (formula_of k l) i ≡ true → (j : ℕ) → j < k → has i j ≡ has l j
formula_same zero l i h j g = absurd (not-suc-le-zero g)
formula_same (suc zero) l i h j g = let e : 0 ≡ j = omega arith in subst (λ n. has i n ≡ has l n) e (literal_same l i 0 h)
formula_same (suc (suc k)) l i h j g = go (ℕ_discrete j (suc k)) (λ e. formula_same (suc k) l i (and_left before last h) j e)
  where
    before : Bool
    before = holds (formula_of (suc k) l) i

    last : Bool
    last = holds (literal_formula l (suc k)) i

    go : Dec (j ≡ suc k) → (j < suc k → has i j ≡ has l j) → has i j ≡ has l j
    go (yes e) ih = subst (λ n. has i n ≡ has l n) (sym e) (literal_same l i (suc k) (and_right before last h))
    go (no e) ih = ih (omega arith)

formula_own : (k l : ℕ) → holds (formula_of k l) l ≡ true
formula_own zero l = refl
formula_own (suc zero) l = literal_own l 0
formula_own (suc (suc k)) l = and_true (formula_own (suc k) l) (literal_own l (suc k))

pub holds_formula : (k l i : ℕ) → l < 2 ^ k → i < 2 ^ k → holds (formula_of k l) i ≡ eqb i l
holds_formula k l i hl hi = go (ℕ_discrete i l) (holds (formula_of k l) i) refl
  where
    go : Dec (i ≡ l) → (b : Bool) → holds (formula_of k l) i ≡ b → b ≡ eqb i l
    go (yes e) b h = sym h ∙ ap (holds (formula_of k l)) e ∙ formula_own k l ∙ sym (eq-eqb i l e)
    go (no e) true h = absurd (e (has_same k i l hi hl (formula_same k l i h)))
    go (no e) false h = sym (ne_eqb i l e)

-- ---- the text of a product

module _ (d : ℕ) (a : Atoms) where
  abbrev ands : Formula → Stream → Parsed Formula
  ands = repeat (operation "&" conjunction (unary d a))

  abbrev ors : Formula → Stream → Parsed Formula
  ors = repeat (operation "|" disjunction (conjunctions (unary d a)))

  -- no operator follows
  pub product_ends : (f : Formula) (u : Stream) → next (is_sign "&") u ≡ false → ands f u ≡ gives (f, u)
  product_ends f u h = repeat_done (operation "&" conjunction (unary d a)) (and_shrinks d a) f u (rw h)

  pub sum_ends : (f : Formula) (u : Stream) → next (is_sign "|") u ≡ false → ors f u ≡ gives (f, u)
  sum_ends f u h = repeat_done (operation "|" disjunction (conjunctions (unary d a))) (or_shrinks d a) f u (rw h)

  -- an atom alone
  pub alone : (s : Stream) (f : Formula) (u : Stream) → unary d a s ≡ gives (f, u) → next (is_sign "&") u ≡ false → next (is_sign "|") u ≡ false
      → disjunctions (unary d a) s ≡ gives (f, u)
  alone s f u e h g = ap (λ x. then (then x ands) ors) e ∙ ap (λ x. then x ors) (product_ends f u h) ∙ sum_ends f u g

  -- one literal for each number below k, and what may follow one
  module _ (l k : ℕ) (literal : ℕ → List ℕ) (Follows : List ℕ → Type 0) (sign : (s : List ℕ) → Follows (38 ∷ s))
      (read : (i : ℕ) → i < k → (s : List ℕ) → Follows s → Reads (unary d a) (literal i ++ s) (λ u. gives (literal_formula l i, u)) s) where
    literals_read : (j : ℕ) → j < k → (s : List ℕ) → Follows s
        → Reads (conjunctions (unary d a)) (separated "&" (each (suc j) (λ i. literal i ∷ [])) ++ s) (ands (formula_of (suc j) l)) s
    literals_read zero h s e o =
        let n = read 0 h s e o in
        record { offset = n.offset; is = ap (λ u. conjunctions (unary d a) (lex (u ++ s) 0 o)) (append-nil (literal 0)) ∙ ap (λ x. then x ands) n.is }
    literals_read (suc j) h s e o =
        let r : List ℕ = 38 ∷ (literal (suc j) ++ s) in
        let ih = literals_read j (omega arith) r (sign (literal (suc j) ++ s)) o in
        let n = read (suc j) h s e (ih.offset + 1) in
        record {
          offset = n.offset;
          is = ap (λ u. conjunctions (unary d a) (lex u 0 o)) (one_more_separated "&" literal j s) ∙ ih.is
              ∙ repeat_again (operation "&" conjunction (unary d a)) (and_shrinks d a) (formula_of (suc j) l) (lex r 0 ih.offset)
              (ap (λ x. then x (λ g u. gives (again (conjunction (formula_of (suc j) l) g) u))) n.is);
        }

    pub product_read : (j : ℕ) → j < k → (s : List ℕ) → Follows s → ((o : ℕ) → next (is_sign "&") (lex s 0 o) ≡ false)
        → Reads (conjunctions (unary d a)) (separated "&" (each (suc j) (λ i. literal i ∷ [])) ++ s) (λ u. gives (formula_of (suc j) l, u)) s
    product_read j h s e no_and o =
        let n = literals_read j h s e o in
        record { offset = n.offset; is = n.is ∙ product_ends (formula_of (suc j) l) (lex s 0 n.offset) (no_and n.offset) }

    -- no other product beside it
    pub product_alone : (j : ℕ) → j < k → (s : List ℕ) → Follows s → ((o : ℕ) → next (is_sign "&") (lex s 0 o) ≡ false) → ((o : ℕ) → next (is_sign "|") (lex s 0 o) ≡ false)
        → Reads (disjunctions (unary d a)) (separated "&" (each (suc j) (λ i. literal i ∷ [])) ++ s) (λ u. gives (formula_of (suc j) l, u)) s
    product_alone j h s e no_and no_or o =
        let n = product_read j h s e no_and o in
        record { offset = n.offset; is = ap (λ x. then x ors) n.is ∙ sum_ends (formula_of (suc j) l) (lex s 0 n.offset) (no_or n.offset) }
