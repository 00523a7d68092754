-- The label that is written of a letter is read back as a formula that holds of that letter alone.
use Rattle.std.specs.Prelude.{◌≡◌, refl, Bool, true, false, cond, List, ◌∷◌, ◌++◌, ℕ, zero, suc, ◌+◌, ◌≤◌, ◌<◌}
use Rattle.std.proofs.Common.{ap, ◌∙◌, arith, lt-ltb}
use Rattle.meaning.specs.BitSet.{has}
use Rattle.automaton.specs.Bytes.{bytes}
use Rattle.hoa_text.specs.Tokens.{number, Stream, stands, lex}
use Rattle.hoa_text.specs.Grammar.{gives, then}
use Rattle.hoa_text.specs.Formulas.{propositions, proposition, negation, unary, negated, deepest, label}
use Rattle.hoa_text.specs.Written.{decimal, literal_of, label_of}
use Rattle.hoa_text.proofs.WrittenTokens.{SomeOffset, Reads, NoDigit, first_byte, number_read}
use Rattle.hoa_text.proofs.WrittenFormulas.{literal_formula, formula_of, product_alone}

proposition_read : (d k i : ℕ) → i < k → (o : ℕ) (s : Stream) → unary (suc d) (propositions k) (stands o (number i) s) ≡ gives (proposition i, s)
proposition_read d k i h o s = rw (lt-ltb i k h)

-- with a depth of two and more
literal_read : (d k l : ℕ) → k ≤ 4 → (i : ℕ) → i < k → (s : List ℕ) → NoDigit s
    → Reads (unary (suc (suc d)) (propositions k)) (literal_of l i ++ s) (λ u. gives (literal_formula l i, u)) s
literal_read d k l small i h s e o = go (has l i)
  where
    go : (x : Bool) → SomeOffset (unary (suc (suc d)) (propositions k) (lex (cond x (decimal i) (bytes "!" ++ decimal i) ++ s) 0 o))
        (λ j. gives (cond x (proposition i) (negation (proposition i)), lex s 0 j))
    go true =
        let n = number_read i (omega arith) s e o in
        record { offset = n.offset; is = ap (unary (suc (suc d)) (propositions k)) n.is ∙ proposition_read (suc d) k i h o (lex s 0 n.offset) }
    go false =
        let n = number_read i (omega arith) s e (o + 1) in
        record {
          offset = n.offset;
          is = ap (λ u. then (unary (suc d) (propositions k) u) negated) n.is ∙ ap (λ x. then x negated) (proposition_read d k i h (o + 1) (lex s 0 n.offset));
        }

pub label_read : (k l : ℕ) → k ≤ 4 → (r : List ℕ) → Reads (label k) (label_of k l ++ (93 ∷ r)) (λ u. gives (formula_of k l, u)) (93 ∷ r)
unfolding deepest
label_read zero l h r o = record { offset = o + 1; is = refl }
label_read (suc k) l h r o =
    product_alone 32 (propositions (suc k)) l (suc k) (literal_of l) NoDigit (λ s. first_byte 38 s refl) (literal_read 30 (suc k) l h) k (omega arith)
    (93 ∷ r) (first_byte 93 r refl) (λ o. refl) (λ o. refl) o
