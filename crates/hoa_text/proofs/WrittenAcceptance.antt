-- The text that is written of an acceptance is read back as a formula that holds of the sets of marks which the acceptance has.
use Rattle.std.specs.Prelude.{◌≡◌, refl, Bool, true, false, cond, ◌||◌, List, [], ◌∷◌, ◌++◌, ◌≢◌, ◌⊎◌, ℕ, zero, suc, ◌+◌, ◌-◌, ◌^◌, ◌≤◌, ◌<◌, eqb, length, get_or}
use Rattle.std.proofs.Common.{sym, ap, ap₂, ◌∙◌, subst, true≢false, append_assoc, append-nil, inl, inr, arith, lt-ltb, eq-eqb, ne_eqb, eqb-true, length-append, pow_pos}
use Rattle.std.proofs.Math.Bool.{or-false}
use Rattle.std.proofs.Math.Decide.{ℕ_discrete}
use Rattle.std.proofs.Math.Pow.{ones_lt}
use Rattle.meaning.specs.BitSet.{has}
use Rattle.meaning.specs.BitSetLaws.{has_zero, has_same}
use Rattle.meaning.proofs.FullSets.{has_below}
use Rattle.meaning.specs.TestLaws.{on_cond}
use Rattle.bits.specs.SingleSets.{has_single}
use Rattle.refusals.specs.declared.Refusal.TheVariants.{Undeclared}
use Rattle.automaton.specs.Bytes.{bytes}
use Rattle.hoa_text.specs.Tokens.{blank, digit, opens_word, in_word, word, run, Stream, stands, lex}
use Rattle.hoa_text.specs.Grammar.{is_sign, next, gives, refuses, Parsed, then, again, repeat}
use Rattle.hoa_text.specs.Formulas.{Formula, sets, proposition, top, bottom, negation, disjunction, holds, declared, closed, negated, operation, conjunctions, disjunctions, unary, deepest, acceptance_formula}
use Rattle.hoa_text.specs.Repetition.{repeat_again}
use Rattle.hoa_text.specs.FormulaProgress.{or_shrinks}
use Rattle.hoa_text.specs.Written.{decimal, separated, inf_of, condition_of, fin_of, set_text, marks_text, accepted, condition_text, body_line}
use Rattle.hoa_text.proofs.WrittenTokens.{SomeOffset, Reads, first_byte, number_read}
use Rattle.hoa_text.proofs.WrittenFormulas.{separated_more, literal_formula, formula_of, holds_formula, sum_ends, alone, product_read, product_alone}

-- ---- what may follow

abbrev NoAnd : List ℕ → Type 0
NoAnd s = (o : ℕ) → next (is_sign "&") (lex s 0 o) ≡ false

-- a text that does not go on with a word or an item name, nor with an operator
pub record Apart (s : List ℕ) : Type 0 where
  pub no_word : run in_word s ≡ []
  pub no_item : eqb (get_or s 0 0) 58 ≡ false
  pub no_and : NoAnd s
  pub no_or : (o : ℕ) → next (is_sign "|") (lex s 0 o) ≡ false

-- the end of a line, in front of the body
pub body_apart : (r : List ℕ) → Apart (10 ∷ (body_line ++ r))
body_apart r = record { no_word = refl; no_item = refl; no_and = λ o. refl; no_or = λ o. refl }

-- ---- a set, and a product that names every set

module _ (d m : ℕ) (small : m ≤ 4) where
  abbrev operand : Stream → Parsed Formula
  operand = unary (suc d) (sets m)

  in_brackets_read : (i : ℕ) → i < m → (s : List ℕ) → Reads (λ u. then (declared m u) closed) (decimal i ++ (41 ∷ s)) (λ u. gives (proposition i, u)) s
  in_brackets_read i h s o =
      let k = number_read i (omega arith) (41 ∷ s) (first_byte 41 s refl) o in
      record {
        offset = k.offset + 1;
        is = ap (λ u. then (declared m u) closed) k.is
            ∙ ap (λ t. then (cond t (gives (proposition i, lex (41 ∷ s) 0 k.offset)) (refuses (Undeclared o))) closed) (lt-ltb i m h);
      }

  inf_read : (i : ℕ) → i < m → (s : List ℕ) → Reads operand (inf_of i ++ s) (λ u. gives (proposition i, u)) s
  inf_read i h s o =
      let e : inf_of i ++ s ≡ bytes "Inf(" ++ (decimal i ++ (41 ∷ s)) = simp append_assoc in
      let k = in_brackets_read i h s (o + 1 + 1 + 1 + 1) in
      record { offset = k.offset; is = ap (λ u. operand (lex u 0 o)) e ∙ k.is }

  fin_read : (i : ℕ) → i < m → (s : List ℕ) → Reads operand (fin_of i ++ s) (λ u. gives (negation (proposition i), u)) s
  fin_read i h s o =
      let e : fin_of i ++ s ≡ bytes "Fin(" ++ (decimal i ++ (41 ∷ s)) = simp append_assoc in
      let k = in_brackets_read i h s (o + 1 + 1 + 1 + 1) in
      record { offset = k.offset; is = ap (λ u. operand (lex u 0 o)) e ∙ ap (λ x. then x negated) k.is }

  set_read : (x i : ℕ) → i < m → (s : List ℕ) → Reads operand (set_text x i ++ s) (λ u. gives (literal_formula x i, u)) s
  set_read x i h s o = go (has x i)
    where
      go : (b : Bool) → SomeOffset (operand (lex (cond b (inf_of i) (fin_of i) ++ s) 0 o)) (λ j. gives (cond b (proposition i) (negation (proposition i)), lex s 0 j))
      go true = inf_read i h s o
      go false = fin_read i h s o

-- ---- the sets of marks below n that the acceptance a has, of m sets

-- p says yes to them
record Says (m a n : ℕ) (p : ℕ → Bool) : Type 0 where
  below : (x : ℕ) → x < 2 ^ m → x < n → p x ≡ has a x
  past : (x : ℕ) → x < 2 ^ m → n ≤ x → p x ≡ false

says_none : (m a : ℕ) → Says m a 0 (λ x. false)
says_none m a = record { below = λ x h l. absurd (omega arith); past = λ x h l. refl }

module _ (m a n : ℕ) (p : ℕ → Bool) (h : Says m a n p) where
  says_not : has a n ≡ false → Says m a (suc n) p
  says_not e = record { below = λ x l g. go x l g (ℕ_discrete x n); past = λ x l g. h.past x l (omega arith) }
    where
      go : (x : ℕ) → x < 2 ^ m → x < suc n → Dec (x ≡ n) → p x ≡ has a x
      go x l g (yes q) = h.past x l (omega arith) ∙ sym (ap (has a) q ∙ e)
      go x l g (no q) = h.below x l (omega arith)

  -- and to n
  says_more : n < 2 ^ m → has a n ≡ true → Says m a (suc n) (λ x. p x || holds (formula_of m n) x)
  says_more small e = record {
    below = λ x l g. go x l g (ℕ_discrete x n);
    past = λ x l g. ap₂ ◌||◌ (h.past x l (omega arith)) (holds_formula m n x small l ∙ ne_eqb x n (λ q. omega arith));
  }
    where
      go : (x : ℕ) → x < 2 ^ m → x < suc n → Dec (x ≡ n) → (p x || holds (formula_of m n) x) ≡ has a x
      go x l g (yes q) = ap₂ ◌||◌ (h.past x l (omega arith)) (holds_formula m n x small l ∙ eq-eqb x n q) ∙ sym (ap (has a) q ∙ e)
      go x l g (no q) = ap₂ ◌||◌ (h.below x l (omega arith)) (holds_formula m n x small l ∙ ne_eqb x n q) ∙ or-false (has a x)

module _ (d k a : ℕ) (small : suc k ≤ 4) where
  abbrev m : ℕ
  m = suc k

  abbrev products : Stream → Parsed Formula
  products = conjunctions (unary (suc d) (sets m))

  abbrev sums : Formula → Stream → Parsed Formula
  sums = repeat (operation "|" disjunction products)

  marks_read : (x : ℕ) (s : List ℕ) → NoAnd s → Reads products (marks_text m x ++ s) (λ u. gives (formula_of m x, u)) s
  marks_read x s h = product_read (suc d) (sets m) x m (set_text x) (λ s. Unit {0}) (λ s. tt) (λ i l s e. set_read d m small x i l s) k (omega arith) s tt h

  -- the texts us are read as a formula of them
  record Sum (n : ℕ) (us : List (List ℕ)) : Type 0 where
    formula : Formula
    some : 0 < length us
    reads : (s : List ℕ) → NoAnd s → Reads (disjunctions (unary (suc d) (sets m))) (separated "|" us ++ s) (sums formula) s
    says : Says m a n (holds formula)

  abbrev NoneOrSum : ℕ → List (List ℕ) → Type 0
  NoneOrSum n us = ((us ≡ []) × Says m a n (λ x. false)) ⊎ Sum n us

  one_more : (n : ℕ) → n < 2 ^ m → has a n ≡ true → (us : List (List ℕ)) → NoneOrSum n us → Sum (suc n) (us ++ (marks_text m n ∷ []))
  one_more n l e us (inl (z, h)) = record {
    formula = formula_of m n;
    some = omega (arith, length-append us (marks_text m n ∷ []));
    reads = λ s g o.
        let t = marks_read n s g o in
        record {
          offset = t.offset;
          is = ap (λ vs. disjunctions (unary (suc d) (sets m)) (lex (separated "|" (vs ++ (marks_text m n ∷ [])) ++ s) 0 o)) z
              ∙ ap (λ u. disjunctions (unary (suc d) (sets m)) (lex (u ++ s) 0 o)) (append-nil (marks_text m n)) ∙ ap (λ x. then x sums) t.is;
        };
    says = says_more m a n (λ x. false) h l e;
  }
  one_more n l e us (inr h) = record {
    formula = disjunction h.formula (formula_of m n);
    some = omega (arith, length-append us (marks_text m n ∷ []));
    reads = λ s g o.
        let r : List ℕ = 124 ∷ (marks_text m n ++ s) in
        let f = h.reads r (λ i. refl) o in
        let t = marks_read n s g (f.offset + 1) in
        record {
          offset = t.offset;
          is = ap (λ u. disjunctions (unary (suc d) (sets m)) (lex (u ++ s) 0 o)) (separated_more "|" us (marks_text m n) h.some)
              ∙ ap (λ u. disjunctions (unary (suc d) (sets m)) (lex u 0 o)) (append_assoc (separated "|" us) (124 ∷ marks_text m n) s) ∙ f.is
              ∙ repeat_again (operation "|" disjunction products) (or_shrinks (suc d) (sets m)) h.formula (lex r 0 f.offset)
              (ap (λ x. then x (λ g u. gives (again (disjunction h.formula g) u))) t.is);
        };
    says = says_more m a n (holds h.formula) h.says l e;
  }

  accepted_read : (n : ℕ) → n ≤ 2 ^ m → NoneOrSum n (accepted m a n)
  accepted_read zero h = inl (refl, says_none m a)
  accepted_read (suc n) h = go (has a n) refl (accepted_read n (omega arith))
    where
      go : (b : Bool) → has a n ≡ b → NoneOrSum n (accepted m a n) → NoneOrSum (suc n) (accepted m a n ++ cond b (marks_text m n ∷ []) [])
      go true e ih = inr (one_more n h e (accepted m a n) ih)
      go false e ih = subst (NoneOrSum (suc n)) (sym (append-nil (accepted m a n))) (skipped ih)
        where
          skipped : NoneOrSum n (accepted m a n) → NoneOrSum (suc n) (accepted m a n)
          skipped (inl (z, g)) = inl (z, says_not m a n (λ x. false) g e)
          skipped (inr g) = inr (record { formula = g.formula; some = g.some; reads = g.reads; says = says_not m a n (holds g.formula) g.says e })

-- ---- the condition

-- the text s gives a formula of the acceptance a, of m sets, and then r; with a depth of d
record Condition (d m a : ℕ) (s r : List ℕ) : Type 0 where
  formula : Formula
  is : Reads (disjunctions (unary d (sets m))) s (λ u. gives (formula, u)) r
  says : (x : ℕ) → x < 2 ^ m → holds formula x ≡ has a x

module _ (d m a : ℕ) (r : List ℕ) (apart : Apart r) where
  -- the word of one letter c, where it gives the formula f
  letter_read : (c : ℕ) → blank c ≡ false → digit c ≡ false → opens_word c ≡ true → (f : Formula)
      → ((o : ℕ) (u : Stream) → unary (suc d) (sets m) (stands o (word (c ∷ [])) u) ≡ gives (f, u)) → ((x : ℕ) → x < 2 ^ m → holds f x ≡ has a x)
      → Condition (suc d) m a (c ∷ r) r
  letter_read c b n w f gives-it says-it = record {
    formula = f;
    is = λ o.
        let u = lex r 0 (o + 1) in
        let e : lex (c ∷ r) 0 o ≡ stands o (word (c ∷ [])) u = rw (b, n, w, apart.no_word, apart.no_item) in
        record {
          offset = o + 1;
          is = alone (suc d) (sets m) (lex (c ∷ r) 0 o) f u (ap (unary (suc d) (sets m)) e ∙ gives-it o u) (apart.no_and (o + 1)) (apart.no_or (o + 1));
        };
    says = says-it;
  }

  true_read : ((x : ℕ) → x < 2 ^ m → true ≡ has a x) → Condition (suc d) m a (bytes "t" ++ r) r
  true_read h = letter_read 116 refl refl refl top (λ o u. refl) h

  false_read : ((x : ℕ) → x < 2 ^ m → false ≡ has a x) → Condition (suc d) m a (bytes "f" ++ r) r
  false_read h = letter_read 102 refl refl refl bottom (λ o u. refl) h

-- Inf of all sets
all_read : (d m a : ℕ) → m ≤ 4 → (r : List ℕ) → Apart r → a ≡ 2 ^ (2 ^ m - 1) → Condition (suc d) m a (condition_of m ++ r) r
all_read d zero a h r apart e = true_read d 0 a r apart (λ x l. sym (ap (λ n. has n x) e ∙ has_single 0 x ∙ eq-eqb x 0 (omega arith)))
all_read d (suc k) a h r apart e = record {
  formula = formula_of (suc k) full;
  is = product_alone (suc d) (sets (suc k)) full (suc k) inf_of (λ s. Unit {0}) (λ s. tt) all_sets k (omega arith) r tt apart.no_and apart.no_or;
  says = λ x l. holds_formula (suc k) full x (ones_lt (suc k)) l ∙ sym (ap (λ n. has n x) e ∙ has_single full x);
}
  where
    full : ℕ
    full = 2 ^ suc k - 1

    all_sets : (i : ℕ) → i < suc k → (s : List ℕ) → Unit {0} → Reads (unary (suc d) (sets (suc k))) (inf_of i ++ s) (λ u. gives (literal_formula full i, u)) s
    all_sets i l s u =
        subst (λ b. Reads (unary (suc d) (sets (suc k))) (inf_of i ++ s) (λ u. gives (cond b (proposition i) (negation (proposition i)), u)) s) (sym (has_below (suc k) i l)) (inf_read d (suc k) h i l s)

-- a sum; without sets every acceptance has another form
sum_read : (d m a : ℕ) → m ≤ 4 → a < 2 ^ (2 ^ m) → (r : List ℕ) → Apart r → a ≢ 2 ^ (2 ^ m - 1) → a ≢ 0 → Condition (suc d) m a (separated "|" (accepted m a (2 ^ m)) ++ r) r
sum_read d zero a h l r apart p q = absurd (omega arith)
sum_read d (suc k) a h l r apart p q = go (accepted_read d k a h (2 ^ suc k) (omega arith))
  where
    go : NoneOrSum d k a h (2 ^ suc k) (accepted (suc k) a (2 ^ suc k)) → Condition (suc d) (suc k) a (separated "|" (accepted (suc k) a (2 ^ suc k)) ++ r) r
    go (inl (z, g)) = absurd (q (has_same (2 ^ suc k) a 0 l (pow_pos (2 ^ suc k)) (λ x i. sym (g.below x i i) ∙ sym (has_zero x))))
    go (inr g) = record {
      formula = g.formula;
      is = λ o.
          let n = g.reads r apart.no_and o in
          record { offset = n.offset; is = n.is ∙ sum_ends (suc d) (sets (suc k)) g.formula (lex r 0 n.offset) (apart.no_or n.offset) };
      says = λ x i. g.says.below x i i;
    }

unlike : (a b : ℕ) → eqb a b ≡ false → a ≢ b
unlike a b e q = true≢false (sym (eq-eqb a b q) ∙ e)

condition_read : (d m a : ℕ) → m ≤ 4 → a < 2 ^ (2 ^ m) → (r : List ℕ) → Apart r → Condition (suc d) m a (condition_text m a ++ r) r
condition_read d m a h l r apart =
    let P : List ℕ → Type 0 = λ u. Condition (suc d) m a (u ++ r) r in
    on_cond P (eqb a (2 ^ (2 ^ m - 1))) _ _ (λ e. all_read d m a h r apart (eqb-true a _ e))
    (λ p. on_cond P (eqb a (2 ^ (2 ^ m) - 1)) _ _ (λ e. true_read d m a r apart (λ x i. sym (ap (λ n. has n x) (eqb-true a _ e) ∙ has_below (2 ^ m) x i)))
    (λ e. on_cond P (eqb a 0) _ _ (λ e. false_read d m a r apart (λ x i. sym (ap (λ n. has n x) (eqb-true a 0 e) ∙ has_zero x)))
    (λ q. sum_read d m a h l r apart (unlike a _ p) (unlike a 0 q))))

-- the text s is read as the acceptance a, of m sets, and then r
pub record ReadsBack (m a : ℕ) (s r : List ℕ) : Type 0 where
  pub formula : Formula
  pub is : Reads (acceptance_formula m) s (λ u. gives (formula, u)) r
  pub says : (x : ℕ) → x < 2 ^ m → holds formula x ≡ has a x

pub condition_read_back : (m a : ℕ) → m ≤ 4 → a < 2 ^ (2 ^ m) → (r : List ℕ) → Apart r → ReadsBack m a (condition_text m a ++ r) r
unfolding deepest
condition_read_back m a h l r apart =
    let c = condition_read 31 m a h l r apart in
    record { formula = c.formula; is = c.is; says = c.says }
