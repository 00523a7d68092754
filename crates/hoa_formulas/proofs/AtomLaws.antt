-- Laws of atoms: what their first byte, and the token that it opens, say of them.
use mathlib.Core.Path.{◌≡◌, refl, sym, ap, ◌∙◌, subst}
use mathlib.Core.Logic.{◌≢◌, ◌⊎◌, inl, inr}
use mathlib.Core.Bool.{true, false, true≢false}
use mathlib.Core.List.{List, [], ◌∷◌}
use mathlib.Core.Option.{Option, none, some}
use Prim.Native.Nat.{ℕ, ◌≤◌, ◌<◌}
use Prim.Native.String.{String}
use native.Mathlib.Omega.{arith}
use borrow.Author.Tests.{ne_eqb}
use lib.ListN.{length, get_or}
use lib.Seq.{slice}
use Rattle.std.specs.Prelude.{Result, Ok, Err}
use Rattle.refusals.specs.declared.Refusal.{Refusal}
use Rattle.refusals.specs.declared.Refusal.TheVariants.{Form}
use Rattle.automaton.specs.Bytes.{bytes}
use Rattle.hoa_text.specs.Basics.{is_some, same}
use Rattle.hoa_text.specs.Tokens.{blank, digit, Stream, stands, over, broken, left}
use Rattle.hoa_text.specs.Tokens as Hoa
use Rattle.hoa_text.specs.Grammar.{number_of, is_word, next, at, peek, refuses, Parsed, then}
use Rattle.hoa_text.specs.Formulas.{Formula, Atoms, propositions, sets, proposition, top, bottom, number_given, parsed_set, named, constant, atom, negated, closed}
use Rattle.hoa_text.specs.Formulas as Formulas
use Rattle.hoa_text.specs.RunOffsets.{digit_blank}
use Rattle.hoa_text.specs.FirstByte.{excluded}
use Rattle.hoa_tokens.proofs.Due.{number_due}
use Rattle.hoa_formulas.specs.declared.Atoms as Declared
use Rattle.hoa_formulas.specs.declared.Atoms.TheVariants.{Propositions, Sets}
use Rattle.hoa_formulas.specs.declared.FormulaRead.{FormulaRead}
use Rattle.hoa_formulas.specs.Answers.{Answers}
use Rattle.hoa_formulas.specs.Parts.{atoms_of, Denies, ConstantWord, SetWord}
use Rattle.hoa_formulas.proofs.MemberSets.{all_members, no_members}
use Rattle.hoa_formulas.proofs.Laws.{answers_from}

-- ---- the first byte

-- a word does not stand where another byte does than its first
no_word_at : (w : String) (c : ℕ) (v : List ℕ) → bytes w ≡ c ∷ v → (s : List ℕ) (i : ℕ) → blank (get_or s i 0) ≡ false → get_or s i 0 ≢ c → next (is_word w) (left s i) ≡ false
no_word_at w c v e s i b n =
    excluded s i (is_word w) b
    (record {
      words = λ d v. rw (e, ne_eqb c (get_or s i 0) (λ q. n (sym q)));
      items = λ v. refl;
      numbers = λ d v. refl;
      texts = λ v. refl;
      others = refl;
      nothing = refl;
      signs = λ v. refl;
    })

-- a digit opens no word
digit_no_word : (s : List ℕ) (i : ℕ) → digit (get_or s i 0) ≡ true → (w : String) → next (is_word w) (left s i) ≡ false
digit_no_word s i d w =
    excluded s i (is_word w) (digit_blank (get_or s i 0) d)
    (record {
      words = λ n v. absurd (true≢false (sym d ∙ n));
      items = λ v. refl;
      numbers = λ e v. refl;
      texts = λ v. refl;
      others = refl;
      nothing = refl;
      signs = λ v. refl;
    })

-- no number stands where no digit does
no_digit_no_number : (s : List ℕ) (i : ℕ) → blank (get_or s i 0) ≡ false → digit (get_or s i 0) ≡ false → next (λ t. is_some (number_of t)) (left s i) ≡ false
no_digit_no_number s i b d =
    excluded s i (λ t. is_some (number_of t)) b
    (record {
      words = λ n v. refl;
      items = λ v. refl;
      numbers = λ e v. absurd (true≢false (sym e ∙ d));
      texts = λ v. refl;
      others = refl;
      nothing = refl;
      signs = λ v. refl;
    })

not_some : {A : Type 0} (y : Option A) → is_some y ≡ false → y ≡ none
not_some none h = refl
not_some (some a) h = absurd (true≢false h)

peek_none : {A : Type 0} (f : Hoa.Token → Option A) (u : Stream) → next (λ t. is_some (f t)) u ≡ false → peek f u ≡ none
peek_none f (stands o t u) h = not_some (f t) h
peek_none f (over o) h = refl
peek_none f (broken q o) h = refl

-- ---- what stands there and what does not

module _ (u : Stream) where
  no_constant : next (is_word "t") u ≡ false → next (is_word "f") u ≡ false → (x : Parsed Formula) → constant x u ≡ x
  no_constant t f x = rw (t, f)

  no_set : next (is_word "Inf") u ≡ false → next (is_word "Fin") u ≡ false → (m : ℕ) → named (sets m) u ≡ refuses (Form (at u))
  no_set i f m = rw (i, f)

  no_proposition : next (λ t. is_some (number_of t)) u ≡ false → (k : ℕ) → named (propositions k) u ≡ refuses (Form (at u))
  no_proposition h k = ap (λ x. then x (number_given k (at u))) (number_due u (at u) (peek_none number_of u h) refl)

  no_name : next (λ t. is_some (number_of t)) u ≡ false → next (is_word "Inf") u ≡ false → next (is_word "Fin") u ≡ false → (a : Atoms) → named a u ≡ refuses (Form (at u))
  no_name n i f (propositions k) = no_proposition n k
  no_name n i f (sets m) = no_set i f m

-- ---- a digit

module _ (s : List ℕ) (i : ℕ) (d : digit (get_or s i 0) ≡ true) where
  digit_atom : (a : Atoms) → atom a (left s i) ≡ named a (left s i)
  digit_atom a = no_constant (left s i) (digit_no_word s i d "t") (digit_no_word s i d "f") (named a (left s i))

  module _ (a : Declared.Atoms) (n : ℕ) where
    pub digit_proposition : a ≡ Propositions n → (r : Result FormulaRead Refusal) → Answers s i (Formulas.declared n (left s i)) r → Answers s i (atom (atoms_of a) (left s i)) r
    digit_proposition e r h = answers_from s i i (omega arith) (ap (λ a. atom (atoms_of a) (left s i)) e ∙ digit_atom (propositions n)) r h

    pub digit_in_condition : a ≡ Sets n → (o : ℕ) → o ≡ at (left s i) → atom (atoms_of a) (left s i) ≡ refuses (Form o)
    digit_in_condition e o h =
        ap (λ a. atom (atoms_of a) (left s i)) e ∙ digit_atom (sets n) ∙ no_set (left s i) (digit_no_word s i d "Inf") (digit_no_word s i d "Fin") n
        ∙ ap (λ o. refuses (Form o)) (sym h)

-- ---- another byte

module _ (s : List ℕ) (i : ℕ) (b : blank (get_or s i 0) ≡ false) (d : digit (get_or s i 0) ≡ false) where
  other_atom : get_or s i 0 ≢ 116 → get_or s i 0 ≢ 102 → (a : Atoms) → atom a (left s i) ≡ named a (left s i)
  other_atom t f a = no_constant (left s i) (no_word_at "t" 116 [] refl s i b t) (no_word_at "f" 102 [] refl s i b f) (named a (left s i))

  module _ (p : get_or s i 0 ≢ 73) (q : get_or s i 0 ≢ 70) where
    unnamed : (a : Atoms) → named a (left s i) ≡ refuses (Form (at (left s i)))
    unnamed a = no_name (left s i) (no_digit_no_number s i b d) (no_word_at "Inf" 73 _ refl s i b p) (no_word_at "Fin" 70 _ refl s i b q) a

    pub constant_atom : (a : Atoms) → atom a (left s i) ≡ constant (refuses (Form (at (left s i)))) (left s i)
    constant_atom a = ap (λ x. constant x (left s i)) (unnamed a)

    pub no_atom : get_or s i 0 ≢ 116 → get_or s i 0 ≢ 102 → (a : Atoms) → atom a (left s i) ≡ refuses (Form (at (left s i)))
    no_atom t f a = other_atom t f a ∙ unnamed a

-- ---- an `I` or an `F`

opens_name : (P : ℕ → Type 0) → P 73 → P 70 → (b : ℕ) → (b ≡ 73) ⊎ (b ≡ 70) → P b
opens_name P x y b (inl e) = subst P (sym e) x
opens_name P x y b (inr e) = subst P (sym e) y

module _ (s : List ℕ) (i : ℕ) (h : (get_or s i 0 ≡ 73) ⊎ (get_or s i 0 ≡ 70)) where
  no_blank : blank (get_or s i 0) ≡ false
  no_blank = opens_name (λ b. blank b ≡ false) refl refl (get_or s i 0) h

  no_digit : digit (get_or s i 0) ≡ false
  no_digit = opens_name (λ b. digit b ≡ false) refl refl (get_or s i 0) h

  name_atom : (a : Atoms) → atom a (left s i) ≡ named a (left s i)
  name_atom a =
      other_atom s i no_blank no_digit (opens_name (λ b. b ≢ 116) (λ e. omega arith) (λ e. omega arith) (get_or s i 0) h)
      (opens_name (λ b. b ≢ 102) (λ e. omega arith) (λ e. omega arith) (get_or s i 0) h) a

  module _ (a : Declared.Atoms) (n : ℕ) where
    pub name_in_label : a ≡ Propositions n → (o : ℕ) → o ≡ at (left s i) → atom (atoms_of a) (left s i) ≡ refuses (Form o)
    name_in_label e o x =
        ap (λ a. atom (atoms_of a) (left s i)) e ∙ name_atom (propositions n) ∙ no_proposition (left s i) (no_digit_no_number s i no_blank no_digit) n
        ∙ ap (λ o. refuses (Form o)) (sym x)

    pub name_set : a ≡ Sets n → (r : Result FormulaRead Refusal) → Answers s i (named (sets n) (left s i)) r → Answers s i (atom (atoms_of a) (left s i)) r
    name_set e r x = answers_from s i i (omega arith) (ap (λ a. atom (atoms_of a) (left s i)) e ∙ name_atom (sets n)) r x

-- ---- `t` and `f`

module _ (s : List ℕ) (i e : ℕ) (l : i < e) (m : e ≤ length s) where
  pub is_true : same (116 ∷ []) (slice i e s) ≡ true → ConstantWord s i e (Ok (record { members = 65535; end = e }))
  is_true h = record { formula = top; is = rw h; members = all_members; from = l; to = m }

  module _ (no : same (116 ∷ []) (slice i e s) ≡ false) where
    pub is_false : same (102 ∷ []) (slice i e s) ≡ true → ConstantWord s i e (Ok (record { members = 0; end = e }))
    is_false h = record { formula = bottom; is = rw (no, h); members = no_members; from = l; to = m }

    pub is_neither : same (102 ∷ []) (slice i e s) ≡ false → ConstantWord s i e (Err (Form i))
    is_neither h = rw (no, h)

-- ---- Inf and Fin

module _ (n : ℕ) (s : List ℕ) (i e : ℕ) (l : i < e) where
  pub is_inf : same (73 ∷ 110 ∷ 102 ∷ []) (slice i e s) ≡ true → (r : Result FormulaRead Refusal) → Answers s e (parsed_set n (left s e)) r → SetWord s i e n r
  is_inf h r g = answers_from s i e (omega arith) (rw h) r g

  module _ (no : same (73 ∷ 110 ∷ 102 ∷ []) (slice i e s) ≡ false) where
    module _ (h : same (70 ∷ 105 ∷ 110 ∷ []) (slice i e s) ≡ true) where
      pub is_fin : (x r : FormulaRead) → Answers s e (parsed_set n (left s e)) (Ok x) → Denies x r → SetWord s i e n (Ok r)
      is_fin x r g k = answers_from s i e (omega arith) (rw (no, h)) (Ok r) (k s e _ g)

      pub fin_refused : (r : Refusal) → Answers s e (parsed_set n (left s e)) (Err r) → SetWord s i e n (Err r)
      fin_refused r g = rw (no, h) (ap (λ y. then y negated) g)

    pub is_no_set : same (70 ∷ 105 ∷ 110 ∷ []) (slice i e s) ≡ false → SetWord s i e n (Err (Form i))
    is_no_set h = rw (no, h)
