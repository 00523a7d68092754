-- Laws of formulas.
use mathlib.Core.Path.{◌≡◌, refl, sym, ap, ◌∙◌}
use mathlib.Core.Logic.{◌≢◌}
use mathlib.Core.Bool.{true, false, ◌&&◌, true≢false, false≢true}
use mathlib.Core.List.{List, [], ◌∷◌}
use Prim.Native.Nat.{ℕ, zero, suc, ◌+◌, ◌-◌, ◌≤◌, ◌<◌}
use Prim.Native.String.{String}
use native.Mathlib.Omega.{arith}
use borrow.Author.Tests.{ne_eqb}
use lib.Bits.{bit_xor}
use lib.ListN.{length, get_or}
use Rattle.std.specs.Prelude.{Some, None, Result, Ok, Err}
use Rattle.refusals.specs.declared.Refusal.{Refusal}
use Rattle.refusals.specs.declared.Refusal.TheVariants.{Form}
use Rattle.automaton.specs.Bytes.{bytes}
use Rattle.hoa_text.specs.Tokens.{sign, token, piece, Stream, stands, left}
use Rattle.hoa_text.specs.Grammar.{is_sign, next, at, gives, refuses, Parsed, then, again, repeat}
use Rattle.hoa_text.specs.Formulas.{Formula, Atoms, propositions, sets, negation, atom, operation, disjunctions, negated, closed, negates, unary}
use Rattle.hoa_text.specs.Repetition.{Shrinks, repeat_again, repeat_done}
use Rattle.hoa_text.specs.Offsets.{inside}
use Rattle.hoa_text.specs.SignOffsets.{left_mark}
use Rattle.hoa_text.specs.FirstByte.{excluded}
use Rattle.hoa_tokens.specs.Answers.{Skipped}
use Rattle.hoa_offsets.specs.Behind.{is_sign_of, Behind}
use Rattle.hoa_offsets.specs.BehindLaws.{absent, present, behind_it}
use Rattle.hoa_formulas.specs.declared.FormulaRead.{FormulaRead}
use Rattle.hoa_formulas.proofs.MemberSets.{members_not}
use Rattle.hoa_formulas.specs.Answers.{Satisfy, Read, Answers}
use Rattle.hoa_formulas.specs.Parts.{Denies, Closes}

-- what is read from j on, as what is read from an earlier i on
pub answers_from : (s : List ℕ) (i j : ℕ) {x y : Parsed Formula} → i ≤ j → y ≡ x → (r : Result FormulaRead Refusal) → Answers s j x r → Answers s i y r
answers_from s i j l e (Ok a) h = record { formula = h.formula; is = e ∙ h.is; members = h.members; from = omega (arith, h.from); to = h.to }
answers_from s i j l e (Err r) h = e ∙ h

-- ---- one sign

-- the first byte is that sign
pub sign_first : (b : ℕ) → ((r : List ℕ) → piece b r ≡ token (sign (b ∷ [])) 0) → b ≢ 0 → (s : List ℕ) (i o : ℕ) → Skipped s i o → get_or s o 0 ≡ b → Behind s i b (Some (o + 1))
sign_first b is_sign_lem some s i o h e =
    let l : o < length s = inside s o (λ z. some (sym e ∙ z)) in
    let m : o ≡ o + 1 - 1 = omega arith in
    record {
      is = h.is ∙ left_mark b is_sign_lem s o l e ∙ ap (λ k. stands k (sign (b ∷ [])) (left s (o + 1))) m;
      from = omega (arith, h.from);
      to = omega arith;
    }

-- or another
pub sign_absent : (b : ℕ) (s : List ℕ) (i o : ℕ) → Skipped s i o → get_or s o 0 ≢ b → Behind s i b None
sign_absent b s i o h n =
    ap (next (is_sign_of b)) h.is
    ∙ excluded s o (is_sign_of b) h.ends
    (record {
      words = λ d v. refl;
      items = λ v. refl;
      numbers = λ d v. refl;
      texts = λ v. refl;
      others = refl;
      nothing = refl;
      signs = λ v. rw (ne_eqb b (get_or s o 0) (λ e. n (sym e)));
    })

-- ---- operators

-- x is what follows once the operands up to e gave the set
pub record Joined (w : String) (join : Formula → Formula → Formula) (operand : Stream → Parsed Formula) (s : List ℕ) (i : ℕ) (x : Parsed Formula) (set e : ℕ) : Type 0 where
  pub formula : Formula
  pub is : x ≡ repeat (operation w join operand) formula (left s e)
  pub members : Satisfy set formula
  pub from : i < e
  pub to : e ≤ length s

module _ (w : String) (b : ℕ) (spelled : bytes w ≡ b ∷ []) (join : Formula → Formula → Formula) (operand : Stream → Parsed Formula) (shrinks : Shrinks (operation w join operand)) (s : List ℕ) (i : ℕ) where
  module _ (x : Parsed Formula) (set e : ℕ) (j : Joined w join operand s i x set e) where
    pub joined_done : Behind s e b None → Read s i x set e
    joined_done h = record {
      formula = j.formula;
      is = j.is ∙ repeat_done (operation w join operand) shrinks j.formula (left s e) (rw (absent w b spelled s e h));
      members = j.members;
      from = j.from;
      to = j.to;
    }

    module _ (n : ℕ) (h : Behind s e b (Some n)) where
      turned : operation w join operand j.formula (left s e) ≡ then (operand (left s n)) (λ g u. gives (again (join j.formula g) u))
      turned =
          rw (present w b spelled s e n h)
          (ap (λ u. then (operand u) (λ g u. gives (again (join j.formula g) u))) (behind_it w b spelled s e n h))

      pub joined_again : (more both m : ℕ) → (k : Read s n (operand (left s n)) more m) → Satisfy both (join j.formula k.formula) → Joined w join operand s i x both m
      joined_again more both m k g = record {
        formula = join j.formula k.formula;
        is =
            j.is ∙ repeat_again (operation w join operand) shrinks j.formula (left s e)
            (turned ∙ ap (λ y. then y (λ g u. gives (again (join j.formula g) u))) k.is);
        members = g;
        from = omega (arith, j.from, h.from, k.from);
        to = k.to;
      }

-- ---- behind what was read

pub denies_read : (read : FormulaRead) → Denies read (record { members = bit_xor read.members 65535; end = read.end })
denies_read read s i x h = record {
  formula = negation h.formula;
  is = ap (λ y. then y negated) h.is;
  members = members_not read.members h.formula h.members;
  from = h.from;
  to = h.to;
}

module _ (read : FormulaRead) (s : List ℕ) where
  pub stays_open : Behind s read.end 41 None → (o : ℕ) → o ≡ at (left s read.end) → Closes s read (Err (Form o))
  stays_open h o z i x k =
      ap (λ y. then y closed) k.is ∙ rw (absent ")" 41 refl s read.end h) (ap (λ o. refuses (Form o)) (sym z))

-- ---- `!` and brackets

-- where no `!` stands, and where it is no operator
pub no_not : (a : Atoms) (u : Stream) → next (is_sign "!") u ≡ false → (negates a && next (is_sign "!") u) ≡ false
no_not (propositions k) u h = h
no_not (sets m) u h = refl

pub not_an_operator : (a : Atoms) (u : Stream) → negates a ≡ false → (negates a && next (is_sign "!") u) ≡ false
not_an_operator (propositions k) u h = absurd (true≢false h)
not_an_operator (sets m) u h = refl

module _ (s : List ℕ) (i n : ℕ) where
  denied_is : (d : ℕ) (a : Atoms) → negates a ≡ true → Behind s i 33 (Some n) → d ≢ 0 → unary d a (left s i) ≡ then (unary (d - 1) a (left s n)) negated
  denied_is zero a t h e = absurd (e refl)
  denied_is (suc d) (sets m) t h e = absurd (false≢true t)
  denied_is (suc d) (propositions k) t h e =
      let a = propositions k in
      let m : d ≡ suc d - 1 = omega arith in
      rw (present "!" 33 refl s i n h) (ap (λ u. then (unary d a u) negated) (behind_it "!" 33 refl s i n h) ∙ ap (λ d. then (unary d a (left s n)) negated) m)

  module _ (a : Atoms) (none : (negates a && next (is_sign "!") (left s i)) ≡ false) where
    opened_is : (d : ℕ) → Behind s i 40 (Some n) → d ≢ 0 → unary d a (left s i) ≡ then (disjunctions (unary (d - 1) a) (left s n)) closed
    opened_is zero h e = absurd (e refl)
    opened_is (suc d) h e =
        let m : d ≡ suc d - 1 = omega arith in
        rw (none, present "(" 40 refl s i n h)
        (ap (λ u. then (disjunctions (unary d a) u) closed) (behind_it "(" 40 refl s i n h) ∙ ap (λ d. then (disjunctions (unary d a) (left s n)) closed) m)

    atom_first : (d : ℕ) → Behind s i 40 None → unary d a (left s i) ≡ atom a (left s i)
    atom_first zero h = rw (none, absent "(" 40 refl s i h)
    atom_first (suc d) h = rw (none, absent "(" 40 refl s i h)

-- ---- the first byte, at o, chooses

module _ (a : Atoms) (s : List ℕ) (i o d : ℕ) (h : Skipped s i o) where
  module _ (e : get_or s o 0 ≡ 33) (t : negates a ≡ true) where
    stands_not : Behind s i 33 (Some (o + 1))
    stands_not = sign_first 33 (λ r. refl) (λ z. absurd (omega arith)) s i o h e

    module _ (z : d ≢ 0) where
      denied : unary d a (left s i) ≡ then (unary (d - 1) a (left s (o + 1))) negated
      denied = denied_is s i (o + 1) d a t stands_not z

      pub not_read : (x r : FormulaRead) → Answers s (o + 1) (unary (d - 1) a (left s (o + 1))) (Ok x) → Denies x r → Answers s i (unary d a (left s i)) (Ok r)
      not_read x r g k = answers_from s i (o + 1) (omega (arith, h.from)) denied (Ok r) (k s (o + 1) _ g)

      pub not_refused : (r : Refusal) → Answers s (o + 1) (unary (d - 1) a (left s (o + 1))) (Err r) → Answers s i (unary d a (left s i)) (Err r)
      not_refused r g = denied ∙ ap (λ y. then y negated) g

  module _ (e : get_or s o 0 ≡ 40) where
    stands_open : Behind s i 40 (Some (o + 1))
    stands_open = sign_first 40 (λ r. refl) (λ z. absurd (omega arith)) s i o h e

    no_denial : (negates a && next (is_sign "!") (left s i)) ≡ false
    no_denial = no_not a (left s i) (absent "!" 33 refl s i (sign_absent 33 s i o h (λ q. absurd (omega arith))))

    module _ (z : d ≢ 0) where
      opened : unary d a (left s i) ≡ then (disjunctions (unary (d - 1) a) (left s (o + 1))) closed
      opened = opened_is s i (o + 1) a no_denial d stands_open z

      pub open_read : (x : FormulaRead) (r : Result FormulaRead Refusal) → Answers s (o + 1) (disjunctions (unary (d - 1) a) (left s (o + 1))) (Ok x) → Closes s x r → Answers s i (unary d a (left s i)) r
      open_read x r g k = answers_from s i (o + 1) (omega (arith, h.from)) opened r (k (o + 1) _ g)

      pub open_refused : (r : Refusal) → Answers s (o + 1) (disjunctions (unary (d - 1) a) (left s (o + 1))) (Err r) → Answers s i (unary d a (left s i)) (Err r)
      open_refused r g = opened ∙ ap (λ y. then y closed) g

  -- nothing that binds
  pub is_atom : (negates a && next (is_sign "!") (left s i)) ≡ false → get_or s o 0 ≢ 40 → unary d a (left s i) ≡ atom a (left s o)
  is_atom n m = atom_first s i i a n d (sign_absent 40 s i o h m) ∙ ap (atom a) h.is

  module _ (n : get_or s o 0 ≢ 33) (m : get_or s o 0 ≢ 40) where
    pub unary_atom : unary d a (left s i) ≡ atom a (left s o)
    unary_atom = is_atom (no_not a (left s i) (absent "!" 33 refl s i (sign_absent 33 s i o h n))) m

    pub atom_read : (r : Result FormulaRead Refusal) → Answers s o (atom a (left s o)) r → Answers s i (unary d a (left s i)) r
    atom_read r x = answers_from s i o h.from unary_atom r x
