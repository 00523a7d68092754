-- The pieces of a line, case by case.
use mathlib.Core.Path.{◌≡◌, refl, sym, ap, ap₂, ◌∙◌, subst}
use mathlib.Core.Logic.{◌≢◌}
use mathlib.Core.Bool.{Bool, true, false, not, cond}
use mathlib.Core.List.{List, [], ◌∷◌, ◌++◌, append_assoc}
use Prim.Native.Nat.{ℕ, zero, suc, ◌+◌, ◌-◌, ◌%◌, ◌^◌, ◌≤◌, ◌<◌, min}
use Prim.Native.String.{String}
use native.Mathlib.Omega.{arith}
use borrow.Author.Tests.{eq-eqb, ne_eqb}
use lib.Dec.{ltb, eqb}
use lib.ListN.{length, length-append}
use Rattle.meaning.specs.BitSet.{has}
use Rattle.meaning.specs.Counting.{each}
use Rattle.bits.specs.Powers.{power_is}
use Rattle.acceptance.specs.Masks.{every_set, all_true}
use Rattle.acceptance.specs.Laws.{every_set_is, all_true_is}
use Rattle.automaton.specs.declared.Automaton.{Automaton}
use Rattle.automaton.specs.Value.{destination, mark_set}
use Rattle.automaton.specs.Bytes.{bytes}
use Rattle.decimal.specs.Decimal.{decimal as decimalText}
use Rattle.decimal.specs.Wrote.{Wrote, WroteIfRoom}
use Rattle.decimal.specs.Writing.{wrote_none}
use Rattle.hoa_text.specs.Written.{decimal, separated, line, inf_of, condition_of, label_of, members, marks_of, edge_line, fin_of, marks_text, condition_text}
use Rattle.hoa_write.specs.Numbers.{decimal_text}
use Rattle.hoa_write.specs.Pieces.{byte_if, literal_piece, factor_piece, member_piece, mark_piece, summand_piece, label_pieces, all_product, mark_pieces, sum_pieces}

-- ---- a byte where a test holds

module _ {test : Bool} (b at : ℕ) where
  pub byte_there : {d f : List ℕ} {r : ℕ} → test ≡ true → WroteIfRoom d at (b ∷ []) f r → at + length (byte_if test b) ≤ length d → Wrote d at (byte_if test b) f r
  byte_there {d} {f} {r} e p h = subst (λ t. Wrote d at (byte_if t b) f r) (sym e) (p.roomy (omega (arith, ap (λ t. length (byte_if t b)) e)))

  pub byte_none : {d : List ℕ} → test ≡ false → at + length (byte_if test b) ≤ length d → Wrote d at (byte_if test b) d at
  byte_none {d} e h = subst (λ t. Wrote d at (byte_if t b) d at) (sym e) (wrote_none d at (omega arith))

-- ---- numbers

pub number_wrote : (n at : ℕ) {d e : List ℕ} {r : ℕ} → n < 100 → at + length (decimal n) ≤ length d → WroteIfRoom d at (decimalText n) e r → Wrote d at (decimal n) e r
number_wrote n at {d} {e} {r} h g p =
    subst (λ u. Wrote d at u e r) (decimal_text n h) (p.roomy (subst (λ u. at + length u ≤ length d) (sym (decimal_text n h)) g))

-- ---- a literal

pub literal_is : (l i : ℕ) {h : Bool} → h ≡ has l i → byte_if (ltb 0 i) 38 ++ (byte_if (not h) 33 ++ decimal i) ≡ literal_piece l i
literal_is l i e = ap (λ h. byte_if (ltb 0 i) 38 ++ (byte_if (not h) 33 ++ decimal i)) e

-- ---- a member of a set: there, or not

module _ (w : String) (m : ℕ) (f : ℕ → List ℕ) (i : ℕ) {h : Bool} (e : h ≡ has m i) where
  pub member_is : h ≡ true → cond (ltb 0 (m % 2 ^ i)) (bytes w) [] ++ f i ≡ member_piece w m f i
  member_is t = ap (λ b. cond b (cond (ltb 0 (m % 2 ^ i)) (bytes w) [] ++ f i) []) (sym t ∙ e)

  pub no_member : (at : ℕ) {d : List ℕ} → h ≡ false → at + length (member_piece w m f i) ≤ length d → Wrote d at (member_piece w m f i) d at
  no_member at {d} t g =
      subst (λ b. Wrote d at (cond b (cond (ltb 0 (m % 2 ^ i)) (bytes w) [] ++ f i) []) d at) (sym t ∙ e) (wrote_none d at (omega arith))

-- ---- conditions

pub factor_is : (x i : ℕ) {h : Bool} → h ≡ has x i
    → byte_if (ltb 0 i) 38 ++ (cond h (bytes "Inf") (bytes "Fin") ++ (40 ∷ (decimal i ++ (41 ∷ [])))) ≡ factor_piece x i
factor_is x i {h} e = ap (λ u. byte_if (ltb 0 i) 38 ++ u) (go h ∙ ap (λ b. cond b (inf_of i) (fin_of i)) e)
  where
    go : (b : Bool) → cond b (bytes "Inf") (bytes "Fin") ++ (40 ∷ (decimal i ++ (41 ∷ []))) ≡ cond b (inf_of i) (fin_of i)
    go true = refl
    go false = refl

pub factor_length : (x i : ℕ) {h : Bool} → h ≡ has x i
    → length (byte_if (ltb 0 i) 38) + (length (cond h (bytes "Inf") (bytes "Fin")) + (length (decimal i) + 2)) ≡ length (factor_piece x i)
factor_length x i {h} e =
    let u = cond h (bytes "Inf") (bytes "Fin") in
    let v : List ℕ = 40 ∷ (decimal i ++ (41 ∷ [])) in
    omega (arith, ap length (factor_is x i e), length-append (byte_if (ltb 0 i) 38) (u ++ v), length-append u v, length-append (decimal i) (41 ∷ []))

all_some : (m : ℕ) → m ≢ 0 → marks_text m (2 ^ m - 1) ≡ condition_of m
all_some zero h = absurd (h refl)
all_some (suc m) h = sym (all_product m)

-- the set of all marks
pub all_is : {m p : ℕ} → m ≤ 4 → p ≡ 2 ^ min m 4 → m ≢ 0 → marks_text m (p - 1) ≡ condition_of m
all_is {m} h e g = ap (λ n. marks_text m (n - 1)) (power_is h e) ∙ all_some m g

-- in the order in which they are judged
module _ {m : ℕ} (h : m ≤ 4) (a : ℕ) {e : ℕ} (p : e ≡ every_set m) where
  pub condition_all : a ≡ e → condition_of m ≡ condition_text m a
  condition_all x = rw (eq-eqb a _ (x ∙ every_set_is h p))

  module _ (x : a ≢ e) {t : ℕ} (q : t ≡ all_true m) where
    other : eqb a (2 ^ (2 ^ m - 1)) ≡ false
    other = ne_eqb a _ (λ g. x (g ∙ sym (every_set_is h p)))

    pub condition_true : a ≡ t → bytes "t" ≡ condition_text m a
    condition_true y = rw (other, eq-eqb a _ (y ∙ all_true_is h q))

    module _ (y : a ≢ t) where
      not_true_of : eqb a (2 ^ (2 ^ m) - 1) ≡ false
      not_true_of = ne_eqb a _ (λ g. y (g ∙ sym (all_true_is h q)))

      pub condition_false : a ≡ 0 → bytes "f" ≡ condition_text m a
      condition_false z = rw (other, not_true_of, eq-eqb a 0 z)

      pub condition_sum : a ≢ 0 → each (2 ^ m) (summand_piece m a) ≡ condition_text m a
      condition_sum z = rw (other, not_true_of, ne_eqb a 0 z) (sym (sum_pieces m a (2 ^ m)))

-- ---- labels, marks and edges

pub label_some : (k l : ℕ) → k ≢ 0 → each k (literal_piece l) ≡ label_of k l
label_some zero l h = absurd (h refl)
label_some (suc k) l h = sym (label_pieces k l)

pub marks_some : (n m : ℕ) → m ≢ 0 → 32 ∷ 123 ∷ (each n (mark_piece m) ++ (125 ∷ [])) ≡ marks_of n m
marks_some n m h = rw (ne_eqb m 0 h) (ap (λ u. 32 ∷ 123 ∷ (u ++ (125 ∷ []))) (sym (mark_pieces n m)))

pub marks_none : (n m at : ℕ) {d : List ℕ} → m ≡ 0 → at + length (marks_of n m) ≤ length d → Wrote d at (marks_of n m) d at
marks_none n m at {d} e h =
    subst (λ b. Wrote d at (cond b [] (32 ∷ 123 ∷ (separated " " (members n m) ++ (125 ∷ [])))) d at) (sym (eq-eqb m 0 e)) (wrote_none d at (omega arith))

module _ (a : Automaton) (q l : ℕ) {n m : ℕ} (e : n ≡ destination a q l) (f : m ≡ mark_set a q l) where
  pub edge_is : (91 ∷ (label_of a.propositions l ++ (93 ∷ 32 ∷ []))) ++ (decimal n ++ (marks_of a.sets m ++ (10 ∷ []))) ≡ edge_line a q l
  edge_is = pieces (label_of a.propositions l) (decimal n) (marks_of a.sets m) ∙ ap₂ (λ n m. line (91 ∷ (label_of a.propositions l ++ (93 ∷ 32 ∷ (decimal n ++ marks_of a.sets m))))) e f
    where
      pieces : (u v w : List ℕ) → (91 ∷ (u ++ (93 ∷ 32 ∷ []))) ++ (v ++ (w ++ (10 ∷ []))) ≡ line (91 ∷ (u ++ (93 ∷ 32 ∷ (v ++ w))))
      pieces u v w = simp append_assoc

  pub edge_length : length (edge_line a q l) ≡ length (91 ∷ (label_of a.propositions l ++ (93 ∷ 32 ∷ []))) + (length (decimal n) + (length (marks_of a.sets m) + 1))
  edge_length =
      let u : List ℕ = 91 ∷ (label_of a.propositions l ++ (93 ∷ 32 ∷ [])) in
      let v = decimal n in
      let w = marks_of a.sets m in
      omega (arith, ap length edge_is, length-append u (v ++ (w ++ (10 ∷ []))), length-append v (w ++ (10 ∷ [])), length-append w (10 ∷ []))
