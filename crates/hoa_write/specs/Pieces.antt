-- The pieces of a line as they are written one after another, and that together they are the text's.
use Rattle.std.specs.Prelude.{◌≡◌, refl, Bool, true, false, not, cond, List, [], ◌∷◌, ◌++◌, ℕ, zero, suc, ◌+◌, ◌-◌, ◌*◌, ◌/◌, ◌%◌, ◌^◌, ◌<◌, ltb, length}
use Rattle.std.proofs.Common.{sym, ap, ap₂, ◌∙◌, append-nil, zero-mul, mod-lt, zero-lt-suc, arith, lt-ltb, length-append, pow_pos}
use Prim.Native.String.{String}
use Rattle.std.proofs.Math.Nat.{mod-one}
use Rattle.meaning.specs.BitSet.{has, digit}
use Rattle.meaning.specs.BitSetLaws.{low}
use Rattle.meaning.proofs.FullSets.{has_below}
use Rattle.meaning.specs.Counting.{each}
use Rattle.meaning.specs.CountingLaws.{each_length}
use Rattle.automaton.specs.Bytes.{bytes}
use Rattle.hoa_text.specs.Written.{decimal, separated, inf_of, condition_of, literal_of, label_of, members, fin_of, set_text, marks_text, accepted}
use Rattle.hoa_text.proofs.WrittenFormulas.{separated_more}

abbrev pub byte_if : Bool → ℕ → List ℕ
byte_if test b = cond test (b ∷ []) []

-- a literal of the letter l, after `&` but for the first
abbrev pub literal_piece : ℕ → ℕ → List ℕ
literal_piece l i = byte_if (ltb 0 i) 38 ++ (byte_if (not (has l i)) 33 ++ decimal i)

-- a set of the set of marks x, after `&` but for the first
abbrev pub factor_piece : ℕ → ℕ → List ℕ
factor_piece x i = byte_if (ltb 0 i) 38 ++ set_text x i

-- the text f i where i is in the set m, after the text w but for the first
abbrev pub member_piece : String → ℕ → (ℕ → List ℕ) → ℕ → List ℕ
member_piece w m f i = cond (has m i) (cond (ltb 0 (m % 2 ^ i)) (bytes w) [] ++ f i) []

-- the set i where it is among the marks m, after a space but for the first
abbrev pub mark_piece : ℕ → ℕ → List ℕ
mark_piece m i = member_piece " " m decimal i

-- the set of marks x, of m sets, where the acceptance a has it, after `|` but for the first
abbrev pub summand_piece : ℕ → ℕ → ℕ → List ℕ
summand_piece m a x = member_piece "|" a (marks_text m) x

-- ---- labels and products

each_same : {A : Type 0} (n : ℕ) (f g : ℕ → List A) → ((i : ℕ) → i < n → f i ≡ g i) → each n f ≡ each n g
each_same zero f g h = refl
each_same (suc n) f g h = ap₂ (λ u v. u ++ v) (each_same n f g (λ i l. h i (omega arith))) (h n (omega arith))

joined : (n : ℕ) (f : ℕ → List ℕ) → separated "&" (each n (λ i. f i ∷ [])) ≡ each n (λ i. byte_if (ltb 0 i) 38 ++ f i)
joined zero f = refl
joined (suc zero) f = append-nil (f 0)
joined (suc (suc n)) f =
    separated_more "&" (each (suc n) (λ i. f i ∷ [])) (f (suc n)) (omega (arith, each_length (suc n) f))
    ∙ ap₂ (λ u t. u ++ (byte_if t 38 ++ f (suc n))) (joined (suc n) f) (sym (lt-ltb 0 (suc n) (zero-lt-suc n)))

literal_pieces : (l i : ℕ) → literal_of l i ≡ byte_if (not (has l i)) 33 ++ decimal i
literal_pieces l i = go (has l i)
  where
    go : (b : Bool) → cond b (decimal i) (33 ∷ decimal i) ≡ byte_if (not b) 33 ++ decimal i
    go true = refl
    go false = refl

pub label_pieces : (k l : ℕ) → label_of (suc k) l ≡ each (suc k) (literal_piece l)
label_pieces k l =
    joined (suc k) (literal_of l) ∙ each_same (suc k) (λ i. byte_if (ltb 0 i) 38 ++ literal_of l i) (literal_piece l) (λ i h. ap (λ u. byte_if (ltb 0 i) 38 ++ u) (literal_pieces l i))

pub product_pieces : (m x : ℕ) → marks_text m x ≡ each m (factor_piece x)
product_pieces m x = joined m (set_text x)

-- Inf of all sets is the product of all of them
pub all_product : (m : ℕ) → condition_of (suc m) ≡ marks_text (suc m) (2 ^ suc m - 1)
all_product m =
    let x = 2 ^ suc m - 1 in
    ap (separated "&") (each_same (suc m) (λ i. inf_of i ∷ []) (λ i. set_text x i ∷ []) (λ i h. ap (λ b. cond b (inf_of i) (fin_of i) ∷ []) (sym (has_below (suc m) i h))))

-- ---- the members of a set

module _ (w : String) (m : ℕ) (f : ℕ → List ℕ) where
  abbrev listed : ℕ → List (List ℕ)
  listed n = each n (λ i. cond (has m i) (f i ∷ []) [])

  -- there are members below n where m has a digit there
  data Begun (n : ℕ) : Type 0 where
    none : listed n ≡ [] → m % 2 ^ n ≡ 0 → Begun n
    some : 0 < length (listed n) → 0 < m % 2 ^ n → Begun n

  begun_more : (n d : ℕ) → m / 2 ^ n % 2 ≡ d → d < 2 → Begun n → Begun (suc n)
  begun_more n zero e h (none p z) =
      none (ap₂ (λ us d. us ++ cond (digit d) (f n ∷ []) []) p e) (low m n ∙ ap (λ a. a * 2 ^ n + m % 2 ^ n) e ∙ omega (arith, zero-mul (2 ^ n)))
  begun_more n zero e h (some p z) =
      some (omega (arith, length-append (listed n) (cond (has m n) (f n ∷ []) []))) (omega (arith, low m n ∙ ap (λ a. a * 2 ^ n + m % 2 ^ n) e, zero-mul (2 ^ n)))
  begun_more n (suc zero) e h b =
      some
      (omega (arith, length-append (listed n) (cond (has m n) (f n ∷ []) []), ap (λ d. length (cond (digit d) (f n ∷ []) [])) e))
      (omega (arith, low m n ∙ ap (λ a. a * 2 ^ n + m % 2 ^ n) e, pow_pos n))
  begun_more n (suc (suc d)) e h b = absurd (omega arith)

  begun : (n : ℕ) → Begun n
  begun zero = none refl (mod-one m)
  begun (suc n) = begun_more n (m / 2 ^ n % 2) refl (mod-lt (m / 2 ^ n) (zero-lt-suc 1)) (begun n)

  one_more : (n : ℕ) → Begun n → (b : Bool)
      → separated w (listed n ++ cond b (f n ∷ []) []) ≡ separated w (listed n) ++ cond b (cond (ltb 0 (m % 2 ^ n)) (bytes w) [] ++ f n) []
  one_more n g false = ap (separated w) (append-nil (listed n)) ∙ sym (append-nil (separated w (listed n)))
  one_more n (none p z) true =
      ap (λ us. separated w (us ++ (f n ∷ []))) p ∙ append-nil (f n)
      ∙ ap₂ (λ us d. separated w us ++ (cond (ltb 0 d) (bytes w) [] ++ f n)) (sym p) (sym z)
  one_more n (some p z) true =
      separated_more w (listed n) (f n) p ∙ ap (λ t. separated w (listed n) ++ (cond t (bytes w) [] ++ f n)) (sym (lt-ltb 0 (m % 2 ^ n) z))

  member_pieces : (n : ℕ) → separated w (listed n) ≡ each n (member_piece w m f)
  member_pieces zero = refl
  member_pieces (suc n) = one_more n (begun n) (has m n) ∙ ap (λ u. u ++ member_piece w m f n) (member_pieces n)

pub mark_pieces : (n m : ℕ) → separated " " (members n m) ≡ each n (mark_piece m)
mark_pieces n m = member_pieces " " m decimal n

pub sum_pieces : (m a n : ℕ) → separated "|" (accepted m a n) ≡ each n (summand_piece m a)
sum_pieces m a n = member_pieces "|" a (marks_text m) n
