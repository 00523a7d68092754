-- Laws of the names: what the reader asks of them, and that those of a valid value meet it.
use Rattle.std.specs.Prelude.{◌≡◌, refl, ◌≢◌, Bool, true, false, ◌||◌, List, [], ◌∷◌, ◌++◌, ℕ, zero, suc, ◌≤◌, ◌<◌, eqb, length, get_or}
use Rattle.std.proofs.Common.{sym, ap, ◌∙◌, subst, true≢false, not-suc-le-zero, arith, eq-eqb, eqb-true, length-append}
use Rattle.std.proofs.Math.Decide.{dec_lt}
use Rattle.std.proofs.Math.ListN.{get_or-append}
use Rattle.std.proofs.lemmas.List.{get_or_at}
use Rattle.meaning.specs.TestLaws.{and_true, and_left, and_right, or_false}
use Rattle.automaton.specs.declared.Automaton.{Automaton}
use Rattle.automaton.specs.Names.{slot_length, slot_byte, means_printable}
use Rattle.automaton.specs.Value.{printable, Valid, name, name_length, name_byte}
use Rattle.hoa_text.specs.Basics.{same}
use Rattle.hoa_text.specs.Header.{all_bytes, among}

-- ---- bytes

pub all_at : (p : ℕ → Bool) (w : List ℕ) → all_bytes p w ≡ true → (j : ℕ) → j < length w → p (get_or w j 0) ≡ true
all_at p [] h j g = absurd (not-suc-le-zero g)
all_at p (b ∷ w) h zero g = and_left (p b) (all_bytes p w) h
all_at p (b ∷ w) h (suc j) g = all_at p w (and_right (p b) (all_bytes p w) h) j (omega arith)

all_of : (p : ℕ → Bool) (w : List ℕ) → ((j : ℕ) → j < length w → p (get_or w j 0) ≡ true) → all_bytes p w ≡ true
all_of p [] h = refl
all_of p (b ∷ w) h = and_true (h 0 (omega arith)) (all_of p w (λ j g. h (suc j) (omega arith)))

-- ---- alike

same_itself : (w : List ℕ) → same w w ≡ true
same_itself [] = refl
same_itself (b ∷ w) = and_true (eq-eqb b b refl) (same_itself w)

same_equal : (v w : List ℕ) → same v w ≡ true → v ≡ w
same_equal [] [] h = refl
same_equal [] (b ∷ w) h = absurd (true≢false (sym h))
same_equal (a ∷ v) [] h = absurd (true≢false (sym h))
same_equal (a ∷ v) (b ∷ w) h = cc (eqb-true a b (and_left (eqb a b) (same v w) h), same_equal v w (and_right (eqb a b) (same v w) h))

among_not : (w : List ℕ) (ws : List (List ℕ)) → among w ws ≡ false → (i : ℕ) → i < length ws → get_or ws i [] ≢ w
among_not w [] h i g e = absurd (not-suc-le-zero g)
among_not w (v ∷ ws) h zero g e = true≢false (sym (same_itself w) ∙ ap (same w) (sym e) ∙ (or_false (same w v) (among w ws) h).0)
among_not w (v ∷ ws) h (suc i) g e = among_not w ws (or_false (same w v) (among w ws) h).1 i (omega arith) e

pub not_among : (w : List ℕ) (ws : List (List ℕ)) → ((i : ℕ) → i < length ws → get_or ws i [] ≢ w) → among w ws ≡ false
not_among w [] h = refl
not_among w (v ∷ ws) h = go (same w v) refl (not_among w ws (λ i g. h (suc i) (omega arith)))
  where
    go : (b : Bool) → same w v ≡ b → among w ws ≡ false → (b || among w ws) ≡ false
    go true e ih = absurd (h 0 (omega arith) (sym (same_equal w v e)))
    go false e ih = ih

-- ---- names that the reader takes

pub record Names (ws : List (List ℕ)) : Type 0 where
  pub some_bytes : (i : ℕ) → i < length ws → 1 ≤ length (get_or ws i [])
  pub most_bytes : (i : ℕ) → i < length ws → length (get_or ws i []) ≤ 16
  pub name_bytes : (i : ℕ) → i < length ws → all_bytes printable (get_or ws i []) ≡ true
  pub none_alike : (i j : ℕ) → i < j → j < length ws → get_or ws i [] ≢ get_or ws j []

pub no_names : Names []
no_names = record {
  some_bytes = λ i h. absurd (not-suc-le-zero h);
  most_bytes = λ i h. absurd (not-suc-le-zero h);
  name_bytes = λ i h. absurd (not-suc-le-zero h);
  none_alike = λ i j h g. absurd (not-suc-le-zero g);
}

-- one more name, last
module _ (ws : List (List ℕ)) (w : List ℕ) where
  before_last : (i : ℕ) → i < length ws → get_or (ws ++ (w ∷ [])) i [] ≡ get_or ws i []
  before_last i h = get_or-append ws (w ∷ []) [] i h

  pub last_name : (i : ℕ) → i ≡ length ws → get_or (ws ++ (w ∷ [])) i [] ≡ w
  last_name i e = get_or_at ws w [] [] i (sym e)

  -- what holds of the names and of one more holds of all
  both_hold : (P : List ℕ → Type 0) → ((i : ℕ) → i < length ws → P (get_or ws i [])) → P w → (i : ℕ) → i < length (ws ++ (w ∷ [])) → P (get_or (ws ++ (w ∷ [])) i [])
  both_hold P h g i l = go (dec_lt i (length ws))
    where
      go : Dec (i < length ws) → P (get_or (ws ++ (w ∷ [])) i [])
      go (yes e) = subst P (sym (before_last i e)) (h i e)
      go (no e) = subst P (sym (last_name i (omega (arith, length-append ws (w ∷ []))))) g

  pub more_names : Names ws → 1 ≤ length w → length w ≤ 16 → all_bytes printable w ≡ true → among w ws ≡ false → Names (ws ++ (w ∷ []))
  more_names n h₁ h₂ h₃ h₄ = record {
    some_bytes = both_hold (λ v. 1 ≤ length v) n.some_bytes h₁;
    most_bytes = both_hold (λ v. length v ≤ 16) n.most_bytes h₂;
    name_bytes = both_hold (λ v. all_bytes printable v ≡ true) n.name_bytes h₃;
    none_alike = λ i j l g. go i j l g (dec_lt j (length ws));
  }
    where
      go : (i j : ℕ) → i < j → j < length (ws ++ (w ∷ [])) → Dec (j < length ws) → get_or (ws ++ (w ∷ [])) i [] ≢ get_or (ws ++ (w ∷ [])) j []
      go i j l g (yes e) q = n.none_alike i j l e (sym (before_last i (omega arith)) ∙ q ∙ before_last j e)
      go i j l g (no e) q =
          let k : j ≡ length ws = omega (arith, length-append ws (w ∷ [])) in
          among_not w ws h₄ i (omega arith) (sym (before_last i (omega arith)) ∙ q ∙ last_name j k)

-- ---- the names of a value

module _ (a : Automaton) (v : Valid a) (i : ℕ) (h : i < a.propositions) where
  pub name_length_lem : length (name a i) ≡ name_length a i
  name_length_lem = slot_length a.names v.names_size i (name_length a i) (omega (arith, v.propositions_le)) (v.name_le i h)

  pub name_printable : all_bytes printable (name a i) ≡ true
  name_printable = all_of printable (name a i) λ j g.
      let l : j < name_length a i = omega (arith, name_length_lem) in
      ap printable (slot_byte a.names i (name_length a i) j l) ∙ means_printable (name_byte a i j) (v.name_bytes i j h l)
