-- Laws of the names: their bytes, and the first n bytes of a slot of 16.
use Rattle.std.specs.Prelude.{◌≡◌, true, not, ◌&&◌, List, ℕ, ◌*◌, ◌+◌, ◌≤◌, ◌<◌, leb, eqb, length, get_or, take, drop}
use Rattle.std.proofs.Common.{ap, ◌∙◌, arith, le-leb, leb-true, ne_eqb, length-take, length-drop, get_or-take, get_or-drop}
use Rattle.std.proofs.lemmas.Bool.{eqb-false, not-true}
use Rattle.meaning.specs.TestLaws.{and_true, and_left, and_right}
use Rattle.automaton.specs.Value.{printable, NameByte}

pub printable_means : (b : ℕ) → printable b ≡ true → NameByte b
printable_means b h =
    let t₁ : (leb b 126 && (not (eqb b 34) && not (eqb b 92))) ≡ true = and_right (leb 32 b) _ h in
    let t₂ : (not (eqb b 34) && not (eqb b 92)) ≡ true = and_right (leb b 126) _ t₁ in
    record {
      from_32 = leb-true _ _ (and_left (leb 32 b) (leb b 126 && (not (eqb b 34) && not (eqb b 92))) h);
      to_126 = leb-true _ _ (and_left (leb b 126) (not (eqb b 34) && not (eqb b 92)) t₁);
      no_quote = eqb-false _ _ (not-true _ (and_left (not (eqb b 34)) (not (eqb b 92)) t₂));
      no_backslash = eqb-false _ _ (not-true _ (and_right (not (eqb b 34)) (not (eqb b 92)) t₂));
    }

pub means_printable : (b : ℕ) → NameByte b → printable b ≡ true
means_printable b n = and_true (le-leb _ _ n.from_32) (and_true (le-leb _ _ n.to_126) (and_true (ap not (ne_eqb _ _ n.no_quote)) (ap not (ne_eqb _ _ n.no_backslash))))

abbrev pub slot : List ℕ → ℕ → ℕ → List ℕ
slot names i n = take n (drop (i * 16) names)

pub slot_length : (names : List ℕ) → length names ≡ 64 → (i n : ℕ) → i < 4 → n ≤ 16 → length (slot names i n) ≡ n
slot_length names size i n hi hn = simp (length-take, length-drop) (omega arith)

pub slot_byte : (names : List ℕ) (i n b : ℕ) → b < n → get_or (slot names i n) b 0 ≡ get_or names (i * 16 + b) 0
slot_byte names i n b h = get_or-take n (drop (i * 16) names) b 0 h ∙ get_or-drop (i * 16) names b 0
