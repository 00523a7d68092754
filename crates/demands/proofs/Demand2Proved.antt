-- The proof of `Demand2`.
use Rattle.std.specs.Prelude.{◌≡◌, refl, ◌⊎◌, ◌↔◌, Result, Ok, List, ℕ, length, take, drop}
use Rattle.std.proofs.Common.{ap, ◌∙◌, inl, inr, take_at}
use Rattle.meaning.specs.Agreement.{Agree, AgreeEverywhere, Comparable}
use Rattle.meaning.proofs.AllWords.{agree_everywhere}
use Rattle.meaning.specs.FirstWord.{FirstWord}
use Rattle.meaning.proofs.FirstWordLaws.{first_word_once, first_word_flip}
use Rattle.meaning.proofs.FirstWordExists.{agree_or_first}
use Rattle.automaton.specs.declared.Automaton.{Automaton}
use Rattle.refusals.specs.declared.Refusal.{Refusal}
use Rattle.automaton.specs.Value.{Valid}
use Rattle.automaton.specs.View.{view}
use Rattle.automaton.specs.ViewLaws.{view_comparable}
use Rattle.compare.specs.Compared.{Compared, returned as comparison-said}
use Rattle.compare.specs.Bounds.{word_bounds}
use Rattle.hoa_text.specs.Reading.{read}
use Rattle.hoa_text.proofs.ReadBack.{read_back}
use Rattle.hoa_text.specs.Written.{text}
use Rattle.hoa_read.specs.Told.{told}
use Rattle.demands.proofs.ComparisonJudged.{comparison_judged}
use Rattle.demands.proofs.ComparisonOnce.{comparison_once}
use Rattle.demands.proofs.DecoderOnce.{decoding_once}
use Rattle.demands.proofs.SearchOnce.{finding_once}
use Rattle.demands.specs.Demand2.{Admitted, Compares, TheWord, Demand2}

module _ {a b : Automaton} {prefix prefix-after loop loop-after : List ℕ} {answer : Result (Unit {0}) Refusal} (c : Compared a b prefix prefix-after loop loop-after answer) where
  said_same : answer ≡ Ok tt → Admitted a b prefix loop × Agree (view a) (view b)
  said_same e =
      let (h, (g, (v, (p, (s, t))))) = (comparison_judged c).judged.accepted.0 (ap comparison-said e) in
      (record { prefix_room_fits = h; loop_room_fits = g; first = v.0; second = v.1; letters = p }, s)

  says_same : Admitted a b prefix loop → Agree (view a) (view b) → answer ≡ Ok tt
  says_same t s = (c.same t.prefix_room_fits t.loop_room_fits t.first t.second t.letters s).0

  all_words : Admitted a b prefix loop → Agree (view a) (view b) ↔ AgreeEverywhere (view a) (view b)
  all_words t = agree_everywhere (view_comparable t.first t.second t.letters)

  comparison : Compares a b prefix prefix-after loop loop-after answer
  comparison = record {
    same = (said_same, λ (t, s). says_same t s);
    everywhere = (λ e. (let (t, s) = said_same e in (t, (all_words t).0 s)), λ (t, s). says_same t ((all_words t).1 s));
    differ = λ t n. c.differ t.prefix_room_fits t.loop_room_fits t.first t.second t.letters (λ s. n (says_same t s));
  }

word_of : {a b : Automaton} → Valid a → Valid b → a.propositions ≡ b.propositions → ¬ Agree (view a) (view b) → TheWord a b
word_of {a} {b} v w e n = go (agree_or_first C)
  where
    C : Comparable (view a) (view b)
    C = view_comparable v w e

    go : Agree (view a) (view b) ⊎ ((x : List ℕ) × (y : List ℕ) × FirstWord (view a) (view b) x y) → TheWord a b
    go (inl s) = absurd (n s)
    go (inr (x, y, F)) =
        let (hx, hy) = word_bounds v w e F in
        record { x = x; y = y; first = F; only = λ p q G. first_word_once G F; either_order = first_word_flip C.same_letters F; prefix_lt = hx; loop_le = hy }

pub demand_2 : Demand2
demand_2 = record {
  compares = λ a b prefix prefix-after loop loop-after answer c. comparison c;
  the_word = λ a b v w e n. word_of v w e n;
  compares_once = λ a b prefix p q loop l m x y c d. comparison_once c d;
  decodes_once = λ prefix p q loop l m x y a τ r c d. decoding_once c d;
  finds_once = λ s table prefix p q loop l m x y c d. finding_once c d;
  reads_back = λ a out after answer w v h.
      let (e, i, _) = w.written h v in
      (length (text a), e, λ r q. q ∙ ap told (ap (λ s. read (take (length (text a)) s)) i ∙ ap read (take_at (text a) (drop (length (text a)) out) (length (text a)) refl) ∙ read_back a v));
}
