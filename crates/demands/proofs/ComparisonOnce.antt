-- The comparison has one outcome: two that its promise allows are the same.
use Rattle.std.specs.Prelude.{◌≡◌, Result, Err, List, ◌++◌, ℕ, ◌≤◌, length, drop}
use Rattle.std.proofs.Common.{sym, ap, ap₂, ◌∙◌, arith}
use Rattle.std.proofs.Math.Decide.{ℕ_discrete, dec_le}
use Rattle.meaning.specs.Agreement.{Agree}
use Rattle.meaning.proofs.FirstWordLaws.{first_word_once}
use Rattle.automaton.specs.declared.Automaton.{Automaton}
use Rattle.refusals.specs.declared.Refusal.{Refusal}
use Rattle.refusals.specs.declared.Refusal.TheVariants.{Differ}
use Rattle.automaton.specs.Value.{Valid}
use Rattle.automaton.specs.View.{view}
use Rattle.compare.specs.Compared.{Compared, Shown, prefix_room, loop_room}
use Rattle.demands.proofs.Decisions.{valid_decided, agree_decided}

-- ---- two outcomes of a call: an answer, and the two buffers

abbrev pub Alike : {R : Type 0} → (x y : R) (p q l m : List ℕ) → Type 0
Alike x y p q l m = (x ≡ y) × (p ≡ q) × (l ≡ m)

-- the same answer, and both buffers as they were; with whatever else is said
pub alike : {R X Y : Type 0} {x y z : R} {prefix p q loop l m : List ℕ} → (x ≡ z) × (p ≡ prefix) × (l ≡ loop) × X → (y ≡ z) × (q ≡ prefix) × (m ≡ loop) × Y → Alike x y p q l m
alike (e, ep, el, _) (f, fp, fl, _) = (e ∙ sym f, ep ∙ sym fp, el ∙ sym fl)

-- the word of 12, and an answer that tells its lengths
module _ {a b : Automaton} {prefix p q loop l m : List ℕ} {c d : Result (Unit {0}) Refusal} (S : Shown a b prefix p loop l c) (T : Shown a b prefix q loop m d) where
  one_word : (S.x ≡ T.x) × (S.y ≡ T.y)
  one_word = first_word_once S.word T.word

  pub alike_word : {R : Type 0} {x y : R} (tells : ℕ → ℕ → R) → x ≡ tells (length S.x) (length S.y) → y ≡ tells (length T.x) (length T.y) → Alike x y p q l m
  alike_word tells e f = (
    e ∙ ap₂ (λ u v. tells (length u) (length v)) one_word.0 one_word.1 ∙ sym f,
    S.prefix_is ∙ ap (λ w. w ++ drop (length w) prefix) one_word.0 ∙ sym T.prefix_is,
    S.loop_is ∙ ap (λ w. w ++ drop (length w) loop) one_word.1 ∙ sym T.loop_is,
  )

-- ---- the comparison

module _ {a b : Automaton} {prefix p q loop l m : List ℕ} {x y : Result (Unit {0}) Refusal} (c : Compared a b prefix p loop l x) (d : Compared a b prefix q loop m y) where
  shown : Shown a b prefix p loop l x → Shown a b prefix q loop m y → Alike x y p q l m
  shown S T = alike_word S T (λ u v. Err (Differ u v)) S.says T.says

  module _ (h : prefix_room ≤ length prefix) (g : loop_room ≤ length loop) where
    by_agreement : (v : Valid a) (w : Valid b) (e : a.propositions ≡ b.propositions) → Dec (Agree (view a) (view b)) → Alike x y p q l m
    by_agreement v w e (yes s) = alike (c.same h g v w e s) (d.same h g v w e s)
    by_agreement v w e (no n) = shown (c.differ h g v w e n) (d.differ h g v w e n)

    by_letters : (v : Valid a) (w : Valid b) → Dec (a.propositions ≡ b.propositions) → Alike x y p q l m
    by_letters v w (yes e) = by_agreement v w e (agree_decided a b v w e)
    by_letters v w (no n) = alike (c.letters h g v w n) (d.letters h g v w n)

    by_values : Dec (Valid a) → Dec (Valid b) → Alike x y p q l m
    by_values (yes v) (yes w) = by_letters v w (ℕ_discrete a.propositions b.propositions)
    by_values (yes v) (no n) = alike (c.outside h g (λ t. n t.1)) (d.outside h g (λ t. n t.1))
    by_values (no n) w = alike (c.outside h g (λ t. n t.0)) (d.outside h g (λ t. n t.0))

  by_room : Dec (prefix_room ≤ length prefix) → Dec (loop_room ≤ length loop) → Alike x y p q l m
  by_room (no h) g = alike (c.short_prefix (omega arith)) (d.short_prefix (omega arith))
  by_room (yes h) (no g) = alike (c.short_loop h (omega arith)) (d.short_loop h (omega arith))
  by_room (yes h) (yes g) = by_values h g (valid_decided a) (valid_decided b)

  pub comparison_once : Alike x y p q l m
  comparison_once = by_room (dec_le prefix_room (length prefix)) (dec_le loop_room (length loop))
